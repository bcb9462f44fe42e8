-- Halfway down, at the triangle that the number's leading digits name.
use Rattle.std.proofs.Common.{◌≡◌, ◌/◌, ◌^◌}
use Rattle.bintree.specs.Neighbours.{neighbours, BelowTwice}
use Rattle.bintree.proofs.triangle.Triangle.neighbours.Given as goal

abbrev pub invariant-loop-below : goal.invariant-loop-below
invariant-loop-below l = (l.near ≡ neighbours (l.self.number / 2 ^ l.below)) × BelowTwice (l.self.number / 2 ^ l.below) l.near
