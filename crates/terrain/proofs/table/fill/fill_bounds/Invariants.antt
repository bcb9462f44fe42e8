-- The bounds before the one in turn are written.
use Rattle.std.proofs.Common.{◌≡◌, ℕ, ◌<◌, ◌≤◌, get_or}
use Rattle.bintree.specs.Views.{order_value}
use Rattle.terrain.specs.Filling.{bounding}
use Rattle.terrain.proofs.table.fill.fill_bounds.Given as goal

abbrev pub invariant-loop-number : goal.invariant-loop-number
invariant-loop-number g l = (j : ℕ) → 2 ≤ j → j < l.number → get_or l.table j 0 ≡ bounding (order_value l.order) (g.S.Relief.bounds l.source) j
