-- Halves have higher numbers, and no number passes the last triangle's.
use Rattle.std.proofs.Common.{◌-◌}
use Rattle.bintree.specs.Orders.{end}
use Rattle.terrain.proofs.table.surface.Surface.+settle.Given as goal

abbrev pub decreases-settle : goal.decreases-settle
decreases-settle l = end l.t.order.n - l.t.number
