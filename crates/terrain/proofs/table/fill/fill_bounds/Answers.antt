-- At the end all bounds are written.
use Rattle.std.proofs.Common.{arith}
use Rattle.terrain.proofs.Fillings.{bounds_all}
use Rattle.terrain.proofs.table.fill.fill_bounds.Goals as goal

pub returns : goal.returns
returns g c = bounds_all c.args.order.n _ c.loop-number.table (λ j p q. c.loop-number.invariant j p (omega arith))
