-- At the end all rows are written.
use Rattle.std.proofs.Common.{arith}
use Rattle.terrain.proofs.Fillings.{rows_all}
use Rattle.terrain.proofs.table.fill.fill_heights.Goals as goal

pub returns : goal.returns
returns g c = rows_all c.args.order.n (g.S.Relief.heights c.args.source.now) _ c.loop-y.y c.loop-y.rows (omega arith) (omega arith) c.loop-y.invariant
