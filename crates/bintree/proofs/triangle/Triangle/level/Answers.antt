use Rattle.std.proofs.Common.{arith}
use Rattle.bintree.proofs.Sizes.{end_bound}
use Rattle.bintree.proofs.Laws.{level_laws}
use Rattle.bintree.proofs.Levels.{level_read}
use Rattle.bintree.proofs.triangle.Triangle.level.Goals as goal

pub overflow_sub-result : goal.overflow_sub-result
overflow_sub-result c = omega (arith, (level_read c.args.self.number (omega arith) (omega (arith, end_bound c.args.self.order.n (omega arith)))).0)

pub returns : goal.returns
returns c = record {
  value = omega (arith, level_read c.args.self.number (omega arith) (omega (arith, end_bound c.args.self.order.n (omega arith))));
  laws = level_laws c.args.self.number (omega arith);
}
