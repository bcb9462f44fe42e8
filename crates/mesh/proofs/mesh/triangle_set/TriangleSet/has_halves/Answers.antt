use Rattle.std.proofs.Common.{arith}
use Rattle.bintree.specs.Views.{order_of}
use Rattle.bintree.proofs.Sizes.{end_bound}
use Rattle.mesh.proofs.mesh.triangle_set.TriangleSet.has_halves.Goals as goal

pub overflow_mul-low : goal.overflow_mul-low
overflow_mul-low c = let t = c.args.t in omega (arith, c.number-low.ensures, t.high, end_bound (order_of t) t.order.high)
