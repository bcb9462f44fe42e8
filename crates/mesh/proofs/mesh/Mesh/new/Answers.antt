use Rattle.std.proofs.Common.{sym, subst}
use Rattle.bintree.specs.Views.{order_value}
use Rattle.mesh.specs.Sets.{roots}
use Rattle.mesh.proofs.Guarded.{Guarded, guarded}
use Rattle.mesh.proofs.Runs.{roots_whole}
use Rattle.mesh.proofs.mesh.Mesh.new.Goals as goal

pub invariant_of-result : goal.invariant_of-result
invariant_of-result c = let n = order_value c.unwrap-order.result in subst (Guarded n) (sym c.in_ok-present.ensures) (guarded n roots (roots_whole n))
