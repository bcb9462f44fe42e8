use Rattle.mesh.proofs.InSquare.{placed}
use Rattle.mesh.proofs.mesh.listing.vertices.Goals as goal

pub vertex-requires : goal.vertex-requires
vertex-requires c = (placed c.args.t _ _ c.order-order.ensures c.corners-corners.ensures.value).apex

pub vertex-requires-2 : goal.vertex-requires-2
vertex-requires-2 c = (placed c.args.t _ _ c.order-order.ensures c.corners-corners.ensures.value).left

pub vertex-requires-3 : goal.vertex-requires-3
vertex-requires-3 c = (placed c.args.t _ _ c.order-order.ensures c.corners-corners.ensures.value).right
