use Rattle.std.proofs.Common.{◌*◌, length, refl, arith}
use Rattle.std.proofs.lemmas.Bool.{le-leb, lt-leb}
use Rattle.bintree.specs.Orders.{end}
use Rattle.bintree.proofs.Sizes.{end_bound}
use Rattle.mesh.specs.Sets.{count}
use Rattle.mesh.specs.IndexList.{list_call}
use Rattle.mesh.specs.Views.{order_of, triangles_of}
use Rattle.mesh.proofs.Listing.{count_bound, count_members}
use Rattle.mesh.proofs.mesh.Mesh.index_list.Goals as goal

pub overflow_mul-places : goal.overflow_mul-places
overflow_mul-places c = let m = c.args.self.now in omega (arith, c.count-count.ensures.value, count_members (order_of m) (triangles_of m), count_bound (triangles_of m) (end (order_of m)), end_bound (order_of m) m.order.high)

pub returns-then-buffer-places : goal.returns-then-buffer-places
unfolding list_call
returns-then-buffer-places c =
    let k = 3 * count (order_of c.args.self.now) (triangles_of c.args.self.now) in
    rw (c.count-count.ensures.value, lt-leb k (length c.args.buffer.now) (omega (arith, c.count-count.ensures.value)), list_call) refl

pub returns : goal.returns
unfolding list_call
returns c =
    let k = 3 * count (order_of c.args.self.now) (triangles_of c.args.self.now) in
    rw (c.count-count.ensures.value, c.write_list.ensures, le-leb k (length c.args.buffer.now) (omega (arith, c.count-count.ensures.value)), list_call) refl
