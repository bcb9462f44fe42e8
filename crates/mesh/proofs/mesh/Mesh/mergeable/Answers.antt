use Rattle.std.proofs.Common.{◌≡◌, None, MatchOption, rules}
use Rattle.std.specs.Bool.{then_some}
use Rattle.bintree.specs.Views.{order_of as triangle_order, number_of}
use Rattle.mesh.specs.Sets.{mergeable}
use Rattle.mesh.specs.Views.{order_of, triangles_of}
use Rattle.mesh.proofs.Replies.{diamond_found}
use Rattle.mesh.proofs.mesh.Mesh.mergeable.Goals as goal

pub returns : goal.returns
returns c =
    let P = triangles_of c.args.self.now in
    let h : MatchOption c.triangle.result (c.filter.result ≡ None) (λ t. c.filter.result ≡ then_some (mergeable (triangle_order t) (number_of t) P) t) = search rules in
    diamond_found (order_of c.args.self.now) c.args.i P c.triangle.result c.filter.result c.triangle.ensures h
