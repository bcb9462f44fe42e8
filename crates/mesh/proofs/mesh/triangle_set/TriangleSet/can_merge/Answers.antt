use Rattle.std.proofs.Common.{◌≡◌, MatchOption, IsTrue, sym, ◌∙◌, rules}
use Rattle.bintree.specs.Views.{order_of, number_of}
use Rattle.mesh.specs.Sets.{halves_in}
use Rattle.mesh.specs.TriangleSet.{triangles_in}
use Rattle.mesh.proofs.Diamonds.{not_whole, mergeable_by}
use Rattle.mesh.proofs.mesh.triangle_set.TriangleSet.can_merge.Goals as goal

pub returns-then-has_halves : goal.returns-then-has_halves
returns-then-has_halves c =
    let P = triangles_in c.args.self.now in
    let h : MatchOption c.partner.result (IsTrue c.is_none_or.result) (λ p. c.is_none_or.result ≡ halves_in P (number_of p)) = search rules in
    mergeable_by c.args.t P c.partner.result _ (sym c.if-has_halves.ensures) c.partner.ensures.value h

pub returns-else-has_halves : goal.returns-else-has_halves
returns-else-has_halves c =
    let t = c.args.t in
    c.if-has_halves.false ∙ sym (not_whole (order_of t) (number_of t) (triangles_in c.args.self.now) t.low t.high (sym c.if-has_halves.ensures))
