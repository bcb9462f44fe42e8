use Rattle.std.proofs.Common.{sym, ◌∙◌}
use Rattle.bintree.specs.Views.{order_of, number_of}
use Rattle.mesh.specs.TriangleSet.{triangles_in}
use Rattle.mesh.proofs.Diamonds.{merge_alone, merge_both, partner_splits}
use Rattle.mesh.proofs.mesh.triangle_set.TriangleSet.merge.Goals as goal
use Rattle.mesh.proofs.mesh.triangle_set.TriangleSet.merge.Goals.{in-Some, in_default}

pub rejoin-requires : goal.rejoin-requires
rejoin-requires c = record { splittable = partner_splits c.args.t c.in-Some.partner c.requires.splittable c.in-Some.ensures.value }

pub returns : goal.returns
returns c =
    let n = order_of c.args.t in
    let i = number_of c.args.t in
    let P = triangles_in c.args.self.now in
    c.rejoin-2.ensures ∙ elim c.match-partner.branch [
      | in-Some w ↦ rw (w.self-is, w.rejoin.ensures, w.in-Some.ensures.value.1.1) (sym (merge_both n i P w.in-Some.ensures.value.0))
      | in_default w ↦ rw w.self-is (sym (merge_alone n i P w.in_default.ensures.value))
    ]
