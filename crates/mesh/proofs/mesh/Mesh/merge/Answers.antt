use Rattle.std.proofs.Common.{◌≡◌, sym, ap, ◌∙◌, subst, arith}
use Rattle.std.proofs.lemmas.Result.{err_from_is_err_and}
use Rattle.bintree.specs.Meshes.{Triangles}
use Rattle.bintree.specs.Orders.{first_finest}
use Rattle.mesh.specs.Calls.{state, leaves}
use Rattle.mesh.specs.Laws.{MergeLaws}
use Rattle.mesh.specs.Views.{order_of, triangles_of}
use Rattle.mesh.proofs.Guarded.{Guarded, guarded, mesh_value}
use Rattle.mesh.proofs.Theorems.{merge_goes, merges_undo, merges_splittable}
use Rattle.mesh.proofs.Replies.{merge_refused}
use Rattle.mesh.proofs.mesh.Mesh.merge.Goals as goal

pub returns-in_err-t-clause-gives : goal.returns-in_err-t-clause-gives
returns-in_err-t-clause-gives c =
    let m = c.args.self.now in
    let p = err_from_is_err_and c.from_residual.result c.from_residual.ensures.1 in
    let q : c.in_err-t.field-0.0 ≡ record { triangle = c.args.i } = cc (rw c.in_err-t.ensures.ok_part at c.in_err-t.ensures.value) in
    rw (p.1, p.2, q) (merge_refused (order_of m) c.args.i (triangles_of m) (rw c.in_err-t.ensures.ok_part at c.mergeable.ensures))

pub merge-requires : goal.merge-requires
merge-requires c =
    let m = c.args.self.now in
    let t = rw c.in_ok-t.ensures.ok_part at c.mergeable.ensures in
    record { splittable = omega (arith, merges_splittable (order_of m) c.args.i (triangles_of m) (mesh_value m) t.0, t.1.1, ap first_finest t.1.0) }

pub invariant_of-self : goal.invariant_of-self
invariant_of-self c =
    let m = c.args.self.now in
    let t = rw c.in_ok-t.ensures.ok_part at c.mergeable.ensures in
    subst (Guarded (order_of m)) (sym (rw (t.1.0, t.1.1) at c.merge.ensures)) (guarded (order_of m) _ (merges_undo (order_of m) c.args.i (triangles_of m) (mesh_value m) t.0).mesh)

pub returns : goal.returns
returns c =
    let m = c.args.self.now in
    let n = order_of m in
    let i = c.args.i in
    let P = triangles_of m in
    let t = rw c.in_ok-t.ensures.ok_part at c.mergeable.ensures in
    let is = rw (t.1.0, t.1.1) at c.merge.ensures in
    record {
      gives = ap (λ (Q : Triangles). leaves (state n Q)) is ∙ sym (merge_goes n i P t.0);
      laws = λ _. subst (MergeLaws n i P) (sym is) (merges_undo n i P (mesh_value m) t.0);
    }
