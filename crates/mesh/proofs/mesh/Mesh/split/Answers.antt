use Rattle.std.proofs.Common.{◌≡◌, ◌<◌, sym, ap, ◌∙◌, subst, arith}
use Rattle.std.proofs.lemmas.Result.{err_from_is_err_and}
use Rattle.bintree.specs.Meshes.{Triangles}
use Rattle.bintree.specs.Orders.{first_finest}
use Rattle.mesh.specs.declared.fault.SplitFault.TheVariants.{Absent}
use Rattle.mesh.specs.Calls.{state, leaves}
use Rattle.mesh.specs.Laws.{SplitLaws}
use Rattle.mesh.specs.Views.{order_of, triangles_of}
use Rattle.mesh.proofs.Guarded.{Guarded, guarded, mesh_value}
use Rattle.mesh.proofs.Theorems.{split_goes, splits_least}
use Rattle.mesh.proofs.Replies.{split_absent, split_finest}
use Rattle.mesh.proofs.mesh.Mesh.split.Goals as goal

pub returns-in_err-t-clause-gives : goal.returns-in_err-t-clause-gives
returns-in_err-t-clause-gives c =
    let m = c.args.self.now in
    let p = err_from_is_err_and c.from_residual.result c.from_residual.ensures.1 in
    let q : c.in_err-t.field-0.0 ≡ Absent c.args.i = cc (rw c.in_err-t.ensures.ok_part at c.in_err-t.ensures.value) in
    rw (p.1, p.2, q) (split_absent (order_of m) c.args.i (triangles_of m) (rw c.in_err-t.ensures.ok_part at c.triangle.ensures))

pub returns-then-i-first_finest-clause-gives : goal.returns-then-i-first_finest-clause-gives
returns-then-i-first_finest-clause-gives c =
    let m = c.args.self.now in
    let t = rw c.in_ok-t.ensures.ok_part at c.triangle.ensures in
    split_finest (order_of m) c.args.i (triangles_of m) t.0 (omega (arith, c.first_finest.ensures.value))

pub split_forced-requires-clause-whole : goal.split_forced-requires-clause-whole
split_forced-requires-clause-whole c = let t = rw c.in_ok-t.ensures.ok_part at c.triangle.ensures in rw t.1.0 (mesh_value c.args.self.now)

pub invariant_of-self : goal.invariant_of-self
invariant_of-self c =
    let m = c.args.self.now in
    let t = rw c.in_ok-t.ensures.ok_part at c.triangle.ensures in
    let u : c.args.i < first_finest (order_of m) = omega (arith, c.first_finest.ensures.value) in
    subst (Guarded (order_of m)) (sym (rw (t.1.0, t.1.1) at c.split_forced.ensures)) (guarded (order_of m) _ (splits_least (order_of m) c.args.i (triangles_of m) (mesh_value m) t.0 u).least.mesh)

pub returns : goal.returns
returns c =
    let m = c.args.self.now in
    let n = order_of m in
    let i = c.args.i in
    let P = triangles_of m in
    let t = rw c.in_ok-t.ensures.ok_part at c.triangle.ensures in
    let u : i < first_finest n = omega (arith, c.first_finest.ensures.value) in
    let is = rw (t.1.0, t.1.1) at c.split_forced.ensures in
    record {
      gives = ap (λ (Q : Triangles). leaves (state n Q)) is ∙ sym (split_goes n i P t.0 u);
      laws = λ _. subst (SplitLaws n i P) (sym is) (splits_least n i P (mesh_value m) t.0 u);
    }
