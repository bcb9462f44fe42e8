use Rattle.std.proofs.Common.{sym, ap, ◌∙◌, subst}
use Rattle.std.proofs.lemmas.Result.{err_from_is_err_and}
use Rattle.bintree.specs.Meshes.{Triangles}
use Rattle.bintree.specs.Views.{order_value}
use Rattle.mesh.specs.Sets.{roots}
use Rattle.mesh.specs.Calls.{state, leaves}
use Rattle.mesh.specs.Views.{state_of}
use Rattle.mesh.proofs.Guarded.{Guarded, guarded}
use Rattle.mesh.proofs.Runs.{roots_whole}
use Rattle.mesh.proofs.Replies.{reset_refused, reset_goes}
use Rattle.mesh.proofs.mesh.Mesh.reset.Goals as goal

pub returns-in_err-self : goal.returns-in_err-self
returns-in_err-self c =
    let p = err_from_is_err_and c.from_residual.result c.from_residual.ensures.1 in
    rw (p.1, p.2) (reset_refused (state_of c.args.self.now) c.args.order _ c.in_err-self.ensures)

pub invariant_of-self : goal.invariant_of-self
invariant_of-self c = let n = order_value c.in_ok-self.field-0 in subst (Guarded n) (sym c.reset.ensures) (guarded n roots (roots_whole n))

pub returns : goal.returns
returns c =
    let n = order_value c.in_ok-self.field-0 in
    ap (λ (Q : Triangles). leaves (state n Q)) c.reset.ensures ∙ reset_goes (state_of c.args.self.now) c.args.order n c.in_ok-self.ensures
