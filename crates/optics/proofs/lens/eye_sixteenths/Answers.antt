use Rattle.std.proofs.Common.{T, Some, sym, ap, ◌∙◌, subst, inl, inr, w16, SFits, rules}
use Rattle.std.proofs.lemmas.Int.{to_z-of_z}
use Rattle.optics.proofs.Floats.{eye_taken, eye_left}
use Rattle.optics.proofs.lens.eye_sixteenths.Goals as goal
use Rattle.optics.proofs.lens.eye_sixteenths.Goals.{else-x-via-then-x+else-x-2, else-x-via-else-x}

pub returns-then-x-2 : goal.returns-then-x-2
returns-then-x-2 c =
    let f : SFits w16 c.saturating_f32_to_i16.result = search rules in
    ap Some (to_z-of_z w16 _ f ∙ c.saturating_f32_to_i16.ensures) ∙ eye_taken c.args.x (subst T (sym c.well_formed.0.1) tt) c.if-x.true c.if-x-2.true

pub returns-else-x : goal.returns-else-x
returns-else-x c = elim c.else-x.branch [
  | else-x-via-then-x+else-x-2 w ↦ eye_left c.args.x (inr w.if-x-2.false)
  | else-x-via-else-x w ↦ eye_left c.args.x (inl w.if-x.false)
]
