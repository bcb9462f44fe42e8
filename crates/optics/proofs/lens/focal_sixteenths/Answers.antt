use Rattle.std.proofs.Common.{T, Some, sym, ap, ◌∙◌, subst, inl, inr}
use Rattle.optics.proofs.Floats.{focal_taken, focal_left}
use Rattle.optics.proofs.lens.focal_sixteenths.Goals as goal
use Rattle.optics.proofs.lens.focal_sixteenths.Goals.{else-x-via-then-x+else-x-2, else-x-via-else-x}

pub returns-then-x-2 : goal.returns-then-x-2
returns-then-x-2 c =
    ap Some c.saturating_f32_to_u16.ensures ∙ focal_taken c.args.x (subst T (sym c.well_formed.0.1) tt) c.if-x.true c.if-x-2.true

pub returns-else-x : goal.returns-else-x
returns-else-x c = elim c.else-x.branch [
  | else-x-via-then-x+else-x-2 w ↦ focal_left c.args.x (inr w.if-x-2.false)
  | else-x-via-else-x w ↦ focal_left c.args.x (inl w.if-x.false)
]
