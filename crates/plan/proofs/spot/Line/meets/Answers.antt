use Rattle.std.proofs.Common.{◌∙◌, ap₂}
use Rattle.std.proofs.lemmas.Bool.Decides.{Decides-at}
use Rattle.bintree.specs.declared.point.Way.{Way}
use Rattle.bintree.specs.declared.point.Corners.{Corners}
use Rattle.bintree.specs.Views.{corners_of}
use Rattle.bintree.proofs.Laws.{turning}
use Rattle.plan.specs.Lines.{line_way, meets}
use Rattle.plan.proofs.Meeting.{meets_decides}
use Rattle.plan.proofs.spot.Line.meets.Goals as goal

pub returns : goal.returns
returns c =
    let t = c.args.triangle in
    let l = line_way c.args.self in
    let e = c.unparted.ensures ∙ ap₂ (λ (w : Way) (u : Corners). meets w.from w.to u) c.from.ensures c.corners.ensures.value in
    record { value = e; geometry = Decides-at _ _ e (meets_decides l.from l.to (corners_of t) (turning t.order.n t.number t.low t.high)) }
