use Rattle.std.proofs.Common.{◌∙◌, ap₂}
use Rattle.std.proofs.lemmas.Bool.Decides.{Decides-at}
use Rattle.bintree.specs.Views.{corners_of}
use Rattle.plan.specs.Rectangles.{overlap}
use Rattle.plan.proofs.Touching.{touches_decides}
use Rattle.plan.proofs.spot.Rectangle.touches.Goals as goal

pub returns : goal.returns
returns c =
    let e = c.overlap.ensures ∙ ap₂ overlap c.from.ensures c.bounding_box.ensures.value in
    record { value = e; geometry = Decides-at _ _ e (touches_decides c.args.self (corners_of c.args.triangle)) }
