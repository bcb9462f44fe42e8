use Rattle.std.proofs.Common.{◌∙◌}
use Rattle.terrain.specs.Views.{map_view}
use Rattle.priority.proofs.Asked.{found, not_found, camera_none, camera_some}
use Rattle.priority.proofs.camera_rule.CameraRulePolicy.priority.Goals as goal

pub returns-in_default : goal.returns-in_default
returns-in_default c = camera_none c.args.self.now.lens (map_view c.args.self.now.map.now) c.args.triangle (not_found _ _ c.args.triangle c.order.ensures c.in_default.ensures)

pub returns-in-Some-bound : goal.returns-in-Some-bound
returns-in-Some-bound c =
    let t = c.in-Some.t in
    let g = map_view c.args.self.now.map.now in
    c.seen.ensures
    ∙ camera_some c.args.self.now.lens g c.args.triangle t c.in-Some-bound.bound (found t _ g.order c.args.triangle c.order.ensures c.in-Some.ensures) c.in-Some-bound.ensures.value
