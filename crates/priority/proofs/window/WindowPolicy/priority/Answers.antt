use Rattle.std.proofs.Common.{true, false, refl}
use Rattle.priority.proofs.Asked.{found, not_found, window_none, window_asked}
use Rattle.priority.proofs.window.WindowPolicy.priority.Goals as goal

pub returns-in_default : goal.returns-in_default
returns-in_default g c =
    let p = c.args.self.now in
    let n = g.P.Policy.degree p.below in
    let a = window_none p.rectangle n (g.P.Policy.number p.below) c.args.triangle (not_found _ n c.args.triangle c.order.ensures c.in_default.ensures) in
    record { value = a.value; geometry = a.geometry }

pub returns-then-touches : goal.returns-then-touches
returns-then-touches g c =
    let p = c.args.self.now in
    let n = g.P.Policy.degree p.below in
    let t = c.in-Some.t in
    let m = c.if-touches.ensures in
    let a = window_asked p.rectangle n (g.P.Policy.number p.below) c.args.triangle t c.priority.result true (found t _ n c.args.triangle c.order.ensures c.in-Some.ensures) m.value m.geometry c.priority.ensures in
    record { value = a.value; geometry = a.geometry }

pub returns-else-touches : goal.returns-else-touches
returns-else-touches g c =
    let p = c.args.self.now in
    let n = g.P.Policy.degree p.below in
    let t = c.in-Some.t in
    let m = c.if-touches.ensures in
    let a = window_asked p.rectangle n (g.P.Policy.number p.below) c.args.triangle t 0 false (found t _ n c.args.triangle c.order.ensures c.in-Some.ensures) m.value m.geometry refl in
    record { value = a.value; geometry = a.geometry }
