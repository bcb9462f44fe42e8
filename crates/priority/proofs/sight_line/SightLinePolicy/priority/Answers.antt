use Rattle.std.proofs.Common.{true, false, refl}
use Rattle.priority.proofs.Asked.{found, not_found, sight_none, sight_asked}
use Rattle.priority.proofs.sight_line.SightLinePolicy.priority.Goals as goal

pub returns-in_default : goal.returns-in_default
returns-in_default g c =
    let p = c.args.self.now in
    let n = g.P.Policy.degree p.below in
    let a = sight_none p.line n (g.P.Policy.number p.below) c.args.triangle (not_found _ n c.args.triangle c.order.ensures c.in_default.ensures) in
    record { value = a.value; geometry = a.geometry }

pub returns-then-meets : goal.returns-then-meets
returns-then-meets g c =
    let p = c.args.self.now in
    let n = g.P.Policy.degree p.below in
    let t = c.in-Some.t in
    let m = c.if-meets.ensures in
    let a = sight_asked p.line n (g.P.Policy.number p.below) c.args.triangle t 4294967295 true (found t _ n c.args.triangle c.order.ensures c.in-Some.ensures) m.value m.geometry refl in
    record { value = a.value; geometry = a.geometry }

pub returns : goal.returns
returns g c =
    let p = c.args.self.now in
    let n = g.P.Policy.degree p.below in
    let t = c.in-Some.t in
    let m = c.if-meets.ensures in
    let a = sight_asked p.line n (g.P.Policy.number p.below) c.args.triangle t c.priority.result false (found t _ n c.args.triangle c.order.ensures c.in-Some.ensures) m.value m.geometry c.priority.ensures in
    record { value = a.value; geometry = a.geometry }
