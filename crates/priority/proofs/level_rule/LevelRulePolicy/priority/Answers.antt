use Rattle.std.proofs.Common.{ℕ, ◌-◌, ◌*◌, refl, ap, ◌∙◌, arith}
use Rattle.priority.proofs.Asked.{found, level_below, level_none, level_some}
use Rattle.priority.proofs.level_rule.LevelRulePolicy.priority.Goals as goal

pub overflow_sub-result : goal.overflow_sub-result
overflow_sub-result c = omega (arith, level_below c.in-Some.t, c.level.ensures.value, c.in-Some.ensures.1.0, c.value.ensures, c.from.ensures)

pub returns-in-Some : goal.returns-in-Some
returns-in-Some c =
    let t = c.in-Some.t in
    let n = c.args.self.now.order.n in
    ap (λ (k : ℕ). 2 * k - c.level.result) (c.from.ensures ∙ c.value.ensures)
    ∙ (ap (λ (k : ℕ). 2 * n - k) c.level.ensures.value ∙ level_some t n c.args.triangle (found t n n c.args.triangle refl c.in-Some.ensures))

pub returns-in-None : goal.returns-in-None
returns-in-None c = level_none c.args.self.now.order.n c.args.triangle c.in-None.ensures
