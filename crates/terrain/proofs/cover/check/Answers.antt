-- What `find` says of the numbers in turn: none breaks a rule, or the first that does is the lowest.
use Rattle.std.proofs.Common.{◌≡◌, ◌<◌, ◌≤◌, true, false, Some, None, sym, arith, rules}
use Rattle.std.proofs.lemmas.Iterator.{first_from_Range}
use Rattle.terrain.specs.Filling.{described, breaks_rule}
use Rattle.terrain.proofs.Fillings.{none_breaking, first_breaking}
use Rattle.terrain.proofs.cover.check.Goals as goal

pub returns-in-None : goal.returns-in-None
returns-in-None g c =
    let d = described c.args.order.n (g.S.Relief.heights c.args.source.now) (g.S.Relief.bounds c.args.source.now) in
    let f = first_from_Range _ _ _ None (λ i. breaks_rule d i ≡ true) (λ i. breaks_rule d i ≡ false) c.in-None.ensures.ran (λ i q e. search rules) (λ i q e. search rules) in
    none_breaking d (λ j p q. f j p (omega (arith, c.first_finest.ensures.value)))

pub returns-in-Some : goal.returns-in-Some
returns-in-Some g c =
    let d = described c.args.order.n (g.S.Relief.heights c.args.source.now) (g.S.Relief.bounds c.args.source.now) in
    let i = c.in-Some.triangle in
    let f = first_from_Range _ _ _ (Some i) (λ i. breaks_rule d i ≡ true) (λ i. breaks_rule d i ≡ false) c.in-Some.ensures.ran (λ i q e. search rules) (λ i q e. search rules) in
    let low : 2 ≤ i = f.0 in
    let high : i < c.first_finest.result = f.1 in
    (omega arith, sym (first_breaking d i low (omega (arith, c.first_finest.ensures.value)) f.2 f.3))
