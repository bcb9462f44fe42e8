-- The test of the rules, on what was read of the triangle and its halves.
use Rattle.std.proofs.Common.{◌≡◌, ℕ, ◌+◌, ◌*◌, max, Bool, ◌||◌, ltb, sym, ap, ◌∙◌, ap₂, arith}
use Rattle.std.proofs.lemmas.Bool.{or_left, lt-ltb, le-ltb}
use Rattle.std.proofs.lemmas.Option.{MatchOption-at_some}
use Rattle.bintree.proofs.Numbers.{end_twice}
use Rattle.terrain.specs.Bounds.{limit, offset}
use Rattle.terrain.specs.Filling.{sampled, bounding, described, breaks_rule}
use Rattle.terrain.proofs.Fillings.{bounding_splittable, rule_read}
use Rattle.terrain.proofs.cover.breaks.Goals as goal
use Rattle.terrain.proofs.cover.breaks.Goals.{After-from-2, at-returns-then-bound-gt-LIMIT, at-returns-else-bound-gt-LIMIT}

pub triangle-t-requires-clause-high : goal.triangle-t-requires-clause-high
triangle-t-requires-clause-high g c = omega (arith, end_twice c.args.order.n)

-- the test, from what the calls before it answered
tested : (g : Rattle.terrain.proofs.cover.breaks.Given.Over) (c : After-from-2 g)
    → breaks_rule (described c.args.order.n (g.S.Relief.heights c.args.source.now) (g.S.Relief.bounds c.args.source.now)) c.args.number
    ≡ (ltb limit c.bound-bound.result || ltb c.bound-bound.result (c.offset.result + max c.bound_of.result c.bound_of-2.result))
tested g c =
    let n = c.args.order.n in
    let i = c.args.number in
    let z = g.S.Relief.heights c.args.source.now in
    let b = g.S.Relief.bounds c.args.source.now in
    let k = c.triangle-t.ensures in
    let h = MatchOption-at_some _ _ _ c.unwrap.ensures c.halves.ensures in
    rule_read n z b i _ _ _ _ c.requires.low c.requires.high
    (c.bound-bound.ensures ∙ sym (bounding_splittable n b i c.requires.low c.requires.high))
    (c.bound_of.ensures ∙ ap₂ (λ (m j : ℕ). bounding m b j) (h.1.0 ∙ k.0) (h.1.1 ∙ ap (λ (j : ℕ). 2 * j) k.1))
    (c.bound_of-2.ensures ∙ ap₂ (λ (m j : ℕ). bounding m b j) (h.2.0 ∙ k.0) (h.2.1 ∙ ap (λ (j : ℕ). 2 * j + 1) k.1))
    (c.offset.ensures.value ∙ ap₂ (λ (m j : ℕ). offset m (sampled m z) j) k.0 k.1)

pub returns-then-bound-gt-LIMIT : goal.returns-then-bound-gt-LIMIT
returns-then-bound-gt-LIMIT g c =
    let t = lt-ltb limit c.bound-bound.result c.if-bound-gt-LIMIT.true in
    t ∙ sym (tested g (at-returns-then-bound-gt-LIMIT g c).After-from-2 ∙ or_left _ _ t)

pub returns-else-bound-gt-LIMIT : goal.returns-else-bound-gt-LIMIT
returns-else-bound-gt-LIMIT g c =
    let v = c.bound-bound.result in
    let least = c.offset.result + max c.bound_of.result c.bound_of-2.result in
    let e : c.from.result + c.from-2.result ≡ least = ap₂ ◌+◌ c.from.ensures (c.from-2.ensures ∙ c.max-greater.ensures) in
    ap₂ ltb c.from-else-bound-gt-LIMIT.ensures e
    ∙ sym (tested g (at-returns-else-bound-gt-LIMIT g c).After-from-2 ∙ ap (λ (t : Bool). t || ltb v least) (le-ltb limit v c.if-bound-gt-LIMIT.false))
