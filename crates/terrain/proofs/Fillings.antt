-- Filling from a source: the map that it describes, the test of its bounds, and why a map is given exactly if they cover.
use Rattle.std.proofs.Common.{◌≡◌, ℕ, ◌+◌, ◌*◌, ◌<◌, ◌≤◌, max, Bool, true, false, cond, ◌&&◌, ◌||◌, eqb, ltb, ◌⊎◌, List, [], ◌∷◌, get_or, sym, refl, ap, ◌∙◌, subst, inl, inr, ⊎_elim, arith}
use mathlib.Core.Path.{fun_ext}
use Rattle.std.proofs.lemmas.Bool.{cases_Bool, false_from_ne_true, true_from_ne_false, cases_lt, both_ways, and_left, or_from, or_parts, ltb-false, lt-leb, le-ltb, cond-true, cond-false, eq-eqb, ne_eqb, eqb-true}
use Rattle.bintree.specs.declared.point.Point.{Point}
use Rattle.bintree.specs.declared.point.Corners.{Corners}
use Rattle.bintree.specs.Orders.{side, end, first_finest, is_triangle, is_splittable}
use Rattle.bintree.specs.Triangles.{corners, centre}
use Rattle.bintree.specs.Refusals.{given, refused, refusal}
use Rattle.bintree.proofs.Numbers.{end_twice}
use Rattle.terrain.specs.Heights.{Heights, is_sample}
use Rattle.terrain.specs.Bounds.{Bounds, apart, offset, limit}
use Rattle.terrain.specs.Grounds.{Ground}
use Rattle.terrain.specs.Laws.{Covered}
use Rattle.terrain.specs.Filling.{sampled, bounding, described, least_bound, breaks_rule, lowest_breaking, filling_to, filling, Keeps, FillLaws}
use Rattle.terrain.proofs.Measuring.{splittable_low, splittable_high, is_split, finest_not_split}
use Rattle.terrain.proofs.Holding.{corners_in_square}
use Rattle.terrain.specs.Tables.{place, heights_in, bounds_in}
use Rattle.terrain.proofs.Highest.{triangle_low, triangle_high, is_tri}
use Rattle.terrain.proofs.Places.{in_sample, sample_x, sample_y}
use Rattle.terrain.proofs.Lowest.{none_lowest, is_lowest, none_below}

-- what a source says of samples and of splittable triangles
sampled_at : (n : ℕ) (z : Heights) (p : Point) → is_sample n p ≡ true → sampled n z p ≡ z p
unfolding sampled
sampled_at n z p t = cond-true (is_sample n p) _ _ t

-- the heights of a list are what it says of samples
pub list_sampled : (n : ℕ) (zs : List ℕ) → sampled n (λ p. get_or zs (place p) 0) ≡ heights_in n zs
unfolding sampled heights_in
list_sampled n zs = refl

pub bounding_splittable : (n : ℕ) (b : Bounds) (i : ℕ) → 2 ≤ i → i < first_finest n → bounding n b i ≡ b i
unfolding bounding
bounding_splittable n b i p q = cond-true (is_splittable n i) _ _ (is_split n i p q)

pub bounding_finest : (n : ℕ) (b : Bounds) (i : ℕ) → first_finest n ≤ i → bounding n b i ≡ 0
unfolding bounding
bounding_finest n b i q = cond-false (is_splittable n i) _ _ (finest_not_split n i q)

bounding_none : (n : ℕ) (b : Bounds) (i : ℕ) → is_triangle n i ≡ false → bounding n b i ≡ 0
unfolding bounding
bounding_none n b i t = cond-false (is_splittable n i) _ _ (false_from_ne_true (is_splittable n i) (λ s.
    both_ways (is_triangle n i) t (is_tri n i (splittable_low n i s) (omega (arith, splittable_high n i s, end_twice n)))))

-- the offset, from what was read at a point c and at the corners t: the base's ends and its centre are samples
pub offset_read : (n i : ℕ) (z : Heights) (t : Corners) (c : Point) (hc hl hr : ℕ) → t ≡ corners n i → c ≡ centre (corners n i)
    → hc ≡ z c → hl ≡ z t.left → hr ≡ z t.right → apart (2 * hc) (hl + hr) ≡ offset n (sampled n z) i
unfolding offset
offset_read n i z t c hc hl hr et ec ehc ehl ehr =
    let w = corners_in_square n i in
    let sc = sampled_at n z (centre (corners n i)) (in_sample n (centre (corners n i)) (omega arith) (omega arith)) in
    let sl = sampled_at n z (corners n i).left (in_sample n (corners n i).left w.lx w.ly) in
    let sr = sampled_at n z (corners n i).right (in_sample n (corners n i).right w.rx w.ry) in
    let fc = ehc ∙ ap z ec in
    let fl = ehl ∙ ap (λ (u : Corners). z u.left) et in
    let fr = ehr ∙ ap (λ (u : Corners). z u.right) et in
    omega arith

-- the test of a triangle's bound
module _ (g : Ground) (i : ℕ) (low : 2 ≤ i) (high : i < first_finest g.order) where
  rule_test : breaks_rule g i ≡ (ltb limit (g.bounds i) || ltb (g.bounds i) (least_bound g i))
  unfolding breaks_rule
  rule_test = ap (λ (t : Bool). t && (ltb limit (g.bounds i) || ltb (g.bounds i) (least_bound g i))) (is_split g.order i low high)

  keeps_rule : Keeps g i → breaks_rule g i ≡ false
  keeps_rule k = rule_test ∙ or_from _ _ (le-ltb limit (g.bounds i) k.limited) (le-ltb (g.bounds i) (least_bound g i) k.above)

  rule_kept : breaks_rule g i ≡ false → Keeps g i
  rule_kept f =
      let k = or_parts (ltb limit (g.bounds i)) (ltb (g.bounds i) (least_bound g i)) (sym rule_test ∙ f) in
      record { limited = ltb-false _ _ k.0; above = ltb-false _ _ k.1 }

  rule_broken : (Keeps g i → ⊥) → breaks_rule g i ≡ true
  rule_broken f = true_from_ne_false (breaks_rule g i) (λ t. f (rule_kept t))

-- the test from what was read: the bound, those of the halves, and the offset
pub rule_read : (n : ℕ) (z : Heights) (b : Bounds) (i v low high d : ℕ) → 2 ≤ i → i < first_finest n
    → v ≡ bounding n b i → low ≡ bounding n b (2 * i) → high ≡ bounding n b (2 * i + 1) → d ≡ offset n (sampled n z) i
    → breaks_rule (described n z b) i ≡ (ltb limit v || ltb v (d + max low high))
rule_read n z b i v low high d p q ev el eh ed = rw (ev, el, eh, ed) (rule_test (described n z b) i p q)

-- the numbers before 2 are not tested
untested : (g : Ground) (j : ℕ) → j < 2 → breaks_rule g j ≡ false
unfolding breaks_rule
untested g j l = and_left _ _ (and_left _ _ (lt-leb 2 j l))

from_two : (g : Ground) (i : ℕ) → ((j : ℕ) → 2 ≤ j → j < i → breaks_rule g j ≡ false) → (j : ℕ) → j < i → breaks_rule g j ≡ false
from_two g i f j l = ⊎_elim (λ k. untested g j k) (λ k. f j k l) (cases_lt j 2)

pub none_breaking : (g : Ground) → ((j : ℕ) → 2 ≤ j → j < first_finest g.order → breaks_rule g j ≡ false) → lowest_breaking g ≡ 0
none_breaking g f = none_lowest (breaks_rule g) (first_finest g.order) (from_two g (first_finest g.order) f)

pub first_breaking : (g : Ground) (i : ℕ) → 2 ≤ i → i < first_finest g.order → breaks_rule g i ≡ true
    → ((j : ℕ) → 2 ≤ j → j < i → breaks_rule g j ≡ false) → lowest_breaking g ≡ i
first_breaking g i p q t f = is_lowest (breaks_rule g) (first_finest g.order) i (omega arith) q t (from_two g i f)

-- a map whose finest bounds are 0 covers exactly if no bound breaks a rule
module _ (n : ℕ) (z : Heights) (b : Bounds) where
  abbrev g : Ground
  g = described n z b

  covered_none : Covered g → lowest_breaking g ≡ 0
  covered_none k = none_breaking g (λ j p q. keeps_rule g j p q (record { limited = k.limited j p (omega (arith, end_twice n)); above = k.above j p q }))

  pub none_covered : lowest_breaking g ≡ 0 → Covered g
  none_covered e = record {
    finest = λ i p _. bounding_finest n b i p;
    limited = λ i p _. ⊎_elim
        (λ l. (rule_kept g i p l (none_below (breaks_rule g) (first_finest n) e i (omega arith) l)).limited)
        (λ l. omega (arith, bounding_finest n b i l))
        (cases_lt i (first_finest n));
    above = λ i p q. (rule_kept g i p q (none_below (breaks_rule g) (first_finest n) e i (omega arith) q)).above;
  }

  pub fills : lowest_breaking g ≡ 0 → given g ≡ filling n z b
  fills e = sym (cond-true (eqb (lowest_breaking g) 0) _ _ (eq-eqb _ 0 e))

  pub refuses : (i : ℕ) → 0 < i → i ≡ lowest_breaking g → refused (refusal 6 (i ∷ [])) ≡ filling n z b
  refuses i p e = sym (cond-false (eqb i 0) (given g) (refused (refusal 6 (i ∷ []))) (ne_eqb i 0 (λ f. omega arith))) ∙ ap (filling_to g) e

  filled_covers : (h : Ground) → filling n z b ≡ given h → (h ≡ g) × Covered h
  filled_covers h e = ⊎_elim
      (λ t. let q : g ≡ h = cc (cond-true (eqb (lowest_breaking g) 0) (given g) (refused (refusal 6 (lowest_breaking g ∷ []))) t) in
      (sym q, subst Covered q (none_covered (eqb-true _ _ t))))
      (λ t. absurd (let z : ◌≡◌ {A = ℕ} 0 1 = cc (cond-false (eqb (lowest_breaking g) 0) (given g) (refused (refusal 6 (lowest_breaking g ∷ []))) t) in omega arith))
      (cases_Bool (eqb (lowest_breaking g) 0))

  pub fill_laws : FillLaws n z b
  fill_laws = record {
    gives = λ k. sym (fills (covered_none k));
    covers = filled_covers;
    refuses = λ i k. sym (refuses i (omega arith) (sym (first_breaking g i k.low k.high (rule_broken g i k.low k.high k.breaks)
        (λ j p q. keeps_rule g j p (omega arith) (k.first j p q)))));
  }

-- writing row by row: the rows before y stand, and of row y the samples before x; a row has e samples
abbrev pub Rows : Heights → ℕ → ℕ → ℕ → List ℕ → Type 0
Rows z e y x zs = (p : Point) → p.x < e → (p.y < y) ⊎ ((p.y ≡ y) × (p.x < x)) → get_or zs (place p) 0 ≡ z p

-- all rows: the heights are the source's
pub rows_all : (n : ℕ) (z : Heights) (e y : ℕ) (zs : List ℕ) → e ≡ side n + 1 → e ≤ y → Rows z e y 0 zs → heights_in n zs ≡ sampled n z
unfolding sampled heights_in
rows_all n z e y zs es done f = fun_ext (λ p. at_point p (cases_Bool (is_sample n p)))
  where
    at_point : (p : Point) → (is_sample n p ≡ true) ⊎ (is_sample n p ≡ false) → cond (is_sample n p) (get_or zs (place p) 0) 0 ≡ cond (is_sample n p) (z p) 0
    at_point p (inl t) =
        let px = sample_x n p t in
        let py = sample_y n p t in
        ap (λ (h : ℕ). cond (is_sample n p) h 0) (f p (omega arith) (inl (omega arith)))
    at_point p (inr t) = cond-false (is_sample n p) _ _ t ∙ sym (cond-false (is_sample n p) _ _ t)

-- all triangles: the bounds are the source's
pub bounds_all : (n : ℕ) (b : Bounds) (bs : List ℕ) → ((j : ℕ) → 2 ≤ j → j < end n → get_or bs j 0 ≡ bounding n b j) → bounds_in n bs ≡ bounding n b
unfolding bounds_in
bounds_all n b bs f = fun_ext (λ i. at_number i (cases_Bool (is_triangle n i)))
  where
    at_number : (i : ℕ) → (is_triangle n i ≡ true) ⊎ (is_triangle n i ≡ false) → cond (is_triangle n i) (get_or bs i 0) 0 ≡ bounding n b i
    at_number i (inl t) = cond-true (is_triangle n i) _ _ t ∙ f i (triangle_low n i t) (triangle_high n i t)
    at_number i (inr t) = cond-false (is_triangle n i) _ _ t ∙ sym (bounding_none n b i t)
