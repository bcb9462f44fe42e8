-- Measured bounds: they cover, no bounds that cover are less, and none passes the limit, because each of at most twelve levels adds no more
-- than 131,070.
use Rattle.std.proofs.Common.{◌≡◌, ℕ, ◌+◌, ◌*◌, ◌^◌, ◌<◌, ◌≤◌, max, true, false, mul-le-mul_right, arith}
use Rattle.std.proofs.lemmas.Bool.{false_from_ne_true, and_parts, and_from, leb-true, ltb-true, le-leb, lt-ltb}
use Rattle.bintree.specs.declared.point.Point.{Point}
use Rattle.bintree.specs.Orders.{end, first_finest, is_splittable}
use Rattle.bintree.specs.Triangles.{corners, centre}
use Rattle.bintree.proofs.Numbers.{end_twice, first_finest_is}
use Rattle.terrain.specs.Heights.{Heights}
use Rattle.terrain.specs.Bounds.{Bounds, offset, Covers, measured}
use Rattle.terrain.specs.Grounds.{Sketch}
use Rattle.terrain.specs.Laws.{MeasureLaws}
use Rattle.terrain.proofs.Anew.{not_due, when_due, at_most, least}

-- the test of a splittable number
pub splittable_low : (n i : ℕ) → is_splittable n i ≡ true → 2 ≤ i
splittable_low n i t = leb-true 2 i (and_parts _ _ t).0

pub splittable_high : (n i : ℕ) → is_splittable n i ≡ true → i < first_finest n
splittable_high n i t = ltb-true i (first_finest n) (and_parts _ _ t).1

pub is_split : (n i : ℕ) → 2 ≤ i → i < first_finest n → is_splittable n i ≡ true
is_split n i p q = and_from _ _ (le-leb 2 i p) (lt-ltb i (first_finest n) q)

pub finest_not_split : (n i : ℕ) → first_finest n ≤ i → is_splittable n i ≡ false
finest_not_split n i p = false_from_ne_true (is_splittable n i) (λ t. omega (arith, splittable_high n i t))

-- 2n levels are enough
pub enough : (n i : ℕ) → 2 ≤ i → first_finest n ≤ i * 2 ^ (2 * n)
enough n i p = omega (arith, mul-le-mul_right (2 ^ (2 * n)) p, first_finest_is n)

pub offset_small : (n : ℕ) (z : Heights) → ((p : Point) → z p ≤ 65535) → (i : ℕ) → offset n z i ≤ 131070
unfolding offset
offset_small n z f i = omega (arith, f (centre (corners n i)), f (corners n i).left, f (corners n i).right)

module _ (n : ℕ) (z : Heights) where
  pub measured_sum : (i : ℕ) → 2 ≤ i → i < first_finest n → measured n z i ≡ offset n z i + max (measured n z (2 * i)) (measured n z (2 * i + 1))
  unfolding measured
  measured_sum i p q = when_due (is_splittable n) (offset n z) (λ _. 0) (first_finest n) (splittable_high n) (2 * n) i (enough n i p) (is_split n i p q)

  pub measured_none : (i : ℕ) → is_splittable n i ≡ false → measured n z i ≡ 0
  unfolding measured
  measured_none i t = not_due (is_splittable n) (offset n z) (λ _. 0) (2 * n) i t

  -- no bound passes 131,070 for each level
  measured_small : ((p : Point) → z p ≤ 65535) → (i : ℕ) → measured n z i ≤ 2 * n * 131070
  unfolding measured
  measured_small f i = omega (arith, at_most (is_splittable n) (offset n z) (λ _. 0) 131070 0 (offset_small n z f) (λ _. omega arith) (2 * n) i)

  measured_least : (b : Bounds) → Covers n z b → (i : ℕ) → i < end n → measured n z i ≤ b i
  unfolding measured
  measured_least b c i q =
      least (is_splittable n) (offset n z) (λ _. 0) b (end n) (λ j t. let k = splittable_high n j t in omega (arith, end_twice n)) (λ j l. omega arith)
      (λ j t. c.above j (splittable_low n j t) (splittable_high n j t)) (2 * n) i q

  pub measured_covers : n ≤ 6 → ((p : Point) → z p ≤ 65535) → Covers n z (measured n z)
  measured_covers six f = record {
    finest = λ i p q. measured_none i (finest_not_split n i p);
    limited = λ i p q. omega (arith, measured_small f i);
    above = λ i p q. omega (arith, measured_sum i p q);
  }

pub measure_laws : (s : Sketch) → s.order ≤ 6 → ((p : Point) → s.heights p ≤ 65535) → MeasureLaws s
measure_laws s six f = record {
  covers = measured_covers s.order s.heights six f;
  least = λ b c i p q. measured_least s.order s.heights b c i q;
  sums = λ i p q. measured_sum s.order s.heights i p q;
}
