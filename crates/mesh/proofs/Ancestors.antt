-- The triangles above a triangle, by halving its number.
use Rattle.std.proofs.Common.{◌≡◌, ℕ, zero, suc, ◌+◌, ◌*◌, ◌/◌, ◌^◌, ◌<◌, ◌≤◌, ◌⊎◌, sym, refl, ap, ◌∙◌, inl, inr, div-one, arith}
use Rattle.std.proofs.lemmas.Bool.{cases_lt}
use Rattle.bintree.proofs.Numbers.{halve_again}

-- the triangle k levels above t
abbrev pub above : ℕ → ℕ → ℕ
above zero t = t
above (suc k) t = above k (t / 2)

pub above_is : (k t : ℕ) → above k t ≡ t / 2 ^ k
above_is zero t = sym (div-one t)
above_is (suc k) t = above_is k (t / 2) ∙ sym (halve_again t (t / 2) k refl)

pub above_add : (j k t : ℕ) → above (j + k) t ≡ above k (above j t)
above_add zero k t = let e : 0 + k ≡ k = omega arith in rw e refl
above_add (suc j) k t = let e : suc j + k ≡ suc (j + k) = omega arith in rw e (above_add j k (t / 2))

pub above_le : (k t : ℕ) → above k t ≤ t
above_le zero t = omega arith
above_le (suc k) t = omega (arith, above_le k (t / 2))

-- a triangle holds a finest one: its first half, the first half of that, and so on; f bounds the way down
pub finest_below : (first f a : ℕ) → first ≤ a + f → 2 ≤ a → a < 2 * first → (t : ℕ) × (k : ℕ) × (first ≤ t) × (t < 2 * first) × (above k t ≡ a)
finest_below first zero a h lo up = (a, 0, omega arith, up, refl)
finest_below first (suc f) a h lo up = go (cases_lt a first) (finest_below first f (2 * a))
  where
    go : (a < first) ⊎ (first ≤ a) → (first ≤ 2 * a + f → 2 ≤ 2 * a → 2 * a < 2 * first → (t : ℕ) × (k : ℕ) × (first ≤ t) × (t < 2 * first) × (above k t ≡ 2 * a)) →
        (t : ℕ) × (k : ℕ) × (first ≤ t) × (t < 2 * first) × (above k t ≡ a)
    go (inr l) ih = (a, 0, l, up, refl)
    go (inl l) ih =
        let r = ih (omega arith) (omega arith) (omega arith) in
        let e : 2 * a / 2 ≡ a = omega arith in
        (r.0, r.1 + 1, r.2, r.3, above_add r.1 1 r.0 ∙ (ap (λ (y : ℕ). y / 2) r.4 ∙ e))
