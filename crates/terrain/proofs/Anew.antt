-- Bounds worked out anew. A triangle that is not due keeps its bound; one that is due gets its offset plus the greater new bound of its halves,
-- because a further level of depth changes nothing once the numbers have passed all that can be due.
use Rattle.std.proofs.Common.{◌≡◌, ℕ, zero, suc, ◌+◌, ◌*◌, ◌^◌, ◌<◌, ◌≤◌, max, Bool, true, false, sym, refl, ap, ◌∙◌, ⊎_elim, mul-le-mul_right, mul_assoc, mul_comm, arith}
use native.Mathlib.Nat.{pow-succ'}
use Rattle.std.proofs.lemmas.Bool.{cases_Bool, false_from_ne_true}
use Rattle.terrain.specs.Bounds.{Bounds, worked_out}

-- one level down, the numbers double
pub deeper : (i k : ℕ) → i * 2 ^ suc k ≡ (2 * i) * 2 ^ k
deeper i k = ap (λ m. i * m) (pow-succ' 2 k) ∙ (sym (mul_assoc i 2 (2 ^ k)) ∙ ap (λ m. m * 2 ^ k) (mul_comm i 2))

module _ (due : ℕ → Bool) (d : ℕ → ℕ) (b : Bounds) where
  pub not_due : (k i : ℕ) → due i ≡ false → worked_out due d b k i ≡ b i
  unfolding worked_out
  not_due zero i t = refl
  not_due (suc k) i t = rw (t, worked_out)

  due_step : (k i : ℕ) → due i ≡ true → worked_out due d b (suc k) i ≡ d i + max (worked_out due d b k (2 * i)) (worked_out due d b k (2 * i + 1))
  unfolding worked_out
  due_step k i t = rw (t, worked_out)

  no_depth : (i : ℕ) → worked_out due d b zero i ≡ b i
  unfolding worked_out
  no_depth i = refl

  -- only numbers below s are due
  module _ (s : ℕ) (below : (i : ℕ) → due i ≡ true → i < s) where
    past : (i : ℕ) → s ≤ i → due i ≡ false
    past i l = false_from_ne_true (due i) (λ t. omega (arith, below i t))

    -- a further level changes nothing where there are enough
    more_depth : (k i : ℕ) → s ≤ i * 2 ^ k → worked_out due d b (suc k) i ≡ worked_out due d b k i
    more_depth zero i l = not_due 1 i (past i (omega arith)) ∙ sym (no_depth i)
    more_depth (suc k) i l =
        let e = deeper i k in
        let m : (2 * i) * 2 ^ k ≤ (2 * i + 1) * 2 ^ k = mul-le-mul_right (2 ^ k) (omega arith) in
        let low = more_depth k (2 * i) (omega arith) in
        let high = more_depth k (2 * i + 1) (omega arith) in
        ⊎_elim
        (λ t. let u = due_step (suc k) i t in let v = due_step k i t in cc)
        (λ t. not_due (suc (suc k)) i t ∙ sym (not_due (suc k) i t))
        (cases_Bool (due i))

    pub when_due : (k i : ℕ) → s ≤ i * 2 ^ k → due i ≡ true → worked_out due d b k i ≡ d i + max (worked_out due d b k (2 * i)) (worked_out due d b k (2 * i + 1))
    when_due k i l t = sym (more_depth k i l) ∙ due_step k i t

  -- each level adds no more than the greatest offset
  pub at_most : (m top : ℕ) → ((i : ℕ) → d i ≤ m) → ((i : ℕ) → b i ≤ top) → (k i : ℕ) → worked_out due d b k i ≤ top + k * m
  at_most m top f g zero i = omega (arith, no_depth i, g i)
  at_most m top f g (suc k) i =
      let low = at_most m top f g k (2 * i) in
      let high = at_most m top f g k (2 * i + 1) in
      ⊎_elim (λ t. omega (arith, due_step k i t, f i)) (λ t. omega (arith, not_due (suc k) i t, g i)) (cases_Bool (due i))

  -- a table that is at least b, and at least what each due number gets from it, is at least the new one
  pub least : (c : Bounds) (s : ℕ) → ((i : ℕ) → due i ≡ true → 2 * i + 1 < s) → ((i : ℕ) → i < s → b i ≤ c i) → ((i : ℕ) → due i ≡ true → d i + max (c (2 * i)) (c (2 * i + 1)) ≤ c i)
      → (k i : ℕ) → i < s → worked_out due d b k i ≤ c i
  least c s below f g zero i l = omega (arith, no_depth i, f i l)
  least c s below f g (suc k) i l =
      ⊎_elim
      (λ t. let q = below i t in let low = least c s below f g k (2 * i) (omega arith) in let high = least c s below f g k (2 * i + 1) (omega arith) in
      omega (arith, due_step k i t, g i t))
      (λ t. omega (arith, not_due (suc k) i t, f i l))
      (cases_Bool (due i))

  -- and a table that is b where nothing is due, and elsewhere gets from itself what each due number gets, is the new one
  pub only : (c : Bounds) (s : ℕ) → ((i : ℕ) → due i ≡ true → 2 ≤ i × (2 * i + 1 < s))
      → ((i : ℕ) → 2 ≤ i → i < s → due i ≡ true → c i ≡ d i + max (c (2 * i)) (c (2 * i + 1)))
      → ((i : ℕ) → 2 ≤ i → i < s → due i ≡ false → c i ≡ b i) → (k i : ℕ) → 2 ≤ i → i < s → s ≤ 2 * i * 2 ^ k → c i ≡ worked_out due d b k i
  only c s below g f zero i two l r = ⊎_elim (λ t. absurd (omega (arith, (below i t).1))) (λ t. f i two l t ∙ sym (no_depth i)) (cases_Bool (due i))
  only c s below g f (suc k) i two l r =
      let e = deeper (2 * i) k in
      let m : 2 * (2 * i) * 2 ^ k ≤ 2 * (2 * i + 1) * 2 ^ k = mul-le-mul_right (2 ^ k) (omega arith) in
      ⊎_elim
      (λ t. let q = (below i t).1 in
      let low = only c s below g f k (2 * i) (omega arith) (omega arith) (omega arith) in
      let high = only c s below g f k (2 * i + 1) (omega arith) (omega arith) (omega arith) in
      let u = due_step k i t in let v = g i two l t in cc)
      (λ t. f i two l t ∙ sym (not_due (suc k) i t))
      (cases_Bool (due i))
