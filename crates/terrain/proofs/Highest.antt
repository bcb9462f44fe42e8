-- The highest number that passes a test is the one that passes with none above it that does.
use Rattle.std.proofs.Common.{◌≡◌, ℕ, zero, suc, ◌<◌, ◌≤◌, Bool, true, false, ltb, sym, refl, ◌∙◌, subst, ⊎_elim, eq-or-lt_of_le, arith}
use Rattle.std.proofs.lemmas.Bool.{cases_Bool, false_from_ne_true, cases_lt, both_ways, and_parts, and_from, leb-true, ltb-true, le-leb, lt-ltb}
use Rattle.bintree.specs.Orders.{end, is_triangle}
use Rattle.terrain.specs.Bounds.{Bounds, limit}
use Rattle.terrain.specs.Carving.{highest, passes_limit, highest_passing}

module _ (passes : ℕ → Bool) where
  here : (b : ℕ) → passes b ≡ true → highest passes (suc b) ≡ b
  unfolding highest
  here b t = rw (t, highest)

  not_here : (b : ℕ) → passes b ≡ false → highest passes (suc b) ≡ highest passes b
  unfolding highest
  not_here b t = rw (t, highest)

  none : (b : ℕ) → ((i : ℕ) → i < b → passes i ≡ false) → highest passes b ≡ 0
  unfolding highest
  none zero f = refl
  none (suc b) f = not_here b (f b (omega arith)) ∙ none b (λ i l. f i (omega arith))

  is_highest : (b m : ℕ) → m < b → passes m ≡ true → ((j : ℕ) → m < j → j < b → passes j ≡ false) → highest passes b ≡ m
  is_highest zero m l t f = absurd (omega arith)
  is_highest (suc b) m l t f = ⊎_elim
      (λ e. subst (λ (k : ℕ). passes k ≡ true → highest passes (suc b) ≡ k) (sym e) (here b) t)
      (λ k. not_here b (f b k (omega arith)) ∙ is_highest b m k t (λ j p q. f j p (omega arith)))
      (eq-or-lt_of_le (let k : m ≤ b = omega arith in k))

  at_least : (b i : ℕ) → i < b → passes i ≡ true → i ≤ highest passes b
  at_least zero i l t = absurd (omega arith)
  at_least (suc b) i l t = ⊎_elim
      (λ u. omega (arith, here b u))
      (λ u. ⊎_elim
      (λ e. absurd (both_ways (passes b) u (subst (λ (k : ℕ). passes k ≡ true) e t)))
      (λ k. omega (arith, not_here b u, at_least b i k t))
      (eq-or-lt_of_le (let k : i ≤ b = omega arith in k)))
      (cases_Bool (passes b))

-- the test of a triangle
pub triangle_low : (n i : ℕ) → is_triangle n i ≡ true → 2 ≤ i
triangle_low n i t = leb-true 2 i (and_parts _ _ t).0

pub triangle_high : (n i : ℕ) → is_triangle n i ≡ true → i < end n
triangle_high n i t = ltb-true i (end n) (and_parts _ _ t).1

pub is_tri : (n i : ℕ) → 2 ≤ i → i < end n → is_triangle n i ≡ true
is_tri n i p q = and_from _ _ (le-leb 2 i p) (lt-ltb i (end n) q)

module _ (n : ℕ) (b : Bounds) where
  fits : (i : ℕ) → (2 ≤ i → i < end n → b i ≤ limit) → passes_limit n b i ≡ false
  fits i f = false_from_ne_true (passes_limit n b i) (λ t.
      let k = and_parts (is_triangle n i) (ltb limit (b i)) t in
      omega (arith, f (triangle_low n i k.0) (triangle_high n i k.0), ltb-true limit (b i) k.1))

  pub none_passing : ((i : ℕ) → 2 ≤ i → i < end n → b i ≤ limit) → highest_passing n b ≡ 0
  none_passing f = none (passes_limit n b) (end n) (λ i _. fits i (f i))

  pub highest_is : (i : ℕ) → 2 ≤ i → i < end n → limit < b i → ((j : ℕ) → i < j → j < end n → b j ≤ limit) → highest_passing n b ≡ i
  highest_is i p q l f = is_highest (passes_limit n b) (end n) i q (and_from _ _ (is_tri n i p q) (lt-ltb limit (b i) l)) (λ j k m. fits j (λ _ _. f j k m))

  pub no_passing : highest_passing n b ≡ 0 → (i : ℕ) → 2 ≤ i → i < end n → b i ≤ limit
  no_passing e i p q = ⊎_elim
      (λ l. absurd (omega (arith, at_least (passes_limit n b) (end n) i q (and_from _ _ (is_tri n i p q) (lt-ltb limit (b i) l)))))
      (λ l. l) (cases_lt limit (b i))
