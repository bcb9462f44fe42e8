-- The lowest number that passes a test: none below it does.
use Rattle.std.proofs.Common.{◌≡◌, ℕ, zero, suc, ◌<◌, ◌≤◌, Bool, true, false, eqb, sym, refl, ◌∙◌, subst, ap₂, ⊎_elim, eq-or-lt_of_le, arith}
use Rattle.std.proofs.lemmas.Bool.{cases_Bool, cases_eq, ne_eqb}
use Rattle.bintree.specs.Triangles.{lowest}

-- one number more: what was found stays, and else the number is tried
abbrev after : ℕ → ℕ → Bool → ℕ
after b r y = elim (eqb r 0) [ false ↦ r | true ↦ elim y [ true ↦ b | false ↦ 0 ] ]

after_found : (b r : ℕ) (y : Bool) → (r ≡ 0 → ⊥) → after b r y ≡ r
after_found b r y z = subst (λ (c : Bool). elim c [ false ↦ r | true ↦ elim y [ true ↦ b | false ↦ 0 ] ] ≡ r) (sym (ne_eqb r 0 z)) refl

module _ (passes : ℕ → Bool) where
  found : (b : ℕ) → (lowest passes b ≡ 0 → ⊥) → lowest passes (suc b) ≡ lowest passes b
  found b z = after_found b (lowest passes b) (passes b) z

  here : (b : ℕ) → lowest passes b ≡ 0 → passes b ≡ true → lowest passes (suc b) ≡ b
  here b z t = ap₂ (after b) z t

  not_here : (b : ℕ) → lowest passes b ≡ 0 → passes b ≡ false → lowest passes (suc b) ≡ 0
  not_here b z t = ap₂ (after b) z t

  pub none_lowest : (b : ℕ) → ((j : ℕ) → j < b → passes j ≡ false) → lowest passes b ≡ 0
  none_lowest zero f = refl
  none_lowest (suc b) f = not_here b (none_lowest b (λ j l. f j (omega arith))) (f b (omega arith))

  pub is_lowest : (b i : ℕ) → 0 < i → i < b → passes i ≡ true → ((j : ℕ) → j < i → passes j ≡ false) → lowest passes b ≡ i
  is_lowest zero i p l t f = absurd (omega arith)
  is_lowest (suc b) i p l t f = ⊎_elim
      (λ e. subst (λ (k : ℕ). lowest passes (suc k) ≡ i) e (here i (none_lowest i f) t))
      (λ k. let e = is_lowest b i p k t f in found b (λ z. omega arith) ∙ e)
      (eq-or-lt_of_le (let k : i ≤ b = omega arith in k))

  pub none_below : (b : ℕ) → lowest passes b ≡ 0 → (i : ℕ) → 0 < i → i < b → passes i ≡ false
  none_below zero e i p l = absurd (omega arith)
  none_below (suc b) e i p l = ⊎_elim
      (λ z. ⊎_elim
      (λ t. absurd (let k = here b z t in let q = none_below b z i p in ⊎_elim (λ (m : i ≡ b). omega arith) (λ m. omega arith) (eq-or-lt_of_le (let k : i ≤ b = omega arith in k))))
      (λ t. ⊎_elim (λ m. subst (λ (k : ℕ). passes k ≡ false) (sym m) t) (λ m. none_below b z i p m) (eq-or-lt_of_le (let k : i ≤ b = omega arith in k)))
      (cases_Bool (passes b)))
      (λ z. absurd (z (sym (found b z) ∙ e)))
      (cases_eq (lowest passes b) 0)
