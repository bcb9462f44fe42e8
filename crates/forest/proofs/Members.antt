-- What is in a set with one triangle more, and in a set with one triangle less.
use Rattle.std.proofs.Common.{◌≡◌, ℕ, true, false, eqb, ◌⊎◌, refl, inl, inr}
use Rattle.std.proofs.lemmas.Bool.{cases_Bool, both_ways, eqb-true, eqb-false, eq-eqb, ne_eqb}
use Rattle.forest.specs.SplitSets.{Set, Subset, add, del}

pub add_same : (i : ℕ) (S : Set) → add i S i ≡ true
add_same i S = rw (eq-eqb i i refl) refl

pub add_other : (i : ℕ) (S : Set) (x : ℕ) → (x ≡ i → ⊥) → add i S x ≡ S x
add_other i S x ne = rw (ne_eqb x i ne) refl

pub add_keeps : (i : ℕ) (S : Set) → Subset S (add i S)
add_keeps i S x t = go (cases_Bool (eqb x i))
  where
    go : (eqb x i ≡ true) ⊎ (eqb x i ≡ false) → add i S x ≡ true
    go (inl e) = rw e refl
    go (inr e) = rw e t

pub add_cases : (i : ℕ) (S : Set) (x : ℕ) → add i S x ≡ true → (x ≡ i) ⊎ (S x ≡ true)
add_cases i S x t = go (cases_Bool (eqb x i))
  where
    go : (eqb x i ≡ true) ⊎ (eqb x i ≡ false) → (x ≡ i) ⊎ (S x ≡ true)
    go (inl e) = inl (eqb-true x i e)
    go (inr e) = inr (rw e at t)

pub add_within : (i : ℕ) (S G : Set) → Subset S G → G i ≡ true → Subset (add i S) G
add_within i S G w g x t = go (add_cases i S x t)
  where
    go : (x ≡ i) ⊎ (S x ≡ true) → G x ≡ true
    go (inl e) = rw e g
    go (inr s) = w x s

pub del_same : (i : ℕ) (S : Set) → del i S i ≡ false
del_same i S = rw (eq-eqb i i refl) refl

pub del_other : (i : ℕ) (S : Set) (x : ℕ) → (x ≡ i → ⊥) → del i S x ≡ S x
del_other i S x ne = rw (ne_eqb x i ne) refl

pub del_parts : (i : ℕ) (S : Set) (x : ℕ) → del i S x ≡ true → (x ≡ i → ⊥) × (S x ≡ true)
del_parts i S x t = go (cases_Bool (eqb x i))
  where
    go : (eqb x i ≡ true) ⊎ (eqb x i ≡ false) → (x ≡ i → ⊥) × (S x ≡ true)
    go (inl e) = absurd (both_ways false refl (rw e at t))
    go (inr e) = (eqb-false x i e, (rw e at t))
