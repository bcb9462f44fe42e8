-- First facts: of halves, and of closed sets.
use Rattle.std.proofs.Common.{◌≡◌, ℕ, ◌+◌, ◌*◌, ◌/◌, ◌<◌, ◌≤◌, true, ◌⊎◌, subst, inl, inr, arith}
use Rattle.std.proofs.lemmas.Bool.{cases_lt}
use Rattle.forest.specs.Forests.{Forest, Lawful}
use Rattle.forest.specs.SplitSets.{Set, Closed}

-- a number is one of the two halves of its half
pub halves : (x : ℕ) → (x ≡ 2 * (x / 2)) ⊎ (x ≡ 2 * (x / 2) + 1)
halves x = go (cases_lt (2 * (x / 2)) x)
  where
    go : (2 * (x / 2) < x) ⊎ (x ≤ 2 * (x / 2)) → (x ≡ 2 * (x / 2)) ⊎ (x ≡ 2 * (x / 2) + 1)
    go (inl h) = inr (omega arith)
    go (inr h) = inl (omega arith)

-- a closed set that has a half has the whole
pub from_low : {φ : Forest} {S : Set} → Closed φ S → (i : ℕ) → φ.roots ≤ i → S (2 * i) ≡ true → S i ≡ true
from_low {S = S} c i lo t =
    let e : 2 * i / 2 ≡ i = omega arith in
    subst (λ (y : ℕ). S y ≡ true) e (c.up (2 * i) t (omega arith))

pub from_high : {φ : Forest} {S : Set} → Closed φ S → (i : ℕ) → φ.roots ≤ i → S (2 * i + 1) ≡ true → S i ≡ true
from_high {S = S} c i lo t =
    let e : (2 * i + 1) / 2 ≡ i = omega arith in
    subst (λ (y : ℕ). S y ≡ true) e (c.up (2 * i + 1) t (omega arith))

-- a closed set that has the partner has the triangle
pub from_partner : {φ : Forest} {S : Set} → Lawful φ → Closed φ S → (i : ℕ) → φ.roots ≤ i → i < φ.finest → 0 < φ.partner i → S (φ.partner i) ≡ true → S i ≡ true
from_partner {φ} {S} m c i lo up p t =
    let e : φ.partner (φ.partner i) ≡ i = m.back i lo up p in
    subst (λ (y : ℕ). S y ≡ true) e (c.across (φ.partner i) t (omega (arith, m.some)))
