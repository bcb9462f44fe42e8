-- Partners are of one level: each is below twice the other, and a half of either has a greater number than both.
use Rattle.std.proofs.Common.{◌≡◌, ℕ, zero, suc, ◌*◌, ◌/◌, ◌^◌, ◌<◌, ◌≤◌, ◌⊎◌, ap, ◌∙◌, inl, inr, arith}
use Rattle.std.proofs.lemmas.Bool.{cases_lt}
use Rattle.forest.specs.Forests.{Forest, Lawful}

pub doubled : (b k : ℕ) → b * 2 ^ suc k ≡ 2 * (b * 2 ^ k)
doubled b k =
    let e : 2 ^ suc k ≡ 2 * 2 ^ k = omega arith in
    ap (λ (z : ℕ). b * z) e ∙ omega arith

-- the level k of a number: it is from b * 2^k to before b * 2^(k + 1); f bounds the search
level_at : (b f i : ℕ) → i < f → 0 < b → b ≤ i → (k : ℕ) × (b * 2 ^ k ≤ i) × (i < b * 2 ^ suc k)
level_at b zero i h p l = absurd (omega arith)
level_at b (suc f) i h p l = go (cases_lt i (2 * b)) (level_at b f (i / 2))
  where
    go : (i < 2 * b) ⊎ (2 * b ≤ i) → (i / 2 < f → 0 < b → b ≤ i / 2 → (k : ℕ) × (b * 2 ^ k ≤ i / 2) × (i / 2 < b * 2 ^ suc k)) → (k : ℕ) × (b * 2 ^ k ≤ i) × (i < b * 2 ^ suc k)
    go (inl s) ih = (0, omega arith, omega (arith, doubled b 0))
    go (inr s) ih =
        let r = ih (omega arith) p (omega arith) in
        let k : ℕ = r.0 in
        let e = doubled b k in
        let f' = doubled b (suc k) in
        (suc k, omega (arith, r.1), omega (arith, r.2))

module _ {φ : Forest} (m : Lawful φ) where
  pub level_of : (i : ℕ) → φ.roots ≤ i → (k : ℕ) × (φ.roots * 2 ^ k ≤ i) × (i < φ.roots * 2 ^ suc k)
  level_of i l = level_at φ.roots (suc i) i (omega arith) m.some l

  module _ (i : ℕ) (lo : φ.roots ≤ i) (up : i < φ.finest) (p : 0 < φ.partner i) where
    -- the partner is not of a level above
    pub level_from : (k : ℕ) → φ.roots * 2 ^ k ≤ i → φ.roots * 2 ^ k ≤ φ.partner i
    level_from k h = go (cases_lt (φ.partner i) (φ.roots * 2 ^ k))
      where
        go : (φ.partner i < φ.roots * 2 ^ k) ⊎ (φ.roots * 2 ^ k ≤ φ.partner i) → φ.roots * 2 ^ k ≤ φ.partner i
        go (inr g) = g
        go (inl g) =
            let e = m.back i lo up p in
            let r = m.inside i lo up p in
            absurd (omega (arith, m.level (φ.partner i) k r.0 r.1 (omega (arith, m.some)) g))

    pub near : i < 2 * φ.partner i
    near =
        let k = level_of i lo in
        omega (arith, doubled φ.roots k.0, level_from k.0 k.1, k.2)

    pub far : φ.partner i < 2 * i
    far =
        let k = level_of i lo in
        omega (arith, doubled φ.roots k.0, m.level i (suc k.0) lo up p k.2, k.1)
