-- The key lemma: a set whose mergeable diamonds are all above θ lies within every closed set whose mesh has no number above θ. What such a mesh does not split lies in
-- a triangle of it, and so has a number of at most θ; a mergeable diamond of S has a triangle above θ, so the mesh splits it.
use Rattle.std.proofs.Common.{◌≡◌, ℕ, zero, suc, ◌+◌, ◌*◌, ◌/◌, ◌<◌, ◌≤◌, true, false, ◌⊎◌, sym, subst, inl, inr, arith}
use Rattle.std.proofs.lemmas.Bool.{cases_Bool, cases_lt, both_ways, false_from_ne_true}
use Rattle.forest.specs.Forests.{Forest, Lawful}
use Rattle.forest.specs.SplitSets.{Set, Subset, Closed, Mergeable}
use Rattle.forest.specs.Rules.{Rule, greater, Fine, Needed}
use Rattle.forest.proofs.Basics.{halves, from_partner}
use Rattle.forest.proofs.Deepest.{all_within}

-- the law, read from a half to its parent
rule_up : {φ : Forest} {number : ℕ → ℕ} → Rule φ number → (x : ℕ) → 2 * φ.roots ≤ x → x < 2 * φ.finest → number x ≤ number (x / 2)
rule_up {φ} {number} law x lo up = go (halves x)
  where
    go : (x ≡ 2 * (x / 2)) ⊎ (x ≡ 2 * (x / 2) + 1) → number x ≤ number (x / 2)
    go (inl e) = subst (λ (y : ℕ). number y ≤ number (x / 2)) (sym e) (law.low (x / 2) (omega arith) (omega arith))
    go (inr e) = subst (λ (y : ℕ). number y ≤ number (x / 2)) (sym e) (law.high (x / 2) (omega arith) (omega arith))

-- what is not split lies in a triangle of the mesh
module _ {φ : Forest} {number : ℕ → ℕ} (m : Lawful φ) (law : Rule φ number) (θ : ℕ) (R : Set) (fine : Fine φ number θ R) where
  below_at : (k x : ℕ) → x < k → φ.roots ≤ x → x < 2 * φ.finest → R x ≡ false → number x ≤ θ
  below_at zero x h lo up out = omega arith
  below_at (suc k) x h lo up out = go (cases_lt x (2 * φ.roots)) (cases_Bool (R (x / 2))) (below_at k (x / 2))
    where
      go : (x < 2 * φ.roots) ⊎ (2 * φ.roots ≤ x) → (R (x / 2) ≡ true) ⊎ (R (x / 2) ≡ false) → (x / 2 < k → φ.roots ≤ x / 2 → x / 2 < 2 * φ.finest → R (x / 2) ≡ false → number (x / 2) ≤ θ) → number x ≤ θ
      go (inl s) b ih = fine x (record { range = (lo, up); whole = out; above = λ l. absurd (omega arith) })
      go (inr l) (inl t) ih = fine x (record { range = (lo, up); whole = out; above = λ _. t })
      go (inr l) (inr f) ih = omega (arith, rule_up law x l up, ih (omega (arith, m.some)) (omega arith) (omega arith) f)

  pub below : (x : ℕ) → φ.roots ≤ x → x < 2 * φ.finest → R x ≡ false → number x ≤ θ
  below x = below_at (suc x) x (omega arith)

-- the number of a diamond, and those of its triangles
greater_le : (number : ℕ → ℕ) (i p θ : ℕ) → number i ≤ θ → (0 < p → number p ≤ θ) → greater number i p ≤ θ
greater_le number i zero θ h k = h
greater_le number i (suc p) θ h k = omega (arith, k (omega arith))

pub greater_own : (number : ℕ → ℕ) (i p : ℕ) → number i ≤ greater number i p
greater_own number i zero = omega arith
greater_own number i (suc p) = omega arith

pub greater_other : (number : ℕ → ℕ) (i p : ℕ) → 0 < p → number p ≤ greater number i p
greater_other number i zero h = omega arith
greater_other number i (suc p) h = omega arith

pub key : {φ : Forest} {number : ℕ → ℕ} → Lawful φ → Rule φ number → (θ : ℕ) (K S R : Set) → Closed φ S → Closed φ R → Subset K R → Needed φ K number θ S → Fine φ number θ R → Subset S R
key {φ} {number} m law θ K S R cS cR pins need fine = all_within m K S R cS cR pins (λ t g. go t g (cases_Bool (R t)))
  where
    go : (t : ℕ) → Mergeable φ K S t → (R t ≡ true) ⊎ (R t ≡ false) → R t ≡ true
    go t g (inl y) = y
    go t g (inr f) =
        let lo : φ.roots ≤ t = (cS.range t g.split).0 in
        let up : t < φ.finest = (cS.range t g.split).1 in
        let other : 0 < φ.partner t → number (φ.partner t) ≤ θ = λ p.
        let r : (φ.roots ≤ φ.partner t) × (φ.partner t < φ.finest) = m.inside t lo up p in
        below m law θ R fine (φ.partner t) r.0 (omega arith) (false_from_ne_true (R (φ.partner t)) (λ a. both_ways (R t) f (from_partner m cR t lo up p a))) in
        absurd (omega (arith, need t g, greater_le number t (φ.partner t) θ (below m law θ R fine t lo (omega arith) f) other))
