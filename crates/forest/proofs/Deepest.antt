-- The deepest triangle that S splits and R does not is one of a mergeable diamond of S: its partner is outside R too, and no half of the two is
-- split. Here "deepest" is "of the greatest number": the halves of a triangle and of its partner all have greater numbers than it.
use Rattle.std.proofs.Common.{◌≡◌, ℕ, zero, suc, ◌+◌, ◌*◌, ◌<◌, ◌≤◌, true, false, ◌⊎◌, inl, inr, arith}
use Rattle.std.proofs.lemmas.Bool.{cases_Bool, cases_lt, both_ways, false_from_ne_true, true_from_ne_false}
use Rattle.forest.specs.Forests.{Forest, Lawful}
use Rattle.forest.specs.SplitSets.{Set, Subset, Closed, Mergeable}
use Rattle.forest.proofs.Basics.{from_low, from_high, from_partner}
use Rattle.forest.proofs.Levels.{near}

module _ {φ : Forest} (m : Lawful φ) (K S R : Set) (cS : Closed φ S) (cR : Closed φ R) (pins : Subset K R) where
  -- where everything of S with a greater number is in R
  deepest : (t : ℕ) → ((u : ℕ) → t < u → S u ≡ true → R u ≡ true) → S t ≡ true → R t ≡ false → Mergeable φ K S t
  deepest t deeper s f =
      let pos : 0 < φ.roots = m.some in
      let lo : φ.roots ≤ t = (cS.range t s).0 in
      let up : t < φ.finest = (cS.range t s).1 in
      let mated : 0 < φ.partner t → R (φ.partner t) ≡ true → ⊥ = λ p a. both_ways (R t) f (from_partner m cR t lo up p a) in
      record {
        split = s;
        own = (
          false_from_ne_true (S (2 * t)) (λ a. both_ways (R t) f (from_low cR t lo (deeper (2 * t) (omega arith) a))),
          false_from_ne_true (S (2 * t + 1)) (λ a. both_ways (R t) f (from_high cR t lo (deeper (2 * t + 1) (omega arith) a))),
        );
        others = λ p.
            let n : t < 2 * φ.partner t = near m t lo up p in
            let low : φ.roots ≤ φ.partner t = (m.inside t lo up p).0 in (
              false_from_ne_true (S (2 * φ.partner t)) (λ a. mated p (from_low cR (φ.partner t) low (deeper (2 * φ.partner t) n a))),
              false_from_ne_true (S (2 * φ.partner t + 1)) (λ a. mated p (from_high cR (φ.partner t) low (deeper (2 * φ.partner t + 1) (omega arith) a))),
            );
        free = false_from_ne_true (K t) (λ k. both_ways (R t) f (pins t k));
        free_other = λ p. false_from_ne_true (K (φ.partner t)) (λ k. mated p (pins (φ.partner t) k));
      }

  -- the greatest triangle of S outside R, from t on, or that there is none
  last_at : (k t : ℕ) → φ.finest ≤ t + k → ((u : ℕ) × (t ≤ u) × (S u ≡ true) × (R u ≡ false) × ((v : ℕ) → u < v → S v ≡ true → R v ≡ true)) ⊎ ((u : ℕ) → t ≤ u → S u ≡ true → R u ≡ true)
  last_at zero t h = inr (λ u l s. absurd (omega (arith, cS.range u s)))
  last_at (suc k) t h = go (last_at k (suc t) (omega arith)) (cases_Bool (S t)) (cases_Bool (R t))
    where
      from : ((u : ℕ) → suc t ≤ u → S u ≡ true → R u ≡ true) → (S t ≡ true → R t ≡ true) → (u : ℕ) → (t < u) ⊎ (u ≤ t) → t ≤ u → S u ≡ true → R u ≡ true
      from all here u (inl l) le s = all u (omega arith) s
      from all here u (inr l) le s =
          let e : u ≡ t = omega arith in
          rw e (here (rw e at s))

      go : ((u : ℕ) × (suc t ≤ u) × (S u ≡ true) × (R u ≡ false) × ((v : ℕ) → u < v → S v ≡ true → R v ≡ true)) ⊎ ((u : ℕ) → suc t ≤ u → S u ≡ true → R u ≡ true) →
          (S t ≡ true) ⊎ (S t ≡ false) → (R t ≡ true) ⊎ (R t ≡ false) →
          ((u : ℕ) × (t ≤ u) × (S u ≡ true) × (R u ≡ false) × ((v : ℕ) → u < v → S v ≡ true → R v ≡ true)) ⊎ ((u : ℕ) → t ≤ u → S u ≡ true → R u ≡ true)
      go (inl z) a b = inl (z.0, omega (arith, z.1), z.2, z.3, z.4)
      go (inr all) (inl a) (inr b) = inl (t, omega arith, a, b, λ v l s. all v (omega arith) s)
      go (inr all) (inl a) (inl b) = inr (λ u. from all (λ _. b) u (cases_lt t u))
      go (inr all) (inr a) b = inr (λ u. from all (λ s. absurd (both_ways (S t) a s)) u (cases_lt t u))

  -- a set that is not within R has a mergeable diamond outside R
  pub some_mergeable : (i : ℕ) → S i ≡ true → R i ≡ false → (t : ℕ) × Mergeable φ K S t × (R t ≡ false)
  some_mergeable i s f = go (last_at φ.finest 0 (omega arith))
    where
      go : ((u : ℕ) × (0 ≤ u) × (S u ≡ true) × (R u ≡ false) × ((v : ℕ) → u < v → S v ≡ true → R v ≡ true)) ⊎ ((u : ℕ) → 0 ≤ u → S u ≡ true → R u ≡ true) → (t : ℕ) × Mergeable φ K S t × (R t ≡ false)
      go (inl z) = (z.0, deepest z.0 z.4 z.2 z.3, z.3)
      go (inr all) = absurd (both_ways (R i) f (all i (omega arith) s))

  -- where R splits every mergeable diamond of S, it splits all of S
  pub all_within : ((i : ℕ) → Mergeable φ K S i → R i ≡ true) → Subset S R
  all_within all i s = true_from_ne_false (R i) (λ f. let z = some_mergeable i s f in both_ways (R z.0) z.2 (all z.0 z.1))
