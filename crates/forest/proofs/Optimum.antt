-- What a calm mesh is: met, held, finest; and it stays calm when its top is split. After such a split the only new mergeable diamond is that of the top: without any
-- other one, what is left would be a smaller closed set with the top.
use Rattle.std.proofs.Common.{◌≡◌, ℕ, ◌+◌, ◌*◌, ◌<◌, ◌≤◌, true, false, ◌⊎◌, inl, inr, arith}
use Rattle.std.proofs.lemmas.Bool.{cases_Bool, cases_lt, cases_eq, both_ways, false_from_ne_true, true_from_ne_false}
use Rattle.forest.specs.Forests.{Forest, Lawful}
use Rattle.forest.specs.SplitSets.{Set, Subset, Closed, Forced, merged, count}
use Rattle.forest.specs.Rules.{Rule, diamond, Fine, Apart, worst, Top, Calm, Met, Held, Finest}
use Rattle.forest.proofs.Basics.{from_partner}
use Rattle.forest.proofs.Sums.{count_le, worst_fine, worst_le}
use Rattle.forest.proofs.Merging.{merged_has, merged_out, merged_closed}
use Rattle.forest.proofs.KeyLemma.{key, below, greater_own, greater_other}

module _ {φ : Forest} {number : ℕ → ℕ} (m : Lawful φ) (law : Rule φ number) (K S F : Set) (cS : Closed φ S) (t : ℕ) (f : Forced φ S t F) where
  -- what F does not split, S does not
  fewer : (x : ℕ) → F x ≡ false → S x ≡ false
  fewer x out = false_from_ne_true (S x) (λ s. both_ways (F x) out (f.keeps x s))

  pub split_apart : Apart φ K number (number t) S → Apart φ K number (number t) F
  split_apart apart i g = go (cases_Bool (S i)) (cases_eq t i) (cases_eq t (φ.partner i))
    where
      go : (S i ≡ true) ⊎ (S i ≡ false) → (t ≡ i) ⊎ (t ≡ i → ⊥) → (t ≡ φ.partner i) ⊎ (t ≡ φ.partner i → ⊥) → number t ≤ diamond φ number i
      go (inl s) a b = apart i (record {
        split = s;
        own = (fewer (2 * i) g.own.0, fewer (2 * i + 1) g.own.1);
        others = λ p. (fewer (2 * φ.partner i) (g.others p).0, fewer (2 * φ.partner i + 1) (g.others p).1);
        free = g.free;
        free_other = g.free_other;
      })
      go (inr s) (inl e) b = rw e (greater_own number i (φ.partner i))
      go (inr s) (inr n) (inl e) = rw e (greater_other number i (φ.partner i) (omega (arith, m.some, f.closed.range t f.has)))
      go (inr s) (inr n) (inr k) =
          let r = f.closed.range i g.split in
          let w : Subset S (merged φ i F) = λ x y. merged_has φ F i x
          (λ e. both_ways (S i) s (from_partner m cS i r.0 r.1 (omega (arith, cS.range x y, m.some)) (rw e at y)))
          (λ e. both_ways (S i) s (rw e at y)) (f.keeps x y) in
          let sub : Subset F (merged φ i F) = f.least (merged φ i F) (merged_closed m K F f.closed i g) w (merged_has φ F i t k n f.has) in
          absurd (both_ways (merged φ i F i) (merged_out φ F i) (sub i g.split))

  pub split_fine : Fine φ number (number t) S → Fine φ number (number t) F
  split_fine fine x p = below m law (number t) S fine x p.range.0 p.range.1 (fewer x p.whole)

module _ {φ : Forest} {number : ℕ → ℕ} (m : Lawful φ) (law : Rule φ number) (K : Set) (e : ℕ) (S : Set) (c : Closed φ S) (calm : Calm φ K number e S) (t : ℕ) (top : Top φ number S t) where
  apart : Apart φ K number (number t) S
  apart i g = calm.apart i g t top.there

  least_worst : worst φ number S ≤ number t
  least_worst = worst_le φ S number (number t) top.most

  pub is_met : number t ≤ e → Met φ K number e S
  is_met h = record {
    fine = λ i p. omega (arith, top.most i p);
    least = λ R r fine.
        let w = key m law e K S R c r.closed r.keeps calm.needed fine in
        (w, count_le m S R c r.closed w);
  }

  -- a rival with a smaller largest number splits S and the top, and so all that the forced split of the top splits
  pub is_held : (N : ℕ) (F : Set) → t < φ.finest → Forced φ S t F → N < count φ F → Held φ K number N S
  is_held N F lt f big R r small = go (cases_lt (worst φ number R) (number t))
    where
      go : (worst φ number R < number t) ⊎ (number t ≤ worst φ number R) → worst φ number S ≤ worst φ number R
      go (inr h) = omega (arith, least_worst)
      go (inl h) =
          let fine = worst_fine φ R number in
          let sub : Subset S R = key m law (worst φ number R) K S R c r.closed r.keeps (λ i g. omega (arith, apart i g)) fine in
          let has : R t ≡ true = true_from_ne_false (R t) (λ out. omega (arith, below m law (worst φ number R) R fine t top.there.range.0 (omega arith) out)) in
          absurd (omega (arith, count_le m F R f.closed r.closed (f.least R r.closed sub has)))

  pub is_finest : φ.finest ≤ t → Finest φ K number S
  is_finest l R r =
      let p = top.there.range in
      omega (arith, least_worst, below m law (worst φ number R) R (worst_fine φ R number) t p.0 p.1 (false_from_ne_true (R t) (λ y. omega (arith, r.closed.range t y))))

  pub stays_calm : (F : Set) → e < number t → Forced φ S t F → Calm φ K number e F
  stays_calm F more f =
      let far = split_apart m law K S F c t f apart in
      let fine = split_fine m law K S F c t f top.most in
      record { needed = λ i g. omega (arith, far i g); apart = λ i g x p. omega (arith, far i g, fine x p) }
