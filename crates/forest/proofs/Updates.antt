-- How many steps an update makes. Once no merge is called for, none is called for again; a merge takes a triangle away at least, and a split adds one at least.
use Rattle.std.proofs.Common.{◌≡◌, ℕ, zero, suc, ◌+◌, ◌-◌, ◌<◌, ◌≤◌, ◌⊎◌, inl, inr, arith}
use Rattle.forest.specs.Forests.{Forest, Lawful}
use Rattle.forest.specs.SplitSets.{Set, Subset, Closed, Floor, merged, count}
use Rattle.forest.specs.Rules.{Rule, Fine, Needed, Apart, diamond, worst}
use Rattle.forest.specs.Steps.{MergeStep, SplitStep, Run}
use Rattle.forest.proofs.Sums.{size_lt, count_size, count_le, worst_fine, worst_le}
use Rattle.forest.proofs.Merging.{merged_closed, merged_keeps, merged_less}
use Rattle.forest.proofs.Optimum.{split_apart, split_fine}

module _ {φ : Forest} {number : ℕ → ℕ} (m : Lawful φ) (law : Rule φ number) (K L : Set) (floor : Floor φ K L) (e N : ℕ) where
  -- no merge is called for
  record Settled (S : Set) : Type 0 where
    closed : Closed φ S
    apart : Apart φ K number (worst φ number S) S
    needed : Needed φ K number e S
    room : count φ S ≤ N

  split_settles : (S T : Set) → Closed φ S → SplitStep φ K number e N S T → Settled T × (count φ S < count φ T)
  split_settles S T c s =
      let f = s.gives in
      let fine : Fine φ number (number s.at) S = λ i p. omega (arith, worst_fine φ S number i p, s.top) in
      let less : worst φ number T ≤ number s.at = worst_le φ T number (number s.at) (split_fine m law K S T c s.at f fine) in
      let apart : Apart φ K number (number s.at) T = split_apart m law K S T c s.at f (λ i g. omega (arith, s.apart i g, s.top)) in (
        record { closed = f.closed; apart = λ i g. omega (arith, apart i g); needed = λ i g. omega (arith, apart i g, s.over); room = s.room },
        omega (arith, count_size m S c, count_size m T f.closed, size_lt φ.finest S T f.keeps s.at s.splittable s.there.whole f.has),
      )

  splits_only : (k : ℕ) (S U : Set) → Settled S → Run φ K number e N k S U → k + count φ S ≤ N
  splits_only zero S U z r = omega (arith, z.room)
  splits_only (suc k) S U z (T, st, r) = go st (splits_only k T U)
    where
      go : MergeStep φ K number e N S T ⊎ SplitStep φ K number e N S T → (Settled T → Run φ K number e N k T U → k + count φ T ≤ N) → suc k + count φ S ≤ N
      go (inl g) ih = absurd (no_merge g.called)
        where
          no_merge : (diamond φ number g.at < worst φ number S) ⊎ ((diamond φ number g.at ≤ e) ⊎ (N < count φ S)) → ⊥
          no_merge (inl h) = omega (arith, z.apart g.at g.mergeable)
          no_merge (inr (inl h)) = omega (arith, z.needed g.at g.mergeable)
          no_merge (inr (inr h)) = omega (arith, z.room)
      go (inr s) ih =
          let q = split_settles S T z.closed s in
          omega (arith, ih q.0 r, q.1)

  pub run_ends : (k : ℕ) (S U : Set) → Closed φ S → Subset K S → Run φ K number e N k S U → k ≤ (count φ S - count φ L) + (N - count φ L)
  run_ends zero S U c w r = omega arith
  run_ends (suc k) S U c w (T, st, r) = go st (run_ends k T U)
    where
      go : MergeStep φ K number e N S T ⊎ SplitStep φ K number e N S T →
          (Closed φ T → Subset K T → Run φ K number e N k T U → k ≤ (count φ T - count φ L) + (N - count φ L)) → suc k ≤ (count φ S - count φ L) + (N - count φ L)
      go (inl g) ih =
          let q : T ≡ merged φ g.at S = g.gives in
          let c' : Closed φ T = rw q (merged_closed m K S c g.at g.mergeable) in
          let w' : Subset K T = rw q (merged_keeps m K S c g.at g.mergeable w) in
          let l : count φ T < count φ S = rw q (merged_less m K S c g.at g.mergeable) in
          omega (arith, ih c' w' r, count_le m L T floor.closed c' (floor.least T c' w'))
      go (inr s) ih =
          let q = split_settles S T c s in
          omega (arith, splits_only k T U q.0 r, q.1, count_le m L S floor.closed c (floor.least S c w))
