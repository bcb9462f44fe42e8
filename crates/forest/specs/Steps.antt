-- The steps of an update: merges where one is called for, else splits of a triangle with the largest number.
use Rattle.std.specs.Prelude.{◌≡◌, ℕ, zero, suc, ◌<◌, ◌≤◌, ◌⊎◌}
use Rattle.forest.specs.Forests.{Forest}
use Rattle.forest.specs.SplitSets.{Set, Present, Mergeable, Forced, merged, count}
use Rattle.forest.specs.Rules.{diamond, worst, Apart}

-- A merge step from S to T, with the tolerance e and the budget N: the diamond's number is below the largest, or at most e, or there are too many triangles.
pub record MergeStep (φ : Forest) (K : Set) (number : ℕ → ℕ) (e N : ℕ) (S T : Set) : Type 0 where
  pub at : ℕ
  pub mergeable : Mergeable φ K S at
  pub called : (diamond φ number at < worst φ number S) ⊎ ((diamond φ number at ≤ e) ⊎ (N < count φ S))
  pub gives : T ≡ merged φ at S

-- A split step: no merge is called for, the triangle has the largest number, that is above e, and the mesh keeps within the budget.
pub record SplitStep (φ : Forest) (K : Set) (number : ℕ → ℕ) (e N : ℕ) (S T : Set) : Type 0 where
  pub at : ℕ
  pub there : Present φ S at
  pub splittable : at < φ.finest
  pub top : number at ≡ worst φ number S
  pub over : e < number at
  pub apart : Apart φ K number (worst φ number S) S
  pub gives : Forced φ S at T
  pub room : count φ T ≤ N

-- k steps lead from S to U.
abbrev pub Run : Forest → Set → (ℕ → ℕ) → ℕ → ℕ → ℕ → Set → Set → Type 0
Run φ K number e N zero S U = S ≡ U
Run φ K number e N (suc k) S U = (T : Set) × (MergeStep φ K number e N S T ⊎ SplitStep φ K number e N S T) × Run φ K number e N k T U
