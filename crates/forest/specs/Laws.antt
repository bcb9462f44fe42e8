-- What is proved of every lawful forest.
use Rattle.std.specs.Prelude.{◌≡◌, ℕ, ◌+◌, ◌-◌, ◌*◌, ◌^◌, ◌<◌, ◌≤◌, true, false, ◌⊎◌}
use Rattle.forest.specs.Forests.{Forest, Lawful}
use Rattle.forest.specs.SplitSets.{Set, Subset, Closed, Ready, Forced, Mergeable, Floor, diamond_size, merged, size, count}
use Rattle.forest.specs.Rules.{Rule, Fine, Needed, Top, Calm, Met, Held, Finest}
use Rattle.forest.specs.Steps.{Run}

-- Splits, merges and counts.
pub record MeshLaws (φ : Forest) : Type 0 where
  -- A mesh has as many triangles as it splits, and the roots.
  pub counts : (S : Set) → Closed φ S → count φ S ≡ size φ.finest S + φ.roots
  -- Every triangle that may be split next has a forced split, which adds nothing past the level of that triangle.
  pub forced : (S : Set) (i : ℕ) → Closed φ S → Ready φ S i → (F : Set) × Forced φ S i F
  pub shallow : (S F : Set) (i k : ℕ) → Closed φ S → Forced φ S i F → i < φ.roots * 2 ^ k → (x : ℕ) → F x ≡ true → (S x ≡ true) ⊎ (x < φ.roots * 2 ^ k)
  -- A merge leaves a closed set, puts back the triangles of its diamond, and keeps what is to stay split.
  pub merges : (K S : Set) (i : ℕ) → Closed φ S → Mergeable φ K S i → Closed φ (merged φ i S) × (count φ (merged φ i S) + diamond_size φ i ≡ count φ S) × (Subset K S → Subset K (merged φ i S))
  -- A mesh that splits anything outside a closed R that has K has a diamond to merge.
  pub mergeable : (K S R : Set) → Closed φ S → Closed φ R → Subset K R → (i : ℕ) → S i ≡ true → R i ≡ false → (t : ℕ) × Mergeable φ K S t

-- The optimum, under a rule.
pub record OptimumLaws (φ : Forest) (K : Set) (number : ℕ → ℕ) : Type 0 where
  -- The key: a set whose mergeable diamonds are all above e lies in every closed set, of those that have K, whose mesh has no number above e.
  pub key : (e : ℕ) (S R : Set) → Closed φ S → Closed φ R → Subset K R → Needed φ K number e S → Fine φ number e R → Subset S R
  -- What a calm mesh with the largest number at t is.
  pub met : (e t : ℕ) (S : Set) → Closed φ S → Calm φ K number e S → Top φ number S t → number t ≤ e → Met φ K number e S
  pub held : (e t N : ℕ) (S F : Set) → Closed φ S → Calm φ K number e S → Top φ number S t → t < φ.finest → Forced φ S t F → N < count φ F → Held φ K number N S
  pub finest : (e t : ℕ) (S : Set) → Closed φ S → Calm φ K number e S → Top φ number S t → φ.finest ≤ t → Finest φ K number S
  -- A calm mesh stays calm when its top is split, so an update is a run of merges and then a run of splits.
  pub calm : (e t : ℕ) (S F : Set) → Closed φ S → Calm φ K number e S → Top φ number S t → e < number t → Forced φ S t F → Calm φ K number e F
  -- An update makes no more steps than there are triangles to take away and places to fill.
  pub ends : (L : Set) → Floor φ K L → (e N k : ℕ) (S U : Set) → Closed φ S → Subset K S → Run φ K number e N k S U → k ≤ (count φ S - count φ L) + (N - count φ L)

-- The laws of one forest: of its meshes, and of every rule on it with every set K that is to stay split.
pub record Laws (φ : Forest) : Type 0 where
  pub meshes : MeshLaws φ
  pub optimum : (K : Set) (number : ℕ → ℕ) → Rule φ number → OptimumLaws φ K number

-- They hold of every lawful forest.
abbrev pub EveryForest : Type 0
EveryForest = (φ : Forest) → Lawful φ → Laws φ
