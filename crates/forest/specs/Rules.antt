-- Rules, which number the triangles of a forest, and what they say of a mesh.
use Rattle.std.specs.Prelude.{ℕ, zero, suc, ◌+◌, ◌*◌, ◌<◌, ◌≤◌, max, cond}
use Rattle.forest.specs.Forests.{Forest}
use Rattle.forest.specs.SplitSets.{Set, Subset, Closed, Present, Mergeable, mesh, count}

-- A rule: no half has a number above its parent's.
pub record Rule (φ : Forest) (number : ℕ → ℕ) : Type 0 where
  pub low : (i : ℕ) → φ.roots ≤ i → i < φ.finest → number (2 * i) ≤ number i
  pub high : (i : ℕ) → φ.roots ≤ i → i < φ.finest → number (2 * i + 1) ≤ number i

-- The greater of the numbers of i and of its partner p, 0 for none.
abbrev pub greater : (ℕ → ℕ) → ℕ → ℕ → ℕ
greater number i zero = number i
greater number i (suc p) = max (number i) (number (suc p))

-- The number of the diamond of i: the greater of its triangles' numbers.
abbrev pub diamond : Forest → (ℕ → ℕ) → ℕ → ℕ
diamond φ number i = greater number i (φ.partner i)

-- No triangle of the mesh of S has a number above e.
abbrev pub Fine : Forest → (ℕ → ℕ) → ℕ → Set → Type 0
Fine φ number e S = (i : ℕ) → Present φ S i → number i ≤ e

-- Every mergeable diamond of S has a number above e.
abbrev pub Needed : Forest → Set → (ℕ → ℕ) → ℕ → Set → Type 0
Needed φ K number e S = (i : ℕ) → Mergeable φ K S i → e < diamond φ number i

-- Every mergeable diamond of S has a number of at least m.
abbrev pub Apart : Forest → Set → (ℕ → ℕ) → ℕ → Set → Type 0
Apart φ K number m S = (i : ℕ) → Mergeable φ K S i → m ≤ diamond φ number i

-- The largest value of f over the numbers below b.
abbrev pub max_below : (ℕ → ℕ) → ℕ → ℕ
max_below f zero = 0
max_below f (suc b) = max (max_below f b) (f b)

-- The largest number of a triangle of the mesh of S.
unfoldable pub worst : Forest → (ℕ → ℕ) → Set → ℕ
worst φ number S = max_below (λ i. cond (mesh φ S i) (number i) 0) (2 * φ.finest)

-- Triangle i is in the mesh of S, and no triangle there has a greater number.
pub record Top (φ : Forest) (number : ℕ → ℕ) (S : Set) (i : ℕ) : Type 0 where
  pub there : Present φ S i
  pub most : Fine φ number (number i) S

-- Every mergeable diamond is worth its triangles: it is above e, and no triangle of the mesh is above it.
pub record Calm (φ : Forest) (K : Set) (number : ℕ → ℕ) (e : ℕ) (S : Set) : Type 0 where
  pub needed : Needed φ K number e S
  pub apart : (i : ℕ) → Mergeable φ K S i → Fine φ number (diamond φ number i) S

-- The rivals of a mesh: all closed sets that have K.
pub record Rival (φ : Forest) (K R : Set) : Type 0 where
  pub closed : Closed φ R
  pub keeps : Subset K R

-- Met: no number is above e, and every rival with none above e splits all that S splits, and so has at least as many triangles.
pub record Met (φ : Forest) (K : Set) (number : ℕ → ℕ) (e : ℕ) (S : Set) : Type 0 where
  pub fine : Fine φ number e S
  pub least : (R : Set) → Rival φ K R → Fine φ number e R → Subset S R × (count φ S ≤ count φ R)

-- Held: no rival of at most N triangles has a smaller largest number.
abbrev pub Held : Forest → Set → (ℕ → ℕ) → ℕ → Set → Type 0
Held φ K number N S = (R : Set) → Rival φ K R → count φ R ≤ N → worst φ number S ≤ worst φ number R

-- Finest: no rival at all has one.
abbrev pub Finest : Forest → Set → (ℕ → ℕ) → Set → Type 0
Finest φ K number S = (R : Set) → Rival φ K R → worst φ number S ≤ worst φ number R
