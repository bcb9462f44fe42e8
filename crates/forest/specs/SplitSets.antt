-- Meshes of a forest, each by the set of the triangles that it splits.
use Rattle.std.specs.Prelude.{◌≡◌, ℕ, zero, suc, ◌+◌, ◌*◌, ◌/◌, ◌<◌, ◌≤◌, Bool, true, false, cond, not, ◌&&◌, ◌||◌, ◌==◌, nat_le, nat_lt}
use Rattle.forest.specs.Forests.{Forest}

-- A set of triangles: S i ≡ true says that triangle i is in S.
abbrev pub Set : Type 0
Set = ℕ → Bool

-- The empty set.
abbrev pub none : Set
none i = false

-- Everything in S is in R.
abbrev pub Subset : Set → Set → Type 0
Subset S R = (i : ℕ) → S i ≡ true → R i ≡ true

-- S with i.
abbrev pub add : ℕ → Set → Set
add i S x = cond (x == i) true (S x)

-- S without i.
abbrev pub del : ℕ → Set → Set
del i S x = cond (x == i) false (S x)

-- S is the split set of a crack-free mesh: it is closed, that is, it holds splittable triangles only, and with a triangle its parent and its partner.
pub record Closed (φ : Forest) (S : Set) : Type 0 where
  pub range : (i : ℕ) → S i ≡ true → (φ.roots ≤ i) × (i < φ.finest)
  pub up : (i : ℕ) → S i ≡ true → 2 * φ.roots ≤ i → S (i / 2) ≡ true
  pub across : (i : ℕ) → S i ≡ true → 0 < φ.partner i → S (φ.partner i) ≡ true

-- Triangle i is in the mesh that splits S: it is not split itself, and is a root or a half of a split triangle.
pub record Present (φ : Forest) (S : Set) (i : ℕ) : Type 0 where
  pub range : (φ.roots ≤ i) × (i < 2 * φ.finest)
  pub whole : S i ≡ false
  pub above : 2 * φ.roots ≤ i → S (i / 2) ≡ true

-- The mesh that splits S, as a set. (Nothing past the finest is in it where S is closed.)
abbrev pub mesh : Forest → Set → Set
mesh φ S i = nat_le φ.roots i && (not (S i) && (nat_lt i (2 * φ.roots) || S (i / 2)))

-- 1 for true, 0 for false.
abbrev pub one_if : Bool → ℕ
one_if true = 1
one_if false = 0

-- The sum of f over the numbers below b.
abbrev pub sum_below : (ℕ → ℕ) → ℕ → ℕ
sum_below f zero = 0
sum_below f (suc b) = sum_below f b + f b

-- How many numbers below b are in S.
unfoldable pub size : ℕ → Set → ℕ
size b S = sum_below (λ i. one_if (S i)) b

-- How many triangles the mesh that splits S has.
unfoldable pub count : Forest → Set → ℕ
unfolding size
count φ S = size (2 * φ.finest) (mesh φ S)

-- Triangle i may be split next: it is splittable, and a root or a half of a split triangle.
pub record Ready (φ : Forest) (S : Set) (i : ℕ) : Type 0 where
  pub range : (φ.roots ≤ i) × (i < φ.finest)
  pub above : 2 * φ.roots ≤ i → S (i / 2) ≡ true

-- A forced split of i gives F: the least closed set that has S and i.
pub record Forced (φ : Forest) (S : Set) (i : ℕ) (F : Set) : Type 0 where
  pub closed : Closed φ F
  pub keeps : Subset S F
  pub has : F i ≡ true
  pub least : (G : Set) → Closed φ G → Subset S G → G i ≡ true → Subset F G

-- No half of i is split.
abbrev pub Unsplit : Set → ℕ → Type 0
Unsplit S i = (S (2 * i) ≡ false) × (S (2 * i + 1) ≡ false)

-- The diamond of i, that is, i and its partner, can be merged: i is split, no half of the two is, and neither of the two is in K, the set of the triangles
-- that are to stay split.
pub record Mergeable (φ : Forest) (K S : Set) (i : ℕ) : Type 0 where
  pub split : S i ≡ true
  pub own : Unsplit S i
  pub others : 0 < φ.partner i → Unsplit S (φ.partner i)
  pub free : K i ≡ false
  pub free_other : 0 < φ.partner i → K (φ.partner i) ≡ false

-- How many triangles a diamond has, by the partner of one of them.
abbrev pub one_or_two : ℕ → ℕ
one_or_two zero = 1
one_or_two (suc p) = 2

-- How many triangles the diamond of i has.
abbrev pub diamond_size : Forest → ℕ → ℕ
diamond_size φ i = one_or_two (φ.partner i)

-- S without the diamond of i.
abbrev pub merged : Forest → ℕ → Set → Set
merged φ i S = del i (del (φ.partner i) S)

-- L is the least closed set that has K.
pub record Floor (φ : Forest) (K L : Set) : Type 0 where
  pub closed : Closed φ L
  pub keeps : Subset K L
  pub least : (G : Set) → Closed φ G → Subset K G → Subset L G
