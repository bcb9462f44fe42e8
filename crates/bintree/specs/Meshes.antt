-- Meshes: sets of triangles such that each finest triangle lies in exactly one; and what a crack is.
use Rattle.std.specs.Prelude.{◌≡◌, ℕ, ◌+◌, ◌*◌, ◌/◌, ◌^◌, ◌<◌, ◌≤◌, Bool, true, false, ◌⊎◌, ◌≢◌}
use Rattle.bintree.specs.declared.point.Point.{Point}
use Rattle.bintree.specs.declared.point.Corners.{Corners}
use Rattle.bintree.specs.Orders.{end, first_finest}
use Rattle.bintree.specs.Triangles.{corners, partner}

-- A set of triangles: P i ≡ true says that triangle i is in P.
abbrev pub Triangles : Type 0
Triangles = ℕ → Bool

-- Triangle f is triangle i or descends from it: it is i, or a half of it, or a half of a half, and so on.
abbrev pub Within : ℕ → ℕ → Type 0
Within f i = (k : ℕ) × (f / 2 ^ k ≡ i)

-- f is a finest triangle of order n.
abbrev pub IsFinest : ℕ → ℕ → Type 0
IsFinest n f = (first_finest n ≤ f) × (f < end n)

-- A mesh of order n: a set of triangles of order n such that each finest one lies in at least one of them and in at most one.
pub record IsMesh (n : ℕ) (P : Triangles) : Type 0 where
  pub triangles : (i : ℕ) → P i ≡ true → (2 ≤ i) × (i < end n)
  pub some_one : (f : ℕ) → IsFinest n f → (i : ℕ) × (P i ≡ true) × Within f i
  pub only_one : (f i j : ℕ) → IsFinest n f → P i ≡ true → P j ≡ true → Within f i → Within f j → i ≡ j

-- A mesh splits a triangle if that triangle is not in it and some descendant is.
pub record Splits (P : Triangles) (i : ℕ) : Type 0 where
  pub triangle : 2 ≤ i
  pub absent : P i ≡ false
  pub below : ℕ
  pub present : P below ≡ true
  pub within : Within below i

-- The point v lies strictly between u and w: it is their mean with two positive whole weights.
pub record Between (v u w : Point) : Type 0 where
  pub α : ℕ
  pub β : ℕ
  pub α_pos : 0 < α
  pub β_pos : 0 < β
  pub on_x : (α + β) * v.x ≡ α * u.x + β * w.x
  pub on_y : (α + β) * v.y ≡ α * u.y + β * w.y

-- v is a corner of t.
abbrev pub Corner : Point → Corners → Type 0
Corner v t = (v ≡ t.apex) ⊎ (v ≡ t.left) ⊎ (v ≡ t.right)

-- v lies on an edge of t, strictly between that edge's ends.
abbrev pub OnEdge : Point → Corners → Type 0
OnEdge v t = Between v t.left t.right ⊎ Between v t.apex t.left ⊎ Between v t.right t.apex

-- Crack-free: no corner of one of the triangles lies on an edge of another, strictly between that edge's ends.
abbrev pub CrackFree : ℕ → Triangles → Type 0
CrackFree n P = (i j : ℕ) → P i ≡ true → P j ≡ true → (i ≢ j) → (v : Point) → Corner v (corners n i) → OnEdge v (corners n j) → ⊥

-- With every triangle that it splits, P splits that triangle's partner, where there is one.
abbrev pub SplitsPartners : ℕ → Triangles → Type 0
SplitsPartners n P = (i : ℕ) → Splits P i → 0 < partner n i → Splits P (partner n i)
