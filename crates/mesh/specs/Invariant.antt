-- What a mesh never has: a hole, an overlap or a crack. These are the facts that every `Mesh` value carries.
use Rattle.std.specs.Prelude.{◌≡◌, ℕ, ◌/◌, ◌^◌, Bool, true, false, List, slice_index_or}
use Rattle.bintree.specs.declared.point.Point.{Point}
use Rattle.bintree.specs.Triangles.{corners}
use Rattle.bintree.specs.Meshes.{Triangles, Within, IsFinest, Corner, OnEdge}

-- The set of the numbers whose flags are set.
abbrev pub flagged : List Bool → Triangles
flagged flags i = slice_index_or flags i false

-- A hole: a finest triangle that lies in none of the triangles of P.
pub record Hole (n : ℕ) (P : Triangles) : Type 0 where
  pub finest : ℕ
  pub is_finest : IsFinest n finest
  pub uncovered : (k : ℕ) → P (finest / 2 ^ k) ≡ false

-- An overlap: a finest triangle that lies in two different triangles of P.
pub record Overlap (n : ℕ) (P : Triangles) : Type 0 where
  pub finest : ℕ
  pub is_finest : IsFinest n finest
  pub first : ℕ
  pub second : ℕ
  pub differ : first ≡ second → ⊥
  pub first_present : P first ≡ true
  pub second_present : P second ≡ true
  pub in_first : Within finest first
  pub in_second : Within finest second

-- A crack: a corner of one triangle of P that lies on an edge of another, strictly between that edge's ends.
pub record Crack (n : ℕ) (P : Triangles) : Type 0 where
  pub first : ℕ
  pub second : ℕ
  pub differ : first ≡ second → ⊥
  pub first_present : P first ≡ true
  pub second_present : P second ≡ true
  pub point : Point
  pub corner : Corner point (corners n first)
  pub on_edge : OnEdge point (corners n second)
