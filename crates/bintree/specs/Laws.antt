-- What is proved of triangles and meshes. Each law stands on the contract of a call.
use Rattle.std.specs.Prelude.{◌≡◌, ℕ, ◌+◌, ◌-◌, ◌*◌, ◌^◌, ◌<◌, ◌≤◌, true, ◌⊎◌, ◌≢◌}
use Rattle.bintree.specs.declared.point.Point.{Point}
use Rattle.bintree.specs.declared.point.Corners.{Corners}
use Rattle.bintree.specs.Orders.{end, first_finest}
use Rattle.bintree.specs.Triangles.{corners, low_half, high_half, centre, level, partners, partner}
use Rattle.bintree.specs.Samples.{area, box, BoxIn, LiesIn}
use Rattle.bintree.specs.Meshes.{Triangles, Within, IsMesh, Corner, CrackFree, SplitsPartners}

-- The level of i is one less than the whole part of its logarithm to base 2, and the halves are one level deeper.
pub record LevelLaws (i : ℕ) : Type 0 where
  pub low : 2 ^ (level i + 1) ≤ i
  pub high : i < 2 ^ (level i + 2)
  pub halves : (level (2 * i) ≡ level i + 1) × (level (2 * i + 1) ≡ level i + 1)

-- The halves of triangle i of order n are 2i and 2i + 1.
pub record HalfLaws (n i : ℕ) : Type 0 where
  pub low : corners n (2 * i) ≡ low_half (corners n i)
  pub high : corners n (2 * i + 1) ≡ high_half (corners n i)

-- The doubled area of a triangle is 2^(2n − level).
abbrev pub Area : ℕ → ℕ → Type 0
Area n i = area (corners n i) ≡ 2 ^ (2 * n - level i)

-- The middle of the base of t is a whole point: nothing was rounded.
pub record WholeCentre (t : Corners) : Type 0 where
  pub on_x : 2 * (centre t).x ≡ t.left.x + t.right.x
  pub on_y : 2 * (centre t).y ≡ t.left.y + t.right.y

-- Every triangle of order n has these corners.
pub record CornerLaws (n : ℕ) : Type 0 where
  pub halves : (i : ℕ) → 2 ≤ i → HalfLaws n i
  pub areas : (i : ℕ) → 2 ≤ i → i < end n → Area n i
  pub centres : (i : ℕ) → 2 ≤ i → i < first_finest n → WholeCentre (corners n i)

-- The partner is the one other triangle of the level with the same two base ends; it is 0 only where there is none.
pub record PartnerLaws (n i : ℕ) : Type 0 where
  pub partnered : 0 < partner n i → partners n i (partner n i) ≡ true
  pub none : partner n i ≡ 0 → (j : ℕ) → partners n i j ≢ true
  pub only : (j : ℕ) → partners n i j ≡ true → j ≡ partner n i

-- Two splittable triangles with one centre are equal, or partners.
abbrev pub SameCentre : ℕ → Type 0
SameCentre n = (i j : ℕ) → 2 ≤ i → i < first_finest n → 2 ≤ j → j < first_finest n →
    centre (corners n i) ≡ centre (corners n j) → (i ≡ j) ⊎ (partner n i ≡ j)

-- The box of a half lies in the box of its parent.
abbrev pub BoxesNest : ℕ → Type 0
BoxesNest n = (i : ℕ) → 2 ≤ i → i < first_finest n →
    BoxIn (box (corners n (2 * i))) (box (corners n i)) × BoxIn (box (corners n (2 * i + 1))) (box (corners n i))

-- The point v is the centre of a splittable triangle that is i or descends from it.
pub record CentreBelow (n : ℕ) (v : Point) (i : ℕ) : Type 0 where
  pub triangle : ℕ
  pub within : Within triangle i
  pub splittable : triangle < first_finest n
  pub is_centre : centre (corners n triangle) ≡ v

-- Samples and halves: a closed half lies in its closed parent, the two halves together hold all that the parent holds, and a
-- sample in a closed triangle is a corner of it or the centre of a splittable triangle in it.
pub record SampleLaws (n : ℕ) : Type 0 where
  pub half_in_parent : (i : ℕ) (v : Point) → 2 ≤ i → i < first_finest n →
      LiesIn v (corners n (2 * i)) ⊎ LiesIn v (corners n (2 * i + 1)) → LiesIn v (corners n i)
  pub parent_in_halves : (i : ℕ) (v : Point) → 2 ≤ i → i < first_finest n →
      LiesIn v (corners n i) → LiesIn v (corners n (2 * i)) ⊎ LiesIn v (corners n (2 * i + 1))
  pub corner_or_centre : (i : ℕ) (v : Point) → 2 ≤ i → i < end n →
      LiesIn v (corners n i) → Corner v (corners n i) ⊎ CentreBelow n v i

-- The bridge: a mesh is crack-free if and only if, with every triangle, it splits that triangle's partner.
pub record Bridge (n : ℕ) : Type 0 where
  pub closed : (P : Triangles) → IsMesh n P → CrackFree n P → SplitsPartners n P
  pub crack_free : (P : Triangles) → IsMesh n P → SplitsPartners n P → CrackFree n P
