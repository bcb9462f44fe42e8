-- Every corner of a triangle lies in the square: a root's corners are the square's, and a middle lies between.
use Rattle.std.proofs.Common.{◌≡◌, ℕ, zero, suc, ◌/◌, ◌%◌, ◌≤◌, Bool, true, false, eqb, ltb, arith}
use Rattle.bintree.specs.declared.point.Point.{Point}
use Rattle.bintree.specs.declared.point.Corners.{Corners}
use Rattle.bintree.specs.declared.triangle.Triangle.{Triangle}
use Rattle.bintree.specs.Orders.{side}
use Rattle.bintree.specs.Views.{order_of, number_of}
use Rattle.bintree.specs.Triangles.{low_half, high_half, root_two, root_three, corners_at, corners}

-- the point lies in the square of side s
abbrev pub PointIn : ℕ → Point → Type 0
PointIn s p = record { across : p.x ≤ s; along : p.y ≤ s }

pub record CornersIn (s : ℕ) (t : Corners) : Type 0 where
  pub apex : PointIn s t.apex
  pub left : PointIn s t.left
  pub right : PointIn s t.right

low_in : (s : ℕ) (t : Corners) → CornersIn s t → CornersIn s (low_half t)
low_in s t h = record { apex = record { across = omega (arith, h.left.across, h.right.across); along = omega (arith, h.left.along, h.right.along) }; left = h.apex; right = h.left }

high_in : (s : ℕ) (t : Corners) → CornersIn s t → CornersIn s (high_half t)
high_in s t h = record { apex = record { across = omega (arith, h.left.across, h.right.across); along = omega (arith, h.left.along, h.right.along) }; left = h.right; right = h.apex }

two_in : (s : ℕ) → CornersIn s (root_two s)
two_in s = record { apex = record { across = omega arith; along = omega arith }; left = record { across = omega arith; along = omega arith }; right = record { across = omega arith; along = omega arith } }

three_in : (s : ℕ) → CornersIn s (root_three s)
three_in s = record { apex = record { across = omega arith; along = omega arith }; left = record { across = omega arith; along = omega arith }; right = record { across = omega arith; along = omega arith } }

corners_at_in : (k s i : ℕ) → CornersIn s (corners_at k s i)
corners_at_in zero s i = two_in s
corners_at_in (suc k) s i = go (ltb i 4) (eqb i 2) (eqb (i % 2) 0) (corners_at_in k s (i / 2))
  where
    go : (b c d : Bool) → CornersIn s (corners_at k s (i / 2)) → CornersIn s (elim b as (λ _. Corners) [
      | true ↦ elim c [ true ↦ root_two s | false ↦ root_three s ]
      | false ↦ elim d [ true ↦ low_half (corners_at k s (i / 2)) | false ↦ high_half (corners_at k s (i / 2)) ]
    ])
    go true true d ih = two_in s
    go true false d ih = three_in s
    go false c true ih = low_in s (corners_at k s (i / 2)) ih
    go false c false ih = high_in s (corners_at k s (i / 2)) ih

pub corners_in : (n i : ℕ) → CornersIn (side n) (corners n i)
unfolding corners
corners_in n i = corners_at_in i (side n) i

-- the corners that the code has of a triangle
pub placed : (t : Triangle) (n : ℕ) (x : Corners) → n ≡ order_of t → x ≡ corners (order_of t) (number_of t) → CornersIn (side n) x
placed t n x o e = rw (o, e) (corners_in (order_of t) (number_of t))
