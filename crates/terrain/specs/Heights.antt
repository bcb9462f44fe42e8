-- The heights of the samples of a square.
use Rattle.std.specs.Prelude.{ℕ, Bool, cond, ◌&&◌, nat_le}
use Rattle.bintree.specs.declared.point.Point.{Point}
use Rattle.bintree.specs.Orders.{side}
use Rattle.bintree.specs.Triangles.{same_point}

-- A point is a sample of order n if neither its x nor its y is above 2^n.
abbrev pub is_sample : ℕ → Point → Bool
is_sample n p = nat_le p.x (side n) && nat_le p.y (side n)

-- A height for each sample, and 0 for any point that is none.
abbrev pub Heights : Type 0
Heights = Point → ℕ

-- All heights are 0.
abbrev pub flat : Heights
flat p = 0

-- The heights z, but h at the point p.
unfoldable pub put_height : Point → ℕ → Heights → Heights
put_height p h z q = cond (same_point q p) h (z q)
