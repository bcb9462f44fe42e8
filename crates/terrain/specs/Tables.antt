-- How heights and bounds stand in memory.
use Rattle.std.specs.Prelude.{ℕ, ◌+◌, ◌*◌, cond, List, slice_index}
use Rattle.bintree.specs.declared.point.Point.{Point}
use Rattle.bintree.specs.Orders.{is_triangle}
use Rattle.terrain.specs.Heights.{Heights, is_sample}
use Rattle.terrain.specs.Bounds.{Bounds}

-- Heights stand in rows of 65 whatever the order, row y = 0 first, x rising: this is the place of the sample p.
abbrev pub place : Point → ℕ
place p = p.y * 65 + p.x

-- The heights that a list holds at order n. Places that belong to no sample of that order hold none.
unfoldable pub heights_in : ℕ → List ℕ → Heights
heights_in n zs p = cond (is_sample n p) (slice_index zs (place p)) 0

-- The bounds that a list holds at order n: that of triangle i stands at place i. Places that belong to no triangle of that order hold none.
unfoldable pub bounds_in : ℕ → List ℕ → Bounds
bounds_in n bs i = cond (is_triangle n i) (slice_index bs i) 0
