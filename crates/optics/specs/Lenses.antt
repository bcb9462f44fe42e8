-- What a bound comes to when it is seen through a lens.
use Rattle.std.specs.Prelude.{ℕ, ◌+◌, ◌-◌, ◌*◌, ◌/◌, min, max, ℤ, pos, negsuc, Some, None, Option}
use Rattle.bintree.specs.declared.point.BoundingBox.{BoundingBox}
use Rattle.optics.specs.declared.lens.Eye.{Eye}
use Rattle.optics.specs.declared.lens.Lens.{Lens}

-- How far a number lies from the closed interval from low to high: 0 within it. (`negsuc e` is −(e + 1).)
abbrev pub gap : ℤ → ℕ → ℕ → ℕ
gap (pos e) low high = max (low - e) (e - high)
gap (negsuc e) low high = low + (e + 1)

-- The distance D from an eye to a box, in sixteenths of a spacing: the greater of the distances in x and in y. It is 0 from overhead.
abbrev pub distance : Option Eye → BoundingBox → ℕ
distance (Some e) b = max (gap e.x (16 * b.low.x) (16 * b.high.x)) (gap e.y (16 * b.low.y) (16 * b.high.y))
distance None b = 0

-- The bound b under the focal length f at the distance D: the whole part of b·f / (D + 16), or 4,294,967,295 where that is greater.
abbrev pub shown : ℕ → ℕ → ℕ → ℕ
shown b f far = min (b * f / (far + 16)) 4294967295

-- The bound b of a triangle with this bounding box, through a lens.
abbrev pub seen : Lens → ℕ → BoundingBox → ℕ
seen l b corner_box = shown b l.focal (distance l.eye corner_box)
