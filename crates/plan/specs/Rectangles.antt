-- Rectangles on the plan, and when one touches a box.
use Rattle.std.specs.Prelude.{ℕ, ◌*◌, ◌<◌, ◌≤◌, min, max, Bool, ◌&&◌, nat_le}
use Rattle.bintree.specs.declared.point.BoundingBox.{BoundingBox}
use Rattle.bintree.specs.Triangles.{at}
use Rattle.plan.specs.declared.spot.Rectangle.{Rectangle}

-- The lowest and the highest coordinates of the rectangle, whichever of its corners they are of.
abbrev pub extent : Rectangle → BoundingBox
extent w = record {
  low = at (min w.corner.x w.opposite.x) (min w.corner.y w.opposite.y);
  high = at (max w.corner.x w.opposite.x) (max w.corner.y w.opposite.y);
}

-- The point (x / k, y / k) lies in the closed box b.
pub record InBox (k x y : ℕ) (b : BoundingBox) : Type 0 where
  pub low_x : k * b.low.x ≤ x
  pub high_x : x ≤ k * b.high.x
  pub low_y : k * b.low.y ≤ y
  pub high_y : y ≤ k * b.high.y

-- The box b has a point in the closed rectangle w.
pub record Touches (w : Rectangle) (b : BoundingBox) : Type 0 where
  pub k : ℕ
  pub x : ℕ
  pub y : ℕ
  pub some : 0 < k
  pub in_rectangle : InBox k x y (extent w)
  pub in_box : InBox k x y b

-- Two boxes overlap if neither ends before the other begins.
abbrev pub overlap : BoundingBox → BoundingBox → Bool
overlap a b = (nat_le b.low.x a.high.x && nat_le a.low.x b.high.x) && (nat_le b.low.y a.high.y && nat_le a.low.y b.high.y)

-- Whether the box has a point in the rectangle, decided by their ends. (That this decides `Touches` is proved, on the contract of the call.)
abbrev pub touches : Rectangle → BoundingBox → Bool
touches w b = overlap (extent w) b
