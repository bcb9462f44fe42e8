-- Lines on the plan, and when one meets a triangle.
use Rattle.std.specs.Prelude.{◌≡◌, ℕ, ◌+◌, ◌*◌, ◌<◌, Bool, not, ◌&&◌, nat_lt}
use Rattle.bintree.specs.declared.point.Point.{Point}
use Rattle.bintree.specs.declared.point.Way.{Way}
use Rattle.bintree.specs.declared.point.Corners.{Corners}
use Rattle.bintree.specs.Triangles.{at}
use Rattle.bintree.specs.Samples.{rising, falling, way}
use Rattle.plan.specs.declared.spot.Spot.{Spot}
use Rattle.plan.specs.declared.spot.Line.{Line}

-- A spot as a point of the samples' plane.
abbrev pub spot_point : Spot → Point
spot_point s = at s.x s.y

-- A line as the way from one of its ends to the other.
abbrev pub line_way : Line → Way
line_way l = way (spot_point l.from) (spot_point l.to)

-- The closed line between a and b and the closed triangle t have a point in common: the mean of a and b with the weights u and v is the mean
-- of the corners with the weights wa, wl and wr. Weights are whole, and none is negative.
pub record Meets (a b : Point) (t : Corners) : Type 0 where
  pub u : ℕ
  pub v : ℕ
  pub wa : ℕ
  pub wl : ℕ
  pub wr : ℕ
  pub some : 0 < u + v
  pub sum : u + v ≡ wa + wl + wr
  pub on_x : u * a.x + v * b.x ≡ wa * t.apex.x + wl * t.left.x + wr * t.right.x
  pub on_y : u * a.y + v * b.y ≡ wa * t.apex.y + wl * t.left.y + wr * t.right.y

-- The point v lies strictly to the right of the way from p to q.
abbrev pub beyond : Point → Point → Point → Bool
beyond p q v = nat_lt (rising p q v) (falling p q v)

-- Both a and b lie beyond the edge from p to q. (A triangle lies to the left of its edges.)
abbrev pub cut_off : Point → Point → Point → Point → Bool
cut_off p q a b = beyond p q a && beyond p q b

-- All corners of t lie strictly to the right of the way from a to b.
abbrev pub all_beyond : Point → Point → Corners → Bool
all_beyond a b t = (beyond a b t.apex && beyond a b t.left) && beyond a b t.right

-- Whether the two meet, decided in whole numbers: they miss each other exactly if all of the line lies beyond one edge of the triangle, or all of the
-- triangle strictly on one side of the line. (That this decides `Meets` is proved, on the contract of the call.)
unfoldable pub meets : Point → Point → Corners → Bool
meets a b t =
    not (cut_off t.left t.right a b)
    && (not (cut_off t.right t.apex a b)
    && (not (cut_off t.apex t.left a b)
    && (not (all_beyond a b t) && not (all_beyond b a t))))
