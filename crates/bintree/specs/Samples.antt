-- Areas, bounding boxes, and the points that lie in a closed triangle.
use Rattle.std.specs.Prelude.{◌≡◌, ℕ, ◌+◌, ◌-◌, ◌*◌, ◌≤◌, min, max}
use Rattle.bintree.specs.declared.point.Point.{Point}
use Rattle.bintree.specs.declared.point.Way.{Way}
use Rattle.bintree.specs.declared.point.Corners.{Corners}
use Rattle.bintree.specs.declared.point.BoundingBox.{BoundingBox}
use Rattle.bintree.specs.Triangles.{at}

-- The shoelace formula: twice the area of the triangle p q v, walked counterclockwise, is the rising products less the falling ones.
abbrev pub rising : Point → Point → Point → ℕ
rising p q v = p.x * q.y + q.x * v.y + v.x * p.y

abbrev pub falling : Point → Point → Point → ℕ
falling p q v = p.y * q.x + q.y * v.x + v.y * p.x

-- The way from p to q.
abbrev pub way : Point → Point → Way
way p q = record { from = p; to = q }

-- The doubled area of a triangle.
unfoldable pub area : Corners → ℕ
area t = rising t.apex t.left t.right - falling t.apex t.left t.right

-- v is the mean of the corners of t with the weights wa, wl and wr.
pub record Mean (v : Point) (t : Corners) (wa wl wr : ℕ) : Type 0 where
  pub on_x : (wa + wl + wr) * v.x ≡ wa * t.apex.x + wl * t.left.x + wr * t.right.x
  pub on_y : (wa + wl + wr) * v.y ≡ wa * t.apex.y + wl * t.left.y + wr * t.right.y

-- v lies in the closed triangle t: it is the mean of the corners with whole weights, none negative, whose sum is the doubled area.
pub record LiesIn (v : Point) (t : Corners) : Type 0 where
  pub wa : ℕ
  pub wl : ℕ
  pub wr : ℕ
  pub sum : wa + wl + wr ≡ area t
  pub mean : Mean v t wa wl wr

-- The bounding box of a triangle: its lowest and its highest x and y.
abbrev pub box : Corners → BoundingBox
box t = record {
  low = at (min t.apex.x (min t.left.x t.right.x)) (min t.apex.y (min t.left.y t.right.y));
  high = at (max t.apex.x (max t.left.x t.right.x)) (max t.apex.y (max t.left.y t.right.y));
}

-- The box b lies in the box c.
pub record BoxIn (b c : BoundingBox) : Type 0 where
  pub low_x : c.low.x ≤ b.low.x
  pub low_y : c.low.y ≤ b.low.y
  pub high_x : b.high.x ≤ c.high.x
  pub high_y : b.high.y ≤ c.high.y
