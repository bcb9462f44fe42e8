-- What the code's values stand for.
use Rattle.std.specs.Prelude.{◌≡◌, ℕ}
use Rattle.bintree.specs.declared.order.Order.{Order}
use Rattle.bintree.specs.declared.point.Corners.{Corners}
use Rattle.bintree.specs.declared.triangle.Triangle.{Triangle}
use Rattle.bintree.specs.Triangles.{corners}

-- The number n of an order.
abbrev pub order_value : Order → ℕ
order_value o = o.n

-- The order and the number of a triangle.
abbrev pub order_of : Triangle → ℕ
order_of t = t.order.n

abbrev pub number_of : Triangle → ℕ
number_of t = t.number

-- The value t is triangle i of order n.
abbrev pub Is : Triangle → ℕ → ℕ → Type 0
Is t n i = (order_of t ≡ n) × (number_of t ≡ i)

-- Its corners.
abbrev pub corners_of : Triangle → Corners
corners_of t = corners (order_of t) (number_of t)
