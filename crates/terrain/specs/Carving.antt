-- What carving one sample does to the bounds.
use Rattle.std.specs.Prelude.{ℕ, zero, suc, ◌*◌, Bool, true, false, ◌&&◌, nat_le, nat_lt}
use Rattle.bintree.specs.declared.point.Point.{Point}
use Rattle.bintree.specs.declared.point.Corners.{Corners}
use Rattle.bintree.specs.Orders.{end, is_triangle, is_splittable}
use Rattle.bintree.specs.Triangles.{corners}
use Rattle.bintree.specs.Samples.{rising, falling}
use Rattle.terrain.specs.Heights.{Heights}
use Rattle.terrain.specs.Bounds.{Bounds, offset, limit, worked_out}

-- v does not lie beyond the edge from p to q, seen from a triangle to the left of it.
abbrev pub within_edge : Point → Point → Point → Bool
within_edge p q v = nat_le (falling p q v) (rising p q v)

-- The closed triangle t holds v: v lies beyond none of its edges.
unfoldable pub holds_sample : Point → Corners → Bool
holds_sample v t = within_edge t.left t.right v && (within_edge t.right t.apex v && within_edge t.apex t.left v)

-- The triangles whose bounds carving the sample v works out anew: those that are splittable and hold v.
abbrev pub reached : ℕ → Point → ℕ → Bool
reached n v i = is_splittable n i && holds_sample v (corners n i)

-- The bounds after carving the sample v, from the bounds b before it and the heights z after it.
unfoldable pub carved_bounds : ℕ → Heights → Point → Bounds → Bounds
carved_bounds n z v b = worked_out (reached n v) (offset n z) b (2 * n)

-- The highest number below b that passes a test; 0 where none does.
unfoldable pub highest : (ℕ → Bool) → ℕ → ℕ
highest passes zero = 0
highest passes (suc b) = elim (passes b) [ true ↦ b | false ↦ highest passes b ]

-- Triangle i of order n has a bound that passes the limit.
abbrev pub passes_limit : ℕ → Bounds → ℕ → Bool
passes_limit n b i = is_triangle n i && nat_lt limit (b i)

-- The highest-numbered triangle of order n whose bound passes the limit; 0 where there is none.
abbrev pub highest_passing : ℕ → Bounds → ℕ
highest_passing n b = highest (passes_limit n b) (end n)
