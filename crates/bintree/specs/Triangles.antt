-- The triangles of a square by their numbers: corners, halves, levels, partners.
use Rattle.std.specs.Prelude.{ℕ, zero, suc, ◌+◌, ◌/◌, ◌%◌, Bool, true, false, not, ◌&&◌, ◌||◌, ◌==◌, nat_lt}
use Rattle.bintree.specs.declared.point.Point.{Point}
use Rattle.bintree.specs.declared.point.Corners.{Corners}
use Rattle.bintree.specs.Orders.{side, end, is_triangle}

-- The point (u, v).
abbrev pub at : ℕ → ℕ → Point
at u v = record { x = u; y = v }

-- The triangle with the apex a, the left corner l and the right corner r. Its base is the edge from l to r.
abbrev pub tri : Point → Point → Point → Corners
tri a l r = record { apex = a; left = l; right = r }

-- The middle of two points.
abbrev pub middle : Point → Point → Point
middle p q = at ((p.x + q.x) / 2) ((p.y + q.y) / 2)

-- The centre of a triangle is the middle of its base.
abbrev pub centre : Corners → Point
centre t = middle t.left t.right

-- Split at its centre c, the triangle (a, l, r) has the halves (c, a, l) and (c, r, a).
abbrev pub low_half : Corners → Corners
low_half t = tri (centre t) t.apex t.left

abbrev pub high_half : Corners → Corners
high_half t = tri (centre t) t.right t.apex

-- The triangle with its apex at (near, near) and its base on the diagonal: the left corner at (far, near), the right one at (near, far).
abbrev pub root_at : ℕ → ℕ → Corners
root_at near far = tri (at near near) (at far near) (at near far)

-- The roots of a square of side s: its triangles 2 and 3, on either side of the diagonal from (s, 0) to (0, s).
abbrev pub root_two : ℕ → Corners
root_two s = root_at 0 s

abbrev pub root_three : ℕ → Corners
root_three s = root_at s 0

-- Triangle i of a square of side s: a root, or else a half of triangle i / 2, the low one where i is even. (k bounds the depth, and i always suffices.)
abbrev pub corners_at : ℕ → ℕ → ℕ → Corners
corners_at zero s i = root_two s
corners_at (suc k) s i = elim (nat_lt i 4) [
  | true ↦ elim (i == 2) [ true ↦ root_two s | false ↦ root_three s ]
  | false ↦ elim (i % 2 == 0) [ true ↦ low_half (corners_at k s (i / 2)) | false ↦ high_half (corners_at k s (i / 2)) ]
]

-- The corners of triangle i of order n.
unfoldable pub corners : ℕ → ℕ → Corners
corners n i = corners_at i (side n) i

-- The level of i: 0 for a root, one more for a half than for its parent i / 2. (k bounds the depth, and i always suffices.)
abbrev pub level_deep : ℕ → ℕ → ℕ
level_deep zero i = 0
level_deep (suc k) i = elim (nat_lt i 4) [ true ↦ 0 | false ↦ suc (level_deep k (i / 2)) ]

unfoldable pub level : ℕ → ℕ
level i = level_deep i i

-- Two points are one; two triangles have the same two base ends, in either order.
abbrev pub same_point : Point → Point → Bool
same_point p q = p.x == q.x && p.y == q.y

abbrev pub same_base : Corners → Corners → Bool
same_base t u =
    (same_point t.left u.left && same_point t.right u.right)
    || (same_point t.left u.right && same_point t.right u.left)

-- i and j are partners: two different triangles of order n, of one level, with the same two base ends.
unfoldable pub partners : ℕ → ℕ → ℕ → Bool
unfolding end corners level
partners n i j =
    (is_triangle n i && is_triangle n j)
    && ((not (j == i) && level j == level i) && same_base (corners n j) (corners n i))

-- The lowest number below b that passes a test; 0 where none does.
abbrev pub lowest : (ℕ → Bool) → ℕ → ℕ
lowest passes zero = 0
lowest passes (suc b) =
    let r = lowest passes b in
    elim (r == 0) [ false ↦ r | true ↦ elim (passes b) [ true ↦ b | false ↦ 0 ] ]

-- The partner of triangle i of order n; 0 where it has none.
unfoldable pub partner : ℕ → ℕ → ℕ
unfolding end partners
partner n i = lowest (partners n i) (end n)
