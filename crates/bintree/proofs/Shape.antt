-- Every triangle of a square has one of eight shapes: its legs lie along the axes (on even levels) or its base does (on odd levels), each in
-- four turns. Exact middles, areas and the like are then a few cases of linear arithmetic.
use Rattle.std.proofs.Common.{◌≡◌, ℕ, suc, ◌+◌, ◌*◌, ◌^◌, ◌≤◌, refl, ap, arith}
use Rattle.bintree.specs.declared.point.Point.{Point}
use Rattle.bintree.specs.declared.point.Corners.{Corners}
use Rattle.bintree.specs.Triangles.{at, tri, low_half, high_half}
use Rattle.bintree.proofs.Tree.{Node, two, three, lo, hi, depth, place}

-- by how many quarter turns, counterclockwise
pub data Turn : Type 0 where
  q0 q1 q2 q3 : Turn

-- legs along the axes, h long; (x, y) is the low corner of the box
abbrev pub legged : Turn → ℕ → ℕ → ℕ → Corners
legged q0 h x y = tri (at x y) (at (x + h) y) (at x (y + h))
legged q1 h x y = tri (at (x + h) y) (at (x + h) (y + h)) (at x y)
legged q2 h x y = tri (at (x + h) (y + h)) (at x (y + h)) (at (x + h) y)
legged q3 h x y = tri (at x (y + h)) (at x y) (at (x + h) (y + h))

-- base along an axis, 2 * k long
abbrev pub based : Turn → ℕ → ℕ → ℕ → Corners
based q0 k x y = tri (at (x + k) (y + k)) (at x y) (at (x + 2 * k) y)
based q1 k x y = tri (at x (y + k)) (at (x + k) y) (at (x + k) (y + 2 * k))
based q2 k x y = tri (at (x + k) y) (at (x + 2 * k) (y + k)) (at x (y + k))
based q3 k x y = tri (at (x + k) (y + k)) (at x (y + 2 * k)) (at x y)

pub point_eq : {a b c d : ℕ} → a ≡ c → b ≡ d → at a b ≡ at c d
point_eq p q = λ i. at (p i) (q i)

pub tri_eq : {ax ay lx ly rx ry bx by mx my sx sy : ℕ} → ax ≡ bx → ay ≡ by → lx ≡ mx → ly ≡ my → rx ≡ sx → ry ≡ sy
    → tri (at ax ay) (at lx ly) (at rx ry) ≡ tri (at bx by) (at mx my) (at sx sy)
tri_eq p q t u v w = λ i. tri (at (p i) (q i)) (at (t i) (u i)) (at (v i) (w i))

pub corners_eq : {a b c d e f : Point} → a ≡ d → b ≡ e → c ≡ f → tri a b c ≡ tri d e f
corners_eq p q r = λ i. tri (p i) (q i) (r i)

-- t has the legs along the axes, 2^m long, and lies in the square of side s
pub record Legged (s m : ℕ) (t : Corners) : Type 0 where
  pub turn : Turn
  pub px : ℕ
  pub py : ℕ
  pub is : t ≡ legged turn (2 ^ m) px py
  pub x_in : px + 2 ^ m ≤ s
  pub y_in : py + 2 ^ m ≤ s

-- how wide and how high the box of such a triangle is
abbrev pub width : Turn → ℕ → ℕ
width q0 k = 2 * k
width q1 k = k
width q2 k = 2 * k
width q3 k = k

abbrev pub height : Turn → ℕ → ℕ
height q0 k = k
height q1 k = 2 * k
height q2 k = k
height q3 k = 2 * k

-- t has the base along an axis, 2^(m + 1) long, and lies in the square of side s
pub record Based (s m : ℕ) (t : Corners) : Type 0 where
  pub turn : Turn
  pub px : ℕ
  pub py : ℕ
  pub is : t ≡ based turn (2 ^ m) px py
  pub x_in : px + width turn (2 ^ m) ≤ s
  pub y_in : py + height turn (2 ^ m) ≤ s

mk_based : (s m : ℕ) (o : Turn) (x y : ℕ) (t : Corners) → t ≡ based o (2 ^ m) x y → x + width o (2 ^ m) ≤ s → y + height o (2 ^ m) ≤ s → Based s m t
mk_based s m o x y t e p q = record { turn = o; px = x; py = y; is = e; x_in = p; y_in = q }

mk_legged : (s m : ℕ) (o : Turn) (x y : ℕ) (t : Corners) → t ≡ legged o (2 ^ m) x y → x + 2 ^ m ≤ s → y + 2 ^ m ≤ s → Legged s m t
mk_legged s m o x y t e p q = record { turn = o; px = x; py = y; is = e; x_in = p; y_in = q }

-- halves of a triangle with legs along the axes
low_legged : (s m : ℕ) (o : Turn) (x y h : ℕ) → h ≡ 2 * 2 ^ m → x + h ≤ s → y + h ≤ s → Based s m (low_half (legged o h x y))
low_legged s m q0 x y h e p q = mk_based s m q0 x y _ (tri_eq (omega arith) (omega arith) (omega arith) (omega arith) (omega arith) (omega arith)) (omega arith) (omega arith)
low_legged s m q1 x y h e p q = mk_based s m q1 (x + 2 ^ m) y _ (tri_eq (omega arith) (omega arith) (omega arith) (omega arith) (omega arith) (omega arith)) (omega arith) (omega arith)
low_legged s m q2 x y h e p q = mk_based s m q2 x (y + 2 ^ m) _ (tri_eq (omega arith) (omega arith) (omega arith) (omega arith) (omega arith) (omega arith)) (omega arith) (omega arith)
low_legged s m q3 x y h e p q = mk_based s m q3 x y _ (tri_eq (omega arith) (omega arith) (omega arith) (omega arith) (omega arith) (omega arith)) (omega arith) (omega arith)

high_legged : (s m : ℕ) (o : Turn) (x y h : ℕ) → h ≡ 2 * 2 ^ m → x + h ≤ s → y + h ≤ s → Based s m (high_half (legged o h x y))
high_legged s m q0 x y h e p q = mk_based s m q3 x y _ (tri_eq (omega arith) (omega arith) (omega arith) (omega arith) (omega arith) (omega arith)) (omega arith) (omega arith)
high_legged s m q1 x y h e p q = mk_based s m q0 x y _ (tri_eq (omega arith) (omega arith) (omega arith) (omega arith) (omega arith) (omega arith)) (omega arith) (omega arith)
high_legged s m q2 x y h e p q = mk_based s m q1 (x + 2 ^ m) y _ (tri_eq (omega arith) (omega arith) (omega arith) (omega arith) (omega arith) (omega arith)) (omega arith) (omega arith)
high_legged s m q3 x y h e p q = mk_based s m q2 x (y + 2 ^ m) _ (tri_eq (omega arith) (omega arith) (omega arith) (omega arith) (omega arith) (omega arith)) (omega arith) (omega arith)

low_based : (s m : ℕ) (o : Turn) (x y : ℕ) → x + width o (2 ^ m) ≤ s → y + height o (2 ^ m) ≤ s → Legged s m (low_half (based o (2 ^ m) x y))
low_based s m q0 x y p q = mk_legged s m q1 x y _ (tri_eq (omega arith) (omega arith) (omega arith) (omega arith) (omega arith) (omega arith)) (omega arith) (omega arith)
low_based s m q1 x y p q = mk_legged s m q2 x y _ (tri_eq (omega arith) (omega arith) (omega arith) (omega arith) (omega arith) (omega arith)) (omega arith) (omega arith)
low_based s m q2 x y p q = mk_legged s m q3 (x + 2 ^ m) y _ (tri_eq (omega arith) (omega arith) (omega arith) (omega arith) (omega arith) (omega arith)) (omega arith) (omega arith)
low_based s m q3 x y p q = mk_legged s m q0 x (y + 2 ^ m) _ (tri_eq (omega arith) (omega arith) (omega arith) (omega arith) (omega arith) (omega arith)) (omega arith) (omega arith)

high_based : (s m : ℕ) (o : Turn) (x y : ℕ) → x + width o (2 ^ m) ≤ s → y + height o (2 ^ m) ≤ s → Legged s m (high_half (based o (2 ^ m) x y))
high_based s m q0 x y p q = mk_legged s m q0 (x + 2 ^ m) y _ (tri_eq (omega arith) (omega arith) (omega arith) (omega arith) (omega arith) (omega arith)) (omega arith) (omega arith)
high_based s m q1 x y p q = mk_legged s m q1 x (y + 2 ^ m) _ (tri_eq (omega arith) (omega arith) (omega arith) (omega arith) (omega arith) (omega arith)) (omega arith) (omega arith)
high_based s m q2 x y p q = mk_legged s m q2 x y _ (tri_eq (omega arith) (omega arith) (omega arith) (omega arith) (omega arith) (omega arith)) (omega arith) (omega arith)
high_based s m q3 x y p q = mk_legged s m q3 x y _ (tri_eq (omega arith) (omega arith) (omega arith) (omega arith) (omega arith) (omega arith)) (omega arith) (omega arith)

pub legged_low : (s m : ℕ) (t : Corners) → Legged s (suc m) t → Based s m (low_half t)
legged_low s m t e = rw e.is (low_legged s m e.turn e.px e.py (2 ^ suc m) (omega arith) e.x_in e.y_in)

pub legged_high : (s m : ℕ) (t : Corners) → Legged s (suc m) t → Based s m (high_half t)
legged_high s m t e = rw e.is (high_legged s m e.turn e.px e.py (2 ^ suc m) (omega arith) e.x_in e.y_in)

pub based_low : (s m : ℕ) (t : Corners) → Based s m t → Legged s m (low_half t)
based_low s m t e = rw e.is (low_based s m e.turn e.px e.py e.x_in e.y_in)

pub based_high : (s m : ℕ) (t : Corners) → Based s m t → Legged s m (high_half t)
based_high s m t e = rw e.is (high_based s m e.turn e.px e.py e.x_in e.y_in)

-- every triangle of the order n has one of the eight shapes
mutual
  unfolding depth place

  pub at_even : (n : ℕ) (t : Node) (m : ℕ) → depth t + 2 * m ≡ 2 * n → Legged (2 ^ n) m (place (2 ^ n) t)
  at_even n two m h =
      let k : 2 ^ m ≡ 2 ^ n = ap (λ (z : ℕ). 2 ^ z) (omega arith) in
      mk_legged (2 ^ n) m q0 0 0 _ (corners_eq refl (point_eq (omega arith) refl) (point_eq refl (omega arith))) (omega arith) (omega arith)
  at_even n three m h =
      let k : 2 ^ m ≡ 2 ^ n = ap (λ (z : ℕ). 2 ^ z) (omega arith) in
      mk_legged (2 ^ n) m q2 0 0 _ (corners_eq (point_eq (omega arith) (omega arith)) (point_eq refl (omega arith)) (point_eq (omega arith) refl)) (omega arith) (omega arith)
  at_even n (lo t) m h = based_low (2 ^ n) m (place (2 ^ n) t) (at_odd n t m (omega arith))
  at_even n (hi t) m h = based_high (2 ^ n) m (place (2 ^ n) t) (at_odd n t m (omega arith))

  pub at_odd : (n : ℕ) (t : Node) (m : ℕ) → depth t + (2 * m + 1) ≡ 2 * n → Based (2 ^ n) m (place (2 ^ n) t)
  at_odd n two m h = absurd (omega arith)
  at_odd n three m h = absurd (omega arith)
  at_odd n (lo t) m h = legged_low (2 ^ n) m (place (2 ^ n) t) (at_even n t (suc m) (omega arith))
  at_odd n (hi t) m h = legged_high (2 ^ n) m (place (2 ^ n) t) (at_even n t (suc m) (omega arith))
