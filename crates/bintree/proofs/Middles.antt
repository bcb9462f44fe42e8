-- The middle of a base is a whole point, and what follows: a mean of a triangle's corners is a mean of a half's corners, and back.
-- Weights may have any sum, so that going into a half needs no halving of weights.
use Rattle.std.proofs.Common.{◌≡◌, ℕ, zero, suc, ◌+◌, ◌-◌, ◌*◌, ◌/◌, ◌%◌, ◌^◌, ◌<◌, ◌⊎◌, refl, ap, inl, inr, arith}
use Rattle.bintree.specs.declared.point.Point.{Point}
use Rattle.bintree.specs.declared.point.Corners.{Corners}
use Rattle.bintree.specs.Triangles.{centre, low_half, high_half}
use Rattle.bintree.specs.Samples.{Mean}
use Rattle.bintree.specs.Laws.{WholeCentre}
use Rattle.bintree.proofs.Tree.{Node, depth, place}
use Rattle.bintree.proofs.Shape.{Turn, q0, q1, q2, q3, legged, based, at_even, at_odd}

whole_legged : (o : Turn) (k x y : ℕ) → WholeCentre (legged o (2 * k) x y)
whole_legged q0 k x y = record { on_x = omega arith; on_y = omega arith }
whole_legged q1 k x y = record { on_x = omega arith; on_y = omega arith }
whole_legged q2 k x y = record { on_x = omega arith; on_y = omega arith }
whole_legged q3 k x y = record { on_x = omega arith; on_y = omega arith }

whole_based : (o : Turn) (k x y : ℕ) → WholeCentre (based o k x y)
whole_based q0 k x y = record { on_x = omega arith; on_y = omega arith }
whole_based q1 k x y = record { on_x = omega arith; on_y = omega arith }
whole_based q2 k x y = record { on_x = omega arith; on_y = omega arith }
whole_based q3 k x y = record { on_x = omega arith; on_y = omega arith }

pub double : (m : ℕ) → 2 ^ suc m ≡ 2 * 2 ^ m
double m = omega arith

-- how many levels are left from k to d: an even or an odd number
pub left_over : (k d : ℕ) → k < d → ((m : ℕ) × (k + 2 * suc m ≡ d)) ⊎ ((m : ℕ) × (k + (2 * m + 1) ≡ d))
left_over k d h = go ((d - k) % 2) refl
  where
    go : (b : ℕ) → (d - k) % 2 ≡ b → ((m : ℕ) × (k + 2 * suc m ≡ d)) ⊎ ((m : ℕ) × (k + (2 * m + 1) ≡ d))
    go zero e = inl ((d - k) / 2 - 1, omega arith)
    go (suc b) e = inr ((d - k) / 2, omega arith)

-- the middle of a splittable triangle's base is whole
pub whole : (n : ℕ) (t : Node) → depth t < 2 * n → WholeCentre (place (2 ^ n) t)
whole n t h = go (left_over (depth t) (2 * n) h)
  where
    go : ((m : ℕ) × (depth t + 2 * suc m ≡ 2 * n)) ⊎ ((m : ℕ) × (depth t + (2 * m + 1) ≡ 2 * n)) → WholeCentre (place (2 ^ n) t)
    go (inl p) = let e = at_even n t (suc p.0) p.1 in rw (e.is, double p.0) (whole_legged e.turn (2 ^ p.0) e.px e.py)
    go (inr p) = let e = at_odd n t p.0 p.1 in rw e.is (whole_based e.turn (2 ^ p.0) e.px e.py)

-- into a half, on one axis: the centre c takes the weight that both base ends have
to_low : (wa wr k v a l r c : ℕ) → 2 * c ≡ l + r → (wa + (wr + k) + wr) * v ≡ wa * a + (wr + k) * l + wr * r
    → (2 * wr + wa + k) * v ≡ 2 * wr * c + wa * a + k * l
to_low wa wr k v a l r c e h = let f : wr * (2 * c) ≡ wr * (l + r) = ap (λ (z : ℕ). wr * z) e in omega arith

to_high : (wa wl k v a l r c : ℕ) → 2 * c ≡ l + r → (wa + wl + (wl + k)) * v ≡ wa * a + wl * l + (wl + k) * r
    → (2 * wl + k + wa) * v ≡ 2 * wl * c + k * r + wa * a
to_high wa wl k v a l r c e h = let f : wl * (2 * c) ≡ wl * (l + r) = ap (λ (z : ℕ). wl * z) e in omega arith

-- a point nearer to the left corner is a mean of the low half's corners, with the same sum of weights
pub mean_low : (v : Point) (t : Corners) (wa wr k : ℕ) → WholeCentre t → Mean v t wa (wr + k) wr → Mean v (low_half t) (2 * wr) wa k
mean_low v t wa wr k e h = record {
  on_x = to_low wa wr k v.x _ _ _ _ e.on_x h.on_x;
  on_y = to_low wa wr k v.y _ _ _ _ e.on_y h.on_y;
}

-- and one nearer to the right corner of the high half's
pub mean_high : (v : Point) (t : Corners) (wa wl k : ℕ) → WholeCentre t → Mean v t wa wl (wl + k) → Mean v (high_half t) (2 * wl) k wa
mean_high v t wa wl k e h = record {
  on_x = to_high wa wl k v.x _ _ _ _ e.on_x h.on_x;
  on_y = to_high wa wl k v.y _ _ _ _ e.on_y h.on_y;
}

-- from a half, on one axis
from_low : (a l r v pa pl pr c : ℕ) → 2 * c ≡ pl + pr → (a + l + r) * v ≡ a * c + l * pa + r * pl → (2 * l + (a + 2 * r) + a) * v ≡ 2 * l * pa + (a + 2 * r) * pl + a * pr
from_low a l r v pa pl pr c e h = let f : a * (2 * c) ≡ a * (pl + pr) = ap (λ (z : ℕ). a * z) e in omega arith

from_high : (a l r v pa pl pr c : ℕ) → 2 * c ≡ pl + pr → (a + l + r) * v ≡ a * c + l * pr + r * pa → (2 * r + a + (a + 2 * l)) * v ≡ 2 * r * pa + a * pl + (a + 2 * l) * pr
from_high a l r v pa pl pr c e h = let f : a * (2 * c) ≡ a * (pl + pr) = ap (λ (z : ℕ). a * z) e in omega arith

-- a mean of a half's corners is one of the whole's, with twice the weights
pub low_mean : (v : Point) (t : Corners) (a l r : ℕ) → WholeCentre t → Mean v (low_half t) a l r → Mean v t (2 * l) (a + 2 * r) a
low_mean v t a l r e h = record {
  on_x = from_low a l r v.x t.apex.x t.left.x t.right.x _ e.on_x h.on_x;
  on_y = from_low a l r v.y t.apex.y t.left.y t.right.y _ e.on_y h.on_y;
}

pub high_mean : (v : Point) (t : Corners) (a l r : ℕ) → WholeCentre t → Mean v (high_half t) a l r → Mean v t (2 * r) a (a + 2 * l)
high_mean v t a l r e h = record {
  on_x = from_high a l r v.x t.apex.x t.left.x t.right.x _ e.on_x h.on_x;
  on_y = from_high a l r v.y t.apex.y t.left.y t.right.y _ e.on_y h.on_y;
}

-- the corners and the centre are means
pub mean_apex : (t : Corners) → Mean t.apex t 1 0 0
mean_apex t = record { on_x = omega arith; on_y = omega arith }

pub mean_left : (t : Corners) → Mean t.left t 0 1 0
mean_left t = record { on_x = omega arith; on_y = omega arith }

pub mean_right : (t : Corners) → Mean t.right t 0 0 1
mean_right t = record { on_x = omega arith; on_y = omega arith }

pub mean_centre : (t : Corners) → WholeCentre t → Mean (centre t) t 0 1 1
mean_centre t e = record { on_x = omega (arith, e.on_x); on_y = omega (arith, e.on_y) }
