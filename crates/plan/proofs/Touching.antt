-- Two boxes have a point in common exactly if neither ends before the other begins: the point is where the later one begins.
use Rattle.std.proofs.Common.{ℕ, ◌*◌, ◌<◌, ◌≤◌, max, leb, Decides, arith}
use native.Mathlib.Nat.{le_of_mul-le-mul_left}
use Rattle.std.proofs.lemmas.Bool.{leb-true, le-leb}
use Rattle.std.proofs.lemmas.Bool.Decides.{Decides-like, Decides-and}
use Rattle.bintree.specs.declared.point.Corners.{Corners}
use Rattle.bintree.specs.Samples.{box}
use Rattle.plan.specs.declared.spot.Rectangle.{Rectangle}
use Rattle.plan.specs.Rectangles.{extent, Touches, touches}

decides_leb : (a b : ℕ) → Decides (leb a b) (a ≤ b)
decides_leb a b = (leb-true a b, le-leb a b)

-- one axis
past : (k x lo hi : ℕ) → 0 < k → k * lo ≤ x → x ≤ k * hi → lo ≤ hi
past k x lo hi p h i = let j : k * lo ≤ k * hi = omega arith in le_of_mul-le-mul_left j p

module _ (w : Rectangle) (t : Corners) where
  abbrev Ends : Type 0
  Ends = (((box t).low.x ≤ (extent w).high.x) × ((extent w).low.x ≤ (box t).high.x)) × (((box t).low.y ≤ (extent w).high.y) × ((extent w).low.y ≤ (box t).high.y))

  shared : Ends → Touches w (box t)
  shared h =
      let p = h.0.0 in
      let q = h.0.1 in
      let r = h.1.0 in
      let s = h.1.1 in
      record {
        k = 1;
        x = max (extent w).low.x (box t).low.x;
        y = max (extent w).low.y (box t).low.y;
        some = omega arith;
        in_rectangle = record { low_x = omega arith; high_x = omega arith; low_y = omega arith; high_y = omega arith };
        in_box = record { low_x = omega arith; high_x = omega arith; low_y = omega arith; high_y = omega arith };
      }

  ended : Touches w (box t) → Ends
  ended h = (
    (past h.k h.x _ _ h.some h.in_box.low_x h.in_rectangle.high_x, past h.k h.x _ _ h.some h.in_rectangle.low_x h.in_box.high_x),
    (past h.k h.y _ _ h.some h.in_box.low_y h.in_rectangle.high_y, past h.k h.y _ _ h.some h.in_rectangle.low_y h.in_box.high_y),
  )

  pub touches_decides : Decides (touches w (box t)) (Touches w (box t))
  touches_decides = Decides-like (touches w (box t)) shared ended
      (Decides-and _ _ (Decides-and _ _ (decides_leb _ _) (decides_leb _ _)) (Decides-and _ _ (decides_leb _ _) (decides_leb _ _)))
