-- A half against its parent: its bounding box lies within the parent's, so an eye is no nearer to it and a rectangle touches it only if it touches the
-- parent; and it is a part of the closed parent, so a line meets it only if it meets the parent.
use Rattle.std.proofs.Common.{◌≡◌, ℕ, ◌+◌, ◌*◌, ◌/◌, ◌<◌, ◌≤◌, max, true, ℤ, pos, negsuc, Some, None, Option, ap, mul-le-mul_right, mul_comm, mul-le-mul_left, le-div_iff_mul-le, arith}
use native.Mathlib.Nat.{mul-div-le}
use Rattle.std.proofs.lemmas.Bool.{leb-true, le-leb, and_parts, and_from}
use Rattle.bintree.specs.declared.point.Point.{Point}
use Rattle.bintree.specs.declared.point.Corners.{Corners}
use Rattle.bintree.specs.declared.point.BoundingBox.{BoundingBox}
use Rattle.bintree.specs.Triangles.{centre, low_half, high_half}
use Rattle.bintree.specs.Samples.{box, BoxIn}
use Rattle.bintree.specs.Laws.{WholeCentre}
use Rattle.plan.specs.declared.spot.Rectangle.{Rectangle}
use Rattle.plan.specs.Lines.{Meets}
use Rattle.plan.specs.Rectangles.{extent, touches}
use Rattle.optics.specs.declared.lens.Eye.{Eye}
use Rattle.optics.specs.declared.lens.Lens.{Lens}
use Rattle.optics.specs.Lenses.{gap, distance, shown, seen}

-- boxes
pub low_box : (t : Corners) → BoxIn (box (low_half t)) (box t)
low_box t = record { low_x = omega arith; low_y = omega arith; high_x = omega arith; high_y = omega arith }

pub high_box : (t : Corners) → BoxIn (box (high_half t)) (box t)
high_box t = record { low_x = omega arith; low_y = omega arith; high_x = omega arith; high_y = omega arith }

pub touches_parent : (w : Rectangle) (b c : BoundingBox) → BoxIn b c → touches w b ≡ true → touches w c ≡ true
touches_parent w b c i h =
    let p = and_parts _ _ h in
    let x = and_parts _ _ p.0 in
    let y = and_parts _ _ p.1 in
    let xl = leb-true b.low.x (extent w).high.x x.0 in
    let xh = leb-true (extent w).low.x b.high.x x.1 in
    let yl = leb-true b.low.y (extent w).high.y y.0 in
    let yh = leb-true (extent w).low.y b.high.y y.1 in
    and_from _ _ (and_from _ _ (le-leb c.low.x (extent w).high.x (omega (arith, i.low_x, xl))) (le-leb (extent w).low.x c.high.x (omega (arith, i.high_x, xh))))
    (and_from _ _ (le-leb c.low.y (extent w).high.y (omega (arith, i.low_y, yl))) (le-leb (extent w).low.y c.high.y (omega (arith, i.high_y, yh))))

-- distances
gap_grows : (e : ℤ) (l h m k : ℕ) → m ≤ l → h ≤ k → gap e (16 * m) (16 * k) ≤ gap e (16 * l) (16 * h)
gap_grows (pos e) l h m k p q = omega arith
gap_grows (negsuc e) l h m k p q = omega arith

distance_grows : (e : Option Eye) (b c : BoundingBox) → BoxIn b c → distance e c ≤ distance e b
distance_grows None b c i = omega arith
distance_grows (Some e) b c i =
    let x = gap_grows e.x b.low.x b.high.x c.low.x c.high.x i.low_x i.high_x in
    let y = gap_grows e.y b.low.y b.high.y c.low.y c.high.y i.low_y i.high_y in
    wider _ _ _ _ x y
  where
    wider : (p q r s : ℕ) → p ≤ q → r ≤ s → max p r ≤ max q s
    wider p q r s x y = omega arith

quotient_falls : (a b k l : ℕ) → 0 < k → b ≤ a → k ≤ l → b / l ≤ a / k
quotient_falls a b k l h p q =
    let low : l * (b / l) ≤ b = mul-div-le b l in
    let less : (b / l) * k ≤ (b / l) * l = mul-le-mul_left (b / l) q in
    let turn : (b / l) * l ≡ l * (b / l) = mul_comm (b / l) l in
    (le-div_iff_mul-le h).1 (omega arith)

shown_falls : (b c f d e : ℕ) → c ≤ b → d ≤ e → shown c f e ≤ shown b f d
shown_falls b c f d e p q =
    let h : c * f / (e + 16) ≤ b * f / (d + 16) = quotient_falls (b * f) (c * f) (d + 16) (e + 16) (omega arith) (mul-le-mul_right f p) (omega arith) in omega arith

pub seen_falls : (l : Lens) (b c : ℕ) (s t : BoundingBox) → c ≤ b → BoxIn t s → seen l c t ≤ seen l b s
seen_falls l b c s t p i = shown_falls b c l.focal _ _ p (distance_grows l.eye t s i)

-- means of a half's corners are means of the parent's
twice_low : (c l r k : ℕ) (a b d u v x y : ℕ) → 2 * c ≡ l + r → u * x + v * y ≡ a * c + b * k + d * l → 2 * u * x + 2 * v * y ≡ 2 * b * k + (a + 2 * d) * l + a * r
twice_low c l r k a b d u v x y e f = let g = ap (λ (z : ℕ). a * z) e in omega arith

twice_high : (c l r k : ℕ) (a b d u v x y : ℕ) → 2 * c ≡ l + r → u * x + v * y ≡ a * c + b * r + d * k → 2 * u * x + 2 * v * y ≡ 2 * d * k + a * l + (a + 2 * b) * r
twice_high c l r k a b d u v x y e f = let g = ap (λ (z : ℕ). a * z) e in omega arith

pub meets_low : (a b : Point) (t : Corners) → WholeCentre t → Meets a b (low_half t) → Meets a b t
meets_low a b t w m = record {
  u = 2 * m.u;
  v = 2 * m.v;
  wa = 2 * m.wl;
  wl = m.wa + 2 * m.wr;
  wr = m.wa;
  some = omega (arith, m.some);
  sum = omega (arith, m.sum);
  on_x = twice_low (centre t).x t.left.x t.right.x t.apex.x m.wa m.wl m.wr m.u m.v a.x b.x w.on_x m.on_x;
  on_y = twice_low (centre t).y t.left.y t.right.y t.apex.y m.wa m.wl m.wr m.u m.v a.y b.y w.on_y m.on_y;
}

pub meets_high : (a b : Point) (t : Corners) → WholeCentre t → Meets a b (high_half t) → Meets a b t
meets_high a b t w m = record {
  u = 2 * m.u;
  v = 2 * m.v;
  wa = 2 * m.wr;
  wl = m.wa;
  wr = m.wa + 2 * m.wl;
  some = omega (arith, m.some);
  sum = omega (arith, m.sum);
  on_x = twice_high (centre t).x t.left.x t.right.x t.apex.x m.wa m.wl m.wr m.u m.v a.x b.x w.on_x m.on_x;
  on_y = twice_high (centre t).y t.left.y t.right.y t.apex.y m.wa m.wl m.wr m.u m.v a.y b.y w.on_y m.on_y;
}
