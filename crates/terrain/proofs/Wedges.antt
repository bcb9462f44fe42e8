-- The wedge, for whole weights of any sum W that is not 0: twice the weighted heights of the corners differ from twice W times the sample's height
-- by at most W times the bound. By going down: the sample lies nearer to one end of the base, so it is a mean of that half's corners with the same
-- sum of weights; from the half's plane to the whole's the height moves by the offset times the lesser weight of the base ends, and twice that weight
-- is at most W. In a finest triangle the sample is a corner, and nothing differs.
use Rattle.std.proofs.Common.{◌≡◌, ℕ, zero, suc, ◌+◌, ◌*◌, ◌^◌, ◌<◌, ◌≤◌, ◌⊎◌, sym, refl, ap, ◌∙◌, subst, inl, inr, ⊎_elim, mul-le-mul_right, mul-le-mul_left, arith}
use Rattle.std.proofs.lemmas.Bool.{cases_lt}
use Rattle.bintree.specs.declared.point.Point.{Point}
use Rattle.bintree.specs.declared.point.Corners.{Corners}
use Rattle.bintree.specs.Orders.{end, first_finest}
use Rattle.bintree.specs.Triangles.{corners}
use Rattle.bintree.specs.Samples.{Mean}
use Rattle.bintree.specs.Laws.{WholeCentre}
use Rattle.bintree.proofs.Numbers.{corners_low, corners_high, end_twice}
use Rattle.bintree.proofs.Middles.{mean_low, mean_high}
use Rattle.bintree.proofs.Laws.{whole_centre, positive}
use Rattle.bintree.proofs.Locate.{apart as lesser}
use Rattle.terrain.specs.Heights.{Heights}
use Rattle.terrain.specs.Bounds.{Bounds, apart, offset, Covers}
use Rattle.terrain.specs.Grounds.{Ground}
use Rattle.terrain.specs.Laws.{Covered, Wedge}
use Rattle.terrain.proofs.Anew.{deeper}
use Rattle.terrain.proofs.Measuring.{enough}
use Rattle.terrain.proofs.Holding.{finest_corner, AtCorner}

-- p and q differ by at most e
record Close (p q e : ℕ) : Type 0 where
  above : p ≤ q + e
  below : q ≤ p + e

-- twice the plane's height at v, and twice v's own height, times the sum of the weights
abbrev Held : Heights → Corners → Point → ℕ → ℕ → ℕ → ℕ → Type 0
Held z t v a l r b = Close (2 * (a * z t.apex + l * z t.left + r * z t.right)) (2 * ((a + l + r) * z v)) ((a + l + r) * b)

-- all the weight w at one corner
at_one : (w x y zw zv zx zy b : ℕ) → zv ≡ zw → x ≡ 0 → y ≡ 0 → Close (2 * (w * zw + x * zx + y * zy)) (2 * ((w + x + y) * zv)) ((w + x + y) * b)
at_one w x y zw zv zx zy b e f g =
    let p : x * zx ≡ 0 * zx = ap (λ (m : ℕ). m * zx) f in
    let q : y * zy ≡ 0 * zy = ap (λ (m : ℕ). m * zy) g in
    let s : (w + x + y) * zv ≡ w * zw = ap (λ (m : ℕ). m * zv) (let k : w + x + y ≡ w = omega arith in k) ∙ ap (λ (m : ℕ). w * m) e in
    record { above = omega arith; below = omega arith }

-- from the low half (c, a, l) up: k is the weight that the left end has more than the right one
from_low : (wa wr k za zl zr zc zv d bh b : ℕ) → d ≡ apart (2 * zc) (zl + zr) → d + bh ≤ b
    → Close (2 * (2 * wr * zc + wa * za + k * zl)) (2 * ((2 * wr + wa + k) * zv)) ((2 * wr + wa + k) * bh)
    → Close (2 * (wa * za + (wr + k) * zl + wr * zr)) (2 * ((wa + (wr + k) + wr) * zv)) ((wa + (wr + k) + wr) * b)
from_low wa wr k za zl zr zc zv d bh b e f c =
    let p = mul-le-mul_left (2 * wr) (let h : 2 * zc ≤ zl + zr + d = omega arith in h) in
    let q = mul-le-mul_left (2 * wr) (let h : zl + zr ≤ 2 * zc + d = omega arith in h) in
    let m = mul-le-mul_left (2 * wr + wa + k) f in
    record { above = omega (arith, c.above); below = omega (arith, c.below) }

-- and from the high half (c, r, a): the same with the ends exchanged
from_high : (wa wl k za zl zr zc zv d bh b : ℕ) → d ≡ apart (2 * zc) (zl + zr) → d + bh ≤ b
    → Close (2 * (2 * wl * zc + k * zr + wa * za)) (2 * ((2 * wl + k + wa) * zv)) ((2 * wl + k + wa) * bh)
    → Close (2 * (wa * za + wl * zl + (wl + k) * zr)) (2 * ((wa + wl + (wl + k)) * zv)) ((wa + wl + (wl + k)) * b)
from_high wa wl k za zl zr zc zv d bh b e f c =
    let h = from_low wa wl k za zr zl zc zv d bh b (omega arith) f (record { above = omega (arith, c.above); below = omega (arith, c.below) }) in
    record { above = omega (arith, h.above); below = omega (arith, h.below) }

module _ (n : ℕ) (z : Heights) (b : Bounds) (covers : Covers n z b) where
  -- what is claimed of triangle i
  abbrev Claim : ℕ → Type 0
  Claim i = (v : Point) (a l r : ℕ) → 0 < a + l + r → Mean v (corners n i) a l r → Held z (corners n i) v a l r (b i)

  at_finest : (i : ℕ) → 2 ≤ i → first_finest n ≤ i → i < end n → Claim i
  at_finest i p s q v a l r w h = go (finest_corner n i p s q v a l r w h)
    where
      go : AtCorner v (corners n i) a l r → Held z (corners n i) v a l r (b i)
      go (inl e) = at_one a l r (z (corners n i).apex) (z v) (z (corners n i).left) (z (corners n i).right) (b i) (ap z e.0) e.1 e.2
      go (inr (inl e)) =
          let c = at_one l a r (z (corners n i).left) (z v) (z (corners n i).apex) (z (corners n i).right) (b i) (ap z e.0) e.1 e.2 in
          record { above = omega (arith, c.above); below = omega (arith, c.below) }
      go (inr (inr e)) =
          let c = at_one r a l (z (corners n i).right) (z v) (z (corners n i).apex) (z (corners n i).left) (b i) (ap z e.0) e.1 e.2 in
          record { above = omega (arith, c.above); below = omega (arith, c.below) }

  from_halves : (i : ℕ) → 2 ≤ i → i < first_finest n → Claim (2 * i) → Claim (2 * i + 1) → Claim i
  unfolding offset
  from_halves i p q low high v a l r w h = go (lesser l r)
    where
      e : WholeCentre (corners n i)
      e = whole_centre n i p q

      go : ((k : ℕ) × (l ≡ r + k)) ⊎ ((k : ℕ) × (r ≡ l + k)) → Held z (corners n i) v a l r (b i)
      go (inl x) =
          let m = mean_low v (corners n i) a r x.0 e (subst (λ (l : ℕ). Mean v (corners n i) a l r) x.1 h) in
          let c = subst (λ (t : Corners). Mean v t (2 * r) a x.0 → Held z t v (2 * r) a x.0 (b (2 * i))) (corners_low n i p) (low v (2 * r) a x.0 (omega (arith, x.1))) m in
          subst (λ (l : ℕ). Held z (corners n i) v a l r (b i)) (sym x.1)
          (from_low a r x.0 _ _ _ _ _ (offset n z i) (b (2 * i)) (b i) refl (omega (arith, covers.above i p q)) c)
      go (inr x) =
          let m = mean_high v (corners n i) a l x.0 e (subst (λ (r : ℕ). Mean v (corners n i) a l r) x.1 h) in
          let c = subst (λ (t : Corners). Mean v t (2 * l) x.0 a → Held z t v (2 * l) x.0 a (b (2 * i + 1))) (corners_high n i p) (high v (2 * l) x.0 a (omega (arith, x.1))) m in
          subst (λ (r : ℕ). Held z (corners n i) v a l r (b i)) (sym x.1)
          (from_high a l x.0 _ _ _ _ _ (offset n z i) (b (2 * i + 1)) (b i) refl (omega (arith, covers.above i p q)) c)

  -- k levels above the finest
  from_below : (k i : ℕ) → 2 ≤ i → i < end n → first_finest n ≤ i * 2 ^ k → Claim i
  from_below zero i p q s = at_finest i p (omega arith) q
  from_below (suc k) i p q s =
      let e = deeper i k in
      let m : (2 * i) * 2 ^ k ≤ (2 * i + 1) * 2 ^ k = mul-le-mul_right (2 ^ k) (omega arith) in
      let t = end_twice n in
      ⊎_elim
      (λ l. from_halves i p l (from_below k (2 * i) (omega arith) (omega arith) (omega arith)) (from_below k (2 * i + 1) (omega arith) (omega arith) (omega arith)))
      (λ l. at_finest i p l q)
      (cases_lt i (first_finest n))

  claim : (i : ℕ) → 2 ≤ i → i < end n → Claim i
  claim i p q = from_below (2 * n) i p q (enough n i p)

pub wedge : (g : Ground) → Covered g → Wedge g
wedge g c i p q v wa wl wr m e =
    let t = corners g.order i in
    let k = positive g.order i p q in
    let h = claim g.order g.heights g.bounds c i p q v wa wl wr (omega arith) m in
    subst (λ (w : ℕ). 2 * apart (wa * g.heights t.apex + wl * g.heights t.left + wr * g.heights t.right) (w * g.heights v) ≤ w * g.bounds i) e
    (omega (arith, h.above, h.below))
