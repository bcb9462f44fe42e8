-- A point lies in a closed triangle exactly if it is beyond none of its edges. Its weights are the doubled areas that it makes with the edges.
use Rattle.std.proofs.Common.{◌≡◌, ℕ, ◌+◌, ◌-◌, ◌*◌, ◌<◌, ◌≤◌, Bool, true, ◌&&◌, leb, sym, ap, ◌∙◌, mul-le-mul_left, arith}
use native.Mathlib.Nat.{le_of_mul-le-mul_left, eq_of_mul-eq-mul_left}
use Rattle.std.proofs.lemmas.Bool.{leb-true, le-leb, and_parts, and_from}
use Rattle.bintree.specs.declared.point.Point.{Point}
use Rattle.bintree.specs.declared.point.Corners.{Corners}
use Rattle.bintree.specs.Samples.{rising, falling, area, Mean, LiesIn}

-- v is not beyond the edge from p to q; v is beyond no edge of t
abbrev pub beside : Point → Point → Point → Bool
beside p q v = leb (falling p q v) (rising p q v)

unfoldable pub inside : Point → Corners → Bool
inside v t = beside t.left t.right v && (beside t.right t.apex v && beside t.apex t.left v)

-- the corners stand counterclockwise
pub record Turning (t : Corners) : Type 0 where
  pub turning : falling t.apex t.left t.right < rising t.apex t.left t.right

-- what is linear in a point is, at a mean of points, the mean of what it is there
spread : (α β γ w x y : ℕ) → w * (γ + α * x + y * β) ≡ γ * w + α * (w * x) + β * (w * y)
spread α β γ w x y = omega arith

spread_sum : (α β γ m n w sx sy tx ty ux uy : ℕ)
    → m * (γ + α * sx + sy * β) + n * (γ + α * tx + ty * β) + w * (γ + α * ux + uy * β) ≡ γ * (m + n + w) + α * (m * sx + n * tx + w * ux) + β * (m * sy + n * ty + w * uy)
spread_sum α β γ m n w sx sy tx ty ux uy = omega arith

spread_mean : (α β γ wo wp wq ox oy px py qx qy vx vy : ℕ) → (wo + wp + wq) * vx ≡ wo * ox + wp * px + wq * qx → (wo + wp + wq) * vy ≡ wo * oy + wp * py + wq * qy
    → (wo + wp + wq) * (γ + α * vx + vy * β) ≡ wo * (γ + α * ox + oy * β) + wp * (γ + α * px + py * β) + wq * (γ + α * qx + qy * β)
spread_mean α β γ wo wp wq ox oy px py qx qy vx vy ex ey = spread α β γ (wo + wp + wq) vx vy ∙ rw (ex, ey) (sym (spread_sum α β γ wo wp wq ox oy px py qx qy))

-- rising and falling products agree at the ends of the edge, so only the weight of o counts
joined : (w wo wp wq fv rv fo ro fp rp fq rq : ℕ) → w * fv ≡ wo * fo + wp * fp + wq * fq → w * rv ≡ wo * ro + wp * rp + wq * rq → fp ≡ rp → fq ≡ rq → w * fv + wo * ro ≡ w * rv + wo * fo
joined w wo wp wq fv rv fo ro fp rp fq rq e f g h =
    let x = ap (λ (z : ℕ). wp * z) g in
    let y = ap (λ (z : ℕ). wq * z) h in omega arith

share_at : (ox oy px py qx qy vx vy wo wp wq : ℕ) → (wo + wp + wq) * vx ≡ wo * ox + wp * px + wq * qx → (wo + wp + wq) * vy ≡ wo * oy + wp * py + wq * qy
    → (wo + wp + wq) * (py * qx + qy * vx + vy * px) + wo * (px * qy + py * ox + oy * qx) ≡ (wo + wp + wq) * (px * qy + py * vx + vy * qx) + wo * (py * qx + qy * ox + oy * px)
share_at ox oy px py qx qy vx vy wo wp wq ex ey =
    joined (wo + wp + wq) wo wp wq _ _ _ _ _ _ _ _
    (spread_mean qy px (py * qx) wo wp wq ox oy px py qx qy vx vy ex ey) (spread_mean py qx (px * qy) wo wp wq ox oy px py qx qy vx vy ex ey) (omega arith) (omega arith)

-- v is the mean of o, p and q with these weights
pub record Weighted (o p q v : Point) (wo wp wq : ℕ) : Type 0 where
  pub on_x : (wo + wp + wq) * v.x ≡ wo * o.x + wp * p.x + wq * q.x
  pub on_y : (wo + wp + wq) * v.y ≡ wo * o.y + wp * p.y + wq * q.y

-- the corners of a triangle in turn
at_apex : (v : Point) (t : Corners) (a l r : ℕ) → Mean v t a l r → Weighted t.apex t.left t.right v a l r
at_apex v t a l r h = record { on_x = h.on_x; on_y = h.on_y }

at_left : (v : Point) (t : Corners) (a l r : ℕ) → Mean v t a l r → Weighted t.left t.right t.apex v l r a
at_left v t a l r h = record { on_x = omega (arith, h.on_x); on_y = omega (arith, h.on_y) }

at_right : (v : Point) (t : Corners) (a l r : ℕ) → Mean v t a l r → Weighted t.right t.apex t.left v r a l
at_right v t a l r h = record { on_x = omega (arith, h.on_x); on_y = omega (arith, h.on_y) }

-- o has that share of the weights that the doubled area of p q v is of that of o p q
share : (o p q v : Point) (wo wp wq : ℕ) → Weighted o p q v wo wp wq
    → (wo + wp + wq) * falling p q v + wo * rising o p q ≡ (wo + wp + wq) * rising p q v + wo * falling o p q
share o p q v wo wp wq h = omega (arith, share_at o.x o.y p.x p.y q.x q.y v.x v.y wo wp wq h.on_x h.on_y)

not_beyond : (o p q v : Point) (wo wp wq : ℕ) → falling o p q ≤ rising o p q → 0 < wo + wp + wq → Weighted o p q v wo wp wq → beside p q v ≡ true
not_beyond o p q v wo wp wq h pos m = le-leb _ _ (le_of_mul-le-mul_left (less _ _ _ _ (share o p q v wo wp wq m) (mul-le-mul_left wo h)) pos)
  where
    less : (x y z w : ℕ) → x + y ≡ z + w → w ≤ y → x ≤ z
    less x y z w e l = omega arith

pub mean_inside : (v : Point) (t : Corners) (a l r : ℕ) → Turning t → 0 < a + l + r → Mean v t a l r → inside v t ≡ true
unfolding inside
mean_inside v t a l r s p h =
    let b : falling t.apex t.left t.right < rising t.apex t.left t.right = s.turning in
    and_from _ _ (not_beyond t.apex t.left t.right v a l r (omega arith) p (at_apex v t a l r h))
    (and_from _ _ (not_beyond t.left t.right t.apex v l r a (omega arith) (omega arith) (at_left v t a l r h))
    (not_beyond t.right t.apex t.left v r a l (omega arith) (omega arith) (at_right v t a l r h)))

-- so the weights of a point in a triangle are settled, up to a factor
pub record Settled (a l r a' l' r' : ℕ) : Type 0 where
  pub at_a : (a' + l' + r') * a ≡ (a + l + r) * a'
  pub at_l : (a' + l' + r') * l ≡ (a + l + r) * l'
  pub at_r : (a' + l' + r') * r ≡ (a + l + r) * r'

settled_at : (W W' w w' X Y R F : ℕ) → W * X + w * R ≡ W * Y + w * F → W' * X + w' * R ≡ W' * Y + w' * F → F < R → W' * w ≡ W * w'
settled_at W W' w w' X Y R F e f h = eq_of_mul-eq-mul_left (R - F) (omega arith) (W' * w) (W * w') (go (R - F) (omega arith))
  where
    go : (A : ℕ) → R ≡ F + A → A * (W' * w) ≡ A * (W * w')
    go A g =
        let p = ap (λ (z : ℕ). W' * z) e in
        let q = ap (λ (z : ℕ). W * z) f in
        let s = ap (λ (z : ℕ). W' * w * z) g in
        let t = ap (λ (z : ℕ). W * w' * z) g in omega arith

pub settled : (t : Corners) → Turning t → (v : Point) (a l r a' l' r' : ℕ) → Mean v t a l r → Mean v t a' l' r' → Settled a l r a' l' r'
settled t s v a l r a' l' r' m m' =
    let b : falling t.apex t.left t.right < rising t.apex t.left t.right = s.turning in
    record {
      at_a = settled_at (a + l + r) (a' + l' + r') a a' _ _ _ _ (share _ _ _ v a l r (at_apex v t a l r m)) (share _ _ _ v a' l' r' (at_apex v t a' l' r' m')) b;
      at_l = omega (arith, settled_at (l + r + a) (l' + r' + a') l l' _ _ _ _ (share _ _ _ v l r a (at_left v t a l r m)) (share _ _ _ v l' r' a' (at_left v t a' l' r' m')) (omega arith));
      at_r = omega (arith, settled_at (r + a + l) (r' + a' + l') r r' _ _ _ _ (share _ _ _ v r a l (at_right v t a l r m)) (share _ _ _ v r' a' l' (at_right v t a' l' r' m')) (omega arith));
    }

-- the doubled areas that a point makes with the edges are its weights: their sum
weights_sum : (ax ay lx ly rx ry vx vy wa wl wr w : ℕ)
    → lx * ry + rx * vy + vx * ly ≡ wa + (ly * rx + ry * vx + vy * lx)
    → rx * ay + ax * vy + vx * ry ≡ wl + (ry * ax + ay * vx + vy * rx)
    → ax * ly + lx * vy + vx * ay ≡ wr + (ay * lx + ly * vx + vy * ax)
    → ax * ly + lx * ry + rx * ay ≡ w + (ay * lx + ly * rx + ry * ax) → wa + wl + wr ≡ w
weights_sum ax ay lx ly rx ry vx vy wa wl wr w e f g h = omega arith

-- the areas times the corners are the whole area times the point
pub whole_x : (ax ay lx ly rx ry vx vy : ℕ)
    → (lx * ry + rx * vy + vx * ly) * ax + (rx * ay + ax * vy + vx * ry) * lx + (ax * ly + lx * vy + vx * ay) * rx + (ay * lx + ly * rx + ry * ax) * vx
    ≡ (ly * rx + ry * vx + vy * lx) * ax + (ry * ax + ay * vx + vy * rx) * lx + (ay * lx + ly * vx + vy * ax) * rx + (ax * ly + lx * ry + rx * ay) * vx
whole_x ax ay lx ly rx ry vx vy = omega arith

pub whole_y : (ax ay lx ly rx ry vx vy : ℕ)
    → (lx * ry + rx * vy + vx * ly) * ay + (rx * ay + ax * vy + vx * ry) * ly + (ax * ly + lx * vy + vx * ay) * ry + (ay * lx + ly * rx + ry * ax) * vy
    ≡ (ly * rx + ry * vx + vy * lx) * ay + (ry * ax + ay * vx + vy * rx) * ly + (ay * lx + ly * vx + vy * ax) * ry + (ax * ly + lx * ry + rx * ay) * vy
whole_y ax ay lx ly rx ry vx vy = omega arith

-- what the whole areas say, less what the falling products say
solve : (p m1 p1 q m2 p2 r m3 p3 Z M P S c d e : ℕ) → p1 * c + p2 * d + p3 * e + M * S ≡ m1 * c + m2 * d + m3 * e + P * S
    → p1 ≡ p + m1 → p2 ≡ q + m2 → p3 ≡ r + m3 → P ≡ Z + M → Z * S ≡ p * c + q * d + r * e
solve p m1 p1 q m2 p2 r m3 p3 Z M P S c d e h e1 e2 e3 e4 =
    let a = ap (λ (z : ℕ). z * c) e1 in
    let b = ap (λ (z : ℕ). z * d) e2 in
    let f = ap (λ (z : ℕ). z * e) e3 in
    let g = ap (λ (z : ℕ). z * S) e4 in omega arith

-- the rising products are the falling ones and a rest
rising_rest : (p q v : Point) → beside p q v ≡ true → rising p q v ≡ (rising p q v - falling p q v) + falling p q v
rising_rest p q v e = let h : falling p q v ≤ rising p q v = leb-true _ _ e in omega arith

-- a point beyond no edge lies in the triangle, and back
pub inside_in : (v : Point) (t : Corners) → Turning t → inside v t ≡ true → LiesIn v t
unfolding inside area
inside_in v t s e =
    let p = and_parts _ _ e in
    let q = and_parts _ _ p.1 in
    let b : falling t.apex t.left t.right < rising t.apex t.left t.right = s.turning in
    let ea = rising_rest t.left t.right v p.0 in
    let el = rising_rest t.right t.apex v q.0 in
    let er = rising_rest t.apex t.left v q.1 in
    let eA : rising t.apex t.left t.right ≡ (rising t.apex t.left t.right - falling t.apex t.left t.right) + falling t.apex t.left t.right = omega arith in
    let sm = weights_sum t.apex.x t.apex.y t.left.x t.left.y t.right.x t.right.y v.x v.y _ _ _ _ ea el er eA in
    record {
      wa = rising t.left t.right v - falling t.left t.right v;
      wl = rising t.right t.apex v - falling t.right t.apex v;
      wr = rising t.apex t.left v - falling t.apex t.left v;
      sum = sm;
      mean = record {
        on_x = ap (λ (z : ℕ). z * v.x) sm ∙ solve _ _ _ _ _ _ _ _ _ _ _ _ _ _ _ _ (whole_x t.apex.x t.apex.y t.left.x t.left.y t.right.x t.right.y v.x v.y) ea el er eA;
        on_y = ap (λ (z : ℕ). z * v.y) sm ∙ solve _ _ _ _ _ _ _ _ _ _ _ _ _ _ _ _ (whole_y t.apex.x t.apex.y t.left.x t.left.y t.right.x t.right.y v.x v.y) ea el er eA;
      };
    }

pub in_inside : (v : Point) (t : Corners) → Turning t → LiesIn v t → inside v t ≡ true
unfolding area
in_inside v t s h =
    let b : falling t.apex t.left t.right < rising t.apex t.left t.right = s.turning in
    mean_inside v t h.wa h.wl h.wr s (omega (arith, h.sum)) h.mean
