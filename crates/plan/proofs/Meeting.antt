-- A closed line and a closed triangle have a point in common exactly if nothing parts them: the numbers of Parting, for the real corners.
use Rattle.std.proofs.Common.{◌≡◌, ℕ, ◌+◌, ◌-◌, ◌*◌, ◌<◌, ◌≤◌, not, ◌&&◌, ltb, Decides, sym, ap, ◌∙◌, mul-le-mul_left, mul-pos, arith}
use native.Mathlib.Nat.{eq_of_mul-eq-mul_left}
use Rattle.std.proofs.lemmas.Bool.Decides.{Decides-like, Decides-not, Decides-and, Decides-ltb}
use Rattle.bintree.specs.declared.point.Point.{Point}
use Rattle.bintree.specs.declared.point.Corners.{Corners}
use Rattle.bintree.specs.Triangles.{at}
use Rattle.bintree.specs.Samples.{rising, falling}
use Rattle.bintree.proofs.Inside.{Turning, whole_x, whole_y}
use Rattle.plan.specs.Lines.{Meets, meets}
use Rattle.plan.proofs.Parting.{Side, Sides, above, below, Common, Open, One, Unparted, common, sum_at}

-- the edge from p to q, and the corner c opposite it, for the line from a to b
abbrev side : Point → Point → Point → Point → Point → Side
side a b p q c = record { pa = rising p q a; ma = falling p q a; pb = rising p q b; mb = falling p q b; r = rising a b c; f = falling a b c }

abbrev far_apex : Point → Point → Corners → Side
far_apex a b t = side a b t.left t.right t.apex

abbrev far_left : Point → Point → Corners → Side
far_left a b t = side a b t.right t.apex t.left

abbrev far_right : Point → Point → Corners → Side
far_right a b t = side a b t.apex t.left t.right

-- the balances of a point over the three edges add up to the doubled area
module _ (ax ay lx ly rx ry vx vy : ℕ) where
  whole : (lx * ry + rx * vy + vx * ly) + (rx * ay + ax * vy + vx * ry) + (ax * ly + lx * vy + vx * ay) + (ay * lx + ly * rx + ry * ax)
      ≡ (ly * rx + ry * vx + vy * lx) + (ry * ax + ay * vx + vy * rx) + (ay * lx + ly * vx + vy * ax) + (ax * ly + lx * ry + rx * ay)
  whole = omega arith

change : (α β γ : ℕ) {p q x y v w : ℕ} → p ≡ q → x ≡ y → v ≡ w → γ * p + (β * v + α * x) ≡ γ * q + (β * w + α * y)
change α β γ i j k = cc

-- and so for whatever goes evenly with a point: here γ + β·y + x·α
spread : (p q r s k l m n α β γ ax ay lx ly rx ry vx vy : ℕ)
    → p + q + r + s ≡ k + l + m + n
    → p * ax + q * lx + r * rx + s * vx ≡ k * ax + l * lx + m * rx + n * vx
    → p * ay + q * ly + r * ry + s * vy ≡ k * ay + l * ly + m * ry + n * vy
    → p * (γ + β * ay + ax * α) + q * (γ + β * ly + lx * α) + r * (γ + β * ry + rx * α) + s * (γ + β * vy + vx * α)
    ≡ k * (γ + β * ay + ax * α) + l * (γ + β * ly + lx * α) + m * (γ + β * ry + rx * α) + n * (γ + β * vy + vx * α)
spread p q r s k l m n α β γ ax ay lx ly rx ry vx vy e f g =
    four (one α β γ p ax ay) (one α β γ q lx ly) (one α β γ r rx ry) (one α β γ s vx vy)
    ∙ (gather α β γ p q r s _ _ _ _ _ _ _ _
    ∙ (change α β γ e f g
    ∙ sym (four (one α β γ k ax ay) (one α β γ l lx ly) (one α β γ m rx ry) (one α β γ n vx vy) ∙ gather α β γ k l m n _ _ _ _ _ _ _ _)))
  where
    one : (α β γ p x y : ℕ) → p * (γ + β * y + x * α) ≡ γ * p + (β * (p * y) + α * (p * x))
    one α β γ p x y = omega arith

    four : {a b c d e f g h : ℕ} → a ≡ e → b ≡ f → c ≡ g → d ≡ h → a + b + c + d ≡ e + f + g + h
    four i j k l = omega arith

    gather : (α β γ p q r s a b c d e f g h : ℕ)
        → (γ * p + (β * e + α * a)) + (γ * q + (β * f + α * b)) + (γ * r + (β * g + α * c)) + (γ * s + (β * h + α * d)) ≡ γ * (p + q + r + s) + (β * (e + f + g + h) + α * (a + b + c + d))
    gather α β γ p q r s a b c d e f g h = omega arith

-- a falling form is γ + α·x + y·β
turn : (γ α β x y : ℕ) → γ + α * x + y * β ≡ γ + β * y + x * α
turn γ α β x y = omega arith

-- two means that are one point
blend : (u v l m n α β γ ax ay bx by cx cy dx dy ex ey : ℕ) → u + v ≡ l + m + n → u * ax + v * bx ≡ l * cx + m * dx + n * ex → u * ay + v * by ≡ l * cy + m * dy + n * ey
    → u * (γ + β * ay + ax * α) + v * (γ + β * by + bx * α) ≡ l * (γ + β * cy + cx * α) + m * (γ + β * dy + dx * α) + n * (γ + β * ey + ex * α)
blend u v l m n α β γ ax ay bx by cx cy dx dy ex ey h i j = of_two u v ax ay bx by ∙ (change α β γ h i j ∙ sym (of_three l m n cx cy dx dy ex ey))
  where
    of_two : (u v ax ay bx by : ℕ) → u * (γ + β * ay + ax * α) + v * (γ + β * by + bx * α) ≡ γ * (u + v) + (β * (u * ay + v * by) + α * (u * ax + v * bx))
    of_two u v ax ay bx by = omega arith

    of_three : (l m n cx cy dx dy ex ey : ℕ) → l * (γ + β * cy + cx * α) + m * (γ + β * dy + dx * α) + n * (γ + β * ey + ex * α)
        ≡ γ * (l + m + n) + (β * (l * cy + m * dy + n * ey) + α * (l * cx + m * dx + n * ex))
    of_three l m n cx cy dx dy ex ey = omega arith

-- the balances of the corners over a line through p, weighted by the balances of p, even out
evened : (p q r s k l m n ax al ar av bx bl br bv : ℕ)
    → p * ax + q * al + r * ar + s * av ≡ k * ax + l * al + m * ar + n * av
    → p * bx + q * bl + r * br + s * bv ≡ k * bx + l * bl + m * br + n * bv
    → av ≡ bv
    → p * ax + k * bx + (q * al + l * bl) + (r * ar + m * br) ≡ k * ax + p * bx + (l * al + q * bl) + (m * ar + r * br)
evened p q r s k l m n ax al ar av bx bl br bv e f g =
    let x = ap (λ (z : ℕ). s * z) g in
    let y = ap (λ (z : ℕ). n * z) g in omega arith

-- a form over the corners of t and the point v
form_at : (t : Corners) (v : Point) (α β γ : ℕ)
    → rising t.left t.right v * (γ + β * t.apex.y + t.apex.x * α) + rising t.right t.apex v * (γ + β * t.left.y + t.left.x * α)
    + rising t.apex t.left v * (γ + β * t.right.y + t.right.x * α) + falling t.apex t.left t.right * (γ + β * v.y + v.x * α)
    ≡ falling t.left t.right v * (γ + β * t.apex.y + t.apex.x * α) + falling t.right t.apex v * (γ + β * t.left.y + t.left.x * α)
    + falling t.apex t.left v * (γ + β * t.right.y + t.right.x * α) + rising t.apex t.left t.right * (γ + β * v.y + v.x * α)
form_at t v α β γ =
    spread _ _ _ _ _ _ _ _ α β γ t.apex.x t.apex.y t.left.x t.left.y t.right.x t.right.y v.x v.y
    (whole t.apex.x t.apex.y t.left.x t.left.y t.right.x t.right.y v.x v.y)
    (whole_x t.apex.x t.apex.y t.left.x t.left.y t.right.x t.right.y v.x v.y)
    (whole_y t.apex.x t.apex.y t.left.x t.left.y t.right.x t.right.y v.x v.y)

module _ (a b : Point) (t : Corners) where
  fall_at : (v : Point)
      → rising t.left t.right v * falling a b t.apex + rising t.right t.apex v * falling a b t.left
      + rising t.apex t.left v * falling a b t.right + falling t.apex t.left t.right * falling a b v
      ≡ falling t.left t.right v * falling a b t.apex + falling t.right t.apex v * falling a b t.left
      + falling t.apex t.left v * falling a b t.right + rising t.apex t.left t.right * falling a b v
  fall_at v =
      rw (
        turn (a.y * b.x) b.y a.x t.apex.x t.apex.y,
        turn (a.y * b.x) b.y a.x t.left.x t.left.y,
        turn (a.y * b.x) b.y a.x t.right.x t.right.y,
        turn (a.y * b.x) b.y a.x v.x v.y,
      )
      (form_at t v b.y a.x (a.y * b.x))

  even_over : (v : Point) → rising a b v ≡ falling a b v
      → rising t.left t.right v * rising a b t.apex + falling t.left t.right v * falling a b t.apex
      + (rising t.right t.apex v * rising a b t.left + falling t.right t.apex v * falling a b t.left)
      + (rising t.apex t.left v * rising a b t.right + falling t.apex t.left v * falling a b t.right)
      ≡ falling t.left t.right v * rising a b t.apex + rising t.left t.right v * falling a b t.apex
      + (falling t.right t.apex v * rising a b t.left + rising t.right t.apex v * falling a b t.left)
      + (falling t.apex t.left v * rising a b t.right + rising t.apex t.left v * falling a b t.right)
  even_over v h = evened _ _ _ _ _ _ _ _ _ _ _ (rising a b v) _ _ _ (falling a b v) (form_at t v a.y b.x (a.x * b.y)) (fall_at v) h

  sides : Turning t → Sides (far_apex a b t) (far_left a b t) (far_right a b t)
  sides s = record {
    big = rising t.apex t.left t.right;
    small = falling t.apex t.left t.right;
    turning = s.turning;
    sum_a = whole t.apex.x t.apex.y t.left.x t.left.y t.right.x t.right.y a.x a.y;
    sum_b = whole t.apex.x t.apex.y t.left.x t.left.y t.right.x t.right.y b.x b.y;
    even_a = even_over a (omega arith);
    even_b = even_over b (omega arith);
  }

-- a point beyond no edge is a mean of the corners, with its balances as weights
mix : (u v c d e s n x y p q r k l m p' q' r' k' l' m' : ℕ)
    → p * c + q * d + r * e + s * x ≡ k * c + l * d + m * e + n * x
    → p' * c + q' * d + r' * e + s * y ≡ k' * c + l' * d + m' * e + n * y
    → (u * p + v * p') * c + (u * q + v * q') * d + (u * r + v * r') * e + s * (u * x + v * y)
    ≡ (u * k + v * k') * c + (u * l + v * l') * d + (u * m + v * m') * e + n * (u * x + v * y)
mix u v c d e s n x y p q r k l m p' q' r' k' l' m' f g =
    pull u v c d e s x y p q r p' q' r'
    ∙ (ap (λ (z : ℕ). u * z + v * (p' * c + q' * d + r' * e + s * y)) f
    ∙ (ap (λ (z : ℕ). u * (k * c + l * d + m * e + n * x) + v * z) g ∙ sym (pull u v c d e n x y k l m k' l' m')))
  where
    pull : (u v c d e s x y p q r p' q' r' : ℕ)
        → (u * p + v * p') * c + (u * q + v * q') * d + (u * r + v * r') * e + s * (u * x + v * y) ≡ u * (p * c + q * d + r * e + s * x) + v * (p' * c + q' * d + r' * e + s * y)
    pull u v c d e s x y p q r p' q' r' = omega arith

solve : (w1 w2 w3 z p1 p2 p3 m1 m2 m3 s n u v x y c d e : ℕ) → p1 ≡ w1 + m1 → p2 ≡ w2 + m2 → p3 ≡ w3 + m3 → n ≡ z + s
    → p1 * c + p2 * d + p3 * e + s * (u * x + v * y) ≡ m1 * c + m2 * d + m3 * e + n * (u * x + v * y)
    → z * u * x + z * v * y ≡ w1 * c + w2 * d + w3 * e
solve w1 w2 w3 z p1 p2 p3 m1 m2 m3 s n u v x y c d e f g h i j =
    let a = ap (λ (k : ℕ). k * c) f in
    let b = ap (λ (k : ℕ). k * d) g in
    let k = ap (λ (k : ℕ). k * e) h in
    let l = ap (λ (k : ℕ). k * (u * x + v * y)) i in omega arith

rest : (a b : ℕ) → b ≤ a → a ≡ (a - b) + b
rest a b h = omega arith

module _ (a b : Point) (t : Corners) where
  made : Turning t → Common (far_apex a b t) (far_left a b t) (far_right a b t) → Meets a b t
  unfolding sides
  made s c =
      let g = sides a b t s in
      let z = g.big - g.small in
      let ex = rest (above (far_apex a b t) c.u c.v) (below (far_apex a b t) c.u c.v) c.near_x in
      let ey = rest (above (far_left a b t) c.u c.v) (below (far_left a b t) c.u c.v) c.near_y in
      let ez = rest (above (far_right a b t) c.u c.v) (below (far_right a b t) c.u c.v) c.near_z in
      let en : g.big ≡ z + g.small = omega (arith, g.turning) in
      let pos : 0 < z = omega (arith, g.turning) in
      let all = mul-pos pos c.some in
      let sum = sum_at g c.u c.v in
      record {
        u = z * c.u;
        v = z * c.v;
        wa = above (far_apex a b t) c.u c.v - below (far_apex a b t) c.u c.v;
        wl = above (far_left a b t) c.u c.v - below (far_left a b t) c.u c.v;
        wr = above (far_right a b t) c.u c.v - below (far_right a b t) c.u c.v;
        some = positive z c.u c.v all;
        sum = counted _ _ _ _ _ _ _ _ _ _ _ _ c.u c.v ex ey ez en sum;
        on_x = solve _ _ _ _ _ _ _ _ _ _ _ _ c.u c.v a.x b.x t.apex.x t.left.x t.right.x ex ey ez en
            (mix c.u c.v t.apex.x t.left.x t.right.x _ _ a.x b.x _ _ _ _ _ _ _ _ _ _ _ _
            (whole_x t.apex.x t.apex.y t.left.x t.left.y t.right.x t.right.y a.x a.y)
            (whole_x t.apex.x t.apex.y t.left.x t.left.y t.right.x t.right.y b.x b.y));
        on_y = solve _ _ _ _ _ _ _ _ _ _ _ _ c.u c.v a.y b.y t.apex.y t.left.y t.right.y ex ey ez en
            (mix c.u c.v t.apex.y t.left.y t.right.y _ _ a.y b.y _ _ _ _ _ _ _ _ _ _ _ _
            (whole_y t.apex.x t.apex.y t.left.x t.left.y t.right.x t.right.y a.x a.y)
            (whole_y t.apex.x t.apex.y t.left.x t.left.y t.right.x t.right.y b.x b.y));
      }
    where
      positive : (z u v : ℕ) → 0 < z * (u + v) → 0 < z * u + z * v
      positive z u v h = omega arith

      counted : (w1 w2 w3 z p1 p2 p3 m1 m2 m3 s n u v : ℕ) → p1 ≡ w1 + m1 → p2 ≡ w2 + m2 → p3 ≡ w3 + m3 → n ≡ z + s
          → p1 + p2 + p3 + (u + v) * s ≡ m1 + m2 + m3 + (u + v) * n → z * u + z * v ≡ w1 + w2 + w3
      counted w1 w2 w3 z p1 p2 p3 m1 m2 m3 s n u v f g h i j = let k = ap (λ (k : ℕ). (u + v) * k) i in omega arith

  -- with all corners on the line its ends are one point: every point is on it
  on_line : Turning t → (v : Point) → rising a b t.apex ≡ falling a b t.apex → rising a b t.left ≡ falling a b t.left → rising a b t.right ≡ falling a b t.right
      → rising a b v ≡ falling a b v
  on_line s v e f g = level _ _ _ _ _ _ _ _ _ _ _ _ _ _ _ _ s.turning e f g (form_at t v a.y b.x (a.x * b.y)) (fall_at a b t v)
    where
      level : (p q r s k l m n x y z w x' y' z' w' : ℕ) → s < n → x ≡ x' → y ≡ y' → z ≡ z'
          → p * x + q * y + r * z + s * w ≡ k * x + l * y + m * z + n * w
          → p * x' + q * y' + r * z' + s * w' ≡ k * x' + l * y' + m * z' + n * w' → w ≡ w'
      level p q r s k l m n x y z w x' y' z' w' h ex ey ez e f =
          let px = ap (λ (i : ℕ). p * i) ex in
          let qy = ap (λ (i : ℕ). q * i) ey in
          let rz = ap (λ (i : ℕ). r * i) ez in
          let kx = ap (λ (i : ℕ). k * i) ex in
          let ly = ap (λ (i : ℕ). l * i) ey in
          let mz = ap (λ (i : ℕ). m * i) ez in
          let c : s * w + n * w' ≡ n * w + s * w' = omega arith in
          let o : n ≡ (n - s) + s = rest n s (omega arith) in
          let i = ap (λ (i : ℕ). i * w) o in
          let j = ap (λ (i : ℕ). i * w') o in
          eq_of_mul-eq-mul_left (n - s) (omega arith) w w' (omega arith)

  one_point : Turning t → (rising a b t.apex ≡ falling a b t.apex) × (rising a b t.left ≡ falling a b t.left) × (rising a b t.right ≡ falling a b t.right) → a ≡ b
  one_point s h =
      let o = on_line s (at 0 0) h.0 h.1 h.2 in
      let i = on_line s (at 1 0) h.0 h.1 h.2 in
      let j = on_line s (at 0 1) h.0 h.1 h.2 in
      same a.x a.y b.x b.y (omega arith) (omega arith)
    where
      same : (x y v w : ℕ) → x ≡ v → y ≡ w → at x y ≡ at v w
      same x y v w e f = ap (λ (k : ℕ). at k y) e ∙ ap (λ (k : ℕ). at v k) f

  one_side : (p q c : Point) → a ≡ b → One (side a b p q c)
  one_side p q c e = (ap (rising p q) e, ap (falling p q) e)

  -- a common point: what goes evenly with a point goes so with both of its means
  rising_mean : (m : Meets a b t) (p q : Point) → m.u * rising p q a + m.v * rising p q b ≡ m.wa * rising p q t.apex + m.wl * rising p q t.left + m.wr * rising p q t.right
  rising_mean m p q =
      blend m.u m.v m.wa m.wl m.wr p.y q.x (p.x * q.y) a.x a.y b.x b.y t.apex.x t.apex.y t.left.x t.left.y t.right.x t.right.y
      m.sum m.on_x m.on_y

  falling_mean : (m : Meets a b t) (p q : Point) → m.u * falling p q a + m.v * falling p q b ≡ m.wa * falling p q t.apex + m.wl * falling p q t.left + m.wr * falling p q t.right
  falling_mean m p q =
      rw (
        turn (p.y * q.x) q.y p.x a.x a.y,
        turn (p.y * q.x) q.y p.x b.x b.y,
        turn (p.y * q.x) q.y p.x t.apex.x t.apex.y,
        turn (p.y * q.x) q.y p.x t.left.x t.left.y,
        turn (p.y * q.x) q.y p.x t.right.x t.right.y,
      )
      (blend m.u m.v m.wa m.wl m.wr q.y p.x (p.y * q.x) a.x a.y b.x b.y t.apex.x t.apex.y t.left.x t.left.y t.right.x t.right.y
      m.sum m.on_x m.on_y)

  -- no edge parts what has a point in common
  edge_open : (m : Meets a b t) (p q : Point) → falling p q t.apex ≤ rising p q t.apex → falling p q t.left ≤ rising p q t.left → falling p q t.right ≤ rising p q t.right
      → (rising p q a < falling p q a) × (rising p q b < falling p q b) → ⊥
  edge_open m p q x y z h =
      omega (
        arith,
        rising_mean m p q,
        falling_mean m p q,
        mul-le-mul_left m.wa x,
        mul-le-mul_left m.wl y,
        mul-le-mul_left m.wr z,
        strictly m.u m.v _ _ _ _ m.some h.0 h.1,
      )
    where
      strictly : (u v c d e f : ℕ) → 0 < u + v → c < e → d < f → u * c + v * d < u * e + v * f
      strictly u v c d e f p i j = let x : u * (c + 1) ≤ u * e = mul-le-mul_left u (omega arith) in let y : v * (d + 1) ≤ v * f = mul-le-mul_left v (omega arith) in omega arith

  -- nor does the way along the line
  strictly3 : (u v w c d e f g h : ℕ) → 0 < u + v + w → c < f → d < g → e < h → u * c + v * d + w * e < u * f + v * g + w * h
  strictly3 u v w c d e f g h p i j k =
      let x : u * (c + 1) ≤ u * f = mul-le-mul_left u (omega arith) in
      let y : v * (d + 1) ≤ v * g = mul-le-mul_left v (omega arith) in
      let z : w * (e + 1) ≤ w * h = mul-le-mul_left w (omega arith) in omega arith

  ends_level : (m : Meets a b t) → m.u * rising a b a + m.v * rising a b b ≡ m.u * falling a b a + m.v * falling a b b
  ends_level m =
      let p : rising a b a ≡ falling a b a = omega arith in
      let q : rising a b b ≡ falling a b b = omega arith in rw (p, q)

  right_open : Meets a b t → (rising a b t.apex < falling a b t.apex) × (rising a b t.left < falling a b t.left) × (rising a b t.right < falling a b t.right) → ⊥
  right_open m h =
      let i = m.some in
      let j = m.sum in
      omega (arith, rising_mean m a b, falling_mean m a b, ends_level m, strictly3 m.wa m.wl m.wr _ _ _ _ _ _ (omega arith) h.0 h.1 h.2)

  left_open : Meets a b t → (falling a b t.apex < rising a b t.apex) × (falling a b t.left < rising a b t.left) × (falling a b t.right < rising a b t.right) → ⊥
  left_open m h =
      let i = m.some in
      let j = m.sum in
      omega (arith, rising_mean m a b, falling_mean m a b, ends_level m, strictly3 m.wa m.wl m.wr _ _ _ _ _ _ (omega arith) h.0 h.1 h.2)

  -- the five tests tell whether there is a common point
  abbrev Tests : Type 0
  Tests = Open (far_apex a b t) × (Open (far_left a b t) × (Open (far_right a b t)
      × ((((rising a b t.apex < falling a b t.apex) × (rising a b t.left < falling a b t.left)) × (rising a b t.right < falling a b t.right) → ⊥)
      × (((rising b a t.apex < falling b a t.apex) × (rising b a t.left < falling b a t.left)) × (rising b a t.right < falling b a t.right) → ⊥))))

  both : (p q v w : Point) → Decides (not (ltb (rising p q v) (falling p q v) && ltb (rising p q w) (falling p q w))) ((rising p q v < falling p q v) × (rising p q w < falling p q w) → ⊥)
  both p q v w = Decides-not _ (Decides-and _ _ (Decides-ltb _ _) (Decides-ltb _ _))

  all : (p q : Point) → Decides (not ((ltb (rising p q t.apex) (falling p q t.apex) && ltb (rising p q t.left) (falling p q t.left)) && ltb (rising p q t.right) (falling p q t.right)))
      (((rising p q t.apex < falling p q t.apex) × (rising p q t.left < falling p q t.left)) × (rising p q t.right < falling p q t.right) → ⊥)
  all p q = Decides-not _ (Decides-and _ _ (Decides-and _ _ (Decides-ltb _ _) (Decides-ltb _ _)) (Decides-ltb _ _))

  tested : Decides (meets a b t) Tests
  unfolding meets
  tested = Decides-and _ _ (both t.left t.right a b) (Decides-and _ _ (both t.right t.apex a b) (Decides-and _ _ (both t.apex t.left a b) (Decides-and _ _ (all a b) (all b a))))

  unparted : Turning t → Tests → Unparted (far_apex a b t) (far_left a b t) (far_right a b t)
  unparted s h = record {
    open_x = h.0;
    open_y = h.1.0;
    open_z = h.1.1.0;
    not_right = λ k. h.1.1.1.0 ((k.0, k.1), k.2);
    not_left = λ k. h.1.1.1.1 ((back t.apex k.0, back t.left k.1), back t.right k.2);
    one_x = λ k. one_side t.left t.right t.apex (one_point s k);
    one_y = λ k. one_side t.right t.apex t.left (one_point s k);
    one_z = λ k. one_side t.apex t.left t.right (one_point s k);
  }
    where
      back : (c : Point) → falling a b c < rising a b c → rising b a c < falling b a c
      back c k = omega arith

  open_tests : Turning t → Meets a b t → Tests
  open_tests s m =
      let h : falling t.apex t.left t.right < rising t.apex t.left t.right = s.turning in (
        edge_open m t.left t.right (omega arith) (omega arith) (omega arith),
        (
          edge_open m t.right t.apex (omega arith) (omega arith) (omega arith),
          (
            edge_open m t.apex t.left (omega arith) (omega arith) (omega arith),
            (
              λ k. right_open m (k.0.0, k.0.1, k.1),
              λ k. left_open m (forth t.apex k.0.0, forth t.left k.0.1, forth t.right k.1),
            ),
          ),
        ),
      )
    where
      forth : (c : Point) → rising b a c < falling b a c → falling a b c < rising a b c
      forth c k = omega arith

  pub meets_decides : Turning t → Decides (meets a b t) (Meets a b t)
  meets_decides s = Decides-like (meets a b t) (λ h. made s (common (sides a b t s) (unparted s h))) (open_tests s) tested
