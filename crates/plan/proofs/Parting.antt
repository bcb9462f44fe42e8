-- Numbers only: a line from a to b and a triangle that nothing parts have a point in common. A point of the line is given by its weights u and v.
-- Each edge of the triangle gives a balance that is evenly positive on the triangle's side of it; the corner opposite the edge has a balance over
-- the line. If a is on the near side of every edge, it is the point. Else the line crosses some edge's line: at that point the two other edges' balances
-- are not negative, which gives the point, or they have opposite signs, and then the two corners stand on one side of the line. In the latter case the line
-- crosses a second edge's line as well, and there the same holds of another two corners: so all three stand on one side, and the line parts them.
use Rattle.std.proofs.Common.{◌≡◌, ℕ, ◌+◌, ◌-◌, ◌*◌, ◌<◌, ◌≤◌, ◌⊎◌, sym, ap, ◌∙◌, inl, inr, mul-le-mul_left, arith}
use Rattle.std.proofs.lemmas.Bool.{cases_lt, cases_order}

-- One edge and the corner opposite it. The balances of a and b over the edge are pa − ma and pb − mb; that of the corner over the line is r − f.
pub record Side : Type 0 where
  pub pa : ℕ
  pub ma : ℕ
  pub pb : ℕ
  pub mb : ℕ
  pub r : ℕ
  pub f : ℕ

-- The three sides of one triangle. The balances of a point add up to the doubled area, big − small, and as weights of the corners they give the point back,
-- so that the corners' balances over the line, weighted so, add up to that of a, and of b, which is none.
pub record Sides (x y z : Side) : Type 0 where
  pub big : ℕ
  pub small : ℕ
  pub turning : small < big
  pub sum_a : x.pa + y.pa + z.pa + small ≡ x.ma + y.ma + z.ma + big
  pub sum_b : x.pb + y.pb + z.pb + small ≡ x.mb + y.mb + z.mb + big
  pub even_a : x.pa * x.r + x.ma * x.f + (y.pa * y.r + y.ma * y.f) + (z.pa * z.r + z.ma * z.f) ≡ x.ma * x.r + x.pa * x.f + (y.ma * y.r + y.pa * y.f) + (z.ma * z.r + z.pa * z.f)
  pub even_b : x.pb * x.r + x.mb * x.f + (y.pb * y.r + y.mb * y.f) + (z.pb * z.r + z.mb * z.f) ≡ x.mb * x.r + x.pb * x.f + (y.mb * y.r + y.pb * y.f) + (z.mb * z.r + z.pb * z.f)

swapped : {x y z : Side} → Sides x y z → Sides y x z
swapped s = record { big = s.big; small = s.small; turning = s.turning; sum_a = omega (arith, s.sum_a); sum_b = omega (arith, s.sum_b); even_a = omega (arith, s.even_a); even_b = omega (arith, s.even_b) }

turned : {x y z : Side} → Sides x y z → Sides z x y
turned s = record { big = s.big; small = s.small; turning = s.turning; sum_a = omega (arith, s.sum_a); sum_b = omega (arith, s.sum_b); even_a = omega (arith, s.even_a); even_b = omega (arith, s.even_b) }

-- The balance over an edge of the point with the weights u and v is above s u v less below s u v.
abbrev pub above : Side → ℕ → ℕ → ℕ
above s u v = u * s.pa + v * s.pb

abbrev pub below : Side → ℕ → ℕ → ℕ
below s u v = u * s.ma + v * s.mb

-- A point that is beyond no edge.
pub record Common (x y z : Side) : Type 0 where
  pub u : ℕ
  pub v : ℕ
  pub some : 0 < u + v
  pub near_x : below x u v ≤ above x u v
  pub near_y : below y u v ≤ above y u v
  pub near_z : below z u v ≤ above z u v

-- a is beyond the edge, or b is; not both are; just one is
abbrev pub Out : Side → Type 0
Out s = (s.pa < s.ma) ⊎ (s.pb < s.mb)

abbrev pub Open : Side → Type 0
Open s = (s.pa < s.ma) × (s.pb < s.mb) → ⊥

Crossed : Side → Type 0
Crossed s = ((s.pa < s.ma) × (s.mb ≤ s.pb)) ⊎ ((s.ma ≤ s.pa) × (s.pb < s.mb))

crossed : (s : Side) → Open s → Out s → Crossed s
unfolding Crossed
crossed s o (inl h) = go (cases_lt s.pb s.mb)
  where
    go : (s.pb < s.mb) ⊎ (s.mb ≤ s.pb) → ((s.pa < s.ma) × (s.mb ≤ s.pb)) ⊎ ((s.ma ≤ s.pa) × (s.pb < s.mb))
    go (inl k) = absurd (o (h, k))
    go (inr k) = inl (h, k)
crossed s o (inr h) = go (cases_lt s.pa s.ma)
  where
    go : (s.pa < s.ma) ⊎ (s.ma ≤ s.pa) → ((s.pa < s.ma) × (s.mb ≤ s.pb)) ⊎ ((s.ma ≤ s.pa) × (s.pb < s.mb))
    go (inl k) = absurd (o (k, h))
    go (inr k) = inr (k, h)

-- where the line crosses the edge's line
record Level (s : Side) : Type 0 where
  u : ℕ
  v : ℕ
  some : 0 < u + v
  even : below s u v ≡ above s u v

level_at : (s : Side) (u v : ℕ) → s.ma ≡ s.pa + v → s.pb ≡ s.mb + u → below s u v ≡ above s u v
level_at s u v e f = let p = ap (λ (k : ℕ). u * k) e in let q = ap (λ (k : ℕ). v * k) f in omega arith

level_back : (s : Side) (u v : ℕ) → s.pa ≡ s.ma + v → s.mb ≡ s.pb + u → below s u v ≡ above s u v
level_back s u v e f = let p = ap (λ (k : ℕ). u * k) e in let q = ap (λ (k : ℕ). v * k) f in omega arith

level : (s : Side) → Crossed s → Level s
unfolding Crossed
level s (inl h) = record { u = s.pb - s.mb; v = s.ma - s.pa; some = omega (arith, h.0); even = level_at s _ _ (omega (arith, h.0)) (omega (arith, h.1)) }
level s (inr h) = record { u = s.mb - s.pb; v = s.pa - s.ma; some = omega (arith, h.1); even = level_back s _ _ (omega (arith, h.0)) (omega (arith, h.1)) }

-- two corners stand on one side of the line, or both on it
data Same (y z : Side) : Type 0 where
  right : y.r < y.f → z.r < z.f → Same y z
  left : y.f < y.r → z.f < z.r → Same y z
  on : y.r ≡ y.f → z.r ≡ z.f → Same y z

flipped : {y z : Side} → Same y z → Same z y
flipped (right p q) = right q p
flipped (left p q) = left q p
flipped (on p q) = on q p

more : (j a b : ℕ) → 0 < j → a < b → j * a < j * b
more j a b p h = let k : j * (a + 1) ≤ j * b = mul-le-mul_left j (omega arith) in omega arith

same_from : (j k : ℕ) (y z : Side) → 0 < j → 0 < k → j * y.f + k * z.r ≡ j * y.r + k * z.f → Same y z
same_from j k y z p q e = go (cases_order y.r y.f) (cases_order z.r z.f)
  where
    go : (y.r ≡ y.f) ⊎ ((y.r < y.f) ⊎ (y.f < y.r)) → (z.r ≡ z.f) ⊎ ((z.r < z.f) ⊎ (z.f < z.r)) → Same y z
    go (inl a) (inl b) = on a b
    go (inr (inl a)) (inr (inl b)) = right a b
    go (inr (inr a)) (inr (inr b)) = left a b
    go (inl a) (inr (inl b)) = absurd (omega (arith, ap (λ (m : ℕ). j * m) a, more k _ _ q b))
    go (inl a) (inr (inr b)) = absurd (omega (arith, ap (λ (m : ℕ). j * m) a, more k _ _ q b))
    go (inr (inl a)) (inl b) = absurd (omega (arith, ap (λ (m : ℕ). k * m) b, more j _ _ p a))
    go (inr (inr a)) (inl b) = absurd (omega (arith, ap (λ (m : ℕ). k * m) b, more j _ _ p a))
    go (inr (inl a)) (inr (inr b)) = absurd (omega (arith, more j _ _ p a, more k _ _ q b))
    go (inr (inr a)) (inr (inl b)) = absurd (omega (arith, more j _ _ p a, more k _ _ q b))

-- the sums at any point of the line
pub sum_at : {x y z : Side} (s : Sides x y z) (u v : ℕ) → above x u v + above y u v + above z u v + (u + v) * s.small ≡ below x u v + below y u v + below z u v + (u + v) * s.big
sum_at s u v = let p = ap (λ (k : ℕ). u * k) s.sum_a in let q = ap (λ (k : ℕ). v * k) s.sum_b in omega arith

weigh : (s : Side) (u v : ℕ) → above s u v * s.r + below s u v * s.f ≡ u * (s.pa * s.r + s.ma * s.f) + v * (s.pb * s.r + s.mb * s.f)
weigh s u v = omega arith

weigh_back : (s : Side) (u v : ℕ) → below s u v * s.r + above s u v * s.f ≡ u * (s.ma * s.r + s.pa * s.f) + v * (s.mb * s.r + s.pb * s.f)
weigh_back s u v = omega arith

join : (u v a b c d e f g h i j k l : ℕ) → a + b + c ≡ d + e + f → g + h + i ≡ j + k + l
    → (u * a + v * g) + (u * b + v * h) + (u * c + v * i) ≡ (u * d + v * j) + (u * e + v * k) + (u * f + v * l)
join u v a b c d e f g h i j k l p q = let s = ap (λ (m : ℕ). u * m) p in let t = ap (λ (m : ℕ). v * m) q in omega arith

three : {a b c d e f : ℕ} → a ≡ d → b ≡ e → c ≡ f → a + b + c ≡ d + e + f
three p q r = omega arith

even_at : {x y z : Side} (s : Sides x y z) (u v : ℕ)
    → above x u v * x.r + below x u v * x.f + (above y u v * y.r + below y u v * y.f) + (above z u v * z.r + below z u v * z.f)
    ≡ below x u v * x.r + above x u v * x.f + (below y u v * y.r + above y u v * y.f) + (below z u v * z.r + above z u v * z.f)
even_at {x} {y} {z} s u v =
    three (weigh x u v) (weigh y u v) (weigh z u v)
    ∙ (join u v _ _ _ _ _ _ _ _ _ _ _ _ s.even_a s.even_b ∙ sym (three (weigh_back x u v) (weigh_back y u v) (weigh_back z u v)))

-- with one balance even and two of opposite signs
cancel : (ax bx ay by az bz rx fx ry fy rz fz j k : ℕ) → bx ≡ ax → by ≡ ay + j → az ≡ bz + k
    → ax * rx + bx * fx + (ay * ry + by * fy) + (az * rz + bz * fz) ≡ bx * rx + ax * fx + (by * ry + ay * fy) + (bz * rz + az * fz)
    → j * fy + k * rz ≡ j * ry + k * fz
cancel ax bx ay by az bz rx fx ry fy rz fz j k e1 e2 e3 h =
    let p1 = ap (λ (m : ℕ). m * rx) e1 in
    let p2 = ap (λ (m : ℕ). m * fx) e1 in
    let q1 = ap (λ (m : ℕ). m * ry) e2 in
    let q2 = ap (λ (m : ℕ). m * fy) e2 in
    let s1 = ap (λ (m : ℕ). m * rz) e3 in
    let s2 = ap (λ (m : ℕ). m * fz) e3 in omega arith

opposite : {x y z : Side} → Sides x y z → (u v : ℕ) → 0 < u + v → below x u v ≡ above x u v → above y u v < below y u v → Same y z
opposite {x} {y} {z} s u v p e h =
    let t = sum_at s u v in
    let m = more (u + v) s.small s.big p s.turning in
    let g : below z u v < above z u v = omega (arith, t, m, e, h) in
    same_from (below y u v - above y u v) (above z u v - below z u v) y z (omega (arith, h)) (omega (arith, g))
    (cancel (above x u v) (below x u v) (above y u v) (below y u v) (above z u v) (below z u v) x.r x.f y.r y.f z.r z.f _ _ e (omega (arith, h)) (omega (arith, g)) (even_at s u v))

-- a point with a negative balance has an end that is beyond
out : (s : Side) (u v : ℕ) → above s u v < below s u v → Out s
out s u v h = go (cases_lt s.pa s.ma) (cases_lt s.pb s.mb)
  where
    go : (s.pa < s.ma) ⊎ (s.ma ≤ s.pa) → (s.pb < s.mb) ⊎ (s.mb ≤ s.pb) → Out s
    go (inl k) m = inl k
    go (inr k) (inl m) = inr m
    go (inr k) (inr m) = absurd (omega (arith, mul-le-mul_left u k, mul-le-mul_left v m, h))

-- at the crossing of one edge's line
at_crossing : {x y z : Side} → Sides x y z → Level x → Common x y z ⊎ (Same y z × (Out y ⊎ Out z))
at_crossing {x} {y} {z} s l = go (cases_lt (above y l.u l.v) (below y l.u l.v)) (cases_lt (above z l.u l.v) (below z l.u l.v))
  where
    go : (above y l.u l.v < below y l.u l.v) ⊎ (below y l.u l.v ≤ above y l.u l.v)
        → (above z l.u l.v < below z l.u l.v) ⊎ (below z l.u l.v ≤ above z l.u l.v) → Common x y z ⊎ (Same y z × (Out y ⊎ Out z))
    go (inl h) k = inr (opposite s l.u l.v l.some l.even h, inl (out y l.u l.v h))
    go (inr h) (inl k) = inr (flipped (opposite (swapped (turned s)) l.u l.v l.some l.even k), inr (out z l.u l.v k))
    go (inr h) (inr k) = inl record { u = l.u; v = l.v; some = l.some; near_x = omega (arith, l.even); near_y = h; near_z = k }

-- a and b have the same balances
abbrev pub One : Side → Type 0
One s = (s.pa ≡ s.pb) × (s.ma ≡ s.mb)

-- nothing parts the line and the triangle
pub record Unparted (x y z : Side) : Type 0 where
  pub open_x : Open x
  pub open_y : Open y
  pub open_z : Open z
  pub not_right : (x.r < x.f) × (y.r < y.f) × (z.r < z.f) → ⊥
  pub not_left : (x.f < x.r) × (y.f < y.r) × (z.f < z.r) → ⊥
  -- with all corners on the line, its ends are one point
  pub one_x : (x.r ≡ x.f) × (y.r ≡ y.f) × (z.r ≡ z.f) → One x
  pub one_y : (x.r ≡ x.f) × (y.r ≡ y.f) × (z.r ≡ z.f) → One y
  pub one_z : (x.r ≡ x.f) × (y.r ≡ y.f) × (z.r ≡ z.f) → One z

not_one : (x : Side) → Open x → Out x → One x → ⊥
not_one x o (inl h) e = o (h, omega (arith, h, e.0, e.1))
not_one x o (inr h) e = o (omega (arith, h, e.0, e.1), h)

clash : {x y z : Side} → Unparted x y z → Out x → Same y z → Same x z → ⊥
clash u o (right p q) (right a b) = u.not_right (a, p, q)
clash u o (left p q) (left a b) = u.not_left (a, p, q)
clash {x} u o (on p q) (on a b) = not_one x u.open_x o (u.one_x (a, p, q))
clash u o (right p q) (left a b) = absurd (omega arith)
clash u o (right p q) (on a b) = absurd (omega arith)
clash u o (left p q) (right a b) = absurd (omega arith)
clash u o (left p q) (on a b) = absurd (omega arith)
clash u o (on p q) (right a b) = absurd (omega arith)
clash u o (on p q) (left a b) = absurd (omega arith)

from_swapped : {x y z : Side} → Common y x z → Common x y z
from_swapped c = record { u = c.u; v = c.v; some = c.some; near_x = c.near_y; near_y = c.near_x; near_z = c.near_z }

from_turned : {x y z : Side} → Common z x y → Common x y z
from_turned c = record { u = c.u; v = c.v; some = c.some; near_x = c.near_y; near_y = c.near_z; near_z = c.near_x }

-- an end is beyond the first edge
found : {x y z : Side} → Sides x y z → Unparted x y z → Out x → Common x y z
found {x} {y} {z} s u o = first (at_crossing s (level x (crossed x u.open_x o)))
  where
    by_y : Same y z → Common y x z ⊎ (Same x z × (Out x ⊎ Out z)) → Common x y z
    by_y e (inl c) = from_swapped c
    by_y e (inr d) = absurd (clash u o e d.0)

    by_z : Same y z → Common z x y ⊎ (Same x y × (Out x ⊎ Out y)) → Common x y z
    by_z e (inl c) = from_turned c
    by_z e (inr d) = absurd (clash u o e (through d.0 e))
      where
        through : Same x y → Same y z → Same x z
        through (right p q) (right a b) = right p b
        through (left p q) (left a b) = left p b
        through (on p q) (on a b) = on p b
        through (right p q) (left a b) = absurd (omega arith)
        through (right p q) (on a b) = absurd (omega arith)
        through (left p q) (right a b) = absurd (omega arith)
        through (left p q) (on a b) = absurd (omega arith)
        through (on p q) (right a b) = absurd (omega arith)
        through (on p q) (left a b) = absurd (omega arith)

    second : Same y z → Out y ⊎ Out z → Common x y z
    second e (inl h) = by_y e (at_crossing (swapped s) (level y (crossed y u.open_y h)))
    second e (inr h) = by_z e (at_crossing (turned s) (level z (crossed z u.open_z h)))

    first : Common x y z ⊎ (Same y z × (Out y ⊎ Out z)) → Common x y z
    first (inl c) = c
    first (inr d) = second d.0 d.1

unparted_swapped : {x y z : Side} → Unparted x y z → Unparted y x z
unparted_swapped u = record {
  open_x = u.open_y;
  open_y = u.open_x;
  open_z = u.open_z;
  not_right = λ h. u.not_right (h.1, h.0, h.2);
  not_left = λ h. u.not_left (h.1, h.0, h.2);
  one_x = λ h. u.one_y (h.1, h.0, h.2);
  one_y = λ h. u.one_x (h.1, h.0, h.2);
  one_z = λ h. u.one_z (h.1, h.0, h.2);
}

unparted_turned : {x y z : Side} → Unparted x y z → Unparted z x y
unparted_turned u = record {
  open_x = u.open_z;
  open_y = u.open_x;
  open_z = u.open_y;
  not_right = λ h. u.not_right (h.1, h.2, h.0);
  not_left = λ h. u.not_left (h.1, h.2, h.0);
  one_x = λ h. u.one_z (h.1, h.2, h.0);
  one_y = λ h. u.one_x (h.1, h.2, h.0);
  one_z = λ h. u.one_y (h.1, h.2, h.0);
}

pub common : {x y z : Side} → Sides x y z → Unparted x y z → Common x y z
common {x} {y} {z} s u = go (cases_lt x.pa x.ma) (cases_lt y.pa y.ma) (cases_lt z.pa z.ma)
  where
    go : (x.pa < x.ma) ⊎ (x.ma ≤ x.pa) → (y.pa < y.ma) ⊎ (y.ma ≤ y.pa) → (z.pa < z.ma) ⊎ (z.ma ≤ z.pa) → Common x y z
    go (inl h) i j = found s u (inl h)
    go (inr h) (inl i) j = from_swapped (found (swapped s) (unparted_swapped u) (inl i))
    go (inr h) (inr i) (inl j) = from_turned (found (turned s) (unparted_turned u) (inl j))
    go (inr h) (inr i) (inr j) = record { u = 1; v = 0; some = omega arith; near_x = omega (arith, h); near_y = omega (arith, i); near_z = omega (arith, j) }
