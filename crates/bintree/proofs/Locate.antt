-- A whole point in a closed triangle is one of its corners, or the centre of a splittable triangle in it: go into the half that holds it; a
-- finest triangle holds no whole points but its corners.
use Rattle.std.proofs.Common.{◌≡◌, ℕ, zero, suc, ◌+◌, ◌-◌, ◌*◌, ◌^◌, ◌<◌, ◌≤◌, ◌⊎◌, sym, ap, subst, subst₂, inl, inr, arith}
use native.Mathlib.Nat.{eq_of_mul-eq-mul_left}
use Rattle.bintree.specs.declared.point.Point.{Point}
use Rattle.bintree.specs.declared.point.Corners.{Corners}
use Rattle.bintree.specs.Triangles.{centre}
use Rattle.bintree.specs.Samples.{Mean}
use Rattle.bintree.specs.Meshes.{Corner}
use Rattle.bintree.specs.Laws.{WholeCentre}
use Rattle.bintree.proofs.Tree.{Node, lo, hi, depth, place, Under, under_self, under_trans}
use Rattle.bintree.proofs.Shape.{Turn, q0, q1, q2, q3, legged, point_eq, at_even}
use Rattle.bintree.proofs.Middles.{whole, mean_low, mean_high}

-- the greater of two numbers is the other and a rest
pub apart : (a b : ℕ) → ((k : ℕ) × (a ≡ b + k)) ⊎ ((k : ℕ) × (b ≡ a + k))
apart zero b = inr (b, omega arith)
apart (suc a) zero = inl (suc a, omega arith)
apart (suc a) (suc b) = up (apart a b)
  where
    up : ((k : ℕ) × (a ≡ b + k)) ⊎ ((k : ℕ) × (b ≡ a + k)) → ((k : ℕ) × (suc a ≡ suc b + k)) ⊎ ((k : ℕ) × (suc b ≡ suc a + k))
    up (inl p) = inl (p.0, omega (arith, p.1))
    up (inr p) = inr (p.0, omega (arith, p.1))

-- a part w of a whole W that is a multiple of W is nothing or all
above : (W x w k : ℕ) → 0 < W → w ≤ W → W * (x + k) ≡ W * x + w → (w ≡ 0) ⊎ (w ≡ W)
above W x w zero p h e = inl (omega arith)
above W x w (suc zero) p h e = inr (omega arith)
above W x w (suc (suc k)) p h e = absurd (omega arith)

below : (W w v k : ℕ) → W * v ≡ W * (v + k) + w → w ≡ 0
below W w v k e = omega arith

nothing_or_all : (W x v w : ℕ) → 0 < W → w ≤ W → W * v ≡ W * x + w → (w ≡ 0) ⊎ (w ≡ W)
nothing_or_all W x v w p h e = go (apart v x)
  where
    go : ((k : ℕ) × (v ≡ x + k)) ⊎ ((k : ℕ) × (x ≡ v + k)) → (w ≡ 0) ⊎ (w ≡ W)
    go (inl z) = above W x w z.0 p h (subst (λ (q : ℕ). W * q ≡ W * x + w) z.1 e)
    go (inr z) = inl (below W w v z.0 (subst (λ (q : ℕ). W * v ≡ W * q + w) z.1 e))

-- all the weight is at one corner
abbrev pub Single : ℕ → ℕ → ℕ → Type 0
Single a l r = ((l ≡ 0) × (r ≡ 0)) ⊎ ((a ≡ 0) × (r ≡ 0)) ⊎ ((a ≡ 0) × (l ≡ 0))

-- a whole point of a triangle with legs of length 1 has all its weight at one corner
single : (o : Turn) (x y : ℕ) (v : Point) (a l r : ℕ) → 0 < a + l + r → Mean v (legged o 1 x y) a l r → Single a l r
single q0 x y v a l r p h = go (nothing_or_all (a + l + r) x v.x l p (omega arith) (omega arith)) (nothing_or_all (a + l + r) y v.y r p (omega arith) (omega arith))
  where
    go : (l ≡ 0) ⊎ (l ≡ a + l + r) → (r ≡ 0) ⊎ (r ≡ a + l + r) → Single a l r
    go (inl e) (inl f) = inl (e, f)
    go (inl e) (inr f) = inr (inr (omega arith))
    go (inr e) f = inr (inl (omega arith))
single q1 x y v a l r p h = go (nothing_or_all (a + l + r) x v.x (a + l) p (omega arith) (omega arith)) (nothing_or_all (a + l + r) y v.y l p (omega arith) (omega arith))
  where
    go : (a + l ≡ 0) ⊎ (a + l ≡ a + l + r) → (l ≡ 0) ⊎ (l ≡ a + l + r) → Single a l r
    go (inl e) f = inr (inr (omega arith))
    go (inr e) (inl f) = inl (omega arith)
    go (inr e) (inr f) = inr (inl (omega arith))
single q2 x y v a l r p h = go (nothing_or_all (a + l + r) x v.x (a + r) p (omega arith) (omega arith)) (nothing_or_all (a + l + r) y v.y (a + l) p (omega arith) (omega arith))
  where
    go : (a + r ≡ 0) ⊎ (a + r ≡ a + l + r) → (a + l ≡ 0) ⊎ (a + l ≡ a + l + r) → Single a l r
    go (inl e) f = inr (inl (omega arith))
    go (inr e) (inl f) = inr (inr (omega arith))
    go (inr e) (inr f) = inl (omega arith)
single q3 x y v a l r p h = go (nothing_or_all (a + l + r) x v.x r p (omega arith) (omega arith)) (nothing_or_all (a + l + r) y v.y (a + r) p (omega arith) (omega arith))
  where
    go : (r ≡ 0) ⊎ (r ≡ a + l + r) → (a + r ≡ 0) ⊎ (a + r ≡ a + l + r) → Single a l r
    go (inr e) f = inr (inr (omega arith))
    go (inl e) (inl f) = inr (inl (omega arith))
    go (inl e) (inr f) = inl (omega arith)

-- with all its weight at one corner, the point is that corner
pub sole : (a l r v p q s : ℕ) → 0 < a + l + r → l ≡ 0 → r ≡ 0 → (a + l + r) * v ≡ a * p + l * q + r * s → v ≡ p
sole a l r v p q s h e f g =
    let k : (a + 0 + 0) * v ≡ a * p + 0 * q + 0 * s = subst₂ (λ (l r : ℕ). (a + l + r) * v ≡ a * p + l * q + r * s) e f g in
    eq_of_mul-eq-mul_left a (omega arith) v p (omega arith)

pub single_corner : (t : Corners) (v : Point) (a l r : ℕ) → 0 < a + l + r → Mean v t a l r → Single a l r → Corner v t
single_corner t v a l r p h (inl z) = inl (point_eq (sole a l r _ _ _ _ p z.0 z.1 h.on_x) (sole a l r _ _ _ _ p z.0 z.1 h.on_y))
single_corner t v a l r p h (inr (inl z)) =
    inr (inl (point_eq (sole l a r _ _ t.apex.x t.right.x (omega arith) z.0 z.1 (omega arith)) (sole l a r _ _ t.apex.y t.right.y (omega arith) z.0 z.1 (omega arith))))
single_corner t v a l r p h (inr (inr z)) =
    inr (inr (point_eq (sole r a l _ _ t.apex.x t.left.x (omega arith) z.0 z.1 (omega arith)) (sole r a l _ _ t.apex.y t.left.y (omega arith) z.0 z.1 (omega arith))))

-- v is the centre of a splittable triangle in t
unfoldable pub CentreIn : ℕ → Node → Point → Type 0
CentreIn n t v = (u : Node) × Under t u × (depth u < 2 * n) × (centre (place (2 ^ n) u) ≡ v)

-- with equal weights at the base ends and none at the apex, the point is the centre
centre_on : (a l r v pa pl pr c : ℕ) → 2 * c ≡ pl + pr → a ≡ 0 → l ≡ r → 0 < a + l + r → (a + l + r) * v ≡ a * pa + l * pl + r * pr → c ≡ v
centre_on a l r v pa pl pr c e f g p h =
    let k : (0 + r + r) * v ≡ 0 * pa + r * pl + r * pr = subst₂ (λ (a l : ℕ). (a + l + r) * v ≡ a * pa + l * pl + r * pr) f g h in
    let m : r * (2 * c) ≡ r * (pl + pr) = ap (λ (z : ℕ). r * z) e in
    sym (eq_of_mul-eq-mul_left (2 * r) (omega arith) v c (omega arith))

is_centre : (v : Point) (t : Corners) (a l r : ℕ) → 0 < a + l + r → a ≡ 0 → l ≡ r → WholeCentre t → Mean v t a l r → centre t ≡ v
is_centre v t a l r p f g e h = point_eq (centre_on a l r v.x _ _ _ _ e.on_x f g p h.on_x) (centre_on a l r v.y _ _ _ _ e.on_y f g p h.on_y)

centre_up : (n : ℕ) (t u : Node) (v : Point) → Under t u → CentreIn n u v → CentreIn n t v
unfolding CentreIn
centre_up n t u v h c = (c.0, under_trans t u c.0 h c.1, c.2, c.3)

-- from a half back to the whole
low_back : (n : ℕ) (t : Node) (v : Point) (a l r k : ℕ) → depth t < 2 * n → 0 < a + l + r → l ≡ r + k → Mean v (place (2 ^ n) t) a l r
    → Single (2 * r) a k ⊎ CentreIn n (lo t) v → Single a l r ⊎ CentreIn n t v
unfolding CentreIn
low_back n t v a l r k h p e m (inl (inl z)) = inr (t, under_self t, h, is_centre v _ a l r p z.0 (omega arith) (whole n t h) m)
low_back n t v a l r k h p e m (inl (inr (inl z))) = inl (inl (omega arith))
low_back n t v a l r k h p e m (inl (inr (inr z))) = inl (inr (inl (omega arith)))
low_back n t v a l r k h p e m (inr z) = inr (centre_up n t (lo t) v (inr (under_self t)) z)

high_back : (n : ℕ) (t : Node) (v : Point) (a l r k : ℕ) → depth t < 2 * n → 0 < a + l + r → r ≡ l + k → Mean v (place (2 ^ n) t) a l r
    → Single (2 * l) k a ⊎ CentreIn n (hi t) v → Single a l r ⊎ CentreIn n t v
unfolding CentreIn
high_back n t v a l r k h p e m (inl (inl z)) = inr (t, under_self t, h, is_centre v _ a l r p z.1 (omega arith) (whole n t h) m)
high_back n t v a l r k h p e m (inl (inr (inl z))) = inl (inr (inr (omega arith)))
high_back n t v a l r k h p e m (inl (inr (inr z))) = inl (inl (omega arith))
high_back n t v a l r k h p e m (inr z) = inr (centre_up n t (hi t) v (inr (under_self t)) z)

-- the claim for the triangles with d levels below them
Located : ℕ → ℕ → Point → Type 0
Located n d v = (t : Node) → depth t + d ≡ 2 * n → (a l r : ℕ) → 0 < a + l + r → Mean v (place (2 ^ n) t) a l r → Single a l r ⊎ CentreIn n t v

located_finest : (n : ℕ) (v : Point) → Located n 0 v
unfolding Located
located_finest n v t h a l r p m =
    let e = at_even n t 0 (omega arith) in
    inl (single e.turn e.px e.py v a l r p (subst (λ (z : Corners). Mean v z a l r) e.is m))

located_more : (n d : ℕ) (v : Point) → Located n d v → Located n (suc d) v
unfolding Located depth place
located_more n d v ih t h a l r p m = go (apart l r)
  where
    e : WholeCentre (place (2 ^ n) t)
    e = whole n t (omega arith)

    go : ((k : ℕ) × (l ≡ r + k)) ⊎ ((k : ℕ) × (r ≡ l + k)) → Single a l r ⊎ CentreIn n t v
    go (inl z) = low_back n t v a l r z.0 (omega arith) p z.1 m
        (ih (lo t) (omega arith) (2 * r) a z.0 (omega arith) (mean_low v _ a r z.0 e (subst (λ (l : ℕ). Mean v (place (2 ^ n) t) a l r) z.1 m)))
    go (inr z) = high_back n t v a l r z.0 (omega arith) p z.1 m
        (ih (hi t) (omega arith) (2 * l) z.0 a (omega arith) (mean_high v _ a l z.0 e (subst (λ (r : ℕ). Mean v (place (2 ^ n) t) a l r) z.1 m)))

located : (n d : ℕ) (v : Point) → Located n d v
located n zero v = located_finest n v
located n (suc d) v = located_more n d v (located n d v)

pub locate : (n : ℕ) (t : Node) → depth t ≤ 2 * n → (v : Point) (a l r : ℕ) → 0 < a + l + r → Mean v (place (2 ^ n) t) a l r → Single a l r ⊎ CentreIn n t v
unfolding Located
locate n t h v a l r p m = located n (2 * n - depth t) v t (omega arith) a l r p m
