-- The edge lemma: each edge of a triangle p in k lies within an edge of k, or the neighbour across it lies in k too.
use Rattle.std.proofs.Common.{◌≡◌, ℕ, ◌+◌, ◌*◌, ◌^◌, ◌<◌, ◌≤◌, ◌⊎◌, sym, refl, ap, subst, inl, inr, arith, Some, Option}
use Rattle.bintree.specs.declared.point.Point.{Point}
use Rattle.bintree.specs.declared.point.Corners.{Corners}
use Rattle.bintree.specs.Meshes.{Between, OnEdge}
use Rattle.bintree.specs.Laws.{WholeCentre}
use Rattle.bintree.proofs.Tree.{Node, two, three, lo, hi, depth, place, Under}
use Rattle.bintree.proofs.Around.{lo?, hi?, Ring, around}
use Rattle.bintree.proofs.Middles.{whole}

-- the segment p q lies along the segment u w, and is no point
pub record Part (p q u w : Point) : Type 0 where
  pub pu : ℕ
  pub pw : ℕ
  pub qu : ℕ
  pub qw : ℕ
  pub sums : pu + pw ≡ qu + qw
  pub apart : (pu ≡ qu) → ⊥
  pub p_x : (pu + pw) * p.x ≡ pu * u.x + pw * w.x
  pub p_y : (pu + pw) * p.y ≡ pu * u.y + pw * w.y
  pub q_x : (qu + qw) * q.x ≡ qu * u.x + qw * w.x
  pub q_y : (qu + qw) * q.y ≡ qu * u.y + qw * w.y

-- an edge lies along itself
pub self : (u w : Point) → Part u w u w
self u w = record { pu = 1; pw = 0; qu = 0; qw = 1; sums = refl; apart = omega arith; p_x = omega arith; p_y = omega arith; q_x = omega arith; q_y = omega arith }

-- on one axis: the middle of p and q is a mean of u and w if p and q are
mean : (a b c d p q m u w : ℕ) → 2 * m ≡ p + q → a + b ≡ c + d → (a + b) * p ≡ a * u + b * w → (c + d) * q ≡ c * u + d * w
    → ((a + c) + (b + d)) * m ≡ (a + c) * u + (b + d) * w
mean a b c d p q m u w e s h k =
    let f : (a + b) * (2 * m) ≡ (a + b) * (p + q) = ap (λ (z : ℕ). (a + b) * z) e in
    let g : (a + b) * q ≡ (c + d) * q = ap (λ (z : ℕ). z * q) s in
    let g2 : (a + b) * m ≡ (c + d) * m = ap (λ (z : ℕ). z * m) s in
    omega arith

twice : (a b p u w : ℕ) → (a + b) * p ≡ a * u + b * w → (2 * a + 2 * b) * p ≡ 2 * a * u + 2 * b * w
twice a b p u w h = omega arith

-- so does half of a part, and a part walked the other way
pub first : (p q m u w : Point) → 2 * m.x ≡ p.x + q.x → 2 * m.y ≡ p.y + q.y → Part p q u w → Part p m u w
first p q m u w ex ey h = record {
  pu = 2 * h.pu;
  pw = 2 * h.pw;
  qu = h.pu + h.qu;
  qw = h.pw + h.qw;
  sums = omega arith;
  apart = λ z. h.apart (omega arith);
  p_x = twice h.pu h.pw p.x u.x w.x h.p_x;
  p_y = twice h.pu h.pw p.y u.y w.y h.p_y;
  q_x = mean h.pu h.pw h.qu h.qw p.x q.x m.x u.x w.x ex h.sums h.p_x h.q_x;
  q_y = mean h.pu h.pw h.qu h.qw p.y q.y m.y u.y w.y ey h.sums h.p_y h.q_y;
}

pub flip : (p q u w : Point) → Part p q u w → Part q p u w
flip p q u w h = record {
  pu = h.qu;
  pw = h.qw;
  qu = h.pu;
  qw = h.pw;
  sums = sym h.sums;
  apart = λ z. h.apart (sym z);
  p_x = h.q_x;
  p_y = h.q_y;
  q_x = h.p_x;
  q_y = h.p_y;
}

-- the middle of a part lies strictly between the ends
pub between_ends : (p q m u w : Point) → 2 * m.x ≡ p.x + q.x → 2 * m.y ≡ p.y + q.y → Part p q u w → Between m u w
between_ends p q m u w ex ey h = record {
  α = h.pu + h.qu;
  β = h.pw + h.qw;
  α_pos = pos_u h.pu h.qu h.apart;
  β_pos = pos_w h.pu h.pw h.qu h.qw h.sums h.apart;
  on_x = mean h.pu h.pw h.qu h.qw p.x q.x m.x u.x w.x ex h.sums h.p_x h.q_x;
  on_y = mean h.pu h.pw h.qu h.qw p.y q.y m.y u.y w.y ey h.sums h.p_y h.q_y;
}
  where
    pos_u : (a c : ℕ) → (a ≡ c → ⊥) → 0 < a + c
    pos_u a c f = omega arith

    pos_w : (a b c d : ℕ) → a + b ≡ c + d → (a ≡ c → ⊥) → 0 < b + d
    pos_w a b c d s f = omega arith

-- the segment lies along an edge of t
abbrev pub PartOf : Point → Point → Corners → Type 0
PartOf p q t = Part p q t.left t.right ⊎ Part p q t.apex t.left ⊎ Part p q t.right t.apex

pub map_of : (p q m k : Point) (t : Corners) → ((u w : Point) → Part p q u w → Part m k u w) → PartOf p q t → PartOf m k t
map_of p q m k t f (inl h) = inl (f _ _ h)
map_of p q m k t f (inr (inl h)) = inr (inl (f _ _ h))
map_of p q m k t f (inr (inr h)) = inr (inr (f _ _ h))

pub between_of : (p q m : Point) (t : Corners) → 2 * m.x ≡ p.x + q.x → 2 * m.y ≡ p.y + q.y → PartOf p q t → OnEdge m t
between_of p q m t ex ey (inl h) = inl (between_ends p q m _ _ ex ey h)
between_of p q m t ex ey (inr (inl h)) = inr (inl (between_ends p q m _ _ ex ey h))
between_of p q m t ex ey (inr (inr h)) = inr (inr (between_ends p q m _ _ ex ey h))

-- across an edge p q: the neighbour descends from k, or the edge lies within an edge of k
unfoldable pub Across : ℕ → Node → Option Node → Point → Point → Type 0
Across s k z p q = ((u : Node) × (z ≡ Some u) × Under k u) ⊎ PartOf p q (place s k)

-- so for each edge of t, with its neighbours n
pub record Edges (s : ℕ) (k : Node) (n : Ring) (t : Corners) : Type 0 where
  pub base : Across s k n.base t.left t.right
  pub left : Across s k n.left t.apex t.left
  pub right : Across s k n.right t.right t.apex

-- the edges of k itself
own : (s : ℕ) (k : Node) → Edges s k (around k) (place s k)
unfolding Across
own s k = record { base = inr (inl (self _ _)); left = inr (inr (inl (self _ _))); right = inr (inr (inr (self _ _))) }

-- what lies across an edge of a half, from what lies across that of its parent
hi_over : (s : ℕ) (k : Node) (z : Option Node) (p q p' q' : Point) → ((u w : Point) → Part p q u w → Part p' q' u w) → Across s k z p q → Across s k (hi? z) p' q'
unfolding Across
hi_over s k z p q p' q' f (inl h) = inl (hi h.0, ap hi? h.1, inr h.2)
hi_over s k z p q p' q' f (inr h) = inr (map_of p q p' q' (place s k) f h)

lo_over : (s : ℕ) (k : Node) (z : Option Node) (p q p' q' : Point) → ((u w : Point) → Part p q u w → Part p' q' u w) → Across s k z p q → Across s k (lo? z) p' q'
unfolding Across
lo_over s k z p q p' q' f (inl h) = inl (lo h.0, ap lo? h.1, inr h.2)
lo_over s k z p q p' q' f (inr h) = inr (map_of p q p' q' (place s k) f h)

lo_edges : (n : ℕ) (k p : Node) → Under k p → WholeCentre (place (2 ^ n) p) → Edges (2 ^ n) k (around p) (place (2 ^ n) p) → Edges (2 ^ n) k (around (lo p)) (place (2 ^ n) (lo p))
unfolding place around Across
lo_edges n k p u e i = record {
  base = hi_over _ k _ _ _ _ _ (λ v w z. z) i.left;
  left = inl (hi p, refl, inr u);
  right = hi_over _ k _ _ _ _ _ (λ v w z. first _ _ _ v w e.on_x e.on_y z) i.base;
}

hi_edges : (n : ℕ) (k p : Node) → Under k p → WholeCentre (place (2 ^ n) p) → Edges (2 ^ n) k (around p) (place (2 ^ n) p) → Edges (2 ^ n) k (around (hi p)) (place (2 ^ n) (hi p))
unfolding place around Across
hi_edges n k p u e i = record {
  base = lo_over _ k _ _ _ _ _ (λ v w z. z) i.right;
  left = lo_over _ k _ _ _ _ _ (λ v w z. flip _ _ v w (first _ _ _ v w (omega (arith, e.on_x)) (omega (arith, e.on_y)) (flip _ _ v w z))) i.base;
  right = inl (lo p, refl, inr u);
}

-- the edge lemma: for p in k, across each edge of p lies a triangle in k, or that edge lies within an edge of k
pub edges : (n : ℕ) (k p : Node) → Under k p → depth p ≤ 2 * n → Edges (2 ^ n) k (around p) (place (2 ^ n) p)
unfolding depth
edges n k two e h = subst (λ (z : Node). Edges (2 ^ n) k (around z) (place (2 ^ n) z)) e (own (2 ^ n) k)
edges n k three e h = subst (λ (z : Node). Edges (2 ^ n) k (around z) (place (2 ^ n) z)) e (own (2 ^ n) k)
edges n k (lo p) (inl e) h = subst (λ (z : Node). Edges (2 ^ n) k (around z) (place (2 ^ n) z)) e (own (2 ^ n) k)
edges n k (lo p) (inr u) h = lo_edges n k p u (whole n p h) (edges n k p u (omega arith))
edges n k (hi p) (inl e) h = subst (λ (z : Node). Edges (2 ^ n) k (around z) (place (2 ^ n) z)) e (own (2 ^ n) k)
edges n k (hi p) (inr u) h = hi_edges n k p u (whole n p h) (edges n k p u (omega arith))
