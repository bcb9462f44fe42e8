-- Triangles with one centre are equal, or neighbours across their bases. Idea: below a common triangle, go down with both. A centre on an edge
-- of the triangle reached has its mirror image beyond that edge, so both can be followed into one half.
use Rattle.std.proofs.Common.{◌≡◌, ℕ, zero, suc, ◌+◌, ◌*◌, ◌^◌, ◌<◌, ◌≤◌, ◌⊎◌, sym, refl, ap, ◌∙◌, subst, inl, inr, arith, pow_pos, Some}
use Rattle.std.proofs.lemmas.Option.{same_Some}
use native.Mathlib.Nat.{eq_of_mul-eq-mul_left}
use Rattle.bintree.specs.declared.point.Point.{Point}
use Rattle.bintree.specs.Triangles.{centre}
use Rattle.bintree.specs.Samples.{Mean}
use Rattle.bintree.specs.Laws.{WholeCentre}
use Rattle.bintree.proofs.Tree.{Node, two, three, lo, hi, depth, place, Under, under_self, under_trans, under_depth, root_over}
use Rattle.bintree.proofs.Areas.{turning}
use Rattle.bintree.proofs.Inside.{settled}
use Rattle.bintree.proofs.Middles.{whole, low_mean, high_mean, mean_apex, mean_centre}
use Rattle.bintree.proofs.Around.{lo?, hi?, around, across_base, shared_centre}

-- t has a neighbour across its base in k
Mirror : Node → Node → Type 0
Mirror t k = (u : Node) × Under k u × ((around t).base ≡ Some u)

-- where the centre of t stands in q, a triangle over t; and if it is on an edge of q, t has its neighbour beyond that edge
record Stands (n : ℕ) (q t : Node) : Type 0 where
  wa : ℕ
  wl : ℕ
  wr : ℕ
  al : 0 < wa + wl
  lr : 0 < wl + wr
  ra : 0 < wr + wa
  mean : Mean (centre (place (2 ^ n) t)) (place (2 ^ n) q) wa wl wr
  base : wa ≡ 0 → (k : Node) → (around q).base ≡ Some k → Mirror t k
  left : wr ≡ 0 → (k : Node) → (around q).left ≡ Some k → Mirror t k
  right : wl ≡ 0 → (k : Node) → (around q).right ≡ Some k → Mirror t k

-- in t itself: the middle of the base
stands_self : (n : ℕ) (t : Node) → WholeCentre (place (2 ^ n) t) → Stands n t t
unfolding Mirror
stands_self n t e = record {
  wa = 0;
  wl = 1;
  wr = 1;
  al = omega arith;
  lr = omega arith;
  ra = omega arith;
  mean = mean_centre _ e;
  base = λ z k h. (k, under_self k, h);
  left = λ z k h. absurd (omega arith);
  right = λ z k h. absurd (omega arith);
}

-- a mirror image in a half is one in the whole
down_lo : (t k : Node) → Mirror t (lo k) → Mirror t k
unfolding Mirror
down_lo t k m = (m.0, under_trans k (lo k) m.0 (inr (under_self k)) m.1, m.2)

down_hi : (t k : Node) → Mirror t (hi k) → Mirror t k
unfolding Mirror
down_hi t k m = (m.0, under_trans k (hi k) m.0 (inr (under_self k)) m.1, m.2)

-- from a half to its parent: a leg of the half is the parent's leg, or lies within its base
stands_lo : (n : ℕ) (q t : Node) → WholeCentre (place (2 ^ n) q) → Stands n (lo q) t → Stands n q t
unfolding around place
stands_lo n q t e h = record {
  wa = 2 * h.wl;
  wl = h.wa + 2 * h.wr;
  wr = h.wa;
  al = omega (arith, h.al, h.lr, h.ra);
  lr = omega (arith, h.al, h.lr, h.ra);
  ra = omega (arith, h.al, h.lr, h.ra);
  mean = low_mean _ _ h.wa h.wl h.wr e h.mean;
  base = λ z k w. down_hi t k (h.right (omega arith) (hi k) (ap hi? w));
  left = λ z k w. down_hi t k (h.base z (hi k) (ap hi? w));
  right = λ z k w. absurd (omega (arith, h.ra, z));
}

stands_hi : (n : ℕ) (q t : Node) → WholeCentre (place (2 ^ n) q) → Stands n (hi q) t → Stands n q t
unfolding around place
stands_hi n q t e h = record {
  wa = 2 * h.wr;
  wl = h.wa;
  wr = h.wa + 2 * h.wl;
  al = omega (arith, h.al, h.lr, h.ra);
  lr = omega (arith, h.al, h.lr, h.ra);
  ra = omega (arith, h.al, h.lr, h.ra);
  mean = high_mean _ _ h.wa h.wl h.wr e h.mean;
  base = λ z k w. down_lo t k (h.left (omega arith) (lo k) (ap lo? w));
  left = λ z k w. absurd (omega (arith, h.al, z));
  right = λ z k w. down_lo t k (h.base z (lo k) (ap lo? w));
}

-- up to any triangle over t
rise : (n : ℕ) (q p t : Node) → depth p ≤ 2 * n → Under q p → Stands n p t → Stands n q t
unfolding depth
rise n q two t h e s = subst (λ (z : Node). Stands n z t) (sym e) s
rise n q three t h e s = subst (λ (z : Node). Stands n z t) (sym e) s
rise n q (lo p) t h (inl e) s = subst (λ (z : Node). Stands n z t) (sym e) s
rise n q (lo p) t h (inr u) s = rise n q p t (omega arith) u (stands_lo n p t (whole n p h) s)
rise n q (hi p) t h (inl e) s = subst (λ (z : Node). Stands n z t) (sym e) s
rise n q (hi p) t h (inr u) s = rise n q p t (omega arith) u (stands_hi n p t (whole n p h) s)

stands : (n : ℕ) (q t : Node) → depth t < 2 * n → Under q t → Stands n q t
stands n q t h u = rise n q t t (omega arith) u (stands_self n t (whole n t h))

-- from the top: q itself, or in one half
from_top : (q t : Node) → Under q t → (t ≡ q) ⊎ (Under (lo q) t ⊎ Under (hi q) t)
from_top q two e = inl (sym e)
from_top q three e = inl (sym e)
from_top q (lo t) (inl e) = inl (sym e)
from_top q (lo t) (inr u) = go (from_top q t u)
  where
    go : (t ≡ q) ⊎ (Under (lo q) t ⊎ Under (hi q) t) → (lo t ≡ q) ⊎ (Under (lo q) (lo t) ⊎ Under (hi q) (lo t))
    go (inl e) = inr (inl (inl (ap lo (sym e))))
    go (inr (inl k)) = inr (inl (inr k))
    go (inr (inr k)) = inr (inr (inr k))
from_top q (hi t) (inl e) = inl (sym e)
from_top q (hi t) (inr u) = go (from_top q t u)
  where
    go : (t ≡ q) ⊎ (Under (lo q) t ⊎ Under (hi q) t) → (hi t ≡ q) ⊎ (Under (lo q) (hi t) ⊎ Under (hi q) (hi t))
    go (inl e) = inr (inr (inl (ap hi (sym e))))
    go (inr (inl k)) = inr (inl (inr k))
    go (inr (inr k)) = inr (inr (inr k))

-- equal, or neighbours across the base
Mates : Node → Node → Type 0
Mates t j = (t ≡ j) ⊎ ((around j).base ≡ Some t)

mates_flip : (t j : Node) → Mates t j → Mates j t
unfolding Mates
mates_flip t j (inl e) = inl (sym e)
mates_flip t j (inr e) = inr (across_base 1 j t e).back

mates_over : (t u j : Node) → (around t).base ≡ Some u → Mates u j → Mates t j
unfolding Mates
mates_over t u j e (inl f) = inr (across_base 1 t j (e ∙ ap Some f)).back
mates_over t u j e (inr f) = inl (same_Some t j (sym (across_base 1 t u e).back ∙ (across_base 1 j u f).back))

-- a centre is no corner of a triangle over it
no_apex : (n : ℕ) (q j : Node) → depth j < 2 * n → Under q j → centre (place (2 ^ n) j) ≡ (place (2 ^ n) q).apex → ⊥
no_apex n q j h u e =
    let s = stands n q j h u in
    let k = settled (place (2 ^ n) q) (turning n q (q_low (under_depth q j u))) (centre (place (2 ^ n) j)) s.wa s.wl s.wr 1 0 0 s.mean
    (subst (λ (p : Point). Mean p (place (2 ^ n) q) 1 0 0) (sym e) (mean_apex (place (2 ^ n) q))) in
    omega (arith, k.at_l, k.at_r, s.lr)
  where
    q_low : (q ≡ j) ⊎ (depth q < depth j) → depth q ≤ 2 * n
    q_low (inl z) = omega (arith, ap depth z)
    q_low (inr z) = omega arith

-- weights that fit both a low and a high half have none at the base end
nothing : (w w' a r a' l' : ℕ) → 0 < w → w * (a + 2 * r) ≡ w' * a' → w * a ≡ w' * (a' + 2 * l') → r ≡ 0
nothing w w' a zero a' l' p e f = refl
nothing w w' a (suc r) a' l' p e f = absurd (omega arith)

-- the common centre of a triangle in the low half and one in the high half is on the line between the halves: the first has its neighbour in the high half
across : (n : ℕ) (q t j : Node) → depth q < 2 * n → depth t < 2 * n → depth j < 2 * n → Under (lo q) t → Under (hi q) j
    → centre (place (2 ^ n) t) ≡ centre (place (2 ^ n) j) → Mirror t (hi q)
unfolding around place
across n q t j hq ht hj u w e =
    let x = whole n q hq in
    let s = stands n (lo q) t ht u in
    let z = stands n (hi q) j hj w in
    let k = settled (place (2 ^ n) q) (turning n q (omega arith)) (centre (place (2 ^ n) t)) (2 * s.wl) (s.wa + 2 * s.wr) s.wa (2 * z.wr) z.wa (z.wa + 2 * z.wl)
    (low_mean _ _ s.wa s.wl s.wr x s.mean)
    (subst (λ (v : Point). Mean v (place (2 ^ n) q) (2 * z.wr) z.wa (z.wa + 2 * z.wl)) (sym e) (high_mean _ _ z.wa z.wl z.wr x z.mean)) in
    s.left (nothing _ _ s.wa s.wr z.wa z.wl (omega (arith, z.al, z.lr, z.ra)) k.at_l k.at_r) (hi q) refl

-- all triangles in q with one centre are so
AllMates : ℕ → Node → Type 0
AllMates n q = (t j : Node) → depth t < 2 * n → depth j < 2 * n → Under q t → Under q j → centre (place (2 ^ n) t) ≡ centre (place (2 ^ n) j) → Mates t j

-- over an edge, from a mirror image
by_mirror : (n : ℕ) (k t j : Node) → AllMates n k → Mirror t k → depth t < 2 * n → depth j < 2 * n → Under k j → centre (place (2 ^ n) t) ≡ centre (place (2 ^ n) j) → Mates t j
unfolding AllMates Mirror
by_mirror n k t j T m ht hj w e =
    let p = across_base (2 ^ n) t m.0 m.2 in
    mates_over t m.0 j m.2 (T m.0 j (omega (arith, p.same)) hj m.1 w (shared_centre (2 ^ n) t m.0 p ∙ e))

all_mates_more : (n : ℕ) (q : Node) → depth q < 2 * n → AllMates n (lo q) → AllMates n (hi q) → AllMates n q
unfolding AllMates Mates place
all_mates_more n q hq L H t j ht hj u w e = go (from_top q t u) (from_top q j w)
  where
    go : (t ≡ q) ⊎ (Under (lo q) t ⊎ Under (hi q) t) → (j ≡ q) ⊎ (Under (lo q) j ⊎ Under (hi q) j) → Mates t j
    go (inl p) (inl z) = inl (p ∙ sym z)
    go (inl p) (inr (inl z)) = absurd (no_apex n (lo q) j hj z (sym e ∙ ap (λ (k : Node). centre (place (2 ^ n) k)) p))
    go (inl p) (inr (inr z)) = absurd (no_apex n (hi q) j hj z (sym e ∙ ap (λ (k : Node). centre (place (2 ^ n) k)) p))
    go (inr (inl p)) (inl z) = absurd (no_apex n (lo q) t ht p (e ∙ ap (λ (k : Node). centre (place (2 ^ n) k)) z))
    go (inr (inr p)) (inl z) = absurd (no_apex n (hi q) t ht p (e ∙ ap (λ (k : Node). centre (place (2 ^ n) k)) z))
    go (inr (inl p)) (inr (inl z)) = L t j ht hj p z e
    go (inr (inr p)) (inr (inr z)) = H t j ht hj p z e
    go (inr (inl p)) (inr (inr z)) = by_mirror n (hi q) t j H (across n q t j hq ht hj p z e) ht hj z e
    go (inr (inr p)) (inr (inl z)) = mates_flip j t (by_mirror n (hi q) j t H (across n q j t hq hj ht z p (sym e)) hj ht p (sym e))

all_mates_finest : (n : ℕ) (q : Node) → depth q ≡ 2 * n → AllMates n q
unfolding AllMates
all_mates_finest n q h t j ht hj u w e = absurd (go (under_depth q t u))
  where
    go : (q ≡ t) ⊎ (depth q < depth t) → ⊥
    go (inl z) = omega (arith, ap depth z)
    go (inr z) = omega arith

all_mates : (n d : ℕ) (q : Node) → depth q + d ≡ 2 * n → AllMates n q
unfolding depth
all_mates n zero q h = all_mates_finest n q (omega arith)
all_mates n (suc d) q h = all_mates_more n q (omega arith) (all_mates n d (lo q) (omega arith)) (all_mates n d (hi q) (omega arith))

-- a common centre of triangles on either side of the diagonal is on it
scaled : (s V W z k m : ℕ) → 0 < s → V * z ≡ s * k → W * z ≡ s * m → W * k ≡ V * m
scaled s V W z k m p e f =
    let g : W * (V * z) ≡ W * (s * k) = ap (λ (q : ℕ). W * q) e in
    let h : V * (W * z) ≡ V * (s * m) = ap (λ (q : ℕ). V * q) f in
    eq_of_mul-eq-mul_left s p (W * k) (V * m) (omega arith)

none_beyond : (s a l r a' l' r' x y : ℕ) → 0 < s → 0 < a' + l' + r' → (a + l + r) * x ≡ a * 0 + l * s + r * 0 → (a + l + r) * y ≡ a * 0 + l * 0 + r * s
    → (a' + l' + r') * x ≡ a' * s + l' * 0 + r' * s → (a' + l' + r') * y ≡ a' * s + l' * s + r' * 0 → a ≡ 0
none_beyond s zero l r a' l' r' x y p q e₁ e₂ e₃ e₄ = refl
none_beyond s (suc a) l r a' l' r' x y p q e₁ e₂ e₃ e₄ =
    absurd (more (scaled s (suc a + l + r) (a' + l' + r') (x + y) (l + r) (2 * a' + l' + r') p (omega arith) (omega arith)))
  where
    more : (a' + l' + r') * (l + r) ≡ (suc a + l + r) * (2 * a' + l' + r') → ⊥
    more h = omega arith

diagonal : (n : ℕ) (t j : Node) → depth t < 2 * n → depth j < 2 * n → Under two t → Under three j → centre (place (2 ^ n) t) ≡ centre (place (2 ^ n) j) → Mirror t three
unfolding around place
diagonal n t j ht hj u w e =
    let s = stands n two t ht u in
    let z = stands n three j hj w in
    let m : Mean (centre (place (2 ^ n) t)) (place (2 ^ n) three) z.wa z.wl z.wr = subst (λ (v : Point). Mean v (place (2 ^ n) three) z.wa z.wl z.wr) (sym e) z.mean in
    s.base (none_beyond (2 ^ n) s.wa s.wl s.wr z.wa z.wl z.wr _ _ (pow_pos n) (omega (arith, z.al)) s.mean.on_x s.mean.on_y m.on_x m.on_y) three refl

-- the centre lemma, for every order
pub centres : (n : ℕ) (t j : Node) → depth t < 2 * n → depth j < 2 * n → centre (place (2 ^ n) t) ≡ centre (place (2 ^ n) j) → (t ≡ j) ⊎ ((around j).base ≡ Some t)
unfolding AllMates Mates depth
centres n t j ht hj e = go (root_over t) (root_over j)
  where
    A : AllMates n two
    A = all_mates n (2 * n) two (omega arith)

    B : AllMates n three
    B = all_mates n (2 * n) three (omega arith)

    go : Under two t ⊎ Under three t → Under two j ⊎ Under three j → Mates t j
    go (inl p) (inl q) = A t j ht hj p q e
    go (inr p) (inr q) = B t j ht hj p q e
    go (inl p) (inr q) = by_mirror n three t j B (diagonal n t j ht hj p q e) ht hj q e
    go (inr p) (inl q) = mates_flip j t (by_mirror n three j t B (diagonal n j t hj ht q p (sym e)) hj ht p (sym e))
