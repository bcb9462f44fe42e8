-- The bridge over the trees: a mesh is crack-free exactly if it splits neighbours across a base together.
-- From a crack-free mesh: the centre of a split triangle is a corner of a member; were its partner not split, that corner would lie within an edge.
-- Back: a corner within an edge of a member T is the centre of a triangle in T and of one that the mesh splits; these are equal or partners.
use Rattle.std.proofs.Common.{◌≡◌, ℕ, zero, suc, ◌+◌, ◌-◌, ◌*◌, ◌^◌, ◌<◌, ◌≤◌, Bool, true, false, T, ◌⊎◌, sym, refl, ap, ◌∙◌, subst, inl, inr, arith, pow_pos, Some}
use Rattle.std.proofs.lemmas.Option.{same_Some}
use Rattle.bintree.specs.declared.point.Point.{Point}
use Rattle.bintree.specs.Triangles.{centre}
use Rattle.bintree.specs.Samples.{Mean}
use Rattle.bintree.specs.Meshes.{Corner, OnEdge}
use Rattle.bintree.specs.Laws.{WholeCentre}
use Rattle.bintree.proofs.Tree.{Node, two, three, lo, hi, depth, place, Under, under_self, under_trans, under_depth, under_antisym, comparable, finest_under}
use Rattle.bintree.proofs.Shape.{Turn, q0, q1, q2, q3, legged, based, width, height, at_even, at_odd}
use Rattle.bintree.proofs.Middles.{whole, double, left_over}
use Rattle.bintree.proofs.Locate.{Single, CentreIn, locate}
use Rattle.bintree.proofs.Around.{around, Swaps, across_base, shared_centre}
use Rattle.bintree.proofs.Edge.{PartOf, between_of, Across, edges}
use Rattle.bintree.proofs.Twins.{centres}

-- a mesh of order n: each finest triangle lies in exactly one of its triangles
pub record Mesh (n : ℕ) (P : Node → Bool) : Type 0 where
  pub fits : (q : Node) → T (P q) → depth q ≤ 2 * n
  pub owner : (f : Node) → depth f ≡ 2 * n → Node
  pub owner_in : (f : Node) (h : depth f ≡ 2 * n) → T (P (owner f h))
  pub owner_over : (f : Node) (h : depth f ≡ 2 * n) → Under (owner f h) f
  pub only : (f q : Node) (h : depth f ≡ 2 * n) → T (P q) → Under q f → q ≡ owner f h

-- it splits t
pub record Splits (P : Node → Bool) (t : Node) : Type 0 where
  pub out : T (P t) → ⊥
  pub below : Node
  pub under : Under t below
  pub inside : T (P below)

-- no corner of a member lies within an edge of a member
abbrev pub CrackFree : ℕ → (Node → Bool) → Type 0
CrackFree n P = (m q : Node) → T (P m) → T (P q) → (v : Point) → Corner v (place (2 ^ n) m) → OnEdge v (place (2 ^ n) q) → ⊥

-- neighbours across a base are split together
abbrev pub Closed : (Node → Bool) → Type 0
Closed P = (j t : Node) → (around j).base ≡ Some t → Splits P j → Splits P t

-- of two triangles of a mesh none lies over the other
meet : (n : ℕ) (P : Node → Bool) → Mesh n P → (p q : Node) → T (P p) → T (P q) → Under q p → q ≡ p
meet n P M p q hp hq u =
    let l = M.fits p hp in
    let z = finest_under n (2 * n - depth p) p (omega arith) in
    M.only z.0 q z.1 hq (under_trans q p z.0 u z.2) ∙ sym (M.only z.0 p z.1 hp z.2)

-- a triangle that lies in one of the mesh is not split
clash : (n : ℕ) (P : Node → Bool) → Mesh n P → (q t : Node) → T (P q) → Under q t → Splits P t → ⊥
clash n P M q t hq u s =
    let e = meet n P M s.below q s.inside hq (under_trans q t s.below u s.under) in
    s.out (subst (λ (z : Node). T (P z)) (under_antisym q t u (subst (Under t) (sym e) s.under)) hq)

pub split_depth : (n : ℕ) (P : Node → Bool) → Mesh n P → (t : Node) → Splits P t → depth t < 2 * n
split_depth n P M t s = go (under_depth t s.below s.under)
  where
    go : (t ≡ s.below) ⊎ (depth t < depth s.below) → depth t < 2 * n
    go (inl e) = absurd (s.out (subst (λ (z : Node). T (P z)) (sym e) s.inside))
    go (inr h) = omega (arith, M.fits s.below s.inside)

-- a corner of a triangle with none of the mesh over it is a corner of one of the mesh
Top : (Node → Bool) → Node → Type 0
Top P t = (q : Node) → T (P q) → Under q t → q ≡ t

Meets : ℕ → (Node → Bool) → Point → Type 0
Meets n P v = (m : Node) × T (P m) × Corner v (place (2 ^ n) m)

Reach : ℕ → ℕ → (Node → Bool) → Point → Type 0
Reach n d P v = (t : Node) → depth t + d ≡ 2 * n → Corner v (place (2 ^ n) t) → Top P t → Meets n P v

reach_none : (n : ℕ) (P : Node → Bool) (v : Point) → Mesh n P → Reach n 0 P v
unfolding Reach Top Meets
reach_none n P v M t h c top =
    let e : depth t ≡ 2 * n = omega arith in
    (t, subst (λ (z : Node). T (P z)) (top (M.owner t e) (M.owner_in t e) (M.owner_over t e)) (M.owner_in t e), c)

reach_more : (n d : ℕ) (P : Node → Bool) (v : Point) → Reach n d P v → Reach n (suc d) P v
unfolding Reach Top Meets depth place
reach_more n d P v ih t h c top = go (P t) refl c
  where
    down : P t ≡ false → (q : Node) → T (P q) → Under q t → ⊥
    down e q hq u = subst T e (subst (λ (z : Node). T (P z)) (top q hq u) hq)

    top_lo : P t ≡ false → (q : Node) → T (P q) → Under q (lo t) → q ≡ lo t
    top_lo e q hq (inl z) = z
    top_lo e q hq (inr u) = absurd (down e q hq u)

    top_hi : P t ≡ false → (q : Node) → T (P q) → Under q (hi t) → q ≡ hi t
    top_hi e q hq (inl z) = z
    top_hi e q hq (inr u) = absurd (down e q hq u)

    go : (b : Bool) → P t ≡ b → Corner v (place (2 ^ n) t) → Meets n P v
    go true e c = (t, subst T (sym e) tt, c)
    go false e (inl z) = ih (lo t) (omega arith) (inr (inl z)) (top_lo e)
    go false e (inr (inl z)) = ih (lo t) (omega arith) (inr (inr z)) (top_lo e)
    go false e (inr (inr z)) = ih (hi t) (omega arith) (inr (inl z)) (top_hi e)

reach : (n d : ℕ) (P : Node → Bool) (v : Point) → Mesh n P → Reach n d P v
reach n zero P v M = reach_none n P v M
reach n (suc d) P v M = reach_more n d P v (reach n d P v M)

-- the centre of a split triangle is a corner of one of the mesh
has_corner : (n : ℕ) (P : Node → Bool) → Mesh n P → (j : Node) → Splits P j → Meets n P (centre (place (2 ^ n) j))
unfolding Reach Top place depth
has_corner n P M j s =
    let h = split_depth n P M j s in
    reach n (2 * n - suc (depth j)) P _ M (lo j) (omega arith) (inl refl) top
  where
    top : (q : Node) → T (P q) → Under q (lo j) → q ≡ lo j
    top q hq (inl e) = e
    top q hq (inr u) = absurd (clash n P M q j hq u s)

-- no triangle of a crack-free mesh lies over the neighbour across the base of a split one
no_cover : (n : ℕ) (P : Node → Bool) → Mesh n P → CrackFree n P → (j i q : Node) → (around j).base ≡ Some i → Splits P j → T (P q) → Under q i → ⊥
unfolding Across Meets
no_cover n P M C j i q e s hq u = go (edges n q i u (omega (arith, h))).base
  where
    w : Swaps (2 ^ n) j i
    w = across_base (2 ^ n) j i e

    h : depth i < 2 * n
    h = omega (arith, w.same, split_depth n P M j s)

    x : WholeCentre (place (2 ^ n) i)
    x = whole n i h

    go : ((z : Node) × ((around i).base ≡ Some z) × Under q z) ⊎ PartOf (place (2 ^ n) i).left (place (2 ^ n) i).right (place (2 ^ n) q) → ⊥
    go (inl z) = clash n P M q j hq (subst (Under q) (same_Some z.0 j (sym z.1 ∙ w.back)) z.2) s
    go (inr z) =
        let m = has_corner n P M j s in
        C m.0 q m.1 hq (centre (place (2 ^ n) j)) m.2
        (subst (λ (v : Point). OnEdge v (place (2 ^ n) q)) (shared_centre (2 ^ n) j i w)
        (between_of _ _ (centre (place (2 ^ n) i)) _ x.on_x x.on_y z))

-- the bridge, one way: a crack-free mesh splits partners together
pub crack_free_closed : (n : ℕ) (P : Node → Bool) → Mesh n P → CrackFree n P → Closed P
crack_free_closed n P M C j i e s = go (comparable i (M.owner z.0 z.1) z.0 z.2 (M.owner_over z.0 z.1))
  where
    w : Swaps (2 ^ n) j i
    w = across_base (2 ^ n) j i e

    h : depth i < 2 * n
    h = omega (arith, w.same, split_depth n P M j s)

    z : (f : Node) × (depth f ≡ 2 * n) × Under i f
    z = finest_under n (2 * n - depth i) i (omega (arith, h))

    go : Under i (M.owner z.0 z.1) ⊎ Under (M.owner z.0 z.1) i → Splits P i
    go (inl u) = record { out = λ p. no_cover n P M C j i i e s p (under_self i); below = M.owner z.0 z.1; under = u; inside = M.owner_in z.0 z.1 }
    go (inr u) = absurd (no_cover n P M C j i _ e s (M.owner_in z.0 z.1) u)

-- the corners of the square
Square : ℕ → Point → Type 0
Square s v = ((v.x ≡ 0) ⊎ (v.x ≡ s)) × ((v.y ≡ 0) ⊎ (v.y ≡ s))

-- a corner is one of the square's, or the centre of a triangle above
Source : ℕ → Node → Point → Type 0
Source s m v = Square s v ⊎ ((j : Node) × Under j m × (depth j < depth m) × (centre (place s j) ≡ v))

source_lo : (s : ℕ) (m : Node) (v : Point) → Source s m v → Source s (lo m) v
unfolding Source depth
source_lo s m v (inl h) = inl h
source_lo s m v (inr z) = inr (z.0, inr z.1, omega (arith, z.2), z.3)

source_hi : (s : ℕ) (m : Node) (v : Point) → Source s m v → Source s (hi m) v
unfolding Source depth
source_hi s m v (inl h) = inl h
source_hi s m v (inr z) = inr (z.0, inr z.1, omega (arith, z.2), z.3)

source : (s : ℕ) (m : Node) (v : Point) → Corner v (place s m) → Source s m v
unfolding Source Square depth place
source s two v (inl e) = inl (inl (ap (λ (p : Point). p.x) e), inl (ap (λ (p : Point). p.y) e))
source s two v (inr (inl e)) = inl (inr (ap (λ (p : Point). p.x) e), inl (ap (λ (p : Point). p.y) e))
source s two v (inr (inr e)) = inl (inl (ap (λ (p : Point). p.x) e), inr (ap (λ (p : Point). p.y) e))
source s three v (inl e) = inl (inr (ap (λ (p : Point). p.x) e), inr (ap (λ (p : Point). p.y) e))
source s three v (inr (inl e)) = inl (inl (ap (λ (p : Point). p.x) e), inr (ap (λ (p : Point). p.y) e))
source s three v (inr (inr e)) = inl (inr (ap (λ (p : Point). p.x) e), inl (ap (λ (p : Point). p.y) e))
source s (lo m) v (inl e) = inr (m, inr (under_self m), omega arith, sym e)
source s (lo m) v (inr (inl e)) = source_lo s m v (source s m v (inl e))
source s (lo m) v (inr (inr e)) = source_lo s m v (source s m v (inr (inl e)))
source s (hi m) v (inl e) = inr (m, inr (under_self m), omega arith, sym e)
source s (hi m) v (inr (inl e)) = source_hi s m v (source s m v (inr (inr e)))
source s (hi m) v (inr (inr e)) = source_hi s m v (source s m v (inl e))

inner : (s x k : ℕ) → 0 < k → x + 2 * k ≤ s → (x + k ≡ 0) ⊎ (x + k ≡ s) → ⊥
inner s x k p h (inl e) = omega arith
inner s x k p h (inr e) = omega arith

square_legged : (s k : ℕ) (o : Turn) (x y : ℕ) → 0 < k → x + 2 * k ≤ s → Square s (centre (legged o (2 * k) x y)) → ⊥
unfolding Square
square_legged s k q0 x y p h z = inner s x k p h (subst (λ (c : ℕ). (c ≡ 0) ⊎ (c ≡ s)) (omega arith) z.0)
square_legged s k q1 x y p h z = inner s x k p h (subst (λ (c : ℕ). (c ≡ 0) ⊎ (c ≡ s)) (omega arith) z.0)
square_legged s k q2 x y p h z = inner s x k p h (subst (λ (c : ℕ). (c ≡ 0) ⊎ (c ≡ s)) (omega arith) z.0)
square_legged s k q3 x y p h z = inner s x k p h (subst (λ (c : ℕ). (c ≡ 0) ⊎ (c ≡ s)) (omega arith) z.0)

square_based : (s k : ℕ) (o : Turn) (x y : ℕ) → 0 < k → x + width o k ≤ s → y + height o k ≤ s → Square s (centre (based o k x y)) → ⊥
unfolding Square
square_based s k q0 x y p h g z = inner s x k p h (subst (λ (c : ℕ). (c ≡ 0) ⊎ (c ≡ s)) (omega arith) z.0)
square_based s k q1 x y p h g z = inner s y k p g (subst (λ (c : ℕ). (c ≡ 0) ⊎ (c ≡ s)) (omega arith) z.1)
square_based s k q2 x y p h g z = inner s x k p h (subst (λ (c : ℕ). (c ≡ 0) ⊎ (c ≡ s)) (omega arith) z.0)
square_based s k q3 x y p h g z = inner s y k p g (subst (λ (c : ℕ). (c ≡ 0) ⊎ (c ≡ s)) (omega arith) z.1)

no_square : (n : ℕ) (t : Node) → depth t < 2 * n → Square (2 ^ n) (centre (place (2 ^ n) t)) → ⊥
no_square n t h z = go (left_over (depth t) (2 * n) h)
  where
    go : ((m : ℕ) × (depth t + 2 * suc m ≡ 2 * n)) ⊎ ((m : ℕ) × (depth t + (2 * m + 1) ≡ 2 * n)) → ⊥
    go (inl p) =
        let e = at_even n t (suc p.0) p.1 in
        square_legged (2 ^ n) (2 ^ p.0) e.turn e.px e.py (pow_pos p.0) (omega (arith, e.x_in, double p.0))
        (rw (e.is, double p.0) at z)
    go (inr p) =
        let e = at_odd n t p.0 p.1 in
        square_based (2 ^ n) (2 ^ p.0) e.turn e.px e.py (pow_pos p.0) e.x_in e.y_in (rw e.is at z)

-- a mean with weight at two corners or more is no corner, so it is a centre
inner_centre : (n : ℕ) (q : Node) → depth q ≤ 2 * n → (v : Point) (a l r : ℕ) → 0 < a + l → 0 < l + r → 0 < r + a → Mean v (place (2 ^ n) q) a l r → CentreIn n q v
inner_centre n q h v a l r al lr ra m = go (locate n q h v a l r (omega arith) m)
  where
    go : Single a l r ⊎ CentreIn n q v → CentreIn n q v
    go (inl (inl z)) = absurd (omega arith)
    go (inl (inr (inl z))) = absurd (omega arith)
    go (inl (inr (inr z))) = absurd (omega arith)
    go (inr z) = z

-- a point strictly between the ends of an edge is the centre of a triangle within
on_edge : (n : ℕ) (q : Node) → depth q ≤ 2 * n → (v : Point) → OnEdge v (place (2 ^ n) q) → CentreIn n q v
on_edge n q h v (inl b) = inner_centre n q h v 0 b.α b.β (omega arith) (omega arith) (omega arith) (record { on_x = omega (arith, b.on_x); on_y = omega (arith, b.on_y) })
on_edge n q h v (inr (inl b)) = inner_centre n q h v b.α b.β 0 (omega arith) (omega arith) (omega arith) (record { on_x = omega (arith, b.on_x); on_y = omega (arith, b.on_y) })
on_edge n q h v (inr (inr b)) = inner_centre n q h v b.β 0 b.α (omega arith) (omega arith) (omega arith) (record { on_x = omega (arith, b.on_x); on_y = omega (arith, b.on_y) })

-- and back: a mesh that splits partners together has no crack
pub closed_crack_free : (n : ℕ) (P : Node → Bool) → Mesh n P → Closed P → CrackFree n P
unfolding CentreIn Source
closed_crack_free n P M C m q hm hq v c o = go (source (2 ^ n) m v c)
  where
    cut : CentreIn n q v
    cut = on_edge n q (M.fits q hq) v o

    split : (j : Node) → Under j m → depth j < depth m → Splits P j
    split j u l = record { out = λ p. absurd (omega (arith, l, ap depth (meet n P M m j hm p u))); below = m; under = u; inside = hm }

    same : (j : Node) → Splits P j → (cut.0 ≡ j) ⊎ ((around j).base ≡ Some cut.0) → Splits P cut.0
    same j s (inl e) = subst (Splits P) (sym e) s
    same j s (inr e) = C j cut.0 e s

    go : Source (2 ^ n) m v → ⊥
    go (inl z) = no_square n cut.0 cut.2 (subst (Square (2 ^ n)) (sym cut.3) z)
    go (inr z) =
        let s = split z.0 z.1 z.2 in
        clash n P M q cut.0 hq cut.1
        (same z.0 s (centres n cut.0 z.0 cut.2 (split_depth n P M z.0 s) (cut.3 ∙ sym z.3)))
