-- Lists as heights and as bounds: what a read and a write at a place mean.
use Rattle.std.proofs.Common.{◌≡◌, ℕ, ◌^◌, ◌<◌, ◌≤◌, true, false, cond, ◌≢◌, ◌⊎◌, List, length, get_or, set, replicate, sym, refl, ap, ◌∙◌, subst, inl, inr, ⊎_elim, arith}
use mathlib.Core.Path.{fun_ext}
use Rattle.std.proofs.lemmas.List.{get_or-set_same, get_or-set_other, get_or-replicate, get_or_past, length-replicate}
use Rattle.std.proofs.lemmas.Bool.{cases_Bool, cases_lt, and_parts, and_from, leb-true, le-leb, eq-eqb, cond-true, cond-false, cond_both, both_ways}
use Rattle.bintree.specs.declared.point.Point.{Point}
use Rattle.bintree.specs.Orders.{end, is_triangle}
use Rattle.bintree.specs.Triangles.{same_point}
use Rattle.bintree.proofs.Sizes.{side_bound}
use Rattle.bintree.proofs.Shape.{point_eq}
use Rattle.bintree.proofs.Partners.{same_point_true}
use Rattle.terrain.specs.Heights.{Heights, is_sample, flat, put_height}
use Rattle.terrain.specs.Tables.{place, heights_in, bounds_in}
use Rattle.terrain.proofs.Highest.{is_tri}
use Rattle.terrain.proofs.Carvings.{put_other}

-- the test of a sample
pub sample_x : (n : ℕ) (p : Point) → is_sample n p ≡ true → p.x ≤ 2 ^ n
sample_x n p t = leb-true p.x (2 ^ n) (and_parts _ _ t).0

pub sample_y : (n : ℕ) (p : Point) → is_sample n p ≡ true → p.y ≤ 2 ^ n
sample_y n p t = leb-true p.y (2 ^ n) (and_parts _ _ t).1

pub in_sample : (n : ℕ) (p : Point) → p.x ≤ 2 ^ n → p.y ≤ 2 ^ n → is_sample n p ≡ true
in_sample n p x y = and_from _ _ (le-leb p.x (2 ^ n) x) (le-leb p.y (2 ^ n) y)

-- heights
pub height_at : (n : ℕ) (zs : List ℕ) (p : Point) → is_sample n p ≡ true → heights_in n zs p ≡ get_or zs (place p) 0
unfolding heights_in
height_at n zs p t = cond-true (is_sample n p) _ _ t

height_none : (n : ℕ) (zs : List ℕ) (p : Point) → is_sample n p ≡ false → heights_in n zs p ≡ 0
unfolding heights_in
height_none n zs p t = cond-false (is_sample n p) _ _ t

pub heights_small : (n : ℕ) (zs : List ℕ) (m : ℕ) → ((k : ℕ) → get_or zs k 0 ≤ m) → (p : Point) → heights_in n zs p ≤ m
heights_small n zs m f p = ⊎_elim
    (λ t. omega (arith, height_at n zs p t, f (place p)))
    (λ t. omega (arith, height_none n zs p t))
    (cases_Bool (is_sample n p))

-- all heights are 0
zero_in : (m k : ℕ) → get_or {A = ℕ} (replicate m 0) k 0 ≡ 0
zero_in m k = ⊎_elim
    (λ l. get_or-replicate m k 0 0 l)
    (λ l. let e : length (replicate m 0) ≤ k = rw length-replicate l in get_or_past (replicate m 0) k 0 e)
    (cases_lt k m)

pub heights_blank : (n m : ℕ) → heights_in n (replicate m 0) ≡ flat
unfolding heights_in
heights_blank n m = fun_ext (λ p. cond_both (is_sample n p) (get_or (replicate m 0) (place p) 0) 0 (λ h. h ≡ 0) (λ _. zero_in m (place p)) (λ _. refl))

pub bounds_blank : (n m : ℕ) → bounds_in n (replicate m 0) ≡ (λ _. 0)
unfolding bounds_in
bounds_blank n m = fun_ext (λ i. cond_both (is_triangle n i) (get_or (replicate m 0) i 0) 0 (λ b. b ≡ 0) (λ _. zero_in m i) (λ _. refl))

point_same : (p : Point) → same_point p p ≡ true
point_same p = and_from _ _ (eq-eqb p.x p.x refl) (eq-eqb p.y p.y refl)

put_here : (p : Point) (h : ℕ) (z : Heights) → put_height p h z p ≡ h
unfolding put_height
put_here p h z = cond-true (same_point p p) h (z p) (point_same p)

-- two samples have one place only if they are one
place_apart : (n : ℕ) (p q : Point) → n ≤ 6 → is_sample n p ≡ true → is_sample n q ≡ true → place q ≡ place p → q ≡ p
place_apart n p q six s t e =
    let k = side_bound n six in
    let a = sample_x n p s in
    let b = sample_x n q t in
    point_eq (omega arith) (omega arith)

-- a write at the place of a sample puts that sample's height
pub heights_set : (n : ℕ) (zs : List ℕ) (p : Point) (h at : ℕ) → n ≤ 6 → is_sample n p ≡ true → length zs ≡ 4225 → at ≡ place p → heights_in n (set zs at h) ≡ put_height p h (heights_in n zs)
heights_set n zs p h at six s long e =
    ap (λ (k : ℕ). heights_in n (set zs k h)) e ∙ fun_ext (λ q. reads q (cases_Bool (is_sample n q)) (cases_Bool (same_point q p)))
  where
    within : place p < length zs
    within = let k = side_bound n six in let a = sample_x n p s in let b = sample_y n p s in omega arith

    apart_from : (q : Point) → same_point q p ≡ false → q ≡ p → ⊥
    apart_from q f e = both_ways (same_point q p) f (subst (λ (u : Point). same_point u p ≡ true) (sym e) (point_same p))

    reads : (q : Point) → (is_sample n q ≡ true) ⊎ (is_sample n q ≡ false) → (same_point q p ≡ true) ⊎ (same_point q p ≡ false)
        → heights_in n (set zs (place p) h) q ≡ put_height p h (heights_in n zs) q
    reads q k (inl t) =
        let P : Point → Type 0 = λ u. heights_in n (set zs (place p) h) u ≡ put_height p h (heights_in n zs) u in
        subst P (sym (same_point_true q p t)) (height_at n (set zs (place p) h) p s ∙ (get_or-set_same zs (place p) h 0 within ∙ sym (put_here p h (heights_in n zs))))
    reads q (inl k) (inr f) =
        height_at n (set zs (place p) h) q k
        ∙ (get_or-set_other zs (place p) (place q) h 0 (λ e. apart_from q f (place_apart n p q six s k e)) ∙ (sym (height_at n zs q k) ∙ sym (put_other p h (heights_in n zs) q (apart_from q f))))
    reads q (inr k) (inr f) = height_none n (set zs (place p) h) q k ∙ (sym (height_none n zs q k) ∙ sym (put_other p h (heights_in n zs) q (apart_from q f)))

-- bounds
pub bound_at : (n : ℕ) (bs : List ℕ) (i : ℕ) → 2 ≤ i → i < end n → bounds_in n bs i ≡ get_or bs i 0
unfolding bounds_in
bound_at n bs i p q = cond-true (is_triangle n i) _ _ (is_tri n i p q)

pub bounds_set_here : (n : ℕ) (bs : List ℕ) (i v : ℕ) → 2 ≤ i → i < end n → i < length bs → bounds_in n (set bs i v) i ≡ v
bounds_set_here n bs i v p q l = bound_at n (set bs i v) i p q ∙ get_or-set_same bs i v 0 l

pub bounds_set_other : (n : ℕ) (bs : List ℕ) (i j v : ℕ) → j ≢ i → bounds_in n (set bs i v) j ≡ bounds_in n bs j
unfolding bounds_in
bounds_set_other n bs i j v ne = ap (λ (x : ℕ). cond (is_triangle n j) x 0) (get_or-set_other bs i j v 0 ne)
