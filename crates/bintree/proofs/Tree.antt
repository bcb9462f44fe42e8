-- The triangles of a square as two binary trees. An induction over a tree is a recursion on its data, so the geometry is proved over `Node`;
-- `Numbers` carries it over to triangle numbers.
use Rattle.std.proofs.Common.{◌≡◌, ℕ, zero, suc, ◌+◌, ◌*◌, ◌^◌, ◌<◌, ◌≤◌, ◌⊎◌, sym, refl, ap, subst, inl, inr, arith}
use Rattle.bintree.specs.declared.point.Corners.{Corners}
use Rattle.bintree.specs.Triangles.{low_half, high_half, root_two, root_three}

-- a root, or the low or the high half of a triangle
pub data Node : Type 0 where
  two three : Node
  lo hi : Node → Node

-- the number of a triangle
unfoldable pub num : Node → ℕ
num two = 2
num three = 3
num (lo t) = 2 * num t
num (hi t) = 2 * num t + 1

-- its level
unfoldable pub depth : Node → ℕ
depth two = 0
depth three = 0
depth (lo t) = suc (depth t)
depth (hi t) = suc (depth t)

-- where it lies in a square of side s
unfoldable pub place : ℕ → Node → Corners
place s two = root_two s
place s three = root_three s
place s (lo t) = low_half (place s t)
place s (hi t) = high_half (place s t)

-- p is q or descends from it
abbrev pub Under : Node → Node → Type 0
Under q two = q ≡ two
Under q three = q ≡ three
Under q (lo p) = (q ≡ lo p) ⊎ Under q p
Under q (hi p) = (q ≡ hi p) ⊎ Under q p

pub under_self : (t : Node) → Under t t
under_self two = refl
under_self three = refl
under_self (lo t) = inl refl
under_self (hi t) = inl refl

pub under_trans : (p q r : Node) → Under p q → Under q r → Under p r
under_trans p q two h k = subst (Under p) k h
under_trans p q three h k = subst (Under p) k h
under_trans p q (lo r) h (inl e) = subst (Under p) e h
under_trans p q (lo r) h (inr k) = inr (under_trans p q r h k)
under_trans p q (hi r) h (inl e) = subst (Under p) e h
under_trans p q (hi r) h (inr k) = inr (under_trans p q r h k)

deeper : (q p : Node) → (q ≡ p) ⊎ (depth q < depth p) → depth q < suc (depth p)
deeper q p (inl e) = omega (arith, ap depth e)
deeper q p (inr h) = omega arith

pub under_depth : (q p : Node) → Under q p → (q ≡ p) ⊎ (depth q < depth p)
unfolding depth
under_depth q two e = inl e
under_depth q three e = inl e
under_depth q (lo p) (inl e) = inl e
under_depth q (lo p) (inr u) = inr (deeper q p (under_depth q p u))
under_depth q (hi p) (inl e) = inl e
under_depth q (hi p) (inr u) = inr (deeper q p (under_depth q p u))

pub under_antisym : (p q : Node) → Under p q → Under q p → p ≡ q
under_antisym p q h k = go (under_depth p q h) (under_depth q p k)
  where
    go : (p ≡ q) ⊎ (depth p < depth q) → (q ≡ p) ⊎ (depth q < depth p) → p ≡ q
    go (inl e) z = e
    go (inr e) (inl z) = sym z
    go (inr e) (inr z) = absurd (omega arith)

-- of two triangles over a third, one lies over the other
pub comparable : (i q f : Node) → Under i f → Under q f → Under i q ⊎ Under q i
comparable i q two h k = inl (subst (Under i) (sym k) h)
comparable i q three h k = inl (subst (Under i) (sym k) h)
comparable i q (lo f) (inl e) k = inr (subst (Under q) (sym e) k)
comparable i q (lo f) (inr h) (inl e) = inl (subst (Under i) (sym e) (inr h))
comparable i q (lo f) (inr h) (inr k) = comparable i q f h k
comparable i q (hi f) (inl e) k = inr (subst (Under q) (sym e) k)
comparable i q (hi f) (inr h) (inl e) = inl (subst (Under i) (sym e) (inr h))
comparable i q (hi f) (inr h) (inr k) = comparable i q f h k

-- below a triangle there is a finest one
pub finest_under : (n d : ℕ) (t : Node) → depth t + d ≡ 2 * n → (f : Node) × (depth f ≡ 2 * n) × Under t f
unfolding depth
finest_under n zero t h = (t, omega arith, under_self t)
finest_under n (suc d) t h =
    let z = finest_under n d (lo t) (omega arith) in
    (z.0, z.1, under_trans t (lo t) z.0 (inr (under_self t)) z.2)

-- the root over a triangle
pub root_over : (t : Node) → Under two t ⊎ Under three t
root_over two = inl refl
root_over three = inr refl
root_over (lo t) = go (root_over t)
  where
    go : Under two t ⊎ Under three t → Under two (lo t) ⊎ Under three (lo t)
    go (inl h) = inl (inr h)
    go (inr h) = inr (inr h)
root_over (hi t) = go (root_over t)
  where
    go : Under two t ⊎ Under three t → Under two (hi t) ⊎ Under three (hi t)
    go (inl h) = inl (inr h)
    go (inr h) = inr (inr h)

-- the level by powers of two
pub by_powers : (t : Node) → (2 ^ suc (depth t) ≤ num t) × (num t < 2 ^ suc (suc (depth t)))
unfolding depth num
by_powers two = (omega arith, omega arith)
by_powers three = (omega arith, omega arith)
by_powers (lo t) = let h = by_powers t in omega arith
by_powers (hi t) = let h = by_powers t in omega arith
