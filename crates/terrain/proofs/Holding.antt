-- Samples and triangles, by number: the test that carving makes is whether the sample lies in the closed triangle; what a half holds, its parent
-- holds; a splittable triangle holds the three samples that its offset is made of, and all corners are samples; a finest triangle holds nothing
-- but its corners.
use Rattle.std.proofs.Common.{◌≡◌, ℕ, ◌+◌, ◌*◌, ◌^◌, ◌<◌, ◌≤◌, Bool, true, ◌⊎◌, Decides, sym, refl, ap, subst, inl, inr, ⊎_elim, arith}
use Rattle.std.proofs.lemmas.Bool.Decides.{same_from_decides}
use Rattle.bintree.specs.declared.point.Point.{Point}
use Rattle.bintree.specs.declared.point.Corners.{Corners}
use Rattle.bintree.specs.Orders.{end, first_finest}
use Rattle.bintree.specs.Triangles.{corners, centre}
use Rattle.bintree.specs.Samples.{Mean, LiesIn}
use Rattle.bintree.proofs.Tree.{Node, two, three, lo, hi, depth, place, under_depth}
use Rattle.bintree.proofs.Numbers.{node, corners_is, depth_of_triangle, depth_of_finest, end_twice}
use Rattle.bintree.proofs.Shape.{point_eq}
use Rattle.bintree.proofs.Middles.{mean_left, mean_right, mean_centre}
use Rattle.bintree.proofs.Inside.{inside, mean_inside}
use Rattle.bintree.proofs.Laws.{whole_centre, turning, inside_decides, sample_laws}
use Rattle.bintree.proofs.Locate.{Single, CentreIn, locate, sole}
use Rattle.terrain.specs.Carving.{holds_sample, reached}
use Rattle.terrain.proofs.Measuring.{is_split}

-- a mean of the corners is held, whatever the sum of the weights
mean_held : (n i : ℕ) (v : Point) (a l r : ℕ) → 2 ≤ i → i < end n → 0 < a + l + r → Mean v (corners n i) a l r → holds_sample v (corners n i) ≡ true
unfolding holds_sample inside
mean_held n i v a l r p q w h = mean_inside v (corners n i) a l r (turning n i p q) w h

pub held_decides : (n i : ℕ) (v : Point) → 2 ≤ i → i < end n → Decides (holds_sample v (corners n i)) (LiesIn v (corners n i))
unfolding holds_sample inside
held_decides n i v p q = inside_decides n i v (corners n i) (holds_sample v (corners n i)) p q refl refl

-- what the call `holds` answers is whether carving reaches the triangle
pub reached_is : (n i : ℕ) (v : Point) (r : Bool) → 2 ≤ i → i < first_finest n → Decides r (LiesIn v (corners n i)) → r ≡ reached n v i
reached_is n i v r p q d =
    let e = same_from_decides r (holds_sample v (corners n i)) d (held_decides n i v p (omega (arith, end_twice n))) in
    let t = is_split n i p q in
    rw t e

-- what a half holds, its parent holds
pub half_held : (n i : ℕ) (v : Point) → 2 ≤ i → i < first_finest n
    → (holds_sample v (corners n (2 * i)) ≡ true) ⊎ (holds_sample v (corners n (2 * i + 1)) ≡ true) → holds_sample v (corners n i) ≡ true
half_held n i v p q h =
    let e = end_twice n in
    (held_decides n i v p (omega arith)).1 ((sample_laws n).half_in_parent i v p q (⊎_elim
    (λ t. inl ((held_decides n (2 * i) v (omega arith) (omega arith)).0 t))
    (λ t. inr ((held_decides n (2 * i + 1) v (omega arith) (omega arith)).0 t)) h))

-- the base's ends and its centre are held
pub record BaseHeld (n i : ℕ) : Type 0 where
  pub left : holds_sample (corners n i).left (corners n i) ≡ true
  pub right : holds_sample (corners n i).right (corners n i) ≡ true
  pub middle : holds_sample (centre (corners n i)) (corners n i) ≡ true

pub base_held : (n i : ℕ) → 2 ≤ i → i < first_finest n → BaseHeld n i
base_held n i p q = record {
  left = mean_held n i _ 0 1 0 p (omega (arith, end_twice n)) (omega arith) (mean_left (corners n i));
  right = mean_held n i _ 0 0 1 p (omega (arith, end_twice n)) (omega arith) (mean_right (corners n i));
  middle = mean_held n i _ 0 1 1 p (omega (arith, end_twice n)) (omega arith) (mean_centre (corners n i) (whole_centre n i p q));
}

-- the corners lie in the square of side s
pub record InSquare (s : ℕ) (t : Corners) : Type 0 where
  pub ax : t.apex.x ≤ s
  pub ay : t.apex.y ≤ s
  pub lx : t.left.x ≤ s
  pub ly : t.left.y ≤ s
  pub rx : t.right.x ≤ s
  pub ry : t.right.y ≤ s

in_square : (s : ℕ) (t : Node) → InSquare s (place s t)
unfolding place
in_square s two = record { ax = omega arith; ay = omega arith; lx = omega arith; ly = omega arith; rx = omega arith; ry = omega arith }
in_square s three = record { ax = omega arith; ay = omega arith; lx = omega arith; ly = omega arith; rx = omega arith; ry = omega arith }
in_square s (lo t) = let w = in_square s t in record { ax = omega arith; ay = omega arith; lx = omega arith; ly = omega arith; rx = omega arith; ry = omega arith }
in_square s (hi t) = let w = in_square s t in record { ax = omega arith; ay = omega arith; lx = omega arith; ly = omega arith; rx = omega arith; ry = omega arith }

pub corners_in_square : (n i : ℕ) → InSquare (2 ^ n) (corners n i)
corners_in_square n i = subst (InSquare (2 ^ n)) (sym (corners_is n i)) (in_square (2 ^ n) (node i))

-- all the weight is at one corner of t, and v is that corner
abbrev pub AtCorner : Point → Corners → ℕ → ℕ → ℕ → Type 0
AtCorner v t a l r = ((v ≡ t.apex) × (l ≡ 0) × (r ≡ 0)) ⊎ ((v ≡ t.left) × (a ≡ 0) × (r ≡ 0)) ⊎ ((v ≡ t.right) × (a ≡ 0) × (l ≡ 0))

at_corner : (t : Corners) (v : Point) (a l r : ℕ) → 0 < a + l + r → Mean v t a l r → Single a l r → AtCorner v t a l r
at_corner t v a l r w h (inl e) = inl (point_eq (sole a l r _ _ _ _ w e.0 e.1 h.on_x) (sole a l r _ _ _ _ w e.0 e.1 h.on_y), e.0, e.1)
at_corner t v a l r w h (inr (inl e)) = inr (inl (
  point_eq (sole l a r _ _ t.apex.x t.right.x (omega arith) e.0 e.1 (omega arith)) (sole l a r _ _ t.apex.y t.right.y (omega arith) e.0 e.1 (omega arith)),
  e.0,
  e.1,
))
at_corner t v a l r w h (inr (inr e)) = inr (inr (
  point_eq (sole r a l _ _ t.apex.x t.left.x (omega arith) e.0 e.1 (omega arith)) (sole r a l _ _ t.apex.y t.left.y (omega arith) e.0 e.1 (omega arith)),
  e.0,
  e.1,
))

-- a finest triangle holds nothing but its corners
pub finest_corner : (n i : ℕ) → 2 ≤ i → first_finest n ≤ i → i < end n → (v : Point) (a l r : ℕ) → 0 < a + l + r → Mean v (corners n i) a l r → AtCorner v (corners n i) a l r
unfolding CentreIn
finest_corner n i p s q v a l r w h = go (locate n (node i) (depth_of_triangle n i p q) v a l r w (subst (λ (t : Corners). Mean v t a l r) (corners_is n i) h))
  where
    none : (u : Node) → depth u < 2 * n → (node i ≡ u) ⊎ (depth (node i) < depth u) → ⊥
    none u k (inl e) = omega (arith, ap depth e, depth_of_finest n i p s)
    none u k (inr e) = omega (arith, depth_of_finest n i p s)

    go : Single a l r ⊎ CentreIn n (node i) v → AtCorner v (corners n i) a l r
    go (inl e) = at_corner (corners n i) v a l r w h e
    go (inr c) = absurd (none c.0 c.2 (under_depth (node i) c.0 c.1))
