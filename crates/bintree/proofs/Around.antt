-- The neighbours of a triangle on its own level, by recursion over the trees, and that they are neighbours: they share an edge's ends.
use Rattle.std.proofs.Common.{◌≡◌, ℕ, suc, ◌/◌, refl, ap, ◌∙◌, subst, ap₂, add_comm, Some, None, Option, IfSome}
use Rattle.std.specs.Option.{option_map}
use Rattle.bintree.specs.declared.point.Point.{Point}
use Rattle.bintree.specs.Triangles.{middle, centre}
use Rattle.bintree.proofs.Tree.{Node, two, three, lo, hi, depth, place}
use Rattle.bintree.proofs.Shape.{point_eq}

-- the low and the high half of a neighbour
abbrev pub lo? : Option Node → Option Node
lo? = option_map lo

abbrev pub hi? : Option Node → Option Node
hi? = option_map hi

-- the neighbours across the base, the left edge (apex to left) and the right edge (right to apex)
pub record Ring : Type 0 where
  pub base : Option Node
  pub left : Option Node
  pub right : Option Node

-- a half has its twin beside it, and halves of its parent's neighbours
abbrev around_lo : Node → Ring → Ring
around_lo t n = record { base = hi? n.left; left = Some (hi t); right = hi? n.base }

abbrev around_hi : Node → Ring → Ring
around_hi t n = record { base = lo? n.right; left = lo? n.base; right = Some (lo t) }

unfoldable pub around : Node → Ring
around two = record { base = Some three; left = None; right = None }
around three = record { base = Some two; left = None; right = None }
around (lo t) = around_lo t (around t)
around (hi t) = around_hi t (around t)

middle_comm : (p q : Point) → middle p q ≡ middle q p
middle_comm p q = point_eq (ap (λ (z : ℕ). z / 2) (add_comm p.x q.x)) (ap (λ (z : ℕ). z / 2) (add_comm p.y q.y))

-- u lies across the base of t: it has the base ends swapped, the same level, and t across its own base
pub record Swaps (s : ℕ) (t u : Node) : Type 0 where
  pub at_left : (place s u).left ≡ (place s t).right
  pub at_right : (place s u).right ≡ (place s t).left
  pub same : depth u ≡ depth t
  pub back : (around u).base ≡ Some t

-- u lies across the left edge of t: it shares the apex and the left corner, which is its right one
pub record AtLeft (s : ℕ) (t u : Node) : Type 0 where
  pub at_apex : (place s u).apex ≡ (place s t).apex
  pub at_right : (place s u).right ≡ (place s t).left
  pub same : depth u ≡ depth t
  pub back : (around u).right ≡ Some t

-- u lies across the right edge of t: it shares the apex and the right corner, which is its left one
pub record AtRight (s : ℕ) (t u : Node) : Type 0 where
  pub at_apex : (place s u).apex ≡ (place s t).apex
  pub at_left : (place s u).left ≡ (place s t).right
  pub same : depth u ≡ depth t
  pub back : (around u).left ≡ Some t

-- A holds of a neighbour, where there is one
abbrev pub Where : (Node → Type 0) → Option Node → Type 0
Where A z = IfSome z A

-- the neighbours in a ring lie where they should
pub record Beside (s : ℕ) (t : Node) (n : Ring) : Type 0 where
  pub base : Where (Swaps s t) n.base
  pub left : Where (AtLeft s t) n.left
  pub right : Where (AtRight s t) n.right

-- triangles across a base from each other have one centre
pub shared_centre : (s : ℕ) (t u : Node) → Swaps s t u → centre (place s u) ≡ centre (place s t)
shared_centre s t u h = ap₂ middle h.at_left h.at_right ∙ middle_comm _ _

-- the neighbours of a half lie where they should if those of its parent do
lo_base : (s : ℕ) (t : Node) (z : Option Node) → Where (AtLeft s t) z → Where (Swaps s (lo t)) (hi? z)
unfolding place depth around
lo_base s t None h = tt
lo_base s t (Some u) h = record { at_left = h.at_right; at_right = h.at_apex; same = ap suc h.same; back = ap lo? h.back }

hi_base : (s : ℕ) (t : Node) (z : Option Node) → Where (AtRight s t) z → Where (Swaps s (hi t)) (lo? z)
unfolding place depth around
hi_base s t None h = tt
hi_base s t (Some u) h = record { at_left = h.at_apex; at_right = h.at_left; same = ap suc h.same; back = ap hi? h.back }

lo_right : (s : ℕ) (t : Node) (z : Option Node) → Where (Swaps s t) z → Where (AtRight s (lo t)) (hi? z)
unfolding place depth around
lo_right s t None h = tt
lo_right s t (Some u) h = record { at_apex = shared_centre s t u h; at_left = h.at_right; same = ap suc h.same; back = ap lo? h.back }

hi_left : (s : ℕ) (t : Node) (z : Option Node) → Where (Swaps s t) z → Where (AtLeft s (hi t)) (lo? z)
unfolding place depth around
hi_left s t None h = tt
hi_left s t (Some u) h = record { at_apex = shared_centre s t u h; at_right = h.at_left; same = ap suc h.same; back = ap hi? h.back }

lo_left : (s : ℕ) (t : Node) → AtLeft s (lo t) (hi t)
unfolding place depth around
lo_left s t = record { at_apex = refl; at_right = refl; same = refl; back = refl }

hi_right : (s : ℕ) (t : Node) → AtRight s (hi t) (lo t)
unfolding place depth around
hi_right s t = record { at_apex = refl; at_left = refl; same = refl; back = refl }

pub beside : (s : ℕ) (t : Node) → Beside s t (around t)
unfolding around place depth
beside s two = record { base = record { at_left = refl; at_right = refl; same = refl; back = refl }; left = tt; right = tt }
beside s three = record { base = record { at_left = refl; at_right = refl; same = refl; back = refl }; left = tt; right = tt }
beside s (lo t) = record { base = lo_base s t (around t).left (beside s t).left; left = lo_left s t; right = lo_right s t (around t).base (beside s t).base }
beside s (hi t) = record { base = hi_base s t (around t).right (beside s t).right; left = hi_left s t (around t).base (beside s t).base; right = hi_right s t }

-- the neighbour across the base has the base ends swapped, the same level, and this triangle across its own base
pub across_base : (s : ℕ) (t u : Node) → (around t).base ≡ Some u → Swaps s t u
across_base s t u e = subst (Where (Swaps s t)) e (beside s t).base
