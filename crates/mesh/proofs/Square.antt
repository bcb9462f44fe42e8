-- One terrain square as a forest: roots 2 and 3, and the partner of the definition. Its laws come from the trees: the partner is the neighbour across the base.
use Rattle.std.proofs.Common.{◌≡◌, ℕ, zero, suc, ◌*◌, ◌/◌, ◌^◌, ◌<◌, ◌≤◌, ◌⊎◌, sym, refl, ap, ◌∙◌, inl, inr, arith, pow_mono, Some, None, Option}
use Rattle.bintree.specs.Orders.{first_finest}
use Rattle.bintree.specs.Triangles.{partner}
use Rattle.bintree.proofs.Tree.{Node, two, three, lo, hi, num, depth, by_powers}
use Rattle.bintree.proofs.Around.{lo?, hi?, around, across_base}
use Rattle.bintree.proofs.Numbers.{node, num_node, num_from_two, node_num, at_most, end_twice, depth_of_splittable, splittable_of_depth}
use Rattle.bintree.proofs.Partners.{num_near, to_partner, partner_is}
use Rattle.bintree.proofs.Sizes.{from_two}
use Rattle.forest.specs.Forests.{Forest, Lawful}

-- the forest of the square of order n
abbrev pub square : ℕ → Forest
square n = record { roots = 2; finest = first_finest n; partner = partner n }

-- a partner, as a neighbour in the trees
record Across (n i : ℕ) : Type 0 where
  other : Node
  is : partner n i ≡ num other
  across : (around (node i)).base ≡ Some other

from_near : (n i : ℕ) (z : Option Node) → (around (node i)).base ≡ z → partner n i ≡ num_near z → 0 < partner n i → Across n i
from_near n i None e f p = absurd (omega arith)
from_near n i (Some u) e f p = record { other = u; is = f; across = e }

across_of : (n i : ℕ) → 2 ≤ i → i < first_finest n → 0 < partner n i → Across n i
across_of n i l u p = from_near n i (around (node i)).base refl (partner_is n i l (omega (arith, end_twice n))) p

-- two levels up partners meet
record Meeting (t u : Node) : Type 0 where
  above : Node
  above_other : Node
  is : num t / 4 ≡ num above
  is_other : num u / 4 ≡ num above_other
  meet : (above ≡ above_other) ⊎ ((around above).base ≡ Some above_other)

meeting : (t u : Node) → 8 ≤ num t → (around t).base ≡ Some u → Meeting t u
unfolding num around
meeting two u h e = absurd (omega arith)
meeting three u h e = absurd (omega arith)
meeting (lo two) u h e = absurd (omega arith)
meeting (lo three) u h e = absurd (omega arith)
meeting (hi two) u h e = absurd (omega arith)
meeting (hi three) u h e = absurd (omega arith)
meeting (lo (lo g)) u h e =
    let f : hi (hi g) ≡ u = cc in
    record { above = g; above_other = g; is = omega arith; is_other = rw (sym f) (omega arith); meet = inl refl }
meeting (hi (hi g)) u h e =
    let f : lo (lo g) ≡ u = cc in
    record { above = g; above_other = g; is = omega arith; is_other = rw (sym f) (omega arith); meet = inl refl }
meeting (lo (hi g)) u h e = go (around g).base refl e
  where
    go : (z : Option Node) → (around g).base ≡ z → hi? (lo? z) ≡ Some u → Meeting (lo (hi g)) u
    go None q f = let k : ◌≡◌ {A = ℕ} 0 1 = cc in absurd (omega arith)
    go (Some v) q f =
        let w : hi (lo v) ≡ u = cc in
        record { above = g; above_other = v; is = omega arith; is_other = rw (sym w) (omega arith); meet = inr q }
meeting (hi (lo g)) u h e = go (around g).base refl e
  where
    go : (z : Option Node) → (around g).base ≡ z → lo? (hi? z) ≡ Some u → Meeting (hi (lo g)) u
    go None q f = let k : ◌≡◌ {A = ℕ} 0 1 = cc in absurd (omega arith)
    go (Some v) q f =
        let w : lo (hi v) ≡ u = cc in
        record { above = g; above_other = v; is = omega arith; is_other = rw (sym w) (omega arith); meet = inr q }

module _ (n : ℕ) where
  partner_of : (t u : Node) → num t < first_finest n → (around t).base ≡ Some u → partner n (num t) ≡ num u
  partner_of t u h e =
      partner_is n (num t) (num_from_two t) (omega (arith, end_twice n)) ∙ ap num_near (ap (λ (z : Node). (around z).base) (node_num t) ∙ e)

  module _ (i : ℕ) (l : 2 ≤ i) (u : i < first_finest n) (p : 0 < partner n i) where
    the_other : Across n i
    the_other = across_of n i l u p

    same_depth : depth the_other.other ≡ depth (node i)
    same_depth = (to_partner n (node i) the_other.other the_other.across).same

    partner_inside : (2 ≤ partner n i) × (partner n i < first_finest n)
    partner_inside =
        let a = the_other in
        let lt : num a.other < first_finest n = splittable_of_depth n a.other (omega (arith, same_depth, depth_of_splittable n i l u)) in
        (omega (arith, a.is, num_from_two a.other), omega (arith, a.is))

    partner_differs : partner n i ≡ i → ⊥
    partner_differs e =
        let a = the_other in
        (to_partner n (node i) a.other a.across).differs (ap node (sym e ∙ a.is) ∙ node_num a.other)

    partner_back : partner n (partner n i) ≡ i
    partner_back =
        let a = the_other in
        let lt : num a.other < first_finest n = omega (arith, a.is, partner_inside.1) in
        ap (partner n) a.is ∙ (partner_of a.other (node i) lt (across_base (2 ^ n) (node i) a.other a.across).back ∙ num_node i l)

    partner_level : (k : ℕ) → i < 2 * 2 ^ k → partner n i < 2 * 2 ^ k
    partner_level zero h = absurd (omega arith)
    partner_level (suc k) h =
        let a = the_other in
        let d : depth (node i) ≤ k = at_most (node i) k (omega (arith, num_node i l)) in
        omega (arith, a.is, by_powers a.other, pow_mono {i = suc (suc (depth a.other))} {j = suc (suc k)} (omega (arith, same_depth)))

    partner_meet : 8 ≤ i → (partner n i / 4 ≡ i / 4) ⊎ ((0 < partner n (i / 4)) × (partner n i / 4 ≡ partner n (i / 4)))
    partner_meet h =
        let a = the_other in
        let m = meeting (node i) a.other (omega (arith, num_node i l)) a.across in
        go a m m.meet
      where
        go : (a : Across n i) (m : Meeting (node i) a.other) → (m.above ≡ m.above_other) ⊎ ((around m.above).base ≡ Some m.above_other) →
            (partner n i / 4 ≡ i / 4) ⊎ ((0 < partner n (i / 4)) × (partner n i / 4 ≡ partner n (i / 4)))
        go a m (inl e) =
            let x : num (node i) / 4 ≡ num m.above = m.is in
            let y : num a.other / 4 ≡ num m.above_other = m.is_other in
            let z : num m.above ≡ num m.above_other = ap num e in
            inl (omega (arith, a.is, num_node i l))
        go a m (inr e) =
            let x : i / 4 ≡ num m.above = ap (λ (y : ℕ). y / 4) (sym (num_node i l)) ∙ m.is in
            let y : partner n i / 4 ≡ num m.above_other = ap (λ (y : ℕ). y / 4) a.is ∙ m.is_other in
            let z : partner n (i / 4) ≡ num m.above_other = ap (partner n) x ∙ partner_of m.above m.above_other (omega arith) e in
            inr (omega (arith, num_from_two m.above_other), y ∙ sym z)

  pub square_lawful : Lawful (square n)
  square_lawful = record {
    some = omega arith;
    room = from_two n;
    inside = partner_inside;
    other = partner_differs;
    back = partner_back;
    level = λ i k l u p h. partner_level i l u p k h;
    meet = λ i h u p. partner_meet i (omega arith) u p (omega arith);
  }
