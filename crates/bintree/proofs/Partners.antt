-- The partner of the definition, the only other triangle of the level with the same two base ends, is the neighbour across the base that the
-- recursion over the trees finds. That it is the only one follows from the centre lemma, in the square of twice the side, where every base has a whole middle.
use Rattle.std.proofs.Common.{◌≡◌, ℕ, zero, suc, ◌*◌, ◌^◌, ◌<◌, ◌≤◌, Bool, true, false, ◌&&◌, eqb, ◌⊎◌, sym, refl, ap, ◌∙◌, subst, ap₂, inl, inr, arith, Some, None, Option}
use Rattle.std.specs.Option.{option_map, unwrap_or}
use Rattle.std.proofs.lemmas.Bool.{cases_eq, and_parts, and_from, or_cases, or_left, or_right, not-true, not_from_false, eqb-true, eqb-false, eq-eqb, ne_eqb, leb-true, le-leb, ltb-true, lt-ltb, false_from_ne_true}
use Rattle.std.proofs.lemmas.Option.{same_Some, none-some}
use Rattle.bintree.specs.declared.point.Point.{Point}
use Rattle.bintree.specs.declared.point.Corners.{Corners}
use Rattle.bintree.specs.Orders.{end}
use Rattle.bintree.specs.Triangles.{at, tri, middle, centre, low_half, high_half, corners, same_point, same_base, partners, lowest, partner}
use Rattle.bintree.specs.Laws.{WholeCentre, PartnerLaws}
use Rattle.bintree.proofs.Tree.{Node, two, three, lo, hi, num, depth, place}
use Rattle.bintree.proofs.Shape.{point_eq, corners_eq}
use Rattle.bintree.proofs.Middles.{whole}
use Rattle.bintree.proofs.Around.{lo?, hi?, around, across_base}
use Rattle.bintree.proofs.Twins.{centres}
use Rattle.bintree.proofs.Numbers.{node, num_node, num_from_two, node_num, corners_is, level_is, depth_of_triangle, triangle_of_depth}

-- in the square of twice the side every triangle has twice the coordinates
abbrev doubled : Point → Point
doubled p = at (2 * p.x) (2 * p.y)

abbrev all_doubled : Corners → Corners
all_doubled t = tri (doubled t.apex) (doubled t.left) (doubled t.right)

low_doubled : (t : Corners) → WholeCentre t → low_half (all_doubled t) ≡ all_doubled (low_half t)
low_doubled t e = corners_eq (point_eq (omega (arith, e.on_x)) (omega (arith, e.on_y))) refl refl

high_doubled : (t : Corners) → WholeCentre t → high_half (all_doubled t) ≡ all_doubled (high_half t)
high_doubled t e = corners_eq (point_eq (omega (arith, e.on_x)) (omega (arith, e.on_y))) refl refl

place_doubled : (n : ℕ) (t : Node) → depth t ≤ 2 * n → place (2 ^ suc n) t ≡ all_doubled (place (2 ^ n) t)
unfolding place depth
place_doubled n two h = corners_eq refl (point_eq (omega arith) refl) (point_eq refl (omega arith))
place_doubled n three h = corners_eq (point_eq (omega arith) (omega arith)) (point_eq refl (omega arith)) (point_eq (omega arith) refl)
place_doubled n (lo t) h = ap low_half (place_doubled n t (omega arith)) ∙ low_doubled (place (2 ^ n) t) (whole n t h)
place_doubled n (hi t) h = ap high_half (place_doubled n t (omega arith)) ∙ high_doubled (place (2 ^ n) t) (whole n t h)

-- t and u have the same two base ends
unfoldable pub SameEnds : Corners → Corners → Type 0
SameEnds t u = ((t.left ≡ u.left) × (t.right ≡ u.right)) ⊎ ((t.left ≡ u.right) × (t.right ≡ u.left))

doubled_centre : (t u : Corners) → SameEnds t u → centre (all_doubled t) ≡ centre (all_doubled u)
unfolding SameEnds
doubled_centre t u (inl e) = ap₂ (λ (p q : Point). middle (doubled p) (doubled q)) e.0 e.1
doubled_centre t u (inr e) = point_eq (omega (arith, ap (λ (z : Point). z.x) e.0, ap (λ (z : Point). z.x) e.1)) (omega (arith, ap (λ (z : Point). z.y) e.0, ap (λ (z : Point). z.y) e.1))

-- u is another triangle of the level of t with the same two base ends
pub record Partnered (n : ℕ) (t u : Node) : Type 0 where
  pub differs : t ≡ u → ⊥
  pub same : depth u ≡ depth t
  pub ends : SameEnds (place (2 ^ n) u) (place (2 ^ n) t)

-- no triangle lies across its own base
on_high : Node → Bool
on_high two = true
on_high three = false
on_high (lo t) = false
on_high (hi t) = true

not_own : (t : Node) → (around t).base ≡ Some t → ⊥
unfolding around on_high
not_own two e = let z : three ≡ two = cc in let k : ◌≡◌ {A = ℕ} 0 1 = cc in omega arith
not_own three e = let k : ◌≡◌ {A = ℕ} 0 1 = cc in omega arith
not_own (lo t) e = go (around t).left e
  where
    go : (z : Option Node) → hi? z ≡ Some (lo t) → ⊥
    go None f = let k : ◌≡◌ {A = ℕ} 0 1 = cc in omega arith
    go (Some u) f = let k : ◌≡◌ {A = ℕ} 0 1 = cc in omega arith
not_own (hi t) e = go (around t).right e
  where
    go : (z : Option Node) → lo? z ≡ Some (hi t) → ⊥
    go None f = let k : ◌≡◌ {A = ℕ} 0 1 = cc in omega arith
    go (Some u) f = let k : ◌≡◌ {A = ℕ} 0 1 = cc in omega arith

-- the neighbour across the base is a partner, and the only one
pub to_partner : (n : ℕ) (t u : Node) → (around t).base ≡ Some u → Partnered n t u
unfolding SameEnds
to_partner n t u e =
    let w = across_base (2 ^ n) t u e in
    record { differs = λ z. not_own t (e ∙ ap Some (sym z)); same = w.same; ends = inr (w.at_left, w.at_right) }

pub from_partner : (n : ℕ) (t u : Node) → depth t ≤ 2 * n → Partnered n t u → (around t).base ≡ Some u
from_partner n t u h p =
    one (centres (suc n) u t (omega (arith, hu)) (omega arith)
    (ap centre (place_doubled n u hu) ∙ (doubled_centre (place (2 ^ n) u) (place (2 ^ n) t) p.ends ∙ sym (ap centre (place_doubled n t h)))))
  where
    hu : depth u ≤ 2 * n
    hu = omega (arith, p.same)

    one : (u ≡ t) ⊎ ((around t).base ≡ Some u) → (around t).base ≡ Some u
    one (inl e) = absurd (p.differs (sym e))
    one (inr e) = e

-- the search for the lowest number that passes a test
abbrev after : ℕ → ℕ → Bool → ℕ
after b r y = elim (eqb r 0) [ false ↦ r | true ↦ elim y [ true ↦ b | false ↦ 0 ] ]

after_found : (b r : ℕ) (y : Bool) → 0 < r → after b r y ≡ r
after_found b zero y h = absurd (omega arith)
after_found b (suc r) y h = subst (λ (c : Bool). elim c [ false ↦ suc r | true ↦ elim y [ true ↦ b | false ↦ 0 ] ] ≡ suc r) (sym (ne_eqb (suc r) 0 (λ e. omega arith))) refl

lowest_none : (f : ℕ → Bool) (b : ℕ) → ((j : ℕ) → j < b → f j ≡ false) → lowest f b ≡ 0
lowest_none f zero h = refl
lowest_none f (suc b) h = ap₂ (after b) (lowest_none f b (λ j l. h j (omega arith))) (h b (omega arith))

lowest_one : (f : ℕ → Bool) (b j : ℕ) → 0 < j → f j ≡ true → ((k : ℕ) → f k ≡ true → k ≡ j) → j < b → lowest f b ≡ j
lowest_one f zero j pos y one l = absurd (omega arith)
lowest_one f (suc b) j pos y one l = go (cases_eq j b) (lowest_one f b j pos y one)
  where
    go : (j ≡ b) ⊎ (j ≡ b → ⊥) → (j < b → lowest f b ≡ j) → lowest f (suc b) ≡ j
    go (inl e) ih =
        let z : lowest f b ≡ 0 = lowest_none f b (λ k l. false_from_ne_true (f k) (λ t. omega (arith, one k t))) in
        let y' : f b ≡ true = rw e at y in
        ap₂ (after b) z y' ∙ sym e
    go (inr ne) ih =
        let z : lowest f b ≡ j = ih (omega arith) in
        ap₂ (after b) z refl ∙ after_found b j (f b) pos

-- partners by their tests are partners in the trees
pub same_point_true : (p q : Point) → same_point p q ≡ true → p ≡ q
same_point_true p q h = let a = and_parts _ _ h in point_eq (eqb-true _ _ a.0) (eqb-true _ _ a.1)

same_point_from : (p q : Point) → p ≡ q → same_point p q ≡ true
same_point_from p q e = and_from _ _ (eq-eqb _ _ (ap (λ (z : Point). z.x) e)) (eq-eqb _ _ (ap (λ (z : Point). z.y) e))

same_base_true : (t u : Corners) → same_base t u ≡ true → SameEnds t u
unfolding SameEnds
same_base_true t u h = go (or_cases _ _ h)
  where
    go : ((same_point t.left u.left && same_point t.right u.right) ≡ true) ⊎ ((same_point t.left u.right && same_point t.right u.left) ≡ true)
        → ((t.left ≡ u.left) × (t.right ≡ u.right)) ⊎ ((t.left ≡ u.right) × (t.right ≡ u.left))
    go (inl a) = let b = and_parts _ _ a in inl (same_point_true _ _ b.0, same_point_true _ _ b.1)
    go (inr a) = let b = and_parts _ _ a in inr (same_point_true _ _ b.0, same_point_true _ _ b.1)

same_base_from : (t u : Corners) → SameEnds t u → same_base t u ≡ true
unfolding SameEnds
same_base_from t u (inl e) = or_left _ _ (and_from _ _ (same_point_from _ _ e.0) (same_point_from _ _ e.1))
same_base_from t u (inr e) = or_right _ _ (and_from _ _ (same_point_from _ _ e.0) (same_point_from _ _ e.1))

pub partners_true : (n i j : ℕ) → partners n i j ≡ true → (2 ≤ i) × (i < end n) × (2 ≤ j) × (j < end n) × Partnered n (node i) (node j)
unfolding partners
partners_true n i j h =
    let a = and_parts _ _ h in
    let b = and_parts _ _ a.0 in
    let i' = and_parts _ _ b.0 in
    let j' = and_parts _ _ b.1 in
    let c = and_parts _ _ a.1 in
    let d = and_parts _ _ c.0 in
    let li = leb-true 2 i i'.0 in
    let lj = leb-true 2 j j'.0 in (
      li,
      ltb-true i (end n) i'.1,
      lj,
      ltb-true j (end n) j'.1,
      record {
        differs = λ e. eqb-false j i (not-true (eqb j i) d.0) (sym (num_node j lj) ∙ ap num (sym e) ∙ num_node i li);
        same = sym (level_is j) ∙ eqb-true _ _ d.1 ∙ level_is i;
        ends = subst (λ (t : Corners). SameEnds t (place (2 ^ n) (node i))) (corners_is n j) (subst (λ (t : Corners). SameEnds (corners n j) t) (corners_is n i) (same_base_true (corners n j) (corners n i) c.1));
      },
    )

partners_from : (n i j : ℕ) → 2 ≤ i → i < end n → 2 ≤ j → j < end n → Partnered n (node i) (node j) → partners n i j ≡ true
unfolding partners
partners_from n i j li ui lj uj p =
    and_from _ _ (and_from _ _ (and_from _ _ (le-leb 2 i li) (lt-ltb i (end n) ui)) (and_from _ _ (le-leb 2 j lj) (lt-ltb j (end n) uj)))
    (and_from _ _ (and_from _ _ (not_from_false _ (ne_eqb j i (λ e. p.differs (ap node (sym e))))) (eq-eqb _ _ (level_is j ∙ p.same ∙ sym (level_is i))))
    (same_base_from (corners n j) (corners n i) (subst (λ (t : Corners). SameEnds t (corners n i)) (sym (corners_is n j)) (subst (λ (t : Corners). SameEnds (place (2 ^ n) (node j)) t) (sym (corners_is n i)) p.ends))))

-- the number of a neighbour, 0 of none
abbrev pub num_near : Option Node → ℕ
num_near z = unwrap_or (option_map num z) 0

-- the partner of a triangle is the neighbour across its base
pub partner_is : (n i : ℕ) → 2 ≤ i → i < end n → partner n i ≡ num_near (around (node i)).base
unfolding partner
partner_is n i l u = go (around (node i)).base refl
  where
    go : (z : Option Node) → (around (node i)).base ≡ z → lowest (partners n i) (end n) ≡ num_near z
    go None e = lowest_none (partners n i) (end n) (λ j h. false_from_ne_true (partners n i j) (λ t.
        none-some (node j) (sym e ∙ from_partner n (node i) (node j) (depth_of_triangle n i l u) (partners_true n i j t).4)))
    go (Some t) e =
        let p = to_partner n (node i) t e in
        let lt : num t < end n = triangle_of_depth n t (omega (arith, p.same, depth_of_triangle n i l u)) in
        lowest_one (partners n i) (end n) (num t) (omega (arith, num_from_two t))
        (partners_from n i (num t) l u (num_from_two t) lt (subst (λ (w : Node). Partnered n (node i) w) (sym (node_num t)) p))
        (λ k y. let q = partners_true n i k y in
        sym (num_node k q.2) ∙ ap num (same_Some (node k) t (sym (from_partner n (node i) (node k) (depth_of_triangle n i l u) q.4) ∙ e)))
        lt

-- a partner is the partner, since there is only one
pub only_partner : (n i j : ℕ) → partners n i j ≡ true → j ≡ partner n i
only_partner n i j h =
    let q = partners_true n i j h in
    sym (partner_is n i q.0 q.1 ∙ (ap num_near (from_partner n (node i) (node j) (depth_of_triangle n i q.0 q.1) q.4) ∙ num_node j q.2))

lowest_passes : (f : ℕ → Bool) (b : ℕ) → 0 < lowest f b → f (lowest f b) ≡ true
lowest_passes f zero h = absurd (omega arith)
lowest_passes f (suc b) h = go (lowest f b) refl (f b) refl (lowest_passes f b) h
  where
    go : (r : ℕ) → lowest f b ≡ r → (y : Bool) → f b ≡ y → (0 < lowest f b → f (lowest f b) ≡ true) → 0 < after b r y → f (after b r y) ≡ true
    go zero e true q ih h = q
    go zero e false q ih h = absurd (omega arith)
    go (suc r) e y q ih h = subst (λ (z : ℕ). f z ≡ true) (sym (after_found b (suc r) y (omega arith))) (subst (λ (z : ℕ). f z ≡ true) e (ih (omega arith)))

pub partner_laws : (n i : ℕ) → PartnerLaws n i
unfolding partner
partner_laws n i = record {
  partnered = λ h. lowest_passes (partners n i) (end n) h;
  none = λ e j h. omega (arith, e, only_partner n i j h, (partners_true n i j h).2);
  only = only_partner n i;
}
