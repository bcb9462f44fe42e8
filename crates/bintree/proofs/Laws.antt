-- The laws by number, from the trees.
use Rattle.std.proofs.Common.{◌≡◌, ℕ, suc, ◌+◌, ◌-◌, ◌*◌, ◌^◌, ◌<◌, ◌≤◌, Bool, ◌⊎◌, Decides, sym, ap, ◌∙◌, subst, inl, inr, arith, pow_pos, Some}
use Rattle.bintree.specs.declared.point.Point.{Point}
use Rattle.bintree.specs.declared.point.Corners.{Corners}
use Rattle.bintree.specs.Orders.{end, first_finest}
use Rattle.bintree.specs.Triangles.{corners, level, centre, partner}
use Rattle.bintree.specs.Samples.{area, Mean, LiesIn}
use Rattle.bintree.specs.Meshes.{Within, Corner}
use Rattle.bintree.specs.Laws.{LevelLaws, CornerLaws, WholeCentre, SameCentre, CentreBelow, SampleLaws}
use Rattle.bintree.proofs.Tree.{Node, num, depth, place, Under, by_powers}
use Rattle.bintree.proofs.Middles.{whole, mean_low, mean_high, low_mean, high_mean}
use Rattle.bintree.proofs.Locate.{apart, Single, CentreIn, single_corner, locate}
use Rattle.bintree.proofs.Areas.{area_of}
use Rattle.bintree.proofs.Areas as areas
use Rattle.bintree.proofs.Inside.{Turning, inside, mean_inside, inside_in, in_inside}
use Rattle.bintree.proofs.Around.{around}
use Rattle.bintree.proofs.Twins.{centres}
use Rattle.bintree.proofs.Numbers.{node, num_node, node_num, node_injective, node_low, node_high, corners_is, corners_low, corners_high, level_is, end_twice, depth_of_triangle, depth_of_splittable, splittable_of_depth, within}
use Rattle.bintree.proofs.Partners.{num_near, partner_is}

-- levels
pub level_laws : (i : ℕ) → 2 ≤ i → LevelLaws i
unfolding depth
level_laws i h =
    let p = by_powers (node i) in
    let e : 2 ^ suc (depth (node i)) ≡ 2 ^ (level i + 1) = ap (λ (k : ℕ). 2 ^ k) (omega (arith, level_is i)) in
    let f : 2 ^ suc (suc (depth (node i))) ≡ 2 ^ (level i + 2) = ap (λ (k : ℕ). 2 ^ k) (omega (arith, level_is i)) in
    record {
      low = omega (arith, num_node i h);
      high = omega (arith, num_node i h);
      halves = (
        level_is (2 * i) ∙ (ap depth (node_low i h) ∙ omega (arith, level_is i)),
        level_is (2 * i + 1) ∙ (ap depth (node_high i h) ∙ omega (arith, level_is i)),
      );
    }

-- corners
pub whole_centre : (n i : ℕ) → 2 ≤ i → i < first_finest n → WholeCentre (corners n i)
whole_centre n i p q = subst WholeCentre (sym (corners_is n i)) (whole n (node i) (depth_of_splittable n i p q))

pub area_is : (n i : ℕ) → 2 ≤ i → i < end n → area (corners n i) ≡ 2 ^ (2 * n - level i)
area_is n i p q =
    ap area (corners_is n i) ∙ (area_of n (node i) (depth_of_triangle n i p q) ∙ ap (λ (k : ℕ). 2 ^ (2 * n - k)) (sym (level_is i)))

pub corner_laws : (n : ℕ) → CornerLaws n
corner_laws n = record {
  halves = λ i h. record { low = corners_low n i h; high = corners_high n i h };
  areas = area_is n;
  centres = whole_centre n;
}

-- one centre
pub same_centre : (n : ℕ) → SameCentre n
same_centre n i j li ui lj uj e =
    go (centres n (node j) (node i) (depth_of_splittable n j lj uj) (depth_of_splittable n i li ui) (ap centre (sym (corners_is n j)) ∙ (sym e ∙ ap centre (corners_is n i))))
  where
    go : (node j ≡ node i) ⊎ ((around (node i)).base ≡ Some (node j)) → (i ≡ j) ⊎ (partner n i ≡ j)
    go (inl z) = inl (node_injective i j li lj (sym z))
    go (inr z) = inr (partner_is n i li (omega (arith, end_twice n)) ∙ (ap num_near z ∙ num_node j lj))

-- samples: a point lies in a triangle exactly if it is a mean of its corners with weights of some positive sum
pub turning : (n i : ℕ) → 2 ≤ i → i < end n → Turning (corners n i)
turning n i p q = subst Turning (sym (corners_is n i)) (areas.turning n (node i) (depth_of_triangle n i p q))

pub positive : (n i : ℕ) → 2 ≤ i → i < end n → 0 < area (corners n i)
positive n i p q = omega (arith, area_is n i p q, pow_pos (2 * n - level i))

pub lies_from_mean : (n i : ℕ) (v : Point) (a l r : ℕ) → 2 ≤ i → i < end n → 0 < a + l + r → Mean v (corners n i) a l r → LiesIn v (corners n i)
lies_from_mean n i v a l r p q h m = let t = turning n i p q in inside_in v (corners n i) t (mean_inside v (corners n i) a l r t h m)

pub inside_decides : (n i : ℕ) (v : Point) (t : Corners) (r : Bool) → 2 ≤ i → i < end n → t ≡ corners n i → r ≡ inside v t → Decides r (LiesIn v (corners n i))
inside_decides n i v t r p q e f =
    let u = turning n i p q in
    let g : r ≡ inside v (corners n i) = f ∙ ap (inside v) e in
    ((λ h. inside_in v (corners n i) u (sym g ∙ h)), (λ h. g ∙ in_inside v (corners n i) u h))

half_in_parent : (n i : ℕ) (v : Point) → 2 ≤ i → i < first_finest n → LiesIn v (corners n (2 * i)) ⊎ LiesIn v (corners n (2 * i + 1)) → LiesIn v (corners n i)
half_in_parent n i v p q (inl h) =
    let b = positive n (2 * i) (omega arith) (omega (arith, end_twice n)) in
    lies_from_mean n i v (2 * h.wl) (h.wa + 2 * h.wr) h.wa p (omega (arith, end_twice n)) (omega (arith, h.sum))
    (low_mean v (corners n i) h.wa h.wl h.wr (whole_centre n i p q) (subst (λ (t : Corners). Mean v t h.wa h.wl h.wr) (corners_low n i p) h.mean))
half_in_parent n i v p q (inr h) =
    let b = positive n (2 * i + 1) (omega arith) (omega (arith, end_twice n)) in
    lies_from_mean n i v (2 * h.wr) h.wa (h.wa + 2 * h.wl) p (omega (arith, end_twice n)) (omega (arith, h.sum))
    (high_mean v (corners n i) h.wa h.wl h.wr (whole_centre n i p q) (subst (λ (t : Corners). Mean v t h.wa h.wl h.wr) (corners_high n i p) h.mean))

parent_in_halves : (n i : ℕ) (v : Point) → 2 ≤ i → i < first_finest n → LiesIn v (corners n i) → LiesIn v (corners n (2 * i)) ⊎ LiesIn v (corners n (2 * i + 1))
parent_in_halves n i v p q h = go (apart h.wl h.wr)
  where
    b : 0 < area (corners n i)
    b = positive n i p (omega (arith, end_twice n))

    go : ((k : ℕ) × (h.wl ≡ h.wr + k)) ⊎ ((k : ℕ) × (h.wr ≡ h.wl + k)) → LiesIn v (corners n (2 * i)) ⊎ LiesIn v (corners n (2 * i + 1))
    go (inl z) = inl (lies_from_mean n (2 * i) v (2 * h.wr) h.wa z.0 (omega arith) (omega (arith, end_twice n)) (omega (arith, h.sum, b, z.1))
        (subst (λ (t : Corners). Mean v t (2 * h.wr) h.wa z.0) (sym (corners_low n i p))
        (mean_low v (corners n i) h.wa h.wr z.0 (whole_centre n i p q) (subst (λ (l : ℕ). Mean v (corners n i) h.wa l h.wr) z.1 h.mean))))
    go (inr z) = inr (lies_from_mean n (2 * i + 1) v (2 * h.wl) z.0 h.wa (omega arith) (omega (arith, end_twice n)) (omega (arith, h.sum, b, z.1))
        (subst (λ (t : Corners). Mean v t (2 * h.wl) z.0 h.wa) (sym (corners_high n i p))
        (mean_high v (corners n i) h.wa h.wl z.0 (whole_centre n i p q) (subst (λ (r : ℕ). Mean v (corners n i) h.wa h.wl r) z.1 h.mean))))

corner_or_centre : (n i : ℕ) (v : Point) → 2 ≤ i → i < end n → LiesIn v (corners n i) → Corner v (corners n i) ⊎ CentreBelow n v i
unfolding CentreIn
corner_or_centre n i v p q h =
    go (locate n (node i) (depth_of_triangle n i p q) v h.wa h.wl h.wr pos (subst (λ (t : Corners). Mean v t h.wa h.wl h.wr) (corners_is n i) h.mean))
  where
    pos : 0 < h.wa + h.wl + h.wr
    pos = omega (arith, h.sum, positive n i p q)

    go : Single h.wa h.wl h.wr ⊎ ((u : Node) × Under (node i) u × (depth u < 2 * n) × (centre (place (2 ^ n) u) ≡ v)) → Corner v (corners n i) ⊎ CentreBelow n v i
    go (inl z) = inl (single_corner (corners n i) v h.wa h.wl h.wr pos h.mean z)
    go (inr c) = inr record {
      triangle = num c.0;
      within = subst (Within (num c.0)) (num_node i p) (within (node i) c.0 c.1);
      splittable = splittable_of_depth n c.0 c.2;
      is_centre = ap centre (corners_is n (num c.0) ∙ ap (place (2 ^ n)) (node_num c.0)) ∙ c.3;
    }

pub sample_laws : (n : ℕ) → SampleLaws n
sample_laws n = record { half_in_parent = half_in_parent n; parent_in_halves = parent_in_halves n; corner_or_centre = corner_or_centre n }
