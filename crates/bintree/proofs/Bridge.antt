-- The bridge by triangle numbers, in the words of the definitions, from the bridge over the trees.
use Rattle.std.proofs.Common.{◌≡◌, ℕ, suc, ◌+◌, ◌*◌, ◌/◌, ◌^◌, ◌<◌, ◌≤◌, Bool, true, false, T, ◌⊎◌, sym, refl, ap, ◌∙◌, subst, inl, inr, arith, Some, None, Option}
use Rattle.std.proofs.lemmas.Bool.{both_ways, cases_eq, false_from_ne_true}
use Rattle.bintree.specs.declared.point.Point.{Point}
use Rattle.bintree.specs.declared.point.Corners.{Corners}
use Rattle.bintree.specs.Orders.{end, first_finest}
use Rattle.bintree.specs.Triangles.{corners, partner}
use Rattle.bintree.specs.Samples.{Mean}
use Rattle.bintree.specs.Meshes.{Triangles, Within, IsMesh, Splits, Corner, OnEdge, CrackFree, SplitsPartners}
use Rattle.bintree.specs.Laws.{Bridge}
use Rattle.bintree.proofs.Tree.{Node, num, depth, place, by_powers}
use Rattle.bintree.proofs.Middles.{mean_apex, mean_left, mean_right}
use Rattle.bintree.proofs.Around.{around}
use Rattle.bintree.proofs.Areas.{turning}
use Rattle.bintree.proofs.Inside.{settled}
use Rattle.bintree.proofs.Cracks.{Mesh, Closed, crack_free_closed, closed_crack_free}
use Rattle.bintree.proofs.Cracks as tree
use Rattle.bintree.proofs.Numbers.{node, num_node, num_from_two, num_injective, node_num, corners_is, end_is, first_finest_is, triangle_of_depth, at_most, within, under}
use Rattle.bintree.proofs.Partners.{num_near, partner_is}

-- a flag as a fact, and back
T_true : {b : Bool} → b ≡ true → T b
T_true e = subst T (sym e) tt

true_t : (b : Bool) → T b → b ≡ true
true_t true h = refl
true_t false h = absurd h

-- a set of numbers as a set of nodes
abbrev By : Triangles → Node → Bool
By P t = P (num t)

-- no corner of a triangle lies within an edge of it: a corner has all its weight at one place
CornerWeights : Point → Corners → Type 0
CornerWeights v t = Mean v t 1 0 0 ⊎ (Mean v t 0 1 0 ⊎ Mean v t 0 0 1)

corner_weights : (v : Point) (t : Corners) → Corner v t → CornerWeights v t
unfolding CornerWeights
corner_weights v t (inl e) = inl (subst (λ (p : Point). Mean p t 1 0 0) (sym e) (mean_apex t))
corner_weights v t (inr (inl e)) = inr (inl (subst (λ (p : Point). Mean p t 0 1 0) (sym e) (mean_left t)))
corner_weights v t (inr (inr e)) = inr (inr (subst (λ (p : Point). Mean p t 0 0 1) (sym e) (mean_right t)))

two_weights : (n : ℕ) (q : Node) (v : Point) (a l r : ℕ) → depth q ≤ 2 * n → 0 < a + l → 0 < l + r → 0 < r + a
    → Mean v (place (2 ^ n) q) a l r → CornerWeights v (place (2 ^ n) q) → ⊥
unfolding CornerWeights
two_weights n q v a l r h p₁ p₂ p₃ m (inl z) = let k = settled (place (2 ^ n) q) (turning n q h) v a l r 1 0 0 m z in omega (arith, k.at_l, k.at_r)
two_weights n q v a l r h p₁ p₂ p₃ m (inr (inl z)) = let k = settled (place (2 ^ n) q) (turning n q h) v a l r 0 1 0 m z in omega (arith, k.at_a, k.at_r)
two_weights n q v a l r h p₁ p₂ p₃ m (inr (inr z)) = let k = settled (place (2 ^ n) q) (turning n q h) v a l r 0 0 1 m z in omega (arith, k.at_a, k.at_l)

own_corner : (n : ℕ) (q : Node) (v : Point) → depth q ≤ 2 * n → Corner v (place (2 ^ n) q) → OnEdge v (place (2 ^ n) q) → ⊥
own_corner n q v h c (inl b) = two_weights n q v 0 b.α b.β h (omega arith) (omega arith) (omega arith) (record { on_x = omega (arith, b.on_x); on_y = omega (arith, b.on_y) }) (corner_weights v _ c)
own_corner n q v h c (inr (inl b)) = two_weights n q v b.α b.β 0 h (omega arith) (omega arith) (omega arith) (record { on_x = omega (arith, b.on_x); on_y = omega (arith, b.on_y) }) (corner_weights v _ c)
own_corner n q v h c (inr (inr b)) = two_weights n q v b.β 0 b.α h (omega arith) (omega arith) (omega arith) (record { on_x = omega (arith, b.on_x); on_y = omega (arith, b.on_y) }) (corner_weights v _ c)

-- the partner's number, where there is one, is that of the node across the base
across : (n i : ℕ) → 2 ≤ i → i < end n → 0 < partner n i → (t : Node) × ((around (node i)).base ≡ Some t) × (num t ≡ partner n i)
across n i l u h = go (around (node i)).base refl (partner_is n i l u)
  where
    go : (z : Option Node) → (around (node i)).base ≡ z → partner n i ≡ num_near z → (t : Node) × ((around (node i)).base ≡ Some t) × (num t ≡ partner n i)
    go None e f = absurd (omega arith)
    go (Some t) e f = (t, e, sym f)

module _ (n : ℕ) (P : Triangles) (M : IsMesh n P) where
  finest_range : (f : Node) → depth f ≡ 2 * n → (first_finest n ≤ num f) × (num f < end n)
  finest_range f h =
      let e : 2 ^ suc (depth f) ≡ first_finest n = ap (λ (k : ℕ). 2 ^ suc k) h ∙ sym (first_finest_is n) in
      let g : 2 ^ suc (suc (depth f)) ≡ end n = ap (λ (k : ℕ). 2 ^ suc (suc k)) h ∙ sym (end_is n) in
      omega (arith, by_powers f)

  owner_of : (f : Node) → depth f ≡ 2 * n → (i : ℕ) × (P i ≡ true) × Within (num f) i
  owner_of f h = M.some_one (num f) (finest_range f h)

  as_mesh : Mesh n (By P)
  as_mesh = record {
    fits = λ q h. at_most q (2 * n) (omega (arith, (M.triangles (num q) (true_t _ h)).1, end_is n));
    owner = λ f h. node (owner_of f h).0;
    owner_in = λ f h. T_true (subst (λ (i : ℕ). P i ≡ true) (sym (is_num f h)) (owner_of f h).1);
    owner_over = λ f h. under (node (owner_of f h).0) f (owner_of f h).2.0 ((owner_of f h).2.1 ∙ sym (is_num f h));
    only = λ f q h p u. num_injective q _ (M.only_one (num f) (num q) (owner_of f h).0 (finest_range f h) (true_t _ p) (owner_of f h).1 (within q f u) (owner_of f h).2 ∙ sym (is_num f h));
  }
    where
      is_num : (f : Node) (h : depth f ≡ 2 * n) → num (node (owner_of f h).0) ≡ (owner_of f h).0
      is_num f h = num_node (owner_of f h).0 (M.triangles (owner_of f h).0 (owner_of f h).1).0

  as_splits : (i : ℕ) → Splits P i → tree.Splits (By P) (node i)
  as_splits i s =
      let e = num_node i s.triangle in
      let b = num_node s.below (M.triangles s.below s.present).0 in
      record {
        out = λ h. both_ways (P i) s.absent (subst (λ (z : ℕ). P z ≡ true) e (true_t _ h));
        below = node s.below;
        under = under (node i) (node s.below) s.within.0 (ap (λ (z : ℕ). z / 2 ^ s.within.0) b ∙ (s.within.1 ∙ sym e));
        inside = T_true (subst (λ (z : ℕ). P z ≡ true) (sym b) s.present);
      }

  of_splits : (t : Node) → tree.Splits (By P) t → Splits P (num t)
  of_splits t s = record {
    triangle = num_from_two t;
    absent = false_from_ne_true (P (num t)) (λ h. s.out (T_true h));
    below = num s.below;
    present = true_t _ s.inside;
    within = within t s.below s.under;
  }

  -- what a mesh splits is a triangle of its order
  split_range : (i : ℕ) → Splits P i → i < end n
  split_range i s =
      let z = tree.split_depth n (By P) as_mesh (node i) (as_splits i s) in
      let u = triangle_of_depth n (node i) (omega arith) in
      omega (arith, num_node i s.triangle)

  as_crack_free : CrackFree n P → tree.CrackFree n (By P)
  as_crack_free c m q hm hq v a b = go (cases_eq (num m) (num q))
    where
      fit : depth q ≤ 2 * n
      fit = as_mesh.fits q hq

      spot : (t : Node) → corners n (num t) ≡ place (2 ^ n) t
      spot t = corners_is n (num t) ∙ ap (place (2 ^ n)) (node_num t)

      go : (num m ≡ num q) ⊎ (num m ≡ num q → ⊥) → ⊥
      go (inl e) = own_corner n q v fit (subst (λ (t : Node). Corner v (place (2 ^ n) t)) (num_injective m q e) a) b
      go (inr ne) = c (num m) (num q) (true_t _ hm) (true_t _ hq) ne v (subst (Corner v) (sym (spot m)) a) (subst (OnEdge v) (sym (spot q)) b)

  of_crack_free : tree.CrackFree n (By P) → CrackFree n P
  of_crack_free c i j p q ne v a b =
      c (node i) (node j) (T_true (subst (λ (z : ℕ). P z ≡ true) (sym (num_node i (M.triangles i p).0)) p)) (T_true (subst (λ (z : ℕ). P z ≡ true) (sym (num_node j (M.triangles j q).0)) q)) v
      (subst (Corner v) (corners_is n i) a) (subst (OnEdge v) (corners_is n j) b)

  of_closed : Closed (By P) → SplitsPartners n P
  of_closed C i s h =
      let z = across n i s.triangle (split_range i s) h in
      subst (Splits P) z.2 (of_splits z.0 (C (node i) z.0 z.1 (as_splits i s)))

  as_closed : SplitsPartners n P → Closed (By P)
  as_closed C j t e s =
      let w = of_splits j s in
      let q : partner n (num j) ≡ num t = partner_is n (num j) (num_from_two j) (split_range (num j) w) ∙ ap num_near (ap (λ (u : Node). (around u).base) (node_num j) ∙ e) in
      subst (tree.Splits (By P)) (node_num t) (as_splits (num t) (subst (Splits P) q (C (num j) w (omega (arith, num_from_two t)))))

pub bridge : (n : ℕ) → Bridge n
bridge n = record {
  closed = λ P M c. of_closed n P M (crack_free_closed n (By P) (as_mesh n P M) (as_crack_free n P M c));
  crack_free = λ P M c. of_crack_free n P M (closed_crack_free n (By P) (as_mesh n P M) (as_closed n P M c));
}
