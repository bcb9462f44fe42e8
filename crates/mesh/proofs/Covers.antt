-- A mesh, in which each finest triangle lies in exactly one triangle, is the mesh of its split set: of the splittable triangles that lie in none of its triangles. And
-- the mesh of a set that has with each triangle its parent is such a mesh.
use Rattle.std.proofs.Common.{◌≡◌, ℕ, zero, suc, ◌+◌, ◌-◌, ◌*◌, ◌/◌, ◌^◌, ◌<◌, ◌≤◌, Bool, true, false, not, ◌&&◌, ◌||◌, ltb, leb, ◌⊎◌, sym, ap, ◌∙◌, subst, inl, inr, div-one, arith}
use Rattle.std.specs.Cmp.{both_ways as same_test}
use mathlib.Core.Path.{fun_ext}
use Rattle.std.proofs.lemmas.Bool.{cases_Bool, cases_lt, cases_order, both_ways, and_parts, and_from, or_cases, or_left, or_right, leb-true, le-leb, ltb-true, lt-ltb, not-true, not_from_false, false_from_ne_true}
use Rattle.bintree.specs.Orders.{first_finest}
use Rattle.bintree.specs.Meshes.{Triangles, Within, IsMesh, Splits}
use Rattle.bintree.proofs.Numbers.{end_twice}
use Rattle.bintree.proofs.Sizes.{from_two}
use Rattle.forest.specs.SplitSets.{Set, Closed, Present, mesh}
use Rattle.forest.proofs.Sums.{mesh_true, mesh_is, mesh_within}
use Rattle.mesh.proofs.Square.{square}
use Rattle.mesh.proofs.Ancestors.{above, above_is, above_add, above_le, finest_below}

-- i lies in a triangle of P; k bounds the way up
abbrev held_at : ℕ → Triangles → ℕ → Bool
held_at zero P i = P i
held_at (suc k) P i = P i || held_at k P (i / 2)

-- the split set of a mesh
unfoldable pub split_set : ℕ → Triangles → Set
split_set n P i = (leb 2 i && ltb i (first_finest n)) && not (held_at (first_finest n) P i)

held_true : (k : ℕ) (P : Triangles) (i : ℕ) → held_at k P i ≡ true → (j : ℕ) × (P (above j i) ≡ true)
held_true zero P i t = (0, t)
held_true (suc k) P i t = go (or_cases (P i) _ t) (held_true k P (i / 2))
  where
    go : (P i ≡ true) ⊎ (held_at k P (i / 2) ≡ true) → (held_at k P (i / 2) ≡ true → (j : ℕ) × (P (above j (i / 2)) ≡ true)) → (j : ℕ) × (P (above j i) ≡ true)
    go (inl p) ih = (0, p)
    go (inr q) ih = let r = ih q in (suc r.0, r.1)

module _ (n : ℕ) (P : Triangles) (m : IsMesh n P) where
  range : (a : ℕ) → P a ≡ true → (2 ≤ a) × (a < 2 * first_finest n)
  range a p = omega (arith, m.triangles a p, end_twice n)

  -- the way up is long enough
  held_from : (k i j : ℕ) → i ≤ k → P (above j i) ≡ true → held_at k P i ≡ true
  held_from zero i zero h p = p
  held_from zero i (suc j) h p = absurd (omega (arith, range (above j (i / 2)) p, above_le j (i / 2)))
  held_from (suc k) i zero h p = or_left (P i) _ p
  held_from (suc k) i (suc j) h p = or_right (P i) _ (held_from k (i / 2) j (omega arith) p)

  -- some triangle of P is above a finest one, and only one
  some_above : (t : ℕ) → first_finest n ≤ t → t < 2 * first_finest n → (k : ℕ) × (P (above k t) ≡ true)
  some_above t l u =
      let z = m.some_one t (l, omega (arith, end_twice n)) in
      (z.2.0, subst (λ (y : ℕ). P y ≡ true) (sym (above_is z.2.0 t ∙ z.2.1)) z.1)

  one_above : (t : ℕ) → first_finest n ≤ t → t < 2 * first_finest n → (j k : ℕ) → P (above j t) ≡ true → P (above k t) ≡ true → above j t ≡ above k t
  one_above t l u j k p q = m.only_one t (above j t) (above k t) (l, omega (arith, end_twice n)) p q (j, sym (above_is j t)) (k, sym (above_is k t))

  -- no triangle of P lies in another
  no_two : (d a : ℕ) → P a ≡ true → P (above (suc d) a) ≡ true → ⊥
  no_two d a p q =
      let r = finest_below (first_finest n) (first_finest n) a (omega arith) (range a p).0 (range a p).1 in
      let p' : P (above r.1 r.0) ≡ true = rw r.4 p in
      let e : above (r.1 + suc d) r.0 ≡ above (suc d) a = above_add r.1 (suc d) r.0 ∙ ap (above (suc d)) r.4 in
      let q' : P (above (r.1 + suc d) r.0) ≡ true = rw e q in
      omega (arith, one_above r.0 r.2 r.3 r.1 (r.1 + suc d) p' q', e, r.4, above_le d (a / 2), range a p)

  split_parts : (i : ℕ) → split_set n P i ≡ true → (2 ≤ i) × (i < first_finest n) × ((k : ℕ) → P (above k i) ≡ true → ⊥)
  unfolding split_set
  split_parts i t =
      let a = and_parts (leb 2 i && ltb i (first_finest n)) _ t in
      let b = and_parts (leb 2 i) _ a.0 in
      let u = ltb-true i (first_finest n) b.1 in
      (leb-true 2 i b.0, u, λ k p. both_ways (held_at (first_finest n) P i) (not-true _ a.1) (held_from (first_finest n) i k (omega arith) p))

  split_from : (i : ℕ) → 2 ≤ i → i < first_finest n → ((k : ℕ) → P (above k i) ≡ true → ⊥) → split_set n P i ≡ true
  unfolding split_set
  split_from i lo up h = and_from _ _ (and_from _ _ (le-leb 2 i lo) (lt-ltb i (first_finest n) up)) (not_from_false _ (false_from_ne_true (held_at (first_finest n) P i) (λ t. let r = held_true (first_finest n) P i t in h r.0 r.1)))

  pub split_up : (i : ℕ) → split_set n P i ≡ true → 4 ≤ i → split_set n P (i / 2) ≡ true
  split_up i s l = let a = split_parts i s in split_from (i / 2) (omega arith) (omega (arith, a.1)) (λ k p. a.2 (suc k) p)

  pub split_range : (i : ℕ) → split_set n P i ≡ true → (2 ≤ i) × (i < first_finest n)
  split_range i s = let a = split_parts i s in (a.0, a.1)

  -- the split set is that of the triangles that P splits
  pub splits_in : (i : ℕ) → Splits P i → split_set n P i ≡ true
  splits_in i s = go s.within.0 s.within.1
    where
      go : (k : ℕ) → s.below / 2 ^ k ≡ i → split_set n P i ≡ true
      go zero e = absurd (both_ways (P i) s.absent (subst (λ (y : ℕ). P y ≡ true) (sym (div-one s.below) ∙ e) s.present))
      go (suc k) e =
          let x : above (suc k) s.below ≡ i = above_is (suc k) s.below ∙ e in
          split_from i s.triangle (omega (arith, range s.below s.present, above_le k (s.below / 2)))
          (λ j q. no_two (k + j) s.below s.present
          (subst (λ (y : ℕ). P y ≡ true) (sym (ap (λ (z : ℕ). above z s.below) (sum k j) ∙ (above_add (suc k) j s.below ∙ ap (above j) x))) q))
        where
          sum : (k j : ℕ) → suc (k + j) ≡ suc k + j
          sum k j = omega arith

  pub in_splits : (i : ℕ) → split_set n P i ≡ true → Splits P i
  in_splits i h =
      let a = split_parts i h in
      let f = finest_below (first_finest n) (first_finest n) i (omega arith) a.0 (omega (arith, a.1)) in
      let o = some_above f.0 f.2 f.3 in
      record {
        triangle = a.0;
        absent = false_from_ne_true (P i) (λ p. a.2 0 p);
        below = above o.0 f.0;
        present = o.1;
        within = go f.0 f.1 o.0 f.4 o.1 a.2 (cases_lt o.0 f.1);
      }
    where
      go : (t k j : ℕ) → above k t ≡ i → P (above j t) ≡ true → ((d : ℕ) → P (above d i) ≡ true → ⊥) → (j < k) ⊎ (k ≤ j) → Within (above j t) i
      go t k j e p out (inl h) =
          let s : j + (k - j) ≡ k = omega arith in
          (k - j, sym (above_is (k - j) (above j t)) ∙ (sym (above_add j (k - j) t) ∙ (ap (λ (z : ℕ). above z t) s ∙ e)))
      go t k j e p out (inr h) =
          let s : k + (j - k) ≡ j = omega arith in
          absurd (out (j - k) (subst (λ (y : ℕ). P y ≡ true) (sym (ap (above (j - k)) (sym e) ∙ (sym (above_add k (j - k) t) ∙ ap (λ (z : ℕ). above z t) s))) p))

  -- P is the mesh of its split set
  member_present : (a : ℕ) → P a ≡ true → Present (square n) (split_set n P) a
  member_present a p = record {
    range = range a p;
    whole = false_from_ne_true _ (λ s. (split_parts a s).2 0 p);
    above = λ l. split_from (a / 2) (omega arith) (omega (arith, range a p)) (λ k q. no_two k a p q);
  }

  present_member : (a : ℕ) → Present (square n) (split_set n P) a → P a ≡ true
  unfolding split_set
  present_member a q = up (covered (cases_lt a (first_finest n)))
    where
      covered : (a < first_finest n) ⊎ (first_finest n ≤ a) → (k : ℕ) × (P (above k a) ≡ true)
      covered (inr h) = some_above a h q.range.1
      covered (inl h) = go (cases_Bool (held_at (first_finest n) P a))
        where
          go : (held_at (first_finest n) P a ≡ true) ⊎ (held_at (first_finest n) P a ≡ false) → (k : ℕ) × (P (above k a) ≡ true)
          go (inl t) = held_true (first_finest n) P a t
          go (inr f) = absurd (both_ways _ q.whole (and_from _ _ (and_from _ _ (le-leb 2 a q.range.0) (lt-ltb a (first_finest n) h)) (not_from_false _ f)))

      up : (k : ℕ) × (P (above k a) ≡ true) → P a ≡ true
      up (zero, p) = p
      up (suc k, p) = absurd ((split_parts (a / 2) (q.above (omega (arith, range _ p, above_le k (a / 2))))).2 k p)

  pub mesh_of_splits : P ≡ mesh (square n) (split_set n P)
  mesh_of_splits = fun_ext (λ i. same_test (P i) (mesh (square n) (split_set n P) i)
      (λ p. mesh_true (square n) (split_set n P) i (member_present i p))
      (λ q. present_member i (mesh_is (square n) (split_set n P) i (inside i q (cases_lt i (2 * first_finest n))) q)))
    where
      inside : (i : ℕ) → mesh (square n) (split_set n P) i ≡ true → (i < 2 * first_finest n) ⊎ (2 * first_finest n ≤ i) → i < 2 * first_finest n
      inside i q (inl h) = h
      inside i q (inr h) = absurd (go (or_cases (ltb i 4) _ (and_parts (not (split_set n P i)) _ (and_parts (leb 2 i) _ q).1).1))
        where
          go : (ltb i 4 ≡ true) ⊎ (split_set n P (i / 2) ≡ true) → ⊥
          go (inl s) = omega (arith, ltb-true i 4 s, from_two n)
          go (inr s) = omega (arith, (split_parts (i / 2) s).1)

-- the mesh of a closed set
module _ (n : ℕ) (S : Set) (c : Closed (square n) S) where
  present_is : (i : ℕ) → mesh (square n) S i ≡ true → Present (square n) S i
  present_is i t = mesh_is (square n) S i (mesh_within (square n) S (from_two n) c i t) t

  -- S has with a triangle all triangles above it
  ancestors : (k y : ℕ) → S y ≡ true → 2 ≤ above k y → S (above k y) ≡ true
  ancestors zero y s h = s
  ancestors (suc k) y s h = ancestors k (y / 2) (c.up y s (omega (arith, above_le k (y / 2)))) h

  -- from an unsplit triangle up to one of the mesh
  climb : (f x : ℕ) → x < f → 2 ≤ x → x < 2 * first_finest n → S x ≡ false → (k : ℕ) × Present (square n) S (above k x)
  climb zero x h lo up out = absurd (omega arith)
  climb (suc f) x h lo up out = go (cases_lt x 4) (cases_Bool (S (x / 2))) (climb f (x / 2))
    where
      go : (x < 4) ⊎ (4 ≤ x) → (S (x / 2) ≡ true) ⊎ (S (x / 2) ≡ false) → (x / 2 < f → 2 ≤ x / 2 → x / 2 < 2 * first_finest n → S (x / 2) ≡ false → (k : ℕ) × Present (square n) S (above k (x / 2))) →
          (k : ℕ) × Present (square n) S (above k x)
      go (inl s) b ih = (0, record { range = (lo, up); whole = out; above = λ l. absurd (omega arith) })
      go (inr l) (inl t) ih = (0, record { range = (lo, up); whole = out; above = λ _. t })
      go (inr l) (inr f) ih = let r = ih (omega arith) (omega arith) (omega arith) f in (suc r.0, r.1)

  -- no triangle of the mesh lies in another
  apart : (d a : ℕ) → Present (square n) S a → Present (square n) S (above (suc d) a) → ⊥
  apart d a p q =
      let up : S (a / 2) ≡ true = p.above (omega (arith, above_le d (a / 2), q.range)) in
      both_ways (S (above d (a / 2))) q.whole (ancestors d (a / 2) up q.range.0)

  deeper : (t j k : ℕ) → j < k → Present (square n) S (above j t) → Present (square n) S (above k t) → ⊥
  deeper t j k lt p q =
      let e : k ≡ j + suc (k - suc j) = omega arith in
      apart (k - suc j) (above j t) p (subst (λ (y : ℕ). Present (square n) S y) (ap (λ (d : ℕ). above d t) e ∙ above_add j (suc (k - suc j)) t) q)

  one : (t j k : ℕ) → Present (square n) S (above j t) → Present (square n) S (above k t) → (j ≡ k) ⊎ ((j < k) ⊎ (k < j)) → above j t ≡ above k t
  one t j k p q (inl e) = ap (λ (d : ℕ). above d t) e
  one t j k p q (inr (inl h)) = absurd (deeper t j k h p q)
  one t j k p q (inr (inr h)) = absurd (deeper t k j h q p)

  pub mesh_covers : IsMesh n (mesh (square n) S)
  mesh_covers = record {
    triangles = λ i t. let r = (present_is i t).range in omega (arith, r, end_twice n);
    some_one = λ f h.
        let r = climb (suc f) f (omega arith) (omega (arith, h.0, from_two n)) (omega (arith, h.1, end_twice n)) (false_from_ne_true (S f) (λ s. omega (arith, h.0, c.range f s))) in
        (above r.0 f, mesh_true (square n) S (above r.0 f) r.1, (r.0, sym (above_is r.0 f)));
    only_one = λ f i j h p q a b.
        let x : above a.0 f ≡ i = above_is a.0 f ∙ a.1 in
        let y : above b.0 f ≡ j = above_is b.0 f ∙ b.1 in
        sym x ∙ (one f a.0 b.0 (present_is _ (rw x p)) (present_is _ (rw y q)) (cases_order a.0 b.0) ∙ y);
  }

  -- the mesh splits S
  pub splits_set : (i : ℕ) → Splits (mesh (square n) S) i → S i ≡ true
  splits_set i s = go s.within.0 s.within.1
    where
      go : (k : ℕ) → s.below / 2 ^ k ≡ i → S i ≡ true
      go zero e = absurd (both_ways (mesh (square n) S i) s.absent (subst (λ (y : ℕ). mesh (square n) S y ≡ true) (sym (div-one s.below) ∙ e) s.present))
      go (suc k) e =
          let x : above k (s.below / 2) ≡ i = above_is (suc k) s.below ∙ e in
          let u : S (s.below / 2) ≡ true = (present_is s.below s.present).above (omega (arith, above_le k (s.below / 2), s.triangle)) in
          subst (λ (y : ℕ). S y ≡ true) x (ancestors k (s.below / 2) u (omega (arith, s.triangle)))

  pub set_splits : (i : ℕ) → S i ≡ true → Splits (mesh (square n) S) i
  set_splits i h = in_splits n (mesh (square n) S) mesh_covers i (split_from n (mesh (square n) S) mesh_covers i (c.range i h).0 (c.range i h).1
      (λ k p. let q = present_is (above k i) p in both_ways (S (above k i)) q.whole (ancestors k i h q.range.0)))
