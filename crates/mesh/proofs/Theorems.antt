-- What splits and merges do to crack-free meshes: read off the split sets.
use Rattle.std.proofs.Common.{◌≡◌, ℕ, ◌+◌, ◌*◌, ◌/◌, ◌<◌, ◌≤◌, true, false, ◌⊎◌, sym, refl, ap, ◌∙◌, subst, inl, inr, arith}
use Rattle.std.specs.Cmp.{both_ways as same_test}
use mathlib.Core.Path.{fun_ext}
use Rattle.std.proofs.lemmas.Bool.{cases_lt, cases_eq, both_ways, lt-ltb, false_from_ne_true}
use Rattle.bintree.specs.Orders.{first_finest}
use Rattle.bintree.specs.Triangles.{partner}
use Rattle.bintree.specs.Meshes.{Triangles, Splits}
use Rattle.forest.specs.Forests.{Lawful}
use Rattle.forest.specs.SplitSets.{Set, Subset, none, Closed, Present, Ready, Forced, Mergeable, mesh, add, merged}
use Rattle.forest.proofs.Members.{add_cases}
use Rattle.forest.proofs.Levels.{near, far}
use Rattle.forest.proofs.Sums.{mesh_true}
use Rattle.forest.proofs.Forcing.{before_same, alone, paired}
use Rattle.forest.proofs.Merging.{merged_parts, merged_has, merged_out, merged_closed}
use Rattle.mesh.specs.Sets.{split, mergeable, merge, count}
use Rattle.mesh.specs.Calls.{state, leaves, split_call, merge_call}
use Rattle.mesh.specs.Laws.{CrackFreeMesh, SplitsAll, LeastSplit, Undone, SplitLaws, MergeLaws}
use Rattle.mesh.proofs.Square.{square, square_lawful}
use Rattle.mesh.proofs.Covers.{split_set, splits_in, in_splits, mesh_of_splits, splits_set, set_splits}
use Rattle.mesh.proofs.Wholes.{whole_closed, whole_mesh, set_whole}
use Rattle.mesh.proofs.Counts.{fewer}
use Rattle.mesh.proofs.Unrolled.{split_rule}
use Rattle.mesh.proofs.Moves.{present_in, the_split, split_is, mergeable_is, is_mergeable, merge_is}

-- a split and a merge that are not refused
pub split_goes : (n i : ℕ) (P : Triangles) → P i ≡ true → i < first_finest n → split_call (state n P) i ≡ leaves (state n (split n i P))
unfolding split_call
split_goes n i P e u = rw (e, lt-ltb i (first_finest n) u) refl

pub merge_goes : (n i : ℕ) (P : Triangles) → mergeable n i P ≡ true → merge_call (state n P) i ≡ leaves (state n (merge n i P))
unfolding merge_call
merge_goes n i P e = rw (e, merge_call) refl

module _ (n : ℕ) (S : Set) (c : Closed (square n) S) where
  lawful : Lawful (square n)
  lawful = square_lawful n

  -- the least crack-free mesh
  least_split : (i : ℕ) (F : Set) → Forced (square n) S i F → LeastSplit n i (mesh (square n) S) (mesh (square n) F)
  least_split i F f = record {
    mesh = set_whole n F f.closed;
    keeps = λ j s. set_splits n F f.closed j (f.keeps j (splits_set n S c j s));
    splits = set_splits n F f.closed i f.has;
    least = λ R w keeps has j s. in_splits n R w.is_mesh j (within R w keeps has j (splits_set n F f.closed j s));
    fewest = λ R w keeps has.
        subst (λ (Q : Triangles). count n (mesh (square n) F) ≤ count n Q) (sym (mesh_of_splits n R w.is_mesh)) (fewer n F (split_set n R) f.closed (whole_closed n R w) (within R w keeps has));
  }
    where
      within : (R : Triangles) → CrackFreeMesh n R → SplitsAll R (mesh (square n) S) → Splits R i → Subset F (split_set n R)
      within R w keeps has = f.least (split_set n R) (whole_closed n R w) (λ j s. splits_in n R w.is_mesh j (keeps j (set_splits n S c j s))) (splits_in n R w.is_mesh i has)

-- F is S with the diamond of j and k, k its partner or j itself where it has none
record Grown (n : ℕ) (S F : Set) (j k : ℕ) : Type 0 where
  has : F j ≡ true
  keeps : Subset S F
  only : (x : ℕ) → F x ≡ true → (x ≡ j) ⊎ ((x ≡ k) ⊎ (S x ≡ true))
  out : S j ≡ false
  out_other : S k ≡ false
  mate : 0 < partner n j → partner n j ≡ k
  single : partner n j ≡ 0 → k ≡ j

-- such a diamond can be merged, and that gives S back
module _ (n : ℕ) (S F : Set) (c : Closed (square n) S) (d : Closed (square n) F) (j k : ℕ) (g : Grown n S F j k) where
  close : (2 ≤ j) × (2 ≤ k) × (k < 2 * j) × (j < 2 * k)
  close =
      let r = d.range j g.has in
      go r (cases_lt 0 (partner n j))
    where
      go : (2 ≤ j) × (j < first_finest n) → (0 < partner n j) ⊎ (partner n j ≤ 0) → (2 ≤ j) × (2 ≤ k) × (k < 2 * j) × (j < 2 * k)
      go r (inl p) =
          let m = square_lawful n in
          omega (arith, g.mate p, r, m.inside j r.0 r.1 p, far m j r.0 r.1 p, near m j r.0 r.1 p)
      go r (inr p) = omega (arith, g.single (omega arith), r)

  -- no half of either is in F
  no_half_in : (t x : ℕ) → (t ≡ j) ⊎ (t ≡ k) → (x ≡ 2 * t) ⊎ (x ≡ 2 * t + 1) → F x ≡ false
  no_half_in t x e h = false_from_ne_true (F x) (λ y. go e (g.only x y))
    where
      half : (s : Set) → x / 2 ≡ t → s t ≡ false → s (x / 2) ≡ true → ⊥
      half s q f y = both_ways (s t) f (subst (λ (z : ℕ). s z ≡ true) q y)

      go : (t ≡ j) ⊎ (t ≡ k) → (x ≡ j) ⊎ ((x ≡ k) ⊎ (S x ≡ true)) → ⊥
      go e (inl q) = omega (arith, close, e, h)
      go e (inr (inl q)) = omega (arith, close, e, h)
      go (inl e) (inr (inr s)) = half S (omega arith) (rw e g.out) (c.up x s (omega (arith, close)))
      go (inr e) (inr (inr s)) = half S (omega arith) (rw e g.out_other) (c.up x s (omega (arith, close)))

  grown_mergeable : Mergeable (square n) none F j
  grown_mergeable = record {
    split = g.has;
    own = (no_half_in j (2 * j) (inl refl) (inl refl), no_half_in j (2 * j + 1) (inl refl) (inr refl));
    others = λ p. (no_half_in (partner n j) (2 * partner n j) (inr (g.mate p)) (inl refl), no_half_in (partner n j) (2 * partner n j + 1) (inr (g.mate p)) (inr refl));
    free = refl;
    free_other = λ _. refl;
  }

  grown_merged : merged (square n) j F ≡ S
  grown_merged = fun_ext (λ x. same_test (merged (square n) j F x) (S x) (to x) (from x))
    where
      to : (x : ℕ) → merged (square n) j F x ≡ true → S x ≡ true
      to x t = go (g.only x q.2)
        where
          q : (x ≡ partner n j → ⊥) × (x ≡ j → ⊥) × (F x ≡ true)
          q = merged_parts (square n) F j x t

          other : x ≡ k → (0 < partner n j) ⊎ (partner n j ≤ 0) → ⊥
          other e (inl p) = q.0 (e ∙ sym (g.mate p))
          other e (inr p) = q.1 (e ∙ g.single (omega arith))

          go : (x ≡ j) ⊎ ((x ≡ k) ⊎ (S x ≡ true)) → S x ≡ true
          go (inl e) = absurd (q.1 e)
          go (inr (inl e)) = absurd (other e (cases_lt 0 (partner n j)))
          go (inr (inr s)) = s

      from : (x : ℕ) → S x ≡ true → merged (square n) j F x ≡ true
      from x s = merged_has (square n) F j x
          (λ e. both_ways (S k) g.out_other (subst (λ (y : ℕ). S y ≡ true) (e ∙ g.mate (omega (arith, c.range x s))) s))
          (λ e. both_ways (S j) g.out (subst (λ (y : ℕ). S y ≡ true) e s)) (g.keeps x s)

  grown_undone : merge_call (state n (mesh (square n) F)) j ≡ leaves (state n (mesh (square n) S))
  grown_undone =
      merge_goes n j (mesh (square n) F) (is_mergeable n F d j grown_mergeable)
      ∙ ap (λ (Q : Triangles). leaves (state n Q)) (merge_is n F d j grown_mergeable ∙ ap (mesh (square n)) grown_merged)

module _ (n : ℕ) (S : Set) (c : Closed (square n) S) (i : ℕ) (q : Present (square n) S i) (u : i < first_finest n) where
  law : Lawful (square n)
  law = square_lawful n

  ready_now : Ready (square n) S i
  ready_now = record { range = (q.range.0, u); above = q.above }

  -- split with the partner present, or none
  undone : (partner n i ≡ 0) ⊎ (mesh (square n) S (partner n i) ≡ true) → Undone n i (mesh (square n) S) (split n i (mesh (square n) S))
  undone h = go (cases_lt 0 (partner n i))
    where
      alone_undone : partner n i ≡ 0 → Undone n i (mesh (square n) S) (split n i (mesh (square n) S))
      alone_undone z =
          let f = alone S S i ready_now z (before_same S c i (λ p. absurd (omega arith))) in
          let e = split_is n S c i q u (add i S) f in
          record {
            by_triangle = ap (λ (Q : Triangles). merge_call (state n Q) i) e ∙ grown_undone n S (add i S) c f.closed i i (record {
              has = f.has;
              keeps = f.keeps;
              only = λ x t. only x (add_cases i S x t);
              out = q.whole;
              out_other = q.whole;
              mate = λ p. absurd (omega arith);
              single = λ _. refl;
            });
            by_partner = λ p. absurd (omega arith);
          }
        where
          only : (x : ℕ) → (x ≡ i) ⊎ (S x ≡ true) → (x ≡ i) ⊎ ((x ≡ i) ⊎ (S x ≡ true))
          only x (inl a) = inl a
          only x (inr a) = inr (inr a)

      paired_undone : 0 < partner n i → mesh (square n) S (partner n i) ≡ true → Undone n i (mesh (square n) S) (split n i (mesh (square n) S))
      paired_undone p t =
          let w = present_in n S c (partner n i) t in
          let b = law.back i q.range.0 u p in
          let F : Set = add i (add (partner n i) S) in
          let f = paired law S S i ready_now p (before_same S c i (λ _. w.above)) in
          let e = split_is n S c i q u F f in
          record {
            by_triangle = ap (λ (Q : Triangles). merge_call (state n Q) i) e ∙ grown_undone n S F c f.closed i (partner n i) (record {
              has = f.has;
              keeps = f.keeps;
              only = λ x y. only x (add_cases i (add (partner n i) S) x y);
              out = q.whole;
              out_other = w.whole;
              mate = λ _. refl;
              single = λ z. absurd (omega arith);
            });
            by_partner = λ _. ap (λ (Q : Triangles). merge_call (state n Q) (partner n i)) e ∙ grown_undone n S F c f.closed (partner n i) i (record {
              has = f.closed.across i f.has p;
              keeps = f.keeps;
              only = λ x y. swapped x (only x (add_cases i (add (partner n i) S) x y));
              out = w.whole;
              out_other = q.whole;
              mate = λ _. b;
              single = λ z. absurd (omega (arith, q.range));
            });
          }
        where
          only : (x : ℕ) → (x ≡ i) ⊎ (add (partner n i) S x ≡ true) → (x ≡ i) ⊎ ((x ≡ partner n i) ⊎ (S x ≡ true))
          only x (inl a) = inl a
          only x (inr a) = inr (add_cases (partner n i) S x a)

          swapped : (x : ℕ) → (x ≡ i) ⊎ ((x ≡ partner n i) ⊎ (S x ≡ true)) → (x ≡ partner n i) ⊎ ((x ≡ i) ⊎ (S x ≡ true))
          swapped x (inl a) = inr (inl a)
          swapped x (inr (inl a)) = inl a
          swapped x (inr (inr a)) = inr (inr a)

      go : (0 < partner n i) ⊎ (partner n i ≤ 0) → Undone n i (mesh (square n) S) (split n i (mesh (square n) S))
      go (inr z) = alone_undone (omega arith)
      go (inl p) = paired_undone p (there h)
        where
          there : (partner n i ≡ 0) ⊎ (mesh (square n) S (partner n i) ≡ true) → mesh (square n) S (partner n i) ≡ true
          there (inl z) = absurd (omega arith)
          there (inr t) = t

  split_laws : SplitLaws n i (mesh (square n) S) (split n i (mesh (square n) S))
  split_laws =
      let z = the_split n S c i q u in
      record {
        rule = split_rule n S c i q u;
        least = subst (LeastSplit n i (mesh (square n) S)) (sym z.2) (least_split n S c i z.0 z.1);
        undone = undone;
      }

-- merging
module _ (n : ℕ) (S : Set) (c : Closed (square n) S) (i : ℕ) (g : Mergeable (square n) none S i) where
  small : Closed (square n) (merged (square n) i S)
  small = merged_closed (square_lawful n) none S c i g

  -- the merged triangle is present, and S is its forced split
  back_there : Present (square n) (merged (square n) i S) i
  back_there =
      let r = c.range i g.split in
      record {
        range = (r.0, omega (arith, r.1));
        whole = merged_out (square n) S i;
        above = λ l. merged_has (square n) S i (i / 2) (λ e. not_partner r e) (λ e. omega arith) (c.up i g.split l);
      }
    where
      not_partner : (2 ≤ i) × (i < first_finest n) → i / 2 ≡ partner n i → ⊥
      not_partner r e = omega (arith, near (square_lawful n) i r.0 r.1 (omega arith))

  again : Forced (square n) (merged (square n) i S) i S
  again = record {
    closed = c;
    keeps = λ x t. (merged_parts (square n) S i x t).2;
    has = g.split;
    least = λ G cG w has x s. go G cG w has x s (cases_eq x i) (cases_eq x (partner n i));
  }
    where
      go : (G : Set) → Closed (square n) G → Subset (merged (square n) i S) G → G i ≡ true → (x : ℕ) → S x ≡ true → (x ≡ i) ⊎ (x ≡ i → ⊥) → (x ≡ partner n i) ⊎ (x ≡ partner n i → ⊥) → G x ≡ true
      go G cG w has x s (inl e) b = rw e has
      go G cG w has x s (inr ne) (inl e) = rw e (cG.across i has (omega (arith, c.range x s)))
      go G cG w has x s (inr ne) (inr np) = w x (merged_has (square n) S i x np ne s)

  merge_laws : MergeLaws n i (mesh (square n) S) (merge n i (mesh (square n) S))
  merge_laws =
      let e : mesh (square n) (merged (square n) i S) ≡ merge n i (mesh (square n) S) = sym (merge_is n S c i g) in
      let M : Set = merged (square n) i S in
      record {
        mesh = subst (CrackFreeMesh n) e (set_whole n M small);
        still = λ j ni np s. subst (λ (Q : Triangles). Splits Q j) e (set_splits n M small j (merged_has (square n) S i j np ni (splits_set n S c j s)));
        only = λ j s.
            let t = merged_parts (square n) S i j (splits_set n M small j (subst (λ (Q : Triangles). Splits Q j) (sym e) s)) in
            (t.1, t.0, set_splits n S c j t.2);
        again =
            let u = (c.range i g.split).1 in
            ap (λ (Q : Triangles). split_call (state n Q) i) (sym e) ∙ (split_goes n i (mesh (square n) M) (mesh_true (square n) M i back_there) u
            ∙ ap (λ (Q : Triangles). leaves (state n Q)) (split_is n M small i back_there u S again));
      }

-- of every crack-free mesh
pub splits_least : (n i : ℕ) (P : Triangles) → CrackFreeMesh n P → P i ≡ true → i < first_finest n → SplitLaws n i P (split n i P)
splits_least n i P w t u =
    let m = whole_mesh n P w in
    let there : mesh (square n) m.set i ≡ true = sym (ap (λ (Q : Triangles). Q i) m.is) ∙ t in
    subst (λ (Q : Triangles). SplitLaws n i Q (split n i Q)) (sym m.is) (split_laws n m.set m.closed i (present_in n m.set m.closed i there) u)

pub merges_undo : (n i : ℕ) (P : Triangles) → CrackFreeMesh n P → mergeable n i P ≡ true → MergeLaws n i P (merge n i P)
merges_undo n i P w t =
    let m = whole_mesh n P w in
    let can : mergeable n i (mesh (square n) m.set) ≡ true = sym (ap (mergeable n i) m.is) ∙ t in
    subst (λ (Q : Triangles). MergeLaws n i Q (merge n i Q)) (sym m.is) (merge_laws n m.set m.closed i (mergeable_is n m.set m.closed i can))

-- only a splittable triangle is one of a mergeable diamond
pub merges_splittable : (n i : ℕ) (P : Triangles) → CrackFreeMesh n P → mergeable n i P ≡ true → i < first_finest n
merges_splittable n i P w t =
    let m = whole_mesh n P w in
    let can : mergeable n i (mesh (square n) m.set) ≡ true = sym (ap (mergeable n i) m.is) ∙ t in
    (m.closed.range i (mergeable_is n m.set m.closed i can).split).1
