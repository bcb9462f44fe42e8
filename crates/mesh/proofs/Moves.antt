-- Splitting and merging in a mesh, as changes of its split set: halving adds a triangle to it, rejoining takes one away; splitting is the forced split of the theory, and
-- merging takes the diamond out.
use Rattle.std.proofs.Common.{◌≡◌, ℕ, zero, suc, ◌+◌, ◌*◌, ◌/◌, ◌^◌, ◌<◌, ◌≤◌, Bool, true, false, ◌||◌, eqb, ltb, leb, ◌⊎◌, sym, refl, ap, ◌∙◌, subst, inl, inr, arith}
use mathlib.Core.Path.{fun_ext}
use Rattle.std.proofs.lemmas.Bool.{cases_Bool, cases_lt, cases_eq, both_ways, and_parts, and_from, and_right, or_cases, or_left, or_right, eqb-true, eq-eqb, ne_eqb, leb-true, le-leb, ltb-false, lt-ltb, le-ltb, false_from_ne_true}
use Rattle.bintree.specs.Orders.{end, first_finest}
use Rattle.bintree.specs.Triangles.{partner}
use Rattle.bintree.specs.Meshes.{Triangles}
use Rattle.bintree.proofs.Numbers.{end_twice}
use Rattle.bintree.proofs.Sizes.{from_two}
use Rattle.forest.specs.Forests.{Lawful}
use Rattle.forest.specs.SplitSets.{Set, none, Closed, Present, Ready, Forced, Mergeable, Unsplit, mesh, add, del, merged}
use Rattle.forest.proofs.Basics.{from_low, from_high, from_partner}
use Rattle.forest.proofs.Members.{add_other, del_other}
use Rattle.forest.proofs.Levels.{level_of, level_from, near, far}
use Rattle.forest.proofs.Sums.{mesh_true, mesh_is, mesh_within}
use Rattle.forest.proofs.Forcing.{parent_ready, before_same, before_forced, alone, paired, forced_same, shallow}
use Rattle.forest.proofs.Merging.{no_half}
use Rattle.mesh.specs.Sets.{halve, rejoin, holder_at, holder, split_deep, split, halves_in, mergeable, merge}
use Rattle.mesh.proofs.Square.{square, square_lawful}

-- a choice by a partner, and by a test
abbrev pub by_partner : {A : Type 0} → ℕ → A → A → A
by_partner p a b = elim (eqb p 0) [ true ↦ a | false ↦ b ]

pub no_partner : {A : Type 0} (p : ℕ) (a b : A) → p ≡ 0 → by_partner p a b ≡ a
no_partner p a b e = rw (eq-eqb p 0 e, by_partner) refl

pub some_partner : {A : Type 0} (p : ℕ) (a b : A) → 0 < p → by_partner p a b ≡ b
some_partner p a b h = rw (ne_eqb p 0 (λ e. omega arith), by_partner) refl

abbrev pub by_test : {A : Type 0} → Bool → A → A → A
by_test c a b = elim c [ true ↦ a | false ↦ b ]

module _ (n : ℕ) where
  lawful : Lawful (square n)
  lawful = square_lawful n

  -- halving adds to the split set
  halve_add : (S : Set) (i : ℕ) → 2 ≤ i → Unsplit S i → halve i (mesh (square n) S) ≡ mesh (square n) (add i S)
  halve_add S i l u = fun_ext (λ x. go x (cases_eq x i) (cases_eq (x / 2) i))
    where
      go : (x : ℕ) → (x ≡ i) ⊎ (x ≡ i → ⊥) → (x / 2 ≡ i) ⊎ (x / 2 ≡ i → ⊥) → halve i (mesh (square n) S) x ≡ mesh (square n) (add i S) x
      go x (inl e) h = rw (eq-eqb x i e) (sym (and_right (leb 2 x) _ refl))
      go x (inr ne) (inl h) = rw (ne_eqb x i ne, eq-eqb (x / 2) i h, no_half S i u x h, le-leb 2 x (omega arith), le-ltb x 4 (omega arith)) refl
      go x (inr ne) (inr nh) = rw (ne_eqb x i ne, ne_eqb (x / 2) i nh) refl

  -- rejoining takes away
  rejoin_del : (S : Set) (i : ℕ) → 2 ≤ i → (4 ≤ i → S (i / 2) ≡ true) → rejoin i (mesh (square n) S) ≡ mesh (square n) (del i S)
  rejoin_del S i l up = fun_ext (λ x. go x (cases_eq (x / 2) i) (cases_eq x i))
    where
      above : (b : Bool) → ltb i 4 ≡ b → (b || S (i / 2)) ≡ true
      above true e = refl
      above false e = up (ltb-false i 4 e)

      go : (x : ℕ) → (x / 2 ≡ i) ⊎ (x / 2 ≡ i → ⊥) → (x ≡ i) ⊎ (x ≡ i → ⊥) → rejoin i (mesh (square n) S) x ≡ mesh (square n) (del i S) x
      go x (inl h) e = rw (eq-eqb (x / 2) i h, le-ltb x 4 (omega arith)) (sym (and_right (leb 2 x) _ (and_right _ _ refl)))
      go x (inr nh) (inl e) =
          let nh' : i / 2 ≡ i → ⊥ = λ z. omega arith in
          rw (e, ne_eqb (i / 2) i nh', eq-eqb i i refl, le-leb 2 i l) (sym (above (ltb i 4) refl))
      go x (inr nh) (inr ne) = rw (ne_eqb (x / 2) i nh, ne_eqb x i ne) refl

  -- the halves of an unsplit triangle are unsplit
  unsplit : (S : Set) → Closed (square n) S → (i : ℕ) → 2 ≤ i → S i ≡ false → Unsplit S i
  unsplit S c i l f = (
    false_from_ne_true (S (2 * i)) (λ t. both_ways (S i) f (from_low c i l t)),
    false_from_ne_true (S (2 * i + 1)) (λ t. both_ways (S i) f (from_high c i l t)),
  )

  -- the two of a diamond
  halve_two : (S : Set) → Closed (square n) S → (i : ℕ) → 2 ≤ i → i < first_finest n → 0 < partner n i → S i ≡ false → S (partner n i) ≡ false →
      halve i (halve (partner n i) (mesh (square n) S)) ≡ mesh (square n) (add i (add (partner n i) S))
  halve_two S c i l u p f g =
      let lp = (lawful.inside i l u p).0 in
      let less : partner n i < 2 * i = far lawful i l u p in
      let v = unsplit S c i l f in
      ap (halve i) (halve_add S (partner n i) lp (unsplit S c (partner n i) lp g))
      ∙ halve_add (add (partner n i) S) i l
      (add_other (partner n i) S (2 * i) (λ e. omega arith) ∙ v.0, add_other (partner n i) S (2 * i + 1) (λ e. omega arith) ∙ v.1)

  -- an absent triangle with a present parent is held by it
  pub holder_parent : (P : Triangles) (p : ℕ) → 2 ≤ p → P p ≡ false → P (p / 2) ≡ true → holder P p ≡ p / 2
  holder_parent P zero l f t = absurd (omega arith)
  holder_parent P (suc zero) l f t = absurd (omega arith)
  holder_parent P (suc (suc k)) l f t =
      ap (λ (b : Bool). by_test b (suc (suc k)) (holder_at (suc k) P (suc (suc k) / 2))) f
      ∙ ap (λ (b : Bool). by_test b (suc (suc k) / 2) (holder_at k P (suc (suc k) / 2 / 2))) t

  module _ (S : Set) (c : Closed (square n) S) where
    pub present_in : (i : ℕ) → mesh (square n) S i ≡ true → Present (square n) S i
    present_in i t = mesh_is (square n) S i (mesh_within (square n) S (from_two n) c i t) t

    -- a present triangle that is not finest
    module _ (i : ℕ) (q : Present (square n) S i) (u : i < first_finest n) where
      l : 2 ≤ i
      l = q.range.0

      ready : Ready (square n) S i
      ready = record { range = (q.range.0, u); above = q.above }

      -- its partner is not split
      partner_whole : 0 < partner n i → S (partner n i) ≡ false
      partner_whole p = false_from_ne_true _ (λ t. both_ways (S i) q.whole (from_partner lawful c i q.range.0 u p t))

      -- where its partner is absent, the partner's parent is present, and of a level above
      pub record Forcing : Type 0 where
        pub low : 4 ≤ partner n i
        pub there : Present (square n) S (partner n i / 2)
        pub splittable : partner n i / 2 < first_finest n
        pub less : partner n i / 2 < i

      pub forcing : 0 < partner n i → mesh (square n) S (partner n i) ≡ false → Forcing
      forcing p out =
          let r = lawful.inside i q.range.0 u p in
          let big : 4 ≤ partner n i = large r (cases_lt (partner n i) 4) in
          let whole : S (partner n i / 2) ≡ false = false_from_ne_true _ (λ y. both_ways (mesh (square n) S (partner n i)) out (mesh_true (square n) S (partner n i) (record { range = (r.0, omega (arith, r.1)); whole = partner_whole p; above = λ _. y }))) in
          let pr = parent_ready lawful S c i ready p big in
          record {
            low = big;
            there = record { range = (pr.range.0, omega (arith, r.1)); whole = whole; above = pr.above };
            splittable = pr.range.1;
            less = omega (arith, far lawful i q.range.0 u p);
          }
        where
          large : (2 ≤ partner n i) × (partner n i < first_finest n) → (partner n i < 4) ⊎ (4 ≤ partner n i) → 4 ≤ partner n i
          large r (inr b) = b
          large r (inl s) = absurd (both_ways (mesh (square n) S (partner n i)) out (mesh_true (square n) S (partner n i)
              (record { range = (r.0, omega (arith, r.1)); whole = partner_whole p; above = λ b. absurd (omega arith) })))

      -- what is forced by the partner's parent leaves the two unsplit
      unforced : 0 < partner n i → 4 ≤ partner n i → (F : Set) → Forced (square n) S (partner n i / 2) F → (F i ≡ false) × (F (partner n i) ≡ false)
      unforced p big F f =
          let k = level_of lawful i q.range.0 in
          let from = level_from lawful i q.range.0 u p k.0 k.1 in
          let to : partner n i < 2 * 2 ^ suc k.0 = lawful.level i (suc k.0) q.range.0 u p k.2 in
          let low : partner n i / 2 < 2 * 2 ^ k.0 = omega arith in
          (false_from_ne_true (F i) (λ y. late k.0 low i k.1 q.whole y), false_from_ne_true (F (partner n i)) (λ y. late k.0 low (partner n i) from (partner_whole p) y))
        where
          late : (k : ℕ) → partner n i / 2 < 2 * 2 ^ k → (x : ℕ) → 2 * 2 ^ k ≤ x → S x ≡ false → F x ≡ true → ⊥
          late k h x a s y = last (shallow lawful S F (partner n i / 2) k c f h x y)
            where
              last : (S x ≡ true) ⊎ (x < 2 * 2 ^ k) → ⊥
              last (inl v) = both_ways (S x) s v
              last (inr v) = omega arith

    -- splitting is the forced split; k bounds the depth
    pub split_forced : (k i : ℕ) → i ≤ k → Present (square n) S i → i < first_finest n → (F : Set) × Forced (square n) S i F × (split_deep k n i (mesh (square n) S) ≡ mesh (square n) F)
    split_forced zero i h q u = absurd (omega (arith, q.range))
    split_forced (suc k) i h q u = go (cases_lt 0 (partner n i)) (cases_Bool (mesh (square n) S (partner n i))) (split_forced k (partner n i / 2))
      where
        M : Triangles
        M = mesh (square n) S

        rest : Triangles
        rest = split_deep k n (holder M (partner n i)) M

        whole : Bool → Triangles
        whole b = by_partner (partner n i) (halve i M) (by_test b (halve i (halve (partner n i) M)) (halve i (halve (partner n i) rest)))

        go : (0 < partner n i) ⊎ (partner n i ≤ 0) → (M (partner n i) ≡ true) ⊎ (M (partner n i) ≡ false) →
            (partner n i / 2 ≤ k → Present (square n) S (partner n i / 2) → partner n i / 2 < first_finest n →
            (F : Set) × Forced (square n) S (partner n i / 2) F × (split_deep k n (partner n i / 2) M ≡ mesh (square n) F)) →
            (F : Set) × Forced (square n) S i F × (whole (M (partner n i)) ≡ mesh (square n) F)
        go (inr z) t ih =
            let e : partner n i ≡ 0 = omega arith in (
              add i S,
              alone S S i (ready i q u) e (before_same S c i (λ p. absurd (omega arith))),
              no_partner (partner n i) _ _ e ∙ halve_add S i q.range.0 (unsplit S c i q.range.0 q.whole),
            )
        go (inl p) (inl t) ih =
            let w = present_in (partner n i) t in (
              add i (add (partner n i) S),
              paired lawful S S i (ready i q u) p (before_same S c i (λ _. w.above)),
              ap whole t ∙ (some_partner (partner n i) _ _ p ∙ halve_two S c i q.range.0 u p q.whole (partner_whole i q u p)),
            )
        go (inl p) (inr t) ih =
            let a = forcing i q u p t in
            let z = ih (omega (arith, a.less)) a.there a.splittable in
            let f = z.1 in
            let lp = (lawful.inside i q.range.0 u p).0 in
            let is_rest : rest ≡ mesh (square n) z.0 = ap (λ (y : ℕ). split_deep k n y M) (holder_parent M (partner n i) lp t (mesh_true (square n) S (partner n i / 2) a.there)) ∙ z.2 in
            let out = unforced i q u p a.low z.0 f in (
              add i (add (partner n i) z.0),
              paired lawful S z.0 i (ready i q u) p (before_forced S z.0 i p a.low f),
              ap whole t ∙ (some_partner (partner n i) _ _ p
                  ∙ (ap (λ (R : Triangles). halve i (halve (partner n i) R)) is_rest ∙ halve_two z.0 f.closed i q.range.0 u p out.0 out.1)),
            )

    pub the_split : (i : ℕ) → Present (square n) S i → i < first_finest n → (F : Set) × Forced (square n) S i F × (split n i (mesh (square n) S) ≡ mesh (square n) F)
    unfolding split
    the_split i q u = split_forced i i (omega arith) q u

    pub split_is : (i : ℕ) → Present (square n) S i → i < first_finest n → (F : Set) → Forced (square n) S i F → split n i (mesh (square n) S) ≡ mesh (square n) F
    split_is i q u F f = let z = the_split i q u in z.2 ∙ ap (mesh (square n)) (forced_same S z.0 F i z.1 f)

    -- mergeable by halves is mergeable by split sets
    pub mergeable_is : (i : ℕ) → mergeable n i (mesh (square n) S) ≡ true → Mergeable (square n) none S i
    unfolding mergeable
    mergeable_is i h =
        let a = and_parts _ _ h in
        let l = leb-true 2 i (and_parts _ _ a.0).0 in
        let e : 2 * i / 2 ≡ i = omega arith in
        let low : 4 ≤ 2 * i = omega arith in
        let b = and_parts _ _ a.1 in
        let d = and_parts _ _ b.0 in
        record {
          split = subst (λ (y : ℕ). S y ≡ true) e ((present_in (2 * i) d.0).above low);
          own = ((present_in (2 * i) d.0).whole, (present_in (2 * i + 1) d.1).whole);
          others = λ p. others (partner n i) p (or_cases _ _ b.1);
          free = refl;
          free_other = λ _. refl;
        }
      where
        others : (p : ℕ) → 0 < p → (eqb p 0 ≡ true) ⊎ (halves_in (mesh (square n) S) p ≡ true) → Unsplit S p
        others p pos (inl z) = absurd (omega (arith, eqb-true p 0 z))
        others p pos (inr z) = let d = and_parts _ _ z in ((present_in (2 * p) d.0).whole, (present_in (2 * p + 1) d.1).whole)

    pub is_mergeable : (i : ℕ) → Mergeable (square n) none S i → mergeable n i (mesh (square n) S) ≡ true
    unfolding mergeable
    is_mergeable i g =
        let r = c.range i g.split in
        and_from _ _ (and_from _ _ (le-leb 2 i r.0) (lt-ltb i (end n) (omega (arith, r.1, end_twice n))))
        (and_from _ _ (both i r.0 r.1 g.split g.own) (go (cases_lt 0 (partner n i))))
      where
        shown : (x j : ℕ) → 2 ≤ j → j < first_finest n → x / 2 ≡ j → S x ≡ false → S j ≡ true → mesh (square n) S x ≡ true
        shown x j lo up e f t = mesh_true (square n) S x (record { range = (omega arith, omega arith); whole = f; above = λ _. subst (λ (y : ℕ). S y ≡ true) (sym e) t })

        both : (j : ℕ) → 2 ≤ j → j < first_finest n → S j ≡ true → Unsplit S j → halves_in (mesh (square n) S) j ≡ true
        both j lo up t v = and_from _ _ (shown (2 * j) j lo up (omega arith) v.0 t) (shown (2 * j + 1) j lo up (omega arith) v.1 t)

        go : (0 < partner n i) ⊎ (partner n i ≤ 0) → (eqb (partner n i) 0 || halves_in (mesh (square n) S) (partner n i)) ≡ true
        go (inl p) =
            let t = c.across i g.split p in
            let r = c.range (partner n i) t in
            or_right _ _ (both (partner n i) r.0 r.1 t (g.others p))
        go (inr p) = or_left _ _ (eq-eqb (partner n i) 0 (omega arith))

    -- merging takes the diamond out
    pub merge_is : (i : ℕ) → Mergeable (square n) none S i → merge n i (mesh (square n) S) ≡ mesh (square n) (merged (square n) i S)
    unfolding merge
    merge_is i g = go (cases_lt 0 (partner n i))
      where
        r : (2 ≤ i) × (i < first_finest n)
        r = c.range i g.split

        go : (0 < partner n i) ⊎ (partner n i ≤ 0) →
            by_partner (partner n i) (rejoin i (mesh (square n) S)) (rejoin i (rejoin (partner n i) (mesh (square n) S))) ≡ mesh (square n) (del i (del (partner n i) S))
        go (inr z) =
            let e : partner n i ≡ 0 = omega arith in
            let f : del (partner n i) S ≡ S = fun_ext (λ x. out x (cases_eq x (partner n i))) in
            no_partner (partner n i) _ _ e ∙ (rejoin_del S i r.0 (c.up i g.split) ∙ ap (λ (R : Set). mesh (square n) (del i R)) (sym f))
          where
            out : (x : ℕ) → (x ≡ partner n i) ⊎ (x ≡ partner n i → ⊥) → del (partner n i) S x ≡ S x
            out x (inl e) = rw (eq-eqb x (partner n i) e) (sym (false_from_ne_true (S x) (λ t. omega (arith, c.range x t))))
            out x (inr ne) = del_other (partner n i) S x ne
        go (inl p) =
            let t = c.across i g.split p in
            let low = near lawful i r.0 r.1 p in
            some_partner (partner n i) _ _ p ∙ (ap (rejoin i) (rejoin_del S (partner n i) (c.range (partner n i) t).0 (c.up (partner n i) t))
            ∙ rejoin_del (del (partner n i) S) i r.0 (λ h. del_other (partner n i) S (i / 2) (λ e. omega arith) ∙ c.up i g.split h))
