-- Merges: what is left of a closed set without a mergeable diamond is closed, since no half of the diamond is split and partners go together.
use Rattle.std.proofs.Common.{◌≡◌, ℕ, zero, suc, ◌+◌, ◌*◌, ◌/◌, ◌<◌, ◌≤◌, true, false, ◌⊎◌, sym, refl, ap, ◌∙◌, subst, inl, inr, arith}
use Rattle.std.proofs.lemmas.Bool.{both_ways, cases_eq, eq-eqb, false_from_ne_true}
use Rattle.forest.specs.Forests.{Forest, Lawful}
use Rattle.forest.specs.SplitSets.{Set, Subset, Closed, Mergeable, Unsplit, none, del, one_or_two, diamond_size, merged, count}
use Rattle.forest.proofs.Basics.{halves}
use Rattle.forest.proofs.Members.{del_same, del_other, del_parts}
use Rattle.forest.proofs.Sums.{size_one, count_size}

-- what has no split half is no parent of a split triangle
pub no_half : (S : Set) (i : ℕ) → Unsplit S i → (x : ℕ) → x / 2 ≡ i → S x ≡ false
no_half S i u x e = go (halves x)
  where
    go : (x ≡ 2 * (x / 2)) ⊎ (x ≡ 2 * (x / 2) + 1) → S x ≡ false
    go (inl h) = let z : x ≡ 2 * i = omega arith in rw z u.0
    go (inr h) = let z : x ≡ 2 * i + 1 = omega arith in rw z u.1

module _ (φ : Forest) (S : Set) (i : ℕ) where
  pub merged_parts : (x : ℕ) → merged φ i S x ≡ true → (x ≡ φ.partner i → ⊥) × (x ≡ i → ⊥) × (S x ≡ true)
  merged_parts x t =
      let a = del_parts i (del (φ.partner i) S) x t in
      let b = del_parts (φ.partner i) S x a.1 in
      (b.0, a.0, b.1)

  pub merged_has : (x : ℕ) → (x ≡ φ.partner i → ⊥) → (x ≡ i → ⊥) → S x ≡ true → merged φ i S x ≡ true
  merged_has x n k t = del_other i (del (φ.partner i) S) x k ∙ (del_other (φ.partner i) S x n ∙ t)

  pub merged_out : merged φ i S i ≡ false
  merged_out = false_from_ne_true (merged φ i S i) (λ t. (merged_parts i t).1 refl)

module _ {φ : Forest} (m : Lawful φ) (K S : Set) (c : Closed φ S) (i : ℕ) (g : Mergeable φ K S i) where
  pub merged_closed : Closed φ (merged φ i S)
  merged_closed = record {
    range = λ x t. c.range x (merged_parts φ S i x t).2;
    up = λ x t l.
        let s = (merged_parts φ S i x t).2 in
        merged_has φ S i (x / 2) (λ e. both_ways (S x) (no_half S (φ.partner i) (g.others (omega (arith, m.some))) x e) s) (λ e. both_ways (S x) (no_half S i g.own x e) s) (c.up x s l);
    across = λ x t p.
        let q = merged_parts φ S i x t in
        let r = c.range x q.2 in
        let ri = c.range i g.split in
        let b : φ.partner (φ.partner x) ≡ x = m.back x r.0 r.1 p in
        merged_has φ S i (φ.partner x) (λ e. q.1 (sym b ∙ ap φ.partner e ∙ m.back i ri.0 ri.1 (omega arith))) (λ e. q.0 (sym b ∙ ap φ.partner e)) (c.across x q.2 p);
  }

  -- what is to stay split stays
  pub merged_keeps : Subset K S → Subset K (merged φ i S)
  merged_keeps w x k = merged_has φ S i x (λ e. pinned x k e) (λ e. both_ways (K x) (subst (λ (y : ℕ). K y ≡ false) (sym e) g.free) k) (w x k)
    where
      pinned : (x : ℕ) → K x ≡ true → x ≡ φ.partner i → ⊥
      pinned x k e = both_ways (K x) (subst (λ (y : ℕ). K y ≡ false) (sym e) (g.free_other (omega (arith, m.some, c.range x (w x k))))) k

  -- each triangle of the diamond is one less
  pub merged_count : count φ (merged φ i S) + diamond_size φ i ≡ count φ S
  merged_count = go (φ.partner i) refl
    where
      r : (φ.roots ≤ i) × (i < φ.finest)
      r = c.range i g.split

      go : (p : ℕ) → φ.partner i ≡ p → count φ (merged φ i S) + one_or_two p ≡ count φ S
      go zero e = omega (arith, count_size m S c, count_size m (merged φ i S) merged_closed, size_one φ.finest (merged φ i S) S i r.1 (merged_out φ S i) g.split (λ x ne. sym (del_other i (del (φ.partner i) S) x ne ∙ none_there x (cases_eq x (φ.partner i)))))
        where
          none_there : (x : ℕ) → (x ≡ φ.partner i) ⊎ (x ≡ φ.partner i → ⊥) → del (φ.partner i) S x ≡ S x
          none_there x (inl h) = rw (eq-eqb x (φ.partner i) h) (sym (false_from_ne_true (S x) (λ t. omega (arith, c.range x t, m.some))))
          none_there x (inr n) = del_other (φ.partner i) S x n
      go (suc p) e =
          let pos : 0 < φ.partner i = omega arith in
          let t = c.across i g.split pos in
          let ne : i ≡ φ.partner i → ⊥ = λ z. m.other i r.0 r.1 pos (sym z) in
          omega (
            arith,
            count_size m S c,
            count_size m (merged φ i S) merged_closed,
            size_one φ.finest (del (φ.partner i) S) S (φ.partner i) (c.range (φ.partner i) t).1 (del_same (φ.partner i) S) t (λ x n. sym (del_other (φ.partner i) S x n)),
            size_one φ.finest (merged φ i S) (del (φ.partner i) S) i r.1 (merged_out φ S i) (del_other (φ.partner i) S i ne ∙ g.split) (λ x n. sym (del_other i (del (φ.partner i) S) x n)),
          )

  pub merged_less : count φ (merged φ i S) < count φ S
  merged_less = go (φ.partner i) merged_count
    where
      go : (p : ℕ) → count φ (merged φ i S) + one_or_two p ≡ count φ S → count φ (merged φ i S) < count φ S
      go zero h = omega arith
      go (suc p) h = omega arith

-- the empty set is closed: the mesh of the roots
pub none_closed : {φ : Forest} → Closed φ none
none_closed = record { range = λ i t. absurd (both_ways false refl t); up = λ i t l. t; across = λ i t p. t }
