-- Splitting by its rule, one step at a time: where the partner is absent, its parent holds it, and is of a level above.
use Rattle.std.proofs.Common.{◌≡◌, ℕ, zero, suc, ◌+◌, ◌*◌, ◌/◌, ◌<◌, ◌≤◌, Bool, true, false, ◌⊎◌, sym, refl, ap, ◌∙◌, subst, inl, inr, arith}
use Rattle.bintree.specs.Orders.{first_finest}
use Rattle.bintree.specs.Triangles.{partner, level}
use Rattle.bintree.specs.Meshes.{Triangles}
use Rattle.bintree.proofs.Laws.{level_laws}
use Rattle.bintree.proofs.Partners.{partners_true, partner_laws}
use Rattle.bintree.proofs.Numbers.{level_is}
use Rattle.forest.specs.SplitSets.{Set, Closed, Present, mesh}
use Rattle.forest.proofs.Basics.{halves}
use Rattle.forest.proofs.Sums.{mesh_true}
use Rattle.mesh.specs.Sets.{halve, holder, split_deep, split}
use Rattle.mesh.specs.Laws.{CrackFreeMesh, Holds, SplitRule}
use Rattle.mesh.proofs.Square.{square}
use Rattle.mesh.proofs.Wholes.{whole_mesh}
use Rattle.mesh.proofs.Moves.{by_partner, no_partner, some_partner, by_test, holder_parent, present_in, Forcing, forcing, split_forced}
use Rattle.forest.proofs.Forcing.{forced_same}

-- a half is one level deeper, a partner on the same level
half_level : (p : ℕ) → 4 ≤ p → level p ≡ level (p / 2) + 1
half_level p l =
    let h = (level_laws (p / 2) (omega arith)).halves in
    go h (halves p)
  where
    go : (level (2 * (p / 2)) ≡ level (p / 2) + 1) × (level (2 * (p / 2) + 1) ≡ level (p / 2) + 1) → (p ≡ 2 * (p / 2)) ⊎ (p ≡ 2 * (p / 2) + 1) → level p ≡ level (p / 2) + 1
    go h (inl e) = ap level e ∙ h.0
    go h (inr e) = ap level e ∙ h.1

partner_level : (n i : ℕ) → 0 < partner n i → level (partner n i) ≡ level i
partner_level n i p = level_is (partner n i) ∙ ((partners_true n i (partner n i) ((partner_laws n i).partnered p)).4.same ∙ sym (level_is i))

module _ (n : ℕ) (S : Set) (c : Closed (square n) S) (i : ℕ) (q : Present (square n) S i) (u : i < first_finest n) where
  -- more depth changes nothing
  deeper : (k h : ℕ) → h ≤ k → h < first_finest n → Present (square n) S h → split_deep k n h (mesh (square n) S) ≡ split_deep h n h (mesh (square n) S)
  deeper k h le lt w =
      let a = split_forced n S c k h le w lt in
      let b = split_forced n S c h h (omega arith) w lt in
      a.2 ∙ (ap (mesh (square n)) (forced_same S a.0 b.0 h a.1 b.1) ∙ sym b.2)

  turn : (k : ℕ) → i ≡ suc k → split_deep i n i (mesh (square n) S) ≡ by_partner (partner n i) (halve i (mesh (square n) S)) (by_test (mesh (square n) S (partner n i)) (halve i (halve (partner n i) (mesh (square n) S))) (halve i (halve (partner n i) (split_deep k n (holder (mesh (square n) S) (partner n i)) (mesh (square n) S)))))
  turn k e = ap (λ (z : ℕ). split_deep z n i (mesh (square n) S)) e

  by_present : (k : ℕ) (b : Bool) → mesh (square n) S (partner n i) ≡ b → i ≡ suc k → 0 < partner n i →
      split_deep i n i (mesh (square n) S) ≡ by_test b (halve i (halve (partner n i) (mesh (square n) S))) (halve i (halve (partner n i) (split_deep k n (holder (mesh (square n) S) (partner n i)) (mesh (square n) S))))
  by_present k b t e z = turn k e ∙ (some_partner (partner n i) _ _ z
      ∙ ap (λ (d : Bool). by_test d (halve i (halve (partner n i) (mesh (square n) S))) (halve i (halve (partner n i) (split_deep k n (holder (mesh (square n) S) (partner n i)) (mesh (square n) S))))) t)

  -- where the partner is absent
  module _ (z : 0 < partner n i) (t : mesh (square n) S (partner n i) ≡ false) where
    parent : Forcing n S c i q u
    parent = forcing n S c i q u z t

    parent_present : mesh (square n) S (partner n i / 2) ≡ true
    parent_present = mesh_true (square n) S (partner n i / 2) parent.there

    holder_is : holder (mesh (square n) S) (partner n i) ≡ partner n i / 2
    holder_is = holder_parent n (mesh (square n) S) (partner n i) (omega (arith, parent.low)) t parent_present

    holds : Holds n i (mesh (square n) S) (partner n i) (partner n i / 2)
    holds = record { present = parent_present; within = (1, refl); splittable = parent.splittable; higher = omega (arith, half_level (partner n i) parent.low, partner_level n i z) }

  pub split_rule : SplitRule n i (mesh (square n) S) (split n i (mesh (square n) S))
  unfolding split
  split_rule = go i refl
    where
      go : (j : ℕ) → i ≡ j → SplitRule n i (mesh (square n) S) (split_deep i n i (mesh (square n) S))
      go zero e = absurd (omega (arith, q.range))
      go (suc k) e = record {
        alone = λ z. turn k e ∙ no_partner (partner n i) _ _ z;
        both = λ z t. by_present k true t e z;
        forced = λ z t.
            let a = parent z t in
            let h = holder_is z t in
            by_present k false t e z
            ∙ ap (λ (Q : Triangles). halve i (halve (partner n i) Q)) (deeper k (holder (mesh (square n) S) (partner n i)) (omega (arith, h, a.less)) (omega (arith, h, a.splittable)) (subst (Present (square n) S) (sym h) a.there));
        holds = λ z t. subst (Holds n i (mesh (square n) S) (partner n i)) (sym (holder_is z t)) (holds z t);
      }

-- the holder of an absent partner is its parent, which there is
pub record Parent (n : ℕ) (P : Triangles) (i : ℕ) : Type 0 where
  pub low : 4 ≤ partner n i
  pub is : holder P (partner n i) ≡ partner n i / 2

pub the_parent : (n : ℕ) (P : Triangles) → CrackFreeMesh n P → (i : ℕ) → P i ≡ true → i < first_finest n → 0 < partner n i → P (partner n i) ≡ false → Parent n P i
the_parent n P w i t u z out =
    let m = whole_mesh n P w in
    let there : mesh (square n) m.set i ≡ true = sym (ap (λ (Q : Triangles). Q i) m.is) ∙ t in
    let absent : mesh (square n) m.set (partner n i) ≡ false = sym (ap (λ (Q : Triangles). Q (partner n i)) m.is) ∙ out in
    let q = present_in n m.set m.closed i there in
    subst (λ (Q : Triangles). Parent n Q i) (sym m.is) (record { low = (parent n m.set m.closed i q u z absent).low; is = holder_is n m.set m.closed i q u z absent })
