-- The facts that a mesh value carries, no hole, no overlap and no crack, are those of a crack-free mesh. A finest triangle in no hole lies in some triangle, which is found by
-- going up from it: that is a search of known length, so "not none" gives one.
use Rattle.std.proofs.Common.{◌≡◌, ℕ, zero, suc, ◌/◌, ◌<◌, ◌≤◌, true, false, ◌⊎◌, sym, subst, inl, inr, arith}
use Rattle.std.proofs.lemmas.Bool.{cases_Bool, cases_eq, both_ways, false_from_ne_true}
use Rattle.bintree.specs.Orders.{end}
use Rattle.bintree.specs.Meshes.{Triangles, Within, IsFinest}
use Rattle.mesh.specs.Invariant.{Hole, Overlap, Crack}
use Rattle.mesh.specs.declared.mesh.Mesh.{Mesh}
use Rattle.mesh.specs.Laws.{CrackFreeMesh}
use Rattle.mesh.specs.Views.{order_of, triangles_of}
use Rattle.mesh.proofs.Ancestors.{above, above_is, above_le}

-- the facts, as the prover asks for them of a mesh value
abbrev pub Guarded : ℕ → Triangles → Type 0
Guarded n P = record {
  inside : (i : ℕ) → P i ≡ true → (2 ≤ i) × (i < end n);
  no_hole : Hole n P → ⊥;
  no_overlap : Overlap n P → ⊥;
  no_crack : Crack n P → ⊥;
}

pub guarded : (n : ℕ) (P : Triangles) → CrackFreeMesh n P → Guarded n P
guarded n P w = record {
  inside = w.is_mesh.triangles;
  no_hole = λ h.
      let z = w.is_mesh.some_one h.finest h.is_finest in
      both_ways (P z.0) (subst (λ (y : ℕ). P y ≡ false) z.2.1 (h.uncovered z.2.0)) z.1;
  no_overlap = λ o. o.differ (w.is_mesh.only_one o.finest o.first o.second o.is_finest o.first_present o.second_present o.in_first o.in_second);
  no_crack = λ k. w.crack_free k.first k.second k.first_present k.second_present k.differ k.point k.corner k.on_edge;
}

module _ (n : ℕ) (P : Triangles) (g : Guarded n P) where
  -- a triangle of P above t, or none at all; b bounds the way up
  look_up : (b t : ℕ) → t ≤ b → ((k : ℕ) × (P (above k t) ≡ true)) ⊎ ((k : ℕ) → P (above k t) ≡ false)
  look_up zero t h = inr (λ k. false_from_ne_true (P (above k t)) (λ p. omega (arith, g.inside (above k t) p, above_le k t)))
  look_up (suc b) t h = go (cases_Bool (P t)) (look_up b (t / 2) (omega arith))
    where
      none : P t ≡ false → ((k : ℕ) → P (above k (t / 2)) ≡ false) → (k : ℕ) → P (above k t) ≡ false
      none f rest zero = f
      none f rest (suc k) = rest k

      go : (P t ≡ true) ⊎ (P t ≡ false) → ((k : ℕ) × (P (above k (t / 2)) ≡ true)) ⊎ ((k : ℕ) → P (above k (t / 2)) ≡ false) → ((k : ℕ) × (P (above k t) ≡ true)) ⊎ ((k : ℕ) → P (above k t) ≡ false)
      go (inl p) r = inl (0, p)
      go (inr f) (inl z) = inl (suc z.0, z.1)
      go (inr f) (inr rest) = inr (none f rest)

  some_one : (f : ℕ) → IsFinest n f → (i : ℕ) × (P i ≡ true) × Within f i
  some_one f h = go (look_up f f (omega arith))
    where
      go : ((k : ℕ) × (P (above k f) ≡ true)) ⊎ ((k : ℕ) → P (above k f) ≡ false) → (i : ℕ) × (P i ≡ true) × Within f i
      go (inl z) = (above z.0 f, z.1, (z.0, sym (above_is z.0 f)))
      go (inr none) = absurd (g.no_hole (record { finest = f; is_finest = h; uncovered = λ k. subst (λ (y : ℕ). P y ≡ false) (above_is k f) (none k) }))

  only_one : (f i j : ℕ) → IsFinest n f → P i ≡ true → P j ≡ true → Within f i → Within f j → i ≡ j
  only_one f i j h p q a b = go (cases_eq i j)
    where
      go : (i ≡ j) ⊎ (i ≡ j → ⊥) → i ≡ j
      go (inl e) = e
      go (inr ne) = absurd (g.no_overlap (record { finest = f; is_finest = h; first = i; second = j; differ = ne; first_present = p; second_present = q; in_first = a; in_second = b }))

  pub guarded_whole : CrackFreeMesh n P
  guarded_whole = record {
    is_mesh = record { triangles = g.inside; some_one = some_one; only_one = only_one };
    crack_free = λ i j p q ne v a b. g.no_crack (record { first = i; second = j; differ = ne; first_present = p; second_present = q; point = v; corner = a; on_edge = b });
  }

-- a mesh value is a crack-free mesh
pub mesh_value : (m : Mesh) → CrackFreeMesh (order_of m) (triangles_of m)
mesh_value m = guarded_whole (order_of m) (triangles_of m) (record { inside = m.inside; no_hole = m.no_hole; no_overlap = m.no_overlap; no_crack = m.no_crack })
