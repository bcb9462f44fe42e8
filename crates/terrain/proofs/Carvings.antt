-- What carving one sample does to the bounds. A triangle that does not hold the sample has the offset that it had, since it holds the three samples
-- that its offset is made of, and its halves do not hold the sample either: so its bound, which is kept, covers as it did, and is measured if it was.
use Rattle.std.proofs.Common.{◌≡◌, ℕ, ◌+◌, ◌*◌, ◌<◌, ◌≤◌, max, Bool, true, false, eqb, ◌⊎◌, sym, ap, ◌∙◌, subst, inl, inr, ⊎_elim, arith}
use Rattle.std.proofs.lemmas.Bool.{cases_Bool, false_from_ne_true, cases_eq, both_ways, and_parts, and_from, and_left, and_right, ne_eqb, cond-true, cond-false}
use Rattle.bintree.specs.declared.point.Point.{Point}
use Rattle.bintree.specs.declared.point.Corners.{Corners}
use Rattle.bintree.specs.Orders.{end, first_finest, is_splittable}
use Rattle.bintree.specs.Triangles.{corners, centre, same_point}
use Rattle.bintree.proofs.Numbers.{end_twice}
use Rattle.bintree.proofs.Partners.{same_point_true}
use Rattle.terrain.specs.Heights.{Heights, is_sample, put_height}
use Rattle.terrain.specs.Bounds.{Bounds, offset, limit, AboveHalves, Covers, measured}
use Rattle.terrain.specs.Carving.{holds_sample, reached, carved_bounds, highest_passing}
use Rattle.terrain.specs.Grounds.{Ground, carved, carving_to, carving, left_by}
use Rattle.terrain.specs.Laws.{Covered, Measured, CarveLaws}
use Rattle.terrain.proofs.Anew.{not_due, when_due, only}
use Rattle.terrain.proofs.Measuring.{splittable_low, splittable_high, is_split, finest_not_split, enough, measured_sum, measured_none}
use Rattle.terrain.proofs.Holding.{held_decides, half_held, base_held}
use Rattle.terrain.proofs.Highest.{none_passing, highest_is, no_passing}

-- one height is put: elsewhere the heights are as they were
pub put_other : (p : Point) (h : ℕ) (z : Heights) (q : Point) → (q ≡ p → ⊥) → put_height p h z q ≡ z q
unfolding put_height
put_other p h z q ne = cond-false (same_point q p) h (z q) (false_from_ne_true (same_point q p) (λ t. ne (same_point_true q p t)))

-- the test of a triangle that carving reaches
pub reached_splittable : (n : ℕ) (p : Point) (i : ℕ) → reached n p i ≡ true → is_splittable n i ≡ true
reached_splittable n p i t = (and_parts _ _ t).0

reached_held : (n : ℕ) (p : Point) (i : ℕ) → reached n p i ≡ true → holds_sample p (corners n i) ≡ true
reached_held n p i t = (and_parts _ _ t).1

reached_high : (n : ℕ) (p : Point) (i : ℕ) → reached n p i ≡ true → i < first_finest n
reached_high n p i t = splittable_high n i (reached_splittable n p i t)

-- a parent is reached if a half is
pub reached_parent : (n : ℕ) (p : Point) (i : ℕ) → 2 ≤ i → i < first_finest n → (reached n p (2 * i) ≡ true) ⊎ (reached n p (2 * i + 1) ≡ true) → reached n p i ≡ true
reached_parent n p i l k (inl t) = and_from _ _ (is_split n i l k) (half_held n i p l k (inl (reached_held n p (2 * i) t)))
reached_parent n p i l k (inr t) = and_from _ _ (is_split n i l k) (half_held n i p l k (inr (reached_held n p (2 * i + 1) t)))

module _ (p : Point) (h : ℕ) (g : Ground) where
  abbrev n : ℕ
  n = g.order

  abbrev z : Heights
  z = g.heights

  abbrev b : Bounds
  b = g.bounds

  abbrev z' : Heights
  z' = put_height p h z

  abbrev new : Bounds
  new = carved_bounds n z' p b

  abbrev held : ℕ → Bool
  held i = holds_sample p (corners n i)

  at_held : (i : ℕ) → 2 ≤ i → i < first_finest n → held i ≡ true → new i ≡ offset n z' i + max (new (2 * i)) (new (2 * i + 1))
  unfolding carved_bounds
  at_held i l k t = when_due (reached n p) (offset n z') b (first_finest n) (reached_high n p) (2 * n) i (enough n i l) (and_from _ _ (is_split n i l k) t)

  at_other : (i : ℕ) → reached n p i ≡ false → new i ≡ b i
  unfolding carved_bounds
  at_other i t = not_due (reached n p) (offset n z') b (2 * n) i t

  at_finest : (i : ℕ) → first_finest n ≤ i → new i ≡ b i
  at_finest i l = at_other i (and_left (is_splittable n i) _ (finest_not_split n i l))

  at_not_held : (i : ℕ) → held i ≡ false → new i ≡ b i
  at_not_held i t = at_other i (and_right (is_splittable n i) _ t)

  -- a sample in a triangle that does not hold p is not p
  same_height : (q : Point) (t : Corners) → holds_sample q t ≡ true → holds_sample p t ≡ false → z' q ≡ z q
  same_height q t k f = put_other p h z q (λ e. both_ways (holds_sample p t) f (subst (λ (u : Point). holds_sample u t ≡ true) e k))

  same_offset : (i : ℕ) → 2 ≤ i → i < first_finest n → held i ≡ false → offset n z' i ≡ offset n z i
  unfolding offset
  same_offset i l k f =
      let t = base_held n i l k in
      let left = same_height (corners n i).left (corners n i) t.left f in
      let right = same_height (corners n i).right (corners n i) t.right f in
      let middle = same_height (centre (corners n i)) (corners n i) t.middle f in
      rw (left, right, middle)

  -- a triangle that does not hold p, with its halves
  record Kept (i : ℕ) : Type 0 where
    whole : new i ≡ b i
    low : new (2 * i) ≡ b (2 * i)
    high : new (2 * i + 1) ≡ b (2 * i + 1)
    own : offset n z' i ≡ offset n z i

  kept : (i : ℕ) → 2 ≤ i → i < first_finest n → held i ≡ false → Kept i
  kept i l k f = record {
    whole = at_not_held i f;
    low = at_not_held (2 * i) (false_from_ne_true (held (2 * i)) (λ t. both_ways _ f (half_held n i p l k (inl t))));
    high = at_not_held (2 * i + 1) (false_from_ne_true (held (2 * i + 1)) (λ t. both_ways _ f (half_held n i p l k (inr t))));
    own = same_offset i l k f;
  }

  above : AboveHalves n z b → AboveHalves n z' new
  above a i l k = ⊎_elim
      (λ t. omega (arith, at_held i l k t))
      (λ f. let s = kept i l k f in omega (arith, s.whole, s.low, s.high, s.own, a i l k))
      (cases_Bool (held i))

  covers : Covers n z b → ((i : ℕ) → 2 ≤ i → i < end n → new i ≤ limit) → Covers n z' new
  covers c f = record { finest = λ i l k. at_finest i l ∙ c.finest i l k; limited = f; above = above c.above }

  measured_at : Measured g → (i : ℕ) → 2 ≤ i → i < first_finest n → new i ≡ offset n z' i + max (new (2 * i)) (new (2 * i + 1))
  measured_at m i l k = ⊎_elim
      (λ t. at_held i l k t)
      (λ f. let s = kept i l k f in let e = end_twice n in
      omega (arith, s.whole, s.low, s.high, s.own, m i l (omega arith), m (2 * i) (omega arith) (omega arith), m (2 * i + 1) (omega arith) (omega arith), measured_sum n z i l k))
      (cases_Bool (held i))

  stays_measured : Measured g → Measured (carved p h g)
  unfolding measured
  stays_measured m i l k =
      let e = end_twice n in
      only (is_splittable n) (offset n z') (λ _. 0) new (end n)
      (λ j t. let q = splittable_high n j t in (splittable_low n j t, omega arith))
      (λ j two q t. measured_at m j two (splittable_high n j t))
      (λ j two q t. at_other j (and_left (is_splittable n j) _ t) ∙ (m j two q ∙ measured_none n z j t))
      (2 * n) i l k (omega (arith, enough n i l))

  pub carve_laws : CarveLaws p h g
  carve_laws = record {
    holding = λ i l k t. at_held i l k ((held_decides n i p l (omega (arith, end_twice n))).1 t);
    other = λ i f. ⊎_elim
        (λ t. let s = reached_splittable n p i t in let l = splittable_low n i s in let k = splittable_high n i s in
        absurd (f l k ((held_decides n i p l (omega (arith, end_twice n))).0 (reached_held n p i t))))
        (λ t. at_other i t)
        (cases_Bool (reached n p i));
    stays_measured = stays_measured;
    gives = λ s f. rw (s, none_passing n new f);
    covers = covers;
    refuses = λ s i k. cond-true (is_sample n p) _ _ s ∙ (ap (carving_to (carved p h g)) (highest_is n new i k.low k.high k.passes k.highest)
        ∙ cond-false (eqb i 0) _ _ (ne_eqb i 0 (λ e. omega (arith, k.low))));
  }

-- whether it is done or refused, carving leaves bounds that cover if they did before
pub carving_covers : (p : Point) (h : ℕ) (g after : Ground) → Covered g → after ≡ left_by (carving p h g) g → Covered after
carving_covers p h g after c e = subst Covered (sym e) (go (cases_Bool (is_sample g.order p)) (cases_eq (highest_passing g.order (carved p h g).bounds) 0))
  where
    go : (is_sample g.order p ≡ true) ⊎ (is_sample g.order p ≡ false)
        → (highest_passing g.order (carved p h g).bounds ≡ 0) ⊎ (highest_passing g.order (carved p h g).bounds ≡ 0 → ⊥) → Covered (left_by (carving p h g) g)
    go (inl s) (inl e) = rw (s, e) ((carve_laws p h g).covers c (no_passing g.order (carved p h g).bounds e))
    go (inl s) (inr e) = let f = ne_eqb (highest_passing g.order (carved p h g).bounds) 0 e in rw (s, f) c
    go (inr s) e = rw s c
