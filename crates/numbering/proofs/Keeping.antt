-- The five rules keep the law.
use Rattle.std.proofs.Common.{◌≡◌, ℕ, ◌+◌, ◌-◌, ◌*◌, ◌<◌, ◌≤◌, Bool, true, false, cond, ◌⊎◌, sym, refl, ap, ◌∙◌, subst, inl, inr, arith}
use Rattle.std.proofs.lemmas.Bool.{cases_Bool, cond_both, cond-true, cond-false, and_parts, leb-true, ltb-true, both_ways}
use Rattle.bintree.specs.declared.point.Point.{Point}
use Rattle.bintree.specs.declared.point.Corners.{Corners}
use Rattle.bintree.specs.Orders.{end, first_finest, is_triangle}
use Rattle.bintree.specs.Triangles.{corners, level}
use Rattle.bintree.specs.Samples.{box, BoxIn}
use Rattle.bintree.proofs.Numbers.{corners_low, corners_high, end_twice}
use Rattle.bintree.proofs.Laws.{level_laws, whole_centre, turning}
use Rattle.terrain.specs.Bounds.{WithinLimit, AboveHalves}
use Rattle.terrain.specs.Grounds.{Ground}
use Rattle.terrain.proofs.Highest.{is_tri}
use Rattle.plan.specs.declared.spot.Line.{Line}
use Rattle.plan.specs.declared.spot.Rectangle.{Rectangle}
use Rattle.plan.specs.Lines.{spot_point, Meets, meets}
use Rattle.plan.specs.Rectangles.{touches}
use Rattle.plan.proofs.Meeting.{meets_decides}
use Rattle.optics.specs.declared.lens.Lens.{Lens}
use Rattle.optics.specs.Lenses.{seen}
use Rattle.policy.specs.Policies.{highest_priority, Lawful}
use Rattle.numbering.specs.Rules.{on_triangles, stored, by_level, by_camera, in_sight, in_window}
use Rattle.numbering.proofs.Halves.{low_box, high_box, touches_parent, seen_falls, meets_low, meets_high}

-- j is the one or the other half of i
abbrev pub Half : ℕ → ℕ → Type 0
Half i j = (j ≡ 2 * i) ⊎ (j ≡ 2 * i + 1)

triangle_is : (n i : ℕ) → is_triangle n i ≡ true → (2 ≤ i) × (i < end n)
triangle_is n i e = let p = and_parts _ _ e in (leb-true 2 i p.0, ltb-true i (end n) p.1)

half_below : (n i j : ℕ) → 2 ≤ i → i < first_finest n → Half i j → (2 ≤ j) × (j < end n)
half_below n i j p q (inl e) = (omega (arith, e), omega (arith, e, end_twice n))
half_below n i j p q (inr e) = (omega (arith, e), omega (arith, e, end_twice n))

-- numbers that never rise from a triangle to its half, and 0 where there is no triangle
module _ (n : ℕ) (f : ℕ → ℕ) where
  pub guarded : 1 ≤ n → n ≤ 6 → ((i : ℕ) → 2 ≤ i → i < end n → f i ≤ highest_priority) → ((i j : ℕ) → 2 ≤ i → i < first_finest n → Half i j → f j ≤ f i) → Lawful n (on_triangles n f)
  guarded l h most falls = record {
    order_low = l;
    order_high = h;
    limited = λ i. cond_both (is_triangle n i) (f i) 0 (λ x. x ≤ highest_priority) (λ e. let t = triangle_is n i e in most i t.0 t.1) (λ e. omega arith);
    none = λ i e. cond-false (is_triangle n i) (f i) 0 e;
    low_half = λ i p q. half i (2 * i) p q (inl refl);
    high_half = λ i p q. half i (2 * i + 1) p q (inr refl);
  }
    where
      half : (i j : ℕ) → 2 ≤ i → i < first_finest n → Half i j → on_triangles n f j ≤ on_triangles n f i
      half i j p q d =
          let k = half_below n i j p q d in
          let x = cond-true (is_triangle n j) (f j) 0 (is_tri n j k.0 k.1) in
          let y = cond-true (is_triangle n i) (f i) 0 (is_tri n i p (omega (arith, end_twice n))) in
          omega (arith, x, y, falls i j p q d)

bounds_fall : (g : Ground) → AboveHalves g.order g.heights g.bounds → (i j : ℕ) → 2 ≤ i → i < first_finest g.order → Half i j → g.bounds j ≤ g.bounds i
bounds_fall g a i j p q (inl e) = subst (λ (k : ℕ). g.bounds k ≤ g.bounds i) (sym e) (omega (arith, a i p q))
bounds_fall g a i j p q (inr e) = subst (λ (k : ℕ). g.bounds k ≤ g.bounds i) (sym e) (omega (arith, a i p q))

pub stored_keeps : (g : Ground) → 1 ≤ g.order → g.order ≤ 6 → WithinLimit g.order g.bounds → AboveHalves g.order g.heights g.bounds → Lawful g.order (stored g)
unfolding stored
stored_keeps g l h w a = guarded g.order g.bounds l h (λ i p q. omega (arith, w i p q)) (bounds_fall g a)

-- a half is one level deeper
pub level_of_half : (i j : ℕ) → 2 ≤ i → Half i j → level j ≡ level i + 1
level_of_half i j p (inl e) = ap level e ∙ (level_laws i p).halves.0
level_of_half i j p (inr e) = ap level e ∙ (level_laws i p).halves.1

pub level_keeps : (n : ℕ) → 1 ≤ n → n ≤ 6 → Lawful n (by_level n)
unfolding by_level
level_keeps n l h = guarded n (λ i. 2 * n - level i) l h (λ i p q. omega arith) (λ i j p q d. omega (arith, level_of_half i j p d))

-- the box of a half
box_in : (n i j : ℕ) → 2 ≤ i → Half i j → BoxIn (box (corners n j)) (box (corners n i))
box_in n i j p (inl e) = subst (λ (t : Corners). BoxIn (box t) (box (corners n i))) (sym (ap (corners n) e ∙ corners_low n i p)) (low_box (corners n i))
box_in n i j p (inr e) = subst (λ (t : Corners). BoxIn (box t) (box (corners n i))) (sym (ap (corners n) e ∙ corners_high n i p)) (high_box (corners n i))

pub camera_keeps : (v : Lens) (g : Ground) → 1 ≤ g.order → g.order ≤ 6 → AboveHalves g.order g.heights g.bounds → Lawful g.order (by_camera v g)
unfolding by_camera
camera_keeps v g l h a =
    guarded g.order (λ i. seen v (g.bounds i) (box (corners g.order i))) l h (λ i p q. omega arith)
    (λ i j p q d. seen_falls v (g.bounds i) (g.bounds j) (box (corners g.order i)) (box (corners g.order j)) (bounds_fall g a i j p q d) (box_in g.order i j p d))

-- a half's number under a lawful numbering
pub half_falls : (n : ℕ) (f : ℕ → ℕ) → Lawful n f → (i j : ℕ) → 2 ≤ i → i < first_finest n → Half i j → f j ≤ f i
half_falls n f k i j p q (inl e) = subst (λ (x : ℕ). f x ≤ f i) (sym e) (k.low_half i p q)
half_falls n f k i j p q (inr e) = subst (λ (x : ℕ). f x ≤ f i) (sym e) (k.high_half i p q)

-- a line that meets a half meets the triangle
line_meets : (a b : Point) (n i j : ℕ) → 2 ≤ i → i < first_finest n → Half i j → meets a b (corners n j) ≡ true → meets a b (corners n i) ≡ true
line_meets a b n i j p q d h =
    let k = half_below n i j p q d in
    let t = (meets_decides a b (corners n j) (turning n j k.0 k.1)).0 h in
    (meets_decides a b (corners n i) (turning n i p (omega (arith, end_twice n)))).1 (up d t)
  where
    up : Half i j → Meets a b (corners n j) → Meets a b (corners n i)
    up (inl e) m = meets_low a b (corners n i) (whole_centre n i p q) (subst (Meets a b) (ap (corners n) e ∙ corners_low n i p) m)
    up (inr e) m = meets_high a b (corners n i) (whole_centre n i p q) (subst (Meets a b) (ap (corners n) e ∙ corners_high n i p) m)

module _ (l : Line) (n : ℕ) (f : ℕ → ℕ) (k : Lawful n f) where
  abbrev met : ℕ → Bool
  met i = meets (spot_point l.from) (spot_point l.to) (corners n i)

  sight_falls : (i j : ℕ) → 2 ≤ i → i < first_finest n → Half i j → cond (met j) highest_priority (f j) ≤ cond (met i) highest_priority (f i)
  sight_falls i j p q d = go (cases_Bool (met j)) (cases_Bool (met i))
    where
      go : (met j ≡ true) ⊎ (met j ≡ false) → (met i ≡ true) ⊎ (met i ≡ false) → cond (met j) highest_priority (f j) ≤ cond (met i) highest_priority (f i)
      go (inl e) (inl g) = omega (arith, cond-true (met j) highest_priority (f j) e, cond-true (met i) highest_priority (f i) g)
      go (inl e) (inr g) = absurd (both_ways (met i) g (line_meets (spot_point l.from) (spot_point l.to) n i j p q d e))
      go (inr e) (inl g) = omega (arith, cond-false (met j) highest_priority (f j) e, cond-true (met i) highest_priority (f i) g, k.limited j)
      go (inr e) (inr g) = omega (arith, cond-false (met j) highest_priority (f j) e, cond-false (met i) highest_priority (f i) g, half_falls n f k i j p q d)

  pub sight_keeps : Lawful n (in_sight l n f)
  unfolding in_sight
  sight_keeps =
      guarded n (λ i. cond (met i) highest_priority (f i)) k.order_low k.order_high
      (λ i p q. cond_both (met i) highest_priority (f i) (λ x. x ≤ highest_priority) (λ e. omega arith) (λ e. k.limited i)) sight_falls

-- a lawful numbering, kept only where a test holds that never holds of a half without holding of its parent; 0 elsewhere
module _ (n : ℕ) (f : ℕ → ℕ) (k : Lawful n f) (kept : ℕ → Bool) (upward : (i j : ℕ) → 2 ≤ i → i < first_finest n → Half i j → kept j ≡ true → kept i ≡ true) where
  masked_falls : (i j : ℕ) → 2 ≤ i → i < first_finest n → Half i j → cond (kept j) (f j) 0 ≤ cond (kept i) (f i) 0
  masked_falls i j p q d = go (cases_Bool (kept j))
    where
      go : (kept j ≡ true) ⊎ (kept j ≡ false) → cond (kept j) (f j) 0 ≤ cond (kept i) (f i) 0
      go (inl e) = omega (arith, cond-true (kept j) (f j) 0 e, cond-true (kept i) (f i) 0 (upward i j p q d e), half_falls n f k i j p q d)
      go (inr e) = omega (arith, cond-false (kept j) (f j) 0 e)

  pub masked_keeps : Lawful n (on_triangles n (λ i. cond (kept i) (f i) 0))
  masked_keeps =
      guarded n (λ i. cond (kept i) (f i) 0) k.order_low k.order_high
      (λ i p q. cond_both (kept i) (f i) 0 (λ x. x ≤ highest_priority) (λ e. k.limited i) (λ e. omega arith)) masked_falls

pub window_keeps : (w : Rectangle) (n : ℕ) (f : ℕ → ℕ) → Lawful n f → Lawful n (in_window w n f)
unfolding in_window
window_keeps w n f k =
    masked_keeps n f k (λ i. touches w (box (corners n i))) (λ i j p q d e. touches_parent w (box (corners n j)) (box (corners n i)) (box_in n i j p d) e)
