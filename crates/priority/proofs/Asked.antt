-- What each question finds is what the rule means: for a number that is no triangle, and for a triangle t of the order n with the number i.
use Rattle.std.proofs.Common.{◌≡◌, ℕ, ◌-◌, ◌*◌, ◌≤◌, Bool, true, false, cond, Some, None, Decides, Option, unwrap_or, sym, refl, ap, ◌∙◌, subst, subst₂, arith}
use Rattle.std.proofs.lemmas.Bool.{cond-true, cond-false, cond_both, both_ways}
use Rattle.bintree.specs.declared.triangle.Triangle.{Triangle}
use Rattle.bintree.specs.Orders.{is_triangle}
use Rattle.bintree.specs.Triangles.{corners, level}
use Rattle.bintree.specs.Samples.{box}
use Rattle.bintree.specs.Views.{order_of, number_of, Is}
use Rattle.bintree.proofs.Numbers.{level_is, depth_of_triangle}
use Rattle.terrain.specs.Grounds.{Ground, bound_of}
use Rattle.plan.specs.declared.spot.Line.{Line}
use Rattle.plan.specs.declared.spot.Rectangle.{Rectangle}
use Rattle.plan.specs.Lines.{spot_point, Meets, meets}
use Rattle.plan.specs.Rectangles.{Touches, touches}
use Rattle.optics.specs.declared.lens.Lens.{Lens}
use Rattle.optics.specs.Lenses.{seen}
use Rattle.policy.specs.Policies.{highest_priority}
use Rattle.numbering.specs.Rules.{stored, by_level, by_camera, in_sight, in_window}
use Rattle.numbering.specs.Geometry.{Sighted, Windowed}

-- t is triangle i of order n
pub record Found (t : Triangle) (n i : ℕ) : Type 0 where
  pub triangle : is_triangle n i ≡ true
  pub order : order_of t ≡ n
  pub number : number_of t ≡ i

-- what asking a policy's order for the triangle tells
pub found : (t : Triangle) (m n i : ℕ) → m ≡ n → (is_triangle m i ≡ true) × Is t m i → Found t n i
found t m n i e h = record { triangle = subst (λ (k : ℕ). is_triangle k i ≡ true) e h.0; order = h.1.0 ∙ e; number = h.1.1 }

pub not_found : (m n i : ℕ) → m ≡ n → is_triangle m i ≡ false → is_triangle n i ≡ false
not_found m n i e h = subst (λ (k : ℕ). is_triangle k i ≡ false) e h

-- stored
pub bound_or_none : (g : Ground) (i : ℕ) (b : Option ℕ) → b ≡ bound_of g i → unwrap_or b 0 ≡ stored g i
unfolding stored
bound_or_none g i b e = ap (λ (x : Option ℕ). unwrap_or x 0) e ∙ cond_both (is_triangle g.order i) (Some (g.bounds i)) None (λ x. unwrap_or x 0 ≡ stored g i)
    (λ h. sym (cond-true (is_triangle g.order i) (g.bounds i) 0 h)) (λ h. sym (cond-false (is_triangle g.order i) (g.bounds i) 0 h))

-- level
pub level_below : (t : Triangle) → level (number_of t) ≤ 2 * order_of t
level_below t = omega (arith, level_is t.number, depth_of_triangle t.order.n t.number t.low t.high)

pub level_none : (n i : ℕ) → is_triangle n i ≡ false → 0 ≡ by_level n i
unfolding by_level
level_none n i h = sym (cond-false (is_triangle n i) (2 * n - level i) 0 h)

pub level_some : (t : Triangle) (n i : ℕ) → Found t n i → 2 * n - level (number_of t) ≡ by_level n i
unfolding by_level
level_some t n i h = ap (λ (k : ℕ). 2 * n - level k) h.number ∙ sym (cond-true (is_triangle n i) (2 * n - level i) 0 h.triangle)

-- camera
pub camera_none : (l : Lens) (g : Ground) (i : ℕ) → is_triangle g.order i ≡ false → 0 ≡ by_camera l g i
unfolding by_camera
camera_none l g i h = sym (cond-false (is_triangle g.order i) (seen l (g.bounds i) (box (corners g.order i))) 0 h)

pub camera_some : (l : Lens) (g : Ground) (i : ℕ) (t : Triangle) (b : ℕ) → Found t g.order i → Some b ≡ bound_of g i
    → seen l b (box (corners (order_of t) (number_of t))) ≡ by_camera l g i
unfolding by_camera
camera_some l g i t b h e =
    let s : Some b ≡ Some (g.bounds i) = e ∙ cond-true (is_triangle g.order i) (Some (g.bounds i)) None h.triangle in
    let d : b ≡ g.bounds i = cc in
    ap (λ (k : ℕ). seen l k (box (corners (order_of t) (number_of t)))) d
    ∙ (ap (λ (k : ℕ). seen l (g.bounds i) (box (corners k (number_of t)))) h.order
    ∙ (ap (λ (k : ℕ). seen l (g.bounds i) (box (corners g.order k))) h.number
    ∙ sym (cond-true (is_triangle g.order i) (seen l (g.bounds i) (box (corners g.order i))) 0 h.triangle)))

-- sight line
module _ (l : Line) (n : ℕ) (f : ℕ → ℕ) (i : ℕ) where
  abbrev Crosses : ℕ → ℕ → Type 0
  Crosses m k = Meets (spot_point l.from) (spot_point l.to) (corners m k)

  abbrev crosses : ℕ → ℕ → Bool
  crosses m k = meets (spot_point l.from) (spot_point l.to) (corners m k)

  -- the answer, by number and by geometry
  pub record SightAnswer (r : ℕ) : Type 0 where
    pub value : r ≡ in_sight l n f i
    pub geometry : Sighted l n f i r

  pub sight_none : is_triangle n i ≡ false → SightAnswer 0
  unfolding in_sight
  sight_none h = record {
    value = sym (cond-false (is_triangle n i) (cond (crosses n i) highest_priority (f i)) 0 h);
    geometry = record { met = λ e. absurd (both_ways (is_triangle n i) h e); missed = λ e. absurd (both_ways (is_triangle n i) h e); none = λ e. refl };
  }

  sight_some : (r : ℕ) (b : Bool) → is_triangle n i ≡ true → b ≡ crosses n i → Decides b (Crosses n i) → r ≡ cond b highest_priority (f i) → SightAnswer r
  unfolding in_sight
  sight_some r b h e d v = record {
    value = v ∙ (ap (λ (x : Bool). cond x highest_priority (f i)) e ∙ sym (cond-true (is_triangle n i) (cond (crosses n i) highest_priority (f i)) 0 h));
    geometry = record {
      met = λ k m. v ∙ cond-true b highest_priority (f i) (d.1 m);
      missed = λ k m. v ∙ cond_both b highest_priority (f i) (λ x. x ≡ f i) (λ e. absurd (m (d.0 e))) (λ e. refl);
      none = λ k. absurd (both_ways (is_triangle n i) k h);
    };
  }

  pub sight_asked : (t : Triangle) (r : ℕ) (b : Bool) → Found t n i → b ≡ crosses (order_of t) (number_of t) → Decides b (Crosses (order_of t) (number_of t))
      → r ≡ cond b highest_priority (f i) → SightAnswer r
  sight_asked t r b h e d v =
      sight_some r b h.triangle (subst₂ (λ (m k : ℕ). b ≡ crosses m k) h.order h.number e) (subst₂ (λ (m k : ℕ). Decides b (Crosses m k)) h.order h.number d) v

-- window
module _ (w : Rectangle) (n : ℕ) (f : ℕ → ℕ) (i : ℕ) where
  abbrev Reaches : ℕ → ℕ → Type 0
  Reaches m k = Touches w (box (corners m k))

  abbrev reaches : ℕ → ℕ → Bool
  reaches m k = touches w (box (corners m k))

  pub record WindowAnswer (r : ℕ) : Type 0 where
    pub value : r ≡ in_window w n f i
    pub geometry : Windowed w n f i r

  pub window_none : is_triangle n i ≡ false → WindowAnswer 0
  unfolding in_window
  window_none h = record {
    value = sym (cond-false (is_triangle n i) (cond (reaches n i) (f i) 0) 0 h);
    geometry = record { touched = λ e. absurd (both_ways (is_triangle n i) h e); outside = λ e. absurd (both_ways (is_triangle n i) h e); none = λ e. refl };
  }

  window_some : (r : ℕ) (b : Bool) → is_triangle n i ≡ true → b ≡ reaches n i → Decides b (Reaches n i) → r ≡ cond b (f i) 0 → WindowAnswer r
  unfolding in_window
  window_some r b h e d v = record {
    value = v ∙ (ap (λ (x : Bool). cond x (f i) 0) e ∙ sym (cond-true (is_triangle n i) (cond (reaches n i) (f i) 0) 0 h));
    geometry = record {
      touched = λ k m. v ∙ cond-true b (f i) 0 (d.1 m);
      outside = λ k m. v ∙ cond_both b (f i) 0 (λ x. x ≡ 0) (λ e. absurd (m (d.0 e))) (λ e. refl);
      none = λ k. absurd (both_ways (is_triangle n i) k h);
    };
  }

  pub window_asked : (t : Triangle) (r : ℕ) (b : Bool) → Found t n i → b ≡ reaches (order_of t) (number_of t) → Decides b (Reaches (order_of t) (number_of t))
      → r ≡ cond b (f i) 0 → WindowAnswer r
  window_asked t r b h e d v =
      window_some r b h.triangle (subst₂ (λ (m k : ℕ). b ≡ reaches m k) h.order h.number e) (subst₂ (λ (m k : ℕ). Decides b (Reaches m k)) h.order h.number d) v
