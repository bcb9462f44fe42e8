-- What the questions of the two layers answer, by geometry alone.
use Rattle.std.specs.Prelude.{◌≡◌, ℕ, true, false}
use Rattle.bintree.specs.Orders.{is_triangle}
use Rattle.bintree.specs.Triangles.{corners}
use Rattle.bintree.specs.Samples.{box}
use Rattle.plan.specs.declared.spot.Line.{Line}
use Rattle.plan.specs.declared.spot.Rectangle.{Rectangle}
use Rattle.plan.specs.Lines.{spot_point, Meets}
use Rattle.plan.specs.Rectangles.{Touches}
use Rattle.policy.specs.Policies.{highest_priority}

-- The answer r to the question after i, under a sight line over a policy of order n with the numbers f.
pub record Sighted (l : Line) (n : ℕ) (f : ℕ → ℕ) (i r : ℕ) : Type 0 where
  pub met : is_triangle n i ≡ true → Meets (spot_point l.from) (spot_point l.to) (corners n i) → r ≡ highest_priority
  pub missed : is_triangle n i ≡ true → (Meets (spot_point l.from) (spot_point l.to) (corners n i) → ⊥) → r ≡ f i
  pub none : is_triangle n i ≡ false → r ≡ 0

-- The same under a window.
pub record Windowed (w : Rectangle) (n : ℕ) (f : ℕ → ℕ) (i r : ℕ) : Type 0 where
  pub touched : is_triangle n i ≡ true → Touches w (box (corners n i)) → r ≡ f i
  pub outside : is_triangle n i ≡ true → (Touches w (box (corners n i)) → ⊥) → r ≡ 0
  pub none : is_triangle n i ≡ false → r ≡ 0
