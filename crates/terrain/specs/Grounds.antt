-- What drafts and maps stand for, and what each call on them gives.
use Rattle.std.specs.Prelude.{◌≡◌, ℕ, cond, [], ◌∷◌, Some, None, Option, Result, ◌==◌}
use Rattle.bintree.specs.declared.point.Point.{Point}
use Rattle.bintree.specs.Orders.{is_order, is_triangle}
use Rattle.bintree.specs.Refusals.{Refusal, Reply, given, refused, refusal, told}
use Rattle.terrain.specs.Heights.{Heights, is_sample, flat, put_height}
use Rattle.terrain.specs.Bounds.{Bounds, measured}
use Rattle.terrain.specs.Carving.{carved_bounds, highest_passing}

-- A draft stands for an order and the heights of that order's samples.
pub record Sketch : Type 0 where
  pub order : ℕ
  pub heights : Heights

-- A map stands for an order, the heights of that order's samples and the bounds of its triangles.
pub record Ground : Type 0 where
  pub order : ℕ
  pub heights : Heights
  pub bounds : Bounds

-- The draft of order n with all heights 0. A new draft is that of order 1.
abbrev pub blank : ℕ → Sketch
blank n = record { order = n; heights = flat }

-- Resetting a draft to order n makes all heights 0. Refusal 7 where n is no order.
abbrev pub resetting : ℕ → Reply Sketch
resetting n = cond (is_order n) (given (blank n)) (refused (refusal 7 (n ∷ [])))

-- Setting the sample p to the height h changes that one sample. Refusal 8 where p is no sample.
abbrev pub setting : Point → ℕ → Sketch → Reply Sketch
setting p h s = cond (is_sample s.order p)
    (given (record { order = s.order; heights = put_height p h s.heights }))
    (refused (refusal 8 (p.x ∷ p.y ∷ [])))

-- Measuring a draft gives the map of its heights with the measured bounds.
abbrev pub measuring : Sketch → Ground
measuring s = record { order = s.order; heights = s.heights; bounds = measured s.order s.heights }

-- A map with the sample p carved to the height h, whatever the bounds come to.
abbrev pub carved : Point → ℕ → Ground → Ground
carved p h g = record {
  order = g.order;
  heights = put_height p h g.heights;
  bounds = carved_bounds g.order (put_height p h g.heights) p g.bounds;
}

-- What carving answers, from the map that it would leave and the highest-numbered triangle whose bound would pass the limit, 0 for none.
abbrev pub carving_to : Ground → ℕ → Reply Ground
carving_to g i = cond (i == 0) (given g) (refused (refusal 9 (i ∷ [])))

-- Carving the sample p of a map to the height h. Refusal 8 where p is no sample; refusal 9 where a new bound would pass the limit.
abbrev pub carving : Point → ℕ → Ground → Reply Ground
carving p h g = cond (is_sample g.order p)
    (carving_to (carved p h g) (highest_passing g.order (carved p h g).bounds))
    (refused (refusal 8 (p.x ∷ p.y ∷ [])))

-- The bound of triangle i, if there is such a triangle.
abbrev pub bound_of : Ground → ℕ → Option ℕ
bound_of g i = cond (is_triangle g.order i) (Some (g.bounds i)) None

-- The height of the sample p, if it is one.
abbrev pub height_of : Ground → Point → Option ℕ
height_of g p = cond (is_sample g.order p) (Some (g.heights p)) None

-- What a call that works in place leaves: what it gives or, where it refuses, what was there before.
abbrev pub left_by : {A : Type 0} → Reply A → A → A
left_by (given a) before = a
left_by (refused why) before = before

-- A call that works in place does what its definition says: its answer is told by that, and it leaves what that leaves.
pub record Does {A E U : Type 0} (call : Reply A) (why : E → Refusal) (result : Result U E) (before after : A) : Type 0 where
  pub answer : told (λ _. after) why result ≡ call
  pub leaves : after ≡ left_by call before
