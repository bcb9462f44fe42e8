-- Filling a map from a source of heights and bounds.
use Rattle.std.specs.Prelude.{◌≡◌, ℕ, ◌+◌, ◌*◌, ◌<◌, ◌≤◌, max, Bool, cond, ◌&&◌, ◌||◌, [], ◌∷◌, ◌==◌, nat_lt}
use Rattle.bintree.specs.Orders.{first_finest, is_splittable}
use Rattle.bintree.specs.Triangles.{lowest}
use Rattle.bintree.specs.Refusals.{Refusal, Reply, given, refused, refusal}
use Rattle.terrain.specs.declared.relief.CoverFault.{CoverFault}
use Rattle.terrain.specs.Heights.{Heights, is_sample}
use Rattle.terrain.specs.Bounds.{Bounds, offset, limit}
use Rattle.terrain.specs.Grounds.{Ground}
use Rattle.terrain.specs.Laws.{Covered}

-- Of a source's heights, those of the samples of order n.
unfoldable pub sampled : ℕ → Heights → Heights
sampled n z p = cond (is_sample n p) (z p) 0

-- Of a source's bounds, those of the splittable triangles of order n. A finest triangle has bound 0, whatever the source says.
unfoldable pub bounding : ℕ → Bounds → Bounds
bounding n b i = cond (is_splittable n i) (b i) 0

-- The map of order n that a source of the heights z and the bounds b describes.
abbrev pub described : ℕ → Heights → Bounds → Ground
described n z b = record { order = n; heights = sampled n z; bounds = bounding n b }

-- The least bound that triangle i of the map g may have: its offset plus the greater bound of its halves.
abbrev pub least_bound : Ground → ℕ → ℕ
least_bound g i = offset g.order g.heights i + max (g.bounds (2 * i)) (g.bounds (2 * i + 1))

-- The bound of the splittable triangle i breaks a rule: it passes the limit, or is less than it may be.
unfoldable pub breaks_rule : Ground → ℕ → Bool
breaks_rule g i = is_splittable g.order i && (nat_lt limit (g.bounds i) || nat_lt (g.bounds i) (least_bound g i))

-- The lowest-numbered triangle whose bound breaks a rule; 0 where none does.
abbrev pub lowest_breaking : Ground → ℕ
lowest_breaking g = lowest (breaks_rule g) (first_finest g.order)

-- What filling answers, from the map that it would leave and the lowest-numbered triangle whose bound breaks a rule, 0 for none.
abbrev pub filling_to : Ground → ℕ → Reply Ground
filling_to g i = cond (i == 0) (given g) (refused (refusal 6 (i ∷ [])))

-- Filling a map to order n from a source of the heights z and the bounds b. Refusal 6 where the bounds do not cover.
abbrev pub filling : ℕ → Heights → Bounds → Reply Ground
filling n z b = filling_to (described n z b) (lowest_breaking (described n z b))

-- Refusal 6: the bounds do not cover; the triangle comes with it.
abbrev pub cover_refusal : CoverFault → Refusal
cover_refusal f = refusal 6 (f.triangle ∷ [])

-- The bound of triangle i of the map g keeps the rules.
pub record Keeps (g : Ground) (i : ℕ) : Type 0 where
  pub limited : g.bounds i ≤ limit
  pub above : least_bound g i ≤ g.bounds i

-- Triangle i is the lowest-numbered of the map g whose bound breaks a rule.
pub record BreaksFirst (g : Ground) (i : ℕ) : Type 0 where
  pub low : 2 ≤ i
  pub high : i < first_finest g.order
  pub breaks : Keeps g i → ⊥
  pub first : (j : ℕ) → 2 ≤ j → j < i → Keeps g j

-- Filling a map to order n from a source of the heights z and the bounds b.
pub record FillLaws (n : ℕ) (z : Heights) (b : Bounds) : Type 0 where
  -- The map that the source describes is given exactly if its bounds cover, and no other is.
  pub gives : Covered (described n z b) → filling n z b ≡ given (described n z b)
  pub covers : (g : Ground) → filling n z b ≡ given g → (g ≡ described n z b) × Covered g
  -- Otherwise refusal 6 names the lowest-numbered triangle whose bound breaks a rule.
  pub refuses : (i : ℕ) → BreaksFirst (described n z b) i → filling n z b ≡ refused (refusal 6 (i ∷ []))
