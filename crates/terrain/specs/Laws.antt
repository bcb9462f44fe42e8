-- What is proved of bounds. Each law stands on the contract of a call.
use Rattle.std.specs.Prelude.{◌≡◌, ℕ, ◌+◌, ◌*◌, ◌<◌, ◌≤◌, max, true, [], ◌∷◌}
use Rattle.bintree.specs.declared.point.Point.{Point}
use Rattle.bintree.specs.Orders.{end, first_finest}
use Rattle.bintree.specs.Triangles.{corners}
use Rattle.bintree.specs.Samples.{area, Mean, LiesIn}
use Rattle.bintree.specs.Refusals.{given, refused, refusal}
use Rattle.terrain.specs.Heights.{is_sample}
use Rattle.terrain.specs.Bounds.{Bounds, apart, offset, limit, Covers, measured}
use Rattle.terrain.specs.Grounds.{Sketch, Ground, measuring, carved, carving}

-- The bounds of the map g cover its heights.
abbrev pub Covered : Ground → Type 0
Covered g = Covers g.order g.heights g.bounds

-- The wedge: let the point v lie in the closed triangle i, of doubled area A, and let the whole weights wa, wl, wr, with sum A, give it as the
-- mean of the corners. Then v stands no further than half the bound of i from the plane through the corners' heights:
-- 2 × |wa·z(a) + wl·z(l) + wr·z(r) − A·z(v)| is at most A × the bound of i.
abbrev pub Wedge : Ground → Type 0
Wedge g = (i : ℕ) → 2 ≤ i → i < end g.order → (v : Point) (wa wl wr : ℕ)
    → Mean v (corners g.order i) wa wl wr → wa + wl + wr ≡ area (corners g.order i)
    → 2 * apart (wa * g.heights (corners g.order i).apex + wl * g.heights (corners g.order i).left + wr * g.heights (corners g.order i).right)
    (area (corners g.order i) * g.heights v)
    ≤ area (corners g.order i) * g.bounds i

-- The bounds of the map g are the measured ones.
abbrev pub Measured : Ground → Type 0
Measured g = (i : ℕ) → 2 ≤ i → i < end g.order → g.bounds i ≡ measured g.order g.heights i

-- Measuring the draft s: the bounds cover, so that none passes the limit, and no bounds that cover are less; each splittable triangle's bound is
-- its offset plus the greater bound of its halves.
pub record MeasureLaws (s : Sketch) : Type 0 where
  pub covers : Covered (measuring s)
  pub least : (b : Bounds) → Covers s.order s.heights b → (i : ℕ) → 2 ≤ i → i < end s.order → (measuring s).bounds i ≤ b i
  pub sums : (i : ℕ) → 2 ≤ i → i < first_finest s.order
      → (measuring s).bounds i ≡ offset s.order s.heights i + max ((measuring s).bounds (2 * i)) ((measuring s).bounds (2 * i + 1))

-- Triangle i is the highest-numbered of g whose bound passes the limit.
pub record Passes (g : Ground) (i : ℕ) : Type 0 where
  pub low : 2 ≤ i
  pub high : i < end g.order
  pub passes : limit < g.bounds i
  pub highest : (j : ℕ) → i < j → j < end g.order → g.bounds j ≤ limit

-- Carving the sample p of the map g to the height h.
pub record CarveLaws (p : Point) (h : ℕ) (g : Ground) : Type 0 where
  -- A splittable triangle whose closed region holds p gets its offset plus the greater new bound of its halves,
  pub holding : (i : ℕ) → 2 ≤ i → i < first_finest g.order → LiesIn p (corners g.order i)
      → (carved p h g).bounds i ≡ offset g.order (carved p h g).heights i + max ((carved p h g).bounds (2 * i)) ((carved p h g).bounds (2 * i + 1))
  -- and no other bound changes.
  pub other : (i : ℕ) → (2 ≤ i → i < first_finest g.order → LiesIn p (corners g.order i) → ⊥) → (carved p h g).bounds i ≡ g.bounds i
  -- Measured bounds stay measured.
  pub stays_measured : Measured g → Measured (carved p h g)
  -- If no new bound passes the limit, the carved map is what is given; it covers if the map before it did.
  pub gives : is_sample g.order p ≡ true → ((i : ℕ) → 2 ≤ i → i < end g.order → (carved p h g).bounds i ≤ limit) → carving p h g ≡ given (carved p h g)
  pub covers : Covered g → ((i : ℕ) → 2 ≤ i → i < end g.order → (carved p h g).bounds i ≤ limit) → Covered (carved p h g)
  -- Otherwise refusal 9 names the highest-numbered triangle whose new bound passes it.
  pub refuses : is_sample g.order p ≡ true → (i : ℕ) → Passes (carved p h g) i → carving p h g ≡ refused (refusal 9 (i ∷ []))
