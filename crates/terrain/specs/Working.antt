-- What the inner steps of measuring and carving promise each other.
use Rattle.std.specs.Prelude.{◌≡◌, ℕ, ◌*◌, ◌<◌, ◌≤◌, Bool, ◌⊎◌, List, Some, None, Option, unwrap_or, IfSome, MatchOption}
use Rattle.bintree.specs.declared.point.Point.{Point}
use Rattle.bintree.specs.Orders.{is_splittable}
use Rattle.bintree.specs.Meshes.{Within}
use Rattle.terrain.specs.Bounds.{Bounds, offset, limit, worked_out}
use Rattle.terrain.specs.Carving.{reached, highest_passing}
use Rattle.terrain.specs.Tables.{heights_in, bounds_in}

-- The triangles of order n whose bounds are due to be worked out anew: those that hold a sample, or all splittable ones where none is given.
abbrev pub due : Option Point → ℕ → ℕ → Bool
due None n = is_splittable n
due (Some p) n = reached n p

-- The bounds worked out anew, from the lists of heights and of bounds.
unfoldable pub new_bounds : Option Point → ℕ → List ℕ → List ℕ → Bounds
new_bounds around n zs bs = worked_out (due around n) (offset n (heights_in n zs)) (bounds_in n bs) (2 * n)

-- Halfway through, each bound of the table is the old one or the new one.
abbrev pub Mixed : Bounds → Bounds → Bounds → Type 0
Mixed old new now_there = (j : ℕ) → (now_there j ≡ old j) ⊎ (now_there j ≡ new j)

-- A triangle's number, 0 for none.
abbrev pub or_zero : Option ℕ → ℕ
or_zero o = unwrap_or o 0

-- The answer names the highest-numbered triangle of order n whose bound passes the limit, or is none where there is none.
abbrev pub NamesPassing : ℕ → Bounds → Option ℕ → Type 0
NamesPassing n b answer = MatchOption answer (highest_passing n b ≡ 0) (λ i. (0 < i) × (i ≡ highest_passing n b))

-- Triangle i is settled: it and all that descend from it have their new bounds, and no other bound has changed but to its new one. Besides,
-- `bound` is the new bound of i, and `passing` the highest-numbered of those triangles whose new bound passes the limit.
pub record Settles (new before after : Bounds) (i bound : ℕ) (passing : Option ℕ) : Type 0 where
  pub value : bound ≡ new i
  pub kept : (j : ℕ) → (after j ≡ before j) ⊎ (after j ≡ new j)
  pub done : (j : ℕ) → Within j i → after j ≡ new j
  pub last : (j : ℕ) → Within j i → limit < new j → j ≤ or_zero passing
  pub real : IfSome passing (λ k. limit < new k)
