-- The neighbours of a triangle, by recursion from the roots. (That the one across the base is the partner is a law of its call.)
use Rattle.std.specs.Prelude.{ℕ, zero, suc, ◌+◌, ◌-◌, ◌*◌, ◌/◌, ◌%◌, ◌<◌, Bool, true, false, ◌==◌, nat_lt, Some, None, Option, IfSome}
use Rattle.std.specs.Option.{option_map}
use Rattle.bintree.specs.declared.triangle.neighbours.Neighbours.{Neighbours}

-- The triangles of the same level across the base, the left edge and the right edge, by their numbers.
abbrev pub around : Option ℕ → Option ℕ → Option ℕ → Neighbours
around b l r = record { base = b; left = l; right = r }

-- The low and the high half of a neighbour, where there is one.
abbrev pub low_of : Option ℕ → Option ℕ
low_of = option_map (λ k. 2 * k)

abbrev pub high_of : Option ℕ → Option ℕ
high_of = option_map (λ k. 2 * k + 1)

-- The two roots have each other across their bases, and no other neighbour.
abbrev pub around_root : ℕ → Neighbours
around_root i = around (Some (5 - i)) None None

-- A half has its twin beside it on one leg; on its other leg and its base lie halves of the parent's neighbours.
abbrev pub around_half : Bool → ℕ → Neighbours → Neighbours
around_half true i up = around (high_of up.left) (Some (i + 1)) (high_of up.base)
around_half false i up = around (low_of up.right) (low_of up.base) (Some (i - 1))

-- The neighbours of triangle i. (k bounds the depth, and i always suffices.)
abbrev pub neighbours_at : ℕ → ℕ → Neighbours
neighbours_at zero i = around_root i
neighbours_at (suc k) i = elim (nat_lt i 4) [ true ↦ around_root i | false ↦ around_half (i % 2 == 0) i (neighbours_at k (i / 2)) ]

unfoldable pub neighbours : ℕ → Neighbours
neighbours i = neighbours_at i i

-- The numbers of neighbours are below twice the triangle's own.
pub record BelowTwice (i : ℕ) (s : Neighbours) : Type 0 where
  pub base : IfSome s.base (λ k. k < 2 * i)
  pub left : IfSome s.left (λ k. k < 2 * i)
  pub right : IfSome s.right (λ k. k < 2 * i)
