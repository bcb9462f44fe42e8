-- The orders of a square, and which numbers are triangles of it.
use Rattle.std.specs.Prelude.{ℕ, ◌+◌, ◌*◌, ◌^◌, Bool, ◌&&◌, nat_le, nat_lt}

-- An order is a number from 1 to 6.
abbrev pub is_order : ℕ → Bool
is_order n = nat_le 1 n && nat_le n 6

-- A square of order n has 2^n spacings a side. Its samples stand at the whole points (x, y), x and y from 0 to 2^n.
abbrev pub side : ℕ → ℕ
side n = 2 ^ n

-- Its triangles have the numbers from 2 to before end n.
unfoldable pub end : ℕ → ℕ
end n = 2 ^ (2 * n + 2)

abbrev pub is_triangle : ℕ → ℕ → Bool
is_triangle n i = nat_le 2 i && nat_lt i (end n)

-- From first_finest n on they are the finest, which are never split; the others are splittable.
unfoldable pub first_finest : ℕ → ℕ
first_finest n = 2 ^ (2 * n + 1)

abbrev pub is_splittable : ℕ → ℕ → Bool
is_splittable n i = nat_le 2 i && nat_lt i (first_finest n)
