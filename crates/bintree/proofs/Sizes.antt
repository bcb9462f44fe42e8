-- The sizes of a square, of order at most 6.
use Rattle.std.proofs.Common.{ℕ, ◌+◌, ◌*◌, ◌≤◌, arith, pow_mono}
use Rattle.bintree.specs.Orders.{side, first_finest, end}

pub side_bound : (n : ℕ) → n ≤ 6 → side n ≤ 64
side_bound n h = pow_mono {i = n} {j = 6} h

pub first_finest_bound : (n : ℕ) → n ≤ 6 → first_finest n ≤ 8192
unfolding first_finest
first_finest_bound n h = pow_mono {i = 2 * n + 1} {j = 13} (omega arith)

pub end_bound : (n : ℕ) → n ≤ 6 → end n ≤ 16384
unfolding end
end_bound n h = pow_mono {i = 2 * n + 2} {j = 14} (omega arith)

-- the splittable triangles start at 2
pub from_two : (n : ℕ) → 2 ≤ first_finest n
unfolding first_finest
from_two n = pow_mono {i = 1} {j = 2 * n + 1} (omega arith)
