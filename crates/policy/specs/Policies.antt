-- What a policy means, and the law that it keeps.
use Rattle.std.specs.Prelude.{ℕ, ◌+◌, ◌*◌, ◌≤◌, ◌<◌, ◌≡◌, false}
use Rattle.bintree.specs.Orders.{first_finest, is_triangle}

-- The largest priority there is.
abbrev pub highest_priority : ℕ
highest_priority = 4294967295

-- A policy means an order n, and for each triangle i of that order a number, its priority. This is what every policy keeps.
pub record Lawful (n : ℕ) (number : ℕ → ℕ) : Type 0 where
  -- n is an order: 1 to 6.
  pub order_low : 1 ≤ n
  pub order_high : n ≤ 6
  -- A priority is a number from 0 to 4,294,967,295,
  pub limited : (i : ℕ) → number i ≤ highest_priority
  -- and 0 for a number that is no triangle of the order.
  pub none : (i : ℕ) → is_triangle n i ≡ false → number i ≡ 0
  -- The law: a half's number is never above its parent's.
  pub low_half : (i : ℕ) → 2 ≤ i → i < first_finest n → number (2 * i) ≤ number i
  pub high_half : (i : ℕ) → 2 ≤ i → i < first_finest n → number (2 * i + 1) ≤ number i
