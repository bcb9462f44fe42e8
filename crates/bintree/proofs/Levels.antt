-- The level read off the leading zeros: both place the number between the same powers of two.
use Rattle.std.proofs.Common.{◌≡◌, ℕ, suc, ◌+◌, ◌-◌, ◌^◌, ◌<◌, ◌≤◌, ◌⊎◌, inl, inr, arith, pow_mono}
use lib.Count.{count_leading_zeros, leading_top}
use Rattle.std.proofs.lemmas.Bool.{cases_lt}
use Rattle.bintree.specs.Triangles.{level}
use Rattle.bintree.proofs.Laws.{level_laws}

exponent_less : (a b : ℕ) → 2 ^ a < 2 ^ b → a < b
exponent_less a b h = go (cases_lt a b)
  where
    go : (a < b) ⊎ (b ≤ a) → a < b
    go (inl z) = z
    go (inr z) = absurd (omega (arith, pow_mono {i = b} {j = a} z))

pub level_read : (i : ℕ) → 2 ≤ i → i < 2 ^ 32 → (count_leading_zeros 32 i ≤ 30) × (30 - count_leading_zeros 32 i ≡ level i)
level_read i l u =
    let t = leading_top 32 i (omega arith) u in
    let v = level_laws i l in
    let p = exponent_less t.0 (level i + 2) (omega (arith, t.2, v.high)) in
    let q = exponent_less (level i + 1) (suc t.0) (omega (arith, t.3, v.low)) in
    (omega (arith, t.1), omega (arith, t.1))
