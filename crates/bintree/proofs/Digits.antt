-- The leading digits of a number name the triangles above it: all but the lowest `level i` a root, and one digit more each time a half of the triangle before.
use Rattle.std.proofs.Common.{◌≡◌, ℕ, suc, ◌*◌, ◌/◌, ◌^◌, ◌+◌, ◌<◌, ◌≤◌, ap, ◌∙◌, arith, pow_mono, pow-add, le-div_iff_mul-le}
use Rattle.std.proofs.Math.Nat.{div-lt_iff_lt-mul}
use Rattle.std.proofs.lemmas.Nat.{pow_pos}
use native.Mathlib.Nat.{div-div-eq-div-mul}
use Rattle.bintree.specs.Triangles.{level}
use Rattle.bintree.proofs.Laws.{level_laws}

pub digit_more : (i k : ℕ) → i / 2 ^ k / 2 ≡ i / 2 ^ suc k
digit_more i k = div-div-eq-div-mul i (2 ^ k) 2 ∙ ap (λ (z : ℕ). i / z) (omega arith)

raised : (k m : ℕ) → 2 ^ (k + m) ≡ 2 ^ m * 2 ^ k
raised k m = pow-add 2 k m ∙ omega arith

pub root_above : (i : ℕ) → 2 ≤ i → (2 ≤ i / 2 ^ level i) × (i / 2 ^ level i < 4)
root_above i l =
    let v = level_laws i l in
    let low : 2 * 2 ^ level i ≤ i = omega (arith, v.low, raised (level i) 1) in
    let high : i < 4 * 2 ^ level i = omega (arith, v.high, raised (level i) 2) in
    ((le-div_iff_mul-le (pow_pos (level i))).1 low, (div-lt_iff_lt-mul (pow_pos (level i))).1 high)

pub half_above : (i k : ℕ) → 2 ≤ i → k < level i → 4 ≤ i / 2 ^ k
half_above i k l h =
    let low : 4 * 2 ^ k ≤ i = omega (arith, (level_laws i l).low, raised (level i) 1, pow_mono {i = suc k} {j = level i} h) in
    (le-div_iff_mul-le (pow_pos k)).1 low
