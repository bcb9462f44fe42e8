-- The doubled area of a triangle is 2^(2n − level), so the corners of every triangle stand counterclockwise.
use Rattle.std.proofs.Common.{◌≡◌, ℕ, zero, suc, ◌+◌, ◌-◌, ◌*◌, ◌/◌, ◌%◌, ◌^◌, ◌≤◌, refl, ap, ◌∙◌, arith, pow_pos, pow-add}
use Rattle.bintree.specs.declared.point.Corners.{Corners}
use Rattle.bintree.specs.Samples.{rising, falling, area}
use Rattle.bintree.proofs.Tree.{Node, depth, place}
use Rattle.bintree.proofs.Shape.{Turn, q0, q1, q2, q3, legged, based, at_even, at_odd}
use Rattle.bintree.proofs.Inside.{Turning}

-- the rising products are w more than the falling ones
abbrev Exceeds : Corners → ℕ → Type 0
Exceeds t w = rising t.apex t.left t.right ≡ w + falling t.apex t.left t.right

exceeds_legged : (o : Turn) (h x y : ℕ) → Exceeds (legged o h x y) (h * h)
exceeds_legged q0 h x y = omega arith
exceeds_legged q1 h x y = omega arith
exceeds_legged q2 h x y = omega arith
exceeds_legged q3 h x y = omega arith

exceeds_based : (o : Turn) (h x y : ℕ) → Exceeds (based o h x y) (2 * (h * h))
exceeds_based q0 h x y = omega arith
exceeds_based q1 h x y = omega arith
exceeds_based q2 h x y = omega arith
exceeds_based q3 h x y = omega arith

exceeds : (n : ℕ) (t : Node) → depth t ≤ 2 * n → Exceeds (place (2 ^ n) t) (2 ^ (2 * n - depth t))
exceeds n t h = go ((2 * n - depth t) % 2) refl
  where
    go : (b : ℕ) → (2 * n - depth t) % 2 ≡ b → Exceeds (place (2 ^ n) t) (2 ^ (2 * n - depth t))
    go zero z =
        let m = (2 * n - depth t) / 2 in
        let e = at_even n t m (omega arith) in
        let k : 2 ^ (2 * n - depth t) ≡ 2 ^ m * 2 ^ m = ap (λ (i : ℕ). 2 ^ i) (omega arith) ∙ pow-add 2 m m in
        rw (e.is, k) (exceeds_legged e.turn (2 ^ m) e.px e.py)
    go (suc b) z =
        let m = (2 * n - depth t) / 2 in
        let e = at_odd n t m (omega arith) in
        let k : 2 ^ (2 * n - depth t) ≡ 2 * (2 ^ m * 2 ^ m) = ap (λ (i : ℕ). 2 ^ i) (omega arith) ∙ (pow-add 2 1 (m + m) ∙ ap (λ (i : ℕ). 2 * i) (pow-add 2 m m)) in
        rw (e.is, k) (exceeds_based e.turn (2 ^ m) e.px e.py)

pub area_of : (n : ℕ) (t : Node) → depth t ≤ 2 * n → area (place (2 ^ n) t) ≡ 2 ^ (2 * n - depth t)
unfolding area
area_of n t h = omega (arith, exceeds n t h)

pub turning : (n : ℕ) (t : Node) → depth t ≤ 2 * n → Turning (place (2 ^ n) t)
turning n t h = record { turning = omega (arith, exceeds n t h, pow_pos (2 * n - depth t)) }
