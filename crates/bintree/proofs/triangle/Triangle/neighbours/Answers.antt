use Rattle.std.proofs.Common.{◌≡◌, ℕ, ◌-◌, ◌/◌, ◌^◌, ◌<◌, ◌≤◌, ◌%◌, ◌==◌, ap, ◌∙◌, sym, subst, arith, div-le_self, div-one}
use Rattle.bintree.specs.Triangles.{level}
use Rattle.bintree.specs.Neighbours.{neighbours, around_half, BelowTwice}
use Rattle.bintree.proofs.Sizes.{end_bound}
use Rattle.bintree.proofs.Levels.{level_read}
use Rattle.bintree.proofs.Digits.{digit_more, root_above, half_above}
use Rattle.bintree.proofs.Descent.{neighbours_root, neighbours_half}
use Rattle.bintree.proofs.triangle.Triangle.neighbours.Goals as goal

-- one digit more than k - 1
more : (i k : ℕ) → 0 < k → i / 2 ^ (k - 1) / 2 ≡ i / 2 ^ k
more i k h = digit_more i (k - 1) ∙ ap (λ (z : ℕ). i / 2 ^ z) (omega arith)

shallow : (i m : ℕ) → 2 ≤ i → i < 16384 → m ≡ level i → m < 32
shallow i m l h e = omega (arith, (level_read i l (omega arith)).0, (level_read i l (omega arith)).1)

pub overflow_shr-self : goal.overflow_shr-self
overflow_shr-self c = shallow c.args.self.number _ (omega arith) (omega (arith, end_bound c.args.self.order.n (omega arith))) c.level-level.ensures.value

-- all digits but those below the level are left: a root
root : (i m : ℕ) → 2 ≤ i → m ≡ level i → (2 ≤ i / 2 ^ m) × (i / 2 ^ m < 4)
root i m l e = subst (λ (k : ℕ). (2 ≤ i / 2 ^ k) × (i / 2 ^ k < 4)) (sym e) (root_above i l)

pub of_root-near-requires : goal.of_root-near-requires
of_root-near-requires c = let r = root c.args.self.number _ (omega arith) c.level-level.ensures.value in record { low = r.0; high = r.1 }

pub loop-below-init : goal.loop-below-init
loop-below-init c =
    let r = root c.args.self.number _ (omega arith) c.level-level.ensures.value in
    (c.of_root-near.ensures.value ∙ neighbours_root _ r.0 r.1, c.of_root-near.ensures.bound)

pub overflow_shr-self-in-loop-below : goal.overflow_shr-self-in-loop-below
overflow_shr-self-in-loop-below c = omega (arith, c.loop-below.auto.below, shallow c.args.self.number _ (omega arith) (omega (arith, end_bound c.args.self.order.n (omega arith))) c.level-level.ensures.value)

pub of_half-near-requires-clause-low : goal.of_half-near-requires-clause-low
of_half-near-requires-clause-low c = half_above c.args.self.number _ (omega arith) (omega (arith, c.loop-below.auto.below, c.level-level.ensures.value))

pub of_half-near-requires-clause-high : goal.of_half-near-requires-clause-high
of_half-near-requires-clause-high c = omega (arith, div-le_self c.args.self.number (2 ^ (c.loop-below.below - 1)), end_bound c.args.self.order.n (omega arith))

pub of_half-near-requires-clause-bound : goal.of_half-near-requires-clause-bound
of_half-near-requires-clause-bound c = subst (λ (j : ℕ). BelowTwice j c.loop-below.near) (sym (more c.args.self.number c.loop-below.below (omega arith))) c.loop-below.invariant.1

pub loop-below-preserved : goal.loop-below-preserved
loop-below-preserved c =
    let i = c.args.self.number in
    let k = c.loop-below.below - 1 in
    let up : c.loop-below.near ≡ neighbours (i / 2 ^ k / 2) = c.loop-below.invariant.0 ∙ ap neighbours (sym (more i c.loop-below.below (omega arith))) in
    let half = half_above i k (omega arith) (omega (arith, c.level-level.ensures.value)) in
    (c.of_half-near.ensures.value ∙ (ap (around_half (i / 2 ^ k % 2 == 0) (i / 2 ^ k)) up ∙ sym (neighbours_half (i / 2 ^ k) half)), c.of_half-near.ensures.bound)

pub returns : goal.returns
returns c =
    let last : c.loop-below.below ≡ 0 = omega arith in
    let e : c.args.self.number / 2 ^ c.loop-below.below ≡ c.args.self.number = ap (λ (z : ℕ). c.args.self.number / 2 ^ z) last ∙ div-one _ in
    record {
      value = c.loop-below.invariant.0 ∙ ap neighbours e;
      bound = subst (λ (j : ℕ). BelowTwice j c.loop-below.near) e c.loop-below.invariant.1;
    }
