-- The rule keeps the law: a half is one level deeper than its parent, so where the half keeps its number the parent keeps its own.
use Rattle.std.specs.Prelude.{ℕ, nat_lt}
use Rattle.std.proofs.Common.{arith}
use Rattle.std.proofs.lemmas.Bool.{ltb-true, lt-ltb}
use Rattle.bintree.specs.Triangles.{level}
use Rattle.policy.specs.Policies.{Lawful}
use Rattle.numbering.proofs.Keeping.{level_of_half, masked_keeps}
use Rattle.studio_rule.specs.Shallow.{shallow}

pub shallow_keeps : (k n : ℕ) (f : ℕ → ℕ) → Lawful n f → Lawful n (shallow k n f)
shallow_keeps k n f law =
    masked_keeps n f law (λ i. nat_lt (level i) k)
    (λ i j p q half below. lt-ltb (level i) k (omega (arith, ltb-true (level j) k below, level_of_half i j p half)))
