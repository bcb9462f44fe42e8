-- What the rule means.
use Rattle.std.specs.Prelude.{ℕ, cond, nat_lt}
use Rattle.bintree.specs.Triangles.{level}
use Rattle.numbering.specs.Rules.{on_triangles}

-- A policy of order n with the numbers f, kept to the levels below k: deeper triangles have 0.
abbrev pub shallow : ℕ → ℕ → (ℕ → ℕ) → ℕ → ℕ
shallow k n f = on_triangles n (λ i. cond (nat_lt (level i) k) (f i) 0)
