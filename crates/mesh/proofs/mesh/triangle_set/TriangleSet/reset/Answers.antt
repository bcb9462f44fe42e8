use Rattle.std.proofs.Common.{ℕ, false, replicate, ap, ◌∙◌, arith}
use Rattle.mesh.proofs.Flags.{roots_flags}
use Rattle.mesh.proofs.mesh.triangle_set.TriangleSet.reset.Goals as goal

pub returns : goal.returns
returns c = roots_flags _ 16384 (c.fill.ensures.items (λ b e. e) ∙ ap (λ (n : ℕ). replicate n false) c.args.self.now.room) (omega arith)
