use Rattle.std.proofs.Common.{ℕ, ap, ◌∙◌, arith}
use Rattle.mesh.specs.Sets.{halve}
use Rattle.mesh.specs.TriangleSet.{triangles_in}
use Rattle.mesh.proofs.Flags.{halves_fit, halve_flags}
use Rattle.mesh.proofs.mesh.triangle_set.TriangleSet.halve.Goals as goal

pub returns : goal.returns
returns c =
    let s = c.args.self.now in
    halve_flags s.flags.items _ (omega (arith, c.args.t.low)) (omega (arith, halves_fit c.args.t c.requires.splittable, s.flags.ok.0)) ∙ ap (λ (i : ℕ). halve i (triangles_in s)) c.number-i.ensures
