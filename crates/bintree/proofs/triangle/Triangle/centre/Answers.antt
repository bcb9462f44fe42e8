use Rattle.std.proofs.Common.{ap, ◌∙◌, arith}
use Rattle.bintree.specs.Triangles.{centre}
use Rattle.bintree.proofs.Laws.{same_centre}
use Rattle.bintree.proofs.triangle.Triangle.centre.Goals as goal

pub returns-then-self-first_finest : goal.returns-then-self-first_finest
returns-then-self-first_finest c = record { value = omega arith; laws = same_centre c.args.self.order.n }

pub returns : goal.returns
returns c = record { value = (omega arith, c.middle.ensures ∙ ap centre c.corners-t.ensures.value); laws = same_centre c.args.self.order.n }
