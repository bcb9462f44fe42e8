use Rattle.std.proofs.Common.{◌∙◌, arith}
use Rattle.bintree.proofs.Laws.{corner_laws}
use Rattle.bintree.proofs.Descent.{corners_two, corners_three}
use Rattle.bintree.proofs.triangle.Triangle.+corners.Goals as goal

pub returns-then-self-eq2 : goal.returns-then-self-eq2
returns-then-self-eq2 t c = record {
  value = c.root.ensures ∙ corners_two c.args.self.order.n _ c.args.self.number (omega arith) c.side-side.ensures.value;
  laws = corner_laws c.args.self.order.n;
}

pub returns-else-self-eq2 : goal.returns-else-self-eq2
returns-else-self-eq2 t c = record {
  value = c.root-else-self-eq2.ensures ∙ corners_three c.args.self.order.n _ c.args.self.number (omega (arith, c.in-None.ensures)) c.side-side.ensures.value;
  laws = corner_laws c.args.self.order.n;
}
