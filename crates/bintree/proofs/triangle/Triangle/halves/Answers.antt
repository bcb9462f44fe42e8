use Rattle.std.proofs.Common.{arith}
use Rattle.bintree.proofs.Numbers.{end_twice}
use Rattle.bintree.proofs.triangle.Triangle.halves.Goals as goal

pub at-low-requires-clause-high : goal.at-low-requires-clause-high
at-low-requires-clause-high c = omega (arith, end_twice c.args.self.order.n)

pub at-high-requires-clause-high : goal.at-high-requires-clause-high
at-high-requires-clause-high c = omega (arith, end_twice c.args.self.order.n)

-- (The check finds this alone; it is written so that an edit is refused at a fact.)
pub returns : goal.returns
returns c = (omega (arith, c.first_finest.ensures.value), c.at-low.ensures, c.at-high.ensures)
