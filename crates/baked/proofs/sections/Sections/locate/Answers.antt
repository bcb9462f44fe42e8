-- The check finds this too; but here the edit that has sections which touch refused fails by values, and not at a limit of the search.
use Rattle.std.proofs.Common.{arith}
use Rattle.std.proofs.lemmas.Bool.Decides.{nat_tests}
use Rattle.baked.proofs.sections.Sections.locate.Goals as goal

pub returns-then-bounds-heights : goal.returns-then-bounds-heights
returns-then-bounds-heights c = grind (arith, nat_tests)
