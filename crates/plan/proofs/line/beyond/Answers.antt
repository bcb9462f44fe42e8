-- Each point is tested in turn. (The check finds this alone; it is written so that an edit is refused at a fact.)
use Rattle.std.proofs.Common.{rules}
use Rattle.std.proofs.lemmas.Iterator.{YieldsList-from_slice}
use Rattle.std.proofs.lemmas.Iterator.Search.{all_from_yields_List}
use Rattle.plan.specs.Lines.{beyond}
use Rattle.plan.proofs.line.beyond.Goals as goal

pub returns : goal.returns
returns c = all_from_yields_List (beyond c.args.way.from c.args.way.to) _ _ _ c.all.ensures.ran (YieldsList-from_slice c.args.points.now cc) (λ x b q k. search rules)
