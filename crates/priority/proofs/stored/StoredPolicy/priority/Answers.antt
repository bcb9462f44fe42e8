use Rattle.std.proofs.Common.{◌∙◌}
use Rattle.terrain.specs.Views.{map_view}
use Rattle.priority.proofs.Asked.{bound_or_none}
use Rattle.priority.proofs.stored.StoredPolicy.priority.Goals as goal

pub returns : goal.returns
returns c = record {
  value = c.unwrap_or.ensures ∙ bound_or_none (map_view c.args.self.now.map.now) c.args.triangle c.bound.result c.bound.ensures.value;
  wedge = c.bound.ensures.wedge;
}
