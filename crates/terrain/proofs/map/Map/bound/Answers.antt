-- A map's bounds cover, so the wedge holds of them.
use Rattle.terrain.specs.Views.{map_view}
use Rattle.terrain.proofs.Maps.{map_covers}
use Rattle.terrain.proofs.Wedges.{wedge}
use Rattle.terrain.proofs.map.Map.bound.Goals as goal

pub returns-clause-wedge : goal.returns-clause-wedge
returns-clause-wedge c = let m = c.args.self.now in wedge (map_view m) (map_covers m)
