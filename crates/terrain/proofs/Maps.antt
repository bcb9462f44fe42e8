-- A map's bounds cover its heights: that is what its invariant says.
use Rattle.terrain.specs.declared.map.Map.{Map}
use Rattle.terrain.specs.Laws.{Covered}
use Rattle.terrain.specs.Views.{map_view}

pub map_covers : (m : Map) → Covered (map_view m)
map_covers m = record { finest = m.finest; limited = m.limited; above = m.above }
