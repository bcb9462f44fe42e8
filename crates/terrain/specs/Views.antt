-- What the code's values stand for.
use Rattle.std.specs.Prelude.{vec_items}
use Rattle.bintree.specs.Views.{order_value}
use Rattle.terrain.specs.declared.table.Table.{Table}
use Rattle.terrain.specs.declared.draft.Draft.{Draft}
use Rattle.terrain.specs.declared.map.Map.{Map}
use Rattle.terrain.specs.Tables.{heights_in, bounds_in}
use Rattle.terrain.specs.Grounds.{Sketch, Ground}

-- The heights and the bounds that a table holds at its order.
abbrev pub table_view : Table → Ground
table_view t = record {
  order = order_value t.order;
  heights = heights_in (order_value t.order) (vec_items t.heights);
  bounds = bounds_in (order_value t.order) (vec_items t.bounds);
}

-- The heights alone.
abbrev pub sketch_view : Table → Sketch
sketch_view t = record { order = order_value t.order; heights = heights_in (order_value t.order) (vec_items t.heights) }

-- What a draft stands for.
abbrev pub draft_view : Draft → Sketch
draft_view d = sketch_view d.table

-- What a map stands for.
abbrev pub map_view : Map → Ground
map_view m = table_view m.table
