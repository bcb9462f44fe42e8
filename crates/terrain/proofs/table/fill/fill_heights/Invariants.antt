-- The rows before the one in turn are written, and of that row the samples before the one in turn.
use Rattle.terrain.proofs.Fillings.{Rows}
use Rattle.terrain.proofs.table.fill.fill_heights.Given as goal

abbrev pub invariant-loop-x : goal.invariant-loop-x
invariant-loop-x g l = Rows (g.S.Relief.heights l.source) l.end l.y l.x l.rows

abbrev pub invariant-loop-y : goal.invariant-loop-y
invariant-loop-y g l = Rows (g.S.Relief.heights l.source) l.end l.y 0 l.rows
