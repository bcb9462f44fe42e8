-- Measured bounds cover.
use Rattle.std.proofs.Common.{sym, subst}
use Rattle.terrain.specs.Laws.{Covered}
use Rattle.terrain.proofs.map.Map.of_heights.Goals as goal

pub invariant_of-result : goal.invariant_of-result
invariant_of-result c =
    let k = subst Covered (sym c.measure.ensures.value) c.measure.ensures.laws.covers in
    record { finest = k.finest; limited = k.limited; above = k.above }
