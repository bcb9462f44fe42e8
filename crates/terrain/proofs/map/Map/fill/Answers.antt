-- Checked before anything is written: the source's map covers.
use Rattle.std.proofs.Common.{sym, subst}
use Rattle.terrain.specs.Laws.{Covered}
use Rattle.terrain.proofs.Fillings.{none_covered, fill_laws}
use Rattle.terrain.proofs.map.Map.fill.Goals as goal

pub invariant_of-self : goal.invariant_of-self
invariant_of-self g c =
    let k = subst Covered (sym c.fill.ensures)
    (none_covered c.args.order.n (g.S.Relief.heights c.args.source.now) (g.S.Relief.bounds c.args.source.now) c.in_ok-check.ensures) in
    record { finest = k.finest; limited = k.limited; above = k.above }

pub returns-clause-laws : goal.returns-clause-laws
returns-clause-laws g c = fill_laws c.args.order.n _ _

pub returns-in_err-check-clause-laws : goal.returns-in_err-check-clause-laws
returns-in_err-check-clause-laws g c = fill_laws c.args.order.n _ _
