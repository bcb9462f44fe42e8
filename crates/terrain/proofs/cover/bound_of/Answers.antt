-- A finest triangle has bound 0; of any other the source is asked.
use Rattle.std.proofs.Common.{sym, ap, ◌∙◌}
use Rattle.terrain.proofs.Fillings.{bounding_splittable, bounding_finest}
use Rattle.terrain.proofs.cover.bound_of.Goals as goal

pub returns-in-None : goal.returns-in-None
returns-in-None g c = sym (bounding_finest c.args.t.order.n (g.S.Relief.bounds c.args.source.now) c.args.t.number c.in-None.ensures)

pub returns-in-Some : goal.returns-in-Some
returns-in-Some g c =
    let b = g.S.Relief.bounds c.args.source.now in
    c.bound.ensures
    ∙ (ap b c.number.ensures
    ∙ sym (bounding_splittable c.args.t.order.n b c.args.t.number c.args.t.low c.in-Some.ensures.0))
