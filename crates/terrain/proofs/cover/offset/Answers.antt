-- The ends and the centre of the base are samples, so the source's heights there count.
use Rattle.std.proofs.Common.{◌∙◌}
use Rattle.std.proofs.lemmas.Option.{MatchOption-at_some}
use Rattle.terrain.proofs.Fillings.{offset_read}
use Rattle.terrain.proofs.cover.offset.Goals as goal

pub returns-clause-value : goal.returns-clause-value
returns-clause-value g c =
    let k = MatchOption-at_some _ _ _ c.unwrap-centre.ensures c.centre.ensures.value in
    c.abs_diff.ensures
    ∙ offset_read c.args.t.order.n c.args.t.number (g.S.Relief.heights c.args.source.now) c.corners-ends.result c.unwrap-centre.result _ _ _
    c.corners-ends.ensures.value k.1
    (c.from-twice.ensures ∙ c.height.ensures) (c.from.ensures ∙ c.height-2.ensures) (c.from-2.ensures ∙ c.height-3.ensures)
