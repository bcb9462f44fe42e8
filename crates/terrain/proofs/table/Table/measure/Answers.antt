-- The bounds that were worked out everywhere over a table of zeros are the measured ones.
use Rattle.std.proofs.Common.{vec_items, ap, ◌∙◌, arith}
use Rattle.terrain.specs.Bounds.{Bounds}
use Rattle.terrain.specs.Tables.{bounds_in}
use Rattle.terrain.proofs.Measuring.{measure_laws}
use Rattle.terrain.proofs.Places.{bounds_blank, heights_small}
use Rattle.terrain.proofs.Due.{new_measured}
use Rattle.terrain.proofs.Replies.{measures}
use Rattle.terrain.proofs.table.Table.measure.Goals as goal

pub settle-requires : goal.settle-requires
settle-requires c =
    let n = c.args.self.now.order.n in
    let blank = ap (bounds_in n) (c.fill.ensures.items (λ y e. e)) ∙ bounds_blank n _ in
    record { limited = λ i p q. let e = ap (λ (b : Bounds). b i) blank in omega arith }

pub returns-clause-value : goal.returns-clause-value
returns-clause-value c =
    let n = c.args.self.now.order.n in
    let blank = ap (bounds_in n) (c.fill.ensures.items (λ y e. e)) ∙ bounds_blank n _ in
    measures c.args.self.now _ _ _ c.settle.ensures.order (ap vec_items c.settle.ensures.heights)
    (ap (λ (v : _). bounds_in n (vec_items v)) c.swap.ensures.x_after ∙ (c.settle.ensures.new ∙ new_measured n _ _ blank))

pub returns-clause-laws : goal.returns-clause-laws
returns-clause-laws c = measure_laws _ c.args.self.now.order.high (heights_small c.args.self.now.order.n _ 65535 c.settle.ensures.small)
