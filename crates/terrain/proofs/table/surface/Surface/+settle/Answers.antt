-- A triangle that is not due is settled as it stands; any other from its halves.
use Rattle.std.proofs.Common.{ap, ◌∙◌, arith}
use Rattle.bintree.proofs.Sizes.{end_bound}
use Rattle.terrain.specs.Heights.{Heights}
use Rattle.terrain.specs.Bounds.{offset}
use Rattle.terrain.proofs.Places.{heights_small}
use Rattle.terrain.proofs.Fillings.{list_sampled}
use Rattle.terrain.proofs.Settlings.{settles_read, settles_more, sum_fits}
use Rattle.terrain.proofs.table.surface.Surface.+settle.Goals as goal

pub returns-in_default : goal.returns-in_default
returns-in_default t c =
    let s = c.args.self.now in
    settles_read c.args.around c.args.t.order.n s.heights.now s.bounds.now c.args.scratch.now c.args.t.number _ _ c.args.t.low c.args.t.high
    c.in_default.ensures c.requires.limited c.requires.mixed c.number-number.ensures c.bound.ensures

pub overflow_add-bound : goal.overflow_add-bound
overflow_add-bound t c =
    let n = c.args.t.order.n in
    let s = c.args.self.now in
    let h = c.in-Some.ensures in
    let heights = heights_small n s.heights.now 65535 s.small in
    let fits = sum_fits c.args.around n s.heights.now s.bounds.now in
    let low = fits _ _ _ _ _ _ _ c.args.t.order.high heights c.requires.limited c.offset.ensures.bound h.1.0 c.settle-low.ensures in
    let high = fits _ _ _ _ _ _ _ c.args.t.order.high heights c.requires.limited c.offset.ensures.bound h.2.0 c.settle-high.ensures in
    omega (arith, c.max.ensures)

pub bounds-scratch-number : goal.bounds-scratch-number
bounds-scratch-number t c = omega (arith, c.number-number.ensures, end_bound c.args.t.order.n c.args.t.order.high)

pub returns : goal.returns
returns t c =
    let n = c.args.t.order.n in
    let s = c.args.self.now in
    let h = c.in-Some.ensures in
    settles_more c.args.around n s.heights.now s.bounds.now c.args.scratch.now c.settle-low.new.scratch c.settle-high.new.scratch
    c.args.t.number c.number-number.result c.offset.result c.settle-low.result.bound c.settle-high.result.bound c.max.result
    c.settle-low.result.passing c.settle-high.result.passing _ _ _ _ _ _ _
    h.0 (omega (arith, end_bound n c.args.t.order.high)) c.number-number.ensures
    h.1.0 h.1.1 c.settle-low.ensures h.2.0 h.2.1 c.settle-high.ensures
    (c.offset.ensures.value ∙ ap (λ (z : Heights). offset n z c.args.t.number) (list_sampled n s.heights.now)) c.max.ensures
    c.then_some-own.ensures c.max-2.ensures c.max-3.ensures
