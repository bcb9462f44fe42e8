-- Both roots are settled, one after the other, and with them every triangle.
use Rattle.std.proofs.Common.{ℕ, ◌*◌, ◌≤◌, ap, arith, pow_pos}
use Rattle.bintree.specs.Orders.{end}
use Rattle.bintree.proofs.Numbers.{end_is}
use Rattle.terrain.specs.Tables.{bounds_in}
use Rattle.terrain.proofs.Settlings.{settles_as, higher, settled, settled_passing}
use Rattle.terrain.proofs.table.surface.Surface.settle_all.Goals as goal

-- each order has both roots
roots : (n : ℕ) → 4 ≤ end n
roots n = omega (arith, end_is n, pow_pos (2 * n))

pub triangle-requires-clause-high : goal.triangle-requires-clause-high
triangle-requires-clause-high c = omega (arith, roots c.args.order.n)

pub triangle-requires-2-clause-high : goal.triangle-requires-2-clause-high
triangle-requires-2-clause-high c = omega (arith, roots c.args.order.n)

pub returns : goal.returns
returns c =
    let n = c.args.order.n in
    let zs = c.args.self.now.heights.now in
    let bs = c.args.self.now.bounds.now in
    let low = settles_as c.args.around _ n zs bs _ _ _ 2 _ _ c.triangle.ensures.0 c.triangle.ensures.1 c.settle-low.ensures in
    let high = settles_as c.args.around _ n zs bs _ _ _ 3 _ _ c.triangle-2.ensures.0 c.triangle-2.ensures.1 c.settle-high.ensures in
    let start = ap (bounds_in n) c.copy_from_slice.ensures.after in
    let best = higher _ _ _ c.max.ensures in
    record {
      bounds = settled c.args.around n zs bs _ _ _ _ _ _ _ _ start low high best;
      passing = settled_passing c.args.around n zs bs _ _ _ _ _ _ _ _ start low high best c.requires.limited;
    }
