use Rattle.std.proofs.Common.{arith}
use Rattle.bintree.proofs.Sizes.{end_bound}
use Rattle.bintree.proofs.Numbers.{end_twice}
use Rattle.bintree.proofs.order.Order.end.Goals as goal

pub returns : goal.returns
returns c =
    let n = c.args.self.n in
    record { value = omega (arith, end_twice n); bound = omega (arith, end_twice n, end_bound n (omega arith)) }
