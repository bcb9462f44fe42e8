use Rattle.std.proofs.Common.{arith}
use Rattle.bintree.proofs.Sizes.{side_bound}
use Rattle.bintree.proofs.order.Order.side.Goals as goal

pub returns : goal.returns
returns c = let h = side_bound c.args.self.n (omega arith) in record { value = omega arith; bound = omega arith }
