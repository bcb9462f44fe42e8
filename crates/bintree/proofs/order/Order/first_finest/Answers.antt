use Rattle.std.proofs.Common.{arith}
use Rattle.bintree.specs.Orders.{first_finest}
use Rattle.bintree.proofs.Sizes.{first_finest_bound}
use Rattle.bintree.proofs.order.Order.first_finest.Goals as goal

pub returns : goal.returns
unfolding first_finest
returns c = let h = first_finest_bound c.args.self.n (omega arith) in record { value = omega arith; bound = omega arith }
