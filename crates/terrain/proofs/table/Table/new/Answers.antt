-- The table is all zeros, and the order is 1.
use Rattle.terrain.proofs.Replies.{made_order, zeros_blank}
use Rattle.terrain.proofs.table.Table.new.Goals as goal

pub returns : goal.returns
returns c = zeros_blank 1 _ 4225 _ (made_order 1 _ _ c.unwrap-order.ensures c.new.ensures) (c.in_ok-heights.ensures.items_if_clones_equal (λ y e. e))
