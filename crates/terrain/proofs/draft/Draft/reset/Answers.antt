-- An order that was made is the one asked for, and the filled list is all zeros.
use Rattle.terrain.specs.Views.{draft_view}
use Rattle.terrain.proofs.Replies.{leaves, resets}
use Rattle.terrain.proofs.draft.Draft.reset.Goals as goal

pub returns : goal.returns
returns c =
    let told = resets c.args.order _ _ _ c.in_ok-order.ensures (c.fill.ensures.items (λ y e. e)) in
    record { answer = told; leaves = leaves (draft_view c.args.self.now) told }
