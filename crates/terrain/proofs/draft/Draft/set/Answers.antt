-- A write at the place of a sample.
use Rattle.std.proofs.Common.{◌≡◌, length, vec_items, sym, ◌∙◌}
use Rattle.terrain.specs.Views.{draft_view}
use Rattle.terrain.proofs.Replies.{leaves, sets}
use Rattle.terrain.proofs.draft.Draft.set.Goals as goal

pub returns : goal.returns
returns c =
    let d = c.args.self.now in
    let k = c.in_ok-at.ensures in
    let long : length (vec_items d.table.heights) ≡ 4225 = sym d.table.heights.ok.0 ∙ d.table.tall in
    let told = sets d.table.order.n (vec_items d.table.heights) c.args.p c.args.z c.in_ok-at.at d.table.order.high long k.0 k.1 in
    record { answer = told; leaves = leaves (draft_view d) told }
