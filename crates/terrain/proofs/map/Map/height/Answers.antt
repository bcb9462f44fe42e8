-- A read at the place of a sample. The last step is found and not named, so that an edit is refused for what it answers and not for its form.
use Rattle.std.proofs.Common.{◌≡◌, sym, vec_items, rules}
use Rattle.std.proofs.lemmas.Bool.{cond-false}
use Rattle.std.proofs.lemmas.List.{get_or_read}
use Rattle.std.proofs.lemmas.Option.{MatchOption-at_some, MatchOption-at_none}
use Rattle.terrain.specs.Grounds.{height_of}
use Rattle.terrain.specs.Heights.{is_sample}
use Rattle.terrain.specs.Tables.{bounds_in}
use Rattle.terrain.specs.Views.{map_view}
use Rattle.terrain.proofs.Options.{mapped, if_given}
use Rattle.terrain.proofs.Replies.{reads_height}
use Rattle.terrain.proofs.map.Map.height.Goals as goal

pub returns : goal.returns
returns c =
    let m = c.args.self.now in
    let n = m.table.order.n in
    let at = if_given _ _ _ _ c.ok.ensures.value c.place_of.ensures in
    let read : c.map.result ≡ height_of (map_view m) c.args.p =
    mapped c.ok.result c.map.result _ _ c.map.ensures.cases
    (λ e. let k = MatchOption-at_none _ _ e at in sym (cond-false (is_sample n c.args.p) _ _ k.1.0))
    (λ i z e q. let k = MatchOption-at_some _ _ i e at in
    reads_height n (vec_items m.table.heights) (bounds_in n (vec_items m.table.bounds)) c.args.p i z k.0 k.1 (search (rules, get_or_read))) in
    grind rules
