-- A read at a triangle's number. The last step is found and not named, so that an edit is refused for what it answers and not for its form.
use Rattle.std.proofs.Common.{◌≡◌, ◌<◌, sym, vec_items, vec_len, rules, arith}
use Rattle.std.proofs.lemmas.Bool.{cond-false}
use Rattle.std.proofs.lemmas.List.{get_or_read}
use Rattle.std.proofs.lemmas.Option.{MatchOption-at_some, MatchOption-at_none}
use Rattle.bintree.specs.Orders.{is_triangle}
use Rattle.bintree.proofs.Sizes.{end_bound}
use Rattle.terrain.specs.Grounds.{bound_of}
use Rattle.terrain.specs.Tables.{heights_in}
use Rattle.terrain.specs.Views.{table_view}
use Rattle.terrain.proofs.Highest.{triangle_high}
use Rattle.terrain.proofs.Options.{mapped}
use Rattle.terrain.proofs.Replies.{reads_bound}
use Rattle.terrain.proofs.table.Table.bound.Goals as goal

pub map-requires : goal.map-requires
map-requires c = grind (arith, triangle_high, end_bound)

pub returns : goal.returns
returns c =
    let n = c.args.self.now.order.n in
    let t = c.args.self.now in
    let read : c.map.result ≡ bound_of (table_view t) c.args.number =
    mapped c.triangle.result c.map.result _ _ c.map.ensures.cases
    (λ e. sym (cond-false (is_triangle n c.args.number) _ _ (MatchOption-at_none _ _ e c.triangle.ensures)))
    (λ i b e q. let k = MatchOption-at_some _ _ i e c.triangle.ensures in
    let l : c.args.number < vec_len t.bounds = omega (arith, triangle_high n c.args.number k.0, end_bound n c.args.self.now.order.high) in
    reads_bound n (heights_in n (vec_items t.heights)) (vec_items t.bounds) c.args.number b k.0 (search (rules, get_or_read))) in
    grind rules
