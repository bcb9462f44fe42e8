use Rattle.std.proofs.Common.{◌≡◌, Bool, cond, count_by, take, ◌∙◌, sym, refl, arith, rules, tests}
use Rattle.std.proofs.lemmas.Iterator.{YieldsList-from_slice, YieldsList-from_map}
use Rattle.std.proofs.lemmas.Iterator.Consumers.{YieldsList-at, fits_by_from_yields_list}
use Rattle.std.proofs.lemmas.List.Sums.{count_by-le-length}
use Rattle.bintree.specs.Orders.{end}
use Rattle.bintree.specs.Views.{order_value}
use Rattle.bintree.proofs.Sizes.{end_bound}
use Rattle.mesh.specs.Sets.{listed, count}
use Rattle.mesh.proofs.Listing.{members_count}
use Rattle.mesh.proofs.mesh.triangle_set.TriangleSet.count.Goals as goal

-- each flag adds one at most
pub sum-requires-clause-fits : goal.sum-requires-clause-fits
sum-requires-clause-fits c =
    let flags = c.iter.result.rest.now in
    fits_by_from_yields_list (λ (b : Bool). cond b 1 0) flags c.map.result _
    (YieldsList-from_map _ (λ (b : Bool). cond b 1 0) (YieldsList-at c.map.ensures.source (YieldsList-from_slice flags refl)) c.map.ensures.closure (λ x r q k. search (rules, tests)))
    (omega (arith, count_by-le-length (λ (b : Bool). b) flags, c.iter.ensures.len, c.iter.ensures.bound))

pub returns : goal.returns
unfolding count listed
returns c =
    let s = c.args.self.now in
    let n = order_value c.args.order in
    let e : c.sum.result ≡ count_by (λ (b : Bool). b) (take c.end.result s.flags.items) = search rules in
    rw c.end.ensures.value at e ∙ sym (members_count s.flags.items (end n) (omega (arith, end_bound n c.args.order.high, s.room, s.flags.ok.0)))
