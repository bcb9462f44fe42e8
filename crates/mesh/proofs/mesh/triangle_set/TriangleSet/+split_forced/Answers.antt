-- The code follows the rule step by step: where the partner is absent, its parent holds it, and the level falls.
use Rattle.std.proofs.Common.{◌≤◌, sym, ap, ◌∙◌, rules, arith}
use Rattle.bintree.specs.Orders.{first_finest}
use Rattle.bintree.specs.Views.{order_of, number_of}
use Rattle.mesh.specs.Sets.{split}
use Rattle.mesh.specs.Laws.{SplitRule}
use Rattle.mesh.specs.TriangleSet.{triangles_in}
use Rattle.mesh.proofs.Diamonds.{partner_splits, partner_low, split_first}
use Rattle.mesh.proofs.Theorems.{splits_least}
use Rattle.mesh.proofs.mesh.triangle_set.TriangleSet.+split_forced.Goals as goal
use Rattle.mesh.proofs.mesh.triangle_set.TriangleSet.+split_forced.Goals.{in-Some, then-not-contains, else-not-contains, in_default}

pub unwrap-requires : goal.unwrap-requires
unwrap-requires t c =
    let r = c.requires in
    let q = c.in-Some.ensures.value in
    let low : 4 ≤ number_of c.in-Some.partner = partner_low c.args.t c.in-Some.partner (triangles_in c.args.self.now) r.whole r.there r.splittable q (sym (rw (c.number.ensures, q.1.1) at c.if-not-contains.ensures)) in
    search rules

pub split_forced-requires : goal.split_forced-requires
split_forced-requires t c =
    let r = c.requires in
    let q = c.in-Some.ensures.value in
    let out = sym (rw (c.number.ensures, q.1.1) at c.if-not-contains.ensures) in
    let f = split_first c.args.t c.in-Some.partner (triangles_in c.args.self.now) r.whole r.there r.splittable q out c.unwrap.result (rw c.unwrap.ensures at c.parent.ensures) in
    (omega (arith, f.holds.higher, c.decreases), (rw f.order r.whole, (f.holds.present, omega (arith, f.holds.splittable, ap first_finest f.order))))

pub halve-requires : goal.halve-requires
halve-requires t c = record { splittable = partner_splits c.args.t c.in-Some.partner c.requires.splittable c.in-Some.ensures.value }

pub returns : goal.returns
returns t c =
    let n = order_of c.args.t in
    let i = number_of c.args.t in
    let P = triangles_in c.args.self.now in
    let r = c.requires in
    let rule : SplitRule n i P (split n i P) = (splits_least n i P r.whole r.there r.splittable).rule in
    c.halve-2.ensures ∙ elim c.match-partner.branch [
      | in_default w ↦ rw w.self-is (sym (rule.alone w.in_default.ensures.value))
      | in-Some w ↦
          let q = w.in-Some.ensures.value in
          rw (w.self-is, w.halve.ensures, q.1.1) (elim w.if-not-contains.branch [
            | then-not-contains v ↦
                let out = sym (rw (w.number.ensures, q.1.1) at v.if-not-contains.ensures) in
                let f = split_first c.args.t w.in-Some.partner P r.whole r.there r.splittable q out v.unwrap.result (rw v.unwrap.ensures at v.parent.ensures) in
                rw (v.self-is, v.split_forced.ensures, f.order, f.is) (sym (rule.forced q.0 out))
            | else-not-contains v ↦
                let there = sym (rw (w.number.ensures, q.1.1) at v.if-not-contains.ensures) in
                rw v.self-is (sym (rule.both q.0 there))
          ])
    ]
