-- `holds` decides whether the sample lies in the closed triangle, and so does the test by edges.
use Rattle.std.proofs.Common.{◌≡◌, ℕ, ◌<◌, ◌≤◌, Bool, true, Decides, sym, ◌∙◌, Some, None, Option, MatchOption, rules}
use Rattle.bintree.specs.declared.point.Point.{Point}
use Rattle.bintree.specs.Orders.{first_finest}
use Rattle.bintree.specs.Triangles.{corners}
use Rattle.bintree.specs.Samples.{LiesIn}
use Rattle.terrain.specs.Working.{due}
use Rattle.terrain.proofs.Options.{chosen}
use Rattle.terrain.proofs.Holding.{reached_is}
use Rattle.terrain.proofs.Measuring.{is_split}
use Rattle.terrain.proofs.table.settle.due_halves.Goals as goal

is_due : (around : Option Point) (n i : ℕ) (r : Bool) (Q : Point → Type 0) → 2 ≤ i → i < first_finest n → ((p : Point) → Q p → Decides r (LiesIn p (corners n i)))
    → MatchOption around (r ≡ true) Q → r ≡ due around n i
is_due None n i r Q p q f e = e ∙ sym (is_split n i p q)
is_due (Some v) n i r Q p q f e = reached_is n i v r p q (f v e)

pub returns : goal.returns
returns c =
    let t = c.args.t in
    let k = c.in_ok-halves.ensures in
    let test = is_due c.args.around t.order.n t.number c.is_none_or.result _ t.low k.0 (λ p h. search rules) c.is_none_or.ensures in
    chosen _ _ _ _ _ c.then_some.ensures (λ f. sym test ∙ f) (λ e. (sym test ∙ e, k.1, k.2))
