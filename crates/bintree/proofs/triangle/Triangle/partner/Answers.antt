use Rattle.std.proofs.Common.{◌≡◌, ℕ, ◌≤◌, ◌<◌, true, false, sym, ◌∙◌, ap, subst, arith, Some, None, Option, MatchOption}
use Rattle.std.proofs.lemmas.Bool.{both_ways}
use Rattle.bintree.specs.declared.triangle.Triangle.{Triangle}
use Rattle.bintree.specs.declared.triangle.neighbours.Neighbours.{Neighbours}
use Rattle.bintree.specs.Orders.{end, is_triangle}
use Rattle.bintree.specs.Triangles.{partner}
use Rattle.bintree.specs.Neighbours.{neighbours}
use Rattle.bintree.specs.Views.{Is}
use Rattle.bintree.proofs.Partners.{partner_laws}
use Rattle.bintree.proofs.Bridge.{bridge}
use Rattle.bintree.proofs.Descent.{partner_none, partner_some}
use Rattle.bintree.proofs.triangle.Triangle.partner.Goals as goal

-- r is the partner of triangle i of order n, if it has one
abbrev IsPartner : ℕ → ℕ → Option Triangle → Type 0
IsPartner n i r = MatchOption r (partner n i ≡ 0) (λ t. (0 < partner n i) × Is t n (partner n i))

found : (n i k : ℕ) (r : Option Triangle) → 2 ≤ i → i < end n → (neighbours i).base ≡ Some k
    → MatchOption r (is_triangle n k ≡ false) (λ t. (is_triangle n k ≡ true) × Is t n k) → IsPartner n i r
found n i k None p q e m = absurd (both_ways _ m (partner_some n i k p q e).2)
found n i k (Some t) p q e m = let f = partner_some n i k p q e in (omega (arith, f.0, f.1), (m.1.0, m.1.1 ∙ sym f.0))

missed : (n i : ℕ) (r : Option Triangle) → 2 ≤ i → i < end n → (neighbours i).base ≡ None → r ≡ None → IsPartner n i r
missed n i r p q e f = subst (IsPartner n i) (sym f) (partner_none n i p q e)

pub returns-in_err-neighbours : goal.returns-in_err-neighbours
returns-in_err-neighbours c = record {
  value = missed c.args.self.order.n c.args.self.number _ (omega arith) (omega arith)
      (ap (λ (s : Neighbours). s.base) (sym c.neighbours.ensures.value) ∙ c.in_err-neighbours.was) c.from_residual.ensures;
  laws = partner_laws c.args.self.order.n c.args.self.number;
  bridge = bridge c.args.self.order.n;
}

pub returns : goal.returns
returns c = record {
  value = found c.args.self.order.n c.args.self.number _ _ (omega arith) (omega arith)
      (ap (λ (s : Neighbours). s.base) (sym c.neighbours.ensures.value) ∙ c.in_ok-neighbours.was) c.triangle.ensures;
  laws = partner_laws c.args.self.order.n c.args.self.number;
  bridge = bridge c.args.self.order.n;
}
