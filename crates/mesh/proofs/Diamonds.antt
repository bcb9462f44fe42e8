-- Diamonds as the code finds them: by a triangle and its partner, if it has one.
use Rattle.std.proofs.Common.{◌≡◌, ℕ, ◌/◌, ◌<◌, ◌≤◌, Bool, true, false, Some, None, Option, sym, refl, ap, ◌∙◌, arith, MatchOption, IsTrue}
use Rattle.std.proofs.lemmas.Bool.{and_from, eq-eqb, ne_eqb, le-leb, lt-ltb}
use Rattle.bintree.specs.declared.triangle.Triangle.{Triangle}
use Rattle.bintree.specs.Orders.{end, first_finest, is_triangle}
use Rattle.bintree.specs.Views.{order_of, number_of, Is}
use Rattle.bintree.specs.Triangles.{partner}
use Rattle.bintree.specs.Meshes.{Triangles}
use Rattle.mesh.specs.Sets.{holder, rejoin, halves_in, mergeable, merge}
use Rattle.mesh.specs.Laws.{CrackFreeMesh, Holds}
use Rattle.mesh.proofs.Square.{square_lawful}
use Rattle.mesh.proofs.Moves.{no_partner, some_partner}
use Rattle.mesh.proofs.Theorems.{splits_least}
use Rattle.mesh.proofs.Unrolled.{Parent, the_parent}

-- mergeable, from the halves of the one and of the other
module _ (n i : ℕ) (P : Triangles) (l : 2 ≤ i) (u : i < end n) where
  there : is_triangle n i ≡ true
  there = and_from _ _ (le-leb 2 i l) (lt-ltb i (end n) u)

  pub not_whole : halves_in P i ≡ false → mergeable n i P ≡ false
  unfolding mergeable
  not_whole e = rw (there, e) refl

  pub alone_mergeable : halves_in P i ≡ true → partner n i ≡ 0 → mergeable n i P ≡ true
  unfolding mergeable
  alone_mergeable e z = rw (there, e, eq-eqb (partner n i) 0 z) refl

  pub both_mergeable : halves_in P i ≡ true → 0 < partner n i → mergeable n i P ≡ halves_in P (partner n i)
  unfolding mergeable
  both_mergeable e p = rw (there, e, ne_eqb (partner n i) 0 (λ z. omega arith)) refl

-- merging, with and without a partner
pub merge_alone : (n i : ℕ) (P : Triangles) → partner n i ≡ 0 → merge n i P ≡ rejoin i P
unfolding merge
merge_alone n i P z = no_partner (partner n i) _ _ z

pub merge_both : (n i : ℕ) (P : Triangles) → 0 < partner n i → merge n i P ≡ rejoin i (rejoin (partner n i) P)
unfolding merge
merge_both n i P p = some_partner (partner n i) _ _ p

-- p is the partner of t
abbrev pub IsPartner : Triangle → Triangle → Type 0
IsPartner t p = (0 < partner (order_of t) (number_of t)) × Is p (order_of t) (partner (order_of t) (number_of t))

-- the partner of a splittable triangle is splittable
pub partner_splits : (t p : Triangle) → number_of t < first_finest (order_of t) → IsPartner t p → number_of p < first_finest (order_of p)
partner_splits t p u q = omega (arith, ap first_finest q.1.0, q.1.1, (square_lawful (order_of t)).inside (number_of t) t.low u q.0)

-- mergeable, as the code tests it
pub mergeable_by : (t : Triangle) (P : Triangles) (o : Option Triangle) (b : Bool) → halves_in P (number_of t) ≡ true →
    MatchOption o (partner (order_of t) (number_of t) ≡ 0) (IsPartner t) → MatchOption o (IsTrue b) (λ p. b ≡ halves_in P (number_of p)) → b ≡ mergeable (order_of t) (number_of t) P
mergeable_by t P None b w m h = h ∙ sym (alone_mergeable (order_of t) (number_of t) P t.low t.high w m)
mergeable_by t P (Some p) b w m h = h ∙ (ap (halves_in P) m.1.1 ∙ sym (both_mergeable (order_of t) (number_of t) P t.low t.high w m.0))

-- the parent h of the absent partner p of t holds p, and is split first
pub record SplitFirst (P : Triangles) (t h : Triangle) : Type 0 where
  pub order : order_of h ≡ order_of t
  pub is : number_of h ≡ holder P (partner (order_of t) (number_of t))
  pub holds : Holds (order_of t) (number_of t) P (partner (order_of t) (number_of t)) (number_of h)

module _ (t p : Triangle) (P : Triangles) (w : CrackFreeMesh (order_of t) P) (there : P (number_of t) ≡ true) (u : number_of t < first_finest (order_of t)) (q : IsPartner t p) (out : P (partner (order_of t) (number_of t)) ≡ false) where
  up : Parent (order_of t) P (number_of t)
  up = the_parent (order_of t) P w (number_of t) there u q.0 out

  pub partner_low : 4 ≤ number_of p
  partner_low = omega (arith, up.low, q.1.1)

  pub split_first : (h : Triangle) → (4 ≤ number_of p) × Is h (order_of p) (number_of p / 2) → SplitFirst P t h
  split_first h e =
      let is : number_of h ≡ holder P (partner (order_of t) (number_of t)) = e.1.1 ∙ (ap (λ (y : ℕ). y / 2) q.1.1 ∙ sym up.is) in
      record {
        order = e.1.0 ∙ q.1.0;
        is = is;
        holds = rw is ((splits_least (order_of t) (number_of t) P w there u).rule.holds q.0 out);
      }
