-- What the one-call definitions give, case by case, and the flags that a call of the code leaves.
use Rattle.std.proofs.Common.{◌≡◌, ℕ, ◌≤◌, Bool, true, false, cond, Option, Some, None, MatchOption, refl, sym, ap, ap₂, arith}
use Rattle.std.proofs.lemmas.Bool.{and_left, le-ltb}
use Rattle.std.specs.Bool.{then_some}
use Rattle.bintree.specs.declared.triangle.Triangle.{Triangle}
use Rattle.bintree.specs.Views.{order_of, number_of, Is}
use Rattle.bintree.specs.Orders.{first_finest, is_order, is_triangle}
use Rattle.bintree.specs.Meshes.{Triangles}
use Rattle.bintree.specs.Refusals.{Refusal, Reply, given, refused, ordering}
use Rattle.mesh.specs.Sets.{roots, mergeable}
use Rattle.mesh.specs.Faults.{no_order, absent, finest, not_mergeable}
use Rattle.mesh.specs.Calls.{State, state, Outcome, leaves, refuses, outcome, reset_call, split_call, merge_call}

-- a number that is no triangle is not one of a diamond
pub no_diamond : (n i : ℕ) (P : Triangles) → is_triangle n i ≡ false → mergeable n i P ≡ false
unfolding mergeable
no_diamond n i P f = and_left _ _ f

-- the triangle of a number, if it is one of a mergeable diamond, as the code finds it
pub diamond_found : (n i : ℕ) (P : Triangles) (o f : Option Triangle) →
    MatchOption o (is_triangle n i ≡ false) (λ t. (is_triangle n i ≡ true) × Is t n i) →
    MatchOption o (f ≡ None) (λ t. f ≡ then_some (mergeable (order_of t) (number_of t) P) t) →
    MatchOption f (mergeable n i P ≡ false) (λ t. (mergeable n i P ≡ true) × Is t n i)
diamond_found n i P None f h e = rw e (no_diamond n i P h)
diamond_found n i P (Some t) f h e = go (mergeable (order_of t) (number_of t) P) (sym (ap₂ (λ (m j : ℕ). mergeable m j P) h.1.0 h.1.1)) e
  where
    go : (b : Bool) → mergeable n i P ≡ b → f ≡ then_some b t → MatchOption f (mergeable n i P ≡ false) (λ t. (mergeable n i P ≡ true) × Is t n i)
    go true m e = rw e (m, h.1)
    go false m e = rw e m

-- refusals
pub split_absent : (n i : ℕ) (P : Triangles) → P i ≡ false → refuses (state n P) (absent i) ≡ split_call (state n P) i
unfolding split_call
split_absent n i P e = rw e refl

pub split_finest : (n i : ℕ) (P : Triangles) → P i ≡ true → first_finest n ≤ i → refuses (state n P) (finest i) ≡ split_call (state n P) i
unfolding split_call
split_finest n i P e u = rw (e, le-ltb i (first_finest n) u) refl

pub merge_refused : (n i : ℕ) (P : Triangles) → mergeable n i P ≡ false → refuses (state n P) (not_mergeable i) ≡ merge_call (state n P) i
unfolding merge_call
merge_refused n i P e = rw (e, merge_call) refl

-- resets, from what making the order gave
resets : State → ℕ → Bool → Outcome
resets s n b = elim b [ true ↦ leaves (state n roots) | false ↦ refuses s (no_order n) ]

pub reset_refused : (s : State) (n : ℕ) (r : Refusal) → ◌≡◌ {A = Reply ℕ} (refused r) (ordering n) → outcome (refused r) s ≡ reset_call s n
unfolding reset_call resets
reset_refused s n r e = go (is_order n) e
  where
    go : (b : Bool) → ◌≡◌ {A = Reply ℕ} (refused r) (cond b (given n) (refused (no_order n))) → refuses s r ≡ resets s n b
    go true q = let z : ◌≡◌ {A = ℕ} 0 1 = cc in absurd (omega arith)
    go false q = let z : r ≡ no_order n = cc in ap (refuses s) z

pub reset_goes : (s : State) (n m : ℕ) → ◌≡◌ {A = Reply ℕ} (given m) (ordering n) → leaves (state m roots) ≡ reset_call s n
unfolding reset_call resets
reset_goes s n m e = go (is_order n) e
  where
    go : (b : Bool) → ◌≡◌ {A = Reply ℕ} (given m) (cond b (given n) (refused (no_order n))) → leaves (state m roots) ≡ resets s n b
    go true q = let z : m ≡ n = cc in ap (λ (k : ℕ). leaves (state k roots)) z
    go false q = let z : ◌≡◌ {A = ℕ} 0 1 = cc in absurd (omega arith)
