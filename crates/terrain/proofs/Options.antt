-- Values that are there or not: what `then_some`, `map` and `ok` answer.
use Rattle.std.proofs.Common.{◌≡◌, Bool, true, false, Some, None, Ok, Err, Option, Result, refl, sym, ◌∙◌, subst, MatchOption, MatchResult}
use Rattle.std.specs.Bool.{then_some}
use Rattle.std.specs.Option.{IsSomeAnd}
use Rattle.std.specs.Result.{result_ok}

-- given only if a test passes
pub chosen : {A : Type 0} (b : Bool) (x : A) (o : Option A) (P : Type 0) (Q : A → Type 0) → o ≡ then_some b x → (b ≡ false → P) → (b ≡ true → Q x) → MatchOption o P Q
chosen {A} true x o P Q e f g = subst (λ (r : Option A). MatchOption r P Q) (sym e) (g refl)
chosen {A} false x o P Q e f g = subst (λ (r : Option A). MatchOption r P Q) (sym e) (f refl)

-- made of the value that is there
pub mapped : {A B : Type 0} (o : Option A) (r s : Option B) (Q : A → B → Type 0) → MatchOption o (r ≡ None) (λ x. IsSomeAnd r (Q x))
    → (o ≡ None → None ≡ s) → ((x : A) (y : B) → o ≡ Some x → Q x y → Some y ≡ s) → r ≡ s
mapped None r s Q h f g = h ∙ f refl
mapped (Some x) None s Q h f g = absurd h
mapped (Some x) (Some y) s Q h f g = g x y refl h

-- what was given, if it was
pub if_given : {A E : Type 0} (r : Result A E) (o : Option A) (P : A → Type 0) (Q : E → Type 0) → o ≡ result_ok r → MatchResult r P Q → MatchOption o ((e : E) × Q e) P
if_given {A} {E} (Ok x) o P Q e h = subst (λ (s : Option A). MatchOption s ((d : E) × Q d) P) (sym e) h
if_given {A} {E} (Err d) o P Q e h = subst (λ (s : Option A). MatchOption s ((d : E) × Q d) P) (sym e) (d, h)
