-- Refusals: how a call says no.
use Rattle.std.specs.Prelude.{ℕ, cond, List, [], ◌∷◌, Ok, Err, Result}
use Rattle.bintree.specs.declared.fault.OrderFault.{OrderFault}
use Rattle.bintree.specs.Orders.{is_order}

-- A refusal has a number of its own, and values that come with it.
pub record Refusal : Type 0 where
  pub number : ℕ
  pub values : List ℕ

abbrev pub refusal : ℕ → List ℕ → Refusal
refusal k vs = record { number = k; values = vs }

-- What a call answers: a value, or a refusal.
pub data Reply (A : Type 0) : Type 0 where
  given : A → Reply A
  refused : Refusal → Reply A

-- What a result of the code says, by what its values mean and which refusals its faults are.
abbrev pub told : {A B E : Type 0} → (A → B) → (E → Refusal) → Result A E → Reply B
told value why (Ok a) = given (value a)
told value why (Err e) = refused (why e)

-- Refusal 7: no order; the number comes with it.
abbrev pub order_refusal : OrderFault → Refusal
order_refusal f = refusal 7 (f.order ∷ [])

-- What making an order of n gives.
abbrev pub ordering : ℕ → Reply ℕ
ordering n = cond (is_order n) (given n) (refused (refusal 7 (n ∷ [])))
