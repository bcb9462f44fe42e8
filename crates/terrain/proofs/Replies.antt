-- What each call answers, from what its steps left in the lists: one equation with the call's definition. What a call leaves follows from what it
-- answers, as `left_by`.
use Rattle.std.proofs.Common.{◌≡◌, ℕ, ◌<◌, ◌≤◌, Bool, true, false, cond, eqb, List, [], ◌∷◌, length, get_or, set, replicate, Some, Ok, vec_items, Option, Result, sym, refl, ap, ◌∙◌, subst, arith}
use Rattle.std.proofs.lemmas.Bool.{cond-true, cond-false, eq-eqb, ne_eqb}
use Rattle.bintree.specs.declared.fault.OrderFault.{OrderFault}
use Rattle.bintree.specs.declared.order.Order.{Order}
use Rattle.bintree.specs.declared.point.Point.{Point}
use Rattle.bintree.specs.Orders.{is_order, is_triangle}
use Rattle.bintree.specs.Refusals.{Reply, given, refused, refusal, told, order_refusal, ordering}
use Rattle.bintree.specs.Views.{order_value}
use Rattle.terrain.specs.Heights.{Heights, is_sample, put_height}
use Rattle.terrain.specs.Bounds.{Bounds, measured}
use Rattle.terrain.specs.Carving.{carved_bounds, highest_passing}
use Rattle.terrain.specs.Grounds.{Sketch, Ground, blank, resetting, setting, measuring, carved, carving_to, carving, bound_of, height_of, left_by}
use Rattle.terrain.specs.declared.table.Table.{Table}
use Rattle.terrain.specs.Views.{sketch_view}
use Rattle.terrain.specs.Tables.{place, heights_in, bounds_in}
use Rattle.terrain.specs.Working.{new_bounds}
use Rattle.terrain.proofs.Highest.{triangle_low, triangle_high}
use Rattle.terrain.proofs.Due.{new_carved}
use Rattle.terrain.proofs.Places.{heights_blank, heights_set, height_at, bound_at}

-- what a call leaves follows from what it answers
pub leaves : {A : Type 0} {r s : Reply A} (before : A) → r ≡ s → left_by r before ≡ left_by s before
leaves {A} before e = ap (λ (r : Reply A). left_by r before) e

-- the order that making it of n gives is n
given_order : (n m : ℕ) → given m ≡ ordering n → (is_order n ≡ true) × (m ≡ n)
given_order n m e = go (is_order n) refl e
  where
    go : (b : Bool) → is_order n ≡ b → given m ≡ cond b (given n) (refused (refusal 7 (n ∷ []))) → (is_order n ≡ true) × (m ≡ n)
    go true t f = (t, cc)
    go false t f = absurd (let z : ◌≡◌ {A = ℕ} 0 1 = cc in omega arith)

pub made_order : (n : ℕ) (o : Order) (r : Result Order OrderFault) → r ≡ Ok o → told order_value order_refusal r ≡ ordering n → o.n ≡ n
made_order n o r e f = (given_order n o.n (ap (told order_value order_refusal) (sym e) ∙ f)).1

-- a list of zeros holds a blank sketch
pub zeros_blank : (n m k : ℕ) (zs : List ℕ) → m ≡ n → zs ≡ replicate k 0 → ◌≡◌ {A = Sketch} record { order = m; heights = heights_in m zs } (blank n)
zeros_blank n m k zs e f =
    let P : ℕ → Type 0 = λ o. ◌≡◌ {A = Sketch} record { order = o; heights = heights_in o zs } (blank n) in
    subst P (sym e) (ap {A = Heights} {B = Sketch} (λ z. record { order = n; heights = z }) (ap (heights_in n) f ∙ heights_blank n k))

pub resets : (n m k : ℕ) (zs : List ℕ) → given m ≡ ordering n → zs ≡ replicate k 0 → given (record { order = m; heights = heights_in m zs }) ≡ resetting n
resets n m k zs e f =
    let g = given_order n m e in
    ap given (zeros_blank n m k zs g.1 f) ∙ sym (cond-true (is_order n) (given (blank n)) (refused (refusal 7 (n ∷ []))) g.0)

pub sets : (n : ℕ) (zs : List ℕ) (p : Point) (h at : ℕ) → n ≤ 6 → length zs ≡ 4225 → is_sample n p ≡ true → at ≡ place p
    → given (record { order = n; heights = heights_in n (set zs at h) }) ≡ setting p h (record { order = n; heights = heights_in n zs })
sets n zs p h at six long s e =
    ap {A = Heights} {B = Reply Sketch} (λ z. given (record { order = n; heights = z })) (heights_set n zs p h at six s long e) ∙ sym (cond-true (is_sample n p) _ _ s)

-- a read of a sample's height, and of a triangle's bound
pub reads_height : (n : ℕ) (zs : List ℕ) (b : Bounds) (p : Point) (at r : ℕ) → is_sample n p ≡ true → at ≡ place p → r ≡ get_or zs at 0
    → Some r ≡ height_of (record { order = n; heights = heights_in n zs; bounds = b }) p
reads_height n zs b p at r s e f = ap {A = ℕ} {B = Option ℕ} (λ x. Some x) (f ∙ (ap (λ (k : ℕ). get_or zs k 0) e ∙ sym (height_at n zs p s))) ∙ sym (cond-true (is_sample n p) _ _ s)

pub reads_bound : (n : ℕ) (z : Heights) (bs : List ℕ) (i r : ℕ) → is_triangle n i ≡ true → r ≡ get_or bs i 0 → Some r ≡ bound_of (record { order = n; heights = z; bounds = bounds_in n bs }) i
reads_bound n z bs i r t e =
    ap {A = ℕ} {B = Option ℕ} (λ x. Some x) (e ∙ sym (bound_at n bs i (triangle_low n i t) (triangle_high n i t))) ∙ sym (cond-true (is_triangle n i) _ _ t)

-- carving, from the lists that it leaves: hs with the sample put, and the bounds worked out around it
module _ (n : ℕ) (hs bs : List ℕ) (p : Point) (h at : ℕ) (six : n ≤ 6) (long : length hs ≡ 4225) (s : is_sample n p ≡ true) (e : at ≡ place p) where
  abbrev before : Ground
  before = record { order = n; heights = heights_in n hs; bounds = bounds_in n bs }

  abbrev worked : Bounds
  worked = new_bounds (Some p) n (set hs at h) bs

  heights_put : heights_in n (set hs at h) ≡ put_height p h (heights_in n hs)
  heights_put = heights_set n hs p h at six s long e

  bounds_carved : worked ≡ (carved p h before).bounds
  bounds_carved = new_carved n p (set hs at h) bs ∙ ap (λ (z : Heights). carved_bounds n z p (bounds_in n bs)) heights_put

  answers : carving_to (carved p h before) (highest_passing n worked) ≡ carving p h before
  answers = ap (λ (b : Bounds). carving_to (carved p h before) (highest_passing n b)) bounds_carved ∙ sym (cond-true (is_sample n p) _ _ s)

  pub carves : (zs new : List ℕ) → zs ≡ set hs at h → bounds_in n new ≡ worked → highest_passing n worked ≡ 0
      → given (record { order = n; heights = heights_in n zs; bounds = bounds_in n new }) ≡ carving p h before
  carves zs new q b z =
      let f : record { order = n; heights = heights_in n zs; bounds = bounds_in n new } ≡ carved p h before
      = λ i. record { order = n; heights = (ap (heights_in n) q ∙ heights_put) i; bounds = (b ∙ bounds_carved) i } in
      ap {A = Ground} {B = Reply Ground} given f ∙ (sym (cond-true (eqb (highest_passing n worked) 0) _ _ (eq-eqb _ 0 z)) ∙ answers)

  pub refuses : (r : ℕ) → 0 < r → r ≡ highest_passing n worked → refused (refusal 9 (r ∷ [])) ≡ carving p h before
  refuses r l q = sym (cond-false (eqb r 0) (given (carved p h before)) (refused (refusal 9 (r ∷ []))) (ne_eqb r 0 (λ z. omega arith)))
      ∙ (ap (carving_to (carved p h before)) q ∙ answers)

-- measuring, from the order and the lists that the table is left with
pub measures : (t : Table) (o : Order) (zs bs : List ℕ) → o ≡ t.order → zs ≡ vec_items t.heights
    → bounds_in t.order.n bs ≡ measured t.order.n (heights_in t.order.n (vec_items t.heights))
    → record { order = o.n; heights = heights_in o.n zs; bounds = bounds_in o.n bs } ≡ measuring (sketch_view t)
measures t o zs bs q e f = λ i. record {
  order = (q i).n;
  heights = heights_in (q i).n (e i);
  bounds = (ap (λ (p : Order). bounds_in p.n bs) q ∙ f) i;
}
