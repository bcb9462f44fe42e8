-- Working bounds out by recursion into the halves, in one table. A triangle that is not due has none below it that is, so it is settled as it stands;
-- once both halves are settled, a triangle is settled by writing its own bound. A bound that is already new never changes again, whatever order the
-- halves are taken in, because every write is of a new bound.
use Rattle.std.proofs.Common.{◌≡◌, ℕ, zero, suc, ◌+◌, ◌*◌, ◌/◌, ◌^◌, ◌<◌, ◌≤◌, max, Bool, true, false, ltb, ◌⊎◌, List, length, get_or, set, Some, None, Option, sym, refl, ap, ◌∙◌, subst, inl, inr, ⊎_elim, arith}
use mathlib.Core.Path.{fun_ext}
use Rattle.std.specs.Option.{IfSome, option_cmp}
use Rattle.std.specs.Ordering.{nat_cmp, ord_max}
use Rattle.std.specs.Bool.{then_some}
use Rattle.std.proofs.lemmas.Bool.Decides.{nat_tests}
use Rattle.std.proofs.lemmas.Bool.{cases_lt, cases_eq, cases_Bool, ltb-true, lt-ltb, cond-false}
use Rattle.bintree.specs.declared.point.Point.{Point}
use Rattle.bintree.specs.Orders.{end, first_finest, is_triangle}
use Rattle.bintree.specs.Meshes.{Within}
use Rattle.bintree.proofs.Numbers.{end_twice}
use Rattle.terrain.specs.Bounds.{Bounds, offset, limit, WithinLimit}
use Rattle.terrain.specs.Tables.{heights_in, bounds_in}
use Rattle.terrain.specs.Working.{due, new_bounds, Mixed, Settles, or_zero, NamesPassing}
use Rattle.terrain.proofs.Anew.{not_due, when_due, at_most}
use Rattle.terrain.proofs.Measuring.{enough, offset_small}
use Rattle.terrain.proofs.Highest.{triangle_low, triangle_high, none_passing, highest_is}
use Rattle.terrain.proofs.Places.{bound_at, bounds_set_here, bounds_set_other}
use Rattle.terrain.proofs.Due.{self_within, within_half, rooted, due_low, due_high, none_under}

-- a settled triangle, with its order and number written otherwise
pub settles_as : (around : Option Point) (m n : ℕ) (zs bs before after : List ℕ) (j i bound : ℕ) (passing : Option ℕ) → m ≡ n → j ≡ i
    → Settles (new_bounds around m zs bs) (bounds_in m before) (bounds_in m after) j bound passing
    → Settles (new_bounds around n zs bs) (bounds_in n before) (bounds_in n after) i bound passing
settles_as around m n zs bs before after j i bound passing e f h =
    subst (λ (o : ℕ). Settles (new_bounds around o zs bs) (bounds_in o before) (bounds_in o after) i bound passing) e
    (subst (λ (k : ℕ). Settles (new_bounds around m zs bs) (bounds_in m before) (bounds_in m after) k bound passing) f h)

-- the higher-numbered of two triangles, either of which may be none
pub record Higher (a b r : Option ℕ) : Type 0 where
  pub first : or_zero a ≤ or_zero r
  pub second : or_zero b ≤ or_zero r
  pub either : (r ≡ a) ⊎ (r ≡ b)

is_first : {a b r : Option ℕ} → or_zero b ≤ or_zero a → r ≡ a → Higher a b r
is_first l e = record { first = omega (arith, ap or_zero e); second = omega (arith, ap or_zero e); either = inl e }

is_second : {a b r : Option ℕ} → or_zero a ≤ or_zero b → r ≡ b → Higher a b r
is_second l e = record { first = omega (arith, ap or_zero e); second = omega (arith, ap or_zero e); either = inr e }

pub higher : (a b r : Option ℕ) → r ≡ ord_max (option_cmp nat_cmp) a b → Higher a b r
higher None None r e = is_second (omega arith) e
higher None (Some y) r e = is_second (omega arith) e
higher (Some x) None r e = is_first (omega arith) e
higher (Some x) (Some y) r e = ⊎_elim
    (λ l. is_first (omega arith) (rw (lt-ltb y x l) at e))
    (λ l. is_second l (grind (arith, nat_tests)))
    (cases_lt y x)

module _ (around : Option Point) (n : ℕ) (zs bs : List ℕ) where
  abbrev old : Bounds
  old = bounds_in n bs

  abbrev new : Bounds
  new = new_bounds around n zs bs

  keeps : (i : ℕ) → due around n i ≡ false → new i ≡ old i
  unfolding new_bounds
  keeps i t = not_due (due around n) (offset n (heights_in n zs)) old (2 * n) i t

  sums : (i : ℕ) → 2 ≤ i → due around n i ≡ true → new i ≡ offset n (heights_in n zs) i + max (new (2 * i)) (new (2 * i + 1))
  unfolding new_bounds
  sums i p t = when_due (due around n) (offset n (heights_in n zs)) old (first_finest n) (due_high around n) (2 * n) i (enough n i p) t

  -- no old bound passes, whether of a triangle or not
  all_small : WithinLimit n old → (j : ℕ) → old j ≤ limit
  unfolding bounds_in
  all_small f j = ⊎_elim
      (λ t. f j (triangle_low n j t) (triangle_high n j t))
      (λ t. omega (arith, cond-false (is_triangle n j) (get_or bs j 0) 0 t))
      (cases_Bool (is_triangle n j))

  -- a new bound passes the limit by no more than an offset for each level
  new_small : n ≤ 6 → ((p : Point) → heights_in n zs p ≤ 65535) → WithinLimit n old → (i : ℕ) → new i ≤ 18350055
  unfolding new_bounds
  new_small six f small i = omega (arith, at_most (due around n) (offset n (heights_in n zs)) old 131070 limit (offset_small n (heights_in n zs) f) (all_small small) (2 * n) i)

  -- a triangle that is not due is settled as it stands
  settles_stop : (table : Bounds) (i : ℕ) → 2 ≤ i → due around n i ≡ false → WithinLimit n old → Mixed old new table → Settles new table table i (old i) None
  settles_stop table i p f small m =
      let stop : (j : ℕ) → Within j i → new j ≡ old j = λ j w. keeps j (none_under around n i p f w.0 j w.1) in
      record {
        value = sym (keeps i f);
        kept = λ j. inl refl;
        done = λ j w. ⊎_elim (λ e. e ∙ sym (stop j w)) (λ e. e) (m j);
        last = λ j w l. absurd (omega (arith, stop j w, all_small small j));
        real = tt;
      }

  -- the same where the bound was read at the place of i
  pub settles_read : (table : List ℕ) (i at value : ℕ) → 2 ≤ i → i < end n → due around n i ≡ false → WithinLimit n old → Mixed old new (bounds_in n table)
      → at ≡ i → value ≡ get_or bs at 0 → Settles new (bounds_in n table) (bounds_in n table) i value None
  settles_read table i at value p q f small m e r =
      let P : ℕ → Type 0 = λ b. Settles new (bounds_in n table) (bounds_in n table) i b None in
      subst P (bound_at n bs i p q ∙ sym (r ∙ ap (λ (k : ℕ). get_or bs k 0) e)) (settles_stop (bounds_in n table) i p f small m)

  -- what is new stays so
  stays : (before after : Bounds) → ((j : ℕ) → (after j ≡ before j) ⊎ (after j ≡ new j)) → (j : ℕ) → before j ≡ new j → after j ≡ new j
  stays before after k j e = ⊎_elim (λ q. q ∙ e) (λ q. q) (k j)

  -- a triangle that is named as passing does pass
  abbrev Real : Option ℕ → Type 0
  Real o = IfSome o (λ k. limit < new k)

  higher_real : {a b r : Option ℕ} → Higher a b r → Real a → Real b → Real r
  higher_real h x y = ⊎_elim (λ e. subst Real (sym e) x) (λ e. subst Real (sym e) y) h.either

  own_real : (i bound : ℕ) → bound ≡ new i → Real (then_some (ltb limit bound) i)
  own_real i bound e =
      let P : Bool → Type 0 = λ b. Real (then_some b i) in
      ⊎_elim (λ t. subst P (sym t) (omega (arith, ltb-true limit bound t))) (λ t. subst P (sym t) tt) (cases_Bool (ltb limit bound))

  -- the highest-numbered that passes, if it passes and none with a higher number does
  passing_is : (r : Option ℕ) → WithinLimit n old → ((j : ℕ) → or_zero r < j → new j ≤ limit) → Real r
      → NamesPassing n new r
  passing_is None small f x = none_passing n new (λ j p q. f j (omega arith))
  passing_is (Some k) small f x = ⊎_elim
      (λ t. let p = due_low around n k t in let q = due_high around n k t in
      (omega arith, sym (highest_is n new k p (omega (arith, end_twice n)) x (λ j l _. f j l))))
      (λ t. absurd (omega (arith, keeps k t, all_small small k)))
      (cases_Bool (due around n k))

  -- both halves are settled, in the tables t0 to t1 and t1 to t2, and then the triangle itself
  module _ (t0 t1 t2 : List ℕ) (i bl bh bound : ℕ) (pl ph own mid passing : Option ℕ) (low : Settles new (bounds_in n t0) (bounds_in n t1) (2 * i) bl pl)
      (high : Settles new (bounds_in n t1) (bounds_in n t2) (2 * i + 1) bh ph) (two : 2 ≤ i) (less : i < end n) (long : i < length t2) (here : bound ≡ new i)
      (mine : own ≡ then_some (ltb limit bound) i) (with_low : Higher own pl mid) (with_high : Higher mid ph passing) where
    abbrev after : Bounds
    after = bounds_in n (set t2 i bound)

    new_here : after i ≡ new i
    new_here = bounds_set_here n t2 i bound two less long ∙ here

    put : (j : ℕ) → (after j ≡ bounds_in n t2 j) ⊎ (after j ≡ new j)
    put j = ⊎_elim
        (λ e. let P : ℕ → Type 0 = λ m. after m ≡ new m in inr (subst P (sym e) new_here))
        (λ ne. inl (bounds_set_other n t2 i j bound ne))
        (cases_eq j i)

    kept : (j : ℕ) → (after j ≡ bounds_in n t0 j) ⊎ (after j ≡ new j)
    kept j = ⊎_elim
        (λ e. ⊎_elim (λ q. ⊎_elim (λ r. inl (e ∙ (q ∙ r))) (λ r. inr (e ∙ (q ∙ r))) (low.kept j)) (λ q. inr (e ∙ q)) (high.kept j))
        (λ e. inr e)
        (put j)

    done : (k j : ℕ) → j / 2 ^ k ≡ i → after j ≡ new j
    done zero j e = let P : ℕ → Type 0 = λ m. after m ≡ new m in subst P (sym (self_within j i e)) new_here
    done (suc k) j e = ⊎_elim
        (λ w. stays (bounds_in n t2) after put j (stays (bounds_in n t1) (bounds_in n t2) high.kept j (low.done j w)))
        (λ w. stays (bounds_in n t2) after put j (high.done j w))
        (within_half j k i e)

    last : (k j : ℕ) → j / 2 ^ k ≡ i → limit < new j → j ≤ or_zero passing
    last zero j e l =
        let q = self_within j i e in
        let r = ap new q in
        let s = ap or_zero (mine ∙ ap (λ (b : Bool). then_some b i) (lt-ltb limit bound (omega arith))) in
        omega (arith, with_low.first, with_high.first)
    last (suc k) j e l = ⊎_elim
        (λ w. omega (arith, low.last j w l, with_low.second, with_high.first))
        (λ w. omega (arith, high.last j w l, with_high.second))
        (within_half j k i e)

    real : Real passing
    real = higher_real with_high (higher_real with_low (subst Real (sym mine) (own_real i bound here)) low.real) high.real

    settles_here : Settles new (bounds_in n t0) after i bound passing
    settles_here = record { value = here; kept = kept; done = λ j w. done w.0 j w.1; last = λ j w l. last w.0 j w.1 l; real = real }

  -- the same from what the steps answered: d is the offset, most the greater bound of the halves, and the halves have their own names for the order
  pub settles_more : (t0 t1 t2 : List ℕ) (i at d bl bh most : ℕ) (pl ph own mid passing : Option ℕ) (m j m' j' : ℕ) → due around n i ≡ true → i < length t2 → at ≡ i
      → m ≡ n → j ≡ 2 * i → Settles (new_bounds around m zs bs) (bounds_in m t0) (bounds_in m t1) j bl pl
      → m' ≡ n → j' ≡ 2 * i + 1 → Settles (new_bounds around m' zs bs) (bounds_in m' t1) (bounds_in m' t2) j' bh ph
      → d ≡ offset n (heights_in n zs) i → most ≡ max bl bh
      → own ≡ then_some (ltb limit (d + most)) at → mid ≡ ord_max (option_cmp nat_cmp) own pl → passing ≡ ord_max (option_cmp nat_cmp) mid ph
      → Settles new (bounds_in n t0) (bounds_in n (set t2 at (d + most))) i (d + most) passing
  settles_more t0 t1 t2 i at d bl bh most pl ph own mid passing m j m' j' t long a em ej l em' ej' h e u mine lower upper =
      let low = settles_as around m n zs bs t0 t1 j (2 * i) bl pl em ej l in
      let high = settles_as around m' n zs bs t1 t2 j' (2 * i + 1) bh ph em' ej' h in
      let p = due_low around n i t in
      let q = due_high around n i t in
      let w = sums i p t in
      let x = low.value in
      let y = high.value in
      let here : d + most ≡ new i = cc in
      let P : ℕ → Type 0 = λ k. own ≡ then_some (ltb limit (d + most)) k → Settles new (bounds_in n t0) (bounds_in n (set t2 k (d + most))) i (d + most) passing in
      subst P (sym a)
      (λ f. settles_here t0 t1 t2 i bl bh (d + most) pl ph own mid passing low high p (omega (arith, end_twice n)) long here f (higher own pl mid lower) (higher mid ph passing upper))
      mine

  -- the sum that makes a bound fits 32 bits
  pub sum_fits : (t0 t1 : List ℕ) (d bound : ℕ) (passing : Option ℕ) (m j : ℕ) → n ≤ 6 → ((p : Point) → heights_in n zs p ≤ 65535) → WithinLimit n old → d ≤ 131070
      → m ≡ n → Settles (new_bounds around m zs bs) (bounds_in m t0) (bounds_in m t1) j bound passing → d + bound ≤ 18481125
  sum_fits t0 t1 d bound passing m j six f small o em l =
      let h = settles_as around m n zs bs t0 t1 j j bound passing em refl l in
      omega (arith, h.value, new_small six f small j)

  -- both roots are settled, in the tables t0 to t1 and t1 to t2: all bounds are new
  module _ (t0 t1 t2 : Bounds) (bl bh : ℕ) (pl ph passing : Option ℕ) (start : t0 ≡ old) (low : Settles new t0 t1 2 bl pl) (high : Settles new t1 t2 3 bh ph)
      (best : Higher pl ph passing) where
    all_done : (j : ℕ) → t2 j ≡ new j
    all_done j = ⊎_elim
        (λ t. ⊎_elim
        (λ w. stays t1 t2 high.kept j (low.done j w))
        (λ w. high.done j w)
        (rooted j (due_low around n j t)))
        (λ t. stays t1 t2 high.kept j (stays t0 t1 low.kept j (ap (λ (f : Bounds). f j) start ∙ sym (keeps j t))))
        (cases_Bool (due around n j))

    pub settled : t2 ≡ new
    settled = fun_ext all_done

    past : WithinLimit n old → (j : ℕ) → or_zero passing < j → new j ≤ limit
    past small j l = ⊎_elim
        (λ k. ⊎_elim
        (λ t. ⊎_elim
        (λ w. absurd (omega (arith, low.last j w k, best.first)))
        (λ w. absurd (omega (arith, high.last j w k, best.second)))
        (rooted j (due_low around n j t)))
        (λ t. absurd (omega (arith, keeps j t, all_small small j)))
        (cases_Bool (due around n j)))
        (λ k. k)
        (cases_lt limit (new j))

    pub settled_passing : WithinLimit n old → NamesPassing n new passing
    settled_passing small = passing_is passing small (past small) (higher_real best low.real high.real)
