-- The fields of a camera, from the float to whole sixteenths. Sixteen times a float below 2^20 is exact, so that dropping the fraction of the
-- product drops that of the number itself; and the comparisons of floats are those of the fractions that they stand for.
use Rattle.std.proofs.Common.{◌≡◌, ℕ, zero, suc, ◌+◌, ◌-◌, ◌*◌, ◌/◌, ◌%◌, ◌^◌, ◌<◌, ◌≤◌, min, Bool, true, false, ◌&&◌, T, eqb, ltb, leb, ◌⊎◌, ℤ, pos, negsuc, Some, None, sym, refl, ap, ◌∙◌, subst, inl, inr, lt_of_lt_of_le, le_of_suc-le-suc, lt_irrefl, mul_assoc, mul_comm, div-lt_iff_lt-mul, mul-le-mul_left, one-mul, lt_of_not-le, zero-mul, mul-one, arith, ltb→lt, leb→le, pow_pos, pow_mono, pow-add}
use native.Mathlib.Nat.{mul-div-mul_right}
use lib.Pow.{pow-lt}
use lib.Ieee.{Float, nan, inf, fin, binary32, up, down, fits, mul, round, le, lt, eq, neg, of_bits, to_signed, to_unsigned}
use lib.Ieee.Exact.{HasValue, round_exact}
use Rattle.std.proofs.lemmas.Bool.{leb-true, ltb-true}
use Rattle.std.proofs.lemmas.Bool.Decides.{nat_tests}
use Rattle.optics.specs.Cameras.{sixteenths, signed, eye_sixteenths, focal_sixteenths}

both : (a b : Bool) → T (a && b) → T a × T b
both true b t = (tt, t)
both false b t = absurd t

never : {A : Type 0} → false ≡ true → A
never e = absurd (subst T (sym e) tt)

down_pos : (e : ℤ) → 0 < down e
down_pos (pos k) = pow_pos 0
down_pos (negsuc k) = pow_pos (suc k)

pow_back : (a l : ℕ) → 2 ^ a ≤ 2 ^ l → a ≤ l
pow_back a l h = le_of_suc-le-suc (lt_of_not-le (λ (g : suc l ≤ a). lt_irrefl (2 ^ l) (lt_of_lt_of_le (pow-lt g) h)))

-- sixteen times a float is exact
module _ (s : Bool) where
  abbrev Exact : ℕ → ℤ → Type 0
  Exact m e = HasValue (round binary32 s (m * up e * 16) (down e)) s (m * up e * 16) (down e)

  exact_up : (m k : ℕ) → m < 2 ^ 24 → m * 2 ^ k < 2 ^ 20 → HasValue (round binary32 s (m * 2 ^ k * 16) 1) s (m * 2 ^ k * 16) 1
  exact_up m k small less =
      let e : m * 2 ^ (k + 153) ≡ m * 2 ^ k * 2 ^ 153 = ap (λ (x : ℕ). m * x) (pow-add 2 k 153) ∙ sym (mul_assoc m (2 ^ k) (2 ^ 153)) in
      round_exact binary32 s (m * 2 ^ k * 16) 1 m (k + 153) (omega arith) small (omega arith) (omega arith)

  exact_down : (m k : ℕ) → m < 2 ^ 24 → suc k ≤ 149 → HasValue (round binary32 s (m * 1 * 16) (2 ^ suc k)) s (m * 1 * 16) (2 ^ suc k)
  exact_down m k small less =
      let j = 153 - suc k in
      let jk : j + suc k ≡ 153 = omega arith in
      let p : 2 ^ j * 2 ^ suc k ≡ 2 ^ 153 = sym (pow-add 2 j (suc k)) ∙ ap (λ (x : ℕ). 2 ^ x) jk in
      let e : m * 2 ^ j * 2 ^ suc k ≡ m * 2 ^ 153 = mul_assoc m (2 ^ j) (2 ^ suc k) ∙ ap (λ (x : ℕ). m * x) p in
      let top : 2 ^ j ≤ 2 ^ 153 = pow_mono {i = j} {j = 153} (omega arith) in
      let most : m * 2 ^ j ≤ m * 2 ^ 153 = mul-le-mul_left m top in
      round_exact binary32 s (m * 1 * 16) (2 ^ suc k) m j (pow_pos (suc k)) small (omega arith) (omega arith)

  exact : (m : ℕ) (e : ℤ) → T (fits binary32 (fin s m e)) → m * up e < 2 ^ 20 * down e → Exact m e
  unfolding fits
  exact zero e f l = round_exact binary32 s (zero * up e * 16) (down e) 0 0 (down_pos e) (omega arith) (omega arith) (simp zero-mul)
  exact (suc m) (pos k) f l =
      let g = (both (eqb (suc m % 2) 1 && ltb (suc m) (2 ^ 24)) _ (both (eqb (suc m % 2) 1 && ltb (suc m) (2 ^ 24) && leb 1 (2 ^ 149)) _ f).0).0 in
      exact_up (suc m) k (ltb→lt (suc m) (2 ^ 24) (both (eqb (suc m % 2) 1) _ g).1) (omega arith)
  exact (suc m) (negsuc k) f l =
      let h = both (eqb (suc m % 2) 1 && ltb (suc m) (2 ^ 24)) _ (both (eqb (suc m % 2) 1 && ltb (suc m) (2 ^ 24) && leb (2 ^ suc k) (2 ^ 149)) _ f).0 in
      exact_down (suc m) k (ltb→lt (suc m) (2 ^ 24) (both (eqb (suc m % 2) 1) _ h.0).1) (pow_back (suc k) 149 (leb→le (2 ^ suc k) (2 ^ 149) h.1))

-- equal fractions have equal whole parts
same_whole : (a b c d : ℕ) → 0 < b → 0 < d → a * d ≡ c * b → a / b ≡ c / d
same_whole a b c d p q e = sym (mul-div-mul_right a b q) ∙ ap (λ (x : ℕ). x / (b * d)) e ∙ ap (λ (x : ℕ). c * b / x) (mul_comm b d) ∙ mul-div-mul_right c d p

cut_signed : (x : Float) (s : Bool) (a c : ℕ) → 0 < c → a / c < 2 ^ 15 → HasValue x s a c → to_signed 15 x ≡ signed s (a / c)
unfolding to_signed
cut_signed nan s a c p l v = absurd v
cut_signed (inf t) s a c p l v = absurd v
cut_signed (fin t m e) s a c p l v =
    let q : m * up e / down e ≡ a / c = same_whole (m * up e) (down e) a c (down_pos e) p v.1 in
    let low : min (a / c) (2 ^ 15) ≡ a / c = omega arith in
    let high : min (a / c) (2 ^ 15 - 1) ≡ a / c = omega arith in
    rw (v.0, q, low, high)

cut_unsigned : (x : Float) (a c : ℕ) → 0 < c → a / c < 2 ^ 16 → HasValue x false a c → to_unsigned 16 x ≡ a / c
unfolding to_unsigned
cut_unsigned nan a c p l v = absurd v
cut_unsigned (inf t) a c p l v = absurd v
cut_unsigned (fin t m e) a c p l v =
    let q : m * up e / down e ≡ a / c = same_whole (m * up e) (down e) a c (down_pos e) p v.1 in
    let high : min (a / c) (2 ^ 16 - 1) ≡ a / c = omega arith in
    rw (v.0, q, high)

-- the constants of the code
sixteen : of_bits binary32 1098907648 ≡ fin false 1 (pos 4)
unfolding of_bits
sixteen = refl

thousand : of_bits binary32 1149239296 ≡ fin false 1 (pos 10)
unfolding of_bits
thousand = refl

minus_thousand : neg (of_bits binary32 1149239296) ≡ fin true 1 (pos 10)
unfolding of_bits neg
minus_thousand = refl

sixteenth : of_bits binary32 1031798784 ≡ fin false 1 (negsuc 3)
unfolding of_bits
sixteenth = refl

four_thousand : of_bits binary32 1166016512 ≡ fin false 1 (pos 12)
unfolding of_bits
four_thousand = refl

-- the product with sixteen, without its fraction
times : (s : Bool) (m : ℕ) (e : ℤ) → mul binary32 (fin s m e) (fin false 1 (pos 4)) ≡ round binary32 s (m * up e * 16) (down e)
unfolding mul
times true m e = ap (λ d. round binary32 true (m * up e * 16) d) (mul-one (down e))
times false m e = ap (λ d. round binary32 false (m * up e * 16) d) (mul-one (down e))

cut_eye : (s : Bool) (m : ℕ) (e : ℤ) → T (fits binary32 (fin s m e)) → m * up e ≤ 1024 * down e
    → to_signed 15 (mul binary32 (fin s m e) (of_bits binary32 1098907648)) ≡ signed s (sixteenths (m * up e) (down e))
cut_eye s m e f l =
    let d = down_pos e in
    let turn : m * up e * 16 ≡ 16 * (m * up e) = mul_comm (m * up e) 16 in
    let small : m * up e * 16 / down e < 2 ^ 15 = (div-lt_iff_lt-mul d).1 (omega arith) in
    rw (sixteen, times) (cut_signed _ s (m * up e * 16) (down e) d small (exact s m e f (omega arith)) ∙ ap (λ (x : ℕ). signed s (x / down e)) turn)

cut_focal : (m : ℕ) (e : ℤ) → T (fits binary32 (fin false m e)) → m * up e < 4096 * down e
    → to_unsigned 16 (mul binary32 (fin false m e) (of_bits binary32 1098907648)) ≡ sixteenths (m * up e) (down e)
cut_focal m e f l =
    let d = down_pos e in
    let turn : m * up e * 16 ≡ 16 * (m * up e) = mul_comm (m * up e) 16 in
    let small : m * up e * 16 / down e < 2 ^ 16 = (div-lt_iff_lt-mul d).1 (omega arith) in
    rw (sixteen, times) (cut_unsigned _ (m * up e * 16) (down e) d small (exact false m e f (omega arith)) ∙ ap (λ (x : ℕ). x / down e) turn)

-- the tests of an eye coordinate
above_low : (m : ℕ) (e : ℤ) → le (fin true 1 (pos 10)) (fin true m e) ≡ leb (m * up e) (1024 * down e)
unfolding le lt eq
above_low m e = let o : m * up e * 1 ≡ m * up e = mul-one (m * up e) in rw o (grind (arith, nat_tests))

below_high : (m : ℕ) (e : ℤ) → le (fin false m e) (fin false 1 (pos 10)) ≡ leb (m * up e) (1024 * down e)
unfolding le lt eq
below_high m e = let o : m * up e * 1 ≡ m * up e = mul-one (m * up e) in rw o (grind (arith, nat_tests))

positive_above : (m : ℕ) (e : ℤ) → le (fin true 1 (pos 10)) (fin false m e) ≡ true
unfolding le lt eq
positive_above m e = let d = down_pos e in grind (arith, nat_tests)

negative_below : (m : ℕ) (e : ℤ) → le (fin true m e) (fin false 1 (pos 10)) ≡ true
unfolding le lt eq
negative_below m e = let d = down_pos e in grind (arith, nat_tests)

eye_at : (x : Float) → T (fits binary32 x) → le (fin true 1 (pos 10)) x ≡ true → le x (fin false 1 (pos 10)) ≡ true
    → Some (to_signed 15 (mul binary32 x (of_bits binary32 1098907648))) ≡ eye_sixteenths x
unfolding eye_sixteenths le lt eq
eye_at nan f a b = never a
eye_at (inf true) f a b = never a
eye_at (inf false) f a b = never b
eye_at (fin true m e) f a b = let t = sym (above_low m e) ∙ a in rw (t, cut_eye true m e f (leb-true _ _ t))
eye_at (fin false m e) f a b = let t = sym (below_high m e) ∙ b in rw (t, cut_eye false m e f (leb-true _ _ t))

eye_not : (x : Float) → (le (fin true 1 (pos 10)) x ≡ false) ⊎ (le x (fin false 1 (pos 10)) ≡ false) → None ≡ eye_sixteenths x
unfolding eye_sixteenths
eye_not nan h = refl
eye_not (inf s) h = refl
eye_not (fin true m e) (inl a) = let t = sym (above_low m e) ∙ a in rw t
eye_not (fin true m e) (inr b) = never (sym b ∙ negative_below m e)
eye_not (fin false m e) (inl a) = never (sym a ∙ positive_above m e)
eye_not (fin false m e) (inr b) = let t = sym (below_high m e) ∙ b in rw t

pub eye_taken : (x : Float) → T (fits binary32 x) → le (neg (of_bits binary32 1149239296)) x ≡ true → le x (of_bits binary32 1149239296) ≡ true
    → Some (to_signed 15 (mul binary32 x (of_bits binary32 1098907648))) ≡ eye_sixteenths x
eye_taken x f a b = eye_at x f (rw minus_thousand at a) (rw thousand at b)

pub eye_left : (x : Float) → (le (neg (of_bits binary32 1149239296)) x ≡ false) ⊎ (le x (of_bits binary32 1149239296) ≡ false) → None ≡ eye_sixteenths x
eye_left x h = eye_not x (rw (minus_thousand, thousand) at h)

-- the tests of a focal length
enough : (m : ℕ) (e : ℤ) → le (fin false 1 (negsuc 3)) (fin false m e) ≡ leb (down e) (16 * (m * up e))
unfolding le lt eq
enough m e =
    let o : m * up e * 16 ≡ 16 * (m * up e) = mul_comm (m * up e) 16 in
    let n : 1 * down e ≡ down e = one-mul (down e) in rw (o, n) (grind (arith, nat_tests))

under : (m : ℕ) (e : ℤ) → lt (fin false m e) (fin false 1 (pos 12)) ≡ ltb (m * up e) (4096 * down e)
unfolding lt
under m e = let o : m * up e * 1 ≡ m * up e = mul-one (m * up e) in rw o

negative_not_enough : (m : ℕ) (e : ℤ) → le (fin false 1 (negsuc 3)) (fin true m e) ≡ false
unfolding le lt eq
negative_not_enough m e = let d = down_pos e in let n : 1 * down e ≡ down e = one-mul (down e) in rw n (grind (arith, nat_tests))

focal_at : (x : Float) → T (fits binary32 x) → le (fin false 1 (negsuc 3)) x ≡ true → lt x (fin false 1 (pos 12)) ≡ true
    → Some (to_unsigned 16 (mul binary32 x (of_bits binary32 1098907648))) ≡ focal_sixteenths x
unfolding focal_sixteenths le lt eq
focal_at nan f a b = never a
focal_at (inf true) f a b = never a
focal_at (inf false) f a b = never b
focal_at (fin true m e) f a b = never (sym (negative_not_enough m e) ∙ a)
focal_at (fin false m e) f a b = let t = sym (enough m e) ∙ a in let u = sym (under m e) ∙ b in rw (t, u, cut_focal m e f (ltb-true _ _ u))

and_false : (a : Bool) → (a && false) ≡ false
and_false true = refl
and_false false = refl

focal_not : (x : Float) → (le (fin false 1 (negsuc 3)) x ≡ false) ⊎ (lt x (fin false 1 (pos 12)) ≡ false) → None ≡ focal_sixteenths x
unfolding focal_sixteenths
focal_not nan h = refl
focal_not (inf s) h = refl
focal_not (fin true m e) h = refl
focal_not (fin false m e) (inl a) = let t = sym (enough m e) ∙ a in rw t
focal_not (fin false m e) (inr b) = let u = sym (under m e) ∙ b in rw (u, and_false (leb (down e) (16 * (m * up e))))

pub focal_taken : (x : Float) → T (fits binary32 x) → le (of_bits binary32 1031798784) x ≡ true → lt x (of_bits binary32 1166016512) ≡ true
    → Some (to_unsigned 16 (mul binary32 x (of_bits binary32 1098907648))) ≡ focal_sixteenths x
focal_taken x f a b = focal_at x f (rw sixteenth at a) (rw four_thousand at b)

pub focal_left : (x : Float) → (le (of_bits binary32 1031798784) x ≡ false) ⊎ (lt x (of_bits binary32 1166016512) ≡ false) → None ≡ focal_sixteenths x
focal_left x h = focal_not x (rw (sixteenth, four_thousand) at h)
