-- Lists of flags as sets of triangles: what a write of a flag does to the set.
use Rattle.std.proofs.Common.{◌≡◌, ℕ, ◌+◌, ◌*◌, ◌/◌, ◌<◌, ◌≤◌, Bool, true, false, cond, eqb, ◌⊎◌, List, length, set, replicate, refl, ap, ◌∙◌, inl, inr, arith, length-set}
use Rattle.std.proofs.lemmas.List.{get_or-replicate, length-replicate}
use mathlib.Core.Path.{fun_ext}
use Rattle.std.proofs.lemmas.List.{get_or-set_same, get_or-set_other, get_or_past}
use Rattle.std.proofs.lemmas.Bool.{cases_eq, cases_lt, eq-eqb, ne_eqb}
use Rattle.bintree.specs.declared.triangle.Triangle.{Triangle}
use Rattle.bintree.specs.Orders.{first_finest}
use Rattle.bintree.specs.Meshes.{Triangles}
use Rattle.bintree.specs.Views.{order_of, number_of}
use Rattle.bintree.proofs.Numbers.{end_twice}
use Rattle.bintree.proofs.Sizes.{end_bound}
use Rattle.forest.proofs.Basics.{halves}
use Rattle.mesh.specs.Invariant.{flagged}
use Rattle.mesh.specs.Sets.{roots, halve, rejoin}

-- P with b at i
abbrev put : ℕ → Bool → Triangles → Triangles
put i b P x = cond (eqb x i) b (P x)

flagged_set : (l : List Bool) (i : ℕ) (b : Bool) → i < length l → flagged (set l i b) ≡ put i b (flagged l)
flagged_set l i b h = fun_ext (λ x. go x (cases_eq x i))
  where
    go : (x : ℕ) → (x ≡ i) ⊎ (x ≡ i → ⊥) → flagged (set l i b) x ≡ put i b (flagged l) x
    go x (inl e) = rw (e, eq-eqb i i refl) (get_or-set_same l i b false h)
    go x (inr n) = rw (ne_eqb x i n) (get_or-set_other l i x b false n)

-- three flags
flagged_three : (l : List Bool) (i j k : ℕ) (a b c : Bool) → i < length l → j < length l → k < length l →
    flagged (set (set (set l i a) j b) k c) ≡ put k c (put j b (put i a (flagged l)))
flagged_three l i j k a b c hi hj hk =
    let u : length (set l i a) ≡ length l = length-set l i a in
    let v : length (set (set l i a) j b) ≡ length l = length-set (set l i a) j b ∙ u in
    flagged_set (set (set l i a) j b) k c (omega arith) ∙ ap (put k c) (flagged_set (set l i a) j b (omega arith) ∙ ap (put j b) (flagged_set l i a hi))

-- the halves of a splittable triangle have flags, and so has it
pub halves_fit : (t : Triangle) → number_of t < first_finest (order_of t) → 2 * number_of t + 1 < 16384
halves_fit t h = omega (arith, end_twice (order_of t), end_bound (order_of t) t.order.high)

not_half : (i x : ℕ) → (x ≡ 2 * i → ⊥) → (x ≡ 2 * i + 1 → ⊥) → x / 2 ≡ i → ⊥
not_half i x a b e = go (halves x)
  where
    go : (x ≡ 2 * (x / 2)) ⊎ (x ≡ 2 * (x / 2) + 1) → ⊥
    go (inl h) = a (omega arith)
    go (inr h) = b (omega arith)

pub halve_flags : (l : List Bool) (i : ℕ) → 2 ≤ i → 2 * i + 1 < length l → flagged (set (set (set l i false) (2 * i) true) (2 * i + 1) true) ≡ halve i (flagged l)
halve_flags l i lo up = flagged_three l i (2 * i) (2 * i + 1) false true true (omega arith) (omega arith) up ∙ fun_ext (λ x. go x (cases_eq x i) (cases_eq x (2 * i)) (cases_eq x (2 * i + 1)))
  where
    go : (x : ℕ) → (x ≡ i) ⊎ (x ≡ i → ⊥) → (x ≡ 2 * i) ⊎ (x ≡ 2 * i → ⊥) → (x ≡ 2 * i + 1) ⊎ (x ≡ 2 * i + 1 → ⊥) → put (2 * i + 1) true (put (2 * i) true (put i false (flagged l))) x ≡ halve i (flagged l) x
    go x (inl e) (inl f) z = absurd (omega arith)
    go x (inl e) (inr f) (inl g) = absurd (omega arith)
    go x (inl e) (inr f) (inr g) = rw (ne_eqb x (2 * i + 1) g, ne_eqb x (2 * i) f, eq-eqb x i e) refl
    go x (inr d) (inl f) (inl g) = absurd (omega arith)
    go x (inr d) (inl f) (inr g) =
        let h : x / 2 ≡ i = omega arith in
        rw (ne_eqb x (2 * i + 1) g, eq-eqb x (2 * i) f, ne_eqb x i d, eq-eqb (x / 2) i h) refl
    go x (inr d) (inr f) (inl g) =
        let h : x / 2 ≡ i = omega arith in
        rw (eq-eqb x (2 * i + 1) g, ne_eqb x i d, eq-eqb (x / 2) i h) refl
    go x (inr d) (inr f) (inr g) = rw (ne_eqb x (2 * i + 1) g, ne_eqb x (2 * i) f, ne_eqb x i d, ne_eqb (x / 2) i (not_half i x f g)) refl

pub rejoin_flags : (l : List Bool) (i : ℕ) → 2 ≤ i → 2 * i + 1 < length l → flagged (set (set (set l (2 * i) false) (2 * i + 1) false) i true) ≡ rejoin i (flagged l)
rejoin_flags l i lo up = flagged_three l (2 * i) (2 * i + 1) i false false true (omega arith) up (omega arith) ∙ fun_ext (λ x. go x (cases_eq x i) (cases_eq x (2 * i)) (cases_eq x (2 * i + 1)))
  where
    go : (x : ℕ) → (x ≡ i) ⊎ (x ≡ i → ⊥) → (x ≡ 2 * i) ⊎ (x ≡ 2 * i → ⊥) → (x ≡ 2 * i + 1) ⊎ (x ≡ 2 * i + 1 → ⊥) → put i true (put (2 * i + 1) false (put (2 * i) false (flagged l))) x ≡ rejoin i (flagged l) x
    go x (inl e) f g =
        let h : x / 2 ≡ i → ⊥ = λ z. omega arith in
        rw (eq-eqb x i e, ne_eqb (x / 2) i h) refl
    go x (inr d) f (inl g) =
        let h : x / 2 ≡ i = omega arith in
        rw (ne_eqb x i d, eq-eqb x (2 * i + 1) g, eq-eqb (x / 2) i h) refl
    go x (inr d) (inl f) (inr g) =
        let h : x / 2 ≡ i = omega arith in
        rw (ne_eqb x i d, ne_eqb x (2 * i + 1) g, eq-eqb x (2 * i) f, eq-eqb (x / 2) i h) refl
    go x (inr d) (inr f) (inr g) = rw (ne_eqb x i d, ne_eqb x (2 * i + 1) g, ne_eqb x (2 * i) f, ne_eqb (x / 2) i (not_half i x f g)) refl

-- where no flag is set, setting 2 and 3 makes the roots
none_set : (n k : ℕ) → flagged (replicate n false) k ≡ false
none_set n k = go (cases_lt k n)
  where
    go : (k < n) ⊎ (n ≤ k) → flagged (replicate n false) k ≡ false
    go (inl h) = get_or-replicate n k false false h
    go (inr h) = get_or_past (replicate n false) k false (omega (arith, length-replicate n false))

pub roots_flags : (l : List Bool) (n : ℕ) → l ≡ replicate n false → 4 ≤ n → flagged (set (set l 2 true) 3 true) ≡ roots
roots_flags l n e h = flagged_set (set l 2 true) 3 true (omega (arith, u, v)) ∙ (ap (put 3 true) (flagged_set l 2 true (omega (arith, u))) ∙ fun_ext (λ x. go x (cases_eq x 2) (cases_eq x 3)))
  where
    u : length l ≡ n
    u = ap length e ∙ length-replicate n false

    v : length (set l 2 true) ≡ length l
    v = length-set l 2 true

    go : (x : ℕ) → (x ≡ 2) ⊎ (x ≡ 2 → ⊥) → (x ≡ 3) ⊎ (x ≡ 3 → ⊥) → put 3 true (put 2 true (flagged l)) x ≡ roots x
    go x (inl e) f = rw e refl
    go x (inr d) (inl f) = rw f refl
    go x (inr d) (inr f) = rw (ne_eqb x 3 f, ne_eqb x 2 d, e) (none_set n x)
