-- Which triangles are due to be worked out anew. What is due is splittable, and its parent is due with it; so below a triangle that is not due none is.
use Rattle.std.proofs.Common.{◌≡◌, ℕ, zero, suc, ◌+◌, ◌*◌, ◌/◌, ◌%◌, ◌^◌, ◌<◌, ◌≤◌, true, false, ◌⊎◌, List, Some, None, Option, sym, refl, ap, ◌∙◌, subst, inl, inr, div-le_self, div-one, arith}
use native.Mathlib.Nat.{div-div-eq-div-mul}
use Rattle.std.proofs.lemmas.Bool.{false_from_ne_true, both_ways}
use Rattle.bintree.specs.declared.point.Point.{Point}
use Rattle.bintree.specs.Orders.{first_finest, is_splittable}
use Rattle.bintree.specs.Meshes.{Within}
use Rattle.bintree.proofs.Tree.{two, three, num, Under, root_over}
use Rattle.bintree.proofs.Numbers.{node, num_node, within, halve_again}
use Rattle.terrain.specs.Bounds.{Bounds, offset, worked_out, measured}
use Rattle.terrain.specs.Carving.{carved_bounds}
use Rattle.terrain.specs.Tables.{heights_in, bounds_in}
use Rattle.terrain.specs.Working.{due, new_bounds}
use Rattle.terrain.proofs.Measuring.{splittable_low, splittable_high, is_split}
use Rattle.terrain.proofs.Carvings.{reached_splittable, reached_parent}

-- descent, a half at a time
pub self_within : (j i : ℕ) → j / 2 ^ 0 ≡ i → j ≡ i
self_within j i e = sym (div-one j) ∙ e

pub within_half : (j k i : ℕ) → j / 2 ^ suc k ≡ i → Within j (2 * i) ⊎ Within j (2 * i + 1)
within_half j k i e = go ((j / 2 ^ k) % 2) refl
  where
    d : j / 2 ^ k / 2 ≡ i
    d = div-div-eq-div-mul j (2 ^ k) 2 ∙ (ap (λ (z : ℕ). j / z) (let q : 2 ^ k * 2 ≡ 2 ^ suc k = omega arith in q) ∙ e)

    go : (m : ℕ) → (j / 2 ^ k) % 2 ≡ m → Within j (2 * i) ⊎ Within j (2 * i + 1)
    go zero r = inl (k, omega (arith, d))
    go (suc m) r = inr (k, omega (arith, d))

-- every triangle is a root or descends from one
pub rooted : (j : ℕ) → 2 ≤ j → Within j 2 ⊎ Within j 3
unfolding num
rooted j p = go (root_over (node j))
  where
    go : Under two (node j) ⊎ Under three (node j) → Within j 2 ⊎ Within j 3
    go (inl u) = inl (subst (λ (m : ℕ). Within m 2) (num_node j p) (within two (node j) u))
    go (inr u) = inr (subst (λ (m : ℕ). Within m 3) (num_node j p) (within three (node j) u))

-- what is due is splittable, and so is due its parent
due_splittable : (around : Option Point) (n i : ℕ) → due around n i ≡ true → is_splittable n i ≡ true
due_splittable None n i t = t
due_splittable (Some p) n i t = reached_splittable n p i t

pub due_low : (around : Option Point) (n i : ℕ) → due around n i ≡ true → 2 ≤ i
due_low around n i t = splittable_low n i (due_splittable around n i t)

pub due_high : (around : Option Point) (n i : ℕ) → due around n i ≡ true → i < first_finest n
due_high around n i t = splittable_high n i (due_splittable around n i t)

due_parent : (around : Option Point) (n i : ℕ) → 2 ≤ i → i < first_finest n → (due around n (2 * i) ≡ true) ⊎ (due around n (2 * i + 1) ≡ true) → due around n i ≡ true
due_parent None n i p q t = is_split n i p q
due_parent (Some v) n i p q t = reached_parent n v i p q t

due_upward : (around : Option Point) (n j : ℕ) → 2 ≤ j / 2 → due around n j ≡ true → due around n (j / 2) ≡ true
due_upward around n j p t = go (j % 2) refl
  where
    q : j < first_finest n
    q = due_high around n j t

    go : (m : ℕ) → j % 2 ≡ m → due around n (j / 2) ≡ true
    go zero e = due_parent around n (j / 2) p (omega (arith, q)) (inl (subst (λ (i : ℕ). due around n i ≡ true) (let k : j ≡ 2 * (j / 2) = omega arith in k) t))
    go (suc m) e = due_parent around n (j / 2) p (omega (arith, q)) (inr (subst (λ (i : ℕ). due around n i ≡ true) (let k : j ≡ 2 * (j / 2) + 1 = omega arith in k) t))

-- nothing is due below what is not
pub none_under : (around : Option Point) (n i : ℕ) → 2 ≤ i → due around n i ≡ false → (k j : ℕ) → j / 2 ^ k ≡ i → due around n j ≡ false
none_under around n i p f zero j e = subst (λ (m : ℕ). due around n m ≡ false) (sym (self_within j i e)) f
none_under around n i p f (suc k) j e =
    let u : j / 2 / 2 ^ k ≡ i = sym (halve_again j (j / 2) k refl) ∙ e in
    let l = div-le_self (j / 2) (2 ^ k) in
    let g = none_under around n i p f k (j / 2) u in
    false_from_ne_true (due around n j) (λ t. both_ways (due around n (j / 2)) g (due_upward around n j (omega arith) t))

-- measuring and carving as what they work out
pub new_measured : (n : ℕ) (zs bs : List ℕ) → bounds_in n bs ≡ (λ _. 0) → new_bounds None n zs bs ≡ measured n (heights_in n zs)
unfolding new_bounds measured
new_measured n zs bs e = ap (λ (b : Bounds). worked_out (is_splittable n) (offset n (heights_in n zs)) b (2 * n)) e

pub new_carved : (n : ℕ) (p : Point) (zs bs : List ℕ) → new_bounds (Some p) n zs bs ≡ carved_bounds n (heights_in n zs) p (bounds_in n bs)
unfolding new_bounds carved_bounds
new_carved n p zs bs = refl
