-- Triangle numbers are the trees: each number from 2 on is one node, and corners, levels and descent by number are those of its node.
use Rattle.std.proofs.Common.{◌≡◌, ℕ, zero, suc, ◌+◌, ◌*◌, ◌/◌, ◌%◌, ◌^◌, ◌<◌, ◌≤◌, Bool, true, false, eqb, ltb, sym, refl, ap, ◌∙◌, inl, inr, div-le_self, div-one, arith, pow_mono, ltb-false, ltb-true, eqb-true}
use native.Mathlib.Nat.{div-div-eq-div-mul}
use borrow.Author.Tests.{eqb-false}
use Rattle.bintree.specs.Orders.{end, first_finest}
use Rattle.bintree.specs.Triangles.{low_half, high_half, root_two, root_three, corners_at, corners, level_deep, level}
use Rattle.bintree.specs.Meshes.{Within}
use Rattle.bintree.proofs.Tree.{Node, two, three, lo, hi, num, depth, place, Under, by_powers}

-- the node of the number i, by the recursion that corners and levels have
abbrev grow : ℕ → ℕ → Node
grow zero i = two
grow (suc k) i = elim (ltb i 4) [
  | true ↦ elim (eqb i 2) [ true ↦ two | false ↦ three ]
  | false ↦ elim (eqb (i % 2) 0) [ true ↦ lo (grow k (i / 2)) | false ↦ hi (grow k (i / 2)) ]
]

unfoldable pub node : ℕ → Node
node i = grow i i

num_grow : (d i : ℕ) → 2 ≤ i → i < 2 ^ suc d → num (grow d i) ≡ i
unfolding num
num_grow zero i p q = absurd (omega arith)
num_grow (suc d) i p q = go (ltb i 4) refl (eqb i 2) refl (eqb (i % 2) 0) refl (λ h. num_grow d (i / 2) (omega arith) (omega arith))
  where
    go : (b : Bool) → ltb i 4 ≡ b → (c : Bool) → eqb i 2 ≡ c → (e : Bool) → eqb (i % 2) 0 ≡ e → (4 ≤ i → num (grow d (i / 2)) ≡ i / 2)
        → num (elim b [ true ↦ elim c [ true ↦ two | false ↦ three ] | false ↦ elim e [ true ↦ lo (grow d (i / 2)) | false ↦ hi (grow d (i / 2)) ] ]) ≡ i
    go true hb true hc e he ih = omega (arith, ltb-true, ltb-false, eqb-true, eqb-false)
    go true hb false hc e he ih = omega (arith, ltb-true, ltb-false, eqb-true, eqb-false)
    go false hb c hc true he ih = omega (arith, ltb-true, ltb-false, eqb-true, eqb-false)
    go false hb c hc false he ih = omega (arith, ltb-true, ltb-false, eqb-true, eqb-false)

below_power : (i : ℕ) → i < 2 ^ i
below_power zero = omega arith
below_power (suc i) = omega (arith, below_power i)

pub num_node : (i : ℕ) → 2 ≤ i → num (node i) ≡ i
unfolding node
num_node i h = num_grow i i h (omega (arith, below_power i))

pub num_from_two : (t : Node) → 2 ≤ num t
unfolding num
num_from_two two = omega arith
num_from_two three = omega arith
num_from_two (lo t) = omega (arith, num_from_two t)
num_from_two (hi t) = omega (arith, num_from_two t)

pub num_injective : (t u : Node) → num t ≡ num u → t ≡ u
unfolding num
num_injective two two e = refl
num_injective two three e = absurd (omega arith)
num_injective two (lo u) e = absurd (omega (arith, num_from_two u))
num_injective two (hi u) e = absurd (omega (arith, num_from_two u))
num_injective three two e = absurd (omega arith)
num_injective three three e = refl
num_injective three (lo u) e = absurd (omega (arith, num_from_two u))
num_injective three (hi u) e = absurd (omega (arith, num_from_two u))
num_injective (lo t) two e = absurd (omega (arith, num_from_two t))
num_injective (lo t) three e = absurd (omega (arith, num_from_two t))
num_injective (lo t) (lo u) e = ap lo (num_injective t u (omega arith))
num_injective (lo t) (hi u) e = absurd (omega arith)
num_injective (hi t) two e = absurd (omega (arith, num_from_two t))
num_injective (hi t) three e = absurd (omega (arith, num_from_two t))
num_injective (hi t) (lo u) e = absurd (omega arith)
num_injective (hi t) (hi u) e = ap hi (num_injective t u (omega arith))

pub node_num : (t : Node) → node (num t) ≡ t
node_num t = num_injective (node (num t)) t (num_node (num t) (num_from_two t))

pub node_injective : (i j : ℕ) → 2 ≤ i → 2 ≤ j → node i ≡ node j → i ≡ j
node_injective i j p q e = sym (num_node i p) ∙ (ap num e ∙ num_node j q)

-- the halves of a number
pub node_low : (i : ℕ) → 2 ≤ i → node (2 * i) ≡ lo (node i)
unfolding num
node_low i h = num_injective _ _ (num_node (2 * i) (omega arith) ∙ ap (λ (z : ℕ). 2 * z) (sym (num_node i h)))

pub node_high : (i : ℕ) → 2 ≤ i → node (2 * i + 1) ≡ hi (node i)
unfolding num
node_high i h = num_injective _ _ (num_node (2 * i + 1) (omega arith) ∙ ap (λ (z : ℕ). 2 * z + 1) (sym (num_node i h)))

-- corners and levels
corners_grow : (s k i : ℕ) → corners_at k s i ≡ place s (grow k i)
unfolding place
corners_grow s zero i = refl
corners_grow s (suc k) i = go (ltb i 4) (eqb i 2) (eqb (i % 2) 0) (corners_grow s k (i / 2))
  where
    go : (b c d : Bool) → corners_at k s (i / 2) ≡ place s (grow k (i / 2)) →
        elim b [
          | true ↦ elim c [ true ↦ root_two s | false ↦ root_three s ]
          | false ↦ elim d [ true ↦ low_half (corners_at k s (i / 2)) | false ↦ high_half (corners_at k s (i / 2)) ]
        ]
        ≡ place s (elim b [ true ↦ elim c [ true ↦ two | false ↦ three ] | false ↦ elim d [ true ↦ lo (grow k (i / 2)) | false ↦ hi (grow k (i / 2)) ] ])
    go true true d e = refl
    go true false d e = refl
    go false c true e = ap low_half e
    go false c false e = ap high_half e

pub corners_is : (n i : ℕ) → corners n i ≡ place (2 ^ n) (node i)
unfolding corners node
corners_is n i = corners_grow (2 ^ n) i i

level_grow : (k i : ℕ) → level_deep k i ≡ depth (grow k i)
unfolding depth
level_grow zero i = refl
level_grow (suc k) i = go (ltb i 4) (eqb i 2) (eqb (i % 2) 0) (level_grow k (i / 2))
  where
    go : (b c d : Bool) → level_deep k (i / 2) ≡ depth (grow k (i / 2)) →
        elim b [ true ↦ 0 | false ↦ suc (level_deep k (i / 2)) ]
        ≡ depth (elim b [ true ↦ elim c [ true ↦ two | false ↦ three ] | false ↦ elim d [ true ↦ lo (grow k (i / 2)) | false ↦ hi (grow k (i / 2)) ] ])
    go true true d e = refl
    go true false d e = refl
    go false c true e = ap suc e
    go false c false e = ap suc e

pub level_is : (i : ℕ) → level i ≡ depth (node i)
unfolding level node
level_is i = level_grow i i

pub corners_low : (n i : ℕ) → 2 ≤ i → corners n (2 * i) ≡ low_half (corners n i)
unfolding place
corners_low n i h = corners_is n (2 * i) ∙ (ap (place (2 ^ n)) (node_low i h) ∙ ap low_half (sym (corners_is n i)))

pub corners_high : (n i : ℕ) → 2 ≤ i → corners n (2 * i + 1) ≡ high_half (corners n i)
unfolding place
corners_high n i h = corners_is n (2 * i + 1) ∙ (ap (place (2 ^ n)) (node_high i h) ∙ ap high_half (sym (corners_is n i)))

-- levels by powers of two
pub at_most : (t : Node) (k : ℕ) → num t < 2 ^ suc (suc k) → depth t ≤ k
at_most t k h = let f : ¬ (k < depth t) = λ z. absurd (omega (arith, by_powers t, pow_mono {i = suc (suc k)} {j = suc (depth t)} (omega arith))) in omega arith

pub at_least : (t : Node) (k : ℕ) → 2 ^ suc k ≤ num t → k ≤ depth t
at_least t k h = let f : ¬ (depth t < k) = λ z. absurd (omega (arith, by_powers t, pow_mono {i = suc (suc (depth t))} {j = suc k} (omega arith))) in omega arith

-- the numbers of order n are the nodes down to level 2n, those before the finest the nodes above that level
pub end_is : (n : ℕ) → end n ≡ 2 ^ suc (suc (2 * n))
unfolding end
end_is n = ap (λ (k : ℕ). 2 ^ k) (omega arith)

pub first_finest_is : (n : ℕ) → first_finest n ≡ 2 ^ suc (2 * n)
unfolding first_finest
first_finest_is n = ap (λ (k : ℕ). 2 ^ k) (omega arith)

pub end_twice : (n : ℕ) → end n ≡ 2 * first_finest n
end_twice n = omega (arith, end_is n, first_finest_is n)

pub depth_of_triangle : (n i : ℕ) → 2 ≤ i → i < end n → depth (node i) ≤ 2 * n
depth_of_triangle n i p q = at_most (node i) (2 * n) (omega (arith, num_node i p, end_is n))

pub depth_of_splittable : (n i : ℕ) → 2 ≤ i → i < first_finest n → depth (node i) < 2 * n
depth_of_splittable zero i p q = absurd (omega (arith, first_finest_is 0))
depth_of_splittable (suc n) i p q =
    let e : 2 ^ suc (2 * suc n) ≡ 2 ^ suc (suc (2 * n + 1)) = ap (λ (k : ℕ). 2 ^ k) (omega arith) in
    omega (arith, at_most (node i) (2 * n + 1) (omega (arith, num_node i p, first_finest_is (suc n))))

pub depth_of_finest : (n i : ℕ) → 2 ≤ i → first_finest n ≤ i → 2 * n ≤ depth (node i)
depth_of_finest n i p q = at_least (node i) (2 * n) (omega (arith, num_node i p, first_finest_is n))

pub triangle_of_depth : (n : ℕ) (t : Node) → depth t ≤ 2 * n → num t < end n
triangle_of_depth n t h = omega (arith, by_powers t, end_is n, pow_mono {i = suc (suc (depth t))} {j = suc (suc (2 * n))} (omega arith))

pub splittable_of_depth : (n : ℕ) (t : Node) → depth t < 2 * n → num t < first_finest n
splittable_of_depth n t h = omega (arith, by_powers t, first_finest_is n, pow_mono {i = suc (suc (depth t))} {j = suc (2 * n)} (omega arith))

-- descent by number is descent in the trees
pub halve_again : (f g k : ℕ) → f / 2 ≡ g → f / 2 ^ suc k ≡ g / 2 ^ k
halve_again f g k e = ap (λ (z : ℕ). f / z) (omega arith) ∙ (sym (div-div-eq-div-mul f 2 (2 ^ k)) ∙ ap (λ (z : ℕ). z / 2 ^ k) e)

pub within : (q t : Node) → Under q t → Within (num t) (num q)
unfolding num
within q two e = (0, div-one _ ∙ sym (ap num e))
within q three e = (0, div-one _ ∙ sym (ap num e))
within q (lo t) (inl e) = (0, div-one _ ∙ sym (ap num e))
within q (lo t) (inr u) = let z = within q t u in (suc z.0, halve_again (2 * num t) (num t) z.0 (omega arith) ∙ z.1)
within q (hi t) (inl e) = (0, div-one _ ∙ sym (ap num e))
within q (hi t) (inr u) = let z = within q t u in (suc z.0, halve_again (2 * num t + 1) (num t) z.0 (omega arith) ∙ z.1)

pub under : (q t : Node) (k : ℕ) → num t / 2 ^ k ≡ num q → Under q t
unfolding num
under q two zero e = num_injective q two (sym e ∙ div-one _)
under q two (suc k) e = absurd (omega (arith, halve_again 2 1 k refl, div-le_self 1 (2 ^ k), num_from_two q))
under q three zero e = num_injective q three (sym e ∙ div-one _)
under q three (suc k) e = absurd (omega (arith, halve_again 3 1 k refl, div-le_self 1 (2 ^ k), num_from_two q))
under q (lo t) zero e = inl (num_injective q (lo t) (sym e ∙ div-one _))
under q (lo t) (suc k) e = inr (under q t k (sym (halve_again (2 * num t) (num t) k (omega arith)) ∙ e))
under q (hi t) zero e = inl (num_injective q (hi t) (sym e ∙ div-one _))
under q (hi t) (suc k) e = inr (under q t k (sym (halve_again (2 * num t + 1) (num t) k (omega arith)) ∙ e))
