-- Sums and maxima over the numbers below a bound, sizes of sets, and the count of a mesh. For a closed S a number i is in the mesh of S or in S just where it is a
-- root or its half is in S; summed over all numbers, the triangles and the split ones are the roots and twice the split ones.
use Rattle.std.proofs.Common.{◌≡◌, ℕ, zero, suc, ◌+◌, ◌-◌, ◌*◌, ◌/◌, ◌<◌, ◌≤◌, max, Bool, true, false, cond, not, ◌&&◌, ◌||◌, ltb, leb, ◌⊎◌, refl, ap, ◌∙◌, subst, inl, inr, arith}
use Rattle.std.proofs.lemmas.Bool.{cases_Bool, cases_lt, cases_eq, and_parts, and_from, or_cases, or_left, or_right, leb-true, le-leb, ltb-true, lt-ltb, le-ltb, lt-leb, not-true, not_from_false, false_from_ne_true}
use Rattle.forest.specs.Forests.{Forest, Lawful}
use Rattle.forest.specs.SplitSets.{Set, Subset, Closed, Present, mesh, one_if, sum_below, size, count}
use Rattle.forest.specs.Rules.{Fine, max_below, worst}

sum_le : (f g : ℕ → ℕ) (b : ℕ) → ((i : ℕ) → i < b → f i ≤ g i) → sum_below f b ≤ sum_below g b
sum_le f g zero h = omega arith
sum_le f g (suc b) h = omega (arith, sum_le f g b (λ i lt. h i (omega arith)), h b (omega arith))

sum_lt : (f g : ℕ → ℕ) (b : ℕ) → ((i : ℕ) → i < b → f i ≤ g i) → (j : ℕ) → j < b → f j < g j → sum_below f b < sum_below g b
sum_lt f g zero h j lt less = omega arith
sum_lt f g (suc b) h j lt less = go (cases_eq j b) (sum_lt f g b (λ i l. h i (omega arith)) j)
  where
    go : (j ≡ b) ⊎ (j ≡ b → ⊥) → (j < b → f j < g j → sum_below f b < sum_below g b) → sum_below f b + f b < sum_below g b + g b
    go (inl e) ih = omega (arith, sum_le f g b (λ i l. h i (omega arith)), subst (λ (y : ℕ). f y < g y) e less)
    go (inr ne) ih = omega (arith, h b (omega arith), ih (omega arith) less)

sum_eq : (f g : ℕ → ℕ) (b : ℕ) → ((i : ℕ) → i < b → f i ≡ g i) → sum_below f b ≡ sum_below g b
sum_eq f g zero h = refl
sum_eq f g (suc b) h = omega (arith, sum_eq f g b (λ i lt. h i (omega arith)), h b (omega arith))

sum_add : (f g : ℕ → ℕ) (b : ℕ) → sum_below (λ i. f i + g i) b ≡ sum_below f b + sum_below g b
sum_add f g zero = refl
sum_add f g (suc b) = omega (arith, sum_add f g b)

-- past b there is nothing to add
sum_past : (f : ℕ → ℕ) (b k : ℕ) → ((i : ℕ) → b ≤ i → f i ≡ 0) → sum_below f (k + b) ≡ sum_below f b
sum_past f b zero h = ap (sum_below f) (omega arith)
sum_past f b (suc k) h =
    let e : suc k + b ≡ suc (k + b) = omega arith in
    rw e (omega (arith, sum_past f b k h, h (k + b) (omega arith)))

-- each number is the half of two
sum_halves : (f : ℕ → ℕ) (b : ℕ) → sum_below (λ i. f (i / 2)) (2 * b) ≡ 2 * sum_below f b
sum_halves f zero = refl
sum_halves f (suc b) =
    let e : 2 * suc b ≡ suc (suc (2 * b)) = omega arith in
    let x : f (2 * b / 2) ≡ f b = ap f (omega arith) in
    let y : f (suc (2 * b) / 2) ≡ f b = ap f (omega arith) in
    rw e (omega (arith, sum_halves f b))

max_ge : (f : ℕ → ℕ) (b i : ℕ) → i < b → f i ≤ max_below f b
max_ge f zero i h = omega arith
max_ge f (suc b) i h = go (cases_eq i b) (max_ge f b i)
  where
    go : (i ≡ b) ⊎ (i ≡ b → ⊥) → (i < b → f i ≤ max_below f b) → f i ≤ max (max_below f b) (f b)
    go (inl e) ih = rw e (omega arith)
    go (inr ne) ih = omega (arith, ih (omega arith))

max_le : (f : ℕ → ℕ) (b θ : ℕ) → ((i : ℕ) → i < b → f i ≤ θ) → max_below f b ≤ θ
max_le f zero θ h = omega arith
max_le f (suc b) θ h = omega (arith, max_le f b θ (λ i lt. h i (omega arith)), h b (omega arith))

-- sizes
one_le : (a b : Bool) → (a ≡ true → b ≡ true) → one_if a ≤ one_if b
one_le true b h = rw (h refl) (omega arith)
one_le false b h = omega arith

pub size_le : (b : ℕ) (S R : Set) → Subset S R → size b S ≤ size b R
unfolding size
size_le b S R w = sum_le (λ i. one_if (S i)) (λ i. one_if (R i)) b (λ i lt. one_le (S i) (R i) (w i))

pub size_lt : (b : ℕ) (S R : Set) → Subset S R → (j : ℕ) → j < b → S j ≡ false → R j ≡ true → size b S < size b R
unfolding size
size_lt b S R w j lt out has = sum_lt (λ i. one_if (S i)) (λ i. one_if (R i)) b (λ i l. one_le (S i) (R i) (w i)) j lt (rw (out, has) (omega arith))

-- R has i and S has not, and they are the same elsewhere
pub size_one : (b : ℕ) (S R : Set) (i : ℕ) → i < b → S i ≡ false → R i ≡ true → ((x : ℕ) → (x ≡ i → ⊥) → R x ≡ S x) → size b R ≡ suc (size b S)
unfolding size
size_one zero S R i h out has same = absurd (omega arith)
size_one (suc b) S R i h out has same = go (cases_eq i b) (size_one b S R i)
  where
    go : (i ≡ b) ⊎ (i ≡ b → ⊥) → (i < b → S i ≡ false → R i ≡ true → ((x : ℕ) → (x ≡ i → ⊥) → R x ≡ S x) → size b R ≡ suc (size b S)) →
        size b R + one_if (R b) ≡ suc (size b S + one_if (S b))
    go (inl e) ih =
        let x : R b ≡ true = rw e at has in
        let y : S b ≡ false = rw e at out in
        omega (arith, sum_eq (λ j. one_if (R j)) (λ j. one_if (S j)) b (λ j l. ap one_if (same j (λ z. omega arith))), ap one_if x, ap one_if y)
    go (inr ne) ih = omega (arith, ih (omega arith) out has same, ap one_if (same b (λ z. ne (omega arith))))

pub size_past : (b k : ℕ) (S : Set) → ((i : ℕ) → b ≤ i → S i ≡ false) → size (k + b) S ≡ size b S
unfolding size
size_past b k S h = sum_past (λ i. one_if (S i)) b k (λ i l. ap one_if (h i l))

-- the test for the mesh says what Present says
module _ (φ : Forest) (S : Set) where
  pub mesh_true : (i : ℕ) → Present φ S i → mesh φ S i ≡ true
  mesh_true i p = and_from (leb φ.roots i) _ (le-leb φ.roots i p.range.0) (and_from (not (S i)) _ (not_from_false (S i) p.whole) (go (cases_lt i (2 * φ.roots))))
    where
      go : (i < 2 * φ.roots) ⊎ (2 * φ.roots ≤ i) → (ltb i (2 * φ.roots) || S (i / 2)) ≡ true
      go (inl s) = or_left _ _ (lt-ltb i (2 * φ.roots) s)
      go (inr l) = or_right _ _ (p.above l)

  pub mesh_is : (i : ℕ) → i < 2 * φ.finest → mesh φ S i ≡ true → Present φ S i
  mesh_is i lt e =
      let a = and_parts (leb φ.roots i) _ e in
      let b = and_parts (not (S i)) _ a.1 in
      record { range = (leb-true φ.roots i a.0, lt); whole = not-true (S i) b.0; above = λ l. go l (or_cases (ltb i (2 * φ.roots)) _ b.1) }
    where
      go : 2 * φ.roots ≤ i → (ltb i (2 * φ.roots) ≡ true) ⊎ (S (i / 2) ≡ true) → S (i / 2) ≡ true
      go l (inl s) = absurd (omega (arith, ltb-true i (2 * φ.roots) s))
      go l (inr t) = t

  -- nothing past the finest is in the mesh of a closed set
  pub mesh_within : φ.roots ≤ φ.finest → Closed φ S → (i : ℕ) → mesh φ S i ≡ true → i < 2 * φ.finest
  mesh_within room c i t = go (cases_lt i (2 * φ.finest)) (or_cases (ltb i (2 * φ.roots)) _ (and_parts (not (S i)) _ (and_parts (leb φ.roots i) _ t).1).1)
    where
      go : (i < 2 * φ.finest) ⊎ (2 * φ.finest ≤ i) → (ltb i (2 * φ.roots) ≡ true) ⊎ (S (i / 2) ≡ true) → i < 2 * φ.finest
      go (inl h) e = h
      go (inr h) (inl e) = absurd (omega (arith, ltb-true i (2 * φ.roots) e))
      go (inr h) (inr e) = absurd (omega (arith, c.range (i / 2) e))

  pub worst_fine : (number : ℕ → ℕ) → Fine φ number (worst φ number S) S
  unfolding worst
  worst_fine number i p =
      let e = mesh_true i p in
      let h : cond (mesh φ S i) (number i) 0 ≤ worst φ number S = max_ge (λ j. cond (mesh φ S j) (number j) 0) (2 * φ.finest) i p.range.1 in
      rw e at h

  pub worst_le : (number : ℕ → ℕ) (θ : ℕ) → Fine φ number θ S → worst φ number S ≤ θ
  unfolding worst
  worst_le number θ fine = max_le (λ j. cond (mesh φ S j) (number j) 0) (2 * φ.finest) θ (λ i lt. go i lt (cases_Bool (mesh φ S i)))
    where
      go : (i : ℕ) → i < 2 * φ.finest → (mesh φ S i ≡ true) ⊎ (mesh φ S i ≡ false) → cond (mesh φ S i) (number i) 0 ≤ θ
      go i lt (inl t) = rw t (fine i (mesh_is i lt t))
      go i lt (inr f) = rw f (omega arith)

-- 1 for a root, else 0
root : ℕ → ℕ → ℕ
root r i = one_if (leb r i && ltb i (2 * r))

root_under : (r i : ℕ) → i < r → root r i ≡ 0
unfolding root
root_under r i l = rw (lt-leb r i l) refl

root_past : (r i : ℕ) → 2 * r ≤ i → root r i ≡ 0
unfolding root
root_past r i l = rw (le-ltb i (2 * r) l, le-leb r i (omega arith)) refl

root_in : (r i : ℕ) → r ≤ i → i < 2 * r → root r i ≡ 1
unfolding root
root_in r i l h = rw (lt-ltb i (2 * r) h, le-leb r i l) refl

no_roots : (r b : ℕ) → b ≤ r → sum_below (root r) b ≡ 0
no_roots r zero h = refl
no_roots r (suc b) h = omega (arith, no_roots r b (omega arith), root_under r b (omega arith))

all_roots : (r k : ℕ) → k ≤ r → sum_below (root r) (k + r) ≡ k
all_roots r zero h = ap (sum_below (root r)) (omega arith) ∙ no_roots r r (omega arith)
all_roots r (suc k) h =
    let e : suc k + r ≡ suc (k + r) = omega arith in
    rw e (omega (arith, all_roots r k (omega arith), root_in r (k + r) (omega arith) (omega arith)))

one_above : (b c : Bool) → (b ≡ true → c ≡ true) → one_if (not b && c) + one_if b ≡ one_if c
one_above true c h = rw (h refl) refl
one_above false true h = refl
one_above false false h = refl

module _ {φ : Forest} (m : Lawful φ) (S : Set) (c : Closed φ S) where
  low_out : (i : ℕ) → i < φ.roots → S i ≡ false
  low_out i h = false_from_ne_true (S i) (λ t. omega (arith, c.range i t))

  at_each : (i : ℕ) → one_if (mesh φ S i) + one_if (S i) ≡ root φ.roots i + one_if (S (i / 2))
  at_each i = go (cases_lt i φ.roots) (cases_lt i (2 * φ.roots))
    where
      go : (i < φ.roots) ⊎ (φ.roots ≤ i) → (i < 2 * φ.roots) ⊎ (2 * φ.roots ≤ i) → one_if (mesh φ S i) + one_if (S i) ≡ root φ.roots i + one_if (S (i / 2))
      go (inl s) t = rw (root_under φ.roots i s, lt-leb φ.roots i s, low_out i s, low_out (i / 2) (omega arith)) refl
      go (inr s) (inl t) = rw (root_in φ.roots i s t, le-leb φ.roots i s, lt-ltb i (2 * φ.roots) t, low_out (i / 2) (omega arith)) (one_above (S i) true (λ _. refl))
      go (inr s) (inr t) = rw (root_past φ.roots i t, le-leb φ.roots i s, le-ltb i (2 * φ.roots) t) (one_above (S i) (S (i / 2)) (λ y. c.up i y t) ∙ omega arith)

  pub count_size : count φ S ≡ size φ.finest S + φ.roots
  unfolding size count
  count_size =
      let h : φ.roots ≤ φ.finest = m.room in
      let a = sum_eq (λ i. one_if (mesh φ S i) + one_if (S i)) (λ i. root φ.roots i + one_if (S (i / 2))) (2 * φ.finest) (λ i lt. at_each i) in
      let b = sum_add (λ i. one_if (mesh φ S i)) (λ i. one_if (S i)) (2 * φ.finest) in
      let d = sum_add (root φ.roots) (λ i. one_if (S (i / 2))) (2 * φ.finest) in
      let e = sum_halves (λ i. one_if (S i)) φ.finest in
      let f : sum_below (root φ.roots) (2 * φ.finest) ≡ φ.roots =
      ap (sum_below (root φ.roots)) (omega arith) ∙ sum_past (root φ.roots) (φ.roots + φ.roots) (2 * φ.finest - 2 * φ.roots) (λ i l. root_past φ.roots i (omega arith)) ∙ all_roots φ.roots φ.roots (omega arith) in
      let g : sum_below (λ i. one_if (S i)) (2 * φ.finest) ≡ size φ.finest S =
      ap (sum_below (λ i. one_if (S i))) (omega arith) ∙ sum_past (λ i. one_if (S i)) φ.finest φ.finest (λ i l. ap one_if (false_from_ne_true (S i) (λ t. omega (arith, c.range i t)))) in
      omega arith

pub count_le : {φ : Forest} → Lawful φ → (S R : Set) → Closed φ S → Closed φ R → Subset S R → count φ S ≤ count φ R
count_le {φ} m S R cS cR w = omega (arith, count_size m S cS, count_size m R cR, size_le φ.finest S R w)
