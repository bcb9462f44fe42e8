-- Listing: what one more triangle adds to the members, to the count and to the index list.
use Rattle.std.proofs.Common.{◌≡◌, ℕ, zero, suc, ◌+◌, ◌<◌, ◌≤◌, Bool, true, false, List, [], ◌∷◌, ◌++◌, length, count_by, take, ◌⊎◌, inl, inr, sym, refl, ap, ◌∙◌, append_assoc, add-one, arith, length-append}
use Rattle.std.proofs.lemmas.Bool.{cases_Bool, cases_lt}
use Rattle.std.proofs.lemmas.List.Sums.{count_by_more_yes, count_by_more_no}
use Rattle.bintree.specs.Meshes.{Triangles}
use Rattle.mesh.specs.Invariant.{flagged}
use Rattle.bintree.specs.Triangles.{corners}
use Rattle.mesh.specs.Sets.{members, listed, count}
use Rattle.bintree.specs.Orders.{end}
use Rattle.mesh.specs.IndexList.{vertices, all_vertices}

-- members
pub members_in : (P : Triangles) (i : ℕ) → P i ≡ true → members P (i + 1) ≡ members P i ++ i ∷ []
members_in P i e = rw (add-one i, e, members) refl

pub members_out : (P : Triangles) (i : ℕ) → P i ≡ false → members P (i + 1) ≡ members P i
members_out P i e = rw (add-one i, e, members) refl

-- how many
pub count_in : (P : Triangles) (i : ℕ) → P i ≡ true → length (members P (i + 1)) ≡ length (members P i) + 1
count_in P i e = ap length (members_in P i e) ∙ length-append (members P i) (i ∷ [])

pub count_out : (P : Triangles) (i : ℕ) → P i ≡ false → length (members P (i + 1)) ≡ length (members P i)
count_out P i e = ap length (members_out P i e)

step_up : (P : Triangles) (b : ℕ) → (length (members P b) ≤ length (members P (b + 1))) × (length (members P (b + 1)) ≤ length (members P b) + 1)
step_up P b = go (cases_Bool (P b))
  where
    go : (P b ≡ true) ⊎ (P b ≡ false) → (length (members P b) ≤ length (members P (b + 1))) × (length (members P (b + 1)) ≤ length (members P b) + 1)
    go (inl t) = omega (arith, count_in P b t)
    go (inr f) = omega (arith, count_out P b f)

pub count_bound : (P : Triangles) (b : ℕ) → length (members P b) ≤ b
count_bound P zero = omega arith
count_bound P (suc b) = let e : suc b ≡ b + 1 = omega arith in rw e (omega (arith, count_bound P b, step_up P b))

pub count_grows : (P : Triangles) (i e : ℕ) → i ≤ e → length (members P i) ≤ length (members P e)
count_grows P i zero h = let z : i ≡ 0 = omega arith in rw z (omega arith)
count_grows P i (suc e) h = go (cases_lt e i) (count_grows P i e)
  where
    go : (e < i) ⊎ (i ≤ e) → (i ≤ e → length (members P i) ≤ length (members P e)) → length (members P i) ≤ length (members P (suc e))
    go (inl l) ih = let z : i ≡ suc e = omega arith in rw z (omega arith)
    go (inr l) ih = let s : suc e ≡ e + 1 = omega arith in rw s (omega (arith, ih l, step_up P e))

-- the count of a mesh, by its members
pub count_members : (n : ℕ) (P : Triangles) → count n P ≡ length (members P (end n))
unfolding count listed
count_members n P = refl

-- so many flags are set
pub members_count : (l : List Bool) (b : ℕ) → b ≤ length l → length (members (flagged l) b) ≡ count_by (λ x. x) (take b l)
members_count l zero h = refl
members_count l (suc b) h = let e : suc b ≡ b + 1 = omega arith in rw e (go (cases_Bool (flagged l b)) (members_count l b (omega arith)))
  where
    go : (flagged l b ≡ true) ⊎ (flagged l b ≡ false) → length (members (flagged l) b) ≡ count_by (λ x. x) (take b l) → length (members (flagged l) (b + 1)) ≡ count_by (λ x. x) (take (b + 1) l)
    go (inl t) ih = omega (arith, ih, count_in (flagged l) b t, count_by_more_yes (λ (x : Bool). x) l b false h t)
    go (inr f) ih = omega (arith, ih, count_out (flagged l) b f, count_by_more_no (λ (x : Bool). x) l b false h f)

-- the index list
pub vertices_of : (n : ℕ) (xs ys : List ℕ) → all_vertices n (xs ++ ys) ≡ all_vertices n xs ++ all_vertices n ys
vertices_of n [] ys = refl
vertices_of n (x ∷ xs) ys = ap (λ (l : List ℕ). vertices n (corners n x) ++ l) (vertices_of n xs ys) ∙ sym (append_assoc (vertices n (corners n x)) (all_vertices n xs) (all_vertices n ys))

-- a triangle more in the list
pub list_more : (n : ℕ) (P : Triangles) (i : ℕ) → P i ≡ true → all_vertices n (members P (i + 1)) ≡ all_vertices n (members P i) ++ vertices n (corners n i)
list_more n P i t = ap (all_vertices n) (members_in P i t) ∙ vertices_of n (members P i) (i ∷ [])
