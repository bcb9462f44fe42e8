-- The count of a mesh is the size of its set, and so the count of the theory.
use Rattle.std.proofs.Common.{◌≡◌, ℕ, zero, suc, ◌+◌, ◌≤◌, Bool, true, false, List, [], ◌∷◌, ◌++◌, length, refl, ap, ◌∙◌, arith, length-append}
use Rattle.std.proofs.lemmas.Bool.{false_from_ne_true}
use Rattle.bintree.specs.Orders.{end, first_finest}
use Rattle.bintree.specs.Meshes.{Triangles}
use Rattle.bintree.proofs.Numbers.{end_twice}
use Rattle.forest.specs.SplitSets.{Set, Closed, mesh, one_if, size}
use Rattle.forest.specs.SplitSets as forest
use Rattle.forest.proofs.Sums.{size_past, count_size, count_le}
use Rattle.forest.specs.SplitSets.{Subset}
use Rattle.mesh.specs.Sets.{members, listed, count}
use Rattle.mesh.specs.Laws.{CrackFreeMesh, CountLaw}
use Rattle.mesh.proofs.Square.{square, square_lawful}
use Rattle.mesh.proofs.Covers.{split_set, splits_in, in_splits, mesh_of_splits}
use Rattle.mesh.proofs.Wholes.{whole_closed}

pub members_size : (P : Triangles) (b : ℕ) → length (members P b) ≡ size b P
unfolding size
members_size P zero = refl
members_size P (suc b) = go (P b) (members_size P b)
  where
    go : (t : Bool) → length (members P b) ≡ size b P → length (elim t as (λ _. List ℕ) [ true ↦ members P b ++ b ∷ [] | false ↦ members P b ]) ≡ size b P + one_if t
    go true ih = length-append (members P b) (b ∷ []) ∙ omega (arith, ih)
    go false ih = omega (arith, ih)

pub count_of : (n : ℕ) (P : Triangles) → count n P ≡ size (end n) P
unfolding count listed
count_of n P = members_size P (end n)

pub count_is : (n : ℕ) (S : Set) → count n (mesh (square n) S) ≡ forest.count (square n) S
unfolding forest.count
count_is n S = count_of n (mesh (square n) S) ∙ ap (λ (b : ℕ). size b (mesh (square n) S)) (end_twice n)

-- a mesh that splits more has more triangles
pub fewer : (n : ℕ) (S R : Set) → Closed (square n) S → Closed (square n) R → Subset S R → count n (mesh (square n) S) ≤ count n (mesh (square n) R)
fewer n S R c d w = omega (arith, count_is n S, count_is n R, count_le (square_lawful n) S R c d w)

-- triangles are those split, and two
pub count_law : (n : ℕ) (P : Triangles) → CrackFreeMesh n P → CountLaw n P
count_law n P w =
    let S : Set = split_set n P in
    let c = whole_closed n P w in
    let past : size (end n) S ≡ size (first_finest n) S = ap (λ (b : ℕ). size b S) (omega (arith, end_twice n)) ∙ size_past (first_finest n) (first_finest n) S (λ i l. false_from_ne_true (S i) (λ t. omega (arith, c.range i t))) in
    record {
      split_ones = S;
      all = splits_in n P w.is_mesh;
      only = in_splits n P w.is_mesh;
      counts = ap (count n) (mesh_of_splits n P w.is_mesh) ∙ omega (arith, count_is n S, count_size (square_lawful n) S c, count_of n S, past);
    }
