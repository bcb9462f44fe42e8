-- What is proved of the calls on a mesh.
use Rattle.std.specs.Prelude.{◌≡◌, ℕ, ◌+◌, ◌<◌, ◌≤◌, true, false, ◌⊎◌, List, ◌≢◌}
use Rattle.bintree.specs.Orders.{first_finest}
use Rattle.bintree.specs.Triangles.{partner, level}
use Rattle.bintree.specs.Meshes.{Triangles, Within, IsMesh, Splits, CrackFree}
use Rattle.mesh.specs.Sets.{halve, holder, split, count}
use Rattle.mesh.specs.Calls.{State, state, new_mesh, Call, run, leaves, split_call, merge_call}

-- P is a crack-free mesh of order n: each finest triangle lies in exactly one of its triangles, and no corner of one lies within an edge of another.
pub record CrackFreeMesh (n : ℕ) (P : Triangles) : Type 0 where
  pub is_mesh : IsMesh n P
  pub crack_free : CrackFree n P

-- A mesh as the calls see it is sound if its order is 1 to 6 and it is a crack-free mesh of its order.
pub record Sound (s : State) : Type 0 where
  pub order : (1 ≤ s.order) × (s.order ≤ 6)
  pub mesh : CrackFreeMesh s.order s.mesh

-- After any list of resets, splits and merges from a new mesh, refused ones among them, the mesh is sound.
abbrev pub RunsSound : Type 0
RunsSound = (cs : List Call) → Sound (run new_mesh cs)

-- Q splits every triangle that P splits.
abbrev pub SplitsAll : Triangles → Triangles → Type 0
SplitsAll Q P = (j : ℕ) → Splits P j → Splits Q j

-- Splitting i in the crack-free mesh P gives Q: the least crack-free mesh that splits i and all that P splits. Every such mesh R splits all that Q splits, and has
-- at least as many triangles.
pub record LeastSplit (n i : ℕ) (P Q : Triangles) : Type 0 where
  pub mesh : CrackFreeMesh n Q
  pub keeps : SplitsAll Q P
  pub splits : Splits Q i
  pub least : (R : Triangles) → CrackFreeMesh n R → SplitsAll R P → Splits R i → SplitsAll R Q
  pub fewest : (R : Triangles) → CrackFreeMesh n R → SplitsAll R P → Splits R i → count n Q ≤ count n R

-- Splitting i in P where its partner, if it has one, is present gave Q: merging its diamond, named by i or by the partner, gives P back.
pub record Undone (n i : ℕ) (P Q : Triangles) : Type 0 where
  pub by_triangle : merge_call (state n Q) i ≡ leaves (state n P)
  pub by_partner : 0 < partner n i → merge_call (state n Q) (partner n i) ≡ leaves (state n P)

-- The triangle h that holds an absent partner p of i: it is present, p lies in it, it is not finest, and its level is above that of i.
pub record Holds (n i : ℕ) (P : Triangles) (p h : ℕ) : Type 0 where
  pub present : P h ≡ true
  pub within : Within p h
  pub splittable : h < first_finest n
  pub higher : level h < level i

-- The rule by which i is split in the crack-free mesh P, with no bound on a depth: Q is P with i halved, and its partner, where it has one; where the partner is absent, the
-- triangle that holds it is split first, by this same rule.
pub record SplitRule (n i : ℕ) (P Q : Triangles) : Type 0 where
  pub alone : partner n i ≡ 0 → Q ≡ halve i P
  pub both : 0 < partner n i → P (partner n i) ≡ true → Q ≡ halve i (halve (partner n i) P)
  pub forced : 0 < partner n i → P (partner n i) ≡ false → Q ≡ halve i (halve (partner n i) (split n (holder P (partner n i)) P))
  pub holds : 0 < partner n i → P (partner n i) ≡ false → Holds n i P (partner n i) (holder P (partner n i))

-- Splitting i in the crack-free mesh P gave Q.
pub record SplitLaws (n i : ℕ) (P Q : Triangles) : Type 0 where
  pub rule : SplitRule n i P Q
  pub least : LeastSplit n i P Q
  pub undone : (partner n i ≡ 0) ⊎ (P (partner n i) ≡ true) → Undone n i P Q

-- Merging the diamond of i in the crack-free mesh P gave Q, a crack-free mesh. That undid the split of the diamond's triangles, and nothing else; splitting i again
-- gives P back.
pub record MergeLaws (n i : ℕ) (P Q : Triangles) : Type 0 where
  pub mesh : CrackFreeMesh n Q
  pub still : (j : ℕ) → (j ≢ i) → (j ≢ partner n i) → Splits P j → Splits Q j
  pub only : (j : ℕ) → Splits Q j → (j ≢ i) × (j ≢ partner n i) × Splits P j
  pub again : split_call (state n Q) i ≡ leaves (state n P)

-- A mesh has two triangles more than it splits: there is the set of just the triangles that P splits, and P counts two more than that set.
pub record CountLaw (n : ℕ) (P : Triangles) : Type 0 where
  pub split_ones : Triangles
  pub all : (i : ℕ) → Splits P i → split_ones i ≡ true
  pub only : (i : ℕ) → split_ones i ≡ true → Splits P i
  pub counts : count n P ≡ count n split_ones + 2
