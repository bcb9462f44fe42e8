-- The calls that change a mesh, and what each gives: an answer or a refusal, and the mesh after it.
use Rattle.std.specs.Prelude.{ℕ, true, false, List, [], ◌∷◌, nat_lt}
use Rattle.bintree.specs.Orders.{is_order, first_finest}
use Rattle.bintree.specs.Meshes.{Triangles}
use Rattle.bintree.specs.Refusals.{Refusal, Reply, given, refused}
use Rattle.mesh.specs.Sets.{roots, split, mergeable, merge}
use Rattle.mesh.specs.Faults.{no_order, absent, finest, not_mergeable}

-- A mesh as the calls see it: its order, and the set of its triangles.
pub record State : Type 0 where
  pub order : ℕ
  pub mesh : Triangles

-- The mesh P of order n.
abbrev pub state : ℕ → Triangles → State
state n P = record { order = n; mesh = P }

-- A new mesh has order 1 and the triangles 2 and 3.
abbrev pub new_mesh : State
new_mesh = state 1 roots

-- What a call answers that is not refused.
pub data Answer : Type 0 where
  done : Answer

-- What a call gives: its reply, and the mesh after it.
pub record Outcome : Type 0 where
  pub reply : Reply Answer
  pub after : State

-- The reply r, with the mesh s after it.
abbrev pub outcome : Reply Answer → State → Outcome
outcome r s = record { reply = r; after = s }

-- A call that is not refused, and leaves the mesh s.
abbrev pub leaves : State → Outcome
leaves s = outcome (given done) s

-- A call that is refused, and leaves the mesh s that it found.
abbrev pub refuses : State → Refusal → Outcome
refuses s r = outcome (refused r) s

-- Resetting the mesh to order n makes it the two roots again.
unfoldable pub reset_call : State → ℕ → Outcome
reset_call s n = elim (is_order n) [ true ↦ leaves (state n roots) | false ↦ refuses s (no_order n) ]

-- Splitting triangle i: it has to be present, and not a finest one.
unfoldable pub split_call : State → ℕ → Outcome
unfolding split first_finest
split_call s i = elim (s.mesh i) [
  | false ↦ refuses s (absent i)
  | true ↦ elim (nat_lt i (first_finest s.order)) [
    | false ↦ refuses s (finest i)
    | true ↦ leaves (state s.order (split s.order i s.mesh))
  ]
]

-- Merging the diamond of triangle i: it has to be mergeable.
unfoldable pub merge_call : State → ℕ → Outcome
unfolding mergeable merge
merge_call s i = elim (mergeable s.order i s.mesh) [
  | false ↦ refuses s (not_mergeable i)
  | true ↦ leaves (state s.order (merge s.order i s.mesh))
]

-- The calls, as data.
pub data Call : Type 0 where
  reset_to split_at merge_at : ℕ → Call

-- What each of them gives.
abbrev pub call : State → Call → Outcome
call s (reset_to n) = reset_call s n
call s (split_at i) = split_call s i
call s (merge_at i) = merge_call s i

-- The mesh after a list of calls, each on the mesh that the call before left.
abbrev pub run : State → List Call → State
run s [] = s
run s (c ∷ cs) = run (call s c).after cs
