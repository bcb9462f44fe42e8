-- Every list of calls from a new mesh leaves a crack-free mesh of its order: each call keeps it so, and refused calls change nothing.
use Rattle.std.proofs.Common.{◌≡◌, ℕ, zero, suc, Bool, true, false, ltb, leb, List, [], ◌∷◌, sym, refl, subst, arith}
use mathlib.Core.Path.{fun_ext}
use Rattle.std.proofs.lemmas.Bool.{and_parts, leb-true, ltb-true, ne_eqb, le-leb, le-ltb}
use Rattle.bintree.specs.Orders.{is_order, first_finest}
use Rattle.forest.specs.SplitSets.{none, mesh}
use Rattle.forest.proofs.Merging.{none_closed}
use Rattle.mesh.specs.Sets.{roots, split, mergeable, merge}
use Rattle.mesh.specs.Faults.{no_order, absent, finest, not_mergeable}
use Rattle.mesh.specs.Calls.{State, state, new_mesh, Outcome, leaves, refuses, reset_call, split_call, merge_call, Call, reset_to, split_at, merge_at, call, run}
use Rattle.mesh.specs.Laws.{CrackFreeMesh, Sound, RunsSound}
use Rattle.mesh.proofs.Square.{square}
use Rattle.mesh.proofs.Wholes.{set_whole}
use Rattle.mesh.proofs.Theorems.{splits_least, merges_undo}

-- the roots are the mesh of the empty set
roots_are : (n : ℕ) → roots ≡ mesh (square n) none
roots_are n = fun_ext go
  where
    go : (i : ℕ) → roots i ≡ mesh (square n) none i
    go zero = refl
    go (suc zero) = refl
    go (suc (suc zero)) = refl
    go (suc (suc (suc zero))) = refl
    go (suc (suc (suc (suc i)))) =
        rw (ne_eqb (suc (suc (suc (suc i)))) 2 (λ e. omega arith), ne_eqb (suc (suc (suc (suc i)))) 3 (λ e. omega arith), le-leb 2 (suc (suc (suc (suc i)))) (omega arith), le-ltb (suc (suc (suc (suc i)))) 4 (omega arith)) refl

pub roots_whole : (n : ℕ) → CrackFreeMesh n roots
roots_whole n = subst (CrackFreeMesh n) (sym (roots_are n)) (set_whole n none none_closed)

-- each call
reset_sound : (s : State) (n : ℕ) → Sound s → Sound (reset_call s n).after
unfolding reset_call
reset_sound s n h = go (is_order n) refl
  where
    go : (b : Bool) → is_order n ≡ b → Sound (elim b as (λ _. Outcome) [ true ↦ leaves (state n roots) | false ↦ refuses s (no_order n) ]).after
    go true e = let a = and_parts (leb 1 n) _ e in record { order = (leb-true 1 n a.0, leb-true n 6 a.1); mesh = roots_whole n }
    go false e = h

split_sound : (s : State) (i : ℕ) → Sound s → Sound (split_call s i).after
unfolding split_call
split_sound s i h = go (s.mesh i) refl (ltb i (first_finest s.order)) refl
  where
    go : (b : Bool) → s.mesh i ≡ b → (d : Bool) → ltb i (first_finest s.order) ≡ d →
        Sound (elim b as (λ _. Outcome) [ false ↦ refuses s (absent i) | true ↦ elim d [ false ↦ refuses s (finest i) | true ↦ leaves (state s.order (split s.order i s.mesh)) ] ]).after
    go false e d f = h
    go true e false f = h
    go true e true f = record { order = h.order; mesh = (splits_least s.order i s.mesh h.mesh e (ltb-true i (first_finest s.order) f)).least.mesh }

merge_sound : (s : State) (i : ℕ) → Sound s → Sound (merge_call s i).after
unfolding merge_call
merge_sound s i h = go (mergeable s.order i s.mesh) refl
  where
    go : (b : Bool) → mergeable s.order i s.mesh ≡ b →
        Sound (elim b as (λ _. Outcome) [ false ↦ refuses s (not_mergeable i) | true ↦ leaves (state s.order (merge s.order i s.mesh)) ]).after
    go false e = h
    go true e = record { order = h.order; mesh = (merges_undo s.order i s.mesh h.mesh e).mesh }

call_sound : (s : State) (c : Call) → Sound s → Sound (call s c).after
call_sound s (reset_to n) h = reset_sound s n h
call_sound s (split_at i) h = split_sound s i h
call_sound s (merge_at i) h = merge_sound s i h

run_sound : (s : State) (cs : List Call) → Sound s → Sound (run s cs)
run_sound s [] h = h
run_sound s (c ∷ cs) h = run_sound (call s c).after cs (call_sound s c h)

pub runs_sound : RunsSound
runs_sound cs = run_sound new_mesh cs (record { order = (omega arith, omega arith); mesh = roots_whole 1 })
