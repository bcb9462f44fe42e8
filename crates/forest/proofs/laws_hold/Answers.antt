use Rattle.forest.specs.Forests.{Forest, Lawful}
use Rattle.forest.specs.SplitSets.{Set}
use Rattle.forest.specs.Rules.{Rule}
use Rattle.forest.specs.Laws.{MeshLaws, OptimumLaws}
use Rattle.forest.proofs.Sums.{count_size}
use Rattle.forest.proofs.Deepest.{some_mergeable}
use Rattle.forest.proofs.Forcing.{forced, shallow}
use Rattle.forest.proofs.Merging.{merged_closed, merged_keeps, merged_count}
use Rattle.forest.proofs.KeyLemma.{key}
use Rattle.forest.proofs.Optimum.{is_met, is_held, is_finest, stays_calm}
use Rattle.forest.proofs.Updates.{run_ends}
use Rattle.std.proofs.Common.{ℕ}
use Rattle.forest.proofs.laws_hold.Goals as goal

meshes : (φ : Forest) → Lawful φ → MeshLaws φ
meshes φ m = record {
  counts = λ S c. count_size m S c;
  forced = λ S i c r. forced m S i c r;
  shallow = λ S F i k c f h. shallow m S F i k c f h;
  merges = λ K S i c g. (merged_closed m K S c i g, merged_count m K S c i g, merged_keeps m K S c i g);
  mergeable = λ K S R cS cR pins i s f. let z = some_mergeable m K S R cS cR pins i s f in (z.0, z.1);
}

optimum : (φ : Forest) → Lawful φ → (K : Set) (number : ℕ → ℕ) → Rule φ number → OptimumLaws φ K number
optimum φ m K number law = record {
  key = λ e S R cS cR pins goal fine. key m law e K S R cS cR pins goal fine;
  met = λ e t S c calm top. is_met m law K e S c calm t top;
  held = λ e t N S F c calm top. is_held m law K e S c calm t top N F;
  finest = λ e t S c calm top. is_finest m law K e S c calm t top;
  calm = λ e t S F c calm top. stays_calm m law K e S c calm t top F;
  ends = λ L floor e N k S U c w r. run_ends m law K L floor e N k S U c w r;
}

pub returns : goal.returns
returns c φ m = record { meshes = meshes φ m; optimum = optimum φ m }
