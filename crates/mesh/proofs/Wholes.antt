-- A crack-free mesh is the mesh of a closed set, and the mesh of every closed set is a crack-free mesh: the bridge, for the forest of the square.
use Rattle.std.proofs.Common.{◌≡◌, ℕ}
use Rattle.bintree.specs.Triangles.{partner}
use Rattle.bintree.specs.Meshes.{Triangles}
use Rattle.bintree.proofs.Bridge.{bridge}
use Rattle.forest.specs.SplitSets.{Set, Closed, mesh}
use Rattle.mesh.specs.Laws.{CrackFreeMesh}
use Rattle.mesh.proofs.Square.{square}
use Rattle.mesh.proofs.Covers.{split_set, split_range, split_up, splits_in, in_splits, mesh_of_splits, mesh_covers, splits_set, set_splits}

-- P is the mesh of a closed set
pub record MeshOf (n : ℕ) (P : Triangles) : Type 0 where
  pub set : Set
  pub closed : Closed (square n) set
  pub is : P ≡ mesh (square n) set

module _ (n : ℕ) (P : Triangles) (w : CrackFreeMesh n P) where
  pub whole_closed : Closed (square n) (split_set n P)
  whole_closed = record {
    range = split_range n P w.is_mesh;
    up = split_up n P w.is_mesh;
    across = λ i s p. splits_in n P w.is_mesh (partner n i) ((bridge n).closed P w.is_mesh w.crack_free i (in_splits n P w.is_mesh i s) p);
  }

  pub whole_mesh : MeshOf n P
  whole_mesh = record { set = split_set n P; closed = whole_closed; is = mesh_of_splits n P w.is_mesh }

pub set_whole : (n : ℕ) (S : Set) → Closed (square n) S → CrackFreeMesh n (mesh (square n) S)
set_whole n S c = record {
  is_mesh = mesh_covers n S c;
  crack_free = (bridge n).crack_free (mesh (square n) S) (mesh_covers n S c) (λ i s p. set_splits n S c (partner n i) (c.across i (splits_set n S c i s) p));
}
