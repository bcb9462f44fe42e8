use Rattle.std.proofs.Common.{◌≡◌, ◌*◌, length, take}
use Rattle.mesh.specs.Sets.{members}
use Rattle.mesh.specs.IndexList.{all_vertices}
use Rattle.mesh.specs.Views.{order_of, triangles_of}
use Rattle.mesh.proofs.mesh.Mesh.write_list.Given as goal

abbrev pub invariant-loop-i : goal.invariant-loop-i
invariant-loop-i l = record {
  so_far : l.at ≡ 3 * length (members (triangles_of l.self) l.i);
  written : take l.at l.places ≡ all_vertices (order_of l.self) (members (triangles_of l.self) l.i);
}
