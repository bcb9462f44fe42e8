-- What the code's values stand for.
use Rattle.std.specs.Prelude.{ℕ}
use Rattle.bintree.specs.Views.{order_value}
use Rattle.bintree.specs.Meshes.{Triangles}
use Rattle.mesh.specs.declared.mesh.Mesh.{Mesh}
use Rattle.mesh.specs.TriangleSet.{triangles_in}
use Rattle.mesh.specs.Calls.{State, state}

-- The order of a mesh.
abbrev pub order_of : Mesh → ℕ
order_of m = order_value m.order

-- The set of its triangles.
abbrev pub triangles_of : Mesh → Triangles
triangles_of m = triangles_in m.present

-- The mesh as the calls see it.
abbrev pub state_of : Mesh → State
state_of m = state (order_of m) (triangles_of m)
