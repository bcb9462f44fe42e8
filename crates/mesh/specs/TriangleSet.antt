-- The set that a value of the code holds.
use Rattle.bintree.specs.Meshes.{Triangles}
use Rattle.mesh.specs.declared.mesh.triangle_set.TriangleSet.{TriangleSet}
use Rattle.mesh.specs.Invariant.{flagged}

-- The triangles whose flags are set.
abbrev pub triangles_in : TriangleSet → Triangles
triangles_in s = flagged s.flags.items
