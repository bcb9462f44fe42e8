use Rattle.bintree.specs.Triangles.{level}
use Rattle.bintree.specs.Views.{number_of}
use Rattle.mesh.proofs.mesh.triangle_set.TriangleSet.+split_forced.Given as goal

abbrev pub decreases-split_forced : goal.decreases-split_forced
decreases-split_forced l = level (number_of l.t)
