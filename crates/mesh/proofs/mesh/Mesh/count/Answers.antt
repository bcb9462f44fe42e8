use Rattle.mesh.specs.Views.{order_of, triangles_of}
use Rattle.mesh.proofs.Guarded.{mesh_value}
use Rattle.mesh.proofs.Counts.{count_law}
use Rattle.mesh.proofs.mesh.Mesh.count.Goals as goal

pub returns-clause-law : goal.returns-clause-law
returns-clause-law c = let m = c.args.self.now in count_law (order_of m) (triangles_of m) (mesh_value m)
