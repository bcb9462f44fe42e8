use Rattle.mesh.proofs.Guarded.{mesh_value}
use Rattle.mesh.proofs.mesh.Mesh.order.Goals as goal

pub returns-clause-sound : goal.returns-clause-sound
returns-clause-sound c = let m = c.args.self.now in record { order = (m.order.low, m.order.high); mesh = mesh_value m }
