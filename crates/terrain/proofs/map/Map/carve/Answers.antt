-- What the table leaves covers, whether it carved or refused.
use Rattle.terrain.specs.Views.{map_view}
use Rattle.terrain.proofs.Carvings.{carve_laws, carving_covers}
use Rattle.terrain.proofs.Maps.{map_covers}
use Rattle.terrain.proofs.map.Map.carve.Goals as goal

pub invariant_of-self : goal.invariant_of-self
invariant_of-self c =
    let m = c.args.self.now in
    let k = carving_covers c.args.p c.args.z (map_view m) _ (map_covers m) c.carve.ensures.leaves in
    record { finest = k.finest; limited = k.limited; above = k.above }

pub returns-clause-laws : goal.returns-clause-laws
returns-clause-laws c = carve_laws c.args.p c.args.z (map_view c.args.self.now)
