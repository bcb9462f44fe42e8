-- The refusals that this crate's faults stand for.
use Rattle.std.specs.Prelude.{[], ◌∷◌}
use Rattle.bintree.specs.Refusals.{Refusal, refusal}
use Rattle.terrain.specs.declared.fault.PointFault.{PointFault}
use Rattle.terrain.specs.declared.fault.CarveFault.{CarveFault}
use Rattle.terrain.specs.declared.fault.CarveFault.TheVariants.{Outside, Passing}

-- Refusal 8: no sample; its x and y come with it.
abbrev pub point_refusal : PointFault → Refusal
point_refusal f = refusal 8 (f.point.x ∷ f.point.y ∷ [])

-- Carving: refusal 8, or refusal 9: a new bound would pass the limit; the triangle comes with it.
abbrev pub carve_refusal : CarveFault → Refusal
carve_refusal (Outside f) = point_refusal f
carve_refusal (Passing i) = refusal 9 (i ∷ [])
