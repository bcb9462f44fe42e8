-- What the faults print: each its refusal's number, and what comes with it.
use Rattle.std.specs.Prelude.{ℕ, List, ◌++◌, codes}
use Rattle.std.specs.Fmt.{decimal}
use Rattle.terrain.specs.declared.fault.PointFault.{PointFault}
use Rattle.terrain.specs.declared.fault.CarveFault.{CarveFault}
use Rattle.terrain.specs.declared.fault.CarveFault.TheVariants.{Outside, Passing}
use Rattle.terrain.specs.declared.relief.CoverFault.{CoverFault}

abbrev pub point_text : PointFault → List ℕ
point_text f = codes "refused 8 point " ++ decimal f.point.x ++ codes " " ++ decimal f.point.y

abbrev pub carve_text : CarveFault → List ℕ
carve_text (Outside f) = point_text f
carve_text (Passing i) = codes "refused 9 triangle " ++ decimal i

abbrev pub cover_text : CoverFault → List ℕ
cover_text f = codes "refused 6 triangle " ++ decimal f.triangle
