-- What the faults print: each its refusal's number, and what comes with it. A fault inside another prints for both.
use Rattle.std.specs.Prelude.{ℕ, List, ◌++◌, codes}
use Rattle.std.specs.Fmt.{decimal}
use Rattle.baked.specs.declared.fault.TrailerFault.{TrailerFault}
use Rattle.baked.specs.declared.fault.TrailerFault.TheVariants.{Length, Field, Order}
use Rattle.baked.specs.declared.fault.SectionName.{SectionName}
use Rattle.baked.specs.declared.fault.SectionName.TheVariants.{Heights, Bounds}
use Rattle.baked.specs.declared.fault.TableFault.{TableFault}
use Rattle.baked.specs.declared.fault.TableFault.TheVariants.{Uncovered}
use Rattle.baked.specs.declared.fault.SectionsFault.{SectionsFault}
use Rattle.baked.specs.declared.fault.SectionsFault.TheVariants.{Distance, Overlap, Table}
use Rattle.baked.specs.declared.fault.FileFault.{FileFault}
use Rattle.baked.specs.declared.fault.FileFault.TheVariants.{Trailer, Sections}

abbrev pub trailer_text : TrailerFault → List ℕ
trailer_text (Length k) = codes "refused 1 length " ++ decimal k
trailer_text (Field place) = codes "refused 2 place " ++ decimal place
trailer_text (Order n) = codes "refused 3 order " ++ decimal n

abbrev pub section_text : SectionName → List ℕ
section_text Heights = codes "heights"
section_text Bounds = codes "bounds"

abbrev pub table_text : TableFault → List ℕ
table_text (Uncovered i) = codes "refused 6 triangle " ++ decimal i

abbrev pub sections_text : SectionsFault → List ℕ
sections_text (Distance section) = codes "refused 4 section " ++ section_text section
sections_text Overlap = codes "refused 5"
sections_text (Table fault) = table_text fault

abbrev pub file_text : FileFault → List ℕ
file_text (Trailer fault) = trailer_text fault
file_text (Sections fault) = sections_text fault
