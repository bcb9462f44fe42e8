-- The refusals that this crate's faults stand for: for each case its number and the values that come with it.
use Rattle.std.specs.Prelude.{ℕ, [], ◌∷◌}
use Rattle.bintree.specs.Refusals.{Refusal, refusal}
use Rattle.baked.specs.declared.fault.TrailerFault.{TrailerFault}
use Rattle.baked.specs.declared.fault.TrailerFault.TheVariants.{Length, Field, Order}
use Rattle.baked.specs.declared.fault.SectionName.{SectionName}
use Rattle.baked.specs.declared.fault.SectionName.TheVariants.{Heights, Bounds}
use Rattle.baked.specs.declared.fault.TableFault.{TableFault}
use Rattle.baked.specs.declared.fault.TableFault.TheVariants.{Uncovered}
use Rattle.baked.specs.declared.fault.SectionsFault.{SectionsFault}
use Rattle.baked.specs.declared.fault.SectionsFault.TheVariants.{Distance, Overlap, Table}
use Rattle.baked.specs.declared.fault.FileFault.{FileFault}
use Rattle.baked.specs.declared.fault.FileFault.TheVariants.{Trailer, Sections}
use Rattle.baked.specs.Reading.{heights_section, bounds_section}

-- The trailer's faults: refusal 1 with the file's length, 2 with the place of the wrong field, 3 with the order.
abbrev pub trailer_refusal : TrailerFault → Refusal
trailer_refusal (Length k) = refusal 1 (k ∷ [])
trailer_refusal (Field place) = refusal 2 (place ∷ [])
trailer_refusal (Order n) = refusal 3 (n ∷ [])

-- The number of a section in refusal 4.
abbrev pub section_number : SectionName → ℕ
section_number Heights = heights_section
section_number Bounds = bounds_section

-- The table's fault: refusal 6 with the triangle.
abbrev pub table_refusal : TableFault → Refusal
table_refusal (Uncovered i) = refusal 6 (i ∷ [])

-- The sections' faults: refusal 4 with the section, 5 with nothing, or the table's fault.
abbrev pub sections_refusal : SectionsFault → Refusal
sections_refusal (Distance section) = refusal 4 (section_number section ∷ [])
sections_refusal Overlap = refusal 5 []
sections_refusal (Table fault) = table_refusal fault

-- The file's faults are the trailer's and the sections'.
abbrev pub file_refusal : FileFault → Refusal
file_refusal (Trailer fault) = trailer_refusal fault
file_refusal (Sections fault) = sections_refusal fault
