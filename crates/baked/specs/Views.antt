-- What the code's values stand for.
use Rattle.std.specs.Prelude.{ℕ, List}
use Rattle.bintree.specs.Views.{order_value}
use Rattle.baked.specs.declared.trailer.Trailer.{Trailer}
use Rattle.baked.specs.declared.sections.Section.{Section}
use Rattle.baked.specs.declared.sections.Sections.{Sections}
use Rattle.baked.specs.declared.reader.Reader.{Reader}
use Rattle.baked.specs.Format.{Part, Parts}
use Rattle.baked.specs.Reading.{Pointers}

-- The bytes that a reader reads.
abbrev pub file_of : Reader → List ℕ
file_of r = r.bytes.now

-- What a trailer says, and the bytes in front of it.
abbrev pub trailer_view : Trailer → Pointers
trailer_view t = record { front = t.front.now; heights = t.heights; bounds = t.bounds; order = order_value t.order }

-- A section as a part of the file.
abbrev pub section_view : Section → Part
section_view s = record { place = s.place; bytes = s.bytes.now }

-- Both sections, and the order.
abbrev pub sections_view : Sections → Parts
sections_view s = record { order = order_value s.order; heights = section_view s.heights; bounds = section_view s.bounds }
