-- The format of a baked file: where its fields and sections lie, and how long they are.
use Rattle.std.specs.Prelude.{ℕ, ◌+◌, ◌-◌, ◌*◌, List, length}
use Rattle.bintree.specs.Orders.{side, first_finest}
use Rattle.terrain.specs.Heights.{Heights}
use Rattle.terrain.specs.Bounds.{Bounds}
use Rattle.baked.specs.Bytes.{u8_at, u16_at, u32_at, bytes_from}

-- The trailer is the last 12 bytes. This is the place of its first byte, and so the number of the bytes in front of it; then those bytes.
abbrev pub trailer_at : List ℕ → ℕ
trailer_at bs = length bs - 12

abbrev pub front_of : List ℕ → List ℕ
front_of bs = bytes_from 0 (trailer_at bs) bs

-- How far before the trailer's first byte the heights start, and the bounds.
abbrev pub heights_distance : List ℕ → ℕ
heights_distance bs = u32_at bs (trailer_at bs)

abbrev pub bounds_distance : List ℕ → ℕ
bounds_distance bs = u32_at bs (trailer_at bs + 4)

-- The order.
abbrev pub order_in : List ℕ → ℕ
order_in bs = u8_at bs (trailer_at bs + 8)

-- The places of the edition and of the closing zero, and what stands there.
abbrev pub edition_at : List ℕ → ℕ
edition_at bs = trailer_at bs + 9

abbrev pub edition : List ℕ → ℕ
edition bs = u8_at bs (edition_at bs)

abbrev pub closing_at : List ℕ → ℕ
closing_at bs = trailer_at bs + 10

abbrev pub closing : List ℕ → ℕ
closing bs = u16_at bs (closing_at bs)

-- The heights of order n: two bytes for each of the (s + 1)² samples.
abbrev pub heights_length : ℕ → ℕ
heights_length n = 2 * ((side n + 1) * (side n + 1))

-- The bounds of order n: four bytes for each splittable triangle, whose numbers run from 2 to before first_finest n.
abbrev pub bounds_length : ℕ → ℕ
bounds_length n = 4 * (first_finest n - 2)

-- The heights of order n that a section holds: row by row, row y = 0 first, x rising.
abbrev pub heights_held : ℕ → List ℕ → Heights
heights_held n hs p = u16_at hs (2 * (p.y * (side n + 1) + p.x))

-- The bounds that a section holds: by triangle number, from 2 on.
abbrev pub bounds_held : List ℕ → Bounds
bounds_held bs i = u32_at bs (4 * (i - 2))

-- A part of a file, with its place in the file.
pub record Part : Type 0 where
  pub place : ℕ
  pub bytes : List ℕ

-- The k bytes of the file from the place p on, as a part of it.
abbrev pub part : ℕ → ℕ → List ℕ → Part
part p k bs = record { place = p; bytes = bytes_from p k bs }

-- The order of a file and its two sections.
pub record Parts : Type 0 where
  pub order : ℕ
  pub heights : Part
  pub bounds : Part
