-- Numbers in a list of bytes, the lowest byte first, and parts of such a list.
use Rattle.std.specs.Prelude.{ℕ, ◌+◌, ◌*◌, List, take, drop, slice_index}

-- The byte at the place i; past the end it counts as 0, here and below.
abbrev pub u8_at : List ℕ → ℕ → ℕ
u8_at bs i = slice_index bs i

-- The number in the two bytes from the place i on.
abbrev pub u16_at : List ℕ → ℕ → ℕ
u16_at bs i = u8_at bs i + u8_at bs (i + 1) * 256

-- The number in the four bytes from the place i on.
abbrev pub u32_at : List ℕ → ℕ → ℕ
u32_at bs i = u8_at bs i + u8_at bs (i + 1) * 256 + u8_at bs (i + 2) * 65536 + u8_at bs (i + 3) * 16777216

-- The k bytes from the place p on.
abbrev pub bytes_from : ℕ → ℕ → List ℕ → List ℕ
bytes_from p k bs = take k (drop p bs)
