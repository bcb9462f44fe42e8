-- What is proved of files: which are taken, and which map they hold. The laws stand on the contract of the call that fills a map.
use Rattle.std.specs.Prelude.{◌≡◌, ℕ, ◌+◌, ◌-◌, ◌*◌, ◌≤◌, ◌⊎◌, List, length}
use Rattle.bintree.specs.Orders.{side}
use Rattle.bintree.specs.Refusals.{given}
use Rattle.terrain.specs.Grounds.{Ground}
use Rattle.terrain.specs.Laws.{Covered}
use Rattle.terrain.specs.Filling.{described}
use Rattle.baked.specs.Bytes.{u16_at, u32_at}
use Rattle.baked.specs.Format.{trailer_at, heights_distance, bounds_distance, order_in, edition, closing, heights_length, bounds_length, part, Parts}
use Rattle.baked.specs.Reading.{reading, loading}

-- The file is laid out for order n with the heights at the place h and the bounds at the place b.
pub record Layout (bs : List ℕ) (n h b : ℕ) : Type 0 where
  -- It has 12 to 65,536 bytes, the edition 1 and the closing 0.
  pub long : 12 ≤ length bs
  pub short : length bs ≤ 65536
  pub edition_one : edition bs ≡ 1
  pub closing_zero : closing bs ≡ 0
  -- Its order is n, which is one.
  pub order : order_in bs ≡ n
  pub low : 1 ≤ n
  pub high : n ≤ 6
  -- The distances lead back from the trailer's first byte to the two places.
  pub heights_start : h + heights_distance bs ≡ trailer_at bs
  pub bounds_start : b + bounds_distance bs ≡ trailer_at bs
  -- The sections lie in front of the trailer and share no byte.
  pub heights_end : h + heights_length n ≤ trailer_at bs
  pub bounds_end : b + bounds_length n ≤ trailer_at bs
  pub apart : (h + heights_length n ≤ b) ⊎ (b + bounds_length n ≤ h)

-- The sections of such a file, as parts of its bytes.
abbrev pub parts : List ℕ → ℕ → ℕ → ℕ → Parts
parts bs n h b = record { order = n; heights = part h (heights_length n) bs; bounds = part b (bounds_length n) bs }

-- The map that such a file holds: the height of the sample (x, y) is the number at h + 2 (y (s + 1) + x), and the bound of the splittable triangle
-- i is the number at b + 4 (i − 2).
abbrev pub map_in : List ℕ → ℕ → ℕ → ℕ → Ground
map_in bs n h b = described n (λ p. u16_at bs (h + 2 * (p.y * (side n + 1) + p.x))) (λ i. u32_at bs (b + 4 * (i - 2)))

-- The file holds the map g: there are an order and two places for which it is laid out, g is what it holds there, and the bounds of g cover.
pub record Holds (bs : List ℕ) (g : Ground) : Type 0 where
  pub order : ℕ
  pub heights : ℕ
  pub bounds : ℕ
  pub layout : Layout bs order heights bounds
  pub map : g ≡ map_in bs order heights bounds
  pub covers : Covered g

-- The laws of the file bs.
pub record FileLaws (bs : List ℕ) : Type 0 where
  -- Its sections are given out exactly if it is laid out for some order and places, whether or not its bounds cover.
  pub gives : (n h b : ℕ) → Layout bs n h b → reading bs ≡ given (parts bs n h b)
  pub given_out : (s : Parts) → reading bs ≡ given s → Layout bs s.order s.heights.place s.bounds.place × (s ≡ parts bs s.order s.heights.place s.bounds.place)
  -- It is taken exactly if it holds a map, and the map filled is that one.
  pub takes : (g : Ground) → Holds bs g → loading bs ≡ given g
  pub taken : (g : Ground) → loading bs ≡ given g → Holds bs g
