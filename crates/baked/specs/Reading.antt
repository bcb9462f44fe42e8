-- What reading a file gives, from its bytes alone: layer by layer, the tests in their order, the first that hits.
use Rattle.std.specs.Prelude.{ℕ, ◌+◌, ◌-◌, Bool, cond, ◌&&◌, ◌||◌, List, [], ◌∷◌, length, ◌==◌, nat_lt}
use Rattle.bintree.specs.Orders.{is_order}
use Rattle.bintree.specs.Refusals.{Reply, given, refused, refusal}
use Rattle.terrain.specs.Grounds.{Ground}
use Rattle.terrain.specs.Filling.{filling}
use Rattle.baked.specs.Format.{front_of, heights_distance, bounds_distance, order_in, edition_at, edition, closing_at, closing, heights_length, bounds_length, heights_held, bounds_held, Part, part, Parts}

-- What the next layer makes of what a layer gives; a refusal stays what it is.
abbrev pub passed_to : {A B : Type 0} → Reply A → (A → Reply B) → Reply B
passed_to (given a) next = next a
passed_to (refused why) next = refused why

-- What the trailer says: how far back from it the heights and the bounds start, and the order. With it go the bytes in front of it.
pub record Pointers : Type 0 where
  pub front : List ℕ
  pub heights : ℕ
  pub bounds : ℕ
  pub order : ℕ

-- The trailer. Refusal 1, with the length: under 12 or over 65,536 bytes. Refusal 2, with the place of the first field that is wrong: the edition
-- is not 1, or the closing number not 0. Refusal 3, with the order: it is none.
abbrev pub reading_trailer : List ℕ → Reply Pointers
reading_trailer bs =
    cond (nat_lt (length bs) 12 || nat_lt 65536 (length bs)) (refused (refusal 1 (length bs ∷ [])))
    (cond (edition bs == 1)
    (cond (closing bs == 0)
    (cond (is_order (order_in bs))
    (given (record { front = front_of bs; heights = heights_distance bs; bounds = bounds_distance bs; order = order_in bs }))
    (refused (refusal 3 (order_in bs ∷ []))))
    (refused (refusal 2 (closing_at bs ∷ []))))
    (refused (refusal 2 (edition_at bs ∷ []))))

-- A section of k bytes that starts d bytes before the trailer, among the bytes in front of it. Refusal 4, with the section: d passes these bytes, or is
-- less than k.
abbrev pub locating : ℕ → ℕ → ℕ → List ℕ → Reply Part
locating section d k front =
    cond (nat_lt (length front) d || nat_lt d k) (refused (refusal 4 (section ∷ [])))
    (given (part (length front - d) k front))

-- In refusal 4 the heights are section 1, the bounds section 2.
abbrev pub heights_section : ℕ
heights_section = 1

abbrev pub bounds_section : ℕ
bounds_section = 2

-- A part of k bytes at the place p and one of m bytes at the place q share a byte.
abbrev pub share : ℕ → ℕ → ℕ → ℕ → Bool
share p k q m = nat_lt p (q + m) && nat_lt q (p + k)

-- Both sections. Refusal 5, with nothing: they share a byte.
abbrev pub pairing : ℕ → Part → Part → Reply Parts
pairing n h b =
    cond (share h.place (heights_length n) b.place (bounds_length n)) (refused (refusal 5 []))
    (given (record { order = n; heights = h; bounds = b }))

-- The sections: first the heights, then the bounds, then both.
abbrev pub reading_sections : Pointers → Reply Parts
reading_sections t =
    passed_to (locating heights_section t.heights (heights_length t.order) t.front) (λ h.
    passed_to (locating bounds_section t.bounds (bounds_length t.order) t.front) (λ b.
    pairing t.order h b))

-- Reading the sections of a file: trailer first, then sections.
abbrev pub reading : List ℕ → Reply Parts
reading bs = passed_to (reading_trailer bs) reading_sections

-- The table that the sections hold. Refusal 6, with the lowest-numbered triangle whose bound breaks a rule: the bounds do not cover.
abbrev pub reading_table : Parts → Reply Ground
reading_table s = filling s.order (heights_held s.order s.heights.bytes) (bounds_held s.bounds.bytes)

-- Loading the map that a file holds: trailer, sections, table.
abbrev pub loading : List ℕ → Reply Ground
loading bs = passed_to (reading bs) reading_table
