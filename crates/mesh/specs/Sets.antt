-- Splits and merges, as changes of a set of triangles.
use Rattle.std.specs.Prelude.{ℕ, zero, suc, ◌+◌, ◌*◌, ◌/◌, Bool, true, false, not, ◌&&◌, ◌||◌, List, [], ◌∷◌, ◌++◌, length, ◌==◌}
use Rattle.bintree.specs.Orders.{end, is_triangle}
use Rattle.bintree.specs.Triangles.{partner}
use Rattle.bintree.specs.Meshes.{Triangles}

-- The mesh of the two roots, 2 and 3.
abbrev pub roots : Triangles
roots x = x == 2 || x == 3

-- P with the halves of i in the place of i.
abbrev pub halve : ℕ → Triangles → Triangles
halve i P x = not (x == i) && (x / 2 == i || P x)

-- P with i in the place of its halves.
abbrev pub rejoin : ℕ → Triangles → Triangles
rejoin i P x = not (x / 2 == i) && (x == i || P x)

-- The triangle of P that holds p: p itself where it is present, else the one that holds its parent. (k bounds the way up, and p always suffices.)
abbrev pub holder_at : ℕ → Triangles → ℕ → ℕ
holder_at zero P p = p
holder_at (suc k) P p = elim (P p) [ true ↦ p | false ↦ holder_at k P (p / 2) ]

-- The triangle of P that holds p, with all the way up.
abbrev pub holder : Triangles → ℕ → ℕ
holder P p = holder_at p P p

-- Splitting i puts its halves in its place and does the same to its partner p, where it has one. If p is not present, the triangle that holds it is
-- split first, by this same rule. (k bounds the depth, and i always suffices, since what is split first has a lower number.)
abbrev pub split_deep : ℕ → ℕ → ℕ → Triangles → Triangles
split_deep zero n i P = P
split_deep (suc k) n i P =
    let p = partner n i in
    elim (p == 0) [
      | true ↦ halve i P
      | false ↦ elim (P p) [
        | true ↦ halve i (halve p P)
        | false ↦ halve i (halve p (split_deep k n (holder P p) P))
      ]
    ]

-- P after splitting i, at order n.
unfoldable pub split : ℕ → ℕ → Triangles → Triangles
unfolding partner
split n i P = split_deep i n i P

-- Both halves of i are present.
abbrev pub halves_in : Triangles → ℕ → Bool
halves_in P i = P (2 * i) && P (2 * i + 1)

-- Triangle i is one of a mergeable diamond: all halves of the diamond's triangles, which are i and its partner, are present.
unfoldable pub mergeable : ℕ → ℕ → Triangles → Bool
unfolding partner end
mergeable n i P =
    let p = partner n i in
    is_triangle n i && (halves_in P i && (p == 0 || halves_in P p))

-- Merging puts the triangles of the diamond back in the place of their halves.
unfoldable pub merge : ℕ → ℕ → Triangles → Triangles
unfolding partner
merge n i P =
    let p = partner n i in
    elim (p == 0) [ true ↦ rejoin i P | false ↦ rejoin i (rejoin p P) ]

-- The triangles of P below b, by rising number.
abbrev pub members : Triangles → ℕ → List ℕ
members P zero = []
members P (suc b) = elim (P b) [ true ↦ members P b ++ b ∷ [] | false ↦ members P b ]

-- The triangles of P of order n, by rising number.
unfoldable pub listed : ℕ → Triangles → List ℕ
unfolding end
listed n P = members P (end n)

-- How many they are.
unfoldable pub count : ℕ → Triangles → ℕ
unfolding listed
count n P = length (listed n P)
