-- Bounds: for each triangle, how far its samples may stand from the plane of its corners, in half height units.
use Rattle.std.specs.Prelude.{◌≡◌, ℕ, zero, suc, ◌+◌, ◌-◌, ◌*◌, ◌<◌, ◌≤◌, max, Bool, true, false}
use Rattle.bintree.specs.declared.point.Corners.{Corners}
use Rattle.bintree.specs.Orders.{end, first_finest, is_splittable}
use Rattle.bintree.specs.Triangles.{corners, centre}
use Rattle.terrain.specs.Heights.{Heights}

-- How far two numbers are apart.
abbrev pub apart : ℕ → ℕ → ℕ
apart a b = (a - b) + (b - a)

-- The offset of a triangle (a, l, r) with the centre c: d = |2z(c) − z(l) − z(r)|, in half height units.
abbrev pub offset_of : Heights → Corners → ℕ
offset_of z t = apart (2 * z (centre t)) (z t.left + z t.right)

-- The offset of triangle i of order n.
unfoldable pub offset : ℕ → Heights → ℕ → ℕ
offset n z i = offset_of z (corners n i)

-- A table of bounds: a bound for each triangle, and 0 for any number that is none.
abbrev pub Bounds : Type 0
Bounds = ℕ → ℕ

-- No bound passes this limit.
abbrev pub limit : ℕ
limit = 16777215

-- Every finest triangle has bound 0.
abbrev pub FinestZero : ℕ → Bounds → Type 0
FinestZero n b = (i : ℕ) → first_finest n ≤ i → i < end n → b i ≡ 0

-- No bound passes the limit.
abbrev pub WithinLimit : ℕ → Bounds → Type 0
WithinLimit n b = (i : ℕ) → 2 ≤ i → i < end n → b i ≤ limit

-- Every splittable triangle's bound is at least its offset plus the greater bound of its halves.
abbrev pub AboveHalves : ℕ → Heights → Bounds → Type 0
AboveHalves n z b = (i : ℕ) → 2 ≤ i → i < first_finest n → offset n z i + max (b (2 * i)) (b (2 * i + 1)) ≤ b i

-- The bounds b cover the heights z.
pub record Covers (n : ℕ) (z : Heights) (b : Bounds) : Type 0 where
  pub finest : FinestZero n b
  pub limited : WithinLimit n b
  pub above : AboveHalves n z b

-- Bounds worked out anew, halves before parents: a triangle that is due gets its offset d plus the greater new bound of its halves, any other
-- keeps its bound b. (k bounds the depth; 2n, the number of the last level, suffices for order n.)
unfoldable pub worked_out : (ℕ → Bool) → (ℕ → ℕ) → Bounds → ℕ → Bounds
worked_out due d b zero i = b i
worked_out due d b (suc k) i = elim (due i) [
  | true ↦ d i + max (worked_out due d b k (2 * i)) (worked_out due d b k (2 * i + 1))
  | false ↦ b i
]

-- The measured bounds: 0 for a finest triangle; for any other its offset plus the greater bound of its halves.
unfoldable pub measured : ℕ → Heights → Bounds
measured n z = worked_out (is_splittable n) (offset n z) (λ _. 0) (2 * n)
