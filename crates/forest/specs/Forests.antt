-- Forests of numbered triangles: all that the theory of meshes uses of a terrain square, or of several squares meshed as one.
use Rattle.std.specs.Prelude.{◌≡◌, ℕ, ◌*◌, ◌/◌, ◌^◌, ◌<◌, ◌≤◌, ◌⊎◌, ◌≢◌}

-- A forest. Its roots have the numbers from `roots` to before 2 * roots, and the halves of triangle i are 2i and 2i + 1. The triangles
-- from `finest` on, to before 2 * finest, are the finest, which are never split. The partner 0 says that there is none.
pub record Forest : Type 0 where
  pub roots : ℕ
  pub finest : ℕ
  pub partner : ℕ → ℕ

-- What the theory asks of a forest: there is a root, and the roots are triangles; the partner of a splittable triangle, where it has one, is
-- another splittable triangle of the same level, whose partner the triangle is; and two levels up partners meet: the triangle two levels above the
-- partner is the one two levels above the triangle itself, or the partner of that one.
pub record Lawful (φ : Forest) : Type 0 where
  pub some : 0 < φ.roots
  pub room : φ.roots ≤ φ.finest
  pub inside : (i : ℕ) → φ.roots ≤ i → i < φ.finest → 0 < φ.partner i → (φ.roots ≤ φ.partner i) × (φ.partner i < φ.finest)
  pub other : (i : ℕ) → φ.roots ≤ i → i < φ.finest → 0 < φ.partner i → φ.partner i ≢ i
  pub back : (i : ℕ) → φ.roots ≤ i → i < φ.finest → 0 < φ.partner i → φ.partner (φ.partner i) ≡ i
  pub level : (i k : ℕ) → φ.roots ≤ i → i < φ.finest → 0 < φ.partner i → i < φ.roots * 2 ^ k → φ.partner i < φ.roots * 2 ^ k
  pub meet : (i : ℕ) → 4 * φ.roots ≤ i → i < φ.finest → 0 < φ.partner i →
      (φ.partner i / 4 ≡ i / 4) ⊎ ((0 < φ.partner (i / 4)) × (φ.partner i / 4 ≡ φ.partner (i / 4)))
