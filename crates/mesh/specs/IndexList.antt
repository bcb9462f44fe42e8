-- The index list: three vertex numbers for each triangle.
use Rattle.std.specs.Prelude.{ℕ, ◌+◌, ◌*◌, true, false, List, [], ◌∷◌, ◌++◌, length, drop, nat_le}
use Rattle.bintree.specs.declared.point.Point.{Point}
use Rattle.bintree.specs.declared.point.Corners.{Corners}
use Rattle.bintree.specs.Orders.{side}
use Rattle.bintree.specs.Triangles.{corners}
use Rattle.bintree.specs.Meshes.{Triangles}
use Rattle.bintree.specs.Refusals.{Reply, given, refused}
use Rattle.mesh.specs.Sets.{listed, count}
use Rattle.mesh.specs.Faults.{too_short}

-- The number of the vertex at (x, y): the samples are numbered row by row, y = 0 first, x rising.
abbrev pub vertex : ℕ → Point → ℕ
vertex n p = p.y * (side n + 1) + p.x

-- The vertices of the apex, the left and the right corner.
abbrev pub vertices : ℕ → Corners → List ℕ
vertices n t = vertex n t.apex ∷ vertex n t.left ∷ vertex n t.right ∷ []

-- The vertices of each triangle of a list, one after the other.
abbrev pub all_vertices : ℕ → List ℕ → List ℕ
all_vertices n [] = []
all_vertices n (i ∷ is) = vertices n (corners n i) ++ all_vertices n is

-- The index list of a mesh: for each of its triangles, by rising number, its vertices.
unfoldable pub index_list : ℕ → Triangles → List ℕ
unfolding listed corners
index_list n P = all_vertices n (listed n P)

-- What listing into a buffer gives: how many triangles were listed, or a refusal; and the buffer after it.
pub record Listing : Type 0 where
  pub reply : Reply ℕ
  pub buffer : List ℕ

-- The reply r, with the buffer b after it.
abbrev pub listing : Reply ℕ → List ℕ → Listing
listing r b = record { reply = r; buffer = b }

-- The list needs three places a triangle. It stands at the start of the buffer, and the rest of the buffer is unchanged.
unfoldable pub list_call : ℕ → Triangles → List ℕ → Listing
unfolding count index_list
list_call n P buffer = elim (nat_le (3 * count n P) (length buffer)) [
  | false ↦ listing (refused (too_short (3 * count n P))) buffer
  | true ↦ listing (given (count n P)) (index_list n P ++ drop (3 * count n P) buffer)
]
