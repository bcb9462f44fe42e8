-- The numbers that the five rules give.
use Rattle.std.specs.Prelude.{ℕ, ◌-◌, ◌*◌, cond}
use Rattle.bintree.specs.Orders.{is_triangle}
use Rattle.bintree.specs.Triangles.{corners, level}
use Rattle.bintree.specs.Samples.{box}
use Rattle.terrain.specs.Grounds.{Ground}
use Rattle.plan.specs.declared.spot.Line.{Line}
use Rattle.plan.specs.declared.spot.Rectangle.{Rectangle}
use Rattle.plan.specs.Lines.{spot_point, meets}
use Rattle.plan.specs.Rectangles.{touches}
use Rattle.optics.specs.declared.lens.Lens.{Lens}
use Rattle.optics.specs.Lenses.{seen}
use Rattle.policy.specs.Policies.{highest_priority}

-- The number f i for each triangle i of order n, and 0 for a number that is none.
abbrev pub on_triangles : ℕ → (ℕ → ℕ) → ℕ → ℕ
on_triangles n f i = cond (is_triangle n i) (f i) 0

-- Stored, over a map: the map's bound.
unfoldable pub stored : Ground → ℕ → ℕ
stored g = on_triangles g.order g.bounds

-- Level: 2n less the level.
unfoldable pub by_level : ℕ → ℕ → ℕ
by_level n = on_triangles n (λ i. 2 * n - level i)

-- Camera, over a map: the map's bound, seen through a lens.
unfoldable pub by_camera : Lens → Ground → ℕ → ℕ
by_camera l g = on_triangles g.order (λ i. seen l (g.bounds i) (box (corners g.order i)))

-- Sight line, over a policy with the numbers f: a triangle that the closed line meets has the highest priority, any other the number below.
unfoldable pub in_sight : Line → ℕ → (ℕ → ℕ) → ℕ → ℕ
in_sight l n f = on_triangles n (λ i. cond (meets (spot_point l.from) (spot_point l.to) (corners n i)) highest_priority (f i))

-- Window, over a policy with the numbers f: a triangle whose bounding box has no point in the closed rectangle has 0, any other the number below.
unfoldable pub in_window : Rectangle → ℕ → (ℕ → ℕ) → ℕ → ℕ
in_window w n f = on_triangles n (λ i. cond (touches w (box (corners n i))) (f i) 0)
