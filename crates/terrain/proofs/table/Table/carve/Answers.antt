-- Done, the table holds the carved map; refused, the one height that was put is put back.
use Rattle.std.proofs.Common.{◌≡◌, ℕ, List, Vec, Global, length, get_or, set, vec_items, sym, ap, ◌∙◌}
use Rattle.std.proofs.lemmas.List.{set-set, set-get_or}
use Rattle.bintree.specs.declared.order.Order.{Order}
use Rattle.bintree.specs.Refusals.{Reply, given}
use Rattle.terrain.specs.Grounds.{Ground}
use Rattle.terrain.specs.Tables.{heights_in, bounds_in}
use Rattle.terrain.specs.Views.{table_view}
use Rattle.terrain.proofs.Replies.{leaves, carves, refuses}
use Rattle.terrain.proofs.table.Table.carve.Goals as goal

-- a value is put, and what stood there is put back
put_back : (zs : List ℕ) (i z x : ℕ) → x ≡ get_or zs i x → set (set zs i z) i x ≡ zs
put_back zs i z x e = set-set zs i z x ∙ (ap (set zs i) e ∙ set-get_or zs i x)

-- the map that a table of this order holds in these lists is given
abbrev held : Vec ℕ Global → Vec ℕ Global → Order → Reply Ground
held zs bs o = given (record { order = o.n; heights = heights_in o.n (vec_items zs); bounds = bounds_in o.n (vec_items bs) })

pub returns-in-Some : goal.returns-in-Some
returns-in-Some c =
    let n = c.args.self.now.order.n in
    let t = c.args.self.now in
    let k = c.in_ok-at.ensures in
    let long : length (vec_items t.heights) ≡ 4225 = sym t.heights.ok.0 ∙ t.tall in
    let s = rw c.replace-before.ensures.after at c.in-Some.ensures in
    let at = c.in_ok-at.at in
    let x = c.replace-before.result in
    let held : x ≡ get_or (vec_items t.heights) at x = cc (c.replace-before.ensures.value, c.index_mut.ensures.value) in
    let back : set (vec_items c.settle.new.self.heights) at x ≡ vec_items t.heights
    = ap (λ (v : _). set (vec_items v) at x) s.heights ∙ put_back (vec_items t.heights) at c.args.z x held in
    let told = refuses n (vec_items t.heights) (vec_items t.bounds) c.args.p c.args.z at c.args.self.now.order.high long k.0 k.1 _ s.passing.0 s.passing.1 in
    record {
      answer = told;
      leaves = (λ i. record { order = (s.order i).n; heights = heights_in (s.order i).n (back i); bounds = bounds_in (s.order i).n (vec_items (s.bounds i)) })
          ∙ leaves (table_view t) told;
    }

pub returns : goal.returns
returns c =
    let n = c.args.self.now.order.n in
    let t = c.args.self.now in
    let k = c.in_ok-at.ensures in
    let long : length (vec_items t.heights) ≡ 4225 = sym t.heights.ok.0 ∙ t.tall in
    let s = rw c.replace-before.ensures.after at c.in_default.ensures in
    let told = ap (held c.settle.new.self.heights c.swap.new.x) s.order
    ∙ carves n (vec_items t.heights) (vec_items t.bounds) c.args.p c.args.z c.in_ok-at.at c.args.self.now.order.high long k.0 k.1 _ _
    (ap vec_items s.heights) (ap (λ (v : _). bounds_in n (vec_items v)) c.swap.ensures.x_after ∙ s.new) s.passing in
    record { answer = told; leaves = leaves (table_view t) told }
