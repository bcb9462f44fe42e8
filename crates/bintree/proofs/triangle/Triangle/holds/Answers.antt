use Rattle.std.proofs.Common.{◌≡◌, Bool, ◌&&◌, [], ◌∷◌, ap, ◌∙◌, arith, rules}
use Rattle.std.specs.List.{list_all}
use Rattle.std.proofs.Math.Bool.{and-true}
use Rattle.std.proofs.lemmas.Iterator.{YieldsList-from_slice}
use Rattle.std.proofs.lemmas.Iterator.Search.{all_from_yields_List}
use Rattle.bintree.specs.declared.point.Point.{Point}
use Rattle.bintree.specs.declared.point.Way.{Way}
use Rattle.bintree.specs.declared.point.Corners.{Corners}
use Rattle.bintree.specs.Samples.{way}
use Rattle.bintree.proofs.Inside.{beside, inside}
use Rattle.bintree.proofs.Laws.{inside_decides, sample_laws}
use Rattle.bintree.proofs.triangle.Triangle.holds.Goals as goal

-- v lies beside the way
abbrev lies : Point → Way → Bool
lies v w = beside w.from w.to v

-- the edges of t, one after the other
in_turn : (v : Point) (t : Corners) → list_all (lies v) (way t.left t.right ∷ way t.right t.apex ∷ way t.apex t.left ∷ []) ≡ inside v t
unfolding inside
in_turn v t = ap (λ (b : Bool). beside t.left t.right v && (beside t.right t.apex v && b)) (and-true (beside t.apex t.left v))

pub returns : goal.returns
returns c =
    let t = c.corners.result in
    let v = c.args.v in
    let each : c.all.result ≡ list_all (lies v) c.edges.result =
    all_from_yields_List (lies v) _ _ _ c.all.ensures.ran (YieldsList-from_slice c.edges.result cc) (λ x b q k. search rules) in
    record {
      value = inside_decides c.args.self.order.n c.args.self.number v t c.all.result (omega arith) (omega arith) c.corners.ensures.value
          (each ∙ (ap (list_all (lies v)) c.edges.ensures ∙ in_turn v t));
      laws = sample_laws c.args.self.order.n;
    }
