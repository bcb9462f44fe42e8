use Rattle.std.proofs.Common.{◌≡◌, Bool, true, false, not, ◌||◌, List, [], ◌∷◌, ap, ◌∙◌, rules, arith}
use Rattle.std.specs.List.{list_all, list_any}
use Rattle.std.proofs.lemmas.Iterator.{YieldsList-from_slice}
use Rattle.std.proofs.lemmas.Iterator.Search.{any_from_yields_List}
use Rattle.bintree.specs.declared.point.Point.{Point}
use Rattle.bintree.specs.declared.point.Way.{Way}
use Rattle.bintree.specs.declared.point.Corners.{Corners}
use Rattle.bintree.specs.Samples.{way}
use Rattle.plan.specs.Lines.{beyond, meets}
use Rattle.plan.proofs.line.unparted.Goals.{then-cut_off, else-cut_off, then-beyond, else-beyond}
use Rattle.plan.proofs.line.unparted.Goals as goal

-- the edge cuts both points off; all corners lie beyond the way
abbrev cuts : Point → Point → Way → Bool
cuts a b w = list_all (beyond w.from w.to) (a ∷ b ∷ [])

abbrev corners_beyond : Way → Corners → Bool
corners_beyond w t = list_all (beyond w.from w.to) (t.apex ∷ t.left ∷ t.right ∷ [])

-- a test that is made only where the one before it fails
either_first : (a v d : Bool) → v ≡ a → a ≡ true → v ≡ (a || d)
either_first a v d e f = cc

either_second : (a v r d : Bool) → v ≡ r → a ≡ false → r ≡ d → v ≡ (a || d)
either_second a v r d e f g = cc

-- the tests in turn are those of the definition
module _ (a b : Point) (t : Corners) where
  abbrev edges : List Way
  edges = way t.left t.right ∷ way t.right t.apex ∷ way t.apex t.left ∷ []

  abbrev parted : Bool
  parted = (list_any (cuts a b) edges || corners_beyond (way a b) t) || corners_beyond (way b a) t

  in_turn : not parted ≡ meets a b t
  unfolding meets
  in_turn = grind rules

-- (that the third way is the way back is found and not named, so that an edit is refused for the way that it takes and not for its form)
pub returns : goal.returns
returns c =
    let a = c.args.line.from in
    let b = c.args.line.to in
    let t = c.args.t in
    let cut : c.any-cut_off.result ≡ list_any (cuts a b) (edges a b t) =
    any_from_yields_List (cuts a b) _ _ _ c.any-cut_off.ensures.ran (YieldsList-from_slice c.edges.result cc) (λ x r q k. search rules) ∙ ap (list_any (cuts a b)) c.edges.ensures in
    let right : c.if-cut_off.value ≡ (c.any-cut_off.result || corners_beyond (way a b) t) = elim c.if-cut_off.branch [
      | then-cut_off w ↦ either_first _ _ _ w.value-is w.if-cut_off.true
      | else-cut_off w ↦ either_second _ _ _ _ w.value-is w.if-cut_off.false w.beyond.ensures
    ] in
    let left : c.if-beyond.result ≡ (c.if-cut_off.value || corners_beyond (way b a) t) = elim c.if-beyond.branch [
      | then-beyond w ↦ either_first _ _ _ w.result-is w.if-beyond.true
      | else-beyond w ↦ either_second _ _ _ _ w.result-is w.if-beyond.false (w.beyond-else-beyond.ensures ∙ ap (λ (u : Way). corners_beyond u t) (grind arith))
    ] in
    ap not (left ∙ ap (λ (v : Bool). v || corners_beyond (way b a) t) (right ∙ ap (λ (v : Bool). v || corners_beyond (way a b) t) cut)) ∙ in_turn a b t
