-- The refusals of the calls on a mesh, and which fault of the code is which.
use Rattle.std.specs.Prelude.{ℕ, List, [], ◌∷◌, ◌++◌, codes}
use Rattle.std.specs.Fmt.{decimal}
use Rattle.bintree.specs.Refusals.{Refusal, refusal}
use Rattle.mesh.specs.declared.fault.SplitFault.{SplitFault}
use Rattle.mesh.specs.declared.fault.SplitFault.TheVariants.{Absent, Finest}
use Rattle.mesh.specs.declared.fault.MergeFault.{MergeFault}
use Rattle.mesh.specs.declared.fault.ListFault.{ListFault}

-- Refusal 7: n is no order.
abbrev pub no_order : ℕ → Refusal
no_order n = refusal 7 (n ∷ [])

-- Refusal 11: triangle i is not present.
abbrev pub absent : ℕ → Refusal
absent i = refusal 11 (i ∷ [])

-- Refusal 12: triangle i is a finest one.
abbrev pub finest : ℕ → Refusal
finest i = refusal 12 (i ∷ [])

-- Refusal 13: i is not a triangle of a mergeable diamond.
abbrev pub not_mergeable : ℕ → Refusal
not_mergeable i = refusal 13 (i ∷ [])

-- Refusal 16: the buffer has fewer than the k places that are needed.
abbrev pub too_short : ℕ → Refusal
too_short k = refusal 16 (k ∷ [])

-- Which refusal a fault of a split is.
abbrev pub split_refusal : SplitFault → Refusal
split_refusal (Absent i) = absent i
split_refusal (Finest i) = finest i

-- Which refusal a fault of a merge is.
abbrev pub merge_refusal : MergeFault → Refusal
merge_refusal f = not_mergeable f.triangle

-- Which refusal a fault of a listing is.
abbrev pub list_refusal : ListFault → Refusal
list_refusal f = too_short f.places

-- What the faults print: the refusal, its number and its value.
abbrev pub split_text : SplitFault → List ℕ
split_text (Absent i) = codes "refused 11 triangle " ++ decimal i
split_text (Finest i) = codes "refused 12 triangle " ++ decimal i

abbrev pub merge_text : MergeFault → List ℕ
merge_text f = codes "refused 13 triangle " ++ decimal f.triangle

abbrev pub list_text : ListFault → List ℕ
list_text f = codes "refused 16 places " ++ decimal f.places
