-- What the faults print: each its refusal's number, and what comes with it.
use Rattle.std.specs.Prelude.{ℕ, List, ◌++◌, codes}
use Rattle.std.specs.Fmt.{decimal}
use Rattle.bintree.specs.declared.fault.OrderFault.{OrderFault}

abbrev pub order_text : OrderFault → List ℕ
order_text f = codes "refused 7 order " ++ decimal f.order
