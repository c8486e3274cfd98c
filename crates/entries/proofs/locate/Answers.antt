-- `entries::locate` meets its contract, by the numbers of the entry.
use native.Mathlib.Omega.{arith}
use Rattle.entries.proofs.Places.{bad, good}
use Rattle.entries.proofs.locate.Goals as goal

pub returns-then-n-start : goal.returns-then-n-start
returns-then-n-start c = λ es h p q. bad _ _ _ _ _ h p q (omega arith) _ c.refuse.ensures

pub returns-then-n-start-2 : goal.returns-then-n-start-2
returns-then-n-start-2 c = λ es h p q. bad _ _ _ _ _ h p q (omega arith) _ c.refuse-then-n-start-2.ensures

pub returns : goal.returns
returns c = λ es h p q. good _ _ _ _ _ h p q (omega arith)
