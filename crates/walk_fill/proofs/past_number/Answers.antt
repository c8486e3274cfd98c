-- `walk_fill::past_number` meets its contract.
use borrow.Author.Rules.{rules}
use Rattle.walk_fill.proofs.Folding.{number_past, number_on}
use Rattle.walk_fill.proofs.past_number.Goals as goal

pub returns-in-None : goal.returns-in-None
returns-in-None c =
    record { law = number_past _ _ _ c.number_at.ensures c.in-None.is; on = c.requires }

pub returns-in-Some : goal.returns-in-Some
returns-in-Some c =
    record { law = number_on _ _ _ c.number_at.ensures _ c.in-Some.is; on = search rules }
