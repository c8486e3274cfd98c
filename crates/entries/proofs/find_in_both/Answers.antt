-- `entries::find_in_both` meets its contract: by the slots, and by the numbers of the entry.
use native.Mathlib.Omega.{arith}
use mathlib.Core.Path.{◌∙◌}
use Rattle.entries.proofs.Numbers.{both_counted}
use Rattle.entries.proofs.Places.{no_such}
use Rattle.entries.proofs.find_in_both.Goals as goal

pub returns-then-slots-i : goal.returns-then-slots-i
returns-then-slots-i c = no_such _ _ _ _ (c.slots.ensures ∙ both_counted _ _) c.if-slots-i.true _ c.no_such.ensures

pub returns : goal.returns
returns c =
    let counted = both_counted c.args.words.now c.args.bytes.now in
    let n = c.slots.ensures in
    c.locate.ensures _ (omega (arith, counted)) c.number_of_both-start.ensures c.number_of_both-len.ensures
