-- `entries::find` meets its contract: by the slots, and by the numbers of the entry.
use native.Mathlib.Omega.{arith}
use mathlib.Core.Path.{◌∙◌}
use Rattle.entries.proofs.Places.{no_such}
use Rattle.entries.proofs.find.Goals as goal

pub returns-then-slots-i : goal.returns-then-slots-i
returns-then-slots-i g c = no_such _ _ _ _ (c.slots.ensures.slots ∙ g.met.T.Form.counted _) c.if-slots-i.true _ c.no_such.ensures

pub overflow_mul-i : goal.overflow_mul-i
overflow_mul-i g c = let counted = g.met.T.Form.counted c.args.entries.now in let few = c.slots.ensures in omega (arith, counted)

pub overflow_mul-i-2 : goal.overflow_mul-i-2
overflow_mul-i-2 g c = let counted = g.met.T.Form.counted c.args.entries.now in let few = c.slots.ensures in omega (arith, counted)

pub overflow_add-i : goal.overflow_add-i
overflow_add-i g c = let counted = g.met.T.Form.counted c.args.entries.now in let few = c.slots.ensures in omega (arith, counted)

pub returns : goal.returns
returns g c =
    let counted = g.met.T.Form.counted c.args.entries.now in
    let few = c.slots.ensures in
    c.locate.ensures _ (omega (arith, counted)) c.number-start.ensures c.number-len.ensures
