-- `writers_sets::put_strings` meets its contract: putting what remains gives the same at every turn.
use Rattle.writers_sets.proofs.Sets.{Putting}
use Rattle.writers_sets.proofs.put_strings.Given as goal

abbrev pub invariant-loop-k : goal.invariant-loop-k
invariant-loop-k g l = Putting l.s (g.T.Form.numbers l.entries) l.next l.i l.at-2 l.initial.out l.k l.at l.out
