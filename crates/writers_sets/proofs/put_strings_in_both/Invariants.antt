-- `writers_sets::put_strings_in_both` meets its contract: putting what remains gives the same at every turn.
use Rattle.entries.specs.Entries.{numbers_in}
use Rattle.writers_sets.proofs.Sets.{Putting}
use Rattle.writers_sets.proofs.put_strings_in_both.Given as goal

abbrev pub invariant-loop-k : goal.invariant-loop-k
invariant-loop-k l = Putting l.s (numbers_in l.words l.bytes) l.next l.i l.at-2 l.initial.out l.k l.at l.out
