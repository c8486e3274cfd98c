-- `writers_sets::judge_strings_in_both` meets its contract: judging what remains gives the same answer at every turn.
use Rattle.entries.specs.Entries.{numbers_in}
use Rattle.writers_sets.proofs.Sets.{Judging}
use Rattle.writers_sets.proofs.judge_strings_in_both.Given as goal

abbrev pub invariant-loop-i : goal.invariant-loop-i
invariant-loop-i l = Judging l.s (numbers_in l.words l.bytes) l.count l.room l.before l.sum l.i
