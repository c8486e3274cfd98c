-- `writers_sets::judge_strings` meets its contract: judging what remains gives the same answer at every turn.
use Rattle.writers_sets.proofs.Sets.{Judging}
use Rattle.writers_sets.proofs.judge_strings.Given as goal

abbrev pub invariant-loop-i : goal.invariant-loop-i
invariant-loop-i g l = Judging l.s (g.T.Form.numbers l.entries) l.count l.room l.before l.total l.i
