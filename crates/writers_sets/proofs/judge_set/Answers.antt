-- `writers_sets::judge_set` meets its contract: a set is its count and the strings.
use mathlib.Core.Path.{◌∙◌}
use lib.ListN.{length}
use Rattle.writers_sets.proofs.Sets.{set_many, set_judged_lem}
use Rattle.writers_sets.proofs.judge_set.Goals as goal

pub returns-then-slots-count : goal.returns-then-slots-count
returns-then-slots-count g c = set_many _ _ _ _ _ (c.slots.ensures.slots ∙ g.met.T.Form.counted _) c.if-slots-count.true _ c.refuse.ensures

pub returns : goal.returns
returns g c =
    set_judged_lem _ _ _ (length c.args.out.now) _ (c.slots.ensures.slots ∙ g.met.T.Form.counted _) c.if-slots-count.false _ c.judge_strings.ensures
