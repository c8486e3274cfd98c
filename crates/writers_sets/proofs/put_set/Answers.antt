-- `writers_sets::put_set` meets its contract: the count, then the strings.
use Rattle.writers_sets.proofs.Sets.{set_put}
use Rattle.writers_sets.proofs.put_set.Goals as goal

pub returns : goal.returns
returns g c =
    set_put _ _ _ _ _ _ c.requires c.put_number.ensures c.put_strings.ensures.out
