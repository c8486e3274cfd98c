use Rattle.lintelow_answers.proofs.Laws.{putting_none, putting_more, putting_all}
use Rattle.lintelow_answers.proofs.put_numbers.Goals as goal

pub loop-i-init : goal.loop-i-init
loop-i-init c = search putting_none

pub loop-i-preserved : goal.loop-i-preserved
loop-i-preserved c = search putting_more

pub returns : goal.returns
returns c = search putting_all
