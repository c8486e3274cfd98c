use Rattle.text_states.proofs.Runs.{begun, further, done}
use Rattle.text_states.proofs.run_states.Goals as goal

pub loop-b-init : goal.loop-b-init
loop-b-init c = search begun

pub loop-b-preserved : goal.loop-b-preserved
loop-b-preserved c = search further

pub returns : goal.returns
returns c = search done
