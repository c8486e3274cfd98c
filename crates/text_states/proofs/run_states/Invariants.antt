-- `text_states::run_states` meets its contract: from where it stands, the state leads to the same end (`Ran`).
use Rattle.text_states.proofs.Runs.{Ran}
use Rattle.text_states.proofs.run_states.Given as goal

abbrev pub invariant-loop-b : goal.invariant-loop-b
invariant-loop-b l = Ran l.state-2 l.s l.b-index l.state
