-- `codes::StderrCode::is_terminal` meets its contract.
use Rattle.codes.proofs.Messages.{by_number}
use Rattle.codes.proofs.StderrCode.is_terminal.Goals as goal

pub returns : goal.returns
returns c = simp c.number-n.ensures (by_number c.args.self)
