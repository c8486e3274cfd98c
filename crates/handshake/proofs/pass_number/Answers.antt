-- `handshake::pass_number` meets its contract: a number, or none.
use borrow.Author.Rules.{rules}
use Rattle.handshake.proofs.Turns.{number_cut, number_passed}
use Rattle.handshake.proofs.pass_number.Goals as goal

pub returns-in_err-number_or_cut : goal.returns-in_err-number_or_cut
returns-in_err-number_or_cut c = search (rules, number_cut)

pub returns : goal.returns
returns c = number_passed _ _ _ c.in_ok-number_or_cut.ensures.whole
