-- `handshake::judge_hello` meets its contract: two numbers, or none.
use borrow.Author.Rules.{rules}
use Rattle.handshake.proofs.Turns.{hello_cut, hello_half, hello_said}
use Rattle.handshake.proofs.judge_hello.Goals as goal

pub returns-in_err-magic : goal.returns-in_err-magic
returns-in_err-magic c = search (rules, hello_cut)

pub returns-in_err-wire : goal.returns-in_err-wire
returns-in_err-wire c = search (rules, hello_half)

pub returns : goal.returns
returns c slots x i j = hello_said _ slots x i j _ c.in_ok-magic.ensures.whole _ c.in_ok-wire.ensures.whole
