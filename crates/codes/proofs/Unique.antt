-- Each contract, as Rattle reads it off the source, determines its answer: two that meet it are equal.
use mathlib.Core.Path.{◌≡◌, sym, ◌∙◌}
use mathlib.Core.List.{List}
use contract.Lifetimes.{Lfts}
use borrow.Fn.Kinds.{ParamKind, ResultKind, Out, Dens, res_t, ended_of}
use denote.Triple.Clauses.{AtExit}
use Rattle.codes.proofs.StderrCode.from_u64.Reads as from-u64
use Rattle.codes.proofs.StderrCode.from_u64.Kinds as from-u64-kinds
use Rattle.codes.proofs.StderrCode.number.Reads as number
use Rattle.codes.proofs.StderrCode.number.Kinds as number-kinds
use Rattle.codes.proofs.StderrCode.is_terminal.Reads as is-terminal
use Rattle.codes.proofs.StderrCode.is_terminal.Kinds as is-terminal-kinds

-- two answers to the same arguments; no function here has a reference, so that no lifetime and no exit matters
abbrev pub Determined : (ps : List (ParamKind 0)) (k : ResultKind 0) → Out 0 ps k → Type 0
Determined ps k Post =
    (κs : Lfts 0) (a : Dens κs ps) (r r' : (res_t k κs).Denot) (x x' : AtExit (ended_of 0 ps k) κs) → Post κs a r x → Post κs a r' x' → r ≡ r'

pub from_u64_determined : Determined from-u64-kinds.ps from-u64-kinds.r from-u64.Post
from_u64_determined κs a r r' x x' p q = p ∙ sym q

pub number_determined : Determined number-kinds.ps number-kinds.r number.Post
number_determined κs a r r' x x' p q = p ∙ sym q

pub is_terminal_determined : Determined is-terminal-kinds.ps is-terminal-kinds.r is-terminal.Post
is_terminal_determined κs a r r' x x' p q = p ∙ sym q
