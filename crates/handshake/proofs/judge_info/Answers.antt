-- `handshake::judge_info` meets its contract: part by part.
use borrow.Author.Rules.{rules}
use Rattle.std.proofs.lemmas.Result.{err_from_is_err_and}
use Rattle.handshake.proofs.Turns.{info_refused, untold, last_cut, info_past, info_keep}
use Rattle.handshake.proofs.judge_info.Goals as goal

pub returns-in_err-told : goal.returns-in_err-told
returns-in_err-told c = search (rules, info_refused)

pub returns-in_err-h : goal.returns-in_err-h
returns-in_err-h c =
    let p = err_from_is_err_and c.from_residual-in_err-h.result c.from_residual-in_err-h.ensures.1 in
    rw (p.1, p.2) (λ slots at n w w' t. (λ x z u. untold _ _ _ slots n w w' _ (rw c.in_ok-told.was at t) _ c.in_err-h.ensures x z u, tt))

pub returns-in_err-last : goal.returns-in_err-last
returns-in_err-last c =
    let p = err_from_is_err_and c.from_residual-in_err-last.result c.from_residual-in_err-last.ensures.1 in
    rw (p.1, p.2) (λ slots at n w w' t. (λ x z u. last_cut _ _ _ slots n w w' _ (rw c.in_ok-told.was at t) _ c.in_ok-h.ensures _ c.in_err-last.ensures.cut x z u, tt))

pub returns : goal.returns
returns c slots at n w w' t =
    let k = rw c.in_ok-told.was at t in
    (info_past _ _ _ slots n w w' _ k _ c.in_ok-h.ensures _ c.in_ok-last.ensures.whole, info_keep _ _ _ slots n w w' _ k)
