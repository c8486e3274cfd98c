-- `handshake::read` meets its contract: a refusal changes nothing; what is judged fine is filled in.
use Rattle.std.proofs.lemmas.Result.{err_from_is_err_and}
use Rattle.handshake.proofs.Filled.{both_judged, lent_kept, by_turns, by_window}
use Rattle.handshake.proofs.read.Goals as goal

pub returns-in_err-said : goal.returns-in_err-said
returns-in_err-said g c =
    let judged = both_judged _ _ _ _ _ _ _ _ c.slots-slots.ensures.slots _ c.judge_handshake-g.ensures in
    let all = lent_kept _ _ _ _ _ _ _ judged g.T.Room.laid c.args.entries.now _ c.in_err-said.was in
    let p = err_from_is_err_and c.from_residual.result c.from_residual.ensures.1 in
    rw (p.1, p.2) (record { answer = all.0; entries = all.1 })

pub returns-then-said-gt-WINDOW : goal.returns-then-said-gt-WINDOW
returns-then-said-gt-WINDOW g c =
    let judged = both_judged _ _ _ _ _ _ _ _ c.slots-slots.ensures.slots _ c.judge_handshake-g.ensures in
    let all = by_turns _ _ _ _ _ _ _ judged g.T.Room.laid c.args.entries.now _ c.in_ok-said.was _ c.fill_turns.ensures in record { answer = all.0; entries = all.1 }

pub returns : goal.returns
returns g c =
    let judged = both_judged _ _ _ _ _ _ _ _ c.slots-slots.ensures.slots _ c.judge_handshake-g.ensures in
    let all = by_window _ _ _ _ _ _ _ judged g.T.Room.laid c.args.entries.now _ c.in_ok-said.was c.if-said-gt-WINDOW.false _ c.put_window.ensures in record { answer = all.0; entries = all.1 }
