-- `walk_read::read` meets its contract: what is judged fine is filled in.
use mathlib.Core.Path.{refl}
use Rattle.std.proofs.lemmas.Result.{err_from_is_err_and}
use Rattle.walk_read.proofs.Filled.{read_refused, all_kept, fine_planned, read_fine, all_filled}
use Rattle.walk_read.proofs.read.Goals as goal

pub fill_in-requires : goal.fill_in-requires
fill_in-requires g c =
    fine_planned _ _ _ _ c.args.code _ c.slots-slots.ensures.slots _ _ _ c.in_ok-k.ensures.answer _ _ _ _ _ _ refl _ c.in_ok-k.ensures.window

pub returns-in_err-k : goal.returns-in_err-k
returns-in_err-k g c =
    let p = err_from_is_err_and c.from_residual.result c.from_residual.ensures.1 in
    let rest = all_kept _ _ _ _ c.args.code _ c.slots-slots.ensures.slots _ _ _ c.in_err-k.ensures.answer _ refl g.T.Room.laid _ _ in
    record {
      answer = rw (p.1, p.2) (read_refused _ _ _ _ _ _ c.slots-slots.ensures.slots _ _ _ c.in_err-k.ensures.answer _ refl);
      entries = rest.0;
      payload = rest.1;
    }

pub returns : goal.returns
returns g c =
    let rest = all_filled _ _ _ _ c.args.code _ c.slots-slots.ensures.slots _ _ _ c.in_ok-k.ensures.answer _ _ _ _ _ _ refl g.T.Room.laid _ _ _ _ (c.fill_in.ensures.entries, c.fill_in.ensures.payload) in
    record {
      answer = read_fine _ _ _ _ _ _ c.slots-slots.ensures.slots _ _ _ c.in_ok-k.ensures.answer _ _ _ _ _ _ refl _ (rw (← c.spoken.ensures) c.kind_of.ensures);
      entries = rest.0;
      payload = rest.1;
    }
