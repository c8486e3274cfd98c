-- `walk_read::read_in_both` meets its contract: what is judged fine is filled into both rooms.
use mathlib.Core.Path.{refl}
use Rattle.std.proofs.lemmas.Result.{err_from_is_err_and}
use Rattle.writers_output.specs.Numbers.{bytes_of}
use Rattle.walk_read.proofs.Filled.{read_refused, all_kept, fine_planned, read_fine, all_filled}
use Rattle.walk_read.proofs.read_in_both.Goals as goal

pub fill_in-requires : goal.fill_in-requires
fill_in-requires c =
    fine_planned _ _ _ _ c.args.code _ c.slots-slots.ensures _ _ _ c.in_ok-j.ensures.answer _ _ _ _ _ _ refl _ c.in_ok-j.ensures.window

pub fill_in-requires-2 : goal.fill_in-requires-2
fill_in-requires-2 c =
    fine_planned _ _ _ _ c.args.code _ c.slots-slots.ensures _ _ _ c.in_ok-j.ensures.answer _ _ _ _ _ _ refl _ c.in_ok-j.ensures.window

pub returns-in_err-j : goal.returns-in_err-j
returns-in_err-j c =
    let p = err_from_is_err_and c.from_residual.result c.from_residual.ensures.1 in
    let rest = all_kept _ _ _ _ c.args.code _ c.slots-slots.ensures _ _ _ c.in_err-j.ensures.answer _ refl (λ ns. ns) _ _ in
    let more = all_kept _ _ _ _ c.args.code _ c.slots-slots.ensures _ _ _ c.in_err-j.ensures.answer _ refl bytes_of _ c.args.payload.now in
    record {
      answer = rw (p.1, p.2) (read_refused _ _ _ _ _ _ c.slots-slots.ensures _ _ _ c.in_err-j.ensures.answer _ refl);
      words = rest.0;
      bytes = more.0;
      payload = rest.1;
    }

pub returns : goal.returns
returns c =
    let rest = all_filled _ _ _ _ c.args.code _ c.slots-slots.ensures _ _ _ c.in_ok-j.ensures.answer _ _ _ _ _ _ refl (λ ns. ns) _ _ _ _ (c.fill_in.ensures.entries, c.fill_in.ensures.payload) in
    let more = all_filled _ _ _ _ c.args.code _ c.slots-slots.ensures _ _ _ c.in_ok-j.ensures.answer _ _ _ _ _ _ refl bytes_of _ _ _ _ (c.fill_in-2.ensures.entries, c.fill_in-2.ensures.payload) in
    record {
      answer = read_fine _ _ _ _ _ _ c.slots-slots.ensures _ _ _ c.in_ok-j.ensures.answer _ _ _ _ _ _ refl _ (rw (← c.spoken.ensures) c.kind_of.ensures);
      words = rest.0;
      bytes = more.0;
      payload = rest.1;
    }
