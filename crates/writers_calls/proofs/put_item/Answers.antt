-- `writers_calls::put_item` meets its contract: its number, its strings, its framed data.
use native.Mathlib.Omega.{arith}
use Rattle.writers_calls.proofs.Puts.{item_number, item_fits, item_first, item_last, item_put}
use Rattle.writers_calls.proofs.put_item.Goals as goal

pub overflow_add-result : goal.overflow_add-result
overflow_add-result g c =
    omega (arith, item_fits c.args.kind c.args.n _ _ _ _ _ c.args.i c.args.next c.if-kind-i.true c.requires)

pub returns-then-kind-i : goal.returns-then-kind-i
returns-then-kind-i g c =
    let all = item_number c.args.kind c.args.n _ _ _ _ _ c.args.i c.args.next c.if-kind-i.true _ c.put_number.ensures in
    record { next = all.0; out = all.1 }

pub put_number-strings-requires : goal.put_number-strings-requires
put_number-strings-requires g c = item_first c.args.kind c.args.n _ _ _ _ _ c.args.i c.args.next c.requires

pub put_frames-requires : goal.put_frames-requires
put_frames-requires g c =
    item_last c.args.kind c.args.n _ _ _ _ _ c.args.i c.args.next c.requires _ c.put_number-strings.ensures.next _ c.put_number-strings.ensures.out _
    c.put_strings-frames.ensures.place _ c.put_strings-frames.ensures.out

pub returns : goal.returns
returns g c =
    let all =
    item_put c.args.kind c.args.n _ _ _ _ _ c.args.i c.args.next c.requires _ c.put_number-strings.ensures.next _ c.put_number-strings.ensures.out _
    c.put_strings-frames.ensures.place _ c.put_strings-frames.ensures.out _ c.put_frames.ensures.next _ c.put_frames.ensures.out in
    record { next = all.0; out = all.1 }
