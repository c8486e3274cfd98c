use Prim.Native.Nat.{◌+◌, ◌<◌}
use mathlib.Core.Path.{sym, ◌∙◌}
use lib.ListN.{length}
use native.Mathlib.Omega.{arith}
use borrow.Author.Tests.{not-true, not-false}
use Rattle.writers_sets.proofs.Sets.{putting_start, putting_stop, putting_turn, putting_end, place_fits}
use mathlib.Core.Path.{ap}
use mathlib.Core.Bool.{not}
use Rattle.writers_sets.proofs.put_strings_in_both.Goals as goal

pub loop-k-init : goal.loop-k-init
loop-k-init c = putting_start _ _ _ _ _ _ (omega arith)

pub shape_of-out-then-not-has_room : goal.shape_of-out-then-not-has_room
shape_of-out-then-not-has_room c = c.loop-k.invariant.size

pub returns-then-not-has_room : goal.returns-then-not-has_room
returns-then-not-has_room c = let all = putting_stop _ _ _ _ _ _ _ _ _ c.loop-k.invariant c.loop-k-test.true _ c.part_in_both-c.ensures.part _ c.string_length-n.ensures
    (sym c.has_room.ensures ∙ not-true _ (ap not c.if-not-has_room.true)) in record { place = all.0; out = all.1 }

pub overflow_add-at : goal.overflow_add-at
overflow_add-at c = let l : c.loop-k.at + c.string_length-n.result < 18446744073709551616 = place_fits _ _ _ (length c.loop-k.out) c.has_room.ensures (ap not c.if-not-has_room.false) c.loop-k.invariant.small in omega arith

pub loop-k-preserved : goal.loop-k-preserved
loop-k-preserved c =
    putting_turn _ _ _ _ _ _ _ _ _ c.loop-k.invariant c.loop-k-test.true _ c.part_in_both-c.ensures.part _ c.string_length-n.ensures
    (sym c.has_room.ensures ∙ not-false _ (ap not c.if-not-has_room.false)) _ c.put_string.ensures

pub shape_of-out : goal.shape_of-out
shape_of-out c = c.loop-k.invariant.size

pub returns : goal.returns
returns c = let all = putting_end _ _ _ _ _ _ _ _ _ c.loop-k.invariant c.loop-k-test.false in record { place = all.0; out = all.1 }
