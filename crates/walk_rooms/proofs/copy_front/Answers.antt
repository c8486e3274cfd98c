-- `walk_rooms::copy_front` meets its contract.
use native.Mathlib.Omega.{arith}
use lib.ListN.{length-take, length-drop}
use Rattle.walk_rooms.proofs.Laws.{part_back}
use Rattle.walk_rooms.proofs.copy_front.Goals as goal

pub copy_from_slice-requires : goal.copy_from_slice-requires
copy_from_slice-requires c = simp (length-take, length-drop) (omega arith)

pub returns : goal.returns
returns c = part_back c.args.out.now c.args.c.now _ _ _ c.requires.0 c.requires.1 c.copy_from_slice.ensures.after
