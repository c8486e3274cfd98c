-- `wire::Cursor::read_u32` meets its contract.
use mathlib.Core.Path.{refl}
use native.Mathlib.Omega.{arith}
use Rattle.pieces.proofs.Numbers.{word_known}
use Rattle.wire.proofs.Numbers.{u32_read, u32_cut}
use Rattle.wire.proofs.Cursor.read_u32.Goals as goal

pub overflow_add-result : goal.overflow_add-result
overflow_add-result c =
    omega (arith, word_known 4 c.args.s.now _ _ c.four_at.ensures _ c.in-Some.is)

pub returns-in_default : goal.returns-in_default
returns-in_default c = u32_cut _ _ _ c.four_at.ensures c.in_default.is _ c.refuse.ensures

pub returns : goal.returns
returns c = u32_read _ _ _ c.four_at.ensures _ _ c.in-Some.is refl
