-- The bytes of entries have number k where there are so many.
use mathlib.Core.Path.{◌∙◌, refl}
use native.Mathlib.Omega.{arith}
use Rattle.entries.specs.Entries.{entries_in}
use Rattle.entries.specs.Forms.{how_many}
use Rattle.entries.proofs.Numbers.{place_fits, number_or, number_past}
use Rattle.entries.proofs.U8Form.number.Goals as goal

pub overflow_mul-k : goal.overflow_mul-k
overflow_mul-k c = let n = how_many c.args.entries.now in omega (arith, place_fits c.args.entries.now c.args.k (omega arith))

pub returns-then-k-entries : goal.returns-then-k-entries
returns-then-k-entries c =
    let n = how_many c.args.entries.now in
    c.unwrap_or.ensures ∙ number_or c.args.entries.now _ (omega arith) _ c.number_at.ensures _ refl

pub returns : goal.returns
returns c = let n = how_many c.args.entries.now in number_past (entries_in c.args.entries.now) c.args.k (omega arith)
