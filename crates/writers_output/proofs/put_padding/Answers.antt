-- `writers_output::put_padding` meets its contract.
use mathlib.Core.Path.{refl}
use Rattle.writers_output.proofs.Laws.{eight_length, zeros_put}
use Rattle.writers_output.proofs.put_padding.Goals as goal

pub slice_bounds-put-end : goal.slice_bounds-put-end
slice_bounds-put-end c = eight_length _ _ c.padding-k.ensures.1

pub returns : goal.returns
returns c =
    zeros_put c.args.out.now _ _ c.args.at c.padding-k.result c.args.n c.padding-k.ensures.0 c.padding-k.ensures.1
    c.put.ensures refl
