-- `views::entry_fault` meets its contract: by the place of the entry.
use Rattle.std.proofs.lemmas.Result.{err_from_is_err_and}
use Rattle.views.proofs.Laws.{no_fault, fault}
use Rattle.views.proofs.entry_fault.Goals as goal

pub returns-in_err-find : goal.returns-in_err-find
returns-in_err-find c =
    let p = err_from_is_err_and c.from_residual.result c.from_residual.ensures.1 in
    rw (p.1, p.2) (fault _ _ _ _ c.find.ensures _ c.in_err-find.was)

pub returns : goal.returns
returns c = no_fault _ _ _ _ c.find.ensures _ _ c.in_ok-find.was
