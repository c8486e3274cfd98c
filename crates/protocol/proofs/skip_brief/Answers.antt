-- `protocol::skip_brief` meets its contract: nothing, a number, or a fold.
use Rattle.std.proofs.lemmas.Result.{err_from_is_err_and}
use Rattle.walk_read.proofs.Filled.{brief_is}
use Rattle.protocol.proofs.Rows.{brief_nothing, brief_short, brief_number, brief_text}
use Rattle.protocol.proofs.skip_brief.Goals as goal

pub returns-in-Nothing : goal.returns-in-Nothing
returns-in-Nothing c = brief_nothing _ _ (brief_is _ _ _ c.in_brief-b.ensures.law c.in-Nothing.is)

pub returns-in_err-number_or_cut-in-Number : goal.returns-in_err-number_or_cut-in-Number
returns-in_err-number_or_cut-in-Number c =
    let p = err_from_is_err_and c.from_residual.result c.from_residual.ensures.1 in
    rw (p.1, p.2) (brief_short _ _ (brief_is _ _ _ c.in_brief-b.ensures.law c.in-Number.is) _ c.in_err-number_or_cut-in-Number.ensures.cut)

pub returns-in_ok-number_or_cut-in-Number : goal.returns-in_ok-number_or_cut-in-Number
returns-in_ok-number_or_cut-in-Number c =
    brief_number _ _ (brief_is _ _ _ c.in_brief-b.ensures.law c.in-Number.is) _ c.in_ok-number_or_cut-in-Number.ensures.whole

pub returns-in-Text : goal.returns-in-Text
returns-in-Text c =
    brief_text _ _ (brief_is _ _ _ c.in_brief-b.ensures.law c.in-Text.is) _ c.skip_text.ensures

pub returns-in-Longer : goal.returns-in-Longer
returns-in-Longer c = c.skip.ensures
