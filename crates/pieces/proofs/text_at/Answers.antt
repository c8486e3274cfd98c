-- `pieces::text_at` meets its contract: one law for each way through it.
use Rattle.std.proofs.lemmas.Result.{err_from_is_err_and}
use Rattle.pieces.proofs.Found.{no_string, long_string, cut_contents, cut_padding, whole_string}
use Rattle.pieces.proofs.text_at.Goals as goal

pub returns-in_err-n : goal.returns-in_err-n
returns-in_err-n c =
    let p = err_from_is_err_and c.from_residual.result c.from_residual.ensures.1 in
    rw (p.1, p.2) (no_string _ _ _ c.in_err-n.ensures.cut)

pub returns-then-n-gt-MAX_WIRE_STRING_LEN : goal.returns-then-n-gt-MAX_WIRE_STRING_LEN
returns-then-n-gt-MAX_WIRE_STRING_LEN c = long_string _ _ _ c.in_ok-n.ensures.whole _ c.refuse.ensures c.if-n-gt-MAX_WIRE_STRING_LEN.true

pub returns-then-left-len : goal.returns-then-left-len
returns-then-left-len c = cut_contents _ _ _ c.in_ok-n.ensures.whole _ c.refuse-then-left-len.ensures c.if-n-gt-MAX_WIRE_STRING_LEN.false c.if-left-len.true

pub returns-then-left-len-2 : goal.returns-then-left-len-2
returns-then-left-len-2 c = cut_padding _ _ _ c.in_ok-n.ensures.whole c.if-n-gt-MAX_WIRE_STRING_LEN.false c.if-left-len.false
    (rw c.padding-pad.ensures.0 at c.if-left-len-2.true)

pub returns : goal.returns
returns c = whole_string _ _ _ c.in_ok-n.ensures.whole _ c.padding-pad.ensures.0 c.if-n-gt-MAX_WIRE_STRING_LEN.false c.if-left-len.false
    c.if-left-len-2.false
