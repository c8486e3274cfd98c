-- `pieces::chunk_at` meets its contract: one law for each way through it.
use mathlib.Core.Path.{refl}
use Rattle.std.proofs.lemmas.Result.{err_from_is_err_and}
use Rattle.pieces.proofs.Found.{no_chunk, last_chunk, long_chunk, cut_chunk, whole_chunk}
use Rattle.pieces.proofs.chunk_at.Goals as goal

pub returns-in_err-n : goal.returns-in_err-n
returns-in_err-n c =
    let p = err_from_is_err_and c.from_residual.result c.from_residual.ensures.1 in
    rw (p.1, p.2) (no_chunk _ _ _ c.in_err-n.ensures.cut)

pub returns-then-n-eq0 : goal.returns-then-n-eq0
returns-then-n-eq0 c = last_chunk _ _ _ c.in_ok-n.ensures.whole c.if-n-eq0.true

pub returns-then-n-gt-MAX_WIRE_STRING_LEN : goal.returns-then-n-gt-MAX_WIRE_STRING_LEN
returns-then-n-gt-MAX_WIRE_STRING_LEN c = long_chunk _ _ _ c.in_ok-n.ensures.whole _ c.refuse.ensures c.if-n-gt-MAX_WIRE_STRING_LEN.true

pub returns-then-s-start : goal.returns-then-s-start
returns-then-s-start c = cut_chunk _ _ _ c.in_ok-n.ensures.whole _ c.refuse-then-s-start.ensures c.if-n-eq0.false c.if-n-gt-MAX_WIRE_STRING_LEN.false c.if-s-start.true

pub returns : goal.returns
returns c = whole_chunk _ _ _ c.in_ok-n.ensures.whole _ refl c.if-n-eq0.false c.if-n-gt-MAX_WIRE_STRING_LEN.false c.if-s-start.false
