-- `writers_fields::strings_after` meets its contract: by the kind, and by what is left.
use mathlib.Core.Path.{◌∙◌}
use Rattle.writers_fields.proofs.Steps.{text_none, text_some, set_none, set_some, pairs_none, pairs_some, other_some}
use Rattle.writers_fields.proofs.strings_after.Goals as goal

pub returns-then-left-lt1 : goal.returns-then-left-lt1
returns-then-left-lt1 c =
    c.none_left.ensures ∙ text_none _ _ _ _ _ c.saturating_sub-left.ensures c.if-kind-eq-STR.true c.if-left-lt1.true

pub returns-then-kind-eq-STR : goal.returns-then-kind-eq-STR
returns-then-kind-eq-STR c = text_some _ _ _ _ _ c.saturating_sub-left.ensures c.if-kind-eq-STR.true c.if-left-lt1.false

pub returns-then-left-n : goal.returns-then-left-n
returns-then-left-n c =
    c.none_left-then-left-n.ensures ∙ set_none _ _ _ _ _ c.saturating_sub-left.ensures c.if-kind-eq-SET.true c.if-left-n.true

pub returns-then-kind-eq-SET : goal.returns-then-kind-eq-SET
returns-then-kind-eq-SET c = set_some _ _ _ _ _ c.saturating_sub-left.ensures c.if-kind-eq-SET.true c.if-left-n.false

pub returns-then-left-n-2 : goal.returns-then-left-n-2
returns-then-left-n-2 c =
    c.none_left-then-left-n-2.ensures ∙ pairs_none _ _ _ _ _ c.saturating_sub-left.ensures c.if-kind-eq-PAIRS.true c.if-left-n-2.true

pub returns-then-kind-eq-PAIRS : goal.returns-then-kind-eq-PAIRS
returns-then-kind-eq-PAIRS c = pairs_some _ _ _ _ _ c.saturating_sub-left.ensures c.if-kind-eq-PAIRS.true c.if-left-n-2.false

pub returns : goal.returns
returns c =
    other_some _ _ _ _ _ c.saturating_sub-left.ensures c.if-kind-eq-STR.false c.if-kind-eq-SET.false c.if-kind-eq-PAIRS.false
