-- `writers_calls::write` meets its contract: by the row of the operation.
use Rattle.writers_calls.proofs.Rows.{call_unknown, call_none, call_fields_lem}
use Rattle.writers_calls.proofs.write.Goals as goal

pub returns-then-kind_of-eq0 : goal.returns-then-kind_of-eq0
returns-then-kind_of-eq0 g c =
    let all = call_none _ _ _ _ _ _ _ c.arguments.ensures _ _ c.in-Some.is _ (c.layout-layout.ensures.version, c.layout-layout.ensures.first) _ c.spoken.ensures _ c.kind_of.ensures
    c.if-kind_of-eq0.true _ c.refuse-then-kind_of-eq0.ensures in record { answer = all.0; lent = all.1 }

pub returns-in_default : goal.returns-in_default
returns-in_default g c =
    let all = call_unknown _ _ _ _ _ _ _ c.arguments.ensures c.in_default.is _ c.refuse.ensures in record { answer = all.0; lent = all.1 }

pub returns : goal.returns
returns g c =
    let all = call_fields_lem _ _ _ _ _ _ _ c.arguments.ensures _ _ c.in-Some.is _ (c.layout-layout.ensures.version, c.layout-layout.ensures.first) _ c.spoken.ensures _ c.kind_of.ensures
    c.if-kind_of-eq0.false _ c.begin-pc.ensures.said _ _ (c.write_fields.ensures.answer, c.write_fields.ensures.lent) in record { answer = all.0; lent = all.1 }
