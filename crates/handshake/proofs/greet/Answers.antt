-- `handshake::greet` meets its contract: turn by turn.
use Rattle.handshake.proofs.Sides.{offers_refused, features_refused, obsolete_refused, both_told}
use mathlib.Core.Path.{◌∙◌}
use Rattle.handshake.proofs.Order.{min_as}
use Rattle.handshake.proofs.greet.Goals as goal

pub returns-in-Err : goal.returns-in-Err
returns-in-Err c =
    offers_refused c.args.client.now c.args.daemon.now _ _ _ _ (c.min-v.ensures ∙ min_as _ _) _ _ _ _ _ _ c.in-Err.ensures c.stop.ensures _

pub returns-in-Err-judge_features : goal.returns-in-Err-judge_features
returns-in-Err-judge_features c =
    features_refused c.args.client.now c.args.daemon.now _ _ _ _ (c.min-v.ensures ∙ min_as _ _) _ _ _ _ _ _ c.in-Ok.ensures
    _ _ c.in-Err-judge_features.ensures c.stop-in-Err-judge_features.ensures _

pub returns-in-Err-pass_obsolete : goal.returns-in-Err-pass_obsolete
returns-in-Err-pass_obsolete c =
    obsolete_refused c.args.client.now c.args.daemon.now _ _ _ _ (c.min-v.ensures ∙ min_as _ _) _ _ _ _ _ _ c.in-Ok.ensures
    _ _ c.in-Ok-judge_features.ensures _ c.in-Err-pass_obsolete.ensures c.stop-in-Err-pass_obsolete.ensures _

pub returns : goal.returns
returns c =
    both_told c.args.client.now c.args.daemon.now _ _ _ _ (c.min-v.ensures ∙ min_as _ _) _ _ _ _ _ _ c.in-Ok.ensures
    _ _ c.in-Ok-judge_features.ensures _ c.in-Ok-pass_obsolete.ensures _ c.judge_info-i.result (c.judge_info-i.ensures _ _ _ _ _ c.judge_version-t.ensures)
    c.tell-said.ensures _ _ _ (c.layout.ensures.version, c.layout.ensures.first) (c.layout-2.ensures.version, c.layout-2.ensures.first) (c.layout-3.ensures.version, c.layout-3.ensures.first)
