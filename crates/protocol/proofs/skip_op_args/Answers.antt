-- `protocol::skip_op_args` meets its contract: by the shape of the operation, and whether it needs a fold.
use mathlib.Core.Path.{◌∙◌}
use Rattle.walk_read.proofs.Filled.{brief_is}
use Rattle.layouts.specs.Calls.{context, skipped_kinds, skip_op_args}
use Rattle.table_operations.proofs.Shapes.{skipped_say, shape_refuses}
use Rattle.protocol.proofs.Rows.{unknown_is, arguments_unknown, row_arguments, skipped_nothing, skipped_text}
use Rattle.protocol.proofs.skip_op_args.Goals as goal

pub returns-in-Text : goal.returns-in-Text
unfolding skip_op_args
returns-in-Text c =
    let a = c.args in
    let g = c.layout-layout in
    let x = context a.mode a.op a.major a.minor in
    let y = skipped_say x _ _ _ c.skipped.ensures c.in-Some.is in
    row_arguments x.spoken (skipped_kinds x) 1 0 a.s.now _ _ _ g.ensures.version g.ensures.first y.tree _ y.kind _
    (c.skip_string.ensures _ _ (rw (← c.spoken.ensures) c.kind_of-one.ensures)
    ∙ skipped_text g.result _ a.s.now (brief_is g.result _ _ c.in_brief-b.ensures.law c.in-Text.is))

pub returns-in_default-b-2 : goal.returns-in_default-b-2
unfolding skip_op_args
returns-in_default-b-2 c =
    let a = c.args in
    let g = c.layout-layout in
    let x = context a.mode a.op a.major a.minor in
    let y = skipped_say x _ _ _ c.skipped.ensures c.in-Some.is in
    row_arguments x.spoken (skipped_kinds x) 1 0 a.s.now _ _ _ g.ensures.version g.ensures.first y.tree _ y.kind _ c.skip_layout.ensures

pub returns-in_default : goal.returns-in_default
unfolding skip_op_args
returns-in_default c =
    let a = c.args in
    let x = context a.mode a.op a.major a.minor in
    arguments_unknown _ _ _ _ (unknown_is x.spoken (skipped_kinds x) 1 0 a.s.now _ (shape_refuses x _ _ _ c.skipped.ensures c.in_default.is).skips)
    c.refuse.ensures c.refused_arguments.ensures

pub returns : goal.returns
unfolding skip_op_args
returns c =
    let a = c.args in
    let g = c.layout-layout in
    let x = context a.mode a.op a.major a.minor in
    let y = skipped_say x _ _ _ c.skipped.ensures c.in-Some.is in
    row_arguments x.spoken (skipped_kinds x) 1 0 a.s.now _ _ _ g.ensures.version g.ensures.first y.tree _ y.kind _
    (skipped_nothing g.result _ a.s.now (brief_is g.result _ _ c.in_brief-b.ensures.law c.in-Nothing.is) _
    (rw (← c.spoken-2.ensures) c.kind_of.ensures))
