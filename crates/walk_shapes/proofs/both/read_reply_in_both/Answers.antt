-- `walk_shapes::both::read_reply_in_both` meets its contract: by the shape, and whether it needs a fold, in each form.
use mathlib.Core.Path.{refl}
use Rattle.writers_output.specs.Numbers.{bytes_of}
use Rattle.writers_output.proofs.Numbers.{bytes_none}
use Rattle.walk_shapes.proofs.Brief.{brief_read}
use Rattle.walk_shapes.proofs.OneText.{is_text_lem, text_read_lem}
use Rattle.walk_shapes.proofs.Shapes.{unknown_read, layout_read}
use Rattle.walk_shapes.proofs.both.read_reply_in_both.Goals as goal

pub text_said-requires : goal.text_said-requires
text_said-requires c =
    (is_text_lem _ _ _ _ _ _ c.read_brief.ensures c.in-Text.is).1

pub returns-in_default : goal.returns-in_default
returns-in_default c =
    let all = unknown_read (λ ns. ns) _ _ _ c.args.s.now _ _ _ _ c.reply.ensures c.in_default.is _ c.refuse.ensures c.refuse-in_default.ensures.answer in
    let more = unknown_read bytes_of _ _ _ c.args.s.now _ _ _ _ c.reply.ensures c.in_default.is _ c.refuse.ensures c.refuse-in_default.ensures.answer in
    record { answer = all.0; words = all.1.0; bytes = more.1.0; payload = all.1.1 }

pub returns-in-Said : goal.returns-in-Said
returns-in-Said c =
    let all = layout_read (λ ns. ns) _ _ _ c.args.s.now _ _ _ _ c.reply.ensures _ _ c.in-Some.is _ (c.layout-layout.ensures.version, c.layout-layout.ensures.first) _ _
    (brief_read _ _ _ _ _ _ c.read_brief.ensures _ c.in-Said.is (λ ns. ns) refl _ _ _ _) in
    let more = layout_read bytes_of _ _ _ c.args.s.now _ c.args.payload.now _ _ c.reply.ensures _ _ c.in-Some.is _ (c.layout-layout.ensures.version, c.layout-layout.ensures.first) _ _
    (brief_read _ _ _ _ _ _ c.read_brief.ensures _ c.in-Said.is bytes_of bytes_none _ _ _ _) in
    record { answer = all.0; words = all.1.0; bytes = more.1.0; payload = all.1.1 }

pub returns-in-Text : goal.returns-in-Text
returns-in-Text c =
    let f = c.take_text_in_both-t.ensures in
    let z = (is_text_lem _ _ _ _ _ _ c.read_brief.ensures c.in-Text.is).0 in
    let all = layout_read (λ ns. ns) _ _ _ c.args.s.now c.args.words.now c.args.payload.now _ _ c.reply.ensures _ _
    c.in-Some.is _ (c.layout-layout.ensures.version, c.layout-layout.ensures.first) _ _
    (text_read_lem _ c.in-Some.shape.kind z _ (λ ns. ns) _ c.args.words.now _ c.take_text_in_both-t.result f.answer _ c.text_said.ensures _ f.words) in
    let more = layout_read bytes_of _ _ _ c.args.s.now c.args.bytes.now c.args.payload.now _ _ c.reply.ensures _ _
    c.in-Some.is _ (c.layout-layout.ensures.version, c.layout-layout.ensures.first) _ _
    (text_read_lem _ c.in-Some.shape.kind z _ bytes_of _ c.args.bytes.now _ c.take_text_in_both-t.result f.answer _ c.text_said.ensures _ f.bytes) in
    record { answer = all.0; words = all.1.0; bytes = more.1.0; payload = all.1.1 }

pub returns-in-Longer : goal.returns-in-Longer
returns-in-Longer c =
    let f = c.read_in_both.ensures in
    let all = layout_read (λ ns. ns) _ _ _ c.args.s.now c.args.words.now c.args.payload.now _ _ c.reply.ensures _ _
    c.in-Some.is _ (c.layout-layout.ensures.version, c.layout-layout.ensures.first) _ _ (f.answer, (f.words, f.payload)) in
    let more = layout_read bytes_of _ _ _ c.args.s.now c.args.bytes.now c.args.payload.now _ _ c.reply.ensures _ _
    c.in-Some.is _ (c.layout-layout.ensures.version, c.layout-layout.ensures.first) _ _ (f.answer, (f.bytes, f.payload)) in
    record { answer = all.0; words = all.1.0; bytes = more.1.0; payload = all.1.1 }
