-- `walk_shapes::read_reply` meets its contract: by the shape, and whether it needs a fold.
use Rattle.walk_shapes.proofs.Brief.{brief_read}
use Rattle.walk_shapes.proofs.OneText.{is_text_lem, text_read_lem}
use Rattle.walk_shapes.proofs.Shapes.{unknown_read, layout_read}
use Rattle.walk_shapes.proofs.read_reply.Goals as goal

pub text_said-requires : goal.text_said-requires
text_said-requires g c =
    (is_text_lem _ _ _ _ _ _ c.read_brief.ensures c.in-Text.is).1

pub returns-in_default : goal.returns-in_default
returns-in_default g c = let all = unknown_read g.T.Room.laid _ _ _ c.args.s.now _ _ _ _ c.reply.ensures c.in_default.is _ c.refuse.ensures c.refuse-in_default.ensures.answer in record { answer = all.0; entries = all.1.0; payload = all.1.1 }

pub returns-in-Said : goal.returns-in-Said
returns-in-Said g c = let all = layout_read g.T.Room.laid _ _ _ c.args.s.now _ _ _ _ c.reply.ensures _ _ c.in-Some.is _ (c.layout-layout.ensures.version, c.layout-layout.ensures.first) _ _
    (brief_read _ _ _ _ _ _ c.read_brief.ensures _ c.in-Said.is g.T.Room.laid g.met.T.Room.nothing _ _ _ _) in record { answer = all.0; entries = all.1.0; payload = all.1.1 }

pub returns-in-Text : goal.returns-in-Text
returns-in-Text g c =
    let f = c.take_text-t.ensures in
    let all = layout_read g.T.Room.laid _ _ _ c.args.s.now c.args.entries.now c.args.payload.now _ _ c.reply.ensures _ _
    c.in-Some.is _ (c.layout-layout.ensures.version, c.layout-layout.ensures.first) _ _
    (text_read_lem _ c.in-Some.shape.kind (is_text_lem _ _ _ _ _ _ c.read_brief.ensures c.in-Text.is).0 _
    g.T.Room.laid _ c.args.entries.now _ c.take_text-t.result f.answer _ c.text_said.ensures _ f.entries) in record { answer = all.0; entries = all.1.0; payload = all.1.1 }

pub returns-in-Longer : goal.returns-in-Longer
returns-in-Longer g c = let all = layout_read g.T.Room.laid _ _ _ c.args.s.now c.args.entries.now c.args.payload.now _ _ c.reply.ensures _ _
    c.in-Some.is _ (c.layout-layout.ensures.version, c.layout-layout.ensures.first) _ _ (c.read.ensures.answer, (c.read.ensures.entries, c.read.ensures.payload)) in record { answer = all.0; entries = all.1.0; payload = all.1.1 }
