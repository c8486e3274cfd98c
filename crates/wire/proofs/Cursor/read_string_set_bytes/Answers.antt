-- `wire::Cursor::read_string_set_bytes` meets its contract: what is judged fine fits.
use Rattle.layouts.specs.Calls.{read_string_set}
use Rattle.walk_rooms.proofs.Laws.{bytes_after}
use Rattle.wire.specs.Answers.{set_entries}
use Rattle.wire.proofs.Sets.{set_fits}
use Rattle.wire.proofs.Cursor.read_string_set_bytes.Goals as goal

pub returns-clause-room : goal.returns-clause-room
returns-clause-room c =
    let s = c.args.s.now in
    let at = c.args.self.at in
    bytes_after (read_string_set s at) (set_entries s at) (set_fits s at) _ _ c.read_set.ensures.entries
