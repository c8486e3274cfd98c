-- `walk_read::fill_in` meets its contract: by a second fold, or from the window.
use Rattle.layouts.specs.Judge.{entries_of, payload_of}
use Rattle.walk_rooms.proofs.Laws.{put_sets}
use Rattle.walk_read.proofs.Filled.{from_fold, from_window, no_payload}
use Rattle.walk_read.proofs.fill_in.Goals as goal

pub returns-then-total-count : goal.returns-then-total-count
returns-then-total-count g c =
    let h = c.requires in
    let f = c.fill.ensures in
    record { entries = from_fold _ _ _ _ _ h (λ x. g.T.Room.laid (entries_of x)) _ _ (put_sets _ _ _ _ f.entries); payload = from_fold _ _ _ _ _ h (payload_of _) _ _ f.payload }

pub returns : goal.returns
returns g c =
    let h = c.requires in
    let n = c.if-total-count.false in
    record { entries = from_window _ _ _ _ _ h n g.T.Room.laid _ _ c.put_window.ensures; payload = no_payload _ _ _ _ _ h n _ }
