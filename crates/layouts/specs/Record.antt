-- The record of an answer, and what each number does to it.
use Rattle.std.specs.Prelude.{ℕ, ◌+◌, Bool, true, false, set, replicate, ltb}
use Rattle.layouts.specs.declared.Record.{Record}
use Rattle.layouts.specs.Primitive.{pick, is_true}
use Rattle.layouts.specs.Shape.{Target, dropped, as_number, as_flag, as_count, as_presence, Role, passed, checked, kept, truth}
use Rattle.layouts.specs.Pieces.{Pieces, number, text, half, chunk, end, fault}

abbrev pub blank : Record
blank = record { numbers = replicate 12 0; counts = replicate 3 0; present = false; entries = 0; payload = 0 }

abbrev pub with_number : Record → (i x : ℕ) → Record
with_number r i x =
    record { numbers = pick (ltb i 12) (set r.numbers i x) r.numbers; counts = r.counts; present = r.present; entries = r.entries; payload = r.payload }

abbrev pub with_count : Record → (i x : ℕ) → Record
with_count r i x =
    record { numbers = r.numbers; counts = pick (ltb i 3) (set r.counts i x) r.counts; present = r.present; entries = r.entries; payload = r.payload }

abbrev pub with_presence : Record → Bool → Record
with_presence r b = record { numbers = r.numbers; counts = r.counts; present = b; entries = r.entries; payload = r.payload }

abbrev pub with_entries : Record → ℕ → Record
with_entries r n = record { numbers = r.numbers; counts = r.counts; present = r.present; entries = n; payload = r.payload }

abbrev pub with_payload : Record → ℕ → Record
with_payload r n = record { numbers = r.numbers; counts = r.counts; present = r.present; entries = r.entries; payload = n }

unfoldable pub noted : Record → Target → ℕ → Record
noted r dropped x = r
noted r (as_number i) x = with_number r i x
noted r (as_flag i) x = with_number r i (truth x)
noted r (as_count i) x = with_count r i x
noted r as_presence x = with_presence r (is_true x)

abbrev pub is_kept : Role → Bool
is_kept passed = false
is_kept checked = false
is_kept kept = true

unfoldable pub entered : Record → Role → Record
entered r m = with_entries r (pick (is_kept m) (r.entries + 1) r.entries)

-- the record that the pieces make
unfoldable pub record_of : Record → Pieces → Record
record_of r (number i place n p) = record_of (noted r i n) p
record_of r (text m start len p) = record_of (entered r m) p
record_of r (half m start len) = r
record_of r (chunk start len p) = record_of (with_payload r (r.payload + len)) p
record_of r (end place) = r
record_of r (fault which place) = r
