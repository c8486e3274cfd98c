-- Each contract has one answer: the number that is returned and all lent bytes at exit are determined. `Post` is what Rattle reads off the source.
use Prim.Native.Nat.{ℕ}
use mathlib.Core.Path.{◌≡◌, sym, ◌∙◌}
use contract.Lifetimes.{Lfts}
use borrow.Fn.Kinds.{Dens, ended_of}
use denote.Triple.Clauses.{AtExit}
use Rattle.lintelow.proofs.reads.lintelow_read_u64.Reads as read_u64
use Rattle.lintelow.proofs.reads.lintelow_read_u64.Kinds as read-u64-kinds
use Rattle.lintelow.proofs.reads.lintelow_read_u32.Reads as read_u32
use Rattle.lintelow.proofs.reads.lintelow_read_u32.Kinds as read-u32-kinds
use Rattle.lintelow.proofs.reads.lintelow_peek_u64.Reads as peek-u64
use Rattle.lintelow.proofs.reads.lintelow_peek_u64.Kinds as peek-u64-kinds
use Rattle.lintelow.proofs.reads.lintelow_read_bytes.Reads as read-bytes
use Rattle.lintelow.proofs.reads.lintelow_read_bytes.Kinds as read-bytes-kinds
use Rattle.lintelow.proofs.reads.lintelow_read_string.Reads as read-string
use Rattle.lintelow.proofs.reads.lintelow_read_string.Kinds as read-string-kinds
use Rattle.lintelow.proofs.reads.lintelow_skip_string.Reads as skip-string
use Rattle.lintelow.proofs.reads.lintelow_skip_string.Kinds as skip-string-kinds
use Rattle.lintelow.proofs.reads.lintelow_read_string_set.Reads as read-string-set
use Rattle.lintelow.proofs.reads.lintelow_read_string_set.Kinds as read-string-set-kinds
use Rattle.lintelow.proofs.reads.lintelow_skip_string_set.Reads as skip-string-set
use Rattle.lintelow.proofs.reads.lintelow_skip_string_set.Kinds as skip-string-set-kinds
use Rattle.lintelow.proofs.reads.lintelow_read_framed.Reads as read-framed
use Rattle.lintelow.proofs.reads.lintelow_read_framed.Kinds as read-framed-kinds
use Rattle.lintelow.proofs.reads.lintelow_skip_framed.Reads as skip-framed
use Rattle.lintelow.proofs.reads.lintelow_skip_framed.Kinds as skip-framed-kinds
use Rattle.lintelow.proofs.reads.lintelow_entry.Reads as entry
use Rattle.lintelow.proofs.reads.lintelow_entry.Kinds as entry-kinds
use Rattle.lintelow.proofs.reads.lintelow_extract_store_path.Reads as extract-store-path
use Rattle.lintelow.proofs.reads.lintelow_extract_store_path.Kinds as extract-store-path-kinds
use Rattle.lintelow.proofs.reads.lintelow_op_has_client_framed_data.Reads as op-has-client-framed-data
use Rattle.lintelow.proofs.reads.lintelow_op_has_client_framed_data.Kinds as op-has-client-framed-data-kinds
use Rattle.lintelow.proofs.reads.lintelow_version_from_wire.Reads as version-from-wire
use Rattle.lintelow.proofs.reads.lintelow_version_from_wire.Kinds as version-from-wire-kinds

pub read_u64_unique : (κs : Lfts 2) (a : Dens κs read-u64-kinds.ps) (r r' : ℕ) (x x' : AtExit (ended_of 2 read-u64-kinds.ps read-u64-kinds.r) κs)
    → read_u64.Post κs a r x → read_u64.Post κs a r' x' → (r ≡ r') × (x.1.1.0.now ≡ x'.1.1.0.now)
read_u64_unique κs a r r' x x' p q = (p.0 ∙ sym q.0, p.1 ∙ sym q.1)

pub read_u32_unique : (κs : Lfts 2) (a : Dens κs read-u32-kinds.ps) (r r' : ℕ) (x x' : AtExit (ended_of 2 read-u32-kinds.ps read-u32-kinds.r) κs)
    → read_u32.Post κs a r x → read_u32.Post κs a r' x' → (r ≡ r') × (x.1.1.0.now ≡ x'.1.1.0.now)
read_u32_unique κs a r r' x x' p q = (p.0 ∙ sym q.0, p.1 ∙ sym q.1)

pub peek_u64_unique : (κs : Lfts 2) (a : Dens κs peek-u64-kinds.ps) (r r' : ℕ) (x x' : AtExit (ended_of 2 peek-u64-kinds.ps peek-u64-kinds.r) κs)
    → peek-u64.Post κs a r x → peek-u64.Post κs a r' x' → (r ≡ r') × (x.1.1.0.now ≡ x'.1.1.0.now)
peek_u64_unique κs a r r' x x' p q = (p.0 ∙ sym q.0, p.1 ∙ sym q.1)

pub read_bytes_unique : (κs : Lfts 2) (a : Dens κs read-bytes-kinds.ps) (r r' : ℕ) (x x' : AtExit (ended_of 2 read-bytes-kinds.ps read-bytes-kinds.r) κs)
    → read-bytes.Post κs a r x → read-bytes.Post κs a r' x' → (r ≡ r') × (x.1.1.0.now ≡ x'.1.1.0.now)
read_bytes_unique κs a r r' x x' p q = (p.0 ∙ sym q.0, p.1.0 ∙ sym q.1.0)

pub read_string_unique : (κs : Lfts 2) (a : Dens κs read-string-kinds.ps) (r r' : ℕ) (x x' : AtExit (ended_of 2 read-string-kinds.ps read-string-kinds.r) κs)
    → read-string.Post κs a r x → read-string.Post κs a r' x' → (r ≡ r') × (x.1.1.0.now ≡ x'.1.1.0.now)
read_string_unique κs a r r' x x' p q = (p.0 ∙ sym q.0, p.1.0 ∙ sym q.1.0)

pub skip_string_unique : (κs : Lfts 2) (a : Dens κs skip-string-kinds.ps) (r r' : ℕ) (x x' : AtExit (ended_of 2 skip-string-kinds.ps skip-string-kinds.r) κs)
    → skip-string.Post κs a r x → skip-string.Post κs a r' x' → (r ≡ r') × (x.1.1.0.now ≡ x'.1.1.0.now)
skip_string_unique κs a r r' x x' p q = (p.0 ∙ sym q.0, p.1 ∙ sym q.1)

pub read_string_set_unique : (κs : Lfts 3) (a : Dens κs read-string-set-kinds.ps) (r r' : ℕ) (x x' : AtExit (ended_of 3 read-string-set-kinds.ps read-string-set-kinds.r) κs)
    → read-string-set.Post κs a r x → read-string-set.Post κs a r' x' → (r ≡ r') × (x.1.1.1.0.now ≡ x'.1.1.1.0.now) × (x.1.1.0.now ≡ x'.1.1.0.now)
read_string_set_unique κs a r r' x x' p q = (p.0 ∙ sym q.0, p.1.0 ∙ sym q.1.0, p.1.1.0 ∙ sym q.1.1.0)

pub skip_string_set_unique : (κs : Lfts 2) (a : Dens κs skip-string-set-kinds.ps) (r r' : ℕ) (x x' : AtExit (ended_of 2 skip-string-set-kinds.ps skip-string-set-kinds.r) κs)
    → skip-string-set.Post κs a r x → skip-string-set.Post κs a r' x' → (r ≡ r') × (x.1.1.0.now ≡ x'.1.1.0.now)
skip_string_set_unique κs a r r' x x' p q = (p.0 ∙ sym q.0, p.1 ∙ sym q.1)

pub read_framed_unique : (κs : Lfts 3) (a : Dens κs read-framed-kinds.ps) (r r' : ℕ) (x x' : AtExit (ended_of 3 read-framed-kinds.ps read-framed-kinds.r) κs)
    → read-framed.Post κs a r x → read-framed.Post κs a r' x' → (r ≡ r') × (x.1.1.1.0.now ≡ x'.1.1.1.0.now) × (x.1.1.0.now ≡ x'.1.1.0.now)
read_framed_unique κs a r r' x x' p q = (p.0 ∙ sym q.0, p.1.0 ∙ sym q.1.0, p.1.1 ∙ sym q.1.1)

pub skip_framed_unique : (κs : Lfts 2) (a : Dens κs skip-framed-kinds.ps) (r r' : ℕ) (x x' : AtExit (ended_of 2 skip-framed-kinds.ps skip-framed-kinds.r) κs)
    → skip-framed.Post κs a r x → skip-framed.Post κs a r' x' → (r ≡ r') × (x.1.1.0.now ≡ x'.1.1.0.now)
skip_framed_unique κs a r r' x x' p q = (p.0 ∙ sym q.0, p.1 ∙ sym q.1)

pub entry_unique : (κs : Lfts 3) (a : Dens κs entry-kinds.ps) (r r' : ℕ) (x x' : AtExit (ended_of 3 entry-kinds.ps entry-kinds.r) κs)
    → entry.Post κs a r x → entry.Post κs a r' x' → (r ≡ r') × (x.1.1.1.0.now ≡ x'.1.1.1.0.now)
entry_unique κs a r r' x x' p q = (p.0 ∙ sym q.0, p.1 ∙ sym q.1)

pub extract_store_path_unique : (κs : Lfts 2) (a : Dens κs extract-store-path-kinds.ps) (r r' : ℕ) (x x' : AtExit (ended_of 2 extract-store-path-kinds.ps extract-store-path-kinds.r) κs)
    → extract-store-path.Post κs a r x → extract-store-path.Post κs a r' x' → (r ≡ r') × (x.1.0.now ≡ x'.1.0.now)
extract_store_path_unique κs a r r' x x' p q = (p.0 ∙ sym q.0, p.1 ∙ sym q.1)

pub op_has_client_framed_data_unique : (κs : Lfts 1) (a : Dens κs op-has-client-framed-data-kinds.ps) (r r' : ℕ) (x x' : AtExit (ended_of 1 op-has-client-framed-data-kinds.ps op-has-client-framed-data-kinds.r) κs)
    → op-has-client-framed-data.Post κs a r x → op-has-client-framed-data.Post κs a r' x' → (r ≡ r') × (x.1.0.now ≡ x'.1.0.now)
op_has_client_framed_data_unique κs a r r' x x' p q = (p.0 ∙ sym q.0, p.1 ∙ sym q.1)

pub version_from_wire_unique : (κs : Lfts 1) (a : Dens κs version-from-wire-kinds.ps) (r r' : ℕ) (x x' : AtExit (ended_of 1 version-from-wire-kinds.ps version-from-wire-kinds.r) κs)
    → version-from-wire.Post κs a r x → version-from-wire.Post κs a r' x' → (r ≡ r') × (x.1.0.now ≡ x'.1.0.now)
version_from_wire_unique κs a r r' x x' p q = (p.0 ∙ sym q.0, p.1 ∙ sym q.1)
