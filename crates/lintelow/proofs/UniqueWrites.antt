-- Each contract has one answer: the number that is returned and all lent bytes at exit are determined. `Post` is what Rattle reads off the source.
use Prim.Native.Nat.{ℕ}
use mathlib.Core.Path.{◌≡◌, sym, ◌∙◌}
use contract.Lifetimes.{Lfts}
use borrow.Fn.Kinds.{Dens, ended_of}
use denote.Triple.Clauses.{AtExit}
use Rattle.lintelow.proofs.writes.lintelow_write_u64.Reads as write-u64
use Rattle.lintelow.proofs.writes.lintelow_write_u64.Kinds as write-u64-kinds
use Rattle.lintelow.proofs.writes.lintelow_write_u32.Reads as write-u32
use Rattle.lintelow.proofs.writes.lintelow_write_u32.Kinds as write-u32-kinds
use Rattle.lintelow.proofs.writes.lintelow_write_bytes.Reads as write_bytes
use Rattle.lintelow.proofs.writes.lintelow_write_bytes.Kinds as write-bytes-kinds
use Rattle.lintelow.proofs.writes.lintelow_write_string.Reads as write-string
use Rattle.lintelow.proofs.writes.lintelow_write_string.Kinds as write-string-kinds
use Rattle.lintelow.proofs.writes.lintelow_write_string_set.Reads as write-string-set
use Rattle.lintelow.proofs.writes.lintelow_write_string_set.Kinds as write-string-set-kinds
use Rattle.lintelow.proofs.writes.lintelow_write_framed.Reads as write-framed
use Rattle.lintelow.proofs.writes.lintelow_write_framed.Kinds as write-framed-kinds
use Rattle.lintelow.proofs.writes.lintelow_write_mode.Reads as write-mode
use Rattle.lintelow.proofs.writes.lintelow_write_mode.Kinds as write-mode-kinds
use Rattle.lintelow.proofs.writes.lintelow_write_paths.Reads as write-paths
use Rattle.lintelow.proofs.writes.lintelow_write_paths.Kinds as write-paths-kinds
use Rattle.lintelow.proofs.writes.lintelow_write_overrides.Reads as write-overrides
use Rattle.lintelow.proofs.writes.lintelow_write_overrides.Kinds as write-overrides-kinds
use Rattle.lintelow.proofs.writes.lintelow_write_op_args.Reads as write-op-args
use Rattle.lintelow.proofs.writes.lintelow_write_op_args.Kinds as write-op-args-kinds

pub write_u64_unique : (κs : Lfts 2) (a : Dens κs write-u64-kinds.ps) (r r' : ℕ) (x x' : AtExit (ended_of 2 write-u64-kinds.ps write-u64-kinds.r) κs)
    → write-u64.Post κs a r x → write-u64.Post κs a r' x' → (r ≡ r') × (x.1.1.0.now ≡ x'.1.1.0.now) × (x.0.now ≡ x'.0.now)
write_u64_unique κs a r r' x x' p q = (p.0 ∙ sym q.0, p.1.0 ∙ sym q.1.0, p.1.1 ∙ sym q.1.1)

pub write_u32_unique : (κs : Lfts 2) (a : Dens κs write-u32-kinds.ps) (r r' : ℕ) (x x' : AtExit (ended_of 2 write-u32-kinds.ps write-u32-kinds.r) κs)
    → write-u32.Post κs a r x → write-u32.Post κs a r' x' → (r ≡ r') × (x.1.1.0.now ≡ x'.1.1.0.now) × (x.0.now ≡ x'.0.now)
write_u32_unique κs a r r' x x' p q = (p.0 ∙ sym q.0, p.1.0 ∙ sym q.1.0, p.1.1 ∙ sym q.1.1)

pub write_bytes_unique : (κs : Lfts 3) (a : Dens κs write-bytes-kinds.ps) (r r' : ℕ) (x x' : AtExit (ended_of 3 write-bytes-kinds.ps write-bytes-kinds.r) κs)
    → write_bytes.Post κs a r x → write_bytes.Post κs a r' x' → (r ≡ r') × (x.1.1.0.now ≡ x'.1.1.0.now) × (x.0.now ≡ x'.0.now)
write_bytes_unique κs a r r' x x' p q = (p.0 ∙ sym q.0, p.1.0 ∙ sym q.1.0, p.1.1 ∙ sym q.1.1)

pub write_string_unique : (κs : Lfts 3) (a : Dens κs write-string-kinds.ps) (r r' : ℕ) (x x' : AtExit (ended_of 3 write-string-kinds.ps write-string-kinds.r) κs)
    → write-string.Post κs a r x → write-string.Post κs a r' x' → (r ≡ r') × (x.1.1.0.now ≡ x'.1.1.0.now) × (x.0.now ≡ x'.0.now)
write_string_unique κs a r r' x x' p q = (p.0 ∙ sym q.0, p.1.0 ∙ sym q.1.0, p.1.1 ∙ sym q.1.1)

pub write_string_set_unique : (κs : Lfts 4) (a : Dens κs write-string-set-kinds.ps) (r r' : ℕ) (x x' : AtExit (ended_of 4 write-string-set-kinds.ps write-string-set-kinds.r) κs)
    → write-string-set.Post κs a r x → write-string-set.Post κs a r' x' → (r ≡ r') × (x.1.1.1.1.0.now ≡ x'.1.1.1.1.0.now) × (x.0.now ≡ x'.0.now)
write_string_set_unique κs a r r' x x' p q = (p.0 ∙ sym q.0, p.1.0 ∙ sym q.1.0, p.1.1.0 ∙ sym q.1.1.0)

pub write_framed_unique : (κs : Lfts 3) (a : Dens κs write-framed-kinds.ps) (r r' : ℕ) (x x' : AtExit (ended_of 3 write-framed-kinds.ps write-framed-kinds.r) κs)
    → write-framed.Post κs a r x → write-framed.Post κs a r' x' → (r ≡ r') × (x.1.1.0.now ≡ x'.1.1.0.now) × (x.0.now ≡ x'.0.now)
write_framed_unique κs a r r' x x' p q = (p.0 ∙ sym q.0, p.1.0 ∙ sym q.1.0, p.1.1 ∙ sym q.1.1)

pub write_mode_unique : (κs : Lfts 2) (a : Dens κs write-mode-kinds.ps) (r r' : ℕ) (x x' : AtExit (ended_of 2 write-mode-kinds.ps write-mode-kinds.r) κs)
    → write-mode.Post κs a r x → write-mode.Post κs a r' x' → (r ≡ r') × (x.1.1.0.now ≡ x'.1.1.0.now) × (x.0.now ≡ x'.0.now)
write_mode_unique κs a r r' x x' p q = (p.0 ∙ sym q.0, p.1.0 ∙ sym q.1.0, p.1.1 ∙ sym q.1.1)

pub write_paths_unique : (κs : Lfts 2) (a : Dens κs write-paths-kinds.ps) (r r' : ℕ) (x x' : AtExit (ended_of 2 write-paths-kinds.ps write-paths-kinds.r) κs)
    → write-paths.Post κs a r x → write-paths.Post κs a r' x' → (r ≡ r') × (x.1.1.0.now ≡ x'.1.1.0.now) × (x.0.now ≡ x'.0.now)
write_paths_unique κs a r r' x x' p q = (p.0 ∙ sym q.0, p.1.0 ∙ sym q.1.0, p.1.1 ∙ sym q.1.1)

pub write_overrides_unique : (κs : Lfts 2) (a : Dens κs write-overrides-kinds.ps) (r r' : ℕ) (x x' : AtExit (ended_of 2 write-overrides-kinds.ps write-overrides-kinds.r) κs)
    → write-overrides.Post κs a r x → write-overrides.Post κs a r' x' → (r ≡ r') × (x.1.1.0.now ≡ x'.1.1.0.now) × (x.0.now ≡ x'.0.now)
write_overrides_unique κs a r r' x x' p q = (p.0 ∙ sym q.0, p.1.0 ∙ sym q.1.0, p.1.1 ∙ sym q.1.1)

pub write_op_args_unique : (κs : Lfts 6) (a : Dens κs write-op-args-kinds.ps) (r r' : ℕ) (x x' : AtExit (ended_of 6 write-op-args-kinds.ps write-op-args-kinds.r) κs)
    → write-op-args.Post κs a r x → write-op-args.Post κs a r' x' → (r ≡ r') × (x.1.1.1.1.1.1.1.1.1.0.now ≡ x'.1.1.1.1.1.1.1.1.1.0.now) × (x.1.1.1.1.1.1.1.1.0.now ≡ x'.1.1.1.1.1.1.1.1.0.now)
write_op_args_unique κs a r r' x x' p q = (p.0 ∙ sym q.0, p.1.0 ∙ sym q.1.0, p.1.1.0 ∙ sym q.1.1.0)
