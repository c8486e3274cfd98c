-- Each contract, as Rattle reads it off the source, leaves one answer and one content of the lent bytes.
use Prim.Native.Nat.{ℕ}
use mathlib.Core.Path.{◌≡◌, sym, ◌∙◌}
use contract.Lifetimes.{Lfts}
use borrow.Fn.Kinds.{Dens, ended_of}
use denote.Triple.Clauses.{AtExit}
use Rattle.writers_output.proofs.Unique.{once}
use Rattle.writers.proofs.write_u64.Reads as write-u64
use Rattle.writers.proofs.write_u64.Kinds as write-u64-kinds
use Rattle.writers.proofs.write_u32.Reads as write-u32
use Rattle.writers.proofs.write_u32.Kinds as write-u32-kinds
use Rattle.writers.proofs.write_bytes.Reads as write_bytes
use Rattle.writers.proofs.write_bytes.Kinds as write-bytes-kinds
use Rattle.writers.proofs.write_string.Reads as write-string
use Rattle.writers.proofs.write_string.Kinds as write-string-kinds
use Rattle.writers.proofs.write_framed.Reads as write-framed
use Rattle.writers.proofs.write_framed.Kinds as write-framed-kinds
use Rattle.writers.proofs.framed_size.Reads as framed-size
use Rattle.writers.proofs.framed_size.Kinds as framed-size-kinds
use Rattle.layouts.specs.declared.Refusal.{Refusal}
use Rattle.std.specs.Prelude.{Result}

pub write_u64_once : (κs : Lfts 1) (a : Dens κs write-u64-kinds.ps) (v w : Result ℕ Refusal) (x y : AtExit (ended_of 1 write-u64-kinds.ps write-u64-kinds.r) κs)
    → write-u64.Post κs a v x → write-u64.Post κs a w y → (v ≡ w) × (x.0.now ≡ y.0.now)
write_u64_once κs a v w x y p q = once v w _ _ _ _ p q

pub write_u32_once : (κs : Lfts 1) (a : Dens κs write-u32-kinds.ps) (v w : Result ℕ Refusal) (x y : AtExit (ended_of 1 write-u32-kinds.ps write-u32-kinds.r) κs)
    → write-u32.Post κs a v x → write-u32.Post κs a w y → (v ≡ w) × (x.0.now ≡ y.0.now)
write_u32_once κs a v w x y p q = once v w _ _ _ _ p q

pub write_bytes_once : (κs : Lfts 2) (a : Dens κs write-bytes-kinds.ps) (v w : Result ℕ Refusal) (x y : AtExit (ended_of 2 write-bytes-kinds.ps write-bytes-kinds.r) κs)
    → write_bytes.Post κs a v x → write_bytes.Post κs a w y → (v ≡ w) × (x.0.now ≡ y.0.now)
write_bytes_once κs a v w x y p q = once v w _ _ _ _ p q

pub write_string_once : (κs : Lfts 2) (a : Dens κs write-string-kinds.ps) (v w : Result ℕ Refusal) (x y : AtExit (ended_of 2 write-string-kinds.ps write-string-kinds.r) κs)
    → write-string.Post κs a v x → write-string.Post κs a w y → (v ≡ w) × (x.0.now ≡ y.0.now)
write_string_once κs a v w x y p q = once v w _ _ _ _ p q

pub write_framed_once : (κs : Lfts 2) (a : Dens κs write-framed-kinds.ps) (v w : Result ℕ Refusal) (x y : AtExit (ended_of 2 write-framed-kinds.ps write-framed-kinds.r) κs)
    → write-framed.Post κs a v x → write-framed.Post κs a w y → (v ≡ w) × (x.0.now ≡ y.0.now)
write_framed_once κs a v w x y p q = once v w _ _ _ _ p q

pub framed_size_once : (κs : Lfts 1) (a : Dens κs framed-size-kinds.ps) (r r' : ℕ) (x y : AtExit (ended_of 1 framed-size-kinds.ps framed-size-kinds.r) κs)
    → framed-size.Post κs a r x → framed-size.Post κs a r' y → r ≡ r'
framed_size_once κs a r r' x y p q = p ∙ sym q
