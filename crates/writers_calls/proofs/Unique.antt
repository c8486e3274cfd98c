-- Each public contract, as Rattle reads it off the source, leaves one answer and one content of the lent bytes.
use Prim.Native.Nat.{ℕ}
use mathlib.Core.Path.{◌≡◌}
use contract.Lifetimes.{Lfts}
use borrow.Fn.Kinds.{Dens, ended_of}
use denote.Triple.Clauses.{AtExit}
use Rattle.writers_output.proofs.Unique.{once}
use Rattle.writers_calls.proofs.write_op_args.Reads as write-op-args
use Rattle.writers_calls.proofs.write_op_args.Kinds as write-op-args-kinds
use Rattle.writers_calls.proofs.write_op_args_bytes.Reads as write-op-args-bytes
use Rattle.writers_calls.proofs.write_op_args_bytes.Kinds as write-op-args-bytes-kinds
use Rattle.layouts.specs.declared.Refusal.{Refusal}
use Rattle.std.specs.Prelude.{Result}

pub write_op_args_once : (κs : Lfts 4) (a : Dens κs write-op-args-kinds.ps) (v w : Result ℕ Refusal) (x y : AtExit (ended_of 4 write-op-args-kinds.ps write-op-args-kinds.r) κs)
    → write-op-args.Post κs a v x → write-op-args.Post κs a w y → (v ≡ w) × (x.1.1.1.1.1.1.1.1.0.now ≡ y.1.1.1.1.1.1.1.1.0.now)
write_op_args_once κs a v w x y p q = once v w _ _ _ _ p q

pub write_op_args_bytes_once : (κs : Lfts 5) (a : Dens κs write-op-args-bytes-kinds.ps) (v w : Result ℕ Refusal) (x y : AtExit (ended_of 5 write-op-args-bytes-kinds.ps write-op-args-bytes-kinds.r) κs)
    → write-op-args-bytes.Post κs a v x → write-op-args-bytes.Post κs a w y → (v ≡ w) × (x.1.1.1.1.1.1.1.1.0.now ≡ y.1.1.1.1.1.1.1.1.0.now)
write_op_args_bytes_once κs a v w x y p q = once v w _ _ _ _ p q
