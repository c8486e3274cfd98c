-- Each contract, as Rattle reads it off the source, leaves one answer and one content of the lent bytes.
use Prim.Native.Nat.{ℕ}
use mathlib.Core.Path.{◌≡◌}
use contract.Lifetimes.{Lfts}
use borrow.Fn.Kinds.{Dens, ended_of}
use denote.Triple.Clauses.{AtExit}
use Rattle.writers_output.proofs.Unique.{once}
use Rattle.writers_texts.proofs.write_mode.Reads as write-mode
use Rattle.writers_texts.proofs.write_mode.Kinds as write-mode-kinds
use Rattle.writers_texts.proofs.write_paths.Reads as write-paths
use Rattle.writers_texts.proofs.write_paths.Kinds as write-paths-kinds
use Rattle.writers_texts.proofs.write_overrides.Reads as write-overrides
use Rattle.writers_texts.proofs.write_overrides.Kinds as write-overrides-kinds
use Rattle.layouts.specs.declared.Refusal.{Refusal}
use Rattle.std.specs.Prelude.{Result}

pub write_mode_once : (κs : Lfts 1) (a : Dens κs write-mode-kinds.ps) (v w : Result ℕ Refusal) (x y : AtExit (ended_of 1 write-mode-kinds.ps write-mode-kinds.r) κs)
    → write-mode.Post κs a v x → write-mode.Post κs a w y → (v ≡ w) × (x.0.now ≡ y.0.now)
write_mode_once κs a v w x y p q = once v w _ _ _ _ p q

pub write_paths_once : (κs : Lfts 1) (a : Dens κs write-paths-kinds.ps) (v w : Result ℕ Refusal) (x y : AtExit (ended_of 1 write-paths-kinds.ps write-paths-kinds.r) κs)
    → write-paths.Post κs a v x → write-paths.Post κs a w y → (v ≡ w) × (x.0.now ≡ y.0.now)
write_paths_once κs a v w x y p q = once v w _ _ _ _ p q

pub write_overrides_once : (κs : Lfts 1) (a : Dens κs write-overrides-kinds.ps) (v w : Result ℕ Refusal) (x y : AtExit (ended_of 1 write-overrides-kinds.ps write-overrides-kinds.r) κs)
    → write-overrides.Post κs a v x → write-overrides.Post κs a w y → (v ≡ w) × (x.0.now ≡ y.0.now)
write_overrides_once κs a v w x y p q = once v w _ _ _ _ p q
