-- Each contract, as Rattle reads it off the source, leaves one answer and one content of the lent bytes.
use Prim.Native.Nat.{ℕ}
use mathlib.Core.Path.{◌≡◌, sym, ◌∙◌}
use contract.Lifetimes.{Lfts}
use borrow.Fn.Kinds.{Dens, ended_of}
use denote.Triple.Clauses.{AtExit}
use denote.RattleType.{RattleType}
use denote.Param.Laws.{Laws}
use mir.Syntax.{Dict}
use Rattle.entries.specs.declared.Form
use Rattle.writers_output.proofs.Unique.{meaning_once, once}
use Rattle.writers_sets.proofs.write_string_set.Reads as write-string-set
use Rattle.writers_sets.proofs.write_string_set.Kinds as write-string-set-kinds
use Rattle.writers_sets.proofs.write_string_set_bytes.Reads as write-string-set-bytes
use Rattle.writers_sets.proofs.write_string_set_bytes.Kinds as write-string-set-bytes-kinds
use Rattle.writers_sets.proofs.grow.Reads as grow
use Rattle.writers_sets.proofs.grow.Kinds as grow-kinds
use Rattle.writers_sets.proofs.judge_strings.Reads as judge_strings
use Rattle.writers_sets.proofs.judge_strings.Kinds as judge-strings-kinds
use Rattle.writers_sets.proofs.put_strings.Reads as put-strings
use Rattle.writers_sets.proofs.put_strings.Kinds as put-strings-kinds
use Rattle.writers_sets.proofs.judge_strings_in_both.Reads as judge-strings-in-both
use Rattle.writers_sets.proofs.judge_strings_in_both.Kinds as judge-strings-in-both-kinds
use Rattle.writers_sets.proofs.put_strings_in_both.Reads as put-strings-in-both
use Rattle.writers_sets.proofs.put_strings_in_both.Kinds as put-strings-in-both-kinds
use Rattle.layouts.specs.declared.Refusal.{Refusal}
use Rattle.std.specs.Prelude.{Result}

pub write_string_set_once : (κs : Lfts 3) (a : Dens κs write-string-set-kinds.ps) (v w : Result ℕ Refusal) (x y : AtExit (ended_of 3 write-string-set-kinds.ps write-string-set-kinds.r) κs)
    → write-string-set.Post κs a v x → write-string-set.Post κs a w y → (v ≡ w) × (x.0.now ≡ y.0.now)
write_string_set_once κs a v w x y p q = once v w _ _ _ _ p q

pub write_string_set_bytes_once : (κs : Lfts 3) (a : Dens κs write-string-set-bytes-kinds.ps) (v w : Result ℕ Refusal) (x y : AtExit (ended_of 3 write-string-set-bytes-kinds.ps write-string-set-bytes-kinds.r) κs)
    → write-string-set-bytes.Post κs a v x → write-string-set-bytes.Post κs a w y → (v ≡ w) × (x.0.now ≡ y.0.now)
write_string_set_bytes_once κs a v w x y p q = once v w _ _ _ _ p q

-- ---- the parts
pub grow_once : (κs : Lfts 0) (a : Dens κs grow-kinds.ps) (r r' : ℕ) (x y : AtExit (ended_of 0 grow-kinds.ps grow-kinds.r) κs)
    → grow.Post κs a r x → grow.Post κs a r' y → r ≡ r'
grow_once κs a r r' x y p q = p ∙ sym q

-- in either form
module _ (T : RattleType) (L : Laws T) (F : Form.Ghosts T.Denot) (d : Dict) where
  pub judge_strings_once : (κs : Lfts 4) (a : Dens κs (judge-strings-kinds.ps T L)) (v w : Result ℕ Refusal) (x y : AtExit (ended_of 4 (judge-strings-kinds.ps T L) (judge-strings-kinds.r T L)) κs)
      → judge_strings.Post T L F d κs a v x → judge_strings.Post T L F d κs a w y → v ≡ w
  judge_strings_once κs a v w x y p q = meaning_once v w (p ∙ sym q)

  pub put_strings_once : (κs : Lfts 4) (a : Dens κs (put-strings-kinds.ps T L)) (r r' : ℕ) (x y : AtExit (ended_of 4 (put-strings-kinds.ps T L) (put-strings-kinds.r T L)) κs)
      → put-strings.Post T L F d κs a r x → put-strings.Post T L F d κs a r' y → (r ≡ r') × (x.0.now ≡ y.0.now)
  put_strings_once κs a r r' x y p q = (p.0 ∙ sym q.0, p.1 ∙ sym q.1)

-- in both forms
pub judge_strings_in_both_once : (κs : Lfts 4) (a : Dens κs judge-strings-in-both-kinds.ps) (v w : Result ℕ Refusal) (x y : AtExit (ended_of 4 judge-strings-in-both-kinds.ps judge-strings-in-both-kinds.r) κs)
    → judge-strings-in-both.Post κs a v x → judge-strings-in-both.Post κs a w y → v ≡ w
judge_strings_in_both_once κs a v w x y p q = meaning_once v w (p ∙ sym q)

pub put_strings_in_both_once : (κs : Lfts 4) (a : Dens κs put-strings-in-both-kinds.ps) (r r' : ℕ) (x y : AtExit (ended_of 4 put-strings-in-both-kinds.ps put-strings-in-both-kinds.r) κs)
    → put-strings-in-both.Post κs a r x → put-strings-in-both.Post κs a r' y → (r ≡ r') × (x.0.now ≡ y.0.now)
put_strings_in_both_once κs a r r' x y p q = (p.0 ∙ sym q.0, p.1 ∙ sym q.1)
