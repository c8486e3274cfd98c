-- Each public contract determines its answer. `Post` is what Rattle reads off the source.
use Prim.Native.Nat.{ℕ}
use mathlib.Core.Path.{◌≡◌, refl, sym, ap, ◌∙◌}
use contract.Lifetimes.{Lfts}
use borrow.Fn.Kinds.{Dens, ended_of}
use denote.Triple.Clauses.{AtExit}
use Rattle.layouts.specs.Primitive.{Result, ok, refused}
use Rattle.layouts.specs.Refusal.{refusal}
use lib.ListN.{get_or}
use Rattle.entries.specs.Entries.{entries_in, found}
use Rattle.entries.proofs.U64Form.slots.Reads as slots-of-numbers
use Rattle.entries.proofs.U64Form.slots.Kinds as slots-of-numbers-kinds
use Rattle.entries.proofs.U64Form.number.Reads as number-of-numbers
use Rattle.entries.proofs.U64Form.number.Kinds as number-of-numbers-kinds
use Rattle.entries.proofs.U8Form.number.Reads as number-of-bytes
use Rattle.entries.proofs.U8Form.number.Kinds as number-of-bytes-kinds
use Rattle.entries.proofs.U8Form.slots.Reads as slots-of-bytes
use Rattle.entries.proofs.U8Form.slots.Kinds as slots-of-bytes-kinds
use Rattle.entries.specs.declared.Form
use denote.RattleType.{RattleType}
use denote.Param.Laws.{Laws}
use mir.Syntax.{Dict}
use Rattle.entries.proofs.find.Reads as find
use Rattle.entries.proofs.find.Kinds as find-kinds
use Rattle.entries.proofs.slots.Reads as slots
use Rattle.entries.proofs.slots.Kinds as slots-kinds
use Rattle.entries.proofs.find_in_both.Reads as find-in-both
use Rattle.entries.proofs.find_in_both.Kinds as find-in-both-kinds
use Rattle.entries.specs.declared.Located.{Located}
use Rattle.std.specs.Prelude as Std
use Rattle.layouts.specs.declared.Refusal.{Refusal}
use Rattle.std.specs.Prelude.{Ok, Err}

pub slots_of_numbers_unique : (κs : Lfts 1) (a : Dens κs slots-of-numbers-kinds.ps) (r r' : ℕ) (x x' : AtExit (ended_of 1 slots-of-numbers-kinds.ps slots-of-numbers-kinds.r) κs)
    → slots-of-numbers.Post κs a r x → slots-of-numbers.Post κs a r' x' → r ≡ r'
slots_of_numbers_unique κs a r r' x x' p q = p.0 ∙ sym q.0

pub slots_of_bytes_unique : (κs : Lfts 1) (a : Dens κs slots-of-bytes-kinds.ps) (r r' : ℕ) (x x' : AtExit (ended_of 1 slots-of-bytes-kinds.ps slots-of-bytes-kinds.r) κs)
    → slots-of-bytes.Post κs a r x → slots-of-bytes.Post κs a r' x' → r ≡ r'
slots_of_bytes_unique κs a r r' x x' p q = p.0 ∙ sym q.0

pub number_of_numbers_unique : (κs : Lfts 1) (a : Dens κs number-of-numbers-kinds.ps) (r r' : ℕ) (x x' : AtExit (ended_of 1 number-of-numbers-kinds.ps number-of-numbers-kinds.r) κs)
    → number-of-numbers.Post κs a r x → number-of-numbers.Post κs a r' x' → r ≡ r'
number_of_numbers_unique κs a r r' x x' p q = p ∙ sym q

pub number_of_bytes_unique : (κs : Lfts 1) (a : Dens κs number-of-bytes-kinds.ps) (r r' : ℕ) (x x' : AtExit (ended_of 1 number-of-bytes-kinds.ps number-of-bytes-kinds.r) κs)
    → number-of-bytes.Post κs a r x → number-of-bytes.Post κs a r' x' → r ≡ r'
number_of_bytes_unique κs a r r' x x' p q = p ∙ sym q

-- of entries as numbers, number k is the k-th of them; of bytes, the k-th of the numbers that they hold
pub number_of_numbers_told : (κs : Lfts 1) (a : Dens κs number-of-numbers-kinds.ps) (r : ℕ) (x : AtExit (ended_of 1 number-of-numbers-kinds.ps number-of-numbers-kinds.r) κs)
    → number-of-numbers.Post κs a r x → r ≡ get_or a.0.now a.1.0 0
number_of_numbers_told κs a r x p = p

pub number_of_bytes_told : (κs : Lfts 1) (a : Dens κs number-of-bytes-kinds.ps) (r : ℕ) (x : AtExit (ended_of 1 number-of-bytes-kinds.ps number-of-bytes-kinds.r) κs)
    → number-of-bytes.Post κs a r x → r ≡ get_or (entries_in a.0.now) a.1.0 0
number_of_bytes_told κs a r x p = p

abbrev told_by : Result (ℕ × ℕ) → Std.Result Located Refusal
told_by (ok p) = Ok (record { start = p.0; len = p.1 })
told_by (refused which place stream) = Err (refusal which place stream)

told_by_lem : (r : Std.Result Located Refusal) → told_by (found r) ≡ r
told_by_lem (Ok k) = refl
told_by_lem (Err r) = refl

pub found_unique : (r r' : Std.Result Located Refusal) → found r ≡ found r' → r ≡ r'
found_unique r r' e = sym (told_by_lem r) ∙ ap told_by e ∙ told_by_lem r'

-- in either form
module _ (T : RattleType) (L : Laws T) (F : Form.Ghosts T.Denot) (d : Dict) where
  pub find_unique : (κs : Lfts 3) (a : Dens κs (find-kinds.ps T L)) (r r' : Std.Result Located Refusal) (x x' : AtExit (ended_of 3 (find-kinds.ps T L) (find-kinds.r T L)) κs)
      → find.Post T L F d κs a r x → find.Post T L F d κs a r' x' → r ≡ r'
  find_unique κs a r r' x x' p q = found_unique r r' (p ∙ sym q)

-- in both forms
pub slots_unique : (κs : Lfts 2) (a : Dens κs slots-kinds.ps) (r r' : ℕ) (x x' : AtExit (ended_of 2 slots-kinds.ps slots-kinds.r) κs)
    → slots.Post κs a r x → slots.Post κs a r' x' → r ≡ r'
slots_unique κs a r r' x x' p q = p ∙ sym q

pub find_in_both_unique : (κs : Lfts 3) (a : Dens κs find-in-both-kinds.ps) (r r' : Std.Result Located Refusal) (x x' : AtExit (ended_of 3 find-in-both-kinds.ps find-in-both-kinds.r) κs)
    → find-in-both.Post κs a r x → find-in-both.Post κs a r' x' → r ≡ r'
find_in_both_unique κs a r r' x x' p q = found_unique r r' (p ∙ sym q)
