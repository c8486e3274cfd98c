-- Each public contract has one answer: two answers that meet it are equal. `Post` is what Rattle reads off the source.
use mathlib.Core.Path.{◌≡◌, sym, ◌∙◌, refl}
use contract.Lifetimes.{Lfts}
use borrow.Fn.Kinds.{Dens, ended_of}
use denote.Triple.Clauses.{AtExit}
use Rattle.walk_judge.specs.declared.Answer.{Answer}
use Prim.Native.Nat.{ℕ}
use mathlib.Core.List.{◌∷◌}
use lib.ListN.{replicate}
use Rattle.layouts.specs.declared.Mode.{Mode}
use Rattle.layouts.specs.Primitive.{refused}
use Rattle.walk_judge.specs.Judged.{answer_as}
use Rattle.lintelow_answers.specs.Block.{numbers_of}
use Rattle.lintelow_answers.proofs.number.Reads as number
use Rattle.lintelow_answers.proofs.number.Kinds as number-kinds
use Rattle.lintelow_answers.proofs.string.Reads as string
use Rattle.lintelow_answers.proofs.string.Kinds as string-kinds
use Rattle.lintelow_answers.proofs.count.Reads as count
use Rattle.lintelow_answers.proofs.count.Kinds as count-kinds
use Rattle.lintelow_answers.proofs.total.Reads as total
use Rattle.lintelow_answers.proofs.total.Kinds as total-kinds
use Rattle.lintelow_answers.proofs.passed.Reads as passed
use Rattle.lintelow_answers.proofs.passed.Kinds as passed-kinds
use Rattle.lintelow_answers.proofs.peek.Reads as peek
use Rattle.lintelow_answers.proofs.peek.Kinds as peek-kinds
use Rattle.lintelow_answers.proofs.write.Reads as write
use Rattle.lintelow_answers.proofs.write.Kinds as write-kinds
use Rattle.lintelow_answers.proofs.yes_no.Reads as yes-no
use Rattle.lintelow_answers.proofs.yes_no.Kinds as yes-no-kinds
use Rattle.lintelow_answers.proofs.entry.Reads as entry
use Rattle.lintelow_answers.proofs.entry.Kinds as entry-kinds
use Rattle.lintelow_answers.proofs.framed.Reads as framed
use Rattle.lintelow_answers.proofs.framed.Kinds as framed-kinds
use Rattle.lintelow_answers.proofs.version.Reads as version
use Rattle.lintelow_answers.proofs.version.Kinds as version-kinds
use Rattle.lintelow_answers.proofs.put.Reads as put
use Rattle.lintelow_answers.proofs.put.Kinds as put-kinds
use Rattle.lintelow_answers.proofs.put_said.Reads as put-said
use Rattle.lintelow_answers.proofs.put_said.Kinds as put-said-kinds
use Rattle.lintelow_answers.proofs.mode.Reads as mode
use Rattle.lintelow_answers.proofs.mode.Kinds as mode-kinds
use Rattle.lintelow_answers.proofs.skip_op_args.Reads as skip-op-args
use Rattle.lintelow_answers.proofs.skip_op_args.Kinds as skip-op-args-kinds
use Rattle.lintelow_answers.proofs.skip_daemon_result.Reads as skip-daemon-result
use Rattle.lintelow_answers.proofs.skip_daemon_result.Kinds as skip-daemon-result-kinds

pub number_unique : (κs : Lfts 0) (a : Dens κs number-kinds.ps) (r r' : Answer) (x x' : AtExit (ended_of 0 number-kinds.ps number-kinds.r) κs)
    → number.Post κs a r x → number.Post κs a r' x' → r ≡ r'
number_unique κs a r r' x x' p q = p ∙ sym q

pub string_unique : (κs : Lfts 0) (a : Dens κs string-kinds.ps) (r r' : Answer) (x x' : AtExit (ended_of 0 string-kinds.ps string-kinds.r) κs)
    → string.Post κs a r x → string.Post κs a r' x' → r ≡ r'
string_unique κs a r r' x x' p q = p ∙ sym q

pub count_unique : (κs : Lfts 0) (a : Dens κs count-kinds.ps) (r r' : Answer) (x x' : AtExit (ended_of 0 count-kinds.ps count-kinds.r) κs)
    → count.Post κs a r x → count.Post κs a r' x' → r ≡ r'
count_unique κs a r r' x x' p q = p ∙ sym q

pub total_unique : (κs : Lfts 0) (a : Dens κs total-kinds.ps) (r r' : Answer) (x x' : AtExit (ended_of 0 total-kinds.ps total-kinds.r) κs)
    → total.Post κs a r x → total.Post κs a r' x' → r ≡ r'
total_unique κs a r r' x x' p q = p ∙ sym q

pub passed_unique : (κs : Lfts 0) (a : Dens κs passed-kinds.ps) (r r' : Answer) (x x' : AtExit (ended_of 0 passed-kinds.ps passed-kinds.r) κs)
    → passed.Post κs a r x → passed.Post κs a r' x' → r ≡ r'
passed_unique κs a r r' x x' p q = p ∙ sym q

pub peek_unique : (κs : Lfts 0) (a : Dens κs peek-kinds.ps) (r r' : Answer) (x x' : AtExit (ended_of 0 peek-kinds.ps peek-kinds.r) κs)
    → peek.Post κs a r x → peek.Post κs a r' x' → r ≡ r'
peek_unique κs a r r' x x' p q = p ∙ sym q

pub write_unique : (κs : Lfts 0) (a : Dens κs write-kinds.ps) (r r' : Answer) (x x' : AtExit (ended_of 0 write-kinds.ps write-kinds.r) κs)
    → write.Post κs a r x → write.Post κs a r' x' → r ≡ r'
write_unique κs a r r' x x' p q = p ∙ sym q

pub yes_no_unique : (κs : Lfts 0) (a : Dens κs yes-no-kinds.ps) (r r' : Answer) (x x' : AtExit (ended_of 0 yes-no-kinds.ps yes-no-kinds.r) κs)
    → yes-no.Post κs a r x → yes-no.Post κs a r' x' → r ≡ r'
yes_no_unique κs a r r' x x' p q = p ∙ sym q

pub entry_unique : (κs : Lfts 0) (a : Dens κs entry-kinds.ps) (r r' : Answer) (x x' : AtExit (ended_of 0 entry-kinds.ps entry-kinds.r) κs)
    → entry.Post κs a r x → entry.Post κs a r' x' → r ≡ r'
entry_unique κs a r r' x x' p q = p ∙ sym q

pub framed_unique : (κs : Lfts 0) (a : Dens κs framed-kinds.ps) (r r' : Answer) (x x' : AtExit (ended_of 0 framed-kinds.ps framed-kinds.r) κs)
    → framed.Post κs a r x → framed.Post κs a r' x' → r ≡ r'
framed_unique κs a r r' x x' p q = p ∙ sym q

pub version_unique : (κs : Lfts 0) (a : Dens κs version-kinds.ps) (r r' : Answer) (x x' : AtExit (ended_of 0 version-kinds.ps version-kinds.r) κs)
    → version.Post κs a r x → version.Post κs a r' x' → r ≡ r'
version_unique κs a r r' x x' p q = p ∙ sym q

-- all but the first three numbers are 0
pub refused_block : (which place stream : ℕ) → numbers_of (answer_as (refused which place stream)) ≡ which ∷ place ∷ stream ∷ replicate 22 0
refused_block which place stream = refl

pub put_unique : (κs : Lfts 1) (a : Dens κs put-kinds.ps) (r r' : ℕ) (x x' : AtExit (ended_of 1 put-kinds.ps put-kinds.r) κs)
    → put.Post κs a r x → put.Post κs a r' x' → (r ≡ r') × (x.0.now ≡ x'.0.now)
put_unique κs a r r' x x' p q = (p.0 ∙ sym q.0, p.1 ∙ sym q.1)

pub put_said_unique : (κs : Lfts 1) (a : Dens κs put-said-kinds.ps) (r r' : ℕ) (x x' : AtExit (ended_of 1 put-said-kinds.ps put-said-kinds.r) κs)
    → put-said.Post κs a r x → put-said.Post κs a r' x' → (r ≡ r') × (x.0.now ≡ x'.0.now)
put_said_unique κs a r r' x x' p q = (p.0 ∙ sym q.0, p.1 ∙ sym q.1)

pub mode_unique : (κs : Lfts 0) (a : Dens κs mode-kinds.ps) (r r' : Mode) (x x' : AtExit (ended_of 0 mode-kinds.ps mode-kinds.r) κs)
    → mode.Post κs a r x → mode.Post κs a r' x' → r ≡ r'
mode_unique κs a r r' x x' p q = p ∙ sym q

pub skip_op_args_unique : (κs : Lfts 1) (a : Dens κs skip-op-args-kinds.ps) (r r' : Answer) (x x' : AtExit (ended_of 1 skip-op-args-kinds.ps skip-op-args-kinds.r) κs)
    → skip-op-args.Post κs a r x → skip-op-args.Post κs a r' x' → r ≡ r'
skip_op_args_unique κs a r r' x x' p q = p ∙ sym q

pub skip_daemon_result_unique : (κs : Lfts 1) (a : Dens κs skip-daemon-result-kinds.ps) (r r' : Answer) (x x' : AtExit (ended_of 1 skip-daemon-result-kinds.ps skip-daemon-result-kinds.r) κs)
    → skip-daemon-result.Post κs a r x → skip-daemon-result.Post κs a r' x' → r ≡ r'
skip_daemon_result_unique κs a r r' x x' p q = p ∙ sym q
