-- Each public contract has one answer: two answers that meet it, with the lent room at exit, are equal. `Post` is what Rattle reads off the source.
use Prim.Native.Nat.{ℕ}
use mathlib.Core.Path.{◌≡◌, refl, sym, ◌∙◌, ap}
use mathlib.Core.List.{List}
use contract.Lifetimes.{Lfts}
use borrow.Fn.Kinds.{Dens, ended_of}
use denote.Triple.Clauses.{AtExit}
use Rattle.layouts.specs.declared.Record.{Record}
use Rattle.walk_judge.specs.Judged.{answer_of, window_after}
use Rattle.walk_judge.specs.declared.Answer.{Answer}
use Rattle.walk_judge.proofs.empty.Reads as empty
use Rattle.walk_judge.proofs.empty.Kinds as empty-kinds
use Rattle.walk_judge.proofs.answer_of.Reads as answer_of_lem
use Rattle.walk_judge.proofs.answer_of.Kinds as answer-of-kinds
use Rattle.walk_judge.proofs.refuse.Reads as refuse
use Rattle.walk_judge.proofs.refuse.Kinds as refuse-kinds
use Rattle.walk_judge.proofs.judge.Reads as judge
use Rattle.walk_judge.proofs.judge.Kinds as judge-kinds
use Rattle.walk_judge.proofs.judge_record.Reads as judge-record
use Rattle.walk_judge.proofs.judge_record.Kinds as judge-record-kinds
use Rattle.walk_judge.proofs.refused_answer.Reads as refused_answer
use Rattle.walk_judge.proofs.refused_answer.Kinds as refused-answer-kinds
use Rattle.walk_judge.specs.declared.Said.{Said}
use Rattle.layouts.specs.declared.Refusal.{Refusal}
use Rattle.std.specs.Prelude.{Ok, Err, Result}

pub empty_unique : (κs : Lfts 0) (a : Dens κs empty-kinds.ps) (r r' : Record) (x x' : AtExit (ended_of 0 empty-kinds.ps empty-kinds.r) κs)
    → empty.Post κs a r x → empty.Post κs a r' x' → r ≡ r'
empty_unique κs a r r' x x' p q = p ∙ sym q

pub refused_answer_unique : (κs : Lfts 0) (a : Dens κs refused-answer-kinds.ps) (r r' : Answer) (x x' : AtExit (ended_of 0 refused-answer-kinds.ps refused-answer-kinds.r) κs)
    → refused_answer.Post κs a r x → refused_answer.Post κs a r' x' → r ≡ r'
refused_answer_unique κs a r r' x x' p q = p ∙ sym q

-- what was said, with the numbers and counts beside it, is told by the answer that they make
abbrev said_by : Result (Unit {0}) Refusal → Answer → Result Said Refusal
said_by (Ok tt) a = Ok (record { kind = a.kind; ends = a.ends; ends2 = a.ends2; entries = a.found.entries; payload = a.found.payload; present = a.found.present })
said_by (Err r) a = Err r

said_back : (r : Result Said Refusal) (ns cs : List ℕ) → said_by (answer_of r ns cs).outcome (answer_of r ns cs) ≡ r
said_back (Ok k) ns cs = refl
said_back (Err x) ns cs = refl

numbers_back : (r : Result Said Refusal) (ns cs : List ℕ) → (answer_of r ns cs).found.numbers ≡ ns
numbers_back (Ok k) ns cs = refl
numbers_back (Err x) ns cs = refl

counts_back : (r : Result Said Refusal) (ns cs : List ℕ) → (answer_of r ns cs).found.counts ≡ cs
counts_back (Ok k) ns cs = refl
counts_back (Err x) ns cs = refl

module _ (r r' : Result Said Refusal) (ns cs ns' cs' : List ℕ) (e : answer_of r ns cs ≡ answer_of r' ns' cs') where
  pub said_told : (r ≡ r') × (ns ≡ ns') × (cs ≡ cs')
  said_told = (
    sym (said_back r ns cs) ∙ ap (λ (a : Answer). said_by a.outcome a) e ∙ said_back r' ns' cs',
    sym (numbers_back r ns cs) ∙ ap (λ (a : Answer). a.found.numbers) e ∙ numbers_back r' ns' cs',
    sym (counts_back r ns cs) ∙ ap (λ (a : Answer). a.found.counts) e ∙ counts_back r' ns' cs',
  )

pub refuse_unique : (κs : Lfts 2) (a : Dens κs refuse-kinds.ps) (r r' : Result Said Refusal) (x x' : AtExit (ended_of 2 refuse-kinds.ps refuse-kinds.r) κs)
    → refuse.Post κs a r x → refuse.Post κs a r' x' → (r ≡ r') × (x.1.0.now ≡ x'.1.0.now) × (x.1.1.0.now ≡ x'.1.1.0.now)
refuse_unique κs a r r' x x' p q = said_told r r' x.1.0.now x.1.1.0.now x'.1.0.now x'.1.1.0.now (p.1 ∙ sym q.1)

-- the exits of numbers, counts and window
abbrev pub Exits : (κs : Lfts 4) → Type 0
Exits κs = AtExit (ended_of 4 judge-kinds.ps judge-kinds.r) κs

abbrev pub numbers_at : (κs : Lfts 4) → Exits κs → List ℕ
numbers_at κs x = x.1.1.1.1.1.1.1.1.0.now

abbrev pub counts_at : (κs : Lfts 4) → Exits κs → List ℕ
counts_at κs x = x.1.1.1.1.1.1.1.1.1.0.now

abbrev pub window_at : (κs : Lfts 4) → Exits κs → List ℕ
window_at κs x = x.1.1.1.1.1.1.1.1.1.1.0.now

same_window : (w : List ℕ) (n : ℕ) (es : List ℕ) (r r' : Result Said Refusal) → r ≡ r' → window_after r w n es ≡ window_after r' w n es
same_window w n es r r' e = ap (λ (y : Result Said Refusal). window_after y w n es) e

pub judge_unique : (κs : Lfts 4) (a : Dens κs judge-kinds.ps) (r r' : Result Said Refusal) (x x' : Exits κs)
    → judge.Post κs a r x → judge.Post κs a r' x'
    → (r ≡ r') × (numbers_at κs x ≡ numbers_at κs x') × (counts_at κs x ≡ counts_at κs x') × (window_at κs x ≡ window_at κs x')
judge_unique κs a r r' x x' p q =
    let t = said_told r r' (numbers_at κs x) (counts_at κs x) (numbers_at κs x') (counts_at κs x') (p.0 ∙ sym q.0) in
    (t.0, t.1, t.2, p.1 ∙ same_window _ _ _ r r' t.0 ∙ sym q.1)

pub answer_of_unique : (κs : Lfts 0) (a : Dens κs answer-of-kinds.ps) (r r' : Answer) (x x' : AtExit (ended_of 0 answer-of-kinds.ps answer-of-kinds.r) κs)
    → answer_of_lem.Post κs a r x → answer_of_lem.Post κs a r' x' → r ≡ r'
answer_of_unique κs a r r' x x' p q = p ∙ sym q

pub judge_record_unique : (κs : Lfts 1) (a : Dens κs judge-record-kinds.ps) (r r' : Answer) (x x' : AtExit (ended_of 1 judge-record-kinds.ps judge-record-kinds.r) κs)
    → judge-record.Post κs a r x → judge-record.Post κs a r' x' → r ≡ r'
judge_record_unique κs a r r' x x' p q = p ∙ sym q
