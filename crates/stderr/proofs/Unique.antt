-- Each public contract has one answer: two answers that meet it, with the lent room at exit, are equal. `Post` is what Rattle reads off the source.
use mathlib.Core.Path.{◌≡◌, sym, ◌∙◌}
use contract.Lifetimes.{Lfts}
use borrow.Fn.Kinds.{Dens, ended_of}
use denote.Triple.Clauses.{AtExit}
use Rattle.walk_judge.specs.declared.Answer.{Answer}
use Rattle.stderr.proofs.read_stderr_loop.Reads as read-stderr-loop
use Rattle.stderr.proofs.read_stderr_loop.Kinds as read-stderr-loop-kinds
use Rattle.stderr.proofs.read_stderr_with_error.Reads as read-stderr-with-error
use Rattle.stderr.proofs.read_stderr_with_error.Kinds as read-stderr-with-error-kinds
use Rattle.stderr.proofs.read_stderr_with_error_bytes.Reads as read-stderr-with-error-bytes
use Rattle.stderr.proofs.read_stderr_with_error_bytes.Kinds as read-stderr-with-error-bytes-kinds

pub read_stderr_loop_unique : (κs : Lfts 1) (a : Dens κs read-stderr-loop-kinds.ps) (r r' : Answer) (x x' : AtExit (ended_of 1 read-stderr-loop-kinds.ps read-stderr-loop-kinds.r) κs)
    → read-stderr-loop.Post κs a r x → read-stderr-loop.Post κs a r' x' → r ≡ r'
read_stderr_loop_unique κs a r r' x x' p q = p ∙ sym q

pub read_stderr_with_error_unique : (κs : Lfts 2) (a : Dens κs read-stderr-with-error-kinds.ps) (r r' : Answer) (x x' : AtExit (ended_of 2 read-stderr-with-error-kinds.ps read-stderr-with-error-kinds.r) κs)
    → read-stderr-with-error.Post κs a r x → read-stderr-with-error.Post κs a r' x' → (r ≡ r') × (x.1.1.1.1.0.now ≡ x'.1.1.1.1.0.now)
read_stderr_with_error_unique κs a r r' x x' p q = (p.0 ∙ sym q.0, p.1 ∙ sym q.1)

pub read_stderr_with_error_bytes_unique : (κs : Lfts 2) (a : Dens κs read-stderr-with-error-bytes-kinds.ps) (r r' : Answer) (x x' : AtExit (ended_of 2 read-stderr-with-error-bytes-kinds.ps read-stderr-with-error-bytes-kinds.r) κs)
    → read-stderr-with-error-bytes.Post κs a r x → read-stderr-with-error-bytes.Post κs a r' x' → (r ≡ r') × (x.1.1.1.1.0.now ≡ x'.1.1.1.1.0.now)
read_stderr_with_error_bytes_unique κs a r r' x x' p q = (p.0 ∙ sym q.0, p.1 ∙ sym q.1)
