-- Each public contract has one answer: two answers that meet it, with the lent room at exit, are equal. `Post` is what Rattle reads off the source.
use mathlib.Core.Path.{◌≡◌, sym, ◌∙◌}
use contract.Lifetimes.{Lfts}
use borrow.Fn.Kinds.{Dens, ended_of}
use denote.Triple.Clauses.{AtExit}
use Rattle.walk_judge.specs.declared.Answer.{Answer}
use Rattle.walk_judge.proofs.Unique.{said_told}
use Rattle.walk_pass.proofs.Unique.{skipped_told}
use Rattle.protocol.specs.declared.Arguments.{Arguments}
use Rattle.protocol.proofs.read_op_args.Reads as read-op-args
use Rattle.protocol.proofs.read_op_args.Kinds as read-op-args-kinds
use Rattle.protocol.proofs.skip_op_args.Reads as skip-op-args
use Rattle.protocol.proofs.skip_op_args.Kinds as skip-op-args-kinds
use Rattle.protocol.proofs.read_daemon_result.Reads as read-daemon-result
use Rattle.protocol.proofs.read_daemon_result.Kinds as read-daemon-result-kinds
use Rattle.protocol.proofs.skip_daemon_result.Reads as skip-daemon-result
use Rattle.protocol.proofs.skip_daemon_result.Kinds as skip-daemon-result-kinds
use Rattle.protocol.proofs.read_op_args_bytes.Reads as read-op-args-bytes
use Rattle.protocol.proofs.read_op_args_bytes.Kinds as read-op-args-bytes-kinds
use Rattle.protocol.proofs.read_daemon_result_bytes.Reads as read-daemon-result-bytes
use Rattle.protocol.proofs.read_daemon_result_bytes.Kinds as read-daemon-result-bytes-kinds
use Rattle.walk_judge.specs.declared.Said.{Said}
use Rattle.layouts.specs.declared.Refusal.{Refusal}
use Rattle.std.specs.Prelude.{ℕ, Result}

pub read_op_args_unique : (κs : Lfts 3) (a : Dens κs read-op-args-kinds.ps) (r r' : Answer) (x x' : AtExit (ended_of 3 read-op-args-kinds.ps read-op-args-kinds.r) κs)
    → read-op-args.Post κs a r x → read-op-args.Post κs a r' x' → (r ≡ r') × (x.1.1.1.1.1.0.now ≡ x'.1.1.1.1.1.0.now) × (x.1.1.1.1.1.1.0.now ≡ x'.1.1.1.1.1.1.0.now)
read_op_args_unique κs a r r' x x' p q = (p.0 ∙ sym q.0, p.1.0 ∙ sym q.1.0, p.1.1 ∙ sym q.1.1)

pub skip_op_args_unique : (κs : Lfts 1) (a : Dens κs skip-op-args-kinds.ps) (r r' : Arguments) (x x' : AtExit (ended_of 1 skip-op-args-kinds.ps skip-op-args-kinds.r) κs)
    → skip-op-args.Post κs a r x → skip-op-args.Post κs a r' x' → r ≡ r'
skip_op_args_unique κs a r r' x x' p q = p ∙ sym q

pub read_daemon_result_unique : (κs : Lfts 3) (a : Dens κs read-daemon-result-kinds.ps) (r r' : Answer) (x x' : AtExit (ended_of 3 read-daemon-result-kinds.ps read-daemon-result-kinds.r) κs)
    → read-daemon-result.Post κs a r x → read-daemon-result.Post κs a r' x' → (r ≡ r') × (x.1.1.1.1.0.now ≡ x'.1.1.1.1.0.now) × (x.1.1.1.1.1.0.now ≡ x'.1.1.1.1.1.0.now)
read_daemon_result_unique κs a r r' x x' p q = (p.0 ∙ sym q.0, p.1.0 ∙ sym q.1.0, p.1.1 ∙ sym q.1.1)

pub skip_daemon_result_unique : (κs : Lfts 1) (a : Dens κs skip-daemon-result-kinds.ps) (r r' : Result ℕ Refusal) (x x' : AtExit (ended_of 1 skip-daemon-result-kinds.ps skip-daemon-result-kinds.r) κs)
    → skip-daemon-result.Post κs a r x → skip-daemon-result.Post κs a r' x' → r ≡ r'
skip_daemon_result_unique κs a r r' x x' p q = skipped_told r r' (p ∙ sym q)

pub read_op_args_bytes_unique : (κs : Lfts 5) (a : Dens κs read-op-args-bytes-kinds.ps) (r r' : Result Said Refusal) (x x' : AtExit (ended_of 5 read-op-args-bytes-kinds.ps read-op-args-bytes-kinds.r) κs)
    → read-op-args-bytes.Post κs a r x → read-op-args-bytes.Post κs a r' x'
    → ((r ≡ r') × (x.1.1.1.1.1.1.1.0.now ≡ x'.1.1.1.1.1.1.1.0.now) × (x.1.1.1.1.1.1.1.1.0.now ≡ x'.1.1.1.1.1.1.1.1.0.now)) × (x.1.1.1.1.1.0.now ≡ x'.1.1.1.1.1.0.now) × (x.1.1.1.1.1.1.0.now ≡ x'.1.1.1.1.1.1.0.now)
read_op_args_bytes_unique κs a r r' x x' p q = (
  said_told r r' x.1.1.1.1.1.1.1.0.now x.1.1.1.1.1.1.1.1.0.now x'.1.1.1.1.1.1.1.0.now x'.1.1.1.1.1.1.1.1.0.now (p.0 ∙ sym q.0),
  p.1.0 ∙ sym q.1.0,
  p.1.1 ∙ sym q.1.1,
)

pub read_daemon_result_bytes_unique : (κs : Lfts 5) (a : Dens κs read-daemon-result-bytes-kinds.ps) (r r' : Result Said Refusal) (x x' : AtExit (ended_of 5 read-daemon-result-bytes-kinds.ps read-daemon-result-bytes-kinds.r) κs)
    → read-daemon-result-bytes.Post κs a r x → read-daemon-result-bytes.Post κs a r' x'
    → ((r ≡ r') × (x.1.1.1.1.1.1.0.now ≡ x'.1.1.1.1.1.1.0.now) × (x.1.1.1.1.1.1.1.0.now ≡ x'.1.1.1.1.1.1.1.0.now)) × (x.1.1.1.1.0.now ≡ x'.1.1.1.1.0.now) × (x.1.1.1.1.1.0.now ≡ x'.1.1.1.1.1.0.now)
read_daemon_result_bytes_unique κs a r r' x x' p q = (
  said_told r r' x.1.1.1.1.1.1.0.now x.1.1.1.1.1.1.1.0.now x'.1.1.1.1.1.1.0.now x'.1.1.1.1.1.1.1.0.now (p.0 ∙ sym q.0),
  p.1.0 ∙ sym q.1.0,
  p.1.1 ∙ sym q.1.1,
)
