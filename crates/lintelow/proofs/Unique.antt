-- Each contract has one answer: the number that is returned and all lent bytes at exit are determined. `Post` is what Rattle reads off the source.
use Prim.Native.Nat.{ℕ}
use mathlib.Core.Path.{◌≡◌, sym, ◌∙◌}
use contract.Lifetimes.{Lfts}
use borrow.Fn.Kinds.{Dens, ended_of}
use denote.Triple.Clauses.{AtExit}
use Rattle.lintelow.proofs.lintelow_read_op_args.Reads as read-op-args
use Rattle.lintelow.proofs.lintelow_read_op_args.Kinds as read-op-args-kinds
use Rattle.lintelow.proofs.lintelow_read_daemon_result.Reads as read-daemon-result
use Rattle.lintelow.proofs.lintelow_read_daemon_result.Kinds as read-daemon-result-kinds
use Rattle.lintelow.proofs.lintelow_skip_op_args.Reads as skip-op-args
use Rattle.lintelow.proofs.lintelow_skip_op_args.Kinds as skip-op-args-kinds
use Rattle.lintelow.proofs.lintelow_skip_daemon_result.Reads as skip-daemon-result
use Rattle.lintelow.proofs.lintelow_skip_daemon_result.Kinds as skip-daemon-result-kinds
use Rattle.lintelow.proofs.lintelow_read_stderr_loop.Reads as read-stderr-loop
use Rattle.lintelow.proofs.lintelow_read_stderr_loop.Kinds as read-stderr-loop-kinds
use Rattle.lintelow.proofs.lintelow_read_stderr_with_error.Reads as read-stderr-with-error
use Rattle.lintelow.proofs.lintelow_read_stderr_with_error.Kinds as read-stderr-with-error-kinds
use Rattle.lintelow.proofs.lintelow_parse_handshake.Reads as parse-handshake
use Rattle.lintelow.proofs.lintelow_parse_handshake.Kinds as parse-handshake-kinds
use Rattle.lintelow.proofs.lintelow_parse_daemon_handshake.Reads as parse-daemon-handshake
use Rattle.lintelow.proofs.lintelow_parse_daemon_handshake.Kinds as parse-daemon-handshake-kinds

pub read_op_args_unique : (κs : Lfts 4) (a : Dens κs read-op-args-kinds.ps) (r r' : ℕ) (x x' : AtExit (ended_of 4 read-op-args-kinds.ps read-op-args-kinds.r) κs)
    → read-op-args.Post κs a r x → read-op-args.Post κs a r' x' → (r ≡ r') × (x.1.1.1.1.1.1.1.0.now ≡ x'.1.1.1.1.1.1.1.0.now) × (x.1.1.1.1.1.0.now ≡ x'.1.1.1.1.1.0.now) × (x.1.1.1.1.1.1.0.now ≡ x'.1.1.1.1.1.1.0.now)
read_op_args_unique κs a r r' x x' p q = (p.0 ∙ sym q.0, p.1.0 ∙ sym q.1.0, p.1.1.0 ∙ sym q.1.1.0, p.1.1.1 ∙ sym q.1.1.1)

pub read_daemon_result_unique : (κs : Lfts 4) (a : Dens κs read-daemon-result-kinds.ps) (r r' : ℕ) (x x' : AtExit (ended_of 4 read-daemon-result-kinds.ps read-daemon-result-kinds.r) κs)
    → read-daemon-result.Post κs a r x → read-daemon-result.Post κs a r' x' → (r ≡ r') × (x.1.1.1.1.1.1.0.now ≡ x'.1.1.1.1.1.1.0.now) × (x.1.1.1.1.0.now ≡ x'.1.1.1.1.0.now) × (x.1.1.1.1.1.0.now ≡ x'.1.1.1.1.1.0.now)
read_daemon_result_unique κs a r r' x x' p q = (p.0 ∙ sym q.0, p.1.0 ∙ sym q.1.0, p.1.1.0 ∙ sym q.1.1.0, p.1.1.1 ∙ sym q.1.1.1)

pub skip_op_args_unique : (κs : Lfts 2) (a : Dens κs skip-op-args-kinds.ps) (r r' : ℕ) (x x' : AtExit (ended_of 2 skip-op-args-kinds.ps skip-op-args-kinds.r) κs)
    → skip-op-args.Post κs a r x → skip-op-args.Post κs a r' x' → (r ≡ r') × (x.1.1.1.1.1.0.now ≡ x'.1.1.1.1.1.0.now)
skip_op_args_unique κs a r r' x x' p q = (p.0 ∙ sym q.0, p.1 ∙ sym q.1)

pub skip_daemon_result_unique : (κs : Lfts 2) (a : Dens κs skip-daemon-result-kinds.ps) (r r' : ℕ) (x x' : AtExit (ended_of 2 skip-daemon-result-kinds.ps skip-daemon-result-kinds.r) κs)
    → skip-daemon-result.Post κs a r x → skip-daemon-result.Post κs a r' x' → (r ≡ r') × (x.1.1.1.1.0.now ≡ x'.1.1.1.1.0.now)
skip_daemon_result_unique κs a r r' x x' p q = (p.0 ∙ sym q.0, p.1 ∙ sym q.1)

pub read_stderr_loop_unique : (κs : Lfts 2) (a : Dens κs read-stderr-loop-kinds.ps) (r r' : ℕ) (x x' : AtExit (ended_of 2 read-stderr-loop-kinds.ps read-stderr-loop-kinds.r) κs)
    → read-stderr-loop.Post κs a r x → read-stderr-loop.Post κs a r' x' → (r ≡ r') × (x.1.0.now ≡ x'.1.0.now)
read_stderr_loop_unique κs a r r' x x' p q = (p.0 ∙ sym q.0, p.1 ∙ sym q.1)

pub read_stderr_with_error_unique : (κs : Lfts 3) (a : Dens κs read-stderr-with-error-kinds.ps) (r r' : ℕ) (x x' : AtExit (ended_of 3 read-stderr-with-error-kinds.ps read-stderr-with-error-kinds.r) κs)
    → read-stderr-with-error.Post κs a r x → read-stderr-with-error.Post κs a r' x'
    → (r ≡ r') × (x.1.1.1.1.1.0.now ≡ x'.1.1.1.1.1.0.now) × (x.1.1.1.1.0.now ≡ x'.1.1.1.1.0.now)
read_stderr_with_error_unique κs a r r' x x' p q = (p.0 ∙ sym q.0, p.1.0 ∙ sym q.1.0, p.1.1 ∙ sym q.1.1)

pub parse_handshake_unique : (κs : Lfts 4) (a : Dens κs parse-handshake-kinds.ps) (r r' : ℕ) (x x' : AtExit (ended_of 4 parse-handshake-kinds.ps parse-handshake-kinds.r) κs)
    → parse-handshake.Post κs a r x → parse-handshake.Post κs a r' x' → (r ≡ r') × (x.1.1.1.0.now ≡ x'.1.1.1.0.now) × (x.1.1.0.now ≡ x'.1.1.0.now)
parse_handshake_unique κs a r r' x x' p q = (p.0 ∙ sym q.0, p.1.0 ∙ sym q.1.0, p.1.1 ∙ sym q.1.1)

pub parse_daemon_handshake_unique : (κs : Lfts 3) (a : Dens κs parse-daemon-handshake-kinds.ps) (r r' : ℕ) (x x' : AtExit (ended_of 3 parse-daemon-handshake-kinds.ps parse-daemon-handshake-kinds.r) κs)
    → parse-daemon-handshake.Post κs a r x → parse-daemon-handshake.Post κs a r' x' → (r ≡ r') × (x.1.1.1.1.0.now ≡ x'.1.1.1.1.0.now) × (x.1.1.1.0.now ≡ x'.1.1.1.0.now)
parse_daemon_handshake_unique κs a r r' x x' p q = (p.0 ∙ sym q.0, p.1.0 ∙ sym q.1.0, p.1.1 ∙ sym q.1.1)
