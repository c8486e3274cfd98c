-- Refusals, "given exactly when", of what the calls return: each theorem is about `Post`, the contract as Rattle reads it off the source, and about
-- document 01's table as `Refusals` of `layouts` has it. A `&[u8]` holds bytes (`Bytes`), which `Post` does not say.
use Prim.Native.Nat.{ℕ, ◌/◌}
use mathlib.Core.Path.{◌≡◌, sym, ◌∙◌, ap}
use mathlib.Core.Logic.{◌↔◌}
use lib.ListN.{length}
use contract.Lifetimes.{Lfts}
use borrow.Fn.Kinds.{Dens, ended_of}
use denote.Triple.Clauses.{AtExit}
use Rattle.layouts.specs.Primitive.{Result, refused}
use Rattle.layouts.specs.Refusal.{plain}
use Rattle.layouts.specs.Record.{blank}
use Rattle.layouts.specs.Calls.{Answer, arguments_tree, reply_tree, read_op_args, read_daemon_result}
use Rattle.layouts.specs.Refusals.{Refuses, lower_case}
use Rattle.layouts.specs.Demands.{Bytes}
use Rattle.layouts.proofs.Refusals as L
use Rattle.walk_judge.specs.declared.Answer as C
use Rattle.walk_judge.specs.Judged.{answer_as}
use Rattle.walk_judge.proofs.Answers.{answer_refused}
use Rattle.walk_pass.specs.Skip.{skipped}
use Rattle.walk_pass.proofs.Unique.{skipped_told}
use Rattle.protocol.proofs.Demands.{op_of, version_of, context_of, stream_of, entries_at, payload_at}
use Rattle.protocol.proofs.read_op_args.Reads as read-op-args
use Rattle.protocol.proofs.read_op_args.Kinds as read-op-args-kinds
use Rattle.protocol.proofs.read_daemon_result.Reads as read-daemon-result
use Rattle.protocol.proofs.read_daemon_result.Kinds as read-daemon-result-kinds
use Rattle.protocol.proofs.skip_daemon_result.Reads as skip-daemon-result
use Rattle.protocol.proofs.skip_daemon_result.Kinds as skip-daemon-result-kinds
use Rattle.std.specs.Prelude as Std
use Rattle.layouts.specs.declared.Refusal.{Refusal}
use Rattle.std.specs.Prelude.{Err}

-- an answer is refused as its definition is
told_refused : (r : C.Answer) (o : Result Answer) → r ≡ answer_as o → (which place : ℕ) → (r.outcome ≡ Err (plain which place)) ↔ (o ≡ refused which place 0)
told_refused r o e which place = (answer_refused r o (plain which place) e, λ q. ap (λ (a : C.Answer). a.outcome) (e ∙ ap answer_as q))

through : {A B C : Type 0} → A ↔ B → B ↔ C → A ↔ C
through f g = (λ a. g.0 (f.0 a), λ c. f.1 (g.1 c))

-- `read_op_args` refuses by this number at this place exactly when a beginning of the arguments reads and what comes next is at fault so
pub arguments_refused_when : (κs : Lfts 3) (a : Dens κs read-op-args-kinds.ps) (r : C.Answer) (x : AtExit (ended_of 3 read-op-args-kinds.ps read-op-args-kinds.r) κs)
    → read-op-args.Post κs a r x → Bytes (stream_of a.1) → (which place : ℕ)
    → (r.outcome ≡ Err (plain which place))
    ↔ Refuses (length (entries_at a.1) / 2) (length (payload_at a.1)) (arguments_tree (context_of a)) 0 blank (stream_of a.1) which place
arguments_refused_when κs a r x p bytes which place =
    let n = length (entries_at a.1) / 2 in
    let m = length (payload_at a.1) in
    through (told_refused r (read_op_args (context_of a) (stream_of a.1) n m) p.0 which place)
    (L.arguments_refused_when (context_of a) (stream_of a.1) bytes n m which place)

-- `read_daemon_result` likewise
pub reply_refused_when : (κs : Lfts 3) (a : Dens κs read-daemon-result-kinds.ps) (r : C.Answer) (x : AtExit (ended_of 3 read-daemon-result-kinds.ps read-daemon-result-kinds.r) κs)
    → read-daemon-result.Post κs a r x → Bytes (stream_of a) → (which place : ℕ)
    → (r.outcome ≡ Err (plain which place))
    ↔ Refuses (length (entries_at a) / 2) (length (payload_at a)) (reply_tree (op_of a) (version_of a)) 0 blank (stream_of a) which place
reply_refused_when κs a r x p bytes which place =
    let n = length (entries_at a) / 2 in
    let m = length (payload_at a) in
    through (told_refused r (read_daemon_result (op_of a) (version_of a) (stream_of a) n m) p.0 which place)
    (L.reply_refused_when (op_of a) (version_of a) (stream_of a) bytes n m which place)

-- `skip_daemon_result` likewise, with every string lower-case
pub skip_refused_when : (κs : Lfts 1) (a : Dens κs skip-daemon-result-kinds.ps) (x : AtExit (ended_of 1 skip-daemon-result-kinds.ps skip-daemon-result-kinds.r) κs) (k : Std.Result ℕ Refusal)
    → skip-daemon-result.Post κs a k x → Bytes (stream_of a) → (which place : ℕ)
    → (k ≡ Err (plain which place)) ↔ Refuses 0 (length (stream_of a)) (lower_case (reply_tree (op_of a) (version_of a))) 0 blank (stream_of a) which place
skip_refused_when κs a x k p bytes which place =
    through (λ q. sym p ∙ ap skipped q, λ q. skipped_told k (Err (plain which place)) (p ∙ q))
    (L.skip_refused_when (op_of a) (version_of a) (stream_of a) bytes which place)
