-- Each public contract has one answer: two answers that meet it, with the lent room at exit, are equal. `Post` is what Rattle reads off the source.
use denote.RattleType.{RattleType}
use denote.Param.Laws.{Laws}
use mir.Syntax.{Dict}
use Rattle.entries.specs.declared.Form
use Rattle.walk_rooms.specs.declared.Room
use mathlib.Core.Path.{◌≡◌, sym, ◌∙◌}
use contract.Lifetimes.{Lfts}
use borrow.Fn.Kinds.{Dens, ended_of}
use denote.Triple.Clauses.{AtExit}
use Rattle.walk_judge.proofs.Unique.{said_told}
use Rattle.walk_shapes.proofs.read_arguments.Reads as read-arguments
use Rattle.walk_shapes.proofs.read_arguments.Kinds as read-arguments-kinds
use Rattle.walk_shapes.proofs.read_reply.Reads as read-reply
use Rattle.walk_shapes.proofs.read_reply.Kinds as read-reply-kinds
use Rattle.walk_shapes.proofs.both.read_arguments_in_both.Reads as read-arguments-in-both
use Rattle.walk_shapes.proofs.both.read_arguments_in_both.Kinds as read-arguments-in-both-kinds
use Rattle.walk_shapes.proofs.both.read_reply_in_both.Reads as read-reply-in-both
use Rattle.walk_shapes.proofs.both.read_reply_in_both.Kinds as read-reply-in-both-kinds
use Rattle.walk_judge.specs.declared.Said.{Said}
use Rattle.layouts.specs.declared.Refusal.{Refusal}
use Rattle.std.specs.Prelude.{Result}

-- in either form
module _ (T : RattleType) (L : Laws T) (R : Room.Ghosts T.Denot) (d : Dict) (F : Form.Ghosts T.Denot) (e : Dict) where
  pub read_arguments_unique : (κs : Lfts 6) (a : Dens κs (read-arguments-kinds.ps T L)) (r r' : Result Said Refusal) (x x' : AtExit (ended_of 6 (read-arguments-kinds.ps T L) (read-arguments-kinds.r T L)) κs)
      → read-arguments.Post T L R d F e κs a r x → read-arguments.Post T L R d F e κs a r' x'
      → ((r ≡ r') × (x.1.1.1.1.1.1.1.0.now ≡ x'.1.1.1.1.1.1.1.0.now) × (x.1.1.1.1.1.1.1.1.0.now ≡ x'.1.1.1.1.1.1.1.1.0.now)) × (x.1.1.1.1.1.0.now ≡ x'.1.1.1.1.1.0.now) × (x.1.1.1.1.1.1.0.now ≡ x'.1.1.1.1.1.1.0.now)
  read_arguments_unique κs a r r' x x' p q = (
    said_told r r' x.1.1.1.1.1.1.1.0.now x.1.1.1.1.1.1.1.1.0.now x'.1.1.1.1.1.1.1.0.now x'.1.1.1.1.1.1.1.1.0.now (p.0 ∙ sym q.0),
    p.1.0 ∙ sym q.1.0,
    p.1.1 ∙ sym q.1.1,
  )

  pub read_reply_unique : (κs : Lfts 6) (a : Dens κs (read-reply-kinds.ps T L)) (r r' : Result Said Refusal) (x x' : AtExit (ended_of 6 (read-reply-kinds.ps T L) (read-reply-kinds.r T L)) κs)
      → read-reply.Post T L R d F e κs a r x → read-reply.Post T L R d F e κs a r' x'
      → ((r ≡ r') × (x.1.1.1.1.1.1.0.now ≡ x'.1.1.1.1.1.1.0.now) × (x.1.1.1.1.1.1.1.0.now ≡ x'.1.1.1.1.1.1.1.0.now)) × (x.1.1.1.1.0.now ≡ x'.1.1.1.1.0.now) × (x.1.1.1.1.1.0.now ≡ x'.1.1.1.1.1.0.now)
  read_reply_unique κs a r r' x x' p q = (
    said_told r r' x.1.1.1.1.1.1.0.now x.1.1.1.1.1.1.1.0.now x'.1.1.1.1.1.1.0.now x'.1.1.1.1.1.1.1.0.now (p.0 ∙ sym q.0),
    p.1.0 ∙ sym q.1.0,
    p.1.1 ∙ sym q.1.1,
  )

-- in both forms
pub read_arguments_in_both_unique : (κs : Lfts 6) (a : Dens κs read-arguments-in-both-kinds.ps) (r r' : Result Said Refusal)
    (x x' : AtExit (ended_of 6 read-arguments-in-both-kinds.ps read-arguments-in-both-kinds.r) κs)
    → read-arguments-in-both.Post κs a r x → read-arguments-in-both.Post κs a r' x'
    → ((r ≡ r') × (x.1.1.1.1.1.1.1.1.0.now ≡ x'.1.1.1.1.1.1.1.1.0.now) × (x.1.1.1.1.1.1.1.1.1.0.now ≡ x'.1.1.1.1.1.1.1.1.1.0.now))
    × (x.1.1.1.1.1.0.now ≡ x'.1.1.1.1.1.0.now) × (x.1.1.1.1.1.1.0.now ≡ x'.1.1.1.1.1.1.0.now) × (x.1.1.1.1.1.1.1.0.now ≡ x'.1.1.1.1.1.1.1.0.now)
read_arguments_in_both_unique κs a r r' x x' p q = (
  said_told r r' x.1.1.1.1.1.1.1.1.0.now x.1.1.1.1.1.1.1.1.1.0.now x'.1.1.1.1.1.1.1.1.0.now x'.1.1.1.1.1.1.1.1.1.0.now (p.0 ∙ sym q.0),
  p.1.0 ∙ sym q.1.0,
  p.1.1.0 ∙ sym q.1.1.0,
  p.1.1.1 ∙ sym q.1.1.1,
)

pub read_reply_in_both_unique : (κs : Lfts 6) (a : Dens κs read-reply-in-both-kinds.ps) (r r' : Result Said Refusal)
    (x x' : AtExit (ended_of 6 read-reply-in-both-kinds.ps read-reply-in-both-kinds.r) κs)
    → read-reply-in-both.Post κs a r x → read-reply-in-both.Post κs a r' x'
    → ((r ≡ r') × (x.1.1.1.1.1.1.1.0.now ≡ x'.1.1.1.1.1.1.1.0.now) × (x.1.1.1.1.1.1.1.1.0.now ≡ x'.1.1.1.1.1.1.1.1.0.now))
    × (x.1.1.1.1.0.now ≡ x'.1.1.1.1.0.now) × (x.1.1.1.1.1.0.now ≡ x'.1.1.1.1.1.0.now) × (x.1.1.1.1.1.1.0.now ≡ x'.1.1.1.1.1.1.0.now)
read_reply_in_both_unique κs a r r' x x' p q = (
  said_told r r' x.1.1.1.1.1.1.1.0.now x.1.1.1.1.1.1.1.1.0.now x'.1.1.1.1.1.1.1.0.now x'.1.1.1.1.1.1.1.1.0.now (p.0 ∙ sym q.0),
  p.1.0 ∙ sym q.1.0,
  p.1.1.0 ∙ sym q.1.1.0,
  p.1.1.1 ∙ sym q.1.1.1,
)
