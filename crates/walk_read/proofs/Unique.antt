-- Each public contract has one answer: two answers that meet it, with the lent room at exit, are equal. `Post` is what Rattle reads off the source.
use denote.RattleType.{RattleType}
use denote.Param.Laws.{Laws}
use mir.Syntax.{Dict}
use Rattle.entries.specs.declared.Form
use Rattle.walk_rooms.specs.declared.Room
use mathlib.Core.Path.{◌≡◌, sym, ◌∙◌}
use contract.Lifetimes.{Lfts}
use borrow.Fn.Kinds.{Dens, ended_of}
use denote.Triple.Clauses.{AtExit}
use Rattle.walk_judge.proofs.Unique.{said_told}
use Rattle.walk_read.proofs.read.Reads as read
use Rattle.walk_read.proofs.read.Kinds as read-kinds
use Rattle.walk_read.proofs.read_in_both.Reads as read-in-both
use Rattle.walk_read.proofs.read_in_both.Kinds as read-in-both-kinds
use Rattle.walk_judge.specs.declared.Said.{Said}
use Rattle.layouts.specs.declared.Refusal.{Refusal}
use Rattle.std.specs.Prelude.{Result}

-- in either form
module _ (T : RattleType) (L : Laws T) (R : Room.Ghosts T.Denot) (d : Dict) (F : Form.Ghosts T.Denot) (e : Dict) where
  pub read_unique : (κs : Lfts 6) (a : Dens κs (read-kinds.ps T L)) (r r' : Result Said Refusal) (x x' : AtExit (ended_of 6 (read-kinds.ps T L) (read-kinds.r T L)) κs)
      → read.Post T L R d F e κs a r x → read.Post T L R d F e κs a r' x'
      → ((r ≡ r') × (x.1.1.1.1.1.0.now ≡ x'.1.1.1.1.1.0.now) × (x.1.1.1.1.1.1.0.now ≡ x'.1.1.1.1.1.1.0.now))
      × (x.1.1.1.0.now ≡ x'.1.1.1.0.now) × (x.1.1.1.1.0.now ≡ x'.1.1.1.1.0.now)
  read_unique κs a r r' x x' p q = (
    said_told r r' x.1.1.1.1.1.0.now x.1.1.1.1.1.1.0.now x'.1.1.1.1.1.0.now x'.1.1.1.1.1.1.0.now (p.0 ∙ sym q.0),
    p.1.0 ∙ sym q.1.0,
    p.1.1 ∙ sym q.1.1,
  )

-- in both forms
pub read_in_both_unique : (κs : Lfts 6) (a : Dens κs read-in-both-kinds.ps) (r r' : Result Said Refusal) (x x' : AtExit (ended_of 6 read-in-both-kinds.ps read-in-both-kinds.r) κs)
    → read-in-both.Post κs a r x → read-in-both.Post κs a r' x'
    → ((r ≡ r') × (x.1.1.1.1.1.1.0.now ≡ x'.1.1.1.1.1.1.0.now) × (x.1.1.1.1.1.1.1.0.now ≡ x'.1.1.1.1.1.1.1.0.now))
    × (x.1.1.1.0.now ≡ x'.1.1.1.0.now) × (x.1.1.1.1.0.now ≡ x'.1.1.1.1.0.now) × (x.1.1.1.1.1.0.now ≡ x'.1.1.1.1.1.0.now)
read_in_both_unique κs a r r' x x' p q = (
  said_told r r' x.1.1.1.1.1.1.0.now x.1.1.1.1.1.1.1.0.now x'.1.1.1.1.1.1.0.now x'.1.1.1.1.1.1.1.0.now (p.0 ∙ sym q.0),
  p.1.0 ∙ sym q.1.0,
  p.1.1.0 ∙ sym q.1.1.0,
  p.1.1.1 ∙ sym q.1.1.1,
)
