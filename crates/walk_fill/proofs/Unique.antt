-- Each public contract determines its answer, and the lent room at exit. `Post` is what Rattle reads off the source.
use Prim.Native.Nat.{ℕ}
use mathlib.Core.Path.{◌≡◌, sym, ◌∙◌, ap}
use contract.Lifetimes.{Lfts}
use borrow.Fn.Kinds.{Dens, ended_of}
use denote.Triple.Clauses.{AtExit}
use denote.RattleType.{RattleType}
use denote.Param.Laws.{Laws}
use mir.Syntax.{Dict}
use Rattle.entries.specs.declared.Form
use Rattle.walk_rooms.specs.declared.Room
use Rattle.walk_rooms.proofs.Unique.{put_told}
use Rattle.walk_fill.specs.declared.Places.{Places}
use Rattle.walk_fill.proofs.fill.Reads as fill
use Rattle.walk_fill.proofs.fill.Kinds as fill-kinds
use Rattle.walk_fill.proofs.fill_entries.Reads as fill-entries
use Rattle.walk_fill.proofs.fill_entries.Kinds as fill-entries-kinds
use Rattle.walk_fill.proofs.fill_payload.Reads as fill-payload
use Rattle.walk_fill.proofs.fill_payload.Kinds as fill-payload-kinds
use Rattle.walk_fill.proofs.fill_in_both.Reads as fill-in-both
use Rattle.walk_fill.proofs.fill_in_both.Kinds as fill-in-both-kinds
use Rattle.walk_fill.proofs.fill_entries_in_both.Reads as fill-entries-in-both
use Rattle.walk_fill.proofs.fill_entries_in_both.Kinds as fill-entries-in-both-kinds

-- in either form
module _ (T : RattleType) (L : Laws T) (R : Room.Ghosts T.Denot) (d : Dict) (F : Form.Ghosts T.Denot) (e : Dict) where
  pub fill_unique : (κs : Lfts 4) (a : Dens κs (fill-kinds.ps T L)) (r r' : ℕ) (x x' : AtExit (ended_of 4 (fill-kinds.ps T L) (fill-kinds.r T L)) κs)
      → fill.Post T L R d F e κs a r x → fill.Post T L R d F e κs a r' x' → (r ≡ r') × (x.1.1.1.0.now ≡ x'.1.1.1.0.now) × (x.1.1.1.1.1.0.now ≡ x'.1.1.1.1.1.0.now)
  fill_unique κs a r r' x x' p q =
      let w = put_told _ _ _ _ _ _ _ p.0 q.0 in
      (w.0, w.1, p.1 ∙ sym q.1)

  pub fill_entries_unique : (κs : Lfts 3) (a : Dens κs (fill-entries-kinds.ps T L)) (r r' : ℕ) (x x' : AtExit (ended_of 3 (fill-entries-kinds.ps T L) (fill-entries-kinds.r T L)) κs)
      → fill-entries.Post T L R d F e κs a r x → fill-entries.Post T L R d F e κs a r' x' → (r ≡ r') × (x.1.1.1.0.now ≡ x'.1.1.1.0.now)
  fill_entries_unique κs a r r' x x' p q = put_told _ _ _ _ _ _ _ p q

pub fill_payload_unique : (κs : Lfts 2) (a : Dens κs fill-payload-kinds.ps) (r r' : Unit {0}) (x x' : AtExit (ended_of 2 fill-payload-kinds.ps fill-payload-kinds.r) κs)
    → fill-payload.Post κs a r x → fill-payload.Post κs a r' x' → x.1.1.1.0.now ≡ x'.1.1.1.0.now
fill_payload_unique κs a r r' x x' p q = p ∙ sym q

-- in both forms
same_places : (r r' : Places) → r.words ≡ r'.words → r.bytes ≡ r'.bytes → r ≡ r'
same_places r r' p q = ap (λ (w : ℕ). record { words = w; bytes = r.bytes }) p ∙ ap (λ (b : ℕ). record { words = r'.words; bytes = b }) q

pub fill_in_both_unique : (κs : Lfts 4) (a : Dens κs fill-in-both-kinds.ps) (r r' : Places) (x x' : AtExit (ended_of 4 fill-in-both-kinds.ps fill-in-both-kinds.r) κs)
    → fill-in-both.Post κs a r x → fill-in-both.Post κs a r' x'
    → (r ≡ r') × (x.1.1.1.0.now ≡ x'.1.1.1.0.now) × (x.1.1.1.1.1.0.now ≡ x'.1.1.1.1.1.0.now) × (x.1.1.1.1.1.1.1.0.now ≡ x'.1.1.1.1.1.1.1.0.now)
fill_in_both_unique κs a r r' x x' p q =
    let w = put_told _ _ _ _ _ _ _ p.0 q.0 in
    let b = put_told _ _ _ _ _ _ _ p.1.0 q.1.0 in
    (same_places r r' w.0 b.0, w.1, b.1, p.1.1 ∙ sym q.1.1)

pub fill_entries_in_both_unique : (κs : Lfts 3) (a : Dens κs fill-entries-in-both-kinds.ps) (r r' : Places)
    (x x' : AtExit (ended_of 3 fill-entries-in-both-kinds.ps fill-entries-in-both-kinds.r) κs)
    → fill-entries-in-both.Post κs a r x → fill-entries-in-both.Post κs a r' x' → (r ≡ r') × (x.1.1.1.0.now ≡ x'.1.1.1.0.now) × (x.1.1.1.1.1.0.now ≡ x'.1.1.1.1.1.0.now)
fill_entries_in_both_unique κs a r r' x x' p q =
    let w = put_told _ _ _ _ _ _ _ p.0 q.0 in
    let b = put_told _ _ _ _ _ _ _ p.1 q.1 in
    (same_places r r' w.0 b.0, w.1, b.1)
