-- Each public contract determines its answer, and the lent room at exit. `Post` is what Rattle reads off the source.
use Prim.Native.Nat.{ℕ}
use denote.RattleType.{RattleType}
use denote.Param.Laws.{Laws}
use mir.Syntax.{Dict}
use Rattle.entries.specs.declared.Form
use Rattle.walk_rooms.specs.declared.Room
use mathlib.Core.Path.{◌≡◌, sym, ◌∙◌}
use mathlib.Core.List.{List, []}
use contract.Lifetimes.{Lfts}
use borrow.Fn.Kinds.{Dens, ended_of}
use denote.Triple.Clauses.{AtExit}
use Rattle.walk_rooms.specs.Rooms.{Put}
use Rattle.walk_rooms.proofs.U64Room.put_entry.Reads as put_entry
use Rattle.walk_rooms.proofs.U64Room.put_entry.Kinds as put-entry-kinds
use Rattle.walk_rooms.proofs.put_bytes.Reads as put-bytes
use Rattle.walk_rooms.proofs.put_bytes.Kinds as put-bytes-kinds
use Rattle.walk_rooms.proofs.U8Room.put_entry.Reads as put-entry-bytes
use Rattle.walk_rooms.proofs.U8Room.put_entry.Kinds as put-entry-bytes-kinds
use Rattle.walk_rooms.proofs.put_window.Reads as put-window
use Rattle.walk_rooms.proofs.put_window.Kinds as put-window-kinds
use Rattle.walk_rooms.proofs.put_window_in_both.Reads as put-window-in-both
use Rattle.walk_rooms.proofs.put_window_in_both.Kinds as put-window-in-both-kinds

pub put_told : {A : Type 0} (lent : List A) (at : ℕ) (vs out out' : List A) (n n' : ℕ) → Put lent at vs out n → Put lent at vs out' n' → (n ≡ n') × (out ≡ out')
put_told lent at vs out out' n n' p q = (p.place ∙ sym q.place, p.then [] ∙ sym (q.then []))

pub put_entry_unique : (κs : Lfts 1) (a : Dens κs put-entry-kinds.ps) (r r' : ℕ) (x x' : AtExit (ended_of 1 put-entry-kinds.ps put-entry-kinds.r) κs)
    → put_entry.Post κs a r x → put_entry.Post κs a r' x' → (r ≡ r') × (x.0.now ≡ x'.0.now)
put_entry_unique κs a r r' x x' p q = put_told _ _ _ _ _ _ _ p q

pub put_bytes_unique : (κs : Lfts 2) (a : Dens κs put-bytes-kinds.ps) (r r' : ℕ) (x x' : AtExit (ended_of 2 put-bytes-kinds.ps put-bytes-kinds.r) κs)
    → put-bytes.Post κs a r x → put-bytes.Post κs a r' x' → (r ≡ r') × (x.0.now ≡ x'.0.now)
put_bytes_unique κs a r r' x x' p q = put_told _ _ _ _ _ _ _ p q

pub put_entry_bytes_unique : (κs : Lfts 1) (a : Dens κs put-entry-bytes-kinds.ps) (r r' : ℕ) (x x' : AtExit (ended_of 1 put-entry-bytes-kinds.ps put-entry-bytes-kinds.r) κs)
    → put-entry-bytes.Post κs a r x → put-entry-bytes.Post κs a r' x' → (r ≡ r') × (x.0.now ≡ x'.0.now)
put_entry_bytes_unique κs a r r' x x' p q = put_told _ _ _ _ _ _ _ p q

-- in either form
module _ (T : RattleType) (L : Laws T) (R : Room.Ghosts T.Denot) (d : Dict) (F : Form.Ghosts T.Denot) (e : Dict) where
  pub put_window_unique : (κs : Lfts 3) (a : Dens κs (put-window-kinds.ps T L)) (r r' : Unit {0}) (x x' : AtExit (ended_of 3 (put-window-kinds.ps T L) (put-window-kinds.r T L)) κs)
      → put-window.Post T L R d F e κs a r x → put-window.Post T L R d F e κs a r' x' → x.1.1.0.now ≡ x'.1.1.0.now
  put_window_unique κs a r r' x x' p q = p ∙ sym q

-- in both forms
pub put_window_in_both_unique : (κs : Lfts 3) (a : Dens κs put-window-in-both-kinds.ps) (r r' : Unit {0}) (x x' : AtExit (ended_of 3 put-window-in-both-kinds.ps put-window-in-both-kinds.r) κs)
    → put-window-in-both.Post κs a r x → put-window-in-both.Post κs a r' x' → (x.1.1.0.now ≡ x'.1.1.0.now) × (x.1.1.1.0.now ≡ x'.1.1.1.0.now)
put_window_in_both_unique κs a r r' x x' p q = (p.0 ∙ sym q.0, p.1 ∙ sym q.1)
