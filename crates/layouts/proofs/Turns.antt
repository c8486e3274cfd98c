-- The parts of a handshake that is refused, both ways: from `Parts` of specs/ to what is heard, and back.
use Prim.Native.Nat.{ℕ, ◌+◌, ◌-◌}
use mathlib.Core.Path.{◌≡◌, refl, sym, ◌∙◌, subst}
use mathlib.Core.List.{List}
use mathlib.Core.Bool.{Bool, true, false}
use lib.ListN.{drop}
use lib.Seq.{get_or-drop}
use lib.Dec.{eqb}
use Rattle.layouts.specs.declared.Record.{Record}
use Rattle.layouts.specs.Primitive.{pick, Version, client_magic_wrong, daemon_magic_wrong, not_last, Result, ok, refused}
use Rattle.layouts.specs.Shape.{Tree}
use Rattle.layouts.specs.Pieces.{run}
use Rattle.layouts.specs.Judge.{judge_of}
use Rattle.layouts.specs.Refusals.{Parts, client_refused, daemon_refused, client_read, daemon_read, client_magic_lem, daemon_magic_lem, not_last_there}
use Rattle.layouts.specs.Handshake.{Talk, turn, lost, over, hear, Both, judge_heard, client_magic, daemon_magic, number_in, daemon_info, greeting, handshake, daemon_greeting, daemon_handshake}
use Rattle.layouts.specs.Stderr.{Last}
use Rattle.layouts.specs.Demands.{Bytes}
use Rattle.layouts.proofs.Placed.{never_both}
use Rattle.layouts.proofs.Judge.{judge_read}
use Rattle.layouts.proofs.Faults.{refused_same, reads_on, answers_ok, refuses_refused}
use Rattle.layouts.proofs.Outcomes.{Outcome, answers, refuses, outcome}

-- a talk is lost by 6, 7 or 8 only, each at its place and on its stream
pub data Loses : Talk → Type 0 where
  at_turn : {d : Bool} {t : Tree} {k : Record → ℕ → Talk} → ((r : Record) (e : ℕ) → Loses (k r e)) → Loses (turn d t k)
  at_client : Loses (lost client_magic_wrong 0 0)
  at_daemon : Loses (lost daemon_magic_wrong 0 1)
  at_last : (place : ℕ) → Loses (lost not_last place 1)
  at_over : Loses over

either : (b : Bool) {x y : Talk} → Loses x → Loses y → Loses (pick b x y)
either true f g = f
either false f g = g

info_loses : (v : Version) → Loses (daemon_info v)
unfolding daemon_info
info_loses v = at_turn (λ r e. either (eqb (number_in r 5) Last) at_over (at_last (e - 8)))

pub handshake_loses : Loses handshake
unfolding handshake greeting
handshake_loses =
    at_turn λ r e.
    at_turn λ r e.
    either (eqb (number_in r 0) client_magic)
    (either (eqb (number_in r 2) daemon_magic) (at_turn λ r e. at_turn λ r e. at_turn λ r e. info_loses _) at_daemon)
    at_client

pub daemon_loses : (c : Version) → Loses (daemon_handshake c)
unfolding daemon_handshake daemon_greeting
daemon_loses c = at_turn λ r e. either (eqb (number_in r 2) daemon_magic) (at_turn λ r e. info_loses _) at_daemon

parts_at : {slots a b w p t w' p' t' : ℕ} {x : Talk} {r : Record} {s u : List ℕ} → (w ≡ w') × (p ≡ p') × (t ≡ t') → Parts slots x a b r s u w p t
    → Parts slots x a b r s u w' p' t'
parts_at z y = rw (z.0, z.1, z.2) at y

module _ (s u : List ℕ) (slots : ℕ) where
  abbrev talked : Talk → (a b : ℕ) → Record → Result Both
  talked x a b r = judge_heard s u slots r (hear x s u a b r)

  module _ (t : Tree) (k : Record → ℕ → Talk) (a b : ℕ) (r : Record) where
    -- a turn that reads is passed over; a turn that is refused is the end
    client_on : (r' : Record) (e : ℕ) → judge_of s slots 0 r (run t s a) ≡ ok (record { found = r'; ends = e }) → talked (turn false t k) a b r ≡ talked (k r' e) e b r'
    unfolding judge_heard hear
    client_on r' e q = let z = judge_read s slots 0 r (run t s a) _ q in rw (q, z.skips, ← z.holds)

    daemon_on : (r' : Record) (e : ℕ) → judge_of u slots 0 r (run t u b) ≡ ok (record { found = r'; ends = e }) → talked (turn true t k) a b r ≡ talked (k r' e) a e r'
    unfolding judge_heard hear
    daemon_on r' e q = let z = judge_read u slots 0 r (run t u b) _ q in rw (q, z.skips, ← z.holds)

    client_ends_lem : (which place : ℕ) → judge_of s slots 0 r (run t s a) ≡ refused which place 0 → talked (turn false t k) a b r ≡ refused which place 0
    unfolding judge_heard hear
    client_ends_lem which place q = rw q

    daemon_ends_lem : (which place : ℕ) → judge_of u slots 0 r (run t u b) ≡ refused which place 0 → talked (turn true t k) a b r ≡ refused which place 1
    unfolding judge_heard hear
    daemon_ends_lem which place q = rw q

  pub parts_refused : {x : Talk} {a b which place stream : ℕ} {r : Record} {s' u' : List ℕ} → Parts slots x a b r s' u' which place stream → drop a s ≡ s' → drop b u ≡ u'
      → talked x a b r ≡ refused which place stream
  unfolding judge_heard hear
  parts_refused (client_refused t k a b r s' u' w p y) e f = client_ends_lem t k a b r w p (refuses_refused s slots 0 (rw (← e) at y))
  parts_refused (daemon_refused t k a b r s' u' w p y) e f = daemon_ends_lem t k a b r w p (refuses_refused u slots 0 (rw (← f) at y))
  parts_refused (client_read t k a a' b r r' c s' u' w p n y z) e f =
      client_on t k a b r r' a' (answers_ok s slots 0 (record { these = c; others = s'; splits = e; reads = y })) ∙ parts_refused z (reads_on s slots 0 y s' e).1 f
  parts_refused (daemon_read t k a b b' r r' c s' u' w p n y z) e f =
      daemon_on t k a b r r' b' (answers_ok u slots 0 (record { these = c; others = u'; splits = f; reads = y })) ∙ parts_refused z e (reads_on u slots 0 y u' f).1
  parts_refused (client_magic_lem a b r s' u') e f = refl
  parts_refused (daemon_magic_lem a b r s' u') e f = refl
  parts_refused (not_last_there a b place r s' u') e f = refl

  module _ (which place stream : ℕ) where
    -- the parts from two places on
    abbrev From : Talk → (a b : ℕ) → Record → Type 0
    From x a b r = Parts slots x a b r (drop a s) (drop b u) which place stream

    module _ (t : Tree) (k : Record → ℕ → Talk) (a b : ℕ) (r : Record) where
      client_parts : Outcome slots 0 t a r (drop a s) → talked (turn false t k) a b r ≡ refused which place stream
          → ((r' : Record) (e : ℕ) → talked (k r' e) e b r' ≡ refused which place stream → From (k r' e) e b r') → From (turn false t k) a b r
      client_parts (refuses w p y) q more =
          parts_at (refused_same (sym (client_ends_lem t k a b r w p (refuses_refused s slots 0 y)) ∙ q)) (client_refused t k a b r (drop a s) (drop b u) w p y)
      client_parts (answers r' e y) q more =
          let z = more r' e (sym (client_on t k a b r r' e (answers_ok s slots 0 y)) ∙ q) in
          let d = (reads_on s slots 0 y.reads y.others y.splits).1 in
          subst (λ (o : List ℕ). Parts slots (turn false t k) a b r o (drop b u) which place stream) (sym y.splits)
          (client_read t k a e b r r' y.these y.others (drop b u) which place stream y.reads (rw d at z))

      daemon_parts : Outcome slots 0 t b r (drop b u) → talked (turn true t k) a b r ≡ refused which place stream
          → ((r' : Record) (e : ℕ) → talked (k r' e) a e r' ≡ refused which place stream → From (k r' e) a e r') → From (turn true t k) a b r
      daemon_parts (refuses w p y) q more =
          parts_at (refused_same (sym (daemon_ends_lem t k a b r w p (refuses_refused u slots 0 y)) ∙ q)) (daemon_refused t k a b r (drop a s) (drop b u) w p y)
      daemon_parts (answers r' e y) q more =
          let z = more r' e (sym (daemon_on t k a b r r' e (answers_ok u slots 0 y)) ∙ q) in
          let d = (reads_on u slots 0 y.reads y.others y.splits).1 in
          subst (λ (o : List ℕ). Parts slots (turn true t k) a b r (drop a s) o which place stream) (sym y.splits)
          (daemon_read t k a b e r r' y.these (drop a s) y.others which place stream y.reads (rw d at z))

    pub refused_parts : {x : Talk} → Loses x → Bytes s → Bytes u → (a b : ℕ) (r : Record) → talked x a b r ≡ refused which place stream → From x a b r
    unfolding judge_heard hear
    refused_parts (at_turn {d = false} {t} {k} g) h i a b r q =
        client_parts t k a b r (outcome slots 0 t a r (drop a s) (λ x. rw get_or-drop (h (a + x)))) q (λ r' e o. refused_parts (g r' e) h i e b r' o)
    refused_parts (at_turn {d = true} {t} {k} g) h i a b r q =
        daemon_parts t k a b r (outcome slots 0 t b r (drop b u) (λ x. rw get_or-drop (i (b + x)))) q (λ r' e o. refused_parts (g r' e) h i a e r' o)
    refused_parts at_client h i a b r q = parts_at (refused_same q) (client_magic_lem a b r (drop a s) (drop b u))
    refused_parts at_daemon h i a b r q = parts_at (refused_same q) (daemon_magic_lem a b r (drop a s) (drop b u))
    refused_parts (at_last e) h i a b r q = parts_at (refused_same q) (not_last_there a b e r (drop a s) (drop b u))
    refused_parts at_over h i a b r q = absurd (never_both (sym q))
