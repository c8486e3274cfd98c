-- Handshakes: numbers alone decide what is heard on both streams, and what follows on each is as before.
use Prim.Native.Nat.{ℕ, ◌+◌, ◌≤◌, ◌<◌}
use mathlib.Core.Path.{◌≡◌, refl, sym, ◌∙◌, ap}
use mathlib.Core.List.{List, [], ◌∷◌}
use mathlib.Core.Bool.{Bool, true, false, ◌||◌}
use lib.ListN.{length, get_or, drop}
use lib.Dec.{eqb}
use native.Mathlib.Omega.{arith}
use native.Mathlib.Nat.{zero-add}
use Rattle.layouts.specs.declared.Record.{Record}
use Rattle.layouts.specs.Primitive.{pick, bad_text, Version, version, from_wire, client_magic_wrong, daemon_magic_wrong, not_last, Result, ok, refused, onward}
use Rattle.layouts.specs.Shape.{Tree, Gated, once}
use Rattle.layouts.specs.Pieces.{Pieces, number, text, half, chunk, end, fault, run, skip_of, total_of}
use Rattle.layouts.specs.Record.{blank, record_of}
use Rattle.layouts.specs.Judge.{not_text, text_end, Ended, judge_of}
use Rattle.layouts.specs.Handshake.{Talk, turn, lost, over, Heard, heard, failed, ended, if_ends, hear, Both, on_stream, judge_heard, client_magic, daemon_magic, number_in, fields_at, hello, feature_fields, obsolete_fields, info_fields, daemon_info, daemon_greeting, greeting, handshake, daemon_handshake, handshake_answer, parse_handshake, parse_daemon_handshake}
use Rattle.layouts.specs.Operations.{N}
use Rattle.layouts.specs.Stderr.{Last}
use Rattle.layouts.specs.Soft.{soft, soft_heard, SoftenedOn, unless_bad, skip_heard, record_heard, kept_heard, or_on, unless_heard}
use Rattle.layouts.specs.Demands.{Verdict, all_text, first_bad, in_turn, after_turn, VerdictHeard, all_heard, first_heard, both_mean, handshake_meaning, daemon_meaning}
use Rattle.layouts.proofs.Trees.{AllFit, no_payload, layout_fails_by_15}
use Rattle.layouts.proofs.Placed.{never_both, FailsBy15, run_placed, ends, soft_low, soft_high, neither}
use Rattle.layouts.proofs.Soft.{Before, soft_run_at, same_drop}
use Rattle.layouts.proofs.Judge.{record_room, judge_room}
use Rattle.layouts.proofs.Theorems.{unless_bad_lem}
use Rattle.layouts.proofs.Success.{Numbered, onward_numbered, judge_numbered, run_numbered}

-- of what follows a turn
rest_soft : (d c : Bool) (x : ℕ) (o : Result ℕ) (k : ℕ → Heard) → ((e : ℕ) → o ≡ ok e → soft_heard d (k e) x ≡ false) → soft_heard d (if_ends c o k) x ≡ false
unfolding soft_heard
rest_soft d c x (ok e) k f = f e refl
rest_soft d c x (refused which place stream) k f = refl

rest_at : (d c : Bool) (x : ℕ) (o : Result ℕ) (k : ℕ → Heard) (e : ℕ) → o ≡ ok e → soft_heard d (k e) x ≡ false → soft_heard d (if_ends c o k) x ≡ false
rest_at d c x o k e z q = ap (λ (w : Result ℕ). soft_heard d (if_ends c w k) x) z ∙ q

-- nothing before the places is soft
module _ (s u : List ℕ) (y : ℕ) where
  heard_low : (d : Bool) (x : Talk) (a b : ℕ) (r : Record) → a ≤ length s → b ≤ length u → y < pick d b a → soft_heard d (hear x s u a b r) y ≡ false
  unfolding hear soft_heard
  heard_low false (turn false t k) a b r h g l =
      let p = run_placed t s a h in
      neither (soft (run t s a) y) _ (soft_low y p (omega arith))
      (rest_soft false false y (skip_of (run t s a)) _
      (λ e q. let z = ends e p q in heard_low false (k (record_of r (run t s a)) e) e b (record_of r (run t s a)) z.1 g (omega arith)))
  heard_low false (turn true t k) a b r h g l =
      rest_soft false true y (skip_of (run t u b)) _
      (λ e q. heard_low false (k (record_of r (run t u b)) e) a e (record_of r (run t u b)) h (ends e (run_placed t u b g) q).1 l)
  heard_low true (turn true t k) a b r h g l =
      let p = run_placed t u b g in
      neither (soft (run t u b) y) _ (soft_low y p (omega arith))
      (rest_soft true true y (skip_of (run t u b)) _
      (λ e q. let z = ends e p q in heard_low true (k (record_of r (run t u b)) e) a e (record_of r (run t u b)) h z.1 (omega arith)))
  heard_low true (turn false t k) a b r h g l =
      rest_soft true false y (skip_of (run t s a)) _
      (λ e q. heard_low true (k (record_of r (run t s a)) e) e b (record_of r (run t s a)) (ends e (run_placed t s a h) q).1 g l)
  heard_low false (lost which place stream) a b r h g l = refl
  heard_low true (lost which place stream) a b r h g l = refl
  heard_low false over a b r h g l = refl
  heard_low true over a b r h g l = refl

-- s' agrees with s from a place on, wherever no byte is soft on that side
abbrev Agree : (d : Bool) (h : Heard) (s s' : List ℕ) (a : ℕ) → Type 0
Agree d h s s' a = (y : ℕ) → a ≤ y → y < length s → soft_heard d h y ≡ false → get_or s' y 0 ≡ get_or s y 0

-- one turn: its pieces are the same, where later turns have soft bytes only after its end
same_turn : (d : Bool) (t : Tree) (s s' : List ℕ) (a : ℕ) (h : Heard) → a ≤ length s → length s' ≡ length s
    → ((y : ℕ) → Before (run t s a) y → soft_heard d h y ≡ false)
    → ((y : ℕ) → a ≤ y → y < length s → soft (run t s a) y || soft_heard d h y ≡ false → get_or s' y 0 ≡ get_or s y 0)
    → run t s' a ≡ run t s a
same_turn d t s s' a h l same low agree =
    soft_run_at t s s' a l same (λ y g m b q. agree y g m (neither (soft (run t s a) y) (soft_heard d h y) q (low y b)))

-- what follows a turn is the same, where it is the same after every end
same_rest : (c : Bool) (o : Result ℕ) (k k' : ℕ → Heard) → ((e : ℕ) → o ≡ ok e → k' e ≡ k e) → if_ends c o k' ≡ if_ends c o k
same_rest c (ok e) k k' f = f e refl
same_rest c (refused which place stream) k k' f = refl

module _ (s s' u u' : List ℕ) (sizes : length s' ≡ length s) (sizeu : length u' ≡ length u) where
  pub same_hear : (x : Talk) (a b : ℕ) (r : Record) → a ≤ length s → b ≤ length u
      → Agree false (hear x s u a b r) s s' a → Agree true (hear x s u a b r) u u' b → hear x s' u' a b r ≡ hear x s u a b r
  unfolding hear soft_heard
  same_hear (turn false t k) a b r h g f f' =
      let p = run t s a in
      let q = record_of r p in
      let w = run_placed t s a h in
      let rest = if_ends false (skip_of p) (λ e. hear (k q e) s u e b q) in
      let same = same_turn false t s s' a rest h sizes
      (λ y o. rest_soft false false y (skip_of p) _ (λ e z. heard_low s u y false (k q e) e b q (ends e w z).1 g (o e z))) f in
      ap (λ (o : Pieces). heard false o (if_ends false (skip_of o) (λ e. hear (k (record_of r o) e) s' u' e b (record_of r o)))) same
      ∙ ap (heard false p)
      (same_rest false (skip_of p) (λ e. hear (k q e) s u e b q) (λ e. hear (k q e) s' u' e b q)
      (λ e z.
      let v = ends e w z in
      same_hear (k q e) e b q v.1 g
      (λ y l m o. f y (omega arith) m (neither (soft p y) _ (soft_high e y w z l) (rest_at false false y (skip_of p) _ e z o)))
      (λ y l m o. f' y l m (rest_at true false y (skip_of p) _ e z o))))
  same_hear (turn true t k) a b r h g f f' =
      let p = run t u b in
      let q = record_of r p in
      let w = run_placed t u b g in
      let rest = if_ends true (skip_of p) (λ e. hear (k q e) s u a e q) in
      let same = same_turn true t u u' b rest g sizeu
      (λ y o. rest_soft true true y (skip_of p) _ (λ e z. heard_low s u y true (k q e) a e q h (ends e w z).1 (o e z))) f' in
      ap (λ (o : Pieces). heard true o (if_ends true (skip_of o) (λ e. hear (k (record_of r o) e) s' u' a e (record_of r o)))) same
      ∙ ap (heard true p)
      (same_rest true (skip_of p) (λ e. hear (k q e) s u a e q) (λ e. hear (k q e) s' u' a e q)
      (λ e z.
      let v = ends e w z in
      same_hear (k q e) a e q h v.1
      (λ y l m o. f y l m (rest_at false true y (skip_of p) _ e z o))
      (λ y l m o. f' y (omega arith) m (neither (soft p y) _ (soft_high e y w z l) (rest_at true true y (skip_of p) _ e z o)))))
  same_hear (lost which place stream) a b r h g f f' = refl
  same_hear over a b r h g f f' = refl

-- both handshakes start at 0
pub soft_hear : (x : Talk) (r : Record) (s s' u u' : List ℕ) → SoftenedOn false (hear x s u 0 0 r) s s' → SoftenedOn true (hear x s u 0 0 r) u u'
    → hear x s' u' 0 0 r ≡ hear x s u 0 0 r
soft_hear x r s s' u u' f f' =
    same_hear s s' u u' f.size f'.size x 0 0 r (omega arith) (omega arith) (λ y l m o. f.hard y m o) (λ y l m o. f'.hard y m o)

-- a turn that is passed to its end
turn_passed : (d : Bool) (o : Result ℕ) (h : Result Both) (x : Both) → onward (on_stream d o) (λ e. h) ≡ ok x → (e : ℕ) × (o ≡ ok e) × (h ≡ ok x)
turn_passed d (ok e) h x q = (e, refl, q)
turn_passed d (refused which place stream) h x q = absurd (never_both q)

-- ---- where both streams are passed to the end
module _ (s u : List ℕ) (z : Both) where
  -- the end of a turn, and that what follows it is passed to the end
  passed_on : (d : Bool) (p : Pieces) (k : ℕ → Heard) → skip_heard (heard d p (if_ends d (skip_of p) k)) ≡ ok z → (e : ℕ) × (skip_of p ≡ ok e) × (skip_heard (k e) ≡ ok z)
  unfolding skip_heard
  passed_on d p k q =
      let w = turn_passed d (skip_of p) (skip_heard (if_ends d (skip_of p) k)) z q in
      (w.0, w.1, sym (ap (λ (o : Result ℕ). skip_heard (if_ends d o k)) w.1) ∙ w.2)

  -- the places are not behind the ends
  heard_ends : (x : Talk) (a b : ℕ) (r : Record) → a ≤ length s → b ≤ length u → skip_heard (hear x s u a b r) ≡ ok z → (a ≤ z.client_ends) × (b ≤ z.daemon_ends)
  unfolding hear skip_heard
  heard_ends (turn false t k) a b r h g q =
      let p = run t s a in
      let w = passed_on false p (λ e. hear (k (record_of r p) e) s u e b (record_of r p)) q in
      let v = ends w.0 (run_placed t s a h) w.1 in
      let y = heard_ends (k (record_of r p) w.0) w.0 b (record_of r p) v.1 g w.2 in
      (omega arith, y.1)
  heard_ends (turn true t k) a b r h g q =
      let p = run t u b in
      let w = passed_on true p (λ e. hear (k (record_of r p) e) s u a e (record_of r p)) q in
      let v = ends w.0 (run_placed t u b g) w.1 in
      let y = heard_ends (k (record_of r p) w.0) a w.0 (record_of r p) h v.1 w.2 in
      (y.0, omega arith)
  heard_ends (lost which place stream) a b r h g q = absurd (never_both q)
  heard_ends over a b r h g q = let c : a ≡ z.client_ends = cc in let d : b ≡ z.daemon_ends = cc in (omega arith, omega arith)

  -- from its end on a stream has no soft byte
  heard_high : (y : ℕ) (d : Bool) (x : Talk) (a b : ℕ) (r : Record) → a ≤ length s → b ≤ length u → skip_heard (hear x s u a b r) ≡ ok z
      → pick d z.daemon_ends z.client_ends ≤ y → soft_heard d (hear x s u a b r) y ≡ false
  unfolding hear skip_heard soft_heard
  heard_high y false (turn false t k) a b r h g q l =
      let p = run t s a in
      let next : ℕ → Heard = λ e. hear (k (record_of r p) e) s u e b (record_of r p) in
      let w = passed_on false p next q in
      let v = ends w.0 (run_placed t s a h) w.1 in
      let i = heard_ends (k (record_of r p) w.0) w.0 b (record_of r p) v.1 g w.2 in
      neither (soft p y) _ (soft_high w.0 y (run_placed t s a h) w.1 (omega arith))
      (rest_at false false y (skip_of p) next w.0 w.1 (heard_high y false (k (record_of r p) w.0) w.0 b (record_of r p) v.1 g w.2 l))
  heard_high y true (turn false t k) a b r h g q l =
      let p = run t s a in
      let next : ℕ → Heard = λ e. hear (k (record_of r p) e) s u e b (record_of r p) in
      let w = passed_on false p next q in
      let v = ends w.0 (run_placed t s a h) w.1 in
      rest_at true false y (skip_of p) next w.0 w.1 (heard_high y true (k (record_of r p) w.0) w.0 b (record_of r p) v.1 g w.2 l)
  heard_high y false (turn true t k) a b r h g q l =
      let p = run t u b in
      let next : ℕ → Heard = λ e. hear (k (record_of r p) e) s u a e (record_of r p) in
      let w = passed_on true p next q in
      let v = ends w.0 (run_placed t u b g) w.1 in
      rest_at false true y (skip_of p) next w.0 w.1 (heard_high y false (k (record_of r p) w.0) a w.0 (record_of r p) h v.1 w.2 l)
  heard_high y true (turn true t k) a b r h g q l =
      let p = run t u b in
      let next : ℕ → Heard = λ e. hear (k (record_of r p) e) s u a e (record_of r p) in
      let w = passed_on true p next q in
      let v = ends w.0 (run_placed t u b g) w.1 in
      let i = heard_ends (k (record_of r p) w.0) a w.0 (record_of r p) h v.1 w.2 in
      neither (soft p y) _ (soft_high w.0 y (run_placed t u b g) w.1 (omega arith))
      (rest_at true true y (skip_of p) next w.0 w.1 (heard_high y true (k (record_of r p) w.0) a w.0 (record_of r p) h v.1 w.2 l))
  heard_high y d (lost which place stream) a b r h g q l = refl
  heard_high y d over a b r h g q l = refl

-- what follows on a stream is as before
pub soft_heard_client : (x : Talk) (r : Record) (s s' u : List ℕ) → SoftenedOn false (hear x s u 0 0 r) s s' → (z : Both) → skip_heard (hear x s u 0 0 r) ≡ ok z
    → drop z.client_ends s' ≡ drop z.client_ends s
soft_heard_client x r s s' u f z q =
    same_drop s s' z.client_ends f.size (λ y g l. f.hard y l (heard_high s u z y false x 0 0 r (omega arith) (omega arith) q g))

pub soft_heard_daemon : (x : Talk) (r : Record) (s u u' : List ℕ) → SoftenedOn true (hear x s u 0 0 r) u u' → (z : Both) → skip_heard (hear x s u 0 0 r) ≡ ok z
    → drop z.daemon_ends u' ≡ drop z.daemon_ends u
soft_heard_daemon x r s u u' f z q =
    same_drop u u' z.daemon_ends f.size (λ y g l. f.hard y l (heard_high s u z y true x 0 0 r (omega arith) (omega arith) q g))

-- ---- reading, with room
or_on_lem : {A : Type 0} (d b : Bool) (x : ℕ) (o : Result Ended) (k : Ended → Result A) (v : Result (Unit {0})) (a : Result A) → onward (on_stream d o) k ≡ or_on d v a
    → onward (on_stream d (pick b (refused bad_text x 0) o)) k ≡ or_on d (pick b (refused bad_text x 0) v) a
or_on_lem d true x o k v a e = refl
or_on_lem d false x o k v a e = e

unless_on : {A : Type 0} (d : Bool) (s : List ℕ) (p : Pieces) (x : Ended) (k : Ended → Result A)
    → onward (on_stream d (unless_bad s p (ok x))) k ≡ or_on d (unless_bad s p (ok tt)) (k x)
unfolding unless_bad
unless_on d s (number i place n p) x k = unless_on d s p x k
unless_on d s (text m start len p) x k = or_on_lem d (not_text s m start len) (text_end s start len) (unless_bad s p (ok x)) k (unless_bad s p (ok tt)) (k x) (unless_on d s p x k)
unless_on d s (half m start len) x k = or_on_lem d (not_text s m start len) (text_end s start len) (ok x) k (ok tt) (k x) refl
unless_on d s (chunk start len p) x k = unless_on d s p x k
unless_on d s (end place) x k = refl
unless_on d s (fault which place) x k = refl

unfoldable pub total_heard : Heard → ℕ
total_heard (heard d p h) = total_of p + total_heard h
total_heard (failed which place stream) = 0
total_heard (ended a b) = 0

-- the places of both ends, with another record
abbrev pub with_found : Record → Both → Both
with_found r x = record { found = r; client_ends = x.client_ends; daemon_ends = x.daemon_ends }

pub heard_room : (s u : List ℕ) (slots : ℕ) (r : Record) (h : Heard) (x : Both) → skip_heard h ≡ ok x → r.entries + kept_heard h ≤ slots
    → r.payload + total_heard h ≤ 0 → judge_heard s u slots r h ≡ unless_heard s u h (ok (with_found (record_heard r h) x))
unfolding judge_heard skip_heard kept_heard total_heard record_heard unless_heard
heard_room s u slots r (heard d p h) x q l m =
    let z = turn_passed d (skip_of p) (skip_heard h) x q in
    let a = record_room r p in
    let j = judge_room (pick d u s) slots 0 r p z.0 z.1 (omega arith) (omega arith) in
    ap (λ (o : Result Ended). onward (on_stream d o) (λ e. judge_heard s u slots e.found h)) j
    ∙ unless_on d (pick d u s) p (record { found = record_of r p; ends = z.0 }) (λ e. judge_heard s u slots e.found h)
    ∙ ap (or_on d (unless_bad (pick d u s) p (ok tt))) (heard_room s u slots (record_of r p) h x z.2 (omega arith) (omega arith))
heard_room s u slots r (failed which place stream) x q l m = absurd (never_both q)
heard_room s u slots r (ended a b) x q l m =
    let z : record { found = blank; client_ends = a; daemon_ends = b } ≡ x = cc in ap (λ (y : Both). ok (with_found r y)) z

-- ---- the tree of every turn is such, and what the talk itself refuses has a number
pub data EachTurn (P : Tree → Type 0) : Talk → Type 0 where
  at_turn : {d : Bool} {t : Tree} {k : Record → ℕ → Talk} → P t → ((r : Record) (e : ℕ) → EachTurn P (k r e)) → EachTurn P (turn d t k)
  at_lost : {which place stream : ℕ} → 0 < which → EachTurn P (lost which place stream)
  at_over : EachTurn P over

-- so it is of both handshakes, which have no framed data
module _ (P : Tree → Type 0) (f : (v : Version) (is : List Gated) → AllFit ⊥ is → P (fields_at v is)) where
  either : (b : Bool) {x y : Talk} → EachTurn P x → EachTurn P y → EachTurn P (pick b x y)
  either true g h = g
  either false g h = h

  hello_fits : (magic wire : ℕ) → P (hello magic wire)
  hello_fits magic wire = f (version 0 0) (N magic ∷ N wire ∷ []) (tt, (tt, tt))

  info_turns : (v : Version) → EachTurn P (daemon_info v)
  unfolding daemon_info
  info_turns v = at_turn (f v info_fields (tt, (tt, (tt, tt)))) (λ r e. either (eqb (number_in r 5) Last) at_over (at_lost {which = not_last} (omega arith)))

  pub handshake_turns : EachTurn P handshake
  unfolding handshake greeting
  handshake_turns =
      at_turn (hello_fits 0 1) λ r e.
      at_turn (hello_fits 2 3) λ r e.
      either (eqb (number_in r 0) client_magic)
      (either (eqb (number_in r 2) daemon_magic)
      (at_turn (f _ (feature_fields 0) (tt, tt)) λ r e.
      at_turn (f _ (feature_fields 1) (tt, tt)) λ r e.
      at_turn (f _ obsolete_fields (tt, (tt, tt))) λ r e. info_turns _)
      (at_lost {which = daemon_magic_wrong} (omega arith)))
      (at_lost {which = client_magic_wrong} (omega arith))

  pub daemon_turns : (c : Version) → EachTurn P (daemon_handshake c)
  unfolding daemon_handshake daemon_greeting
  daemon_turns c =
      at_turn (hello_fits 2 3) λ r e.
      either (eqb (number_in r 2) daemon_magic) (at_turn (f _ (feature_fields 1) (tt, tt)) λ r e. info_turns _) (at_lost {which = daemon_magic_wrong} (omega arith))

-- ---- no turn of a handshake has a payload
abbrev NoPayload : Tree → Type 0
NoPayload t = (s : List ℕ) (at : ℕ) → total_of (run t s at) ≡ 0

rest_payload : (c : Bool) (o : Result ℕ) (k : ℕ → Heard) → ((e : ℕ) → total_heard (k e) ≡ 0) → total_heard (if_ends c o k) ≡ 0
unfolding total_heard
rest_payload c (ok e) k f = f e
rest_payload c (refused which place stream) k f = refl

hear_payload : {x : Talk} → EachTurn NoPayload x → (s u : List ℕ) (a b : ℕ) (r : Record) → total_heard (hear x s u a b r) ≡ 0
unfolding hear total_heard
hear_payload (at_turn {d = false} {t} {k} f g) s u a b r =
    let q = record_of r (run t s a) in
    simp (f s a, zero-add) (rest_payload false (skip_of (run t s a)) (λ e. hear (k q e) s u e b q) (λ e. hear_payload (g q e) s u e b q))
hear_payload (at_turn {d = true} {t} {k} f g) s u a b r =
    let q = record_of r (run t u b) in
    simp (f u b, zero-add) (rest_payload true (skip_of (run t u b)) (λ e. hear (k q e) s u a e q) (λ e. hear_payload (g q e) s u a e q))
hear_payload (at_lost h) s u a b r = refl
hear_payload at_over s u a b r = refl

-- ---- no refusal of a handshake has number 0
on_stream_numbered : {A : Type 0} (d : Bool) (o : Result A) → Numbered o → Numbered (on_stream d o)
on_stream_numbered d (ok a) h = h
on_stream_numbered d (refused which place stream) h = h

module _ (s u : List ℕ) (slots : ℕ) where
  rest_numbered : (d : Bool) (o : Result ℕ) (k : ℕ → Heard) (r : Record) → Numbered o → ((e : ℕ) → Numbered (judge_heard s u slots r (k e))) → Numbered (judge_heard s u slots r (if_ends d o k))
  unfolding judge_heard
  rest_numbered d (ok e) k r h g = g e
  rest_numbered d (refused which place stream) k r h g = h

  hear_numbered : {x : Talk} → EachTurn FailsBy15 x → (a b : ℕ) (r q : Record) → Numbered (judge_heard s u slots q (hear x s u a b r))
  unfolding hear judge_heard
  hear_numbered (at_turn {d = false} {t} {k} f g) a b r q =
      let p = run t s a in
      let n = run_numbered s t a f in
      onward_numbered (on_stream false (judge_of s slots 0 q p)) _ (on_stream_numbered false (judge_of s slots 0 q p) (judge_numbered s slots 0 q p n))
      (λ z. rest_numbered false (skip_of p) _ z.found n (λ e. hear_numbered (g (record_of r p) e) e b (record_of r p) z.found))
  hear_numbered (at_turn {d = true} {t} {k} f g) a b r q =
      let p = run t u b in
      let n = run_numbered u t b f in
      onward_numbered (on_stream true (judge_of u slots 0 q p)) _ (on_stream_numbered true (judge_of u slots 0 q p) (judge_numbered u slots 0 q p n))
      (λ z. rest_numbered true (skip_of p) _ z.found n (λ e. hear_numbered (g (record_of r p) e) a e (record_of r p) z.found))
  hear_numbered (at_lost h) a b r q = h
  hear_numbered at_over a b r q = tt

turn_fails_by_15 : (v : Version) (is : List Gated) → AllFit ⊥ is → FailsBy15 (fields_at v is)
turn_fails_by_15 v is f = layout_fails_by_15 v (once is ∷ [])

pub handshake_numbered : (s u : List ℕ) (slots : ℕ) → Numbered (parse_handshake s u slots)
unfolding parse_handshake
handshake_numbered s u slots = onward_numbered (judge_heard s u slots blank _) _ (hear_numbered s u slots (handshake_turns FailsBy15 turn_fails_by_15) 0 0 blank blank) (λ x. tt)

pub daemon_handshake_numbered : (c : Version) (u : List ℕ) (slots : ℕ) → Numbered (parse_daemon_handshake c u slots)
unfolding parse_daemon_handshake
daemon_handshake_numbered c u slots = onward_numbered (judge_heard [] u slots blank _) _ (hear_numbered [] u slots (daemon_turns FailsBy15 turn_fails_by_15 c) 0 0 blank blank) (λ x. tt)

-- ---- what `unless_heard` says, in RFC 3629's words
module _ {A : Type 0} (s u : List ℕ) where
  turn_verdict : {d : Bool} {p : Pieces} {h : Heard} {o a : Result A} {v : Result (Unit {0})} → Verdict (pick d u s) p (ok tt) v → VerdictHeard s u h o a
      → VerdictHeard s u (heard d p h) o (or_on d v a)
  turn_verdict (all_text f) (all_heard g) = all_heard (f, g)
  turn_verdict (all_text f) (first_heard g) = first_heard (after_turn f g)
  turn_verdict (first_bad f) w = first_heard (in_turn f)

  -- every decoded string is text and the answer is as given, or 3 in the first that is not, on its stream
  pub unless_heard_lem : (h : Heard) (o : Result A) → VerdictHeard s u h o (unless_heard s u h o)
  unfolding unless_heard
  unless_heard_lem (heard d p h) o = turn_verdict (unless_bad_lem (pick d u s) p (ok tt)) (unless_heard_lem h o)
  unless_heard_lem (failed which place stream) o = all_heard tt
  unless_heard_lem (ended a b) o = all_heard tt

-- an answer is built from what was judged, unless a text was bad
or_on_answered : {A B : Type 0} (d : Bool) (v : Result (Unit {0})) (o : Result A) (o' : Result B) (k : A → Result B) → onward o k ≡ o' → onward (or_on d v o) k ≡ or_on d v o'
or_on_answered d (ok x) o o' k e = e
or_on_answered d (refused which place stream) o o' k e = refl

heard_answered : {A B : Type 0} (s u : List ℕ) (h : Heard) (x : A) (k : A → Result B) → onward (unless_heard s u h (ok x)) k ≡ unless_heard s u h (k x)
unfolding unless_heard
heard_answered s u (heard d p h) x k =
    or_on_answered d (unless_bad (pick d u s) p (ok tt)) (unless_heard s u h (ok x)) (unless_heard s u h (k x)) k (heard_answered s u h x k)
heard_answered s u (failed which place stream) x k = refl
heard_answered s u (ended a b) x k = refl

-- ---- demand 3 for both handshakes: where both streams are passed to the end, and with room for all entries, streams that differ in soft bytes only are read
-- the same, unless a decoded string is not text: then 3 in the first such one, on its stream
module _ (x : Talk) (f : EachTurn NoPayload x) (s s' u u' : List ℕ) (a : SoftenedOn false (hear x s u 0 0 blank) s s') (b : SoftenedOn true (hear x s u 0 0 blank) u u')
    (slots : ℕ) (e : Both) (q : skip_heard (hear x s u 0 0 blank) ≡ ok e) (l : kept_heard (hear x s u 0 0 blank) ≤ slots) where
  soft_judge : {A : Type 0} (k : Both → Result A) → onward (judge_heard s' u' slots blank (hear x s' u' 0 0 blank)) k
      ≡ unless_heard s' u' (hear x s u 0 0 blank) (k (both_mean (hear x s u 0 0 blank) e))
  soft_judge k =
      let z = hear_payload f s u 0 0 blank in
      ap (λ (h : Heard). onward (judge_heard s' u' slots blank h) k) (soft_hear x blank s s' u u' a b)
      ∙ ap (λ (o : Result Both). onward o k) (heard_room s' u' slots blank (hear x s u 0 0 blank) e q (omega arith) (omega arith))
      ∙ heard_answered s' u' (hear x s u 0 0 blank) (both_mean (hear x s u 0 0 blank) e) k

module _ (s s' u u' : List ℕ) (a : SoftenedOn false (hear handshake s u 0 0 blank) s s') (b : SoftenedOn true (hear handshake s u 0 0 blank) u u') (e : Both)
    (q : skip_heard (hear handshake s u 0 0 blank) ≡ ok e) where
  -- both sides
  pub soft_handshake : (slots : ℕ) → kept_heard (hear handshake s u 0 0 blank) ≤ slots
      → parse_handshake s' u' slots ≡ unless_heard s' u' (hear handshake s u 0 0 blank) (handshake_meaning (hear handshake s u 0 0 blank) e)
  unfolding parse_handshake
  soft_handshake slots l = soft_judge handshake (handshake_turns NoPayload no_payload) s s' u u' a b slots e q l (λ x. handshake_answer (from_wire (number_in x.found 1)) x)

  -- what follows on both streams is as before
  pub soft_rest_handshake : (drop e.client_ends s' ≡ drop e.client_ends s) × (drop e.daemon_ends u' ≡ drop e.daemon_ends u)
  soft_rest_handshake = (soft_heard_client handshake blank s s' u a e q, soft_heard_daemon handshake blank s u u' b e q)

module _ (c : Version) (u u' : List ℕ) (b : SoftenedOn true (hear (daemon_handshake c) [] u 0 0 blank) u u') (e : Both)
    (q : skip_heard (hear (daemon_handshake c) [] u 0 0 blank) ≡ ok e) where
  -- the daemon's side alone
  pub soft_daemon_handshake : (slots : ℕ) → kept_heard (hear (daemon_handshake c) [] u 0 0 blank) ≤ slots
      → parse_daemon_handshake c u' slots ≡ unless_heard [] u' (hear (daemon_handshake c) [] u 0 0 blank) (daemon_meaning c (hear (daemon_handshake c) [] u 0 0 blank) e)
  unfolding parse_daemon_handshake
  soft_daemon_handshake slots l =
      soft_judge (daemon_handshake c) (daemon_turns NoPayload no_payload c) [] [] u u' (record { size = refl; hard = λ x h o. refl }) b slots e q l (λ x. handshake_answer c x)

  -- what follows is as before
  pub soft_rest_daemon_handshake : drop e.daemon_ends u' ≡ drop e.daemon_ends u
  soft_rest_daemon_handshake = soft_heard_daemon (daemon_handshake c) blank [] u u' b e q
