-- Bytes are read to the end of a tree, or what comes next is at fault: no other way is left.
use Prim.Native.Nat.{ℕ, zero, suc, ◌+◌, ◌≤◌, ◌<◌}
use mathlib.Core.Path.{◌≡◌, refl, sym, ◌∙◌, ap}
use mathlib.Core.List.{List, [], ◌++◌, append_assoc}
use mathlib.Core.Bool.{Bool, true, false}
use lib.ListN.{length, take, drop, length-append, take-append-drop}
use lib.Seq.{length-take-le, get_or-drop}
use native.Mathlib.Omega.{arith}
use native.Mathlib.Decide.{dec_le}
use Rattle.text.specs.Rfc3629.{Text, IllFormedAt}
use Rattle.text.specs.Prefix.{good_prefix, is_text}
use Rattle.text.proofs.Meaning.{is_text_lem, ill_formed}
use Rattle.layouts.specs.declared.Record.{Record}
use Rattle.layouts.specs.Primitive.{number_at, number_bytes, limit, pad_of, no_entry_room}
use Rattle.layouts.specs.Shape.{Target, Role, passed, checked, kept, Tree, ask, say, frames, fail, stop}
use Rattle.layouts.specs.Record.{noted, is_kept, entered, with_payload}
use Rattle.layouts.specs.Judge.{is_decoded}
use Rattle.layouts.specs.Refusals.{Reads, reads_none, reads_number, reads_text, reads_chunk, reads_last, a_number, a_length, contents, padding, a_size, a_chunk, a_string_lem, chunks, Fault, cut, too_long_there, bad_text_lem, no_slot, no_room, fails, Answers, Refuses}
use Rattle.layouts.specs.Demands.{Bytes}
use Rattle.layouts.proofs.Little.{number_small, bytes_of_number, length_number}
use Rattle.layouts.proofs.Theorems.{never_true}

-- bytes begin with a number, or with a part of some length
number_there : (u : List ℕ) → Bytes u → 8 ≤ length u → (n : ℕ) × (v : List ℕ) × (u ≡ number_bytes n ++ v) × (n < 18446744073709551616) × Bytes v
number_there u h l = (number_at u 0, drop 8 u, bytes_of_number u h l, number_small u 0 h, λ x. rw get_or-drop (h (8 + x)))

part_there : (n : ℕ) (u : List ℕ) → Bytes u → n ≤ length u → (c : List ℕ) × (v : List ℕ) × (u ≡ c ++ v) × (length c ≡ n) × Bytes v
part_there n u h l = (take n u, drop n u, sym (take-append-drop n u), length-take-le n u l, λ x. rw get_or-drop (h (n + x)))

-- contents need be no text, or are text; or they are bad
data Judgement (m : Role) (c : List ℕ) : Type 0 where
  is_fine_lem : (is_decoded m ≡ true → Text c) → Judgement m c
  is_bad : (n : ℕ) → is_decoded m ≡ true → IllFormedAt n c → Judgement m c

judgement : (m : Role) (c : List ℕ) → Judgement m c
judgement m c = by (is_decoded m) (is_text c) refl refl
  where
    by : (b d : Bool) → is_decoded m ≡ b → is_text c ≡ d → Judgement m c
    by true true e q = is_fine_lem (λ d. is_text_lem c q)
    by true false e q = is_bad (good_prefix c) e (ill_formed c q)
    by false d e q = is_fine_lem (λ p. absurd (never_true (sym e ∙ p)))

-- a string needs no slot, or has one; or there is none
data Slots (m : Role) (slots n : ℕ) : Type 0 where
  has_slot : (is_kept m ≡ true → n < slots) → Slots m slots n
  has_none : is_kept m ≡ true → slots ≤ n → Slots m slots n

slots_left : (m : Role) (slots n : ℕ) → Slots m slots n
slots_left m slots n = by (is_kept m) (dec_le slots n) refl
  where
    by : (b : Bool) → Dec (slots ≤ n) → is_kept m ≡ b → Slots m slots n
    by true (yes h) e = has_none e h
    by true (no h) e = has_slot (λ p. omega arith)
    by false (yes h) e = has_slot (λ p. absurd (never_true (sym e ∙ p)))
    by false (no h) e = has_slot (λ p. absurd (never_true (sym e ∙ p)))

module _ (slots room : ℕ) where
  pub data Outcome (t : Tree) (at : ℕ) (r : Record) (u : List ℕ) : Type 0 where
    answers : (found : Record) (ends : ℕ) → Answers slots room t at r u found ends → Outcome t at r u
    refuses : (which place : ℕ) → Refuses slots room t at r u which place → Outcome t at r u

  faulty : (t : Tree) (at : ℕ) (r : Record) (u : List ℕ) {which place : ℕ} → Fault slots room t at r u which place → Outcome t at r u
  faulty t at r u {which} {place} f =
      refuses which place (record { these = []; others = u; rest = t; next = at; sofar = r; splits = refl; reads = reads_none t at r; faults = f })

  -- a node's own bytes, before those of what follows
  before : {t t' : Tree} {at at' : ℕ} {r r' : Record} {u : List ℕ} (own v : List ℕ) → u ≡ own ++ v
      → ((b : List ℕ) (rest : Tree) (e : ℕ) (q : Record) → Reads slots room t' at' r' b rest e q → Reads slots room t at r (own ++ b) rest e q)
      → Outcome t' at' r' v → Outcome t at r u
  before own v d g (answers found ends y) =
      answers found ends
      (record {
        these = own ++ y.these;
        others = y.others;
        splits = simp append_assoc (d ∙ ap (λ (o : List ℕ). own ++ o) y.splits);
        reads = g y.these stop ends found y.reads;
      })
  before own v d g (refuses which place y) =
      refuses which place
      (record {
        these = own ++ y.these;
        others = y.others;
        rest = y.rest;
        next = y.next;
        sofar = y.sofar;
        splits = simp append_assoc (d ∙ ap (λ (o : List ℕ). own ++ o) y.splits);
        reads = g y.these y.rest y.next y.sofar y.reads;
        faults = y.faults;
      })

  module _ (i : Target) (k : ℕ → Tree) (at : ℕ) (r : Record) where
    number_outcome : (u : List ℕ) → Bytes u → ((n : ℕ) (v : List ℕ) → Bytes v → Outcome (k n) (at + 8) (noted r i n) v) → Outcome (ask i k) at r u
    number_outcome u h f = by (dec_le 8 (length u))
      where
        by : Dec (8 ≤ length u) → Outcome (ask i k) at r u
        by (no l) = faulty (ask i k) at r u (cut (ask i k) at 0 8 r u (a_number i k u) (omega arith))
        by (yes l) =
            let x = number_there u h l in
            before (number_bytes x.0) x.1 x.2 (λ b t e q y. reads_number i x.0 at e k t b r q x.3 y) (f x.0 x.1 x.4)

  module _ (m : Role) (k : Unit {0} → Tree) (at : ℕ) (r : Record) (next : (at : ℕ) (r : Record) (v : List ℕ) → Bytes v → Outcome (k tt) at r v) where
    -- a string that is all there
    whole_outcome : (c pad v : List ℕ) → Bytes v → length c ≤ limit → length pad ≡ pad_of (length c) → (is_decoded m ≡ true → Text c) → Slots m slots r.entries
        → Outcome (say m k) at r (number_bytes (length c) ++ (c ++ (pad ++ v)))
    whole_outcome c pad v h l g f (has_slot q) =
        before (number_bytes (length c) ++ (c ++ pad)) v (simp append_assoc) (λ b t e o y. simp append_assoc (reads_text m at e k t c pad b r o l g f q y))
        (next (at + 8 + length c + pad_of (length c)) (entered r m) v h)
    whole_outcome c pad v h l g f (has_none p q) = faulty (say m k) at r _ (slot_fault m p f)
      where
        slot_fault : (m : Role) → is_kept m ≡ true → (is_decoded m ≡ true → Text c)
            → Fault slots room (say m k) at r (number_bytes (length c) ++ (c ++ (pad ++ v))) no_entry_room at
        slot_fault passed e f = absurd (never_true e)
        slot_fault checked e f = absurd (never_true e)
        slot_fault kept e f = no_slot at k r c pad v l g (f refl) q

    -- its contents are there
    contents_outcome : (c v : List ℕ) → Bytes v → length c ≤ limit → Outcome (say m k) at r (number_bytes (length c) ++ (c ++ v))
    contents_outcome c v h l = by (judgement m c) (dec_le (pad_of (length c)) (length v))
      where
        u : List ℕ
        u = number_bytes (length c) ++ (c ++ v)

        by : Judgement m c → Dec (pad_of (length c) ≤ length v) → Outcome (say m k) at r u
        by (is_bad n d f) p = faulty (say m k) at r u (bad_text_lem m at n k r c v l d f)
        by (is_fine_lem f) (no p) =
            faulty (say m k) at r u
            (cut (say m k) at (8 + length c) _ r u (padding m k c v l f) (simp (length-append, length_number) (omega arith)))
        by (is_fine_lem f) (yes p) =
            let x = part_there (pad_of (length c)) v h p in
            rw x.2 (whole_outcome c x.0 x.1 x.4 l x.3 f (slots_left m slots r.entries))

    -- its length is there
    length_outcome : (n : ℕ) (v : List ℕ) → Bytes v → n < 18446744073709551616 → Outcome (say m k) at r (number_bytes n ++ v)
    length_outcome n v h g = by (dec_le n limit) (dec_le n (length v))
      where
        with_part : (c w : List ℕ) → v ≡ c ++ w → length c ≡ n → Bytes w → n ≤ limit → Outcome (say m k) at r (number_bytes n ++ v)
        with_part c w e q b l = rw (e, ← q) (contents_outcome c w b (omega arith))

        by : Dec (n ≤ limit) → Dec (n ≤ length v) → Outcome (say m k) at r (number_bytes n ++ v)
        by (no l) p = faulty (say m k) at r _ (too_long_there (say m k) at n r v (a_string_lem m k) (omega arith) g)
        by (yes l) (no p) =
            faulty (say m k) at r _ (cut (say m k) at 8 n r (number_bytes n ++ v) (contents m k n v l) (simp (length-append, length_number) (omega arith)))
        by (yes l) (yes p) =
            let x = part_there n v h p in
            with_part x.0 x.1 x.2 x.3 x.4 l

    string_outcome : (u : List ℕ) → Bytes u → Outcome (say m k) at r u
    string_outcome u h = by (dec_le 8 (length u))
      where
        by : Dec (8 ≤ length u) → Outcome (say m k) at r u
        by (no l) = faulty (say m k) at r u (cut (say m k) at 0 8 r u (a_length m k u) (omega arith))
        by (yes l) = let x = number_there u h l in rw x.2 (length_outcome x.0 x.1 x.4 x.3)

  module _ (k : Unit {0} → Tree) (next : (at : ℕ) (r : Record) (v : List ℕ) → Bytes v → Outcome (k tt) at r v) where
    -- a chunk that is all there
    chunk_outcome : (at : ℕ) (r : Record) (c v : List ℕ) → Bytes v → 0 < length c → length c ≤ limit
        → ((at : ℕ) (r : Record) → Outcome (frames k) at r v) → Outcome (frames k) at r (number_bytes (length c) ++ (c ++ v))
    chunk_outcome at r c v h o l again = by (dec_le (r.payload + length c) room)
      where
        by : Dec (r.payload + length c ≤ room) → Outcome (frames k) at r (number_bytes (length c) ++ (c ++ v))
        by (no p) = faulty (frames k) at r _ (no_room at k r c v o l (omega arith))
        by (yes p) =
            before (number_bytes (length c) ++ c) v (simp append_assoc) (λ b t e q y. simp append_assoc (reads_chunk at e k t c b r q o l p y))
            (again (at + 8 + length c) (with_payload r (r.payload + length c)))

    -- its length is there
    size_outcome : (at : ℕ) (r : Record) (n : ℕ) (v : List ℕ) → Bytes v → n < 18446744073709551616
        → ((at : ℕ) (r : Record) (w : List ℕ) → Bytes w → length w ≤ length v → Outcome (frames k) at r w) → Outcome (frames k) at r (number_bytes n ++ v)
    size_outcome at r n v h g again = by (dec_le n 0) (dec_le n limit) (dec_le n (length v))
      where
        with_part : (c w : List ℕ) → v ≡ c ++ w → length c ≡ n → Bytes w → 0 < n → n ≤ limit → Outcome (frames k) at r (number_bytes n ++ v)
        with_part c w e q b o l =
            let z = simp length-append at (ap length e) in
            rw (e, ← q) (chunk_outcome at r c w b (omega arith) (omega arith) (λ at r. again at r w b (omega arith)))

        by : Dec (n ≤ 0) → Dec (n ≤ limit) → Dec (n ≤ length v) → Outcome (frames k) at r (number_bytes n ++ v)
        by (yes z) l p =
            let e : n ≡ 0 = omega arith in
            rw e (before (number_bytes 0) v refl (λ b t e q y. reads_last at e k t b r q y) (next (at + 8) r v h))
        by (no z) (no l) p = faulty (frames k) at r _ (too_long_there (frames k) at n r v (chunks k) (omega arith) g)
        by (no z) (yes l) (no p) =
            faulty (frames k) at r _
            (cut (frames k) at 8 n r (number_bytes n ++ v) (a_chunk k n v (omega arith) l) (simp (length-append, length_number) (omega arith)))
        by (no z) (yes l) (yes p) =
            let x = part_there n v h p in
            with_part x.0 x.1 x.2 x.3 x.4 (omega arith) l

    frames_outcome : (f at : ℕ) (r : Record) (u : List ℕ) → Bytes u → length u < f → Outcome (frames k) at r u
    frames_outcome zero at r u h l = absurd (omega arith)
    frames_outcome (suc f) at r u h l = by (dec_le 8 (length u)) (λ at r v b g. frames_outcome f at r v b g)
      where
        by : Dec (8 ≤ length u) → ((at : ℕ) (r : Record) (v : List ℕ) → Bytes v → length v < f → Outcome (frames k) at r v) → Outcome (frames k) at r u
        by (no g) again = faulty (frames k) at r u (cut (frames k) at 0 8 r u (a_size k u) (omega arith))
        by (yes g) again =
            let x = number_there u h g in
            let z = simp (length-append, length_number) at (ap length x.2) in
            rw x.2 (size_outcome at r x.0 x.1 x.4 x.3 (λ at r w b m. again at r w b (omega arith)))

  pub outcome : (t : Tree) (at : ℕ) (r : Record) (u : List ℕ) → Bytes u → Outcome t at r u
  outcome (ask i k) at r u h = number_outcome i k at r u h (λ n v b. outcome (k n) (at + 8) (noted r i n) v b)
  outcome (say m k) at r u h = string_outcome m k at r (λ at r v b. outcome (k tt) at r v b) u h
  outcome (frames k) at r u h = frames_outcome k (λ at r v b. outcome (k tt) at r v b) (suc (length u)) at r u h (omega arith)
  outcome (fail which back) at r u h = faulty (fail which back) at r u (fails which back at r u)
  outcome stop at r u h =
      answers r at (record { these = []; others = u; splits = refl; reads = reads_none stop at r })
