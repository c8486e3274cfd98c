-- The fields of a call, one by one and in a row: what is written of them, the grammar has, and it reads back.
use Prim.Native.Nat.{ℕ, zero, suc, ◌+◌, ◌*◌, ◌≤◌, ◌<◌}
use mathlib.Core.Path.{◌≡◌, refl, sym, ◌∙◌, ap}
use mathlib.Core.List.{List, [], ◌∷◌, ◌++◌, append_assoc}
use mathlib.Core.Bool.{Bool, true, false}
use lib.ListN.{length, get_or, take, drop, replicate, length-append, length-drop, length-take, length-replicate, length-set, take-append-drop}
use lib.ListN as ListN
use lib.Seq.{take-append_seam, set-append_left, get_or-set_same, get_or-set_other}
use lib.Dec.{ltb, leb, eqb}
use borrow.Author.Tests.{ltb-true, eqb-true, eqb-false, lt-ltb, le-leb, lt-leb}
use native.Mathlib.Omega.{arith}
use native.Mathlib.Nat.{add-zero, zero-add}
use Rattle.text.proofs.Meaning.{text_is}
use Rattle.layouts.specs.declared.Record.{Record}
use Rattle.layouts.specs.Primitive.{pick, number_bytes, limit, pad_of, Version, Result, ok}
use Rattle.layouts.specs.Shape.{Target, dropped, as_number, as_flag, as_count, as_presence, kept, What, num, str, set, pairs, framed, maybe, typed, position, Gated, Tree, ask, say, frames, strings, units, field, there, what, gated, fields, truth}
use Rattle.layouts.specs.Pieces.{Pieces, number, text, chunk}
use Rattle.layouts.specs.Record.{with_entries, with_payload, noted, entered}
use Rattle.layouts.specs.Judge.{Ended, not_text, text_taken, chunk_taken, judge_of, entries_of, payload_of}
use Rattle.layouts.specs.Grammar.{Says, says_number, says_text, says_chunk, says_last}
use Rattle.layouts.specs.Writers.{string_bytes, strings_bytes, chunks_bytes, framed_bytes, text_at, texts_from}
use Rattle.layouts.specs.Demands.{Strings}
use Rattle.layouts.specs.CallWriter.{fields_there, value_for, target_in, leave, is_framed, strings_in, field_bytes}
use Rattle.layouts.proofs.Little.{length_number}
use Rattle.layouts.proofs.Exact.{past}
use Rattle.layouts.proofs.Judge.{noted_room}
use Rattle.layouts.proofs.Theorems.{never_true}
use Rattle.layouts.proofs.RoundTrip.{first_at, view_at}
use Rattle.layouts_calls.proofs.Writable.{in_record, Writable, a_number, a_string_lem, a_set_lem, some_pairs, framed_data_lem}

-- ---- the fields that are there, as a tree
unfoldable pub fields_tree : List What → (Unit {0} → Tree) → Tree
fields_tree [] k = k tt
fields_tree (w ∷ ws) k = field w (λ u. fields_tree ws k)

pub fields_there_lem : (v : Version) (xs : List Gated) (k : Unit {0} → Tree) → fields v xs k ≡ fields_tree (fields_there v xs) k
unfolding fields gated fields_there fields_tree
fields_there_lem v [] k = refl
fields_there_lem v (x ∷ xs) k = by (there v x) (fields_there_lem v xs k)
  where
    by : (b : Bool) → fields v xs k ≡ fields_tree (fields_there v xs) k
        → gated b (what x) (λ u. fields v xs k) ≡ fields_tree (pick b (what x ∷ fields_there v xs) (fields_there v xs)) k
    by true h = ap (λ (t : Tree). field (what x) (λ u. t)) h
    by false h = h

-- ---- the pieces of what is written, before those of what follows
unfoldable pub texts_then : (at : ℕ) → List (List ℕ) → Pieces → Pieces
texts_then at [] q = q
texts_then at (c ∷ cs) q = text kept (at + 8) (length c) (texts_then (at + 8 + length c + pad_of (length c)) cs q)

unfoldable pub chunks_then : ℕ → (at : ℕ) → List ℕ → Pieces → Pieces
chunks_then zero at c q = q
chunks_then (suc f) at [] q = q
chunks_then (suc f) at (b ∷ c) q =
    chunk (at + 8) (length (take 32768 (b ∷ c))) (chunks_then f (at + 8 + length (take 32768 (b ∷ c))) (drop 32768 (b ∷ c)) q)

says_texts : (cs : List (List ℕ)) (at last : ℕ) (k : Unit {0} → Tree) (b : List ℕ) (q : Pieces) → Strings cs → at + length (strings_bytes cs) ≡ last
    → Says (k tt) last b q → Says (strings kept (length cs) k) at (strings_bytes cs ++ b) (texts_then at cs q)
unfolding strings strings_bytes string_bytes texts_then
says_texts [] at last k b q g l y = rw (sym (add-zero at) ∙ l) y
says_texts (c ∷ cs) at last k b q g l y =
    let n = length c in
    let l' = simp (length-append, length_number, length-replicate) at l in
    simp append_assoc
    (says_text kept at (λ u. strings kept (length cs) k) c (replicate (pad_of n) 0) (strings_bytes cs ++ b) (texts_then (at + 8 + n + pad_of n) cs q) g.1
    (length-replicate (pad_of n) 0) (says_texts cs (at + 8 + n + pad_of n) last k b q g.2 (omega arith) y))

-- a chunk and what is left, of bytes that are not empty
module _ (b : ℕ) (c : List ℕ) where
  pub head_chunk : (0 < length (take 32768 (b ∷ c))) × (length (take 32768 (b ∷ c)) ≤ limit)
  head_chunk = let z = length-take 32768 (b ∷ c) in (omega arith, omega arith)

  pub rest_chunk : (f : ℕ) → length (b ∷ c) ≤ suc f → length (drop 32768 (b ∷ c)) ≤ f
  rest_chunk f h = let z = length-drop 32768 (b ∷ c) in omega arith

one_chunk : (c b' b : List ℕ) (at last : ℕ) (k : Unit {0} → Tree) (q : Pieces) → (0 < length c) × (length c ≤ limit)
    → at + length (number_bytes (length c) ++ (c ++ b')) ≡ last → (at + 8 + length c + length b' ≡ last → Says (frames k) (at + 8 + length c) (b' ++ b) q)
    → Says (frames k) at ((number_bytes (length c) ++ (c ++ b')) ++ b) (chunk (at + 8) (length c) q)
one_chunk c b' b at last k q h l y =
    let l' = simp (length-append, length_number) at l in
    simp append_assoc (says_chunk at k c (b' ++ b) q h.0 h.1 (y (omega arith)))

says_chunks : (f : ℕ) (c : List ℕ) (at last : ℕ) (k : Unit {0} → Tree) (b : List ℕ) (q : Pieces) → at + length (chunks_bytes f c) ≡ last
    → Says (k tt) last b q → Says (frames k) at (chunks_bytes f c ++ b) (chunks_then f at c q)
unfolding chunks_bytes chunks_then
says_chunks zero c at last k b q l y = says_last at k b q (rw (← l, length_number) at y)
says_chunks (suc f) [] at last k b q l y = says_last at k b q (rw (← l, length_number) at y)
says_chunks (suc f) (x ∷ c) at last k b q l y =
    one_chunk (take 32768 (x ∷ c)) (chunks_bytes f (drop 32768 (x ∷ c))) b at last k (chunks_then f (at + 8 + length (take 32768 (x ∷ c))) (drop 32768 (x ∷ c)) q) (head_chunk x c) l
    (λ e. says_chunks f (drop 32768 (x ∷ c)) (at + 8 + length (take 32768 (x ∷ c))) last k b q e y)

-- strings in a row; pairs are twice as many
pub units_one : (n : ℕ) (k : Unit {0} → Tree) → units kept 0 n k ≡ strings kept n k
unfolding units strings
units_one zero k = refl
units_one (suc n) k = ap (λ (t : Tree). say kept (λ u. t)) (units_one n k)

pub units_two : (n : ℕ) (k : Unit {0} → Tree) → units kept 1 n k ≡ strings kept (n + n) k
unfolding units strings
units_two zero k = refl
units_two (suc n) k =
    let e : suc n + suc n ≡ suc (suc (n + n)) = omega arith in
    rw e (ap (λ (t : Tree). say kept (λ u. say kept (λ u. t))) (units_two n k))

unfoldable pub field_pieces : (numbers payload : List ℕ) → (strings : List (List ℕ)) → What → (at : ℕ) → Pieces → Pieces
field_pieces ns p cs (num t) at q = number t at (value_for ns t) q
field_pieces ns p cs (str m) at q = texts_then at cs q
field_pieces ns p cs (set m t) at q = number t at (value_for ns t) (texts_then (at + 8) cs q)
field_pieces ns p cs (pairs m t) at q = number t at (value_for ns t) (texts_then (at + 8) cs q)
field_pieces ns p cs framed at q = chunks_then (length p) at p q
field_pieces ns p cs maybe at q = q
field_pieces ns p cs typed at q = q
field_pieces ns p cs position at q = q

module _ (ns p : List ℕ) (small : (j : ℕ) → get_or ns j 0 < 18446744073709551616) where
  value_small : (t : Target) → value_for ns t < 18446744073709551616
  unfolding value_for
  value_small dropped = omega arith
  value_small (as_number i) = small i
  value_small (as_flag i) = small i
  value_small (as_count i) = small (12 + i)
  value_small as_presence = omega arith

  -- a count and as many strings
  says_counted : (i : Target) (n : ℕ) (cs : List (List ℕ)) (at last : ℕ) (t : ℕ → Tree) (k : Unit {0} → Tree) (b : List ℕ) (q : Pieces) → n < 18446744073709551616
      → t n ≡ strings kept (length cs) k → Strings cs → at + length (number_bytes n ++ strings_bytes cs) ≡ last → Says (k tt) last b q
      → Says (ask i t) at ((number_bytes n ++ strings_bytes cs) ++ b) (number i at n (texts_then (at + 8) cs q))
  says_counted i n cs at last t k b q h e g l y =
      let l' = simp (length-append, length_number) at l in
      simp append_assoc
      (says_number i n at t (strings_bytes cs ++ b) (texts_then (at + 8) cs q) h (rw e (says_texts cs (at + 8) last k b q g (omega arith) y)))

  pub says_field : {w : What} → Writable w → (cs : List (List ℕ)) (at last : ℕ) (k : Unit {0} → Tree) (b : List ℕ) (q : Pieces) → length cs ≡ strings_in ns w → Strings cs
      → at + length (field_bytes ns p cs w) ≡ last → Says (k tt) last b q → Says (field w k) at (field_bytes ns p cs w ++ b) (field_pieces ns p cs w at q)
  unfolding field strings_in field_bytes field_pieces framed_bytes strings
  says_field (a_number t i) cs at last k b q n g l y =
      says_number t (value_for ns t) at (λ n. k tt) b q (value_small t) (rw (← l, length_number) at y)
  says_field a_string_lem cs at last k b q n g l y = rw n at (says_texts cs at last k b q g l y)
  says_field (a_set_lem i h) cs at last k b q n g l y =
      let c = value_for ns i in
      says_counted i c cs at last (λ n. units kept 0 n k) k b q (value_small i) (units_one c k ∙ ap (λ (m : ℕ). strings kept m k) (sym n)) g l y
  says_field (some_pairs i h) cs at last k b q n g l y =
      let c = value_for ns i in
      says_counted i c cs at last (λ n. units kept 1 n k) k b q (value_small i) (units_two c k ∙ ap (λ (m : ℕ). strings kept m k) (sym n)) g l y
  says_field framed_data_lem cs at last k b q n g l y = says_chunks (length p) p at last k b q l y

-- ---- strings and chunks, read where they stand
module _ (s : List ℕ) where
  payload_texts : (cs : List (List ℕ)) (at : ℕ) (q : Pieces) → payload_of s (texts_then at cs q) ≡ payload_of s q
  unfolding texts_then payload_of
  payload_texts [] at q = refl
  payload_texts (c ∷ cs) at q = payload_texts cs (at + 8 + length c + pad_of (length c)) q

  entries_chunks : (f : ℕ) (c : List ℕ) (at : ℕ) (q : Pieces) → entries_of (chunks_then f at c q) ≡ entries_of q
  unfolding chunks_then entries_of
  entries_chunks zero c at q = refl
  entries_chunks (suc f) [] at q = refl
  entries_chunks (suc f) (x ∷ c) at q = entries_chunks f (drop 32768 (x ∷ c)) (at + 8 + length (take 32768 (x ∷ c))) q

  -- c is a chunk h and what is left, l
  payload_chunk : (h l c b u : List ℕ) (at : ℕ) (q q' : Pieces) → h ++ l ≡ c → drop at s ≡ (number_bytes (length h) ++ (h ++ b)) ++ u
      → (drop (at + 8 + length h) s ≡ b ++ u → payload_of s q ≡ l ++ payload_of s q') → payload_of s (chunk (at + 8) (length h) q) ≡ c ++ payload_of s q'
  unfolding payload_of
  payload_chunk h l c b u at q q' a e f =
      let d = past s at 8 (number_bytes (length h)) (h ++ (b ++ u)) (simp append_assoc at e) (length_number (length h)) in
      let g = f (past s (at + 8) (length h) h (b ++ u) d refl) in
      rw (d, take-append_seam h (b ++ u), g, ← a) (sym (append_assoc h l (payload_of s q')))

  payload_chunks : (f : ℕ) (c u : List ℕ) (at : ℕ) (q : Pieces) → drop at s ≡ chunks_bytes f c ++ u → length c ≤ f → payload_of s (chunks_then f at c q) ≡ c ++ payload_of s q
  unfolding chunks_bytes chunks_then
  payload_chunks zero [] u at q e h = refl
  payload_chunks zero (x ∷ c) u at q e h = absurd (omega arith)
  payload_chunks (suc f) [] u at q e h = refl
  payload_chunks (suc f) (x ∷ c) u at q e h =
      payload_chunk (take 32768 (x ∷ c)) (drop 32768 (x ∷ c)) (x ∷ c) (chunks_bytes f (drop 32768 (x ∷ c))) u at
      (chunks_then f (at + 8 + length (take 32768 (x ∷ c))) (drop 32768 (x ∷ c)) q) q (take-append-drop 32768 (x ∷ c)) e
      (λ d. payload_chunks f (drop 32768 (x ∷ c)) u (at + 8 + length (take 32768 (x ∷ c))) q d (rest_chunk x c f h))

  -- n strings by their entries, and then those that follow
  pub texts_then_lem : (cs ds : List (List ℕ)) (at i j n : ℕ) (es spare u : List ℕ) (q : Pieces) → drop at s ≡ strings_bytes cs ++ u → Strings cs → i + length cs ≡ j
      → drop (2 * i) es ≡ entries_of (texts_then at cs q) ++ spare → (drop (2 * j) es ≡ entries_of q ++ spare → texts_from s es n j ≡ ok ds)
      → texts_from s es (length cs + n) i ≡ ok (cs ++ ds)
  unfolding texts_then entries_of texts_from text_at
  texts_then_lem [] ds at i j n es spare u q e g l d f =
      let z : i ≡ j = omega arith in
      rw (zero-add, z) (f (rw z at d))
  texts_then_lem (c ∷ cs) ds at i j n es spare u q e g l d f =
      let m = length c in
      let w = first_at s u c cs at e in
      let es' = entries_of (texts_then (at + 8 + m + pad_of m) cs q) ++ spare in
      let k : 2 * (i + 1) ≡ 2 * i + 2 = omega arith in
      let d' : drop (2 * (i + 1)) es ≡ es' = rw k (past es (2 * i) 2 ((at + 8) ∷ m ∷ []) es' d refl) in
      let a : suc (length cs) + n ≡ suc (length cs + n) = omega arith in
      rw a
      (simp (
        view_at s es i (at + 8) m es' d w.fits,
        w.contents,
        text_is c g.0,
        texts_then_lem cs ds (at + 8 + m + pad_of m) (i + 1) j n es spare u q w.after g.2 (omega arith) d' f,
      ))

  module _ (slots room : ℕ) where
    judge_texts : (cs : List (List ℕ)) (at n : ℕ) (u : List ℕ) (r : Record) (q : Pieces) → drop at s ≡ strings_bytes cs ++ u → Strings cs → r.entries + length cs ≡ n
        → n ≤ slots → judge_of s slots room r (texts_then at cs q) ≡ judge_of s slots room (with_entries r n) q
    unfolding texts_then judge_of text_taken not_text entered
    judge_texts [] at n u r q e g a b = rw (sym a ∙ add-zero r.entries)
    judge_texts (c ∷ cs) at n u r q e g a b =
        let w = first_at s u c cs at e in
        simp (w.contents, text_is c g.0, lt-leb slots r.entries (omega arith))
        (judge_texts cs (at + 8 + length c + pad_of (length c)) n u (with_entries r (r.entries + 1)) q w.after g.2 (omega arith) b)

    judge_chunk : (h l c : List ℕ) (start n : ℕ) (r : Record) (q : Pieces) (o : Result Ended) → h ++ l ≡ c → r.payload + length c ≡ n → n ≤ room
        → (r.payload + length h + length l ≡ n → judge_of s slots room (with_payload r (r.payload + length h)) q ≡ o)
        → judge_of s slots room r (chunk start (length h) q) ≡ o
    unfolding judge_of chunk_taken
    judge_chunk h l c start n r q o a e b f =
        let z = simp length-append at (ap length a) in
        rw (le-leb (r.payload + length h) room (omega arith)) (f (omega arith))

    judge_chunks : (f : ℕ) (c : List ℕ) (at n : ℕ) (r : Record) (q : Pieces) → length c ≤ f → r.payload + length c ≡ n → n ≤ room
        → judge_of s slots room r (chunks_then f at c q) ≡ judge_of s slots room (with_payload r n) q
    unfolding chunks_then
    judge_chunks zero [] at n r q h a b = rw (sym a ∙ add-zero r.payload)
    judge_chunks zero (x ∷ c) at n r q h a b = absurd (omega arith)
    judge_chunks (suc f) [] at n r q h a b = rw (sym a ∙ add-zero r.payload)
    judge_chunks (suc f) (x ∷ c) at n r q h a b =
        judge_chunk (take 32768 (x ∷ c)) (drop 32768 (x ∷ c)) (x ∷ c) (at + 8) n r (chunks_then f (at + 8 + length (take 32768 (x ∷ c))) (drop 32768 (x ∷ c)) q)
        (judge_of s slots room (with_payload r n) q) (take-append-drop 32768 (x ∷ c)) a b
        (λ e.
        judge_chunks f (drop 32768 (x ∷ c)) (at + 8 + length (take 32768 (x ∷ c))) n (with_payload r (r.payload + length (take 32768 (x ∷ c)))) q
        (rest_chunk x c f h) e b)

-- ---- the record: where nothing is left of a number, it is there
pub record Agrees (ns left numbers counts : List ℕ) (present : Bool) : Type 0 where
  pub twelve : length numbers ≡ 12
  pub three : length counts ≡ 3
  pub fifteen : length left ≡ 15
  pub absent : present ≡ false
  pub same : (j : ℕ) → get_or left j 0 ≡ 0 → get_or (numbers ++ counts) j 0 ≡ get_or ns j 0

pub set_append_right : (xs ys : List ℕ) (i a : ℕ) → ListN.set (xs ++ ys) (length xs + i) a ≡ xs ++ ListN.set ys i a
set_append_right [] ys i a = rw zero-add
set_append_right (x ∷ xs) ys i a =
    let z : suc (length xs) + i ≡ suc (length xs + i) = omega arith in
    rw z (ap (λ (l : List ℕ). x ∷ l) (set_append_right xs ys i a))

module _ (ns : List ℕ) where
  same_set : (left all : List ℕ) (i x y : ℕ) → i < length left → i < length all → (y ≡ 0 → x ≡ get_or ns i 0)
      → ((j : ℕ) → get_or left j 0 ≡ 0 → get_or all j 0 ≡ get_or ns j 0) → (j : ℕ) → get_or (ListN.set left i y) j 0 ≡ 0 → get_or (ListN.set all i x) j 0 ≡ get_or ns j 0
  same_set left all i x y h g f s j z = by (eqb j i) refl
    where
      by : (b : Bool) → eqb j i ≡ b → get_or (ListN.set all i x) j 0 ≡ get_or ns j 0
      by true e =
          let q = eqb-true j i e in
          rw q (get_or-set_same all i x 0 g ∙ f (sym (get_or-set_same left i y 0 h) ∙ rw q at z))
      by false e =
          let n = eqb-false j i e in
          get_or-set_other all i j x 0 n ∙ s j (sym (get_or-set_other left i j y 0 n) ∙ z)

  -- a flag leaves nothing if it is 0 or 1
  flag_same : (n : ℕ) → pick (leb n 1) 0 n ≡ 0 → truth n ≡ n
  flag_same zero h = refl
  flag_same (suc zero) h = refl
  flag_same (suc (suc n)) h = let z = rw (lt-leb (suc (suc n)) 1 (omega arith)) at h in absurd (omega arith)

  module _ (left : List ℕ) (r : Record) (a : Agrees ns left r.numbers r.counts r.present) where
    agrees_number : (i x y : ℕ) → i < 12 → (y ≡ 0 → x ≡ get_or ns i 0)
        → Agrees ns (ListN.set left i y) (pick (ltb i 12) (ListN.set r.numbers i x) r.numbers) r.counts r.present
    agrees_number i x y h f =
        let z = a.twelve in
        let l = a.fifteen in
        rw (lt-ltb i 12 h)
        (record {
          twelve = rw length-set z;
          three = a.three;
          fifteen = rw length-set l;
          absent = a.absent;
          same =
              rw (← (set-append_left r.numbers r.counts i x (omega arith)))
              (same_set left (r.numbers ++ r.counts) i x y (omega arith) (simp length-append (omega arith)) f a.same);
        })

    agrees_count : (i x : ℕ) → i < 3 → x ≡ get_or ns (12 + i) 0
        → Agrees ns (ListN.set left (12 + i) 0) r.numbers (pick (ltb i 3) (ListN.set r.counts i x) r.counts) r.present
    agrees_count i x h f =
        let z = a.twelve in
        let c = a.three in
        let l = a.fifteen in
        let e = rw z at (set_append_right r.numbers r.counts i x) in
        rw (lt-ltb i 3 h)
        (record {
          twelve = z;
          three = rw length-set c;
          fifteen = rw length-set l;
          absent = a.absent;
          same = rw (← e) (same_set left (r.numbers ++ r.counts) (12 + i) x 0 (omega arith) (simp length-append (omega arith)) (λ q. f) a.same);
        })

    agrees_noted : (t : Target) → in_record t ≡ true → let o = noted r t (value_for ns t) in Agrees ns (leave ns left t) o.numbers o.counts o.present
    unfolding noted leave value_for
    agrees_noted dropped w = a
    agrees_noted (as_number i) w = agrees_number i (get_or ns i 0) 0 (ltb-true i 12 w) (λ q. refl)
    agrees_noted (as_flag i) w = agrees_number i (truth (get_or ns i 0)) (pick (leb (get_or ns i 0) 1) 0 (get_or ns i 0)) (ltb-true i 12 w) (flag_same (get_or ns i 0))
    agrees_noted (as_count i) w = agrees_count i (get_or ns (12 + i) 0) (ltb-true i 3 w) refl
    agrees_noted as_presence w = absurd (never_true w)

-- ---- a field, read where it stands
no_strings : (cs : List (List ℕ)) → length cs ≡ 0 → cs ≡ []
no_strings [] h = refl
no_strings (c ∷ cs) h = absurd (omega arith)

module _ (ns p s : List ℕ) where
  -- its strings in a row
  pub record StringsIn (cs : List (List ℕ)) (w : What) (at : ℕ) (q : Pieces) : Type 0 where
    pub place : ℕ
    pub rest : List ℕ
    pub stand : drop place s ≡ strings_bytes cs ++ rest
    pub entries : entries_of (field_pieces ns p cs w at q) ≡ entries_of (texts_then place cs q)

  -- a number and then bytes
  after_number_lem : (n at : ℕ) (b u : List ℕ) → drop at s ≡ (number_bytes n ++ b) ++ u → drop (at + 8) s ≡ b ++ u
  after_number_lem n at b u e = past s at 8 (number_bytes n) (b ++ u) (simp append_assoc at e) (length_number n)

  pub strings_in_lem : {w : What} → Writable w → (cs : List (List ℕ)) (at : ℕ) (q : Pieces) (u : List ℕ) → length cs ≡ strings_in ns w → drop at s ≡ field_bytes ns p cs w ++ u
      → StringsIn cs w at q
  unfolding field_bytes field_pieces strings_in entries_of strings_bytes texts_then
  strings_in_lem (a_number t h) cs at q u n e =
      let z = no_strings cs n in
      record { place = at; rest = drop at s; stand = rw z; entries = rw z }
  strings_in_lem a_string_lem cs at q u n e = record { place = at; rest = u; stand = e; entries = refl }
  strings_in_lem (a_set_lem t h) cs at q u n e =
      record { place = at + 8; rest = u; stand = after_number_lem (value_for ns t) at (strings_bytes cs) u e; entries = refl }
  strings_in_lem (some_pairs t h) cs at q u n e =
      record { place = at + 8; rest = u; stand = after_number_lem (value_for ns t) at (strings_bytes cs) u e; entries = refl }
  strings_in_lem framed_data_lem cs at q u n e =
      let z = no_strings cs n in
      record { place = at; rest = drop at s; stand = rw z; entries = rw z (entries_chunks s (length p) p at q) }

  pub payload_field : {w : What} → Writable w → (cs : List (List ℕ)) (at : ℕ) (q : Pieces) (u : List ℕ) → drop at s ≡ field_bytes ns p cs w ++ u
      → payload_of s (field_pieces ns p cs w at q) ≡ pick (is_framed w) p [] ++ payload_of s q
  unfolding field_bytes field_pieces framed_bytes payload_of
  payload_field (a_number t h) cs at q u e = refl
  payload_field a_string_lem cs at q u e = payload_texts s cs at q
  payload_field (a_set_lem t h) cs at q u e = payload_texts s cs (at + 8) q
  payload_field (some_pairs t h) cs at q u e = payload_texts s cs (at + 8) q
  payload_field framed_data_lem cs at q u e = payload_chunks s (length p) p u at q e (omega arith)

  module _ (slots room : ℕ) where
    -- judging x goes on with q and this record
    pub record Taken (cs : List (List ℕ)) (t : Target) (more : ℕ) (left : List ℕ) (r : Record) (x q : Pieces) : Type 0 where
      pub next : Record
      pub judged : judge_of s slots room r x ≡ judge_of s slots room next q
      pub agrees : Agrees ns (leave ns left t) next.numbers next.counts next.present
      pub entries : next.entries ≡ r.entries + length cs
      pub payload : next.payload ≡ r.payload + more

    module _ (cs : List (List ℕ)) (at : ℕ) (left : List ℕ) (r : Record) (q : Pieces) (u : List ℕ) (g : Strings cs) (fits : r.entries + length cs ≤ slots)
        (a : Agrees ns left r.numbers r.counts r.present) where
      taken_counted : (t : Target) → in_record t ≡ true → drop at s ≡ (number_bytes (value_for ns t) ++ strings_bytes cs) ++ u
          → Taken cs t 0 left r (number t at (value_for ns t) (texts_then (at + 8) cs q)) q
      unfolding judge_of
      taken_counted t h e =
          let c = value_for ns t in
          let n = noted r t c in
          let z = noted_room r t c in
          record {
            next = with_entries n (r.entries + length cs);
            judged = judge_texts s slots room cs (at + 8) (r.entries + length cs) u n q (after_number_lem c at (strings_bytes cs) u e) g (omega arith) fits;
            agrees = agrees_noted ns left r a t h;
            entries = refl;
            payload = omega arith;
          }

      pub taken : {w : What} → Writable w → length cs ≡ strings_in ns w → drop at s ≡ field_bytes ns p cs w ++ u → r.payload + length (pick (is_framed w) p []) ≤ room
          → Taken cs (target_in w) (length (pick (is_framed w) p [])) left r (field_pieces ns p cs w at q) q
      unfolding field_bytes field_pieces strings_in judge_of leave
      taken (a_number t h) n e l =
          let z = noted_room r t (value_for ns t) in
          record { next = noted r t (value_for ns t); judged = refl; agrees = agrees_noted ns left r a t h; entries = omega arith; payload = omega arith }
      taken a_string_lem n e l =
          record {
            next = with_entries r (r.entries + length cs);
            judged = judge_texts s slots room cs at (r.entries + length cs) u r q e g refl fits;
            agrees = a;
            entries = refl;
            payload = omega arith;
          }
      taken (a_set_lem t h) n e l = taken_counted t h e
      taken (some_pairs t h) n e l = taken_counted t h e
      taken framed_data_lem n e l =
          record {
            next = with_payload r (r.payload + length p);
            judged = judge_chunks s slots room (length p) p at (r.payload + length p) r q (omega arith) refl l;
            agrees = a;
            entries = omega arith;
            payload = refl;
          }
