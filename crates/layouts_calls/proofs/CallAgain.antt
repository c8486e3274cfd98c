-- Fields that read and are as the writer of calls sends them, written again from their own numbers, entries and stream, give their own bytes: for any list of
-- fields that can be written. CallOurs has it of the operations.
use Prim.Native.Nat.{ℕ, zero, suc, ◌+◌, ◌*◌, ◌≤◌, ◌<◌}
use mathlib.Core.Path.{◌≡◌, refl, sym, ◌∙◌, ap, subst}
use mathlib.Core.List.{List, [], ◌∷◌, ◌++◌, append_assoc, append-nil}
use mathlib.Core.Bool.{Bool, true, false, ◌&&◌, ◌||◌}
use lib.ListN.{length, get_or, take, drop, replicate, length-append, drop_of_length-le}
use lib.Seq.{take_at, drop_at, take_all, take-append_seam, drop-append_seam}
use lib.Dec.{eqb}
use borrow.Author.Tests.{le-leb}
use native.Mathlib.Omega.{arith}
use native.Mathlib.Nat.{add-zero, zero-add}
use Rattle.text.proofs.Meaning.{text_is}
use Rattle.layouts.specs.Primitive.{pick, number_bytes, pad_of, Result, ok}
use Rattle.layouts.specs.Shape.{passed, checked, kept, What, num, set, pairs, Tree, frames, stop, strings, units, field}
use Rattle.layouts.specs.Pieces.{Pieces, number, text, half, chunk, end, fault, run, total_of}
use Rattle.layouts.specs.Record.{blank, is_kept}
use Rattle.layouts.specs.Judge.{Ended, judge_of, entries_of, payload_of}
use Rattle.layouts.specs.Grammar.{Says, says_number, says_text, says_chunk, says_last, says_end}
use Rattle.layouts.specs.Demands.{Bytes, AllText, Verdict, all_text, first_bad}
use Rattle.layouts.specs.Writers.{slots_of, string_bytes, strings_bytes, chunks_bytes, framed_bytes, text_at, texts_from}
use Rattle.layouts.specs.CallWriter.{value_for, target_in, left_by, is_framed, has_frames, is_of_shape, strings_in, entries_for, field_bytes, fields_bytes, shape_bytes}
use Rattle.layouts.proofs.Little.{length_number}
use Rattle.layouts.proofs.Placed.{never_both, Placed, on_number_lem, on_text, on_half, on_chunk, on_end, on_fault, run_placed}
use Rattle.layouts.proofs.Exact.{past, sound}
use Rattle.layouts.proofs.Judge.{judge_read, judge_room}
use Rattle.layouts.proofs.Theorems.{never_true, unless_bad_lem}
use Rattle.layouts.proofs.RoundTrip.{string_at_lem, zeros, view_at}
use Rattle.layouts_calls.specs.CallOurs.{OurNumber, Ours}
use Rattle.layouts_calls.proofs.Writable.{neither_true, Writable, in_record_lem, a_number, a_string_lem, a_set_lem, some_pairs, framed_data_lem, taken, AllWritable}
use Rattle.layouts_calls.proofs.CallFields.{fields_tree, units_one, units_two}
use Rattle.layouts_calls.proofs.CallNumbers.{put, numbers_of, put_length, put_other, value_stays, all_of, record_all, OurNumbers, all_zero_lem, left_zero}

-- the strings that are kept
unfoldable shown : List ℕ → Pieces → List (List ℕ)
shown s (number i place n p) = shown s p
shown s (text m start len p) = pick (is_kept m) (take len (drop start s) ∷ shown s p) (shown s p)
shown s (half m start len) = []
shown s (chunk start len p) = shown s p
shown s (end place) = []
shown s (fault which place) = []

-- the tree of fields
abbrev pub tree_of : List What → Tree
tree_of ws = fields_tree ws (λ u. stop)

-- ---- chunks of 32768 bytes, of which the last may have fewer
none_bytes : (f : ℕ) → chunks_bytes f [] ≡ number_bytes 0
unfolding chunks_bytes
none_bytes zero = refl
none_bytes (suc f) = refl

seam : (c d : List ℕ) → length c ≤ 32768 → (0 < length d → length c ≡ 32768) → (take 32768 (c ++ d) ≡ c) × (drop 32768 (c ++ d) ≡ d)
seam c [] h g = rw append-nil (take_all 32768 c h, drop_of_length-le c {i = 32768} h)
seam c (x ∷ d) h g = let z = g (omega arith) in (take_at c (x ∷ d) 32768 z, drop_at c (x ∷ d) 32768 z)

chunk_bytes : (f : ℕ) (c d : List ℕ) → 0 < length c → length c ≤ 32768 → (0 < length d → length c ≡ 32768)
    → chunks_bytes (suc f) (c ++ d) ≡ number_bytes (length c) ++ (c ++ chunks_bytes f d)
unfolding chunks_bytes
chunk_bytes f [] d z h g = absurd (omega arith)
chunk_bytes f (x ∷ c) d z h g =
    let e = seam (x ∷ c) d h g in
    ap (λ (y : List ℕ). number_bytes (length y) ++ (y ++ chunks_bytes f (drop 32768 (x ∷ c ++ d)))) e.0
    ∙ ap (λ (y : List ℕ). number_bytes (length (x ∷ c)) ++ ((x ∷ c) ++ chunks_bytes f y)) e.1

more_bytes : (f : ℕ) (c d others b : List ℕ) → 0 < length c → length c ≤ 32768 → (0 < length d → length c ≡ 32768) → length (c ++ d) ≤ f
    → ((g : ℕ) → length d ≤ g → chunks_bytes g d ++ others ≡ b) → chunks_bytes f (c ++ d) ++ others ≡ number_bytes (length c) ++ (c ++ b)
more_bytes zero c d others b z h g l i = absurd (omega (arith, length-append c d))
more_bytes (suc f) c d others b z h g l i = rw (chunk_bytes f c d z h g) (simp (append_assoc, i f (omega (arith, length-append c d))))

module _ (s : List ℕ) where
  -- what follows in the stream, before u: a tree at a place, its bytes and its pieces
  record Rest (t : Tree) (u : List ℕ) : Type 0 where
    place : ℕ
    bytes : List ℕ
    pieces : Pieces
    says : Says t place bytes pieces
    stands : drop place s ≡ bytes ++ u
    ours : Ours s pieces

  -- ---- what strings in a row read: these, and the rest
  record StringsAt (t : Tree) (b u : List ℕ) (p : Pieces) : Type 0 where
    these : List (List ℕ)
    rest : Rest t u
    numbers : (l : List ℕ) → numbers_of l p ≡ numbers_of l rest.pieces
    shows : shown s p ≡ these ++ shown s rest.pieces
    payload : payload_of s p ≡ payload_of s rest.pieces
    total : total_of p ≡ total_of rest.pieces
    bytes : strings_bytes these ++ rest.bytes ≡ b

  strings_at : (n : ℕ) (t : Tree) (at : ℕ) (b u : List ℕ) (p : Pieces) → Says (strings kept n (λ u. t)) at b p → drop at s ≡ b ++ u → Ours s p
      → (r : StringsAt t b u p) × (length r.these ≡ n)
  unfolding strings Ours numbers_of shown payload_of total_of strings_bytes string_bytes
  strings_at zero t at b u p y e o =
      let here : Rest t u = record { place = at; bytes = b; pieces = p; says = y; stands = e; ours = o } in
      (record { these = []; rest = here; numbers = λ l. refl; shows = refl; payload = refl; total = refl; bytes = refl }, refl)
  strings_at (suc n) t at b u p (says_text m at' k c pad b' p' l g y) e o =
      let w = string_at_lem s at c pad (b' ++ u) (simp append_assoc at e) g in
      let d = zeros s (at + 8 + length c) (pad_of (length c)) pad (b' ++ u) w.padding g o.0 in
      let i = strings_at n t (at + 8 + length c + pad_of (length c)) b' u p' y w.after o.1 in
      let r = i.0 in
      let shows : take (length c) (drop (at + 8) s) ∷ shown s p' ≡ c ∷ r.these ++ shown s r.rest.pieces = rw w.contents (ap (λ (x : List (List ℕ)). c ∷ x) r.shows) in
      let bytes : (string_bytes c ++ strings_bytes r.these) ++ r.rest.bytes ≡ number_bytes (length c) ++ (c ++ (pad ++ b')) = simp (append_assoc, d, r.bytes) in
      (record { these = c ∷ r.these; rest = r.rest; numbers = r.numbers; shows = shows; payload = r.payload; total = r.total; bytes = bytes }, ap suc i.1)

  -- n strings, or n pairs of them
  units_at : (e n m : ℕ) (t : Tree) (at : ℕ) (b u : List ℕ) (p : Pieces) → units kept e n (λ u. t) ≡ strings kept m (λ u. t) → Says (units kept e n (λ u. t)) at b p
      → drop at s ≡ b ++ u → Ours s p → (r : StringsAt t b u p) × (length r.these ≡ m)
  units_at e n m t at b u p same y = strings_at m t at b u p (subst (λ (x : Tree). Says x at b p) same y)

  -- ---- what framed data reads, where nothing that follows has a payload
  abbrev NoPayload : Tree → Type 0
  NoPayload t = (at : ℕ) (b u : List ℕ) (p : Pieces) → Says t at b p → drop at s ≡ b ++ u → Ours s p → (total_of p ≡ 0) × (payload_of s p ≡ [])

  record FramesAt (t : Tree) (b u : List ℕ) (p : Pieces) : Type 0 where
    rest : Rest t u
    numbers : (l : List ℕ) → numbers_of l p ≡ numbers_of l rest.pieces
    shows : shown s p ≡ shown s rest.pieces
    total : total_of p ≡ length (payload_of s p)
    bytes : (f : ℕ) → length (payload_of s p) ≤ f → chunks_bytes f (payload_of s p) ++ rest.bytes ≡ b

  frames_at : {k : Unit {0} → Tree} {at : ℕ} {b : List ℕ} {p : Pieces} (u : List ℕ) → NoPayload (k tt) → Says (frames k) at b p → drop at s ≡ b ++ u → Ours s p
      → FramesAt (k tt) b u p
  unfolding Ours numbers_of shown payload_of total_of
  frames_at u bare (says_chunk at k c b p z h y) e o =
      let d = past s at 8 (number_bytes (length c)) (c ++ (b ++ u)) (simp append_assoc at e) (length_number (length c)) in
      let w : take (length c) (drop (at + 8) s) ≡ c = rw d (take-append_seam c (b ++ u)) in
      let r = frames_at u bare y (past s (at + 8) (length c) c (b ++ u) d refl) o.2 in
      record {
        rest = r.rest;
        numbers = r.numbers;
        shows = r.shows;
        total = rw (w, length-append, r.total);
        bytes = λ f l. rw w (more_bytes f c (payload_of s p) r.rest.bytes b z o.0 (λ g. o.1 (rw r.total g)) (rw w at l) r.bytes);
      }
  frames_at u bare (says_last at k b p y) e o =
      let d = past s at 8 (number_bytes 0) (b ++ u) (simp append_assoc at e) (length_number 0) in
      let n = bare (at + 8) b u p y d o in
      record {
        rest = record { place = at + 8; bytes = b; pieces = p; says = y; stands = d; ours = o };
        numbers = λ l. refl;
        shows = refl;
        total = n.0 ∙ sym (ap length n.1);
        bytes = λ f g. rw (n.1, none_bytes f);
      }

  -- ---- what any field that can be written reads: its number, 0 if it has none, its strings, and the rest
  record FieldAt (w : What) (t : Tree) (b u : List ℕ) (p : Pieces) : Type 0 where
    value : ℕ
    these : List (List ℕ)
    rest : Rest t u
    our : OurNumber (target_in w) value
    numbers : (l : List ℕ) → numbers_of l p ≡ numbers_of (put l (target_in w) value) rest.pieces
    shows : shown s p ≡ these ++ shown s rest.pieces
    payload : is_framed w ≡ false → payload_of s p ≡ payload_of s rest.pieces
    total : is_framed w ≡ false → total_of p ≡ total_of rest.pieces
    many : (ns : List ℕ) → value_for ns (target_in w) ≡ value → strings_in ns w ≡ length these
    bytes : (ns c : List ℕ) → value_for ns (target_in w) ≡ value → (is_framed w ≡ true → c ≡ payload_of s p) → field_bytes ns c these w ++ rest.bytes ≡ b

  -- a number, and strings behind it
  number_at : (w : What) (n : ℕ) (t : Tree) (at : ℕ) (b u : List ℕ) (p : Pieces) (r : StringsAt t b u p) → OurNumber (target_in w) n
      → ((ns : List ℕ) → value_for ns (target_in w) ≡ n → strings_in ns w ≡ length r.these)
      → ((ns c : List ℕ) → field_bytes ns c r.these w ≡ number_bytes (value_for ns (target_in w)) ++ strings_bytes r.these)
      → FieldAt w t (number_bytes n ++ b) u (number (target_in w) at n p)
  unfolding numbers_of shown payload_of total_of
  number_at w n t at b u p r o many own =
      record {
        value = n;
        these = r.these;
        rest = r.rest;
        our = o;
        numbers = λ l. r.numbers (put l (target_in w) n);
        shows = r.shows;
        payload = λ f. r.payload;
        total = λ f. r.total;
        many = many;
        bytes = λ ns c h f. rw (own ns c, h) (simp (append_assoc, r.bytes));
      }

  after_number_lem : (n at : ℕ) (b u : List ℕ) → drop at s ≡ (number_bytes n ++ b) ++ u → drop (at + 8) s ≡ b ++ u
  after_number_lem n at b u e = past s at 8 (number_bytes n) (b ++ u) (simp append_assoc at e) (length_number n)

  field_at : {w : What} → Writable w → (t : Tree) (at : ℕ) (b u : List ℕ) (p : Pieces) → (is_framed w ≡ true → NoPayload t) → Says (field w (λ u. t)) at b p
      → drop at s ≡ b ++ u → Ours s p → FieldAt w t b u p
  unfolding field strings Ours numbers_of strings_in field_bytes framed_bytes strings_bytes strings_at
  field_at (a_number i h) t at b u p bare (says_number i' n at' k b' p' l y) e o =
      let r = strings_at 0 t (at + 8) b' u p' y (after_number_lem n at b' u e) o.1 in
      number_at (num i) n t at b' u p' r.0 o.0 (λ ns h. refl) (λ ns c. sym (append-nil (number_bytes (value_for ns i))))
  field_at (a_set_lem i h) t at b u p bare (says_number i' n at' k b' p' l y) e o =
      let r = units_at 0 n n t (at + 8) b' u p' (units_one n (λ u. t)) y (after_number_lem n at b' u e) o.1 in
      number_at (set kept i) n t at b' u p' r.0 o.0 (λ ns h. omega (arith, r.1)) (λ ns c. refl)
  field_at (some_pairs i h) t at b u p bare (says_number i' n at' k b' p' l y) e o =
      let r = units_at 1 n (n + n) t (at + 8) b' u p' (units_two n (λ u. t)) y (after_number_lem n at b' u e) o.1 in
      number_at (pairs kept i) n t at b' u p' r.0 o.0 (λ ns h. omega (arith, r.1)) (λ ns c. refl)
  field_at a_string_lem t at b u p bare y e o =
      let i = strings_at 1 t at b u p y e o in
      let r = i.0 in
      record {
        value = 0;
        these = r.these;
        rest = r.rest;
        our = refl;
        numbers = r.numbers;
        shows = r.shows;
        payload = λ f. r.payload;
        total = λ f. r.total;
        many = λ ns h. sym i.1;
        bytes = λ ns c h f. r.bytes;
      }
  field_at framed_data_lem t at b u p bare y e o =
      let r = frames_at u (bare refl) y e o in
      record {
        value = 0;
        these = [];
        rest = r.rest;
        our = refl;
        numbers = r.numbers;
        shows = r.shows;
        payload = λ f. absurd (never_true (sym f));
        total = λ f. absurd (never_true (sym f));
        many = λ ns h. refl;
        bytes = λ ns c h f. rw (f refl) (r.bytes (length (payload_of s p)) (omega arith));
      }

  -- without framed data there is no payload
  no_frames : (ws : List What) → AllWritable ws → has_frames ws ≡ false → NoPayload (tree_of ws)
  unfolding fields_tree has_frames total_of payload_of
  no_frames [] g f at b u p (says_end at') e o = (refl, refl)
  no_frames (w ∷ ws) g f at b u p y e o =
      let d = neither_true (is_framed w) (has_frames ws) f in
      let x = field_at g.0.can (tree_of ws) at b u p (λ h. absurd (never_true (sym d.0 ∙ h))) y e o in
      let r = x.rest in
      let i = no_frames ws g.1 d.1 r.place r.bytes u r.pieces r.says r.stands r.ours in
      (x.total d.0 ∙ i.0, x.payload d.0 ∙ i.1)

  first_field : (w : What) (ws : List What) (at : ℕ) (b u : List ℕ) (p : Pieces) → AllWritable (w ∷ ws) → Says (tree_of (w ∷ ws)) at b p → drop at s ≡ b ++ u → Ours s p
      → FieldAt w (tree_of ws) b u p
  unfolding fields_tree
  first_field w ws at b u p g y e o = field_at g.0.can (tree_of ws) at b u p (λ f. no_frames ws g.1 (rw f at g.0.once)) y e o

  -- a number that no field takes stays as it was
  stays : (ws : List What) (at : ℕ) (b u : List ℕ) (p : Pieces) (l : List ℕ) → AllWritable ws → Says (tree_of ws) at b p → drop at s ≡ b ++ u → Ours s p
      → (j : ℕ) → taken ws j ≡ false → get_or (numbers_of l p) j 0 ≡ get_or l j 0
  unfolding fields_tree numbers_of
  stays [] at b u p l g (says_end at') e o j h = refl
  stays (w ∷ ws) at b u p l g y e o j h =
      let x = first_field w ws at b u p g y e o in
      let r = x.rest in
      let d = neither_true _ (taken ws j) h in
      ap (λ (ns : List ℕ). get_or ns j 0) (x.numbers l)
      ∙ stays ws r.place r.bytes u r.pieces (put l (target_in w) x.value) g.1 r.says r.stands r.ours j d.1
      ∙ put_other l (target_in w) x.value j d.0

  -- so the number of the first field is among those that are read in the end
  first_value : (w : What) (ws : List What) (b u : List ℕ) (p : Pieces) (l : List ℕ) → AllWritable (w ∷ ws) → length l ≡ 15 → (x : FieldAt w (tree_of ws) b u p)
      → value_for (numbers_of l p) (target_in w) ≡ x.value
  first_value w ws b u p l g h x =
      let r = x.rest in
      let l' = put l (target_in w) x.value in
      rw (x.numbers l)
      (value_stays l (numbers_of l' r.pieces) (target_in w) x.value ws (in_record_lem g.0.can) g.0.own h x.our
      (stays ws r.place r.bytes u r.pieces l' g.1 r.says r.stands r.ours))

  -- ---- the fields, written again
  record Again (ns c : List ℕ) (cs : List (List ℕ)) (ws : List What) (b : List ℕ) : Type 0 where
    ours : OurNumbers ns ws
    uses : (slots n : ℕ) → n + length cs ≤ slots → entries_for ns slots n ws ≡ ok (n + length cs)
    bytes : fields_bytes ns c cs ws ≡ b

  not_first : (a b : Bool) → a && b ≡ false → b ≡ true → a ≡ false
  not_first true b e f = absurd (never_true (sym e ∙ f))
  not_first false b e f = refl

  again : (ws : List What) (at : ℕ) (b u : List ℕ) (p : Pieces) (l ns c : List ℕ) → AllWritable ws → Says (tree_of ws) at b p → drop at s ≡ b ++ u → Ours s p
      → length l ≡ 15 → ns ≡ numbers_of l p → (has_frames ws ≡ true → c ≡ payload_of s p) → Again ns c (shown s p) ws b
  unfolding fields_tree shown entries_for fields_bytes has_frames
  again [] at b u p l ns c g (says_end at') e o h m f = record { ours = tt; uses = λ slots n k. ap ok (sym (add-zero n)); bytes = refl }
  again (w ∷ ws) at b u p l ns c g y e o h m f =
      let x = first_field w ws at b u p g y e o in
      let r = x.rest in
      let t = target_in w in
      let n = length x.these in
      let is : value_for ns t ≡ x.value = rw m (first_value w ws b u p l g h x) in
      let many : strings_in ns w ≡ n = x.many ns is in
      let all : length (shown s p) ≡ n + length (shown s r.pieces) = ap length x.shows ∙ length-append x.these (shown s r.pieces) in
      let bare = not_first (is_framed w) (has_frames ws) g.0.once in
      let i = again ws r.place r.bytes u r.pieces (put l t x.value) ns c g.1 r.says r.stands r.ours in
      let j = i (put_length l t x.value ∙ h) (m ∙ x.numbers l) (λ k. f (rw (bare k) k) ∙ x.payload (bare k)) in
      record {
        ours = (rw is x.our, j.ours);
        uses = λ slots k q.
            let z : k + n + length (shown s r.pieces) ≡ k + length (shown s p) = omega arith in
            rw (many, le-leb (k + n) slots (omega arith)) (j.uses slots (k + n) (omega arith) ∙ ap ok z);
        bytes = rw (x.shows, many, take-append_seam x.these, drop-append_seam x.these, j.bytes) (x.bytes ns c is (λ q. f (rw q)));
      }

  -- ---- the strings: each was read by its entry, and is text
  shown_entries : (p : Pieces) → 2 * length (shown s p) ≡ length (entries_of p)
  unfolding shown entries_of
  shown_entries (number i place n p) = shown_entries p
  shown_entries (text kept start len p) = let z = shown_entries p in omega arith
  shown_entries (text checked start len p) = shown_entries p
  shown_entries (text passed start len p) = shown_entries p
  shown_entries (half m start len) = refl
  shown_entries (chunk start len p) = shown_entries p
  shown_entries (end place) = refl
  shown_entries (fault which place) = refl

  -- starts and lengths lie in the stream
  pub entries_within : {G : Type 0} {lo : ℕ} {p : Pieces} → Placed G (length s) lo p → (i : ℕ) → get_or (entries_of p) i 0 ≤ length s
  unfolding entries_of
  entries_within (on_number_lem lo place a b h) i = entries_within h i
  entries_within (on_text {m = kept} lo start len a b h) zero = omega arith
  entries_within (on_text {m = kept} lo start len a b h) (suc zero) = omega arith
  entries_within (on_text {m = kept} lo start len a b h) (suc (suc i)) = entries_within h i
  entries_within (on_text {m = checked} lo start len a b h) i = entries_within h i
  entries_within (on_text {m = passed} lo start len a b h) i = entries_within h i
  entries_within (on_half lo start len a b) i = omega arith
  entries_within (on_chunk lo start len a b h) i = entries_within h i
  entries_within (on_end lo place a b) i = omega arith
  entries_within (on_fault lo place a) i = omega arith

  texts_shown : {G : Type 0} {lo : ℕ} {p : Pieces} → Placed G (length s) lo p → AllText s p → (es : List ℕ) (i : ℕ) (spare : List ℕ) → drop (2 * i) es ≡ entries_of p ++ spare
      → texts_from s es (length (shown s p)) i ≡ ok (shown s p)
  unfolding shown entries_of texts_from text_at
  texts_shown (on_number_lem lo place a b h) f es i spare d = texts_shown h f es i spare d
  texts_shown (on_text {m = kept} {p} lo start len a b h) f es i spare d =
      let k : 2 * (i + 1) ≡ 2 * i + 2 = omega arith in
      let d' : drop (2 * (i + 1)) es ≡ entries_of p ++ spare = rw k (past es (2 * i) 2 (start ∷ len ∷ []) (entries_of p ++ spare) d refl) in
      simp (view_at s es i start len (entries_of p ++ spare) d (omega arith), text_is (take len (drop start s)) (f.0 refl), texts_shown h f.1 es (i + 1) spare d')
  texts_shown (on_text {m = checked} lo start len a b h) f es i spare d = texts_shown h f.1 es i spare d
  texts_shown (on_text {m = passed} lo start len a b h) f es i spare d = texts_shown h f.1 es i spare d
  texts_shown (on_half lo start len a b) f es i spare d = refl
  texts_shown (on_chunk lo start len a b h) f es i spare d = texts_shown h f es i spare d
  texts_shown (on_end lo place a b) f es i spare d = refl
  texts_shown (on_fault lo place a) f es i spare d = refl

-- what was read is text
read_text_lem : (s : List ℕ) (slots room : ℕ) (p : Pieces) (x : Ended) → judge_of s slots room blank p ≡ ok x → AllText s p
read_text_lem s slots room p x q =
    let r = judge_read s slots room blank p x q in
    let f = r.fits (omega arith) (omega arith) in
    by (unless_bad_lem s p _) (sym (judge_room s slots room blank p x.ends r.skips f.0 f.1) ∙ q)
  where
    by : {o u : Result Ended} → Verdict s p o u → u ≡ ok x → AllText s p
    by (all_text h) e = h
    by (first_bad h) e = absurd (never_both e)

pub none_zero : (n j : ℕ) → ◌≡◌ {A = ℕ} (get_or (replicate n 0) j 0) 0
none_zero zero j = refl
none_zero (suc n) zero = refl
none_zero (suc n) (suc j) = none_zero n j

-- any list of fields that can be written, whatever follows the entries
module _ (s : List ℕ) (bytes : Bytes s) (ws : List What) (w : AllWritable ws) where
  -- 14 does not hold
  of_shape : (at : ℕ) (b u : List ℕ) (p : Pieces) (ns : List ℕ) → Says (tree_of ws) at b p → drop at s ≡ b ++ u → Ours s p → ns ≡ numbers_of (all_of blank) p → OurNumbers ns ws
      → is_of_shape ns (payload_of s p) ws ≡ true
  unfolding is_of_shape
  of_shape at b u p ns y e o m ours = rw (all_zero_lem 15 (left_by ns ns ws) zero_left) (by (has_frames ws) refl)
    where
      zero_left : (j : ℕ) → get_or (left_by ns ns ws) j 0 ≡ 0
      zero_left = left_zero ns ns ws ours (λ j k. ap (λ (x : List ℕ). get_or x j 0) m ∙ stays s ws at b u p (all_of blank) w y e o j k ∙ none_zero 15 j)

      by : (f : Bool) → has_frames ws ≡ f → f || eqb (length (payload_of s p)) 0 ≡ true
      by true f = refl
      by false f = rw (no_frames s ws w f at b u p y e o).1

  pub fields_written : (slots room : ℕ) (x : Ended) (spare : List ℕ) → judge_of s slots room blank (run (tree_of ws) s 0) ≡ ok x → Ours s (run (tree_of ws) s 0)
      → shape_bytes (all_of x.found) s (entries_of (run (tree_of ws) s 0) ++ spare) (payload_of s (run (tree_of ws) s 0)) ws ≡ ok (take x.ends s)
  fields_written slots room x spare q o =
      let p = run (tree_of ws) s 0 in
      let j = judge_read s slots room blank p x q in
      let y = sound s bytes (tree_of ws) 0 x.ends j.skips in
      let ns = all_of x.found in
      let m : ns ≡ numbers_of (all_of blank) p = ap all_of j.holds ∙ record_all blank p refl in
      let a = again s ws 0 y.these y.rest p (all_of blank) ns (payload_of s p) w y.says y.splits o refl m (λ f. refl) in
      let es = entries_of p ++ spare in
      let cs = shown s p in
      let n = length-append (entries_of p) spare in
      let k = shown_entries s p in
      let uses : entries_for ns (slots_of es) 0 ws ≡ ok (length cs) = a.uses (slots_of es) 0 (omega arith) ∙ ap ok (zero-add (length cs)) in
      let texts : texts_from s es (length cs) 0 ≡ ok cs = texts_shown s (run_placed (tree_of ws) s 0 (omega arith)) (read_text_lem s slots room p x q) es 0 spare refl in
      let z = y.ends in
      let l : take x.ends s ≡ y.these = ap (take x.ends) y.splits ∙ take_at y.these y.rest x.ends (omega arith) in
      rw (of_shape 0 y.these y.rest p ns y.says y.splits o m a.ours, uses, texts, a.bytes, l)
