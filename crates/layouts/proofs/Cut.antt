-- W-212: a cut stream is never taken for a whole one, and nothing behind the end of a layout is looked at. Of every tree, skipped or read; then of the calls on replies
-- and arguments, and of the readers and skippers of one field. It is not claimed of the stderr loop, whose stop on a short rest is kept: messages that end with neither
-- Last nor Error may be cut.
use Prim.Native.Nat.{ℕ, zero, suc, ◌+◌, ◌≤◌, ◌<◌}
use mathlib.Core.Path.{◌≡◌, refl, sym, ◌∙◌, ap}
use mathlib.Core.List.{List, [], ◌∷◌}
use mathlib.Core.Bool.{Bool, true, false}
use lib.ListN.{length, get_or, take, drop, length-take}
use lib.Seq.{length-take-le, get_or-take, take-take}
use lib.Dec.{leb}
use native.Mathlib.Omega.{arith}
use native.Mathlib.Decide.{dec_le}
use borrow.Author.Tests.{leb-true, le-leb, lt-leb}
use Rattle.layouts.specs.declared.Record.{Record}
use Rattle.layouts.specs.declared.Refusal.{Refusal}
use Rattle.layouts.specs.Refusal.{refusal, refused_by}
use Rattle.layouts.specs.Primitive.{pick, little_at, number_at, cut_short, bad_text, Version, Result, ok, refused, onward}
use Rattle.layouts.specs.Shape.{Target, Role, What, num, str, set, pairs, framed, maybe, typed, position, Tree, ask, say, frames, layout, as_number, as_count, passed, kept}
use Rattle.layouts.specs.Pieces.{Pieces, fault, after_num, after_text, after_chunk, chunks, run, skip_of, total_of}
use Rattle.layouts.specs.Record.{blank, noted, with_number, entered, with_payload}
use Rattle.layouts.specs.Judge.{not_text, text_end, text_taken, half_taken, chunk_taken, Ended, judge_of, payload_of, lent_after}
use Rattle.layouts.specs.Operations.{Kinds}
use Rattle.layouts.specs.Calls.{Context, Answer, answered, arguments_kinds, skipped_kinds, reply_kinds, arguments_tree, skipped_tree, reply_tree, read_of, read_op_args, read_daemon_result, skip_daemon_result, skip_op_args, field, read_field, read_number, read_u32, skip_string, read_string, read_string_set, skip_string_set, read_framed, skip_framed}
use Rattle.layouts.specs.Cut.{CutBefore, SameTo, CutOrLonger, RefusedAsCut, WholeOnly}
use Rattle.layouts.proofs.Little.{little_same, number_same}
use Rattle.layouts.proofs.Views.{num_short, text_short, chunk_short}
use Rattle.layouts.proofs.Placed.{never_both, Placed, on_number_lem, on_text, on_half, on_chunk, on_end, on_fault, run_placed, ends, placed_to}
use Rattle.layouts.proofs.Judge.{Step, is_bad, no_room, goes_on, text_step, chunk_step, judge_read}
use Rattle.layouts.proofs.Writers.{onward_ok}
use Rattle.layouts.proofs.Success.{string_within}
use Rattle.layouts.proofs.Follow.{Cut, cut_here, cut_half, cut_number, cut_text, cut_chunk, follow_run}

-- ---- what is cut is refused by 1
cut_skip : {p q : Pieces} → Cut p q → RefusedAsCut refused_by 0 (skip_of q)
unfolding skip_of
cut_skip (cut_here place) = (place, refl)
cut_skip (cut_half {m} {start} {len}) = (start + len, refl)
cut_skip (cut_number c) = cut_skip c
cut_skip (cut_text c) = cut_skip c
cut_skip (cut_chunk c) = cut_skip c

-- a string or a chunk in a layout that is read to its end
taken : {bad : Bool} {lacks fits : Type 0} {start x : ℕ} {r : Record} {o : Result Record} {e : Ended} (k : Record → Result Ended) → Step bad lacks fits start x r o
    → onward o k ≡ ok e → (o ≡ ok r) × (bad ≡ false) × (k r ≡ ok e)
taken k (is_bad b) e = absurd (never_both e)
taken k (no_room w l) e = absurd (never_both e)
taken k (goes_on b g) e = (refl, b, e)

module _ (s : List ℕ) (slots room : ℕ) (x : Ended) where
  cut_judge : {p q : Pieces} → Cut p q → (r : Record) → judge_of s slots room r p ≡ ok x → RefusedAsCut refused_by 0 (judge_of s slots room r q)
  unfolding judge_of half_taken
  cut_judge (cut_here place) r h = (place, refl)
  cut_judge (cut_half {m} {start} {len} {p}) r h =
      let t = taken (λ r'. judge_of s slots room r' p) (text_step s slots r m start len) h in
      (start + len, ap (λ (b : Bool). pick b (refused bad_text (text_end s start len) 0) (refused cut_short (start + len) 0)) t.1)
  cut_judge (cut_number {i} {n = n} c) r h = cut_judge c (noted r i n) h
  cut_judge (cut_text {m} {start} {len} {p} {q} c) r h =
      let t = taken (λ r'. judge_of s slots room r' p) (text_step s slots r m start len) h in
      let w = cut_judge c (entered r m) t.2 in
      (w.0, ap (λ (o : Result Record). onward o (λ r'. judge_of s slots room r' q)) t.0 ∙ w.1)
  cut_judge (cut_chunk {start} {len} {p} {q} c) r h =
      let t = taken (λ r'. judge_of s slots room r' p) (chunk_step room r start len) h in
      let w = cut_judge c (with_payload r (r.payload + len)) t.2 in
      (w.0, ap (λ (o : Result Record). onward o (λ r'. judge_of s slots room r' q)) t.0 ∙ w.1)

-- ---- reading looks at contents only
part_front : (start len hi : ℕ) (s : List ℕ) → start + len ≤ hi → take len (drop start (take hi s)) ≡ take len (drop start s)
part_front zero len hi s h = take-take len hi s (omega arith)
part_front (suc start) len zero s h = absurd (omega arith)
part_front (suc start) len (suc hi) [] h = refl
part_front (suc start) len (suc hi) (y ∷ s) h = part_front start len hi s (omega arith)

after_same : {A B : Type 0} (o : Result A) (k k' : A → Result B) → ((a : A) → k' a ≡ k a) → onward o k' ≡ onward o k
after_same (ok a) k k' f = f a
after_same (refused which place stream) k k' f = refl

module _ (s s' : List ℕ) (hi : ℕ) (same : SameTo hi s s') where
  part_same : (start len : ℕ) → start + len ≤ hi → take len (drop start s') ≡ take len (drop start s)
  part_same start len h = sym (part_front start len hi s' h) ∙ ap (λ (u : List ℕ). take len (drop start u)) same ∙ part_front start len hi s h

  text_same : (slots : ℕ) (r : Record) (m : Role) (start len : ℕ) → start + len ≤ hi → text_taken s' slots r m start len ≡ text_taken s slots r m start len
  unfolding text_taken not_text text_end
  text_same slots r m start len h = rw (part_same start len h)

  half_same : (m : Role) (start len : ℕ) → start + len ≤ hi → ◌≡◌ {A = Result Ended} (half_taken s' m start len) (half_taken s m start len)
  unfolding half_taken not_text text_end
  half_same m start len h = rw (part_same start len h)

  judge_same : {G : Type 0} {lo : ℕ} {p : Pieces} (slots room : ℕ) (r : Record) → Placed G hi lo p → judge_of s' slots room r p ≡ judge_of s slots room r p
  unfolding judge_of
  judge_same slots room r (on_number_lem {n} {i} lo place a b h) = judge_same slots room (noted r i n) h
  judge_same slots room r (on_text {m} {p} lo start len a b h) =
      ap (λ (o : Result Record). onward o (λ r'. judge_of s' slots room r' p)) (text_same slots r m start len (omega arith))
      ∙ after_same (text_taken s slots r m start len) (λ r'. judge_of s slots room r' p) (λ r'. judge_of s' slots room r' p) (λ r'. judge_same slots room r' h)
  judge_same slots room r (on_half {m} lo start len a b) = half_same m start len b
  judge_same slots room r (on_chunk {p} lo start len a b h) =
      after_same (chunk_taken room r start len) (λ r'. judge_of s slots room r' p) (λ r'. judge_of s' slots room r' p) (λ r'. judge_same slots room r' h)
  judge_same slots room r (on_end lo place a b) = refl
  judge_same slots room r (on_fault lo place a) = refl

  payload_same : {G : Type 0} {lo : ℕ} {p : Pieces} → Placed G hi lo p → payload_of s' p ≡ payload_of s p
  unfolding payload_of
  payload_same (on_number_lem lo place a b h) = payload_same h
  payload_same (on_text lo start len a b h) = payload_same h
  payload_same (on_half lo start len a b) = refl
  payload_same (on_chunk lo start len a b h) = rw (part_same start len b, payload_same h)
  payload_same (on_end lo place a b) = refl
  payload_same (on_fault lo place a) = refl

-- ---- a tree from a place on
module _ (s s' : List ℕ) (e : ℕ) (same : SameTo e s s') where
  pub same_length : e ≤ length s → e ≤ length s'
  same_length h =
      let l : length (take e s) ≡ e = length-take-le e s h in
      let m : length (take e s') ≡ length (take e s) = ap length same in
      let k : length (take e s') ≤ length s' = simp length-take (omega arith) in
      omega arith

  pub same_bytes : (x : ℕ) → x < e → get_or s' x 0 ≡ get_or s x 0
  same_bytes x h = sym (get_or-take e s' x 0 h) ∙ ap (λ (u : List ℕ). get_or u x 0) same ∙ get_or-take e s x 0 h

module _ (t : Tree) (s s' : List ℕ) (at e : ℕ) (h : at ≤ length s) (q : skip_of (run t s at) ≡ ok e) where
  -- with the same bytes up to its end it has the same pieces
  pub longer_run : SameTo e s s' → run t s' at ≡ run t s at
  longer_run same =
      let w = ends e (run_placed t s at h) q in
      let l = same_length s s' e same w.1 in
      (follow_run s s' e (λ x a b. same_bytes s s' e same x b) t at h (omega arith) q).whole l

  -- and on a shorter beginning a part of them
  pub cut_run : at ≤ length s' → CutBefore e s s' → Cut (run t s at) (run t s' at)
  cut_run l (n, g, c) =
      let w = ends e (run_placed t s at h) q in
      let m : length (take n s) ≡ n = length-take-le n s (omega arith) in
      let k : length s' ≡ length (take n s) = ap length c in
      (follow_run s s' e (λ x a b. ap (λ (u : List ℕ). get_or u x 0) c ∙ get_or-take n s x 0 (omega arith)) t at h l q).short (omega arith)

-- its pieces, and the payload that they hold
abbrev pub seen : Tree → (at : ℕ) → List ℕ → Pieces × List ℕ
seen t at s = (run t s at, payload_of s (run t s at))

-- the same of a tree that is read
module _ (t : Tree) (s s' : List ℕ) (at : ℕ) (h : at ≤ length s) (slots room : ℕ) (r : Record) (x : Ended) (e : judge_of s slots room r (run t s at) ≡ ok x) where
  skips : skip_of (run t s at) ≡ ok x.ends
  skips = (judge_read s slots room r (run t s at) x e).skips

  pub longer_read : SameTo x.ends s s' → (judge_of s' slots room r (run t s' at) ≡ ok x) × (seen t at s' ≡ seen t at s)
  longer_read c =
      let p = placed_to x.ends (run_placed t s at h) skips in
      let same = longer_run t s s' at x.ends h skips c in (
        ap (judge_of s' slots room r) same ∙ judge_same s s' x.ends c slots room r p ∙ e,
        ap (λ (o : Pieces). (o, payload_of s' o)) same ∙ ap (λ (l : List ℕ). (run t s at, l)) (payload_same s s' x.ends c p),
      )

  pub cut_read : at ≤ length s' → CutBefore x.ends s s' → RefusedAsCut refused_by 0 (judge_of s' slots room r (run t s' at))
  cut_read l (n, g, c) =
      let w = cut_judge s slots room x (cut_run t s s' at x.ends h skips l (n, g, c)) r e in
      let m : length s' ≡ n = ap length c ∙ length-take-le n s (let z = ends x.ends (run_placed t s at h) skips in omega arith) in
      let same : SameTo (length s') s s' = rw (m, c) (take-take n n s (omega arith)) in
      (w.0, judge_same s s' (length s') same slots room r (run_placed t s' at l) ∙ w.1)

-- a tree from the start of a stream, or one that begins with a number
pub data Starts : Tree → (at : ℕ) → Type 0 where
  at_zero : {t : Tree} → Starts t 0
  by_ask : {i : Target} {k : ℕ → Tree} {at : ℕ} → Starts (ask i k) at
  by_say : {m : Role} {k : Unit {0} → Tree} {at : ℕ} → Starts (say m k) at
  by_frames : {k : Unit {0} → Tree} {at : ℕ} → Starts (frames k) at

-- it is cut short at a place behind the stream
starts_cut : {t : Tree} {at : ℕ} → Starts t at → (s : List ℕ) → length s < at → run t s at ≡ fault cut_short at
unfolding run after_num after_text chunks after_chunk
starts_cut at_zero s h = absurd (omega arith)
starts_cut {at} by_ask s h = rw (num_short (length s) (number_at s at) at (omega arith))
starts_cut {at} by_say s h = rw (text_short (length s) (number_at s at) at (omega arith))
starts_cut {at} by_frames s h = rw (chunk_short (length s) (number_at s at) at (omega arith))

module _ {t : Tree} {at : ℕ} (b : Starts t at) where
  starts_within : (s : List ℕ) (e : ℕ) → skip_of (run t s at) ≡ ok e → at ≤ length s
  unfolding skip_of
  starts_within s e q = by (dec_le at (length s))
    where
      by : Dec (at ≤ length s) → at ≤ length s
      by (yes h) = h
      by (no h) = absurd (never_both (sym (ap skip_of (starts_cut b s (omega arith))) ∙ q))

  skip_cut : (s s' : List ℕ) (e : ℕ) → skip_of (run t s at) ≡ ok e → CutBefore e s s' → Dec (at ≤ length s') → RefusedAsCut refused_by 0 (skip_of (run t s' at))
  unfolding skip_of
  skip_cut s s' e q c (yes l) = cut_skip (cut_run t s s' at e (starts_within s e q) q l c)
  skip_cut s s' e q c (no l) = (at, ap skip_of (starts_cut b s' (omega arith)))

  -- skipped
  pub skip_whole : WholeOnly (λ s. skip_of (run t s at)) (λ e. e) 0 (λ s. run t s at)
  skip_whole =
      record {
        within = λ s e q. (ends e (run_placed t s at (starts_within s e q)) q).1;
        cut = λ s s' e q c. skip_cut s s' e q c (dec_le at (length s'));
        longer = λ s s' e q c. let same = longer_run t s s' at e (starts_within s e q) q c in (ap skip_of same ∙ q, same);
      }

  module _ (slots room : ℕ) (r : Record) where
    read_cut : (s s' : List ℕ) (x : Ended) → judge_of s slots room r (run t s at) ≡ ok x → CutBefore x.ends s s' → Dec (at ≤ length s')
        → RefusedAsCut refused_by 0 (judge_of s' slots room r (run t s' at))
    unfolding judge_of
    read_cut s s' x e c (yes l) = cut_read t s s' at (starts_within s x.ends (judge_read s slots room r (run t s at) x e).skips) slots room r x e l c
    read_cut s s' x e c (no l) = (at, ap (judge_of s' slots room r) (starts_cut b s' (omega arith)))

    -- read
    pub read_whole : WholeOnly (λ s. judge_of s slots room r (run t s at)) (λ x. x.ends) 0 (seen t at)
    read_whole =
        record {
          within = λ s x e. let q = (judge_read s slots room r (run t s at) x e).skips in (ends x.ends (run_placed t s at (starts_within s x.ends q)) q).1;
          cut = λ s s' x e c. read_cut s s' x e c (dec_le at (length s'));
          longer = λ s s' x e c. longer_read t s s' at (starts_within s x.ends (judge_read s slots room r (run t s at) x e).skips) slots room r x e c;
        }

-- ---- an answer that is made of what is said and of what is kept
pub same_ok : {A : Type 0} {x y : A} → ◌≡◌ {A = Result A} (ok x) (ok y) → x ≡ y
same_ok e = cc

module _ {A B K : Type 0} {said : List ℕ → Result A} {ends : A → ℕ} {stream : ℕ} {keeps : List ℕ → K} (w : WholeOnly said ends stream keeps) where
  pub answer_whole : (f : K → A → Result B) (ends' : B → ℕ) → ((k : K) (x : A) (y : B) → f k x ≡ ok y → ends' y ≡ ends x)
      → WholeOnly (λ s. onward (said s) (f (keeps s))) ends' stream keeps
  answer_whole f ends' same =
      record {
        within = λ s y e.
            let o = onward_ok (said s) (f (keeps s)) y e in
            rw (same (keeps s) o.0 y o.2) (w.within s o.0 o.1);
        cut = λ s s' y e c.
            let o = onward_ok (said s) (f (keeps s)) y e in
            let z = w.cut s s' o.0 o.1 (rw (same (keeps s) o.0 y o.2) at c) in
            (z.0, ap (λ (r : Result A). onward r (f (keeps s'))) z.1);
        longer = λ s s' y e c.
            let o = onward_ok (said s) (f (keeps s)) y e in
            let z = w.longer s s' o.0 o.1 (rw (same (keeps s) o.0 y o.2) at c) in
            (ap (λ (r : Result A). onward r (f (keeps s'))) z.0 ∙ ap (λ (k : K). f k o.0) z.1 ∙ o.2, z.1);
      }

-- ---- a call that is made on s and again on s', with the same room: what is said, and what the room holds
module _ {A K : Type 0} {said : List ℕ → Result A} {ends : A → ℕ} {stream : ℕ} {keeps : List ℕ → K} (w : WholeOnly said ends stream keeps) (s s' : List ℕ) (x : A)
    (e : said s ≡ ok x) where
  pub cut_lent : CutBefore (ends x) s s' → RefusedAsCut refused_by stream (said s') × ((new lent : List ℕ) → lent_after (said s') new lent ≡ lent)
  cut_lent c = let z = w.cut s s' x e c in (z, λ new lent. ap (λ (o : Result A). lent_after o new lent) z.1)

  pub longer_lent : SameTo (ends x) s s'
      → (said s' ≡ said s) × ((f : K → List ℕ) (lent : List ℕ) → lent_after (said s') (f (keeps s')) lent ≡ lent_after (said s) (f (keeps s)) lent)
  longer_lent c =
      let z = w.longer s s' x e c in
      let same = z.0 ∙ sym e in
      (same, λ f lent. ap (λ (o : Result A). lent_after o (f (keeps s')) lent) same ∙ ap (λ (k : K). lent_after (said s) (f k) lent) z.1)

  -- r and r' are answers that mean what is said, and no other answer does
  module _ {R : Type 0} {means : R → Result A} (told : (r r' : R) → means r ≡ means r' → r ≡ r') (refuses : Refusal → R)
      (means-refused : (y : Refusal) → means (refuses y) ≡ refused_by y) (r r' : R) (p : means r ≡ said s) (q : means r' ≡ said s') where
    as_cut : RefusedAsCut refused_by stream (said s') → RefusedAsCut refuses stream r'
    as_cut (place, c) = (place, told r' (refuses (refusal cut_short place stream)) (q ∙ c ∙ sym (means-refused (refusal cut_short place stream))))

    pub told_whole : CutOrLonger (ends x) s s' (RefusedAsCut refuses stream r') (r' ≡ r)
    told_whole = (λ c. as_cut (cut_lent c).0, λ c. told r' r (q ∙ (longer_lent c).0 ∙ sym p))

    -- new is what goes into the room
    pub told_room : (new : K → List ℕ) (lent lent' out out' : List ℕ) → lent' ≡ lent → out ≡ lent_after (said s) (new (keeps s)) lent → out' ≡ lent_after (said s') (new (keeps s')) lent
        → CutOrLonger (ends x) s s' (RefusedAsCut refuses stream r' × (out' ≡ lent')) ((r' ≡ r) × (out' ≡ out))
    told_room new lent lent' out out' same f f' = (
      λ c. (told_whole.0 c, f' ∙ (cut_lent c).1 _ lent ∙ sym same),
      λ c. (told_whole.1 c, f' ∙ (longer_lent c).1 new lent ∙ sym f),
    )

-- ---- replies and arguments
module _ (t : Tree) (v : Version) (k : Kinds) (slots room : ℕ) where
  call_whole : WholeOnly (λ s. read_of v k slots room s t) (λ x. x.ends) 0 (seen t 0)
  call_whole = answer_whole (read_whole at_zero slots room blank) (λ y e. answered v k (ok e)) (λ x. x.ends) (λ y e x q. sym (ap (λ (w : Answer). w.ends) (same_ok q)))

module _ (op : ℕ) (v : Version) where
  pub read_reply_whole : (slots room : ℕ) → WholeOnly (λ s. read_daemon_result op v s slots room) (λ x. x.ends) 0 (seen (reply_tree op v) 0)
  unfolding read_daemon_result
  read_reply_whole slots room = call_whole (reply_tree op v) v (reply_kinds op) slots room

  pub skip_reply_whole : WholeOnly (λ s. skip_daemon_result op v s) (λ e. e) 0 (λ s. run (reply_tree op v) s 0)
  unfolding skip_daemon_result
  skip_reply_whole = skip_whole at_zero

module _ (c : Context) where
  pub read_arguments_whole : (slots room : ℕ) → WholeOnly (λ s. read_op_args c s slots room) (λ x. x.ends) 0 (seen (arguments_tree c) 0)
  unfolding read_op_args
  read_arguments_whole slots room = call_whole (arguments_tree c) c.spoken (arguments_kinds c) slots room

  pub skip_arguments_whole : WholeOnly (λ s. skip_op_args c s) (λ x. x.ends) 0 (seen (skipped_tree c) 0)
  unfolding skip_op_args
  skip_arguments_whole = call_whole (skipped_tree c) c.spoken (skipped_kinds c) 1 0

-- ---- one field, from a place on. A place behind the stream is cut short too
module _ (at : ℕ) where
  starts : (w : What) → Starts (field w) at
  unfolding layout
  starts (num i) = by_ask
  starts (str r) = by_say
  starts (set r i) = by_ask
  starts (pairs r i) = by_ask
  starts framed = by_frames
  starts maybe = by_ask
  starts typed = by_ask
  starts position = by_ask

  read_field_whole : (w : What) (slots room : ℕ) → WholeOnly (λ s. read_field w s at slots room) (λ x. x.ends) 0 (seen (field w) at)
  read_field_whole w slots room = read_whole (starts w) slots room blank

  skip_field_whole : (w : What) → WholeOnly (λ s. skip_of (run (field w) s at)) (λ e. e) 0 (λ s. run (field w) s at)
  skip_field_whole w = skip_whole (starts w)

  pub skip_framed_whole : WholeOnly (λ s. skip_framed s at) (λ x. x.ends) 0 (λ s. run (field framed) s at)
  skip_framed_whole =
      answer_whole (skip_field_whole framed) (λ p e. ok (record { found = with_number blank 0 (total_of p); ends = e })) (λ x. x.ends)
      (λ p e x q. sym (ap (λ (w : Ended). w.ends) (same_ok q)))

  pub read_number_whole : WholeOnly (λ s. read_number s at) (λ x. x.ends) 0 (seen (field (num (as_number 0))) at)
  read_number_whole = read_field_whole (num (as_number 0)) 0 0

  pub read_set_whole : (slots : ℕ) → WholeOnly (λ s. read_string_set s at slots) (λ x. x.ends) 0 (seen (field (set kept (as_count 0))) at)
  read_set_whole slots = read_field_whole (set kept (as_count 0)) slots 0

  pub skip_set_whole : WholeOnly (λ s. skip_string_set s at) (λ x. x.ends) 0 (seen (field (set passed (as_number 0))) at)
  skip_set_whole = read_field_whole (set passed (as_number 0)) 0 0

  pub read_framed_whole : (room : ℕ) → WholeOnly (λ s. read_framed s at room) (λ x. x.ends) 0 (seen (field framed) at)
  read_framed_whole room = read_field_whole framed 0 room

  -- of a string its length is kept
  length_kept : (m : Role) (s s' : List ℕ) (e : ℕ) → skip_of (run (field (str m)) s at) ≡ ok e → SameTo e s s' → number_at s' at ≡ number_at s at
  length_kept m s s' e q c =
      let w = string_within s m at e q in number_same s s' at (λ x a b. same_bytes s s' e c x (omega arith))

  pub skip_string_whole : WholeOnly (λ s. skip_string s at) (λ e. e) 0 (λ s. number_at s at)
  skip_string_whole =
      let w = skip_field_whole (str passed) in
      record { within = w.within; cut = w.cut; longer = λ s s' e q c. ((w.longer s s' e q c).0, length_kept passed s s' e q c) }

  pub read_string_whole : WholeOnly (λ s. read_string s at) (λ x. x.ends) 0 (λ s. number_at s at)
  read_string_whole =
      let w = read_field_whole (str kept) 1 0 in
      record {
        within = w.within;
        cut = w.cut;
        longer = λ s s' x e c. ((w.longer s s' x e c).0, length_kept kept s s' x.ends (judge_read s 1 0 blank (run (field (str kept)) s at) x e).skips c);
      }

  -- a u32 is no field of a layout
  abbrev four : List ℕ → Bool → Result Ended
  four s b = pick b (ok (record { found = with_number blank 0 (little_at 4 s at); ends = at + 4 })) (refused cut_short at 0)

  four_same : (s s' : List ℕ) (x : Ended) → at + 4 ≤ length s' → little_at 4 s' at ≡ little_at 4 s at → four s true ≡ ok x → read_u32 s' at ≡ ok x
  four_same s s' x h f e = rw (le-leb (at + 4) (length s') h, f) e

  four_there : (s : List ℕ) (x : Ended) (b : Bool) → leb (at + 4) (length s) ≡ b → four s b ≡ ok x → (at + 4 ≤ length s) × (four s true ≡ ok x)
  four_there s x true h e = (leb-true (at + 4) (length s) h, e)
  four_there s x false h e = absurd (never_both e)

  pub read_u32_whole : WholeOnly (λ s. read_u32 s at) (λ x. x.ends) 0 (λ s. little_at 4 s at)
  read_u32_whole =
      record {
        within = λ s x e.
            let w = four_there s x (leb (at + 4) (length s)) refl e in
            let z : at + 4 ≡ x.ends = cc in
            omega arith;
        cut = λ s s' x e (n, g, c).
            let w = four_there s x (leb (at + 4) (length s)) refl e in
            let z : at + 4 ≡ x.ends = cc in
            let m : length s' ≡ n = ap length c ∙ length-take-le n s (omega arith) in
            (at, ap (four s') (lt-leb (at + 4) (length s') (omega arith)));
        longer = λ s s' x e c.
            let w = four_there s x (leb (at + 4) (length s)) refl e in
            let z : at + 4 ≡ x.ends = cc in
            let l = same_length s s' x.ends c (omega arith) in
            let f = little_same 4 s s' at (λ y a b. same_bytes s s' x.ends c y (omega arith)) in
            (four_same s s' x (omega arith) f w.1, f);
      }
