-- What an answer of a writer tells of its strings and of its output, and what is written where there is room.
use Prim.Native.Nat.{ℕ, zero, suc, ◌+◌, ◌≤◌, ◌<◌}
use mathlib.Core.Path.{◌≡◌, refl, sym, ◌∙◌, ap, subst}
use mathlib.Core.List.{List, [], ◌∷◌, ◌++◌}
use mathlib.Core.Bool.{Bool, true, false}
use lib.ListN.{length, get_or, take, drop, take-append-drop}
use lib.Seq.{drop-drop, take_at}
use lib.Dec.{leb}
use borrow.Author.Tests.{le-leb}
use native.Mathlib.Omega.{arith}
use native.Mathlib.Nat.{add-zero}
use Rattle.text.specs.Prefix.{is_text}
use Rattle.text.specs.Rfc3629.{Text}
use Rattle.text.proofs.Meaning.{is_text_lem, text_is}
use Rattle.layouts.specs.Primitive.{pick, limit, bad_text, output_full, no_such_entry, Result, ok, refused, onward}
use Rattle.layouts.specs.Judge.{lent_after}
use Rattle.layouts.specs.Writers.{slots_of, view_of, string_bytes, set_bytes, writing, write_string, text_at, texts_from, texts_of, write_string_set, output_of}
use Rattle.layouts.specs.Demands.{Strings}
use Rattle.layouts.proofs.Placed.{never_both}

pub onward_ok : {A B : Type 0} (o : Result A) (k : A → Result B) (x : B) → onward o k ≡ ok x → (a : A) × (o ≡ ok a) × (k a ≡ ok x)
onward_ok (ok a) k x h = (a, refl, h)
onward_ok (refused which place stream) k x h = absurd (never_both h)

pub pick_ok : {A : Type 0} (b : Bool) (which place : ℕ) (o : Result A) (x : A) → pick b o (refused which place 0) ≡ ok x → (b ≡ true) × (o ≡ ok x)
pick_ok true which place o x h = (refl, h)
pick_ok false which place o x h = absurd (never_both h)

-- ---- from the answer on: n is the length of the whole output, a string that is written is text
pub writing_told : (b lent : List ℕ) (n : ℕ) → writing b lent ≡ ok n → length b ≡ n
unfolding writing
writing_told b lent n q = let z = (pick_ok (leb (length b) (length lent)) output_full 0 (ok (length b)) n q).1 in cc

pub string_told : (c lent : List ℕ) (n : ℕ) → write_string c lent ≡ ok n → Text c × (length (string_bytes c) ≡ n)
unfolding write_string
string_told c lent n q = let z = pick_ok (is_text c) bad_text 0 (writing (string_bytes c) lent) n q in (is_text_lem c z.0, writing_told (string_bytes c) lent n z.1)

module _ (bytes es : List ℕ) where
  text_told_lem : (i : ℕ) (c : List ℕ) → text_at bytes es i ≡ ok c → (view_of bytes es i ≡ ok c) × Text c
  unfolding text_at
  text_told_lem i c q =
      let v = onward_ok (view_of bytes es i) (λ d. pick (is_text d) (ok d) (refused bad_text i 0)) c q in
      let z = pick_ok (is_text v.0) bad_text i (ok v.0) c v.2 in
      let d : v.0 ≡ c = let o = z.1 in cc in
      (v.1 ∙ ap ok d, is_text_lem c (rw d at z.0))

  -- these are n strings from number i on: each is what its entry says, and text
  pub record Told (n i : ℕ) (cs : List (List ℕ)) : Type 0 where
    pub many : length cs ≡ n
    pub views : (k : ℕ) → k < n → view_of bytes es (i + k) ≡ ok (get_or cs k [])
    pub fine : ((k : ℕ) → k < n → length (get_or cs k []) ≤ limit) → Strings cs

  one_more : (n i : ℕ) (c : List ℕ) (cs : List (List ℕ)) → text_at bytes es i ≡ ok c → Told n (i + 1) cs → Told (suc n) i (c ∷ cs)
  one_more n i c cs q t =
      let z = text_told_lem i c q in
      record {
        many = ap suc t.many;
        views = λ k h. by k h;
        fine = λ l. (z.1, l 0 (omega arith), t.fine (λ k h. l (suc k) (omega arith)));
      }
    where
      by : (k : ℕ) → k < suc n → view_of bytes es (i + k) ≡ ok (get_or (c ∷ cs) k [])
      by zero h = rw add-zero (text_told_lem i c q).0
      by (suc k) h = ap (view_of bytes es) (omega arith) ∙ t.views k (omega arith)

  pub texts_told : (n i : ℕ) (cs : List (List ℕ)) → texts_from bytes es n i ≡ ok cs → Told n i cs
  unfolding texts_from
  texts_told zero i cs q =
      let z : [] ≡ cs = cc in
      subst (Told 0 i) z (record { many = refl; views = λ k h. absurd (omega arith); fine = λ l. tt })
  texts_told (suc n) i cs q =
      let a = onward_ok (text_at bytes es i) (λ c. onward (texts_from bytes es n (i + 1)) (λ ds. ok (c ∷ ds))) cs q in
      let b = onward_ok (texts_from bytes es n (i + 1)) (λ ds. ok (a.0 ∷ ds)) cs a.2 in
      let z : a.0 ∷ b.0 ≡ cs = let o = b.2 in cc in
      subst (Told (suc n) i) z (one_more n i a.0 b.0 a.1 (texts_told n (i + 1) b.0 b.1))

  -- so are the strings of a set that is written
  pub set_texts : (count : ℕ) (cs : List (List ℕ)) → texts_of bytes es count ≡ ok cs → Told count 0 cs
  unfolding texts_of
  set_texts count cs q = texts_told count 0 cs (pick_ok (leb count (slots_of es)) no_such_entry count (texts_from bytes es count 0) cs q).1

  pub set_told : (count : ℕ) (lent : List ℕ) (n : ℕ) → write_string_set bytes es count lent ≡ ok n → (cs : List (List ℕ)) × (texts_of bytes es count ≡ ok cs) × (length (set_bytes cs) ≡ n)
  unfolding write_string_set
  set_told count lent n q =
      let a = onward_ok (texts_of bytes es count) (λ cs. writing (set_bytes cs) lent) n q in
      (a.0, a.1, writing_told (set_bytes a.0) lent n a.2)

-- a stream that has the n bytes of an output b at a place
pub stands : (o : Result ℕ) (n : ℕ) (b lent out s : List ℕ) (at : ℕ) → o ≡ ok n → length b ≡ n → out ≡ lent_after o b lent → take n (drop at s) ≡ take n out → drop at s ≡ b ++ drop (at + n) s
stands o n b lent out s at q l e h =
    sym (take-append-drop n (drop at s)) ∙ ap (λ (x : List ℕ). x ++ drop n (drop at s)) (h ∙ ap (take n) (e ∙ ap (λ (x : Result ℕ). lent_after x b lent) q) ∙ take_at b (drop (length b) lent) n l)
    ∙ ap (λ (x : List ℕ). b ++ x) (drop-drop n at s)

-- ---- with room, what was not refused before is written
pub writing_fits : (b lent : List ℕ) → length b ≤ length lent → writing b lent ≡ ok (length b)
unfolding writing
writing_fits b lent h = simp (le-leb (length b) (length lent) h)

pub string_fits : (c lent : List ℕ) → Text c → length (string_bytes c) ≤ length lent → write_string c lent ≡ ok (length (string_bytes c))
unfolding write_string
string_fits c lent t h = rw (text_is c t) (writing_fits (string_bytes c) lent h)

pub set_fits : (bytes es lent : List ℕ) (count : ℕ) (cs : List (List ℕ)) → texts_of bytes es count ≡ ok cs → length (set_bytes cs) ≤ length lent
    → (write_string_set bytes es count lent ≡ ok (length (set_bytes cs))) × (output_of (texts_of bytes es count) ≡ set_bytes cs)
unfolding write_string_set
set_fits bytes es lent count cs q h = rw q (writing_fits (set_bytes cs) lent h, refl)

-- the output begins with what the stream has there
pub begins : (o : Result ℕ) (b lent out s u : List ℕ) (at : ℕ) → o ≡ ok (length b) → out ≡ lent_after o b lent → drop at s ≡ b ++ u → take (length b) out ≡ take (length b) (drop at s)
begins o b lent out s u at q e h =
    ap (take (length b)) (e ∙ ap (λ (x : Result ℕ). lent_after x b lent) q) ∙ take_at b (drop (length b) lent) (length b) refl ∙ sym (ap (take (length b)) h ∙ take_at b u (length b) refl)
