-- Sets: what an entry takes, how a set is judged, and how it is written.
use Prim.Native.Nat.{ℕ, zero, suc, ◌+◌, ◌-◌, ◌≤◌, ◌<◌}
use mathlib.Core.Path.{◌≡◌, refl, sym, ap, ◌∙◌}
use mathlib.Core.List.{List, [], ◌∷◌, ◌++◌}
use mathlib.Core.Bool.{Bool, true, false, not}
use lib.Dec.{leb}
use lib.ListN.{length, take, drop, length-append}
use native.Mathlib.Nat.{sub-zero, add-sub_cancel_left}
use native.Mathlib.Omega.{arith}
use native.Mathlib.Decide.{dec_le, dec_lt}
use borrow.Author.Tests.{le-leb, lt-leb, le-ltb, lt-ltb, leb-true, not-false}
use Rattle.text.specs.Rfc3629.{Judged}
use Rattle.text.specs.Prefix.{is_text}
use Rattle.text.proofs.Meaning.{judged_is}
use Rattle.layouts.specs.Primitive.{Result, ok, refused, onward, pick, number_bytes, bad_text, no_such_entry}
use Rattle.layouts.specs.declared.Refusal.{Refusal}
use Rattle.layouts.specs.Refusal.{plain, refused_by}
use Rattle.layouts.specs.Judge.{lent_after}
use Rattle.layouts.specs.Writers.{slots_of, view_of, part_of, string_bytes, strings_bytes, set_bytes, writing, text_at, texts_from, texts_of, write_string_set, output_of}
use Rattle.entries.specs.Entries.{place_of, found}
use Rattle.entries.proofs.Places.{inside, refused_view}
use Rattle.layouts.proofs.Little.{length_number}
use Rattle.writers_sets.specs.Sets.{fitting, text_taken, entry_taken, grown, strings_judged, set_judged, parts_from, strings_put}
use Rattle.writers_output.specs.Placed.{placed}
use Rattle.writers_output.proofs.Laws.{placed_fits, length_placed, done, then}
use Rattle.entries.specs.declared.Located.{Located}
use Rattle.std.specs.Prelude as Std
use Rattle.std.specs.Prelude.{Ok, Err}

-- a string, by its text
module _ (i : ℕ) (c : List ℕ) (x : Bool) (j : Judged x c) where
  pub text_fine : x ≡ true → (n : ℕ) → n ≡ length (string_bytes c) → ok n ≡ text_taken i c
  text_fine f n l = let t : is_text c ≡ true = sym (judged_is x c j) ∙ f in rw (t, l)

  pub text_bad : x ≡ false → (r : Refusal) → r ≡ plain bad_text i → refused_by r ≡ text_taken i c
  text_bad f r q = let t : is_text c ≡ false = sym (judged_is x c j) ∙ f in rw (t, q)

-- an entry, by its place
module _ (bytes es : List ℕ) (i : ℕ) where
  by_text : (c : List ℕ) (b : Bool) → pick b (ok (length (string_bytes c))) (refused bad_text i 0) ≡ onward (pick b (ok c) (refused bad_text i 0)) (λ d. ok (length (string_bytes d)))
  by_text c true = refl
  by_text c false = refl

  by_view : (v : Result (List ℕ)) → view_of bytes es i ≡ v → onward v (text_taken i) ≡ entry_taken bytes es i
  unfolding text_at
  by_view (ok c) e = rw e (by_text c (is_text c))
  by_view (refused w p s) e = rw e

  module _ (f : Std.Result Located Refusal) (e : found f ≡ place_of bytes es i) where
    pub entry_refused : (r : Refusal) → f ≡ Err r → refused_by r ≡ entry_taken bytes es i
    entry_refused r q = by_view (refused_by r) (refused_view bytes es i f e r q)

    pub entry_taken_lem : (start len : ℕ) → f ≡ Ok (record { start = start; len = len }) → (o : Result ℕ) → o ≡ text_taken i (take (start + len - start) (drop start bytes)) → o ≡ entry_taken bytes es i
    entry_taken_lem start len q o t = t ∙ rw add-sub_cancel_left (by_view (ok (take len (drop start bytes))) (inside bytes es i f e start len q).view)

-- ---- judging: what is left of the loop
unfoldable pub set_from : (bytes es : List ℕ) → (room n i total : ℕ) → Result ℕ
set_from bytes es room zero i t = fitting t room
set_from bytes es room (suc n) i t = onward (entry_taken bytes es i) (λ k. set_from bytes es room n (i + 1) (grown room t k))

pub grown_fits : (room : ℕ) → room < 9223372036854775808 → (t k m : ℕ) → fitting (grown room t k + m) room ≡ fitting (t + (k + m)) room
grown_fits room h t k m = go (dec_lt room t) (dec_lt (room - t) k)
  where
    go : Dec (room < t) → Dec (room - t < k) → fitting (grown room t k + m) room ≡ fitting (t + (k + m)) room
    go (yes p) q = simp (lt-ltb room t p, lt-leb (t + m) room (omega arith), lt-leb (t + (k + m)) room (omega arith))
    go (no p) (yes q) = simp (le-ltb room t (omega arith), lt-ltb (room - t) k q, lt-leb (18446744073709551615 + m) room (omega arith), lt-leb (t + (k + m)) room (omega arith))
    go (no p) (no q) = let a : t + k + m ≡ t + (k + m) = omega arith in simp (le-ltb room t (omega arith), le-ltb (room - t) k (omega arith), a)

module _ (bytes es : List ℕ) (room : ℕ) (h : room < 9223372036854775808) where
  set_texts : (n i t : ℕ) → set_from bytes es room n i t ≡ onward (texts_from bytes es n i) (λ cs. fitting (t + length (strings_bytes cs)) room)
  unfolding texts_from strings_bytes set_from
  set_texts zero i t = ap (λ (k : ℕ). fitting k room) (omega arith)
  set_texts (suc n) i t = go (text_at bytes es i) (texts_from bytes es n (i + 1)) (λ k. set_from bytes es room n (i + 1) k) (λ k. set_texts n (i + 1) k)
    where
      go : (r : Result (List ℕ)) (q : Result (List (List ℕ))) (f : ℕ → Result ℕ) → ((k : ℕ) → f k ≡ onward q (λ cs. fitting (k + length (strings_bytes cs)) room))
          → onward (onward r (λ c. ok (length (string_bytes c)))) (λ k. f (grown room t k))
          ≡ onward (onward r (λ c. onward q (λ cs. ok (c ∷ cs)))) (λ cs. fitting (t + length (strings_bytes cs)) room)
      go (refused w p s) q f g = refl
      go (ok c) (refused w p s) f g = g (grown room t (length (string_bytes c)))
      go (ok c) (ok cs) f g =
          g (grown room t (length (string_bytes c))) ∙ grown_fits room h t (length (string_bytes c)) (length (strings_bytes cs))
          ∙ ap (λ (k : ℕ). fitting (t + k) room) (sym (length-append (string_bytes c) (strings_bytes cs)))

pub length_set_bytes : (cs : List (List ℕ)) → length (set_bytes cs) ≡ 8 + length (strings_bytes cs)
unfolding set_bytes
length_set_bytes cs = length-append (number_bytes (length cs)) (strings_bytes cs) ∙ ap (λ (k : ℕ). k + length (strings_bytes cs)) (length_number (length cs))

-- i entries judged, with their total
pub record Judging (bytes es : List ℕ) (count room before total i : ℕ) : Type 0 where
  pub same : set_from bytes es room (count - i) i total ≡ strings_judged room before (texts_from bytes es count 0)
  pub within : i ≤ count

module _ (bytes es : List ℕ) (count room : ℕ) where
  module _ (before : ℕ) where
    pub judging_start : room < 9223372036854775808 → Judging bytes es count room before before 0
    judging_start h = record { same = rw sub-zero (set_texts bytes es room h count 0 before); within = omega arith }

    module _ (total i : ℕ) (j : Judging bytes es count room before total i) where
      pub judging_turn : i < count → (n t : ℕ) → ok n ≡ entry_taken bytes es i → t ≡ grown room total n → Judging bytes es count room before t (i + 1)
      unfolding set_from
      judging_turn h n t e g =
          let s : count - i ≡ suc (count - (i + 1)) = omega arith in
          let o = simp (s, sym e) at j.same in
          record { same = rw g o; within = omega arith }

      pub judging_refused : i < count → (x : Refusal) → refused_by x ≡ entry_taken bytes es i → refused_by x ≡ strings_judged room before (texts_from bytes es count 0)
      unfolding set_from
      judging_refused h x e =
          let s : count - i ≡ suc (count - (i + 1)) = omega arith in
          simp (s, sym e) at j.same

      pub judging_end : count ≤ i → (w : Result ℕ) → w ≡ fitting total room → w ≡ strings_judged room before (texts_from bytes es count 0)
      unfolding set_from
      judging_end h w e =
          let o = j.within in
          let s : count - i ≡ 0 = omega arith in
          e ∙ (simp s at j.same)

  -- a set is its count and the strings
  module _ (n : ℕ) (s : n ≡ slots_of es) where
    pub set_many : n < count → (r : Refusal) → r ≡ plain no_such_entry count → refused_by r ≡ set_judged room (texts_of bytes es count)
    unfolding texts_of
    set_many h r e = simp (e, lt-leb count (slots_of es) (omega arith))

    pub set_judged_lem : count ≤ n → (o : Result ℕ) → o ≡ strings_judged room 8 (texts_from bytes es count 0) → o ≡ set_judged room (texts_of bytes es count)
    unfolding texts_of
    set_judged_lem h o e = e ∙ simp (le-leb count (slots_of es) (omega arith), length_set_bytes)

-- ---- writing: a set that is judged fine is its parts
text_part : (bytes es : List ℕ) (i : ℕ) (c : List ℕ) → text_at bytes es i ≡ ok c → c ≡ part_of (view_of bytes es i)
unfolding text_at
text_part bytes es i c e = go (view_of bytes es i) e
  where
    test : (p : List ℕ) (b : Bool) → pick b (ok p) (refused 3 i 0) ≡ ok c → c ≡ p
    test p true f = cc
    test p false f = let z : ◌≡◌ {A = ℕ} 0 1 = cc in absurd (omega arith)

    go : (v : Result (List ℕ)) → onward v (λ d. pick (is_text d) (ok d) (refused 3 i 0)) ≡ ok c → c ≡ part_of v
    go (ok p) f = test p (is_text p) f
    go (refused w p s) f = let z : ◌≡◌ {A = ℕ} 0 1 = cc in absurd (omega arith)

pub texts_parts : (bytes es : List ℕ) (n i : ℕ) (cs : List (List ℕ)) → texts_from bytes es n i ≡ ok cs → cs ≡ parts_from bytes es n i
unfolding texts_from parts_from
texts_parts bytes es zero i cs e = cc
texts_parts bytes es (suc n) i cs e = go (text_at bytes es i) (texts_from bytes es n (i + 1)) (text_part bytes es i) (texts_parts bytes es n (i + 1)) e
  where
    go : (r : Result (List ℕ)) (q : Result (List (List ℕ))) → ((c : List ℕ) → r ≡ ok c → c ≡ part_of (view_of bytes es i))
        → ((ds : List (List ℕ)) → q ≡ ok ds → ds ≡ parts_from bytes es n (i + 1)) → onward r (λ c. onward q (λ ds. ok (c ∷ ds))) ≡ ok cs
        → cs ≡ part_of (view_of bytes es i) ∷ parts_from bytes es n (i + 1)
    go (ok c) (ok ds) f g h = let a = f c refl in let b = g ds refl in cc
    go (ok c) (refused w p s) f g h = let z : ◌≡◌ {A = ℕ} 0 1 = cc in absurd (omega arith)
    go (refused w p s) q f g h = let z : ◌≡◌ {A = ℕ} 0 1 = cc in absurd (omega arith)

pub length_parts : (bytes es : List ℕ) (n i : ℕ) → length (parts_from bytes es n i) ≡ n
unfolding parts_from
length_parts bytes es zero i = refl
length_parts bytes es (suc n) i = ap suc (length_parts bytes es n (i + 1))

-- the answer of the judge says how a set's texts are found, that they are its parts, and that they fit
record SetFits (bytes es : List ℕ) (count room n : ℕ) : Type 0 where
  pub texts : texts_of bytes es count ≡ ok (parts_from bytes es count 0)
  pub size : n ≡ length (set_bytes (parts_from bytes es count 0))
  pub fits : n ≤ room

module _ (bytes es : List ℕ) (count room n : ℕ) where
  texts_few : count ≤ slots_of es → texts_of bytes es count ≡ texts_from bytes es count 0
  unfolding texts_of
  texts_few h = simp (le-leb count (slots_of es) h)

  texts_many : slots_of es < count → texts_of bytes es count ≡ refused 11 count 0
  unfolding texts_of
  texts_many h = simp (lt-leb count (slots_of es) h)

  fits_by : count ≤ slots_of es → (cs : List (List ℕ)) → texts_from bytes es count 0 ≡ ok cs → (x : Bool) → leb (length (set_bytes cs)) room ≡ x
      → pick x (ok (length (set_bytes cs))) (refused 10 0 0) ≡ ok n → SetFits bytes es count room n
  fits_by h cs e false f g = let z : ◌≡◌ {A = ℕ} 0 1 = cc in absurd (omega arith)
  fits_by h cs e true f g =
      let p = texts_parts bytes es count 0 cs e in
      let m : length (set_bytes cs) ≡ n = cc in
      let r = leb-true (length (set_bytes cs)) room f in
      record {
        texts = texts_few h ∙ e ∙ ap ok p;
        size = sym m ∙ ap (λ (ds : List (List ℕ)). length (set_bytes ds)) p;
        fits = omega arith;
      }

  fits_few : count ≤ slots_of es → (q : Result (List (List ℕ))) → texts_from bytes es count 0 ≡ q → set_judged room q ≡ ok n → SetFits bytes es count room n
  fits_few h (ok cs) e f = fits_by h cs e (leb (length (set_bytes cs)) room) refl f
  fits_few h (refused w p s) e f = let z : ◌≡◌ {A = ℕ} 0 1 = cc in absurd (omega arith)

  set_fits : (r : Result ℕ) → r ≡ set_judged room (texts_of bytes es count) → r ≡ ok n → SetFits bytes es count room n
  set_fits r e f = go (dec_le count (slots_of es))
    where
      go : Dec (count ≤ slots_of es) → SetFits bytes es count room n
      go (yes h) = fits_few h (texts_from bytes es count 0) refl (ap (set_judged room) (sym (texts_few h)) ∙ sym e ∙ f)
      go (no h) =
          let g : set_judged room (refused 11 count 0) ≡ ok n = ap (set_judged room) (sym (texts_many (omega arith))) ∙ sym e ∙ f in
          let z : ◌≡◌ {A = ℕ} 0 1 = cc in
          absurd (omega arith)

-- ---- the loop that writes the strings: putting what remains gives the same
pub record Putting (bytes es : List ℕ) (next i₀ at₀ : ℕ) (o₀ : List ℕ) (i at : ℕ) (o : List ℕ) : Type 0 where
  pub same : strings_put at (parts_from bytes es (next - i) i) o ≡ strings_put at₀ (parts_from bytes es (next - i₀) i₀) o₀
  pub size : length o ≡ length o₀
  pub small : length o < 9223372036854775808

module _ (bytes es : List ℕ) (next i₀ at₀ : ℕ) (o₀ : List ℕ) where
  pub putting_start : length o₀ < 9223372036854775808 → Putting bytes es next i₀ at₀ o₀ i₀ at₀ o₀
  putting_start h = record { same = refl; size = refl; small = h }

  module _ (i at : ℕ) (o : List ℕ) (p : Putting bytes es next i₀ at₀ o₀ i at o) where
    pub putting_end : next ≤ i → (at ≡ (strings_put at₀ (parts_from bytes es (next - i₀) i₀) o₀).0) × (o ≡ (strings_put at₀ (parts_from bytes es (next - i₀) i₀) o₀).1)
    unfolding strings_put parts_from
    putting_end h =
        let z : next - i ≡ 0 = omega arith in
        let e = rw z at p.same in
        (ap (λ (x : ℕ × List ℕ). x.0) e, ap (λ (x : ℕ × List ℕ). x.1) e)

    module _ (h : i < next) (c : List ℕ) (ec : c ≡ part_of (view_of bytes es i)) (n : ℕ) (en : n ≡ length (string_bytes c)) where
      more : strings_put at (parts_from bytes es (next - i) i) o
          ≡ pick (leb (at + n) (length o)) (strings_put (at + n) (parts_from bytes es (next - (i + 1)) (i + 1)) (placed at (string_bytes c) o)) (at, o)
      unfolding strings_put parts_from
      more = let z : next - i ≡ suc (next - (i + 1)) = omega arith in rw (z, en, ec)

      pub putting_stop : leb (at + n) (length o) ≡ false
          → (at ≡ (strings_put at₀ (parts_from bytes es (next - i₀) i₀) o₀).0) × (o ≡ (strings_put at₀ (parts_from bytes es (next - i₀) i₀) o₀).1)
      putting_stop f =
          let e = sym (rw f at more) ∙ p.same in
          (ap (λ (x : ℕ × List ℕ). x.0) e, ap (λ (x : ℕ × List ℕ). x.1) e)

      pub putting_turn : leb (at + n) (length o) ≡ true → (o' : List ℕ) → o' ≡ placed at (string_bytes c) o → Putting bytes es next i₀ at₀ o₀ (i + 1) (at + n) o'
      putting_turn f o' g =
          let e = sym (rw f at more) ∙ p.same in
          let l : length o' ≡ length o = ap length g ∙ length_placed at (string_bytes c) o in
          let m = p.size in
          let h = p.small in
          record { same = rw g e; size = omega arith; small = omega arith }

pub place_fits : (b : Bool) (at n size : ℕ) → b ≡ leb (at + n) size → not b ≡ false → size < 9223372036854775808 → at + n < 18446744073709551616
place_fits b at n size e f h = let l = leb-true (at + n) size (sym e ∙ not-false b f) in omega arith

-- strings that fit are put
pub strings_put_lem : (cs : List (List ℕ)) (at : ℕ) (o : List ℕ) → at + length (strings_bytes cs) ≤ length o
    → strings_put at cs o ≡ (at + length (strings_bytes cs), placed at (strings_bytes cs) o)
unfolding strings_put strings_bytes
strings_put_lem [] at o h =
    let e : at + 0 ≡ at = omega arith in
    rw (e, placed_fits at [] o (omega arith))
strings_put_lem (c ∷ cs) at o h =
    let l = length-append (string_bytes c) (strings_bytes cs) in
    let f = le-leb (at + length (string_bytes c)) (length o) (omega arith) in
    let m = length_placed at (string_bytes c) o in
    let a : at + length (string_bytes c) + length (strings_bytes cs) ≡ at + length (string_bytes c ++ strings_bytes cs) = omega arith in
    let b = strings_put_lem cs (at + length (string_bytes c)) (placed at (string_bytes c) o) (omega arith) in
    let d = then o (placed at (string_bytes c) o) _ at (at + length (string_bytes c)) (string_bytes c) (strings_bytes cs) (omega arith) refl refl refl in
    rw (f, b, a, d)

-- a set that fits: its count, then the strings
pub set_put : (bytes es : List ℕ) (count : ℕ) (o o₁ o₂ : List ℕ) → length (set_bytes (parts_from bytes es count 0)) ≤ length o → o₁ ≡ placed 0 (number_bytes count) o
    → o₂ ≡ (strings_put 8 (parts_from bytes es (count - 0) 0) o₁).1 → o₂ ≡ placed 0 (set_bytes (parts_from bytes es count 0)) o
unfolding set_bytes
set_put bytes es count o o₁ o₂ h e f =
    let l = length_number count in
    let n = length_parts bytes es count 0 in
    let k = length-append (number_bytes (length (parts_from bytes es count 0))) (strings_bytes (parts_from bytes es count 0)) in
    let j = length_number (length (parts_from bytes es count 0)) in
    let m : length o₁ ≡ length o = ap length e ∙ length_placed 0 (number_bytes count) o in
    let g : o₂ ≡ placed 8 (strings_bytes (parts_from bytes es count 0)) o₁ =
    f ∙ rw sub-zero (ap (λ (x : ℕ × List ℕ). x.1) (strings_put_lem (parts_from bytes es count 0) 8 o₁ (omega arith))) in
    then o o₁ o₂ 0 8 (number_bytes count) (strings_bytes (parts_from bytes es count 0)) (omega arith) (omega arith) e g
    ∙ ap (λ (k : ℕ). placed 0 (number_bytes k ++ strings_bytes (parts_from bytes es count 0)) o) (sym n)

-- ---- the answer, by what was judged
module _ (bytes es : List ℕ) (count : ℕ) (lent : List ℕ) where
  answered : (r : Result ℕ) → r ≡ set_judged (length lent) (texts_of bytes es count) → r ≡ write_string_set bytes es count lent
  unfolding write_string_set writing
  answered r e = e

  pub set_refused : (x : Refusal) → refused_by x ≡ set_judged (length lent) (texts_of bytes es count)
      → (refused_by x ≡ write_string_set bytes es count lent) × (lent ≡ lent_after (write_string_set bytes es count lent) (output_of (texts_of bytes es count)) lent)
  set_refused x e =
      let a = answered (refused_by x) e in
      (a, ap (λ (r : Result ℕ). lent_after r (output_of (texts_of bytes es count)) lent) a)

  module _ (n : ℕ) (e : ok n ≡ set_judged (length lent) (texts_of bytes es count)) where
    fits : SetFits bytes es count (length lent) n
    fits = set_fits bytes es count (length lent) n (ok n) e refl

    pub set_held : length (set_bytes (parts_from bytes es count 0)) ≤ length lent
    set_held = omega (arith, fits.size, fits.fits)

    pub set_done : (lent' : List ℕ) → lent' ≡ placed 0 (set_bytes (parts_from bytes es count 0)) lent
        → (ok n ≡ write_string_set bytes es count lent) × (lent' ≡ lent_after (write_string_set bytes es count lent) (output_of (texts_of bytes es count)) lent)
    set_done lent' g =
        let d = done (set_bytes (parts_from bytes es count 0)) lent lent' n fits.size fits.fits g in
        let a = answered (ok n) e in (
          a,
          d.1 ∙ ap (λ (x : Result ℕ). lent_after x (set_bytes (parts_from bytes es count 0)) lent) (sym d.0 ∙ a)
              ∙ ap (λ (x : Result (List (List ℕ))). lent_after (write_string_set bytes es count lent) (output_of x) lent) (sym fits.texts),
        )
