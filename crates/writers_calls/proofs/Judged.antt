-- What is judged is what is written: how long the fields are, and that they are the parts of the bytes.
use Prim.Native.Nat.{ℕ, zero, suc, ◌+◌, ◌≤◌, ◌<◌}
use mathlib.Core.Path.{◌≡◌, refl, sym, ◌∙◌, ap}
use mathlib.Core.List.{List, [], ◌∷◌, ◌++◌, append_assoc}
use mathlib.Core.Bool.{Bool, true, false}
use lib.ListN.{length, take, drop, length-append, length-drop, take-append-drop}
use lib.Dec.{leb}
use native.Mathlib.Omega.{arith}
use native.Mathlib.Nat.{zero-add}
use borrow.Author.Tests.{leb-true}
use Rattle.layouts.specs.declared.Refusal.{Refusal}
use Rattle.layouts.specs.Primitive.{pick, number_bytes, Result, ok, refused, onward, not_of_shape}
use Rattle.layouts.specs.Refusal.{refused_by}
use Rattle.layouts.specs.Shape.{What, num, str, set, pairs, framed, maybe, typed, position}
use Rattle.layouts.specs.Judge.{lent_after}
use Rattle.layouts.specs.Writers.{slots_of, string_bytes, strings_bytes, framed_bytes, texts_from, writing}
use Rattle.layouts.specs.CallWriter.{value_for, is_of_shape, strings_in, entries_for, field_bytes, fields_bytes, shape_bytes, write_bytes}
use Rattle.layouts.proofs.Little.{length_number}
use Rattle.layouts.proofs.Writers.{texts_told, onward_ok, pick_ok}
use Rattle.layouts_calls.proofs.CallTrips.{total, entries_total}
use Rattle.writers_output.specs.Answer.{meaning}
use Rattle.writers_output.specs.Placed.{placed}
use Rattle.writers_output.proofs.Laws.{done}
use Rattle.writers_sets.specs.Sets.{fitting, grown, strings_judged, parts_from}
use Rattle.writers_sets.proofs.Sets.{grown_fits, texts_parts}
use Rattle.writers_fields.specs.declared.Needs.{Needs}
use Rattle.writers_fields.specs.Fields.{bytes_of, bytes_after}
use Rattle.writers_calls.specs.Calls.{fields_from, Planned, bytes_or, after_bytes}
use Rattle.std.specs.Prelude.{Ok, Err}

-- ---- how long the fields are
unfoldable sum_of : (framed : ℕ) → List What → ℕ
sum_of f [] = 0
sum_of f (w ∷ ws) = bytes_of f w + sum_of f ws

sum_fits : (room : ℕ) → room < 9223372036854775808 → (f t m : ℕ) (ws : List What) → fitting (bytes_after room f t ws + m) room ≡ fitting (t + (sum_of f ws + m)) room
unfolding bytes_after sum_of
sum_fits room h f t m [] = rw zero-add
sum_fits room h f t m (w ∷ ws) =
    let e : bytes_of f w + (sum_of f ws + m) ≡ bytes_of f w + sum_of f ws + m = omega arith in
    sum_fits room h f (grown room t (bytes_of f w)) m ws ∙ grown_fits room h t (bytes_of f w) (sum_of f ws + m) ∙ ap (λ (k : ℕ). fitting (t + k) room) e

strings_append : (cs ds : List (List ℕ)) → strings_bytes (cs ++ ds) ≡ strings_bytes cs ++ strings_bytes ds
unfolding strings_bytes
strings_append [] ds = refl
strings_append (c ∷ cs) ds = ap (λ (l : List ℕ). string_bytes c ++ l) (strings_append cs ds) ∙ sym (append_assoc (string_bytes c) (strings_bytes cs) (strings_bytes ds))

module _ (ns p : List ℕ) where
  abbrev framed# : ℕ
  framed# = length (framed_bytes p)

  field_length : (w : What) (cs : List (List ℕ)) → length (field_bytes ns p (take (strings_in ns w) cs) w) ≡ bytes_of framed# w + length (strings_bytes (take (strings_in ns w) cs))
  unfolding field_bytes strings_in bytes_of strings_bytes
  field_length (num t) cs = length_number (value_for ns t)
  field_length (str m) cs = sym (zero-add _)
  field_length (set m t) cs =
      length-append (number_bytes (value_for ns t)) (strings_bytes (take (value_for ns t) cs)) ∙ ap (λ (k : ℕ). k + length (strings_bytes (take (value_for ns t) cs))) (length_number (value_for ns t))
  field_length (pairs m t) cs =
      length-append (number_bytes (value_for ns t)) (strings_bytes (take (value_for ns t + value_for ns t) cs))
      ∙ ap (λ (k : ℕ). k + length (strings_bytes (take (value_for ns t + value_for ns t) cs))) (length_number (value_for ns t))
  field_length framed cs = omega arith
  field_length maybe cs = refl
  field_length typed cs = refl
  field_length position cs = refl

  fields_length : (ws : List What) (cs : List (List ℕ)) → length cs ≡ total ns ws → length (fields_bytes ns p cs ws) ≡ sum_of framed# ws + length (strings_bytes cs)
  unfolding fields_bytes sum_of total strings_bytes
  fields_length [] [] h = refl
  fields_length [] (c ∷ cs) h = absurd (omega arith)
  fields_length (w ∷ ws) cs h =
      let k = strings_in ns w in
      let d : length (drop k cs) ≡ total ns ws = length-drop k cs ∙ omega arith in
      let a = field_length w cs in
      let b = fields_length ws (drop k cs) d in
      let c = length-append (field_bytes ns p (take k cs) w) (fields_bytes ns p (drop k cs) ws) in
      let s : length (strings_bytes cs) ≡ length (strings_bytes (take k cs)) + length (strings_bytes (drop k cs)) =
      ap (λ (l : List (List ℕ)). length (strings_bytes l)) (sym (take-append-drop k cs)) ∙ ap length (strings_append (take k cs) (drop k cs))
      ∙ length-append (strings_bytes (take k cs)) (strings_bytes (drop k cs)) in
      omega arith

  -- ---- the fields from the parts of the bytes
  module _ (b es : List ℕ) where
    take_parts : (k n i : ℕ) → take k (parts_from b es (k + n) i) ≡ parts_from b es k i
    unfolding parts_from
    take_parts zero n i = refl
    take_parts (suc k) n i = let e : suc k + n ≡ suc (k + n) = omega arith in rw (e, take_parts k n (i + 1))

    drop_parts : (k n i : ℕ) → drop k (parts_from b es (k + n) i) ≡ parts_from b es n (i + k)
    unfolding parts_from
    drop_parts zero n i = let e : i + 0 ≡ i = omega arith in rw (e, zero-add)
    drop_parts (suc k) n i =
        let f : suc k + n ≡ suc (k + n) = omega arith in
        let e : i + 1 + k ≡ i + suc k = omega arith in
        rw f (drop_parts k n (i + 1) ∙ ap (parts_from b es n) e)

    fields_from_lem : (ws : List What) (i : ℕ) → fields_bytes ns p (parts_from b es (total ns ws) i) ws ≡ fields_from ns p b es i ws
    unfolding fields_bytes fields_from total
    fields_from_lem [] i = refl
    fields_from_lem (w ∷ ws) i =
        rw (take_parts (strings_in ns w) (total ns ws) i, drop_parts (strings_in ns w) (total ns ws) i, fields_from_lem ws (i + strings_in ns w))

-- ---- 14, 11; then the strings and the room
module _ (ns p b es : List ℕ) (ws : List What) (lent : List ℕ) (small : length lent < 9223372036854775808) where
  abbrev Fields : Result (List ℕ)
  Fields = shape_bytes ns b es p ws

  by_strings : (n : ℕ) → entries_for ns (slots_of es) 0 ws ≡ ok n → (q : Result (List (List ℕ))) → texts_from b es n 0 ≡ q
      → strings_judged (length lent) (bytes_after (length lent) (length (framed_bytes p)) 0 ws) q ≡ onward (onward q (λ cs. ok (fields_bytes ns p cs ws))) (λ o. writing o lent)
  unfolding writing
  by_strings n e (refused w q s) f = refl
  by_strings n e (ok cs) f =
      let t = entries_total ns (slots_of es) 0 n ws e in
      let m = (texts_told b es n 0 cs f).many in
      let l = fields_length ns p ws cs (omega arith) in
      let z : 0 + (sum_of (length (framed_bytes p)) ws + length (strings_bytes cs)) ≡ length (fields_bytes ns p cs ws) = omega arith in
      sum_fits (length lent) small (length (framed_bytes p)) 0 (length (strings_bytes cs)) ws ∙ ap (λ (k : ℕ). fitting k (length lent)) z

  module _ (x : Needs) (slots : ℕ) (es# : slots ≡ slots_of es)
      (e : meaning x.entries ≡ pick (is_of_shape ns p ws) (entries_for ns slots 0 ws) (refused not_of_shape 0 0))
      (f : x.bytes ≡ pick (is_of_shape ns p ws) (bytes_after (length lent) (length (framed_bytes p)) 0 ws) 0) where
    pub judged_refused : (r : Refusal) → x.entries ≡ Err r → refused_by r ≡ write_bytes Fields lent
    judged_refused r q = go (is_of_shape ns p ws) (sym (ap meaning q) ∙ e ∙ ap (λ (k : ℕ). pick (is_of_shape ns p ws) (entries_for ns k 0 ws) (refused not_of_shape 0 0)) es#)
      where
        go : (c : Bool) → refused_by r ≡ pick c (entries_for ns (slots_of es) 0 ws) (refused not_of_shape 0 0)
            → refused_by r ≡ write_bytes (pick c (onward (onward (entries_for ns (slots_of es) 0 ws) (λ n. texts_from b es n 0)) (λ cs. ok (fields_bytes ns p cs ws))) (refused not_of_shape 0 0)) lent
        go true h = rw (← h)
        go false h = h

    pub judged_fine : (n : ℕ) → x.entries ≡ Ok n → (o : Result ℕ) → o ≡ strings_judged (length lent) x.bytes (texts_from b es n 0) → o ≡ write_bytes Fields lent
    judged_fine n q o g =
        go (is_of_shape ns p ws) f (sym (ap meaning q) ∙ e ∙ ap (λ (k : ℕ). pick (is_of_shape ns p ws) (entries_for ns k 0 ws) (refused not_of_shape 0 0)) es#)
      where
        go : (c : Bool) → x.bytes ≡ pick c (bytes_after (length lent) (length (framed_bytes p)) 0 ws) 0 → ok n ≡ pick c (entries_for ns (slots_of es) 0 ws) (refused not_of_shape 0 0)
            → o ≡ write_bytes (pick c (onward (onward (entries_for ns (slots_of es) 0 ws) (λ n. texts_from b es n 0)) (λ cs. ok (fields_bytes ns p cs ws))) (refused not_of_shape 0 0)) lent
        go true h k = rw (← k) (g ∙ ap (λ (y : ℕ). strings_judged (length lent) y (texts_from b es n 0)) h ∙ by_strings n (sym k) (texts_from b es n 0) refl)
        go false h k = let z : ◌≡◌ {A = ℕ} 0 1 = cc in absurd (omega arith)

-- ---- what is judged fine is put
module _ (ns p b es : List ℕ) (ws : List What) (lent : List ℕ) where
  abbrev Answer : Result ℕ → List ℕ → Type 0
  Answer o lent' = (o ≡ write_bytes (shape_bytes ns b es p ws) lent) × (lent' ≡ after_bytes (shape_bytes ns b es p ws) lent)

  pub fields_refused : (r : Refusal) → refused_by r ≡ write_bytes (shape_bytes ns b es p ws) lent → Answer (refused_by r) lent
  fields_refused r e = (e, ap (λ (x : Result ℕ). lent_after x (bytes_or (shape_bytes ns b es p ws)) lent) e)

  -- the fields were judged, and these are they
  record Fine (n : ℕ) : Type 0 where
    pub used : ℕ
    pub entries : entries_for ns (slots_of es) 0 ws ≡ ok used
    pub bytes : shape_bytes ns b es p ws ≡ ok (fields_from ns p b es 0 ws)
    pub size : n ≡ length (fields_from ns p b es 0 ws)
    pub fits : n ≤ length lent

  are_parts : (n : ℕ) (cs : List (List ℕ)) → texts_from b es n 0 ≡ ok cs → n ≡ total ns ws → fields_bytes ns p cs ws ≡ fields_from ns p b es 0 ws
  are_parts n cs e k =
      ap (λ (ds : List (List ℕ)). fields_bytes ns p ds ws) (texts_parts b es n 0 cs e) ∙ ap (λ (j : ℕ). fields_bytes ns p (parts_from b es j 0) ws) k ∙ fields_from_lem ns p b es ws 0

  fine : (n : ℕ) → ok n ≡ write_bytes (shape_bytes ns b es p ws) lent → Fine n
  unfolding writing
  fine n e =
      let o = onward_ok (shape_bytes ns b es p ws) (λ o. writing o lent) n (sym e) in
      let l = pick_ok (leb (length o.0) (length lent)) 10 0 (ok (length o.0)) n o.2 in
      let s = pick_ok (is_of_shape ns p ws) not_of_shape 0 (onward (onward (entries_for ns (slots_of es) 0 ws) (λ n. texts_from b es n 0)) (λ cs. ok (fields_bytes ns p cs ws))) o.0 o.1 in
      let t = onward_ok (onward (entries_for ns (slots_of es) 0 ws) (λ n. texts_from b es n 0)) (λ cs. ok (fields_bytes ns p cs ws)) o.0 s.1 in
      let u = onward_ok (entries_for ns (slots_of es) 0 ws) (λ n. texts_from b es n 0) t.0 t.1 in
      let m = entries_total ns (slots_of es) 0 u.0 ws u.1 in
      let k : u.0 ≡ total ns ws = omega arith in
      let z : fields_bytes ns p t.0 ws ≡ o.0 = let z' = t.2 in cc in
      let v : o.0 ≡ fields_from ns p b es 0 ws = sym z ∙ are_parts u.0 t.0 u.2 k in
      let g : length o.0 ≡ n = let z = l.1 in cc in
      let h = leb-true (length o.0) (length lent) l.0 in
      record {
        used = u.0;
        entries = u.1;
        bytes = o.1 ∙ ap ok v;
        size = sym g ∙ ap length v;
        fits = omega arith;
      }

  module _ (n : ℕ) (e : ok n ≡ write_bytes (shape_bytes ns b es p ws) lent) where
    pub fields_planned : Planned ns p b es (length lent) ws
    fields_planned =
        let f = fine n e in
        record {
          used = f.used;
          entries = f.entries;
          room = omega (arith, f.size, f.fits);
        }

    pub fields_done : (lent' : List ℕ) → lent' ≡ placed 0 (fields_from ns p b es 0 ws) lent → Answer (ok n) lent'
    fields_done lent' g =
        let f = fine n e in
        let d = done (fields_from ns p b es 0 ws) lent lent' n f.size f.fits g in
        (e, d.1 ∙ rw f.bytes)
