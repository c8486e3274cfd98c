-- The fields are put item by item: putting what remains gives the same at every turn.
use Prim.Native.Nat.{ℕ, ◌+◌, ◌-◌, ◌≤◌, ◌<◌}
use mathlib.Core.Path.{◌≡◌, refl, sym, ◌∙◌, ap}
use mathlib.Core.List.{List, [], ◌++◌}
use mathlib.Core.Bool.{Bool, true, false, ◌&&◌, false≢true}
use lib.ListN.{length, take, drop, length-append, length-drop}
use mathlib.Core.List.{append-nil}
use lib.Dec.{leb, eqb}
use native.Mathlib.Omega.{arith}
use borrow.Author.Tests.{leb-true, le-leb, eqb-true, ne_eqb}
use Rattle.layouts.specs.Primitive.{pick, number_bytes, ok, refused, onward, no_such_entry}
use Rattle.layouts.specs.declared.Refusal.{Refusal}
use Rattle.layouts.specs.Shape.{What}
use Rattle.layouts.specs.Writers.{slots_of, strings_bytes, framed_bytes, writing}
use Rattle.layouts.specs.CallWriter.{value_for, strings_in, entries_for, field_bytes}
use Rattle.layouts.proofs.Little.{length_number}
use Rattle.table.specs.Packed.{size}
use Rattle.table.specs.Table.{target_of, what_of}
use Rattle.walk_items.specs.declared.Item as I
use Rattle.walk_items.specs.Items.{version_of, next_item}
use Rattle.writers_output.specs.Answer.{meaning, after_writing}
use Rattle.writers_output.specs.Placed.{placed}
use Rattle.writers_output.proofs.Laws.{part_tail, put_back, length_placed, then, Filling, filling_start, filling_room, filling_turn, filling_end}
use Rattle.writers_sets.specs.Sets.{parts_from, strings_put}
use Rattle.writers_sets.proofs.Sets.{strings_put_lem}
use Rattle.writers_fields.specs.Fields.{fields_at, what_in, has_number, target_by, strings_by, strings_after}
use Rattle.writers_fields.proofs.Laws.{Next, next, Kinded, text, set, pairs, frames, maybe, typed, position, absent, number, kinded, entries_by}
use Rattle.std.specs.Prelude.{Result, Ok, Err}
use Rattle.std.specs.Result.{result_unwrap_or}
use Rattle.writers_calls.specs.Calls.{number_by, frames_by, item_bytes, fields_from, Planned, used_or}

-- ---- an item
module _ (ns p b es : List ℕ) (role target i : ℕ) (ws : List What) where
  -- its bytes, where it has m strings
  abbrev bytes_for : (kind m : ℕ) → List ℕ
  bytes_for k m = number_by k (value_for ns (target_of (target_by k target))) ++ (strings_bytes (parts_from b es m i) ++ frames_by k p)

  same_place : fields_from ns p b es i ws ≡ fields_from ns p b es (i + 0) ws
  same_place = let e : i ≡ i + 0 = omega arith in ap (λ (j : ℕ). fields_from ns p b es j ws) e

  no_strings : strings_bytes (parts_from b es 0 i) ≡ []
  unfolding parts_from strings_bytes
  no_strings = refl

  item_by : {k : ℕ} → Kinded k → (m : ℕ) → m ≡ strings_by k (value_for ns (target_of (target_by k target)))
      → fields_from ns p b es i (what_in k role target ++ ws) ≡ bytes_for k m ++ fields_from ns p b es (i + m) ws
  unfolding fields_from field_bytes strings_in what_in what_of target_of value_for
  item_by text m e = rw (e, append-nil)
  item_by set m e = rw (e, append-nil)
  item_by pairs m e = rw (e, append-nil)
  item_by frames m e = rw (e, no_strings)
  item_by maybe m e = rw (e, no_strings)
  item_by typed m e = rw (e, no_strings)
  item_by position m e = rw (e, no_strings)
  item_by absent m e = rw (e, no_strings) same_place
  item_by (number k o) m e =
      let a : strings_by k (value_for ns (target_of (target_by k target))) ≡ 0 = rw (o.no_text, o.no_set, o.no_pairs) in
      rw (e ∙ a, no_strings, o.no_text, o.no_set, o.no_pairs, o.no_frames, o.no_maybe, o.no_typed, o.no_position, o.no_absent, append-nil)

  -- the entries after it, where all of them are there
  record Step (slots used kind n j : ℕ) : Type 0 where
    pub bytes : fields_from ns p b es i (what_in kind role target ++ ws) ≡ item_bytes kind n b es i j p ++ fields_from ns p b es j ws
    pub entries : entries_for ns slots j ws ≡ ok used
    pub within : j ≤ slots

  step : (slots used k n j : ℕ) → i ≤ slots → entries_for ns slots i (what_in k role target ++ ws) ≡ ok used → n ≡ value_for ns (target_of (target_by k target))
      → j ≡ used_or i (strings_after k n slots i) → Step slots used k n j
  step slots used k n j h e f g =
      go (leb (strings_by k n) (slots - i)) refl
      (ap (λ (m : ℕ). onward (strings_after k m slots i) (λ (y : ℕ). entries_for ns slots y ws)) f ∙ sym (entries_by ns role target ws slots i h (kinded k)) ∙ e) g
    where
      go : (c : Bool) → leb (strings_by k n) (slots - i) ≡ c
          → onward (pick c (ok (i + strings_by k n)) (refused no_such_entry n 0)) (λ (y : ℕ). entries_for ns slots y ws) ≡ ok used
          → j ≡ used_or i (pick c (ok (i + strings_by k n)) (refused no_such_entry n 0)) → Step slots used k n j
      go false q r s = let z : ◌≡◌ {A = ℕ} 0 1 = cc in absurd (omega arith)
      go true q r s =
          let t = leb-true (strings_by k n) (slots - i) q in
          let m : j - i ≡ strings_by k n = omega (arith, s) in
          record {
            bytes = item_by (kinded k) (strings_by k n) (ap (strings_by k) f)
                ∙ rw (← f, ← m) (ap (λ (y : ℕ). item_bytes k n b es i j p ++ fields_from ns p b es y ws) (omega (arith, s)));
            entries = rw s r;
            within = omega (arith, s);
          }

-- ---- the loop
pub record Going (ns p b es : List ℕ) (slots l pc₀ : ℕ) (o₀ : List ℕ) (pc at i : ℕ) (o : List ℕ) : Type 0 where
  pub filling : Filling o₀ 0 (fields_from ns p b es 0 (fields_at l pc₀)) o at (fields_from ns p b es i (fields_at l pc))
  pub used : ℕ
  pub entries : entries_for ns slots i (fields_at l pc) ≡ ok used
  pub within : i ≤ slots

module _ (ns p b es : List ℕ) (slots l pc₀ : ℕ) (o₀ : List ℕ) where
  pub going_start : Planned ns p b es (length o₀) (fields_at l pc₀) → slots ≡ slots_of es → Going ns p b es slots l pc₀ o₀ pc₀ 0 0 o₀
  going_start g e = record {
    filling = filling_start o₀ 0 (fields_from ns p b es 0 (fields_at l pc₀)) (omega (arith, g.room));
    used = g.used;
    entries = rw e g.entries;
    within = omega arith;
  }

  module _ (pc at i : ℕ) (o : List ℕ) (g : Going ns p b es slots l pc₀ o₀ pc at i o) (x : I.Item) (q : x ≡ next_item (version_of l) pc 0 size size) where
    it : Next (version_of l) pc x
    it = next (version_of l) pc x q

    pub going_end : x.kind ≡ 0 → o ≡ placed 0 (fields_from ns p b es 0 (fields_at l pc₀)) o₀
    unfolding fields_from
    going_end k = filling_end o₀ 0 _ o at _ g.filling (ap (fields_from ns p b es i) (it.ends k))

    module _ (k : x.kind ≡ 0 → ⊥) where
      pub going_less : size - x.pc < size - pc
      going_less = it.falls k

      module _ (n : ℕ) (en : n ≡ value_for ns (target_of (target_by x.kind x.target))) (j : ℕ) (ej : j ≡ used_or i (strings_after x.kind n slots i)) where
        one : Step ns p b es x.role x.target i (fields_at l x.pc) slots g.used x.kind n j
        one = step ns p b es x.role x.target i (fields_at l x.pc) slots g.used x.kind n j g.within (ap (entries_for ns slots i) (sym (it.goes k)) ∙ g.entries) en ej

        more : fields_from ns p b es i (fields_at l pc) ≡ item_bytes x.kind n b es i j p ++ fields_from ns p b es j (fields_at l x.pc)
        more = ap (fields_from ns p b es i) (it.goes k) ∙ one.bytes

        pub going_room : at + length (item_bytes x.kind n b es i j p) ≤ length o
        going_room = let r = filling_room o₀ 0 _ o at _ g.filling (item_bytes x.kind n b es i j p) (fields_from ns p b es j (fields_at l x.pc)) more in omega arith

        pub going_turn : (at' : ℕ) → at' ≡ at + length (item_bytes x.kind n b es i j p) → (o' : List ℕ) → o' ≡ placed at (item_bytes x.kind n b es i j p) o
            → Going ns p b es slots l pc₀ o₀ x.pc at' j o'
        going_turn at' ea o' eo = record {
          filling = filling_turn o₀ 0 _ o at _ g.filling (item_bytes x.kind n b es i j p) (fields_from ns p b es j (fields_at l x.pc)) more o' at' ea eo;
          used = g.used;
          entries = one.entries;
          within = one.within;
        }

-- ---- one part after the other
-- nothing is put
pub put_none : (at : ℕ) (o : List ℕ) → (at ≡ at + length {A = ℕ} []) × (o ≡ placed at [] o)
unfolding placed
put_none at o = (omega arith, go (leb (at + 0) (length o)))
  where
    go : (c : Bool) → o ≡ pick c o o
    go true = refl
    go false = refl

module _ (k n at : ℕ) (o : List ℕ) where
  pub number_put : (c : Bool) → c ≡ has_number k → c ≡ true → (o' : List ℕ) → o' ≡ placed at (number_bytes n) o
      → (at + 8 ≡ at + length (number_by k n)) × (o' ≡ placed at (number_by k n) o)
  number_put c e f o' g = let h : has_number k ≡ true = sym e ∙ f in let m = length_number n in rw h (omega arith, g)

  pub number_none : (c : Bool) → c ≡ has_number k → c ≡ false → (at ≡ at + length (number_by k n)) × (o ≡ placed at (number_by k n) o)
  number_none c e f = let h : has_number k ≡ false = sym e ∙ f in rw h (put_none at o)

  pub number_fits : (c : Bool) → c ≡ has_number k → c ≡ true → at + length (number_by k n) ≤ length o → at + 8 ≤ length o
  number_fits c e f r = let h : has_number k ≡ true = sym e ∙ f in let m = length_number n in let r' = rw h at r in omega arith

module _ (k at : ℕ) (p o : List ℕ) where
  pub frames_fit : k ≡ 5 → at + length (frames_by k p) ≤ length o → at + length (framed_bytes p) ≤ length o
  frames_fit e h = rw e at h

  pub frames_put : k ≡ 5 → (n : ℕ) → n ≡ length (framed_bytes p) → (o' : List ℕ) → o' ≡ placed at (framed_bytes p) o
      → (at + n ≡ at + length (frames_by k p)) × (o' ≡ placed at (frames_by k p) o)
  frames_put e n f o' g = rw (e, f) (refl, g)

  pub frames_none : (k ≡ 5 → ⊥) → (at ≡ at + length (frames_by k p)) × (o ≡ placed at (frames_by k p) o)
  frames_none e = rw (ne_eqb k 5 e) (put_none at o)

-- framed data goes into a part that is lent and comes back
pub framed_put : (o p ys : List ℕ) (at : ℕ) → at + length (framed_bytes p) ≤ length o → ys ≡ after_writing (framed_bytes p) (take (length o - at) (drop at o))
    → take at o ++ (ys ++ drop (length o - at) (drop at o)) ≡ placed at (framed_bytes p) o
unfolding writing
framed_put o p ys at h e =
    let d = length-drop at o in
    let t = le-leb (length (framed_bytes p)) (length (drop at o)) (omega arith) in
    put_back o (framed_bytes p) ys at h (e ∙ simp (part_tail, t))

-- and is not refused there
told : (n : ℕ) (w : Result ℕ Refusal) → meaning w ≡ ok n → result_unwrap_or w 0 ≡ n
told n (Ok m) e = cc
told n (Err r) e = let z : ◌≡◌ {A = ℕ} 0 1 = cc in absurd (omega arith)

pub framed_told : (o p : List ℕ) (at : ℕ) → at + length (framed_bytes p) ≤ length o → (w : Result ℕ Refusal)
    → meaning w ≡ writing (framed_bytes p) (take (length o - at) (drop at o)) → result_unwrap_or w 0 ≡ length (framed_bytes p)
unfolding writing
framed_told o p at h w e =
    let d = length-drop at o in
    let t = le-leb (length (framed_bytes p)) (length (drop at o)) (omega arith) in
    told (length (framed_bytes p)) w (e ∙ simp (part_tail, t))

module _ (at : ℕ) (o : List ℕ) (xs : List ℕ) (cs : List (List ℕ)) (zs : List ℕ) (h : at + length (xs ++ (strings_bytes cs ++ zs)) ≤ length o) where
  sizes : length (xs ++ (strings_bytes cs ++ zs)) ≡ length xs + (length (strings_bytes cs) + length zs)
  sizes = length-append xs (strings_bytes cs ++ zs) ∙ ap (λ (n : ℕ). length xs + n) (length-append (strings_bytes cs) zs)

  pub first_fits : at + length xs ≤ length o
  first_fits = omega (arith, sizes)

  module _ (a : ℕ) (ea : a ≡ at + length xs) (o₁ : List ℕ) (e₁ : o₁ ≡ placed at xs o)
      (c : ℕ) (ec : c ≡ (strings_put a cs o₁).0) (o₂ : List ℕ) (e₂ : o₂ ≡ (strings_put a cs o₁).1) where
    len : length o₁ ≡ length o
    len = ap length e₁ ∙ length_placed at xs o

    put : strings_put a cs o₁ ≡ (a + length (strings_bytes cs), placed a (strings_bytes cs) o₁)
    put = let s = sizes in let l = len in strings_put_lem cs a o₁ (omega arith)

    next_is : c ≡ a + length (strings_bytes cs)
    next_is = ec ∙ ap (λ (x : ℕ × List ℕ). x.0) put

    out_is : o₂ ≡ placed a (strings_bytes cs) o₁
    out_is = e₂ ∙ ap (λ (x : ℕ × List ℕ). x.1) put

    pub last_fits : c + length zs ≤ length o₂
    last_fits =
        let s = sizes in
        let l = len in
        let n = next_is in
        let m : length o₂ ≡ length o₁ = ap length out_is ∙ length_placed a (strings_bytes cs) o₁ in
        omega arith

    pub three_put : (d : ℕ) → d ≡ c + length zs → (o₃ : List ℕ) → o₃ ≡ placed c zs o₂
        → (d ≡ at + length (xs ++ (strings_bytes cs ++ zs))) × (o₃ ≡ placed at (xs ++ (strings_bytes cs ++ zs)) o)
    three_put d ed o₃ e₃ =
        let s = sizes in
        let n = next_is in
        let l = len in
        let t : o₃ ≡ placed a (strings_bytes cs ++ zs) o₁ = then o₁ o₂ o₃ a c (strings_bytes cs) zs (omega arith) n out_is e₃ in
        let m = length-append (strings_bytes cs) zs in
        (omega arith, then o o₁ o₃ at a xs (strings_bytes cs ++ zs) (omega arith) ea e₁ t)

-- a number and no more
both_true : (x y : Bool) → x && y ≡ true → (x ≡ true) × (y ≡ true)
both_true true y e = (refl, e)
both_true false y e = absurd (false≢true e)

module _ (k n at : ℕ) (b es p o : List ℕ) (i j : ℕ) (t : eqb k 1 && eqb i j ≡ true) where
  only_number : item_bytes k n b es i j p ≡ number_bytes n
  unfolding parts_from strings_bytes
  only_number =
      let k-is = eqb-true k 1 (both_true (eqb k 1) (eqb i j) t).0 in
      let z : j - i ≡ 0 = let e = eqb-true i j (both_true (eqb k 1) (eqb i j) t).1 in omega arith in
      rw (k-is, z) (append-nil (number_bytes n))

  pub item_fits : at + length (item_bytes k n b es i j p) ≤ length o → at + 8 ≤ length o
  item_fits h = let m = length_number n in let g = rw only_number at h in omega arith

  pub item_number : (o' : List ℕ) → o' ≡ placed at (number_bytes n) o → (at + 8 ≡ at + length (item_bytes k n b es i j p)) × (o' ≡ placed at (item_bytes k n b es i j p) o)
  item_number o' g = let m = length_number n in rw only_number (omega arith, g)

module _ (k n at : ℕ) (b es p o : List ℕ) (i j : ℕ) (h : at + length (item_bytes k n b es i j p) ≤ length o) where
  pub item_first : at + length (number_by k n) ≤ length o
  item_first = first_fits at o (number_by k n) (parts_from b es (j - i) i) (frames_by k p) h

  module _ (a : ℕ) (ea : a ≡ at + length (number_by k n)) (o₁ : List ℕ) (e₁ : o₁ ≡ placed at (number_by k n) o)
      (c : ℕ) (ec : c ≡ (strings_put a (parts_from b es (j - i) i) o₁).0) (o₂ : List ℕ) (e₂ : o₂ ≡ (strings_put a (parts_from b es (j - i) i) o₁).1) where
    pub item_last : c + length (frames_by k p) ≤ length o₂
    item_last = last_fits at o (number_by k n) (parts_from b es (j - i) i) (frames_by k p) h a ea o₁ e₁ c ec o₂ e₂

    pub item_put : (d : ℕ) → d ≡ c + length (frames_by k p) → (o₃ : List ℕ) → o₃ ≡ placed c (frames_by k p) o₂
        → (d ≡ at + length (item_bytes k n b es i j p)) × (o₃ ≡ placed at (item_bytes k n b es i j p) o)
    item_put = three_put at o (number_by k n) (parts_from b es (j - i) i) (frames_by k p) h a ea o₁ e₁ c ec o₂ e₂
