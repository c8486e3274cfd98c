-- Writing into lent room from a place on; what lies past its end falls away.
use Prim.Native.Nat.{ℕ, zero, suc, ◌+◌, ◌-◌, ◌*◌, ◌/◌, ◌≤◌, ◌<◌, min}
use mathlib.Core.Path.{◌≡◌, refl, sym, ◌∙◌, ap, subst}
use mathlib.Core.List.{List, [], ◌∷◌, ◌++◌, append_assoc, append-nil}
use native.Mathlib.Nat.{add-zero, add-suc, suc-add}
use native.Mathlib.Numerals.{add-one}
use native.Mathlib.Omega.{arith}
use lib.ListN.{length, get_or, set, take, drop, take-append-drop, length-append, length-set, length-drop, drop_of_length-le}
use lib.Seq.{sets, sets-eq, length-sets, length-take-le, take_all, take-length, drop-drop, drop-cons, get_or-take}
use Rattle.layouts.specs.Primitive.{number_bytes, Result, ok, refused}
use Rattle.layouts.specs.Judge.{lent_after}
use Rattle.layouts.proofs.Little.{length_number}
use Rattle.writers_output.specs.Numbers.{bytes_of}
use Rattle.writers_output.specs.Placed.{placed}
use Rattle.writers_output.proofs.Laws as Output
use Rattle.writers_output.proofs.Numbers.{bytes_length}
use Rattle.walk_rooms.specs.Rooms.{place_after, Put, Filling, filled_after}
use Rattle.layouts.specs.Writers.{slots_of}
use Rattle.entries.specs.Entries.{slots_in, slots_in_both}

set_past : {A : Type 0} (l : List A) (i : ℕ) (x : A) → length l ≤ i → set l i x ≡ l
set_past {A = A} [] i x h = refl
set_past {A = A} (y ∷ l) zero x h = absurd (omega arith)
set_past {A = A} (y ∷ l) (suc i) x h = ap (λ (m : List A). y ∷ m) (set_past l i x (omega arith))

sets_past : {A : Type 0} (l : List A) (i : ℕ) (vs : List A) → length l ≤ i → sets l i vs ≡ l
sets_past {A = A} l i [] h = refl
sets_past {A = A} l i (v ∷ vs) h = ap (λ (m : List A). sets m (suc i) vs) (set_past l i v h) ∙ sets_past l (suc i) vs (omega arith)

pub sets_join : {A : Type 0} (l : List A) (i : ℕ) (xs ys : List A) → sets l i (xs ++ ys) ≡ sets (sets l i xs) (i + length xs) ys
sets_join {A = A} l i [] ys = ap (λ (k : ℕ). sets l k ys) (sym (add-zero i))
sets_join {A = A} l i (x ∷ xs) ys =
    sets_join (set l i x) (suc i) xs ys ∙ ap (λ (k : ℕ). sets (sets (set l i x) (suc i) xs) k ys) (suc-add i (length xs) ∙ sym (add-suc i (length xs)))

module _ {A : Type 0} (l : List A) (i : ℕ) where
  pub put_past : (vs : List A) → length l ≤ i → Put l i vs l i
  put_past vs h = record { size = refl; then = λ ws. sets_past l i ws h ∙ sym (sets_past l i (vs ++ ws) h); place = omega arith }

  pub put_one : (x : A) → i < length l → Put l i (x ∷ []) (set l i x) (i + 1)
  put_one x h = record { size = length-set l i x; then = λ ws. ap (λ (k : ℕ). sets (set l i x) k ws) (add-one i); place = omega arith }

  pub put_two : (m : List A) (j : ℕ) (o : List A) (k : ℕ) (x y : A) → Put l i (x ∷ []) m j → Put m j (y ∷ []) o k → Put l i (x ∷ y ∷ []) o k
  put_two m j o k x y p q =
      let a = p.size in
      let b = p.place in
      let c = q.place in
      record { size = q.size ∙ p.size; then = λ ws. q.then ws ∙ p.then (y ∷ ws); place = omega arith }

  -- a part of the stream that the room holds
  pub put_fits : (vs m : List A) (n : ℕ) → length vs ≡ n → i + n ≤ length l → m ≡ sets l i vs → Put l i vs m (i + n)
  put_fits vs m n e h q =
      record {
        size = ap length q ∙ length-sets l i vs;
        then = λ ws. ap (λ (x : List A). sets x (i + n) ws) q ∙ ap (λ (k : ℕ). sets (sets l i vs) (i + k) ws) (sym e) ∙ sym (sets_join l i vs ws);
        place = omega arith;
      }

  -- one that it holds a beginning of: the room is full
  pub put_full : (vs us m : List A) → length l ≡ i + length vs → m ≡ sets l i vs → Put l i (vs ++ us) m (length l)
  put_full vs us m e q =
      let z : length m ≡ length l = ap length q ∙ length-sets l i vs in
      let n = length-append vs us in
      record {
        size = z;
        place = omega arith;
        then = λ ws.
            sets_past m (length l) ws (omega arith) ∙
            sym
            (ap (sets l i) (append_assoc vs us ws) ∙ sets_join l i vs (us ++ ws) ∙ ap (λ (x : List A). sets x (i + length vs) (us ++ ws)) (sym q) ∙
            sets_past m (i + length vs) (us ++ ws) (omega arith));
      }

-- bytes, and the beginning of them that the room holds
module _ (c l : List ℕ) (i : ℕ) where
  pub put_beginning : (k : ℕ) (m : List ℕ) → k < length c → length l ≡ i + k → m ≡ sets l i (take k c) → Put l i c m (length l)
  put_beginning k m h e q =
      let n : length (take k c) ≡ k = length-take-le k c (omega arith) in
      subst (λ (x : List ℕ). Put l i x m (length l)) (take-append-drop k c) (put_full l i (take k c) (drop k c) m (omega arith) q)

  pub put_whole : (m : List ℕ) → i + length c ≤ length l → m ≡ sets l i (take (length c) c) → Put l i c m (i + length c)
  put_whole m h q = put_fits l i c m (length c) refl h (q ∙ ap (sets l i) (take-length c))

part_tail : (out : List ℕ) (at : ℕ) → take (length out - at) (drop at out) ≡ drop at out
part_tail out at = take_all (length out - at) (drop at out) (simp length-drop (omega arith))

-- bytes copied over the part &mut out[at..at + n], back in the whole
pub part_back : (out c ys : List ℕ) (at n : ℕ) → n ≤ length c → at + n ≤ length out → ys ≡ take (n - 0) (drop 0 c)
    → take at out ++ (ys ++ drop (at + n - at) (drop at out)) ≡ sets out at (take n c)
part_back out c ys at n h g e =
    let k : n - 0 ≡ n = omega arith in
    let m : at + n - at ≡ n = omega arith in
    let l : length (take n c) ≡ n = length-take-le n c h in
    let room : at + length (take n c) ≤ length out = omega arith in
    simp (e, k, m, drop-drop, sets-eq (take n c) out at room, l, append_assoc)

-- an entry's sixteen bytes
entry_bytes : (z e₁ e₂ : List ℕ) (start len : ℕ) → length z ≡ 16 → e₁ ≡ placed 0 (number_bytes start) z → e₂ ≡ placed 8 (number_bytes len) e₁ → e₂ ≡ bytes_of (start ∷ len ∷ [])
unfolding bytes_of
entry_bytes z e₁ e₂ start len h p q =
    let l = length_number start in
    let m = length_number len in
    let k : length (number_bytes start ++ number_bytes len) ≡ 16 = length-append (number_bytes start) (number_bytes len) ∙ omega arith in
    Output.then z e₁ e₂ 0 8 (number_bytes start) (number_bytes len) (omega arith) (omega arith) p q ∙
    Output.placed_fits 0 (number_bytes start ++ number_bytes len) z (omega arith) ∙
    sets-eq (number_bytes start ++ number_bytes len) z 0 (omega arith) ∙
    ap (λ (x : List ℕ). (number_bytes start ++ number_bytes len) ++ x) (drop_of_length-le z {i = 0 + length (number_bytes start ++ number_bytes len)} (omega arith)) ∙
    append_assoc (number_bytes start) (number_bytes len) []

pub put_entry : (l : List ℕ) (i : ℕ) (o : List ℕ) (k : ℕ) (z e₁ e₂ : List ℕ) (start len : ℕ) → length z ≡ 16 → e₁ ≡ placed 0 (number_bytes start) z
    → e₂ ≡ placed 8 (number_bytes len) e₁ → Put l i e₂ o k → Put l i (bytes_of (start ∷ len ∷ [])) o k
put_entry l i o k z e₁ e₂ start len h p q t = subst (λ (vs : List ℕ). Put l i vs o k) (entry_bytes z e₁ e₂ start len h p q) t

-- an entry's two numbers, where the room holds both
pub put_numbers : (l : List ℕ) (i : ℕ) (m o : List ℕ) (start len : ℕ) → i + 16 ≤ length l → m ≡ placed i (number_bytes start) l → o ≡ placed (i + 8) (number_bytes len) m
    → Put l i (bytes_of (start ∷ len ∷ [])) o (i + 16)
unfolding bytes_of
put_numbers l i m o start len h p q =
    let a = length_number start in
    let b = length_number len in
    let e : number_bytes start ++ number_bytes len ≡ number_bytes start ++ (number_bytes len ++ []) = ap (λ (x : List ℕ). number_bytes start ++ x) (sym (append-nil (number_bytes len))) in
    let n : length (number_bytes start ++ number_bytes len) ≡ 16 = length-append (number_bytes start) (number_bytes len) ∙ omega arith in
    put_fits l i (number_bytes start ++ (number_bytes len ++ [])) o 16 (ap length (sym e) ∙ n) h
    (Output.then l m o i (i + 8) (number_bytes start) (number_bytes len) (omega arith) (omega arith) p q
    ∙ Output.placed_fits i (number_bytes start ++ number_bytes len) l (omega arith) ∙ ap (sets l i) e)

-- one after another
pub put_join : {A : Type 0} (l : List A) (i : ℕ) (vs m : List A) (j : ℕ) (ws o : List A) (k : ℕ) → Put l i vs m j → Put m j ws o k → Put l i (vs ++ ws) o k
put_join {A = A} l i vs m j ws o k p q =
    let n = length-append vs ws in
    let a = p.size in
    let b = p.place in
    let c = q.place in
    record { size = q.size ∙ p.size; then = λ us. q.then us ∙ p.then (ws ++ us) ∙ ap (sets l i) (sym (append_assoc vs ws us)); place = omega arith }

-- ---- the loops
module _ {A : Type 0} (lent : List A) (from : ℕ) (es₀ : List A) where
  pub filling_start : (es : List A) → es ≡ es₀ → Filling lent from es₀ lent from es
  filling_start es e = record { size = refl; same = λ ws. ap (λ (x : List A). sets lent from (x ++ ws)) e; place = ap (place_after lent from) e }

  pub filling_as : (out : List A) (n : ℕ) (es es₁ es' : List A) → es₀ ≡ es₁ → es' ≡ es → Filling lent from es₁ out n es → Filling lent from es₀ out n es'
  filling_as out n es es₁ es' e e' f =
      record {
        size = f.size;
        same = λ ws. ap (λ (x : List A). sets out n (x ++ ws)) e' ∙ f.same ws ∙ ap (λ (x : List A). sets lent from (x ++ ws)) (sym e);
        place = ap (place_after out n) e' ∙ f.place ∙ ap (place_after lent from) (sym e);
      }

  module _ (out : List A) (n : ℕ) (es : List A) (f : Filling lent from es₀ out n es) where
    pub filling_put : (vs rest out' : List A) (n' : ℕ) → es ≡ vs ++ rest → Put out n vs out' n' → Filling lent from es₀ out' n' rest
    filling_put vs rest out' n' e p =
        let l : length es ≡ length vs + length rest = ap length e ∙ length-append vs rest in
        let a = p.size in
        let b = p.place in
        let c : place_after out' n' rest ≡ place_after out n es = omega arith in
        record {
          size = p.size ∙ f.size;
          same = λ ws. p.then (rest ++ ws) ∙ ap (sets out n) (sym (append_assoc vs rest ws)) ∙ ap (λ (x : List A). sets out n (x ++ ws)) (sym e) ∙ f.same ws;
          place = c ∙ f.place;
        }

    -- as far as another loop went
    pub filling_on : (out' : List A) (n' : ℕ) (es' : List A) → Filling out n es out' n' es' → Filling lent from es₀ out' n' es'
    filling_on out' n' es' g = record { size = g.size ∙ f.size; same = λ ws. g.same ws ∙ f.same ws; place = g.place ∙ f.place }

    pub filling_end : es ≡ [] → Put lent from es₀ out n
    filling_end e =
        let l = ap length e in
        let g = f.place in
        record { size = f.size; then = λ ws. sym (ap (λ (x : List A). sets out n (x ++ ws)) e) ∙ f.same ws; place = omega arith }

pub put_sets : {A : Type 0} (lent : List A) (new out : List A) (k : ℕ) → Put lent 0 new out k → out ≡ sets lent 0 new
put_sets {A = A} lent new out k p = p.then [] ∙ ap (sets lent 0) (append-nil new)

-- two numbers of a beginning, from a place on
two_on : (l : List ℕ) (n i j : ℕ) → j ≡ i + 2 → j ≤ n → n ≤ length l → drop i (take n l) ≡ (get_or l i 0 ∷ get_or l (i + 1) 0 ∷ []) ++ drop j (take n l)
two_on l n i j e h g =
    let b = take n l in
    let m : length b ≡ n = length-take-le n l g in
    let k : suc (suc i) ≡ j = omega arith in
    let s : suc i ≡ i + 1 = omega arith in
    drop-cons b i 0 (omega arith)
    ∙ ap (λ (x : List ℕ). get_or b i 0 ∷ x) (drop-cons b (suc i) 0 (omega arith) ∙ ap (λ (y : ℕ). get_or b (suc i) 0 ∷ drop y b) k)
    ∙ ap (λ (x : ℕ). x ∷ get_or b (suc i) 0 ∷ drop j b) (get_or-take n l i 0 (omega arith))
    ∙ ap (λ (x : ℕ). get_or l i 0 ∷ x ∷ drop j b) (get_or-take n l (suc i) 0 (omega arith) ∙ ap (λ (y : ℕ). get_or l y 0) s)

pub few : (win : List ℕ) (n count : ℕ) → count ≡ min n (length win / 2) → 2 * count ≤ length win
few win n count e = omega arith

-- the entries of a window, one after the other, in a form that keeps the laws of a room
module _ {A : Type 0} (form : List ℕ → List A) (nothing : form [] ≡ []) (joined : (xs ys : List ℕ) → form (xs ++ ys) ≡ form xs ++ form ys) (win : List ℕ) (n : ℕ) (lent : List A) where
  abbrev all# : List ℕ
  all# = take (2 * n) win

  pub record Flushing (out : List A) (at i : ℕ) : Type 0 where
    pub on : i ≤ n
    pub filling : Filling lent 0 (form all#) out at (form (drop (2 * i) all#))

  pub flushing_start : Flushing lent 0 0
  flushing_start = record { on = omega arith; filling = filling_start lent 0 (form all#) (form all#) refl }

  module _ (few : 2 * n ≤ length win) (out : List A) (at i : ℕ) (g : Flushing out at i) where
    pub flushing_end : n ≤ i → out ≡ sets lent 0 (form all#)
    flushing_end h =
        let o = g.on in
        let l : length all# ≡ 2 * n = length-take-le (2 * n) win (omega arith) in
        let e : drop (2 * i) all# ≡ [] = drop_of_length-le all# {i = 2 * i} (omega arith) in
        put_sets lent (form all#) out at (filling_end lent 0 (form all#) out at _ g.filling (ap form e ∙ nothing))

    module _ (h : i < n) (x y : ℕ) (p : x ≡ get_or win (2 * i) 0) (q : y ≡ get_or win (2 * i + 1) 0) where
      next_two : drop (2 * i) all# ≡ (x ∷ y ∷ []) ++ drop (2 * (i + 1)) all#
      next_two = rw (p, q) (two_on win (2 * n) (2 * i) (2 * (i + 1)) (omega arith) (omega arith) (omega arith))

      pub flushing_on : (out' : List A) (at' : ℕ) → Put out at (form (x ∷ y ∷ [])) out' at' → Flushing out' at' (i + 1)
      flushing_on out' at' f =
          record {
            on = omega arith;
            filling = filling_put lent 0 (form all#) out at _ g.filling (form (x ∷ y ∷ [])) _ out' at' (ap form next_two ∙ joined (x ∷ y ∷ []) _) f;
          }

-- ---- what fits is all there
pub fitting : {A : Type 0} (o : Result A) (new lent : List ℕ) → ((x : A) → o ≡ ok x → length new ≤ length lent) → filled_after o new lent ≡ lent_after o new lent
fitting (ok x) new lent h =
    let e : 0 + length new ≡ length new = omega arith in
    let g = h x refl in
    sets-eq new lent 0 (omega arith) ∙ ap (λ (n : ℕ). new ++ drop n lent) e
fitting (refused which place stream) new lent h = refl

-- a call with a room for entries as numbers, or as bytes: what it reports fits
module _ {A : Type 0} (o : ℕ → Result A) (whole : List ℕ) (fits : (n : ℕ) (x : A) → o n ≡ ok x → length whole ≤ 2 * n) (lent out : List ℕ) where
  pub words_after : out ≡ filled_after (o (slots_of lent)) whole lent → out ≡ lent_after (o (slots_of lent)) whole lent
  words_after h = h ∙ fitting (o (slots_of lent)) whole lent (λ x q. let g = fits (slots_of lent) x q in omega arith)

  pub bytes_after : out ≡ filled_after (o (slots_in lent)) (bytes_of whole) lent → out ≡ lent_after (o (slots_in lent)) (bytes_of whole) lent
  bytes_after h =
      let l = bytes_length whole in
      h ∙ fitting (o (slots_in lent)) (bytes_of whole) lent (λ x q. let g = fits (slots_in lent) x q in omega arith)

-- a call with both rooms, of which one is empty
module _ {A C : Type 0} (o : ℕ → Result A) (f : Result A → C) (whole : List ℕ) (fits : (n : ℕ) (x : A) → o n ≡ ok x → length whole ≤ 2 * n) (r : C) (words ws bytes bs : List ℕ)
    (h : (r ≡ f (o (slots_in_both words bytes)))
    × ((ws ≡ filled_after (o (slots_in_both words bytes)) whole words) × (bs ≡ filled_after (o (slots_in_both words bytes)) (bytes_of whole) bytes))) where
  pub with_words : bytes ≡ [] → (r ≡ f (o (length words / 2))) × (ws ≡ lent_after (o (length words / 2)) whole words)
  with_words e =
      let z = ap length e in
      let k : slots_in_both words bytes ≡ length words / 2 = omega arith in
      (h.0 ∙ ap (λ (i : ℕ). f (o i)) k, words_after o whole fits words ws (h.1.0 ∙ ap (λ (i : ℕ). filled_after (o i) whole words) k))

  pub with_bytes : words ≡ [] → (r ≡ f (o (length bytes / 16))) × (bs ≡ lent_after (o (length bytes / 16)) (bytes_of whole) bytes)
  with_bytes e =
      let z = ap length e in
      let k : slots_in_both words bytes ≡ length bytes / 16 = omega arith in
      (h.0 ∙ ap (λ (i : ℕ). f (o i)) k, bytes_after o whole fits bytes bs (h.1.1 ∙ ap (λ (i : ℕ). filled_after (o i) (bytes_of whole) bytes) k))
