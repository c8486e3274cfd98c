-- The pieces one by one: what is written and what is to come is what the whole reports.
use Prim.Native.Nat.{ℕ, ◌+◌, ◌-◌, ◌%◌, ◌≤◌, ◌<◌}
use mathlib.Core.Path.{◌≡◌, refl, sym, ◌∙◌, ap, subst}
use mathlib.Core.List.{List, [], ◌++◌}
use mathlib.Core.Bool.{Bool, true, false}
use lib.ListN.{length, take, drop}
use lib.Dec.{leb}
use borrow.Author.Tests.{le-leb, lt-leb, leb-true, leb-false}
use native.Mathlib.Omega.{arith}
use native.Mathlib.Decide.{dec_le}
use Rattle.layouts.specs.Primitive.{number_at, pad_of}
use Rattle.layouts.specs.Shape.{Role, Tree, say, frames, stop, strings, units}
use Rattle.layouts.specs.Pieces.{Pieces}
use Rattle.layouts.specs.Record.{is_kept}
use Rattle.layouts.specs.Judge.{entry, entries_of, payload_of}
use Rattle.layouts.specs.Calls.{peek_number}
use Rattle.pieces.specs.Pieces.{num_read}
use Rattle.pieces.proofs.Numbers.{number_known, number_short}
use Rattle.table.specs.Table.{role_of}
use Rattle.walk_strings.specs.Strings.{series, series_after, after_next}
use Rattle.walk_strings.proofs.Series.{series_next}
use Rattle.walk_rooms.specs.Rooms.{Put, Filling}
use Rattle.walk_rooms.proofs.Laws.{filling_start, filling_as, filling_put, filling_on}
use Rattle.walk_fill.specs.declared.Listed.{Listed}
use Rattle.walk_fill.specs.There.{nothing, run_there}
use Rattle.walk_fill.specs.Fill.{Rooms, Fills, rooms, Alike, Lists, Copies}
use Rattle.walk_fill.proofs.There.{say_there, say_none, frames_last, frames_part, frames_none, past_none}
use Rattle.walk_strings.specs.declared.More.{More}
use Rattle.std.specs.Prelude.{Option, Some, None}

-- a part of the stream, put as bytes
pub chunk_put : (s : List ℕ) (start len : ℕ) (l : List ℕ) (at : ℕ) (o : List ℕ) (k : ℕ) → Put l at (take (start + len - start) (drop start s)) o k → Put l at (take len (drop start s)) o k
chunk_put s start len l at o k p = let e : start + len - start ≡ len = omega arith in subst (λ (n : ℕ). Put l at (take n (drop start s)) o k) e p

-- ---- from one state of the rooms to the next
module _ {A : Type 0} (form : List ℕ → List A) (s : List ℕ) (x₀ : Rooms A) (p₀ : Pieces) where
  pub fills_start : (p : Pieces) → p ≡ p₀ → Fills form s x₀ p₀ x₀ p
  fills_start p e = record { entries = filling_start _ _ _ _ (ap (λ (q : Pieces). form (entries_of q)) e); payload = filling_start _ _ _ _ (ap (payload_of s) e) }

  module _ (x : Rooms A) (p : Pieces) (f : Fills form s x₀ p₀ x p) where
    pub fills_on : (y : Rooms A) (q : Pieces) → Fills form s x p y q → Fills form s x₀ p₀ y q
    fills_on y q g = record { entries = filling_on _ _ _ _ _ _ f.entries _ _ _ g.entries; payload = filling_on _ _ _ _ _ _ f.payload _ _ _ g.payload }

    -- the same is to come of other pieces
    pub fills_as : (q : Pieces) → entries_of p ≡ entries_of q → payload_of s p ≡ payload_of s q → Fills form s x₀ p₀ x q
    fills_as q e g =
        record {
          entries = filling_as _ _ _ _ _ (form (entries_of p)) (form (entries_of p₀)) (form (entries_of q)) refl (ap form (sym e)) f.entries;
          payload = filling_as _ _ _ _ _ (payload_of s p) (payload_of s p₀) (payload_of s q) refl (sym g) f.payload;
        }

    pub fills_same : (q : Pieces) → p ≡ q → Fills form s x₀ p₀ x q
    fills_same q e = fills_as q (ap entries_of e) (ap (payload_of s) e)

    -- a piece that is not there: nothing of it, and nothing of what is to come from the stream's end on
    pub past_fills : p ≡ nothing → (t : Tree) → Fills form s x₀ p₀ x (run_there t s (length s))
    past_fills e t =
        let z = past_none s (length s) (omega arith) t in
        fills_as (run_there t s (length s)) (ap entries_of e ∙ z.0) (ap (payload_of s) e ∙ z.1)

-- the same reported by other pieces
pub fills_front : {A : Type 0} (form : List ℕ → List A) (s : List ℕ) (x₀ : Rooms A) (p₀ q : Pieces) (x : Rooms A) (p : Pieces) → entries_of p₀ ≡ entries_of q
    → payload_of s p₀ ≡ payload_of s q → Fills form s x₀ q x p → Fills form s x₀ p₀ x p
fills_front {A = A} form s x₀ p₀ q x p e g f =
    record {
      entries = filling_as _ _ (form (entries_of p₀)) _ _ (form (entries_of p)) (form (entries_of q)) (form (entries_of p)) (ap form e) refl f.entries;
      payload = filling_as _ _ (payload_of s p₀) _ _ (payload_of s p) (payload_of s q) (payload_of s p) g refl f.payload;
    }

-- contents and their padding, in the words of the code: a multiple of eight bytes
pub has_contents : (size start n : ℕ) → start ≤ size → leb n (size - start - (size - start) % 8) ≡ leb (start + n + pad_of n) size
unfolding pad_of
has_contents size start n h = by (dec_le (start + n + pad_of n) size)
  where
    by : Dec (start + n + pad_of n ≤ size) → leb n (size - start - (size - start) % 8) ≡ leb (start + n + pad_of n) size
    by (yes g) = let f : n ≤ size - start - (size - start) % 8 = omega arith in rw (le-leb _ _ f, le-leb _ _ g)
    by (no g) =
        let f : size - start - (size - start) % 8 < n = omega arith in
        let l : size < start + n + pad_of n = omega arith in
        rw (lt-leb _ _ f, lt-leb _ _ l)

module _ (s : List ℕ) (start n : ℕ) (b : Bool) (e : b ≡ leb (start + n + pad_of n) (length s)) where
  pub contents_there : b ≡ true → start + n + pad_of n ≤ length s
  contents_there h = leb-true _ _ (sym e ∙ h)

  pub contents_past : b ≡ false → length s < start + n + pad_of n
  contents_past h = leb-false _ _ (sym e ∙ h)

-- ---- an entry, if a string is kept
entry_join : (b : Bool) (start len : ℕ) (es : List ℕ) → entry b start len es ≡ entry b start len [] ++ es
entry_join true start len es = refl
entry_join false start len es = refl

-- ---- a string
module _ {A : Type 0} (form : List ℕ → List A) (s : List ℕ) (at n : ℕ) (e : n ≡ number_at s at) (role : ℕ) (es : List A) (i : ℕ) where
  pub text_listed : ((xs ys : List ℕ) → form (xs ++ ys) ≡ form xs ++ form ys) → at + 8 + n + pad_of n ≤ length s → (pad : ℕ) → pad ≡ pad_of n → (es' : List A) (i' : ℕ)
      → Put es i (form (entry (is_kept (role_of role)) (at + 8) n [])) es' i' → Lists form s at (say (role_of role)) es i es' (record { at = at + 8 + n + pad; place = i' })
  unfolding entries_of payload_of
  text_listed joined h pad q es' i' g ps p k =
      let t = say_there s at n e h (role_of role) k in
      let z = run_there (k tt) s (at + 8 + n + pad_of n) in
      let v = entry (is_kept (role_of role)) (at + 8) n [] in
      rw q
      record {
        entries =
            filling_put _ _ _ _ _ _ (filling_start _ _ _ _ refl) (form v) (form (entries_of z)) _ _
            (ap (λ (x : Pieces). form (entries_of x)) t ∙ ap form (entry_join (is_kept (role_of role)) (at + 8) n (entries_of z)) ∙ joined v (entries_of z)) g;
        payload = filling_start _ _ _ _ (sym (ap (payload_of s) t));
      }

  pub text_past : length s < at + 8 + n + pad_of n → Lists form s at (say (role_of role)) es i es (record { at = length s; place = i })
  text_past h ps p k = past_fills form s _ _ _ _ (fills_start form s _ _ _ refl) (say_none s at n e h (role_of role) k) (k tt)

-- ---- a series
module _ {A : Type 0} (form : List ℕ → List A) (s : List ℕ) (es₀ : List A) (i₀ : ℕ) (m : Role) (e from l₀ : ℕ) where
  pub record Along (es : List A) (i at p l : ℕ) : Type 0 where
    pub on : from ≤ at
    pub wide : length es ≡ length es₀
    pub same : (ps : List ℕ) (n : ℕ) (k : Unit {0} → Tree) → Fills form s (rooms es₀ i₀ ps n) (run_there (units m e l₀ k) s from) (rooms es i ps n) (run_there (series m p e l k) s at)

  pub along_start : Along es₀ i₀ from 0 l₀
  unfolding series strings
  along_start = record { on = omega arith; wide = refl; same = λ ps n k. fills_start form s _ _ _ refl }

  module _ (es : List A) (i at p l : ℕ) (g : Along es i at p l) (x : Option More) (h : x ≡ after_next p e l) where
    next : (ps : List ℕ) (n : ℕ) (k : Unit {0} → Tree) (y : Option More) → x ≡ y
        → Fills form s (rooms es₀ i₀ ps n) (run_there (units m e l₀ k) s from) (rooms es i ps n) (run_there (series_after m e k y) s at)
    next ps n k y q = fills_same form s _ _ _ _ (g.same ps n k) _ (ap (λ (t : Tree). run_there t s at) (series_next m e k p l x h ∙ ap (series_after m e k) q))

    pub along_end : x ≡ None → Lists form s from (units m e l₀) es₀ i₀ es (record { at = at; place = i })
    along_end q ps n k = next ps n k None q

    module _ (p' l' : ℕ) (q : x ≡ Some (record { pend = p'; left = l' })) where
      pub along_past : length s < at + 8 → Lists form s from (units m e l₀) es₀ i₀ es (record { at = length s; place = i })
      along_past u ps n k =
          let z = past_none s at u (series_after m e k (Some (record { pend = p'; left = l' }))) in
          past_fills form s _ _ _ nothing (fills_as form s _ _ _ _ (next ps n k (Some (record { pend = p'; left = l' })) q) nothing (sym z.0) (sym z.1)) refl (k tt)

      pub along_on : (es' : List A) (r : Listed) → at + 8 ≤ r.at → Lists form s at (say m) es i es' r → Along es' r.place r.at p' l'
      along_on es' r a f =
          let o = g.on in
          record {
            on = omega arith;
            wide = (f [] 0 (λ u. stop)).entries.size ∙ g.wide;
            same = λ ps n k. fills_on form s _ _ _ _ (next ps n k (Some (record { pend = p'; left = l' })) q) _ _ (f ps n (λ u. series m p' e l' k));
          }

-- ---- framed data
module _ (s ps₀ : List ℕ) (n₀ from : ℕ) where
  pub record Copying (ps : List ℕ) (n at len : ℕ) : Type 0 where
    pub on : from ≤ at
    pub there : at + 8 ≤ length s
    pub size : len ≡ number_at s at
    pub wide : length ps ≡ length ps₀
    pub none : (k : Unit {0} → Tree) → entries_of (run_there (frames k) s from) ≡ entries_of (run_there (frames k) s at)
    pub same : (k : Unit {0} → Tree) → Filling ps₀ n₀ (payload_of s (run_there (frames k) s from)) ps n (payload_of s (run_there (frames k) s at))

  module _ (ps : List ℕ) (n at size : ℕ) (g : Copying ps n at size) where
    -- other pieces report the same
    copying_as : (k : Unit {0} → Tree) (q : Pieces) → Alike s (run_there (frames k) s at) q
        → (entries_of (run_there (frames k) s from) ≡ entries_of q) × Filling ps₀ n₀ (payload_of s (run_there (frames k) s from)) ps n (payload_of s q)
    copying_as k q e = (g.none k ∙ e.0, filling_as _ _ _ _ _ (payload_of s (run_there (frames k) s at)) _ (payload_of s q) refl (sym e.1) (g.same k))

    pub copying_last : size ≡ 0 → Copies s from ps₀ n₀ ps (record { at = at + 8; place = n })
    copying_last z k = let e = frames_last s at size g.size k g.there z in copying_as k _ (ap entries_of e, ap (payload_of s) e)

    pub copying_past : length s < at + 8 + size → Copies s from ps₀ n₀ ps (record { at = length s; place = n })
    copying_past h k =
        let e = frames_none s at size g.size k h in
        let z = past_none s (length s) (omega arith) (k tt) in
        copying_as k _ (ap entries_of e ∙ z.0, ap (payload_of s) e ∙ z.1)

    module _ (z : size ≡ 0 → ⊥) (h : at + 8 + size ≤ length s) (ps' : List ℕ) (n' : ℕ) (i : Put ps n (take size (drop (at + 8) s)) ps' n') where
      part_none : (k : Unit {0} → Tree) → entries_of (run_there (frames k) s from) ≡ entries_of (run_there (frames k) s (at + 8 + size))
      unfolding entries_of
      part_none k = g.none k ∙ ap entries_of (frames_part s at size g.size k h z)

      part_copied : (k : Unit {0} → Tree) → Filling ps₀ n₀ (payload_of s (run_there (frames k) s from)) ps' n' (payload_of s (run_there (frames k) s (at + 8 + size)))
      unfolding payload_of
      part_copied k = filling_put _ _ _ _ _ _ (g.same k) (take size (drop (at + 8) s)) _ _ _ (ap (payload_of s) (frames_part s at size g.size k h z)) i

      module _ (m : Option ℕ) (e : num_read m ≡ peek_number s (at + 8 + size)) where
        pub copying_cut : m ≡ None → Copies s from ps₀ n₀ ps' (record { at = length s; place = n' })
        copying_cut q k =
            let y = past_none s (at + 8 + size) (number_short s (at + 8 + size) m e q) (frames k) in
            let z = past_none s (length s) (omega arith) (k tt) in (
              part_none k ∙ sym y.0 ∙ z.0,
              filling_as _ _ _ _ _ (payload_of s (run_there (frames k) s (at + 8 + size))) _ (payload_of s (run_there (k tt) s (length s))) refl (sym z.1 ∙ y.1) (part_copied k),
            )

        pub copying_on : (next : ℕ) → m ≡ Some next → Copying ps' n' (at + 8 + size) next
        copying_on next q =
            let y = number_known s (at + 8 + size) m e next q in
            let o = g.on in
            record { on = omega arith; there = y.0; size = y.1; wide = i.size ∙ g.wide; none = part_none; same = part_copied }
