-- A call that is written reads back: its numbers, counts, strings and payload, whatever follows it. Once over the fields; of the table only that they are writable.
use Prim.Native.Nat.{ℕ, zero, suc, ◌+◌, ◌*◌, ◌≤◌, ◌<◌}
use mathlib.Core.Path.{◌≡◌, refl, sym, ◌∙◌, ap, subst}
use mathlib.Core.List.{List, [], ◌∷◌, ◌++◌, append_assoc, append-nil}
use mathlib.Core.Bool.{Bool, true, false, ◌&&◌, ◌||◌}
use lib.ListN.{length, get_or, take, drop, replicate, length-append, length-drop, take-append-drop}
use lib.Seq.{length-take-le, ext_get_or}
use lib.Dec.{leb, eqb}
use borrow.Author.Tests.{eqb-true, eqb-false}
use native.Mathlib.Omega.{arith}
use native.Mathlib.Decide.{ℕ_discrete}
use native.Mathlib.Nat.{zero-add}
use Rattle.layouts.specs.declared.Record.{Record}
use Rattle.layouts.specs.Primitive.{pick, Version, no_such_entry, no_arguments, not_of_shape, Result, ok, onward}
use Rattle.layouts.specs.Shape.{What, once, Tree, stop, group, groups, layout}
use Rattle.layouts.specs.Pieces.{Pieces, end, run}
use Rattle.layouts.specs.Record.{blank}
use Rattle.layouts.specs.Judge.{judge_of, entries_of, payload_of}
use Rattle.layouts.specs.Operations.{kind_of, Operation, Row, row, unknown}
use Rattle.layouts.specs.Grammar.{Says, says_end}
use Rattle.layouts.specs.Calls.{Context, chosen, arguments_tree, by_row, arguments_kinds, answered, read_op_args}
use Rattle.layouts.specs.Writers.{slots_of, view_of, texts_from, writing}
use Rattle.layouts.specs.Demands.{Strings}
use Rattle.layouts.specs.CallWriter.{fields_there, fields_by, call_fields, value_for, target_in, leave, left_by, all_zero, is_framed, has_frames, is_of_shape, strings_in, entries_for, field_bytes, fields_bytes, strings_of, shape_bytes, call_bytes, write_op_args}
use Rattle.layouts.proofs.Exact.{past, complete}
use Rattle.layouts.proofs.Placed.{never_both}
use Rattle.layouts.proofs.Lowers.{not_both}
use Rattle.layouts.proofs.Writers.{onward_ok, pick_ok, writing_told, Told, texts_told}
use Rattle.layouts.proofs.RoundTrip.{not_refused}
use Rattle.layouts_calls.specs.CallTrips.{Fifteen, call_strings, NoneLong, call_pieces, ReadBack}
use Rattle.layouts_calls.proofs.Writable.{and_true, Writable, AllWritable, row_writable}
use Rattle.layouts_calls.proofs.CallFields.{fields_tree, fields_there_lem, field_pieces, says_field, texts_then_lem, Agrees, strings_in_lem, payload_field, Taken, taken}

-- ---- how many strings the fields have
unfoldable pub total : (numbers : List ℕ) → List What → ℕ
total ns [] = 0
total ns (w ∷ ws) = strings_in ns w + total ns ws

pub entries_total : (ns : List ℕ) (slots n m : ℕ) (ws : List What) → entries_for ns slots n ws ≡ ok m → m ≡ n + total ns ws
unfolding entries_for total
entries_total ns slots n m [] h = let z : n ≡ m = cc in omega arith
entries_total ns slots n m (w ∷ ws) h =
    let k = n + strings_in ns w in
    let z = entries_total ns slots k m ws (pick_ok (leb k slots) no_such_entry (value_for ns (target_in w)) (entries_for ns slots k ws) m h).1 in
    omega arith

strings_split : (n : ℕ) (cs : List (List ℕ)) → Strings cs → Strings (take n cs) × Strings (drop n cs)
strings_split zero cs g = (tt, g)
strings_split (suc n) [] g = (tt, tt)
strings_split (suc n) (c ∷ cs) g = let z = strings_split n cs g.2 in ((g.0, g.1, z.0), z.1)

-- ---- fields in a row
module _ (ns p s : List ℕ) (slots room : ℕ) (small : (j : ℕ) → get_or ns j 0 < 18446744073709551616) where
  record Judged (ws : List What) (n : ℕ) (left : List ℕ) (ends : ℕ) (r : Record) (q : Pieces) : Type 0 where
    last : Record
    judged : judge_of s slots room r q ≡ ok (record { found = last; ends = ends })
    agrees : Agrees ns (left_by ns left ws) last.numbers last.counts last.present
    entries : last.entries ≡ r.entries + n
    payload : last.payload ≡ r.payload + length (pick (has_frames ws) p [])

  -- b are the bytes of the fields, at this place, cs their strings and q their pieces
  record Back (ws : List What) (cs : List (List ℕ)) (at : ℕ) (b : List ℕ) (q : Pieces) : Type 0 where
    says : Says (fields_tree ws (λ u. stop)) at b q
    judge : (left : List ℕ) (r : Record) → Agrees ns left r.numbers r.counts r.present → r.entries + length cs ≤ slots
        → r.payload + length (pick (has_frames ws) p []) ≤ room → Judged ws (length cs) left (at + length b) r q
    shown : (i : ℕ) (es spare : List ℕ) → drop (2 * i) es ≡ entries_of q ++ spare → texts_from s es (length cs) i ≡ ok cs
    payload : payload_of s q ≡ pick (has_frames ws) p []

  none_back : (at : ℕ) → Back [] [] at [] (end at)
  unfolding fields_tree judge_of left_by has_frames entries_of texts_from payload_of
  none_back at =
      record {
        says = says_end at;
        judge = λ left r a h g. record { last = r; judged = ap (λ (n : ℕ). ok (record { found = r; ends = n })) (omega arith); agrees = a; entries = omega arith; payload = omega arith };
        shown = λ i es spare d. refl;
        payload = refl;
      }

  -- framed data comes once
  once_framed : (a b : Bool) → a && b ≡ false → pick (a || b) p [] ≡ pick a p [] ++ pick b p []
  once_framed true true h = absurd (not_both refl h)
  once_framed true false h = sym (append-nil p)
  once_framed false b h = refl

  module _ {w : What} (x : Writable w) (ws : List What) (once : is_framed w && has_frames ws ≡ false) (c d : List (List ℕ)) (at : ℕ) (b u : List ℕ) (q : Pieces)
      (n : length c ≡ strings_in ns w) (g : Strings c) (e : drop at s ≡ field_bytes ns p c w ++ u) (y : Back ws d (at + length (field_bytes ns p c w)) b q) where
    more_judged : (left : List ℕ) (r : Record) → Agrees ns left r.numbers r.counts r.present → r.entries + length (c ++ d) ≤ slots
        → r.payload + length (pick (has_frames (w ∷ ws)) p []) ≤ room
        → Judged (w ∷ ws) (length (c ++ d)) left (at + length (field_bytes ns p c w ++ b)) r (field_pieces ns p c w at q)
    unfolding left_by has_frames
    more_judged left r a h f = by (taken ns p s slots room c at left r q u g (omega (arith, size)) a x n e (omega (arith, parts)))
      where
        size : length (c ++ d) ≡ length c + length d
        size = length-append c d

        parts : length (pick (is_framed w || has_frames ws) p []) ≡ length (pick (is_framed w) p []) + length (pick (has_frames ws) p [])
        parts = simp length-append at (ap length (once_framed (is_framed w) (has_frames ws) once))

        First : Type 0
        First = Taken ns p s slots room c (target_in w) (length (pick (is_framed w) p [])) left r (field_pieces ns p c w at q) q

        All : Type 0
        All = Judged (w ∷ ws) (length (c ++ d)) left (at + length (field_bytes ns p c w ++ b)) r (field_pieces ns p c w at q)

        join : (t : First) → Judged ws (length d) (leave ns left (target_in w)) (at + length (field_bytes ns p c w) + length b) t.next q → All
        join t j =
            record {
              last = j.last;
              judged = t.judged ∙ j.judged ∙ ap (λ (n : ℕ). ok (record { found = j.last; ends = n })) (simp length-append (omega arith));
              agrees = j.agrees;
              entries = omega (arith, size, t.entries, j.entries);
              payload = omega (arith, parts, t.payload, j.payload);
            }

        by : First → All
        by t =
            join t
            (y.judge (leave ns left (target_in w)) t.next t.agrees (omega (arith, size, t.entries)) (omega (arith, parts, t.payload)))

    more_back : Back (w ∷ ws) (c ++ d) at (field_bytes ns p c w ++ b) (field_pieces ns p c w at q)
    unfolding fields_tree has_frames
    more_back =
        let i = strings_in_lem ns p s x c at q u n e in
        record {
          says = says_field ns p small x c at (at + length (field_bytes ns p c w)) (λ u. fields_tree ws (λ u. stop)) b q n g refl y.says;
          judge = more_judged;
          shown =
              λ k es spare f.
              rw length-append
              (texts_then_lem s c d i.place k (k + length c) (length d) es spare i.rest q i.stand g refl (rw i.entries at f)
              (λ z. y.shown (k + length c) es spare z));
          payload =
              payload_field ns p s x c at q u e ∙ ap (λ (l : List ℕ). pick (is_framed w) p [] ++ l) y.payload
              ∙ sym (once_framed (is_framed w) (has_frames ws) once);
        }

  back : (ws : List What) (cs : List (List ℕ)) (at : ℕ) (u : List ℕ) → AllWritable ws → length cs ≡ total ns ws → Strings cs → drop at s ≡ fields_bytes ns p cs ws ++ u
      → (q : Pieces) × Back ws cs at (fields_bytes ns p cs ws) q
  unfolding total fields_bytes
  back [] [] at u x n g e = (end at, none_back at)
  back [] (c ∷ cs) at u x n g e = absurd (omega arith)
  back (w ∷ ws) cs at u x n g e =
      let i = strings_in ns w in
      let b = field_bytes ns p (take i cs) w in
      let b' = fields_bytes ns p (drop i cs) ws in
      let split = strings_split i cs g in
      let e' : drop at s ≡ b ++ (b' ++ u) = simp append_assoc at e in
      let rest = back ws (drop i cs) (at + length b) u x.1 (simp length-drop (omega arith)) split.1 (past s at (length b) b (b' ++ u) e' refl) in (
        field_pieces ns p (take i cs) w at rest.0,
        subst (λ (ds : List (List ℕ)). Back (w ∷ ws) ds at (b ++ b') (field_pieces ns p (take i cs) w at rest.0)) (take-append-drop i cs)
            (more_back x.0.can ws x.0.once (take i cs) (drop i cs) at b' (b' ++ u) rest.0 (length-take-le i cs (omega arith)) split.0 e' rest.1),
      )

-- ---- a list of fields: what is written of it, as it reads
zeros : (n j : ℕ) → get_or {A = ℕ} (replicate n 0) j 0 ≡ 0
zeros zero j = refl
zeros (suc n) zero = refl
zeros (suc n) (suc j) = zeros n j

agrees_blank : (ns : List ℕ) → length ns ≡ 15 → Agrees ns ns (replicate 12 0) (replicate 3 0) false
agrees_blank ns h = record { twelve = refl; three = refl; fifteen = h; absent = refl; same = λ j z. zeros 15 j ∙ sym z }

all_zero_lem : (n : ℕ) (l : List ℕ) → all_zero n l ≡ true → (j : ℕ) → j < n → get_or l j 0 ≡ 0
unfolding all_zero
all_zero_lem zero l h j g = absurd (omega arith)
all_zero_lem (suc n) l h j g = go (ℕ_discrete j n) (λ z. all_zero_lem n l z j)
  where
    go : Dec (j ≡ n) → (all_zero n l ≡ true → j < n → get_or l j 0 ≡ 0) → get_or l j 0 ≡ 0
    go (yes e) r = rw e (eqb-true (get_or l n 0) 0 (and_true (all_zero n l) (eqb (get_or l n 0) 0) h).1)
    go (no e) r = r (and_true (all_zero n l) (eqb (get_or l n 0) 0) h).0 (omega arith)

nothing_left : (ns left numbers counts : List ℕ) (present : Bool) → length ns ≡ 15 → Agrees ns left numbers counts present → all_zero 15 left ≡ true → numbers ++ counts ≡ ns
nothing_left ns left numbers counts present h a z =
    let b = a.twelve in
    let c = a.three in
    let k : length (numbers ++ counts) ≡ 15 = simp length-append (omega arith) in
    ext_get_or 0 (numbers ++ counts) ns (omega arith) (λ j l. a.same j (all_zero_lem 15 left z j (omega arith)))

no_payload : (p : List ℕ) (b : Bool) → b || eqb (length p) 0 ≡ true → pick b p [] ≡ p
no_payload p true h = refl
no_payload [] false h = refl
no_payload (x ∷ p) false h = let z = eqb-true (length (x ∷ p)) 0 h in absurd (omega arith)

-- a tree reads the stream to this end, with these numbers and counts, these strings and this payload
pub record TreeBack (t : Tree) (numbers payload : List ℕ) (strings : List (List ℕ)) (s : List ℕ) (slots room ends : ℕ) : Type 0 where
  pub found : Record
  pub judged : judge_of s slots room blank (run t s 0) ≡ ok (record { found = found; ends = ends })
  pub absent : found.present ≡ false
  pub same : found.numbers ++ found.counts ≡ numbers
  pub entries : found.entries ≡ length strings
  pub texts : (spare : List ℕ) → texts_from s (entries_of (run t s 0) ++ spare) (length strings) 0 ≡ ok strings
  pub size : found.payload ≡ length payload
  pub holds : payload_of s (run t s 0) ≡ payload

-- the strings of the fields: so many, each what its entry says, and text
module _ (ns bytes es : List ℕ) (ws : List What) (cs : List (List ℕ)) (q : strings_of ns bytes es ws ≡ ok cs) where
  strings_told : (length cs ≡ total ns ws) × Told bytes es (length cs) 0 cs
  strings_told =
      let a = onward_ok (entries_for ns (slots_of es) 0 ws) (λ n. texts_from bytes es n 0) cs q in
      let t = texts_told bytes es a.0 0 cs a.2 in
      let z = entries_total ns (slots_of es) 0 a.0 ws a.1 in
      let m = t.many in
      (omega arith, rw m t)

pub fields_read : (ns bytes es p out behind : List ℕ) (ws : List What) (cs : List (List ℕ)) (slots room : ℕ) → AllWritable ws → Fifteen ns
    → shape_bytes ns bytes es p ws ≡ ok out → strings_of ns bytes es ws ≡ ok cs → NoneLong cs → length cs ≤ slots → length p ≤ room
    → TreeBack (fields_tree ws (λ u. stop)) ns p cs (out ++ behind) slots room (length out)
unfolding is_of_shape
fields_read ns bytes es p out behind ws cs slots room x f h q l g e =
    let a = pick_ok (is_of_shape ns p ws) not_of_shape 0 (onward (strings_of ns bytes es ws) (λ ds. ok (fields_bytes ns p ds ws))) out h in
    let b : fields_bytes ns p cs ws ≡ out = let z = rw q at a.1 in cc in
    let t = strings_told ns bytes es ws cs q in
    let s = out ++ behind in
    let o = and_true (all_zero 15 (left_by ns ns ws)) (has_frames ws || eqb (length p) 0) a.0 in
    let y = back ns p s slots room f.1 ws cs 0 behind x t.0 (t.1.fine l) (ap (λ (z : List ℕ). z ++ behind) (sym b)) in
    by y.0 (subst (λ (z : List ℕ). Back ns p s slots room f.1 ws cs 0 z y.0) b y.1) o
  where
    by : (r : Pieces) → Back ns p (out ++ behind) slots room f.1 ws cs 0 out r
        → (all_zero 15 (left_by ns ns ws) ≡ true) × (has_frames ws || eqb (length p) 0 ≡ true)
        → TreeBack (fields_tree ws (λ u. stop)) ns p cs (out ++ behind) slots room (length out)
    by r y o =
        let d = no_payload p (has_frames ws) o.1 in
        let c = complete y.says (out ++ behind) behind refl in
        let j = y.judge ns blank (agrees_blank ns f.0) (omega arith) (rw d (omega arith)) in
        record {
          found = j.last;
          judged = rw c (j.judged ∙ ap (λ (n : ℕ). ok (record { found = j.last; ends = n })) (omega arith));
          absent = j.agrees.absent;
          same = nothing_left ns (left_by ns ns ws) j.last.numbers j.last.counts j.last.present f.0 j.agrees o.0;
          entries = j.entries ∙ omega arith;
          texts = λ spare. rw c (y.shown 0 (entries_of r ++ spare) spare refl);
          size = j.payload ∙ rw d (omega arith);
          holds = rw c (y.payload ∙ d);
        }

-- ---- the operations
layout_fields : (v : Version) (o : Operation) → layout v (once o.arguments ∷ []) ≡ fields_tree (fields_there v o.arguments) (λ u. stop)
unfolding layout groups group
layout_fields v o = fields_there_lem v o.arguments (λ u. stop)

module _ (c : Context) (ws : List What) (h : call_fields c ≡ ok ws) where
  abbrev v : Version
  v = c.spoken

  -- the fields of a call: the tree that reads them, that they can be written, and that the call has a kind
  pub call_known : (arguments_tree c ≡ fields_tree ws (λ u. stop)) × AllWritable ws × (0 < kind_of v false (arguments_kinds c))
  unfolding call_fields arguments_tree
  call_known = by (chosen c) refl h
    where
      by : (f : Row) → chosen c ≡ f → fields_by f c ≡ ok ws
          → (by_row f (λ o. layout v (once o.arguments ∷ [])) ≡ fields_tree ws (λ u. stop)) × AllWritable ws × (0 < kind_of v false (arguments_kinds c))
      by (row o) e q =
          let k = kind_of v false (arguments_kinds c) in
          let a = not_refused (eqb k 0) no_arguments 0 (ok (fields_there v o.arguments)) ws q in
          let z : fields_there v o.arguments ≡ ws = let y = a.1 in cc in
          let n = eqb-false k 0 a.0 in
          (layout_fields v o ∙ ap (λ (l : List What). fields_tree l (λ u. stop)) z, subst AllWritable z (row_writable c o e), omega arith)
      by unknown e q = absurd (never_both q)

tree_read : (c : Context) (ns p : List ℕ) (cs : List (List ℕ)) (s : List ℕ) (slots room ends : ℕ) → 0 < kind_of c.spoken false (arguments_kinds c)
    → TreeBack (arguments_tree c) ns p cs s slots room ends → ReadBack c ns p cs s slots room ends
unfolding read_op_args
tree_read c ns p cs s slots room ends k y =
    record {
      answer = record { kind = kind_of c.spoken y.found.present (arguments_kinds c); ends = ends; ends2 = 0; found = y.found };
      reads = ap (answered c.spoken (arguments_kinds c)) y.judged;
      kind = rw y.absent k;
      stops = refl;
      same = y.same;
      entries = y.entries;
      views =
          λ spare i l.
          ap (view_of s (entries_of (call_pieces c s) ++ spare)) (sym (zero-add i))
          ∙ (texts_told s (entries_of (call_pieces c s) ++ spare) (length cs) 0 cs (y.texts spare)).views i l;
      size = y.size;
      holds = y.holds;
    }

module _ (c : Context) (ns bytes es : List ℕ) where
  -- an answer tells the length of what is written
  pub call_told : (p lent : List ℕ) (n : ℕ) → write_op_args c ns bytes es p lent ≡ ok n → (out : List ℕ) × (call_bytes c ns bytes es p ≡ ok out) × (length out ≡ n)
  unfolding write_op_args
  call_told p lent n h =
      let a = onward_ok (call_bytes c ns bytes es p) (λ out. writing out lent) n h in
      (a.0, a.1, writing_told a.0 lent n a.2)

  -- what is written has its strings
  pub written_strings : (p out : List ℕ) → call_bytes c ns bytes es p ≡ ok out → (cs : List (List ℕ)) × (call_strings c ns bytes es ≡ ok cs)
  unfolding call_bytes call_strings
  written_strings p out h =
      let a = onward_ok (call_fields c) (λ ws. shape_bytes ns bytes es p ws) out h in
      let ws = a.0 in
      let b = pick_ok (is_of_shape ns p ws) not_of_shape 0 (onward (strings_of ns bytes es ws) (λ cs. ok (fields_bytes ns p cs ws))) out a.2 in
      let d = onward_ok (strings_of ns bytes es ws) (λ cs. ok (fields_bytes ns p cs ws)) out b.1 in
      (d.0, ap (λ (o : Result (List What)). onward o (λ ws. strings_of ns bytes es ws)) a.1 ∙ d.1)

  module _ (cs : List (List ℕ)) (q : call_strings c ns bytes es ≡ ok cs) where
    -- each of which is what its entry says, and text
    pub strings_are : Told bytes es (length cs) 0 cs
    unfolding call_strings
    strings_are = let a = onward_ok (call_fields c) (λ ws. strings_of ns bytes es ws) cs q in (strings_told ns bytes es a.0 cs a.2).1

    -- W-201: a call that is written reads back, whatever follows it
    pub written_read : (p out behind : List ℕ) (slots room : ℕ) → Fifteen ns → call_bytes c ns bytes es p ≡ ok out → NoneLong cs → length cs ≤ slots → length p ≤ room
        → ReadBack c ns p cs (out ++ behind) slots room (length out)
    unfolding call_bytes call_strings
    written_read p out behind slots room f h l g e =
        let a = onward_ok (call_fields c) (λ ws. shape_bytes ns bytes es p ws) out h in
        let k = call_known c a.0 a.1 in
        let d : strings_of ns bytes es a.0 ≡ ok cs = sym (ap (λ (o : Result (List What)). onward o (λ ws. strings_of ns bytes es ws)) a.1) ∙ q in
        let y = fields_read ns bytes es p out behind a.0 cs slots room k.1 f a.2 d l g e in
        tree_read c ns p cs (out ++ behind) slots room (length out) k.2
        (subst (λ (t : Tree). TreeBack t ns p cs (out ++ behind) slots room (length out)) (sym k.0) y)
