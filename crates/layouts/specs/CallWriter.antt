-- The writer of calls: the argument bytes of an operation, by the fields of its row that are there at a version.
use Rattle.std.specs.Prelude.{ℕ, zero, suc, ◌+◌, List, [], ◌∷◌, ◌++◌, Bool, true, false, ◌&&◌, ◌||◌, length, get_or, take, drop, leb, eqb}
use Rattle.std.proofs.Math.ListN as ListN
use Rattle.layouts.specs.Primitive.{pick, number_bytes, Version, unknown_operation, no_such_entry, no_arguments, not_of_shape, Result, ok, refused, onward}
use Rattle.layouts.specs.Shape.{Target, dropped, as_number, as_flag, as_count, as_presence, What, num, str, set, pairs, framed, maybe, typed, position, Gated, there, what}
use Rattle.layouts.specs.Operations.{kind_of, Row, row, unknown}
use Rattle.layouts.specs.Calls.{Context, chosen, arguments_kinds}
use Rattle.layouts.specs.Writers.{slots_of, strings_bytes, framed_bytes, texts_from, writing}

-- ---- fields: 9; 13 where a call has no kind
unfoldable pub fields_there : Version → List Gated → List What
fields_there v [] = []
fields_there v (x ∷ xs) = pick (there v x) (what x ∷ fields_there v xs) (fields_there v xs)

abbrev pub fields_by : Row → Context → Result (List What)
fields_by (row o) c = pick (eqb (kind_of c.spoken false (arguments_kinds c)) 0) (refused no_arguments 0 0) (ok (fields_there c.spoken o.arguments))
fields_by unknown c = refused unknown_operation 0 0

unfoldable pub call_fields : Context → Result (List What)
call_fields c = fields_by (chosen c) c

-- ---- the numbers of a call are fifteen: the twelve of the record, then its three counts. What is dropped is written as 0
unfoldable pub value_for : (numbers : List ℕ) → Target → ℕ
value_for ns dropped = 0
value_for ns (as_number i) = get_or ns i 0
value_for ns (as_flag i) = get_or ns i 0
value_for ns (as_count i) = get_or ns (12 + i) 0
value_for ns as_presence = 0

abbrev pub target_in : What → Target
target_in (num t) = t
target_in (str m) = dropped
target_in (set m t) = t
target_in (pairs m t) = t
target_in framed = dropped
target_in maybe = dropped
target_in typed = dropped
target_in position = dropped

-- 14: what is left of the numbers where the fields have taken theirs must be 0, and a flag takes 0 and 1 only
unfoldable pub leave : (numbers left : List ℕ) → Target → List ℕ
leave ns l dropped = l
leave ns l (as_number i) = ListN.set l i 0
leave ns l (as_flag i) = ListN.set l i (pick (leb (get_or ns i 0) 1) 0 (get_or ns i 0))
leave ns l (as_count i) = ListN.set l (12 + i) 0
leave ns l as_presence = l

unfoldable pub left_by : (numbers left : List ℕ) → List What → List ℕ
left_by ns l [] = l
left_by ns l (w ∷ ws) = left_by ns (leave ns l (target_in w)) ws

unfoldable pub all_zero : (n : ℕ) → List ℕ → Bool
all_zero zero l = true
all_zero (suc n) l = all_zero n l && eqb (get_or l n 0) 0

abbrev pub is_framed : What → Bool
is_framed (num t) = false
is_framed (str m) = false
is_framed (set m t) = false
is_framed (pairs m t) = false
is_framed framed = true
is_framed maybe = false
is_framed typed = false
is_framed position = false

unfoldable pub has_frames : List What → Bool
has_frames [] = false
has_frames (w ∷ ws) = is_framed w || has_frames ws

unfoldable pub is_of_shape : (numbers payload : List ℕ) → List What → Bool
is_of_shape ns p ws = all_zero 15 (left_by ns ns ws) && (has_frames ws || eqb (length p) 0)

-- ---- how many strings a field has
unfoldable pub strings_in : (numbers : List ℕ) → What → ℕ
strings_in ns (num t) = 0
strings_in ns (str m) = 1
strings_in ns (set m t) = value_for ns t
strings_in ns (pairs m t) = value_for ns t + value_for ns t
strings_in ns framed = 0
strings_in ns maybe = 0
strings_in ns typed = 0
strings_in ns position = 0

-- how many entries the fields use, after the first n; 11 at the count, at a single string 0
unfoldable pub entries_for : (numbers : List ℕ) → (slots n : ℕ) → List What → Result ℕ
entries_for ns slots n [] = ok n
entries_for ns slots n (w ∷ ws) =
    pick (leb (n + strings_in ns w) slots) (entries_for ns slots (n + strings_in ns w) ws) (refused no_such_entry (value_for ns (target_in w)) 0)

-- ---- the bytes of a field with its strings. No call has `maybe`, `typed` or `position`
unfoldable pub field_bytes : (numbers payload : List ℕ) → (strings : List (List ℕ)) → What → List ℕ
field_bytes ns p cs (num t) = number_bytes (value_for ns t)
field_bytes ns p cs (str m) = strings_bytes cs
field_bytes ns p cs (set m t) = number_bytes (value_for ns t) ++ strings_bytes cs
field_bytes ns p cs (pairs m t) = number_bytes (value_for ns t) ++ strings_bytes cs
field_bytes ns p cs framed = framed_bytes p
field_bytes ns p cs maybe = []
field_bytes ns p cs typed = []
field_bytes ns p cs position = []

unfoldable pub fields_bytes : (numbers payload : List ℕ) → (strings : List (List ℕ)) → List What → List ℕ
fields_bytes ns p cs [] = []
fields_bytes ns p cs (w ∷ ws) = field_bytes ns p (take (strings_in ns w) cs) w ++ fields_bytes ns p (drop (strings_in ns w) cs) ws

-- ---- the call: each entry that is used 12, 3
abbrev pub strings_of : (numbers bytes entries : List ℕ) → List What → Result (List (List ℕ))
strings_of ns bytes es ws = onward (entries_for ns (slots_of es) 0 ws) (λ n. texts_from bytes es n 0)

abbrev pub shape_bytes : (numbers bytes entries payload : List ℕ) → List What → Result (List ℕ)
shape_bytes ns bytes es p ws =
    pick (is_of_shape ns p ws) (onward (strings_of ns bytes es ws) (λ cs. ok (fields_bytes ns p cs ws))) (refused not_of_shape 0 0)

unfoldable pub call_bytes : Context → (numbers bytes entries payload : List ℕ) → Result (List ℕ)
call_bytes c ns bytes es p = onward (call_fields c) (λ ws. shape_bytes ns bytes es p ws)

-- last 10
abbrev pub write_bytes : Result (List ℕ) → (lent : List ℕ) → Result ℕ
write_bytes o lent = onward o (λ output. writing output lent)

unfoldable pub write_op_args : Context → (numbers bytes entries payload lent : List ℕ) → Result ℕ
write_op_args c ns bytes es p lent = write_bytes (call_bytes c ns bytes es p) lent
