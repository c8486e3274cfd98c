-- Views and writers. A writer answers the length of its whole output, or refuses; what it writes is `lent_after` of its answer and its output.
use Rattle.std.specs.Prelude.{ℕ, zero, suc, ◌+◌, ◌*◌, ◌/◌, ◌%◌, List, [], ◌∷◌, ◌++◌, Bool, ◌&&◌, length, get_or, take, drop, replicate, ltb, leb, eqb}
use Rattle.text.specs.Prefix.{is_text}
use Rattle.layouts.specs.Primitive.{pick, number_bytes, pad_of, bad_text, output_full, no_such_entry, bad_entry, Result, ok, refused, onward, same}

-- ---- views: entries are two numbers each, start and length
abbrev pub slots_of : (entries : List ℕ) → ℕ
slots_of es = length es / 2

abbrev pub entry_start : (entries : List ℕ) → (i : ℕ) → ℕ
entry_start es i = get_or es (2 * i) 0

abbrev pub entry_length : (entries : List ℕ) → (i : ℕ) → ℕ
entry_length es i = get_or es (2 * i + 1) 0

-- string number i, as a part of the bytes: 11, then 12
unfoldable pub view_of : (bytes entries : List ℕ) → (i : ℕ) → Result (List ℕ)
view_of bytes es i =
    pick (ltb i (slots_of es))
    (pick (leb (entry_start es i + entry_length es i) (length bytes)) (ok (take (entry_length es i) (drop (entry_start es i) bytes))) (refused bad_entry i 0))
    (refused no_such_entry i 0)

-- a feature is a part of the client's or of the daemon's bytes
abbrev pub feature_of : (daemons : Bool) → (client daemon entries : List ℕ) → (i : ℕ) → Result (List ℕ)
feature_of d client daemon es i = view_of (pick d daemon client) es i

-- a refused view is the empty part
abbrev pub part_of : Result (List ℕ) → List ℕ
part_of (ok part) = part
part_of (refused which place stream) = []

-- ---- what is written
unfoldable pub string_bytes : List ℕ → List ℕ
string_bytes c = number_bytes (length c) ++ (c ++ replicate (pad_of (length c)) 0)

unfoldable pub strings_bytes : List (List ℕ) → List ℕ
strings_bytes [] = []
strings_bytes (c ∷ cs) = string_bytes c ++ strings_bytes cs

unfoldable pub set_bytes : List (List ℕ) → List ℕ
set_bytes cs = number_bytes (length cs) ++ strings_bytes cs

-- chunks of 32768 bytes, a shorter last one if bytes are left, and the zero; the first argument bounds how many there can be
unfoldable pub chunks_bytes : ℕ → List ℕ → List ℕ
chunks_bytes zero c = number_bytes 0
chunks_bytes (suc f) [] = number_bytes 0
chunks_bytes (suc f) (b ∷ c) =
    number_bytes (length (take 32768 (b ∷ c))) ++ (take 32768 (b ∷ c) ++ chunks_bytes f (drop 32768 (b ∷ c)))

unfoldable pub framed_bytes : List ℕ → List ℕ
unfolding chunks_bytes
framed_bytes c = chunks_bytes (length c) c

-- a number below 2^64 has at most 20 digits
unfoldable pub digits : ℕ → ℕ → List ℕ
digits zero n = []
digits (suc f) n = pick (ltb n 10) ((48 + n) ∷ []) (digits f (n / 10) ++ ((48 + n % 10) ∷ []))

abbrev pub decimal : ℕ → List ℕ
decimal n = digits 20 n

-- normal, repair, check, else the decimal
unfoldable pub mode_text : ℕ → List ℕ
mode_text n =
    pick (eqb n 0) (0x6e ∷ 0x6f ∷ 0x72 ∷ 0x6d ∷ 0x61 ∷ 0x6c ∷ [])
    (pick (eqb n 1) (0x72 ∷ 0x65 ∷ 0x70 ∷ 0x61 ∷ 0x69 ∷ 0x72 ∷ [])
    (pick (eqb n 2) (0x63 ∷ 0x68 ∷ 0x65 ∷ 0x63 ∷ 0x6b ∷ []) (decimal n)))

-- "N paths", "N overrides"
unfoldable pub paths_text : ℕ → List ℕ
paths_text n = decimal n ++ (0x20 ∷ 0x70 ∷ 0x61 ∷ 0x74 ∷ 0x68 ∷ 0x73 ∷ [])

unfoldable pub overrides_text : ℕ → List ℕ
overrides_text n = decimal n ++ (0x20 ∷ 0x6f ∷ 0x76 ∷ 0x65 ∷ 0x72 ∷ 0x72 ∷ 0x69 ∷ 0x64 ∷ 0x65 ∷ 0x73 ∷ [])

-- ---- writers: numbers (`number_bytes`, `little_end 4`), bytes (`string_bytes`), framed data and texts refuse by 10 only
unfoldable pub writing : (output lent : List ℕ) → Result ℕ
writing output lent = pick (leb (length output) (length lent)) (ok (length output)) (refused output_full 0 0)

-- 3, then 10
unfoldable pub write_string : (c lent : List ℕ) → Result ℕ
write_string c lent = pick (is_text c) (writing (string_bytes c) lent) (refused bad_text 0 0)

-- string number i, to be written: 12, 3
unfoldable pub text_at : (bytes entries : List ℕ) → (i : ℕ) → Result (List ℕ)
text_at bytes es i = onward (view_of bytes es i) (λ c. pick (is_text c) (ok c) (refused bad_text i 0))

-- n strings from number i on
unfoldable pub texts_from : (bytes entries : List ℕ) → (n i : ℕ) → Result (List (List ℕ))
texts_from bytes es zero i = ok []
texts_from bytes es (suc n) i = onward (text_at bytes es i) (λ c. onward (texts_from bytes es n (i + 1)) (λ cs. ok (c ∷ cs)))

-- 11; then each entry 12, 3
unfoldable pub texts_of : (bytes entries : List ℕ) → (count : ℕ) → Result (List (List ℕ))
texts_of bytes es count = pick (leb count (slots_of es)) (texts_from bytes es count 0) (refused no_such_entry count 0)

-- then 10
unfoldable pub write_string_set : (bytes entries : List ℕ) → (count : ℕ) → (lent : List ℕ) → Result ℕ
write_string_set bytes es count lent = onward (texts_of bytes es count) (λ cs. writing (set_bytes cs) lent)

-- what the set writer writes, where it does
abbrev pub output_of : Result (List (List ℕ)) → List ℕ
output_of (ok cs) = set_bytes cs
output_of (refused which place stream) = []

-- ---- extract_store_path
-- /nix/store/
abbrev pub store_directory : List ℕ
store_directory = 0x2f ∷ 0x6e ∷ 0x69 ∷ 0x78 ∷ 0x2f ∷ 0x73 ∷ 0x74 ∷ 0x6f ∷ 0x72 ∷ 0x65 ∷ 0x2f ∷ []

unfoldable pub is_store_path : List ℕ → Bool
is_store_path s = same (take 11 s) store_directory && is_text s && leb 44 (length s)
