-- The worked examples P1 to P12 of document 01: one table. A second one, of the errors that 01 calls easy and of the order of judging. A third one, of calls that
-- are written. A fourth one, of both modes, and a fifth one, of error blocks.
use Rattle.std.specs.Prelude.{ℕ, List, [], ◌∷◌, ◌++◌, Bool, replicate, get_or}
use Rattle.layouts.specs.declared.Mode.{Mode}
use Rattle.layouts.specs.declared.Mode.TheVariants.{Ported, Published}
use Rattle.layouts.specs.Primitive.{pick, number_bytes, version, from_wire, at_least, Version, Result, ok, refused}
use Rattle.layouts.specs.Shape.{kept, str, framed}
use Rattle.layouts.specs.Pieces.{run}
use Rattle.layouts.specs.Judge.{Ended, entries_of, payload_of}
use Rattle.layouts.specs.Calls.{Context, context, Answer, read_op_args, skip_op_args, skip_daemon_result, field, skip_string, read_string, read_string_set, read_framed}
use Rattle.layouts.specs.Stderr.{Next, Last, Error, read_stderr_loop, error_kind, read_stderr_with_error}
use Rattle.layouts.specs.Handshake.{parse_handshake}
use Rattle.layouts.specs.Writers.{part_of}
use Rattle.layouts.specs.CallWriter.{call_bytes, write_op_args}

-- what is seen of an answer: 0 and the end; or the refusal's number and place
abbrev pub seen : Result Ended → List ℕ
seen (ok e) = 0 ∷ e.ends ∷ []
seen (refused which place stream) = which ∷ place ∷ []

abbrev pub skip : Result ℕ → List ℕ
skip (ok e) = 0 ∷ e ∷ []
skip (refused which place stream) = which ∷ place ∷ []

-- kind, end, and the first two numbers
abbrev pub told : Result Answer → List ℕ
told (ok a) = a.kind ∷ a.ends ∷ get_or a.found.numbers 0 0 ∷ get_or a.found.numbers 1 0 ∷ []
told (refused which place stream) = which ∷ place ∷ stream ∷ []

abbrev pub pair : Version → List ℕ
pair v = v.major ∷ v.minor ∷ []

abbrev pub yes? : Bool → List ℕ
yes? b = pick b 1 0 ∷ []

-- an operation at 1.x, in a mode
abbrev pub as_ported : (op x : ℕ) → Context
as_ported op x = context Ported op 1 x

abbrev pub as_published : (op x : ℕ) → Context
as_published op x = context Published op 1 x

pub record Example : Type 0 where
  pub computed : List ℕ
  pub stated : List ℕ

abbrev pub ex : (computed stated : List ℕ) → Example
ex c s = record { computed = c; stated = s }

abbrev pub N# : ℕ → List ℕ
N# x = number_bytes x

-- streams that two parts of an example read
abbrev pub bin7 : List ℕ
bin7 = N# 4 ++ (0x62 ∷ 0x69 ∷ 0x6e ∷ 0x37 ∷ []) ++ replicate 4 0xFF

abbrev pub framed_ab : List ℕ
framed_ab = N# 2 ++ (0x61 ∷ 0x62 ∷ []) ++ N# 0

abbrev pub around_two : List ℕ
around_two = N# 0 ++ N# 1 ++ N# 1 ++ N# 0

unfoldable pub examples : List Example
examples =
    -- P1 length 4, bin7, four bytes FF: string, end 16. Its entry: from 8 on, 4 bytes
    ex (seen (read_string bin7 0) ++ entries_of (run (field (str kept)) bin7 0)) (0 ∷ 16 ∷ 8 ∷ 4 ∷ []) ∷
    -- P2 length 0: end 8
    ex (seen (read_string (N# 0) 0)) (0 ∷ 8 ∷ []) ∷
    -- P3 length 268435457 and nothing more: 2 at 0
    ex (seen (read_string (N# 268435457) 0)) (2 ∷ 0 ∷ []) ∷
    -- P4 268435456 and nothing more: 1 at 8
    ex (seen (read_string (N# 268435456) 0)) (1 ∷ 8 ∷ []) ∷
    -- P5 seven bytes: 1 at 0
    ex (seen (read_string (replicate 7 0) 0)) (1 ∷ 0 ∷ []) ∷
    -- P6 length 1, FF, seven zeros: skip ends 16, read 3 at 8
    ex (skip (skip_string (N# 1 ++ (0xFF ∷ replicate 7 0)) 0) ++ seen (read_string (N# 1 ++ (0xFF ∷ replicate 7 0)) 0)) (0 ∷ 16 ∷ 3 ∷ 8 ∷ []) ∷
    -- P7 wire 0x126 is 1.38; 0x12345 is 35.69
    ex (pair (from_wire 0x126) ++ pair (from_wire 0x12345)) (1 ∷ 38 ∷ 35 ∷ 69 ∷ []) ∷
    -- P8 stderr on five bytes: count 0, none, end 0
    ex (told (read_stderr_loop (replicate 5 0))) (0 ∷ 0 ∷ 0 ∷ 0 ∷ []) ∷
    -- P9 Next, empty string, Last: count 2, Last, end 24
    ex (told (read_stderr_loop (N# Next ++ N# 0 ++ N# Last))) (0 ∷ 24 ∷ 2 ∷ Last ∷ []) ∷
    -- P10 framed 2, ab, 0: end 18; room 1: 5 at 0. Its payload: ab
    ex (seen (read_framed framed_ab 0 2) ++ seen (read_framed framed_ab 0 1) ++ payload_of framed_ab (run (field framed) framed_ab 0)) (0 ∷ 18 ∷ 5 ∷ 0 ∷ 0x61 ∷ 0x62 ∷ []) ∷
    -- P11 AddToStore arguments at 1.24: read none, end 0; skip of two empty strings around two numbers ends 32
    ex (told (read_op_args (as_ported 7 24) around_two 0 0) ++ told (skip_op_args (as_ported 7 24) around_two)) (0 ∷ 0 ∷ 0 ∷ 0 ∷ 2 ∷ 32 ∷ 0 ∷ 0 ∷ []) ∷
    -- P12 set count 2^64 - 1 alone: 1 at 8
    ex (seen (read_string_set (replicate 8 0xFF) 0 0)) (1 ∷ 8 ∷ []) ∷
    []

unfoldable pub pitfalls : List Example
pitfalls =
    -- the client's magic is wrong, and the daemon's numbers are cut short: 1 at 8 of the daemon's stream, not 6
    ex (told (parse_handshake (N# 0 ++ N# 0) (N# 0) 0)) (1 ∷ 8 ∷ 1 ∷ []) ∷
    -- both magics are wrong: 6; the daemon's alone: 7
    ex (told (parse_handshake (N# 0 ++ N# 0) (N# 0 ++ N# 0) 0)) (6 ∷ 0 ∷ 0 ∷ []) ∷
    ex (told (parse_handshake (N# 0x6e697863 ++ N# 0x10a) (N# 0 ++ N# 0x126) 0)) (7 ∷ 0 ∷ 1 ∷ []) ∷
    -- 2.0 is above 1.38, 0.255 below 1.10
    ex (yes? (at_least (version 2 0) (version 1 38)) ++ yes? (at_least (version 0 255) (version 1 10))) (1 ∷ 0 ∷ []) ∷
    -- a build result at 1.29: N, empty s, four numbers 5, no map
    ex (skip (skip_daemon_result 36 (version 1 29) (N# 0 ++ N# 0 ++ N# 5 ++ N# 5 ++ N# 5 ++ N# 5 ++ N# 0))) (0 ∷ 56 ∷ []) ∷
    -- skipped arguments check the string that they answer: the first of 37, and not the set
    ex (told (skip_op_args (as_ported 37 34) (N# 1 ++ (0xFF ∷ replicate 7 0) ++ N# 0))) (3 ∷ 8 ∷ 0 ∷ []) ∷
    ex (told (skip_op_args (as_ported 37 34) (N# 0 ++ N# 1 ++ N# 1 ++ (0xFF ∷ replicate 7 0)))) (2 ∷ 32 ∷ 0 ∷ 0 ∷ []) ∷
    -- text before room; text before padding; room after padding
    ex (seen (read_string_set (N# 1 ++ N# 1 ++ (0xFF ∷ replicate 7 0)) 0 0)) (3 ∷ 16 ∷ []) ∷
    ex (seen (read_string_set (N# 1 ++ N# 1 ++ (0xFF ∷ [])) 0 0)) (3 ∷ 16 ∷ []) ∷
    ex (seen (read_string_set (N# 1 ++ N# 1 ++ (0x61 ∷ [])) 0 0)) (1 ∷ 17 ∷ []) ∷
    ex (seen (read_string_set (N# 1 ++ N# 1 ++ (0x61 ∷ replicate 7 0)) 0 0)) (4 ∷ 8 ∷ []) ∷
    -- 3 at the first ill-formed sequence: behind aé; at the first byte of a character that the string's end cuts, of an overlong form, of a surrogate
    ex (seen (read_string (N# 5 ++ (0x61 ∷ 0xC3 ∷ 0xA9 ∷ 0xFF ∷ 0x62 ∷ replicate 3 0)) 0)) (3 ∷ 11 ∷ []) ∷
    ex (seen (read_string (N# 3 ++ (0x61 ∷ 0xE2 ∷ 0x82 ∷ replicate 5 0)) 0)) (3 ∷ 9 ∷ []) ∷
    ex (seen (read_string (N# 4 ++ (0x61 ∷ 0xE0 ∷ 0x80 ∷ 0xAF ∷ replicate 4 0)) 0)) (3 ∷ 9 ∷ []) ∷
    ex (seen (read_string (N# 4 ++ (0x61 ∷ 0xED ∷ 0xA0 ∷ 0x80 ∷ replicate 4 0)) 0)) (3 ∷ 9 ∷ []) ∷
    -- a handshake at 1.10 has no more than the daemon's last number, which must be Last: 8 at that number
    ex (told (parse_handshake (N# 0x6e697863 ++ N# 0x10a) (N# 0x6478696f ++ N# 0x126 ++ N# Last) 0)) (0 ∷ 16 ∷ 1 ∷ 10 ∷ []) ∷
    ex (told (parse_handshake (N# 0x6e697863 ++ N# 0x10a) (N# 0x6478696f ++ N# 0x126 ++ N# 0) 0)) (8 ∷ 16 ∷ 1 ∷ []) ∷
    []

unfoldable pub calls_written : List Example
calls_written =
    -- the obsolete numbers of CollectGarbage are written as 0
    ex (part_of (call_bytes (as_ported 20 38) (1 ∷ 2 ∷ 3 ∷ replicate 12 0) [] [] [])) (N# 1 ++ N# 0 ++ N# 2 ++ N# 3 ++ N# 0 ++ N# 0 ++ N# 0) ∷
    -- 9; 13; 14 before 11, by a number that AddPermRoot lacks
    ex (skip (write_op_args (as_ported 48 38) (replicate 15 0) [] [] [] [])) (9 ∷ 0 ∷ []) ∷
    ex (skip (write_op_args (as_ported 7 24) (1 ∷ replicate 14 0) [] [] [] [])) (13 ∷ 0 ∷ []) ∷
    ex (skip (write_op_args (as_ported 47 38) (1 ∷ replicate 14 0) [] [] [] [])) (14 ∷ 0 ∷ []) ∷
    -- 14 by a flag above 1
    ex (skip (write_op_args (as_ported 35 38) (2 ∷ replicate 14 0) [] [] [] [])) (14 ∷ 0 ∷ []) ∷
    -- 11 before 12: its second string has no entry, its first a bad one. 12 before 10; 10
    ex (skip (write_op_args (as_ported 47 38) (replicate 15 0) [] (1 ∷ 1 ∷ []) [] [])) (11 ∷ 0 ∷ []) ∷
    ex (skip (write_op_args (as_ported 1 38) (replicate 15 0) [] (1 ∷ 1 ∷ []) [] [])) (12 ∷ 0 ∷ []) ∷
    ex (skip (write_op_args (as_ported 1 38) (replicate 15 0) [] (0 ∷ 0 ∷ []) [] (replicate 7 0))) (10 ∷ 0 ∷ []) ∷
    -- 2^63 pairs: 11 at their count, not at its double
    ex (skip (write_op_args (as_ported 19 12) (replicate 12 0 ++ (9223372036854775808 ∷ 0 ∷ 0 ∷ [])) [] [] [] [])) (11 ∷ 9223372036854775808 ∷ []) ∷
    []

-- streams of empty strings, and one whose second string is no text
abbrev pub one_pair : List ℕ
one_pair = N# 1 ++ N# 0 ++ N# 0

abbrev pub two_strings : List ℕ
two_strings = N# 0 ++ N# 1 ++ (0xFF ∷ replicate 7 0)

unfoldable pub modes : List Example
modes =
    -- 30 is pairs from 1.22 on in published mode, and a set of one string otherwise
    ex (told (read_op_args (as_published 30 22) one_pair 2 0)) (20 ∷ 24 ∷ 0 ∷ 0 ∷ []) ∷
    ex (told (read_op_args (as_published 30 21) one_pair 2 0)) (19 ∷ 16 ∷ 0 ∷ 0 ∷ []) ∷
    ex (told (read_op_args (as_ported 30 22) one_pair 2 0)) (19 ∷ 16 ∷ 0 ∷ 0 ∷ []) ∷
    -- 42 is two strings below 1.31 in published mode, and one otherwise
    ex (told (read_op_args (as_published 42 30) (N# 0 ++ N# 0) 2 0)) (21 ∷ 16 ∷ 0 ∷ 0 ∷ []) ∷
    ex (told (read_op_args (as_published 42 31) (N# 0 ++ N# 0) 2 0)) (16 ∷ 8 ∷ 0 ∷ 0 ∷ []) ∷
    ex (told (read_op_args (as_ported 42 30) (N# 0 ++ N# 0) 2 0)) (16 ∷ 8 ∷ 0 ∷ 0 ∷ []) ∷
    -- skipped, 30 counts its pairs, and 42 answers its first string and does not look at the second
    ex (told (skip_op_args (as_published 30 22) one_pair)) (3 ∷ 24 ∷ 1 ∷ 0 ∷ []) ∷
    ex (told (skip_op_args (as_published 42 30) two_strings) ++ told (read_op_args (as_published 42 30) two_strings 2 0)) (2 ∷ 24 ∷ 0 ∷ 0 ∷ 3 ∷ 16 ∷ 0 ∷ []) ∷
    -- written, a pair is two strings
    ex (part_of (call_bytes (as_published 30 22) (replicate 12 0 ++ (1 ∷ 0 ∷ 0 ∷ [])) [] (replicate 4 0) [])) one_pair ∷
    ex (part_of (call_bytes (as_published 42 30) (replicate 15 0) [] (replicate 4 0) [])) (N# 0 ++ N# 0) ∷
    []

-- an error of level 5 with empty strings, and behind it these numbers
abbrev pub failed : List ℕ → List ℕ
failed more = N# Error ++ N# 0 ++ N# 5 ++ N# 0 ++ N# 0 ++ more

abbrev pub one_trace : List ℕ
one_trace = failed (N# 0 ++ N# 1 ++ N# 0 ++ N# 0)

-- read at 1.x in a mode: kind, end, number 2, count 0; or the refusal's number and place
abbrev pub error_told : Result Answer → List ℕ
error_told (ok a) = a.kind ∷ a.ends ∷ get_or a.found.numbers 2 0 ∷ get_or a.found.counts 0 0 ∷ []
error_told (refused which place stream) = which ∷ place ∷ []

abbrev pub erred : Mode → (x : ℕ) → List ℕ → (slots : ℕ) → List ℕ
erred m x s slots = error_told (read_stderr_with_error (error_kind m (version 1 x)) s slots)

unfoldable pub errors : List Example
errors =
    -- from 1.26 on the traces belong to the block; below, the first string is the message and 5 the exit status
    ex (erred Published 26 one_trace 4) (1 ∷ 72 ∷ 5 ∷ 1 ∷ []) ∷
    ex (erred Published 25 one_trace 4) (2 ∷ 24 ∷ 5 ∷ 0 ∷ []) ∷
    -- in ported mode the block ends at the position, at every version
    ex (erred Ported 26 one_trace 4) (0 ∷ 48 ∷ 5 ∷ 0 ∷ []) ∷
    ex (erred Ported 25 one_trace 4) (0 ∷ 48 ∷ 5 ∷ 0 ∷ []) ∷
    -- no trace
    ex (erred Published 38 (failed (N# 0 ++ N# 0)) 3) (1 ∷ 56 ∷ 5 ∷ 0 ∷ []) ∷
    -- a position that is not 0: 15 at it; one that is cut short: 1. The same of a trace's
    ex (erred Published 26 (failed (N# 7)) 3) (15 ∷ 40 ∷ []) ∷
    ex (erred Published 26 (failed (replicate 7 1)) 3) (1 ∷ 40 ∷ []) ∷
    ex (erred Published 26 (failed (N# 0 ++ N# 1 ++ N# 7)) 3) (15 ∷ 56 ∷ []) ∷
    ex (erred Published 26 (failed (N# 0 ++ N# 1 ++ replicate 7 1)) 3) (1 ∷ 56 ∷ []) ∷
    -- a trace is decoded and takes a slot: 3; 4 at its length
    ex (erred Published 26 (failed (N# 0 ++ N# 1 ++ N# 0 ++ N# 1 ++ (0xFF ∷ replicate 7 0))) 4) (3 ∷ 72 ∷ []) ∷
    ex (erred Published 26 one_trace 3) (4 ∷ 64 ∷ []) ∷
    -- where no error follows the kind is 0
    ex (erred Published 26 (N# Last) 0) (0 ∷ 8 ∷ 0 ∷ 0 ∷ []) ∷
    []
