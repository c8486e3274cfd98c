-- Made by ./tables from crates/layouts/specs and crates/table/specs/Claims.antt: the packed tables of the code.
use Rattle.std.specs.Prelude.{ℕ, List, [], ◌∷◌}
use Rattle.table.specs.declared.Row.{Row}
use Rattle.table.specs.Numbered.{Numbered, just, by_version, by_flag}

abbrev pub size : ℕ
size = 318

-- the groups of the layouts, then their fields
abbrev pub packed_list : List ℕ
packed_list =
    -- 0: S
    59393 ∷ 0 ∷
    -- 2: N
    66305 ∷ 0 ∷
    -- 4: S*
    60417 ∷ 0 ∷
    -- 6: from 1.25 S S S* flag F
    49921 ∷ 0 ∷
    -- 8: below 1.25 S n n s, from 1.25 S s s* n
    41217 ∷ 0 ∷
    -- 10: below 1.25 S, from 1.25 S without entry S S S* N N flag S* S
    35585 ∷ 0 ∷
    -- 12: S S S*
    59905 ∷ 0 ∷
    -- 14: s s s*
    60929 ∷ 0 ∷
    -- 16: S* N
    66049 ∷ 0 ∷
    -- 18: s* n
    66817 ∷ 0 ∷
    -- 20: nothing
    31745 ∷ 0 ∷
    -- 22: P
    78337 ∷ 0 ∷
    -- 24: N N N N N N N N N N, from 1.10 N, from 1.12 N P
    28417 ∷ 0 ∷
    -- 26: n n n n n n n n n n, from 1.10 n, from 1.12 n p
    32001 ∷ 0 ∷
    -- 28: N S* N N n n n
    45825 ∷ 0 ∷
    -- 30: n s* n n n n n
    47873 ∷ 0 ∷
    -- 32: N n n
    61953 ∷ 0 ∷
    -- 34: flag, if true S S* N N
    56178 ∷ 0 ∷
    -- 36: flag, if true S S S* N N, from 1.16 flag S* S
    43634 ∷ 0 ∷
    -- 38: s*
    78849 ∷ 0 ∷
    -- 40: count of S S s* n n
    51559 ∷ 0 ∷
    -- 42: S*, from 1.27 flag
    67585 ∷ 0 ∷
    -- 44: s*, from 1.27 n
    68353 ∷ 0 ∷
    -- 46: flag flag
    69121 ∷ 0 ∷
    -- 48: n n
    47105 ∷ 0 ∷
    -- 50: n s, from 1.29 n n n n, from 1.37 flag with n flag with n, from 1.28 p
    38657 ∷ 0 ∷
    -- 52: S S*
    60161 ∷ 0 ∷
    -- 54: S s*
    69889 ∷ 0 ∷
    -- 56: from 1.23 F
    79361 ∷ 0 ∷
    -- 58: S* S* S* N N
    52993 ∷ 0 ∷
    -- 60: flag flag F
    62977 ∷ 0 ∷
    -- 62: S F
    70657 ∷ 0 ∷
    -- 64: count of s n s, from 1.29 n n n n, from 1.37 flag with n flag with n, from 1.28 p
    38403 ∷ 0 ∷
    -- 66: S S
    59137 ∷ 0 ∷
    -- 68: s s
    71425 ∷ 0 ∷
    -- 70: below 1.22 S*, from 1.22 P
    72193 ∷ 0 ∷
    -- 72: below 1.22 s*, from 1.22 p
    72961 ∷ 0 ∷
    -- 74: S, below 1.31 S
    73729 ∷ 0 ∷
    -- 76: S, below 1.31 s
    74497 ∷ 0 ∷
    -- 78: s
    58113 ∷ 0 ∷
    -- 80: n
    47361 ∷ 0 ∷
    -- 82: n n n s, count of typed, n
    57345 ∷ 79875 ∷ 47361 ∷ 0 ∷
    -- 86: n n, count of typed
    47105 ∷ 79875 ∷ 0 ∷
    -- 89: S N S S, flag, if true s n n
    58625 ∷ 64002 ∷ 0 ∷
    -- 92: S N S S position, count of position S
    54529 ∷ 75367 ∷ 0 ∷
    -- 95: S N
    76033 ∷ 0 ∷
    -- 97: N N
    53761 ∷ 0 ∷
    -- 99: N N
    76801 ∷ 0 ∷
    -- 101: from 1.38 S*
    80385 ∷ 0 ∷
    -- 103: from 1.38 S*
    80897 ∷ 0 ∷
    -- 105: from 1.14 flag with n, from 1.11 n
    77569 ∷ 0 ∷
    -- 107: from 1.33 S, from 1.35 N, N
    65025 ∷ 0 ∷
    -- 109: F
    63489 ∷ 0 ∷
    -- 111: N N N N N N N N N N, from 1.10 N, from 1.12 N P
    65 ∷ 129 ∷ 193 ∷ 257 ∷ 321 ∷ 385 ∷ 449 ∷ 513 ∷ 577 ∷ 641 ∷ 168641 ∷ 201473 ∷ 202340 ∷ 0 ∷
    -- 125: n n n n n n n n n n, from 1.10 n, from 1.12 n p
    1 ∷ 1 ∷ 1 ∷ 1 ∷ 1 ∷ 1 ∷ 1 ∷ 1 ∷ 1 ∷ 1 ∷ 167937 ∷ 200705 ∷ 200772 ∷ 0 ∷
    -- 139: below 1.25 S, from 1.25 S without entry S S S* N N flag S* S
    417826 ∷ 413714 ∷ 413730 ∷ 413730 ∷ 415331 ∷ 413761 ∷ 413825 ∷ 414657 ∷ 415395 ∷ 413730 ∷ 0 ∷
    -- 150: s n s, from 1.29 n n n n, from 1.37 flag with n flag with n, from 1.28 p
    2 ∷ 1 ∷ 2 ∷ 479233 ∷ 479233 ∷ 479233 ∷ 479233 ∷ 610310 ∷ 610310 ∷ 462852 ∷ 0 ∷
    -- 161: below 1.25 S n n s, from 1.25 S s s* n
    417826 ∷ 417793 ∷ 417793 ∷ 417794 ∷ 413730 ∷ 413698 ∷ 413699 ∷ 413697 ∷ 0 ∷
    -- 170: S S S* N N, from 1.16 flag S* S
    34 ∷ 34 ∷ 1635 ∷ 65 ∷ 129 ∷ 267201 ∷ 267939 ∷ 266274 ∷ 0 ∷
    -- 179: N S* N N n n n
    65 ∷ 1635 ∷ 129 ∷ 193 ∷ 1 ∷ 1 ∷ 1 ∷ 0 ∷
    -- 187: n s* n n n n n
    1 ∷ 3 ∷ 1 ∷ 1 ∷ 1 ∷ 1 ∷ 1 ∷ 0 ∷
    -- 195: from 1.25 S S S* flag F
    413730 ∷ 413730 ∷ 415331 ∷ 414529 ∷ 413701 ∷ 0 ∷
    -- 201: S S s* n n
    34 ∷ 34 ∷ 3 ∷ 1 ∷ 1 ∷ 0 ∷
    -- 207: S* S* S* N N
    1635 ∷ 1699 ∷ 1763 ∷ 65 ∷ 129 ∷ 0 ∷
    -- 213: S N S S position
    34 ∷ 193 ∷ 34 ∷ 34 ∷ 8 ∷ 0 ∷
    -- 219: S S* N N
    34 ∷ 1635 ∷ 65 ∷ 129 ∷ 0 ∷
    -- 224: n n n s
    1 ∷ 1 ∷ 1 ∷ 2 ∷ 0 ∷
    -- 229: S N S S
    34 ∷ 193 ∷ 34 ∷ 34 ∷ 0 ∷
    -- 234: S S S*
    34 ∷ 34 ∷ 1635 ∷ 0 ∷
    -- 238: s s s*
    2 ∷ 2 ∷ 3 ∷ 0 ∷
    -- 242: N n n
    65 ∷ 1 ∷ 1 ∷ 0 ∷
    -- 246: flag flag F
    833 ∷ 897 ∷ 5 ∷ 0 ∷
    -- 250: s n n
    2 ∷ 1 ∷ 1 ∷ 0 ∷
    -- 254: from 1.33 S, from 1.35 N, N
    544802 ∷ 577857 ∷ 385 ∷ 0 ∷
    -- 258: S* N
    1635 ∷ 65 ∷ 0 ∷
    -- 261: s* n
    67 ∷ 1 ∷ 0 ∷
    -- 264: S*, from 1.27 flag
    1635 ∷ 447297 ∷ 0 ∷
    -- 267: s*, from 1.27 n
    67 ∷ 446465 ∷ 0 ∷
    -- 270: flag flag
    833 ∷ 897 ∷ 0 ∷
    -- 273: S s*
    34 ∷ 3 ∷ 0 ∷
    -- 276: S F
    34 ∷ 5 ∷ 0 ∷
    -- 279: s s
    2 ∷ 2 ∷ 0 ∷
    -- 282: below 1.22 S*, from 1.22 P
    370275 ∷ 366180 ∷ 0 ∷
    -- 285: below 1.22 s*, from 1.22 p
    368707 ∷ 364612 ∷ 0 ∷
    -- 288: S, below 1.31 S
    34 ∷ 516130 ∷ 0 ∷
    -- 291: S, below 1.31 s
    34 ∷ 516098 ∷ 0 ∷
    -- 294: position S
    8 ∷ 34 ∷ 0 ∷
    -- 297: S N
    34 ∷ 193 ∷ 0 ∷
    -- 300: N N
    193 ∷ 257 ∷ 0 ∷
    -- 303: from 1.14 flag with n, from 1.11 n
    233478 ∷ 184321 ∷ 0 ∷
    -- 306: P
    1636 ∷ 0 ∷
    -- 308: s*
    67 ∷ 0 ∷
    -- 310: from 1.23 F
    380933 ∷ 0 ∷
    -- 312: typed
    7 ∷ 0 ∷
    -- 314: from 1.38 S*
    628323 ∷ 0 ∷
    -- 316: from 1.38 S*
    628387 ∷ 0 ∷
    []

-- number; groups of arguments, skipped arguments, reply; the codes of their kinds
abbrev op : (number arguments skipped reply arguments_kind skipped_kind reply_kind : ℕ) → Row
op n a k r ak kk rk = record { number = n; arguments = a; skipped = k; reply = r; arguments_kind = ak; skipped_kind = kk; reply_kind = rk }

abbrev pub rows : List Row
rows =
    op 1 0 0 2 1 2 1 ∷
    op 6 0 0 4 1 2 6 ∷
    op 7 6 8 10 32 2 33 ∷
    op 8 12 14 0 12 1 2 ∷
    op 9 16 18 2 5 3 1 ∷
    op 10 0 0 2 1 2 1 ∷
    op 11 0 0 2 1 2 1 ∷
    op 12 0 0 2 2 2 1 ∷
    op 13 20 20 2 6 1 1 ∷
    op 14 20 20 22 6 1 7 ∷
    op 18 0 0 0 1 2 2 ∷
    op 19 24 26 1 7 34 0 ∷
    op 20 28 30 32 8 1 8 ∷
    op 21 0 0 34 18 2 35 ∷
    op 22 0 0 4 1 2 6 ∷
    op 23 20 20 4 6 1 6 ∷
    op 26 0 0 36 1 2 36 ∷
    op 28 0 0 4 1 2 6 ∷
    op 29 0 0 0 2 2 2 ∷
    op 30 4 38 40 19 3 7 ∷
    op 31 42 44 4 4 3 6 ∷
    op 32 4 38 4 3 3 6 ∷
    op 33 0 0 4 1 2 6 ∷
    op 34 20 20 2 6 1 1 ∷
    op 35 46 48 2 9 1 1 ∷
    op 36 20 20 50 0 0 0 ∷
    op 37 52 54 2 11 2 1 ∷
    op 38 0 0 56 1 2 37 ∷
    op 39 20 20 1 0 0 0 ∷
    op 40 4 38 58 3 3 11 ∷
    op 41 0 0 22 1 2 7 ∷
    op 42 0 0 1 16 2 0 ∷
    op 43 0 0 4 17 2 6 ∷
    op 44 60 48 1 14 1 0 ∷
    op 45 62 0 2 15 2 1 ∷
    op 46 16 18 64 5 3 0 ∷
    op 47 66 68 0 10 1 2 ∷
    []

-- those that published mode has in place of some
abbrev pub published_rows : List Row
published_rows =
    op 30 70 72 40 38 3 7 ∷
    op 42 74 76 1 39 2 0 ∷
    []

-- the groups of the other layouts
abbrev pub string_message : ℕ
string_message = 78

abbrev pub number_message : ℕ
number_message = 80

abbrev pub start_activity : ℕ
start_activity = 82

abbrev pub result_message : ℕ
result_message = 86

abbrev pub ported_error : ℕ
ported_error = 89

abbrev pub traced_error : ℕ
traced_error = 92

abbrev pub short_error : ℕ
short_error = 95

abbrev pub hello_client : ℕ
hello_client = 97

abbrev pub hello_daemon : ℕ
hello_daemon = 99

abbrev pub features_client : ℕ
features_client = 101

abbrev pub features_daemon : ℕ
features_daemon = 103

abbrev pub obsolete : ℕ
obsolete = 105

abbrev pub info : ℕ
info = 107

abbrev pub string_set : ℕ
string_set = 4

abbrev pub framed_data : ℕ
framed_data = 109

abbrev pub nothing : ℕ
nothing = 1

abbrev pub empty_fields : ℕ
empty_fields = 20

abbrev pub one_number : ℕ
one_number = 2

abbrev pub one_string : ℕ
one_string = 0

-- the kinds that a version or a flag decides; their codes count from here on
abbrev pub first_code : ℕ
first_code = 32

abbrev pub kind_list : List Numbered
kind_list =
    by_version 25 (just 13) (just 0) ∷
    by_version 25 (by_version 16 (just 3) (just 4)) (just 2) ∷
    by_version 12 (just 4) (just 1) ∷
    by_flag (just 9) (just 10) ∷
    by_flag (by_version 16 (just 3) (just 4)) (just 5) ∷
    by_version 23 (just 12) (just 0) ∷
    by_version 22 (just 20) (just 19) ∷
    by_version 31 (just 16) (just 21) ∷
    []

-- the list under a name that stays shut
unfoldable pub packed_table : List ℕ
packed_table = packed_list
