-- The table of the operations: number, arguments, reply, and the kinds of their answers. The letters are document 01's: N, S, S*, P, F with the target in the
-- record, and small ones for what is dropped or passed over.
use Rattle.std.specs.Prelude.{ℕ, max, List, [], ◌∷◌, ◌++◌, map, Bool, true, false, eqb}
use Rattle.layouts.specs.declared.Mode.{Mode}
use Rattle.layouts.specs.declared.Mode.TheVariants.{Ported, Published}
use Rattle.layouts.specs.Primitive.{pick, Version, version, at_least}
use Rattle.layouts.specs.Shape.{Target, dropped, as_number, as_flag, as_count, as_presence, passed, checked, kept, What, num, str, set, pairs, framed, maybe, typed, position, Gated, always, from, below, between, Group, once, opt, many}

-- ---- letters
abbrev pub N : ℕ → Gated
N i = always (num (as_number i))

abbrev pub n : Gated
n = always (num dropped)

abbrev pub flag : ℕ → Gated
flag i = always (num (as_flag i))

abbrev pub S : Gated
S = always (str kept)

abbrev pub s : Gated
s = always (str passed)

abbrev pub S* : ℕ → Gated
S* i = always (set kept (as_count i))

abbrev pub s* : Gated
s* = always (set passed dropped)

abbrev pub P : ℕ → Gated
P i = always (pairs kept (as_count i))

abbrev pub p : Gated
p = always (pairs passed dropped)

abbrev pub F : Gated
F = always framed

abbrev pub gate : ℕ → Gated → Gated
gate x (always w) = from x w
gate x (from y w) = from (max x y) w
gate x (below y w) = between x y w
gate x (between y z w) = between (max x y) z w

-- from 1.x all of these
abbrev pub since : ℕ → List Gated → List Gated
since x xs = map (gate x) xs

abbrev pub until : ℕ → List What → List Gated
until x ws = map (below x) ws

-- ---- kinds of answers, with their numbers: three types, so that no row names one of another call
pub data ArgumentsKind : Type 0 where
  SinglePath SingleString PathSet PathSetFlag PathSetMode NoArgs SetOptions CollectGarbage VerifyStore AddPermRoot AddSignatures AddTextToStore AddToStore AddMultipleToStore AddBuildLog RegisterDrvOutput QueryRealisation QuerySubstitutablePathInfo QuerySubstitutablePathInfos QuerySubstitutablePairs RegisterDrvOutputOld : ArgumentsKind

abbrev pub arguments_number : ArgumentsKind → ℕ
arguments_number SinglePath = 1
arguments_number SingleString = 2
arguments_number PathSet = 3
arguments_number PathSetFlag = 4
arguments_number PathSetMode = 5
arguments_number NoArgs = 6
arguments_number SetOptions = 7
arguments_number CollectGarbage = 8
arguments_number VerifyStore = 9
arguments_number AddPermRoot = 10
arguments_number AddSignatures = 11
arguments_number AddTextToStore = 12
arguments_number AddToStore = 13
arguments_number AddMultipleToStore = 14
arguments_number AddBuildLog = 15
arguments_number RegisterDrvOutput = 16
arguments_number QueryRealisation = 17
arguments_number QuerySubstitutablePathInfo = 18
arguments_number QuerySubstitutablePathInfos = 19
arguments_number QuerySubstitutablePairs = 20
arguments_number RegisterDrvOutputOld = 21

pub data ReplyKind : Type 0 where
  U64 Str PathInfo PathInfoOld NoPathInfo StringSet StringMap BytesFreed SubstitutablePathInfo NoSubstitutablePathInfo Missing Framed : ReplyKind

abbrev pub reply_number : ReplyKind → ℕ
reply_number U64 = 1
reply_number Str = 2
reply_number PathInfo = 3
reply_number PathInfoOld = 4
reply_number NoPathInfo = 5
reply_number StringSet = 6
reply_number StringMap = 7
reply_number BytesFreed = 8
reply_number SubstitutablePathInfo = 9
reply_number NoSubstitutablePathInfo = 10
reply_number Missing = 11
reply_number Framed = 12

pub data SkippedKind : Type 0 where
  EmptyText OneString CountOfPaths CountOfOverrides : SkippedKind

abbrev pub skipped_number : SkippedKind → ℕ
skipped_number EmptyText = 1
skipped_number OneString = 2
skipped_number CountOfPaths = 3
skipped_number CountOfOverrides = 4

-- none; one; one from 1.x on and another below; one where the flag is true and another where it is not
pub data Choice (K : Type 0) : Type 0 where
  none : Choice K
  only : K → Choice K
  by_version : ℕ → Choice K → Choice K → Choice K
  by_flag : Choice K → Choice K → Choice K

-- the same by numbers; none is 0
abbrev pub Kinds : Type 0
Kinds = Choice ℕ

abbrev pub by_number : {K : Type 0} → (K → ℕ) → Choice K → Kinds
by_number f none = none
by_number f (only k) = only (f k)
by_number f (by_version x k l) = by_version x (by_number f k) (by_number f l)
by_number f (by_flag k l) = by_flag (by_number f k) (by_number f l)

unfoldable pub kind_of : Version → (present : Bool) → Kinds → ℕ
kind_of v b none = 0
kind_of v b (only k) = k
kind_of v b (by_version x k l) = pick (at_least v (version 1 x)) (kind_of v b k) (kind_of v b l)
kind_of v b (by_flag k l) = pick b (kind_of v b k) (kind_of v b l)

-- ---- what skip_op_args answers: none; the empty text; the first string; the set's count as "N paths"; from 1.12 the pairs' count as "N overrides"
pub data Skip : Type 0 where
  nothing : Skip
  empty : Skip
  first : Skip
  paths : Skip
  overrides : Skip

abbrev pub skipped_kind : Skip → Choice SkippedKind
skipped_kind nothing = none
skipped_kind empty = only EmptyText
skipped_kind first = only OneString
skipped_kind paths = only CountOfPaths
skipped_kind overrides = by_version 12 (only CountOfOverrides) (only EmptyText)

abbrev pub count_target : Skip → Target
count_target nothing = dropped
count_target empty = dropped
count_target first = dropped
count_target paths = as_number 0
count_target overrides = as_number 0

-- the same fields with every string in lower case; skipping stops before F
abbrev pub lowered : Skip → What → List What
lowered k (num i) = num dropped ∷ []
lowered k (str r) = str passed ∷ []
lowered k (set r i) = set passed (count_target k) ∷ []
lowered k (pairs r i) = pairs passed (count_target k) ∷ []
lowered k framed = []
lowered k maybe = maybe ∷ []
lowered k typed = typed ∷ []
lowered k position = position ∷ []

abbrev pub lowered_gated : Skip → Gated → List Gated
lowered_gated k (always w) = map always (lowered k w)
lowered_gated k (from x w) = map (from x) (lowered k w)
lowered_gated k (below x w) = map (below x) (lowered k w)
lowered_gated k (between x y w) = map (between x y) (lowered k w)

abbrev pub lowered_all : Skip → List Gated → List Gated
lowered_all k [] = []
lowered_all k (x ∷ xs) = lowered_gated k x ++ lowered_all k xs

-- the string that is answered stays as it is
abbrev pub skipped : Skip → List Gated → List Gated
skipped first (x ∷ xs) = x ∷ lowered_all first xs
skipped first [] = []
skipped nothing xs = lowered_all nothing xs
skipped empty xs = lowered_all empty xs
skipped paths xs = lowered_all paths xs
skipped overrides xs = lowered_all overrides xs

-- ---- rows
pub record Operation : Type 0 where
  pub code : ℕ
  pub arguments : List Gated
  pub arguments_kind : Choice ArgumentsKind
  pub skip : Skip
  pub skips : List Gated
  pub reply : List Group
  pub reply_kind : Choice ReplyKind

abbrev pub op : ℕ → List Gated → Choice ArgumentsKind → Skip → List Group → Choice ReplyKind → Operation
op c a ak k r rk = record { code = c; arguments = a; arguments_kind = ak; skip = k; skips = skipped k a; reply = r; reply_kind = rk }

-- skipping alone has these too
abbrev pub skips_too : List Gated → Operation → Operation
skips_too xs o =
    record {
      code = o.code;
      arguments = o.arguments;
      arguments_kind = o.arguments_kind;
      skip = o.skip;
      skips = xs ++ o.skips;
      reply = o.reply;
      reply_kind = o.reply_kind;
    }

-- Info: S S S* N N, from 1.16 flag S* S
abbrev pub info : List Gated
info = S ∷ S ∷ S* 0 ∷ N 0 ∷ N 1 ∷ since 16 (flag 2 ∷ S* 1 ∷ S ∷ [])

abbrev pub path_info : Choice ReplyKind
path_info = by_version 16 (only PathInfo) (only PathInfoOld)

-- Build result: N s; from 1.29 four N; from 1.37 twice a flag with N if true; from 1.28 p
abbrev pub build_result : List Gated
build_result = n ∷ s ∷ since 29 (n ∷ n ∷ n ∷ n ∷ []) ++ since 37 (always maybe ∷ always maybe ∷ []) ++ since 28 (p ∷ [])

-- 19: ten N; from 1.10 N; from 1.12 N P
abbrev pub options : List Gated
options = N 0 ∷ N 1 ∷ N 2 ∷ N 3 ∷ N 4 ∷ N 5 ∷ N 6 ∷ N 7 ∷ N 8 ∷ N 9 ∷ since 10 (N 10 ∷ []) ++ since 12 (N 11 ∷ P 0 ∷ [])

-- replies
abbrev pub a_number : List Group
a_number = once (N 0 ∷ []) ∷ []

abbrev pub a_string : List Group
a_string = once (S ∷ []) ∷ []

abbrev pub a_set : List Group
a_set = once (S* 0 ∷ []) ∷ []

abbrev pub a_map : List Group
a_map = once (P 0 ∷ []) ∷ []

-- 30: count of S S s* n n
abbrev pub substitutes : List Group
substitutes = many (as_count 0) (S ∷ S ∷ s* ∷ n ∷ n ∷ []) ∷ []

unfoldable pub operations : List Operation
operations =
    op 1 (S ∷ []) (only SinglePath) first a_number (only U64) ∷
    op 6 (S ∷ []) (only SinglePath) first a_set (only StringSet) ∷
    skips_too (until 25 (str kept ∷ num dropped ∷ num dropped ∷ str passed ∷ []))
    (op 7 (since 25 (S ∷ S ∷ S* 0 ∷ flag 0 ∷ F ∷ [])) (by_version 25 (only AddToStore) none) first
    (once (until 25 (str kept ∷ []) ++ since 25 (always (str checked) ∷ info)) ∷ []) (by_version 25 path_info (only Str))) ∷
    op 8 (S ∷ S ∷ S* 0 ∷ []) (only AddTextToStore) empty a_string (only Str) ∷
    op 9 (S* 0 ∷ N 0 ∷ []) (only PathSetMode) paths a_number (only U64) ∷
    op 10 (S ∷ []) (only SinglePath) first a_number (only U64) ∷
    op 11 (S ∷ []) (only SinglePath) first a_number (only U64) ∷
    op 12 (S ∷ []) (only SingleString) first a_number (only U64) ∷
    op 13 [] (only NoArgs) empty a_number (only U64) ∷
    op 14 [] (only NoArgs) empty a_map (only StringMap) ∷
    op 18 (S ∷ []) (only SinglePath) first a_string (only Str) ∷
    op 19 options (only SetOptions) overrides [] none ∷
    op 20 (N 0 ∷ S* 0 ∷ N 1 ∷ N 2 ∷ n ∷ n ∷ n ∷ []) (only CollectGarbage) empty (once (N 0 ∷ n ∷ n ∷ []) ∷ []) (only BytesFreed) ∷
    op 21 (S ∷ []) (only QuerySubstitutablePathInfo) first (opt as_presence (S ∷ S* 0 ∷ N 0 ∷ N 1 ∷ []) ∷ []) (by_flag (only SubstitutablePathInfo) (only NoSubstitutablePathInfo)) ∷
    op 22 (S ∷ []) (only SinglePath) first a_set (only StringSet) ∷
    op 23 [] (only NoArgs) empty a_set (only StringSet) ∷
    op 26 (S ∷ []) (only SinglePath) first (opt as_presence info ∷ []) (by_flag path_info (only NoPathInfo)) ∷
    op 28 (S ∷ []) (only SinglePath) first a_set (only StringSet) ∷
    op 29 (S ∷ []) (only SingleString) first a_string (only Str) ∷
    op 30 (S* 0 ∷ []) (only QuerySubstitutablePathInfos) paths substitutes (only StringMap) ∷
    op 31 (S* 0 ∷ since 27 (flag 0 ∷ [])) (only PathSetFlag) paths a_set (only StringSet) ∷
    op 32 (S* 0 ∷ []) (only PathSet) paths a_set (only StringSet) ∷
    op 33 (S ∷ []) (only SinglePath) first a_set (only StringSet) ∷
    op 34 [] (only NoArgs) empty a_number (only U64) ∷
    op 35 (flag 0 ∷ flag 1 ∷ []) (only VerifyStore) empty a_number (only U64) ∷
    op 36 [] none nothing (once build_result ∷ []) none ∷
    op 37 (S ∷ S* 0 ∷ []) (only AddSignatures) first a_number (only U64) ∷
    op 38 (S ∷ []) (only SinglePath) first (once (since 23 (F ∷ [])) ∷ []) (by_version 23 (only Framed) none) ∷
    op 39 [] none nothing [] none ∷
    op 40 (S* 0 ∷ []) (only PathSet) paths (once (S* 0 ∷ S* 1 ∷ S* 2 ∷ N 0 ∷ N 1 ∷ []) ∷ []) (only Missing) ∷
    op 41 (S ∷ []) (only SinglePath) first a_map (only StringMap) ∷
    op 42 (S ∷ []) (only RegisterDrvOutput) first [] none ∷
    op 43 (S ∷ []) (only QueryRealisation) first a_set (only StringSet) ∷
    op 44 (flag 0 ∷ flag 1 ∷ F ∷ []) (only AddMultipleToStore) empty [] none ∷
    op 45 (S ∷ F ∷ []) (only AddBuildLog) first a_number (only U64) ∷
    op 46 (S* 0 ∷ N 0 ∷ []) (only PathSetMode) paths (many dropped (s ∷ build_result) ∷ []) none ∷
    op 47 (S ∷ S ∷ []) (only AddPermRoot) empty a_string (only Str) ∷
    []

-- request W-203, the rows that published mode has in place of these: 30 is below 1.22 S*, from 1.22 P; 42 is S, below 1.31 S
unfoldable pub published : List Operation
published =
    op 30 (until 22 (set kept (as_count 0) ∷ []) ++ since 22 (P 0 ∷ [])) (by_version 22 (only QuerySubstitutablePairs) (only QuerySubstitutablePathInfos)) paths substitutes
    (only StringMap) ∷
    op 42 (S ∷ until 31 (str kept ∷ [])) (by_version 31 (only RegisterDrvOutput) (only RegisterDrvOutputOld)) first [] none ∷
    []

abbrev pub rows_in : Mode → List Operation
rows_in Ported = operations
rows_in Published = published ++ operations

pub data Row : Type 0 where
  row : Operation → Row
  unknown : Row

abbrev pub row_if : Bool → Operation → Row → Row
row_if true o r = row o
row_if false o r = r

unfoldable pub find_in : List Operation → ℕ → Row
find_in [] c = unknown
find_in (o ∷ os) c = row_if (eqb o.code c) o (find_in os c)

unfoldable pub find : Mode → (op : ℕ) → Row
unfolding find_in
find m c = find_in (rows_in m) c
