-- What the row that is found says of its operation.
use Prim.Native.Nat.{ℕ, zero, suc}
use mathlib.Core.Path.{◌≡◌, refl, sym, ◌∙◌, ap, subst}
use mathlib.Core.Bool.{Bool, true, false}
use mathlib.Core.List.{List, [], ◌∷◌, ◌++◌, map}
use native.Mathlib.Omega.{arith}
use borrow.Author.Tests.{eqb-true}
use lib.Dec.{eqb}
use Rattle.layouts.specs.declared.Mode.{Mode}
use Rattle.layouts.specs.declared.Mode.TheVariants.{Ported, Published}
use Rattle.layouts.specs.Primitive.{pick, Version, unknown_operation, no_arguments, Result, ok, refused}
use Rattle.layouts.specs.Shape.{What, Group, once, opt, many, layout, fail}
use Rattle.layouts.specs.CallWriter.{fields_there, fields_by, call_fields}
use Rattle.layouts.specs.Operations.{arguments_number, reply_number, skipped_number, Kinds, none, only, by_version, by_flag, by_number, kind_of, skipped_kind, Operation, Row, row, unknown, row_if, operations, published}
use Rattle.layouts.specs.Operations as O
use Rattle.layouts.specs.Calls.{Context, chosen, by_row, arguments_tree, skipped_tree, kind_by, arguments_kinds, skipped_kinds, has_framed, if_known}
use Rattle.table.specs.declared.Row as R
use Rattle.table.specs.Packed.{rows, published_rows}
use Rattle.table.specs.Numbered.{Numbered, numbered_value}
use Rattle.table.specs.Table.{groups_at, find_in, rows_in, row_for, row_in, own_rows, row_at, numbered_of, kind_numbered}
use Rattle.table.specs.Claims.{numbered, Said, said, wanted, rows_say, published_say}
use Rattle.std.specs.Prelude.{Option, Some, None}

map_both : {A B : Type 0} (f : A → B) (xs ys : List A) → map f (xs ++ ys) ≡ map f xs ++ map f ys
map_both f [] ys = refl
map_both f (x ∷ xs) ys = ap (λ (zs : List _). f x ∷ zs) (map_both f xs ys)

-- ---- both searches find the same
abbrev Match : (op : ℕ) → Option R.Row → Row → Type 0
Match op (Some r) (row o) = (said r ≡ wanted o) × (o.code ≡ op)
Match op (Some r) unknown = ⊥
Match op None (row o) = ⊥
Match op None unknown = Unit {0}

match_if : (op : ℕ) (r : R.Row) (o : Operation) (a b : Bool) (x : Option R.Row) (y : Row) → said r ≡ wanted o → a ≡ b → eqb o.code op ≡ b → Match op x y
    → Match op (pick a (Some r) x) (row_if b o y)
match_if op r o true true x y e p q m = (e, eqb-true o.code op q)
match_if op r o false false x y e p q m = m
match_if op r o true false x y e p q m = let z : ◌≡◌ {A = ℕ} 0 1 = cc in absurd (omega arith)
match_if op r o false true x y e p q m = let z : ◌≡◌ {A = ℕ} 0 1 = cc in absurd (omega arith)

match_in : (op : ℕ) (rs : List R.Row) (os : List Operation) → map said rs ≡ map wanted os → Match op (find_in rs op) (O.find_in os op)
unfolding find_in O.find_in
match_in op [] [] e = tt
match_in op [] (o ∷ os) e = let z : ◌≡◌ {A = ℕ} 0 1 = cc in absurd (omega arith)
match_in op (r ∷ rs) [] e = let z : ◌≡◌ {A = ℕ} 0 1 = cc in absurd (omega arith)
match_in op (r ∷ rs) (o ∷ os) e =
    let h : said r ≡ wanted o = cc in
    let t : map said rs ≡ map wanted os = cc in
    match_if op r o (eqb r.number op) (eqb o.code op) (find_in rs op) (O.find_in os op) h (ap (λ (x : Said). eqb x.code op) h) refl (match_in op rs os t)

-- of both modes
all_say : (m : Mode) → map said (rows_in m) ≡ map wanted (O.rows_in m)
all_say Ported = rows_say
all_say Published = map_both said published_rows rows ∙ ap (λ (xs : List Said). xs ++ map said rows) published_say
    ∙ ap (λ (xs : List Said). map wanted published ++ xs) rows_say ∙ sym (map_both wanted published operations)

match_found : (m : Mode) (op : ℕ) → Match op (row_for m op) (O.find m op)
unfolding row_for O.find
match_found m op = match_in op (rows_in m) (O.rows_in m) (all_say m)

-- ---- what that says
numbered_value_lem : (v : Version) (b : Bool) (k : Kinds) → kind_of v b k ≡ numbered_value v b (numbered k)
unfolding kind_of
numbered_value_lem v b none = refl
numbered_value_lem v b (only k) = refl
numbered_value_lem v b (by_version x k l) = rw (numbered_value_lem v b k, numbered_value_lem v b l)
numbered_value_lem v b (by_flag k l) = rw (numbered_value_lem v b k, numbered_value_lem v b l)

-- the fields of a layout that begins with them
abbrev pub first_fields : Version → List Group → List What
first_fields v [] = []
first_fields v (once xs ∷ gs) = fields_there v xs
first_fields v (opt i xs ∷ gs) = []
first_fields v (many i xs ∷ gs) = []

-- what a call is written of, from a group on, where its kind has this code
abbrev pub fields_for : Version → (i k : ℕ) → Result (List What)
fields_for v i k = pick (eqb (kind_numbered v false k) 0) (refused no_arguments 0 0) (ok (first_fields v (groups_at i)))

-- of a context c: all that is chosen by it is what the row r has
pub record Says (c : Context) (r : R.Row) : Type 0 where
  pub call : call_fields c ≡ fields_for c.spoken r.arguments r.arguments_kind
  pub arguments : arguments_tree c ≡ layout c.spoken (groups_at r.arguments)
  pub skips : skipped_tree c ≡ layout c.spoken (groups_at r.skipped)
  pub reply : by_row (chosen c) (λ o. layout c.spoken o.reply) ≡ layout c.spoken (groups_at r.reply)
  pub arguments_kind : (b : Bool) → kind_of c.spoken b (arguments_kinds c) ≡ kind_numbered c.spoken b r.arguments_kind
  pub skipped_kind : (b : Bool) → kind_of c.spoken b (skipped_kinds c) ≡ kind_numbered c.spoken b r.skipped_kind
  pub reply_kind : (b : Bool) → kind_of c.spoken b (kind_by (chosen c) (λ o. by_number reply_number o.reply_kind)) ≡ kind_numbered c.spoken b r.reply_kind
  pub known : if_known (chosen c) (has_framed c.op) ≡ ok (has_framed c.op)

pub record Refuses (c : Context) : Type 0 where
  pub call : call_fields c ≡ refused unknown_operation 0 0
  pub arguments : arguments_tree c ≡ fail 9 0
  pub skips : skipped_tree c ≡ fail 9 0
  pub reply : by_row (chosen c) (λ o. layout c.spoken o.reply) ≡ fail 9 0
  pub known : if_known (chosen c) (has_framed c.op) ≡ refused 9 0 0

-- the packed row that a context chooses
abbrev pub packed_row : Context → Option R.Row
packed_row c = row_for c.mode c.op

module _ (c : Context) where
  abbrev v : Version
  v = c.spoken

  kind_by_lem : (b : Bool) (o : Operation) (k : Operation → Kinds) (n : Numbered) → chosen c ≡ row o → n ≡ numbered (k o)
      → kind_of v b (kind_by (chosen c) k) ≡ numbered_value v b n
  kind_by_lem b o k n e q = rw (e, q) (numbered_value_lem v b (k o))

  call_by : (r : R.Row) (o : Operation) → chosen c ≡ row o → said r ≡ wanted o → call_fields c ≡ fields_for v r.arguments r.arguments_kind
  unfolding call_fields
  call_by r o e q =
      ap (λ (y : Row). fields_by y c) e
      ∙ ap (λ (n : ℕ). pick (eqb n 0) (refused no_arguments 0 0) (ok (fields_there v o.arguments)))
      (kind_by_lem false o (λ o. by_number arguments_number o.arguments_kind) (numbered_of r.arguments_kind) e (ap (λ (x : Said). x.arguments_kind) q))
      ∙ ap (λ (x : Said). pick (eqb (kind_numbered v false r.arguments_kind) 0) (refused no_arguments 0 0) (ok (first_fields v x.arguments))) (sym q)

  says_by : (r : R.Row) (x : Row) → chosen c ≡ x → Match c.op (Some r) x → Says c r
  unfolding arguments_tree skipped_tree
  says_by r unknown e m = absurd m
  says_by r (row o) e m =
      record {
        call = call_by r o e m.0;
        arguments = rw e (ap (λ (x : Said). layout v x.arguments) (sym m.0));
        skips = rw e (ap (λ (x : Said). layout v x.skips) (sym m.0));
        reply = rw e (ap (λ (x : Said). layout v x.reply) (sym m.0));
        arguments_kind = λ b. kind_by_lem b o (λ o. by_number arguments_number o.arguments_kind) _ e (ap (λ (x : Said). x.arguments_kind) m.0);
        skipped_kind = λ b. kind_by_lem b o (λ o. by_number skipped_number (skipped_kind o.skip)) _ e (ap (λ (x : Said). x.skipped_kind) m.0);
        reply_kind = λ b. kind_by_lem b o (λ o. by_number reply_number o.reply_kind) _ e (ap (λ (x : Said). x.reply_kind) m.0);
        known = rw e;
      }

  refuses_by : (x : Row) → chosen c ≡ x → Match c.op None x → Refuses c
  unfolding call_fields arguments_tree skipped_tree
  refuses_by (row o) e m = absurd m
  refuses_by unknown e m = record { call = rw e; arguments = rw e; skips = rw e; reply = rw e; known = rw e }

  matched : (x y : Option R.Row) → x ≡ packed_row c → x ≡ y → Match c.op y (chosen c)
  matched x y e q = subst (λ (z : Option R.Row). Match c.op z (chosen c)) (sym e ∙ q) (match_found c.mode c.op)

  -- for a caller of `find` that has matched on its answer
  pub found_says : (x : Option R.Row) (r : R.Row) → x ≡ packed_row c → x ≡ Some r → Says c r
  found_says x r e q = says_by r (chosen c) refl (matched x (Some r) e q)

  pub unknown_refuses : (x : Option R.Row) → x ≡ packed_row c → x ≡ None → Refuses c
  unknown_refuses x e q = refuses_by (chosen c) refl (matched x None e q)

-- ---- a row at a place is what the search for its number finds: no two rows have one number
rows_found : (m : Mode) → map (λ (r : R.Row). row_for m r.number) (own_rows m) ≡ map Some (own_rows m)
unfolding row_for find_in
rows_found Ported = refl
rows_found Published = refl

at_place : (f : R.Row → Option R.Row) (rs : List R.Row) (i : ℕ) (r : R.Row) → map f rs ≡ map Some rs → row_in rs i ≡ Some r → f r ≡ Some r
unfolding row_in
at_place f [] i r e q = let z : ◌≡◌ {A = ℕ} 0 1 = cc in absurd (omega arith)
at_place f (x ∷ rs) zero r e q = let h : x ≡ r = cc in let g : f x ≡ Some x = cc in rw (← h) g
at_place f (x ∷ rs) (suc i) r e q = let t : map f rs ≡ map Some rs = cc in at_place f rs i r t q

pub found_at : (m : Mode) (i : ℕ) (r : R.Row) → row_at m i ≡ Some r → row_for m r.number ≡ Some r
unfolding row_at
found_at m i r q = at_place (λ (x : R.Row). row_for m x.number) (own_rows m) i r (rows_found m) q
