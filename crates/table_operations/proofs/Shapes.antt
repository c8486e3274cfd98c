-- For a caller that has matched on a shape: what it says of its operation.
use Prim.Native.Nat.{ℕ}
use mathlib.Core.Path.{◌≡◌, refl, sym, ◌∙◌, ap}
use mathlib.Core.Bool.{Bool}
use native.Mathlib.Omega.{arith}
use Rattle.layouts.specs.declared.Mode.TheVariants.{Ported}
use Rattle.layouts.specs.Primitive.{Version, ok, refused}
use Rattle.layouts.specs.Shape.{Tree, fail, layout}
use Rattle.layouts.specs.Operations.{Kinds, kind_of}
use Rattle.layouts.specs.Calls.{Context, arguments_tree, skipped_tree, reply_tree, arguments_kinds, skipped_kinds, reply_kinds, has_framed, op_has_client_framed_data}
use Rattle.table.specs.declared.Row.{Row}
use Rattle.table.specs.Table.{groups_at, kind_numbered}
use Rattle.layouts.specs.CallWriter.{call_fields}
use Rattle.table.proofs.Rows.{fields_for, Says, Refuses, packed_row, found_says, unknown_refuses}
use Rattle.table_operations.specs.Rows.{shape_of, arguments_of, skipped_of, reply_of}
use Rattle.table_operations.specs.declared.Shape.{Shape}
use Rattle.std.specs.Prelude.{Option, Some, None}
use Rattle.std.proofs.lemmas.Option.{same_Some}

-- the layout from group i on is t, and the code k is that of ks
pub record Shaped (v : Version) (t : Tree) (ks : Kinds) (i k : ℕ) : Type 0 where
  pub tree : t ≡ layout v (groups_at i)
  pub kind : (b : Bool) → kind_of v b ks ≡ kind_numbered v b k

module _ (c : Context) (x : Option Shape) where
  module _ (first kind : Row → ℕ) (e : x ≡ shape_of first kind (packed_row c)) where
    known : (P : ℕ → ℕ → Type 0) (i k : ℕ) → ((r : Row) → Says c r → P (first r) (kind r)) → (f : Option Row) → f ≡ packed_row c → Some (record { first = i; kind = k }) ≡ shape_of first kind f → P i k
    known P i k h (Some r) q p =
        let e = same_Some _ _ p in
        rw (ap (λ (s : Shape). s.first) e, ap (λ (s : Shape). s.kind) e) (h r (found_says c (Some r) r q refl))
    known P i k h None q p = let z : ◌≡◌ {A = ℕ} 0 1 = cc in absurd (omega arith)

    not_known : (f : Option Row) → f ≡ packed_row c → None ≡ shape_of first kind f → Refuses c
    not_known None q p = unknown_refuses c None q refl
    not_known (Some r) q p = let z : ◌≡◌ {A = ℕ} 0 1 = cc in absurd (omega arith)

    pub shape_refuses : x ≡ None → Refuses c
    shape_refuses q = not_known (packed_row c) refl (sym q ∙ e)

    shape_says : (P : ℕ → ℕ → Type 0) (i k : ℕ) → ((r : Row) → Says c r → P (first r) (kind r)) → x ≡ Some (record { first = i; kind = k }) → P i k
    shape_says P i k h q = known P i k h (packed_row c) refl (sym q ∙ e)

  pub arguments_say : (i k : ℕ) → x ≡ arguments_of (packed_row c) → x ≡ Some (record { first = i; kind = k }) → Shaped c.spoken (arguments_tree c) (arguments_kinds c) i k
  arguments_say i k e q = shape_says _ _ e (Shaped _ _ _) i k (λ r s. record { tree = s.arguments; kind = s.arguments_kind }) q

  pub call_says : (i k : ℕ) → x ≡ arguments_of (packed_row c) → x ≡ Some (record { first = i; kind = k }) → call_fields c ≡ fields_for c.spoken i k
  call_says i k e q = shape_says _ _ e (λ (i k : ℕ). call_fields c ≡ fields_for c.spoken i k) i k (λ r s. s.call) q

  pub skipped_say : (i k : ℕ) → x ≡ skipped_of (packed_row c) → x ≡ Some (record { first = i; kind = k }) → Shaped c.spoken (skipped_tree c) (skipped_kinds c) i k
  skipped_say i k e q = shape_says _ _ e (Shaped _ _ _) i k (λ r s. record { tree = s.skips; kind = s.skipped_kind }) q

-- a reply, and whether there is framed data, in ported mode
module _ (op : ℕ) (v : Version) (x : Option Shape) where
  abbrev ported : Context
  ported = record { mode = Ported; op = op; spoken = v }

  pub reply_says : (i k : ℕ) → x ≡ reply_of (packed_row ported) → x ≡ Some (record { first = i; kind = k }) → Shaped v (reply_tree op v) (reply_kinds op) i k
  unfolding reply_tree
  reply_says i k e q = shape_says ported x _ _ e (Shaped _ _ _) i k (λ r s. record { tree = s.reply; kind = s.reply_kind }) q

  pub reply_refuses : x ≡ reply_of (packed_row ported) → x ≡ None → reply_tree op v ≡ fail 9 0
  unfolding reply_tree
  reply_refuses e q = (shape_refuses ported x _ _ e q).reply

  module _ (e : x ≡ arguments_of (packed_row ported)) where
    pub framed_said_lem : (i k : ℕ) → x ≡ Some (record { first = i; kind = k }) → op_has_client_framed_data op ≡ ok (has_framed op)
    unfolding op_has_client_framed_data
    framed_said_lem i k q = shape_says ported x _ _ e (λ (i k : ℕ). op_has_client_framed_data op ≡ ok (has_framed op)) i k (λ r s. s.known) q

    pub framed_refused : x ≡ None → op_has_client_framed_data op ≡ refused 9 0 0
    unfolding op_has_client_framed_data
    framed_refused q = (shape_refuses ported x _ _ e q).known
