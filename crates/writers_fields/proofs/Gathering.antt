-- The loop over the fields: gathering what remains gives the same at every turn. And the answer, by what is left of the numbers.
use Prim.Native.Nat.{ℕ, ◌+◌, ◌-◌, ◌≤◌, ◌<◌}
use mathlib.Core.Path.{◌≡◌, refl, sym, ◌∙◌, ap}
use mathlib.Core.List.{List}
use mathlib.Core.Bool.{Bool, true, false, ◌&&◌, ◌||◌}
use lib.ListN.{length}
use lib.Dec.{leb, eqb}
use native.Mathlib.Omega.{arith}
use borrow.Author.Tests.{leb-true}
use Rattle.layouts.specs.Primitive.{pick, Result, ok, refused, onward, not_of_shape}
use Rattle.layouts.specs.declared.Refusal.{Refusal}
use Rattle.layouts.specs.Refusal.{plain, refused_by}
use Rattle.layouts.specs.Shape.{What}
use Rattle.layouts.specs.Writers.{framed_bytes}
use Rattle.layouts.specs.CallWriter.{value_for, leave, left_by, all_zero, has_frames, is_of_shape, entries_for}
use Rattle.table.specs.Packed.{size}
use Rattle.table.specs.Table.{target_of}
use Rattle.walk_items.specs.declared.Item as I
use Rattle.walk_items.specs.Items.{version_of, next_item}
use Rattle.writers_output.specs.Answer.{meaning}
use Rattle.writers_sets.specs.Sets.{grown}
use Rattle.writers_fields.specs.declared.Needs.{Needs}
use Rattle.writers_fields.specs.Fields.{fields_at, target_by, strings_by, strings_after, bytes_by, bytes_after}
use Rattle.writers_fields.proofs.Laws.{Next, next, kinded, left_by_lem, frames_by_lem, bytes_by_lem, entries_by}
use Rattle.std.specs.Prelude as Std
use Rattle.std.specs.Prelude.{Ok, Err}

pub record Gathering (ns : List ℕ) (slots framed room : ℕ) (left₀ : List ℕ) (ws₀ : List What) (e : Std.Result ℕ Refusal) (b : ℕ) (f : Bool) (l : List ℕ) (ws : List What) : Type 0 where
  pub entries : onward (meaning e) (λ n. entries_for ns slots n ws) ≡ entries_for ns slots 0 ws₀
  pub within : (n : ℕ) → meaning e ≡ ok n → n ≤ slots
  pub bytes : bytes_after room framed b ws ≡ bytes_after room framed 0 ws₀
  pub frames : (f || has_frames ws) ≡ has_frames ws₀
  pub left : left_by ns l ws ≡ left_by ns left₀ ws₀

module _ (ns : List ℕ) (slots framed room : ℕ) (left₀ : List ℕ) (ws₀ : List What) where
  pub gather_start : Gathering ns slots framed room left₀ ws₀ (Ok 0) 0 false left₀ ws₀
  gather_start = record { entries = refl; within = λ n q. let z : ◌≡◌ {A = ℕ} 0 n = cc in omega arith; bytes = refl; frames = refl; left = refl }

  taken_within : (k n used m : ℕ) → used ≤ slots → strings_after k n slots used ≡ ok m → m ≤ slots
  taken_within k n used m h q = go (leb (strings_by k n) (slots - used)) refl q
    where
      go : (b : Bool) → leb (strings_by k n) (slots - used) ≡ b → pick b (ok (used + strings_by k n)) (refused 11 n 0) ≡ ok m → m ≤ slots
      go true e f = let p = leb-true (strings_by k n) (slots - used) e in let g : used + strings_by k n ≡ m = cc in omega arith
      go false e f = let z : ◌≡◌ {A = ℕ} 0 1 = cc in absurd (omega arith)

  or_same : (a b c : Bool) → (a || (b || c)) ≡ ((a || b) || c)
  or_same true b c = refl
  or_same false b c = refl

  module _ (l pc : ℕ) (e : Std.Result ℕ Refusal) (bytes : ℕ) (frames : Bool) (left : List ℕ) (g : Gathering ns slots framed room left₀ ws₀ e bytes frames left (fields_at l pc))
      (x : I.Item) (q : x ≡ next_item (version_of l) pc 0 size size) where
    it : Next (version_of l) pc x
    it = next (version_of l) pc x q

    pub gather_end : x.kind ≡ 0
        → (meaning e ≡ entries_for ns slots 0 ws₀) × ((bytes ≡ bytes_after room framed 0 ws₀) × ((frames ≡ has_frames ws₀) × (left ≡ left_by ns left₀ ws₀)))
    unfolding entries_for bytes_after has_frames left_by
    gather_end k =
        let n = it.ends k in (
          same (meaning e) ∙ ap (λ (ws : List What). onward (meaning e) (λ n. entries_for ns slots n ws)) (sym n) ∙ g.entries,
          (ap (bytes_after room framed bytes) (sym n) ∙ g.bytes, (last frames ∙ ap (λ (ws : List What). frames || has_frames ws) (sym n) ∙ g.frames, ap (left_by ns left) (sym n) ∙ g.left)),
        )
      where
        same : (r : Result ℕ) → r ≡ onward r (λ n. ok n)
        same (ok n) = refl
        same (refused w p s) = refl

        last : (b : Bool) → b ≡ (b || false)
        last true = refl
        last false = refl

    module _ (k : x.kind ≡ 0 → ⊥) where
      pub gather_less : size - x.pc < size - pc
      gather_less = it.falls k

      pub gather_turn : (t : ℕ) → t ≡ target_by x.kind x.target → (left' : List ℕ) → left' ≡ leave ns left (target_of t)
          → (n : ℕ) → n ≡ value_for ns (target_of (target_by x.kind x.target)) → (e' : Std.Result ℕ Refusal) → meaning e' ≡ onward (meaning e) (λ used. strings_after x.kind n slots used)
          → (b : ℕ) → b ≡ bytes_by framed x.kind → (bytes' : ℕ) → bytes' ≡ grown room bytes b
          → Gathering ns slots framed room left₀ ws₀ e' bytes' (frames || eqb x.kind 5) left' (fields_at l x.pc)
      gather_turn t ft left' fl n fn e' fe b fb bytes' fg = record {
        entries = ap (λ (r : Result ℕ). onward r (λ n. entries_for ns slots n (fields_at l x.pc))) fe ∙ sym (all (meaning e) g.within) ∙ g.entries;
        within = λ m y. kept (meaning e) g.within m (sym fe ∙ y);
        bytes = ap (λ (t : ℕ). bytes_after room framed t (fields_at l x.pc)) (fg ∙ ap (grown room bytes) fb) ∙ sym (bytes_by_lem ns x.role x.target (fields_at l x.pc) (kinded x.kind) room framed bytes)
            ∙ ap (bytes_after room framed bytes) (sym (it.goes k)) ∙ g.bytes;
        frames = sym (or_same frames (eqb x.kind 5) (has_frames (fields_at l x.pc))) ∙ ap (λ (b : Bool). frames || b) (sym (frames_by_lem ns x.role x.target (fields_at l x.pc) (kinded x.kind)))
            ∙ ap (λ (ws : List What). frames || has_frames ws) (sym (it.goes k)) ∙ g.frames;
        left = ap (λ (y : List ℕ). left_by ns y (fields_at l x.pc)) (fl ∙ ap (λ (j : ℕ). leave ns left (target_of j)) ft) ∙ sym (left_by_lem ns x.role x.target (fields_at l x.pc) (kinded x.kind) left)
            ∙ ap (left_by ns left) (sym (it.goes k)) ∙ g.left;
      }
        where
          all : (r : Result ℕ) → ((n : ℕ) → r ≡ ok n → n ≤ slots)
              → onward r (λ n. entries_for ns slots n (fields_at l pc)) ≡ onward (onward r (λ used. strings_after x.kind n slots used)) (λ j. entries_for ns slots j (fields_at l x.pc))
          all (ok m) h =
              ap (entries_for ns slots m) (it.goes k) ∙ entries_by ns x.role x.target (fields_at l x.pc) slots m (h m refl) (kinded x.kind)
              ∙ ap (λ (y : ℕ). onward (strings_after x.kind y slots m) (λ j. entries_for ns slots j (fields_at l x.pc))) (sym fn)
          all (refused w p s) h = refl

          kept : (r : Result ℕ) → ((n : ℕ) → r ≡ ok n → n ≤ slots) → (m : ℕ) → onward r (λ used. strings_after x.kind n slots used) ≡ ok m → m ≤ slots
          kept (ok u) h m y = taken_within x.kind n u m (h u refl) y
          kept (refused w p s) h m y = let z : ◌≡◌ {A = ℕ} 0 1 = cc in absurd (omega arith)

-- ---- 14, by what is left
module _ (ns p : List ℕ) (ws : List What) (slots room : ℕ) (f : ℕ) (ef : f ≡ length (framed_bytes p)) (r : Needs)
    (g : (meaning r.entries ≡ entries_for ns slots 0 ws) × ((r.bytes ≡ bytes_after room f 0 ws) × (r.framed ≡ has_frames ws)))
    (left : List ℕ) (el : left ≡ left_by ns ns ws) (z : Bool) (ez : z ≡ all_zero 15 left) where
  abbrev Judges : Needs → Type 0
  Judges q =
      (meaning q.entries ≡ pick (is_of_shape ns p ws) (entries_for ns slots 0 ws) (refused not_of_shape 0 0))
      × ((q.bytes ≡ pick (is_of_shape ns p ws) (bytes_after room (length (framed_bytes p)) 0 ws) 0) × (q.framed ≡ pick (is_of_shape ns p ws) (has_frames ws) false))

  shape_is : (b : Bool) → (z && (r.framed || eqb (length p) 0)) ≡ b → is_of_shape ns p ws ≡ b
  unfolding is_of_shape
  shape_is b h = ap (λ (l : List ℕ). all_zero 15 l && (has_frames ws || eqb (length p) 0)) (sym el) ∙ ap (λ (y : Bool). y && (has_frames ws || eqb (length p) 0)) (sym ez)
      ∙ ap (λ (y : Bool). z && (y || eqb (length p) 0)) (sym g.1.1) ∙ h

  pub judge_fine : (z && (r.framed || eqb (length p) 0)) ≡ true → Judges r
  judge_fine h = let s = shape_is true h in rw s (g.0, (g.1.0 ∙ ap (λ (n : ℕ). bytes_after room n 0 ws) ef, g.1.1))

  pub judge_other : (z && (r.framed || eqb (length p) 0)) ≡ false → (x : Refusal) → x ≡ plain not_of_shape 0
      → Judges (record { entries = Err x; bytes = 0; framed = false })
  judge_other h x e = let s = shape_is false h in rw s (ap refused_by e, (refl, refl))
