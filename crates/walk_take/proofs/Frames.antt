-- Framed data, chunk by chunk: what is left, with the payload so far, is judged as the whole.
use Prim.Native.Nat.{ℕ, ◌+◌, ◌≤◌}
use mathlib.Core.Path.{◌≡◌, refl, sym, ◌∙◌, ap}
use mathlib.Core.List.{List}
use lib.ListN.{length}
use native.Mathlib.Omega.{arith}
use Rattle.layouts.specs.declared.Record.{Record}
use Rattle.layouts.specs.declared.Refusal.{Refusal}
use Rattle.layouts.specs.Primitive.{number_at, Result, onward}
use Rattle.layouts.specs.Shape.{Tree, frames}
use Rattle.layouts.specs.Pieces.{chunk_of, run}
use Rattle.layouts.specs.Record.{with_payload}
use Rattle.layouts.specs.Judge.{chunk_taken, judge_of, entries_of}
use Rattle.pieces.specs.Pieces.{chunk_found}
use Rattle.pieces.proofs.Found.{chunk_read, wrong_plain}
use Rattle.pieces.proofs.Nodes.{frames_by, frames_as, last_found, part_found}
use Rattle.walk_take.specs.Taking.{taken, TakesFrames}
use Rattle.pieces.specs.declared.Chunk as C
use Rattle.pieces.specs.declared.Chunk.TheVariants.{Last}
use Rattle.pieces.specs.declared.Chunk.TheVariants.{Part}
use Rattle.std.specs.Prelude as Std
use Rattle.std.specs.Prelude.{Ok, Err}

pub same_payload : (x : Record) (p : ℕ) → x.payload ≡ p → x ≡ with_payload x p
same_payload x p z = ap (λ (i : ℕ). with_payload x i) z

module _ (s : List ℕ) (room from n₀ : ℕ) where
  pub record Framing (at n : ℕ) : Type 0 where
    pub on : from ≤ at
    pub judges : (slots : ℕ) (k : Unit {0} → Tree) (x : Record) → x.payload ≡ n₀ → judge_of s slots room x (run (frames k) s from) ≡ judge_of s slots room (with_payload x n) (run (frames k) s at)
    pub keeps : (k : Unit {0} → Tree) → entries_of (run (frames k) s from) ≡ entries_of (run (frames k) s at)

  pub framing_start : Framing from n₀
  framing_start = record { on = omega arith; judges = λ slots k x z. ap (λ (y : Record). judge_of s slots room y (run (frames k) s from)) (same_payload x n₀ z); keeps = λ k. refl }

  module _ (at n : ℕ) (g : Framing at n) (m : Std.Result C.Chunk Refusal) (e : m ≡ chunk_found (chunk_of (length s) (number_at s at) at)) where
    framed : (y : Std.Result C.Chunk Refusal) → m ≡ y → (slots : ℕ) (k : Unit {0} → Tree) (x : Record) → x.payload ≡ n₀
        → judge_of s slots room x (run (frames k) s from) ≡ judge_of s slots room (with_payload x n) (frames_by s at k (chunk_read y))
    framed y q slots k x z =
        g.judges slots k x z ∙ ap (judge_of s slots room (with_payload x n)) (frames_as s at m e y q k)

    kept : (y : Std.Result C.Chunk Refusal) → m ≡ y → (k : Unit {0} → Tree) → entries_of (run (frames k) s from) ≡ entries_of (frames_by s at k (chunk_read y))
    kept y q k = g.keeps k ∙ ap entries_of (frames_as s at m e y q k)

    pub framing_wrong : (r : Refusal) → m ≡ Err r → TakesFrames s room from n₀ (Err r)
    unfolding judge_of
    framing_wrong r q = record { judges = λ slots k x z. rw (wrong_plain s at m e r q) (framed (Err r) q slots k x z); keeps = λ k. tt }

    pub framing_last : (next : ℕ) → m ≡ Ok (Last next) → TakesFrames s room from n₀ (Ok (record { at = next; entries = n }))
    framing_last next q = record { judges = λ slots k x z. framed (Ok (Last next)) q slots k x z; keeps = λ k. kept (Ok (Last next)) q k }

    pub last_took : (next : ℕ) → m ≡ Ok (Last next) → (from + 8 ≤ next) × (from + 8 ≤ length s)
    last_took next q =
        let h = last_found s at m e next q in
        let o = g.on in
        (omega (arith, h), omega (arith, h))

    module _ (start len next : ℕ) (q : m ≡ Ok (Part start len next)) (o : Std.Result ℕ Refusal) (w : (x : Record) → x.payload ≡ n → taken (with_payload x) o ≡ chunk_taken room x start len) where
      took_chunk : (y : Std.Result ℕ Refusal) → o ≡ y → (slots : ℕ) (k : Unit {0} → Tree) (x : Record) → x.payload ≡ n₀
          → judge_of s slots room x (run (frames k) s from) ≡ onward (taken (with_payload x) y) (λ x'. judge_of s slots room x' (run (frames k) s next))
      unfolding judge_of
      took_chunk y i slots k x z =
          framed (Ok (Part start len next)) q slots k x z
          ∙ ap (λ (u : Result Record). onward u (λ x'. judge_of s slots room x' (run (frames k) s next))) (sym (w (with_payload x n) refl) ∙ ap (taken (with_payload x)) i)

      pub framing_stop : (r : Refusal) → o ≡ Err r → TakesFrames s room from n₀ (Err r)
      framing_stop r i = record { judges = λ slots k x z. took_chunk (Err r) i slots k x z; keeps = λ k. tt }

      pub framing_on : (n' : ℕ) → o ≡ Ok n' → Framing next n'
      unfolding entries_of
      framing_on n' i =
          let h = part_found s at m e start len next q in
          let b = g.on in
          record { on = omega (arith, h); judges = λ slots k x z. took_chunk (Ok n') i slots k x z; keeps = λ k. kept (Ok (Part start len next)) q k }
