-- The block's numbers by their places, and their bytes one number after the other.
use Prim.Native.Nat.{ℕ, zero, suc, ◌+◌, ◌*◌, ◌≤◌, ◌<◌}
use mathlib.Core.Path.{◌≡◌, refl, sym, ◌∙◌, ap}
use mathlib.Core.List.{List, [], ◌∷◌, ◌++◌}
use mathlib.Core.Bool.{Bool}
use native.Mathlib.Omega.{arith}
use lib.ListN.{length, get_or, take, drop, drop_of_length-le}
use lib.Seq.{sets-eq, drop-cons, take_all}
use borrow.Author.Tests.{le-leb, lt-leb}
use Rattle.layouts.specs.Primitive.{pick, number_bytes}
use Rattle.layouts.proofs.Little.{length_number}
use Rattle.layouts.specs.declared.Refusal.{Refusal}
use Rattle.walk_judge.specs.declared.Answer.{Answer}
use Rattle.walk_judge.specs.Judged.{answer_of}
use Rattle.writers_output.specs.Numbers.{bytes_of}
use Rattle.writers_output.specs.Placed.{placed}
use Rattle.writers_output.proofs.Laws.{placed_fits, Filling, filling_start, filling_turn, filling_end}
use Rattle.writers_output.proofs.Numbers.{bytes_none, bytes_length, bytes_step}
use Rattle.lintelow_answers.specs.Block.{refusal_of, numbers_of, head_of, block_of, number_put, block_put}
use Rattle.walk_judge.specs.declared.Said.{Said}
use Rattle.std.specs.Prelude.{Ok, Err, Result}

-- n elements from k on, by their indices
abbrev span : ℕ → ℕ → List ℕ → List ℕ
span zero k xs = []
span (suc n) k xs = get_or xs k 0 ∷ span n (suc k) xs

span_take : (n k : ℕ) (xs : List ℕ) → k + n ≤ length xs → take n (drop k xs) ≡ span n k xs
span_take zero k xs h = refl
span_take (suc n) k xs h =
    let g : k < length xs = omega arith in
    rw (drop-cons xs k 0 g) (ap (λ (l : List ℕ). get_or xs k 0 ∷ l) (span_take n (suc k) xs (omega arith)))

span_all : (n : ℕ) (xs : List ℕ) → length xs ≡ n → span n 0 xs ≡ xs
span_all n xs e = sym (span_take n 0 xs (omega arith)) ∙ take_all n xs (omega arith)

-- the parts of a block, each by its indices
pub block_by : (hs ns cs : List ℕ) → length hs ≡ 8 → length ns ≡ 12 → length cs ≡ 3 → block_of (span 8 0 hs) (span 12 0 ns) (span 3 0 cs) ≡ block_of hs ns cs
block_by hs ns cs k l m =
    ap (λ (x : List ℕ). block_of x (span 12 0 ns) (span 3 0 cs)) (span_all 8 hs k) ∙
    ap (λ (x : List ℕ). block_of hs x (span 3 0 cs)) (span_all 12 ns l) ∙ ap (λ (x : List ℕ). block_of hs ns x) (span_all 3 cs m)

pub head_fine : {said : Result Said Refusal} {kind ends ends2 n p : ℕ} {b : Bool} → said ≡ Ok (record { kind = kind; ends = ends; ends2 = ends2; entries = n; payload = p; present = b })
    → 0 ∷ 0 ∷ 0 ∷ kind ∷ ends ∷ ends2 ∷ n ∷ p ∷ [] ≡ head_of said
head_fine e = ap head_of (sym e)

pub head_refused : {said : Result Said Refusal} {r : Refusal} → said ≡ Err r → r.which ∷ r.place ∷ r.stream ∷ 0 ∷ 0 ∷ 0 ∷ 0 ∷ 0 ∷ [] ≡ head_of said
head_refused e = ap head_of (sym e)

pub said_block : (said : Result Said Refusal) (hs ns cs : List ℕ) → (hs ≡ head_of said) × (length hs ≡ 8) → block_of hs ns cs ≡ numbers_of (answer_of said ns cs)
said_block (Ok k) hs ns cs e = ap (λ (x : List ℕ). block_of x ns cs) e.0
said_block (Err r) hs ns cs e = ap (λ (x : List ℕ). block_of x ns cs) e.0

pub answer_block : (a : Answer) (rs : List ℕ) → (rs ≡ refusal_of a.outcome) × (length rs ≡ 3)
    → block_of (span 3 0 rs ++ (a.kind ∷ a.ends ∷ a.ends2 ∷ a.found.entries ∷ a.found.payload ∷ [])) a.found.numbers a.found.counts ≡ numbers_of a
answer_block a rs e =
    let rest = a.kind ∷ a.ends ∷ a.ends2 ∷ a.found.entries ∷ a.found.payload ∷ [] in
    ap (λ (x : List ℕ). block_of (x ++ rest) a.found.numbers a.found.counts) (span_all 3 rs e.1 ∙ e.0) ∙ refused_block a a.outcome
  where
    refused_block : (a : Answer) (o : Result (Unit {0}) Refusal) → block_of (refusal_of o ++ (a.kind ∷ a.ends ∷ a.ends2 ∷ a.found.entries ∷ a.found.payload ∷ [])) a.found.numbers a.found.counts
        ≡ refusal_of o ++ (a.kind ∷ a.ends ∷ a.ends2 ∷ a.found.entries ∷ a.found.payload ∷ (a.found.numbers ++ (a.found.counts ++ (0 ∷ 0 ∷ []))))
    refused_block a (Ok tt) = refl
    refused_block a (Err r) = refl

-- ---- the numbers from i on are to come
module _ (lent ns : List ℕ) where
  abbrev pub Putting : List ℕ → ℕ → Type 0
  Putting out i = Filling lent 0 (bytes_of ns) out (8 * i) (bytes_of (drop i ns))

  pub putting_none : 8 * length ns ≤ length lent → Putting lent 0
  putting_none h = filling_start lent 0 (bytes_of ns) (omega (arith, bytes_length ns))

  module _ (out : List ℕ) (i : ℕ) (p : Putting out i) where
    pub putting_more : (out' : List ℕ) → i < length ns → out' ≡ placed (8 * i) (number_bytes (get_or ns i 0)) out → Putting out' (i + 1)
    putting_more out' h e =
        let l = length_number (get_or ns i 0) in
        filling_turn lent 0 (bytes_of ns) out (8 * i) (bytes_of (drop i ns)) p (number_bytes (get_or ns i 0)) (bytes_of (drop (i + 1) ns)) (bytes_step ns i h) out' (8 * (i + 1)) (omega arith) e

    pub putting_all : length ns ≤ i → out ≡ placed 0 (bytes_of ns) lent
    putting_all h = filling_end lent 0 (bytes_of ns) out (8 * i) (bytes_of (drop i ns)) p (ap bytes_of (drop_of_length-le ns {i = i} h) ∙ bytes_none)

-- ---- all of them at the start of the block
module _ (block : List ℕ) where
  pub put_short : (all : List ℕ) → length block < 200 → (10 ≡ number_put block all) × (block ≡ block_put block all)
  unfolding number_put block_put
  put_short all h = simp (lt-leb 200 (length block) h) (refl, refl)

  pub put_long : (all : List ℕ) → 200 ≤ length block → (ns out : List ℕ) → (ns ≡ all) × (length ns ≡ 25) → out ≡ placed 0 (bytes_of ns) block
      → (get_or ns 0 0 ≡ number_put block all) × (out ≡ block_put block all)
  unfolding number_put block_put
  put_long all h ns out e q =
      let l = bytes_length ns in
      let m = e.1 in
      let n : 0 + length (bytes_of ns) ≡ 200 = omega arith in
      let t = sym (le-leb 200 (length block) h) in (
        ap (λ (x : List ℕ). get_or x 0 0) e.0 ∙ ap (λ (b : Bool). pick b (get_or all 0 0) 10) t,
        q ∙ placed_fits 0 (bytes_of ns) block (omega arith) ∙ sets-eq (bytes_of ns) block 0 (omega arith) ∙ ap (λ (k : ℕ). bytes_of ns ++ drop k block) n ∙
            ap (λ (x : List ℕ). bytes_of x ++ drop 200 block) e.0 ∙ ap (λ (b : Bool). pick b (bytes_of all ++ drop 200 block) block) t,
      )

  -- the same block, by another word for its numbers
  pub put_as : {all all' : List ℕ} → all ≡ all' → (n : ℕ) (out : List ℕ) → (n ≡ number_put block all) × (out ≡ block_put block all)
      → (n ≡ number_put block all') × (out ≡ block_put block all')
  put_as e n out p = (p.0 ∙ ap (number_put block) e, p.1 ∙ ap (block_put block) e)
