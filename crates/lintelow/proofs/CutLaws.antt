-- W-212 through the block of the boundary: of any exported call that returns 0 for a stream s, with the end in number i of its block, and is made again on s'.
use Prim.Native.Nat.{ℕ, ◌≤◌, ◌<◌}
use mathlib.Core.Path.{◌≡◌, refl, sym, ◌∙◌, ap}
use mathlib.Core.List.{List}
use mathlib.Core.Bool.{Bool, true, false}
use lib.ListN.{length, get_or, drop}
use lib.Dec.{leb}
use borrow.Author.Tests.{le-leb, leb-true}
use native.Mathlib.Omega.{arith}
use Rattle.layouts.specs.Primitive.{pick, cut_short, output_full, Result, ok, refused}
use Rattle.layouts.specs.Judge.{lent_after}
use Rattle.layouts.specs.Refusal.{refused_by}
use Rattle.layouts.specs.Cut.{CutBefore, SameTo, CutOrLonger, RefusedAsCut, WholeOnly}
use Rattle.layouts.proofs.Success.{Numbered}
use Rattle.walk_judge.specs.declared.Answer.{Answer}
use Rattle.walk_judge.specs.Judged.{answer_as}
use Rattle.lintelow_answers.specs.Block.{numbers_of, guarded, number_of, block_after, number_put, block_put}
use Rattle.lintelow.specs.Calls.{Called, called}
use Rattle.lintelow.specs.Demands.{in_block, Lendable, Tells}
use Rattle.lintelow.specs.Cut.{TellsCut}
use Rattle.lintelow.proofs.BlockLaws.{number_in, guarded_long}

told_in : (block after ns : List ℕ) (i n : ℕ) → after ≡ block_put block ns → 200 ≤ length block → i < length ns → get_or ns i 0 ≡ n → n < 18446744073709551616
    → in_block i after ≡ n
unfolding block_put
told_in block after ns i n e h l g m = rw (e, le-leb 200 (length block) h) (number_in ns (drop 200 block) i l (omega arith) ∙ g)

-- what the call tells: f makes an answer of what is said and of what is kept, and number i of its block is the end
pub record Telling {A K : Type 0} (i : ℕ) (ends : A → ℕ) (f : K → Result A → Answer) : Type 0 where
  pub refuses : (k : K) (which place stream : ℕ) → f k (refused which place stream) ≡ answer_as (refused which place stream)
  pub long : (k : K) (y : A) → i < length (numbers_of (f k (ok y)))
  pub end : (k : K) (y : A) → get_or (numbers_of (f k (ok y))) i 0 ≡ ends y

-- it is made on s, and again on s'
module _ {A K : Type 0} (said : List ℕ → Result A) (ends : A → ℕ) (keeps : List ℕ → K) {i : ℕ} (f : K → Result A → Answer) (t : Telling i ends f) (block s s' : List ℕ) (r r' : ℕ)
    (after after' : List ℕ) (p : Tells (f (keeps s) (said s)) block r after) (q : Tells (f (keeps s') (said s')) block r' after') (zero : r ≡ 0) (numbered : Numbered (said s)) where
  -- the block was long enough, and the call succeeded
  pub succeeded : (200 ≤ length block) × (y : A) × (said s ≡ ok y)
  unfolding number_put
  succeeded = by (leb 200 (length block)) refl (said s) refl numbered (sym p.0 ∙ zero)
    where
      by : (b : Bool) → leb 200 (length block) ≡ b → (o : Result A) → said s ≡ o → Numbered o → pick b (get_or (numbers_of (f (keeps s) o)) 0 0) output_full ≡ 0
          → (200 ≤ length block) × (y : A) × (said s ≡ ok y)
      by false e o g n z = absurd (omega arith)
      by true e (refused which place st) g n z =
          let c : which ≡ 0 = sym (ap (λ (a : Answer). get_or (numbers_of a) 0 0) (t.refuses (keeps s) which place st)) ∙ z in absurd (omega arith)
      by true e (ok y) g n z = (leb-true 200 (length block) e, y, g)

  -- and the block tells the end
  pub end_told_lem : ends succeeded.1 ≤ length s → Lendable s → in_block i after ≡ ends succeeded.1
  end_told_lem h fits =
      let y = succeeded.1 in
      told_in block after (numbers_of (f (keeps s) (ok y))) i (ends y) (p.1 ∙ ap (λ (o : Result A). block_after block (f (keeps s) o)) succeeded.2) succeeded.0
      (t.long (keeps s) y) (t.end (keeps s) y) (omega arith)

  pub cut_told : (stream : ℕ) → RefusedAsCut refused_by stream (said s')
      → TellsCut stream block r' after' × ((new lent : List ℕ) → lent_after (guarded block (said s')) new lent ≡ lent)
  unfolding number_put
  cut_told stream z =
      let g : f (keeps s') (said s') ≡ answer_as (refused cut_short z.0 stream) = ap (f (keeps s')) z.1 ∙ t.refuses (keeps s') cut_short z.0 stream in (
        (q.0 ∙ ap (number_of block) g ∙ rw (le-leb 200 (length block) succeeded.0), (z.0, q.1 ∙ ap (block_after block) g)),
        λ new lent. ap (λ (o : Result A). lent_after o new lent) (guarded_long block (said s') succeeded.0 ∙ z.1),
      )

  pub longer_told : said s' ≡ ok succeeded.1 → keeps s' ≡ keeps s
      → ((r' ≡ r) × (after' ≡ after)) × ((g : K → List ℕ) (lent : List ℕ) → lent_after (guarded block (said s')) (g (keeps s')) lent ≡ lent_after (guarded block (said s)) (g (keeps s)) lent)
  longer_told z e =
      let same = z ∙ sym succeeded.2 in
      let g : f (keeps s') (said s') ≡ f (keeps s) (said s) = ap (f (keeps s')) same ∙ ap (λ (k : K). f k (said s)) e in (
        (q.0 ∙ ap (number_of block) g ∙ sym p.0, q.1 ∙ ap (block_after block) g ∙ sym p.1),
        λ g lent. ap (λ (o : Result A). lent_after (guarded block o) (g (keeps s')) lent) same ∙ ap (λ (k : K). lent_after (guarded block (said s)) (g k) lent) e,
      )

module _ {A K : Type 0} {said : List ℕ → Result A} {ends : A → ℕ} {stream : ℕ} {keeps : List ℕ → K} (w : WholeOnly said ends stream keeps)
    (numbered : (s : List ℕ) → Numbered (said s)) {i : ℕ} (f : K → Result A → Answer) (t : Telling i ends f) (block s s' : List ℕ) (r r' : ℕ) (after after' : List ℕ)
    (p : Tells (f (keeps s) (said s)) block r after) (q : Tells (f (keeps s') (said s')) block r' after') (zero : r ≡ 0) (fits : Lendable s) where
  abbrev done : (200 ≤ length block) × (y : A) × (said s ≡ ok y)
  done = succeeded said ends keeps f t block s s' r r' after after' p q zero (numbered s)

  ends_there : in_block i after ≡ ends done.1
  ends_there = end_told_lem said ends keeps f t block s s' r r' after after' p q zero (numbered s) (w.within s done.1 done.2) fits

  pub exported_cut : CutBefore (in_block i after) s s' → TellsCut stream block r' after' × ((new lent : List ℕ) → lent_after (guarded block (said s')) new lent ≡ lent)
  exported_cut c = cut_told said ends keeps f t block s s' r r' after after' p q zero (numbered s) stream (w.cut s s' done.1 done.2 (rw ends_there at c))

  pub exported_longer : SameTo (in_block i after) s s'
      → ((r' ≡ r) × (after' ≡ after)) × ((g : K → List ℕ) (lent : List ℕ) → lent_after (guarded block (said s')) (g (keeps s')) lent ≡ lent_after (guarded block (said s)) (g (keeps s)) lent)
  exported_longer c =
      let z = w.longer s s' done.1 done.2 (rw ends_there at c) in
      longer_told said ends keeps f t block s s' r r' after after' p q zero (numbered s) z.0 z.1

-- a call that is lent one room: new is what it puts there. The second call is lent lent', which is the same
abbrev pub Leaves : (number : ℕ) → (block room : List ℕ) → Called → Type 0
Leaves number block room c = (number ≡ c.number) × ((block ≡ c.block) × (room ≡ c.room))

pub room_whole : {A K : Type 0} {said : List ℕ → Result A} {ends : A → ℕ} {stream : ℕ} {keeps : List ℕ → K} → WholeOnly said ends stream keeps → ((s : List ℕ) → Numbered (said s))
    → {i : ℕ} (f : Result A → Answer) → Telling {K = K} i ends (λ k. f) → (new : K → List ℕ) (block lent lent' s s' : List ℕ) (r r' : ℕ) (after after' out out' : List ℕ)
    → Leaves r after out (called block f (said s) (new (keeps s)) lent) → Leaves r' after' out' (called block f (said s') (new (keeps s')) lent) → lent' ≡ lent → r ≡ 0 → Lendable s
    → CutOrLonger (in_block i after) s s' (TellsCut stream block r' after' × (out' ≡ lent')) (((r' ≡ r) × (after' ≡ after)) × (out' ≡ out))
room_whole w n f t new block lent lent' s s' r r' after after' out out' p q same zero fits = (
  λ c.
      let z = exported_cut w n (λ k. f) t block s s' r r' after after' (p.0, p.1.0) (q.0, q.1.0) zero fits c in
      (z.0, q.1.1 ∙ z.1 _ lent ∙ sym same),
  λ c.
      let z = exported_longer w n (λ k. f) t block s s' r r' after after' (p.0, p.1.0) (q.0, q.1.0) zero fits c in
      (z.0, q.1.1 ∙ z.1 new lent ∙ sym p.1.1),
)
