-- How code goes over a list: a step past one character or past ASCII (`Step`), and what is known where it stands (`Upto`).
use Prim.Native.Nat.{ℕ, zero, suc, ◌+◌, ◌-◌, ◌≤◌, ◌<◌}
use mathlib.Core.Path.{◌≡◌, refl, sym, ◌∙◌}
use mathlib.Core.List.{List, [], ◌∷◌, ◌++◌}
use mathlib.Core.Bool.{Bool, true, false, ◌&&◌, false≢true}
use native.Mathlib.Omega.{arith}
use lib.ListN.{length, take, drop, length-drop, take-append-drop}
use lib.Seq.{drop-drop, take-add, take_all, length-take-le}
use lib.Dec.{T, leb, leb→le}
use borrow.Author.Tests.{le-leb}
use Rattle.text.specs.Prefix.{char_length, good_prefix, all_plain, PlainFor, Step}
use Rattle.text.proofs.Chars.{begins, T_and}
use Rattle.text.proofs.Meaning.{begun, step, stuck, good_within}

pub char_step : (s : List ℕ) (n : ℕ) → n ≡ char_length s → Step s n
char_step s n e = record {
  inside = rw e (begun (begins s));
  on = rw e (step s);
  stuck = λ z. stuck s (sym e ∙ z);
}

plain_run : (p t : List ℕ) → T (all_plain p) → good_prefix (p ++ t) ≡ length p + good_prefix t
unfolding char_length
plain_run [] t h = omega arith
plain_run (a ∷ p) t h =
    let g = (T_and (leb a 0x7F) (all_plain p)).0 h in
    let e : char_length (a ∷ p ++ t) ≡ 1 = simp (le-leb a 0x7F (leb→le a 0x7F g.0)) in
    omega (arith, rw e at (step (a ∷ p ++ t)), plain_run p t g.1)

pub plain_step : (n : ℕ) (s : List ℕ) (t : Bool) → 0 < n → (t ≡ true → PlainFor n s) → t ≡ true → Step s n
plain_step n s t z h e =
    let p = h e in
    record {
      inside = p.there;
      on = rw (take-append-drop, length-take-le n s p.there) at (plain_run (take n s) (drop n s) p.ascii);
      stuck = λ e. absurd (omega arith);
    }

-- the list that the code's `&s[i..]` is
pub part : (s : List ℕ) (i : ℕ) → take (length s - i) (drop i s) ≡ drop i s
part s i = take_all (length s - i) (drop i s) (omega (arith, length-drop i s))

-- ---- ASCII in one part and in the next
plain_append : (p t : List ℕ) → T (all_plain p) → T (all_plain t) → T (all_plain (p ++ t))
plain_append [] t h g = g
plain_append (a ∷ p) t h g =
    let k = (T_and (leb a 0x7F) (all_plain p)).0 h in (T_and (leb a 0x7F) (all_plain (p ++ t))).1 (k.0, plain_append p t k.1 g)

pub both : (p q : Bool) → p && q ≡ true → (p ≡ true) × (q ≡ true)
both true true e = (refl, refl)
both true false e = absurd (false≢true e)
both false q e = absurd (false≢true e)

pub plain_more : (n m : ℕ) (s : List ℕ) (q : Bool) → PlainFor n s → (q ≡ true → PlainFor m (take (length s - n) (drop n s))) → q ≡ true → PlainFor (n + m) s
plain_more n m s q x g e =
    let y : PlainFor m (drop n s) = rw (part s n) at (g e) in
    record {
      there = omega (arith, x.there, y.there, length-drop n s);
      ascii = rw (take-add n m s) (plain_append (take n s) (take m (drop n s)) x.ascii y.ascii);
    }

pub plain_join : (n m : ℕ) (s : List ℕ) (p q : Bool) → (p ≡ true → PlainFor n s) → (q ≡ true → PlainFor m (take (length s - n) (drop n s)))
    → p && q ≡ true → PlainFor (n + m) s
plain_join n m s p q h g e = let b = both p q e in plain_more n m s q (h b.0) g b.1

-- ---- ASCII from the start and to the end, where the two may overlap
plain_less : (m n : ℕ) (s : List ℕ) → m ≤ n → T (all_plain (take n s)) → T (all_plain (take m s))
plain_less zero n s h t = tt
plain_less (suc m) zero s h t = absurd (omega arith)
plain_less (suc m) (suc n) [] h t = tt
plain_less (suc m) (suc n) (a ∷ s) h t =
    let k = (T_and (leb a 0x7F) (all_plain (take n s))).0 t in (T_and (leb a 0x7F) (all_plain (take m s))).1 (k.0, plain_less m n s (omega arith) k.1)

pub plain_last : (k n : ℕ) (s : List ℕ) (q : Bool) → PlainFor n s → k ≤ length s → length s - k ≤ n
    → (q ≡ true → PlainFor k (take (length s - (length s - k)) (drop (length s - k) s))) → q ≡ true → PlainFor (length s) s
plain_last k n s q x h l g e =
    let m = length s - k in
    let b : PlainFor m s = record { there = omega arith; ascii = plain_less m n s l x.ascii } in
    let w : length s - k + k ≡ length s = omega arith in
    rw w at (plain_more m k s q b g e)

pub plain_ends : (k n : ℕ) (s : List ℕ) (p q : Bool) → k ≤ length s → length s ≤ n + k
    → (p ≡ true → PlainFor n s) → (q ≡ true → PlainFor k (take (length s - (length s - k)) (drop (length s - k) s))) → p && q ≡ true → PlainFor (length s) s
plain_ends k n s p q h l f g e = let b = both p q e in plain_last k n s q (f b.0) h (omega arith) g b.1

-- ---- the loop
pub record Upto (s : List ℕ) (i : ℕ) : Type 0 where
  pub inside : i ≤ length s
  pub good : good_prefix s ≡ i + good_prefix (drop i s)

pub start : (s : List ℕ) → Upto s 0
start s = record { inside = omega arith; good = omega arith }

pub past : (s : List ℕ) (i n : ℕ) → Upto s i → Step (take (length s - i) (drop i s)) n → Upto s (i + n)
past s i n u p =
    let q : Step (drop i s) n = rw (part s i) at p in
    record {
      inside = omega (arith, length-drop i s);
      good = rw (← drop-drop) (omega arith);
    }

pub stopped : (s : List ℕ) (i n : ℕ) → Upto s i → Step (take (length s - i) (drop i s)) n → n ≡ 0 → i ≡ good_prefix s
stopped s i n u p z = let q : Step (drop i s) n = rw (part s i) at p in omega (arith, q.stuck z)

pub ended : (s : List ℕ) (i : ℕ) → Upto s i → length s ≤ i → i ≡ good_prefix s
ended s i u h = omega (arith, good_within (drop i s), length-drop i s)
