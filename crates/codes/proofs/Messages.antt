-- The codes are those of `message_of`: no code where it has none, terminal where it is.
use Prim.Native.Nat.{ℕ}
use mathlib.Core.Path.{◌≡◌, refl, sym, ap, ◌∙◌, subst}
use mathlib.Core.Logic.{◌↔◌}
use mathlib.Core.Bool.{true, false, ◌||◌}
use mathlib.Core.List.{List, [], ◌∷◌}
use native.Mathlib.Omega.{arith}
use native.Mathlib.Decide.{ℕ_discrete}
use borrow.Author.Tests.{ne_eqb}
use lib.Dec.{eqb}
use Rattle.layouts.specs.Stderr as Number
use Rattle.layouts.specs.Stderr.{Message, no_code, terminal, goes, message_of}
use Rattle.codes.specs.declared.StderrCode.{StderrCode}
use Rattle.codes.specs.declared.StderrCode.TheVariants.{Next, Read, Write, Last, Error, StartActivity, StopActivity, Result}
use Rattle.codes.specs.Stderr.{code_number, code_of, ends, is_terminal}
use Rattle.std.specs.Prelude.{Option, Some, None}

-- ---- a number that is a code, and one that is none
-- `from_u64` of a code's number is the code
pub of_code : (c : StderrCode) → code_of (code_number c) ≡ Some c
unfolding code_of
of_code Next = refl
of_code Read = refl
of_code Write = refl
of_code Last = refl
of_code Error = refl
of_code StartActivity = refl
of_code StopActivity = refl
of_code Result = refl

pub code_of_lem : (c : StderrCode) (v : ℕ) → v ≡ code_number c → Some c ≡ code_of v
code_of_lem c v e = rw e (sym (of_code c))

-- v is no code's number
module _ (v : ℕ) (f : (c : StderrCode) → v ≡ code_number c → ⊥) where
  differs : (c : StderrCode) → eqb v (code_number c) ≡ false
  differs c = ne_eqb v (code_number c) (f c)

  pub code_none : code_of v ≡ None
  unfolding code_of
  code_none = simp (differs Next, differs Read, differs Write, differs Last, differs Error, differs StartActivity, differs StopActivity, differs Result)

  message_none : message_of v ≡ no_code
  unfolding message_of
  message_none = simp (differs Next, differs Read, differs Write, differs Last, differs Error, differs StartActivity, differs StopActivity, differs Result)

-- what a `match` tells at its last arm
abbrev pub Misses : List ℕ → ℕ → Type 0
Misses [] v = Unit {0}
Misses (k ∷ ks) v = Misses ks v × (v ≡ k → ⊥)

pub others : (v : ℕ)
    → Misses (Number.Result# ∷ Number.StopActivity ∷ Number.StartActivity ∷ Number.Error ∷ Number.Last ∷ Number.Write ∷ Number.Read ∷ Number.Next ∷ []) v
    → (c : StderrCode) → v ≡ code_number c → ⊥
others v m Next = m.0.0.0.0.0.0.0.1
others v m Read = m.0.0.0.0.0.0.1
others v m Write = m.0.0.0.0.0.1
others v m Last = m.0.0.0.0.1
others v m Error = m.0.0.0.1
others v m StartActivity = m.0.0.1
others v m StopActivity = m.0.1
others v m Result = m.1

-- ---- terminal codes
pub by_number : (c : StderrCode) → (eqb (code_number c) Number.Last || eqb (code_number c) Number.Error) ≡ is_terminal c
unfolding is_terminal message_of
by_number Next = refl
by_number Read = refl
by_number Write = refl
by_number Last = refl
by_number Error = refl
by_number StartActivity = refl
by_number StopActivity = refl
by_number Result = refl

-- ---- the theorems
-- what a found code says
abbrev says : Option StderrCode → Message
says (Some c) = message_of (code_number c)
says None = no_code

-- one of the eight, or none
by_cases : (P : ℕ → Type 0) (v : ℕ) → ((c : StderrCode) → P (code_number c)) → (((c : StderrCode) → v ≡ code_number c → ⊥) → P v) → P v
by_cases P v f g =
    is Next (λ a. is Read (λ b. is Write (λ d. is Last (λ e. is Error (λ h. is StartActivity (λ i. is StopActivity (λ j. is Result (λ k.
    g (others v ((((((((tt, a), b), d), e), h), i), j), k))))))))))
  where
    is : (c : StderrCode) → ((v ≡ code_number c → ⊥) → P v) → P v
    is c k = go (ℕ_discrete v (code_number c))
      where
        go : Dec (v ≡ code_number c) → P v
        go (yes e) = subst P (sym e) (f c)
        go (no n) = k n

message : (v : ℕ) → message_of v ≡ says (code_of v)
message v = by_cases (λ v. message_of v ≡ says (code_of v)) v (λ c. rw of_code) (λ f. rw (code_none v f) (message_none v f))

-- a code that is found has the number that was looked for
pub has_number_lem : (v : ℕ) (c : StderrCode) → code_of v ≡ Some c → code_number c ≡ v
has_number_lem v =
    by_cases (λ v. (c : StderrCode) → code_of v ≡ Some c → code_number c ≡ v) v
    (λ d c e. let o = of_code d in let z : c ≡ d = cc in ap code_number z)
    (λ f c e. let o = code_none v f in let z : ◌≡◌ {A = ℕ} 0 1 = cc in absurd (omega arith))

-- none is found exactly where `message_of` has no code
some_message : (c : StderrCode) → message_of (code_number c) ≡ no_code → ⊥
unfolding message_of
some_message Next e = let z : ◌≡◌ {A = ℕ} 0 1 = cc in omega arith
some_message Read e = let z : ◌≡◌ {A = ℕ} 0 1 = cc in omega arith
some_message Write e = let z : ◌≡◌ {A = ℕ} 0 1 = cc in omega arith
some_message Last e = let z : ◌≡◌ {A = ℕ} 0 1 = cc in omega arith
some_message Error e = let z : ◌≡◌ {A = ℕ} 0 1 = cc in omega arith
some_message StartActivity e = let z : ◌≡◌ {A = ℕ} 0 1 = cc in omega arith
some_message StopActivity e = let z : ◌≡◌ {A = ℕ} 0 1 = cc in omega arith
some_message Result e = let z : ◌≡◌ {A = ℕ} 0 1 = cc in omega arith

says_none : (f : Option StderrCode) → says f ≡ no_code → f ≡ None
says_none (Some c) e = absurd (some_message c e)
says_none None e = refl

pub no_code_lem : (v : ℕ) → (code_of v ≡ None) ↔ (message_of v ≡ no_code)
no_code_lem v = (λ e. message v ∙ ap says e, λ e. says_none (code_of v) (sym (message v) ∙ e))

-- and a code that is found is terminal exactly where `message_of` is
ends_terminal : (m : Message) → ends m ≡ true → m ≡ terminal
ends_terminal no_code e = let z : ◌≡◌ {A = ℕ} 0 1 = cc in absurd (omega arith)
ends_terminal terminal e = refl
ends_terminal (goes gs) e = let z : ◌≡◌ {A = ℕ} 0 1 = cc in absurd (omega arith)

pub terminal_code : (v : ℕ) (c : StderrCode) → code_of v ≡ Some c → (is_terminal c ≡ true) ↔ (message_of v ≡ terminal)
unfolding is_terminal
terminal_code v c e =
    let m : message_of v ≡ message_of (code_number c) = message v ∙ ap says e in
    (λ t. m ∙ ends_terminal (message_of (code_number c)) t, λ t. ap ends (sym m ∙ t))
