-- Each contract, as Rattle reads it off the source, determines its answer: of two that meet it the contents are the same.
use Prim.Native.Nat.{ℕ}
use mathlib.Core.Path.{◌≡◌, refl, sym, ap, ◌∙◌}
use mathlib.Core.List.{List}
use contract.Lifetimes.{Lfts}
use borrow.Fn.Kinds.{ParamKind, ResultKind, Out, Dens, res_t, ended_of}
use denote.Triple.Clauses.{AtExit}
use denote.RattleType.{RattleType}
use denote.Param.Laws.{Laws}
use mir.Syntax.{Dict}
use Rattle.entries.specs.declared.Form
use Rattle.layouts.specs.Primitive.{Result, ok, refused}
use Rattle.layouts.specs.Refusal.{refusal}
use Rattle.views.specs.Fault.{meaning}
use Rattle.views.proofs.entry.Reads as entry
use Rattle.views.proofs.entry.Kinds as entry-kinds
use Rattle.views.proofs.entry_fault.Reads as entry-fault
use Rattle.views.proofs.entry_fault.Kinds as entry-fault-kinds
use Rattle.views.proofs.part.Reads as part
use Rattle.views.proofs.part.Kinds as part-kinds
use Rattle.views.proofs.part_in_both.Reads as part-in-both
use Rattle.views.proofs.part_in_both.Kinds as part-in-both-kinds
use Rattle.views.proofs.feature.Reads as feature
use Rattle.views.proofs.feature.Kinds as feature-kinds
use Rattle.views.proofs.feature_fault.Reads as feature-fault
use Rattle.views.proofs.feature_fault.Kinds as feature-fault-kinds
use Rattle.views.proofs.extract_store_path.Reads as extract-store-path
use Rattle.views.proofs.extract_store_path.Kinds as extract-store-path-kinds
use Rattle.std.specs.Prelude as Std
use Rattle.layouts.specs.declared.Refusal.{Refusal}
use Rattle.std.specs.Prelude.{Ok, Err}

-- two answers to the same arguments, each with what lies behind the references as the call ends
abbrev pub Determined : {A : Type 0} (n : ℕ) (ps : List (ParamKind n)) (k : ResultKind n) → Out n ps k → ((κs : Lfts n) → (res_t k κs).Denot → A) → Type 0
Determined n ps k Post f =
    (κs : Lfts n) (a : Dens κs ps) (r r' : (res_t k κs).Denot) (x x' : AtExit (ended_of n ps k) κs) → Post κs a r x → Post κs a r' x' → f κs r ≡ f κs r'

-- a fault is told by its meaning
abbrev told_by : Result (Unit {0}) → Std.Result (Unit {0}) Refusal
told_by (ok u) = (Ok tt)
told_by (refused which place stream) = Err (refusal which place stream)

told_by_lem : (r : Std.Result (Unit {0}) Refusal) → told_by (meaning r) ≡ r
told_by_lem (Ok tt) = refl
told_by_lem (Err r) = refl

pub fault_unique : (r r' : Std.Result (Unit {0}) Refusal) → meaning r ≡ meaning r' → r ≡ r'
fault_unique r r' e = sym (told_by_lem r) ∙ ap told_by e ∙ told_by_lem r'

-- a view: its contents, and where it begins
same_view : {part part' : List ℕ} {at at' : ℕ × ℕ} → part ≡ part' → at.0 ≡ at'.0 → at.1 ≡ at'.1 → ◌≡◌ {A = List ℕ × (ℕ × ℕ)} (part, at) (part', at')
same_view p q e i = (p i, (q i, e i))

-- in either form
module _ (T : RattleType) (L : Laws T) (F : Form.Ghosts T.Denot) (d : Dict) where
  pub part_determined : Determined {A = List ℕ × (ℕ × ℕ)} 3 (part-kinds.ps T L) (part-kinds.r T L) (part.Post T L F d) (λ κs r. (r.now, r.ref_ptr))
  part_determined κs a r r' x x' p q = same_view (p.0 ∙ sym q.0) (p.1.0 ∙ sym q.1.0) (p.1.1 ∙ sym q.1.1)

-- in both forms
pub part_in_both_determined : Determined {A = List ℕ × (ℕ × ℕ)} 3 part-in-both-kinds.ps part-in-both-kinds.r part-in-both.Post (λ κs r. (r.now, r.ref_ptr))
part_in_both_determined κs a r r' x x' p q = same_view (p.0 ∙ sym q.0) (p.1.0 ∙ sym q.1.0) (p.1.1 ∙ sym q.1.1)

pub entry_determined : Determined {A = List ℕ × (ℕ × ℕ)} 2 entry-kinds.ps entry-kinds.r entry.Post (λ κs r. (r.now, r.ref_ptr))
entry_determined κs a r r' x x' p q = same_view (p.0 ∙ sym q.0) (p.1.0 ∙ sym q.1.0) (p.1.1 ∙ sym q.1.1)

pub entry_fault_determined : Determined 2 entry-fault-kinds.ps entry-fault-kinds.r entry-fault.Post (λ κs r. r)
entry_fault_determined κs a r r' x x' p q = fault_unique r r' (p ∙ sym q)

pub feature_determined : Determined {A = List ℕ × (ℕ × ℕ)} 2 feature-kinds.ps feature-kinds.r feature.Post (λ κs r. (r.now, r.ref_ptr))
feature_determined κs a r r' x x' p q = same_view (p.0 ∙ sym q.0) (p.1.0 ∙ sym q.1.0) (p.1.1 ∙ sym q.1.1)

pub feature_fault_determined : Determined 3 feature-fault-kinds.ps feature-fault-kinds.r feature-fault.Post (λ κs r. r)
feature_fault_determined κs a r r' x x' p q = fault_unique r r' (p ∙ sym q)

pub extract_store_path_determined : Determined 1 extract-store-path-kinds.ps extract-store-path-kinds.r extract-store-path.Post (λ κs r. r)
extract_store_path_determined κs a r r' x x' p q = p ∙ sym q
