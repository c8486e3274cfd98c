-- The iterator's answer is a function of its state: two answers that meet a contract are equal. `Post` is what Rattle reads off the source.
use Prim.Native.Nat.{ℕ}
use mathlib.Core.Path.{◌≡◌, sym, ◌∙◌, ap}
use native.Mathlib.Omega.{arith}
use mathlib.Core.Bool.{Bool}
use contract.Lifetimes.{Lfts}
use borrow.Fn.Kinds.{Dens, ended_of}
use denote.Triple.Clauses.{AtExit}
use Rattle.layouts.specs.Primitive.{Version}
use Rattle.walk_items.specs.declared.Item.{Item}
use Rattle.walk_items.specs.declared.Brief.{Brief}
use Rattle.walk_items.specs.Items.{first_of, version_of}
use Rattle.walk_items.proofs.layout.Reads as layout
use Rattle.walk_items.proofs.layout.Kinds as layout-kinds
use Rattle.walk_items.proofs.spoken.Reads as spoken
use Rattle.walk_items.proofs.spoken.Kinds as spoken-kinds
use Rattle.walk_items.proofs.begin.Reads as begin
use Rattle.walk_items.proofs.begin.Kinds as begin-kinds
use Rattle.walk_items.proofs.next.Reads as next
use Rattle.walk_items.proofs.next.Kinds as next-kinds
use Rattle.walk_items.proofs.in_brief.Reads as in-brief
use Rattle.walk_items.proofs.in_brief.Kinds as in-brief-kinds
use Rattle.walk_items.proofs.times.Reads as times
use Rattle.walk_items.proofs.times.Kinds as times-kinds
use Rattle.walk_items.proofs.at_least.Reads as at_least_lem
use Rattle.walk_items.proofs.at_least.Kinds as at-least-kinds

pub next_unique : (κs : Lfts 0) (a : Dens κs next-kinds.ps) (r r' : Item) (x x' : AtExit (ended_of 0 next-kinds.ps next-kinds.r) κs)
    → next.Post κs a r x → next.Post κs a r' x' → r ≡ r'
next_unique κs a r r' x x' p q = p.0 ∙ sym q.0

pub times_unique : (κs : Lfts 0) (a : Dens κs times-kinds.ps) (r r' : ℕ) (x x' : AtExit (ended_of 0 times-kinds.ps times-kinds.r) κs)
    → times.Post κs a r x → times.Post κs a r' x' → r ≡ r'
times_unique κs a r r' x x' p q = p ∙ sym q

pub in_brief_unique : (κs : Lfts 0) (a : Dens κs in-brief-kinds.ps) (r r' : Brief) (x x' : AtExit (ended_of 0 in-brief-kinds.ps in-brief-kinds.r) κs)
    → in-brief.Post κs a r x → in-brief.Post κs a r' x' → r ≡ r'
in_brief_unique κs a r r' x x' p q = p.0 ∙ sym q.0

pub begin_unique : (κs : Lfts 0) (a : Dens κs begin-kinds.ps) (r r' : Item) (x x' : AtExit (ended_of 0 begin-kinds.ps begin-kinds.r) κs)
    → begin.Post κs a r x → begin.Post κs a r' x' → r ≡ r'
begin_unique κs a r r' x x' p q = p.0 ∙ sym q.0

pub layout_unique : (κs : Lfts 0) (a : Dens κs layout-kinds.ps) (r r' : ℕ) (x x' : AtExit (ended_of 0 layout-kinds.ps layout-kinds.r) κs)
    → layout.Post κs a r x → layout.Post κs a r' x' → r ≡ r'
layout_unique κs a r r' x x' p q =
    let m : (version_of r).major ≡ (version_of r').major = ap (λ (v : Version). v.major) (p.0 ∙ sym q.0) in
    let n : (version_of r).minor ≡ (version_of r').minor = ap (λ (v : Version). v.minor) (p.0 ∙ sym q.0) in
    let f : first_of r ≡ first_of r' = p.1 ∙ sym q.1 in
    omega arith

pub spoken_unique : (κs : Lfts 0) (a : Dens κs spoken-kinds.ps) (r r' : ℕ) (x x' : AtExit (ended_of 0 spoken-kinds.ps spoken-kinds.r) κs)
    → spoken.Post κs a r x → spoken.Post κs a r' x' → r ≡ r'
spoken_unique κs a r r' x x' p q = p ∙ sym q

pub at_least_unique : (κs : Lfts 0) (a : Dens κs at-least-kinds.ps) (r r' : Bool) (x x' : AtExit (ended_of 0 at-least-kinds.ps at-least-kinds.r) κs)
    → at_least_lem.Post κs a r x → at_least_lem.Post κs a r' x' → r ≡ r'
at_least_unique κs a r r' x x' p q = p ∙ sym q
