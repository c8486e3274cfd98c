-- Made by ./tables from crates/layouts/specs and crates/table/specs/Claims.antt: `decided` way by way, and in the last arm the code is none of the list.
use borrow.Author.Rules.{rules}
use Rattle.table.specs.Table.{numbered_of}
use Rattle.table_operations.proofs.Itself.{itself}
use native.Mathlib.Omega.{arith}
use Rattle.table_operations.proofs.decided.decided.Goals as goal

pub since-requires : goal.since-requires
unfolding numbered_of
since-requires c = search rules

pub since-requires-in-33 : goal.since-requires-in-33
unfolding numbered_of
since-requires-in-33 c = search rules

pub since-requires-in-33-2 : goal.since-requires-in-33-2
unfolding numbered_of
since-requires-in-33-2 c = search rules

pub since-requires-in-34 : goal.since-requires-in-34
unfolding numbered_of
since-requires-in-34 c = search rules

pub either-requires : goal.either-requires
unfolding numbered_of
either-requires c = search rules

pub since-requires-in-36 : goal.since-requires-in-36
unfolding numbered_of
since-requires-in-36 c = search rules

pub either-requires-in-36 : goal.either-requires-in-36
unfolding numbered_of
either-requires-in-36 c = search rules

pub since-requires-in-37 : goal.since-requires-in-37
unfolding numbered_of
since-requires-in-37 c = search rules

pub since-requires-in-38 : goal.since-requires-in-38
unfolding numbered_of
since-requires-in-38 c = search rules

pub since-requires-in-39 : goal.since-requires-in-39
unfolding numbered_of
since-requires-in-39 c = search rules

pub returns-in-32 : goal.returns-in-32
unfolding numbered_of
returns-in-32 c = rw (c.in-32.is, c.since.ensures)

pub returns-in-33 : goal.returns-in-33
unfolding numbered_of
returns-in-33 c = rw (c.in-33.is, c.since-in-33-2.ensures, c.since-in-33.ensures)

pub returns-in-34 : goal.returns-in-34
unfolding numbered_of
returns-in-34 c = rw (c.in-34.is, c.since-in-34.ensures)

pub returns-in-35 : goal.returns-in-35
unfolding numbered_of
returns-in-35 c = rw (c.in-35.is, c.either.ensures)

pub returns-in-36 : goal.returns-in-36
unfolding numbered_of
returns-in-36 c = rw (c.in-36.is, c.either-in-36.ensures, c.since-in-36.ensures)

pub returns-in-37 : goal.returns-in-37
unfolding numbered_of
returns-in-37 c = rw (c.in-37.is, c.since-in-37.ensures)

pub returns-in-38 : goal.returns-in-38
unfolding numbered_of
returns-in-38 c = rw (c.in-38.is, c.since-in-38.ensures)

pub returns-in-39 : goal.returns-in-39
unfolding numbered_of
returns-in-39 c = rw (c.in-39.is, c.since-in-39.ensures)

pub returns-in_default : goal.returns-in_default
unfolding numbered_of
returns-in_default c = itself _ _ _ ((((((((tt, λ e. omega arith), λ e. omega arith), λ e. omega arith), λ e. omega arith), λ e. omega arith), λ e. omega arith), λ e. omega arith), λ e. omega arith)
