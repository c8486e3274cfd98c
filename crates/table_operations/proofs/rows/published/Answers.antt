-- Made by ./tables from crates/layouts/specs and crates/table/specs/Claims.antt: `published` arm by arm, and with another number the other rows decide.
use mathlib.Core.Path.{refl}
use Rattle.layouts.specs.declared.Mode.TheVariants.{Published}
use Rattle.table.specs.Table.{find_in, row_for}
use Rattle.table_operations.specs.Rows.{row_of}
use Rattle.table_operations.proofs.Search.{arm, others}
use native.Mathlib.Omega.{arith}
use Rattle.table_operations.proofs.rows.published.Goals as goal

pub ported-requires : goal.ported-requires
unfolding row_of row_for find_in
ported-requires c = tt

pub returns-in-30 : goal.returns-in-30
unfolding row_of row_for find_in
returns-in-30 c = arm Published 289185083181126 c.in-30.is refl

pub returns-in-42 : goal.returns-in-42
unfolding row_of row_for find_in
returns-in-42 c = arm Published 281484221041738 c.in-42.is refl

pub returns-in_default : goal.returns-in_default
unfolding row_of row_for find_in
returns-in_default c = others _ c.ported.result ((tt, λ e. omega arith), λ e. omega arith) c.ported.ensures
