-- Made by ./tables from crates/layouts/specs and crates/table/specs/Claims.antt: `ported` arm by arm, and no row has another number.
use mathlib.Core.Path.{refl}
use Rattle.layouts.specs.declared.Mode.TheVariants.{Ported}
use Rattle.table.specs.Table.{find_in, row_for}
use Rattle.table_operations.specs.Rows.{row_of}
use Rattle.table_operations.proofs.Search.{arm, none}
use native.Mathlib.Omega.{arith}
use Rattle.table_operations.proofs.rows.ported.Goals as goal

pub returns-in-1 : goal.returns-in-1
unfolding row_of row_for find_in
returns-in-1 c = arm Ported 282583095181312 c.in-1.is refl

pub returns-in-6 : goal.returns-in-6
unfolding row_of row_for find_in
returns-in-6 c = arm Ported 288080653451264 c.in-6.is refl

pub returns-in-7 : goal.returns-in-7
unfolding row_of row_for find_in
returns-in-7 c = arm Ported 317767987890182 c.in-7.is refl

pub returns-in-8 : goal.returns-in-8
unfolding row_of row_for find_in
returns-in-8 c = arm Ported 283678496263692 c.in-8.is refl

pub returns-in-9 : goal.returns-in-9
unfolding row_of row_for find_in
returns-in-9 c = arm Ported 282587457262096 c.in-9.is refl

pub returns-in-10 : goal.returns-in-10
unfolding row_of row_for find_in
returns-in-10 c = arm Ported 282583095181312 c.in-10.is refl

pub returns-in-11 : goal.returns-in-11
unfolding row_of row_for find_in
returns-in-11 c = arm Ported 282583095181312 c.in-11.is refl

pub returns-in-12 : goal.returns-in-12
unfolding row_of row_for find_in
returns-in-12 c = arm Ported 282583111958528 c.in-12.is refl

pub returns-in-13 : goal.returns-in-13
unfolding row_of row_for find_in
returns-in-13 c = arm Ported 282578884105236 c.in-13.is refl

pub returns-in-14 : goal.returns-in-14
unfolding row_of row_for find_in
returns-in-14 c = arm Ported 289175955182612 c.in-14.is refl

pub returns-in-18 : goal.returns-in-18
unfolding row_of row_for find_in
returns-in-18 c = arm Ported 283682606678016 c.in-18.is refl

pub returns-in-19 : goal.returns-in-19
unfolding row_of row_for find_in
returns-in-19 c = arm Ported 281621123111448 c.in-19.is refl

pub returns-in-20 : goal.returns-in-20
unfolding row_of row_for find_in
returns-in-20 c = arm Ported 290275501022748 c.in-20.is refl

pub returns-in-21 : goal.returns-in-21
unfolding row_of row_for find_in
returns-in-21 c = arm Ported 319966777835520 c.in-21.is refl

pub returns-in-22 : goal.returns-in-22
unfolding row_of row_for find_in
returns-in-22 c = arm Ported 288080653451264 c.in-22.is refl

pub returns-in-23 : goal.returns-in-23
unfolding row_of row_for find_in
returns-in-23 c = arm Ported 288076442375188 c.in-23.is refl

pub returns-in-26 : goal.returns-in-26
unfolding row_of row_for find_in
returns-in-26 c = arm Ported 321066004381696 c.in-26.is refl

pub returns-in-28 : goal.returns-in-28
unfolding row_of row_for find_in
returns-in-28 c = arm Ported 288080653451264 c.in-28.is refl

pub returns-in-29 : goal.returns-in-29
unfolding row_of row_for find_in
returns-in-29 c = arm Ported 283682623455232 c.in-29.is refl

pub returns-in-30 : goal.returns-in-30
unfolding row_of row_for find_in
returns-in-30 c = arm Ported 289184764405252 c.in-30.is refl

pub returns-in-31 : goal.returns-in-31
unfolding row_of row_for find_in
returns-in-31 c = arm Ported 288084998761514 c.in-31.is refl

pub returns-in-32 : goal.returns-in-32
unfolding row_of row_for find_in
returns-in-32 c = arm Ported 288084981982724 c.in-32.is refl

pub returns-in-33 : goal.returns-in-33
unfolding row_of row_for find_in
returns-in-33 c = arm Ported 288080653451264 c.in-33.is refl

pub returns-in-34 : goal.returns-in-34
unfolding row_of row_for find_in
returns-in-34 c = arm Ported 282578884105236 c.in-34.is refl

pub returns-in-35 : goal.returns-in-35
unfolding row_of row_for find_in
returns-in-35 c = arm Ported 282578934444078 c.in-35.is refl

pub returns-in-36 : goal.returns-in-36
unfolding row_of row_for find_in
returns-in-36 c = arm Ported 281474979992596 c.in-36.is refl

pub returns-in-37 : goal.returns-in-37
unfolding row_of row_for find_in
returns-in-37 c = arm Ported 282583262967348 c.in-37.is refl

pub returns-in-38 : goal.returns-in-38
unfolding row_of row_for find_in
returns-in-38 c = arm Ported 322165517320192 c.in-38.is refl

pub returns-in-39 : goal.returns-in-39
unfolding row_of row_for find_in
returns-in-39 c = arm Ported 281474976781332 c.in-39.is refl

pub returns-in-40 : goal.returns-in-40
unfolding row_of row_for find_in
returns-in-40 c = arm Ported 293582543660548 c.in-40.is refl

pub returns-in-41 : goal.returns-in-41
unfolding row_of row_for find_in
returns-in-41 c = arm Ported 289180166258688 c.in-41.is refl

pub returns-in-42 : goal.returns-in-42
unfolding row_of row_for find_in
returns-in-42 c = arm Ported 281483835146240 c.in-42.is refl

pub returns-in-43 : goal.returns-in-43
unfolding row_of row_for find_in
returns-in-43 c = arm Ported 288080921886720 c.in-43.is refl

pub returns-in-44 : goal.returns-in-44
unfolding row_of row_for find_in
returns-in-44 c = arm Ported 281479506636860 c.in-44.is refl

pub returns-in-45 : goal.returns-in-45
unfolding row_of row_for find_in
returns-in-45 c = arm Ported 282583330062398 c.in-45.is refl

pub returns-in-46 : goal.returns-in-46
unfolding row_of row_for find_in
returns-in-46 c = arm Ported 281487949697552 c.in-46.is refl

pub returns-in-47 : goal.returns-in-47
unfolding row_of row_for find_in
returns-in-47 c = arm Ported 283678462723138 c.in-47.is refl

pub returns-in_default : goal.returns-in_default
unfolding row_of row_for find_in
returns-in_default c = none c.args.op (((((((((((((((((((((((((((((((((((((tt, λ e. omega arith), λ e. omega arith), λ e. omega arith), λ e. omega arith), λ e. omega arith), λ e. omega arith), λ e. omega arith), λ e. omega arith), λ e. omega arith), λ e. omega arith), λ e. omega arith), λ e. omega arith), λ e. omega arith), λ e. omega arith), λ e. omega arith), λ e. omega arith), λ e. omega arith), λ e. omega arith), λ e. omega arith), λ e. omega arith), λ e. omega arith), λ e. omega arith), λ e. omega arith), λ e. omega arith), λ e. omega arith), λ e. omega arith), λ e. omega arith), λ e. omega arith), λ e. omega arith), λ e. omega arith), λ e. omega arith), λ e. omega arith), λ e. omega arith), λ e. omega arith), λ e. omega arith), λ e. omega arith), λ e. omega arith)
