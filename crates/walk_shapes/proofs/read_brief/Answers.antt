-- `walk_shapes::read_brief` meets its contract: nothing, a number, or neither.
use borrow.Author.Rules.{rules}
use Rattle.walk_read.proofs.Filled.{brief_is}
use Rattle.walk_shapes.proofs.Brief.{nothing_there, number_there}
use Rattle.walk_shapes.proofs.read_brief.Goals as goal

pub read_nothing-requires : goal.read_nothing-requires
read_nothing-requires c = (search brief_is, search rules)

pub returns-then-code-lt-FIRST_CODE : goal.returns-then-code-lt-FIRST_CODE
returns-then-code-lt-FIRST_CODE c =
    (c.read_nothing.ensures _, nothing_there _ c.args.code (brief_is _ _ _ c.in_brief-b.ensures.law c.in-Nothing.is) _)

pub read_number-requires : goal.read_number-requires
read_number-requires c = (search brief_is, search rules)

pub returns-then-code-lt-FIRST_CODE-2 : goal.returns-then-code-lt-FIRST_CODE-2
returns-then-code-lt-FIRST_CODE-2 c =
    (c.read_number.ensures, number_there _ c.args.code (brief_is _ _ _ c.in_brief-b.ensures.law c.in-Number.is) _)

pub returns-then-code-lt-FIRST_CODE-3 : goal.returns-then-code-lt-FIRST_CODE-3
returns-then-code-lt-FIRST_CODE-3 c =
    (brief_is _ _ _ c.in_brief-b.ensures.law c.in-Text.is, search rules)
