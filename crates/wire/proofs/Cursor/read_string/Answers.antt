-- `wire::Cursor::read_string` meets its contract.
use mathlib.Core.Path.{◌∙◌}
use Rattle.wire.proofs.Strings.{text_is}
use Rattle.wire.proofs.Cursor.read_string.Goals as goal

pub returns-clause-answer : goal.returns-clause-answer
returns-clause-answer c = c.string_at.ensures ∙ text_is c.args.s.now c.args.self.at
