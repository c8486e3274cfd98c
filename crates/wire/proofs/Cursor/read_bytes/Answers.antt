-- `wire::Cursor::read_bytes` meets its contract.
use mathlib.Core.Path.{◌∙◌}
use Rattle.wire.proofs.Strings.{bytes_is}
use Rattle.wire.proofs.Cursor.read_bytes.Goals as goal

pub returns-clause-answer : goal.returns-clause-answer
returns-clause-answer c = c.string_at.ensures ∙ bytes_is c.args.s.now c.args.self.at
