-- `walk_strings::is_expected` meets its contract: what is as long as expected is whole where the stream has so many bytes.
use Rattle.walk_strings.proofs.Series.{expected}
use Rattle.walk_strings.proofs.is_expected.Goals as goal

pub returns-in-Some : goal.returns-in-Some
returns-in-Some c =
    expected c.args.s.now _ _ _ c.number_at.ensures c.in-Some.is _ _ c.requires c.if-step-lt-LONG.false c.if-s-at-2.false
