-- `walk_fill::fill_text` meets its contract: there with contents and padding, or not.
use Rattle.walk_fill.proofs.Pieces.{contents_there, contents_past, text_listed, text_past}
use Rattle.walk_fill.proofs.fill_text.Goals as goal

pub returns-then-has_contents-clause-law : goal.returns-then-has_contents-clause-law
returns-then-has_contents-clause-law g c =
    text_listed _ _ _ _ c.requires.1 c.args.role _ _ g.met.T.Room.joined (contents_there c.args.s.now _ _ _ c.has_contents.ensures c.if-has_contents.true) _ c.padding.ensures.0 _ _
    c.put_kept.ensures

pub returns-clause-law : goal.returns-clause-law
returns-clause-law g c = text_past _ _ _ _ c.requires.1 c.args.role _ _ (contents_past c.args.s.now _ _ _ c.has_contents.ensures c.if-has_contents.false)
