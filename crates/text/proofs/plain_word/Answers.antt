-- `text::plain_word` meets its contract, by one law for each byte more in the word.
use Rattle.text.proofs.Word.{word}
use Rattle.text.proofs.plain_word.Goals as goal

pub returns : goal.returns
returns c = search word
