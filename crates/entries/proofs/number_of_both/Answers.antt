-- `entries::number_of_both` meets its contract: the number is among the words, or in the bytes.
use native.Mathlib.Omega.{arith}
use mathlib.Core.Path.{◌∙◌}
use Rattle.entries.proofs.Numbers.{in_words, in_bytes_behind}
use Rattle.entries.proofs.number_of_both.Goals as goal

pub returns-then-k-words : goal.returns-then-k-words
returns-then-k-words c = search in_words

pub returns : goal.returns
returns c = c.number.ensures ∙ in_bytes_behind c.args.words.now c.args.bytes.now c.args.k (omega arith)
