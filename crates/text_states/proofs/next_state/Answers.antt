-- `text_states::next_state` meets its contract: a shift is a division, a mask of six bits a remainder.
use borrow.Author.Rules.{rules}
use Rattle.text_states.proofs.Rows.{shift, masked}
use Rattle.text_states.proofs.next_state.Goals as goal

pub overflow_shr-result : goal.overflow_shr-result
overflow_shr-result c = search (rules, shift)

pub returns : goal.returns
returns c = search masked
