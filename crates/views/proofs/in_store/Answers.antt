-- `views::in_store` meets its contract: by the library's `starts_with`.
use borrow.Author.Rules.{rules}
use Rattle.views.proofs.in_store.Goals as goal

pub returns : goal.returns
returns c = search rules
