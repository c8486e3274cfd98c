-- `views::extract_store_path` meets its contract: by its beginning, its length and its text.
use native.Mathlib.Omega.{arith}
use mathlib.Core.Path.{sym, ◌∙◌}
use Rattle.text.proofs.Meaning.{judged_is}
use Rattle.views.proofs.Laws.{too_short, in_directory, elsewhere}
use Rattle.views.proofs.extract_store_path.Goals as goal

pub returns-then-s-lt-SHORTEST_PATH : goal.returns-then-s-lt-SHORTEST_PATH
returns-then-s-lt-SHORTEST_PATH c = sym (too_short c.args.s.now (omega arith))

pub returns-then-in_store : goal.returns-then-in_store
returns-then-in_store c =
    let s = c.args.s.now in
    judged_is _ _ c.is_text.ensures ∙ sym (in_directory s (omega arith) (sym c.if-in_store.true ∙ c.in_store.ensures))

pub returns : goal.returns
returns c = sym (elsewhere c.args.s.now (sym c.if-in_store.false ∙ c.in_store.ensures))
