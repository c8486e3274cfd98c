-- `walk_take::take_text` meets its contract: 3 before 4.
use mathlib.Core.Path.{refl}
use Rattle.walk_take.proofs.Pieces.{text_bad, text_passed_over, text_full, text_kept, passed_in, kept_in}
use Rattle.walk_take.proofs.take_text.Goals as goal

pub returns-then-to-start : goal.returns-then-to-start
returns-then-to-start c = record { law = λ r z. search text_bad; window = refl }

pub returns-then-role-lt-KEPT : goal.returns-then-role-lt-KEPT
returns-then-role-lt-KEPT c = record { law = λ r z. search text_passed_over; window = λ es. search passed_in }

pub returns-then-slots-n : goal.returns-then-slots-n
returns-then-slots-n c = record { law = λ r z. search text_full; window = refl }

pub returns : goal.returns
returns c = record { law = λ r z. search text_kept; window = λ es. search kept_in }
