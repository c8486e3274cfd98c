-- `views::feature` meets its contract: by the side.
use Rattle.views.proofs.feature.Goals as goal

pub returns-then-of_daemon : goal.returns-then-of_daemon
returns-then-of_daemon c = record { part = simp c.if-of_daemon.true c.entry.ensures.part; place = simp c.if-of_daemon.true c.entry.ensures.place }

pub returns-else-of_daemon : goal.returns-else-of_daemon
returns-else-of_daemon c = record { part = simp c.if-of_daemon.false c.entry-else-of_daemon.ensures.part; place = simp c.if-of_daemon.false c.entry-else-of_daemon.ensures.place }
