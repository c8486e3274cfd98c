-- `views::feature_fault` meets its contract: by the side.
use Rattle.views.proofs.feature_fault.Goals as goal

pub returns-then-of_daemon : goal.returns-then-of_daemon
returns-then-of_daemon c = simp c.if-of_daemon.true c.entry_fault.ensures

pub returns-else-of_daemon : goal.returns-else-of_daemon
returns-else-of_daemon c = simp c.if-of_daemon.false c.entry_fault-else-of_daemon.ensures
