use mathlib.Core.Path.{refl}
use Rattle.walk_rooms.proofs.Laws.{few, flushing_start, flushing_on, flushing_end}
use Rattle.walk_rooms.proofs.put_window.Goals as goal

pub loop-i-init : goal.loop-i-init
loop-i-init g c = flushing_start _ _ _ _ _ _

pub loop-i-preserved : goal.loop-i-preserved
loop-i-preserved g c =
    flushing_on _ _ _ _ _ _ (few c.args.window.now _ _ c.min-i-end.ensures) _ _ _ c.loop-i.invariant c.loop-i-test.true _ _ refl refl _ _ c.put_entry-at.ensures

pub returns : goal.returns
returns g c =
    let e = c.min-i-end.ensures in
    rw (← e) (flushing_end _ _ _ _ _ _ (few c.args.window.now _ _ e) _ _ _ c.loop-i.invariant c.loop-i-test.false)
