use Rattle.std.proofs.Common.{◌-◌, None, Some, refl, arith}
use Rattle.sheet.proofs.Standing.{behind_step}
use Rattle.sheet.proofs.play.behind.Goals as goal

pub returns-in_err-rest : goal.returns-in_err-rest
returns-in_err-rest g c = let e = c.in_err-rest.ensures in c.loop.invariant _ (behind_step _ _ (c.args.count - c.loop.counter - 1) _ _ None (omega arith) refl e c.from_residual.ensures)

pub loop-preserved : goal.loop-preserved
loop-preserved g c = λ r h. let e = c.in_ok-rest.ensures in c.loop.invariant r (behind_step _ _ _ _ _ (Some (c.in_ok-rest.field-0-0, c.in_ok-rest.field-0-1)) (omega arith) refl e h)
