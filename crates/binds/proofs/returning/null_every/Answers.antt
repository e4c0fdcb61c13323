use Rattle.std.proofs.Common.{◌+◌, arith, refl}
use Rattle.std.proofs.lemmas.Iterator.{YieldsList-from_range}
use Rattle.binds.specs.Cleared.{count_up}
use Rattle.binds.proofs.Steps.{nulled_drained}
use Rattle.binds.proofs.returning.null_every.Goals as goal

pub returns : goal.returns
unfolding count_up
returns g c =
    nulled_drained _ _ c.null_in_turn.ensures
    (YieldsList-from_range 1 (c.parameter_count-n.result + 1) (g.X.Host.meaning c.args.host.now).params refl (omega arith))
