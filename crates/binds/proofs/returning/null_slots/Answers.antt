use Rattle.std.proofs.Common.{ap, ◌∙◌}
use Rattle.std.proofs.lemmas.Iterator.{YieldsList-from_slice}
use Rattle.std.proofs.lemmas.Iterator.Consumers.{YieldsList-from_copied}
use Rattle.binds.proofs.Steps.{nulled_drained}
use Rattle.binds.proofs.returning.null_slots.Goals as goal

pub returns : goal.returns
returns g c =
    nulled_drained _ _ c.null_in_turn.ensures
    (YieldsList-from_copied (YieldsList-from_slice c.args.slots.now (ap (λ i. i.rest.now) c.copied.ensures.source ∙ c.iter.ensures.rest)))
