use Rattle.std.proofs.Common.{arith, append_assoc, append-nil}
use Rattle.std.proofs.lemmas.Grind.{common_steps}
use Rattle.binds.proofs.Collect.{leases_next, leases_done, one_lease}
use Rattle.binds.proofs.ledger.Ledger.enter_all.Goals as goal

pub loop-value-preserved : goal.loop-value-preserved
loop-value-preserved c = grind (arith, common_steps, leases_next, one_lease, append_assoc)

pub returns-clause-leases : goal.returns-clause-leases
returns-clause-leases c = grind (arith, common_steps, leases_done, append-nil)
