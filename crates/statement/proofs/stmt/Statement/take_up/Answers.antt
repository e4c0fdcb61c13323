use Rattle.std.proofs.Common.{arith}
use Rattle.std.proofs.lemmas.Grind.{common_steps}
use Rattle.std.proofs.lemmas.List.{take_all}
use Rattle.binds.proofs.Collect.{leases_count}
use Rattle.statement.proofs.Taken.{inside_parts, all_bound}
use Rattle.statement.proofs.stmt.Statement.take_up.Goals as goal

pub write_owned-requires-clause-inside : goal.write_owned-requires-clause-inside
write_owned-requires-clause-inside g c = grind (arith, inside_parts)

pub bind_values-requires-clause-borrowed : goal.bind_values-requires-clause-borrowed
bind_values-requires-clause-borrowed g c = grind (arith, inside_parts)

pub returns-clause-answer : goal.returns-clause-answer
returns-clause-answer g c = grind (arith, common_steps, leases_count)

pub returns-clause-after : goal.returns-clause-after
returns-clause-after g c = grind (arith, common_steps, all_bound, take_all)
