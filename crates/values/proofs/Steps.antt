-- What a table with a count holds, where its front is its items.
use Rattle.std.proofs.lemmas.Grind.{common_steps}
use Rattle.std.proofs.lemmas.List.{take-replicate, length-take-le}
use Rattle.std.proofs.Math.Seq.{take-set-lt}

pub ruleset table_steps = (common_steps, take-replicate, take-set-lt, length-take-le)
