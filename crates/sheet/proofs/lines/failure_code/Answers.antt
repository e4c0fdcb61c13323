use Rattle.std.proofs.lemmas.Bool.{iff_false}
use Rattle.sheet.proofs.Parts.{code_other}
use Rattle.sheet.proofs.lines.failure_code.Goals as goal

pub returns-then-not-allowed : goal.returns-then-not-allowed
returns-then-not-allowed c = code_other _ _ _ c.in_ok-code.ensures (iff_false c.allowed.ensures c.if-not-allowed.true)
