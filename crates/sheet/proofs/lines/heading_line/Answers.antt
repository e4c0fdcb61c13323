use Rattle.sheet.proofs.Parts.{heading_second, heading_third}
use Rattle.sheet.proofs.lines.heading_line.Goals as goal

pub returns-in_err-parameters : goal.returns-in_err-parameters
returns-in_err-parameters c = rw c.from_residual-in_err-parameters.ensures (heading_second _ _ _ c.in_ok-columns.ensures c.in_err-parameters.ensures)

pub returns-in_err-copy_limit : goal.returns-in_err-copy_limit
returns-in_err-copy_limit c =
    rw c.from_residual-in_err-copy_limit.ensures
    (heading_third _ _ _ _ _ c.in_ok-columns.ensures c.in_ok-parameters.ensures c.in_err-copy_limit.ensures)
