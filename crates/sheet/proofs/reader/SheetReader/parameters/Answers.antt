use Rattle.std.proofs.Common.{[], refl, arith}
use Rattle.sheet.proofs.Moves.{columns_more}
use Rattle.sheet.proofs.reader.SheetReader.parameters.Goals as goal

pub loop-init : goal.loop-init
loop-init c =
    record { walked = record { block = record { items = []; many = refl; good = tt; begins = refl }; line = omega arith }; told = refl }

pub loop-preserved : goal.loop-preserved
loop-preserved c = columns_more c.loop.invariant c.in_ok-table.ensures.read

pub returns-clause-read : goal.returns-clause-read
returns-clause-read c =
    let b = c.loop.invariant.walked.block in
    (record { items = b.items; many = omega arith; good = b.good; begins = b.begins }, c.loop.invariant.told, omega arith)
