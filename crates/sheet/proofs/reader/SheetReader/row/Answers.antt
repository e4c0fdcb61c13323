use Rattle.sheet.proofs.Moves.{walked_more}
use Rattle.sheet.proofs.reader.SheetReader.row.Goals as goal

pub loop-preserved : goal.loop-preserved
loop-preserved c = walked_more c.loop.invariant c.in_ok-value.ensures.read
