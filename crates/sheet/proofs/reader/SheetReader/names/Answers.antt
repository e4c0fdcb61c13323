use Rattle.sheet.proofs.Moves.{walked_more}
use Rattle.sheet.proofs.reader.SheetReader.names.Goals as goal

pub loop-preserved : goal.loop-preserved
loop-preserved c = walked_more c.loop.invariant c.in_ok-name.ensures.read
