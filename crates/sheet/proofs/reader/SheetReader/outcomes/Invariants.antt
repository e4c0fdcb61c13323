use Rattle.std.proofs.Common.{length}
use Rattle.sheet.proofs.Moves.{Going}
use Rattle.sheet.proofs.reader.SheetReader.outcomes.Given as goal

abbrev pub invariant-loop-self : goal.invariant-loop-self
invariant-loop-self l =
    Going l.initial.self.rest.now l.columns l.table l.initial.self.line l.self.rest.now l.self.line

abbrev pub decreases-loop-self : goal.decreases-loop-self
decreases-loop-self l = length l.self.rest.now
