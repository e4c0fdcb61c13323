use Rattle.sheet.proofs.Moves.{Columns}
use Rattle.sheet.proofs.reader.SheetReader.parameters.Given as goal

abbrev pub invariant-loop : goal.invariant-loop
invariant-loop l =
    Columns l.columns l.initial.self.rest.now l.initial.self.line l.counter l.self.rest.now l.self.line l.table
