use Rattle.sheet.specs.Sheet.{rendered_name, GoodName}
use Rattle.sheet.proofs.Moves.{Walked}
use Rattle.sheet.proofs.reader.SheetReader.names.Given as goal

abbrev pub invariant-loop : goal.invariant-loop
invariant-loop l =
    Walked rendered_name GoodName l.initial.self.rest.now l.initial.self.line l.counter l.self.rest.now l.self.line
