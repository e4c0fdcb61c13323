use Rattle.sheet.specs.Sheet.{rendered_value, GoodValue}
use Rattle.sheet.proofs.Moves.{Walked}
use Rattle.sheet.proofs.reader.SheetReader.row.Given as goal

abbrev pub invariant-loop : goal.invariant-loop
invariant-loop l =
    Walked rendered_value GoodValue l.initial.self.rest.now l.initial.self.line l.counter l.self.rest.now l.self.line
