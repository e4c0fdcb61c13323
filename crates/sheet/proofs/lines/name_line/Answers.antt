use Rattle.std.proofs.lemmas.Bool.{iff_false}
use Rattle.sheet.proofs.Parts.{name_other}
use Rattle.sheet.proofs.lines.name_line.Goals as goal

pub returns-then-not-graphic : goal.returns-then-not-graphic
returns-then-not-graphic c = name_other _ _ _ _ c.in_ok-lettered.ensures c.in_ok-name.ensures (iff_false c.graphic.ensures c.if-not-graphic.true)
