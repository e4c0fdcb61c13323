use Rattle.std.proofs.Common.{length, ap, ◌∙◌, arith}
use Rattle.std.proofs.lemmas.List.{take_rest, length-drop}
use Rattle.figures.proofs.Steps.{no_figure, behind, stop_low}
use Rattle.figures.proofs.figure.Goals as goal

pub returns-then-i-eq0 : goal.returns-then-i-eq0
returns-then-i-eq0 c = no_figure _ _ _ _ _ (stop_low c.args.stop) c.ranges.most.fits c.run-n.ensures (λ m f h. omega arith)

pub returns-then-n-from : goal.returns-then-n-from
returns-then-n-from c = no_figure _ _ _ _ _ (stop_low c.args.stop) c.ranges.most.fits c.run-n.ensures (λ m f h. omega arith)

pub returns-then-s-eq48 : goal.returns-then-s-eq48
returns-then-s-eq48 c = no_figure _ _ _ _ _ (stop_low c.args.stop) c.ranges.most.fits c.run-n.ensures (λ m f h. omega (arith, f.plain (omega arith)))

pub returns-in_default : goal.returns-in_default
returns-in_default c =
    let l = ap length (take_rest c.args.s.now c.run-n.result.1) ∙ length-drop c.run-n.result.1 c.args.s.now in
    no_figure _ _ _ _ _ (stop_low c.args.stop) c.ranges.most.fits c.run-n.ensures (λ m f h. omega arith)

pub returns-then-b-byte : goal.returns-then-b-byte
returns-then-b-byte c =
    let g = behind c.args.s.now c.run-n.result.1 in
    no_figure _ _ _ _ _ (stop_low c.args.stop) c.ranges.most.fits c.run-n.ensures (λ m f h. omega arith)
