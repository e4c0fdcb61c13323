use Rattle.std.proofs.Common.{◌^◌, drop, sym, ◌∙◌, arith}
use Rattle.std.proofs.lemmas.List.{take_rest}
use Rattle.figures.specs.Figures.{stop_byte, NoFigure, Figured}
use Rattle.figures.proofs.Steps.{figure_free, no_minus, stop_low}
use Rattle.figures.proofs.number.Goals as goal

pub returns-in_err-m : goal.returns-in_err-m
returns-in_err-m c =
    let s = c.args.s.now in
    let n : NoFigure (stop_byte c.args.stop) (2 ^ 63) (drop 1 s) = rw (take_rest s 1) at c.in_err-m.ensures in
    rw c.from_residual.ensures (no_minus s (stop_byte c.args.stop) (omega arith) (λ m rest some fits e. n m rest fits e))

pub returns-then-m-eq0 : goal.returns-then-m-eq0
returns-then-m-eq0 c =
    let s = c.args.s.now in
    let stop = stop_byte c.args.stop in
    let low = stop_low c.args.stop in
    let f : Figured stop (2 ^ 63) (drop 1 s) c.in_ok-m.m c.in_ok-m.rest.now = rw (take_rest s 1) at c.in_ok-m.ensures in
    no_minus s stop (omega arith) (λ m rest some fits e. omega (arith, (figure_free c.in_ok-m.m m stop stop c.in_ok-m.rest.now rest (omega arith) (omega arith) low low (sym f.begins ∙ e)).figures))
