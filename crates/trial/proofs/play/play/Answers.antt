use Rattle.std.proofs.Common.{length, ap, arith, length-take}
use Rattle.trial.proofs.play.play.Goals as goal

pub slice_bounds-read_calls-count : goal.slice_bounds-read_calls-count
slice_bounds-read_calls-count c =
    let e = ap length c.in-Ok.ensures.0 in
    let t = length-take 65536 c.args.input.now in
    omega arith

pub slice_bounds-read_calls-start : goal.slice_bounds-read_calls-start
slice_bounds-read_calls-start c =
    let e = ap length c.in-Ok.ensures.0 in
    let t = length-take 65536 c.args.input.now in
    omega arith
