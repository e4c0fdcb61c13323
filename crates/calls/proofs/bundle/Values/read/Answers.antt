use Rattle.std.proofs.Common.{◌≡◌, arith, rules}
use Rattle.calls.specs.Faults.{Because}
use Rattle.calls.specs.Binds.{NoLines}
use Rattle.calls.proofs.Taking.{because, values_none, values_more, values_stuck}
use Rattle.calls.proofs.bundle.Values.read.Goals as goal

pub loop-init : goal.loop-init
loop-init c = values_none _ _ c.new-values.ensures

pub returns-in_err-rest : goal.returns-in_err-rest
returns-in_err-rest c =
    let fault = c.in_err-rest.field-0.0 in
    let told : Because (NoLines c.args.s.now c.args.count) fault =
    because fault (values_stuck _ _ _ _ _ c.loop.invariant (omega arith)) c.in_err-rest.ensures in
    search rules

pub loop-preserved : goal.loop-preserved
loop-preserved c = values_more _ _ _ _ _ _ c.loop.invariant c.in_ok-rest.ensures

pub returns : goal.returns
returns c = let all : c.loop.counter ≡ c.args.count = omega arith in rw all at c.loop.invariant
