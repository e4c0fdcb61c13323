use Rattle.calls.specs.Binds.{ValuesRead}
use Rattle.calls.proofs.bundle.Values.read.Given as goal

abbrev pub invariant-loop : goal.invariant-loop
invariant-loop l = ValuesRead l.s l.counter l.values l.rest
