use Rattle.std.proofs.Common.{◌≡◌}
use Rattle.binds.specs.Cleared.{nulled}
use Rattle.binds.proofs.returning.null_in_turn.Given as goal

abbrev pub invariant-loop-slot : goal.invariant-loop-slot
invariant-loop-slot g l = g.X.Host.meaning l.host ≡ nulled (g.X.Host.meaning l.initial.host) l.yielded
