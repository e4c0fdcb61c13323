use Rattle.std.proofs.Common.{◌≡◌, take}
use Rattle.binds.specs.Leases.{zeroed}
use Rattle.binds.proofs.returning.zero_leases.Given as goal

abbrev pub invariant-loop-lease : goal.invariant-loop-lease
invariant-loop-lease l = l.room ≡ zeroed (take l.lease-index l.leases) l.initial.room
