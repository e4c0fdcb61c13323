use Rattle.std.proofs.Common.{length, vec_items}
use Rattle.calls.proofs.Calling.{Reading}
use Rattle.calls.proofs.turns.read_calls.Given as goal

abbrev pub invariant-loop-heap : goal.invariant-loop-heap
invariant-loop-heap l = Reading (vec_items l.fn.room) l.bytes l.rest (vec_items l.turns) l.room

abbrev pub decreases-loop-heap : goal.decreases-loop-heap
decreases-loop-heap l = length l.rest
