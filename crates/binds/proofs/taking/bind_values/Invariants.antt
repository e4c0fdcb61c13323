use Rattle.std.proofs.Common.{◌≡◌, ◌+◌, ◌≤◌, length, take, drop}
use Rattle.values.specs.Few.{items}
use Rattle.binds.specs.Pairs.{total_room_bytes, byte_slots}
use Rattle.binds.specs.Tried.{bind_from}
use Rattle.binds.proofs.taking.bind_values.Given as goal

-- binding the values that are left, as binding all of them
abbrev pub invariant-loop-i : goal.invariant-loop-i
invariant-loop-i g l =
    (bind_from (g.X.Host.meaning l.host) l.i-counter l.at (drop l.i-counter l.pair-items) ≡ bind_from (g.X.Host.meaning l.initial.host) 0 0 l.pair-items)
    × (items l.took ≡ byte_slots 1 (take l.i-counter l.pair-items))
    × (l.at + total_room_bytes (drop l.i-counter l.pair-items) ≤ length l.room)
