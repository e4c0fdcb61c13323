use Rattle.std.proofs.Common.{◌≡◌, ◌+◌, ◌++◌, take, drop}
use Rattle.binds.specs.Pairs.{total_room_bytes, owned_bytes}
use Rattle.binds.proofs.taking.write_owned.Given as goal

-- what is written, and the bytes of the values that are left, as the bytes of all of them
abbrev pub invariant-loop-value : goal.invariant-loop-value
invariant-loop-value l =
    (take l.at l.room ++ owned_bytes l.given (drop l.value-index l.pairs) ≡ owned_bytes l.given l.pairs)
    × (drop l.at l.room ≡ drop l.at l.initial.room)
    × (l.at + total_room_bytes (drop l.value-index l.pairs) ≡ total_room_bytes l.pairs)
