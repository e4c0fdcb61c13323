use Rattle.std.proofs.Common.{◌≡◌, ◌+◌, ◌≤◌, ◌++◌, length, drop}
use Rattle.values.specs.Few.{items}
use Rattle.binds.specs.Pairs.{total_room_bytes, leases_from}
use Rattle.binds.proofs.ledger.Ledger.enter_all.Given as goal

-- the leases so far, and those of the values that are left, as those of all of them
abbrev pub invariant-loop-value : goal.invariant-loop-value
invariant-loop-value l =
    (items l.self.leases ++ leases_from l.self.used (drop l.value-index l.value-items) ≡ leases_from 0 l.value-items)
    × (l.self.used + total_room_bytes (drop l.value-index l.value-items) ≡ total_room_bytes l.value-items)
    × (l.self.used ≤ l.room)
    × (length (items l.self.leases) ≤ l.value-index)
