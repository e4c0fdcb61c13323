-- Why no turn could be read.
use Rattle.calls.specs.declared.fault.CallFault.{CallFault}
use Rattle.calls.specs.declared.fault.CallFault.TheVariants.{Malformed, Memory}

-- A fault for which there is a reason in the bytes, if it is not for memory.
abbrev pub Because : Type 0 → CallFault → Type 0
Because P Malformed = P
Because P (Memory e) = Unit {0}
