use Rattle.std.proofs.Common.{◌≡◌, map, take}
use Rattle.calls.specs.Calls.{letter_of_call}
use Rattle.calls.proofs.turns.Calls.letters.Given as goal

-- the letters of the turns so far
abbrev pub invariant-loop-turn : goal.invariant-loop-turn
invariant-loop-turn l = l.letters.items ≡ map (λ t. letter_of_call t.call) (take l.turn-index l.turn-items)
