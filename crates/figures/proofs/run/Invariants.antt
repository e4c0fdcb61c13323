use Rattle.std.proofs.Common.{◌≡◌, ℕ, ◌<◌, ◌≤◌, get_or, take}
use Rattle.std.specs.Int.{IsInRange}
use Rattle.figures.specs.Figures.{read_on}
use Rattle.figures.proofs.run.Given as goal

abbrev pub invariant-loop-i : goal.invariant-loop-i
invariant-loop-i l = (l.i ≤ 20) × ((k : ℕ) → k < l.i → IsInRange 48 57 (get_or l.s k 0)) × (l.n ≡ read_on 0 (take l.i l.s))
