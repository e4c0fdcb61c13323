use Rattle.std.proofs.Common.{◌-◌}
use Rattle.sheet.specs.Places.{Behind}
use Rattle.sheet.proofs.play.behind.Given as goal

abbrev pub invariant-loop : goal.invariant-loop
invariant-loop g l = (r : _) → Behind (λ s o. goal.F-post g l.read s o) l.rest (l.count - l.counter) r → Behind (λ s o. goal.F-post g l.read s o) l.bytes l.count r
