-- A room whose leases are zeroed.
use Rattle.std.specs.Prelude.{ℕ, cond, List, [], ◌∷◌, length, replicate}
use Rattle.std.proofs.Math.Seq.{paste}
use Rattle.binds.specs.declared.collector.Span.{Span}
use Rattle.binds.specs.Pairs.{span_inside}

-- A room with zeros in one stretch.
abbrev pub zeroed_span : Span → List ℕ → List ℕ
zeroed_span s room = cond (span_inside (length room) s) (paste room s.start (replicate s.len 0) s.len) room

-- A room with zeros in each of the leases.
unfoldable pub zeroed : List Span → List ℕ → List ℕ
zeroed [] room = room
zeroed (s ∷ ss) room = zeroed ss (zeroed_span s room)
