use Rattle.std.proofs.Common.{◌+◌, ◌≤◌, length, vec_items, vec_len, vec_capacity}
use Rattle.std.specs.Vec.Iter.{into_iter_items}
use Rattle.runs.specs.Turns.{at_of}
use Rattle.runs.proofs.Turned.{Performing}
use Rattle.runs.proofs.acts.perform_all.Given as goal

abbrev pub invariant-loop-turn : goal.invariant-loop-turn
invariant-loop-turn g l =
    let m = g.X.Host.meaning in
    record {
      performing : Performing (m l.fn.host) (vec_items l.fn.turns) (at_of m l.statement l.buffers) (into_iter_items l.turn-iterator) (vec_items l.answers);
      reserved : vec_len l.answers + length (into_iter_items l.turn-iterator) ≤ vec_capacity l.answers;
    }
