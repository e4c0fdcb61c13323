use Rattle.std.proofs.Common.{◌≡◌, ◌∷◌, length, rules}
use Rattle.std.specs.Vec.Iter.{into_iter_items}
use Rattle.runs.proofs.Turned.{performing_more, performing_all}
use Rattle.runs.proofs.Laws.{kept_run, steps_law, buffers_law, copies_law}
use Rattle.runs.proofs.acts.perform_all.Goals as goal

pub loop-turn-preserved : goal.loop-turn-preserved
loop-turn-preserved g c =
    let before = c.loop-turn.invariant in
    let more : into_iter_items c.loop-turn.turn-iterator ≡ c.in-Some.turn ∷ into_iter_items c.next.new.self = search rules in
    let said = c.perform-reply.ensures in
    record {
      performing = performing_more {rs' = c.push_reserved.new.self.items} before.performing more said.answer said.after c.push_reserved.ensures.items;
      reserved = search rules;
    }

pub returns : goal.returns
returns g c =
    let none : length (into_iter_items c.loop-turn.turn-iterator) ≡ 0 = search rules in
    let answers = performing_all c.loop-turn.invariant.performing none in
    let kept = kept_run _ _ _ _ _ (g.met.X.Host.laws c.args.host) answers in
    record { answers = answers; steps = steps_law _ _ _ kept; buffers = buffers_law _ _ _ kept; copies = copies_law _ _ _ kept }
