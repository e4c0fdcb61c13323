use Rattle.std.proofs.Common.{◌≡◌, length, ◌∙◌, arith, rules}
use Rattle.std.proofs.lemmas.List.{take_at}
use Rattle.runs.specs.Turns.{at_of, desk, lent_at}
use Rattle.runs.proofs.Turned.{turn_parts}
use Rattle.runs.proofs.acts.perform.Goals as goal

pub returns-clause-after : goal.returns-clause-after
returns-clause-after g c =
    let call = c.make_call-reply in
    let before = at_of g.X.Host.meaning c.args.statement.now c.args.buffers in
    let lent : desk c.as_slice.result.now c.as_slice-2.result.now c.as_mut_slice.result.now ≡ lent_at c.args.turn before.desk = search rules in
    let size : length call.new.room ≡ c.unwrap_or-room.result.len = omega (arith, c.as_mut_slice.ensures.len, call.auto.room) in
    turn_parts before c.args.turn _ _ _ _ _ _ lent call.ensures.answer call.ensures.after c.text_after-text.ensures (search rules) (take_at _ _ _ size ∙ call.ensures.room)
