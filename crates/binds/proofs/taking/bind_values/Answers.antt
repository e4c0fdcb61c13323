use Rattle.std.proofs.Common.{◌≡◌, arith, rules}
use Rattle.std.proofs.lemmas.Result.{err_from_is_err_and}
use Rattle.values.specs.Few.{items}
use Rattle.binds.specs.Tried.{refusal_at}
use Rattle.std.proofs.lemmas.Grind.{common_steps}
use Rattle.binds.proofs.Collect.{slots_none, slots_next, slots_room, bind_next, bind_done, why_is_none, err_of_map, bind_stops, stopped}
use Rattle.binds.proofs.taking.bind_values.Goals as goal

pub loop-i-init : goal.loop-i-init
loop-i-init g c = grind (arith, common_steps, slots_none)

pub note-requires : goal.note-requires
note-requires g c = grind (arith, common_steps, slots_room)

pub loop-i-preserved : goal.loop-i-preserved
loop-i-preserved g c = grind (arith, common_steps, slots_next, bind_next, why_is_none)

pub returns-in_err-map_err : goal.returns-in_err-map_err
returns-in_err-map_err g c =
    let m = g.X.Host.meaning in
    let ps = c.as_slice-pair-items.result.now in
    let q = err_of_map c.bind_one.result c.map_err.result c.in_err-map_err.field-0.0 _ c.map_err.ensures.cases c.in_err-map_err.was in
    let s = bind_stops (m c.loop-i.host) (m c.bind_one.new.host) c.loop-i.i-counter c.loop-i.at ps q.0 c.bind_one.result c.loop-i-test.true q.1 c.bind_one.ensures.answer c.bind_one.ensures.after in
    let z : c.in_err-map_err.field-0.0 ≡ refusal_at c.loop-i.i-counter q.0 = search rules in
    let p = err_from_is_err_and c.from_residual.result c.from_residual.ensures.1 in
    let x = stopped (m c.args.host.now) (m c.bind_one.new.host) c.loop-i.i-counter c.args.pairs.now ps q.0 c.in_err-map_err.field-0.0 p.0 c.from_residual.result (items c.loop-i.took) _ c.as_slice-pair-items.ensures.value c.loop-i.invariant.0 s z p.1 p.2 c.loop-i.invariant.1 in
    record { answer = x.0; after = x.1; took = x.2 }

pub returns-clause-answer : goal.returns-clause-answer
returns-clause-answer g c = grind (arith, common_steps, bind_done)

pub returns-clause-after : goal.returns-clause-after
returns-clause-after g c = grind (arith, common_steps, bind_done)

pub returns-clause-took : goal.returns-clause-took
returns-clause-took g c = grind (arith, common_steps, bind_done)
