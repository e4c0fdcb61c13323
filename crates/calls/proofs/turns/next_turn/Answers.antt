use Rattle.std.proofs.Common.{rules}
use Rattle.figures.specs.Reading.{Lacks}
use Rattle.calls.specs.Faults.{Because}
use Rattle.calls.specs.Calls.{call_lines, GoodCall}
use Rattle.calls.proofs.Taking.{reason, because}
use Rattle.calls.proofs.Calling.{call_none, call_short, bind_read}
use Rattle.calls.proofs.turns.next_turn.Goals as goal

pub returns-in_err-query : goal.returns-in_err-query
returns-in_err-query c =
    let fault = c.in_err-query.field-0.0 in
    let unread = rw c.in_err-query.ensures.ok_part at c.bind_line.ensures in
    let none = call_none _ c.in_default.ensures c.in_default-lettered.ensures unread in
    let told : Because (Lacks call_lines GoodCall c.args.s.now) fault = reason fault none in
    search rules

pub returns-in_err-values : goal.returns-in_err-values
returns-in_err-values c =
    let fault = c.in_err-values.field-0.0 in
    let read = rw c.in_ok-query.ensures.ok_part at c.bind_line.ensures in
    let told : Because (Lacks call_lines GoodCall c.args.s.now) fault =
    because fault (call_short _ _ _ _ read) c.in_err-values.ensures in
    search rules

pub returns : goal.returns
returns c =
    let read = rw c.in_ok-query.ensures.ok_part at c.bind_line.ensures in
    bind_read _ _ _ _ _ _ _ read c.in_ok-values.ensures c.turn.ensures
