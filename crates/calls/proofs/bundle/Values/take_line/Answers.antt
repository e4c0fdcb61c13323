use Rattle.std.proofs.Common.{List, vec_items, ap, subst, ◌∙◌, rules}
use Rattle.binds.specs.Pairs.{Pair}
use Rattle.figures.specs.Reading.{Lacks}
use Rattle.calls.specs.Items.{rendered_item}
use Rattle.calls.specs.Faults.{Because}
use Rattle.calls.specs.Binds.{bundle, Roomy, GoodNext, with_pair}
use Rattle.calls.proofs.Taking.{because, line_full, line_taken}
use Rattle.calls.proofs.bundle.Values.take_line.Goals as goal

pub returns-in_err-value : goal.returns-in_err-value
returns-in_err-value c =
    let fault = c.in_err-value.field-0.0 in
    let read = rw c.in_ok-item.ensures.ok_part at c.item_line.ensures in
    let told : Because (Lacks rendered_item (GoodNext c.args.self.now) c.args.s.now) fault =
    because fault (line_full _ _ _ _ read) c.in_err-value.ensures in
    search rules

pub returns : goal.returns
returns c =
    let inside = c.self.inside in
    let read = rw c.in_ok-item.ensures.ok_part at c.item_line.ensures in
    let room = subst Roomy c.self.view_is c.self.invariant in
    let more = λ (ps : List Pair). bundle ps (vec_items inside.text) (vec_items inside.given) in
    let pushed = ap more c.in_ok-push.ensures.items in
    let after = ap (with_pair (c.in_ok-item.item.tpe, c.in_ok-value.value)) c.self.view_is in
    line_taken _ _ _ _ _ _ _ read c.in_ok-value.ensures room (pushed ∙ after)
