use Rattle.std.proofs.lemmas.Option.{MatchOption-at_none, MatchOption-at_some}
use Rattle.std.proofs.Common.{sym, ◌∙◌}
use Rattle.sheet.proofs.Runs.{value_free}
use Rattle.sheet.proofs.Standing.{value_there}
use Rattle.sheet.proofs.play.value_at.Goals as goal

pub returns-in_err-behind : goal.returns-in_err-behind
returns-in_err-behind c = λ vs rest h g e.
    let x = value_there _ (λ b o p. p) c.args.i vs rest c.args.values.now c.behind.result h g e c.behind.ensures in
    absurd (MatchOption-at_none _ _ c.in_err-behind.was x)

pub returns-in_err-cell : goal.returns-in_err-cell
returns-in_err-cell c = λ vs rest h g e.
    let x = value_there _ (λ b o p. p) c.args.i vs rest c.args.values.now c.behind.result h g e c.behind.ensures in
    let y = MatchOption-at_some _ _ _ c.in_ok-behind.was x in
    absurd (c.in_err-cell.ensures _ y.rest y.good y.begins)

pub returns : goal.returns
returns c = λ vs rest h g e.
    let x = value_there _ (λ b o p. p) c.args.i vs rest c.args.values.now c.behind.result h g e c.behind.ensures in
    let y = MatchOption-at_some _ _ _ c.in_ok-behind.was x in
    let z = c.in_ok-cell.ensures in
    (value_free _ _ _ y.rest z.good y.good (sym z.begins ∙ y.begins)).0
