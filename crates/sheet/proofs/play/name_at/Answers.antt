use Rattle.std.proofs.lemmas.Option.{MatchOption-at_none, MatchOption-at_some}
use Rattle.std.proofs.Common.{sym, ◌∙◌}
use Rattle.sheet.proofs.Runs.{name_free}
use Rattle.sheet.proofs.Standing.{name_there}
use Rattle.sheet.proofs.play.name_at.Goals as goal

pub returns-in_err-behind : goal.returns-in_err-behind
returns-in_err-behind c = λ ns rest h g e.
    let x = name_there _ (λ b o p. p) c.args.i ns rest c.args.names.now c.behind.result h g e c.behind.ensures in
    absurd (MatchOption-at_none _ _ c.in_err-behind.was x)

pub returns-in_err-name : goal.returns-in_err-name
returns-in_err-name c = λ ns rest h g e.
    let x = name_there _ (λ b o p. p) c.args.i ns rest c.args.names.now c.behind.result h g e c.behind.ensures in
    let y = MatchOption-at_some _ _ _ c.in_ok-behind.was x in
    absurd (c.in_err-name.ensures _ y.rest y.good y.begins)

pub returns : goal.returns
returns c = λ ns rest h g e.
    let x = name_there _ (λ b o p. p) c.args.i ns rest c.args.names.now c.behind.result h g e c.behind.ensures in
    let y = MatchOption-at_some _ _ _ c.in_ok-behind.was x in
    let z = c.in_ok-name.ensures in
    (name_free _ _ _ y.rest z.good y.good (sym z.begins ∙ y.begins)).0
