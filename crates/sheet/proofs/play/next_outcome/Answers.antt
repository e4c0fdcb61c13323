use Rattle.std.proofs.Common.{rules}
use Rattle.std.proofs.lemmas.Option.{MatchOption-at_none, MatchOption-at_some}
use Rattle.sheet.proofs.Standing.{never_lacks, plays_done, plays_failed, plays_row}
use Rattle.sheet.proofs.play.next_outcome.Goals.{in-Row+in_ok-behind-in-Row, in-Done, in-Failed}
use Rattle.sheet.proofs.play.next_outcome.Goals as goal

pub returns-in_err-head : goal.returns-in_err-head
returns-in_err-head c = λ os x. absurd (never_lacks os x c.in_err-head.ensures)

pub returns-in_err-behind-in-Row : goal.returns-in_err-behind-in-Row
returns-in_err-behind-in-Row c = λ os x.
    absurd (MatchOption-at_none _ _ c.in_err-behind-in-Row.was (plays_row os x _ c.in_ok-head.rest c.in_ok-head.ensures c.in-Row.is _ (λ b o p. p) c.behind.result c.behind.ensures))

pub returns : goal.returns
returns c = λ os x.
    elim c.match-head.branch [
      | in-Row+in_ok-behind-in-Row w ↦ let p = MatchOption-at_some _ _ _ w.in_ok-behind-in-Row.was (plays_row os x _ c.in_ok-head.rest c.in_ok-head.ensures w.in-Row.is _ (λ b o p. p) w.behind.result w.behind.ensures) in search rules
      | in-Done w ↦ let p = plays_done os x _ c.in_ok-head.rest c.in_ok-head.ensures w.in-Done.is in search rules
      | in-Failed w ↦ let p = plays_failed os x _ c.in_ok-head.rest c.in_ok-head.ensures _ w.in-Failed.is in search rules
    ]
