use Rattle.std.proofs.Common.{ap, arith}
use Rattle.script.proofs.Played.{goes_on, starts_over, fewer}
use Rattle.script.proofs.player.ScriptHost.advance.Goals as goal

pub overflow_add-result : goal.overflow_add-result
overflow_add-result c =
    let h = c.args.self.now in
    let w = goes_on _ _ _ _ _ h.sheet.good (ap (λ z. z.columns) h.sheet.headed) h.stands c.in-Some.played c.in-Some.ensures in
    omega (arith, w.more, fewer _ _ _ h.sheet.stands)

pub returns-in-Some : goal.returns-in-Some
returns-in-Some c =
    let h = c.args.self.now in
    (goes_on _ _ _ _ _ h.sheet.good (ap (λ z. z.columns) h.sheet.headed) h.stands _ c.in-Some.ensures).advanced

pub returns-in-None : goal.returns-in-None
returns-in-None c =
    let h = c.args.self.now in
    starts_over _ _ _ _ _ h.sheet.good (ap (λ z. z.columns) h.sheet.headed) h.stands _ c.in-None.ensures h.begins
