use Rattle.std.proofs.Common.{[], refl, arith, rules}
use Rattle.sheet.proofs.Ends.{end_behind, end_of_end}
use Rattle.sheet.proofs.Moves.{going_row, going_head, going_stuck, going_short}
use Rattle.sheet.proofs.reader.SheetReader.outcomes.Goals as goal

pub loop-self-init : goal.loop-self-init
loop-self-init c =
    record { read = record { items = []; good = tt; suits = tt; begins = refl }; line = omega arith }

pub returns-in_err-outcome-clause-read : goal.returns-in_err-outcome-clause-read
returns-in_err-outcome-clause-read c =
    let b = going_stuck c.loop-self.invariant c.in_err-outcome.ensures.read in search rules

pub returns-in_err-outcome-clause-same : goal.returns-in_err-outcome-clause-same
returns-in_err-outcome-clause-same c =
    end_of_end _ _ _ (end_behind _ _ _ c.loop-self.invariant.read.begins) c.in_err-outcome.ensures.same

pub loop-self-preserved-in-Continue-branch-3 : goal.loop-self-preserved-in-Continue-branch-3
loop-self-preserved-in-Continue-branch-3 c =
    going_row c.loop-self.invariant c.in_ok-outcome.ensures.read c.in-Row.is c.in_ok-row-in-Row.ensures.read

pub returns-in_err-row-in-Row-clause-read : goal.returns-in_err-row-in-Row-clause-read
returns-in_err-row-in-Row-clause-read c =
    let row = c.in_err-row-in-Row.ensures.read in
    let b = going_short c.loop-self.invariant c.in_ok-outcome.ensures.read c.in-Row.is row in
    search rules

pub returns-in_err-row-in-Row-clause-same : goal.returns-in_err-row-in-Row-clause-same
returns-in_err-row-in-Row-clause-same c =
    let row = end_of_end _ _ _ c.in_ok-outcome.ensures.same c.in_err-row-in-Row.ensures.same in
    end_of_end _ _ _ (end_behind _ _ _ c.loop-self.invariant.read.begins) row

pub loop-self-preserved : goal.loop-self-preserved
loop-self-preserved c = going_head c.loop-self.invariant c.in_ok-outcome.ensures.read c.in-Done.is
