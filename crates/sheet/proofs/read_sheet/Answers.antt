use Rattle.std.proofs.Common.{◌∙◌, rules}
use Rattle.sheet.proofs.Reached.{reached_start, heading_refused, names_refused, all_names, params_refused, all_params, outcomes_refused, accepted, kept}
use Rattle.sheet.proofs.read_sheet.Goals as goal

pub returns-in_err-heading : goal.returns-in_err-heading
returns-in_err-heading c =
    let new = c.new-reader.ensures in
    let r = heading_refused (new.rest ∙ c.front-bytes.ensures) new.line c.in_err-heading.ensures.read in
    search rules

pub returns-in_err-names : goal.returns-in_err-names
returns-in_err-names c =
    let new = c.new-reader.ensures in
    let h = reached_start (new.rest ∙ c.front-bytes.ensures) new.line c.in_ok-heading.ensures.read in
    let r = names_refused h c.in_err-names.ensures.read in
    search rules

pub returns-in_err-table : goal.returns-in_err-table
returns-in_err-table c =
    let new = c.new-reader.ensures in
    let h = reached_start (new.rest ∙ c.front-bytes.ensures) new.line c.in_ok-heading.ensures.read in
    let r = params_refused (all_names h c.in_ok-names.ensures.read) c.in_err-table.ensures.read in
    search rules

pub returns-in_err-outcomes : goal.returns-in_err-outcomes
returns-in_err-outcomes c =
    let new = c.new-reader.ensures in
    let h = reached_start (new.rest ∙ c.front-bytes.ensures) new.line c.in_ok-heading.ensures.read in
    let below = all_params (all_names h c.in_ok-names.ensures.read) c.in_ok-table.ensures.read in
    let r = outcomes_refused below c.in_err-outcomes.ensures.read in
    search rules

pub invariant_of-result : goal.invariant_of-result
invariant_of-result c =
    let table = c.in_ok-table.ensures.read in
    let names = c.in_ok-names.ensures.read.0 in
    let k = kept (accepted c.new-reader.ensures.rest c.in_ok-heading.ensures.read names table.0 table.1 c.in_ok-outcomes.ensures.read) in
    record { good = k.good; headed = k.headed; tabled = k.tabled; named = k.named; stands = k.stands; whole = k.whole }

pub returns : goal.returns
returns c =
    let table = c.in_ok-table.ensures.read in
    let names = c.in_ok-names.ensures.read.0 in
    (c.front-bytes.ensures, accepted c.new-reader.ensures.rest c.in_ok-heading.ensures.read names table.0 table.1 c.in_ok-outcomes.ensures.read)
