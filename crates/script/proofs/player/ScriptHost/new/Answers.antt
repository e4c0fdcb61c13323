use Rattle.script.proofs.Played.{at_start}
use Rattle.script.proofs.player.ScriptHost.new.Goals as goal

pub invariant_of-result-clause-begins : goal.invariant_of-result-clause-begins
invariant_of-result-clause-begins c = at_start c.args.sheet

pub invariant_of-result-clause-stands : goal.invariant_of-result-clause-stands
invariant_of-result-clause-stands c = at_start c.args.sheet
