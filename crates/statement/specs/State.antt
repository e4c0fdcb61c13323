-- What a statement stands for.
use Rattle.std.specs.Prelude.{ℕ, List, [], None, Option}
use Rattle.values.specs.Few.{items}
use Rattle.host.specs.Meaning.{Meaning}
use Rattle.binds.specs.declared.collector.Span.{Span}
use Rattle.binds.specs.Cleared.{cleared, count_up}
use Rattle.statement.specs.declared.stmt.Binding.{Binding}
use Rattle.statement.specs.declared.stmt.Report.{Report}
use Rattle.statement.specs.declared.stmt.Statement.{Statement}

-- A statement by its host's meaning and its own fields.
pub record State : Type 0 where
  pub host : Meaning
  -- the binding that is current, if one is
  pub binding : Option Binding
  -- how many rows are held
  pub held : ℕ
  -- the binding's leases in the room, and the slots that its return makes null
  pub leases : List Span
  pub nulls : List ℕ
  -- how many steps were made since set-up
  pub steps : ℕ
  -- the latest report, if there was one
  pub report : Option Report

-- The state of a statement.
abbrev pub state_of : {X : Type 0} → (X → Meaning) → Statement X → State
state_of meaning s = record { host = meaning s.host; binding = s.binding; held = s.held.count; leases = items s.ledger.leases; nulls = items s.nulls; steps = s.steps; report = s.report }

-- The same statement over another host.
abbrev pub with_host : State → Meaning → State
with_host s m = record { host = m; binding = s.binding; held = s.held; leases = s.leases; nulls = s.nulls; steps = s.steps; report = s.report }

-- Set-up: the host is reset, and each of its slots null; nothing is bound, held, stepped or reported.
abbrev pub set_up_host : Meaning → Meaning
set_up_host m = cleared m (count_up 1 m.params)

-- A statement that was just set up over a host.
abbrev pub set_up : Meaning → State
set_up m = record { host = set_up_host m; binding = None; held = 0; leases = []; nulls = []; steps = 0; report = None }
