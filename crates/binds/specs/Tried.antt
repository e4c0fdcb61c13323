-- Binding value by value.
use Rattle.std.specs.Prelude.{ℕ, ◌+◌, cond, List, [], ◌∷◌, Some, None, Ok, Err, Option, Result}
use Rattle.host.specs.Meaning.{Meaning, bind_fault, bind_after}
use Rattle.host.specs.declared.BindFault.{BindFault}
use Rattle.binds.specs.Pairs.{Pair, pairs_up, slot_for, owned_span, span_length}
use Rattle.binds.specs.declared.refusal.Refusal.{Refusal}
use Rattle.binds.specs.declared.refusal.Refusal.TheVariants as refusal
use Rattle.binds.specs.declared.taking.Unbindable.{Unbindable}
use Rattle.binds.specs.declared.taking.Unbindable.TheVariants.{Unpaired, Fault}

-- How far binding came: the host then, how many values were bound, and why the next one was not.
pub record Tried : Type 0 where
  pub host : Meaning
  pub bound : ℕ
  pub why : Option Unbindable

-- The three parts as one.
abbrev pub tried : Meaning → ℕ → Option Unbindable → Tried
tried m n w = record { host = m; bound = n; why = w }

-- The host's fault as a reason.
abbrev pub fault_unbindable : BindFault → Unbindable
fault_unbindable f = Fault f

-- The host's fault, or none, as a reason, or none.
abbrev pub fault_why : Option BindFault → Option Unbindable
fault_why None = None
fault_why (Some f) = Some (fault_unbindable f)

-- Why a value is not bound at a slot: its type is tested first, then the host is asked.
abbrev pub one_why : Meaning → ℕ → ℕ → Pair → Option Unbindable
one_why m i at p = cond (pairs_up p.0 p.1) (fault_why (bind_fault m i (slot_for at p.1))) (Some Unpaired)

-- The host after a value was tried at a slot: one that does not pair never reaches it.
abbrev pub one_after : Meaning → ℕ → ℕ → Pair → Meaning
one_after m i at p = cond (pairs_up p.0 p.1) (bind_after m i (slot_for at p.1)) m

-- A reason, or none, as an answer.
abbrev pub why_answer : Option Unbindable → Result (Unit {0}) Unbindable
why_answer None = Ok tt
why_answer (Some w) = Err w

-- Where a reason stops, or else the rest.
abbrev pub go_on : Option Unbindable → Tried → Tried → Tried
go_on None stop rest = rest
go_on (Some w) stop rest = stop

-- How far the values come, after so many that are bound: each at the slot of its number, until one is refused.
-- The next owned one has its lease at a place of the room.
unfoldable pub bind_from : Meaning → ℕ → ℕ → List Pair → Tried
bind_from m n at [] = tried m n None
bind_from m n at (p ∷ ps) =
    go_on (one_why m (n + 1) at p)
    (tried (one_after m (n + 1) at p) n (one_why m (n + 1) at p))
    (bind_from (one_after m (n + 1) at p) (n + 1) (at + span_length (owned_span p.1)) ps)

-- The refusal of the value after so many.
abbrev pub refusal_at : ℕ → Unbindable → Refusal
refusal_at n Unpaired = refusal.Unpaired (n + 1)
refusal_at n (Fault f) = refusal.NotBound (n + 1) f

-- A reason, or none, as the answer of a bind.
abbrev pub why_refusal : ℕ → Option Unbindable → Result (Unit {0}) Refusal
why_refusal n None = Ok tt
why_refusal n (Some w) = Err (refusal_at n w)

-- The answer of a bind's values.
abbrev pub tried_answer : Tried → Result (Unit {0}) Refusal
tried_answer t = why_refusal t.bound t.why
