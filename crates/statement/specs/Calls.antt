-- What each call answers, and what the statement and the room are afterwards.
use Rattle.std.specs.Prelude.{ℕ, ◌+◌, Bool, false, not, ◌&&◌, ◌||◌, List, [], ◌∷◌, ◌++◌, length, take, Some, None, Ok, Err, Option, Result, is_some, ◌==◌, nat_lt}
use Rattle.values.specs.Order.{first_of}
use Rattle.host.specs.Meaning.{Meaning, step_answer, step_after}
use Rattle.host.specs.declared.Stepped.{Stepped}
use Rattle.host.specs.declared.StepFault.{StepFault}
use Rattle.statement.specs.declared.stmt.Binding.{Binding}
use Rattle.statement.specs.declared.stmt.Report.{Report}
use Rattle.statement.specs.declared.stmt.Lengths.{Lengths}
use Rattle.statement.specs.declared.stmt.Executed.{Executed}
use Rattle.binds.specs.declared.refusal.Refusal.{Refusal}
use Rattle.binds.specs.declared.refusal.Refusal.TheVariants.{WrongState, Length, RowHeld, TooManyValues, Outside, RoomShort, StepFailed, StepsSpent}
use Rattle.binds.specs.Pairs.{Pair, all_inside, owned_count, total_room_bytes, leases_from, byte_slots, written_room}
use Rattle.binds.specs.Leases.{zeroed}
use Rattle.statement.specs.State.{State, with_host}
use Rattle.binds.specs.Cleared.{cleared}
use Rattle.binds.specs.Tried.{Tried, bind_from, refusal_at}
use Rattle.binds.specs.declared.taking.Unbindable.{Unbindable}

-- The text, the given bytes and the room may have 65,536 bytes.
abbrev pub too_long : ℕ → ℕ → ℕ → Bool
too_long txt given room = nat_lt 65536 txt || (nat_lt 65536 given || nat_lt 65536 room)

-- Bind. What is tested before any value is bound, in this order.
abbrev pub may_bind_tests : State → List Pair → List ℕ → List ℕ → ℕ → List (Bool × Refusal)
may_bind_tests s ps txt given room =
    (is_some s.binding, WrongState)
    ∷ (nat_lt 0 s.held, RowHeld)
    ∷ (too_long (length txt) (length given) room, Length)
    ∷ (nat_lt 32 (length ps), TooManyValues)
    ∷ (not (all_inside (length txt) (length given) ps), Outside)
    ∷ []

-- What tests answer: the refusal of the first that holds, or else a value.
abbrev pub test_answer : {T : Type 0} → Option Refusal → T → Result T Refusal
test_answer None x = Ok x
test_answer (Some r) x = Err r

-- The answer of bind's first tests: the values, which are few enough.
abbrev pub may_bind_answer : State → List Pair → List ℕ → List ℕ → ℕ → Result (List Pair) Refusal
may_bind_answer s ps txt given room = test_answer (first_of (may_bind_tests s ps txt given room)) ps

-- All tests before any value is bound: the owned values must fit the room, too.
abbrev pub bind_tests : State → List Pair → List ℕ → List ℕ → ℕ → List (Bool × Refusal)
bind_tests s ps txt given room = may_bind_tests s ps txt given room ++ ((nat_lt room (total_room_bytes ps), RoomShort) ∷ [])

-- Once the tests have passed, how far the values came decides.
abbrev pub why_says : List Pair → ℕ → Option Unbindable → Result ℕ Refusal
why_says ps n None = Ok (owned_count ps)
why_says ps n (Some w) = Err (refusal_at n w)

-- A bind's answer, by its tests and then by its values.
abbrev pub says_by : Option Refusal → List Pair → Tried → Result ℕ Refusal
says_by (Some r) ps t = Err r
says_by None ps t = why_says ps t.bound t.why

-- The host after a value was refused: given back as a return does.
abbrev pub undone : Tried → List Pair → Meaning
undone t ps = cleared t.host (byte_slots 1 (take t.bound ps))

-- A statement that has taken the values up.
abbrev pub taken_state : State → List Pair → Meaning → State
taken_state s ps m = record { host = m; binding = s.binding; held = s.held; leases = leases_from 0 ps; nulls = byte_slots 1 ps; steps = s.steps; report = s.report }

-- The statement once the values were tried: taken up, or undone.
abbrev pub why_taken : Option Unbindable → State → List Pair → Tried → State
why_taken None s ps t = taken_state s ps t.host
why_taken (Some w) s ps t = with_host s (undone t ps)

-- A test that holds leaves the statement as it was.
abbrev pub taken_by : Option Refusal → State → List Pair → Tried → State
taken_by (Some r) s ps t = s
taken_by None s ps t = why_taken t.why s ps t

-- A binding for a query, on a text and a room.
abbrev pub binding_on : ℕ → List ℕ → List ℕ → Binding
binding_on query txt room = record { query = query; lengths = record { text = length txt; room = length room } }

-- The statement with a binding current.
abbrev pub current_state : State → Binding → State
current_state s b = record { host = s.host; binding = Some b; held = s.held; leases = s.leases; nulls = s.nulls; steps = s.steps; report = s.report }

-- An accepted bind makes its binding current.
abbrev pub bound_if : Result ℕ Refusal → State → Binding → State
bound_if (Ok n) s b = current_state s b
bound_if (Err r) s b = s

-- The room: as it was, with the values in it, or with their leases zeroed again.
abbrev pub why_leaves : Option Unbindable → List Pair → List ℕ → List ℕ → List ℕ
why_leaves None ps given room = written_room ps given room
why_leaves (Some w) ps given room = zeroed (leases_from 0 ps) (written_room ps given room)

-- A test that holds leaves the room as it was.
abbrev pub leaves_by : Option Refusal → List Pair → Tried → List ℕ → List ℕ → List ℕ
leaves_by (Some r) ps t given room = room
leaves_by None ps t given room = why_leaves t.why ps given room

-- How far the values of a bind come.
abbrev pub tried_of : State → List Pair → Tried
tried_of s ps = bind_from s.host 0 0 ps

-- What bind answers.
unfoldable pub bind_says : State → List Pair → List ℕ → List ℕ → List ℕ → Result ℕ Refusal
bind_says s ps txt given room = says_by (first_of (bind_tests s ps txt given (length room))) ps (tried_of s ps)

-- The statement after bind.
unfoldable pub bind_goes : State → ℕ → List Pair → List ℕ → List ℕ → List ℕ → State
bind_goes s query ps txt given room =
    bound_if (bind_says s ps txt given room) (taken_by (first_of (bind_tests s ps txt given (length room))) s ps (tried_of s ps)) (binding_on query txt room)

-- The room after bind.
unfoldable pub bind_leaves : State → List Pair → List ℕ → List ℕ → List ℕ → List ℕ
bind_leaves s ps txt given room = leaves_by (first_of (bind_tests s ps txt given (length room))) ps (tried_of s ps) given room

-- Taking the values up, the part of a bind after its first tests: the room may be too short.
abbrev pub take_tests : List Pair → ℕ → List (Bool × Refusal)
take_tests ps room = (nat_lt room (total_room_bytes ps), RoomShort) ∷ []

-- What taking the values up answers.
abbrev pub take_says : State → List Pair → List ℕ → Result ℕ Refusal
take_says s ps room = says_by (first_of (take_tests ps (length room))) ps (tried_of s ps)

-- The statement after taking them up.
abbrev pub take_goes : State → List Pair → List ℕ → State
take_goes s ps room = taken_by (first_of (take_tests ps (length room))) s ps (tried_of s ps)

-- The room after taking them up.
abbrev pub take_leaves : State → List Pair → List ℕ → List ℕ → List ℕ
take_leaves s ps given room = leaves_by (first_of (take_tests ps (length room))) ps (tried_of s ps) given room

-- The report of a binding, by its query's number.
abbrev pub report_of : Option Binding → ℕ → Option Report
report_of None code = None
report_of (Some b) code = Some (record { query = b.query; code = code })

-- The return of a binding: the host cleared, the leases given back, and one report.
abbrev pub returned_state : State → ℕ → State
returned_state s code = record { host = cleared s.host s.nulls; binding = None; held = s.held; leases = []; nulls = []; steps = s.steps; report = report_of s.binding code }

-- The text and the room have the lengths that they had at the bind.
abbrev pub same_lengths : Lengths → List ℕ → List ℕ → Bool
same_lengths l txt room = length txt == l.text && length room == l.room

-- The same of the binding that is current.
abbrev pub kept_lengths : Option Binding → List ℕ → List ℕ → Bool
kept_lengths None txt room = false
kept_lengths (Some b) txt room = same_lengths b.lengths txt room

-- A binding that is current, on a text and a room of the lengths that they had at its bind.
abbrev pub current_tests : State → List ℕ → List ℕ → List (Bool × Refusal)
current_tests s txt room =
    (not (is_some s.binding), WrongState)
    ∷ (not (kept_lengths s.binding txt room), Length)
    ∷ []

-- The answer of the tests of a current binding.
abbrev pub current_answer : State → List ℕ → List ℕ → Result (Unit {0}) Refusal
current_answer s txt room = test_answer (first_of (current_tests s txt room)) tt

-- Execute: one step, and then the return, whatever the step gave.
abbrev pub execute_tests : State → List ℕ → List ℕ → List (Bool × Refusal)
execute_tests s txt room = current_tests s txt room ++ (((s.steps == 4294967295), StepsSpent) ∷ [])

-- An execute's answer, by what its step gave.
abbrev pub stepped_says : Result Stepped StepFault → ℕ → Result Executed Refusal
stepped_says (Ok x) n = Ok (record { stepped = x; returned = n })
stepped_says (Err f) n = Err (StepFailed f.code n)

-- The code that a report carries: the failure's, else 0.
abbrev pub report_code : Result Stepped StepFault → ℕ
report_code (Ok x) = 0
report_code (Err f) = f.code

-- The statement after a step, which is counted.
abbrev pub stepped_state : State → List ℕ → List ℕ → State
stepped_state s txt room = record { host = step_after s.host txt room; binding = s.binding; held = s.held; leases = s.leases; nulls = s.nulls; steps = s.steps + 1; report = s.report }

-- An execute's answer, by its tests and then by its step.
abbrev pub execute_says_by : Option Refusal → State → List ℕ → List ℕ → Result Executed Refusal
execute_says_by (Some r) s txt room = Err r
execute_says_by None s txt room = stepped_says (step_answer s.host txt room) (length s.leases)

-- The statement after an execute: stepped and returned, unless a test holds.
abbrev pub execute_goes_by : Option Refusal → State → List ℕ → List ℕ → State
execute_goes_by (Some r) s txt room = s
execute_goes_by None s txt room = returned_state (stepped_state s txt room) (report_code (step_answer s.host txt room))

-- A call that returns the binding zeroes its leases; a refusal leaves the room.
abbrev pub return_leaves : Option Refusal → State → List ℕ → List ℕ
return_leaves (Some r) s room = room
return_leaves None s room = zeroed s.leases room

-- What execute answers.
unfoldable pub execute_says : State → List ℕ → List ℕ → Result Executed Refusal
execute_says s txt room = execute_says_by (first_of (execute_tests s txt room)) s txt room

-- The statement after execute.
unfoldable pub execute_goes : State → List ℕ → List ℕ → State
execute_goes s txt room = execute_goes_by (first_of (execute_tests s txt room)) s txt room

-- The room after execute.
unfoldable pub execute_leaves : State → List ℕ → List ℕ → List ℕ
execute_leaves s txt room = return_leaves (first_of (execute_tests s txt room)) s room

-- End: the return, with no step. It answers the buffers returned.
abbrev pub end_says_by : Option Refusal → State → Result ℕ Refusal
end_says_by (Some r) s = Err r
end_says_by None s = Ok (length s.leases)

-- The statement after an end: returned with code 0, unless a test holds.
abbrev pub end_goes_by : Option Refusal → State → State
end_goes_by (Some r) s = s
end_goes_by None s = returned_state s 0

-- What end answers.
unfoldable pub end_says : State → List ℕ → List ℕ → Result ℕ Refusal
end_says s txt room = end_says_by (first_of (current_tests s txt room)) s

-- The statement after end.
unfoldable pub end_goes : State → List ℕ → List ℕ → State
end_goes s txt room = end_goes_by (first_of (current_tests s txt room)) s

-- The room after end.
unfoldable pub end_leaves : State → List ℕ → List ℕ → List ℕ
end_leaves s txt room = return_leaves (first_of (current_tests s txt room)) s room
