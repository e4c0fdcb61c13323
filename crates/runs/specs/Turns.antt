-- What a turn asks and is lent, what it is answered, and where it leads.
use Rattle.std.specs.Prelude.{◌≡◌, ℕ, List, [], ◌∷◌, Some, None, Ok, Err, Vec, vec_items, Option, Result}
use Rattle.std.specs.Result.{result_map_both}
use Rattle.std.specs.declared.alloc.Global.{Global}
use Rattle.host.specs.Meaning.{Meaning}
use Rattle.host.specs.declared.Stepped.{Stepped}
use Rattle.host.specs.declared.Stepped.TheVariants.{Row, Done}
use Rattle.binds.specs.Pairs.{Pair}
use Rattle.statement.specs.State.{State, state_of, set_up}
use Rattle.statement.specs.declared.stmt.Statement.{Statement}
use Rattle.binds.specs.Refusals.{refusal_number, refusal_figures}
use Rattle.statement.specs.Calls.{bind_says, bind_goes, bind_leaves, execute_says, execute_goes, execute_leaves, end_says, end_goes, end_leaves}
use Rattle.binds.specs.declared.refusal.Refusal.{Refusal}
use Rattle.runs.specs.declared.turns.Call.{Call}
use Rattle.runs.specs.declared.turns.Call.TheVariants.{Bind, Execute, End}
use Rattle.runs.specs.declared.turns.Turn.{Turn}
use Rattle.runs.specs.declared.turns.Answer.{Answer}
use Rattle.runs.specs.declared.turns.Answer.TheVariants as answer
use Rattle.runs.specs.declared.turns.Buffers.{Buffers}

-- What a call is answered, as a number: 0, or the refusal's.
abbrev pub answer_number : Result Answer Refusal → ℕ
answer_number (Ok a) = 0
answer_number (Err r) = refusal_number r

-- A row is 1, done is 2.
abbrev pub stepped_figure : Stepped → ℕ
stepped_figure Row = 1
stepped_figure Done = 2

-- The figures of an accepted call: the owned values; row or done, and the buffers returned;
-- or 0, and the buffers returned.
abbrev pub accepted_figures : Answer → ℕ × ℕ
accepted_figures (answer.Bound n) = (n, 0)
accepted_figures (answer.Executed x) = (stepped_figure x.stepped, x.returned)
accepted_figures (answer.Ended n) = (0, n)

-- What a call is answered, as two figures: the answer's, or the refusal's.
abbrev pub answer_figures : Result Answer Refusal → ℕ × ℕ
answer_figures (Ok a) = accepted_figures a
answer_figures (Err r) = refusal_figures r

-- What a call asks.
pub data Asked : Type 0 where
  bind : ℕ → List Pair → Asked
  execute : Asked
  end : Asked

-- The call of a turn, with its values as a list.
abbrev pub asked : Call → Asked
asked (Bind query pairs) = bind query (vec_items pairs)
asked Execute = execute
asked End = end

-- The bytes in the three buffers.
abbrev pub Desk : Type 0
Desk = Buffers (List ℕ)

-- Buffers with these bytes in them.
abbrev pub desk : List ℕ → List ℕ → List ℕ → Desk
desk text given room = record { text = text; given = given; room = room }

-- The bytes in the buffers between two turns.
abbrev pub desk_of : Buffers (Vec ℕ Global) → Desk
desk_of b = desk (vec_items b.text) (vec_items b.given) (vec_items b.room)

-- The bytes that are lent: fresh ones, or those that were kept.
abbrev pub lent_bytes : Option (Vec ℕ Global) → List ℕ → List ℕ
lent_bytes (Some v) kept = vec_items v
lent_bytes None kept = kept

-- The buffers that are lent at a turn.
abbrev pub lent_at : Turn → Desk → Desk
lent_at t d =
    desk (lent_bytes t.lent.text d.text) (lent_bytes t.lent.given d.given) (lent_bytes t.lent.room d.room)

-- An answer of one kind, or why the call is refused.
abbrev pub reply_of : {T : Type 0} → (T → Answer) → Result T Refusal → Result Answer Refusal
reply_of kind r = result_map_both kind (λ e. e) r

-- What a call is answered on the buffers lent to it.
unfoldable pub says : State → Asked → Desk → Result Answer Refusal
says s (bind query ps) d = reply_of answer.Bound (bind_says s ps d.text d.given d.room)
says s execute d = reply_of answer.Executed (execute_says s d.text d.room)
says s end d = reply_of answer.Ended (end_says s d.text d.room)

-- The statement after a call.
unfoldable pub goes : State → Asked → Desk → State
goes s (bind query ps) d = bind_goes s query ps d.text d.given d.room
goes s execute d = execute_goes s d.text d.room
goes s end d = end_goes s d.text d.room

-- The room after a call; no call writes another buffer.
unfoldable pub leaves : State → Asked → Desk → List ℕ
leaves s (bind query ps) d = bind_leaves s ps d.text d.given d.room
leaves s execute d = execute_leaves s d.text d.room
leaves s end d = end_leaves s d.text d.room

-- An accepted bind's text is kept for later turns.
abbrev pub kept_text : Result Answer Refusal → List ℕ → List ℕ → List ℕ
kept_text (Ok (answer.Bound n)) lent kept = lent
kept_text (Ok (answer.Executed x)) lent kept = kept
kept_text (Ok (answer.Ended n)) lent kept = kept
kept_text (Err r) lent kept = kept

-- A statement with the buffers beside it.
pub record At : Type 0 where
  pub state : State
  pub desk : Desk

-- A statement and its buffers, by what they stand for.
abbrev pub at_of : {X : Type 0} → (X → Meaning) → Statement X → Buffers (Vec ℕ Global) → At
at_of meaning s b = record { state = state_of meaning s; desk = desk_of b }

-- What a turn is answered.
abbrev pub turn_says : At → Turn → Result Answer Refusal
turn_says a t = says a.state (asked t.call) (lent_at t a.desk)

-- The buffers after a turn.
abbrev pub turn_desk : At → Turn → Desk
turn_desk a t =
    let lent = lent_at t a.desk in
    desk (kept_text (turn_says a t) lent.text a.desk.text) lent.given (leaves a.state (asked t.call) lent)

-- The statement and the buffers after a turn.
unfoldable pub turn_goes : At → Turn → At
turn_goes a t = record { state = goes a.state (asked t.call) (lent_at t a.desk); desk = turn_desk a t }

-- Before the first turn: set up, with no byte in any buffer.
abbrev pub starting : Meaning → At
starting m = record { state = set_up m; desk = desk [] [] [] }

-- After some turns, and the answers to them.
unfoldable pub after_all : At → List Turn → At
after_all a [] = a
after_all a (t ∷ ts) = after_all (turn_goes a t) ts

-- The answers to a list of turns.
unfoldable pub answers_to : At → List Turn → List (Result Answer Refusal)
answers_to a [] = []
answers_to a (t ∷ ts) = turn_says a t ∷ answers_to (turn_goes a t) ts

-- The answers, the statement and the buffers are fixed by the host as it was at set-up and by the turns alone.
pub record Answers (m : Meaning) (ts : List Turn) (rs : List (Result Answer Refusal)) (s : State) (d : Desk) : Type 0 where
  pub told : rs ≡ answers_to (starting m) ts
  pub ends : ◌≡◌ {A = At} (record { state = s; desk = d }) (after_all (starting m) ts)
