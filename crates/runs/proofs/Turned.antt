-- A turn, over plain values.
use Rattle.std.proofs.Common.{◌≡◌, ℕ, List, [], ◌∷◌, ◌++◌, length, sym, ◌∙◌, append_assoc, append-nil, arith, Result}
use Rattle.host.specs.Meaning.{Meaning}
use Rattle.statement.specs.State.{State}
use Rattle.runs.specs.Turns.{asked, desk, lent_bytes, lent_at, Desk, At, says, goes, leaves, kept_text, turn_says, turn_goes, starting, after_all, answers_to, Answers}
use Rattle.runs.specs.declared.turns.Turn.{Turn}
use Rattle.runs.specs.declared.turns.Answer.{Answer}
use Rattle.binds.specs.declared.refusal.Refusal.{Refusal}

-- where a turn leads, part by part
pub turn_parts : (a : At) (t : Turn) (d : Desk) (s : State) (r : Result Answer Refusal) (text given room : List ℕ) → d ≡ lent_at t a.desk → r ≡ says a.state (asked t.call) d → s ≡ goes a.state (asked t.call) d → text ≡ kept_text r (lent_bytes t.lent.text a.desk.text) a.desk.text → given ≡ lent_bytes t.lent.given a.desk.given → room ≡ leaves a.state (asked t.call) d → ◌≡◌ {A = At} (record { state = s; desk = desk text given room }) (turn_goes a t)
unfolding turn_goes
turn_parts a t d s r text given room lent says_it goes_on text_is given_is room_is = cc

-- a list of turns of which some are performed: where it stands, the turns to come and the answers so far
pub record Performing (m : Meaning) (all : List Turn) (a : At) (ts : List Turn) (rs : List (Result Answer Refusal)) : Type 0 where
  pub told : rs ++ answers_to a ts ≡ answers_to (starting m) all
  pub ends : after_all a ts ≡ after_all (starting m) all

-- one turn more
pub performing_more : {m : Meaning} {all ts ts' : List Turn} {a a' : At} {t : Turn} {r : Result Answer Refusal} {rs rs' : List (Result Answer Refusal)} → Performing m all a ts rs → ts ≡ t ∷ ts' → r ≡ turn_says a t → a' ≡ turn_goes a t → rs' ≡ rs ++ (r ∷ []) → Performing m all a' ts' rs'
unfolding answers_to after_all
performing_more p et er ea es =
    record {
      told = rw (es, er, ea, append_assoc) (rw et at p.told);
      ends = rw ea (rw et at p.ends);
    }

-- no turn is left
pub performing_all : {m : Meaning} {all ts : List Turn} {s : State} {d : Desk} {rs : List (Result Answer Refusal)} → Performing m all (record { state = s; desk = d }) ts rs → length ts ≡ 0 → Answers m all rs s d
unfolding answers_to after_all
performing_all {ts = []} {rs = rs} p e = record { told = sym (append-nil rs) ∙ p.told; ends = p.ends }
performing_all {ts = t ∷ ts} p e = absurd (omega arith)
