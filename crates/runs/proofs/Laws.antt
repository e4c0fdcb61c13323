-- The laws over a run, from its invariant.
use Rattle.std.proofs.Common.{◌≡◌, ℕ, ◌+◌, Bool, true, false, List, [], ◌∷◌, ◌++◌, map, length, sym, refl, ap, ◌∙◌, arith, Result}
use Rattle.std.proofs.lemmas.Grind.{common_steps}
use Rattle.host.specs.Meaning.{Meaning}
use Rattle.host.specs.Sound.{Sound}
use Rattle.host.specs.declared.Slot.{Slot}
use Rattle.binds.specs.declared.refusal.Refusal.{Refusal}
use Rattle.binds.specs.Pairs.{Pair, owned_span, span_length, owned_count}
use Rattle.statement.specs.State.{State}
use Rattle.runs.specs.Turns.{asked, lent_at, Desk, At, turn_says, turn_goes, starting, after_all, answers_to, Answers}
use Rattle.runs.specs.Past.{Past, past_of, live_in, slots_from, forget, room_slots, Steps, BuffersKept, Copies}
use Rattle.runs.specs.declared.turns.Turn.{Turn}
use Rattle.runs.specs.declared.turns.Answer.{Answer}
use Rattle.binds.proofs.Collect.{leases_count}
use Rattle.runs.proofs.Kept.{Plain, Holding, Kept, kept_turn, kept_start, live_placed}

-- over a list of turns
kept_all : (m : Meaning) (ts : List Turn) (a : At) (h : Past) → Kept m h a.state → Kept m (past_of a h ts (answers_to a ts)) (after_all a ts).state
unfolding past_of answers_to after_all turn_goes
kept_all m [] a h k = k
kept_all m (t ∷ ts) a h k = kept_all m ts (turn_goes a t) (record { asks = asked t.call; lent = lent_at t a.desk; answer = turn_says a t } ∷ h) (kept_turn m h a.state (asked t.call) (lent_at t a.desk) k)

pub kept_run : (m : Meaning) (ts : List Turn) (rs : List (Result Answer Refusal)) (s : State) (d : Desk) → Sound m → Answers m ts rs s d → Kept m (past_of (starting m) [] ts rs) s
kept_run m ts rs s d sound x =
    let ends = ap (λ (z : At). z.state) x.ends in
    rw (x.told, ends) (kept_all m ts (starting m) [] (kept_start m sound.each))

pub steps_law : (m : Meaning) (h : Past) (s : State) → Kept m h s → Steps m h s
steps_law m h s k = record { counted = k.keeps.counted; right = k.right; placed = λ l. ap (λ (z : Meaning). z.place) k.keeps.rests.still ∙ sym (live_placed m h l); slots = k.keeps.slots_are }

pub copies_law : (m : Meaning) (h : Past) (s : State) → Kept m h s → Copies m s
copies_law m h s k = record { stand = ap (λ (z : Meaning). z.live) k.keeps.rests.still; count = ap (λ (z : Meaning). z.count) k.keeps.rests.still }

-- the slots that name the room are the leases
forgotten_rooms : (ss : List Slot) → room_slots (map forget ss) ≡ 0
unfolding room_slots
forgotten_rooms [] = refl
forgotten_rooms (s ∷ ss) = let again = forgotten_rooms ss in grind arith

plain_room : (ss : List Slot) → Plain ss → room_slots ss ≡ 0
plain_room ss p = ap room_slots (sym p) ∙ forgotten_rooms ss

room_append : (at : ℕ) (ps : List Pair) (rest : List Slot) → room_slots (slots_from at ps ++ rest) ≡ owned_count ps + room_slots rest
unfolding room_slots slots_from owned_count
room_append at [] rest = omega arith
room_append at (p ∷ ps) rest =
    let again = room_append (at + span_length (owned_span p.1)) ps rest in
    grind (arith, common_steps)

holding_room : (b : Bool) (s : State) → Holding b s → room_slots s.host.slots ≡ length s.leases
holding_room false s h = plain_room s.host.slots h.1 ∙ sym (ap length h.0)
holding_room true s h =
    let a = ap room_slots h.slots ∙ room_append 0 h.ps h.rest in
    let b = plain_room h.rest h.plain in
    let c = ap length h.leases ∙ leases_count 0 h.ps in
    omega arith

pub buffers_law : (m : Meaning) (h : Past) (s : State) → Kept m h s → BuffersKept h s
buffers_law m h s k =
    let a = holding_room (live_in h) s k.keeps.holding in
    let o = k.keeps.owed in
    omega arith
