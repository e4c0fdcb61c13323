-- The invariant of a run, and that each call keeps it.
use Rattle.std.proofs.Common.{◌≡◌, ℕ, zero, suc, ◌+◌, ◌≤◌, Bool, true, false, List, [], ◌∷◌, ◌++◌, map, length, take, drop, replicate, Some, None, Err, Option, Result, is_some, sym, refl, ap, ◌∙◌, subst, ap₂, arith, rules, length-append, length-drop, ◌||◌, ◌==◌}
use Rattle.std.specs.List.{AllByRecursion}
use Rattle.std.proofs.lemmas.Grind.{common_steps}
use Rattle.std.proofs.lemmas.Bool.{not-false}
use Rattle.std.proofs.lemmas.List.{take_all, length-map, length-replicate, length-take-le, map-append, drop-map}
use Rattle.values.specs.Order.{first_of}
use Rattle.host.specs.Outcome.{Outcome}
use Rattle.host.specs.Meaning.{Meaning, with_slots, with_place, reset_after, step_after, step_answer, outcome_answer, ran}
use Rattle.host.specs.declared.Slot.{Slot}
use Rattle.host.specs.declared.Slot.TheVariants as slot
use Rattle.host.specs.declared.BindFault.TheVariants.{Misuse, Range, TooBig}
use Rattle.binds.specs.declared.refusal.Refusal.{Refusal}
use Rattle.binds.specs.declared.taking.Unbindable.{Unbindable}
use Rattle.binds.specs.declared.taking.Unbindable.TheVariants.{Unpaired, Fault}
use Rattle.binds.proofs.Collect.{leases_count}
use Rattle.binds.specs.Pairs.{Pair, owned_span, span_length, owned_count, leases_from, byte_slots}
use Rattle.binds.specs.Refusals.{refusal_number, refusal_figures}
use Rattle.binds.specs.Cleared.{nulled, cleared, count_up}
use Rattle.binds.specs.Tried.{Tried, bind_from, refusal_at}
use Rattle.statement.specs.State.{State, set_up, with_host}
use Rattle.statement.specs.Calls.{bind_tests, execute_tests, current_tests, undone as undone_host, says_by, taken_by, why_says, why_taken, bound_if, binding_on, current_state, taken_state, bind_says, bind_goes, execute_says, execute_goes, execute_says_by, execute_goes_by, end_says, end_goes, end_says_by, end_goes_by, stepped_says, stepped_state, returned_state}
use Rattle.statement.specs.declared.stmt.Binding.{Binding}
use Rattle.runs.specs.Turns.{Asked, bind, execute, end, Desk, reply_of, says, goes}
use Rattle.runs.specs.declared.turns.Answer.{Answer}
use Rattle.runs.specs.declared.turns.Answer.TheVariants as answer
use Rattle.runs.specs.Past.{bound, undone, stepped, ended, nothing, event_by, live_by, steps_by, accepted_by, returned_by, slots_by, RightBy, RightStep}
use Rattle.runs.specs.Past.{Turned, Past, Event, event_of, live_in, steps_in, accepted_in, returned_in, slots_from, forget, slots_in, values_at, place_in, AllRight}
use Rattle.runs.proofs.Slots.{Still, still_on, behind, tried_slots, null_rest, null_bytes}

-- slots without text and bytes
abbrev pub Plain : List Slot → Type 0
Plain ss = map forget ss ≡ ss

plain_forgotten : (ss : List Slot) → Plain (map forget ss)
plain_forgotten [] = refl
plain_forgotten (s ∷ ss) = let again = plain_forgotten ss in grind arith

plain_append : (xs ys : List Slot) → Plain xs → Plain ys → Plain (xs ++ ys)
plain_append xs ys p q = map-append forget xs ys ∙ ap₂ ◌++◌ p q

plain_drop : (n : ℕ) (ss : List Slot) → Plain ss → Plain (drop n ss)
plain_drop n ss p = sym (drop-map forget n ss) ∙ ap (drop n) p

plain_behind : (o : Option Unbindable) (ss : List Slot) → Plain ss → Plain (behind o ss)
plain_behind o ss p = grind (arith, common_steps)

plain_nulls : (n : ℕ) → Plain (replicate n slot.Null)
plain_nulls zero = refl
plain_nulls (suc n) = ap (λ z. slot.Null ∷ z) (plain_nulls n)

-- a binding that is live: what it has in the slots, the table of slots and the ledger
pub record Bound (s : State) : Type 0 where
  pub ps : List Pair
  pub rest : List Slot
  pub slots : s.host.slots ≡ slots_from 0 ps ++ rest
  pub plain : Plain rest
  pub nulls : s.nulls ≡ byte_slots 1 ps
  pub leases : s.leases ≡ leases_from 0 ps

abbrev pub Holding : Bool → State → Type 0
Holding false s = (s.leases ≡ []) × Plain s.host.slots
Holding true s = Bound s

-- a host at the start of its program
abbrev pub rested : Meaning → Meaning
rested m = with_place m m.start false None m.code

-- what the host keeps from set-up, between any two calls
pub record Rests (m n : Meaning) : Type 0 where
  pub still : Still (rested m) n
  pub each : length n.slots ≡ m.params

pub record Keeps (m : Meaning) (live : Bool) (steps accepted returned : ℕ) (slots : List Slot) (s : State) : Type 0 where
  pub rests : Rests m s.host
  pub slots_are : s.host.slots ≡ slots
  pub counted : s.steps ≡ steps
  pub owed : accepted ≡ returned + length s.leases
  pub current : is_some s.binding ≡ live
  pub holding : Holding live s

pub record Kept (m : Meaning) (h : Past) (s : State) : Type 0 where
  pub keeps : Keeps m (live_in h) (steps_in h) (accepted_in h) (returned_in h) (slots_in m.params h) s
  pub right : AllRight m h

-- a host that is reset, and whose slots of text and bytes are made null
cleared_slots : (n : Meaning) (ps : List Pair) (rest : List Slot) → n.slots ≡ slots_from 0 ps ++ rest → length n.slots ≡ n.params → ((cleared n (byte_slots 1 ps)).slots ≡ map forget (slots_from 0 ps) ++ rest) × Still (rested n) (cleared n (byte_slots 1 ps))
unfolding reset_after
cleared_slots n ps rest e l = null_bytes ps 0 0 [] rest (rested n) e refl (record { idle = refl; each = l })

-- and which is at rest then
cleared_rests : (m n : Meaning) (ps : List Pair) (rest : List Slot) → n.slots ≡ slots_from 0 ps ++ rest → length n.slots ≡ m.params → Still (rested m) (rested n) → Rests m (cleared n (byte_slots 1 ps))
cleared_rests m n ps rest e l st =
    let x = cleared_slots n ps rest e (l ∙ sym (ap (λ (z : Meaning). z.params) st)) in
    let a = ap length x.0 ∙ length-append (map forget (slots_from 0 ps)) rest in
    let b = ap length e ∙ length-append (slots_from 0 ps) rest in
    let c = length-map (slots_from 0 ps) forget in
    record { still = still_on (rested m) (rested n) _ st x.1; each = omega arith }

-- each value takes one slot
slots_many : (at : ℕ) (ps : List Pair) → length (slots_from at ps) ≡ length ps
unfolding slots_from
slots_many at [] = refl
slots_many at (p ∷ ps) = ap suc (slots_many (at + span_length (owned_span p.1)) ps)

-- no slot is lost there
behind_length : (o : Option Unbindable) (ss : List Slot) → length (behind o ss) ≡ length ss
behind_length o ss = grind (arith, common_steps)

-- the host and its slots once values were tried on a host at rest
pub record Attempt (m : Meaning) (ps : List Pair) (ss : List Slot) (t : Tried) : Type 0 where
  pub within : t.bound ≤ length ps
  pub whole : t.why ≡ None → t.bound ≡ length ps
  pub slots : t.host.slots ≡ slots_from 0 (take t.bound ps) ++ behind t.why (drop t.bound ss)
  pub rests : Rests m t.host

-- so stands a host at rest once values were tried
attempt : (m n : Meaning) (ps : List Pair) → Rests m n → Attempt m ps n.slots (bind_from n 0 0 ps)
attempt m n ps r =
    let t = bind_from n 0 0 ps in
    let b = tried_slots ps n 0 0 [] n.slots refl refl (r.each ∙ sym (ap (λ (z : Meaning). z.params) r.still)) in
    let k : b.k ≡ t.bound = omega (arith, b.bound) in
    let slots : t.host.slots ≡ slots_from 0 (take t.bound ps) ++ behind t.why (drop t.bound n.slots) = rw k at b.slots in
    let a = ap length slots ∙ length-append (slots_from 0 (take t.bound ps)) (behind t.why (drop t.bound n.slots)) in
    let c = slots_many 0 (take t.bound ps) ∙ length-take-le t.bound ps (omega (arith, b.within)) in
    let d = behind_length t.why (drop t.bound n.slots) ∙ length-drop t.bound n.slots in
    record {
      within = omega (arith, b.within);
      whole = λ none. sym k ∙ b.whole none;
      slots = slots;
      rests = record { still = still_on (rested m) n t.host r.still b.still; each = omega (arith, b.inside, r.each) };
    }

-- what is kept after one turn more, by what it came to
abbrev After : Meaning → Past → Event → State → Type 0
After m h e s = Keeps m (live_by e (live_in h)) (steps_by e (steps_in h)) (accepted_by e (accepted_in h)) (returned_by e (returned_in h)) (slots_by e (slots_in m.params h)) s

-- an accepted bind
by_bound : (m : Meaning) (h : Past) (s : State) (ps : List Pair) (b : Binding) → Kept m h s → live_in h ≡ false → (bind_from s.host 0 0 ps).why ≡ None → After m h (bound ps (owned_count ps)) (current_state (taken_state s ps (bind_from s.host 0 0 ps).host) b)
by_bound m h s ps b k rest w =
    let t = bind_from s.host 0 0 ps in
    let x = attempt m s.host ps k.keeps.rests in
    let idle : Holding false s = rw rest at k.keeps.holding in
    let n = x.whole w in
    let f : t.host.slots ≡ slots_from 0 ps ++ drop (length ps) s.host.slots = rw (w, n, take_all (length ps) ps (omega arith)) at x.slots in
    let count = leases_count 0 ps in
    let none = ap length idle.0 in
    record {
      rests = x.rests;
      slots_are = f ∙ ap (λ z. slots_from 0 ps ++ drop (length ps) z) k.keeps.slots_are;
      counted = k.keeps.counted;
      owed = omega (arith, k.keeps.owed);
      current = refl;
      holding = record { ps = ps; rest = drop (length ps) s.host.slots; slots = f; plain = plain_drop (length ps) s.host.slots idle.1; nulls = refl; leases = refl };
    }

-- whether the slot of a value that was not bound is null then
abbrev nulls_next : Unbindable → Bool
nulls_next Unpaired = false
nulls_next (Fault Misuse) = false
nulls_next (Fault Range) = false
nulls_next (Fault TooBig) = true

-- the slots of an undone bind, as the past tells them
undone_slots : (n : ℕ) (ps : List Pair) (ss : List Slot) (w : Unbindable) → n ≤ length ps → map forget (slots_from 0 (take n ps)) ++ behind (Some w) (drop n ss) ≡ slots_by (undone (take n ps) (nulls_next w)) ss
undone_slots n ps ss w h = grind (arith, common_steps, length-take-le)

-- a bind that was undone
by_undone : (m : Meaning) (h : Past) (s : State) (ps : List Pair) (w : Unbindable) → Kept m h s → live_in h ≡ false → (bind_from s.host 0 0 ps).why ≡ Some w → After m h (undone (take (bind_from s.host 0 0 ps).bound ps) (nulls_next w)) (with_host s (undone_host (bind_from s.host 0 0 ps) ps))
by_undone m h s ps w k rest why =
    let t = bind_from s.host 0 0 ps in
    let x = attempt m s.host ps k.keeps.rests in
    let idle : Holding false s = rw rest at k.keeps.holding in
    let qs = take t.bound ps in
    let left = behind t.why (drop t.bound s.host.slots) in
    let c = cleared_slots t.host qs left x.slots (x.rests.each ∙ sym (ap (λ (z : Meaning). z.params) x.rests.still)) in
    let plain = plain_append (map forget (slots_from 0 qs)) left (plain_forgotten (slots_from 0 qs)) (plain_behind t.why (drop t.bound s.host.slots) (plain_drop t.bound s.host.slots idle.1)) in
    record {
      rests = cleared_rests m t.host qs left x.slots x.rests.each (ap rested x.rests.still);
      slots_are = c.0 ∙ (ap₂ (λ o z. map forget (slots_from 0 qs) ++ behind o (drop t.bound z)) why k.keeps.slots_are ∙ undone_slots t.bound ps (slots_in m.params h) w x.within);
      counted = k.keeps.counted;
      owed = k.keeps.owed;
      current = k.keeps.current;
      holding = rw rest (idle.0, subst Plain (sym c.0) plain);
    }

-- a return, of a statement that differs from the one of before by a step at most
by_returned : (m : Meaning) (h : Past) (s x : State) (code steps : ℕ) → Kept m h s → live_in h ≡ true → x.steps ≡ steps → x.host ≡ with_place s.host x.host.place x.host.stepped x.host.current x.host.code → x.nulls ≡ s.nulls → Keeps m false steps (accepted_in h) (returned_in h + length s.leases) (map forget (slots_in m.params h)) (returned_state x code)
by_returned m h s x code steps k live counted same nulls =
    let b : Bound s = rw live at k.keeps.holding in
    let n = x.host in
    let rests = k.keeps.rests in
    let slots : n.slots ≡ s.host.slots = ap (λ (z : Meaning). z.slots) same in
    let f : n.slots ≡ slots_from 0 b.ps ++ b.rest = slots ∙ b.slots in
    let each : length n.slots ≡ m.params = ap length slots ∙ rests.each in
    let still : Still (rested m) (rested n) = ap rested same ∙ (ap (λ (z : Meaning). with_place z z.start false None n.code) rests.still ∙ ap (λ z. with_slots (rested m) z n.code) (sym slots)) in
    let c = cleared_slots n b.ps b.rest f (each ∙ sym (ap (λ (z : Meaning). z.params) still)) in
    let g : (cleared n (byte_slots 1 b.ps)).slots ≡ map forget (slots_in m.params h) = c.0 ∙ (ap (λ z. map forget (slots_from 0 b.ps) ++ z) (sym b.plain) ∙ (sym (map-append forget (slots_from 0 b.ps) b.rest) ∙ ap (map forget) (sym b.slots ∙ k.keeps.slots_are))) in
    let clear : cleared n x.nulls ≡ cleared n (byte_slots 1 b.ps) = ap (cleared n) (nulls ∙ b.nulls) in
    let g' = ap (λ (z : Meaning). z.slots) clear ∙ g in
    record {
      rests = subst (Rests m) (sym clear) (cleared_rests m n b.ps b.rest f each still);
      slots_are = g';
      counted = counted;
      owed = omega (arith, k.keeps.owed);
      current = refl;
      holding = (refl, subst Plain (sym g') (plain_forgotten (slots_in m.params h)));
    }

-- a turn with its answer
abbrev turned : Asked → Desk → Result Answer Refusal → Turned
turned a d r = record { asks = a; lent = d; answer = r }

-- the invariant, with one turn more in the past
kept_by : (m : Meaning) (h : Past) (t : Turned) (e : Event) (s : State) → event_of t ≡ e → After m h e s → RightBy e (m.program (place_in m h) (values_at m.params h t.lent)).0 t.answer → AllRight m h → Kept m (t ∷ h) s
unfolding live_in steps_in accepted_in returned_in slots_in AllRight
kept_by m h t e s q k r rights =
    record {
      keeps = subst (λ z. After m h z s) (sym q) k;
      right = (subst (λ z. RightBy z (m.program (place_in m h) (values_at m.params h t.lent)).0 t.answer) (sym q) r, rights);
    }

-- a refusal that comes to nothing, whatever was asked
pub record IsQuiet (r : Refusal) : Type 0 where
  pub bound : (refusal_number r == 0) ≡ false
  pub undone : (refusal_number r == 6 || refusal_number r == 8) ≡ false
  pub stepped : (refusal_number r == 0 || refusal_number r == 9) ≡ false

-- so it is told by its number
quiet : (a : Asked) (r : Refusal) → IsQuiet r → event_by a (refusal_number r) (refusal_figures r) ≡ nothing
quiet (bind query ps) r q = grind (arith, q.bound, q.undone)
quiet execute r q = grind (arith, q.stepped)
quiet end r q = grind (arith, q.bound)

-- the tests of a call lead to such refusals alone
abbrev AllQuiet : List (Bool × Refusal) → Type 0
AllQuiet cs = AllByRecursion (λ c. IsQuiet c.1) cs

-- the first test that holds is one of them
first_quiet : (cs : List (Bool × Refusal)) (r : Refusal) → AllQuiet cs → first_of cs ≡ Some r → IsQuiet r
first_quiet [] r q e = absurd (cc)
first_quiet (c ∷ cs) r q e =
    let again = first_quiet cs r q.1 in
    let here = q.0 in
    grind (arith, common_steps)

-- where no test holds, the first does not
abbrev first_test : List (Bool × Refusal) → Bool
first_test [] = false
first_test (c ∷ cs) = c.0

first_false : (cs : List (Bool × Refusal)) → first_of cs ≡ None → first_test cs ≡ false
first_false [] e = refl
first_false (c ∷ cs) e = grind (arith, common_steps)

-- a call that such a test refuses
kept_quiet : (m : Meaning) (h : Past) (s : State) (a : Asked) (d : Desk) (cs : List (Bool × Refusal)) (r : Refusal) → Kept m h s → AllQuiet cs → first_of cs ≡ Some r → Kept m (turned a d (Err r) ∷ h) s
kept_quiet m h s a d cs r k q e = kept_by m h (turned a d (Err r)) nothing s (quiet a r (first_quiet cs r q e)) k.keeps tt k.right

-- a bind that the answer says was undone
undone_event : (query : ℕ) (ps : List Pair) (d : Desk) (n : ℕ) (w : Unbindable) → event_of (turned (bind query ps) d (Err (refusal_at n w))) ≡ undone (take n ps) (nulls_next w)
undone_event query ps d n w = grind (arith, common_steps)

-- a bind keeps the invariant
bind_turn : (m : Meaning) (h : Past) (s : State) (query : ℕ) (ps : List Pair) (d : Desk) → Kept m h s → Kept m (turned (bind query ps) d (says s (bind query ps) d) ∷ h) (goes s (bind query ps) d)
unfolding says goes bind_says bind_goes
bind_turn m h s query ps d k = by_tests (first_of (bind_tests s ps d.text d.given (length d.room))) refl
  where
    t : Tried
    t = bind_from s.host 0 0 ps

    by_values : (w : Option Unbindable) → t.why ≡ w → live_in h ≡ false → Kept m (turned (bind query ps) d (reply_of answer.Bound (why_says ps t.bound w)) ∷ h) (bound_if (why_says ps t.bound w) (why_taken w s ps t) (binding_on query d.text d.room))
    by_values None e rest = kept_by m h _ (bound ps (owned_count ps)) _ refl (by_bound m h s ps (binding_on query d.text d.room) k rest e) tt k.right
    by_values (Some w) e rest = kept_by m h _ (undone (take t.bound ps) (nulls_next w)) _ (undone_event query ps d t.bound w) (by_undone m h s ps w k rest e) tt k.right

    by_tests : (o : Option Refusal) → first_of (bind_tests s ps d.text d.given (length d.room)) ≡ o → Kept m (turned (bind query ps) d (reply_of answer.Bound (says_by o ps t)) ∷ h) (bound_if (says_by o ps t) (taken_by o s ps t) (binding_on query d.text d.room))
    by_tests None e = by_values t.why refl (sym k.keeps.current ∙ first_false (bind_tests s ps d.text d.given (length d.room)) e)
    by_tests (Some r) e = kept_quiet m h s (bind query ps) d (bind_tests s ps d.text d.given (length d.room)) r k (search rules) e

-- while a binding is live, the past places the program at its start: no step leaves a binding live
pub live_placed : (m : Meaning) (h : Past) → live_in h ≡ true → place_in m h ≡ m.start
unfolding live_in place_in
live_placed m [] e = absurd (cc)
live_placed m (t ∷ h) e =
    let again = live_placed m h in
    grind (arith, common_steps)

-- what a step runs on
ran_is : (m : Meaning) (h : Past) (s : State) (d : Desk) → Kept m h s → live_in h ≡ true → ran s.host d.text d.room ≡ m.program (place_in m h) (values_at m.params h d)
unfolding ran
ran_is m h s d k l =
    let placed = live_placed m h l in
    rw (k.keeps.rests.still, k.keeps.slots_are, placed) refl

-- the answer of a step, and that it is right
stepped_event : (d : Desk) (o : Outcome) (n : ℕ) → let r = reply_of answer.Executed (stepped_says (outcome_answer o) n) in (event_of (turned execute d r) ≡ stepped n) × RightStep o r
stepped_event d o n = grind (arith, common_steps)

-- an execute keeps it
execute_turn : (m : Meaning) (h : Past) (s : State) (d : Desk) → Kept m h s → Kept m (turned execute d (says s execute d) ∷ h) (goes s execute d)
unfolding says goes execute_says execute_goes step_answer step_after
execute_turn m h s d k = go (first_of (execute_tests s d.text d.room)) refl
  where
    go : (o : Option Refusal) → first_of (execute_tests s d.text d.room) ≡ o → Kept m (turned execute d (reply_of answer.Executed (execute_says_by o s d.text d.room)) ∷ h) (execute_goes_by o s d.text d.room)
    go None e =
        let live = sym k.keeps.current ∙ not-false (is_some s.binding) (first_false (execute_tests s d.text d.room) e) in
        let n = length s.leases in
        let x = stepped_event d (ran s.host d.text d.room).0 n in
        let right = subst (λ (z : Outcome × ℕ). RightStep z.0 (reply_of answer.Executed (stepped_says (outcome_answer (ran s.host d.text d.room).0) n))) (ran_is m h s d k live) x.1 in
        kept_by m h _ (stepped n) _ x.0 (by_returned m h s (stepped_state s d.text d.room) _ (steps_in h + 1) k live (ap (λ z. z + 1) k.keeps.counted) refl refl) right k.right
    go (Some r) e = kept_quiet m h s execute d (execute_tests s d.text d.room) r k (search rules) e

-- an end keeps it
end_turn : (m : Meaning) (h : Past) (s : State) (d : Desk) → Kept m h s → Kept m (turned end d (says s end d) ∷ h) (goes s end d)
unfolding says goes end_says end_goes
end_turn m h s d k = go (first_of (current_tests s d.text d.room)) refl
  where
    go : (o : Option Refusal) → first_of (current_tests s d.text d.room) ≡ o → Kept m (turned end d (reply_of answer.Ended (end_says_by o s)) ∷ h) (end_goes_by o s)
    go None e =
        let live = sym k.keeps.current ∙ not-false (is_some s.binding) (first_false (current_tests s d.text d.room) e) in
        kept_by m h _ (ended (length s.leases)) _ refl (by_returned m h s s 0 (steps_in h) k live k.keeps.counted refl refl) tt k.right
    go (Some r) e = kept_quiet m h s end d (current_tests s d.text d.room) r k (search rules) e

-- each call keeps it
pub kept_turn : (m : Meaning) (h : Past) (s : State) (a : Asked) (d : Desk) → Kept m h s → Kept m (record { asks = a; lent = d; answer = says s a d } ∷ h) (goes s a d)
kept_turn m h s (bind query ps) d k = bind_turn m h s query ps d k
kept_turn m h s execute d k = execute_turn m h s d k
kept_turn m h s end d k = end_turn m h s d k

-- set-up
pub kept_start : (m : Meaning) → length m.slots ≡ m.params → Kept m [] (set_up m)
unfolding reset_after live_in steps_in accepted_in returned_in slots_in AllRight
kept_start m e =
    let x = null_rest m.slots [] 0 (rested m) refl refl (record { idle = refl; each = e }) in
    let y : ((nulled (rested m) (count_up 1 m.params)).slots ≡ replicate m.params slot.Null) × Still (rested m) (nulled (rested m) (count_up 1 m.params)) = subst (λ n. ((nulled (rested m) (count_up 1 n)).slots ≡ replicate n slot.Null) × Still (rested m) (nulled (rested m) (count_up 1 n))) e x in
    record {
      keeps = record {
        rests = record { still = y.1; each = ap length y.0 ∙ length-replicate m.params slot.Null };
        slots_are = y.0;
        counted = refl;
        owed = refl;
        current = refl;
        holding = (refl, subst Plain (sym y.0) (plain_nulls m.params));
      };
      right = tt;
    }
