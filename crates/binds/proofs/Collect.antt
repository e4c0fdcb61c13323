-- Taking the values up: one turn of each loop, over plain values.
use Rattle.std.proofs.Common.{◌≡◌, ℕ, ◌+◌, ◌<◌, ◌≤◌, true, List, [], ◌∷◌, ◌++◌, length, get_or, take, drop, Some, None, Ok, Err, Option, Result, sym, refl, ap, ◌∙◌, ap₂, subst, append_assoc, append-nil, arith, length-append, leb-true}
use Rattle.std.specs.Result.{MatchResult, IsErrAnd}
use Rattle.std.proofs.lemmas.Result.{err_from_is_err_and}
use Rattle.std.proofs.lemmas.Grind.{common_steps}
use Rattle.std.proofs.lemmas.List.{at_drop_more, at_drop_all, take_more, length-take-le, take_at, drop_at, take-append-drop, drop-drop}
use Rattle.host.specs.Meaning.{Meaning}
use Rattle.values.specs.declared.SqliteType.TheVariants.{Binary}
use Rattle.binds.specs.declared.collector.Span.{Span}
use Rattle.binds.specs.declared.collector.SqliteBindValue.{SqliteBindValue}
use Rattle.binds.specs.declared.collector.SqliteBindValue.TheVariants.{Null}
use Rattle.binds.specs.declared.refusal.Refusal.{Refusal}
use Rattle.binds.specs.declared.taking.Unbindable.{Unbindable}
use Rattle.binds.specs.Pairs.{Pair, span_fits, all_fit, span_length, owned_span, owned_count, total_room_bytes, lease_of, leases_from, span_bytes, owned_bytes, takes_bytes, number_if, byte_slots, written_room}
use Rattle.binds.specs.Tried.{Tried, tried, one_why, one_after, why_answer, go_on, bind_from, refusal_at, tried_answer}

-- the value at an index, as goals name it
abbrev pub none : Pair
none = (Binary, Null)

abbrev pub value_at : List Pair → ℕ → Pair
value_at ps i = get_or ps i none

-- leases
pub leases_next : (used : ℕ) (ps : List Pair) (i : ℕ) → i < length ps → leases_from used (drop i ps) ≡ lease_of used (owned_span (value_at ps i).1) ++ leases_from (used + span_length (owned_span (value_at ps i).1)) (drop (i + 1) ps)
unfolding leases_from
leases_next used ps i h = at_drop_more (leases_from used) ps i none h

pub leases_done : (used : ℕ) (ps : List Pair) (i : ℕ) → length ps ≤ i → leases_from used (drop i ps) ≡ []
unfolding leases_from
leases_done used ps i h = at_drop_all (leases_from used) ps i h

pub one_lease : (used : ℕ) (o : Option Span) → length (lease_of used o) ≤ 1
one_lease used None = omega arith
one_lease used (Some s) = omega arith

-- slots that took bytes
slots_push : (k : ℕ) (ps : List Pair) (p : Pair) → byte_slots k (ps ++ (p ∷ [])) ≡ byte_slots k ps ++ number_if (takes_bytes p.1) (k + length ps)
unfolding byte_slots
slots_push k [] p = grind (arith, common_steps, append-nil)
slots_push k (q ∷ ps) p =
    let again = slots_push (k + 1) ps p in
    grind (arith, common_steps, append_assoc)

pub slots_next : (ps : List Pair) (i : ℕ) → i < length ps → byte_slots 1 (take (i + 1) ps) ≡ byte_slots 1 (take i ps) ++ number_if (takes_bytes (value_at ps i).1) (i + 1)
slots_next ps i h =
    let a = slots_push 1 (take i ps) (value_at ps i) in
    let t = take_more ps i none h in
    let n : 1 + length (take i ps) ≡ i + 1 = omega (arith, length-take-le i ps) in
    cc

pub slots_none : byte_slots 1 [] ≡ []
unfolding byte_slots
slots_none = refl

slots_few : (k : ℕ) (ps : List Pair) → length (byte_slots k ps) ≤ length ps
unfolding byte_slots
slots_few k [] = omega arith
slots_few k (p ∷ ps) =
    let again = slots_few (k + 1) ps in
    grind (arith, common_steps)

pub slots_room : (ps : List Pair) (i : ℕ) → i ≤ length ps → length (byte_slots 1 (take i ps)) ≤ i
slots_room ps i h =
    let b = slots_few 1 (take i ps) in
    let l = length-take-le i ps h in
    omega arith

-- binding, value by value
pub bind_next : (m : Meaning) (n at : ℕ) (ps : List Pair) → n < length ps → bind_from m n at (drop n ps) ≡ go_on (one_why m (n + 1) at (value_at ps n)) (tried (one_after m (n + 1) at (value_at ps n)) n (one_why m (n + 1) at (value_at ps n))) (bind_from (one_after m (n + 1) at (value_at ps n)) (n + 1) (at + span_length (owned_span (value_at ps n).1)) (drop (n + 1) ps))
unfolding bind_from
bind_next m n at ps h = at_drop_more (bind_from m n at) ps n none h

pub bind_done : (m : Meaning) (n at : ℕ) (ps : List Pair) → length ps ≤ n → bind_from m n at (drop n ps) ≡ tried m n None
unfolding bind_from
bind_done m n at ps h = at_drop_all (bind_from m n at) ps n h

pub why_is_none : (o : Option Unbindable) (u : Unit {0}) → Ok u ≡ why_answer o → o ≡ None
why_is_none None u q = refl
why_is_none (Some w) u q = cc

pub why_is_some : (o : Option Unbindable) (w : Unbindable) → Err w ≡ why_answer o → o ≡ Some w
why_is_some None w q = cc
why_is_some (Some v) w q = cc

-- the next value is refused
pub bind_stops : (m m' : Meaning) (n at : ℕ) (ps : List Pair) (w : Unbindable) (o : Result (Unit {0}) Unbindable) → n < length ps → o ≡ Err w → o ≡ why_answer (one_why m (n + 1) at (value_at ps n)) → m' ≡ one_after m (n + 1) at (value_at ps n) → bind_from m n at (drop n ps) ≡ tried m' n (Some w)
bind_stops m m' n at ps w o h k a e =
    let b = bind_next m n at ps h in
    let s = why_is_some (one_why m (n + 1) at (value_at ps n)) w (sym k ∙ a) in
    rw (b, s) (ap (λ z. tried z n (Some w)) (sym e))

-- what a bind's values have come to, at a refused one
pub stopped : (m₀ m : Meaning) (n : ℕ) (ps qs : List Pair) (w : Unbindable) (x y : Refusal) (r : Result (Unit {0}) Refusal) (took : List ℕ) (t : Tried) → qs ≡ ps → t ≡ bind_from m₀ 0 0 qs → t ≡ tried m n (Some w) → x ≡ refusal_at n w → r ≡ Err y → y ≡ x → took ≡ byte_slots 1 (take n qs) → (r ≡ tried_answer (bind_from m₀ 0 0 ps)) × (m ≡ (bind_from m₀ 0 0 ps).host) × (took ≡ byte_slots 1 (take (bind_from m₀ 0 0 ps).bound ps))
stopped m₀ m n ps qs w x y r took t eq e e' ex er ey et =
    let f : bind_from m₀ 0 0 ps ≡ tried m n (Some w) = ap (bind_from m₀ 0 0) (sym eq) ∙ (sym e ∙ e') in
    (rw f (er ∙ ap Err (ey ∙ ex)), rw f refl, rw f (et ∙ ap (λ z. byte_slots 1 (take n z)) eq))

-- an error that was mapped
pub err_of_map : {T E F : Type 0} (o : Result T E) (r : Result T F) (x : F) (P : E → F → Type 0) → MatchResult o (λ v. r ≡ Ok v) (λ e. IsErrAnd r (P e)) → r ≡ Err x → (e : E) × (o ≡ Err e) × P e x
err_of_map (Ok v) r x P m q = let z : ◌≡◌ {A = ℕ} 0 1 = cc in absurd (omega arith)
err_of_map (Err e) r x P m q =
    let p = err_from_is_err_and r m in
    let k : p.0 ≡ x = cc in
    (e, refl, subst (P e) k p.2)

-- the room
pub fits_at : (size : ℕ) (f : SqliteBindValue → Option Span) (ps : List Pair) (i : ℕ) → i < length ps → all_fit size f ps ≡ true → span_fits size (f (value_at ps i).1) ≡ true
fits_at size f ps i h e = grind (arith, common_steps)

span_size : (given : List ℕ) (o : Option Span) → span_fits (length given) o ≡ true → length (span_bytes given o) ≡ span_length o
span_size given None q = refl
span_size given (Some s) q =
    let l = leb-true (s.start + s.len) (length given) q in
    grind (arith, common_steps)

pub bytes_next : (given : List ℕ) (ps : List Pair) (i : ℕ) → i < length ps → owned_bytes given (drop i ps) ≡ span_bytes given (owned_span (value_at ps i).1) ++ owned_bytes given (drop (i + 1) ps)
unfolding owned_bytes
bytes_next given ps i h = at_drop_more (owned_bytes given) ps i none h

pub bytes_done : (given : List ℕ) (ps : List Pair) (i : ℕ) → length ps ≤ i → owned_bytes given (drop i ps) ≡ []
unfolding owned_bytes
bytes_done given ps i h = at_drop_all (owned_bytes given) ps i h

-- bytes written from a place on: what stands before them and with them, and after them
pub written : (given room room' : List ℕ) (at : ℕ) (o : Option Span) → at + span_length o ≤ length room → span_fits (length given) o ≡ true → room' ≡ take at room ++ (span_bytes given o ++ drop (at + span_length o) room) → (take (at + span_length o) room' ≡ take at room ++ span_bytes given o) × (drop (at + span_length o) room' ≡ drop (at + span_length o) room)
written given room room' at o fit inside e =
    let n = span_length o in
    let b = span_bytes given o in
    let lb = span_size given o inside in
    let lt = length-take-le at room (omega arith) in
    let g : room' ≡ (take at room ++ b) ++ drop (at + n) room = e ∙ sym (append_assoc (take at room) b (drop (at + n) room)) in
    let lf : length (take at room ++ b) ≡ at + n = length-append (take at room) b ∙ ap₂ ◌+◌ lt lb in
    (ap (take (at + n)) g ∙ take_at (take at room ++ b) (drop (at + n) room) (at + n) lf, ap (drop (at + n)) g ∙ drop_at (take at room ++ b) (drop (at + n) room) (at + n) lf)

-- the room after one value
pub room_next : (ps : List Pair) (given room room' room₀ : List ℕ) (i at : ℕ) (o : Option Span) → i < length ps → o ≡ owned_span (value_at ps i).1 → at + span_length o ≤ length room → span_fits (length given) o ≡ true → take at room ++ owned_bytes given (drop i ps) ≡ owned_bytes given ps → drop at room ≡ drop at room₀ → room' ≡ take at room ++ (span_bytes given o ++ drop (at + span_length o) room) → (take (at + span_length o) room' ++ owned_bytes given (drop (i + 1) ps) ≡ owned_bytes given ps) × (drop (at + span_length o) room' ≡ drop (at + span_length o) room₀)
room_next ps given room room' room₀ i at o h eo fit inside e f g =
    let n = span_length o in
    let rest = owned_bytes given (drop (i + 1) ps) in
    let w = written given room room' at o fit inside g in
    let b : owned_bytes given (drop i ps) ≡ span_bytes given o ++ rest = rw eo (bytes_next given ps i h) in
    let d : drop (at + n) room ≡ drop (at + n) room₀ = sym (drop-drop n at room) ∙ (ap (drop n) f ∙ drop-drop n at room₀) in
    (ap (λ z. z ++ rest) w.0 ∙ (append_assoc (take at room) (span_bytes given o) rest ∙ (ap (λ z. take at room ++ z) (sym b) ∙ e)), w.1 ∙ d)

-- the room after the last value
pub all_written : (ps : List Pair) (given room room₀ : List ℕ) (i at : ℕ) → length ps ≤ i → take at room ++ owned_bytes given (drop i ps) ≡ owned_bytes given ps → drop at room ≡ drop at room₀ → at + total_room_bytes (drop i ps) ≡ total_room_bytes ps → room ≡ written_room ps given room₀
unfolding written_room
all_written ps given room room₀ i at h e f g =
    let b = bytes_done given ps i h in
    let t = take-append-drop at room in
    grind (arith, common_steps, append-nil)

-- each owned value has one lease
pub leases_count : (at : ℕ) (ps : List Pair) → length (leases_from at ps) ≡ owned_count ps
unfolding leases_from owned_count
leases_count at [] = refl
leases_count at (p ∷ ps) =
    let again = leases_count (at + span_length (owned_span p.1)) ps in
    grind (arith, common_steps)
