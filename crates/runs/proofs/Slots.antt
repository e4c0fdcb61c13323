-- What binding and making null do to the slots of a host.
use Rattle.std.proofs.Common.{◌≡◌, ℕ, suc, ◌+◌, ◌-◌, ◌≤◌, Bool, true, false, cond, List, [], ◌∷◌, ◌++◌, map, length, take, drop, set, replicate, Some, None, Option, sym, refl, ap, ◌∙◌, append_assoc, arith, length-append}
use Rattle.std.proofs.lemmas.Grind.{common_steps}
use Rattle.std.proofs.lemmas.Bool.Decides.{nat_tests}
use Rattle.std.proofs.lemmas.List.{set-append_right}
use Rattle.host.specs.Meaning.{Meaning, with_slots, bind_fault, bind_after, slots_after}
use Rattle.host.specs.declared.Slot.{Slot}
use Rattle.host.specs.declared.Slot.TheVariants as slot
use Rattle.host.specs.declared.BindFault.{BindFault}
use Rattle.host.specs.declared.BindFault.TheVariants.{Misuse, Range, TooBig}
use Rattle.binds.specs.declared.taking.Unbindable.{Unbindable}
use Rattle.binds.specs.declared.taking.Unbindable.TheVariants.{Unpaired, Fault}
use Rattle.binds.specs.Pairs.{Pair, pairs_up, slot_for, owned_span, span_length, takes_bytes, number_if, byte_slots}
use Rattle.binds.specs.Cleared.{nulled, count_up}
use Rattle.binds.specs.Tried.{Tried, tried, fault_why, go_on, bind_from}
use Rattle.runs.specs.Past.{slots_from, null_first, forget}
use Rattle.binds.specs.declared.collector.SqliteBindValue.{SqliteBindValue}

-- a host that is as it was but for its slots and its code
abbrev pub Still : Meaning → Meaning → Type 0
Still m n = n ≡ with_slots m n.slots n.code

-- what one step and the next leave is left by both
pub still_on : (m n o : Meaning) → Still m n → Still n o → Still m o
still_on m n o a b = b ∙ ap (λ z. with_slots z o.slots o.code) a

-- a bind leaves all else
still_bind : (m : Meaning) (i : ℕ) (s : Slot) → Still m (bind_after m i s)
unfolding bind_after
still_bind m i s = refl

-- the slots after a bind, by its fault
bind_slots : (m : Meaning) (i : ℕ) (s : Slot) (f : Option BindFault) → bind_fault m i s ≡ f → (bind_after m i s).slots ≡ slots_after f m.slots i s
unfolding bind_after
bind_slots m i s f e = ap (λ z. slots_after z m.slots i s) e

-- a bind that is not refused is in range
in_range : (m : Meaning) (i : ℕ) (s : Slot) → bind_fault m i s ≡ None → (1 ≤ i) × (i ≤ m.params)
unfolding bind_fault
in_range m i s e = grind (arith, common_steps, nat_tests)

-- a null in range is not refused while nothing was stepped
null_taken : (m : Meaning) (i : ℕ) → m.stepped ≡ false → 1 ≤ i → i ≤ m.params → bind_fault m i slot.Null ≡ None
unfolding bind_fault
null_taken m i e a b = grind (arith, common_steps, nat_tests)

-- a write to the first slot behind a front
set_first : (front rest : List Slot) (n : ℕ) (s : Slot) → length front ≡ n → set (front ++ rest) (n + 1 - 1) s ≡ front ++ set rest 0 s
set_first front rest n s l = set-append_right front rest n (n + 1 - 1) s l (omega arith) ∙ ap (λ k. front ++ set rest k s) (omega arith)

-- the first slot made null, if there is one
first_null : (ss : List Slot) → set ss 0 slot.Null ≡ null_first ss
first_null ss = grind arith

-- what is left of the slots behind the values that were bound
abbrev pub behind : Option Unbindable → List Slot → List Slot
behind None ss = ss
behind (Some Unpaired) ss = ss
behind (Some (Fault Misuse)) ss = ss
behind (Some (Fault Range)) ss = ss
behind (Some (Fault TooBig)) ss = null_first ss

-- the slots once values were tried
pub record Bindings (m : Meaning) (at : ℕ) (n : ℕ) (ps : List Pair) (front rest : List Slot) (t : Tried) : Type 0 where
  pub k : ℕ
  pub within : k ≤ length ps
  pub inside : k ≤ length rest
  pub bound : t.bound ≡ n + k
  pub whole : t.why ≡ None → k ≡ length ps
  pub slots : t.host.slots ≡ front ++ (slots_from at (take k ps) ++ behind t.why (drop k rest))
  pub still : Still m t.host

-- a bind that the host refuses
stop_slots : (m : Meaning) (n : ℕ) (s : Slot) (front rest : List Slot) (g : BindFault) → m.slots ≡ front ++ rest → length front ≡ n → bind_fault m (n + 1) s ≡ Some g → (bind_after m (n + 1) s).slots ≡ front ++ behind (Some (Fault g)) rest
stop_slots m n s front rest g e l f =
    let after = bind_slots m (n + 1) s (Some g) f in
    grind (arith, common_steps, set_first, first_null)

-- a bind that it takes
more_slots : (m : Meaning) (n : ℕ) (s r : Slot) (front rest : List Slot) → m.slots ≡ front ++ (r ∷ rest) → length front ≡ n → bind_fault m (n + 1) s ≡ None → (bind_after m (n + 1) s).slots ≡ (front ++ (s ∷ [])) ++ rest
more_slots m n s r front rest e l f =
    let after = bind_slots m (n + 1) s None f in
    grind (arith, common_steps, set_first)

-- one value more in front
bound_more : (m : Meaning) (n at : ℕ) (p : Pair) (ps : List Pair) (r : Slot) (front rest : List Slot) (t : Tried) → Bindings (bind_after m (n + 1) (slot_for at p.1)) (at + span_length (owned_span p.1)) (n + 1) ps (front ++ (slot_for at p.1 ∷ [])) rest t → Bindings m at n (p ∷ ps) front (r ∷ rest) t
unfolding slots_from
bound_more m n at p ps r front rest t x =
    record {
      k = suc x.k;
      within = omega (arith, x.within);
      inside = omega (arith, x.inside);
      bound = omega (arith, x.bound);
      whole = λ e. ap suc (x.whole e);
      slots = rw append_assoc at x.slots;
      still = still_on m _ t.host (still_bind m (n + 1) (slot_for at p.1)) x.still;
    }

-- how far binding comes, and the slots that it leaves
pub tried_slots : (ps : List Pair) (m : Meaning) (n at : ℕ) (front rest : List Slot) → m.slots ≡ front ++ rest → length front ≡ n → length m.slots ≡ m.params → Bindings m at n ps front rest (bind_from m n at ps)
unfolding slots_from bind_from
tried_slots [] m n at front rest e l each = record { k = 0; within = omega arith; inside = omega arith; bound = omega arith; whole = λ _. refl; slots = e; still = refl }
tried_slots (p ∷ ps) m n at front rest e l each =
    go (pairs_up p.0 p.1) (bind_fault m (n + 1) (slot_for at p.1)) refl (λ front' rest' a b d. tried_slots ps (bind_after m (n + 1) (slot_for at p.1)) (n + 1) (at + span_length (owned_span p.1)) front' rest' a b d)
  where
    next : Meaning
    next = bind_after m (n + 1) (slot_for at p.1)

    later : ℕ
    later = at + span_length (owned_span p.1)

    more : (rest : List Slot) → m.slots ≡ front ++ rest → bind_fault m (n + 1) (slot_for at p.1) ≡ None → ((front' rest' : List Slot) → next.slots ≡ front' ++ rest' → length front' ≡ n + 1 → length next.slots ≡ next.params → Bindings next later (n + 1) ps front' rest' (bind_from next (n + 1) later ps)) → Bindings m at n (p ∷ ps) front rest (bind_from next (n + 1) later ps)
    more [] e ok again =
        let r = in_range m (n + 1) (slot_for at p.1) ok in
        let a = ap length e ∙ length-append front [] in
        absurd (omega (arith, r.1))
    more (r ∷ rest) e ok again =
        let s = slot_for at p.1 in
        let f = more_slots m n s r front rest e l ok in
        let a = length-append front (s ∷ []) in
        let b = ap length f ∙ length-append (front ++ (s ∷ [])) rest in
        let c = ap length e ∙ length-append front (r ∷ rest) in
        let params = ap (λ (z : Meaning). z.params) (still_bind m (n + 1) s) in
        bound_more m n at p ps r front rest _ (again (front ++ (s ∷ [])) rest f (omega arith) (omega arith))

    go : (b : Bool) (o : Option BindFault) → bind_fault m (n + 1) (slot_for at p.1) ≡ o → ((front' rest' : List Slot) → next.slots ≡ front' ++ rest' → length front' ≡ n + 1 → length next.slots ≡ next.params → Bindings next later (n + 1) ps front' rest' (bind_from next (n + 1) later ps)) → Bindings m at n (p ∷ ps) front rest (go_on (cond b (fault_why o) (Some Unpaired)) (tried (cond b next m) n (cond b (fault_why o) (Some Unpaired))) (bind_from (cond b next m) (n + 1) later ps))
    go false o q again = record { k = 0; within = omega arith; inside = omega arith; bound = omega arith; whole = λ none. absurd (cc); slots = e; still = refl }
    go true (Some g) q again = record { k = 0; within = omega arith; inside = omega arith; bound = omega arith; whole = λ none. absurd (cc); slots = stop_slots m n (slot_for at p.1) front rest g e l q; still = still_bind m (n + 1) (slot_for at p.1) }
    go true None q again = more rest e q again

-- a host whose slots can be made null
pub record Ready (m : Meaning) : Type 0 where
  pub idle : m.stepped ≡ false
  pub each : length m.slots ≡ m.params

-- one slot behind a front, made null or left
null_one : (b : Bool) (n : ℕ) (s : Slot) (front rest : List Slot) (m : Meaning) → m.slots ≡ front ++ (s ∷ rest) → length front ≡ n → Ready m → let m₁ = cond b (bind_after m (n + 1) slot.Null) m in (m₁.slots ≡ (front ++ (cond b slot.Null s ∷ [])) ++ rest) × Ready m₁ × Still m m₁
null_one false n s front rest m e l x = (e ∙ sym (append_assoc front (s ∷ []) rest), x, refl)
null_one true n s front rest m e l x =
    let a = ap length e ∙ length-append front (s ∷ rest) in
    let each = x.each in
    let f = more_slots m n slot.Null s front rest e l (null_taken m (n + 1) x.idle (omega arith) (omega arith)) in
    let b = ap length f ∙ (length-append (front ++ (slot.Null ∷ [])) rest ∙ ap (λ z. z + length rest) (length-append front (slot.Null ∷ []))) in
    let st = still_bind m (n + 1) slot.Null in
    let params = ap (λ (z : Meaning). z.params) st in
    (f, record { idle = ap (λ (z : Meaning). z.stepped) st ∙ x.idle; each = omega arith }, st)

-- every slot behind a front made null
pub null_rest : (rest front : List Slot) (n : ℕ) (m : Meaning) → m.slots ≡ front ++ rest → length front ≡ n → Ready m → ((nulled m (count_up (n + 1) (length rest))).slots ≡ front ++ replicate (length rest) slot.Null) × Still m (nulled m (count_up (n + 1) (length rest)))
unfolding nulled count_up
null_rest [] front n m e l x = (e, refl)
null_rest (s ∷ rest) front n m e l x =
    let one = null_one true n s front rest m e l x in
    let front' = front ++ (slot.Null ∷ []) in
    let a = length-append front (slot.Null ∷ []) in
    let y = null_rest rest front' (n + 1) (bind_after m (n + 1) slot.Null) one.0 (omega arith) one.1 in
    (y.0 ∙ append_assoc front (slot.Null ∷ []) (replicate (length rest) slot.Null), still_on m _ _ one.2 y.1)

-- text and bytes are forgotten, and numbers stay
forget_slot : (at : ℕ) (v : SqliteBindValue) → cond (takes_bytes v) slot.Null (slot_for at v) ≡ forget (slot_for at v)
forget_slot at v = grind (arith, common_steps)

-- a slot more to make null, if it took text or bytes
nulled_if : (b : Bool) (i : ℕ) (m : Meaning) (is : List ℕ) → nulled (cond b (bind_after m i slot.Null) m) is ≡ nulled m (number_if b i ++ is)
unfolding nulled
nulled_if b i m is = grind arith

-- the slots of text and bytes made null
pub null_bytes : (ps : List Pair) (at n : ℕ) (front rest : List Slot) (m : Meaning) → m.slots ≡ front ++ (slots_from at ps ++ rest) → length front ≡ n → Ready m → ((nulled m (byte_slots (n + 1) ps)).slots ≡ front ++ (map forget (slots_from at ps) ++ rest)) × Still m (nulled m (byte_slots (n + 1) ps))
unfolding nulled byte_slots slots_from
null_bytes [] at n front rest m e l x = (e, refl)
null_bytes (p ∷ ps) at n front rest m e l x =
    let b = takes_bytes p.1 in
    let s = slot_for at p.1 in
    let later = at + span_length (owned_span p.1) in
    let one = null_one b n s front (slots_from later ps ++ rest) m e l x in
    let front' = front ++ (forget s ∷ []) in
    let a = length-append front (forget s ∷ []) in
    let f = one.0 ∙ ap (λ z. (front ++ (z ∷ [])) ++ (slots_from later ps ++ rest)) (forget_slot at p.1) in
    let y = null_bytes ps later (n + 1) front' rest (cond b (bind_after m (n + 1) slot.Null) m) f (omega arith) one.1 in
    let is = byte_slots (n + 1 + 1) ps in
    rw (← nulled_if b (n + 1) m is) (y.0 ∙ append_assoc front (forget s ∷ []) (map forget (slots_from later ps) ++ rest), still_on m _ _ one.2 y.1)
