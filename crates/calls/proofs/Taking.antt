-- Value lines taken in, one after the other.
use Rattle.std.proofs.Common.{◌≡◌, ℕ, ◌+◌, ◌<◌, ◌≤◌, List, [], ◌∷◌, ◌++◌, length, sym, refl, ap, ◌∙◌, arith, length-append}
use Rattle.std.specs.List.{flat_map, AllByRecursion}
use Rattle.std.proofs.lemmas.Grind.{common_steps}
use Rattle.std.proofs.lemmas.List.{length_push, flat_map_more}
use Rattle.binds.specs.declared.collector.SqliteBindValue.{SqliteBindValue}
use Rattle.figures.proofs.Lists.{all_append}
use Rattle.figures.specs.Reading.{Reads, Lacks}
use Rattle.calls.specs.Faults.{Because}
use Rattle.calls.specs.declared.fault.CallFault.{CallFault}
use Rattle.calls.specs.Items.{Entry, rendered_item, GoodEntry}
use Rattle.calls.specs.Binds.{Bundle, no_values, with_datum, with_pair, with_entry, with_entries, Roomy, GoodNext, TakenIn, LineTaken, ValuesRead, NoLines}
use Rattle.calls.proofs.Lines.{item_free}

-- A fault for which there is a reason.
pub reason : {P : Type 0} (f : CallFault) → P → Because P f
reason f p = grind (arith)

-- A fault whose reason gives another.
pub because : {P Q : Type 0} (f : CallFault) → (P → Q) → Because P f → Because Q f
because f g p = grind (arith)

-- A line whose bytes are too many.
pub line_full : (b : Bundle) (s rest : List ℕ) (e : Entry) →
    Reads rendered_item GoodEntry s e rest → (Roomy (with_datum e.datum b) → ⊥) →
    Lacks rendered_item (GoodNext b) s
unfolding with_entry
line_full b s rest e r full f behind g q = grind (arith, common_steps, item_free)

-- A line taken in.
pub line_taken : (b after middle : Bundle) (s rest : List ℕ) (e : Entry) (v : SqliteBindValue) →
    Reads rendered_item GoodEntry s e rest → TakenIn b middle e.datum v → Roomy middle →
    after ≡ with_pair (e.tpe, v) middle → LineTaken b after s rest
unfolding with_entry
line_taken b after middle s rest e v r t room is = grind (arith, common_steps)

-- No line takes bytes away.
entry_roomy : (b : Bundle) (e : Entry) → Roomy (with_entry b e) → Roomy b
unfolding with_entry
entry_roomy b e h = grind (arith, common_steps)

entries_roomy : (b : Bundle) (es : List Entry) → Roomy (with_entries b es) → Roomy b
unfolding with_entries
entries_roomy b [] h = h
entries_roomy b (e ∷ es) h = entry_roomy b e (entries_roomy (with_entry b e) es h)

-- Lines, and then more of them.
pub entries_append : (b : Bundle) (es fs : List Entry) →
    with_entries b (es ++ fs) ≡ with_entries (with_entries b es) fs
unfolding with_entries
entries_append b [] fs = refl
entries_append b (e ∷ es) fs = entries_append (with_entry b e) es fs

-- One line.
entries_one : (b : Bundle) (e : Entry) → with_entries b (e ∷ []) ≡ with_entry b e
unfolding with_entries
entries_one b e = refl

-- One more, behind those of before.
pub one_more : {V : Type 0} (write : V → List ℕ) (xs : List V) (x : V) (s r t : List ℕ) →
    s ≡ flat_map write xs ++ r → r ≡ write x ++ t → s ≡ flat_map write (xs ++ (x ∷ [])) ++ t
one_more write xs x s r t h k = grind (arith, common_steps, flat_map_more)

-- What lines that begin some bytes have in common with at least as many others that begin them.
pub record Behind (xs es : List Entry) (r t : List ℕ) : Type 0 where
  pub more : List Entry
  pub is : es ≡ xs ++ more
  pub good : AllByRecursion GoodEntry more
  pub rests : r ≡ flat_map rendered_item more ++ t

-- Lines are read in one way.
lines_free : (xs es : List Entry) (r t : List ℕ) → AllByRecursion GoodEntry xs →
    AllByRecursion GoodEntry es → length xs ≤ length es →
    flat_map rendered_item xs ++ r ≡ flat_map rendered_item es ++ t → Behind xs es r t
lines_free [] es r t g h l q = record { more = es; is = refl; good = h; rests = q }
lines_free (x ∷ xs) [] r t g h l q = absurd (omega arith)
lines_free (x ∷ xs) (e ∷ es) r t g h l q =
    let same =
    item_free x e (flat_map rendered_item xs ++ r) (flat_map rendered_item es ++ t) g.0 h.0
    (grind (arith, common_steps)) in
    let more = lines_free xs es r t g.1 h.1 (omega arith) same.1 in
    record { more = more.more; is = cc; good = more.good; rests = more.rests }

-- No line was read.
pub values_none : (s : List ℕ) (b : Bundle) → b ≡ no_values → ValuesRead s 0 b s
unfolding with_entries
values_none s b e =
    record {
      block = record { items = []; many = refl; good = tt; begins = refl };
      gives = e;
      roomy = rw e (omega arith, omega arith);
    }

-- One more line was read.
pub values_more : (s r t : List ℕ) (n : ℕ) (b after : Bundle) → ValuesRead s n b r →
    LineTaken b after r t → ValuesRead s (n + 1) after t
values_more s r t n b after v x =
    let xs = v.block.items in
    let e = x.entry in
    record {
      block = record {
        items = xs ++ (e ∷ []);
        many = grind (arith, length_push);
        good = grind (arith, all_append);
        begins = one_more rendered_item xs e s r t v.block.begins x.reads.begins;
      };
      gives = grind (arith, entries_append, entries_one);
      roomy = grind (arith);
    }

-- More lines begin with a next one.
stuck_go : (b : Bundle) (r t : List ℕ) (es : List Entry) → 0 < length es →
    AllByRecursion GoodEntry es → Roomy (with_entries b es) → r ≡ flat_map rendered_item es ++ t →
    Lacks rendered_item (GoodNext b) r → ⊥
unfolding with_entries
stuck_go b r t [] some good room begins lacks = omega arith
stuck_go b r t (e ∷ es) some good room begins lacks = grind (arith, common_steps, entries_roomy)

-- Behind the lines that were read stands no next one.
pub values_stuck : (s r : List ℕ) (i n : ℕ) (b : Bundle) → ValuesRead s i b r → i < n →
    Lacks rendered_item (GoodNext b) r → NoLines s n
values_stuck s r i n b v h lacks es t many good room begins =
    let xs = v.block.items in
    let few = v.block.many in
    let more = lines_free xs es r t v.block.good good (omega arith) (sym v.block.begins ∙ begins) in
    let l = ap length more.is ∙ length-append xs more.more in
    let roomy : Roomy (with_entries b more.more) = grind (arith, entries_append) in
    stuck_go b r t more.more (omega arith) more.good roomy more.rests lacks
