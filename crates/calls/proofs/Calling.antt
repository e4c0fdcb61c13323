-- From the lines of a call to its turn.
use Rattle.std.proofs.Common.{◌≡◌, ℕ, List, [], ◌∷◌, ◌++◌, map, length, Some, None, Vec, Option, sym, refl, arith}
use Rattle.std.specs.List.{flat_map, AllByRecursion}
use Rattle.std.specs.declared.alloc.Global.{Global}
use Rattle.std.proofs.lemmas.List.{map-append}
use Rattle.std.proofs.lemmas.Grind.{common_steps}
use Rattle.figures.proofs.Lists.{all_append}
use Rattle.figures.specs.Reading.{Reads, Lacks}
use Rattle.runs.specs.declared.turns.Turn.{Turn}
use Rattle.calls.specs.Items.{rendered_item}
use Rattle.calls.specs.Binds.{Bundle, BindTurn, ValuesRead, NoLines, fresh_bytes}
use Rattle.calls.specs.Calls.{Given, bind, execute, end, rendered_bind, call_lines, call_letter, letter_of_call, GoodHead, GoodCall, TurnFor, TurnRead, TurnsFor}
use Rattle.calls.proofs.Lines.{one_way}
use Rattle.calls.proofs.Taking.{one_more}

-- The first line of a bind is read in one way.
bind_free : (h k : ℕ × ℕ) (r t : List ℕ) → GoodHead h → GoodHead k →
    rendered_bind h ++ r ≡ rendered_bind k ++ t → (h.1 ≡ k.1) × (r ≡ t)
bind_free h k r t g f q = grind (arith, common_steps, one_way)

-- No call.
pub call_none : (s : List ℕ) → ((rest : List ℕ) → s ≡ 120 ∷ (10 ∷ rest) → ⊥) →
    ((rest : List ℕ) → s ≡ 101 ∷ (10 ∷ rest) → ⊥) → Lacks rendered_bind GoodHead s →
    Lacks call_lines GoodCall s
call_none s x e b (bind query es) rest g h =
    b (query, length es) (flat_map rendered_item es ++ rest) g.0 (grind (arith, common_steps))
call_none s x e b execute rest g h = x rest h
call_none s x e b end rest g h = e rest h

-- A bind without its value lines.
pub call_short : (s behind : List ℕ) (query count : ℕ) →
    Reads rendered_bind GoodHead s (query, count) behind → NoLines behind count →
    Lacks call_lines GoodCall s
call_short s behind query count r f (bind other es) rest g h =
    let same =
    bind_free (query, count) (other, length es) behind (flat_map rendered_item es ++ rest)
    r.good g.0 (grind (arith, common_steps)) in
    f es rest (sym same.0) g.1 g.2 same.1
call_short s behind query count r f execute rest g h = grind (arith)
call_short s behind query count r f end rest g h = grind (arith)

-- A bind with its values.
pub bind_read : (s behind rest : List ℕ) (query count : ℕ) (b : Bundle) (t : Turn) →
    Reads rendered_bind GoodHead s (query, count) behind → ValuesRead behind count b rest →
    BindTurn query b t → TurnRead s t rest
bind_read s behind rest query count b t r v turn =
    let es = v.block.items in
    record {
      call = bind query es;
      reads = grind (arith, common_steps);
      turn = grind (arith, common_steps);
      room = turn.room;
    }

-- The room that is still to lend.
abbrev pub room_left : Option (List ℕ) → List Given → Option (List ℕ)
room_left room [] = room
room_left room (g ∷ gs) = None

-- None is left of none.
none_left : (gs : List Given) → room_left None gs ≡ None
none_left gs = grind (arith)

-- None is left once there was a call.
pushed_left : (room : Option (List ℕ)) (gs : List Given) (g : Given) →
    room_left room (gs ++ (g ∷ [])) ≡ None
pushed_left room [] g = refl
pushed_left room (x ∷ gs) g = refl

-- One more turn, which lends what was left.
turns_push : (room : Option (List ℕ)) (gs : List Given) (ts : List Turn) (g : Given) (t : Turn) →
    TurnsFor room gs ts → TurnFor g t → fresh_bytes t.lent.room ≡ room_left room gs →
    TurnsFor room (gs ++ (g ∷ [])) (ts ++ (t ∷ []))
turns_push room [] [] g t h x e = (x, e, tt)
turns_push room [] (u ∷ ts) g t h x e = absurd h
turns_push room (y ∷ gs) [] g t h x e = absurd h
turns_push room (y ∷ gs) (u ∷ ts) g t h x e =
    (h.0, h.1, turns_push None gs ts g t h.2 x (grind (arith, none_left)))

-- The letter of a turn is that of its call.
letter_is : (g : Given) (t : Turn) → TurnFor g t → letter_of_call t.call ≡ call_letter g
letter_is g t h = let a = h.asks in grind (arith)

-- Calls were read, and rest is what stands behind them.
pub record Reading
    (room s rest : List ℕ) (turns : List Turn) (lent : Option (Vec ℕ Global)) : Type 0 where
  pub calls : List Given
  pub good : AllByRecursion GoodCall calls
  pub begins : s ≡ flat_map call_lines calls ++ rest
  pub letters_are : map (λ t. letter_of_call t.call) turns ≡ map call_letter calls
  pub turns_are : TurnsFor (Some room) calls turns
  pub lends : fresh_bytes lent ≡ room_left (Some room) calls

-- One more call was read, and its turn lends the room that was left.
pub reading_more :
    (room s rest behind : List ℕ) (turns next : List Turn) (lent : Option (Vec ℕ Global)) →
    (read turn : Turn) →
    Reading room s rest turns lent → TurnRead rest read behind →
    turn ≡ record read { lent = record read.lent { room = lent } } →
    next ≡ turns ++ (turn ∷ []) → Reading room s behind next None
reading_more room s rest behind turns next lent read turn w x is further =
    let g = x.call in
    let tf : TurnFor g turn = grind (arith) in
    let l = letter_is g turn tf in
    let lends = turns_push (Some room) w.calls turns g turn w.turns_are tf (grind (arith)) in
    record {
      calls = w.calls ++ (g ∷ []);
      good = grind (arith, all_append);
      begins = one_more call_lines w.calls g s rest behind w.begins x.reads.begins;
      letters_are = grind (arith, map-append);
      turns_are = rw further lends;
      lends = sym (pushed_left (Some room) w.calls g);
    }
