-- What playing the next outcome of a sheet gives, against the outcomes that are still to come.
use Rattle.std.proofs.Common.{◌≡◌, ℕ, zero, suc, ◌+◌, ◌<◌, List, [], ◌∷◌, ◌++◌, length, drop, Some, None, Option, sym, refl, ap, ◌∙◌, arith, length-append, length-drop}
use Rattle.std.specs.List.{flat_map, AllByRecursion}
use Rattle.std.proofs.lemmas.List.{drop-drop}
use Rattle.std.proofs.lemmas.List.Prefix.{front_rest}
use Rattle.host.specs.Outcome.{Outcome, row, done, failed}
use Rattle.sheet.proofs.Decoded.{values_at_lem, body_long, render_bytes}
use Rattle.sheet.proofs.Ends.{end_behind, end_of_end}
use Rattle.sheet.specs.Sheet.{Sheet, heading_of, rendered_heading, rendered_name, rendered_param, row_line, outcome_lines, body_lines, together, GoodOutcome, WellFormed}
use Rattle.sheet.specs.Decode.{sheet_at}
use Rattle.sheet.specs.Lines.{IsEndOf}
use Rattle.sheet.specs.Places.{At, PlayedAs, Plays}
use Rattle.sheet.specs.declared.checked.CheckedSheet.{CheckedSheet}
use Rattle.sheet.specs.declared.play.Move.{Move}
use Rattle.sheet.specs.declared.play.Move.TheVariants.{Row, Done, Failed}
use Rattle.sheet.specs.declared.play.Played.{Played}
use Rattle.script.specs.Program.{Stands, RowStands, outcome_of, Advanced}

-- What is so of all is so of all from one on.
all_drop : {X : Type 0} (P : X → Type 0) (i : ℕ) (xs : List X) → AllByRecursion P xs →
    AllByRecursion P (drop i xs)
all_drop P zero xs g = g
all_drop P (suc i) [] g = tt
all_drop P (suc i) (x ∷ xs) g = all_drop P i xs g.1

-- What stands at the front of the end stands there whatever comes behind.
stands : (s place : List ℕ) (os : List Outcome) (rest : List ℕ) → IsEndOf s place →
    place ≡ together (body_lines os) ++ rest → Stands s place os
stands s place os rest end e =
    let r = front_rest place (together (body_lines os)) rest e in (end, cc (e, r))

-- The outcomes of a sheet are the end of its bytes.
pub at_start : (c : CheckedSheet) →
    Stands c.bytes.now c.outcomes.now (sheet_at c.bytes.now).outcomes
at_start c =
    let x = sheet_at c.bytes.now in
    let names = flat_map rendered_name x.names in
    let params = flat_map rendered_param x.params in
    let o = c.outcomes.now in
    let first = rendered_heading (heading_of x) in
    let e : c.bytes.now ≡ first ++ (names ++ (params ++ o)) =
    c.whole ∙ (render_bytes x c.rest.now ∙ ap (λ l. first ++ (names ++ (params ++ l))) (sym c.stands)) in
    let below = end_behind (names ++ (params ++ o)) names (params ++ o) refl in
    let end = end_of_end _ _ _ below (end_behind (params ++ o) params o refl) in
    stands c.bytes.now o x.outcomes c.rest.now
    (end_of_end _ _ _ (end_behind c.bytes.now first (names ++ (params ++ o)) e) end) c.stands

-- There are fewer outcomes than bytes.
pub fewer : (s : List ℕ) (os : List Outcome) (rest : List ℕ) →
    s ≡ together (body_lines os) ++ rest → length os < length s
fewer s os rest e =
    omega (arith, body_long os, length-append (together (body_lines os)) rest, ap length e)

-- A played outcome is the one that stands there.
is_played : (columns : ℕ) (s : List ℕ) (o : Outcome) (m : Move) (behind : List ℕ) →
    GoodOutcome columns o → PlayedAs s o m behind → outcome_of columns m ≡ o
is_played columns s (row vs) (Row values) behind g e =
    rw (← g.0, e.1, values_at_lem vs behind g.1) refl
is_played columns s (row vs) Done behind g e = absurd e
is_played columns s (row vs) (Failed code) behind g e = absurd e
is_played columns s done (Row values) behind g e = absurd e
is_played columns s done Done behind g e = refl
is_played columns s done (Failed code) behind g e = absurd e
is_played columns s (failed k) (Row values) behind g e = absurd e
is_played columns s (failed k) Done behind g e = absurd e
is_played columns s (failed k) (Failed code) behind g e = ap failed e

-- And a row's bytes are the end of what they are played from.
row_stands : (s : List ℕ) (o : Outcome) (m : Move) (behind : List ℕ) →
    PlayedAs s o m behind → RowStands s m
row_stands s (row vs) (Row values) behind e = end_behind s row_line values.now e.0
row_stands s done (Row values) behind e = absurd e
row_stands s (failed k) (Row values) behind e = absurd e
row_stands s o Done behind e = tt
row_stands s o (Failed code) behind e = tt

-- They are the end of more, too.
row_further : (t s : List ℕ) (m : Move) → IsEndOf t s → RowStands s m → RowStands t m
row_further t s (Row values) end e = end_of_end t s values.now end e
row_further t s Done end e = tt
row_further t s (Failed code) end e = tt

-- One outcome on, in the bytes s.
pub record Went (s : List ℕ) (columns i : ℕ) (os : List Outcome) (p : Played) : Type 0 where
  pub advanced : Advanced s columns os i p.outcome p.next.now (i + 1)
  pub more : i < length os

went : (s place : List ℕ) (columns i : ℕ) (os ls : List Outcome) (p : Played) → IsEndOf s place →
    drop i os ≡ ls → AllByRecursion (GoodOutcome columns) ls → Plays place columns ls (Some p) →
    Went s columns i os p
went s place columns i os [] p end e g x = absurd x
went s place columns i os (o ∷ ls) p end e g x =
    let next : drop (i + 1) os ≡ ls = sym (drop-drop 1 i os) ∙ ap (drop 1) e in
    let behind = end_behind place (together (outcome_lines o)) p.next.now x.begins in
    let further = end_of_end s place p.next.now end behind in
    let played = row_stands place o p.outcome p.next.now x.played in
    record {
      advanced = record {
        outcome = rw e (is_played columns place o p.outcome p.next.now g.0 x.played);
        row = row_further s place p.outcome end played;
        index = rw e refl;
        stands = rw next (stands s p.next.now ls x.others.rest further x.others.begins);
      };
      more = omega (arith, length-drop i os, ap length e);
    }

-- Past the last outcome nothing is played.
ended : (place : List ℕ) (columns : ℕ) (os : List Outcome) → Plays place columns os None → os ≡ []
ended place columns [] x = refl
ended place columns (o ∷ os) x = absurd x

-- At the end `place` of the bytes s, where outcome i of a sheet stands.
module _ (x : Sheet) (columns i : ℕ) (s place : List ℕ) (good : WellFormed x)
    (every : columns ≡ length x.names) (here : Stands s place (drop i x.outcomes)) where
  to_come : AllByRecursion (GoodOutcome columns) (drop i x.outcomes)
  to_come = rw every (all_drop (GoodOutcome (length x.names)) i x.outcomes good.outcomes)

  plays : (r : Option Played) →
      ((os : List Outcome) → At place columns os → Plays place columns os r) →
      Plays place columns (drop i x.outcomes) r
  plays r ensures =
      let rest = drop (length (together (body_lines (drop i x.outcomes)))) place in
      ensures (drop i x.outcomes) (record { good = to_come; rest = rest; begins = here.1 })

  pub goes_on : (p : Played) →
      ((os : List Outcome) → At place columns os → Plays place columns os (Some p)) →
      Went s columns i x.outcomes p
  goes_on p ensures =
      let next = plays (Some p) ensures in
      went s place columns i x.outcomes (drop i x.outcomes) p here.0 refl to_come next

  pub starts_over : (start : List ℕ) →
      ((os : List Outcome) → At place columns os → Plays place columns os None) →
      Stands s start x.outcomes → Advanced s columns x.outcomes i Done start 0
  starts_over start ensures begins =
      let e = ended place columns (drop i x.outcomes) (plays None ensures) in
      record {
        outcome = rw e refl;
        row = tt;
        index = rw e refl;
        stands = begins;
      }
