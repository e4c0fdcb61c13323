-- What stands where is what is read there.
use Rattle.std.proofs.Common.{◌≡◌, ℕ, zero, suc, ◌+◌, ◌<◌, ◌≤◌, List, [], ◌∷◌, ◌++◌, length, get_or, drop, Some, None, Option, sym, refl, ap, ◌∙◌, subst, append_assoc, append-nil, arith, Bor, MatchOption}
use Rattle.std.specs.List.{flat_map, AllByRecursion}
use Rattle.std.proofs.lemmas.List.{drop_all}
use Rattle.std.proofs.lemmas.List.Folds.{flat_map-map}
use Rattle.figures.specs.Reading.{Reads, Lacks}
use Rattle.values.specs.Value.{Value, null}
use Rattle.host.specs.Outcome.{Outcome, row, done, failed}
use Rattle.sheet.proofs.Decoded.{row_bytes}
use Rattle.sheet.proofs.Runs.{Free, value_free, name_free, head_free}
use Rattle.sheet.specs.Sheet.{rendered_name, rendered_value, failed_line, row_line, body_lines, together, GoodName, GoodValue, GoodOutcome}
use Rattle.sheet.specs.Lines.{cell_of, rendered_head, PlainHead}
use Rattle.sheet.specs.Places.{At, Plays, Behind}
use Rattle.sheet.specs.declared.lines.Cell.{Cell}
use Rattle.sheet.specs.declared.lines.Head.{Head}
use Rattle.sheet.specs.declared.lines.Head.TheVariants as heads
use Rattle.sheet.specs.declared.play.Move.TheVariants as moves

-- What reading one line gives, if it does: a T and the bytes behind the line.
abbrev pub Got : Type 0 → Type 0
Got T = Option (T × Bor (List ℕ))

-- What is known of a reader's answers.
abbrev pub Reader : Type 0 → Type 1
Reader T = Bor (List ℕ) → Got T → Type 0

-- A line is read where one stands, and it is seen as a V.
abbrev pub Law : {T V : Type 0} → (V → List ℕ) → (V → Type 0) → (T → V) → Reader T → Type 0
Law {T} write Good view Read =
    (b : Bor (List ℕ)) (o : Got T) → Read b o →
    MatchOption o (Lacks write Good b.now) (λ p. Reads write Good b.now (view p.0) p.1.now)

-- One line is read, and then the others.
pub behind_step : {T : Type 0} (Read : Reader T) {s : List ℕ} (m n : ℕ) (r : Option (Bor (List ℕ)))
    (b : Bor (List ℕ)) (o : Got T) → m ≡ n + 1 → b.now ≡ s → Read b o →
    MatchOption o (r ≡ None) (λ p. Behind Read p.1.now n r) → Behind Read s m r
behind_step Read {s = s} m n r b o e f g h =
    let i : m ≡ suc n = omega arith in
    subst (λ k. Behind Read s k r) (sym i) (b, o, f, g, h)

in_both : {A C : Type 0} (N : Type 0) {P Q : A → Type 0} (o : Option A) →
    MatchOption o ⊥ P → MatchOption o N Q → ((x : A) → P x → Q x → C) → C
in_both N None a b f = absurd a
in_both N (Some x) a b f = f x a b

-- At t stands line n of so many.
pub record There {V : Type 0} (write : V → List ℕ) (Good : V → Type 0) (d : V) (vs : List V) (n : ℕ)
    (t : List ℕ) : Type 0 where
  pub good : Good (get_or vs n d)
  pub rest : List ℕ
  pub begins : t ≡ write (get_or vs n d) ++ rest

there : {V : Type 0} (write : V → List ℕ) (Good : V → Type 0) (d : V) (n : ℕ) (vs : List V)
    (rest t : List ℕ) → n < length vs → AllByRecursion Good vs →
    t ≡ flat_map write (drop n vs) ++ rest → There write Good d vs n t
there write Good d n [] rest t h g e = absurd (omega arith)
there write Good d zero (v ∷ vs) rest t h g e =
    let a = append_assoc (write v) (flat_map write vs) rest in
    record { good = g.0; rest = flat_map write vs ++ rest; begins = e ∙ a }
there write Good d (suc n) (v ∷ vs) rest t h g e =
    let x = there write Good d n vs rest t (omega arith) g.1 e in
    record { good = x.good; rest = x.rest; begins = x.begins }

module _ {T V : Type 0} (write : V → List ℕ) (Good : V → Type 0) (view : T → V)
    (free : Free write Good) (Read : Reader T) (law : Law write Good view Read) where
  -- Where a line stands, it is read.
  line_is : (s : List ℕ) (v : V) (rest : List ℕ) (o : Got T) → Good v → s ≡ write v ++ rest →
      MatchOption o (Lacks write Good s) (λ p. Reads write Good s (view p.0) p.1.now) →
      MatchOption o ⊥ (λ p. (view p.0 ≡ v) × (p.1.now ≡ rest))
  line_is s v rest None g e f = f v rest g e
  line_is s v rest (Some p) g e f = free (view p.0) v p.1.now rest f.good g (sym f.begins ∙ e)

  -- Where lines stand, so many are read, and the others are behind them.
  lines_are : (n : ℕ) (vs : List V) (rest s : List ℕ) (r : Option (Bor (List ℕ))) →
      n ≤ length vs → AllByRecursion Good vs → s ≡ flat_map write vs ++ rest → Behind Read s n r →
      MatchOption r ⊥ (λ t. t.now ≡ flat_map write (drop n vs) ++ rest)
  lines_are zero vs rest s None h g e x = x
  lines_are zero vs rest s (Some t) h g e x = x ∙ e
  lines_are (suc n) [] rest s r h g e x = absurd (omega arith)
  lines_are (suc n) (v ∷ vs) rest s r h g e x =
      let b = e ∙ append_assoc (write v) (flat_map write vs) rest in
      let a = line_is x.0.now v (flat_map write vs ++ rest) x.1 g.0 (x.2 ∙ b) (law x.0 x.1 x.3) in
      in_both (r ≡ None) x.1 a x.4
      (λ p i y. lines_are n vs rest p.1.now r (omega arith) g.1 i.1 y)

  -- And behind n of them, line n comes next.
  line_there : (d : V) (n : ℕ) (vs : List V) (rest s : List ℕ) (r : Option (Bor (List ℕ))) →
      n < length vs → AllByRecursion Good vs → s ≡ flat_map write vs ++ rest → Behind Read s n r →
      MatchOption r ⊥ (λ t. There write Good d vs n t.now)
  line_there d n vs rest s r h g e x = at r (lines_are n vs rest s r (omega arith) g e x)
    where
      at : (r : Option (Bor (List ℕ))) →
          MatchOption r ⊥ (λ t. t.now ≡ flat_map write (drop n vs) ++ rest) →
          MatchOption r ⊥ (λ t. There write Good d vs n t.now)
      at None y = y
      at (Some t) y = there write Good d n vs rest t.now h g y

pub value_there : (Read : Reader Cell) → Law rendered_value GoodValue cell_of Read →
    (n : ℕ) (vs : List Value) (rest s : List ℕ) (r : Option (Bor (List ℕ))) →
    n < length vs → AllByRecursion GoodValue vs → s ≡ flat_map rendered_value vs ++ rest →
    Behind Read s n r → MatchOption r ⊥ (λ t. There rendered_value GoodValue null vs n t.now)
value_there Read law = line_there rendered_value GoodValue cell_of value_free Read law null

pub name_there : (Read : Reader (Bor (List ℕ))) → Law rendered_name GoodName (λ n. n.now) Read →
    (n : ℕ) (ns : List (List ℕ)) (rest s : List ℕ) (r : Option (Bor (List ℕ))) →
    n < length ns → AllByRecursion GoodName ns → s ≡ flat_map rendered_name ns ++ rest →
    Behind Read s n r → MatchOption r ⊥ (λ t. There rendered_name GoodName [] ns n t.now)
name_there Read law = line_there rendered_name GoodName (λ n. n.now) name_free Read law []

-- The first line of the outcomes that are left.
abbrev first_head : List Outcome → Head
first_head [] = heads.End
first_head (row vs ∷ os) = heads.Row
first_head (done ∷ os) = heads.Done
first_head (failed code ∷ os) = heads.Failed code

-- What is between it and the bytes behind the sheet.
abbrev behind_head : List Outcome → List ℕ
behind_head [] = []
behind_head (row vs ∷ os) = flat_map rendered_value vs ++ together (body_lines os)
behind_head (done ∷ os) = together (body_lines os)
behind_head (failed code ∷ os) = together (body_lines os)

first_good : (c : ℕ) (os : List Outcome) → AllByRecursion (GoodOutcome c) os →
    PlainHead (first_head os)
first_good c [] g = tt
first_good c (row vs ∷ os) g = tt
first_good c (done ∷ os) g = tt
first_good c (failed code ∷ os) g = g.0

first_line : (os : List Outcome) →
    together (body_lines os) ≡ rendered_head (first_head os) ++ behind_head os
first_line [] = refl
first_line (row vs ∷ os) = ap (λ l. 82 ∷ (10 ∷ l)) (row_bytes vs os)
first_line (done ∷ os) = refl
first_line (failed code ∷ os) = refl

at_head : {s : List ℕ} {c : ℕ} (os : List Outcome) (x : At s c os) →
    s ≡ rendered_head (first_head os) ++ (behind_head os ++ x.rest)
at_head os x =
    x.begins ∙ (ap (λ l. l ++ x.rest) (first_line os) ∙ append_assoc (rendered_head (first_head os)) (behind_head os) x.rest)

pub never_lacks : {s : List ℕ} {c : ℕ} (os : List Outcome) → At s c os →
    Lacks rendered_head PlainHead s → ⊥
never_lacks {c = c} os x f =
    f (first_head os) (behind_head os ++ x.rest) (first_good c os x.good) (at_head os x)

pub head_is_first : {s : List ℕ} {c : ℕ} (os : List Outcome) (x : At s c os) (h : Head) (t : List ℕ)
    →
    Reads rendered_head PlainHead s h t → (h ≡ first_head os) × (t ≡ behind_head os ++ x.rest)
head_is_first {c = c} os x h t r =
    head_free h (first_head os) t (behind_head os ++ x.rest) r.good (first_good c os x.good) (sym r.begins ∙ at_head os x)

-- Playing what stands there answers it.
pub plays_done : {s : List ℕ} {c : ℕ} (os : List Outcome) → At s c os →
    (h : Head) (t : Bor (List ℕ)) → Reads rendered_head PlainHead s h t.now → h ≡ heads.Done →
    Plays s c os (Some (record { outcome = moves.Done; next = t }))
plays_done [] x h t r e =
    let w : heads.Done ≡ heads.End = sym e ∙ (head_is_first [] x h t.now r).0 in cc
plays_done (row vs ∷ os) x h t r e =
    let w : heads.Done ≡ heads.Row = sym e ∙ (head_is_first (row vs ∷ os) x h t.now r).0 in cc
plays_done (failed k ∷ os) x h t r e =
    let w : heads.Done ≡ heads.Failed k = sym e ∙ (head_is_first (failed k ∷ os) x h t.now r).0 in cc
plays_done (done ∷ os) x h t r e =
    let w = head_is_first (done ∷ os) x h t.now r in
    record {
      played = tt;
      begins = r.begins ∙ ap (λ z. rendered_head z ++ t.now) e;
      others = record { good = x.good.1; rest = x.rest; begins = w.1 };
    }

pub plays_failed : {s : List ℕ} {c : ℕ} (os : List Outcome) → At s c os →
    (h : Head) (t : Bor (List ℕ)) → Reads rendered_head PlainHead s h t.now →
    (code : ℕ) → h ≡ heads.Failed code →
    Plays s c os (Some (record { outcome = moves.Failed code; next = t }))
plays_failed [] x h t r code e =
    let w : heads.Failed code ≡ heads.End = sym e ∙ (head_is_first [] x h t.now r).0 in cc
plays_failed (row vs ∷ os) x h t r code e =
    let w : heads.Failed code ≡ heads.Row = sym e ∙ (head_is_first (row vs ∷ os) x h t.now r).0 in cc
plays_failed (done ∷ os) x h t r code e =
    let w : heads.Failed code ≡ heads.Done = sym e ∙ (head_is_first (done ∷ os) x h t.now r).0 in cc
plays_failed (failed k ∷ os) x h t r code e =
    let w = head_is_first (failed k ∷ os) x h t.now r in
    let z : heads.Failed code ≡ heads.Failed k = sym e ∙ w.0 in
    let line = sym (append-nil (failed_line k)) in
    record {
      played = cc;
      begins = r.begins ∙ (ap (λ z. rendered_head z ++ t.now) w.0 ∙ ap (λ l. l ++ t.now) line);
      others = record { good = x.good.1; rest = x.rest; begins = w.1 };
    }

pub plays_row : {s : List ℕ} {c : ℕ} (os : List Outcome) → At s c os →
    (h : Head) (t : Bor (List ℕ)) → Reads rendered_head PlainHead s h t.now → h ≡ heads.Row →
    (Read : Reader Cell) → Law rendered_value GoodValue cell_of Read →
    (r : Option (Bor (List ℕ))) → Behind Read t.now c r →
    MatchOption r ⊥ (λ u. Plays s c os (Some (record { outcome = moves.Row t; next = u })))
plays_row [] x h t r e Read law a b =
    let w : heads.Row ≡ heads.End = sym e ∙ (head_is_first [] x h t.now r).0 in cc
plays_row (done ∷ os) x h t r e Read law a b =
    let w : heads.Row ≡ heads.Done = sym e ∙ (head_is_first (done ∷ os) x h t.now r).0 in cc
plays_row (failed k ∷ os) x h t r e Read law a b =
    let w : heads.Row ≡ heads.Failed k = sym e ∙ (head_is_first (failed k ∷ os) x h t.now r).0 in cc
plays_row {s = s} {c = c} (row vs ∷ os) x h t r e Read law a b =
    let w = (head_is_first (row vs ∷ os) x h t.now r).1 in
    let many = x.good.0.0 in
    let behind = together (body_lines os) ++ x.rest in
    let i = append_assoc (flat_map rendered_value vs) (together (body_lines os)) x.rest in
    played behind (w ∙ i) refl a
    (lines_are rendered_value GoodValue cell_of value_free Read law c vs behind t.now a
    (omega arith) x.good.0.1 (w ∙ i) b)
  where
    played : (behind : List ℕ) → t.now ≡ flat_map rendered_value vs ++ behind →
        behind ≡ together (body_lines os) ++ x.rest → (a : Option (Bor (List ℕ))) →
        MatchOption a ⊥ (λ u. u.now ≡ flat_map rendered_value (drop c vs) ++ behind) →
        MatchOption a ⊥ (λ u. Plays s c (row vs ∷ os) (Some (record { outcome = moves.Row t; next = u })))
    played behind w f None y = y
    played behind w f (Some u) y =
        let all = drop_all c vs (omega (arith, x.good.0.0)) in
        let next : u.now ≡ behind = y ∙ ap (λ l. flat_map rendered_value l ++ behind) all in
        let first : s ≡ row_line ++ t.now = r.begins ∙ ap (λ z. rendered_head z ++ t.now) e in
        let values = w ∙ ap (λ l. flat_map rendered_value vs ++ l) (sym next) in
        let lines = sym (flat_map-map (λ l. l) rendered_value vs) in
        record {
          played = (first, values);
          begins = first ∙ ap (λ l. row_line ++ l) (values ∙ ap (λ l. l ++ u.now) lines);
          others = record { good = x.good.1; rest = x.rest; begins = next ∙ f };
        }
