-- Acceptance and refusal, and two refusals, exclude one another.
use Rattle.std.proofs.Common.{◌≡◌, ℕ, ◌-◌, ◌<◌, ◌≤◌, List, ◌++◌, take, drop, ap, ◌∙◌, ⊎_elim, append_assoc, arith}
use Rattle.std.proofs.lemmas.List.{take-append-drop, take-take}
use Rattle.std.proofs.lemmas.Bool.{cases_order}
use Rattle.sheet.proofs.Moves.{together_append}
use Rattle.sheet.specs.Sheet.{Sheet, render, together, Holds, Begins, Exclusive}

cut : (n : ℕ) (ls : List (List ℕ)) (rest : List ℕ) →
    together ls ++ rest ≡ together (take n ls) ++ (together (drop n ls) ++ rest)
cut n ls rest =
    let a = ap together (take-append-drop n ls) in
    let b = together_append (take n ls) (drop n ls) in
    let d = append_assoc (together (take n ls)) (together (drop n ls)) rest in
    cc

whole_begins : (s : List ℕ) (x : Sheet) (n : ℕ) → Holds s x → Begins s n
whole_begins s x n h =
    record { sheet = x; good = h.good; rest = together (drop n (render x)) ++ h.rest; begins = h.begins ∙ cut n (render x) h.rest }

fewer_begin : (s : List ℕ) (m n : ℕ) → n ≤ m → Begins s m → Begins s n
fewer_begin s m n l b =
    let ls = take m (render b.sheet) in
    let e = ap (λ z. together z ++ (together (drop n ls) ++ b.rest)) (take-take n m (render b.sheet) l) in
    record { sheet = b.sheet; good = b.good; rest = together (drop n ls) ++ b.rest; begins = b.begins ∙ (cut n ls b.rest ∙ e) }

pub exclusive : Exclusive
exclusive = (
  (λ s x n h r. r.bad (whole_begins s x n h)),
  (λ s m n a b.
      ⊎_elim
      (λ e. e)
      (λ o. ⊎_elim
      (λ (l : m < n). absurd (a.bad (fewer_begin s (n - 1) m (omega arith) b.before)))
      (λ (l : n < m). absurd (b.bad (fewer_begin s (m - 1) n (omega arith) a.before)))
      o)
      (cases_order m n)),
)
