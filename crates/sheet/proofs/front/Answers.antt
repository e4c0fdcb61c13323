use Rattle.std.proofs.Common.{ℕ, ◌≡◌, ◌+◌, ◌-◌, ◌<◌, ◌≤◌, ◌⊎◌, List, take, length, Option, Some, None, Bor, MatchOption, sym, ap, ◌∙◌, arith, slice_range}
use Rattle.std.proofs.lemmas.List.{take_all}
use Rattle.std.specs.Option.{unwrap_or}
use Rattle.sheet.proofs.front.Goals as goal

-- The first n bytes, or all where there are fewer.
limited : (s : Bor (List ℕ)) (n : ℕ) (g : Option (Bor (List ℕ))) →
    MatchOption g ((n < 0) ⊎ (length s.now < n))
    (λ x. (0 ≤ n) × (n ≤ length s.now) × (x.now ≡ slice_range s.now 0 n) × (length x.now + 0 ≡ n)) →
    (unwrap_or g s).now ≡ take n s.now
limited s n None h = sym (take_all n s.now (omega arith))
limited s n (Some x) h = let e : n - 0 ≡ n = omega arith in h.2 ∙ ap (λ m. take m s.now) e

pub returns : goal.returns
returns c =
    ap (λ z. z.now) c.unwrap_or.ensures ∙ limited c.args.bytes 65536 c.get.result c.get.ensures.lookup.0
