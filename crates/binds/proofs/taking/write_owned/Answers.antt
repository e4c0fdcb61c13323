use Rattle.std.proofs.Common.{◌≡◌, length, sym, ap, ◌∙◌, arith}
use Rattle.std.proofs.lemmas.List.Sums.{sum_by-drop_more}
use Rattle.binds.specs.Pairs.{owned_span, span_fits, span_length}
use Rattle.binds.proofs.Collect.{none, fits_at, room_next, all_written}
use Rattle.binds.proofs.taking.write_owned.Goals as goal

pub loop-value-preserved : goal.loop-value-preserved
loop-value-preserved c =
    let ps = c.args.pairs.now in
    let i = c.loop-value.value-index in
    let f = fits_at (length c.args.given.now) owned_span ps i (omega arith) c.requires.inside in
    let r : c.room_bytes-at.result ≡ span_length c.owned.result = c.room_bytes-at.ensures ∙ ap span_length (sym c.owned.ensures) in
    let s = sum_by-drop_more (λ p. span_length (owned_span p.1)) ps i none (omega arith) in
    let x = room_next ps c.args.given.now c.loop-value.room c.write_one.new.room c.args.room.now i c.loop-value.at c.owned.result (omega arith) c.owned.ensures (omega (arith, c.loop-value.invariant.2)) (ap (span_fits (length c.args.given.now)) c.owned.ensures ∙ f) c.loop-value.invariant.0 c.loop-value.invariant.1 c.write_one.ensures in
    (rw r x.0, rw r x.1, omega (arith, c.loop-value.invariant.2))

pub returns : goal.returns
returns c = all_written c.args.pairs.now c.args.given.now c.loop-value.room c.args.room.now c.loop-value.value-index c.loop-value.at (omega arith) c.loop-value.invariant.0 c.loop-value.invariant.1 c.loop-value.invariant.2
