-- One of the writers' stands among theirs, one of the readers' behind them, and one of the primaries' behind both.
use Rattle.std.proofs.Common.{◌<◌, ◌-◌, ◌++◌, ℕ, length, slice_get, sym, ap, ◌∙◌, subst}
use Rattle.play_dues.specs.Own.{own_listed}
use Rattle.play_dues.specs.Primaries.{primaries_listed}
use Rattle.play_dues.specs.Readers.{readers_listed}
use Rattle.play_dues.proofs.ListLaws.{get_front, get_behind}
use Rattle.play_dues.proofs.ListingLaws.{behind_first}
use Rattle.play_dues.proofs.steps.pick_step.Goals as goal

pub returns-then-number-own : goal.returns-then-number-own
returns-then-number-own g c =
    c.pick_own.ensures
    ∙ sym (get_front (own_listed c.args.clients.now) (readers_listed c.args.reads.now.clients.items ++ primaries_listed c.args.recoveries.now.clients.items) c.args.number (subst (λ (k : ℕ). c.args.number < k) c.count_own-own.ensures c.if-number-own.true))

pub returns-then-rest-reading : goal.returns-then-rest-reading
returns-then-rest-reading g c =
    let readers = readers_listed c.args.reads.now.clients.items in
    let led = primaries_listed c.args.recoveries.now.clients.items in
    let rest = c.args.number - c.count_own-own.result in
    let count = c.count_readers-reading.ensures ∙ ap (λ xs. length (readers_listed xs)) c.as_slice.ensures.value in
    c.pick_reader.ensures ∙ (ap (λ xs. slice_get (readers_listed xs) rest) c.as_slice-then-rest-reading.ensures.value
    ∙ (sym (get_front readers led rest (subst (λ (k : ℕ). rest < k) count c.if-rest-reading.true))
    ∙ sym (get_behind (own_listed c.args.clients.now) (readers ++ led) c.args.number rest (behind_first c.args.number c.count_own-own.result (length (own_listed c.args.clients.now)) c.if-number-own.false c.count_own-own.ensures))))

pub returns : goal.returns
returns g c =
    let readers = readers_listed c.args.reads.now.clients.items in
    let led = primaries_listed c.args.recoveries.now.clients.items in
    let rest = c.args.number - c.count_own-own.result in
    let count = c.count_readers-reading.ensures ∙ ap (λ xs. length (readers_listed xs)) c.as_slice.ensures.value in
    c.pick_primary.ensures ∙ (ap (λ xs. slice_get (primaries_listed xs) (rest - c.count_readers-reading.result)) c.as_slice-2.ensures.value
    ∙ (sym (get_behind readers led rest (rest - c.count_readers-reading.result) (behind_first rest c.count_readers-reading.result (length readers) c.if-rest-reading.false count))
    ∙ sym (get_behind (own_listed c.args.clients.now) (readers ++ led) c.args.number rest (behind_first c.args.number c.count_own-own.result (length (own_listed c.args.clients.now)) c.if-number-own.false c.count_own-own.ensures))))
