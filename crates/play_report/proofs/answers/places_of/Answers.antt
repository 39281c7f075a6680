-- One place more.
use Rattle.std.proofs.Common.{◌≡◌, ◌<◌, ◌-◌, ℕ, nat_eq, None, get_or, length, refl, arith}
use Rattle.std.specs.HashMap.{get}
use Rattle.play_scripts.proofs.NodeOpening.ListLemmas.{element_or}
use Rattle.play_report.proofs.AnswerLemmas.{placed_none, placed_before}
use Rattle.play_report.proofs.answers.places_of.Goals as goal

pub loop-place-init : goal.loop-place-init
loop-place-init c =
    let said = c.args.said.now in
    let none : (q : ℕ) → get nat_eq c.new-places.result q ≡ None = λ q. rw c.new-places.ensures.empty refl in
    record { within = omega arith; stand = λ q. placed_none said (length said) (get nat_eq c.new-places.result q) q (omega arith) (none q) }

pub loop-place-preserved : goal.loop-place-preserved
loop-place-preserved c =
    let said = c.args.said.now in
    let p = c.loop-place.place in
    let some : 0 < p = c.loop-place-test.true in
    let in_bounds : p - 1 < length said = omega (arith, c.loop-place.invariant.within) in
    let d = c.index-said-place.result in
    record {
      within = omega (arith, c.loop-place.invariant.within);
      stand = placed_before said (λ q. get nat_eq c.loop-place.places q) (λ q. get nat_eq c.insert.new.self q) p (get_or said (p - 1) d) some (element_or said (p - 1) d in_bounds) c.in_ok-insert.ensures.updates.0 c.loop-place.invariant.stand;
    }
