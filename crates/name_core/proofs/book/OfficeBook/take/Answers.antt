-- The office stays the replay of the history.
use Rattle.std.proofs.Common.{◌≡◌, List, [], ◌∷◌, ◌++◌, ap, sym, ◌∙◌, arith}
use Rattle.name_core.specs.declared.calls.OfficeCall.{OfficeCall}
use Rattle.name_core.specs.Offices.{OfficeState, new_office, office_after, run}
use Rattle.name_core.proofs.OfficeLemmas.{run-append, next_within, fits_answer, after_answer}
use Rattle.name_core.proofs.book.OfficeBook.take.Goals as goal

pub take-answer-requires : goal.take-answer-requires
take-answer-requires c =
    λ _. let n = next_within new_office c.self.inside.history.items in
    let e = ap (λ o. o.next.0) c.self.invariant in
    let ok = c.self.inside.history.ok in
    let small = c.self.inside.history.small in
    omega arith

-- the replay of a history with one call more
replay_more : (o n : OfficeState) (calls longer : List OfficeCall) (c : OfficeCall) → o ≡ run new_office calls → n ≡ office_after o c → longer ≡ calls ++ c ∷ [] → n ≡ run new_office longer
replay_more o n calls longer c replay after more =
    after ∙ ap (λ x. office_after x c) replay ∙ sym (run-append new_office calls c) ∙ ap (run new_office) (sym more)

pub invariant_of-self-then-is_entry : goal.invariant_of-self-then-is_entry
invariant_of-self-then-is_entry c =
    let after = after_answer c.self.inside.office c.take-answer.new.self c.args.call c.take-answer.result c.take-answer.ensures.answer c.take-answer.ensures.office c.take-answer.ensures.refused (sym c.is_entry.ensures ∙ c.if-is_entry.true) in
    let more = c.push_reserved.ensures.items ∙ ap (λ xs. xs ++ c.args.call ∷ []) c.reserve.ensures.items in
    replay_more c.self.inside.office c.take-answer.new.self c.self.inside.history.items c.push_reserved.new.self.items c.args.call c.self.invariant after more

pub returns-then-is_entry-clause-fits : goal.returns-then-is_entry-clause-fits
returns-then-is_entry-clause-fits c = fits_answer c.self.inside.office c.args.call c.take-answer.result c.take-answer.ensures.answer

pub returns-then-is_entry-clause-replay : goal.returns-then-is_entry-clause-replay
returns-then-is_entry-clause-replay c = invariant_of-self-then-is_entry c
