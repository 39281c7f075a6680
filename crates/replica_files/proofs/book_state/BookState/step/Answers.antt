-- A refusal is the transition's.
use Rattle.std.proofs.Common.{◌≡◌, refl, ap, ◌∙◌}
use Rattle.replica_model.specs.Rows.{event_at, record_event}
use Rattle.replica_core.specs.Transitions.{state_after, transition, reply}
use Rattle.replica_core.specs.Views.{rule_in}
use Rattle.replica_files.specs.Books.{replica_of}
use Rattle.replica_files.proofs.StepLemmas.{is_refused}
use Rattle.replica_files.proofs.book_state.BookState.step.Goals as goal

pub returns-in-Refused : goal.returns-in-Refused
returns-in-Refused g c =
    let s = c.args.self.now in
    let e = c.core_event-event.result in
    let r = replica_of s in
    let known = c.requires.book.known in
    let same : e ≡ event_at r c.args.event.now =
    c.core_event-event.ensures.value ∙ ap (λ o. record_event o c.args.event.now) (c.rule.ensures ∙ ap rule_in known) in
    record {
      kept = record { block = refl; drawer = refl; last_sum = refl; history = refl; whole = refl };
      known = c.step.ensures.replica ∙ ap (λ k. state_after k e) known ∙ ap (state_after r.known) same;
      answered = is_refused s.replica e c.step.result c.in-Refused.refusal c.step.ensures.answer c.in-Refused.is ∙ ap (λ k. reply (transition k e)) known ∙ ap (λ x. reply (transition r.known x)) same;
    }
