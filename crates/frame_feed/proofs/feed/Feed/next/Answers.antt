-- What is answered by what reading gives is the next message.
use Rattle.std.proofs.Common.{◌≡◌, None, refl, sym, ap, ◌∙◌, subst}
use Rattle.frame_feed.specs.declared.framing.Framing.{Framing}
use Rattle.frame_feed.specs.Framings.{IsCut, missing}
use Rattle.frame_feed.proofs.FeedLemmas.{takes_next, takes_none, answers_of_stream, waits}
use Rattle.frame_feed.proofs.feed.Feed.next.Goals as goal

pub returns-in-Some-known_missing-clause-takes : goal.returns-in-Some-known_missing-clause-takes
returns-in-Some-known_missing-clause-takes g c =
    let kind = g.M.Kind.kind in
    let on : c.args.self.now.refused ≡ None = sym c.refused.ensures.fault ∙ c.in_default.is in
    let cut : IsCut g.M.Kind.kind.framing c.args.self.now.rest = subst (λ (f : Framing). IsCut f c.args.self.now.rest) c.framing.ensures c.in-Some-known_missing.ensures.cut in
    let lacks : c.in-Some-known_missing.missing ≡ missing g.M.Kind.kind.framing c.args.self.now.rest = c.in-Some-known_missing.ensures.missing ∙ ap (λ (f : Framing). missing f c.args.self.now.rest) c.framing.ensures in
    takes_none g.M.Kind.kind c.args.self.now _ c.wait.new.self g.met.M.Kind.sound c.known_missing.ensures.bytes on (g.met.M.Kind.sound.cut c.args.self.now.rest cut) refl
    (c.wait.ensures ∙ waits c.args.self.now g.M.Kind.kind.framing c.in-Some-known_missing.missing on lacks)

pub returns-clause-takes : goal.returns-clause-takes
returns-clause-takes g c =
    let on : c.args.self.now.refused ≡ None = sym c.refused.ensures.fault ∙ c.in_default.is in
    takes_next g.M.Kind.kind c.args.self.now c.take.result c.take.new.self g.met.M.Kind.sound c.known_missing.ensures.bytes on c.take.ensures

pub returns-clause-of_stream : goal.returns-clause-of_stream
returns-clause-of_stream g c = answers_of_stream g.M.Kind.kind c.args.self.now c.take.result c.take.new.self g.met.M.Kind.sound c.known_missing.ensures.bytes c.take.ensures
