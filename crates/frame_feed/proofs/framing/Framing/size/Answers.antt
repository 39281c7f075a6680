-- A size shows as the decoder reads it, and what is there is less.
use Rattle.std.proofs.Common.{◌≡◌, ℕ, List, drop, Some, sym, ap, ◌∙◌, subst, arith}
use Rattle.std.proofs.lemmas.List.{length-drop}
use Rattle.std.specs.Result.{result_ok}
use Rattle.proto_fields.specs.Frames.{IsCutFrame}
use Rattle.packet_codec.specs.Refusals.{IsCutFrame as IsCutPacket}
use Rattle.op_headers.specs.Requests.{IsCutRequest}
use Rattle.frame_feed.specs.declared.framing.Framing.{Framing}
use Rattle.frame_feed.specs.declared.framing.Framing.TheVariants as framing
use Rattle.frame_feed.specs.Framings.{IsCut, size_at, prefixed_size}
use Rattle.frame_feed.proofs.FramingLemmas.{behind_first, packet_length-size, prefixed_less, request_frame, some_less}
use Rattle.frame_feed.proofs.framing.Framing.size.Goals as goal

pub prefixed_size_of-requires : goal.prefixed_size_of-requires
prefixed_size_of-requires c =
    let cut : IsCutRequest c.args.front.now = subst (λ (f : Framing). IsCut f c.args.front.now) c.in-Request-2.is c.requires in
    subst IsCutFrame (sym (behind_first 3 c.args.front.now)) (request_frame c.args.front.now cut c.if-front-lt-HEAD.false)

pub returns-in-Packet-clause-size : goal.returns-in-Packet-clause-size
returns-in-Packet-clause-size c =
    let cut : IsCutPacket c.args.front.now = subst (λ (f : Framing). IsCut f c.args.front.now) c.in-Packet.is c.requires in
    c.ok.ensures.value ∙ (ap result_ok c.packet_length.ensures.exact
    ∙ (packet_length-size c.args.front.now cut ∙ ap (λ (f : Framing). size_at f c.args.front.now) (sym c.in-Packet.is)))

pub returns-in-Packet-clause-more : goal.returns-in-Packet-clause-more
returns-in-Packet-clause-more c = some_less c.args.self c.args.front.now c.ok.result c.requires (returns-in-Packet-clause-size c)

pub returns-in_ok-size-in-Request-2-clause-more : goal.returns-in_ok-size-in-Request-2-clause-more
returns-in_ok-size-in-Request-2-clause-more c =
    let front : List ℕ = c.args.front.now in
    let cut : IsCutRequest c.args.front.now = subst (λ (f : Framing). IsCut f c.args.front.now) c.in-Request-2.is c.requires in
    let told : prefixed_size (drop 3 c.args.front.now) ≡ Some c.in_ok-size-in-Request-2.size = ap prefixed_size (sym (behind_first 3 c.args.front.now)) ∙ sym c.in_ok-size-in-Request-2.ensures.size in
    let less = prefixed_less (drop 3 c.args.front.now) c.in_ok-size-in-Request-2.size (request_frame c.args.front.now cut c.if-front-lt-HEAD.false) told in
    omega (arith, less, length-drop 3 c.args.front.now)

pub returns-in-Prefixed-clause-more : goal.returns-in-Prefixed-clause-more
returns-in-Prefixed-clause-more c =
    let cut : IsCutFrame c.args.front.now = subst (λ (f : Framing). IsCut f c.args.front.now) c.in-Prefixed.is c.requires in
    some_less framing.Prefixed c.args.front.now c.prefixed_size_of-in-Prefixed.result cut c.prefixed_size_of-in-Prefixed.ensures.size
