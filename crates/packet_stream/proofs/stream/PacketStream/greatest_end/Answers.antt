-- The next packet may end past what is sent.
use Rattle.std.proofs.Common.{◌≡◌, ◌<◌, subst, ap, sym, ◌∙◌, arith}
use Rattle.packet_stream.specs.Streams.{StreamState, IsStream, start_in}
use Rattle.packet_stream.specs.Extents.{greatest_end}
use Rattle.packet_stream.proofs.ExtentLemmas.{end_past_sent}
use Rattle.packet_stream.proofs.stream.PacketStream.greatest_end.Goals as goal

pub returns-clause-past : goal.returns-clause-past
returns-clause-past c =
    let h : IsStream c.args.self.now = subst IsStream c.self.view_is c.self.invariant.1 in
    let e = end_past_sent c.args.self.now.rule.chunk c.args.self.now.base c.args.self.now.sent (omega (arith, h.chunk.least)) h.base in
    let r = ap (λ (s : StreamState). s.rule.chunk) c.self.view_is in
    let f = c.from.ensures in
    let k = c.chunk.ensures.value in
    let a = c.start.ensures.value in
    let d = c.greatest_end_from.ensures.value in
    let v : c.greatest_end_from.result ≡ greatest_end c.args.self.now.rule.chunk (start_in c.args.self.now) = cc in
    subst (λ n. c.args.self.now.sent < n) (sym v) e
