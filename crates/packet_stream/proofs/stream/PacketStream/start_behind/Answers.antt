-- The packet behind begins no earlier.
use Rattle.std.proofs.Common.{◌≡◌, ◌≤◌, subst, ap, sym, ◌∙◌, arith}
use Rattle.packet_stream.specs.Streams.{StreamState, IsStream, start_in}
use Rattle.packet_stream.specs.Extents.{next_start}
use Rattle.packet_stream.proofs.ExtentLemmas.{next_start_rises}
use Rattle.packet_stream.proofs.stream.PacketStream.start_behind.Goals as goal

pub returns-clause-later : goal.returns-clause-later
returns-clause-later c =
    let h : IsStream c.args.self.now = subst IsStream c.self.view_is c.self.invariant.1 in
    let e = next_start_rises c.args.self.now.rule.chunk c.args.self.now.base c.args.self.now.sent c.args.end (omega (arith, h.chunk.least)) h.base c.requires in
    let b = ap (λ (s : StreamState). s.base) c.self.view_is in
    let r = ap (λ (s : StreamState). s.rule.chunk) c.self.view_is in
    let f = c.from.ensures in
    let k = c.chunk.ensures.value in
    let d = c.start_behind.ensures.value in
    let v : c.start_behind.result ≡ next_start c.args.self.now.rule.chunk c.args.self.now.base c.args.end = cc in
    subst (λ n. start_in c.args.self.now ≤ n) (sym v) e
