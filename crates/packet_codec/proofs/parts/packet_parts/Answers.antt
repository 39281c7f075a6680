-- The parts lie where the frame does.
use Rattle.std.proofs.Common.{◌≡◌, Ok, sym, arith}
use Rattle.packet_codec.specs.Frames.{Frame}
use Rattle.packet_codec.specs.Headers.{header_at}
use Rattle.packet_codec.proofs.PartLemmas.{frame_lies, parts_read}
use Rattle.packet_codec.proofs.parts.packet_parts.Goals as goal

pub overflow_sub-result : goal.overflow_sub-result
overflow_sub-result c =
    let f : Frame = record { header = c.in_ok-header.header.now; rest = c.in_ok-header.data.now; size = c.in_ok-header.size } in
    let lies = frame_lies c.args.bytes.now f (sym c.in_ok-header.ensures.frame) in
    omega (arith, lies.behind)

pub returns-clause-exact : goal.returns-clause-exact
returns-clause-exact c =
    let f : Frame = record { header = c.in_ok-header.header.now; rest = c.in_ok-header.data.now; size = c.in_ok-header.size } in
    let headed : header_at c.in_ok-header.header.now ≡ Ok c.in_ok-header-2.header = sym c.in_ok-header-2.ensures in
    parts_read c.args.bytes.now f c.in_ok-header-2.header c.in_ok-sums.sums (sym c.in_ok-header.ensures.frame) headed (sym c.in_ok-sums.ensures.sums)

pub returns-clause-parts : goal.returns-clause-parts
returns-clause-parts c =
    let f : Frame = record { header = c.in_ok-header.header.now; rest = c.in_ok-header.data.now; size = c.in_ok-header.size } in
    let lies = frame_lies c.args.bytes.now f (sym c.in_ok-header.ensures.frame) in
    omega (arith, lies.behind, c.in_ok-sums.ensures.within)

pub returns-clause-within : goal.returns-clause-within
returns-clause-within c =
    let f : Frame = record { header = c.in_ok-header.header.now; rest = c.in_ok-header.data.now; size = c.in_ok-header.size } in
    (frame_lies c.args.bytes.now f (sym c.in_ok-header.ensures.frame)).within
