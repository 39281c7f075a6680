-- The connection takes the pieces.
use Rattle.std.proofs.Common.{◌≡◌, not, vec_len, set, arith, rules, ap, ◌∙◌}
use Rattle.hd_base.specs.Channels.{with_given, unflushed}
use Rattle.mem_ports.specs.Ends.{sent_by, lost_by}
use Rattle.mem_ports.specs.Duplexes.{channels_of}
use Rattle.mem_ports.specs.Pieces.{pieces_of}
use Rattle.mem_ports.specs.Traces.{trace_below}
use Rattle.mem_ports.proofs.DuplexLaws.{channels-kept, channels-given}
use Rattle.mem_ports.proofs.roads.MemRoads.take_over.Goals as goal

pub returns-in_err-give-clause-err_channels : goal.returns-in_err-give-clause-err_channels
returns-in_err-give-clause-err_channels c =
    let kept : channels_of (set c.args.self.now.duplexes.items c.args.end.now.id.0 c.give.new.self) ≡ channels_of c.args.self.now.duplexes.items =
    channels-kept c.args.self.now.duplexes.items c.args.end.now.id.0 c.index_mut-duplex.result.now c.give.new.self c.requires c.index_mut-duplex.ensures.value c.in_err-give.ensures.err in
    search rules

pub invariant_of-self-2 : goal.invariant_of-self-2
invariant_of-self-2 c = record {
  dials_known = c.args.self.now.dials_known;
  trace_known = c.carry_on.ensures.below (vec_len c.args.self.now.duplexes) (omega (arith, c.requires, c.args.self.now.duplexes.ok.0)) (ap (trace_below (vec_len c.args.self.now.duplexes)) c.reserve.ensures.items ∙ c.args.self.now.trace_known);
}

pub returns-clause-channels : goal.returns-clause-channels
returns-clause-channels c =
    let given : pieces_of c.from_vec-given.result.items ≡ unflushed (sent_by c.args.end.now.outward) c.args.end.now.outward.flushed (lost_by c.args.end.now.outward) =
    ap pieces_of c.from_vec-given.ensures.items ∙ c.in_ok-share_pieces.ensures ∙ c.deliverable.ensures ∙ cc (c.settle.ensures.sent, c.settle.ensures.flushed, c.settle.ensures.shut, c.settle.ensures.kept, c.settle.ensures.count) in
    channels-given c.args.self.now.duplexes.items c.args.end.now.id.0 c.index_mut-duplex.result.now c.give.new.self (not c.args.end.now.lower) (pieces_of c.from_vec-given.result.items) c.is_shut-shut.result c.requires c.index_mut-duplex.ensures.value c.in_ok-give.ensures.ok
    ∙ ap (λ p. with_given (channels_of c.args.self.now.duplexes.items) c.args.end.now.id.0 (not c.args.end.now.lower) p c.is_shut-shut.result) given
    ∙ ap (λ s. with_given (channels_of c.args.self.now.duplexes.items) c.args.end.now.id.0 (not c.args.end.now.lower) (unflushed (sent_by c.args.end.now.outward) c.args.end.now.outward.flushed (lost_by c.args.end.now.outward)) s) c.is_shut-shut.ensures
