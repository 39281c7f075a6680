-- The connection gives what stands next.
use Rattle.std.proofs.Common.{◌≡◌, ◌<◌, Some, cond, set, length, arith, ap, sym, ◌∙◌, length-set}
use Rattle.hd_base.specs.Channels.{Channels, with_taken, is_hungry, filled}
use Rattle.hd_base.specs.Links.{Inbox}
use Rattle.mem_ports.specs.Ends.{held_by}
use Rattle.mem_ports.specs.Duplexes.{channels_of, channel_at}
use Rattle.mem_ports.specs.Roads.{waiting_at}
use Rattle.mem_ports.proofs.DuplexLaws.{channels-at, channels-fed}
use Rattle.mem_ports.proofs.RoadLaws.{plain-parts}
use Rattle.mem_ports.proofs.roads.MemRoadsRoads.exchange.Goals as goal

pub returns-then-take-clause-plain : goal.returns-then-take-clause-plain
returns-then-take-clause-plain c =
    let i = c.args.end.now.id.0 in
    let lower = c.args.end.now.lower in
    let duplexes = c.take_over.new.self.duplexes.items in
    let within : i < length duplexes = omega (arith, c.requires, c.in-Ok.ensures.duplexes) in
    let held : held_by c.take_over.new.end.inward ≡ held_by c.args.end.now.inward = ap held_by c.in-Ok.ensures.inward in
    let fed : channels_of (set duplexes i c.feed.new.self) ≡ cond (is_hungry (held_by c.take_over.new.end.inward)) (with_taken (channels_of duplexes) i lower) (channels_of duplexes) =
    channels-fed duplexes i c.index_mut-duplex.result.now c.feed.new.self lower (is_hungry (held_by c.take_over.new.end.inward)) within c.index_mut-duplex.ensures.value c.feed.ensures.channels in
    let all = fed ∙ ap (λ (b : Inbox). cond (is_hungry b) (with_taken (channels_of duplexes) i lower) (channels_of duplexes)) held ∙ ap (λ (ws : Channels). cond (is_hungry (held_by c.args.end.now.inward)) (with_taken ws i lower) ws) c.in-Ok.ensures.channels in
    rw (c.if-take.true, c.in-Ok.ensures.listening) (ap Some (plain-parts c.args.self.now.listening c.take_over.new.self.dials.items (set duplexes i c.feed.new.self) _ _ _ (ap (λ d. waiting_at d.items) c.in-Ok.ensures.dials) (length-set duplexes i c.feed.new.self ∙ c.in-Ok.ensures.duplexes) all))

pub returns-then-take-clause-taken : goal.returns-then-take-clause-taken
returns-then-take-clause-taken c =
    let i = c.args.end.now.id.0 in
    let lower = c.args.end.now.lower in
    let duplexes = c.take_over.new.self.duplexes.items in
    let old = c.index_mut-duplex.result.now in
    let within : i < length duplexes = omega (arith, c.requires, c.in-Ok.ensures.duplexes) in
    let held : held_by c.take_over.new.end.inward ≡ held_by c.args.end.now.inward = ap held_by c.in-Ok.ensures.inward in
    λ _. ap Some (c.feed.ensures.held ∙ ap (λ b. filled b (channel_at old lower)) held ∙ ap (filled (held_by c.args.end.now.inward)) (sym (channels-at duplexes i old lower within c.index_mut-duplex.ensures.value) ∙ ap (λ (ws : Channels). ws i lower) c.in-Ok.ensures.channels))
