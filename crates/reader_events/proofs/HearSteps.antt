-- What a reader finds on its connection, and how its read follows that.
use Rattle.std.proofs.Common.{◌≡◌, ℕ, Bool, true, false, Some, Result, Err, inl, inr, refl, sym, ap, ◌∙◌, subst}
use Rattle.std.specs.Global.{Vec}
use Rattle.hd_base.specs.Faults.{FaultsIncreased}
use Rattle.hd_base.specs.Ends.{has_failed}
use Rattle.hd_base.specs.declared.ends.Conn.{Conn}
use Rattle.hd_base.specs.declared.links.LinkIn as link_in
use Rattle.hd_base.specs.declared.links.LinkOut as link_out
use Rattle.hd_base.specs.declared.roads.Roads as roads
use Rattle.hd_base.specs.declared.states.Status.TheVariants as status
use Rattle.proto_fields.specs.Varint.{least_within}
use Rattle.proto_fields.specs.Writing.{tag_text, varint_field}
use Rattle.ack_codec.specs.ResponseTexts.{response_text}
use Rattle.ack_codec.specs.declared.responses.Response.{Response}
use Rattle.packet_codec.specs.Packets.{packet_text}
use Rattle.packet_codec.specs.declared.packets.Packet.{Packet}
use Rattle.visible_read.specs.FrameFeed.Kinds.{responses, packets}
use Rattle.visible_read.specs.FrameFeed.KindLaws.{responses_sound, packets_sound}
use Rattle.visible_read.specs.LinkMessages.Next as nexts
use Rattle.visible_read.specs.LinkMessages.Next.TheVariants as next
use Rattle.visible_read.specs.LinkMessages.Incomings.{IncomingState, nothing_received, NextEnds}
use Rattle.client_events.specs.PipeMember.Looked.TheVariants as looked
use Rattle.client_events.specs.PipeMember.Looks.{looked_of}
use Rattle.read_core.specs.declared.reading.ReadFault.{ReadFault}
use Rattle.read_core.specs.declared.reading.ReadPhase.{ReadPhase}
use Rattle.read_core.specs.declared.reading.ReadPhase.TheVariants as phase
use Rattle.visible_read.specs.declared.talking.ReadFault as reading_fault
use Rattle.visible_read.specs.Hearing.{response_came, packet_came, Hears}
use Rattle.visible_read.specs.Talking.{checksum_ok, Fails, Takes, Follows, Listens, with_received, with_inward}
use Rattle.visible_read.specs.declared.talking.ReadFault.TheVariants as ended
use Rattle.visible_read.specs.declared.talking.ReadStep.{ReadStep}
use Rattle.visible_read.specs.declared.talking.Talk.{Talk}
use Rattle.world_settling.specs.World.Parts.{packet, response, read_status}
use Rattle.world_settling.specs.World.Connections.{Next, message, the_end}
use Rattle.world_settling.specs.World.Clients.{from_node_of}
use Rattle.world_settling.specs.WorldNets.Nets.{held_by, inbox_for}
use Rattle.world_settling.specs.WorldNets.Rows.{text_of}
use Rattle.world_settling.specs.WorldNets.Steps.{is_end}
use Rattle.client_events.proofs.MemberEvents.CauseLaws.{one_risen}
use Rattle.client_events.proofs.MemberEvents.TakeLaws.{message_came, end_came}
use Rattle.reader_events.specs.declared.faults.ReaderFault.{ReaderFault}
use Rattle.reader_events.specs.declared.faults.ReaderFault.TheVariants as fault
use Rattle.reader_events.specs.declared.hearing.Heard.{Heard}
use Rattle.reader_events.specs.Hearing.{read_of, GivesBack, IsGivenBack, heard_read, IsEnded, IsNextIn}
use Rattle.reader_events.specs.Orders.{has_answer}

-- CHECKSUM_OK

pub checksum_text : text_of (read_status status.ChecksumOk) ≡ checksum_ok
unfolding least_within tag_text varint_field
checksum_text = refl

-- WHAT CAME

-- A read takes what stood next, and this is left on its end.
pub record TakesIt {I O : Type 0} (i : link_in.Ghosts I) (o : link_out.Ghosts O) (x : Next) (received : IncomingState) (half' : I) (old new : Talk) (end end' : Conn I O) (how : ReadStep) : Type 0 where
  pub holds : i.held half' ≡ Some (held_by (is_end x))
  pub none : is_end x ≡ false → received ≡ nothing_received
  pub takes : Takes o (from_node_of x) old.core old new end end' how

true_false : true ≡ false → ⊥
true_false h = cc

module _ {I O : Type 0} (i : link_in.Ghosts I) (o : link_out.Ghosts O) where
  -- the answer, or the end, where the answer is awaited
  response_takes : (x : Next) (q : nexts.Next Response) (received : IncomingState) (half half' : I) (old new : Talk) (end end' : Conn I O) (how : ReadStep) → IsNextIn phase.Asked x → i.held half ≡ Some (inbox_for x) → NextEnds responses i nothing_received received half half' q → looked_of q ≡ looked.Known
      → Follows o (response_came q) old new end end' how → TakesIt i o x received half' old new end end' how
  response_takes (message (response a)) q received half half' old new end end' how fits held ends known f =
      let k = message_came responses i responses_sound a (response_text a) received half half' q fits held ends known in
      record { holds = k.holds; none = λ z. k.received; takes = subst (λ (z : nexts.Next Response). Follows o (response_came z) old new end end' how) k.is f }
  response_takes (message other) q received half half' old new end end' how fits held ends known f = absurd fits
  response_takes the_end q received half half' old new end end' how fits held ends known f =
      let k = end_came responses i received half half' q held ends known in
      record { holds = k.holds; none = λ z. absurd (true_false z); takes = subst (λ (z : nexts.Next Response). Follows o (response_came z) old new end end' how) k.is f }

  packet_end : (q : nexts.Next Packet) (received : IncomingState) (half half' : I) (old new : Talk) (end end' : Conn I O) (how : ReadStep) → i.held half ≡ Some (inbox_for the_end) → NextEnds packets i nothing_received received half half' q → looked_of q ≡ looked.Known
      → Follows o (packet_came q) old new end end' how → TakesIt i o the_end received half' old new end end' how
  packet_end q received half half' old new end end' how held ends known f =
      let k = end_came packets i received half half' q held ends known in
      record { holds = k.holds; none = λ z. absurd (true_false z); takes = subst (λ (z : nexts.Next Packet). Follows o (packet_came z) old new end end' how) k.is f }

  -- a packet, or the end, behind it
  packet_takes : (p : ReadPhase) (x : Next) (q : nexts.Next Packet) (received : IncomingState) (half half' : I) (old new : Talk) (end end' : Conn I O) (how : ReadStep) → has_answer p ≡ true → IsNextIn p x → i.held half ≡ Some (inbox_for x) → NextEnds packets i nothing_received received half half' q → looked_of q ≡ looked.Known
      → Follows o (packet_came q) old new end end' how → TakesIt i o x received half' old new end end' how
  packet_takes phase.Asked x q received half half' old new end end' how there fits held ends known f = cc
  packet_takes (phase.Receiving rule at seqno) (message (packet p)) q received half half' old new end end' how there fits held ends known f =
      let k = message_came packets i packets_sound p (packet_text p) received half half' q fits held ends known in
      record { holds = k.holds; none = λ z. k.received; takes = subst (λ (z : nexts.Next Packet). Follows o (packet_came z) old new end end' how) k.is f }
  packet_takes (phase.Receiving rule at seqno) (message other) q received half half' old new end end' how there fits held ends known f = absurd fits
  packet_takes (phase.Receiving rule at seqno) the_end q received half half' old new end end' how there fits held ends known f = packet_end q received half half' old new end end' how held ends known f
  packet_takes phase.Over (message other) q received half half' old new end end' how there fits held ends known f = absurd fits
  packet_takes phase.Over the_end q received half half' old new end end' how there fits held ends known f = packet_end q received half half' old new end end' how held ends known f

  -- How what came is followed: it was taken; the link failed, and its count has risen; or memory ran out.
  pub data Finds (x : Next) (received : IncomingState) (half half' : I) (old new : Talk) (end end' : Conn I O) (how : ReadStep) : Type 0 where
    finds : i.shut half' ≡ i.shut half → TakesIt i o x received half' old new end end' how → Finds x received half half' old new end end' how
    fails : FaultsIncreased (i.faults half) (i.faults half') → Fails o ended.LinkFailed old new end end' how → Finds x received half half' old new end end' how
    wants : Fails o ended.Memory old new end end' how → Finds x received half half' old new end end' how

  response_finds : (x : Next) (q : nexts.Next Response) (received : IncomingState) (half half' : I) (old new : Talk) (end end' : Conn I O) (how : ReadStep) → IsNextIn phase.Asked x → i.held half ≡ Some (inbox_for x) → NextEnds responses i nothing_received received half half' q
      → Follows o (response_came q) old new end end' how → Finds x received half half' old new end end' how
  response_finds x next.Failed received half half' old new end end' how fits held ends f = fails ends.comes.0 f
  response_finds x next.Memory received half half' old new end end' how fits held ends f = wants f
  response_finds x (next.Message a) received half half' old new end end' how fits held ends f = finds ends.shut (response_takes x (next.Message a) received half half' old new end end' how fits held ends refl f)
  response_finds x next.Unreadable received half half' old new end end' how fits held ends f = finds ends.shut (response_takes x next.Unreadable received half half' old new end end' how fits held ends refl f)
  response_finds x next.End received half half' old new end end' how fits held ends f = finds ends.shut (response_takes x next.End received half half' old new end end' how fits held ends refl f)
  response_finds x next.NotYet received half half' old new end end' how fits held ends f = finds ends.shut (response_takes x next.NotYet received half half' old new end end' how fits held ends refl f)

  packet_finds : (p : ReadPhase) (x : Next) (q : nexts.Next Packet) (received : IncomingState) (half half' : I) (old new : Talk) (end end' : Conn I O) (how : ReadStep) → has_answer p ≡ true → IsNextIn p x → i.held half ≡ Some (inbox_for x) → NextEnds packets i nothing_received received half half' q
      → Follows o (packet_came q) old new end end' how → Finds x received half half' old new end end' how
  packet_finds p x next.Failed received half half' old new end end' how there fits held ends f = fails ends.comes.0 f
  packet_finds p x next.Memory received half half' old new end end' how there fits held ends f = wants f
  packet_finds p x (next.Message a) received half half' old new end end' how there fits held ends f = finds ends.shut (packet_takes p x (next.Message a) received half half' old new end end' how there fits held ends refl f)
  packet_finds p x next.Unreadable received half half' old new end end' how there fits held ends f = finds ends.shut (packet_takes p x next.Unreadable received half half' old new end end' how there fits held ends refl f)
  packet_finds p x next.End received half half' old new end end' how there fits held ends f = finds ends.shut (packet_takes p x next.End received half half' old new end end' how there fits held ends refl f)
  packet_finds p x next.NotYet received half half' old new end end' how there fits held ends f = finds ends.shut (packet_takes p x next.NotYet received half half' old new end end' how there fits held ends refl f)

  -- What a read finds in this phase that had received nothing.
  pub read_finds : (p : ReadPhase) (x : Next) (old new : Talk) (end end' : Conn I O) (how : ReadStep) → IsNextIn p x → i.held end.inward ≡ Some (inbox_for x) → old.incoming ≡ nothing_received → old.answered ≡ has_answer p
      → (l : Listens i o old new end end' how) → Finds x l.received end.inward l.half (with_received old l.received) new (with_inward end l.half) end' how
  read_finds phase.Asked x old new end end' how fits held none answered l =
      let h = subst (λ (b : Bool). Hears i b old.incoming l.received end.inward l.half l.found) answered l.hears in
      let ends = subst (λ (s : IncomingState). NextEnds responses i s l.received end.inward l.half h.found) none h.ends in
      response_finds x h.found l.received end.inward l.half (with_received old l.received) new (with_inward end l.half) end' how fits held ends (subst (λ z. Follows o z (with_received old l.received) new (with_inward end l.half) end' how) h.is l.follows)
  read_finds (phase.Receiving rule at seqno) x old new end end' how fits held none answered l =
      let h = subst (λ (b : Bool). Hears i b old.incoming l.received end.inward l.half l.found) answered l.hears in
      let ends = subst (λ (s : IncomingState). NextEnds packets i s l.received end.inward l.half h.found) none h.ends in
      packet_finds (phase.Receiving rule at seqno) x h.found l.received end.inward l.half (with_received old l.received) new (with_inward end l.half) end' how refl fits held ends (subst (λ z. Follows o z (with_received old l.received) new (with_inward end l.half) end' how) h.is l.follows)
  read_finds phase.Over x old new end end' how fits held none answered l =
      let h = subst (λ (b : Bool). Hears i b old.incoming l.received end.inward l.half l.found) answered l.hears in
      let ends = subst (λ (s : IncomingState). NextEnds packets i s l.received end.inward l.half h.found) none h.ends in
      packet_finds phase.Over x h.found l.received end.inward l.half (with_received old l.received) new (with_inward end l.half) end' how refl fits held ends (subst (λ z. Follows o z (with_received old l.received) new (with_inward end l.half) end' how) h.is l.follows)

-- HOW A READ ENDS

module _ {R I O : Type 0} (r : roads.Ghosts R I O) (i : link_in.Ghosts I) (o : link_out.Ghosts O) where
  -- A read that has ended: it was given back, or memory ran out.
  pub ended_by : (P : Result (Heard I O) ReaderFault → Type 0) (end : Conn I O) (read : Result (Vec ℕ) reading_fault.ReadFault) (road road' : R) (result : Result (Heard I O) ReaderFault) → P (Err fault.Memory) → (GivesBack r i o end read road road' (read_of read) → P (heard_read (read_of read)))
      → IsEnded r i o end read road road' result → P result
  ended_by P end read road road' result memory given h = by_given h.gives
    where
      by_given : IsGivenBack r i o end read road road' h.given → P result
      by_given (inl b) = subst P (sym (h.is ∙ ap heard_read b.is)) (given (record { brings = b.brings; is = refl }))
      by_given (inr m) = subst P (sym (h.is ∙ ap heard_read m)) memory

  -- One whose link failed counts as failed once it was brought back.
  pub given_risen : (end : Conn I O) (read : Result (Vec ℕ) reading_fault.ReadFault) (road road' : R) (given : Result (Result (Vec ℕ) ReadFault) ReaderFault) (c : ℕ) → end.id.0 ≡ c → has_failed i o end ≡ true → GivesBack r i o end read road road' given → r.risen road' c ≡ true
  given_risen end read road road' given c at failed g = subst (λ (n : ℕ). r.risen road' n ≡ true) at (one_risen r i o end road road' g.brings failed)
