-- What stands next to a reader is what it can hear, where all messages are spelled as they are written.
use Rattle.std.proofs.Common.{◌≡◌, ℕ, true, Some, sym, subst}
use Rattle.std.specs.Prelude.{not}
use Rattle.hd_base.specs.declared.numbers.ConnId.{ConnId}
use Rattle.read_core.specs.declared.reading.ReadPhase.{ReadPhase}
use Rattle.read_core.specs.declared.reading.ReadPhase.TheVariants as phase
use Rattle.read_core.specs.Readings.{ReadingState}
use Rattle.world_settling.specs.World.Parts.{Message, request, packet, ack, response, read_status, recovery_answer, Reader, reads}
use Rattle.world_settling.specs.World.Worlds.{World}
use Rattle.world_settling.specs.World.Connections.{Next, message, the_end, next_up}
use Rattle.world_settling.specs.WorldNets.Drawn.{ComesUp}
use Rattle.world_orders.specs.Orders.{reading, comes_up}
use Rattle.world_orders.proofs.AllOrdered.{next-found}
use Rattle.world_settling.specs.WorldTexts.Texts.{SpellsText, Written}
use Rattle.reader_events.specs.Hearing.{IsNextIn, IsNextOf, CanHear}
use Rattle.reader_events.specs.Orders.{has_answer, HasTaken, ReadersTakeInOrder}

next_in : (p : ReadPhase) (n : ℕ) (m : Message) → HasTaken p n → comes_up reading (not (has_answer p)) m ≡ true → SpellsText m → IsNextIn p (message m)
next_in phase.Asked n (response a) h e spelled = spelled
next_in phase.Asked n (request a) h e spelled = cc
next_in phase.Asked n (packet a) h e spelled = cc
next_in phase.Asked n (ack a) h e spelled = cc
next_in phase.Asked n (read_status a) h e spelled = cc
next_in phase.Asked n (recovery_answer a) h e spelled = cc
next_in (phase.Receiving rule at seqno) n (packet a) h e spelled = spelled
next_in (phase.Receiving rule at seqno) n (request a) h e spelled = cc
next_in (phase.Receiving rule at seqno) n (response a) h e spelled = cc
next_in (phase.Receiving rule at seqno) n (ack a) h e spelled = cc
next_in (phase.Receiving rule at seqno) n (read_status a) h e spelled = cc
next_in (phase.Receiving rule at seqno) n (recovery_answer a) h e spelled = cc
next_in phase.Over n m h e spelled = absurd h

end_in : (p : ReadPhase) → IsNextIn p the_end
end_in phase.Asked = tt
end_in (phase.Receiving rule at seqno) = tt
end_in phase.Over = tt

next_fits : (w : World) (c line : ℕ) (s : ReadingState) (x : Next) → ReadersTakeInOrder w → Written w → next_up w c ≡ Some x → w.readers line ≡ reads c s → IsNextIn s.phase x
next_fits w c line s the_end o written next is = end_in s.phase
next_fits w c line s (message m) o written next is =
    next_in s.phase (w.up_marks c).taken m (o.goes_on line c s is).heard (o.next line c s m is next) (written.ups c (w.up_marks c).taken m (next-found (w.ups c) (w.up_marks c) m next))

-- A reader that reads can hear what stands next on its connection.
pub can_hear : (w : World) (conn : ConnId) (line : ℕ) (s : ReadingState) (x : Next) → ReadersTakeInOrder w → Written w → ComesUp w conn.0 x → w.readers line ≡ reads conn.0 s → CanHear w conn line x
can_hear w conn line s x o written comes is = record {
  comes = comes;
  upper = o.dialled line conn.0 s is;
  fits = subst (λ (r : Reader). IsNextOf r x) (sym is) (next_fits w conn.0 line s x o written comes.next is);
}
