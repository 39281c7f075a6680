-- What the event of a reading client does to the roads, and what is left of a client that has failed.
use Rattle.std.specs.Prelude.{◌≡◌, Err}
use Rattle.hd_base.specs.declared.roads.Roads as roads
use Rattle.reader_events.specs.ReadCore.ReadFault.TheVariants as read_fault
use Rattle.reader_events.specs.MemberEvents.Roads.{RoadsPass}
use Rattle.play_readers.specs.declared.clients.ReadClient.{ReadClient}
use Rattle.play_readers.specs.declared.clients.ReadState.TheVariants as state
use Rattle.play_readers.specs.Clients.{ReadIsReady}

-- The client has read no bytes: its read has ended.
abbrev pub HasEnded : {I O : Type 0} → ReadClient I O → ReadClient I O → Type 0
HasEnded old new = new ≡ record { ask = old.ask; state = state.HasRead (Err read_fault.Ended) }

-- The roads know what they knew, and their count of faults hasn't fallen, however the event ends; where the client
-- still reads, it may take a step, and the roads know its end.
pub record ReadClientPasses {R I O : Type 0} (r : roads.Ghosts R I O) (road road' : R) (new : ReadClient I O) :
    Type 0 where
  pub pass : RoadsPass r road road'
  pub ready : ReadIsReady (r.plain road') new.state
