-- The client of a block shows a world.
use Rattle.std.specs.Prelude.{◌≡◌, ◌&&◌, ◌||◌, is_some, is_none, Bool, [], map, slice_get, Option, Some, None}
use Rattle.hd_base.specs.declared.numbers.BlockId.{BlockId}
use Rattle.hd_base.specs.declared.links.LinkIn as link_in
use Rattle.hd_base.specs.declared.links.LinkOut as link_out
use Rattle.hd_base.specs.declared.roads.Roads as roads
use Rattle.hd_base.specs.SumRules.{default_rule}
use Rattle.name_core.specs.declared.desks.Desk as desks
use Rattle.road_traffic.specs.Showing.{Net}
use Rattle.world.specs.Parts as parts
use Rattle.world.specs.Worlds.{World}
use Rattle.writer_core.specs.declared.records.WriterRecord.{WriterRecord}
use Rattle.writer_core.specs.Transitions.{fresh, has_step}
use Rattle.client_events.specs.MemberEvents.Showing.{ShowsWorld}
use Rattle.client_events.specs.declared.acting.Said.{Said}
use Rattle.client_events.specs.declared.pipes.Pipe.TheVariants as pipe
use Rattle.client_events.specs.Showing.{PipeShows, PipeFits, OthersStay}
use Rattle.play_clients.specs.declared.clients.Client.{Client}

-- The client of a block that was given no command.
pub record IsNew {I O : Type 0} (c : Client I O) (block : BlockId) : Type 0 where
  pub block_is : c.block ≡ block
  pub rule : c.rule ≡ default_rule
  pub writer : c.writer ≡ None
  pub pipe_is : c.pipe ≡ pipe.Closed
  pub queue : c.queue.items ≡ []
  pub said : c.said.items ≡ []

-- what a writer knows, which has taken no command before it is made
abbrev pub known_of : BlockId → Option WriterRecord → WriterRecord
known_of block None = fresh block default_rule
known_of block (Some x) = x

-- the writer does or asks something, or takes a command
abbrev pub client_has_step : {I O : Type 0} → Client I O → Bool
client_has_step c =
    has_step (known_of c.block c.writer) ||
    (is_none (known_of c.block c.writer).waiting && is_some (slice_get c.queue.items 0))

-- the answer to a command, in the world's record
abbrev pub said_as : Said → parts.Said
said_as s = record { ordinal = s.ordinal; answer = s.answer }

-- The writer of the block, for which no answer of the office waits, its connection, and what was answered.
pub record ClientShows {I O : Type 0} (i : link_in.Ghosts I) (o : link_out.Ghosts O) (w : World) (net : Net)
    (c : Client I O) : Type 0 where
  pub writer : (w.writers c.block.0).known ≡ known_of c.block c.writer
  pub told : (w.writers c.block.0).told ≡ None
  pub pipe_is : PipeShows i o w net (w.writers c.block.0).conn c.pipe
  pub fits : PipeFits (known_of c.block c.writer).phase c.pipe
  pub said : map said_as c.said.items ≡ w.said c.block.0

-- The client, the office and the roads show the world.
pub record ClientStands {D R I O : Type 0} (d : desks.Ghosts D) (r : roads.Ghosts R I O) (i : link_in.Ghosts I)
    (o : link_out.Ghosts O) (w : World) (net : Net) (c : Client I O) (desk : D) (road : R) : Type 0 where
  pub roads_are : ShowsWorld r w net road
  pub client_is : ClientShows i o w net c
  pub office_is : d.office desk ≡ Some w.office

-- The client, the office and the roads show the world after an event, and each end that isn't its own is one of it.
pub record ClientLeft {D R I O : Type 0} (d : desks.Ghosts D) (r : roads.Ghosts R I O) (i : link_in.Ghosts I)
    (o : link_out.Ghosts O) (w : World) (net : Net) (v : World) (made : Net) (old new : Client I O) (desk : D)
    (road : R) : Type 0 where
  pub stands : ClientStands d r i o v made new desk road
  pub others : OthersStay i o w net v made (w.writers old.block.0).conn
  pub block : new.block ≡ old.block
  pub rule : new.rule ≡ old.rule
