-- What a line asks to read: the request, and the event in which it is sent.
use Rattle.std.specs.Prelude.{ℕ, Bool}
use Rattle.hd_base.specs.declared.numbers.BlockId.{BlockId}
use Rattle.hd_base.specs.declared.numbers.NodeId.{NodeId}
use Rattle.name_core.specs.Offices.{committed_in}
use Rattle.world_laws.specs.OpHeaders.ReadOp.{ReadOp}
use Rattle.world_laws.specs.WriterCore.Requests.{pool_name, client_name}
use Rattle.world_laws.specs.World.Event.{Event}
use Rattle.world_laws.specs.World.Event.TheVariants as event
use Rattle.world_laws.specs.World.OwnStep.TheVariants as own
use Rattle.world_laws.specs.World.Worlds.{World}
use Rattle.play_model.specs.declared.asks.ReadAsk.{ReadAsk}

-- the request: the block under this stamp, without its length, which a read doesn't say, by the block's client
unfoldable pub request_of : ReadAsk → ReadOp
request_of ask = record {
  block = record { pool = pool_name; block = ask.block; stamp = ask.stamp; bytes = 0 };
  client = client_name ask.block;
  offset = ask.offset;
  len = ask.len;
}

-- the reader of this line asks its node, and its dial is answered or isn't
abbrev pub asking_node : ReadAsk → Bool → Event
asking_node ask answered = event.Own (own.Reader ask.reader ask.node (request_of ask) answered)

-- what the line of this number asks: so many bytes of a block at a node, from this offset on, under the stamp that the
-- office has committed at that moment, 0 where it doesn't know the block
abbrev pub ask_at : World → ℕ → BlockId → NodeId → ℕ → ℕ → ReadAsk
ask_at w number b node offset count = record {
  reader = number;
  node = node;
  block = b;
  stamp = committed_in w.office b;
  offset = offset;
  len = count;
}
