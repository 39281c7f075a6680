-- Nothing is put back.
use Rattle.std.proofs.Common.{refl}
use Rattle.play_nodes.proofs.PlaceLaws.{none_put}
use Rattle.play_nodes.proofs.nodes.Nodes.put_back.Goals as goal

pub returns-in-None : goal.returns-in-None
returns-in-None g c = record {
  blocks = refl;
  nodes = refl;
  set = λ at found. none_put c.args.self.now.connections.items c.args.seat.conn c.args.seat.place at c.args.left c.in-None.is found;
}
