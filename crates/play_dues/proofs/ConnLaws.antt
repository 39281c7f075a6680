-- What is due of a connection.
use Rattle.std.proofs.Common.{◌++◌, List}
use Rattle.hd_base.specs.declared.links.LinkIn as link_in
use Rattle.hd_base.specs.declared.links.LinkOut as link_out
use Rattle.hd_base.specs.declared.numbers.ConnId.{ConnId}
use Rattle.hd_base.specs.declared.roads.Roads as roads
use Rattle.play_model.specs.declared.dues.Due.TheVariants as due
use Rattle.play_model.specs.Dues.{when}
use Rattle.play_clients.specs.declared.clients.Client.{Client}
use Rattle.play_reads.specs.PlayNodes.Nodes.{Nodes}
use Rattle.play_reads.specs.declared.reads.Reads.{Reads}
use Rattle.play_recoveries.specs.declared.recoveries.Recoveries.{Recoveries}
use Rattle.play_dues.specs.declared.conns.ConnDues.{ConnDues}
use Rattle.play_dues.specs.Conns.{TellsUpper, TellsConn}
use Rattle.play_dues.specs.Lowers.{TellsLower, TellsActs}

module _ {F R I O : Type 0} (r : roads.Ghosts R I O) (i : link_in.Ghosts I) (o : link_out.Ghosts O) where
  pub conn_told : (n : Nodes F I O) (clients : List (Client I O)) (reads : Reads I O) (recoveries : Recoveries I O) (conn : ConnId) (road mid road' : R) (x : ConnDues) → TellsLower r i o conn n reads recoveries road mid x.down → TellsActs i o conn n reads recoveries x.ready → TellsUpper r i o conn n clients reads recoveries mid road' x.up
      → TellsConn r i o conn n clients reads recoveries road road' x
  conn_told n clients reads recoveries conn road mid road' x downs readies uppers = λ w net queues h.
      let d = downs clients w net queues h in
      let u = uppers w net queues d.0 in
      let y = readies w net queues h.stands.nodes_are h.orderly h.reads_are h.recoveries_are in
      (u.0, (λ j. when (d.1 j) (due.Down conn) ++ (when (y j) (due.Ready conn) ++ when (u.1 j) (due.Up conn))))
