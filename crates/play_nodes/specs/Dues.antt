-- Which events of the nodes are due, as the nodes and the roads tell.
use Rattle.std.specs.Prelude.{◌≡◌, ◌<◌, not, Bool, true, false, slice_get, option_map, unwrap_or, Option, Some, ℕ}
use Rattle.hd_base.specs.declared.ends.Standing.{Standing}
use Rattle.hd_base.specs.declared.ends.Standing.TheVariants as standing
use Rattle.hd_base.specs.declared.links.LinkIn as link_in
use Rattle.hd_base.specs.declared.links.LinkOut as link_out
use Rattle.hd_base.specs.declared.numbers.ConnId.{ConnId}
use Rattle.hd_base.specs.declared.roads.Roads as roads
use Rattle.road_traffic.specs.Showing.{Net}
use Rattle.play_model.specs.World.Parts.{by_member, idle}
use Rattle.play_model.specs.World.Worlds.{World}
use Rattle.play_model.specs.WorldLaws.Placing.{Placed}
use Rattle.world_orders.specs.Open.{OpenEnds}
use Rattle.world_orders.specs.Orders.{Ordered}
use Rattle.play_model.specs.declared.dues.Due.TheVariants as due
use Rattle.play_model.specs.Dues.{Queues, is_due}
use Rattle.play_nodes.specs.declared.connections.Lower.{Lower}
use Rattle.play_nodes.specs.declared.connections.Lower.TheVariants as lower
use Rattle.play_nodes.specs.declared.nodes.Nodes.{Nodes}
use Rattle.play_nodes.specs.Events.{IsBusy}
use Rattle.play_nodes.specs.Showing.{is_pipeline, IsOfPipeline, stands_here, NodesShow, NodesStand}

-- something stands next
abbrev pub stands : Standing → Bool
stands standing.Nothing = false
stands other = true

-- a lower end, if there is one, has taken nothing yet
abbrev pub is_idle : {I O : Type 0} → Option (Lower I O) → Bool
is_idle (Some (lower.Idle end)) = true
is_idle other = false

-- the lower end of a connection, if there is one, is kept elsewhere
abbrev pub is_elsewhere : {F I O : Type 0} → Nodes F I O → ℕ → Bool
is_elsewhere n c = unwrap_or (option_map (λ x. not (stands_here x.lower)) (slice_get n.connections.items c)) false

-- What holds of each world, whatever happened before: messages come in order (messages_come_in_order), every index is in
-- range (indices_are_in_range), and whoever may still take hasn't taken the end (takers_are_open).
pub record IsOrderly (w : World) : Type 0 where
  pub ordered : Ordered w
  pub placed : Placed w
  pub open_ends : OpenEnds w

-- Where it is due that a lower end takes what stands next: whether it has taken nothing yet.
abbrev pub IdleIs : Bool → World → ℕ → Type 0
IdleIs true w c = w.lowers c ≡ idle
IdleIs false w c = IsBusy w c

abbrev pub TellsIdle : {F I O : Type 0} → link_in.Ghosts I → link_out.Ghosts O → ConnId → Nodes F I O → Bool → Type 0
TellsIdle i o conn n result =
    (w : World) (net : Net) (queues : Queues) → NodesShow i o w net n → IsOfPipeline w conn.0 →
    is_due w queues (due.Down conn) ≡ true
    → IdleIs result w conn.0

-- Whether the lower end of a connection is kept elsewhere: the connection is none of a pipeline.
abbrev pub TellsElsewhere : {F I O : Type 0} → link_in.Ghosts I → link_out.Ghosts O → ConnId → Nodes F I O → Bool →
    Type 0
TellsElsewhere i o conn n result =
    (w : World) (net : Net) → NodesShow i o w net n → conn.0 < w.next_conn
    → result ≡ not (is_pipeline (w.dialled conn.0).upper)

-- Whether it is due that a lower end acts without a message.
abbrev pub TellsReady : {F I O : Type 0} → link_in.Ghosts I → link_out.Ghosts O → ConnId → Nodes F I O → Bool → Type 0
TellsReady i o conn n result =
    (w : World) (net : Net) (queues : Queues) → NodesShow i o w net n → IsOrderly w → IsOfPipeline w conn.0
    → result ≡ is_due w queues (due.Ready conn)

-- Whether it is due that a lower end takes what stands next; the roads show what they showed.
abbrev pub TellsDown : {F R I O : Type 0} → roads.Ghosts R I O → link_in.Ghosts I → link_out.Ghosts O → ConnId →
    Nodes F I O → R → R → Bool → Type 0
TellsDown r i o conn n road road' result =
    (w : World) (net : Net) (queues : Queues) → NodesStand r i o w net road n → IsOrderly w → IsOfPipeline w conn.0
    → NodesStand r i o w net road' n × (result ≡ is_due w queues (due.Down conn))

-- Whether it is due that a member takes what stands next on the connection to its mirror.
abbrev pub TellsUp : {F R I O : Type 0} → roads.Ghosts R I O → link_in.Ghosts I → link_out.Ghosts O → ConnId →
    Nodes F I O → R → R → Bool → Type 0
TellsUp r i o conn n road road' result =
    (w : World) (net : Net) (queues : Queues) (d : ℕ) → NodesStand r i o w net road n → IsOrderly w →
    (w.dialled conn.0).upper ≡ by_member d
    → NodesStand r i o w net road' n × (result ≡ is_due w queues (due.Up conn))
