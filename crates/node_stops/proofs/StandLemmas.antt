-- What stands where a node is to stop.
use Rattle.std.proofs.Common.{◌≡◌, ℕ, ◌≤◌, ◌<◌, Bool, true, false, List, length, Option, Some, None, IfSome, refl, sym, ap, subst, ◌∙◌, arith}
use Rattle.std.specs.Prelude.{nat_lt, slice_get, option_map}
use Rattle.std.proofs.lemmas.Bool.Decides.{nat_tests}
use Rattle.hd_base.specs.Channels.{Plain, with_listening}
use Rattle.hd_base.specs.Ends.{IsKnown, KeepsConnections}
use Rattle.hd_base.specs.declared.ends.Conn.{Conn}
use Rattle.hd_base.specs.declared.links.LinkIn as link_in
use Rattle.hd_base.specs.declared.links.LinkOut as link_out
use Rattle.hd_base.specs.declared.numbers.NodeId.{NodeId}
use Rattle.hd_base.specs.declared.roads.Roads as roads
use Rattle.road_traffic.specs.Showing.{Net}
use Rattle.world_stops.specs.World.Parts as parts
use Rattle.world_stops.specs.World.Parts.{FullMember, by_writer, by_member, by_reader, by_primary, idle, writes, serves, recovers, ended_below}
use Rattle.world_stops.specs.World.Worlds.{World}
use Rattle.world_stops.specs.WorldNets.Nets.{IsEndOf}
use Rattle.play_nodes.specs.WorldOrders.Orders.{IsMirror, MirrorIs, Ordered}
use Rattle.play_nodes.specs.MemberEvents.Roads.{RoadsPass}
use Rattle.play_nodes.specs.MemberEvents.Showing.{MirrorShows}
use Rattle.play_nodes.specs.declared.connections.Connection.{Connection}
use Rattle.play_nodes.specs.declared.connections.Lower.{Lower}
use Rattle.play_nodes.specs.declared.connections.Lower.TheVariants as lower
use Rattle.play_nodes.specs.declared.connections.Upper.{Upper}
use Rattle.play_nodes.specs.declared.connections.Upper.TheVariants as upper
use Rattle.play_nodes.specs.declared.nodes.Nodes.{Nodes}
use Rattle.play_nodes.specs.Showing.{UpperShows, LowerShows, NodesStand}
use Rattle.node_stops.specs.Connections.{has_end_at, is_at}
use Rattle.node_stops.specs.Ending.{LowerIsKnown, AllKnown, MirrorStands, MirrorIf, LowerStands}
use Rattle.node_stops.proofs.ConnectionLemmas.{some_in, none_past}
use Rattle.node_stops.proofs.CutLemmas.{known_kept}

pub no_both : (b : Bool) → b ≡ true → b ≡ false → ⊥
no_both b t f = cc

-- The roads keep their connections where a port is no longer listened on.
pub keeps_hung : (a b : Option Plain) (port : ℕ) → b ≡ option_map (λ p. with_listening p port false) a → KeepsConnections a b
keeps_hung None b port is = record { stays_hidden = λ e. is; dialled = tt }
keeps_hung (Some p) b port is = record { stays_hidden = λ e. absurd (none_is p e); dialled = subst (λ s. IfSome s (λ q. q.dialled ≡ p.dialled)) (sym is) refl } where
  none_is : (p : Plain) → ◌≡◌ {A = Option Plain} (Some p) None → ⊥
  none_is p e = cc

pub roads_pass : {R I O : Type 0} (r : roads.Ghosts R I O) (road road' : R) → KeepsConnections (r.plain road) (r.plain road') → r.faults road ≤ r.faults road' → RoadsPass r road road'
roads_pass r road road' keeps later = record { knows = λ c k. known_kept (r.plain road) (r.plain road') c keeps k; never_falls = later }

-- MOVES

-- The ends stand in another world, where each of them does.
pub lower_moves : {F I O : Type 0} (i : link_in.Ghosts I) (o : link_out.Ghosts O) (w v : World) (net made : Net) (n : Nodes F I O) (c : ℕ) (l : Lower I O)
    → ((c : ℕ) (d : Bool) (e : Conn I O) → IsEndOf i o w net c d e → IsEndOf i o v made c d e) → LowerStands i o w net c n l → LowerStands i o v made c n l
lower_moves i o w v net made n c (lower.Idle end) moves h = moves c true end h
lower_moves {F} {I} {O} i o w v net made n c (lower.Member m place) moves h = (moves c true m.upstream h.0, by m.mirror h.1) where
  by : (mirror : Option (Conn I O)) → MirrorIf i o w net c n mirror → MirrorIf i o v made c n mirror
  by None x = tt
  by (Some end) x = record { conn = x.conn; end_is = moves x.conn false end x.end_is; at = x.at; found = x.found; dialled = x.dialled }
lower_moves i o w v net made n c l moves h = tt

module _ {F R I O : Type 0} (r : roads.Ghosts R I O) (i : link_in.Ghosts I) (o : link_out.Ghosts O) (node : NodeId) (w : World) (net : Net) (road : R) (n : Nodes F I O) (stands : NodesStand r i o w net road n) where
  abbrev all : List (Connection I O)
  all = n.connections.items

  -- A connection with an end at the node was dialled.
  pub at_below : (c : ℕ) → is_at all node c ≡ true → c < w.next_conn
  at_below c at = by (nat_lt c (length all)) refl where
    by : (b : Bool) → nat_lt c (length all) ≡ b → c < w.next_conn
    by true e = grind (arith, nat_tests, e, stands.nodes_are.count)
    by false e =
        let past : length all ≤ c = grind (arith, nat_tests, e) in
        absurd (no_both (is_at all node c) at (ap (has_end_at all node) (none_past all c past)))

  pub known_at : (c : ℕ) → c < w.next_conn → IsKnown (r.plain road) c
  known_at c below =
      let here : c < stands.roads_are.shows.plain.dialled = omega (arith, stands.roads_are.shows.holds.dialled, stands.roads_are.is_net.conns, below) in
      subst (λ p. IsKnown p c) (sym stands.roads_are.shows.is) here

  end_known : (c : ℕ) (d : Bool) (e : Conn I O) → IsEndOf i o w net c d e → IsKnown (r.plain road) e.id.0
  end_known c d e h = known_at e.id.0 (omega (arith, h.id, h.within, stands.roads_are.is_net.conns))

  mirror_known : (conn : Option ℕ) (mirror : Option (Conn I O)) → MirrorShows i o w net conn mirror → IfSome mirror (λ end. IsKnown (r.plain road) end.id.0)
  mirror_known None None h = tt
  mirror_known (Some d) (Some end) h = end_known d false end h
  mirror_known None (Some end) h = absurd h
  mirror_known (Some d) None h = tt

  lower_known : (c : ℕ) (l : parts.Lower) (x : Lower I O) → LowerShows i o w net c n l x → LowerIsKnown (r.plain road) x
  lower_known c idle (lower.Idle end) h = end_known c true end h.1
  lower_known c (writes full) (lower.Member m place) h = (end_known c true m.upstream h.1.shows.upstream, mirror_known full.mirror m.mirror h.1.shows.mirror)
  lower_known c l lower.Ended h = tt
  lower_known c l lower.Elsewhere h = tt
  lower_known c (writes full) (lower.Idle end) h = absurd h
  lower_known c (serves b s) (lower.Idle end) h = absurd h
  lower_known c recovers (lower.Idle end) h = absurd h
  lower_known c ended_below (lower.Idle end) h = absurd h
  lower_known c idle (lower.Member m place) h = absurd h
  lower_known c (serves b s) (lower.Member m place) h = absurd h
  lower_known c recovers (lower.Member m place) h = absurd h
  lower_known c ended_below (lower.Member m place) h = absurd h

  pub all_known : AllKnown (r.plain road) n
  all_known c x at = lower_known c (w.lowers c) x.lower (stands.nodes_are.each c x at).lower_is

  -- THE ENDS OF A MEMBER

  -- who dialled is the member
  pub upper_at : (c : ℕ) (u : parts.Upper) (x : Upper) → u ≡ by_member c → UpperShows u x → x ≡ upper.Member (record { 0 = c })
  upper_at c (by_member d) (upper.Member conn) is same =
      let here : d ≡ c = same_member d c is in
      ap (λ k. upper.Member (record { 0 = k })) (same ∙ here)
    where
      same_member : (d c : ℕ) → by_member d ≡ by_member c → d ≡ c
      same_member d c e = cc
  upper_at c (by_member d) x is same = absurd same
  upper_at c (by_writer b) x is same = absurd (other b c is) where
    other : (b c : ℕ) → by_writer b ≡ by_member c → ⊥
    other b c e = cc
  upper_at c (by_reader k) x is same = absurd (other k c is) where
    other : (k c : ℕ) → by_reader k ≡ by_member c → ⊥
    other k c e = cc
  upper_at c (by_primary k place) x is same = absurd (other k place c is) where
    other : (k place c : ℕ) → by_primary k place ≡ by_member c → ⊥
    other k place c e = cc

  unfoldable pub mirror_at : (c d : ℕ) (end : Conn I O) → (w.dialled d).upper ≡ by_member c → IsEndOf i o w net d false end → MirrorStands i o w net c n end
  mirror_at c d end upper h =
      let found = some_in all d (omega (arith, h.within, stands.roads_are.is_net.conns, stands.nodes_are.count)) in
      record {
        conn = d;
        end_is = h;
        at = found.0;
        found = found.1;
        dialled = upper_at c (w.dialled d).upper found.0.upper upper (stands.nodes_are.each d found.0 found.1).upper_is;
      }

  mirror_stands : (c : ℕ) (full : FullMember) (conn : Option ℕ) (mirror : Option (Conn I O)) → IfSome conn (λ d. IsMirror (w.dialled d) (w.up_marks d).taken c d full.state) → MirrorShows i o w net conn mirror → MirrorIf i o w net c n mirror
  mirror_stands c full None None is h = tt
  mirror_stands c full (Some d) (Some end) is h = mirror_at c d end is.upper h
  mirror_stands c full None (Some end) is h = absurd h
  mirror_stands c full (Some d) None is h = tt

  lower_so : (c : ℕ) (l : parts.Lower) (x : Lower I O) → l ≡ w.lowers c → Ordered w → LowerShows i o w net c n l x → LowerStands i o w net c n x
  lower_so c idle (lower.Idle end) is ordered h = h.1
  lower_so c (writes full) (lower.Member m place) is ordered h =
      (h.1.shows.upstream, mirror_stands c full full.mirror m.mirror (mirrors full is) h.1.shows.mirror)
    where
      mirrors : (full : FullMember) → writes full ≡ w.lowers c → IfSome full.mirror (λ d. IsMirror (w.dialled d) (w.up_marks d).taken c d full.state)
      mirrors full is = subst (λ l. MirrorIs w.dialled w.up_marks c l) (sym is) (ordered.mirrors c)
  lower_so c l lower.Ended is ordered h = tt
  lower_so c l lower.Elsewhere is ordered h = tt
  lower_so c (writes full) (lower.Idle end) is ordered h = absurd h
  lower_so c (serves b s) (lower.Idle end) is ordered h = absurd h
  lower_so c recovers (lower.Idle end) is ordered h = absurd h
  lower_so c ended_below (lower.Idle end) is ordered h = absurd h
  lower_so c idle (lower.Member m place) is ordered h = absurd h
  lower_so c (serves b s) (lower.Member m place) is ordered h = absurd h
  lower_so c recovers (lower.Member m place) is ordered h = absurd h
  lower_so c ended_below (lower.Member m place) is ordered h = absurd h

  pub lower_stands : Ordered w → (c : ℕ) (x : Connection I O) → slice_get all c ≡ Some x → LowerStands i o w net c n x.lower
  lower_stands ordered c x at = lower_so c (w.lowers c) x.lower refl ordered (stands.nodes_are.each c x at).lower_is
