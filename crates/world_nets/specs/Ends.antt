-- Ends that stay as they are, whatever others do with the roads.
use Rattle.std.specs.Prelude.{◌≡◌, ℕ, Bool, List, [], ◌∷◌, not}
use Rattle.hd_base.specs.Links.{Inbox}
use Rattle.hd_base.specs.declared.ends.Conn.{Conn}
use Rattle.hd_base.specs.declared.links.LinkIn as link_in
use Rattle.hd_base.specs.declared.links.LinkOut as link_out
use Rattle.road_traffic.specs.Showing.{Net, EndIs, exchanged_net, drawn_net, lost_net, with_traffic}
use Rattle.world.specs.Worlds.{World}
use Rattle.world_nets.specs.Nets.{IsEndOf, is_over}
use Rattle.world_nets.specs.Changes.{Flush, after_flushes}

-- The second of two ends isn't the first: it is of another connection, or the other end of the same one.
abbrev pub IsElsewhere : ℕ → Bool → ℕ → Bool → Type 0
IsElsewhere conn lower c d = conn ≡ c → d ≡ not lower

-- An end stays, whatever another one does: it is exchanged, with a take or without, it takes what stands next, or it
-- is given up.
pub record StaysEnd {I O : Type 0} (i : link_in.Ghosts I) (o : link_out.Ghosts O) (v : World) (net : Net) (conn : ℕ)
    (lower : Bool) (c : ℕ) (d : Bool) (at_end : Conn I O) : Type 0 where
  pub exchanged : (takes shut : Bool) (messages : List (List ℕ)) →
      IsEndOf i o v (exchanged_net net conn lower takes shut messages) c d at_end
  pub drawn : IsEndOf i o v (drawn_net net conn lower) c d at_end
  pub lost : (messages : List (List ℕ)) → IsEndOf i o v (lost_net net conn lower messages) c d at_end

-- An end stays one of each later world in which the end of its inward direction was taken or not as before.
abbrev pub EndsElsewhereStay : {I O : Type 0} → link_in.Ghosts I → link_out.Ghosts O → Type 0
EndsElsewhereStay {I} {O} i o =
    (w v : World) (net : Net) (conn : ℕ) (lower : Bool) (c : ℕ) (d : Bool) (at_end : Conn I O)
    → IsElsewhere conn lower c d → is_over v c d ≡ is_over w c d → IsEndOf i o w net c d at_end
    → StaysEnd i o v net conn lower c d at_end

-- An end in the middle of an event, which has more to flush and holds something, stays, whatever another one does.
pub record StaysInEvent {I O : Type 0} (i : link_in.Ghosts I) (o : link_out.Ghosts O) (net : Net) (conn : ℕ)
    (lower shut : Bool) (extra : List (List ℕ)) (inbox : Inbox) (at_end : Conn I O) : Type 0 where
  pub exchanged : (takes shuts : Bool) (messages : List (List ℕ)) →
      EndIs i o (exchanged_net net conn lower takes shuts messages).traffic shut extra inbox at_end
  pub drawn : EndIs i o (drawn_net net conn lower).traffic shut extra inbox at_end
  pub lost : (messages : List (List ℕ)) → EndIs i o (lost_net net conn lower messages).traffic shut extra inbox at_end

abbrev pub EndsInEventsStay : {I O : Type 0} → link_in.Ghosts I → link_out.Ghosts O → Type 0
EndsInEventsStay {I} {O} i o =
    (net : Net) (conn : ℕ) (lower shut : Bool) (extra : List (List ℕ)) (inbox : Inbox) (at_end : Conn I O)
    → IsElsewhere conn lower at_end.id.0 at_end.lower → EndIs i o net.traffic shut extra inbox at_end
    → StaysInEvent i o net conn lower shut extra inbox at_end

-- An exchange leaves the takers of all directions as they are.
abbrev pub ExchangesKeepTakers : Type 0
ExchangesKeepTakers = (net : Net) (conn : ℕ) (lower takes shut : Bool) (messages : List (List ℕ)) (c : ℕ) (d : Bool)
    → ((exchanged_net net conn lower takes shut messages).traffic c d).over ≡ (net.traffic c d).over

-- all connections after these flushes, one after the other
abbrev pub flushed_all : Net → List Flush → Net
flushed_all net flushes = with_traffic net (after_flushes net.traffic flushes)

-- An end is none of those that are flushed.
abbrev pub AreElsewhere : List Flush → ℕ → Bool → Type 0
AreElsewhere [] c d = Unit {0}
AreElsewhere (f ∷ fs) c d = IsElsewhere f.conn f.lower c d × AreElsewhere fs c d

abbrev pub EndsPastFlushesStay : {I O : Type 0} → link_in.Ghosts I → link_out.Ghosts O → Type 0
EndsPastFlushesStay {I} {O} i o =
    (w v : World) (net : Net) (flushes : List Flush) (c : ℕ) (d : Bool) (at_end : Conn I O)
    → AreElsewhere flushes c d → is_over v c d ≡ is_over w c d → IsEndOf i o w net c d at_end
    → IsEndOf i o v (flushed_all net flushes) c d at_end
