-- Ends that stay, whatever others do.
use Rattle.std.proofs.Common.{◌≡◌, ℕ, Bool, true, false, List, [], ◌∷◌, None, refl, sym, ◌∙◌, subst}
use Rattle.std.specs.Prelude.{not, map}
use Rattle.hd_base.specs.Links.{Inbox}
use Rattle.hd_base.specs.declared.ends.Conn.{Conn}
use Rattle.hd_base.specs.declared.links.LinkIn as link_in
use Rattle.hd_base.specs.declared.links.LinkOut as link_out
use Rattle.hd_base.specs.declared.roads.Roads as roads
use Rattle.road_traffic.specs.Traffic.{Traffic, Traffics, changed, draws, flushes, one_way, given_up, after_flush}
use Rattle.road_traffic.specs.Showing.{Net, EndIs, exchanged_net, flushed_net, drawn_net, lost_net, with_traffic}
use Rattle.road_traffic.proofs.TrafficLemmas.{each-traffic, over-flushes}
use Rattle.road_traffic.proofs.ShowingLemmas.{elsewhere, end-stays}
use Rattle.world.specs.Worlds.{World}
use Rattle.world_nets.specs.Rows.{text_of}
use Rattle.world_nets.specs.Nets.{IsEndOf, is_over, held_by}
use Rattle.world_nets.specs.Changes.{Flush, after_flushes}
use Rattle.world_nets.specs.Ends.{IsElsewhere, StaysEnd, StaysInEvent, AreElsewhere, flushed_all}

-- ---- what an end that draws, flushes or goes leaves

drawn-over : (lower d : Bool) (t : Traffic) → (one_way lower draws d t).over ≡ t.over
drawn-over true true t = refl
drawn-over true false t = refl
drawn-over false true t = refl
drawn-over false false t = refl

drawn-sent : (lower d : Bool) (t : Traffic) → (one_way lower draws d t).sent ≡ t.sent
drawn-sent true true t = refl
drawn-sent true false t = refl
drawn-sent false true t = refl
drawn-sent false false t = refl

drawn-end : (lower d : Bool) (t : Traffic) → (one_way lower draws d t).end ≡ None → t.end ≡ None
drawn-end true true t h = h
drawn-end true false t h = h
drawn-end false true t h = h
drawn-end false false t h = h

flushed-in : (lower shut : Bool) (ms : List (List ℕ)) (t : Traffic) → (flushes lower shut ms (not (not lower)) t).sent ≡ t.sent
flushed-in true true ms t = refl
flushed-in true false ms t = refl
flushed-in false true ms t = refl
flushed-in false false ms t = refl

lost-in : (lower : Bool) (ms : List (List ℕ)) (t : Traffic) → (given_up lower ms (not (not lower)) t).sent ≡ t.sent
lost-in true ms t = refl
lost-in false ms t = refl

lost-end : (lower d : Bool) (ms : List (List ℕ)) (t : Traffic) → (given_up lower ms d t).end ≡ None → t.end ≡ None
lost-end true true ms t h = cc
lost-end true false ms t h = cc
lost-end false true ms t h = cc
lost-end false false ms t h = cc

lost-over : (lower : Bool) (ms : List (List ℕ)) (t : Traffic) → (given_up lower ms (not lower) t).over ≡ t.over
lost-over true ms t = refl
lost-over false ms t = refl

changed-over : (traffic : Traffics) (conn : ℕ) (f : Bool → Traffic → Traffic) → ((d : Bool) (t : Traffic) → (f d t).over ≡ t.over) → (c : ℕ) (d : Bool) → (changed traffic conn f c d).over ≡ (traffic c d).over
changed-over traffic conn f same = each-traffic traffic conn f (λ c d t. t.over ≡ (traffic c d).over) (λ d. same d (traffic conn d)) (λ c d other. refl)

pub flushed-over : (traffic : Traffics) (conn : ℕ) (lower shut : Bool) (ms : List (List ℕ)) (c : ℕ) (d : Bool) → (after_flush traffic conn lower shut ms c d).over ≡ (traffic c d).over
flushed-over traffic conn lower shut ms = changed-over traffic conn (flushes lower shut ms) (λ d t. over-flushes lower shut d ms t)

pub exchanged-over : (net : Net) (conn : ℕ) (lower takes shut : Bool) (ms : List (List ℕ)) (c : ℕ) (d : Bool) → ((exchanged_net net conn lower takes shut ms).traffic c d).over ≡ (net.traffic c d).over
exchanged-over net conn lower true shut ms c d =
    changed-over (after_flush net.traffic conn lower shut ms) conn (one_way lower draws) (drawn-over lower) c d ∙ flushed-over net.traffic conn lower shut ms c d
exchanged-over net conn lower false shut ms c d = flushed-over net.traffic conn lower shut ms c d

pub past-over : (traffic : Traffics) (fs : List Flush) (c : ℕ) (d : Bool) → (after_flushes traffic fs c d).over ≡ (traffic c d).over
past-over traffic [] c d = refl
past-over traffic (f ∷ fs) c d =
    past-over (after_flush traffic f.conn f.lower f.shut (map text_of f.messages)) fs c d ∙ flushed-over traffic f.conn f.lower f.shut (map text_of f.messages) c d

module _ {R I O : Type 0} (r : roads.Ghosts R I O) (i : link_in.Ghosts I) (o : link_out.Ghosts O) where
  -- The same end, of another world with the same connections.
  pub same-end : (w v : World) (net : Net) (c : ℕ) (d : Bool) (e : Conn I O) → is_over v c d ≡ is_over w c d → IsEndOf i o w net c d e → IsEndOf i o v net c d e
  same-end w v net c d e over k = record {
    id = k.id;
    side = k.side;
    within = k.within;
    is = subst (λ (b : Bool). EndIs i o net.traffic false [] (held_by b) e) (sym over) k.is;
    taking = k.taking;
  }

  -- An end, where another one does this.
  stays-by : (w v : World) (net : Net) (conn : ℕ) (f : Bool → Traffic → Traffic) (c : ℕ) (d : Bool) (e : Conn I O) → (conn ≡ c → (t : Traffic) → (f (not d) t).sent ≡ t.sent) → ((a : Bool) (t : Traffic) → (f a t).end ≡ None → t.end ≡ None) → (conn ≡ c → (t : Traffic) → (f d t).over ≡ t.over) → is_over v c d ≡ is_over w c d → IsEndOf i o w net c d e → IsEndOf i o v (with_traffic net (changed net.traffic conn f)) c d e
  stays-by w v net conn f c d e sent ends takers over k = record {
    id = k.id;
    side = k.side;
    within = k.within;
    is = elsewhere r i o net.traffic conn f false [] (held_by (is_over v c d)) e
        (λ a t. subst (λ (b : Bool). (f (not b) t).sent ≡ t.sent) (sym k.side) (sent (a ∙ k.id) t))
        ends
        (same-end w v net c d e over k).is;
    taking = each-traffic net.traffic conn f (λ a b t. a ≡ c → b ≡ d → t.over ≡ (net.traffic a b).over)
        (λ b p q. subst (λ (x : Bool). (f x (net.traffic conn x)).over ≡ (net.traffic conn x).over) (sym q) (takers p (net.traffic conn d)))
        (λ a b other p q. refl) c d refl refl ∙ k.taking;
  }

  stays-flushed : (w v : World) (net : Net) (conn : ℕ) (lower : Bool) (c : ℕ) (d : Bool) (e : Conn I O) (shut : Bool) (ms : List (List ℕ)) → IsElsewhere conn lower c d → is_over v c d ≡ is_over w c d → IsEndOf i o w net c d e → IsEndOf i o v (flushed_net net conn lower shut ms) c d e
  stays-flushed w v net conn lower c d e shut ms away over k =
      stays-by w v net conn (flushes lower shut ms) c d e
      (λ p t. subst (λ (x : Bool). (flushes lower shut ms (not x) t).sent ≡ t.sent) (sym (away p)) (flushed-in lower shut ms t))
      (λ a t h. (end-stays false lower shut a ms t h).0)
      (λ p t. over-flushes lower shut d ms t) over k

  stays-drawn : (w v : World) (net : Net) (conn : ℕ) (lower : Bool) (c : ℕ) (d : Bool) (e : Conn I O) → is_over v c d ≡ is_over w c d → IsEndOf i o w net c d e → IsEndOf i o v (drawn_net net conn lower) c d e
  stays-drawn w v net conn lower c d e over k =
      stays-by w v net conn (one_way lower draws) c d e (λ p t. drawn-sent lower (not d) t) (drawn-end lower) (λ p t. drawn-over lower d t) over k

  stays-exchanged : (w v : World) (net : Net) (conn : ℕ) (lower : Bool) (c : ℕ) (d : Bool) (e : Conn I O) (takes shut : Bool) (ms : List (List ℕ)) → IsElsewhere conn lower c d → is_over v c d ≡ is_over w c d → IsEndOf i o w net c d e → IsEndOf i o v (exchanged_net net conn lower takes shut ms) c d e
  stays-exchanged w v net conn lower c d e true shut ms away over k =
      stays-drawn v v (flushed_net net conn lower shut ms) conn lower c d e refl (stays-flushed w v net conn lower c d e shut ms away over k)
  stays-exchanged w v net conn lower c d e false shut ms away over k = stays-flushed w v net conn lower c d e shut ms away over k

  stays-lost : (w v : World) (net : Net) (conn : ℕ) (lower : Bool) (c : ℕ) (d : Bool) (e : Conn I O) (ms : List (List ℕ)) → IsElsewhere conn lower c d → is_over v c d ≡ is_over w c d → IsEndOf i o w net c d e → IsEndOf i o v (lost_net net conn lower ms) c d e
  stays-lost w v net conn lower c d e ms away over k =
      stays-by w v net conn (given_up lower ms) c d e
      (λ p t. subst (λ (x : Bool). (given_up lower ms (not x) t).sent ≡ t.sent) (sym (away p)) (lost-in lower ms t))
      (λ a t h. lost-end lower a ms t h)
      (λ p t. subst (λ (x : Bool). (given_up lower ms x t).over ≡ t.over) (sym (away p)) (lost-over lower ms t)) over k

  pub stays : (w v : World) (net : Net) (conn : ℕ) (lower : Bool) (c : ℕ) (d : Bool) (e : Conn I O) → IsElsewhere conn lower c d → is_over v c d ≡ is_over w c d → IsEndOf i o w net c d e → StaysEnd i o v net conn lower c d e
  stays w v net conn lower c d e away over k = record {
    exchanged = λ takes shut ms. stays-exchanged w v net conn lower c d e takes shut ms away over k;
    drawn = stays-drawn w v net conn lower c d e over k;
    lost = λ ms. stays-lost w v net conn lower c d e ms away over k;
  }

  pub stays-past : (w v : World) (net : Net) (fs : List Flush) (c : ℕ) (d : Bool) (e : Conn I O) → AreElsewhere fs c d → is_over v c d ≡ is_over w c d → IsEndOf i o w net c d e → IsEndOf i o v (flushed_all net fs) c d e
  stays-past w v net [] c d e away over k = same-end w v net c d e over k
  stays-past w v net (f ∷ fs) c d e away over k =
      stays-past v v (flushed_net net f.conn f.lower f.shut (map text_of f.messages)) fs c d e away.1 refl
      (stays-flushed w v net f.conn f.lower c d e f.shut (map text_of f.messages) away.0 over k)

  -- IN THE MIDDLE OF AN EVENT

  event-flushed : (net : Net) (conn : ℕ) (lower shut : Bool) (extra : List (List ℕ)) (inbox : Inbox) (e : Conn I O) (shuts : Bool) (ms : List (List ℕ)) → IsElsewhere conn lower e.id.0 e.lower → EndIs i o net.traffic shut extra inbox e → EndIs i o (flushed_net net conn lower shuts ms).traffic shut extra inbox e
  event-flushed net conn lower shut extra inbox e shuts ms away k =
      elsewhere r i o net.traffic conn (flushes lower shuts ms) shut extra inbox e
      (λ p t. subst (λ (x : Bool). (flushes lower shuts ms (not x) t).sent ≡ t.sent) (sym (away p)) (flushed-in lower shuts ms t))
      (λ a t h. (end-stays false lower shuts a ms t h).0) k

  event-drawn : (net : Net) (conn : ℕ) (lower shut : Bool) (extra : List (List ℕ)) (inbox : Inbox) (e : Conn I O) → EndIs i o net.traffic shut extra inbox e → EndIs i o (drawn_net net conn lower).traffic shut extra inbox e
  event-drawn net conn lower shut extra inbox e k =
      elsewhere r i o net.traffic conn (one_way lower draws) shut extra inbox e (λ p t. drawn-sent lower (not e.lower) t) (drawn-end lower) k

  event-exchanged : (net : Net) (conn : ℕ) (lower shut : Bool) (extra : List (List ℕ)) (inbox : Inbox) (e : Conn I O) (takes shuts : Bool) (ms : List (List ℕ)) → IsElsewhere conn lower e.id.0 e.lower → EndIs i o net.traffic shut extra inbox e → EndIs i o (exchanged_net net conn lower takes shuts ms).traffic shut extra inbox e
  event-exchanged net conn lower shut extra inbox e true shuts ms away k =
      event-drawn (flushed_net net conn lower shuts ms) conn lower shut extra inbox e (event-flushed net conn lower shut extra inbox e shuts ms away k)
  event-exchanged net conn lower shut extra inbox e false shuts ms away k = event-flushed net conn lower shut extra inbox e shuts ms away k

  pub stays-event : (net : Net) (conn : ℕ) (lower shut : Bool) (extra : List (List ℕ)) (inbox : Inbox) (e : Conn I O) → IsElsewhere conn lower e.id.0 e.lower → EndIs i o net.traffic shut extra inbox e → StaysInEvent i o net conn lower shut extra inbox e
  stays-event net conn lower shut extra inbox e away k = record {
    exchanged = λ takes shuts ms. event-exchanged net conn lower shut extra inbox e takes shuts ms away k;
    drawn = event-drawn net conn lower shut extra inbox e k;
    lost = λ ms.
        elsewhere r i o net.traffic conn (given_up lower ms) shut extra inbox e
        (λ p t. subst (λ (x : Bool). (given_up lower ms (not x) t).sent ≡ t.sent) (sym (away p)) (lost-in lower ms t))
        (λ a t h. lost-end lower a ms t h) k;
  }
