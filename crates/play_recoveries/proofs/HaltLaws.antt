-- The primaries at a node that has stopped lead no more, one after the other.
use Rattle.std.proofs.Common.{◌≡◌, ◌<◌, ◌≤◌, ◌+◌, ℕ, Bool, true, false, if◌then◌else◌, List, [], length, slice_get, slice_set, Some, ◌⊎◌, inl, inr, refl, sym, ap, ◌∙◌, subst, arith, length-set, eqb-true}
use Rattle.std.specs.Prelude.{◌==◌, ◌&&◌, nat_lt}
use Rattle.std.proofs.lemmas.Bool.Decides.{nat_tests}
use Rattle.hd_base.specs.declared.ends.Conn.{Conn}
use Rattle.hd_base.specs.declared.links.LinkIn as link_in
use Rattle.hd_base.specs.declared.links.LinkOut as link_out
use Rattle.hd_base.specs.declared.numbers.NodeId.{NodeId}
use Rattle.hd_base.specs.declared.roads.Roads as roads
use Rattle.road_traffic.specs.Showing.{Net}
use Rattle.world.specs.declared.events.Event.TheVariants as event
use Rattle.world.specs.Connections.{is_alive}
use Rattle.world.specs.Events.{happens}
use Rattle.world.specs.Parts.{Dialled, Place, by_primary, Leading, no_primary, leads, has_led}
use Rattle.world.specs.Worlds.{World}
use Rattle.play_servers.specs.WorldNets.Nets.{IsEndOf}
use Rattle.play_nodes.specs.WorldOrders.Orders.{purpose_of}
use Rattle.play_nodes.specs.MemberEvents.Roads.{RoadsPass}
use Rattle.play_nodes.specs.MemberEvents.Showing.{ShowsWorld}
use Rattle.play_nodes.proofs.MemberEvents.SetupKnown.{pass_same, pass_on}
use Rattle.play_primaries.specs.PrimaryEvents.Leading.{IsNoneOf}
use Rattle.play_model.specs.declared.recoveries.Recovery.{Recovery}
use Rattle.play_model.specs.Recoveries.{stopped_at}
use Rattle.play_nodes.proofs.Numbers.{same_place}
use Rattle.play_nodes.proofs.PlaceLaws.{element_within, same_some}
use Rattle.play_nodes.proofs.Tables.{set_here, set_there, element, same_or}
use Rattle.play_primaries.specs.declared.clients.PrimaryClient.{PrimaryClient}
use Rattle.play_primaries.specs.declared.clients.PrimaryState.{PrimaryState}
use Rattle.play_primaries.specs.declared.clients.PrimaryState.TheVariants as state
use Rattle.play_primaries.specs.Clients.{PrimaryClientShows, PrimaryIsReady, StateShows}
use Rattle.play_primaries.specs.Owning.{led_conns}
use Rattle.play_primaries.specs.Staying.{KeepsPrimaryClient, PrimaryClientsStay}
use Rattle.play_primaries.specs.Stopping as primaries
use Rattle.play_recoveries.specs.declared.recoveries.Recoveries.{Recoveries}
use Rattle.play_recoveries.specs.Stopping.{AreKnown, IsStopped, StopsIf, StopsClient, ClientsStand, ClientsStop, WasClient}
use Rattle.play_recoveries.proofs.EndLaws.{client_past, all_known_past}
use Rattle.play_recoveries.proofs.KeepLaws.{dialled_by, no_more, keeps_primary}
use Rattle.play_recoveries.proofs.LifeLaws.{HasStopped, stops_so, put_if}
use Rattle.play_recoveries.proofs.OwnLaws.{led_dialled}
use Rattle.play_recoveries.proofs.ShutLaws.{happens_shut}

-- SMALL

true_false : (b : Bool) → b ≡ true → b ≡ false → ⊥
true_false b x y = cc

only_upper : (b : Bool) → (b ≡ false → ⊥) → b ≡ true
only_upper true never = refl
only_upper false never = absurd (never refl)

not_less : (k : ℕ) → k < k → ⊥
not_less k h = omega (arith, h)

next_one : (k m : ℕ) → m < k → m < k + 1
next_one k m h = omega (arith, h)

this_one : (k : ℕ) → k < k + 1
this_one k = omega arith

one_less : (k m : ℕ) → m < k + 1 → (m ≡ k → ⊥) → m < k
one_less k m h apart = by (nat_lt m k) refl
  where
    by : (b : Bool) → nat_lt m k ≡ b → m < k
    by true e = grind (arith, nat_tests, e)
    by false e = absurd (apart (grind (arith, nat_tests, e, h)))

node_same : (a b : NodeId) → (a.0 == b.0) ≡ true → a ≡ b
node_same a b e = ap (λ (n : ℕ). record { 0 = n }) (eqb-true a.0 b.0 e)

pub stopped_number : (node : NodeId) (r : Recovery) → (stopped_at node r).primary ≡ r.primary
stopped_number node r = by (r.node.0 == node.0)
  where
    by : (b : Bool) → (if b then record r { may_begin = false } else r).primary ≡ r.primary
    by true = refl
    by false = refl

stopped_here : (node : NodeId) (r : Recovery) → (r.node.0 == node.0) ≡ true → record r { may_begin = false } ≡ stopped_at node r
stopped_here node r e = sym (ap (λ (b : Bool). if b then record r { may_begin = false } else r) e)

stopped_there : (node : NodeId) (r : Recovery) → (r.node.0 == node.0) ≡ false → r ≡ stopped_at node r
stopped_there node r e = sym (ap (λ (b : Bool). if b then record r { may_begin = false } else r) e)

-- LIVES

still_gone : (run run' life : Bool) → (run ≡ false → run' ≡ false) → (run && life) ≡ false → (run' && life) ≡ false
still_gone true true true off h = h
still_gone true false true off h = refl
still_gone true true false off h = refl
still_gone true false false off h = refl
still_gone false run' life off h = ap (λ (b : Bool). b && life) (off refl)

module _ (w v : World) (node : ℕ) (h : HasStopped w v node) where
  runs_there : (n : ℕ) → (n == node) ≡ false → v.running n ≡ w.running n
  runs_there n e = h.running n ∙ put_if w.running node false n false e

  off_still : (n : ℕ) → w.running n ≡ false → v.running n ≡ false
  off_still n off = by (n == node) refl
    where
      by : (b : Bool) → (n == node) ≡ b → v.running n ≡ false
      by true e = h.running n ∙ put_if w.running node false n true e
      by false e = runs_there n e ∙ off

  gone_still : (p : Place) → is_alive w p ≡ false → is_alive v p ≡ false
  gone_still p gone =
      still_gone (w.running p.node) (v.running p.node) (v.lives p.node == p.life) (off_still p.node)
      (ap (λ (n : ℕ). w.running p.node && (n == p.life)) (h.lives p.node) ∙ gone)

  alive_still : (p : Place) → (p.node == node) ≡ false → is_alive w p ≡ true → is_alive v p ≡ true
  alive_still p e alive =
      ap (λ (b : Bool). b && (v.lives p.node == p.life)) (runs_there p.node e)
      ∙ (ap (λ (n : ℕ). w.running p.node && (n == p.life)) (h.lives p.node) ∙ alive)

-- WHERE A PRIMARY LEADS

same_leading : (a b : Leading) → leads a ≡ leads b → a ≡ b
same_leading a b e = cc

module _ {I O : Type 0} (i : link_in.Ghosts I) (o : link_out.Ghosts O) where
  -- a primary that leads on does so at the node of its line
  leads_at : (st : PrimaryState I O) (w : World) (net : Net) (t : Recovery) (l : Leading) → StateShows i o w net t st → w.primaries t.primary ≡ leads l → is_alive w l.at ≡ true → l.at.node ≡ t.node.0
  leads_at state.New w net t l h is alive = absurd (clash (sym h.is ∙ is))
    where
      clash : no_primary ≡ leads l → ⊥
      clash e = cc
  leads_at (state.Leads p) w net t l h is alive = ap (λ (x : Leading). x.at.node) (same_leading l h.leading (sym is ∙ h.leads_so.shows.leads_so)) ∙ h.leads_so.at_node
  leads_at (state.HasLed led) w net t l h is alive = absurd (clash (sym h ∙ is))
    where
      clash : has_led led ≡ leads l → ⊥
      clash e = cc
  leads_at state.Stopped w net t l h is alive =
      absurd (true_false (is_alive w l.at) alive (ap (λ (x : Leading). is_alive w x.at) (same_leading l h.leading (sym is ∙ h.is)) ∙ h.gone))

-- SO MANY CLIENTS

-- The upper end of a connection that the primary of one of the first clients dialled.
pub record IsTouched {I O : Type 0} (v : World) (clients : List (PrimaryClient I O)) (k c : ℕ) (lower : Bool) : Type 0 where
  pub is_upper : lower ≡ false
  pub client_at : ℕ
  pub client : PrimaryClient I O
  pub at : slice_get clients client_at ≡ Some client
  pub before : client_at < k
  pub place : ℕ
  pub upper : (v.dialled c).upper ≡ by_primary client.recovery.primary place

touched_more : {I O : Type 0} (v : World) (clients : List (PrimaryClient I O)) (k c : ℕ) (lower : Bool) → IsTouched v clients k c lower → IsTouched v clients (k + 1) c lower
touched_more v clients k c lower h = record {
  is_upper = h.is_upper;
  client_at = h.client_at;
  client = h.client;
  at = h.at;
  before = next_one k h.client_at h.before;
  place = h.place;
  upper = h.upper;
}

-- Roads and the first clients show the world after, and all ends that weren't touched are ends of it.
pub record FewLeft {R I O : Type 0} (r : roads.Ghosts R I O) (i : link_in.Ghosts I) (o : link_out.Ghosts O) (v : World) (made : Net) (olds news : List (PrimaryClient I O)) (k : ℕ) (road : R) : Type 0 where
  pub left : Net
  pub roads_are : ShowsWorld r v left road
  pub each : (c : ℕ) (x : PrimaryClient I O) → slice_get news c ≡ Some x → c < k → PrimaryClientShows i o v left x
  pub stays : (c : ℕ) (lower : Bool) (e : Conn I O) → (IsTouched v olds k c lower → ⊥) → IsEndOf i o v made c lower e → IsEndOf i o v left c lower e

-- So many clients were looked at.
pub record Halting {R I O : Type 0} (r : roads.Ghosts R I O) (i : link_in.Ghosts I) (o : link_out.Ghosts O) (node : NodeId) (old : Recoveries I O) (first : R) (k : ℕ) (now : Recoveries I O) (road : R) : Type 0 where
  pub servers : now.servers ≡ old.servers
  pub count : length now.clients.items ≡ length old.clients.items
  pub later : (c : ℕ) (x : PrimaryClient I O) → slice_get old.clients.items c ≡ Some x → (c < k → ⊥) → slice_get now.clients.items c ≡ Some x
  pub before : (c : ℕ) (x : PrimaryClient I O) → slice_get now.clients.items c ≡ Some x → c < k → WasClient node old.clients.items c x
  pub known : AreKnown (r.plain road) now
  pub pass : RoadsPass r first road
  pub left : (w : World) (net : Net) (made : Net) → ClientsStand r i o w net made node old.clients.items first → FewLeft r i o (happens w (event.Stop node)) made old.clients.items now.clients.items k road

none_less : (c : ℕ) → c < 0 → ⊥
none_less c h = omega (arith, h)

module _ {R I O : Type 0} (r : roads.Ghosts R I O) (i : link_in.Ghosts I) (o : link_out.Ghosts O) (node : NodeId) where
  pub halting_none : (old : Recoveries I O) (road : R) → AreKnown (r.plain road) old → Halting r i o node old road 0 old road
  halting_none old road known = record {
    servers = refl;
    count = refl;
    later = λ c x at never. at;
    before = λ c x at before. absurd (none_less c before);
    known = known;
    pass = pass_same r i o road road refl;
    left = λ w net made h. record {
      left = made;
      roads_are = h.roads_are;
      each = λ c x at before. absurd (none_less c before);
      stays = λ c lower e there x. x;
    };
  }

  -- ONE MORE

  module _ (stay : PrimaryClientsStay i o) (old now next : Recoveries I O) (first road road' : R) (k : ℕ) (x : PrimaryClient I O) (at : slice_get old.clients.items k ≡ Some x) (so : Halting r i o node old first k now road) where
    abbrev olds : List (PrimaryClient I O)
    olds = old.clients.items

    abbrev news : List (PrimaryClient I O)
    news = next.clients.items

    at_now : slice_get now.clients.items k ≡ Some x
    at_now = so.later k x at (not_less k)

    module _ (w : World) (net : Net) (made : Net) (h : ClientsStand r i o w net made node olds first) where
      abbrev v : World
      v = happens w (event.Stop node)

      stopped : HasStopped w v node.0
      stopped = stops_so w node h.runs

      few : FewLeft r i o v made olds now.clients.items k road
      few = so.left w net made h

      dialled_same : (c number place : ℕ) → (w.dialled c).upper ≡ by_primary number place → (v.dialled c).upper ≡ by_primary number place
      dialled_same c number place by = ap (λ (y : Dialled). y.upper) (stopped.keeps.dialled c) ∙ by

      number_same : (a b j l : ℕ) → by_primary a j ≡ by_primary b l → a ≡ b
      number_same a b j l e = cc

      -- a connection of this client's primary wasn't touched before
      not_touched : (c place : ℕ) → (w.dialled c).upper ≡ by_primary x.recovery.primary place → IsTouched v olds k c false → ⊥
      not_touched c place by t =
          let same : t.client.recovery.primary ≡ x.recovery.primary = number_same t.client.recovery.primary x.recovery.primary t.place place (sym t.upper ∙ dialled_same c x.recovery.primary place by) in
          not_less k (subst (λ (m : ℕ). m < k) (same_place (λ y. y.recovery.primary) olds h.ascend t.client_at k t.client x t.at at same) t.before)

      -- its ends are ends of the world after
      ends_here : (c place : ℕ) (e : Conn I O) → (w.dialled c).upper ≡ by_primary x.recovery.primary place → IsEndOf i o w net c false e → IsEndOf i o v few.left c false e
      ends_here c place e by y = few.stays c false e (not_touched c place by) (h.ends c false e (ap purpose_of by) y)

      -- ANOTHER NODE

      module _ (away : (x.recovery.node.0 == node.0) ≡ false) (same : next ≡ now) (same_road : road' ≡ road) where
        other_node : (n : ℕ) → n ≡ x.recovery.node.0 → (n == node.0) ≡ false
        other_node n e = ap (λ (m : ℕ). m == node.0) e ∙ away

        keeps_other : KeepsPrimaryClient i o w net v few.left x.recovery
        keeps_other = record {
          primary = stopped.keeps.primaries x.recovery.primary;
          runs = λ may runs. runs_there w v node.0 stopped x.recovery.node.0 away ∙ runs;
          lives = λ n. no_more (w.lives n) (v.lives n) (stopped.lives n);
          alive = λ l is e. alive_still w v node.0 stopped l.at (other_node l.at.node (leads_at i o x.state w net x.recovery l (h.each k x at) is e)) e;
          gone = λ l is past e. gone_still w v node.0 stopped l.at e;
          conns = λ l place c is e at_conn. record {
            over = stopped.keeps.over c false;
            ends = λ y there. ends_here c place y (dialled_by w h.ordered x.recovery.primary l place c is at_conn) there;
            shut = λ is_shut. happens_shut w (event.Stop node) c is_shut;
          };
        }

        few_same : FewLeft r i o v made olds news (k + 1) road'
        few_same = record {
          left = few.left;
          roads_are = subst (λ (y : R). ShowsWorld r v few.left y) (sym same_road) few.roads_are;
          each = λ c y at_y before. by c y (ap (λ (p : Recoveries I O). slice_get p.clients.items c) (sym same) ∙ at_y) before (same_or c k);
          stays = λ c lower e there y. few.stays c lower e (λ t. there (touched_more v olds k c lower t)) y;
        }
          where
            by : (c : ℕ) (y : PrimaryClient I O) → slice_get now.clients.items c ≡ Some y → c < k + 1 → ((c ≡ k) ⊎ (c ≡ k → ⊥)) → PrimaryClientShows i o v few.left y
            by c y at_y before (inl e) =
                subst (λ (z : PrimaryClient I O). PrimaryClientShows i o v few.left z) (same_some x y (sym at_now ∙ (ap (λ (m : ℕ). slice_get now.clients.items m) (sym e) ∙ at_y)))
                (stay x w net v few.left (h.each k x at) keeps_other)
            by c y at_y before (inr apart) = few.each c y at_y (one_less k c before apart)

      -- THIS NODE

      module _ (here : (x.recovery.node.0 == node.0) ≡ true) (does : IsStopped r i o k x now next road road') where
        abbrev there : World
        there = happens w (event.Stop x.recovery.node)

        node_is : x.recovery.node ≡ node
        node_is = node_same x.recovery.node node here

        world_is : there ≡ v
        world_is = ap (λ (n : NodeId). happens w (event.Stop n)) node_is

        has_stopped : primaries.NodeHasStopped r i o w net few.left x road
        has_stopped = record {
          runs = ap (λ (n : NodeId). w.running n.0) node_is ∙ h.runs;
          ordered = h.ordered;
          client_is = h.each k x at;
          roads_are = subst (λ (u : World). ShowsWorld r u few.left road) (sym world_is) few.roads_are;
          ends = subst (λ (u : World). primaries.PrimaryEndsStay i o w net u few.left x.recovery.primary) (sym world_is) (λ c place e by y. ends_here c place e by y);
        }

        done : primaries.StopLeft r i o v few.left x.recovery.primary does.client road'
        done = subst (λ (u : World). primaries.StopLeft r i o u few.left x.recovery.primary does.client road') world_is (does.stops w net few.left has_stopped)

        abbrev after : Net
        after = done.made

        -- what this primary didn't dial stays
        others_stay : (c : ℕ) (lower : Bool) (e : Conn I O) → ((place : ℕ) → lower ≡ false → (v.dialled c).upper ≡ by_primary x.recovery.primary place → ⊥) → IsEndOf i o v few.left c lower e → IsEndOf i o v after c lower e
        others_stay c lower e never y = done.others c lower e none y
          where
            none : IsNoneOf (led_conns (v.primaries x.recovery.primary)) c lower
            none place d at_conn same =
                only_upper lower (λ is. never place is (ap (λ (m : ℕ). (v.dialled m).upper) (sym same) ∙ led_dialled v h.after x.recovery.primary (v.primaries x.recovery.primary) refl place d at_conn))

        -- the clients before this one show the world still
        kept : (c : ℕ) (y : PrimaryClient I O) → slice_get now.clients.items c ≡ Some y → c < k → PrimaryClientShows i o v after y
        kept c y at_y before =
            stay y v few.left v after (few.each c y at_y before)
            (keeps_primary i o v few.left v after [] h.after (record { running = λ n. refl; lives = λ n. refl }) y.recovery refl
            (λ place e by. record { over = refl; ends = λ z is. others_stay e false z (λ j up mine. apart (number_same y.recovery.primary x.recovery.primary place j (sym by ∙ mine))) is; shut = λ is. is }))
          where
            apart : y.recovery.primary ≡ x.recovery.primary → ⊥
            apart e =
                let was = so.before c y at_y before in
                let number : was.was.recovery.primary ≡ x.recovery.primary = sym (ap (λ (t : Recovery). t.primary) was.recovers ∙ stopped_number node was.was.recovery) ∙ e in
                not_less k (subst (λ (m : ℕ). m < k) (same_place (λ z. z.recovery.primary) olds h.ascend c k was.was x was.at at number) before)

        few_next : FewLeft r i o v made olds news (k + 1) road'
        few_next = record {
          left = after;
          roads_are = done.stands.roads_are;
          each = λ c y at_y before. by c y at_y before (same_or c k);
          stays = λ c lower e untouched y.
              others_stay c lower e (λ place up by. untouched (record { is_upper = up; client_at = k; client = x; at = at; before = this_one k; place = place; upper = by }))
              (few.stays c lower e (λ t. untouched (touched_more v olds k c lower t)) y);
        }
          where
            by : (c : ℕ) (y : PrimaryClient I O) → slice_get news c ≡ Some y → c < k + 1 → ((c ≡ k) ⊎ (c ≡ k → ⊥)) → PrimaryClientShows i o v after y
            by c y at_y before (inl e) =
                subst (λ (z : PrimaryClient I O). PrimaryClientShows i o v after z)
                (same_some does.client y (sym (ap (λ xs. slice_get xs k) does.set ∙ set_here now.clients.items k x does.client at_now) ∙ (ap (λ (m : ℕ). slice_get news m) (sym e) ∙ at_y)))
                done.stands.client_is
            by c y at_y before (inr apart) = kept c y (sym (ap (λ xs. slice_get xs c) does.set ∙ set_there now.clients.items k does.client c apart) ∙ at_y) (one_less k c before apart)

    few_if : (t : Bool) → (x.recovery.node.0 == node.0) ≡ t → StopsIf t r i o k x now next road road' → (w : World) (net : Net) (made : Net) → ClientsStand r i o w net made node olds first → FewLeft r i o (happens w (event.Stop node)) made olds news (k + 1) road'
    few_if true is does w net made h = few_next w net made h is does
    few_if false is does w net made h = few_same w net made h is does.same does.roads

    -- the clients behind this one stay, and so do those before
    record IsNext : Type 0 where
      servers : next.servers ≡ now.servers
      count : length news ≡ length now.clients.items
      there : (c : ℕ) → (c ≡ k → ⊥) → slice_get news c ≡ slice_get now.clients.items c
      here : (y : PrimaryClient I O) → slice_get news k ≡ Some y → y.recovery ≡ stopped_at node x.recovery

    is_next : (t : Bool) → (x.recovery.node.0 == node.0) ≡ t → StopsIf t r i o k x now next road road' → IsNext
    is_next true is does = record {
      servers = does.servers;
      count = ap (λ (xs : List (PrimaryClient I O)). length xs) does.set ∙ length-set now.clients.items k does.client;
      there = λ c apart. ap (λ (xs : List (PrimaryClient I O)). slice_get xs c) does.set ∙ set_there now.clients.items k does.client c apart;
      here = λ y at_y.
          sym (ap (λ (z : PrimaryClient I O). z.recovery) (same_some does.client y (sym (ap (λ xs. slice_get xs k) does.set ∙ set_here now.clients.items k x does.client at_now) ∙ at_y)))
          ∙ (does.recovery ∙ stopped_here node x.recovery is);
    }
    is_next false is does = record {
      servers = ap (λ (p : Recoveries I O). p.servers) does.same;
      count = ap (λ (p : Recoveries I O). length p.clients.items) does.same;
      there = λ c apart. ap (λ (p : Recoveries I O). slice_get p.clients.items c) does.same;
      here = λ y at_y.
          sym (ap (λ (z : PrimaryClient I O). z.recovery) (same_some x y (sym (ap (λ (p : Recoveries I O). slice_get p.clients.items k) does.same ∙ at_now) ∙ at_y)))
          ∙ stopped_there node x.recovery is;
    }

    less_next : (c : ℕ) → c < k → c < k + 1
    less_next c h = next_one k c h

    not_this : (c : ℕ) → (c < k + 1 → ⊥) → c ≡ k → ⊥
    not_this c never e = never (subst (λ (m : ℕ). m < k + 1) (sym e) (this_one k))

    pub halting_one : StopsClient r i o node k now next road road' → AreKnown (r.plain road') next → RoadsPass r road road' → Halting r i o node old first (k + 1) next road'
    halting_one does known pass =
        let t : Bool = x.recovery.node.0 == node.0 in
        let n : IsNext = is_next t refl (does x at_now) in
        record {
          servers = n.servers ∙ so.servers;
          count = n.count ∙ so.count;
          later = λ c y at_y never. n.there c (not_this c never) ∙ so.later c y at_y (λ before. never (less_next c before));
          before = λ c y at_y before. by n c y at_y before (same_or c k);
          known = known;
          pass = pass_on r i o first road road' so.pass pass;
          left = few_if t refl (does x at_now);
        }
      where
        by : IsNext → (c : ℕ) (y : PrimaryClient I O) → slice_get news c ≡ Some y → c < k + 1 → ((c ≡ k) ⊎ (c ≡ k → ⊥)) → WasClient node olds c y
        by n c y at_y before (inl e) = record {
          was = x;
          at = ap (λ (m : ℕ). slice_get olds m) e ∙ at;
          recovers = n.here y (ap (λ (m : ℕ). slice_get news m) (sym e) ∙ at_y);
        }
        by n c y at_y before (inr apart) = so.before c y (sym (n.there c apart) ∙ at_y) (one_less k c before apart)

  pub halting_next : PrimaryClientsStay i o → (old now next : Recoveries I O) (first road road' : R) (k : ℕ) → k < length old.clients.items → StopsClient r i o node k now next road road' → AreKnown (r.plain road') next → RoadsPass r road road' → Halting r i o node old first k now road → Halting r i o node old first (k + 1) next road'
  halting_next stay old now next first road road' k within does known pass so =
      let x = element old.clients.items k within in
      halting_one stay old now next first road road' k x.0 x.1 so does known pass

  less_all : (c m k : ℕ) → c < m → m ≤ k → c < k
  less_all c m k h l = omega (arith, h, l)

  -- ALL OF THEM

  pub clients_stop : (old now : Recoveries I O) (first road : R) (k : ℕ) → length old.clients.items ≤ k → Halting r i o node old first k now road → ClientsStop r i o node old now first road
  clients_stop old now first road k all so = record {
    servers = so.servers;
    count = so.count;
    was = λ c x at. so.before c x at (below c x at);
    left = λ w net made h.
        let few = so.left w net made h in
        record {
          left = few.left;
          roads_are = few.roads_are;
          each = λ c x at. few.each c x at (below c x at);
          stays = λ c lower e never y. few.stays c lower e (λ t. never (record { is_upper = t.is_upper; primary = t.client.recovery.primary; place = t.place; upper = t.upper })) y;
        };
  }
    where
      below : (c : ℕ) (x : PrimaryClient I O) → slice_get now.clients.items c ≡ Some x → c < k
      below c x at = less_all c (length old.clients.items) k (subst (λ (m : ℕ). c < m) so.count (element_within now.clients.items c x at)) all

-- ONE PLACE

-- The client at a place was stopped, or it is at another node.
pub stop_here : {R I O : Type 0} (r : roads.Ghosts R I O) (i : link_in.Ghosts I) (o : link_out.Ghosts O) (node : NodeId) (k : ℕ) (old new : Recoveries I O) (x x' : PrimaryClient I O) (road road' : R) → slice_get old.clients.items k ≡ Some x → (x.recovery.node.0 == node.0) ≡ true → new.clients.items ≡ slice_set old.clients.items k x' → new.servers ≡ old.servers
    → x'.recovery ≡ record x.recovery { may_begin = false } → primaries.StopShows r i o x x' road road' → StopsClient r i o node k old new road road'
stop_here {R} {I} {O} r i o node k old new x x' road road' at here set servers recovery stops y found =
    subst (λ (z : PrimaryClient I O). StopsIf (z.recovery.node.0 == node.0) r i o k z old new road road') (same_some x y (sym at ∙ found))
    (subst (λ (b : Bool). StopsIf b r i o k x old new road road') (sym here) (record { client = x'; set = set; servers = servers; recovery = recovery; stops = stops }))

pub stop_not : {R I O : Type 0} (r : roads.Ghosts R I O) (i : link_in.Ghosts I) (o : link_out.Ghosts O) (node : NodeId) (k : ℕ) (old : Recoveries I O) (x : PrimaryClient I O) (road : R) → slice_get old.clients.items k ≡ Some x → (x.recovery.node.0 == node.0) ≡ false → StopsClient r i o node k old old road road
stop_not {R} {I} {O} r i o node k old x road at away y found =
    subst (λ (z : PrimaryClient I O). StopsIf (z.recovery.node.0 == node.0) r i o k z old old road road) (same_some x y (sym at ∙ found))
    (subst (λ (b : Bool). StopsIf b r i o k x old old road road) (sym away) (record { same = refl; roads = refl }))

-- the roads know all once the client at a place has another state
pub known_set : {R I O : Type 0} (r : roads.Ghosts R I O) (k : ℕ) (old new : Recoveries I O) (x x' : PrimaryClient I O) (road road' : R) → slice_get old.clients.items k ≡ Some x → new.clients.items ≡ slice_set old.clients.items k x' → new.servers ≡ old.servers → RoadsPass r road road' → PrimaryIsReady (r.plain road') x'.state → AreKnown (r.plain road) old → AreKnown (r.plain road') new
known_set {R} {I} {O} r k old new x x' road road' at set servers pass ready known = record {
  clients = λ c y at_y. by c y (ap (λ (xs : List (PrimaryClient I O)). slice_get xs c) (sym set) ∙ at_y) (same_or c k);
  servers = λ c s at_s. (all_known_past r road road' old pass known).servers c s (ap (λ xs. slice_get xs.items c) (sym servers) ∙ at_s);
}
  where
    by : (c : ℕ) (y : PrimaryClient I O) → slice_get (slice_set old.clients.items k x') c ≡ Some y → ((c ≡ k) ⊎ (c ≡ k → ⊥)) → PrimaryIsReady (r.plain road') y.state
    by c y at_y (inl e) =
        subst (λ (z : PrimaryClient I O). PrimaryIsReady (r.plain road') z.state) (same_some x' y (sym (set_here old.clients.items k x x' at) ∙ (ap (λ (m : ℕ). slice_get (slice_set old.clients.items k x') m) (sym e) ∙ at_y))) ready
    by c y at_y (inr apart) = client_past r road road' y.state pass (known.clients c y (sym (set_there old.clients.items k x' c apart) ∙ at_y))
