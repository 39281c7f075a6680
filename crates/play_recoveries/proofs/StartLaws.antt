-- Recoveries that show a world show the world in which a node has started.
use Rattle.std.proofs.Common.{◌≡◌, ◌<◌, ◌≤◌, ◌+◌, ℕ, Bool, true, false, List, slice_get, refl, sym, ap, ◌∙◌, subst, arith, eqb-true}
use Rattle.std.specs.Prelude.{◌==◌, ◌&&◌}
use Rattle.hd_base.specs.declared.links.LinkIn as link_in
use Rattle.hd_base.specs.declared.links.LinkOut as link_out
use Rattle.hd_base.specs.declared.numbers.BlockId.{BlockId}
use Rattle.hd_base.specs.declared.numbers.NodeId.{NodeId}
use Rattle.road_traffic.specs.Showing.{Net}
use Rattle.world.specs.declared.events.Event.TheVariants as event
use Rattle.world.specs.declared.events.FoundReplica.{FoundReplica}
use Rattle.world.specs.Connections.{is_alive, is_served}
use Rattle.world.specs.Parts.{Dialled, Place}
use Rattle.world.specs.Worlds.{World}
use Rattle.play_nodes.specs.WorldOrders.Orders.{purpose_of}
use Rattle.play_model.specs.declared.recoveries.Recovery.{Recovery}
use Rattle.play_primaries.specs.Staying.{KeepsPrimaryClient, PrimaryClientsStay}
use Rattle.play_servers.specs.declared.recoveries.RecoveryServer.{RecoveryServer}
use Rattle.play_recoveries.specs.Keeping.{MayStart, RecoveringEndsStay, StartsKeepRecoveries}
use Rattle.play_recoveries.specs.Showing.{ServersShow}
use Rattle.play_recoveries.proofs.KeepLaws.{later, no_more, no_fewer, dialled_by, server_past, clients_past}
use Rattle.play_recoveries.proofs.LifeLaws.{KeepsConns, HasStarted, put_if, no_match, after, starts_so, start_keeps, served_as}
use Rattle.play_recoveries.proofs.ShutLaws.{happens_shut}

-- Servers whose connections and lower ends stay, and are served as before, show the world after.
servers_past : {I O : Type 0} (i : link_in.Ghosts I) (o : link_out.Ghosts O) (w : World) (net : Net) (v : World) (made : Net) (blocks : List BlockId) (servers : List (RecoveryServer I O)) → KeepsConns w v → ((c : ℕ) → c < w.next_conn → is_served v c ≡ is_served w c)
    → RecoveringEndsStay i o w net v made → ServersShow i o w net blocks servers → ServersShow i o v made blocks servers
servers_past i o w net v made blocks servers k served stays h = record {
  each = λ n s at.
      let was = h.each n s at in
      server_past i o w net v made blocks s (no_more w.next_conn v.next_conn k.conns) (k.dialled s.conn.0) (k.lowers s.conn.0) (served s.conn.0 was.within)
      (λ m first. ap (λ ms. slice_get ms 0) (k.downs s.conn.0) ∙ first)
      (λ x is. stays s.conn.0 true x was.shows.dialled is) was;
  ascend = h.ascend;
  all = λ c within is. h.all c (later c v.next_conn w.next_conn within (no_fewer w.next_conn v.next_conn k.conns)) (sym (ap (λ (d : Dialled). purpose_of d.upper) (k.dialled c)) ∙ is);
}

-- LIVES

false_true : (b : Bool) → b ≡ false → b ≡ true → ⊥
false_true b x y = cc

le_next : (n : ℕ) → n ≤ n + 1
le_next n = omega arith

not_next : (a b : ℕ) → a ≤ b → b + 1 ≡ a → ⊥
not_next a b h e = omega (arith, h, e)

left_so : (a b : Bool) → (a && b) ≡ true → a ≡ true
left_so true b e = refl
left_so false b e = cc

module _ (w v : World) (node : ℕ) (h : HasStarted w v node) (still : w.running node ≡ false) where
  runs_on : (n : ℕ) → w.running n ≡ true → v.running n ≡ true
  runs_on n runs = by (n == node) refl
    where
      by : (b : Bool) → (n == node) ≡ b → v.running n ≡ true
      by true e = h.running n ∙ put_if w.running node true n true e
      by false e = h.running n ∙ (put_if w.running node true n false e ∙ runs)

  lives_on : (n : ℕ) → w.lives n ≤ v.lives n
  lives_on n = by (n == node) refl
    where
      by : (b : Bool) → (n == node) ≡ b → w.lives n ≤ v.lives n
      by true e =
          subst (λ (m : ℕ). w.lives n ≤ m) (sym (h.lives n ∙ put_if w.lives node (w.lives node + 1) n true e))
          (subst (λ (m : ℕ). w.lives n ≤ w.lives m + 1) (eqb-true n node e) (le_next (w.lives n)))
      by false e = no_more (w.lives n) (v.lives n) (h.lives n ∙ put_if w.lives node (w.lives node + 1) n false e)

  -- at another node all lives are as they were
  alive_there : (p : Place) → (p.node == node) ≡ false → is_alive v p ≡ is_alive w p
  alive_there p e =
      ap (λ (b : Bool). b && (v.lives p.node == p.life)) (h.running p.node ∙ put_if w.running node true p.node false e)
      ∙ ap (λ (n : ℕ). w.running p.node && (n == p.life)) (h.lives p.node ∙ put_if w.lives node (w.lives node + 1) p.node false e)

  alive_on : (p : Place) → is_alive w p ≡ true → is_alive v p ≡ true
  alive_on p alive = by (p.node == node) refl
    where
      by : (b : Bool) → (p.node == node) ≡ b → is_alive v p ≡ true
      by true e = absurd (false_true (w.running p.node) (ap w.running (eqb-true p.node node e) ∙ still) (left_so (w.running p.node) (w.lives p.node == p.life) alive))
      by false e = alive_there p e ∙ alive

  last_false : (b : Bool) → (b && false) ≡ false
  last_false true = refl
  last_false false = refl

  gone_on : (p : Place) → p.life ≤ w.lives p.node → is_alive w p ≡ false → is_alive v p ≡ false
  gone_on p past gone = by (p.node == node) refl
    where
      by : (b : Bool) → (p.node == node) ≡ b → is_alive v p ≡ false
      by true e =
          let life : v.lives p.node ≡ w.lives p.node + 1 = h.lives p.node ∙ (put_if w.lives node (w.lives node + 1) p.node true e ∙ ap (λ (n : ℕ). w.lives n + 1) (sym (eqb-true p.node node e))) in
          ap (λ (n : ℕ). v.running p.node && (n == p.life)) life
          ∙ (ap (λ (b : Bool). v.running p.node && b) (no_match (w.lives p.node + 1) p.life (λ same. not_next p.life (w.lives p.node) past same)) ∙ last_false (v.running p.node))
      by false e = alive_there p e ∙ gone

-- ALL

module _ {I O : Type 0} (i : link_in.Ghosts I) (o : link_out.Ghosts O) (w : World) (net : Net) (made : Net) (node : NodeId) (found : List FoundReplica) (may : MayStart w node) (stays : RecoveringEndsStay i o w net (after w node found may) made) where
  abbrev v : World
  v = after w node found may

  keeps : (r : Recovery) → KeepsPrimaryClient i o w net v made r
  keeps r =
      let h : HasStarted w v node.0 = starts_so w node found may in
      record {
        primary = h.keeps.primaries r.primary;
        runs = λ begins runs. runs_on w v node.0 h may.stands_still r.node.0 runs;
        lives = λ n. lives_on w v node.0 h may.stands_still n;
        alive = λ l is e. alive_on w v node.0 h may.stands_still l.at e;
        gone = λ l is past e. gone_on w v node.0 h may.stands_still l.at past e;
        conns = λ l place c is e at. record {
          over = h.keeps.over c false;
          ends = λ x there. stays c false x (ap purpose_of (dialled_by w may.ordered r.primary l place c is at)) there;
          shut = λ is. happens_shut w (event.Restart node found) c is;
        };
      }

pub starts_kept : {I O : Type 0} (i : link_in.Ghosts I) (o : link_out.Ghosts O) → PrimaryClientsStay i o → StartsKeepRecoveries i o
starts_kept i o stay w net made node found blocks p h may stays =
    let k = start_keeps w node found may in
    let now : World = after w node found may in
    record {
      clients = clients_past i o w net now made blocks p.clients.items stay k.primaries (λ r. keeps i o w net made node found may stays r) h.clients;
      servers = servers_past i o w net now made blocks p.servers.items k (served_as w node found may) stays h.servers;
      dialled = λ c number place within by. h.dialled c number place (later c now.next_conn w.next_conn within (no_fewer w.next_conn now.next_conn k.conns)) (sym (ap (λ (d : Dialled). d.upper) (k.dialled c)) ∙ by);
    }
