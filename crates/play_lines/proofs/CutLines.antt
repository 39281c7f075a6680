-- A line that cuts a connection.
use Rattle.std.proofs.Common.{◌≡◌, ℕ, ◌<◌, true, List, ◌++◌, length, slice_get, Option, Some, None, Result, Ok, Err, refl, sym, ap, ◌∙◌, subst, eqb-true}
use Rattle.std.specs.Prelude.{◌==◌, not}
use Rattle.std.proofs.lemmas.List.{append-nil}
use Rattle.hd_base.specs.declared.files.Files as files
use Rattle.hd_base.specs.declared.links.LinkIn as link_in
use Rattle.hd_base.specs.declared.links.LinkOut as link_out
use Rattle.hd_base.specs.declared.numbers.BlockId.{BlockId}
use Rattle.hd_base.specs.declared.numbers.ConnId.{ConnId}
use Rattle.hd_base.specs.declared.roads.Roads as roads
use Rattle.world.specs.declared.events.Event.{Event}
use Rattle.world.specs.Connections.{lost_marks}
use Rattle.world.specs.Enabled.{leads_from}
use Rattle.world.specs.Parts.{Upper, by_writer, by_member, by_reader, by_primary, Marks, Writing, Primary, no_primary, was_told, leads, has_led}
use Rattle.world.specs.Worlds.{World, put, start}
use Rattle.world.specs.Events.{run}
use Rattle.play_opening.specs.WorldCuts.Cutting.{cut_world, IsCut, CutsAreLosses}
use Rattle.play_scripts.specs.WorldOrders.Open.{AllOpen}
use Rattle.play_model.specs.WorldLaws.Placing.{Placed}
use Rattle.play_model.proofs.WorldLaws.FactTables.{if-each}
use Rattle.play_opening.specs.PlayClients.Blocks.{blocks_of}
use Rattle.play_model.specs.Lines.{pipeline_conn, cut_at}
use Rattle.play_model.specs.States as states
use Rattle.play_model.specs.States.{PlayState}
use Rattle.play_opening.specs.PlayClients.Client.{Client}
use Rattle.play_opening.specs.PlayDues.LiveConns.{LiveConns}
use Rattle.play_opening.specs.PlayDues.Live.{Covers}
use Rattle.play_opening.specs.PlayDues.Spent.{is_given_up, is_spent}
use Rattle.play_scripts.specs.PlayNodes.Showing.{has_events}
use Rattle.play_opening.specs.Play.PlayFault.{PlayFault}
use Rattle.play_opening.specs.Play.Player.{Player}
use Rattle.play_opening.specs.Play.Cutting as player
use Rattle.play_opening.specs.Play.Cutting.{losses, HasCut}
use Rattle.play_opening.specs.Play.Laws.{Laws}
use Rattle.play_scripts.specs.PlayLaws.Commands.{given_with}
use Rattle.play_opening.specs.Play.Standing.{world_of}
use Rattle.play_scripts.specs.PlayLaws.Intakes.{intake_of}
use Rattle.play_lines.specs.declared.playing.Playing.{Playing}
use Rattle.play_lines.specs.Drawing.{IsCaused, IsDrawn}
use Rattle.play_lines.specs.Pipelines.{number_of, pipeline_at}
use Rattle.play_lines.specs.Cutting.{CutShows}
use Rattle.play_opening.specs.PlayReaders.Asks.{asks_of}
use Rattle.play_opening.specs.PlayRecoveries.Places.{recoveries_of}
use Rattle.play_lines.specs.Showing.{FaultsShow, PlayIs, IsPlaying}
use Rattle.play_lines.proofs.Drawn.{world_same, dues_show}
use Rattle.play_lines.proofs.Pipelined.{pipeline_told, conn_within}
use Rattle.play_lines.proofs.SpentLemmas.{both, silent}

-- the world in which a connection was cut, which is told of its last event
abbrev left_by : World → World → ℕ → ℕ → ℕ → World
left_by w v c down up = record w {
  down_marks = put w.down_marks c (lost_marks (w.downs c) down (w.down_marks c));
  up_marks = put w.up_marks c (lost_marks (w.ups c) up (w.up_marks c));
  last = v.last;
  last_answer = v.last_answer;
}

-- a primary that takes nothing from a connection takes nothing from it then
led_over : (w v : World) (c down up place : ℕ) (p : Primary) → not (leads_from p w place) ≡ true → not (leads_from p (left_by w v c down up) place) ≡ true
led_over w v c down up place (leads l) h = h
led_over w v c down up place no_primary h = refl
led_over w v c down up place (was_told b told) h = refl
led_over w v c down up place (has_led result) h = refl

over_cut : (w v : World) (c down up d : ℕ) → (w.up_marks d).over ≡ true → ((left_by w v c down up).up_marks d).over ≡ true
over_cut w v c down up d e =
    if-each (λ (m : Marks). m.over ≡ true) (d == c) (lost_marks (w.ups c) up (w.up_marks c)) (w.up_marks d)
    (λ q. subst (λ (n : ℕ). (w.up_marks n).over ≡ true) (eqb-true d c q) e)
    (λ _. e)

given_up : (w v : World) (c down up d : ℕ) (u : Upper) → is_given_up w d u ≡ true → is_given_up (left_by w v c down up) d u ≡ true
given_up w v c down up d (by_writer b) h = h
given_up w v c down up d (by_member above) h = h
given_up w v c down up d (by_reader k) h = h
given_up w v c down up d (by_primary k place) h =
    silent (leads_from (w.primaries k) w place) (leads_from (w.primaries k) (left_by w v c down up) place) (w.up_marks d).over ((left_by w v c down up).up_marks d).over (led_over w v c down up place (w.primaries k)) (over_cut w v c down up d) h

spent_cut : (w v : World) (c down up d : ℕ) → is_spent w d ≡ true → is_spent (left_by w v c down up) d ≡ true
spent_cut w v c down up d h =
    both (not (has_events w d)) (is_given_up w d (w.dialled d).upper) (not (has_events (left_by w v c down up) d)) (is_given_up (left_by w v c down up) d (w.dialled d).upper) (λ e. e) (given_up w v c down up d (w.dialled d).upper) h

-- What covered a world covers the one in which a connection was cut.
covers_cut : (w v : World) (c down up : ℕ) (live : LiveConns) → IsCut w v c down up → Covers w live → Covers v live
covers_cut w v c down up live cut h =
    subst (λ (k : World). Covers k live) (sym cut.is) (record { within = h.within; has = h.has; listed = h.listed; rest = λ d below out. spent_cut w v c down up d (h.rest d below out) })

writer_cut : (w v : World) (c down up b : ℕ) → IsCut w v c down up → v.writers b ≡ w.writers b
writer_cut w v c down up b cut = ap (λ (k : World). k.writers b) cut.is

module _ {F R I O : Type 0} (f : files.Ghosts F) (r : roads.Ghosts R I O) (i : link_in.Ghosts I) (o : link_out.Ghosts O) (L : Laws) (opens : AllOpen) (are : CutsAreLosses) (block : BlockId) (place down up : ℕ) where
  -- the model's connection is the one that the nodes tell
  conn_told : (p : PlayState) (road : R) (old : Playing F I O) → PlayIs f r i o p road old → pipeline_at old.player.nodes.connections.items block.0 place ≡ pipeline_conn (states.world_of p) block.0 place
  conn_told p road old h =
      let w : World = world_of p.nodes old.player in
      let d = dues_show f r i o L opens p road old h in
      pipeline_told i o w h.stands.net old.player.nodes d.stands.nodes_are d.orderly.placed block.0 place
      ∙ ap (λ (v : World). pipeline_conn v block.0 place) (sym (world_same f r i o p road old h))

  module _ (old : Playing F I O) (road : R) (found : Option ConnId) (told : number_of found ≡ pipeline_at old.player.nodes.connections.items block.0 place) where
    none_cut : (p : PlayState) → PlayIs f r i o p road old → found ≡ None → IsDrawn f r i o p (cut_at p (pipeline_conn (states.world_of p) block.0 place) down up) old old road
    none_cut p h none =
        let is : pipeline_conn (states.world_of p) block.0 place ≡ None = sym (conn_told p road old h) ∙ (sym told ∙ ap number_of none) in
        let same : p ≡ cut_at p (pipeline_conn (states.world_of p) block.0 place) down up =
        ap (λ (es : List Event). record p { events = es }) (sym (append-nil p.events)) ∙ ap (λ (c : Option ℕ). cut_at p c down up) (sym is) in
        subst (λ (q : PlayState). IsDrawn f r i o p q old old road) same (record { is = h; blocks = refl; given = λ b k. refl })

    pub nothing_cut : found ≡ None → CutShows f r i o block place down up old old road road (Ok tt)
    nothing_cut none = λ p h. none_cut p h none

    module _ (conn : ConnId) (there : found ≡ Some conn) where
      conn_is : (p : PlayState) → PlayIs f r i o p road old → pipeline_conn (states.world_of p) block.0 place ≡ Some conn.0
      conn_is p h = sym (conn_told p road old h) ∙ (sym told ∙ ap number_of there)

      dialled : (p : PlayState) → PlayIs f r i o p road old → conn.0 < (states.world_of p).next_conn
      dialled p h =
          conn_within (states.world_of p) (subst (λ (w : World). Placed w) (sym (world_same f r i o p road old h)) (dues_show f r i o L opens p road old h).orderly.placed) block.0 place conn.0 (conn_is p h)

      pub within : IsPlaying f r i o road old → conn.0 < length old.player.nodes.connections.items
      within playing =
          subst (λ (n : ℕ). conn.0 < n) (ap (λ (w : World). w.next_conn) (world_same f r i o playing.p road old playing.is) ∙ sym playing.is.stands.shows.nodes.nodes_are.count) (dialled playing.p playing.is)

      module _ (new : Playing F I O) (road' : R) (rest : new ≡ record old { player = new.player }) where
        cut_play : (p : PlayState) → (h : PlayIs f r i o p road old) → HasCut r i o p.nodes p.queues conn down up old.player new.player road' → IsDrawn f r i o p (cut_at p (Some conn.0) down up) old new road'
        cut_play p h has =
            let w : World = states.world_of p in
            let v : World = cut_world w conn down up in
            let q : PlayState = cut_at p (Some conn.0) down up in
            let cut : IsCut w v conn.0 down up = (are w h.stands.net conn down up (dialled p h)).is in
            let joined : states.world_of q ≡ v = L.joined (start p.nodes) p.events (losses conn down up) in
            let events : q.events ≡ new.player.events.items = ap (λ (es : List Event). es ++ losses conn down up) h.events ∙ sym has.events in
            let world_is : world_of p.nodes new.player ≡ v = ap (λ (es : List Event). run (start p.nodes) es) (sym events) ∙ joined in
            let clients : new.player.clients.items ≡ old.player.clients.items = ap (λ (x : Player F I O). x.clients.items) has.same in
            record {
              is = record {
                stands = has.stands;
                nodes_are = h.nodes_are ∙ ap (λ (x : Playing F I O). x.nodes) (sym rest);
                events = events;
                generator = ap (λ (x : Playing F I O). x.generator) rest ∙ h.generator;
                faults = subst (λ (numbers : List ℕ). FaultsShow f p.nodes p.faults numbers) (ap (λ (x : Playing F I O). x.faults.items) (sym rest)) h.faults;
                asks = ap (λ (x : Player F I O). asks_of x.reads.clients.items) has.same ∙ h.asks;
                told = h.told;
                recovers = ap (λ (x : Player F I O). recoveries_of x.recoveries.clients.items) has.same ∙ h.recovers;
                formed = h.formed;
                rules = λ k c at. h.rules k c (sym (ap (λ (xs : List (Client I O)). slice_get xs k) clients) ∙ at);
                live = subst (λ (l : LiveConns). Covers (world_of p.nodes new.player) l) (ap (λ (x : Playing F I O). x.live) (sym rest))
                    (subst (λ (u : World). Covers u old.live) (sym world_is) (covers_cut w v conn.0 down up old.live cut (subst (λ (u : World). Covers u old.live) (sym (world_same f r i o p road old h)) h.live)));
              };
              blocks = ap (λ (xs : List (Client I O)). blocks_of xs) clients;
              given = λ b k. ap (λ (u : World). given_with (intake_of u b) (p.queues b)) joined ∙ ap (λ (x : Writing). given_with x.known.intake (p.queues b)) (writer_cut w v conn.0 down up b cut);
            }

        pub was_cut : (result : Result (Unit {0}) PlayFault) → player.CutShows r i o conn down up old.player new.player road road' result → CutShows f r i o block place down up old new road road' result
        was_cut (Ok u) shows = λ p h. subst (λ (c : Option ℕ). IsDrawn f r i o p (cut_at p c down up) old new road') (sym (conn_is p h)) (cut_play p h (shows p.nodes p.queues h.stands))
        was_cut (Err why) shows = λ p h. subst (λ (x : PlayFault). IsCaused f r new road road' x) (sym (shows p.nodes p.queues h.stands)) tt
