-- What is drawn befalls.
use Rattle.std.proofs.Common.{◌≡◌, inl, inr, ℕ, zero, suc, ◌≤◌, ◌<◌, ◌%◌, Bool, true, false, List, [], ◌∷◌, ◌++◌, drop, length, slice_get, option_map, Option, Some, None, Result, Ok, Err, refl, sym, ap, ◌∙◌, subst, arith}
use Rattle.std.specs.Prelude.{is_some}
use Rattle.std.proofs.lemmas.Option.{none-some, same_Some, slice_get-map}
use Rattle.hd_base.specs.Faults.{FaultsIncreased}
use Rattle.hd_base.specs.declared.files.Files as files
use Rattle.hd_base.specs.declared.links.LinkIn as link_in
use Rattle.hd_base.specs.declared.links.LinkOut as link_out
use Rattle.hd_base.specs.declared.numbers.BlockId.{BlockId}
use Rattle.hd_base.specs.declared.roads.Roads as roads
use Rattle.rand_pcg.specs.Lcg.{Lcg}
use Rattle.rand_pcg.specs.Pcg.{pcg32}
use Rattle.world.specs.declared.events.Event.{Event}
use Rattle.world.specs.Worlds.{World, start}
use Rattle.world.specs.Events.{run}
use Rattle.play_scripts.specs.WorldOrders.Open.{AllOpen}
use Rattle.play_model.specs.declared.asks.ReadAsk.{ReadAsk}
use Rattle.play_model.specs.declared.recoveries.Recovery.{Recovery}
use Rattle.play_model.specs.declared.dues.Due.{Due}
use Rattle.play_model.specs.declared.dues.Due.TheVariants as due
use Rattle.play_model.specs.Draws.{draw}
use Rattle.play_model.specs.Dues.{is_due, dues, queues_after}
use Rattle.play_model.specs.Faults.{Faults, write_node, number_at, run_down, befall_events, befall_faults, befalls}
use Rattle.play_model.specs.Laws.{IsListed, ListedAreDue}
use Rattle.play_scripts.specs.PlayLaws.Intakes.{intake_of}
use Rattle.play_model.specs.States as states
use Rattle.play_model.specs.States.{PlayState}
use Rattle.play_opening.specs.PlayClients.Client.{Client}
use Rattle.play_opening.specs.PlayDues.Drawing.{DrawsFrom, DrawsDue, PlaysAreDrawn, PlaysEnd}
use Rattle.play_opening.specs.PlayDues.Listing.{all_dues, DuesAreListed}
use Rattle.play_opening.specs.PlayDues.LiveConns.{LiveConns}
use Rattle.play_opening.specs.PlayDues.Live.{Covers, IsCurrent, IsRefreshed, CurrentCovers, CoversOn}
use Rattle.play_opening.specs.PlayClients.Blocks.{blocks_of}
use Rattle.play_opening.specs.PlayDues.Showing.{HasClient, DuesShow}
use Rattle.play_opening.specs.Play.PlayFault.{PlayFault}
use Rattle.play_opening.specs.Play.PlayFault.TheVariants as fault
use Rattle.play_opening.specs.Play.Player.{Player}
use Rattle.play_opening.specs.Play.Events as player
use Rattle.play_opening.specs.Play.Events.{KeepsPlaces}
use Rattle.play_opening.specs.Play.Laws.{Laws}
use Rattle.play_opening.specs.PlayReaders.ReadClient.{ReadClient}
use Rattle.play_opening.specs.PlayReaders.Asks.{asks_of}
use Rattle.play_opening.specs.PlayReads.Places.{HasAsk}
use Rattle.play_opening.specs.PlayPrimaries.PrimaryClient.{PrimaryClient}
use Rattle.play_opening.specs.PlayRecoveries.Places.{recoveries_of, HasRecovery}
use Rattle.play_opening.specs.Play.Reading.{ReadsAreTold}
use Rattle.play_opening.specs.Play.Showing.{PlayerStands}
use Rattle.play_opening.proofs.PlayProofs.Lawful.{are_placed}
use Rattle.play_scripts.specs.PlayLaws.Commands.{given_with}
use Rattle.play.specs.Befalling.{TellsFaults, FaultsAreTold, HasBefallen, BefallShows}
use Rattle.play_opening.specs.Play.Standing.{world_of, PlayStands, ActorIsClient}
use Rattle.play_lines.specs.declared.playing.Playing.{Playing}
use Rattle.play_lines.specs.Drawing.{IsCaused, blocks_in, DrawEnds, DrawShows}
use Rattle.play_lines.specs.Showing.{PlayIs, IsPlaying, given_in}
use Rattle.play_lines.proofs.FailedWrites.{covers_befallen}

-- the numbers of the same blocks
pub numbers_same : {I O : Type 0} (xs ys : List (Client I O)) → player.blocks_of xs ≡ player.blocks_of ys → blocks_of xs ≡ blocks_of ys
numbers_same [] [] e = refl
numbers_same [] (y ∷ ys) e = cc
numbers_same (x ∷ xs) [] e = cc
numbers_same {I} {O} (x ∷ xs) (y ∷ ys) e =
    let head : x.block ≡ y.block = same_Some x.block y.block (ap (λ (bs : List BlockId). slice_get bs 0) e) in
    ap (λ (b : BlockId). b.0 ∷ blocks_of xs) head ∙ ap (λ (bs : List ℕ). y.block.0 ∷ bs) (numbers_same xs ys (ap (λ (bs : List BlockId). drop 1 bs) e))

-- a block among those of the clients has one
pub client_of_block : {I O : Type 0} (clients : List (Client I O)) (b k : ℕ) → slice_get (blocks_of clients) k ≡ Some b → HasClient clients b
client_of_block [] b k e = cc
client_of_block (c ∷ clients) b zero e = record { place = 0; client = c; found = refl; block = same_Some c.block.0 b e }
client_of_block (c ∷ clients) b (suc k) e =
    let h = client_of_block clients b k e in
    record { place = suc h.place; client = h.client; found = h.found; block = h.block }

module _ {F R I O : Type 0} (f : files.Ghosts F) (r : roads.Ghosts R I O) (i : link_in.Ghosts I) (o : link_out.Ghosts O) where
  -- THE WORLD OF A PLAY

  pub world_same : (p : PlayState) (road : R) (x : Playing F I O) → PlayIs f r i o p road x → states.world_of p ≡ world_of p.nodes x.player
  world_same p road x h = ap (λ (es : List Event). run (start p.nodes) es) h.events

  pub dues_show : (L : Laws) → AllOpen → (p : PlayState) (road : R) (x : Playing F I O) (h : PlayIs f r i o p road x) → DuesShow r i o (world_of p.nodes x.player) h.stands.net p.queues road x.player.nodes x.player.clients.items x.player.reads x.player.recoveries
  dues_show L opens p road x h = record {
    stands = h.stands.shows.nodes;
    orderly = record { ordered = L.ordered p.nodes x.player.events.items; placed = L.placed p.nodes x.player.events.items; open_ends = opens p.nodes x.player.events.items };
    in_order = L.readers p.nodes x.player.events.items;
    primaries = are_placed L p.nodes x.player h.stands.events;
    each = λ k c at. record { client_is = (h.stands.shows.clients k c at).shows; queue = (h.stands.shows.clients k c at).queue };
    connected = h.stands.connected;
    reads_are = h.stands.shows.reads;
    recoveries_are = h.stands.shows.recoveries;
  }

  -- the list of live connections is up to date once it was refreshed
  pub refreshed_so : (L : Laws) → AllOpen → (p : PlayState) (road : R) (x : Playing F I O) (live : LiveConns) → PlayIs f r i o p road x → IsRefreshed i o x.live live x.player.nodes x.player.clients.items x.player.reads x.player.recoveries → IsCurrent (world_of p.nodes x.player) live
  refreshed_so L opens p road x live h refreshed =
      let d = dues_show L opens p road x h in
      refreshed (world_of p.nodes x.player) h.stands.net (record { nodes_are = d.stands.nodes_are; placed = d.orderly.placed; primaries = d.primaries; each = λ k c at. (d.each k c at).client_is; connected = d.connected; reads_are = d.reads_are; recoveries_are = d.recoveries_are }) h.live

  -- it covers the world after what befell, too
  pub covers_after : (L : Laws) → AllOpen → CoversOn → (p : PlayState) (road road' : R) (old new : Playing F I O) (d : Due) (live : LiveConns) → PlayIs f r i o p road old → is_due (world_of p.nodes old.player) p.queues d ≡ true → HasBefallen r i o p.nodes p.queues p.faults d new.faults.items old.player new.player road' → Covers (world_of p.nodes old.player) live → Covers (world_of p.nodes new.player) live
  covers_after L opens on p road road' old new d live h is has covers =
      let w : World = world_of p.nodes old.player in
      let events : List Event = befall_events w p.queues p.faults d in
      let joined : world_of p.nodes new.player ≡ run w events = ap (λ (es : List Event). run (start p.nodes) es) has.done.events ∙ L.joined (start p.nodes) old.player.events.items events in
      let shows = dues_show L opens p road old h in
      subst (λ (v : World). Covers v live) (sym joined) (covers_befallen w p.queues p.faults live covers d (on w p.queues d live shows.orderly shows.primaries is covers) is)

  -- the same play, whose roads were asked
  pub with_roads : (p : PlayState) (road road' : R) (x : Playing F I O) (h : PlayIs f r i o p road x) → DuesShow r i o (world_of p.nodes x.player) h.stands.net p.queues road' x.player.nodes x.player.clients.items x.player.reads x.player.recoveries → PlayIs f r i o p road' x
  with_roads p road road' x h shows = record {
    stands = record {
      net = h.stands.net;
      shows = record { nodes = shows.stands; reads = h.stands.shows.reads; recoveries = h.stands.shows.recoveries; clients = h.stands.shows.clients; apart = h.stands.shows.apart; office = h.stands.shows.office; running = h.stands.shows.running; slots = h.stands.shows.slots };
      few = h.stands.few;
      events = h.stands.events;
      clients = h.stands.clients;
      asks = h.stands.asks;
      recovers = h.stands.recovers;
      connected = h.stands.connected;
    };
    nodes_are = h.nodes_are;
    events = h.events;
    generator = h.generator;
    faults = h.faults;
    asks = h.asks;
    told = h.told;
    recovers = h.recovers;
    formed = h.formed;
    rules = h.rules;
    live = h.live;
  }

  -- with another generator its player is the same
  pub player_stands : (p : PlayState) (road : R) (x : Playing F I O) → PlayIs f r i o p road x → PlayerStands r i o road x.player
  player_stands p road x h = record { w = world_of p.nodes x.player; net = h.stands.net; queues = p.queues; shows = h.stands.shows }

  listed_so : DuesAreListed → (p : PlayState) (road : R) (x : Playing F I O) → PlayIs f r i o p road x → all_dues (world_of p.nodes x.player) p.queues (blocks_in x) (asks_of x.player.reads.clients.items) (recoveries_of x.player.recoveries.clients.items) ≡ dues (blocks_in x) p
  listed_so listed p road x h =
      ap (λ (w : World). all_dues w p.queues (blocks_in x) (asks_of x.player.reads.clients.items) (recoveries_of x.player.recoveries.clients.items)) (sym (world_same p road x h)) ∙
      (ap (λ (asks : List ReadAsk). all_dues (states.world_of p) p.queues (blocks_in x) asks (recoveries_of x.player.recoveries.clients.items)) h.asks ∙
      (ap (λ (rs : List Recovery). all_dues (states.world_of p) p.queues (blocks_in x) p.asks rs) h.recovers ∙ listed (blocks_in x) p))

  -- what is drawn of the play's list
  drawn_of : DuesAreListed → (p : PlayState) (road road' : R) (x : Playing F I O) (h : PlayIs f r i o p road x) (after : Lcg) (result : Option Due) → DrawsFrom (all_dues (world_of p.nodes x.player) p.queues (blocks_in x) (asks_of x.player.reads.clients.items) (recoveries_of x.player.recoveries.clients.items)) x.generator after result → DrawsFrom (dues (blocks_in x) p) p.generator after result
  drawn_of listed p road road' x h after result draws =
      subst (λ (ds : List Due). DrawsFrom ds p.generator after result) (listed_so listed p road x h)
      (subst (λ (g : Lcg). DrawsFrom (all_dues (world_of p.nodes x.player) p.queues (blocks_in x) (asks_of x.player.reads.clients.items) (recoveries_of x.player.recoveries.clients.items)) g after result) h.generator draws)

  same_none : (ds : List Due) (old after : Lcg) → ds ≡ [] → DrawsFrom ds old after None → after ≡ old
  same_none [] old after e h = h.0
  same_none (d ∷ ds) old after e h = cc

  -- NOTHING IS DUE

  pub nothing_drawn : (L : Laws) → AllOpen → DuesAreListed → PlaysAreDrawn → PlaysEnd → CurrentCovers → (old new : Playing F I O) (road road' : R) (result : Option Due) → new ≡ record old { generator = new.generator; live = new.live } → result ≡ None → IsRefreshed i o old.live new.live old.player.nodes old.player.clients.items old.player.reads old.player.recoveries
      → DrawsDue r i o new.live old.player.nodes old.player.clients.items old.player.reads old.player.recoveries road road' old.generator new.generator result → DrawShows f r i o old new road road' (Ok false)
  nothing_drawn L opens listed plays ends covered old new road road' result same none refreshed draws = λ p h.
      let t = draws (world_of p.nodes old.player) h.stands.net p.queues (dues_show L opens p road old h) in
      let current : IsCurrent (world_of p.nodes old.player) new.live = refreshed_so L opens p road old new.live h refreshed in
      let k : DrawsFrom (dues (blocks_in old) p) p.generator new.generator None = subst (λ (x : Option Due). DrawsFrom (dues (blocks_in old) p) p.generator new.generator x) none (drawn_of listed p road road' old h new.generator result (t.1 current)) in
      let empty : dues (blocks_in old) p ≡ [] = ends (blocks_in old) p new.generator k in
      let gen : new.generator ≡ p.generator = same_none (dues (blocks_in old) p) p.generator new.generator empty k in
      let is : PlayIs f r i o p road' old = with_roads p road road' old h t.0 in (
        record {
          is = subst (λ (q : PlayState). PlayIs f r i o q road' new) (sym (plays (blocks_in old) p new.generator None k ∙ ap (λ (g : Lcg). record p { generator = g }) gen))
              (subst (λ (x : Playing F I O). PlayIs f r i o p road' x) (sym same) (record { stands = is.stands; nodes_are = is.nodes_are; events = is.events; generator = gen; faults = is.faults; asks = is.asks; told = is.told; recovers = is.recovers; formed = is.formed; rules = is.rules; live = covered (world_of p.nodes old.player) new.live current }));
          blocks = ap blocks_in same;
          given = λ b h'. ap (λ (q : PlayState). given_in q b) (plays (blocks_in old) p new.generator None k ∙ ap (λ (g : Lcg). record p { generator = g }) gen);
        },
        sym (ap (λ (ds : List Due). is_some (slice_get ds 0)) empty),
      )

  -- SOMETHING BEFALLS

  -- where a write is to fail one was to fail before
  told_after : (faults : Faults) (node : Option ℕ) → FaultsAreTold f faults → FaultsAreTold f (run_down (number_at faults node) node faults)
  told_after faults None told = told
  told_after faults (Some n) told = by (faults n) refl
    where
      none_left : (left : ℕ) → faults n ≡ suc left → faults n ≡ 0 → ⊥
      none_left left e none = omega (arith, e, none)

      by : (number : ℕ) → faults n ≡ number → FaultsAreTold f (run_down number (Some n) faults)
      by zero e = told
      by (suc left) e = λ node some. told n (none_left left e)

  rules_after : (p : PlayState) (old new : Playing F I O) (actor : Option ℕ) → KeepsPlaces actor old.player new.player → ((k : ℕ) (c : Client I O) → slice_get old.player.clients.items k ≡ Some c → c.rule ≡ p.rules c.block.0) → (k : ℕ) (c : Client I O) → slice_get new.player.clients.items k ≡ Some c → c.rule ≡ p.rules c.block.0
  rules_after p old new actor places rules k c at =
      let z = places.each k c at in
      z.rule ∙ (rules k z.was z.at ∙ ap (λ (b : BlockId). p.rules b.0) (sym z.block))

  pub after : (p : PlayState) (road road' : R) (old new : Playing F I O) (d : Due) (g : Lcg) → new.nodes ≡ old.nodes → length new.faults.items ≡ length old.faults.items → PlayIs f r i o p road old → HasBefallen r i o p.nodes p.queues p.faults d new.faults.items old.player new.player road' → new.generator ≡ g → Covers (world_of p.nodes new.player) new.live
      → PlayIs f r i o (befalls (record p { generator = g }) d) road' new
  unfolding befalls
  after p road road' old new d g nodes count h has generator covers =
      let same : states.world_of p ≡ world_of p.nodes old.player = world_same p road old h in
      record {
        stands = subst (λ (w : World). PlayStands r i o p.nodes (queues_after w p.queues d) road' new.player) (sym same) has.done.stands;
        nodes_are = h.nodes_are ∙ sym nodes;
        events = ap (λ (w : World). p.events ++ befall_events w p.queues p.faults d) same ∙ (ap (λ (es : List Event). es ++ befall_events (world_of p.nodes old.player) p.queues p.faults d) h.events ∙ sym has.done.events);
        generator = generator;
        faults = record {
          count = count ∙ h.faults.count;
          tells = subst (λ (w : World). TellsFaults (befall_faults w p.faults d) new.faults.items) (sym same) has.numbers_are;
          told = told_after p.faults (write_node (states.world_of p) d) h.faults.told;
        };
        asks = has.done.places.asks ∙ h.asks;
        told = h.told;
        recovers = has.done.places.recovers ∙ h.recovers;
        formed = h.formed;
        rules = rules_after p old new _ has.done.places h.rules;
        live = covers;
      }

  -- what was given stays
  pub given_after : (p : PlayState) (road road' : R) (old new : Playing F I O) (d : Due) (g : Lcg) → PlayIs f r i o p road old → PlayIs f r i o (befalls (record p { generator = g }) d) road' new → HasBefallen r i o p.nodes p.queues p.faults d new.faults.items old.player new.player road' → (b : ℕ) → HasClient old.player.clients.items b → given_in (befalls (record p { generator = g }) d) b ≡ given_in p b
  unfolding befalls
  given_after p road road' old new d g before now has b k =
      let was : states.world_of p ≡ world_of p.nodes old.player = world_same p road old before in
      let is : states.world_of (befalls (record p { generator = g }) d) ≡ world_of p.nodes new.player = world_same (befalls (record p { generator = g }) d) road' new now in
      ap (λ (w : World). given_with (intake_of w b) (queues_after (states.world_of p) p.queues d b)) is ∙
      (ap (λ (w : World). given_with (intake_of (world_of p.nodes new.player) b) (queues_after w p.queues d b)) was ∙
      (has.done.given b k ∙ ap (λ (w : World). given_with (intake_of w b) (p.queues b)) (sym was)))

  some_listed : (ds : List Due) (old after : Lcg) (d : Due) → DrawsFrom ds old after (Some d) → (k : ℕ) × (slice_get ds k ≡ Some d)
  some_listed [] old after d h = absurd (none-some d (sym h.1))
  some_listed (x ∷ ds) old after d h = ((pcg32 old).0 % length (x ∷ ds), sym h.1)

  some_first : (ds : List Due) (k : ℕ) (d : Due) → slice_get ds k ≡ Some d → true ≡ is_some (slice_get ds 0)
  some_first [] k d e = absurd (none-some d e)
  some_first (x ∷ ds) k d e = refl

  -- a fault in what befalls is one of the draw
  failed_book : (before now : ℕ) → FaultsIncreased before now → 0 < now
  failed_book before now h = grind (arith, h)

  pub more_faults : (a b c : ℕ) → a ≤ b → FaultsIncreased b c → FaultsIncreased a c
  more_faults a b c h k = grind (arith, h, k)

  pub caused : (old mid new : Playing F I O) (road first road' : R) (why : PlayFault) → r.faults road ≤ r.faults first → player.IsCaused f r mid.player new.player first road' why → IsCaused f r new road road' why
  caused old mid new road first road' fault.RoadFault h (inl risen) = inl risen
  caused old mid new road first road' fault.RoadFault h (inr rose) = inr (more_faults (r.faults road) (r.faults first) (r.faults road') h rose)
  caused old mid new road first road' (fault.ShelfFault node) h c = record { place = c.place; book = c.book'; at_place = c.now; failed = failed_book (f.faults c.book.drawer) (f.faults c.book'.drawer) c.rose }
  caused old mid new road first road' fault.Memory h c = tt

  -- SOMETHING IS DUE

  asks_there : (clients : List (ReadClient I O)) (ask : ReadAsk) (k : ℕ) → slice_get (asks_of clients) k ≡ Some ask → HasAsk clients ask
  asks_there [] ask k e = cc
  asks_there (c ∷ clients) ask zero e = record { place = 0; client = c; at = refl; asks = same_Some c.ask ask e }
  asks_there (c ∷ clients) ask (suc k) e =
      let h = asks_there clients ask k e in
      record { place = suc h.place; client = h.client; at = h.at; asks = h.asks }

  recovers_there : (clients : List (PrimaryClient I O)) (rec : Recovery) (k : ℕ) → slice_get (recoveries_of clients) k ≡ Some rec → HasRecovery clients rec
  recovers_there [] rec k e = cc
  recovers_there (c ∷ clients) rec zero e = record { place = 0; client = c; at = refl; recovers = same_Some c.recovery rec e }
  recovers_there (c ∷ clients) rec (suc k) e =
      let h = recovers_there clients rec k e in
      record { place = suc h.place; client = h.client; at = h.at; recovers = h.recovers }

  actor_of : (p : PlayState) (road : R) (x : Playing F I O) (d : Due) → PlayIs f r i o p road x → IsListed (blocks_in x) p d → ActorIsClient x.player d
  actor_of p road x (due.Own b) h z = client_of_block x.player.clients.items b.0 z.among.place z.among.there
  actor_of p road x (due.Reader ask) h z = asks_there x.player.reads.clients.items ask z.asked.place (ap (λ (xs : List ReadAsk). slice_get xs z.asked.place) h.asks ∙ z.asked.there)
  actor_of p road x (due.Primary rec) h z = recovers_there x.player.recoveries.clients.items rec z.recovers.place (ap (λ (xs : List Recovery). slice_get xs z.recovers.place) h.recovers ∙ z.recovers.there)
  actor_of p road x (due.Down c) h z = tt
  actor_of p road x (due.Ready c) h z = tt
  actor_of p road x (due.Up c) h z = tt

  -- where there is a reader something was asked
  pub reads_told : (p : PlayState) (road : R) (x : Playing F I O) → PlayIs f r i o p road x → ReadsAreTold f x.player
  reads_told p road x h k c at = h.told k c.ask (ap (λ (xs : List ReadAsk). slice_get xs k) (sym h.asks) ∙ (slice_get-map (λ (a : ReadClient I O). a.ask) x.player.reads.clients.items k ∙ ap (λ (y : Option (ReadClient I O)). option_map (λ (a : ReadClient I O). a.ask) y) at))

  -- what is drawn, and befalls
  record Draws (p : PlayState) (old mid : Playing F I O) (d : Due) (first : R) : Type 0 where
    is : PlayIs f r i o p first old
    current : IsCurrent (world_of p.nodes old.player) mid.live
    play_is : draw (blocks_in old) p ≡ befalls (record p { generator = mid.generator }) d
    due_is : is_due (world_of p.nodes old.player) p.queues d ≡ true
    actor : ActorIsClient old.player d
    more : true ≡ is_some (slice_get (dues (blocks_in old) p) 0)

  draws_so : (L : Laws) → AllOpen → DuesAreListed → PlaysAreDrawn → ListedAreDue → (old mid : Playing F I O) (road first : R) (d : Due) → IsRefreshed i o old.live mid.live old.player.nodes old.player.clients.items old.player.reads old.player.recoveries → DrawsDue r i o mid.live old.player.nodes old.player.clients.items old.player.reads old.player.recoveries road first old.generator mid.generator (Some d) → (p : PlayState) → PlayIs f r i o p road old → Draws p old mid d first
  draws_so L opens listed plays due old mid road first d refreshed draws p h =
      let t = draws (world_of p.nodes old.player) h.stands.net p.queues (dues_show L opens p road old h) in
      let current : IsCurrent (world_of p.nodes old.player) mid.live = refreshed_so L opens p road old mid.live h refreshed in
      let k : DrawsFrom (dues (blocks_in old) p) p.generator mid.generator (Some d) = drawn_of listed p road first old h mid.generator (Some d) (t.1 current) in
      let at = some_listed (dues (blocks_in old) p) p.generator mid.generator d k in
      let x : IsListed (blocks_in old) p d = due (blocks_in old) p at.0 d at.1 in
      record {
        is = with_roads p road first old h t.0;
        current = current;
        play_is = plays (blocks_in old) p mid.generator (Some d) k;
        due_is = subst (λ (w : World). is_due w p.queues d ≡ true) (world_same p road old h) x.is;
        actor = actor_of p road old d h x;
        more = some_first (dues (blocks_in old) p) at.0 d at.1;
      }

  pub drew : (L : Laws) → AllOpen → DuesAreListed → PlaysAreDrawn → ListedAreDue → CurrentCovers → CoversOn → (old mid new : Playing F I O) (road first road' : R) (d : Due) → new.nodes ≡ old.nodes → length new.faults.items ≡ length old.faults.items → new.generator ≡ mid.generator → new.live ≡ mid.live → IsRefreshed i o old.live mid.live old.player.nodes old.player.clients.items old.player.reads old.player.recoveries
      → DrawsDue r i o mid.live old.player.nodes old.player.clients.items old.player.reads old.player.recoveries road first old.generator mid.generator (Some d) → BefallShows f r i o d old.faults.items new.faults.items old.player new.player first road' (Ok tt) → DrawShows f r i o old new road road' (Ok true)
  drew L opens listed plays due covered on old mid new road first road' d nodes count gen live refreshed draws befall = λ p h.
      let z : Draws p old mid d first = draws_so L opens listed plays due old mid road first d refreshed draws p h in
      let has : HasBefallen r i o p.nodes p.queues p.faults d new.faults.items old.player new.player road' = befall p.nodes p.queues p.faults z.is.stands z.is.faults.tells z.is.faults.told z.due_is z.actor (reads_told p first old z.is) in
      let covers : Covers (world_of p.nodes new.player) new.live = subst (λ (l : LiveConns). Covers (world_of p.nodes new.player) l) (sym live)
      (covers_after L opens on p first road' old new d mid.live z.is z.due_is has (covered (world_of p.nodes old.player) mid.live z.current)) in
      let now : PlayIs f r i o (befalls (record p { generator = mid.generator }) d) road' new = after p first road' old new d mid.generator nodes count z.is has gen covers in (
        record {
          is = subst (λ (q : PlayState). PlayIs f r i o q road' new) (sym z.play_is) now;
          blocks = numbers_same new.player.clients.items old.player.clients.items has.done.places.order;
          given = λ b k. ap (λ (q : PlayState). given_in q b) z.play_is ∙ given_after p first road' old new d mid.generator z.is now has b k;
        },
        z.more,
      )

  pub drew_failed : (L : Laws) → AllOpen → DuesAreListed → PlaysAreDrawn → ListedAreDue → (old mid new : Playing F I O) (road first road' : R) (d : Due) (why : PlayFault) (result : Result Bool PlayFault) → result ≡ Err why → r.faults road ≤ r.faults first → IsRefreshed i o old.live mid.live old.player.nodes old.player.clients.items old.player.reads old.player.recoveries
      → DrawsDue r i o mid.live old.player.nodes old.player.clients.items old.player.reads old.player.recoveries road first old.generator mid.generator (Some d) → BefallShows f r i o d old.faults.items new.faults.items old.player new.player first road' (Err why) → DrawShows f r i o old new road road' result
  drew_failed L opens listed plays due old mid new road first road' d why result failed faults refreshed draws befall = λ p h.
      let z : Draws p old mid d first = draws_so L opens listed plays due old mid road first d refreshed draws p h in
      subst (λ (x : Result Bool PlayFault). DrawEnds f r i o p old new road road' x) (sym failed) (caused old old new road first road' why faults (befall p.nodes p.queues p.faults z.is.stands z.is.faults.tells z.is.faults.told z.due_is z.actor (reads_told p first old z.is)))

  -- the player stands on the roads that were asked
  pub stands_there : (L : Laws) → AllOpen → (old mid : Playing F I O) (road first : R) (result : Option Due) → mid.player ≡ old.player → IsPlaying f r i o road old → DrawsDue r i o mid.live old.player.nodes old.player.clients.items old.player.reads old.player.recoveries road first old.generator mid.generator result → PlayerStands r i o first mid.player
  stands_there L opens old mid road first result same playing draws =
      let t = draws (world_of playing.p.nodes old.player) playing.is.stands.net playing.p.queues (dues_show L opens playing.p road old playing.is) in
      subst (λ (x : Player F I O). PlayerStands r i o first x) (sym same) (player_stands playing.p first old (with_roads playing.p road first old playing.is t.0))
