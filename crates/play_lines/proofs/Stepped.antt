-- One event of a pipeline befalls, where it is due.
use Rattle.std.proofs.Common.{◌≡◌, ℕ, ◌≤◌, Bool, true, false, if◌then◌else◌, List, length, Option, Some, None, option_map, Result, Ok, Err, refl, sym, ap, ◌∙◌, subst}
use Rattle.std.proofs.lemmas.Option.{none-some, same_Some}
use Rattle.hd_base.specs.declared.files.Files as files
use Rattle.hd_base.specs.declared.links.LinkIn as link_in
use Rattle.hd_base.specs.declared.links.LinkOut as link_out
use Rattle.hd_base.specs.declared.numbers.BlockId.{BlockId}
use Rattle.hd_base.specs.declared.roads.Roads as roads
use Rattle.script_lang.specs.declared.instructions.StepEvent.{StepEvent}
use Rattle.script_lang.specs.declared.instructions.StepEvent.TheVariants as step
use Rattle.road_traffic.specs.Showing.{Net}
use Rattle.world.specs.Worlds.{World}
use Rattle.play_model.specs.WorldLaws.Placing.{Placed}
use Rattle.play_scripts.specs.WorldOrders.Open.{AllOpen}
use Rattle.play_model.specs.declared.dues.Due.{Due}
use Rattle.play_model.specs.declared.dues.Due.TheVariants as due
use Rattle.play_model.specs.Dues.{is_due}
use Rattle.play_model.specs.Faults.{befalls}
use Rattle.play_model.specs.Lines.{step_due, stepped}
use Rattle.play_model.specs.States as states
use Rattle.play_model.specs.States.{PlayState}
use Rattle.play_opening.specs.PlayClients.Client.{Client}
use Rattle.play_scripts.specs.PlayNodes.Connection.{Connection}
use Rattle.play_scripts.specs.PlayNodes.Nodes.{Nodes}
use Rattle.play_scripts.specs.PlayNodes.Showing.{NodesShow}
use Rattle.play_opening.specs.PlayDues.LiveConns.{LiveConns}
use Rattle.play_opening.specs.PlayDues.Listing.{IsPlayed, IsAlone, TellsDue}
use Rattle.play_opening.specs.PlayDues.Live.{Covers, CoversOn}
use Rattle.play_opening.specs.PlayDues.Places.{client_place}
use Rattle.play_opening.specs.PlayDues.Showing.{HasClient}
use Rattle.play_opening.specs.Play.PlayFault.{PlayFault}
use Rattle.play_opening.specs.Play.Player.{Player}
use Rattle.play_opening.specs.Play.Laws.{Laws}
use Rattle.play_opening.specs.Play.Showing.{PlayerStands}
use Rattle.play.specs.Befalling.{BefallEnds, BefallShows}
use Rattle.play_opening.specs.Play.Standing.{world_of, ActorIsClient}
use Rattle.play_opening.proofs.PlayProofs.Dispatch.{has_place, client_at}
use Rattle.play_lines.specs.declared.playing.Playing.{Playing}
use Rattle.play_lines.specs.Drawing.{IsDrawn}
use Rattle.play_opening.specs.PlayReads.Reads.{Reads}
use Rattle.play_opening.specs.PlayRecoveries.Recoveries.{Recoveries}
use Rattle.play_lines.specs.Showing.{PlayIs, IsPlaying}
use Rattle.play_lines.specs.Pipelines.{pipeline_at}
use Rattle.play_lines.specs.Stepping.{due_behind, due_where, due_for, StepEnds, StepShows}
use Rattle.play_lines.proofs.Pipelined.{pipeline_told}
use Rattle.play_lines.proofs.Drawn.{reads_told, numbers_same, world_same, dues_show, with_roads, player_stands, covers_after, after, caused, given_after}

-- EVENTS

-- it is no own step of a reader or of a primary
abbrev pub IsOfPipeline : Due → Type 0
IsOfPipeline (due.Reader ask) = ⊥
IsOfPipeline (due.Primary rec) = ⊥
IsOfPipeline other = Unit {0}

down_not : (x : Option ℕ) (b : BlockId) → option_map (λ c. due.Down (record { 0 = c })) x ≡ Some (due.Own b) → ⊥
down_not None b e = cc
down_not (Some c) b e = cc

ready_not : (x : Option ℕ) (b : BlockId) → option_map (λ c. due.Ready (record { 0 = c })) x ≡ Some (due.Own b) → ⊥
ready_not None b e = cc
ready_not (Some c) b e = cc

up_not : (x : Option ℕ) (b : BlockId) → option_map (λ c. due.Up (record { 0 = c })) x ≡ Some (due.Own b) → ⊥
up_not None b e = cc
up_not (Some c) b e = cc

-- an event of a pipeline is so
conn_so : (made : ℕ → Due) → ((c : ℕ) → IsOfPipeline (made c)) → (x : Option ℕ) (d : Due) → option_map made x ≡ Some d → IsOfPipeline d
conn_so made are None d e = absurd (none-some d e)
conn_so made are (Some c) d e = subst IsOfPipeline (same_Some (made c) d e) (are c)

behind_so : {I O : Type 0} (conns : List (Connection I O)) (block : BlockId) (event : StepEvent) (d : Due) → due_behind conns block event ≡ Some d → IsOfPipeline d
behind_so conns block step.Writer d e = subst IsOfPipeline (same_Some (due.Own block) d e) tt
behind_so conns block (step.Down place) d e = conn_so (λ c. due.Down (record { 0 = c })) (λ c. tt) (pipeline_at conns block.0 place) d e
behind_so conns block (step.Ready place) d e = conn_so (λ c. due.Ready (record { 0 = c })) (λ c. tt) (pipeline_at conns block.0 place) d e
behind_so conns block (step.Up place) d e = conn_so (λ c. due.Up (record { 0 = c })) (λ c. tt) (pipeline_at conns block.0 place) d e

for_so : {F I O : Type 0} (x : Playing F I O) (block : BlockId) (event : StepEvent) (d : Due) → due_for x block event ≡ Some d → IsOfPipeline d
for_so x block event d e = by (client_place x.player.clients.items block.0) e
  where
    by : (sought : Option ℕ) → due_where sought x.player.nodes.connections.items block event ≡ Some d → IsOfPipeline d
    by None e = absurd (none-some d e)
    by (Some place) e = behind_so x.player.nodes.connections.items block event d e

-- an own step is that of the block
own_is : {I O : Type 0} (conns : List (Connection I O)) (block : BlockId) (event : StepEvent) (b : BlockId) → due_behind conns block event ≡ Some (due.Own b) → block ≡ b
own_is conns block step.Writer b e = cc
own_is conns block (step.Down place) b e = absurd (down_not (pipeline_at conns block.0 place) b e)
own_is conns block (step.Ready place) b e = absurd (ready_not (pipeline_at conns block.0 place) b e)
own_is conns block (step.Up place) b e = absurd (up_not (pipeline_at conns block.0 place) b e)

-- CLIENTS

module _ {F I O : Type 0} (x : Playing F I O) (block : BlockId) where
  abbrev conns : List (Connection I O)
  conns = x.player.nodes.connections.items

  pub for_client : (event : StepEvent) (sought : Option ℕ) (place : ℕ) → sought ≡ client_place x.player.clients.items block.0 → sought ≡ Some place → due_behind conns block event ≡ due_for x block event
  for_client event sought place told there = ap (λ (s : Option ℕ). due_where s conns block event) (sym there ∙ told)

  pub for_nobody : (event : StepEvent) (sought : Option ℕ) → sought ≡ client_place x.player.clients.items block.0 → sought ≡ None → None ≡ due_for x block event
  for_nobody event sought told none = ap (λ (s : Option ℕ). due_where s conns block event) (sym none ∙ told)

  due_of_client : (event : StepEvent) → HasClient x.player.clients.items block.0 → due_for x block event ≡ due_behind conns block event
  due_of_client event h = by (client_place x.player.clients.items block.0) refl
    where
      by : (sought : Option ℕ) → client_place x.player.clients.items block.0 ≡ sought → due_where sought conns block event ≡ due_behind conns block event
      by None is = absurd (has_place x.player.clients.items block.0 h is)
      by (Some place) is = refl

  played : (event : StepEvent) (d : Due) → due_for x block event ≡ Some d → HasClient x.player.clients.items block.0 → IsPlayed x.player.clients.items x.player.reads x.player.recoveries d
  played event (due.Own b) is h = subst (λ (a : BlockId). HasClient x.player.clients.items a.0) (own_is conns block event b (sym (due_of_client event h) ∙ is)) h
  played event (due.Reader ask) is h = absurd (for_so x block event (due.Reader ask) is)
  played event (due.Primary rec) is h = absurd (for_so x block event (due.Primary rec) is)
  played event (due.Down c) is h = tt
  played event (due.Ready c) is h = tt
  played event (due.Up c) is h = tt

never : (result : Bool) → result ≡ true → result ≡ false → ⊥
never true is fails = cc
never false is fails = cc

-- where something of a pipeline is due it isn't an own step of a block that has no client
played_so : {I O : Type 0} (clients : List (Client I O)) (reads : Reads I O) (recoveries : Recoveries I O) (d : Due) (result : Bool) → IsOfPipeline d → result ≡ true → (IsAlone clients reads recoveries d → result ≡ false) → IsPlayed clients reads recoveries d
played_so {I} {O} clients reads recoveries (due.Own b) result of is alone = by (client_place clients b.0) refl
  where
    by : (sought : Option ℕ) → client_place clients b.0 ≡ sought → HasClient clients b.0
    by None none = absurd (never result is (alone none))
    by (Some place) there =
        let k = client_at clients b place there in
        record { place = place; client = k.client; found = k.found; block = ap (λ (a : BlockId). a.0) k.block }
played_so clients reads recoveries (due.Reader ask) result of is alone = absurd of
played_so clients reads recoveries (due.Primary rec) result of is alone = absurd of
played_so clients reads recoveries (due.Down c) result of is alone = tt
played_so clients reads recoveries (due.Ready c) result of is alone = tt
played_so clients reads recoveries (due.Up c) result of is alone = tt

actor_so : {F I O : Type 0} (p : Player F I O) (d : Due) → IsPlayed p.clients.items p.reads p.recoveries d → ActorIsClient p d
actor_so p (due.Own b) h = h
actor_so p (due.Reader ask) h = h
actor_so p (due.Primary rec) h = h
actor_so p (due.Down c) h = tt
actor_so p (due.Ready c) h = tt
actor_so p (due.Up c) h = tt

-- WHAT IS TOLD

-- of the same clients, and of the same event
pub told_as : {F R I O : Type 0} (r : roads.Ghosts R I O) (i : link_in.Ghosts I) (o : link_out.Ghosts O) (n : Nodes F I O) (xs clients : List (Client I O)) (reads : Reads I O) (recoveries : Recoveries I O) (road road' : R) (d e : Due) (result : Bool) → xs ≡ clients → d ≡ e → TellsDue r i o d n xs reads recoveries road road' result
    → TellsDue r i o e n clients reads recoveries road road' result
told_as {F} {R} {I} {O} r i o n xs clients reads recoveries road road' d e result same is h =
    subst (λ (cs : List (Client I O)). TellsDue r i o e n cs reads recoveries road road' result) same
    (subst (λ (x : Due). TellsDue r i o x n xs reads recoveries road road' result) is h)

pub alone_as : {I O : Type 0} (xs clients : List (Client I O)) (reads : Reads I O) (recoveries : Recoveries I O) (d e : Due) (result : Bool) → xs ≡ clients → d ≡ e → (IsAlone xs reads recoveries d → result ≡ false) → IsAlone clients reads recoveries e → result ≡ false
alone_as {I} {O} xs clients reads recoveries d e result same is h =
    subst (λ (cs : List (Client I O)). IsAlone cs reads recoveries e → result ≡ false) same
    (subst (λ (x : Due). IsAlone xs reads recoveries x → result ≡ false) is h)

module _ {F I O : Type 0} (i : link_in.Ghosts I) (o : link_out.Ghosts O) (w : World) (net : Net) (n : Nodes F I O) (nodes : NodesShow i o w net n) (placed : Placed w) where
  due_told : (block : BlockId) (event : StepEvent) → due_behind n.connections.items block event ≡ step_due w block.0 event
  due_told block step.Writer = refl
  due_told block (step.Down place) = ap (option_map (λ c. due.Down (record { 0 = c }))) (pipeline_told i o w net n nodes placed block.0 place)
  due_told block (step.Ready place) = ap (option_map (λ c. due.Ready (record { 0 = c }))) (pipeline_told i o w net n nodes placed block.0 place)
  due_told block (step.Up place) = ap (option_map (λ c. due.Up (record { 0 = c }))) (pipeline_told i o w net n nodes placed block.0 place)

module _ {F R I O : Type 0} (f : files.Ghosts F) (r : roads.Ghosts R I O) (i : link_in.Ghosts I) (o : link_out.Ghosts O) (L : Laws) (opens : AllOpen) (block : BlockId) (event : StepEvent) where
  for_told : (p : PlayState) (road : R) (old : Playing F I O) → PlayIs f r i o p road old → HasClient old.player.clients.items block.0 → due_for old block event ≡ step_due (states.world_of p) block.0 event
  for_told p road old h has =
      let w : World = world_of p.nodes old.player in
      let d = dues_show f r i o L opens p road old h in
      due_of_client old block event has
      ∙ (due_told i o w h.stands.net old.player.nodes d.stands.nodes_are d.orderly.placed block event
      ∙ ap (λ (v : World). step_due v block.0 event) (sym (world_same f r i o p road old h)))

  -- THE STEP

  pub nothing_there : (old : Playing F I O) (road : R) (found : Option Due) → found ≡ due_for old block event → found ≡ None → StepShows f r i o block event old old road road (Ok tt)
  nothing_there old road found for none = λ p h has.
      subst (λ (x : Option Due). IsDrawn f r i o p (stepped p x) old old road) (sym none ∙ (for ∙ for_told p road old h has)) (record { is = h; blocks = refl; given = λ b k. refl })

  pub not_due : (old : Playing F I O) (road road' : R) (found : Option Due) (d : Due) (result : Bool) → result ≡ false → found ≡ due_for old block event → found ≡ Some d → TellsDue r i o d old.player.nodes old.player.clients.items old.player.reads old.player.recoveries road road' result → StepShows f r i o block event old old road road' (Ok tt)
  not_due old road road' found d result fails for there tells = λ p h has.
      let is : due_for old block event ≡ Some d = sym for ∙ there in
      let t = tells (played old block event d is has) (world_of p.nodes old.player) h.stands.net p.queues (dues_show f r i o L opens p road old h) in
      let never : false ≡ is_due (states.world_of p) p.queues d = sym fails ∙ (t.1 ∙ ap (λ (w : World). is_due w p.queues d) (sym (world_same f r i o p road old h))) in
      subst (λ (x : Option Due). IsDrawn f r i o p (stepped p x) old old road') (sym is ∙ for_told p road old h has)
      (subst (λ (b : Bool). IsDrawn f r i o p (if b then befalls p d else p) old old road') never (record { is = with_roads f r i o p road road' old h t.0; blocks = refl; given = λ b k. refl }))

  pub stands_here : (old : Playing F I O) (road first : R) (found : Option Due) (d : Due) (result : Bool) → found ≡ due_for old block event → found ≡ Some d → result ≡ true → (IsAlone old.player.clients.items old.player.reads old.player.recoveries d → result ≡ false) → IsPlaying f r i o road old → TellsDue r i o d old.player.nodes old.player.clients.items old.player.reads old.player.recoveries road first result → PlayerStands r i o first old.player
  stands_here old road first found d result for there holds alone playing tells =
      let t = tells (played_so old.player.clients.items old.player.reads old.player.recoveries d result (for_so old block event d (sym for ∙ there)) holds alone) (world_of playing.p.nodes old.player) playing.is.stands.net playing.p.queues (dues_show f r i o L opens playing.p road old playing.is) in
      player_stands f r i o playing.p first old (with_roads f r i o playing.p road first old playing.is t.0)

  befalls_so : CoversOn → (p : PlayState) (old new : Playing F I O) (road first road' : R) (d : Due) (result : Result (Unit {0}) PlayFault) → new.nodes ≡ old.nodes → length new.faults.items ≡ length old.faults.items → new.generator ≡ old.generator → new.live ≡ old.live → r.faults road ≤ r.faults first → due_for old block event ≡ Some d → PlayIs f r i o p road old → PlayIs f r i o p first old
      → HasClient old.player.clients.items block.0 → is_due (world_of p.nodes old.player) p.queues d ≡ true → BefallEnds f r i o p.nodes p.queues p.faults d new.faults.items old.player new.player first road' result → StepEnds f r i o block event p old new road road' result
  befalls_so on p old new road first road' d (Ok u) nodes count gen live faults is h here has holds ends =
      let covers : Covers (world_of p.nodes new.player) new.live = subst (λ (l : LiveConns). Covers (world_of p.nodes new.player) l) (sym live) (covers_after f r i o L opens on p first road' old new d old.live here holds ends here.live) in
      let now : PlayIs f r i o (befalls (record p { generator = p.generator }) d) road' new = after f r i o p first road' old new d p.generator nodes count here ends (gen ∙ h.generator) covers in
      let due_is : true ≡ is_due (states.world_of p) p.queues d = sym holds ∙ ap (λ (w : World). is_due w p.queues d) (sym (world_same f r i o p road old h)) in
      subst (λ (x : Option Due). IsDrawn f r i o p (stepped p x) old new road') (sym is ∙ for_told p road old h has)
      (subst (λ (b : Bool). IsDrawn f r i o p (if b then befalls p d else p) old new road') due_is (record {
        is = now;
        given = λ b k. given_after f r i o p first road' old new d p.generator here now ends b k;
        blocks = numbers_same new.player.clients.items old.player.clients.items ends.done.places.order;
      }))
  befalls_so on p old new road first road' d (Err why) nodes count gen live faults is h here has holds ends = caused f r i o old old new road first road' why faults ends

  pub befell : CoversOn → (old new : Playing F I O) (road first road' : R) (found : Option Due) (d : Due) (told : Bool) (result : Result (Unit {0}) PlayFault) → new.nodes ≡ old.nodes → length new.faults.items ≡ length old.faults.items → new.generator ≡ old.generator → new.live ≡ old.live → r.faults road ≤ r.faults first → told ≡ true → found ≡ due_for old block event → found ≡ Some d
      → TellsDue r i o d old.player.nodes old.player.clients.items old.player.reads old.player.recoveries road first told → BefallShows f r i o d old.faults.items new.faults.items old.player new.player first road' result → StepShows f r i o block event old new road road' result
  befell on old new road first road' found d told result nodes count gen live faults holds for there tells befall = λ p h has.
      let is : due_for old block event ≡ Some d = sym for ∙ there in
      let here = played old block event d is has in
      let t = tells here (world_of p.nodes old.player) h.stands.net p.queues (dues_show f r i o L opens p road old h) in
      let standing = with_roads f r i o p road first old h t.0 in
      let now : is_due (world_of p.nodes old.player) p.queues d ≡ true = sym t.1 ∙ holds in
      befalls_so on p old new road first road' d result nodes count gen live faults is h standing has now (befall p.nodes p.queues p.faults standing.stands standing.faults.tells standing.faults.told now (actor_so old.player d here) (reads_told f r i o p first old standing))
