-- A line that starts a node again.
use Rattle.std.proofs.Common.{◌≡◌, ℕ, ◌<◌, ◌≤◌, ◌+◌, Bool, true, false, List, [], ◌∷◌, ◌++◌, length, slice_get, slice_set, Some, Result, Ok, Err, inr, refl, sym, ap, ◌∙◌, subst, arith, eqb-true}
use Rattle.std.proofs.lemmas.Bool.Decides.{nat_tests}
use Rattle.std.specs.Prelude.{◌==◌, ◌&&◌, not, nat_lt, is_none, zero, suc, IfErr, if◌then◌else◌}
use Rattle.hd_base.specs.declared.files.Files as files
use Rattle.hd_base.specs.declared.links.LinkIn as link_in
use Rattle.hd_base.specs.declared.links.LinkOut as link_out
use Rattle.hd_base.specs.declared.numbers.BlockId.{BlockId}
use Rattle.hd_base.specs.declared.numbers.NodeId.{NodeId}
use Rattle.hd_base.specs.declared.roads.Roads as roads
use Rattle.hd_base.specs.declared.shelves.Shelf as shelves
use Rattle.script_lang.specs.declared.instructions.Instruction.{Instruction}
use Rattle.script_lang.specs.declared.instructions.Instruction.TheVariants as says
use Rattle.play_scripts.specs.Reads.{is_read}
use Rattle.play_scripts.specs.Recoveries.{is_recovery}
use Rattle.play_scripts.specs.Unplayed as unplayed
use Rattle.play_scripts.specs.Unplayed.{is_start}
use Rattle.world.specs.declared.events.Event.{Event}
use Rattle.world.specs.declared.events.Event.TheVariants as event
use Rattle.world.specs.Enabled.{leads_from, listens_at}
use Rattle.world.specs.Parts.{Upper, by_writer, by_member, by_reader, by_primary, Writing, Primary, Leading, no_primary, was_told, leads, has_led}
use Rattle.world.specs.Worlds.{World, start}
use Rattle.world.specs.Events.{happens, run}
use Rattle.play_opening.specs.NodeStarts.Books.{NodeTells}
use Rattle.play_opening.specs.NodeStarts.Lives.{IsLived, DialsAreLived}
use Rattle.play_opening.proofs.NodeStarts.StartLemmas.{started, start_is}
use Rattle.play_model.specs.Dues.{is_open}
use Rattle.play_model.specs.Lines.{may_start, start_at}
use Rattle.play_model.specs.States as states
use Rattle.play_model.specs.States.{PlayState}
use Rattle.play_opening.specs.PlayClients.Client.{Client}
use Rattle.play_opening.specs.PlayDues.LiveConns.{LiveConns}
use Rattle.play_opening.specs.PlayDues.Live.{Covers}
use Rattle.play_opening.specs.PlayClients.Blocks.{blocks_of}
use Rattle.play_opening.specs.PlayDues.Spent.{is_given_up, is_spent}
use Rattle.play_scripts.specs.PlayLaws.Intakes.{intake_of}
use Rattle.play_scripts.specs.PlayNodes.Showing.{runs_in, has_events}
use Rattle.play_opening.specs.Play.PlayFault.{PlayFault}
use Rattle.play_opening.specs.Play.PlayFault.TheVariants as fault
use Rattle.play_opening.specs.Play.Laws.{Laws}
use Rattle.play_scripts.specs.PlayLaws.Commands.{given_with}
use Rattle.play_opening.specs.Play.Standing.{world_of}
use Rattle.play_opening.specs.Play.Starting as player
use Rattle.play_opening.specs.Play.Starting.{HasStarted}
use Rattle.play_lines.specs.declared.playing.Playing.{Playing}
use Rattle.play_lines.specs.Drawing.{IsDrawn}
use Rattle.script_lang.specs.declared.instructions.ScriptLine.{ScriptLine}
use Rattle.play_lines.specs.Lines.{LineLeft, LineEndsOver, LineShows, LineShowsOver, LineEnds}
use Rattle.play_lines.specs.Shelves.{IsLineFault}
use Rattle.play_lines.specs.Showing.{FaultsShow, PlayIs}
use Rattle.play_lines.specs.Starting.{StartEnds, StartShows}
use Rattle.play_lines.proofs.Drawn.{world_same}
use Rattle.play_lines.proofs.Lined.{Stays, drawn_left}
use Rattle.play_lines.proofs.Lives.{PrimariesLived, primaries_lived}
use Rattle.play_lines.proofs.ShelfLemmas.{line_fault}
use Rattle.play_lines.proofs.SpentLemmas.{both, silent}

-- WHAT IS SPENT

kill : (x o : Bool) → x ≡ false → not ((true && (true && x)) && o) ≡ true
kill false o e = refl
kill true o e = cc

-- a connection of a life that has begun is none of the next life
older : (life last node n : ℕ) (lives : ℕ → ℕ) → life ≤ lives node → node ≡ n → (lives n + 1 == life) ≡ false
older life last node n lives h e = later (lives n) (subst (λ (m : ℕ). life ≤ lives m) e h)
  where
    later : (k : ℕ) → life ≤ k → (k + 1 == life) ≡ false
    later k h = grind (arith, nat_tests, h)

lt_so : (c n : ℕ) → nat_lt c n ≡ true → c < n
lt_so c n e = grind (arith, nat_tests, e)

no_events : (w : World) (n : NodeId) (c : ℕ) → IsLived w → not (has_events w c) ≡ true → not (has_events (started w n []) c) ≡ true
no_events w n c lived h = by ((w.dialled c).to.node == n.0) refl
  where
    dead : (a : Bool) → nat_lt c w.next_conn ≡ a → (w.dialled c).to.node ≡ n.0 → not ((a && (true && (w.lives n.0 + 1 == (w.dialled c).to.life))) && is_open (w.lowers c)) ≡ true
    dead false k e = refl
    dead true k e = kill (w.lives n.0 + 1 == (w.dialled c).to.life) (is_open (w.lowers c)) (older (w.dialled c).to.life 0 (w.dialled c).to.node n.0 w.lives (lived c (lt_so c w.next_conn k)) e)

    by : (b : Bool) → ((w.dialled c).to.node == n.0) ≡ b
        → not ((nat_lt c w.next_conn && ((if b then true else w.running (w.dialled c).to.node) && ((if b then w.lives n.0 + 1 else w.lives (w.dialled c).to.node) == (w.dialled c).to.life))) && is_open (w.lowers c)) ≡ true
    by false e = h
    by true e = dead (nat_lt c w.next_conn) refl (eqb-true (w.dialled c).to.node n.0 e)

-- a primary that takes nothing from a connection takes nothing from it then, as its node's life is over
kill_led : (q x y : Bool) → q ≡ false → not (((true && q) && x) && y) ≡ true
kill_led false x y e = refl
kill_led true x y e = cc

led_over : (w : World) (n : NodeId) (place : ℕ) (p : Primary) → ((l : Leading) → p ≡ leads l → l.at.life ≤ w.lives l.at.node) → not (leads_from p w place) ≡ true → not (leads_from p (started w n []) place) ≡ true
led_over w n place no_primary lived h = refl
led_over w n place (was_told b told) lived h = refl
led_over w n place (has_led result) lived h = refl
led_over w n place (leads l) lived h = by (l.at.node == n.0) refl
  where
    by : (b : Bool) → (l.at.node == n.0) ≡ b
        → not ((((if b then true else w.running l.at.node) && ((if b then w.lives n.0 + 1 else w.lives l.at.node) == l.at.life)) && is_none l.told) && listens_at l.state.phase (slice_get l.state.standings place)) ≡ true
    by false e = h
    by true e = kill_led (w.lives n.0 + 1 == l.at.life) (is_none l.told) (listens_at l.state.phase (slice_get l.state.standings place)) (older l.at.life 0 l.at.node n.0 w.lives (lived l refl) (eqb-true l.at.node n.0 e))

given_up : (w : World) (n : NodeId) (c : ℕ) (u : Upper) → IsLived w → PrimariesLived w → is_given_up w c u ≡ true → is_given_up (started w n []) c u ≡ true
given_up w n c (by_writer b) lived led h = h
given_up w n c (by_member d) lived led h = no_events w n d lived h
given_up w n c (by_reader k) lived led h = h
given_up w n c (by_primary k place) lived led h =
    silent (leads_from (w.primaries k) w place) (leads_from (w.primaries k) (started w n []) place) (w.up_marks c).over (w.up_marks c).over (led_over w n place (w.primaries k) (led k)) (λ e. e) h

spent_starts : (w : World) (n : NodeId) (c : ℕ) → IsLived w → PrimariesLived w → is_spent w c ≡ true → is_spent (started w n []) c ≡ true
spent_starts w n c lived led h =
    both (not (has_events w c)) (is_given_up w c (w.dialled c).upper) (not (has_events (started w n []) c)) (is_given_up (started w n []) c (w.dialled c).upper) (no_events w n c lived) (given_up w n c (w.dialled c).upper lived led) h

-- What covered a world covers the one in which a node starts.
covers_start : (w : World) (n : NodeId) (live : LiveConns) → IsLived w → PrimariesLived w → n.0 < w.nodes → w.running n.0 ≡ false → Covers w live → Covers (happens w (event.Restart n [])) live
covers_start w n live lived led within off h =
    subst (λ (v : World). Covers v live) (sym (start_is w n [] within off)) (record { within = h.within; has = h.has; listed = h.listed; rest = λ c below out. spent_starts w n c lived led (h.rest c below out) })

writer_stays : (w : World) (n : NodeId) (b : ℕ) → n.0 < w.nodes → w.running n.0 ≡ false → (happens w (event.Restart n [])).writers b ≡ w.writers b
writer_stays w n b within off = ap (λ (v : World). v.writers b) (start_is w n [] within off)

-- THE LINE

start_so : (p : PlayState) (n : NodeId) → may_start p n ≡ true → start_at p n ≡ record p { events = p.events ++ event.Restart n [] ∷ [] }
start_so p n e = ap (λ (b : Bool). if b then record p { events = p.events ++ event.Restart n [] ∷ [] } else p) e

start_not : (p : PlayState) (n : NodeId) → may_start p n ≡ false → start_at p n ≡ p
start_not p n e = ap (λ (b : Bool). if b then record p { events = p.events ++ event.Restart n [] ∷ [] } else p) e

not_running : (a r : Bool) → r ≡ true → (a && not r) ≡ false
not_running true true e = refl
not_running false true e = refl
not_running a false e = cc

not_there : (a r : Bool) → a ≡ false → (a && not r) ≡ false
not_there false r e = refl
not_there true r e = cc

may_so : (a r : Bool) → a ≡ true → r ≡ false → (a && not r) ≡ true
may_so true false a r = refl
may_so true true a r = cc
may_so false r e f = cc

pub start_stays : (p : PlayState) (n : NodeId) → Stays p (start_at p n)
start_stays p n = by (may_start p n)
  where
    by : (b : Bool) → Stays p (if b then record p { events = p.events ++ event.Restart n [] ∷ [] } else p)
    by true = record { nodes = refl; rules = refl; below = λ number h. h }
    by false = record { nodes = refl; rules = refl; below = λ number h. h }

module _ {S F R I O : Type 0} (s : shelves.Ghosts S F) (f : files.Ghosts F) (r : roads.Ghosts R I O) (i : link_in.Ghosts I) (o : link_out.Ghosts O) (L : Laws) (lived : DialsAreLived) (node : NodeId) (old : Playing F I O) (road : R) where
  running_told : (p : PlayState) → PlayIs f r i o p road old → (states.world_of p).running node.0 ≡ runs_in old.player.running.items node.0
  running_told p h = ap (λ (w : World). w.running node.0) (world_same f r i o p road old h) ∙ sym (h.stands.shows.running node.0)

  -- Nothing is done.
  idle : (shelves : List S) → ((p : PlayState) → PlayIs f r i o p road old → length shelves ≡ p.nodes → may_start p node ≡ false) → StartShows s f r i o node shelves shelves old old road road (Ok tt)
  idle shelves none = λ p h many. subst (λ (q : PlayState). IsDrawn f r i o p q old old road) (sym (start_not p node (none p h many))) (record { is = h; blocks = refl; given = λ b k. refl })

  pub runs_already : (shelves : List S) → runs_in old.player.running.items node.0 ≡ true → StartShows s f r i o node shelves shelves old old road road (Ok tt)
  runs_already shelves on = idle shelves (λ p h many. not_running (nat_lt node.0 p.nodes) ((states.world_of p).running node.0) (running_told p h ∙ on))

  none_below : (n m k : ℕ) → m ≤ n → m ≡ k → nat_lt n k ≡ false
  none_below n m k h e = grind (arith, nat_tests, h, e)

  pub no_shelf : (shelves : List S) → length shelves ≤ node.0 → StartShows s f r i o node shelves shelves old old road road (Ok tt)
  no_shelf shelves beyond = idle shelves (λ p h many. not_there (nat_lt node.0 p.nodes) ((states.world_of p).running node.0) (none_below node.0 (length shelves) p.nodes beyond many))

  module _ (off : runs_in old.player.running.items node.0 ≡ false) (new : Playing F I O) (road' : R) (rest : new ≡ record old { player = new.player }) (shelves shelves' : List S) (shelf : S) (within : node.0 < length shelves) where
    below : (p : PlayState) → length shelves ≡ p.nodes → node.0 < p.nodes
    below p many = subst (λ (n : ℕ). node.0 < n) many within

    below_so : (n m : ℕ) → n < m → nat_lt n m ≡ true
    below_so n m h = grind (arith, nat_tests, h)

    start_play : (p : PlayState) → (h : PlayIs f r i o p road old) → length shelves ≡ p.nodes → HasStarted r i o p.nodes p.queues node old.player new.player road' → IsDrawn f r i o p (record p { events = p.events ++ event.Restart node [] ∷ [] }) old new road'
    start_play p h many has =
        let w : World = states.world_of p in
        let v : World = happens w (event.Restart node []) in
        let q : PlayState = record p { events = p.events ++ event.Restart node [] ∷ [] } in
        let off_there : w.running node.0 ≡ false = running_told p h ∙ off in
        let led : PrimariesLived w = subst (λ (u : World). PrimariesLived u) (sym (world_same f r i o p road old h)) (primaries_lived i o (world_of p.nodes old.player) h.stands.net old.player.nodes.blocks.items old.player.recoveries h.stands.shows.recoveries) in
        let is_node : node.0 < w.nodes = subst (λ (n : ℕ). node.0 < n) (sym (L.only p.nodes p.events).nodes_are) (below p many) in
        let joined : states.world_of q ≡ v = L.joined (start p.nodes) p.events (event.Restart node [] ∷ []) in
        let events : q.events ≡ new.player.events.items = ap (λ (es : List Event). es ++ event.Restart node [] ∷ []) h.events ∙ sym has.events in
        let world_is : world_of p.nodes new.player ≡ v = ap (λ (es : List Event). run (start p.nodes) es) (sym events) ∙ joined in
        let clients : new.player.clients.items ≡ old.player.clients.items = ap (λ c. c.items) has.clients in
        record {
          is = record {
            stands = has.stands;
            nodes_are = h.nodes_are ∙ ap (λ (x : Playing F I O). x.nodes) (sym rest);
            events = events;
            generator = ap (λ (x : Playing F I O). x.generator) rest ∙ h.generator;
            faults = subst (λ (numbers : List ℕ). FaultsShow f p.nodes p.faults numbers) (ap (λ (x : Playing F I O). x.faults.items) (sym rest)) h.faults;
            asks = has.asks ∙ h.asks;
            told = h.told;
            recovers = has.recovers ∙ h.recovers;
            formed = h.formed;
            rules = λ k c at. h.rules k c (sym (ap (λ (xs : List (Client I O)). slice_get xs k) clients) ∙ at);
            live = subst (λ (l : LiveConns). Covers (world_of p.nodes new.player) l) (ap (λ (x : Playing F I O). x.live) (sym rest))
                (subst (λ (u : World). Covers u old.live) (sym world_is) (covers_start w node old.live (lived p.nodes p.events) led is_node off_there (subst (λ (u : World). Covers u old.live) (sym (world_same f r i o p road old h)) h.live)));
          };
          blocks = ap (λ (xs : List (Client I O)). blocks_of xs) clients;
          given = λ b k. ap (λ (u : World). given_with (intake_of u b) (p.queues b)) joined ∙ ap (λ (x : Writing). given_with x.known.intake (p.queues b)) (writer_stays w node b is_node off_there);
        }

    pub was_started : (result : Result (Unit {0}) PlayFault) → player.StartShows s f r i o node shelf old.player new.player road road' result → NodeTells s f node shelf old.player.nodes → ((why : PlayFault) → result ≡ Err why → IsLineFault s f r shelves shelves' new road road' why)
        → StartShows s f r i o node shelves shelves' old new road road' result
    was_started (Ok u) shows tells caused = λ p h many.
        let may : may_start p node ≡ true = may_so (nat_lt node.0 p.nodes) ((states.world_of p).running node.0) (below_so node.0 p.nodes (below p many)) (running_told p h ∙ off) in
        subst (λ (q : PlayState). IsDrawn f r i o p q old new road') (sym (start_so p node may))
        (start_play p h many (shows p.nodes p.queues h.stands (below p many) (sym (h.stands.shows.running node.0) ∙ off) tells))
    was_started (Err why) shows tells caused = λ p h many. caused why refl

-- FAULTS

set_here : {A : Type 0} (xs : List A) (k : ℕ) (v a : A) → slice_get xs k ≡ Some a → slice_get (slice_set xs k v) k ≡ Some v
set_here [] k v a at = cc
set_here (x ∷ xs) zero v a at = refl
set_here (x ∷ xs) (suc k) v a at = set_here xs k v a at

module _ {S F R I O : Type 0} (s : shelves.Ghosts S F) (f : files.Ghosts F) (r : roads.Ghosts R I O) (node : NodeId) (shelf shelf' : S) (shelves : List S) (here : slice_get shelves node.0 ≡ Some shelf) (new : Playing F I O) (road road' : R) where
  start_fault : (why : PlayFault) → player.IsStartCause s r node shelf shelf' road road' why → IsLineFault s f r shelves (slice_set shelves node.0 shelf') new road road' why
  start_fault fault.RoadFault c = c
  start_fault (fault.ShelfFault at) c =
      inr (record {
        before = shelf;
        after = shelf';
        was = ap (λ (n : NodeId). slice_get shelves n.0) c.0 ∙ here;
        is = ap (λ (n : NodeId). slice_get (slice_set shelves node.0 shelf') n.0) c.0 ∙ set_here shelves node.0 shelf' shelf here;
        so = c.1;
      })
  start_fault fault.Memory c = tt

  pub fault_here : (result : Result (Unit {0}) PlayFault) → IfErr result (player.IsStartCause s r node shelf shelf' road road') → (why : PlayFault) → result ≡ Err why → IsLineFault s f r shelves (slice_set shelves node.0 shelf') new road road' why
  fault_here (Ok u) c why is = cc
  fault_here (Err e) c why is = start_fault why (subst (λ (x : PlayFault). player.IsStartCause s r node shelf shelf' road road' x) (same e why is) c)
    where
      same : (a b : PlayFault) → ◌≡◌ {A = Result (Unit {0}) PlayFault} (Err a) (Err b) → a ≡ b
      same a b e = cc

-- ANY LINE

module _ {S F R I O : Type 0} (s : shelves.Ghosts S F) (f : files.Ghosts F) (r : roads.Ghosts R I O) (i : link_in.Ghosts I) (o : link_out.Ghosts O) (old new : Playing F I O) (road road' : R) (shelves shelves' : List S) where
  pub start_line : (l : ScriptLine) (n : NodeId) (result : Result (Unit {0}) PlayFault) → l.instruction ≡ says.Start n → StartShows s f r i o n shelves shelves' old new road road' result → LineShowsOver s f r i o l shelves shelves' old new road road' result
  start_line l n result e shows before lines p stands behind asked fit here few many = by result (shows p stands many)
    where
      by : (result : Result (Unit {0}) PlayFault) → StartEnds s f r i o n p shelves shelves' old new road road' result → LineEndsOver s f r i o l before lines p shelves shelves' old new road road' result
      by (Ok u) d = subst (λ (x : Instruction). LineLeft f r i o l.number x before lines p old new road') (sym e)
          (drawn_left f r i o old new road road' l.number (says.Start n) before lines p (start_at p n) (record { nodes = refl; written = refl; stage = λ x. refl }) (start_stays p n) refl behind asked d)
      by (Err why) cause = cause

  pub other_line : (l : ScriptLine) (result : Result (Unit {0}) PlayFault) → LineShows f r i o l.instruction old new road road' result → LineShowsOver s f r i o l shelves shelves' old new road road' result
  other_line l result shows before lines p stands behind asked fit here few many = by result (shows l.number before lines p stands behind asked fit here few)
    where
      by : (result : Result (Unit {0}) PlayFault) → LineEnds f r i o l.number l.instruction before lines p old new road road' result → LineEndsOver s f r i o l before lines p shelves shelves' old new road road' result
      by (Ok u) d = d
      by (Err why) cause = line_fault s f r i o new road road' shelves shelves' why cause

pub told_so : (told : Bool) (line : Instruction) (n : NodeId) → line ≡ says.Start n → unplayed.LineIsTold told line → told ≡ true
told_so told line n e h = subst (λ (x : Instruction). unplayed.LineIsTold told x) e h

pub none_starts : (line : Instruction) → ((n : NodeId) → line ≡ says.Start n → ⊥) → is_start line ≡ false
none_starts (says.Start n) starts = absurd (starts n refl)
none_starts (says.Nodes count) starts = refl
none_starts (says.Seed seed) starts = refl
none_starts (says.Sums b rule) starts = refl
none_starts (says.Create b members) starts = refl
none_starts (says.Append b members) starts = refl
none_starts (says.Write b bytes) starts = refl
none_starts (says.Fill b count) starts = refl
none_starts (says.Hflush b) starts = refl
none_starts (says.Hsync b) starts = refl
none_starts (says.Close b) starts = refl
none_starts (says.Read b n offset count) starts = refl
none_starts (says.Recover b n members) starts = refl
none_starts (says.Cut b place down up) starts = refl
none_starts (says.Fault n nth) starts = refl
none_starts (says.Stop n) starts = refl
none_starts (says.Run count) starts = refl
none_starts says.Settle starts = refl
none_starts (says.Step b event) starts = refl
none_starts (says.Expect n b state stamp written) starts = refl

pub told_read : (told : Bool) (line : Instruction) (b : BlockId) (n : NodeId) (offset count : ℕ) → line ≡ says.Read b n offset count → unplayed.LineIsTold told line → told ≡ true
told_read told line b n offset count e h = subst (λ (x : Instruction). unplayed.LineIsTold told x) e h

pub none_asks : (line : Instruction) → ((b : BlockId) (n : NodeId) (offset count : ℕ) → line ≡ says.Read b n offset count → ⊥) → is_read line ≡ false
none_asks (says.Read b n offset count) asks = absurd (asks b n offset count refl)
none_asks (says.Nodes count) asks = refl
none_asks (says.Seed seed) asks = refl
none_asks (says.Sums b rule) asks = refl
none_asks (says.Create b members) asks = refl
none_asks (says.Append b members) asks = refl
none_asks (says.Write b bytes) asks = refl
none_asks (says.Fill b count) asks = refl
none_asks (says.Hflush b) asks = refl
none_asks (says.Hsync b) asks = refl
none_asks (says.Close b) asks = refl
none_asks (says.Recover b n members) asks = refl
none_asks (says.Cut b place down up) asks = refl
none_asks (says.Fault n nth) asks = refl
none_asks (says.Stop n) asks = refl
none_asks (says.Start n) asks = refl
none_asks (says.Run count) asks = refl
none_asks says.Settle asks = refl
none_asks (says.Step b event) asks = refl
none_asks (says.Expect n b state stamp written) asks = refl

pub none_recovers : (line : Instruction) → ((b : BlockId) (n : NodeId) (members : List NodeId) → line ≡ says.Recover b n members → ⊥) → is_recovery line ≡ false
none_recovers (says.Recover b n members) recovers = absurd (recovers b n members refl)
none_recovers (says.Start n) recovers = refl
none_recovers (says.Nodes count) recovers = refl
none_recovers (says.Seed seed) recovers = refl
none_recovers (says.Sums b rule) recovers = refl
none_recovers (says.Create b members) recovers = refl
none_recovers (says.Append b members) recovers = refl
none_recovers (says.Write b bytes) recovers = refl
none_recovers (says.Fill b count) recovers = refl
none_recovers (says.Hflush b) recovers = refl
none_recovers (says.Hsync b) recovers = refl
none_recovers (says.Close b) recovers = refl
none_recovers (says.Read b n offset count) recovers = refl
none_recovers (says.Cut b place down up) recovers = refl
none_recovers (says.Fault n nth) recovers = refl
none_recovers (says.Stop n) recovers = refl
none_recovers (says.Run count) recovers = refl
none_recovers says.Settle recovers = refl
none_recovers (says.Step b event) recovers = refl
none_recovers (says.Expect n b state stamp written) recovers = refl
