-- A new primary begins.
use Rattle.std.proofs.Common.{◌≡◌, ◌<◌, ◌≤◌, ℕ, get_or, suc, Bool, true, false, List, [], ◌∷◌, length, Option, Some, None, Result, Ok, Err, refl, sym, ap, ◌∙◌, subst, arith, eqb-true}
use Rattle.std.specs.Prelude.{◌&&◌, ◌==◌, is_some, map, slice_get, nat_le}
use Rattle.std.specs.List.{list_any}
use Rattle.std.specs.Global.{Vec}
use Rattle.std.proofs.lemmas.Bool.Decides.{nat_tests}
use Rattle.hd_base.specs.Lists.{AllDistinct}
use Rattle.hd_base.specs.declared.ends.Conn.{Conn}
use Rattle.hd_base.specs.declared.links.LinkIn as link_in
use Rattle.hd_base.specs.declared.links.LinkOut as link_out
use Rattle.hd_base.specs.declared.numbers.NodeId.{NodeId}
use Rattle.hd_base.specs.declared.pipeline.TheConstants.{MAX_MEMBERS}
use Rattle.hd_base.specs.declared.roads.Roads as roads
use Rattle.name_core.specs.declared.desks.Desk as desks
use Rattle.recovery_core.specs.declared.primary.Phase.{Phase}
use Rattle.recovery_core.specs.declared.primary.Recovered.{Recovered}
use Rattle.primary_events.specs.BlockRecovery.Primary as running
use Rattle.primary_events.specs.BlockRecovery.Steps as steps
use Rattle.road_traffic.specs.Showing.{Net}
use Rattle.primary_events.specs.World.Clients.{are_distinct, are_members}
use Rattle.primary_events.specs.World.Events.{run}
use Rattle.primary_events.specs.World.Parts.{Leading, Primary, no_primary, leads}
use Rattle.primary_events.specs.World.Primaries.{dials_answered, numbered}
use Rattle.primary_events.specs.World.Worlds.{World}
use Rattle.world_recoveries.proofs.WorldLaws.FactTables.{and-right}
use Rattle.play_readers.specs.WorldTexts.Texts.{Written}
use Rattle.primary_events.specs.declared.beginning.PrimaryBegun.{PrimaryBegun}
use Rattle.primary_events.specs.declared.beginning.PrimaryBegun.TheVariants as beginning
use Rattle.primary_events.specs.declared.faults.PrimaryFault.{PrimaryFault}
use Rattle.primary_events.specs.declared.faults.PrimaryFault.TheVariants as fault
use Rattle.primary_events.specs.Beginning.{begun_world, SpellsBegun, LowerShows, LeadsBegun, HasBegun, EndsBegun, BeginEnds, BeginShows}
use Rattle.primary_events.specs.Leading.{AllOthersStay}
use Rattle.play_readers.specs.PlayModel.Recovery.{Recovery}
use Rattle.play_readers.specs.PlayModel.Recoveries.{all_answered, primary_due, primary_events}
use Rattle.play_primaries.specs.declared.clients.PrimaryClient.{PrimaryClient}
use Rattle.play_primaries.specs.declared.clients.PrimaryState.{PrimaryState}
use Rattle.play_primaries.specs.declared.clients.PrimaryState.TheVariants as state
use Rattle.play_primaries.specs.Clients.{can_act, IsUnderWay, PrimaryClientStands}
use Rattle.play_primaries.specs.Owning.{step_events, led_conns, AreAnswered, AreDialled, OthersAreStopped, OwnIsLawful, OwnLeft, IsOwnCause, OwnEnds, OwnShows}
use Rattle.play_primaries.proofs.DialledLaws.{begun_dialled, none_dialled, refused_counted}
use Rattle.play_primaries.proofs.DueLaws.{state_due}

-- MEMBERS

none_same : (n : NodeId) (ns : List NodeId) → ((j : ℕ) (d : NodeId) → j < length ns → n ≡ get_or ns j d → ⊥) → list_any (λ m. m.0 == n.0) ns ≡ false
none_same n [] h = refl
none_same n (m ∷ ns) h = by (m.0 == n.0) refl (none_same n ns (λ j d within e. h (suc j) d (omega (arith, within)) e))
  where
    by : (b : Bool) → (m.0 == n.0) ≡ b → list_any (λ k. k.0 == n.0) ns ≡ false → list_any (λ k. k.0 == n.0) (m ∷ ns) ≡ false
    by true e rest = absurd (h 0 m (omega arith) (ap (λ (k : ℕ). let x : NodeId = record { 0 = k } in x) (sym (eqb-true m.0 n.0 e))))
    by false e rest = rw (e, rest) refl

distinct_so : (ns : List NodeId) → AllDistinct ns → are_distinct ns ≡ true
distinct_so [] h = refl
distinct_so (n ∷ ns) h =
    rw (none_same n ns (λ j d within e. h 0 (suc j) d (omega arith) (omega (arith, within)) e), distinct_so ns (λ i j d less within e. h (suc i) (suc j) d (omega (arith, less)) (omega (arith, within)) e)) refl

le_so : (a b : ℕ) → a ≤ b → nat_le a b ≡ true
le_so a b h = grind (arith, nat_tests, h)

-- Members of a line are members.
pub members_so : (ns : List NodeId) → AllDistinct ns → length ns ≤ MAX_MEMBERS → are_members ns ≡ true
members_so ns distinct few = rw (le_so (length ns) MAX_MEMBERS few, distinct_so ns distinct) refl

-- DIALS

same_head : (b c : Bool) (xs ys : List Bool) → ◌≡◌ {A = List Bool} (b ∷ xs) (c ∷ ys) → b ≡ c
same_head b c xs ys e = cc

module _ {I O : Type 0} (w : World) where
  none_lower : (x : Option (Conn I O)) (b : Bool) (rest dials : List Bool) → ◌≡◌ {A = List Bool} (b ∷ dials) (is_some x ∷ rest) → dials ≡ rest
  none_lower x b rest dials e = cc

  -- Where each other member is stopped all dials may be answered.
  pub all_same : (members : List NodeId) (lowers : List (Option (Conn I O))) → dials_answered w members (map is_some lowers) ≡ map is_some lowers → OthersAreStopped w members lowers → dials_answered w members (all_answered members) ≡ map is_some lowers
  all_same [] [] e stopped = refl
  all_same [] (x ∷ lowers) e stopped = cc
  all_same (m ∷ members) [] e stopped = cc
  all_same (m ∷ members) (x ∷ lowers) e stopped =
      ap (λ (b : Bool). b ∷ dials_answered w members (all_answered members)) (by x (same_head (is_some x && w.running m.0) (is_some x) (dials_answered w members (map is_some lowers)) (map is_some lowers) e) (λ none. stopped 0 m refl (ap Some none)))
      ∙ ap (λ (l : List Bool). is_some x ∷ l)
      (all_same members lowers (none_lower x (is_some x && w.running m.0) (map is_some lowers) (dials_answered w members (map is_some lowers)) e) (λ place member is at. stopped (suc place) member is at))
    where
      by : (y : Option (Conn I O)) → (is_some y && w.running m.0) ≡ is_some y → (y ≡ None → w.running m.0 ≡ false) → w.running m.0 ≡ is_some y
      by (Some c) on off = on
      by None on off = off refl

  -- The dials that are answered as the lower ends say.
  pub answered_same : (members : List NodeId) (lowers : List (Option (Conn I O))) (answers : List Bool) → dials_answered w members (map is_some lowers) ≡ map is_some lowers → AreAnswered w members answers lowers → dials_answered w members answers ≡ map is_some lowers
  answered_same [] [] answers e same = refl
  answered_same [] (x ∷ lowers) answers e same = cc
  answered_same (m ∷ members) [] answers e same = cc
  answered_same (m ∷ members) (x ∷ lowers) [] e same =
      let head : ◌≡◌ {A = Option Bool} (Some false) (Some (is_some x)) = same 0 x refl in
      let first : false ≡ is_some x = cc in
      ap (λ (b : Bool). b ∷ dials_answered w members []) first
      ∙ ap (λ (l : List Bool). is_some x ∷ l)
      (answered_same members lowers [] (none_lower x (is_some x && w.running m.0) (map is_some lowers) (dials_answered w members (map is_some lowers)) e) (λ place lower at. same (suc place) lower at))
  answered_same (m ∷ members) (x ∷ lowers) (a ∷ answers) e same =
      let head : ◌≡◌ {A = Option Bool} (Some (a && w.running m.0)) (Some (is_some x)) = same 0 x refl in
      let first : (a && w.running m.0) ≡ is_some x = cc in
      ap (λ (b : Bool). b ∷ dials_answered w members answers) first
      ∙ ap (λ (l : List Bool). is_some x ∷ l)
      (answered_same members lowers answers (none_lower x (is_some x && w.running m.0) (map is_some lowers) (dials_answered w members (map is_some lowers)) e) (λ place lower at. same (suc place) lower at))

-- HOW IT BEGINS

-- how far a primary is behind its beginning, and what is handed out
abbrev pub state_begun : {I O : Type 0} → Result (PrimaryBegun I O) PrimaryFault → running.Primary I O → PrimaryState I O
state_begun (Ok (beginning.Ended e)) p = state.HasLed e
state_begun other p = state.Leads p

abbrev pub lowers_begun : {I O : Type 0} → Result (PrimaryBegun I O) PrimaryFault → Vec (Option (Conn I O)) → Result (Vec (Option (Conn I O))) PrimaryFault
lowers_begun (Ok (beginning.Leads lowers)) none = Ok lowers
lowers_begun (Ok (beginning.Ended e)) none = Ok none
lowers_begun (Err why) none = Err why

module _ {D R I O : Type 0} (d : desks.Ghosts D) (r : roads.Ghosts R I O) (i : link_in.Ghosts I) (o : link_out.Ghosts O) (t : Recovery) (p p' : running.Primary I O) (made : steps.IsNew t.block t.members p) (block : p'.block ≡ p.block) (members : p'.members ≡ p.members)
    (office office' : D) (road road' : R) (none : Vec (Option (Conn I O))) (empty : none.items ≡ []) (w : World) (net : Net) (new : w.primaries t.primary ≡ no_primary) where
  abbrev old : PrimaryClient I O
  old = record { recovery = t; state = state.New }

  abbrev after : List Bool → World
  after = begun_world w t.primary t.node t.block t.members

  abbrev Ends : Result (PrimaryBegun I O) PrimaryFault → Type 0
  Ends z = OwnEnds d r i o w net old (record { recovery = t; state = state_begun z p' }) office' road road' (lowers_begun z none)

  abbrev Left : World → PrimaryState I O → List (Option (Conn I O)) → Type 0
  Left v st lowers = OwnLeft d r i o w net v old (record { recovery = t; state = st }) lowers office' road'

  -- its events
  events_are : (answers : List Bool) → run w (step_events (w.primaries t.primary) t answers) ≡ after answers
  events_are answers = ap (λ (q : Primary). run w (step_events q t answers)) new

  all_events : run w (primary_events (w.primaries t.primary) t) ≡ after (all_answered t.members)
  all_events = ap (λ (q : Primary). run w (primary_events q t)) new

  others_stay : (v : World) (now : Net) → AllOthersStay i o w net v now [] → AllOthersStay i o w net v now (led_conns (w.primaries t.primary))
  others_stay v now h = subst (λ (q : Primary). AllOthersStay i o w net v now (led_conns q)) (sym new) h

  -- It leads.
  begun_left : (v : World) (lowers : List (Option (Conn I O))) → ((l : Leading) → v.primaries t.primary ≡ leads l → AreDialled w v t (map is_some lowers)) → LeadsBegun d r i o w net v t.primary t.node lowers p' office' road' → Left v (state.Leads p') lowers
  begun_left v lowers dialled k = record {
    made = k.made;
    stands = record {
      roads_are = k.stands.roads_are;
      client_is = record {
        leading = k.leading;
        leads_so = record {
          shows = k.stands.shows;
          alive = k.alive;
          at_node = k.at_node;
          under_way = subst (λ (x : Phase). IsUnderWay x) (sym k.informs) tt;
          block = block ∙ made.of_block;
          members = members ∙ made.at_members;
        };
      };
    };
    recovery = refl;
    office_is = k.office_is;
    dialled = dialled k.leading k.stands.shows.leads_so;
    lowers_are = λ place. subst (λ (cs : List (Option ℕ)). LowerShows i o v k.made (slice_get cs place) (slice_get lowers place)) k.conns_are (k.lowers_are place);
    others = others_stay v k.made k.others;
  }

  has_begun : (lowers : Vec (Option (Conn I O))) → HasBegun d r i o w net t.primary t.node t.members after lowers.items p' office' road road' → Ends (Ok (beginning.Leads lowers))
  has_begun lowers k = record {
    unanswered = k.unanswered;
    left = λ answers same.
        subst (λ (v : World). Left v (state.Leads p') lowers.items) (sym (events_are answers))
        (begun_to answers (answered_same w t.members lowers.items answers k.answered same));
    whole = λ stopped.
        subst (λ (v : World). Left v (state.Leads p') lowers.items) (sym all_events)
        (begun_to (all_answered t.members) (all_same w t.members lowers.items k.answered stopped));
  }
    where
      begun_to : (answers : List Bool) → dials_answered w t.members answers ≡ map is_some lowers.items → Left (after answers) (state.Leads p') lowers.items
      begun_to answers same = begun_left (after answers) lowers.items (begun_dialled w t new answers (map is_some lowers.items) same) (k.leads_so answers same)

  -- The office has refused.
  refused_left : (v : World) (e : Recovered) → v.next_conn ≡ w.next_conn → EndsBegun d r i o w net v t.primary e office' road' → Left v (state.HasLed e) none.items
  refused_left v e counted k = record {
    made = net;
    stands = record { roads_are = k.roads_are; client_is = k.led };
    recovery = refl;
    office_is = k.office_is;
    dialled = none_dialled w v t (map is_some none.items) (ap (λ (xs : List (Option (Conn I O))). map is_some xs) empty) counted;
    lowers_are = λ place. subst (λ (xs : List (Option (Conn I O))). LowerShows i o v net (slice_get (numbered w.next_conn (map is_some xs)) place) (slice_get xs place)) (sym empty) tt;
    others = others_stay v net k.others;
  }

  no_lower : (xs : List (Option (Conn I O))) (place : ℕ) (x : Option (Conn I O)) → xs ≡ [] → slice_get xs place ≡ Some x → ⊥
  no_lower [] place x e at = cc
  no_lower (y ∷ xs) place x e at = cc

  has_ended : (e : Recovered) → ((answers : List Bool) → EndsBegun d r i o w net (after answers) t.primary e office' road') → Ends (Ok (beginning.Ended e))
  has_ended e k = record {
    unanswered = λ place member is at. absurd (no_lower none.items place None empty at);
    left = λ answers same. subst (λ (v : World). Left v (state.HasLed e) none.items) (sym (events_are answers)) (refused_to answers);
    whole = λ stopped. subst (λ (v : World). Left v (state.HasLed e) none.items) (sym all_events) (refused_to (all_answered t.members));
  }
    where
      refused_to : (answers : List Bool) → Left (after answers) (state.HasLed e) none.items
      refused_to answers = refused_left (after answers) e (refused_counted w t new answers e (k answers).led) (k answers)

  by_result : (z : Result (PrimaryBegun I O) PrimaryFault) → BeginEnds d r i o w net t.primary t.node t.members after p' office' road road' z → Ends z
  by_result (Ok (beginning.Leads lowers)) k = has_begun lowers k
  by_result (Ok (beginning.Ended e)) k = has_ended e k
  by_result (Err why) k = subst (λ (q : Primary). IsOwnCause r w q road road' why) (sym new) k

  spelled : OwnIsLawful w t → (answers : List Bool) → SpellsBegun (after answers) t.primary
  spelled law answers = λ l is place c at n m here. (subst Written (events_are answers) (law.written answers)).downs c n m here

  runs : primary_due (w.primaries t.primary) w t ≡ true → w.running t.node.0 ≡ true
  runs due = and-right t.may_begin (w.running t.node.0) (sym (ap (λ (q : Primary). primary_due q w t) new) ∙ due)

  pub begun_ends : are_members t.members ≡ true → PrimaryClientStands r i o w net old road → d.office office ≡ Some w.office → OwnIsLawful w t → primary_due (w.primaries t.primary) w t ≡ true → (z : Result (PrimaryBegun I O) PrimaryFault) → BeginShows d r i o p p' office office' road road' z → Ends z
  begun_ends formed stands at law due z k =
      by_result z
      (subst (λ (ms : List NodeId). BeginEnds d r i o w net t.primary t.node ms (begun_world w t.primary t.node t.block ms) p' office' road road' z) made.at_members
      (subst (λ b. BeginEnds d r i o w net t.primary t.node p.members (begun_world w t.primary t.node b p.members) p' office' road road' z) made.of_block
      (k w net t.primary t.node stands.roads_are
      (record { new = new; runs = runs due; members_are = subst (λ (ms : List NodeId). are_members ms ≡ true) (sym made.at_members) formed })
      at
      (subst (λ (ms : List NodeId). (answers : List Bool) → SpellsBegun (begun_world w t.primary t.node p.block ms answers) t.primary) (sym made.at_members)
      (subst (λ b. (answers : List Bool) → SpellsBegun (begun_world w t.primary t.node b t.members answers) t.primary) (sym made.of_block) (spelled law))))))

-- A new primary begins as in the world.
pub begun_shows : {D R I O : Type 0} (d : desks.Ghosts D) (r : roads.Ghosts R I O) (i : link_in.Ghosts I) (o : link_out.Ghosts O) (t : Recovery) (p p' : running.Primary I O) (office office' : D) (road road' : R) (none : Vec (Option (Conn I O))) → none.items ≡ [] → (z : Result (PrimaryBegun I O) PrimaryFault)
    → are_members t.members ≡ true → steps.IsNew t.block t.members p → p'.block ≡ p.block → p'.members ≡ p.members → BeginShows d r i o p p' office office' road road' z
    → OwnShows d r i o (record { recovery = t; state = state.New }) (record { recovery = t; state = state_begun z p' }) office office' road road' (lowers_begun z none)
begun_shows d r i o t p p' office office' road road' none empty z formed made block members k = λ w net stands at law due.
    begun_ends d r i o t p p' made block members office office' road road' none empty w net stands.client_is.is formed stands at law due z k

-- There was no memory for it.
pub begun_starves : {D R I O : Type 0} (d : desks.Ghosts D) (r : roads.Ghosts R I O) (i : link_in.Ghosts I) (o : link_out.Ghosts O) (t : Recovery) (new : PrimaryState I O) (office : D) (road : R) → OwnShows d r i o (record { recovery = t; state = state.New }) (record { recovery = t; state = new }) office office road road (Err fault.Memory)
begun_starves d r i o t new office road = λ w net stands at law due.
    subst (λ (q : Primary). IsOwnCause r w q road road fault.Memory) (sym stands.client_is.is) tt

-- WHERE IT HAS NO STEP

-- A client that has no step shows no world in which one is due.
pub idle_shows : {D R I O : Type 0} (d : desks.Ghosts D) (r : roads.Ghosts R I O) (i : link_in.Ghosts I) (o : link_out.Ghosts O) (old new : PrimaryClient I O) (office office' : D) (road road' : R) (z : Result (Vec (Option (Conn I O))) PrimaryFault)
    → can_act old.recovery.may_begin old.state ≡ false → OwnShows d r i o old new office office' road road' z
idle_shows d r i o old new office office' road road' z idle = λ w net stands at law due.
    absurd (false_true (sym idle ∙ (state_due i o old.state w net old.recovery stands.client_is ∙ due)))
  where
    false_true : false ≡ true → ⊥
    false_true e = cc
