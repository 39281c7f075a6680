-- What befalls a play where something is due, and how the numbers of its nodes run down.
use Rattle.std.proofs.Common.{◌≡◌, ℕ, zero, suc, ◌<◌, ◌≤◌, Bool, true, false, List, [], ◌∷◌, length, slice_get, option_map, Option, Some, None, Result, Ok, Err, refl, sym, ap, ◌∙◌, subst, eqb-true, arith}
use Rattle.std.specs.Prelude.{◌==◌, ◌&&◌, ◌-◌, not, if◌then◌else◌, slice_set, unwrap_or}
use Rattle.std.proofs.lemmas.Bool.{eqb-false}
use Rattle.hd_base.specs.declared.files.Files as files
use Rattle.hd_base.specs.declared.links.LinkIn as link_in
use Rattle.hd_base.specs.declared.links.LinkOut as link_out
use Rattle.hd_base.specs.declared.numbers.ConnId.{ConnId}
use Rattle.hd_base.specs.declared.numbers.NodeId.{NodeId}
use Rattle.hd_base.specs.declared.roads.Roads as roads
use Rattle.world.specs.declared.events.Event.{Event}
use Rattle.world.specs.declared.events.Event.TheVariants as event
use Rattle.world.specs.Parts as parts
use Rattle.world.specs.Parts.{by_writer, by_member, by_reader, by_primary, idle}
use Rattle.world.specs.Nodes.{node_of}
use Rattle.world.specs.Worlds.{World}
use Rattle.world.specs.Events.{happens}
use Rattle.world_writes.specs.Writes.{grows, has_grown}
use Rattle.play_model.proofs.WorldLaws.StampGivens.{put-here, put-there}
use Rattle.play_model.specs.declared.dues.Due.{Due}
use Rattle.play_model.specs.declared.dues.Due.TheVariants as due
use Rattle.play_model.specs.Dues.{Queues, is_due, due_events, queues_after}
use Rattle.play_model.specs.Faults.{Faults, write_node, number_at, events_with, run_down, befall_events, befall_faults}
use Rattle.play_laws.specs.WorldOrders.Orders.{Ordered, IsBelow, purpose_of, pipeline}
use Rattle.node_stops.specs.PlayNodes.Connection.{Connection}
use Rattle.node_stops.proofs.PlayNodes.PlaceLaws.{element_none, same_some}
use Rattle.node_stops.proofs.PlayNodes.Tables.{element, set_here, set_there}
use Rattle.node_stops.specs.PlayNodes.Dues.{IdleIs, TellsElsewhere, TellsIdle}
use Rattle.node_stops.specs.PlayNodes.Events.{IsBusy}
use Rattle.node_stops.specs.PlayNodes.Nodes.{Nodes}
use Rattle.node_stops.specs.PlayNodes.Showing.{is_pipeline, NodesShow}
use Rattle.road_traffic.specs.Showing.{Net}
use Rattle.play.specs.declared.faults.PlayFault.{PlayFault}
use Rattle.play.specs.declared.player.Player.{Player}
use Rattle.play.specs.Befalling.{number_in, TellsFaults, FaultsAreTold, number_after, RunsDown, down_of, TellsWriting, befalling, HasBefallen, BefallEnds, BefallShows, MemberBefalls}
use Rattle.play.specs.Events.{FilesTell, Happening, due_happens, down_happens, DownLeft, DownEnds, DownShows, actor_of}
use Rattle.play.specs.Laws.{Laws}
use Rattle.play.specs.Standing.{HasDone, PlayStands, HappenShows, HappenEnds, world_of}
use Rattle.play.proofs.Dispatch.{down_within}
use Rattle.play.proofs.Happened.{CanHappen, due_can, fault_can, has_done}
use Rattle.play.proofs.Lawful.{lawful}

-- WHERE NOTHING IS WRITTEN

-- a lower end that has taken nothing yet writes nothing
idle_still : (w : World) (c : ℕ) → w.lowers c ≡ idle → grows w c ≡ false
unfolding grows
idle_still w c is = ap (λ (l : parts.Lower). has_grown w (happens w (event.Down (record { 0 = c }) true)) c l) is

pipeline_so : (u : parts.Upper) → purpose_of u ≡ pipeline → is_pipeline u ≡ true
pipeline_so (by_writer b) e = refl
pipeline_so (by_member d) e = refl
pipeline_so (by_reader i) e = cc
pipeline_so (by_primary i place) e = cc

apart : {A : Type 0} (b : Bool) → b ≡ true → b ≡ false → A
apart b x y = cc

-- nor does one of a connection that is none of a pipeline
away_still : (w : World) (c : ℕ) → Ordered w → is_pipeline (w.dialled c).upper ≡ false → grows w c ≡ false
unfolding grows
away_still w c ordered away = by (w.lowers c) (ordered.below c)
  where
    by : (l : parts.Lower) → IsBelow (w.dialled c).upper (w.down_marks c).taken (w.ups c) l → has_grown w (happens w (event.Down (record { 0 = c }) true)) c l ≡ false
    by (parts.writes m) h = apart (is_pipeline (w.dialled c).upper) (pipeline_so (w.dialled c).upper h.writes) away
    by parts.idle h = refl
    by (parts.serves b s) h = refl
    by parts.recovers h = refl
    by parts.ended_below h = refl

none_written : (w : World) (conn : ConnId) → grows w conn.0 ≡ false → write_node w (due.Down conn) ≡ None
none_written w conn e = go (grows w conn.0) e
  where
    go : (b : Bool) → b ≡ false → (if b then Some (node_of w conn.0) else None) ≡ None
    go true e = cc
    go false e = refl

one_written : (w : World) (conn : ConnId) → grows w conn.0 ≡ true → write_node w (due.Down conn) ≡ Some (node_of w conn.0)
one_written w conn e = go (grows w conn.0) e
  where
    go : (b : Bool) → b ≡ true → (if b then Some (node_of w conn.0) else None) ≡ Some (node_of w conn.0)
    go true e = refl
    go false e = cc

-- only a lower end that takes what stands next writes
not_down : (w : World) (d : Due) → down_of d ≡ None → write_node w d ≡ None
not_down w (due.Down conn) e = cc
not_down w d e = refl

down_is : (d : Due) (conn : ConnId) → down_of d ≡ Some conn → d ≡ due.Down conn
down_is (due.Down c) conn e = cc
down_is d conn e = cc

-- NUMBERS

one_less : (left : ℕ) → suc left - 1 ≡ left
one_less left = omega arith

two_more : (left : ℕ) → suc (suc left) ≡ 1 → ⊥
two_more left h = omega (arith, h)

none_less : (x : ℕ) → x ≡ 0 → x ≡ x - 1
none_less x e = omega (arith, e)

-- the number of a node that has one runs down
pub ran_set : (writes : Bool) (xs : List ℕ) (k v : ℕ) → writes ≡ true → k < length xs → v ≡ number_in xs k - 1 → RunsDown writes k xs (slice_set xs k v)
ran_set writes xs k v wrote within is = λ n. subst (λ (b : Bool). number_in (slice_set xs k v) n ≡ number_after (b && (n == k)) xs n) (sym wrote) (each n (n == k) refl)
  where
    each : (n : ℕ) (same : Bool) → (n == k) ≡ same → number_in (slice_set xs k v) n ≡ number_after same xs n
    each n false e = ap (λ (o : Option ℕ). unwrap_or o 0) (set_there xs k v n (λ s. eqb-false n k e s))
    each n true e = by (eqb-true n k e) (element xs k within)
      where
        by : n ≡ k → (a : ℕ) × (slice_get xs k ≡ Some a) → number_in (slice_set xs k v) n ≡ number_in xs n - 1
        by s at = ap (number_in (slice_set xs k v)) s ∙ (ap (λ (o : Option ℕ). unwrap_or o 0) (set_here xs k at.0 v at.1) ∙ (is ∙ sym (ap (λ (j : ℕ). number_in xs j - 1) s)))

-- and of one that has none there is nothing to run down
pub ran_past : (writes : Bool) (xs : List ℕ) (k : ℕ) → writes ≡ true → length xs ≤ k → RunsDown writes k xs xs
ran_past writes xs k wrote past = λ n. subst (λ (b : Bool). number_in xs n ≡ number_after (b && (n == k)) xs n) (sym wrote) (each n (n == k) refl)
  where
    each : (n : ℕ) (same : Bool) → (n == k) ≡ same → number_in xs n ≡ number_after same xs n
    each n false e = refl
    each n true e = none_less (number_in xs n) (ap (number_in xs) (eqb-true n k e) ∙ ap (λ (o : Option ℕ). unwrap_or o 0) (element_none xs k past))

-- WHO WRITES

not_false : (b : Bool) → false ≡ not b → b ≡ true
not_false true e = refl
not_false false e = cc

not_true : (b : Bool) → true ≡ not b → b ≡ false
not_true true e = cc
not_true false e = refl

module _ {F I O : Type 0} (i : link_in.Ghosts I) (o : link_out.Ghosts O) (d : Due) (n : Nodes F I O) where
  pub tells_none : down_of d ≡ None → TellsWriting i o d n None
  tells_none none = λ w net queues shows ordered is. not_down w d none

  -- what is known of a connection where its lower end takes what stands next
  due_down : (conn : ConnId) → down_of d ≡ Some conn → (w : World) (queues : Queues) → is_due w queues d ≡ true → is_due w queues (due.Down conn) ≡ true
  due_down conn some w queues is = subst (λ (x : Due). is_due w queues x ≡ true) (down_is d conn some) is

  still_so : (conn : ConnId) → down_of d ≡ Some conn → (w : World) → grows w conn.0 ≡ false → write_node w d ≡ None
  still_so conn some w still = subst (λ (x : Due). write_node w x ≡ None) (sym (down_is d conn some)) (none_written w conn still)

  pub tells_away : (conn : ConnId) (away : Bool) → down_of d ≡ Some conn → away ≡ true → TellsElsewhere i o conn n away → TellsWriting i o d n None
  tells_away conn away some there seen = λ w net queues shows ordered is.
      still_so conn some w (away_still w conn.0 ordered (not_true (is_pipeline (w.dialled conn.0).upper) (sym there ∙ seen w net shows (down_within w queues conn (due_down conn some w queues is)))))

  -- the connection is of a pipeline
  piped_so : (conn : ConnId) (away : Bool) → away ≡ false → TellsElsewhere i o conn n away → (w : World) (net : Net) → NodesShow i o w net n → conn.0 < w.next_conn → is_pipeline (w.dialled conn.0).upper ≡ true
  piped_so conn away here seen w net shows within = not_false (is_pipeline (w.dialled conn.0).upper) (sym here ∙ seen w net shows within)

  pub tells_first : (conn : ConnId) (away first : Bool) → down_of d ≡ Some conn → away ≡ false → TellsElsewhere i o conn n away → first ≡ true → TellsIdle i o conn n first → TellsWriting i o d n None
  tells_first conn away first some here seen takes idles = λ w net queues shows ordered is.
      let is' = due_down conn some w queues is in
      still_so conn some w (idle_still w conn.0 (subst (λ (b : Bool). IdleIs b w conn.0) takes (idles w net queues shows (λ within. piped_so conn away here seen w net shows within) is')))

  pub tells_member : (conn : ConnId) (away first : Bool) → down_of d ≡ Some conn → away ≡ false → TellsElsewhere i o conn n away → first ≡ false → TellsIdle i o conn n first → TellsWriting i o d n (Some conn)
  tells_member conn away first some here seen takes idles = λ w net queues shows ordered is.
      let is' = due_down conn some w queues is in
      record {
        is_down = down_is d conn some;
        piped = piped_so conn away here seen w net shows (down_within w queues conn is');
        busy = subst (λ (b : Bool). IdleIs b w conn.0) takes (idles w net queues shows (λ within. piped_so conn away here seen w net shows within) is');
      }

-- the element whose image an option has
element_of : {A B : Type 0} (g : A → B) (x : Option A) (y : B) → option_map g x ≡ Some y → (a : A) × ((x ≡ Some a) × (g a ≡ y))
element_of g None y e = cc
element_of g (Some a) y e = (a, (refl, same_some (g a) y e))

-- the node at the lower end of a connection
abbrev node_in : {F I O : Type 0} → Player F I O → ConnId → Option NodeId
node_in p conn = option_map (λ x. x.node) (slice_get p.nodes.connections.items conn.0)

-- WHAT BEFALLS THEN

-- with this node, or none
abbrev with_node : World → Queues → Faults → Due → Option ℕ → Happening
with_node w queues faults d node = record {
  events = events_with (number_at faults node) w queues d;
  queues = queues_after w queues d;
  actor = actor_of w d;
}

-- what happens where a member writes, and so many writes are left until one fails
abbrev down_with : ℕ → World → Queues → ConnId → Happening
down_with left w queues conn = record { events = events_with left w queues (due.Down conn); queues = queues; actor = None }

down_is_with : (w : World) (queues : Queues) (conn : ConnId) (left : ℕ) (refuses : Bool) → (left == 1) ≡ refuses → down_happens w queues conn refuses true ≡ down_with left w queues conn
down_is_with w queues conn zero false e = refl
down_is_with w queues conn zero true e = cc
down_is_with w queues conn (suc zero) true e = refl
down_is_with w queues conn (suc zero) false e = cc
down_is_with w queues conn (suc (suc left)) false e = refl
down_is_with w queues conn (suc (suc left)) true e = absurd (two_more left (eqb-true (suc (suc left)) 1 e))

module _ {F R I O : Type 0} (f : files.Ghosts F) (r : roads.Ghosts R I O) (i : link_in.Ghosts I) (o : link_out.Ghosts O) (old new : Player F I O) (road road' : R) where
  -- something that writes nothing happens
  pub still_befalls : (d : Due) (numbers : List ℕ) (nodes : ℕ) (queues : Queues) (faults : Faults) (result : Result (Unit {0}) PlayFault) → TellsFaults faults numbers → write_node (world_of nodes old) d ≡ None → HappenEnds f r i o nodes queues d old new road road' result
      → BefallEnds f r i o nodes queues faults d numbers old new road road' result
  still_befalls d numbers nodes queues faults (Ok u) tells none h = record {
    done = subst (λ (node : Option ℕ). HasDone r i o nodes queues (with_node (world_of nodes old) queues faults d node) old new road') (sym none) h;
    numbers_are = subst (λ (node : Option ℕ). TellsFaults (run_down (number_at faults node) node faults) numbers) (sym none) tells;
  }
  still_befalls d numbers nodes queues faults (Err why) tells none h = h

  -- what writes nothing befalls so
  pub others_befall : (L : Laws) (d : Due) (numbers : List ℕ) (result : Result (Unit {0}) PlayFault) → TellsWriting i o d old.nodes None → HappenShows f r i o d old new road road' result → BefallShows f r i o d numbers numbers old new road road' result
  others_befall L d numbers result still shows = λ nodes queues faults s tells told is actor reads.
      let w : World = world_of nodes old in
      still_befalls d numbers nodes queues faults result tells (still w s.net queues s.shows.nodes.nodes_are (L.ordered nodes old.events.items) is) (shows nodes queues s is actor reads)

  -- and what stands next at a member
  pub down_befalls : (L : Laws) (d : Due) (conn : ConnId) (numbers numbers' : List ℕ) (result : Result (Unit {0}) PlayFault) → TellsWriting i o d old.nodes (Some conn) → MemberBefalls f r i o conn numbers numbers' old new road road' result → BefallShows f r i o d numbers numbers' old new road road' result
  down_befalls L d conn numbers numbers' result at shows = λ nodes queues faults s tells told is actor reads.
      let w : World = world_of nodes old in
      let m = at w s.net queues s.shows.nodes.nodes_are (L.ordered nodes old.events.items) is in
      subst (λ (x : Due). BefallEnds f r i o nodes queues faults x numbers' old new road road' result) (sym m.is_down)
      (shows nodes queues faults s tells told (subst (λ (x : Due). is_due w queues x ≡ true) m.is_down is) m.piped m.busy)

  -- A MEMBER

  -- the numbers after nothing was written
  kept_numbers : (node : ℕ) (numbers numbers' : List ℕ) (faults : Faults) → TellsFaults faults numbers → RunsDown false node numbers numbers' → TellsFaults faults numbers'
  kept_numbers node numbers numbers' faults tells runs = λ n. runs n ∙ tells n

  -- and after something was, where this one was left
  ran_numbers : (node : ℕ) (numbers numbers' : List ℕ) (faults : Faults) (left : ℕ) → TellsFaults faults numbers → faults node ≡ left → RunsDown true node numbers numbers' → TellsFaults (run_down left (Some node) faults) numbers'
  ran_numbers node numbers numbers' faults left tells is runs = λ n. runs n ∙ each left is n (n == node) refl
    where
      each : (left : ℕ) → faults node ≡ left → (n : ℕ) (same : Bool) → (n == node) ≡ same → number_after same numbers n ≡ run_down left (Some node) faults n
      each zero is n false e = tells n
      each zero is n true e = by (eqb-true n node e)
        where
          by : n ≡ node → number_in numbers n - 1 ≡ faults n
          by same = ap (λ (k : ℕ). k - 1) (tells n ∙ (ap faults same ∙ is)) ∙ sym (ap faults same ∙ is)
      each (suc left) is n false e = tells n ∙ sym (put-there faults node left n (λ same. eqb-false n node e same))
      each (suc left) is n true e = by (eqb-true n node e)
        where
          by : n ≡ node → number_in numbers n - 1 ≡ run_down (suc left) (Some node) faults n
          by same = ap (λ (k : ℕ). k - 1) (tells n ∙ (ap faults same ∙ is)) ∙ (one_less left ∙ sym (ap (run_down (suc left) (Some node) faults) same ∙ put-here faults node left))

  module _ (L : Laws) (conn : ConnId) (nodes : ℕ) (queues : Queues) (faults : Faults) (s : PlayStands r i o nodes queues road old) (is : is_due (world_of nodes old) queues (due.Down conn) ≡ true) where
    abbrev here : World
    here = world_of nodes old

    -- whichever of both happens may
    can_down : (refuses : Bool) → grows here conn.0 ≡ true → CanHappen r i o L nodes queues old road s (down_happens here queues conn refuses true)
    can_down true grown = fault_can r i o L nodes queues old road s L.fault_keeps conn grown
    can_down false grown = due_can r i o L nodes queues old road s (due.Down conn) is tt

    -- it has happened, or its write has failed
    happened_down : (left : ℕ) (refuses : Bool) → (left == 1) ≡ refuses → grows here conn.0 ≡ true → DownLeft r i o here queues conn refuses true old new road' → HasDone r i o nodes queues (down_with left here queues conn) old new road'
    happened_down left refuses e grown h =
        subst (λ (x : Happening). HasDone r i o nodes queues x old new road') (down_is_with here queues conn left refuses e)
        (has_done r i o L nodes queues old road s (down_happens here queues conn refuses true) (can_down refuses grown) new road' h.is_left)

    -- the same where nothing is written
    still_down : (refuses : Bool) → DownLeft r i o here queues conn refuses false old new road' → HasDone r i o nodes queues (due_happens here queues (due.Down conn)) old new road'
    still_down true h = has_done r i o L nodes queues old road s (due_happens here queues (due.Down conn)) (due_can r i o L nodes queues old road s (due.Down conn) is tt) new road' h.is_left
    still_down false h = has_done r i o L nodes queues old road s (due_happens here queues (due.Down conn)) (due_can r i o L nodes queues old road s (due.Down conn) is tt) new road' h.is_left

    -- a write came with it, or none
    befallen : (numbers numbers' : List ℕ) (node : NodeId) (refuses writes : Bool) → TellsFaults faults numbers → node.0 ≡ node_of here conn.0 → refuses ≡ (number_in numbers node.0 == 1) → RunsDown writes node.0 numbers numbers' → DownLeft r i o here queues conn refuses writes old new road'
        → HasBefallen r i o nodes queues faults (due.Down conn) numbers' old new road'
    befallen numbers numbers' node refuses false tells node_is number_is runs h =
        let none = none_written here conn (sym h.grown) in
        record {
          done = subst (λ (n : Option ℕ). HasDone r i o nodes queues (with_node here queues faults (due.Down conn) n) old new road') (sym none) (still_down refuses h);
          numbers_are = subst (λ (n : Option ℕ). TellsFaults (run_down (number_at faults n) n faults) numbers') (sym none) (kept_numbers node.0 numbers numbers' faults tells runs);
        }
    befallen numbers numbers' node refuses true tells node_is number_is runs h =
        let some = one_written here conn (sym h.grown) in
        let left_is : number_in numbers node.0 ≡ faults (node_of here conn.0) = tells node.0 ∙ ap faults node_is in
        record {
          done = subst (λ (n : Option ℕ). HasDone r i o nodes queues (with_node here queues faults (due.Down conn) n) old new road') (sym some)
              (happened_down (faults (node_of here conn.0)) refuses (ap (λ (k : ℕ). k == 1) (sym left_is) ∙ sym number_is) (sym h.grown) h);
          numbers_are = subst (λ (n : Option ℕ). TellsFaults (run_down (number_at faults n) n faults) numbers') (sym some)
              (ran_numbers (node_of here conn.0) numbers numbers' faults (faults (node_of here conn.0)) tells refl (subst (λ (n : ℕ). RunsDown true n numbers numbers') node_is runs));
        }

  -- the node of a connection
  node_at : (conn : ConnId) (nodes : ℕ) (queues : Queues) (s : PlayStands r i o nodes queues road old) (node : NodeId) → node_in old conn ≡ Some node → node.0 ≡ node_of (world_of nodes old) conn.0
  node_at conn nodes queues s node there =
      let x = element_of (λ (c : Connection I O). c.node) (slice_get old.nodes.connections.items conn.0) node there in
      ap (λ (n : NodeId). n.0) (sym x.1.1) ∙ (s.shows.nodes.nodes_are.each conn.0 x.0 x.1.0).node

  -- there is one
  no_node : {A : Type 0} (conn : ConnId) (nodes : ℕ) (queues : Queues) (s : PlayStands r i o nodes queues road old) → is_due (world_of nodes old) queues (due.Down conn) ≡ true → node_in old conn ≡ None → A
  no_node conn nodes queues s is none =
      let at = element old.nodes.connections.items conn.0 (subst (λ (n : ℕ). conn.0 < n) (sym s.shows.nodes.nodes_are.count) (down_within (world_of nodes old) queues conn is)) in
      never (slice_get old.nodes.connections.items conn.0) at.0 at.1 none
    where
      never : {A : Type 0} (x : Option (Connection I O)) (y : Connection I O) → x ≡ Some y → option_map (λ (c : Connection I O). c.node) x ≡ None → A
      never x y a b = cc

  -- where a write is to be refused all files are told
  refused_told : (numbers : List ℕ) (node : NodeId) (faults : Faults) (refuses : Bool) → TellsFaults faults numbers → FaultsAreTold f faults → refuses ≡ (number_in numbers node.0 == 1) → refuses ≡ true → FilesTell f
  refused_told numbers node faults refuses tells told is e = told node.0 (λ zero_is. one_none (number_in numbers node.0) (sym is ∙ e) (tells node.0 ∙ zero_is))
    where
      one_none : (n : ℕ) → (n == 1) ≡ true → n ≡ 0 → ⊥
      one_none n one none = cc

  pub member_took : (L : Laws) (conn : ConnId) (numbers numbers' : List ℕ) (node : NodeId) (refuses writes : Bool) → node_in old conn ≡ Some node → refuses ≡ (number_in numbers node.0 == 1) → RunsDown writes node.0 numbers numbers' → DownShows f r i o conn refuses old new road road' (Ok writes)
      → MemberBefalls f r i o conn numbers numbers' old new road road' (Ok tt)
  member_took L conn numbers numbers' node refuses writes there number_is runs shows = λ nodes queues faults s tells told is piped busy.
      let w : World = world_of nodes old in
      let left : DownLeft r i o w queues conn refuses writes old new road' =
      shows w s.net queues s.shows piped (lawful L nodes old s.events (event.Down conn true) (tt, tt)) is busy (refused_told numbers node faults refuses tells told number_is) in
      befallen L conn nodes queues faults s is numbers numbers' node refuses writes tells (node_at conn nodes queues s node there) number_is runs left

  pub member_failed : (L : Laws) (conn : ConnId) (numbers : List ℕ) (node : NodeId) (refuses : Bool) (why : PlayFault) → refuses ≡ (number_in numbers node.0 == 1) → DownShows f r i o conn refuses old new road road' (Err why)
      → MemberBefalls f r i o conn numbers numbers old new road road' (Err why)
  member_failed L conn numbers node refuses why number_is shows = λ nodes queues faults s tells told is piped busy.
      shows (world_of nodes old) s.net queues s.shows piped (lawful L nodes old s.events (event.Down conn true) (tt, tt)) is busy (refused_told numbers node faults refuses tells told number_is)

  pub nowhere : (conn : ConnId) (numbers : List ℕ) (result : Result (Unit {0}) PlayFault) → node_in old conn ≡ None → MemberBefalls f r i o conn numbers numbers old new road road' result
  nowhere conn numbers result none = λ nodes queues faults s tells told is piped busy. no_node conn nodes queues s is none
