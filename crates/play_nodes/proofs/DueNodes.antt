-- Which events of the nodes are due, as the nodes and the roads tell.
use Rattle.std.proofs.Common.{◌≡◌, ◌<◌, ◌≤◌, ℕ, zero, suc, Bool, true, false, if◌then◌else◌, List, [], ◌∷◌, length, take, drop, map, slice_get, option_map, Option, Some, None, IfSome, is_some, refl, sym, ap, ◌∙◌, subst, arith}
use Rattle.std.specs.Prelude.{◌&&◌, not, nat_le, nat_lt, unwrap_or}
use Rattle.std.proofs.Math.Seq.{drop-nil}
use Rattle.std.proofs.lemmas.Bool.Decides.{nat_tests}
use Rattle.std.proofs.lemmas.List.{length-map}
use Rattle.hd_base.specs.Channels.{next_standing}
use Rattle.hd_base.specs.declared.ends.Conn.{Conn}
use Rattle.hd_base.specs.declared.ends.Standing.{Standing}
use Rattle.hd_base.specs.declared.ends.Standing.TheVariants as standing
use Rattle.hd_base.specs.declared.links.LinkIn as link_in
use Rattle.hd_base.specs.declared.links.LinkOut as link_out
use Rattle.hd_base.specs.declared.numbers.ConnId.{ConnId}
use Rattle.hd_base.specs.declared.numbers.NodeId.{NodeId}
use Rattle.hd_base.specs.declared.roads.Roads as roads
use Rattle.replica_core.specs.declared.records.ReplicaRecord.{ReplicaRecord}
use Rattle.member_events.specs.ReplicaModel.Rows.{FullReplica}
use Rattle.member_events.specs.ReplicaFiles.BookState.{BookState}
use Rattle.member_events.specs.ReplicaFiles.Books.{replica_of}
use Rattle.member_events.specs.MemberCore.Members.{hears, ready_turn_by}
use Rattle.member_events.specs.PipeMember.Member.{Member}
use Rattle.member_events.specs.PipeMember.Stage.{Stage}
use Rattle.member_events.specs.PipeMember.Enabled as members
use Rattle.road_traffic.specs.Showing.{Net, RoadsShow, ShowsStanding, standing_on}
use Rattle.road_traffic.specs.Traffic.{Traffic, Fits, before_end}
use Rattle.play_model.specs.World.Parts as parts
use Rattle.play_model.specs.World.Parts.{Message, FullMember, by_member, idle, writes}
use Rattle.play_model.specs.World.Worlds.{World}
use Rattle.play_model.specs.World.Connections.{Next, message, the_end, ends_at, next_on, next_down, next_up, is_alive, is_served}
use Rattle.play_model.specs.World.Enabled.{takes_down, acts_below, hears_mirror, takes_above}
use Rattle.play_model.specs.World.Nodes.{node_of, block_of, replica_at, pending_at}
use Rattle.play_model.proofs.WorldLaws.FactTables.{and-left, and-right}
use Rattle.world_orders.specs.Open.{IsOpenBelow}
use Rattle.member_events.specs.WorldNets.Nets.{IsRow, IsEndOf, is_over}
use Rattle.member_events.specs.WorldNets.Rows.{Row, rows_of, text_of}
use Rattle.play_model.specs.declared.dues.Due.TheVariants as due
use Rattle.play_model.specs.Dues.{is_open, is_open_above, is_due}
use Rattle.member_events.specs.Showing.{MirrorShows}
use Rattle.play_nodes.specs.declared.connections.Connection.{Connection}
use Rattle.play_nodes.specs.declared.connections.Lower.{Lower}
use Rattle.play_nodes.specs.declared.connections.Lower.TheVariants as lower
use Rattle.play_nodes.specs.declared.connections.Upper.{Upper}
use Rattle.play_nodes.specs.declared.connections.Upper.TheVariants as upper
use Rattle.play_nodes.specs.declared.nodes.Nodes.{Nodes}
use Rattle.play_nodes.specs.declared.nodes.Seat.{Seat}
use Rattle.play_nodes.specs.Dues.{stands, is_idle, is_elsewhere, TellsElsewhere, TellsIdle, TellsReady, TellsDown, TellsUp}
use Rattle.play_nodes.specs.Places.{book_at, IsSeated, IsUnseated, member_above}
use Rattle.play_nodes.specs.Showing.{UpperShows, IsOfPipeline, has_events, stands_here, LowerShows, NodesShow, NodesStand}
use Rattle.play_nodes.proofs.PlaceLaws.{element_within, same_some}
use Rattle.play_nodes.proofs.MemberNodes.{IsMember, member_shown}
use Rattle.play_nodes.proofs.ReadyNodes.{served_within, acts_at, acts_busy, seated_shown}
use Rattle.play_nodes.proofs.Tables.{element}
use Rattle.play_nodes.proofs.TakeNodes.{takes_at, mirror_of_upper, above_needed, above_seated}
use Rattle.play_nodes.proofs.BeginNodes.{IdleAt, idle_at}

-- WHAT STANDS NEXT

-- what stands next where this does
abbrev pub standing_for : Option Next → Standing
standing_for None = standing.Nothing
standing_for (Some (message m)) = standing.Piece
standing_for (Some the_end) = standing.End

plain_standing : (sent : List Message) (i : ℕ) → next_standing (drop i (map text_of sent)) false ≡ standing_for (option_map message (slice_get sent i))
plain_standing [] i = ap (λ (xs : List (List ℕ)). next_standing xs false) (drop-nil i)
plain_standing (m ∷ ms) zero = refl
plain_standing (m ∷ ms) (suc i) = plain_standing ms i

ended_standing : (sent : List Message) (i n : ℕ) → i < n → n ≤ length sent → next_standing (drop i (take n (map text_of sent))) true ≡ standing_for (option_map message (slice_get sent i))
ended_standing [] i n h le = absurd (omega arith)
ended_standing (m ∷ ms) i zero h le = absurd (omega arith)
ended_standing (m ∷ ms) zero (suc n) h le = refl
ended_standing (m ∷ ms) (suc i) (suc n) h le = ended_standing ms i n (omega arith) (omega arith)

none_behind : (xs : List (List ℕ)) (i n : ℕ) → n ≤ i → drop i (take n xs) ≡ []
none_behind xs i zero h = drop-nil i
none_behind [] i (suc n) h = drop-nil i
none_behind (x ∷ xs) zero (suc n) h = absurd (omega arith)
none_behind (x ∷ xs) (suc i) (suc n) h = none_behind xs i n (omega arith)

is_behind : (n i : ℕ) → nat_le n i ≡ true → n ≤ i
is_behind n i h = grind (arith, nat_tests)

is_before : (n i : ℕ) → nat_le n i ≡ false → i < n
is_before n i h = grind (arith, nat_tests)

end_standing : (b : Bool) (sent : List Message) (i n : ℕ) → nat_le n i ≡ b → n ≤ length sent → next_standing (drop i (take n (map text_of sent))) true ≡ standing_for (if b then Some the_end else option_map message (slice_get sent i))
end_standing true sent i n h le = ap (λ (xs : List (List ℕ)). next_standing xs true) (none_behind (map text_of sent) i n (is_behind n i h))
end_standing false sent i n h le = ended_standing sent i n (is_before n i h) le

standing_by : (sent : List Message) (i : ℕ) (e : Option ℕ) → IfSome e (λ n. (i ≤ n) × (n ≤ length sent)) → next_standing (drop i (before_end e (map text_of sent))) (is_some e) ≡ standing_for (if ends_at e i then Some the_end else option_map message (slice_get sent i))
standing_by sent i None h = plain_standing sent i
standing_by sent i (Some n) h = end_standing (nat_le n i) sent i n refl h.1

fits_so : (x y : Option ℕ) (a b l m : ℕ) → x ≡ y → a ≡ b → l ≡ m → IfSome x (λ n. (a ≤ n) × (n ≤ l)) → IfSome y (λ n. (b ≤ n) × (n ≤ m))
fits_so x y a b l m e f g h =
    subst (λ (z : Option ℕ). IfSome z (λ n. (b ≤ n) × (n ≤ m))) e (subst (λ (k : ℕ). IfSome x (λ n. (k ≤ n) × (n ≤ m))) f (subst (λ (k : ℕ). IfSome x (λ n. (a ≤ n) × (n ≤ k))) g h))

pub row_standing : (r : Row) (t : Traffic) → IsRow r t → Fits t → t.over ≡ false → r.marks.over ≡ false → standing_on t ≡ standing_for (next_on r.sent r.marks)
row_standing r t is fits taking taken =
    let taken_is : t.taken ≡ r.marks.taken = is.taken taking in
    let end_is : t.end ≡ r.marks.end = is.end taking in
    let bounds = fits_so t.end r.marks.end t.taken r.marks.taken (length t.sent) (length r.sent) end_is taken_is (ap length is.sent ∙ length-map r.sent text_of) fits.end in
    (λ j. next_standing (drop (taken_is j) (before_end (end_is j) (is.sent j))) (is_some (end_is j)))
    ∙ (standing_by r.sent r.marks.taken r.marks.end bounds
    ∙ sym (ap (λ (b : Bool). standing_for (if b then None else (if ends_at r.marks.end r.marks.taken then Some the_end else option_map message (slice_get r.sent r.marks.taken)))) taken))

pub stands_as : (x : Option Next) → stands (standing_for x) ≡ is_some x
stands_as None = refl
stands_as (Some (message m)) = refl
stands_as (Some the_end) = refl

takes_as : (w : World) (c : ℕ) (full : FullMember) (x : Option Next) → members.takes_next full.state (pending_at w c full) (standing_for x) ≡ takes_down (writes full) w c x
takes_as w c full None = refl
takes_as w c full (Some (message m)) = refl
takes_as w c full (Some the_end) = refl

takes_idle : (w : World) (c : ℕ) (x : Option Next) → is_some x ≡ takes_down idle w c x
takes_idle w c None = refl
takes_idle w c (Some x) = refl

-- TESTS

not_true : (b : Bool) → (b ≡ true → ⊥) → false ≡ b
not_true true h = absurd (h refl)
not_true false h = refl

open_due : (opened served x : Bool) → (served && opened) ≡ true → x ≡ (opened && (served && x))
open_due true true x h = refl
open_due true false x h = cc
open_due false true x h = cc
open_due false false x h = cc

true_false : (b : Bool) → b ≡ true → b ≡ false → ⊥
true_false b x y = cc

-- LOWER ENDS

module _ {I O : Type 0} (i : link_in.Ghosts I) (o : link_out.Ghosts O) where
  -- an end that has taken nothing yet is the world's
  record IsIdleOf (w : World) (net : Net) (c : ℕ) (end : Conn I O) : Type 0 where
    lower : w.lowers c ≡ idle
    events : has_events w c ≡ true
    end_is : IsEndOf i o w net c true end

module _ {F I O : Type 0} (i : link_in.Ghosts I) (o : link_out.Ghosts O) where
  -- the book of a member is its replica's
  replica_shown : (w : World) (net : Net) (c : ℕ) (n : Nodes F I O) (s : Seat) (book : BookState F) → NodesShow i o w net n → (seat : IsSeated n c s) → (k : IsMember i o w net c n seat.member s.place)
      → book_at n.nodes.items s.node.0 s.place ≡ Some book → replica_of book ≡ replica_at w c (block_of k.full.fields)
  replica_shown w net c n s book nodes seat k at_book =
      let node : s.node.0 ≡ node_of w c = ap (λ (x : NodeId). x.0) seat.node ∙ (nodes.each c seat.at seat.found).node in
      nodes.books s.node.0 s.place k.seat.block book k.seat.at_place at_book ∙
      (ap (λ (q : ℕ). w.replicas q k.seat.block.0) node ∙ ap (w.replicas (node_of w c)) k.seat.of_block)

  -- What a member's lower end says of its events.
  pub ready_tells : (n : Nodes F I O) (conn : ConnId) (s : Seat) (m : Member I O) (book : BookState F) (result : Bool) → (seat : IsSeated n conn.0 s) → m ≡ seat.member → book_at n.nodes.items s.node.0 s.place ≡ Some book
      → book.replica ≡ (replica_of book).known → result ≡ members.acts_at m.stage book.replica → TellsReady i o conn n result
  ready_tells n conn s m book result seat same at_book known told = λ w net queues nodes orderly of.
      let c : ℕ = conn.0 in
      let k = member_shown i o w net c n s nodes seat in
      let full : FullMember = k.full in
      let replica : replica_of book ≡ replica_at w c (block_of full.fields) = replica_shown w net c n s book nodes seat k at_book in
      told ∙ (ap (λ (x : Member I O). members.acts_at x.stage book.replica) same ∙ (ap (λ (st : Stage). members.acts_at st book.replica) k.seat.shows.stage_is ∙
      (ap (λ (x : ReplicaRecord). is_some (ready_turn_by full.state x)) (known ∙ ap (λ (x : FullReplica). x.known) replica) ∙
      (ap (λ (l : parts.Lower). acts_below l w c) (sym k.lower) ∙ open_due (is_open (w.lowers c)) (is_served w c) (acts_below (w.lowers c) w c) k.events))))

  pub ready_none : (n : Nodes F I O) (conn : ConnId) → IsUnseated n conn.0 → TellsReady i o conn n false
  ready_none n conn none = λ w net queues nodes orderly of.
      not_true (is_due w queues (due.Ready conn)) (λ due. seated_shown i o w net conn.0 n nodes of orderly.placed (acts_at w conn queues due).events (acts_busy w conn.0 (acts_at w conn queues due).acts) none)

  idle_shown : (w : World) (net : Net) (c : ℕ) (n : Nodes F I O) (l : parts.Lower) (end : Conn I O) → w.lowers c ≡ l → LowerShows i o w net c n l (lower.Idle end) → IsIdleOf i o w net c end
  idle_shown w net c n idle end is h = record { lower = is; events = h.0; end_is = h.1 }
  idle_shown w net c n l end is h = absurd h

  idle_by : (w : World) (net : Net) (c : ℕ) (n : Nodes F I O) (real : Lower I O) → LowerShows i o w net c n (w.lowers c) real → is_idle (Some real) ≡ true → (end : Conn I O) × IsIdleOf i o w net c end
  idle_by w net c n (lower.Idle end) h is = (end, idle_shown w net c n (w.lowers c) end refl h)
  idle_by w net c n real h is = cc

  idle_found : (w : World) (net : Net) (c : ℕ) (n : Nodes F I O) (x : Option (Connection I O)) → NodesShow i o w net n → slice_get n.connections.items c ≡ x → is_idle (option_map (λ y. y.lower) x) ≡ true → (end : Conn I O) × IsIdleOf i o w net c end
  idle_found w net c n None nodes found is = cc
  idle_found w net c n (Some at) nodes found is = idle_by w net c n at.lower (nodes.each c at found).lower_is is

  idle_lower : (w : World) (net : Net) (c : ℕ) (n : Nodes F I O) (l : parts.Lower) (real : Lower I O) → l ≡ idle → stands_here real ≡ true → has_events w c ≡ true → LowerShows i o w net c n l real → is_idle (Some real) ≡ true
  idle_lower w net c n idle (lower.Idle end) is here e h = refl
  idle_lower w net c n idle (lower.Member m place) is here e h = absurd h
  idle_lower w net c n idle lower.Ended is here e h = absurd (true_false (has_events w c) e h)
  idle_lower w net c n idle lower.Elsewhere is here e h = cc
  idle_lower w net c n l real is here e h = cc

  -- an end of the world that has taken nothing is told
  idle_needed : (w : World) (net : Net) (c : ℕ) (n : Nodes F I O) → NodesShow i o w net n → IsOfPipeline w c → has_events w c ≡ true → w.lowers c ≡ idle → is_idle (option_map (λ x. x.lower) (slice_get n.connections.items c)) ≡ true
  idle_needed w net c n nodes of events is =
      let before : c < w.next_conn = served_within w c (and-left (is_served w c) (is_open (w.lowers c)) events) in
      let at = element n.connections.items c (subst (λ (k : ℕ). c < k) (sym nodes.count) before) in
      let shows = nodes.each c at.0 at.1 in
      let told : is_idle (Some at.0.lower) ≡ true = idle_lower w net c n (w.lowers c) at.0.lower is (shows.here ∙ of before) events shows.lower_is in
      ap (λ (x : Option (Connection I O)). is_idle (option_map (λ y. y.lower) x)) at.1 ∙ told

  -- Whether a lower end is kept elsewhere.
  pub elsewhere_told : (n : Nodes F I O) (conn : ConnId) (result : Bool) → result ≡ is_elsewhere n conn.0 → TellsElsewhere i o conn n result
  elsewhere_told n conn result told = λ w net nodes within.
      let at = element n.connections.items conn.0 (subst (λ (k : ℕ). conn.0 < k) (sym nodes.count) within) in
      told ∙ (ap (λ (x : Option (Connection I O)). unwrap_or (option_map (λ y. not (stands_here y.lower)) x) false) at.1 ∙ ap not (nodes.each conn.0 at.0 at.1).here)

  pub told_idle : (n : Nodes F I O) (conn : ConnId) (result : Bool) → result ≡ is_idle (option_map (λ x. x.lower) (slice_get n.connections.items conn.0)) → TellsIdle i o conn n result
  told_idle n conn true told = λ w net queues nodes of due. (idle_found w net conn.0 n (slice_get n.connections.items conn.0) nodes refl (sym told)).1.lower
  told_idle n conn false told = λ w net queues nodes of due is. true_false (is_idle (option_map (λ x. x.lower) (slice_get n.connections.items conn.0))) (idle_needed w net conn.0 n nodes of (takes_at w conn queues due).events is) (sym told)

module _ {R I O : Type 0} (r : roads.Ghosts R I O) where
  -- What the roads tell of a direction.
  abbrev pub TellsStanding : ℕ → Bool → R → R → Standing → Type 0
  TellsStanding c down road road' s = (net : Net) → RoadsShow r net road → ShowsStanding r net c down road' s

module _ {F R I O : Type 0} (r : roads.Ghosts R I O) (i : link_in.Ghosts I) (o : link_out.Ghosts O) where
  stays : (w : World) (net : Net) (road road' : R) (n : Nodes F I O) → NodesStand r i o w net road n → RoadsShow r net road' → NodesStand r i o w net road' n
  stays w net road road' n h shows = record { roads_are = record { is_net = h.roads_are.is_net; sane = h.roads_are.sane; shows = shows }; nodes_are = h.nodes_are }

  stands_next : (w : World) (net : Net) (c : ℕ) (down : Bool) (road road' : R) (n : Nodes F I O) (s : Standing) → NodesStand r i o w net road n → TellsStanding r c down road road' s → (net.traffic c down).over ≡ false → is_over w c down ≡ false
      → s ≡ standing_for (next_on (rows_of w c down).sent (rows_of w c down).marks)
  stands_next w net c down road road' n s h tells taking taken =
      (tells net h.roads_are.shows).is taking ∙
      row_standing (rows_of w c down) (net.traffic c down) (h.roads_are.is_net.rows_are c down) (h.roads_are.sane.fits c down) taking taken

  -- DOWN

  pub idle_tells : (n : Nodes F I O) (conn : ConnId) (road road' : R) (s : Standing) (result : Bool) → is_idle (option_map (λ x. x.lower) (slice_get n.connections.items conn.0)) ≡ true → TellsStanding r conn.0 true road road' s → result ≡ stands s
      → TellsDown r i o conn n road road' result
  idle_tells n conn road road' s result is tells told = λ w net queues h orderly of.
      let c : ℕ = conn.0 in
      let z = idle_found i o w net c n (slice_get n.connections.items c) h.nodes_are refl is in
      let taken : is_over w c true ≡ false = subst (λ (l : parts.Lower). IsOpenBelow l (w.down_marks c).over) z.1.lower (orderly.open_ends.below c) in
      let next : s ≡ standing_for (next_down w c) = stands_next w net c true road road' n s h tells z.1.end_is.taking taken in (
        stays w net road road' n h (tells net h.roads_are.shows).road_shows,
        told ∙ (ap stands next ∙ (stands_as (next_down w c) ∙ (takes_idle w c (next_down w c) ∙
            (ap (λ (l : parts.Lower). takes_down l w c (next_down w c)) (sym z.1.lower) ∙ open_due (is_open (w.lowers c)) (is_served w c) (takes_down (w.lowers c) w c (next_down w c)) z.1.events)))),
      )

  pub down_none : (n : Nodes F I O) (conn : ConnId) (road road' : R) (s : Standing) → is_idle (option_map (λ x. x.lower) (slice_get n.connections.items conn.0)) ≡ false → IsUnseated n conn.0 → TellsStanding r conn.0 true road road' s
      → TellsDown r i o conn n road road' false
  down_none n conn road road' s busy none tells = λ w net queues h orderly of.
      let c : ℕ = conn.0 in (
        stays w net road road' n h (tells net h.roads_are.shows).road_shows,
        not_true (is_due w queues (due.Down conn)) (λ due. seated_shown i o w net c n h.nodes_are of orderly.placed (takes_at w conn queues due).events
            (λ is. not_idle n c (idle_at r i o w net road c n h of (takes_at w conn queues due).events is) busy) none),
      )
    where
      not_idle : (n : Nodes F I O) (c : ℕ) {w : World} {net : Net} → IdleAt r i o w net c n → is_idle (option_map (λ x. x.lower) (slice_get n.connections.items c)) ≡ false → ⊥
      not_idle n c k busy = true_false (is_idle (option_map (λ x. x.lower) (slice_get n.connections.items c))) (ap (λ (x : Option (Connection I O)). is_idle (option_map (λ y. y.lower) x)) k.found ∙ ap (λ (l : Lower I O). is_idle (Some l)) k.lower) busy

  pub down_tells : (n : Nodes F I O) (conn : ConnId) (t : Seat) (m : Member I O) (book : BookState F) (road road' : R) (s : Standing) (result : Bool) → (seat : IsSeated n conn.0 t) → m ≡ seat.member → book_at n.nodes.items t.node.0 t.place ≡ Some book
      → book.replica ≡ (replica_of book).known → TellsStanding r conn.0 true road road' s → result ≡ members.takes_at m.stage (length book.replica.pending) s → TellsDown r i o conn n road road' result
  down_tells n conn t m book road road' s result seat same at_book known tells told = λ w net queues h orderly of.
      let c : ℕ = conn.0 in
      let k = member_shown i o w net c n t h.nodes_are seat in
      let full : FullMember = k.full in
      let replica : replica_of book ≡ replica_at w c (block_of full.fields) = replica_shown i o w net c n t book h.nodes_are seat k at_book in
      let opened : (full.state.receives && full.state.responds) ≡ true = ap is_open (sym k.lower) ∙ and-right (is_served w c) (is_open (w.lowers c)) k.events in
      let taken : is_over w c true ≡ false = subst (λ (l : parts.Lower). IsOpenBelow l (w.down_marks c).over) k.lower (orderly.open_ends.below c) (and-left full.state.receives full.state.responds opened) in
      let next : s ≡ standing_for (next_down w c) = stands_next w net c true road road' n s h tells k.seat.shows.upstream.taking taken in (
        stays w net road road' n h (tells net h.roads_are.shows).road_shows,
        told ∙ (ap (λ (x : Member I O). members.takes_at x.stage (length book.replica.pending) s) same ∙ (ap (λ (st : Stage). members.takes_at st (length book.replica.pending) s) k.seat.shows.stage_is ∙
            (ap (λ (x : ReplicaRecord). members.takes_next full.state (length x.pending) s) (known ∙ ap (λ (x : FullReplica). x.known) replica) ∙
            (ap (members.takes_next full.state (pending_at w c full)) next ∙ (takes_as w c full (next_down w c) ∙
            (ap (λ (l : parts.Lower). takes_down l w c (next_down w c)) (sym k.lower) ∙ open_due (is_open (w.lowers c)) (is_served w c) (takes_down (w.lowers c) w c (next_down w c)) k.events)))))),
      )

-- UPPER ENDS

upper_as : (d : ℕ) (u : Upper) (above : ConnId) → UpperShows (by_member d) u → member_above (Some u) ≡ Some above → above.0 ≡ d
upper_as d (upper.Member conn) above h is = ap (λ (x : ConnId). x.0) (same_some above conn (sym is)) ∙ h
upper_as d u above h is = absurd h

pub hears_next : (b x y : Bool) → (b ≡ true → x ≡ y) → (b && x) ≡ (b && y)
hears_next true x y h = h refl
hears_next false x y h = refl

pub heard_so : (b x y : Bool) → b ≡ true → x ≡ y → x ≡ (b && y)
heard_so true x y h is = is
heard_so false x y h is = cc

pub unheard_so : (b y : Bool) → b ≡ false → false ≡ (b && y)
unheard_so true y h = cc
unheard_so false y h = refl

up_due : (opened within x alive heard : Bool) → opened ≡ true → within ≡ true → alive ≡ true → (heard && x) ≡ (opened && ((within && x) && (alive && heard)))
up_due true true true true true p q s = refl
up_due true true true true false p q s = refl
up_due true true false true true p q s = refl
up_due true true false true false p q s = refl
up_due false within x alive heard p q s = cc
up_due true false x alive heard p q s = cc
up_due true true x false heard p q s = cc

test_so : (a b : ℕ) → a < b → nat_lt a b ≡ true
test_so a b h = grind (arith, nat_tests, h)

module _ {F I O : Type 0} (i : link_in.Ghosts I) (o : link_out.Ghosts O) where
  upper_of : (w : World) (net : Net) (c : ℕ) (n : Nodes F I O) (x : Option (Connection I O)) (above : ConnId) (d : ℕ) → NodesShow i o w net n → slice_get n.connections.items c ≡ x → member_above (option_map (λ y. y.upper) x) ≡ Some above → (w.dialled c).upper ≡ by_member d
      → (above.0 ≡ d) × (c < w.next_conn)
  upper_of w net c n None above d nodes found is upper = cc
  upper_of w net c n (Some at) above d nodes found is upper = (
    upper_as d at.upper above (subst (λ (u : parts.Upper). UpperShows u at.upper) upper (nodes.each c at found).upper_is) is,
    subst (λ (k : ℕ). c < k) nodes.count (element_within n.connections.items c at found),
  )

module _ {I O : Type 0} (i : link_in.Ghosts I) (o : link_out.Ghosts O) where
  mirror_taking : (w : World) (net : Net) (c : ℕ) (mirror : Option ℕ) (e : Option (Conn I O)) → mirror ≡ Some c → MirrorShows i o w net mirror e → (net.traffic c false).over ≡ false
  mirror_taking w net c None e is h = cc
  mirror_taking w net c (Some d) None is h = absurd h
  mirror_taking w net c (Some d) (Some e) is h = subst (λ (q : ℕ). (net.traffic q false).over ≡ false) (same_some d c is) h.taking

module _ {F R I O : Type 0} (r : roads.Ghosts R I O) (i : link_in.Ghosts I) (o : link_out.Ghosts O) where
  pub up_alone : (n : Nodes F I O) (conn : ConnId) (road road' : R) (s : Standing) → member_above (option_map (λ x. x.upper) (slice_get n.connections.items conn.0)) ≡ None → TellsStanding r conn.0 false road road' s → TellsUp r i o conn n road road' false
  up_alone n conn road road' s none tells = λ w net queues d h orderly upper. (
    stays r i o w net road road' n h (tells net h.roads_are.shows).road_shows,
    not_true (is_due w queues (due.Up conn)) (λ due. above_needed r i o w net road conn d n h queues upper due none),
  )

  pub up_none : (n : Nodes F I O) (conn above : ConnId) (road road' : R) (s : Standing) → member_above (option_map (λ x. x.upper) (slice_get n.connections.items conn.0)) ≡ Some above → IsUnseated n above.0 → TellsStanding r conn.0 false road road' s
      → TellsUp r i o conn n road road' false
  up_none n conn above road road' s is none tells = λ w net queues d h orderly upper. (
    stays r i o w net road road' n h (tells net h.roads_are.shows).road_shows,
    not_true (is_due w queues (due.Up conn)) (λ due. above_seated r i o w net road conn d above n h orderly.ordered orderly.placed queues upper due is none),
  )

  pub up_tells : (n : Nodes F I O) (conn above : ConnId) (t : Seat) (m : Member I O) (road road' : R) (s : Standing) (result : Bool) → member_above (option_map (λ x. x.upper) (slice_get n.connections.items conn.0)) ≡ Some above
      → (seat : IsSeated n above.0 t) → m ≡ seat.member → TellsStanding r conn.0 false road road' s → result ≡ (members.hears_at m.stage && stands s) → TellsUp r i o conn n road road' result
  up_tells n conn above t m road road' s result is seat same tells told = λ w net queues d h orderly upper.
      let c : ℕ = conn.0 in
      let a : ℕ = above.0 in
      let u = upper_of i o w net c n (slice_get n.connections.items c) above d h.nodes_are refl is upper in
      let upper_is : (w.dialled c).upper ≡ by_member a = upper ∙ ap by_member (sym u.0) in
      let k = member_shown i o w net a n t h.nodes_are seat in
      let full : FullMember = k.full in
      let served : is_served w a ≡ true = and-left (is_served w a) (is_open (w.lowers a)) k.events in
      let opened : is_open (w.lowers a) ≡ true = and-right (is_served w a) (is_open (w.lowers a)) k.events in
      let alive : is_alive w (w.dialled a).to ≡ true = and-right (nat_lt a w.next_conn) (is_alive w (w.dialled a).to) served in
      let heard : (hears full.state && stands s) ≡ (hears full.state && is_some (next_up w c)) = hears_next (hears full.state) (stands s) (is_some (next_up w c))
      (λ hearing.
      let mirror_is : full.mirror ≡ Some c = mirror_of_upper w c a full orderly.ordered u.1 upper_is k.lower in
      ap stands (stands_next r i o w net c false road road' n s h tells (mirror_taking i o w net c full.mirror seat.member.mirror mirror_is k.seat.shows.mirror) (orderly.open_ends.mirrors a c full k.lower mirror_is hearing))
      ∙ stands_as (next_up w c)) in (
        stays r i o w net road road' n h (tells net h.roads_are.shows).road_shows,
        told ∙ (ap (λ (x : Member I O). members.hears_at x.stage && stands s) same ∙ (ap (λ (st : Stage). members.hears_at st && stands s) k.seat.shows.stage_is ∙ (heard ∙
            (up_due (is_open (w.lowers a)) (nat_lt c w.next_conn) (is_some (next_up w c)) (is_alive w (w.dialled a).to) (hears full.state) opened (test_so c w.next_conn u.1) alive ∙
            (ap (λ (l : parts.Lower). is_open (w.lowers a) && ((nat_lt c w.next_conn && is_some (next_up w c)) && hears_mirror l w a)) (sym k.lower) ∙
            ap (λ (x : parts.Upper). is_open_above w x && ((nat_lt c w.next_conn && is_some (next_up w c)) && takes_above x w c)) (sym upper_is)))))),
      )
