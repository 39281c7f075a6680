-- The office has granted that a primary begins: the INIT was sent, the ends are exchanged, and the lower ones taken.
use Rattle.std.proofs.Common.{◌≡◌, ℕ, ◌≤◌, Bool, true, false, List, [], ◌∷◌, ◌++◌, length, slice_get, Option, Some, None, Result, Ok, Err, ◌⊎◌, inl, inr, refl, sym, ap, ◌∙◌, subst, arith}
use Rattle.std.specs.Prelude.{◌+◌, ◌==◌, ◌&&◌, if◌then◌else◌, is_some, map, nat_le}
use Rattle.std.proofs.lemmas.List.{length-map}
use Rattle.hd_base.specs.Faults.{FaultsIncreased}
use Rattle.hd_base.specs.declared.ends.Conn.{Conn}
use Rattle.hd_base.specs.declared.links.LinkIn as link_in
use Rattle.hd_base.specs.declared.links.LinkOut as link_out
use Rattle.hd_base.specs.declared.numbers.BlockId.{BlockId}
use Rattle.hd_base.specs.declared.numbers.NodeId.{NodeId}
use Rattle.hd_base.specs.declared.roads.Roads as roads
use Rattle.hd_base.specs.declared.roads.TheConstants.{FIRST_PORT}
use Rattle.block_recovery.specs.declared.links.Seat.{Seat}
use Rattle.block_recovery.specs.declared.links.Seat.TheVariants as seat
use Rattle.block_recovery.specs.declared.primary.Primary as running
use Rattle.block_recovery.specs.declared.primary.PrimaryStep.{PrimaryStep}
use Rattle.block_recovery.specs.Actions.{Passes, SendsIf}
use Rattle.block_recovery.specs.Beginning.{ports_of}
use Rattle.block_recovery.specs.Dialling.{is_open}
use Rattle.block_recovery.specs.Requests.{SendsRequest}
use Rattle.name_core.specs.declared.calls.Begun.{Begun}
use Rattle.name_core.specs.declared.calls.OfficeAnswer.TheVariants as answer
use Rattle.name_core.specs.declared.desks.Desk as desks
use Rattle.op_headers.specs.declared.ops.Op.TheVariants as op
use Rattle.op_headers.specs.declared.ops.RecoveryKind.TheVariants as kind
use Rattle.op_headers.specs.Requests.{IsEncodable}
use Rattle.recovery_core.specs.Primaries.{PrimaryState, begun_with, request_of}
use Rattle.road_traffic.specs.Traffic.{no_traffic}
use Rattle.road_traffic.specs.Showing.{Net, IsSane}
use Rattle.road_traffic.proofs.TrafficLemmas.{same-itself}
use Rattle.world.specs.declared.events.Caller.TheVariants as caller
use Rattle.world.specs.declared.events.Event.TheVariants as event
use Rattle.world.specs.declared.events.OwnStep.TheVariants as own_event
use Rattle.world.specs.Parts.{Message, Place, Told, leads}
use Rattle.world.specs.Worlds.{World, Change, apply}
use Rattle.world.specs.Connections.{is_alive, place_of}
use Rattle.world.specs.Events.{outcome, happens}
use Rattle.world.specs.Primaries.{begins_as, begins_with, dials_answered, leading, numbered, recovery_message}
use Rattle.world_primaries.specs.WorldNets.Nets.{IsNetOf, IsEndOf}
use Rattle.world_primaries.specs.WorldNets.Rows.{Row, text_of}
use Rattle.world_primaries.proofs.WorldNets.EndLemmas.{same-end}
use Rattle.world_primaries.specs.Drawn.{PrimariesAsk, PrimariesBegin}
use Rattle.client_events.specs.MemberEvents.Roads.{RoadsPass}
use Rattle.client_events.proofs.MemberEvents.SetupKnown.{pass_on}
use Rattle.client_events.proofs.MemberEvents.StepLaws.{last_of}
use Rattle.client_events.proofs.MemberEvents.WorldLaws.{happened}
use Rattle.primary_events.specs.declared.beginning.PrimaryBegun.{PrimaryBegun}
use Rattle.primary_events.specs.declared.beginning.PrimaryBegun.TheVariants as beginning
use Rattle.primary_events.specs.declared.faults.PrimaryFault.{PrimaryFault}
use Rattle.primary_events.specs.declared.faults.PrimaryFault.TheVariants as fault
use Rattle.primary_events.specs.Beginning.{Lowers, TakesLower, AcceptFails, AcceptsFew, Meets, MeetsBehind, CanBegin, begun_world, SpellsBegun, LeadsBegun, IsUnreached, HasBegun, NewHasRisen, BeginEnds}
use Rattle.primary_events.specs.Updating.{HasRisen, ExchangesWhole, Flushes}
use Rattle.primary_events.proofs.AcceptLaws.{Accepting, all_accepted, accept_rose}
use Rattle.primary_events.proofs.BeginLaws.{opens_are, answers_are, conn_at, retired_risen, AllFlushed, all_flushed}
use Rattle.primary_events.proofs.BeginPassLaws.{lowers_pass}
use Rattle.primary_events.proofs.BegunLaws.{ports_are, lowers_say, lower_none, leads_begun}
use Rattle.primary_events.proofs.DialLaws.{IsSilent, Dialling, rises_on}
use Rattle.primary_events.proofs.HearLaws.{primary_put}
use Rattle.primary_events.proofs.NumberLemmas.{answered_alike, row_new, queue}
use Rattle.primary_events.proofs.PassLaws.{exchanges_pass}
use Rattle.primary_events.proofs.RefusalLaws.{told, shown, begins_so}
use Rattle.primary_events.proofs.SendLaws.{AllSent, all_sent}
use Rattle.primary_events.proofs.UpdateLemmas.{init_encodable}

both_so : (a b : Bool) → a ≡ true → b ≡ true → (a && b) ≡ true
both_so a b h k = rw (h, k) refl

rises_from : (a b c n : ℕ) → a ≤ b → b ≤ c → FaultsIncreased c n → FaultsIncreased a n
rises_from a b c n h k q = omega arith

module _ {D R I O : Type 0} (d : desks.Ghosts D) (r : roads.Ghosts R I O) (i : link_in.Ghosts I) (o : link_out.Ghosts O) (asks : PrimariesAsk) (begins : PrimariesBegin)
    (w : World) (net : Net) (number : ℕ) (node : NodeId) (block : BlockId) (members : List NodeId) (can : CanBegin w number node members)
    (begun : Begun) (told_is : told d r i o asks begins w net number node block members can ≡ Ok (answer.Begun begun)) (is_net : IsNetOf w net) (sane : IsSane net)
    (seats : List (Seat I O)) (passed : R) {base : ℕ} (g : Dialling r i o net members (length members) base (length members) (record { links = seats; road = passed })) where
  abbrev P : Type 0
  P = running.Primary I O

  -- the world in which the office has answered
  abbrev u : World
  u = happens w (event.Office (caller.Primary number block))

  abbrev answers : List Bool
  answers = map is_some g.ports

  abbrev conns : List (Option ℕ)
  conns = numbered u.next_conn answers

  abbrev place : Place
  place = place_of u node.0

  abbrev p : PrimaryState
  p = begun_with block begun members answers

  abbrev first : Message
  first = recovery_message (begun_with block begun members answers)

  abbrev k : Change
  k = begins_with u number place block begun members answers

  u_net : IsNetOf u net
  u_net = (shown d r i o asks begins w net number node block members can).nets net is_net

  fresh : (c : ℕ) (b : Bool) → net.conns ≤ c → net.traffic c b ≡ no_traffic
  fresh c b past = sane.fresh c b past

  -- THE WORLD

  -- where the same dials are answered
  out : (bs : List Bool) → dials_answered u members bs ≡ map is_some g.ports → outcome u (event.Own (own_event.Recover number node block members bs)) ≡ Some (apply u k)
  out bs are = begins_so d r i o asks begins w net number node block members can bs k
      (ap (λ (t : Told). begins_as t u number place block members bs) told_is
      ∙ ap (λ (xs : List Bool). Some (begins_with u number place block begun members xs)) are)

  same_dials : dials_answered u members (map is_some g.ports) ≡ map is_some g.ports
  same_dials = answers_are r i o u net u_net fresh block begun members seats passed (length members) refl g

  runs : (n : ℕ) → u.running n ≡ w.running n
  runs n = sym (u_net.listens n) ∙ is_net.listens n

  place_alive : is_alive u place ≡ true
  place_alive = both_so (u.running node.0) (u.lives node.0 == u.lives node.0) (runs node.0 ∙ can.runs) (same-itself (u.lives node.0))

  -- The dials that were answered are those whose connections there are.
  pub begun_so : (core : PrimaryState) → core ≡ begun_with block begun members (map is_open seats) → core ≡ begun_with block begun members (map is_some g.ports)
  begun_so core is = is ∙ ap (begun_with block begun members) (opens_are r i o u net u_net fresh block begun members seats passed (length members) refl g)

  same_size : length answers ≡ length members
  same_size = length-map g.ports is_some ∙ g.size

  module _ (spelled : SpellsBegun (begun_world w number node block members answers) number) where
    abbrev v : World
    v = begun_world w number node block members answers

    now : v ≡ record (apply u k) { last = Some (event.Own (own_event.Recover number node block members answers)) }
    now = happened u (apply u k) (event.Own (own_event.Recover number node block members answers)) (out answers same_dials)

    leads_so : v.primaries number ≡ leads (leading place p conns)
    leads_so = ap (λ (x : World). x.primaries number) now ∙ primary_put u k

    -- A connection was sent the INIT, which is spelled.
    spelled_init : (j c : ℕ) → slice_get conns j ≡ Some (Some c) → IsEncodable (op.Recovery (request_of p kind.Init 0))
    spelled_init j c at =
        let sent : v.downs c ≡ u.downs c ++ first ∷ [] =
        ap (λ (x : World). x.downs c) now
        ∙ ap (λ (row : Row). row.sent) (row_new u number place block begun members answers same_size j c true at) in
        init_encodable p (spelled (leading place p conns) leads_so j c at (length (u.downs c)) first (ap (λ (ms : List Message). slice_get ms (length (u.downs c))) sent ∙ last_of (u.downs c) first))

    -- THE INIT

    unsent_by : (j : ℕ) (due : Bool) (x : Seat I O) → slice_get seats j ≡ Some x → (IsEncodable (op.Recovery (request_of p kind.Init 0)) → ⊥) → SendsIf o (text_of first) due x x (Ok tt)
    unsent_by j false x at none = (refl, refl)
    unsent_by j true seat.Empty at none = (refl, refl)
    unsent_by j true seat.Lost at none = (refl, refl)
    unsent_by j true (seat.Open y) at none =
        let c = conn_at r i o u net u_net fresh block begun members seats passed (length members) refl g j y at in
        absurd (none (spelled_init j c.0 c.1))

    init_by : (held : List (Seat I O)) → SendsRequest o (op.Recovery (request_of p kind.Init 0)) members members seats held (Ok tt) → AllSent o (text_of first) members members seats held
    init_by held (inl x) = all_sent o (text_of first) members members seats held x
    init_by held (inr x) = record {
      each = λ j y at. (y, (ap (λ (xs : List (Seat I O)). slice_get xs j) x.1 ∙ at, unsent_by j _ y at x.0));
      none = λ j at. ap (λ (xs : List (Seat I O)). slice_get xs j) x.1 ∙ at;
    }

    -- The INIT was sent to all that answered.
    pub init_sent : (core : PrimaryState) (held : List (Seat I O)) → core ≡ p → SendsRequest o (op.Recovery (request_of core kind.Init 0)) members members seats held (Ok tt) → AllSent o (text_of first) members members seats held
    init_sent core held is x = init_by held (subst (λ (q : PrimaryState). SendsRequest o (op.Recovery (request_of q kind.Init 0)) members members seats held (Ok tt)) is x)

  -- HOW IT ENDS

  module _ (middle new : P) (sent : AllSent o (text_of (recovery_message (begun_with block begun members (map is_some g.ports)))) members members seats middle.links.items) (core : middle.core ≡ Some (begun_with block begun members (map is_some g.ports)))
      (road road' : R) (from : base ≡ r.faults road) (pass : RoadsPass r road passed) (block_is : new.block ≡ block) (members_are : new.members ≡ members) (count : length new.links.items ≡ length members) (office : D) (at : d.office office ≡ Some (happens w (event.Office (caller.Primary number block))).office) where
    abbrev Ends : Result (PrimaryBegun I O) PrimaryFault → Type 0
    Ends result = BeginEnds d r i o w net number node members (begun_world w number node block members) new office road road' result

    module _ (later : R) (x : ExchangesWhole r i o [] middle new passed later) where
      done : AllFlushed r i o u net u_net fresh block begun members seats passed (length members) refl g middle.links.items sent new.links.items later
      done = all_flushed r i o u net u_net fresh block begun members seats passed (length members) refl g middle.links.items sent middle new [] later refl x

      none_there : (y : Option (Conn I O)) → ◌≡◌ {A = Option (Option (Conn I O))} None (Some y) → ⊥
      none_there y h = cc

      none_taken : Accepting r i o done.state.made u.next_conn g.ports 0 (record { lowers = []; road = later })
      none_taken = record {
        made = done.state.made;
        roads_at = done.state.roads_at;
        conns_are = refl;
        listens_are = refl;
        traffic_are = refl;
        waiting_are = λ port. ap (λ t. t port) done.state.waiting_are ∙ (g.waiting_are port ∙ ap (λ (n : ℕ). queue port n g.ports) u_net.conns);
        size = refl;
        ends = λ j y h. absurd (none_there y h);
      }

      at_ports : ports_of new.members new.links.items ≡ g.ports
      at_ports = ap (λ (ms : List NodeId). ports_of ms new.links.items) members_are ∙ ports_are d r i o u net u_net fresh block begun members seats passed (length members) refl g middle.links.items sent new.links.items later count done

      taken_so : (ports : List (Option ℕ)) → ports ≡ g.ports → (n : ℕ) (held : Lowers R I O) → Passes (TakesLower r i o ports) n (record { lowers = []; road = later }) held → Accepting r i o done.state.made u.next_conn g.ports n held
      taken_so ports is n held q = all_accepted r i o done.state.made u.next_conn g.ports n (record { lowers = []; road = later }) held
          (subst (λ (ps : List (Option ℕ)). Passes (TakesLower r i o ps) n (record { lowers = []; road = later }) held) is q) none_taken

      core_is : new.core ≡ Some (begun_with block begun members (map is_some g.ports))
      core_is = x.core ∙ core

      all_taken : (lowers : List (Option (Conn I O))) → Accepting r i o done.state.made u.next_conn g.ports (length g.ports) (record { lowers = lowers; road = road' }) → r.faults passed ≤ r.faults road'
          → HasBegun d r i o w net number node members (begun_world w number node block members) lowers new office road road'
      all_taken lowers acc falls = record {
        answered = subst (λ (bs : List Bool). dials_answered w members bs ≡ bs) (sym says) (answers_are r i o w net is_net fresh block begun members seats passed (length members) refl g);
        unanswered = λ j member member_is none. unreached member (g.silent j member member_is (bare j none));
        leads_so = λ bs are. leads bs (answered_alike w u runs members bs ∙ (are ∙ says));
      }
        where
          says : map is_some lowers ≡ map is_some g.ports
          says = lowers_say d r i o u net u_net fresh block begun members seats passed (length members) refl g middle.links.items sent new.links.items later count done number place (event.Own (own_event.Recover number node block members answers)) (out answers same_dials) lowers road' acc

          bare : (j : ℕ) → slice_get lowers j ≡ Some None → slice_get g.ports j ≡ Some None
          bare = lower_none d r i o u net u_net fresh block begun members seats passed (length members) refl g middle.links.items sent new.links.items later count done number place (event.Own (own_event.Recover number node block members answers)) (out answers same_dials) lowers road' acc

          has_risen : (n : ℕ) → FaultsIncreased base n → n ≤ r.faults road' → FaultsIncreased (r.faults road) (r.faults road')
          has_risen n rose less = subst (λ (m : ℕ). FaultsIncreased m (r.faults road')) from (rises_on base n (r.faults road') rose less)

          unreached : (member : NodeId) → IsSilent r i o net members (length members) base member passed → IsUnreached r w member road road'
          unreached member silent = by (nat_le (FIRST_PORT + member.0) 65535) refl
            where
              by_cause : (net.listens (FIRST_PORT + member.0) ≡ false) ⊎ FaultsIncreased base (r.faults passed) → IsUnreached r w member road road'
              by_cause (inl quiet) = inr (inl (sym (is_net.listens member.0) ∙ quiet))
              by_cause (inr rose) = inr (inr (has_risen (r.faults passed) rose falls))

              by : (b : Bool) → nat_le (FIRST_PORT + member.0) 65535 ≡ b → IsUnreached r w member road road'
              by true is = by_cause (silent (FIRST_PORT + member.0) (ap (λ (b : Bool). if b then Some (FIRST_PORT + member.0) else None) is))
              by false is = inl (ap (λ (b : Bool). if b then Some (FIRST_PORT + member.0) else None) is)

          shown_on : (n : ℕ) (b : Bool) (y : Conn I O) → IsEndOf i o w net n b y → IsEndOf i o u net n b y
          shown_on n b y is = same-end r i o w u net n b y ((shown d r i o asks begins w net number node block members can).over n b) is

          leads : (bs : List Bool) → dials_answered u members bs ≡ map is_some g.ports → LeadsBegun d r i o w net (begun_world w number node block members bs) number node lowers new office road'
          leads bs are =
              leads_begun d r i o u net u_net fresh block begun members seats passed (length members) refl g middle.links.items sent new.links.items later count done number place (event.Own (own_event.Recover number node block members bs)) (out bs are) lowers road' acc w net shown_on new office at
              core_is block_is members_are refl node refl place_alive (sym u_net.conns ∙ is_net.conns)

      -- the roads' count never falls while dials are accepted
      falls_to : (ports : List (Option ℕ)) (n : ℕ) (held : Lowers R I O) → Passes (TakesLower r i o ports) n (record { lowers = []; road = later }) held → r.faults passed ≤ r.faults held.road
      falls_to ports n held q = (pass_on r i o passed later held.road (exchanges_pass r i o middle.links.items new.links.items passed later (Ok tt) x.exchanges) (lowers_pass r i o ports n (record { lowers = []; road = later }) held q)).never_falls

      few_taken : (ports : List (Option ℕ)) → ports ≡ g.ports → (why : PrimaryFault) → AcceptsFew r i o ports later road' why → Ends (Err why)
      few_taken ports is why f = by (accept_rose r i o done.state.made u.next_conn g.ports f.count f.middle road' why (taken_so ports is f.count f.middle f.passes) (slice_get g.ports f.count) refl (subst (λ (ps : List (Option ℕ)). AcceptFails r (slice_get ps f.count) f.middle.road road' why) is f.fails))
        where
          falls : r.faults passed ≤ r.faults f.middle.road
          falls = falls_to ports f.count f.middle f.passes

          by : (why ≡ fault.Memory) ⊎ ((why ≡ fault.RoadsFailed) × FaultsIncreased (r.faults f.middle.road) (r.faults road')) → Ends (Err why)
          by (inl m) = subst (λ (z : PrimaryFault). Ends (Err z)) (sym m) tt
          by (inr h) = subst (λ (z : PrimaryFault). Ends (Err z)) (sym h.0) (rises_from (r.faults road) (r.faults passed) (r.faults f.middle.road) (r.faults road') pass.never_falls falls h.1)

      met_so : (result : Result (PrimaryBegun I O) PrimaryFault) → Meets r i o new later road' result → Ends result
      met_so (Ok (beginning.Leads lowers)) m =
          all_taken lowers.items (subst (λ (n : ℕ). Accepting r i o done.state.made u.next_conn g.ports n (record { lowers = lowers.items; road = road' })) (ap (λ (ps : List (Option ℕ)). length ps) at_ports)
          (taken_so (ports_of new.members new.links.items) at_ports (length (ports_of new.members new.links.items)) (record { lowers = lowers.items; road = road' }) m))
          (falls_to (ports_of new.members new.links.items) (length (ports_of new.members new.links.items)) (record { lowers = lowers.items; road = road' }) m)
      met_so (Ok (beginning.Ended end)) m = absurd m
      met_so (Err why) (inl is) = subst (λ (z : PrimaryFault). Ends (Err z)) (sym is) tt
      met_so (Err why) (inr f) = few_taken (ports_of new.members new.links.items) at_ports why f

    -- A link failed on which the INIT was sent.
    failed_so : (later : R) → HasRisen r (numbered (happens w (event.Office (caller.Primary number block))).next_conn (map is_some g.ports)) later → road' ≡ later → NewHasRisen r w.next_conn road'
    failed_so later h is = record {
      answers = answers;
      risen = subst (λ (n : ℕ). HasRisen r (numbered n answers) road') (sym u_net.conns ∙ is_net.conns) (subst (λ (z : R). HasRisen r (numbered u.next_conn answers) z) (sym is) h);
    }

    none_risen : ◌≡◌ {A = Bool} false true → ⊥
    none_risen h = cc

    -- The ends were exchanged, or weren't, and the dials accepted.
    pub went_out : (next : P) (later : R) (flushed : Result PrimaryStep PrimaryFault) → Flushes r i o [] middle next passed later flushed → (result : Result (PrimaryBegun I O) PrimaryFault) → MeetsBehind r i o flushed next new later road' result → Ends result
    went_out next later (Ok s) x result m = met_so later (subst (λ (n : P). ExchangesWhole r i o [] middle n passed later) (sym m.0) x.1) result m.1
    went_out next later (Err fault.LinkFailed) (inl x) result m =
        subst (λ (z : Result (PrimaryBegun I O) PrimaryFault). Ends z) (sym m.is) (failed_so later (retired_risen r i o u net u_net fresh block begun members seats passed (length members) refl g middle.links.items sent middle next passed later refl x) m.roads_same)
    went_out next later (Err fault.LinkFailed) (inr any) result m = absurd (none_risen any)
    went_out next later (Err fault.RoadsFailed) x result m =
        subst (λ (z : Result (PrimaryBegun I O) PrimaryFault). Ends z) (sym m.is) (rises_from (r.faults road) (r.faults passed) (r.faults passed) (r.faults road') pass.never_falls same_falls (subst (λ (z : R). FaultsIncreased (r.faults passed) (r.faults z)) (sym m.roads_same) x))
      where
        same_falls : r.faults passed ≤ r.faults passed
        same_falls = omega arith
    went_out next later (Err fault.Memory) x result m = subst (λ (z : Result (PrimaryBegun I O) PrimaryFault). Ends z) (sym m.is) tt
