-- A primary's own step, and the world after it.
use Rattle.std.proofs.Common.{◌≡◌, ℕ, Bool, true, false, if◌then◌else◌, List, [], ◌∷◌, slice_get, Option, Some, None, Result, Ok, Err, ◌⊎◌, inl, inr, refl, sym, ap, ◌∙◌, subst}
use Rattle.std.specs.Prelude.{◌≤◌, length, map, option_map}
use Rattle.std.specs.declared.alloc.AllocError.{AllocError}
use Rattle.std.specs.List.{list_any}
use Rattle.hd_base.specs.Results.{Gives}
use Rattle.hd_base.specs.declared.ends.Conn.{Conn}
use Rattle.hd_base.specs.declared.links.LinkIn as link_in
use Rattle.hd_base.specs.declared.links.LinkOut as link_out
use Rattle.hd_base.specs.declared.numbers.ConnId.{ConnId}
use Rattle.hd_base.specs.declared.numbers.NodeId.{NodeId}
use Rattle.hd_base.specs.declared.roads.Roads as roads
use Rattle.block_recovery.specs.declared.links.Seat.{Seat}
use Rattle.block_recovery.specs.declared.primary.Primary as running
use Rattle.block_recovery.specs.declared.primary.PrimaryStep.{PrimaryStep}
use Rattle.block_recovery.specs.declared.primary.PrimaryStep.TheVariants as step
use Rattle.block_recovery.specs.Actions.{SettlesAll}
use Rattle.block_recovery.specs.Dialling.{is_lost, conn_of}
use Rattle.block_recovery.specs.Requests.{SendsRequest}
use Rattle.block_recovery.specs.Steps.{EndsSo, Updates, UpdatesEnd, Commits, IsIdle, OwnsBy, OwnsAs, LeadsOn}
use Rattle.name_core.specs.declared.calls.OfficeCall.{OfficeCall}
use Rattle.name_core.specs.declared.calls.OfficeCall.TheVariants as call
use Rattle.name_core.specs.declared.choice.ChooseFault.{ChooseFault}
use Rattle.name_core.specs.declared.choice.Chosen.{Chosen}
use Rattle.name_core.specs.declared.desks.Desk as desks
use Rattle.name_core.specs.declared.faults.OfficeFault.TheVariants as office_fault
use Rattle.name_core.specs.Choice.{choice}
use Rattle.name_core.specs.Desks.{AnswersAsOffice, office_after_answer}
use Rattle.name_core.specs.Offices.{OfficeState, office_after, answer_to}
use Rattle.op_headers.specs.declared.ops.Op.TheVariants as op
use Rattle.op_headers.specs.declared.ops.RecoveryKind.TheVariants as kind
use Rattle.op_headers.specs.declared.ops.RecoveryOp.{RecoveryOp}
use Rattle.recovery_core.specs.declared.primary.OwnStep.{OwnStep}
use Rattle.recovery_core.specs.declared.primary.OwnStep.TheVariants as own
use Rattle.recovery_core.specs.declared.primary.Phase.{Phase}
use Rattle.recovery_core.specs.declared.primary.Phase.TheVariants as phase
use Rattle.recovery_core.specs.declared.primary.Recovered.{Recovered}
use Rattle.recovery_core.specs.declared.primary.Recovered.TheVariants as recovered
use Rattle.recovery_core.specs.Primaries.{PrimaryState, taken, choosing, committing, own_at, own_step, waits, infos, updated_members, request_of, sync_call, end_with}
use Rattle.road_traffic.specs.Showing.{Net}
use Rattle.world.specs.declared.events.Caller.TheVariants as caller
use Rattle.world.specs.declared.events.Event.{Event}
use Rattle.world.specs.declared.events.Event.TheVariants as event
use Rattle.world.specs.declared.events.OwnStep.TheVariants as own_event
use Rattle.world.specs.Parts.{Told, Leading, leads}
use Rattle.world.specs.Worlds.{World, Change, apply}
use Rattle.world.specs.Events.{outcome, happens}
use Rattle.world.specs.Primaries.{ends_change, updates_change}
use Rattle.world_primaries.proofs.WorldNets.EndLemmas.{same-end}
use Rattle.world_primaries.specs.WorldNets.Nets.{IsEndOf}
use Rattle.world_primaries.specs.Drawn.{Leads, PrimariesAsk, PrimariesStep, commit_asked}
use Rattle.world_primaries.specs.Links.{PrimariesSend}
use Rattle.client_events.specs.MemberEvents.Showing.{ShowsWorld}
use Rattle.client_events.proofs.MemberEvents.WorldLaws.{happened}
use Rattle.client_events.specs.Showing.{StayShown}
use Rattle.client_events.proofs.CompleteLaws.{stays_shown}
use Rattle.primary_events.specs.declared.faults.PrimaryFault.{PrimaryFault}
use Rattle.primary_events.specs.declared.faults.PrimaryFault.TheVariants as fault
use Rattle.primary_events.specs.Leading.{led_as, IsUpdate, SendsUpdate, IsWanting, LeadsBy, LeadWaits, CanLead, SpellConns, stepped, committed, RecoveryEnded, LeadEnds, LeadUpdates, LeadShows}
use Rattle.primary_events.specs.Updating.{IsDone, Follows}
use Rattle.primary_events.specs.Showing.{IsShut, PlaceShows, PrimaryStands}
use Rattle.primary_events.proofs.GivingUpLaws.{true_false, AllShut, gives_all}
use Rattle.primary_events.proofs.HearLaws.{alive_after, place_stays, primary_put}
use Rattle.primary_events.proofs.OfficeLaws.{HasAnswered, answered_or}
use Rattle.primary_events.proofs.PassLaws.{lead_passes}
use Rattle.primary_events.proofs.ShutLemmas.{apply_stays}
use Rattle.primary_events.proofs.UpdateLaws.{office_after_event, request_sent, same_request, moved_ends}

-- ITS OWN STEP

-- The step leaves the block and what the office has begun.
record KeepsBegun (p q : PrimaryState) : Type 0 where
  block : q.block ≡ p.block
  begun : q.begun ≡ p.begun

by_choice : (p : PrimaryState) (z : Result Chosen ChooseFault) → KeepsBegun p (choosing p z).primary
by_choice p (Ok c) = record { block = refl; begun = refl }
by_choice p (Err e) = record { block = refl; begun = refl }

by_updated : (p : PrimaryState) (n : ℕ) (nodes : List NodeId) → KeepsBegun p (committing p n nodes).primary
by_updated p n [] = record { block = refl; begun = refl }
by_updated p n (x ∷ xs) = record { block = refl; begun = refl }

by_phase : (p : PrimaryState) (f : Phase) → KeepsBegun p (own_at f p).primary
by_phase p phase.Informing = by_choice p (choice p.begun.committed (infos p.members p.standings))
by_phase p (phase.Updating n) = by_updated p n (updated_members p.members p.standings)
by_phase p phase.Over = record { block = refl; begun = refl }

keeps_begun : (p : PrimaryState) → KeepsBegun p (own_step p).primary
keeps_begun p = by (waits p.standings) where
  by : (b : Bool) → KeepsBegun p (if b then taken p own.Waits else own_at p.phase p).primary
  by true = record { block = refl; begun = refl }
  by false = by_phase p p.phase

choice_waits : (p : PrimaryState) (z : Result Chosen ChooseFault) → (choosing p z).does ≡ own.Waits → (choosing p z).primary ≡ p
choice_waits p (Ok c) h = cc
choice_waits p (Err e) h = cc

updated_waits : (p : PrimaryState) (n : ℕ) (nodes : List NodeId) → (committing p n nodes).does ≡ own.Waits → (committing p n nodes).primary ≡ p
updated_waits p n [] h = cc
updated_waits p n (x ∷ xs) h = cc

phase_waits : (p : PrimaryState) (f : Phase) → (own_at f p).does ≡ own.Waits → (own_at f p).primary ≡ p
phase_waits p phase.Informing h = choice_waits p (choice p.begun.committed (infos p.members p.standings)) h
phase_waits p (phase.Updating n) h = updated_waits p n (updated_members p.members p.standings) h
phase_waits p phase.Over h = refl

-- a primary that waits stays
waits_same : (p : PrimaryState) → (own_step p).does ≡ own.Waits → (own_step p).primary ≡ p
waits_same p = by (waits p.standings) where
  by : (b : Bool) → (if b then taken p own.Waits else own_at p.phase p).does ≡ own.Waits → (if b then taken p own.Waits else own_at p.phase p).primary ≡ p
  by true h = refl
  by false h = phase_waits p p.phase h

same_call : (p q : PrimaryState) (c : Chosen) → KeepsBegun p q → sync_call q c ≡ sync_call p c
same_call p q c k = λ j. call.CommitSync (k.block j) (k.begun j).id c.length c.members

same_end_with : (p q : PrimaryState) (c : Chosen) (said : Told) → KeepsBegun p q → end_with q c said ≡ end_with p c said
same_end_with p q c (Ok a) k = λ j. recovered.Done (k.begun j).id c.length c.members
same_end_with p q c (Err e) k = refl

-- THE WORLD

primary_after : (w : World) (k : Change) (e : Event) → outcome w e ≡ Some (apply w k) → (happens w e).primaries k.primary_at ≡ k.primary
primary_after w k e out = ap (λ (u : World). u.primaries k.primary_at) (happened w (apply w k) e out) ∙ primary_put w k

shut_after : (w : World) (k : Change) (e : Event) (c : ℕ) → outcome w e ≡ Some (apply w k) → IsShut w c → IsShut (happens w e) c
shut_after w k e c out h =
    let a : IsShut (apply w k) c = apply_stays w k c h in
    subst (λ (v : World). IsShut v c) (sym (happened w (apply w k) e out)) (record { down = a.down; up = a.up })

module _ {D R I O : Type 0} (d : desks.Ghosts D) (r : roads.Ghosts R I O) (i : link_in.Ghosts I) (o : link_out.Ghosts O) where
  abbrev P : Type 0
  P = running.Primary I O

  module _ (asks : PrimariesAsk) (steps : PrimariesStep) (sends : PrimariesSend) (old new : P) (office office' : D) (road road' : R) (did : PrimaryStep)
      (w : World) (net : Net) (number : ℕ) (l : Leading) (stands : PrimaryStands r i o w net number l old road) (can : CanLead w number l) (at : d.office office ≡ Some w.office) where
    abbrev lost : Bool
    lost = list_any (λ x. is_lost (Some x)) new.links.items

    -- What the step itself leads to, before anything was exchanged.
    record LeadsFirst : Type 0 where
      waits : (own_step l.state).does ≡ own.Waits → LeadWaits d r i o w net number l new office' road' (led_as did lost)
      ends : (end : Recovered) → (own_step l.state).does ≡ own.Ends end → LeadEnds d r i o w net (stepped w number) number l end office' road' (led_as did lost)
      commits : (c : Chosen) → (own_step l.state).does ≡ own.Commits c → LeadEnds d r i o w net (committed w number l.state.block) number l (end_with l.state c (answer_to w.office (sync_call l.state c))) office' road' (led_as did lost)

    abbrev Ends : World → Recovered → Type 0
    Ends v end = LeadEnds d r i o w net v number l end office' road' (led_as did lost)

    abbrev Ended : World → Recovered → Type 0
    Ended v end = RecoveryEnded d r i o w net v number l end office' road'

    whole : (v : World) (end : Recovered) → Ended v end → LeadEnds d r i o w net v number l end office' road' (led_as (step.Ended end) false)
    whole v recovered.Memory x = refl
    whole v other x = (refl, x)

    -- the recovery ended so, or an end is lost
    finish : (v : World) (end : Recovered) → did ≡ step.Ended end → Ended v end ⊎ (lost ≡ true) → Ends v end
    finish v end is got = subst (λ z. LeadEnds d r i o w net v number l end office' road' (led_as z lost)) (sym is) (by lost refl got) where
      by : (b : Bool) → lost ≡ b → Ended v end ⊎ (lost ≡ true) → LeadEnds d r i o w net v number l end office' road' (led_as (step.Ended end) b)
      by true e x = refl
      by false e (inl x) = whole v end x
      by false e (inr t) = absurd (true_false (sym t ∙ e))

    -- memory ran out
    wanted : (v : World) (end : Recovered) → did ≡ step.Ended recovered.Memory → Ends v end
    wanted v end is = subst (λ z. LeadEnds d r i o w net v number l end office' road' (led_as z lost)) (sym is) (by lost) where
      by : (b : Bool) → LeadEnds d r i o w net v number l end office' road' (led_as (step.Ended recovered.Memory) b)
      by true = refl
      by false = refl

    -- THE END

    module _ (end : Recovered) (does : (own_step l.state).does ≡ own.Ends end) (still : office' ≡ office) (so : EndsSo r i o end old.links.items new.links.items road road' did) where
      abbrev e : Event
      e = event.Own (own_event.Primary number)

      abbrev k : Change
      k = ends_change w number l end

      out : outcome w e ≡ Some (apply w k)
      out = (steps w number l).ends end can.leads_so does

      ended : Ends (stepped w number) end
      ended = finish (stepped w number) end so.1
          (by (gives_all r i o w net number l end e old.links.items new.links.items road road' can.distinct stands.shows.places stands.roads_are out ((sends w number l).ends can.distinct end) so.0))
        where
          by : AllShut r i o w net (stepped w number) l.conns road' ⊎ (lost ≡ true) → Ended (stepped w number) end ⊎ (lost ≡ true)
          by (inr t) = inr t
          by (inl a) = inl (record {
            made = a.made;
            roads_are = a.roads_are;
            office_is = ap d.office still ∙ (at ∙ ap Some (sym (office_after_event w k e out)));
            led = primary_after w k e out;
            others = a.others;
          })

    -- THE COMMIT

    module _ (c : Chosen) (does : (own_step l.state).does ≡ own.Commits c) where
      abbrev told : Told
      told = answer_to w.office (sync_call l.state c)

      abbrev end : Recovered
      end = end_with l.state c told

      abbrev e1 : Event
      e1 = event.Office (caller.Primary number l.state.block)

      abbrev e2 : Event
      e2 = event.Own (own_event.Primary number)

      abbrev k1 : Change
      k1 = commit_asked w number l c

      abbrev w1 : World
      w1 = happens w e1

      abbrev l1 : Leading
      l1 = record l { told = Some told }

      asked : outcome w e1 ≡ Some (apply w k1)
      asked = (asks w number l.state.block).commits l c can.leads_so does

      shown : StayShown w w1
      shown = stays_shown w k1 e1 asked ((sends w number l).asks (sync_call l.state c) (λ t. leads (record l { told = Some t })))

      led_there : Leads w1 number l1 (Some told)
      led_there = record {
        is = primary_after w k1 e1 asked;
        alive = alive_after w k1 e1 l.at asked ∙ can.leads_so.alive;
        told_is = refl;
      }

      out2 : outcome w1 e2 ≡ Some (apply w1 (ends_change w1 number l1 end))
      out2 = (steps w1 number l1).commits c told led_there does

      roads_there : ShowsWorld r w1 net road
      roads_there = record { is_net = shown.nets net stands.roads_are.is_net; sane = stands.roads_are.sane; shows = stands.roads_are.shows }

      end_there : (n : ℕ) (q : Bool) (x : Conn I O) → IsEndOf i o w net n q x → IsEndOf i o w1 net n q x
      end_there n q x is = same-end r i o w w1 net n q x (shown.over n q) is

      places_there : (n : ℕ) → PlaceShows i o w1 net l.state.phase (slice_get l.state.standings n) (slice_get l.conns n) (slice_get old.links.items n)
      places_there n = place_stays i o w w1 net net l.state.phase (slice_get l.state.standings n) (slice_get l.conns n) (slice_get old.links.items n)
          (λ x here. record { over = shown.over x false; ends = λ y is. end_there x false y is; shut = shut_after w k1 e1 x asked }) (stands.shows.places n)

      abbrev v : World
      v = committed w number l.state.block

      office_there : v.office ≡ office_after w.office (sync_call l.state c)
      office_there = office_after_event w1 (ends_change w1 number l1 end) e2 out2 ∙ office_after_event w k1 e1 asked

      module _ (core' : PrimaryState) (after : core' ≡ (own_step l.state).primary) (x : Commits d r i o core' c old.links.items new.links.items office office' road road' did) where
        keeps : KeepsBegun l.state core'
        keeps = subst (λ (q : PrimaryState). KeepsBegun l.state q) (sym after) (keeps_begun l.state)

        call_is : sync_call core' c ≡ sync_call l.state c
        call_is = same_call l.state core' c keeps

        gives : Gives office_fault.Memory x.said told
        gives = subst (λ (q : OfficeCall). Gives office_fault.Memory x.said (answer_to w.office q)) call_is (subst (λ (z : Option OfficeState). AnswersAsOffice z (sync_call core' c) x.said) at x.asks.answers)

        by_said : (x.said ≡ Err office_fault.Memory) ⊎ HasAnswered x.said told → Ends v end
        by_said (inl m) = wanted v end (x.ends.1 ∙ ap (λ (s : Told). step.Ended (end_with core' c s)) m)
        by_said (inr a) = finish v end (x.ends.1 ∙ ap step.Ended (same_end_with l.state core' c x.said keeps ∙ ap (end_with l.state c) a.is))
            (by (gives_all r i o w1 net number l1 end e2 old.links.items new.links.items road road' can.distinct places_there roads_there out2 ((sends w1 number l1).ends can.distinct end) x.ends.0))
          where
            by : AllShut r i o w1 net v l.conns road' ⊎ (lost ≡ true) → Ended v end ⊎ (lost ≡ true)
            by (inr t) = inr t
            by (inl s) = inl (record {
              made = s.made;
              roads_are = s.roads_are;
              office_is = x.asks.office ∙ (ap (option_map (office_after_answer (sync_call core' c) x.said)) at
                  ∙ (ap (λ (q : Bool). Some (if q then office_after w.office (sync_call core' c) else w.office)) a.entry
                  ∙ ap Some (ap (office_after w.office) call_is ∙ sym office_there)));
              led = primary_after w1 (ends_change w1 number l1 end) e2 out2;
              others = λ n q y none is. s.others n q y none (end_there n q y is);
            })

        commits_so : Ends v end
        commits_so = by_said (answered_or x.said told gives)

    -- NOTHING

    abbrev WaitsIn : Bool → PrimaryStep → Type 0
    WaitsIn b z = LeadWaits d r i o w net number l new office' road' (led_as z b)

    starved : did ≡ step.Ended recovered.Memory → WaitsIn lost did
    starved is = subst (WaitsIn lost) (sym is) (by lost) where
      by : (b : Bool) → WaitsIn b (step.Ended recovered.Memory)
      by true = refl
      by false = refl

    idles : (core' : PrimaryState) → new.core ≡ Some core' → core' ≡ (own_step l.state).primary → new.block ≡ old.block → new.members ≡ old.members → (own_step l.state).does ≡ own.Waits → IsIdle old.links.items new.links.items office office' road road' did → WaitsIn lost did
    idles core' is after block members does x = subst (WaitsIn lost) (sym x.waits) (by lost) where
      still_stands : PrimaryStands r i o w net number l new road'
      still_stands = record {
        roads_are = subst (λ (z : R). ShowsWorld r w net z) (sym x.roads_same) stands.roads_are;
        shows = record {
          leads_so = stands.shows.leads_so;
          told = stands.shows.told;
          core = is ∙ ap Some (after ∙ waits_same l.state does);
          block = block ∙ stands.shows.block;
          members = members ∙ stands.shows.members;
          places = λ n. subst (λ (xs : List (Seat I O)). PlaceShows i o w net l.state.phase (slice_get l.state.standings n) (slice_get l.conns n) (slice_get xs n)) (sym x.links_same) (stands.shows.places n);
        };
      }

      by : (b : Bool) → WaitsIn b step.Waiting
      by true = refl
      by false = (ap d.office x.office_same ∙ at, still_stands)

    -- WHATEVER IT IS

    abbrev Does : PrimaryState → OwnStep → Type 0
    Does core' q = OwnsBy d r i o q core' old.members old.links.items new.links.items office office' road road' did

    owned : (z : Option PrimaryState) → new.core ≡ z → new.block ≡ old.block → new.members ≡ old.members → OwnsAs d r i o (Some l.state) z old new office office' road road' did → LeadsFirst
    owned None is block members h = absurd h
    owned (Some core') is block members (inl u) = record {
      waits = λ does. starved u.ends.1;
      ends = λ end does. wanted (stepped w number) end u.ends.1;
      commits = λ c does. wanted (committed w number l.state.block) (end_with l.state c (answer_to w.office (sync_call l.state c))) u.ends.1;
    }
    owned (Some core') is block members (inr s) = record {
      waits = λ does. idles core' is s.core_after block members does (subst (Does core') does s.does);
      ends = λ end does. let x = subst (Does core') does s.does in ended end does x.0 x.1;
      commits = λ c does. commits_so c does core' s.core_after (subst (Does core') does s.does);
    }

    leads_to : new.block ≡ old.block → new.members ≡ old.members → LeadsOn d r i o old new office office' road road' did → LeadsFirst
    leads_to block members h = owned new.core refl block members (subst (λ (z : Option PrimaryState). OwnsAs d r i o z new.core old new office office' road road' did) stands.shows.core h)

  -- BEHIND THE STEP

  done_on : (Q : P → R → Result PrimaryStep PrimaryFault → Type 0) (old new : P) (road road' : R) (first result : Result PrimaryStep PrimaryFault) → IsDone old new road road' first result → Q old road first → Q new road' result
  done_on Q old new road road' first result x q =
      subst (λ z. Q new road' z) (sym x.is) (subst (λ (z : R). Q new z first) (sym x.roads_same) (subst (λ (z : P). Q z road first) (sym x.primary_same) q))

  -- where the UPDATE wasn't sent nothing more is done
  carried : (Q : P → R → Result PrimaryStep PrimaryFault → Type 0) (conns : List (Option ConnId)) (old new : P) (road road' : R) (first result : Result PrimaryStep PrimaryFault) → (Q old road (Ok step.Moved) → ⊥) → Follows r i o conns first old new road road' result → Q old road first → Q new road' result
  carried Q conns old new road road' (Ok step.Moved) result none f q = absurd (none q)
  carried Q conns old new road road' (Ok step.Waiting) result none f q = done_on Q old new road road' (Ok step.Waiting) result f q
  carried Q conns old new road road' (Ok (step.Ended e)) result none f q = done_on Q old new road road' (Ok (step.Ended e)) result f q
  carried Q conns old new road road' (Err why) result none f q = done_on Q old new road road' (Err why) result f q

  -- THE UPDATE

  module _ (steps : PrimariesStep) (conns : List (Option ConnId)) (old new : P) (office office' : D) (road road' : R) (result : Result PrimaryStep PrimaryFault) (conns_are : conns ≡ map conn_of old.links.items) (count : length old.links.items ≡ length old.members) (block : new.block ≡ old.block) (members : new.members ≡ old.members)
      (by_step : LeadsBy d r i o conns old new office office' road road' result) (w : World) (net : Net) (number : ℕ) (l : Leading) (stands : PrimaryStands r i o w net number l old road) (can : CanLead w number l) (at : d.office office ≡ Some w.office)
      (c : Chosen) (does : (own_step l.state).does ≡ own.Updates c) (spelled : SpellConns (stepped w number) l.conns) where
    abbrev middle : P
    middle = by_step.middle

    abbrev passed : R
    passed = by_step.passed

    abbrev did : PrimaryStep
    did = by_step.steps.did

    abbrev gone : Bool
    gone = list_any (λ x. is_lost (Some x)) by_step.middle.links.items

    abbrev Updated : Type 0
    Updated = LeadUpdates d r i o w net (stepped w number) number l new office' road road' result

    goes_out : outcome w (event.Own (own_event.Primary number)) ≡ Some (apply w (updates_change w number l (own_step l.state).primary c))
    goes_out = (steps w number l).updates c can.leads_so does

    same_count : length by_step.middle.links.items ≡ length old.links.items
    same_count = by_step.count ∙ (ap (λ (ms : List NodeId). length ms) by_step.same.1 ∙ sym count)

    falls : r.faults road ≤ r.faults by_step.passed
    falls = (lead_passes d r i o old by_step.middle office office' road by_step.passed by_step.steps.did by_step.steps.leads).never_falls

    -- memory ran goes_out
    want_by : by_step.first ≡ Err fault.Memory → LeadUpdates d r i o w net (stepped w number) number l new office' road road' result
    want_by is =
        let f : IsDone by_step.middle new by_step.passed road' (Err fault.Memory) result = subst (λ z. Follows r i o conns z by_step.middle new by_step.passed road' result) is by_step.follows in
        subst (λ z. LeadUpdates d r i o w net (stepped w number) number l new office' road road' z) (sym f.is) tt

    ended_first : (q : PrimaryStep) → q ≡ step.Ended recovered.Memory → (b : Bool) → led_as q b ≡ Err fault.Memory
    ended_first q is true = refl
    ended_first q is false = ap (λ z. led_as z false) is

    starved_by : by_step.steps.did ≡ step.Ended recovered.Memory → LeadUpdates d r i o w net (stepped w number) number l new office' road road' result
    starved_by is = want_by (by_step.steps.is ∙ ended_first by_step.steps.did is (list_any (λ x. is_lost (Some x)) by_step.middle.links.items))

    module _ (core' : PrimaryState) (core : by_step.middle.core ≡ Some core') (after : core' ≡ (own_step l.state).primary) (still : office' ≡ office) (x : Updates r i o core' c old.members old.links.items by_step.middle.links.items road by_step.passed by_step.steps.did) where
      goes_to : SendsRequest o (op.Recovery (request_of core' kind.Update c.length)) old.members c.members old.links.items x.held (Ok tt) → SendsRequest o (op.Recovery (request_of l.state kind.Update c.length)) l.state.members c.members old.links.items x.held (Ok tt)
      goes_to h =
          subst (λ (ms : List NodeId). SendsRequest o (op.Recovery (request_of l.state kind.Update c.length)) ms c.members old.links.items x.held (Ok tt)) stands.shows.members
          (subst (λ (q : RecoveryOp). SendsRequest o (op.Recovery q) old.members c.members old.links.items x.held (Ok tt)) (same_request d r i o w net number l c old road stands can does goes_out spelled count core' after) h)

      moved_by : SendsRequest o (op.Recovery (request_of core' kind.Update c.length)) old.members c.members old.links.items x.held (Ok tt) → SettlesAll r i o core'.standings x.held by_step.middle.links.items road by_step.passed → by_step.steps.did ≡ step.Moved → (b : Bool) → list_any (λ y. is_lost (Some y)) by_step.middle.links.items ≡ b
          → LeadUpdates d r i o w net (stepped w number) number l new office' road road' result
      moved_by h s is true lost = want_by (by_step.steps.is ∙ ap (led_as by_step.steps.did) lost)
      moved_by h s is false lost =
          let first : by_step.first ≡ Ok step.Moved = by_step.steps.is ∙ (ap (led_as by_step.steps.did) lost ∙ ap (λ z. led_as z false) is) in
          moved_ends d r i o w net number l c old road stands can does goes_out spelled count by_step.middle new by_step.passed road' office office' conns conns_are (core ∙ ap Some after) block members same_count at still falls x.held
          (request_sent d r i o w net number l c old road stands can does goes_out spelled count x.held (goes_to h)) (subst (λ (q : PrimaryState). SettlesAll r i o q.standings x.held by_step.middle.links.items road by_step.passed) after s) lost result
          (subst (λ z. Follows r i o conns z by_step.middle new by_step.passed road' result) first by_step.follows)

      sent_by : (q : Result (Unit {0}) AllocError) → x.sending ≡ q → UpdatesEnd r i o core' x.held by_step.middle.links.items road by_step.passed q by_step.steps.did → LeadUpdates d r i o w net (stepped w number) number l new office' road road' result
      sent_by (Ok u) is h = moved_by (subst (λ z. SendsRequest o (op.Recovery (request_of core' kind.Update c.length)) old.members c.members old.links.items x.held z) is x.sends) h.0 h.1 (list_any (λ y. is_lost (Some y)) by_step.middle.links.items) refl
      sent_by (Err e) is h = starved_by h.1

    owned_by : (z : Option PrimaryState) → by_step.middle.core ≡ z → OwnsAs d r i o (Some l.state) z old by_step.middle office office' road by_step.passed by_step.steps.did → LeadUpdates d r i o w net (stepped w number) number l new office' road road' result
    owned_by None is h = absurd h
    owned_by (Some core') is (inl u) = starved_by u.ends.1
    owned_by (Some core') is (inr q) =
        let x = subst (λ t. OwnsBy d r i o t core' old.members old.links.items by_step.middle.links.items office office' road by_step.passed by_step.steps.did) does q.does in
        sent_by core' is q.core_after x.0 x.1 x.1.sending refl x.1.ends

    updates_to : LeadUpdates d r i o w net (stepped w number) number l new office' road road' result
    updates_to = owned_by by_step.middle.core refl (subst (λ (z : Option PrimaryState). OwnsAs d r i o z by_step.middle.core old by_step.middle office office' road by_step.passed by_step.steps.did) stands.shows.core by_step.steps.leads)

  -- WHATEVER IT IS

  -- The primary's own step ends as in the world.
  pub lead_shows : PrimariesAsk → PrimariesStep → PrimariesSend → (conns : List (Option ConnId)) (old new : P) (office office' : D) (road road' : R) (result : Result PrimaryStep PrimaryFault) → conns ≡ map conn_of old.links.items → length old.links.items ≡ length old.members → new.block ≡ old.block → new.members ≡ old.members
      → LeadsBy d r i o conns old new office office' road road' result → LeadShows d r i o old new office office' road road' result
  lead_shows asks steps sends conns old new office office' road road' result conns_are count block members by_step = λ w net number l stands can at.
      let x : LeadsFirst asks steps sends old by_step.middle office office' road by_step.passed by_step.steps.did w net number l stands can at = leads_to asks steps sends old by_step.middle office office' road by_step.passed by_step.steps.did w net number l stands can at by_step.same.0 by_step.same.1 by_step.steps.leads in
      record {
        waits = λ does. carried (λ n rd z. LeadWaits d r i o w net number l n office' rd z) conns by_step.middle new by_step.passed road' by_step.first result (λ z. z) by_step.follows
            (subst (λ z. LeadWaits d r i o w net number l by_step.middle office' by_step.passed z) (sym by_step.steps.is) (x.waits does));
        updates = λ c does spelled. updates_to steps conns old new office office' road road' result conns_are count block members by_step w net number l stands can at c does spelled;
        ends = λ end does. carried (λ n rd z. LeadEnds d r i o w net (stepped w number) number l end office' rd z) conns by_step.middle new by_step.passed road' by_step.first result (λ z. z) by_step.follows
            (subst (λ z. LeadEnds d r i o w net (stepped w number) number l end office' by_step.passed z) (sym by_step.steps.is) (x.ends end does));
        commits = λ c does. carried (λ n rd z. LeadEnds d r i o w net (committed w number l.state.block) number l (end_with l.state c (answer_to w.office (sync_call l.state c))) office' rd z) conns by_step.middle new by_step.passed road' by_step.first result (λ z. z) by_step.follows
            (subst (λ z. LeadEnds d r i o w net (committed w number l.state.block) number l (end_with l.state c (answer_to w.office (sync_call l.state c))) office' by_step.passed z) (sym by_step.steps.is) (x.commits c does));
      }

  -- Nothing was done, since memory ran out.
  pub lead_starves : (old : P) (office : D) (road : R) → LeadShows d r i o old old office office road road (Err fault.Memory)
  lead_starves old office road = λ w net number l stands can at. record { waits = λ does. refl; updates = λ c does spelled. tt; ends = λ end does. refl; commits = λ c does. refl }

  -- HOW IT FAILS

  moved_not : (q : PrimaryStep) → q ≡ step.Moved → step.Waiting ≡ q → ⊥
  moved_not q is h = cc

  ended_not : (q : PrimaryStep) (e : Recovered) → q ≡ step.Moved → q ≡ step.Ended e → ⊥
  ended_not q e is h = cc

  owned_moved : (does : OwnStep) (core' : PrimaryState) (ms : List NodeId) (links links' : List (Seat I O)) (office office' : D) (road road' : R) (did : PrimaryStep) → did ≡ step.Moved → OwnsBy d r i o does core' ms links links' office office' road road' did → IsUpdate does
  owned_moved own.Waits core' ms links links' office office' road road' did is h = absurd (moved_not did is (sym h.waits))
  owned_moved (own.Updates c) core' ms links links' office office' road road' did is h = tt
  owned_moved (own.Commits c) core' ms links links' office office' road road' did is h = absurd (ended_not did (end_with core' c h.said) is h.ends.1)
  owned_moved (own.Ends e) core' ms links links' office office' road road' did is h = absurd (ended_not did e is h.1.1)

  led_moved : (z z' : Option PrimaryState) (old new : P) (office office' : D) (road road' : R) (did : PrimaryStep) → did ≡ step.Moved → OwnsAs d r i o z z' old new office office' road road' did → SendsUpdate z
  led_moved None None old new office office' road road' did is h = absurd (moved_not did is (sym h.waits))
  led_moved None (Some core') old new office office' road road' did is h = absurd h
  led_moved (Some core) None old new office office' road road' did is h = absurd h
  led_moved (Some core) (Some core') old new office office' road road' did is (inl u) = absurd (ended_not did recovered.Memory is u.ends.1)
  led_moved (Some core) (Some core') old new office office' road road' did is (inr s) = owned_moved (own_step core).does core' old.members old.links.items new.links.items office office' road road' did is s.does

  -- what a first part that goes on did
  first_moved : (q : PrimaryStep) (b : Bool) → led_as q b ≡ Ok step.Moved → q ≡ step.Moved
  first_moved q true h = cc
  first_moved step.Moved false h = refl
  first_moved step.Waiting false h = cc
  first_moved (step.Ended recovered.Memory) false h = cc
  first_moved (step.Ended e) false h = cc

  first_wants : (q : PrimaryStep) (b : Bool) (why : PrimaryFault) → led_as q b ≡ Err why → why ≡ fault.Memory
  first_wants q true why h = cc
  first_wants (step.Ended recovered.Memory) false why h = cc
  first_wants q false why h = cc

  wanting_by : (z : Option PrimaryState) (result : Result PrimaryStep PrimaryFault) → SendsUpdate z → IsWanting z result
  wanting_by z (Ok s) h = tt
  wanting_by z (Err fault.Memory) h = tt
  wanting_by z (Err fault.LinkFailed) h = h
  wanting_by z (Err fault.RoadsFailed) h = h

  fails_by : (conns : List (Option ConnId)) (old new : P) (office office' : D) (road road' : R) (result : Result PrimaryStep PrimaryFault) (x : LeadsBy d r i o conns old new office office' road road' result) → (first : Result PrimaryStep PrimaryFault) → x.first ≡ first → Follows r i o conns first x.middle new x.passed road' result → IsWanting old.core result
  fails_by conns old new office office' road road' result x (Ok step.Moved) is f =
      wanting_by old.core result (led_moved old.core x.middle.core old x.middle office office' road x.passed x.steps.did (first_moved x.steps.did (list_any (λ y. is_lost (Some y)) x.middle.links.items) (sym x.steps.is ∙ is)) x.steps.leads)
  fails_by conns old new office office' road road' result x (Ok step.Waiting) is f = subst (IsWanting old.core) (sym f.is) tt
  fails_by conns old new office office' road road' result x (Ok (step.Ended e)) is f = subst (IsWanting old.core) (sym f.is) tt
  fails_by conns old new office office' road road' result x (Err why) is f =
      subst (IsWanting old.core) (sym (f.is ∙ ap Err (first_wants x.steps.did (list_any (λ y. is_lost (Some y)) x.middle.links.items) why (sym x.steps.is ∙ is)))) tt

  -- It fails only for want of memory, unless it sends the UPDATE.
  pub lead_fails : (conns : List (Option ConnId)) (old new : P) (office office' : D) (road road' : R) (result : Result PrimaryStep PrimaryFault) → LeadsBy d r i o conns old new office office' road road' result → IsWanting old.core result
  lead_fails conns old new office office' road road' result x = fails_by conns old new office office' road road' result x x.first refl x.follows
