-- The office answers a primary that is to begin; where it refuses, the recovery ends.
use Rattle.std.proofs.Common.{◌≡◌, ℕ, Bool, true, false, if◌then◌else◌, List, [], ◌++◌, Option, Some, Err, ◌⊎◌, refl, sym, ap, ◌∙◌, subst}
use Rattle.std.specs.Prelude.{option_map}
use Rattle.std.proofs.lemmas.List.{append-nil}
use Rattle.hd_base.specs.declared.links.LinkIn as link_in
use Rattle.hd_base.specs.declared.links.LinkOut as link_out
use Rattle.hd_base.specs.declared.numbers.BlockId.{BlockId}
use Rattle.hd_base.specs.declared.numbers.NodeId.{NodeId}
use Rattle.hd_base.specs.declared.roads.Roads as roads
use Rattle.block_recovery.specs.Steps.{AsksOffice}
use Rattle.name_core.specs.declared.calls.OfficeCall.TheVariants as call
use Rattle.name_core.specs.declared.desks.Desk as desks
use Rattle.name_core.specs.declared.faults.OfficeFault.{OfficeFault}
use Rattle.name_core.specs.declared.faults.OfficeFault.TheVariants as office_fault
use Rattle.name_core.specs.Books.{is_entry}
use Rattle.name_core.specs.Desks.{AnswersAsOffice, office_after_answer}
use Rattle.name_core.specs.Offices.{OfficeState, office_after, answer_to}
use Rattle.recovery_core.specs.Primaries.{office_refused}
use Rattle.road_traffic.specs.Showing.{Net}
use Rattle.world.specs.declared.events.Caller.TheVariants as caller
use Rattle.world.specs.declared.events.Event.{Event}
use Rattle.world.specs.declared.events.Event.TheVariants as event
use Rattle.world.specs.declared.events.OwnStep.TheVariants as own_event
use Rattle.world.specs.Parts.{Told, was_told, has_led}
use Rattle.world.specs.Worlds.{World, Change, Dial, apply, dial_at, listed}
use Rattle.world.specs.Connections.{place_of}
use Rattle.world.specs.Events.{outcome, happens}
use Rattle.world.specs.Primaries.{primary_change, begins_as}
use Rattle.world_primaries.specs.WorldNets.Changes.{sent_in}
use Rattle.world_primaries.specs.WorldNets.Steps.{SendsBy}
use Rattle.world_primaries.proofs.WorldNets.EndLemmas.{same-end}
use Rattle.world_primaries.proofs.WorldNets.StepLemmas.{runs-on}
use Rattle.world_primaries.specs.Drawn.{PrimariesAsk, PrimariesBegin, MayBegin, begin_asked}
use Rattle.client_events.specs.MemberEvents.Showing.{ShowsWorld}
use Rattle.client_events.proofs.MemberEvents.WorldLaws.{happened}
use Rattle.client_events.specs.Showing.{StayShown}
use Rattle.client_events.proofs.CompleteLaws.{stays_shown, shown_on}
use Rattle.primary_events.specs.Beginning.{CanBegin, begun_world, EndsBegun}
use Rattle.primary_events.proofs.HearLaws.{primary_put}
use Rattle.primary_events.proofs.OfficeLaws.{HasAnswered, answered_or}
use Rattle.primary_events.proofs.UpdateLaws.{office_after_event}
use Rattle.primary_events.proofs.UpdateLemmas.{no_request}

-- A CHANGE THAT SENDS NOTHING

quiet_sends : (w : World) (k : Change) → k.dials ≡ [] → ((c : ℕ) → k.ups c ≡ []) → ((c : ℕ) → k.downs c ≡ []) → ((c : ℕ) → k.shuts c ≡ false) → SendsBy w k []
quiet_sends w k none ups downs shuts = record { none = none; changes = record { sends = sends; shuts = shuts; apart = tt } }
  where
    sends : (c : ℕ) (d : Bool) → sent_in w k c d ≡ []
    sends c true =
        (λ j. k.downs c ++ listed (option_map (λ (x : Dial). x.request) (dial_at w.next_conn (none j) c)))
        ∙ (ap (λ l. k.downs c ++ l) (no_request w.next_conn c) ∙ (append-nil (k.downs c) ∙ downs c))
    sends c false = ups c

module _ {D R I O : Type 0} (d : desks.Ghosts D) (r : roads.Ghosts R I O) (i : link_in.Ghosts I) (o : link_out.Ghosts O) (asks : PrimariesAsk) (begins : PrimariesBegin)
    (w : World) (net : Net) (number : ℕ) (node : NodeId) (block : BlockId) (members : List NodeId) (can : CanBegin w number node members) where
  -- ONCE THE OFFICE WAS ASKED

  abbrev e1 : Event
  e1 = event.Office (caller.Primary number block)

  abbrev k1 : Change
  k1 = begin_asked w number block

  -- the world in which the office has answered
  abbrev pub w1 : World
  w1 = happens w (event.Office (caller.Primary number block))

  abbrev pub told : Told
  told = answer_to w.office (call.BeginRecovery block)

  pub asked : outcome w (event.Office (caller.Primary number block)) ≡ Some (apply w (begin_asked w number block))
  asked = (asks w number block).new can.new

  pub shown : StayShown w w1
  shown = stays_shown w k1 e1 asked (quiet_sends w k1 refl (λ c. refl) (λ c. refl) (λ c. refl))

  pub office_there : w1.office ≡ office_after w.office (call.BeginRecovery block)
  office_there = office_after_event w k1 e1 asked

  told_there : w1.primaries number ≡ was_told block told
  told_there = ap (λ (u : World). u.primaries number) (happened w (apply w k1) e1 asked) ∙ primary_put w k1

  may : MayBegin w1 number node block members told
  may = record {
    is = told_there;
    runs = ap (λ (u : World). u.running node.0) (happened w (apply w k1) e1 asked) ∙ (runs-on w k1 node.0 ∙ can.runs);
    members_are = can.members_are;
  }

  -- What the answer leads to in the world.
  pub begins_so : (answers : List Bool) (k : Change) → begins_as told w1 number (place_of w1 node.0) block members answers ≡ Some k → outcome w1 (event.Own (own_event.Recover number node block members answers)) ≡ Some (apply w1 k)
  begins_so answers k is = begins w1 number node block members answers told k may is

  -- What was said is the office's answer, or memory was wanting; in the former case the office is that of the world.
  pub said_so : (office office' : D) (said : Told) → d.office office ≡ Some w.office → AsksOffice d (call.BeginRecovery block) office office' said → (said ≡ Err office_fault.Memory) ⊎ HasAnswered said told
  said_so office office' said at x = answered_or said told (subst (λ (z : Option OfficeState). AnswersAsOffice z (call.BeginRecovery block) said) at x.answers)

  pub office_so : (office office' : D) (said : Told) → d.office office ≡ Some w.office → AsksOffice d (call.BeginRecovery block) office office' said → is_entry said ≡ true → d.office office' ≡ Some (office_after w.office (call.BeginRecovery block))
  office_so office office' said at x entry =
      x.office ∙ (ap (option_map (office_after_answer (call.BeginRecovery block) said)) at
      ∙ ap (λ (q : Bool). Some (if q then office_after w.office (call.BeginRecovery block) else w.office)) entry)

  -- THE REFUSAL

  module _ (fault : OfficeFault) (told_is : told ≡ Err fault) (answers : List Bool) where
    abbrev k2 : Change
    k2 = primary_change w1 number (has_led (office_refused fault))

    abbrev e2 : Event
    e2 = event.Own (own_event.Recover number node block members answers)

    out : outcome w1 e2 ≡ Some (apply w1 k2)
    out = begins_so answers k2 (ap (λ (t : Told). begins_as t w1 number (place_of w1 node.0) block members answers) told_is)

    abbrev v : World
    v = begun_world w number node block members answers

    all_shown : StayShown w v
    all_shown = shown_on w w1 v shown (stays_shown w1 k2 e2 out (quiet_sends w1 k2 refl (λ c. refl) (λ c. refl) (λ c. refl)))

    -- The recovery has ended by the refusal.
    pub refused : (office office' : D) (road : R) → ShowsWorld r w net road → d.office office' ≡ Some (office_after w.office (call.BeginRecovery block)) → EndsBegun d r i o w net v number (office_refused fault) office' road
    refused office office' road shows at = record {
      roads_are = record { is_net = all_shown.nets net shows.is_net; sane = shows.sane; shows = shows.shows };
      office_is = at ∙ ap Some (sym (office_after_event w1 k2 e2 out ∙ office_there));
      led = ap (λ (u : World). u.primaries number) (happened w1 (apply w1 k2) e2 out) ∙ primary_put w1 k2;
      others = λ n q y none is. same-end r i o w v net n q y (all_shown.over n q) is;
    }
