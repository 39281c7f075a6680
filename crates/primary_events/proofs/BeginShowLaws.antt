-- How a primary begins, and the world after it.
use Rattle.std.proofs.Common.{◌≡◌, ℕ, Bool, true, false, List, length, Some, Result, Ok, Err, ◌⊎◌, inl, inr, refl, sym, ap, ◌∙◌, subst}
use Rattle.std.specs.Prelude.{is_some, map}
use Rattle.std.specs.List.{list_any}
use Rattle.hd_base.specs.declared.links.LinkIn as link_in
use Rattle.hd_base.specs.declared.links.LinkOut as link_out
use Rattle.hd_base.specs.declared.numbers.NodeId.{NodeId}
use Rattle.hd_base.specs.declared.roads.Roads as roads
use Rattle.block_recovery.specs.declared.primary.Primary as running
use Rattle.block_recovery.specs.declared.primary.PrimaryStep.{PrimaryStep}
use Rattle.block_recovery.specs.declared.primary.PrimaryStep.TheVariants as step
use Rattle.block_recovery.specs.Beginning.{StartsWith, StartsAs}
use Rattle.block_recovery.specs.Dialling.{is_lost}
use Rattle.block_recovery.specs.Steps.{Reaches, begun_as, core_of}
use Rattle.name_core.specs.declared.calls.Begun.{Begun}
use Rattle.name_core.specs.declared.calls.OfficeAnswer.TheVariants as answer
use Rattle.name_core.specs.declared.desks.Desk as desks
use Rattle.name_core.specs.declared.faults.OfficeFault.{OfficeFault}
use Rattle.name_core.specs.declared.faults.OfficeFault.TheVariants as office_fault
use Rattle.recovery_core.specs.declared.primary.Recovered.{Recovered}
use Rattle.recovery_core.specs.declared.primary.Recovered.TheVariants as recovered
use Rattle.recovery_core.specs.Primaries.{PrimaryState, begun_with, office_refused}
use Rattle.road_traffic.specs.Showing.{Net}
use Rattle.world.specs.declared.events.Caller.TheVariants as caller
use Rattle.world.specs.declared.events.Event.TheVariants as event
use Rattle.world.specs.Parts.{Told}
use Rattle.world.specs.Worlds.{World}
use Rattle.world.specs.Events.{happens}
use Rattle.world.specs.Primaries.{recovery_message}
use Rattle.world_primaries.specs.WorldNets.Rows.{text_of}
use Rattle.world_primaries.specs.Drawn.{PrimariesAsk, PrimariesBegin}
use Rattle.client_events.specs.MemberEvents.Showing.{ShowsWorld}
use Rattle.primary_events.specs.declared.beginning.PrimaryBegun.{PrimaryBegun}
use Rattle.primary_events.specs.declared.beginning.PrimaryBegun.TheVariants as begun
use Rattle.primary_events.specs.declared.faults.PrimaryFault.{PrimaryFault}
use Rattle.primary_events.specs.declared.faults.PrimaryFault.TheVariants as fault
use Rattle.primary_events.specs.Beginning.{BeginsBy, BeginsNoFurther, GoesOut, GoesOutBehind, CanBegin, begun_world, SpellsBegun, EndsBegun, BeginEnds, BeginShows}
use Rattle.primary_events.specs.Leading.{led_as, led_by}
use Rattle.primary_events.proofs.BeginPassLaws.{start_passes}
use Rattle.primary_events.proofs.DialLaws.{Dialling, dialled}
use Rattle.primary_events.proofs.GrantLaws.{begun_so, init_sent, went_out}
use Rattle.primary_events.proofs.OfficeLaws.{HasAnswered}
use Rattle.primary_events.proofs.RefusalLaws.{told, office_there, said_so, office_so, refused}
use Rattle.primary_events.proofs.SendLaws.{AllSent}

module _ {D R I O : Type 0} (d : desks.Ghosts D) (r : roads.Ghosts R I O) (i : link_in.Ghosts I) (o : link_out.Ghosts O) (asks : PrimariesAsk) (begins : PrimariesBegin) (old middle new : running.Primary I O) (office office' : D) (road passed road' : R)
    (first : Result PrimaryStep PrimaryFault) (result : Result (PrimaryBegun I O) PrimaryFault) (by : BeginsBy d r i o old middle office office' road passed first) (goes : GoesOutBehind r i o first middle new passed road' result)
    (w : World) (net : Net) (number : ℕ) (node : NodeId) (shows : ShowsWorld r w net road) (can : CanBegin w number node old.members) (at : d.office office ≡ Some w.office) where
  abbrev pub Ends : Type 0
  Ends = BeginEnds d r i o w net number node old.members (begun_world w number node old.block old.members) new office' road road' result

  abbrev lost : Bool
  lost = list_any (λ x. is_lost (Some x)) middle.links.items

  -- Memory ran out in the first step.
  pub wants : first ≡ Err fault.Memory → Ends
  wants is =
      let f : BeginsNoFurther middle new passed road' (Err fault.Memory) result = subst (λ z. GoesOutBehind r i o z middle new passed road' result) is goes in
      subst (λ z. BeginEnds d r i o w net number node old.members (begun_world w number node old.block old.members) new office' road road' z) (sym f.is) tt

  starved_as : (q : PrimaryStep) → q ≡ step.Ended recovered.Memory → (b : Bool) → led_as q b ≡ Err fault.Memory
  starved_as q is true = refl
  starved_as q is false = ap led_by is

  pub starves : by.did ≡ step.Ended recovered.Memory → Ends
  starves is = wants (by.is ∙ starved_as by.did is lost)

  -- THE REFUSAL

  ended_so : (e : Recovered) → first ≡ Ok (step.Ended e) → passed ≡ road → ((answers : List Bool) → EndsBegun d r i o w net (begun_world w number node old.block old.members answers) number e office' road) → Ends
  ended_so e is same h =
      let f : BeginsNoFurther middle new passed road' (Ok (begun.Ended e)) result = subst (λ z. GoesOutBehind r i o z middle new passed road' result) is goes in
      subst (λ z. BeginEnds d r i o w net number node old.members (begun_world w number node old.block old.members) new office' road road' z) (sym f.is)
      (λ answers. subst (λ (x : R). EndsBegun d r i o w net (begun_world w number node old.block old.members answers) number e office' x) (sym (f.roads_same ∙ same)) (h answers))

  by_end : (e : Recovered) → led_by (step.Ended e) ≡ first → passed ≡ road → ((answers : List Bool) → EndsBegun d r i o w net (begun_world w number node old.block old.members answers) number e office' road) → Ends
  by_end recovered.Memory is same h = wants (sym is)
  by_end other is same h = ended_so other (sym is) same h

  pub refused_ends : (why : OfficeFault) → by.starts.starts.said ≡ Err why → HasAnswered by.starts.starts.said (told d r i o asks begins w net number node old.block old.members can) → by.did ≡ step.Ended (office_refused why) → passed ≡ road → Ends
  refused_ends why said answered did same = by_lost lost refl
    where
      here : (answers : List Bool) → EndsBegun d r i o w net (begun_world w number node old.block old.members answers) number (office_refused why) office' road
      here answers = refused d r i o asks begins w net number node old.block old.members can why (sym answered.is ∙ said) answers office office' road shows
          (office_so d r i o asks begins w net number node old.block old.members can office office' by.starts.starts.said at by.starts.starts.asks answered.entry)

      by_lost : (b : Bool) → lost ≡ b → Ends
      by_lost true is = wants (by.is ∙ ap (led_as by.did) is)
      by_lost false is = by_end (office_refused why) (sym (by.is ∙ (ap (led_as by.did) is ∙ ap led_by did))) same here

  -- IT HAS BEGUN

  module _ (count : length old.links.items ≡ length old.members) (block_is : new.block ≡ old.block) (members_are : new.members ≡ old.members) (sized : length new.links.items ≡ length new.members)
      (spelled : (answers : List Bool) → SpellsBegun (begun_world w number node old.block old.members answers) number) where
    module _ (begun : Begun) (core : PrimaryState) (said : by.starts.starts.said ≡ Ok (answer.Begun begun)) (answered : HasAnswered by.starts.starts.said (told d r i o asks begins w net number node old.block old.members can))
        (is : by.starts.begun ≡ Ok core) (x : Reaches r i o old.block begun old.members old.links.items middle.links.items road passed core) where
      g : Dialling r i o net old.members (length old.members) (r.faults road) (length old.members) (record { links = x.held; road = passed })
      g = dialled r i o net old.members (length old.members) old.links.items x.held road passed count (record { sane = shows.sane; shows = shows.shows }) shows.is_net.waiting x.dials

      told_is : told d r i o asks begins w net number node old.block old.members can ≡ Ok (answer.Begun begun)
      told_is = sym answered.is ∙ said

      core_is : core ≡ begun_with old.block begun old.members (map is_some g.ports)
      core_is = begun_so d r i o asks begins w net number node old.block old.members can begun told_is shows.is_net shows.sane x.held passed g core x.begins

      sent : AllSent o (text_of (recovery_message (begun_with old.block begun old.members (map is_some g.ports)))) old.members old.members x.held middle.links.items
      sent = init_sent d r i o asks begins w net number node old.block old.members can begun told_is shows.is_net shows.sane x.held passed g (spelled (map is_some g.ports)) core middle.links.items core_is x.sends

      office_is : d.office office' ≡ Some (happens w (event.Office (caller.Primary number old.block))).office
      office_is =
          office_so d r i o asks begins w net number node old.block old.members can office office' by.starts.starts.said at by.starts.starts.asks answered.entry
          ∙ ap Some (sym (office_there d r i o asks begins w net number node old.block old.members can))

      by_way : GoesOut r i o middle new passed road' result → Ends
      by_way f =
          went_out d r i o asks begins w net number node old.block old.members can begun told_is shows.is_net shows.sane x.held passed g middle new sent (by.starts.core ∙ (ap core_of is ∙ ap Some core_is))
          road road' refl (start_passes d r i o old middle office office' road passed by.did by.starts) block_is members_are (sized ∙ ap (λ (ms : List NodeId). length ms) members_are) office' office_is f.middle f.passed f.flushed f.flushes result f.meets

      did_move : by.did ≡ step.Moved
      did_move = by.starts.is ∙ ap begun_as is

      by_loss : (b : Bool) → lost ≡ b → Ends
      by_loss true gone = wants (by.is ∙ ap (led_as by.did) gone)
      by_loss false gone = by_way (subst (λ z. GoesOutBehind r i o z middle new passed road' result) (by.is ∙ (ap (led_as by.did) gone ∙ ap led_by did_move)) goes)

      granted : Ends
      granted = by_loss lost refl

    begun_by : (begun : Begun) → by.starts.starts.said ≡ Ok (answer.Begun begun) → HasAnswered by.starts.starts.said (told d r i o asks begins w net number node old.block old.members can) → (z : Result PrimaryState Recovered) → by.starts.begun ≡ z
        → StartsWith r i o old.block begun old.members old.links.items middle.links.items road passed z → Ends
    begun_by begun said answered (Ok core) is x = granted begun core said answered is x
    begun_by begun said answered (Err end) is x = starves (by.starts.is ∙ (ap begun_as is ∙ ap step.Ended x.0))

    started_by : (said : Told) → by.starts.starts.said ≡ said → HasAnswered by.starts.starts.said (told d r i o asks begins w net number node old.block old.members can)
        → StartsAs r i o said old.block old.members old.links.items middle.links.items road passed by.starts.begun → Ends
    started_by (Ok (answer.Begun begun)) is answered h = begun_by begun is answered by.starts.begun refl h
    started_by (Ok other) is answered h = absurd h
    started_by (Err why) is answered h = refused_ends why is answered (by.starts.is ∙ ap begun_as h.2) h.1

    asked_by : (by.starts.starts.said ≡ Err office_fault.Memory) ⊎ HasAnswered by.starts.starts.said (told d r i o asks begins w net number node old.block old.members can) → Ends
    asked_by (inl wanting) =
        let h : StartsAs r i o (Err office_fault.Memory) old.block old.members old.links.items middle.links.items road passed by.starts.begun = subst (λ (z : Told). StartsAs r i o z old.block old.members old.links.items middle.links.items road passed by.starts.begun) wanting by.starts.starts.starts in
        starves (by.starts.is ∙ ap begun_as h.2)
    asked_by (inr answered) = started_by by.starts.starts.said refl answered by.starts.starts.starts

    pub ends : Ends
    ends = asked_by (said_so d r i o asks begins w net number node old.block old.members can office office' by.starts.starts.said at by.starts.starts.asks)

-- It begins as in the world, or doesn't by its cause.
pub begin_shows : {D R I O : Type 0} (d : desks.Ghosts D) (r : roads.Ghosts R I O) (i : link_in.Ghosts I) (o : link_out.Ghosts O) → PrimariesAsk → PrimariesBegin → (old middle new : running.Primary I O) (office office' : D) (road passed road' : R)
    (first : Result PrimaryStep PrimaryFault) (result : Result (PrimaryBegun I O) PrimaryFault) → BeginsBy d r i o old middle office office' road passed first → GoesOutBehind r i o first middle new passed road' result
    → length old.links.items ≡ length old.members → new.block ≡ old.block → new.members ≡ old.members → length new.links.items ≡ length new.members → BeginShows d r i o old new office office' road road' result
begin_shows d r i o asks begins old middle new office office' road passed road' first result by goes count block members sized =
    λ w net number node shows can at spelled. ends d r i o asks begins old middle new office office' road passed road' first result by goes w net number node shows can at count block members sized spelled
