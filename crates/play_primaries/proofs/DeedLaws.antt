-- What a primary's next own step is.
use Rattle.std.proofs.Common.{◌≡◌, ◌⊎◌, inl, inr, Bool, true, false, refl, sym, ap, ◌∙◌, subst}
use Rattle.std.specs.Prelude.{◌&&◌, is_none}
use Rattle.hd_base.specs.declared.links.LinkIn as link_in
use Rattle.hd_base.specs.declared.links.LinkOut as link_out
use Rattle.recovery_core.specs.declared.primary.OwnStep.{OwnStep}
use Rattle.recovery_core.specs.declared.primary.OwnStep.TheVariants as own
use Rattle.recovery_core.specs.declared.primary.Recovered.{Recovered}
use Rattle.recovery_core.specs.Primaries.{is_commit, own_step}
use Rattle.primary_events.specs.BlockRecovery.Primary as running
use Rattle.primary_events.specs.BlockRecovery.Awaiting.{commits_next}
use Rattle.road_traffic.specs.Showing.{Net}
use Rattle.primary_events.specs.World.Parts.{Leading, Primary}
use Rattle.primary_events.specs.World.Worlds.{World}
use Rattle.play_readers.specs.PlayModel.Recovery.{Recovery}
use Rattle.play_readers.specs.PlayModel.Recoveries.{acts, leads_events, primary_due, primary_events}
use Rattle.play_primaries.specs.declared.clients.PrimaryClient.{PrimaryClient}
use Rattle.play_primaries.specs.declared.clients.PrimaryState.{PrimaryState}
use Rattle.play_primaries.specs.declared.clients.PrimaryState.TheVariants as state
use Rattle.play_primaries.specs.declared.deeds.Deed.{Deed}
use Rattle.play_primaries.specs.declared.deeds.Deed.TheVariants as deed
use Rattle.play_primaries.specs.Clients.{HasStopped, LeadsOn, PrimaryClientShows, StateShows}
use Rattle.play_primaries.specs.Deeds.{deed_events, TellsDeed}

-- what a primary does that leads
abbrev pub deed_of : Bool → Deed
deed_of true = deed.Commits
deed_of false = deed.GoesOn

deed_so : (r : Recovery) (s : OwnStep) → deed_events r (deed_of (is_commit s)) ≡ leads_events s r
deed_so r own.Waits = refl
deed_so r (own.Updates c) = refl
deed_so r (own.Commits c) = refl
deed_so r (own.Ends e) = refl

false_true : false ≡ true → ⊥
false_true e = cc

module _ {I O : Type 0} (i : link_in.Ghosts I) (o : link_out.Ghosts O) (client : PrimaryClient I O) where
  abbrev r : Recovery
  r = client.recovery

  shows_as : (w : World) (net : Net) (st : PrimaryState I O) → client.state ≡ st → PrimaryClientShows i o w net client → StateShows i o w net r st
  shows_as w net st is h = subst (λ (x : PrimaryState I O). StateShows i o w net r x) is h

  -- It hasn't begun.
  pub new_tells : client.state ≡ state.New → TellsDeed i o client deed.Begins
  new_tells is = λ w net h due. sym (ap (λ (q : Primary). primary_events q r) (shows_as w net state.New is h).is)

  -- It leads.
  pub led_tells : (p : running.Primary I O) (b : Bool) → client.state ≡ state.Leads p → b ≡ commits_next p.core → TellsDeed i o client (deed_of b)
  led_tells p b is told = λ w net h due.
      let k : LeadsOn i o w net r p = shows_as w net (state.Leads p) is h in
      let l : Leading = k.leading in
      ap (λ (x : Bool). deed_events r (deed_of x)) (told ∙ ap commits_next k.leads_so.shows.core)
      ∙ (deed_so r (own_step l.state).does ∙ sym (ap (λ (q : Primary). primary_events q r) k.leads_so.shows.leads_so))

  -- It has its result, and has no step.
  ended_tells : (e : Recovered) (d : Deed) → client.state ≡ state.HasLed e → TellsDeed i o client d
  ended_tells e d is = λ w net h due. absurd (false_true (sym (ap (λ (q : Primary). primary_due q w r) (shows_as w net (state.HasLed e) is h)) ∙ due))

  -- Its node has stopped, and it has no step.
  stopped_tells : (d : Deed) → client.state ≡ state.Stopped → TellsDeed i o client d
  stopped_tells d is = λ w net h due.
      let k : HasStopped w r = shows_as w net state.Stopped is h in
      let l : Leading = k.leading in
      absurd (false_true (sym (ap (λ (q : Primary). primary_due q w r) k.is ∙ ap (λ (b : Bool). b && (is_none l.told && acts (own_step l.state).does)) k.gone) ∙ due))

  -- Either has no step.
  pub idle_tells : (d : Deed) → ((e : Recovered) × (client.state ≡ state.HasLed e)) ⊎ (client.state ≡ state.Stopped) → TellsDeed i o client d
  idle_tells d (inl ended) = ended_tells ended.0 d ended.1
  idle_tells d (inr is) = stopped_tells d is
