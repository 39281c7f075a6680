-- What befalls in a play lowers its weight, where a write fails in it, too.
use Rattle.std.proofs.Common.{◌≡◌, ℕ, zero, suc, ◌<◌, ◌≤◌, ◌^◌, Bool, true, false, List, [], ◌∷◌, Some, None, refl, sym, subst}
use Rattle.std.specs.Prelude.{if◌then◌else◌}
use Rattle.hd_base.specs.declared.numbers.ConnId.{ConnId}
use Rattle.world.specs.declared.events.Delivery.TheVariants as delivery
use Rattle.world.specs.declared.events.Event.{Event}
use Rattle.world.specs.declared.events.Event.TheVariants as event
use Rattle.world.specs.Worlds.{World, start}
use Rattle.world.specs.Nodes.{node_of}
use Rattle.world.specs.Events.{happens, run}
use Rattle.world_writes.specs.Writes.{grows}
use Rattle.world_settling.specs.WorldTexts.Texts.{AllFit}
use Rattle.world_settling.proofs.Actors.{primaries-stay}
use Rattle.world_settling.proofs.Deliveries.{deliveries-lower}
use Rattle.play_model.proofs.WorldLaws.RunLaws.{runs-join}
use Rattle.play_model.specs.declared.asks.ReadAsk.{ReadAsk}
use Rattle.play_model.specs.declared.dues.Due.{Due}
use Rattle.play_model.specs.declared.dues.Due.TheVariants as due
use Rattle.play_model.specs.declared.recoveries.Recovery.{Recovery}
use Rattle.play_model.specs.States.{world_of}
use Rattle.play_model.specs.Dues.{Queues, due_events, queues_after}
use Rattle.play_model.specs.Faults.{Faults, number_at, events_with, befall_events, befalls}
use Rattle.play_settling.specs.Settling.{play_weight, CanHappen, PlaysLower}
use Rattle.play_settling.proofs.Sums.{lowers-all}
use Rattle.play_settling.proofs.Staying.{fault-leaves}
use Rattle.play_settling.proofs.Reading.{all-go-on, with-asks}
use Rattle.play_settling.proofs.Recovering.{with-recoveries}
use Rattle.play_settling.proofs.Failing.{writes-may-fail}
use Rattle.play_settling.proofs.Lowering.{dues-lower, due-so}

module _ (nodes : ℕ) (before : List Event) (queues : Queues) (blocks : List ℕ) (asks : List ReadAsk) (rs : List Recovery) (fit : AllFit before) (left : (run (start nodes) before).office.next.0 ≤ 2 ^ 64) where
  abbrev here : World
  here = run (start nodes) before

  -- less is to be done after these events
  abbrev LowersBy : Due → List Event → Type 0
  LowersBy d events = play_weight (run here events) (queues_after here queues d) blocks asks rs < play_weight here queues blocks asks rs

  due-lowers-so : (d : Due) → CanHappen here queues blocks asks rs d → LowersBy d (due_events here queues d)
  due-lowers-so d h = subst (LowersBy d) (due-so here queues d) (dues-lower nodes before queues blocks asks rs d true fit left h)

  -- where a replica grows its write fails
  fault-lowers : (c : ConnId) → grows here c.0 ≡ true → LowersBy (due.Down c) (event.Fault (delivery.Down c) ∷ [])
  fault-lowers c grown =
      let fault : Event = event.Fault (delivery.Down c) in
      let v : World = happens here fault in
      with-recoveries here v queues queues blocks asks rs (λ i. primaries-stay here fault i refl)
      (with-asks here v queues queues blocks asks (all-go-on here (fault ∷ []))
      (lowers-all here v queues queues blocks (fault-leaves here c) (λ a. refl) (deliveries-lower nodes before fault refl (writes-may-fail here c grown))))

  down-lowers : (faults : Faults) (c : ConnId) → CanHappen here queues blocks asks rs (due.Down c) → LowersBy (due.Down c) (befall_events here queues faults (due.Down c))
  down-lowers faults c h = by (grows here c.0) refl
    where
      number-lowers : (n : ℕ) → grows here c.0 ≡ true → LowersBy (due.Down c) (events_with n here queues (due.Down c))
      number-lowers zero e = due-lowers-so (due.Down c) h
      number-lowers (suc zero) e = fault-lowers c e
      number-lowers (suc (suc n)) e = due-lowers-so (due.Down c) h

      by : (q : Bool) → grows here c.0 ≡ q → LowersBy (due.Down c) (events_with (number_at faults (if q then Some (node_of here c.0) else None)) here queues (due.Down c))
      by true e = number-lowers (faults (node_of here c.0)) e
      by false e = due-lowers-so (due.Down c) h

  befalling-lowers : (faults : Faults) (d : Due) → CanHappen here queues blocks asks rs d → LowersBy d (befall_events here queues faults d)
  befalling-lowers faults (due.Own b) h = due-lowers-so (due.Own b) h
  befalling-lowers faults (due.Reader ask) h = due-lowers-so (due.Reader ask) h
  befalling-lowers faults (due.Primary r) h = due-lowers-so (due.Primary r) h
  befalling-lowers faults (due.Down c) h = down-lowers faults c h
  befalling-lowers faults (due.Ready c) h = due-lowers-so (due.Ready c) h
  befalling-lowers faults (due.Up c) h = due-lowers-so (due.Up c) h

pub plays-lower : PlaysLower
unfolding befalls
plays-lower blocks p d fit left h =
    let w : World = world_of p in
    let befallen : List Event = befall_events w p.queues p.faults d in
    subst (λ (v : World). play_weight v (queues_after w p.queues d) blocks p.asks p.recoveries < play_weight w p.queues blocks p.asks p.recoveries)
    (sym (runs-join (start p.nodes) p.events befallen))
    (befalling-lowers p.nodes p.events p.queues blocks p.asks p.recoveries fit left p.faults d h)
