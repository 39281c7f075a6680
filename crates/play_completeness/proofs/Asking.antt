-- What an idle end takes keeps all connections.
use Rattle.std.proofs.Common.{◌≡◌, ℕ, suc, ◌<◌, ◌≤◌, true, false, List, ◌∷◌, slice_get, Some, IfSome, refl, sym, ◌∙◌, ap, subst, arith}
use Rattle.std.specs.Prelude.{nat_lt}
use Rattle.hd_base.specs.declared.roads.TheConstants.{MAX_NODES}
use Rattle.op_headers.specs.declared.nodes.NodeRef.{NodeRef}
use Rattle.member_core.specs.declared.requests.TheConstants.{MAX_PORT}
use Rattle.world.specs.declared.events.Event.{Event}
use Rattle.world.specs.declared.events.Event.TheVariants as event
use Rattle.world.specs.Parts.{idle}
use Rattle.world.specs.Worlds.{World, start}
use Rattle.world.specs.Connections.{next_down, is_served}
use Rattle.world.specs.Nodes.{node_of, node_on}
use Rattle.world.specs.Events.{down_as, down_event, outcome, happens, run}
use Rattle.world_laws.specs.Placing.{Placed}
use Rattle.world_laws.proofs.FactTables.{and-left, when-each}
use Rattle.world_laws.proofs.PlacedLaws.{all-placed}
use Rattle.play_scripts.proofs.WorldAcks.AllAcked.{all-acked, all-waiting}
use Rattle.world_orders.specs.Orders.{Ordered}
use Rattle.world_orders.proofs.AllOrdered.{all-ordered}
use Rattle.world_closings.specs.WorldWriters.Taking.{IsUnmet, chain}
use Rattle.world_closings.proofs.WorldWriters.AllJoin.{all-join}
use Rattle.world_closings.proofs.WorldWriters.AllPiped.{all-piped}
use Rattle.play_model.specs.Laws.{IsQuiet}
use Rattle.play_scripts.specs.PlayLaws.Members.{IsNode, AllName, IsRef}
use Rattle.play_scripts.specs.PlayLaws.Nodes.{NodesRun}
use Rattle.play_scripts.proofs.PlayLaws.Aiming.{targets-are}
use Rattle.play_scripts.proofs.PlayLaws.Resting.{all-rest}
use Rattle.play_scripts.proofs.PlayLaws.Running.{all-run}
use Rattle.play_completeness.specs.Plain.{ArePlain}
use Rattle.play_completeness.specs.Links.{InPipeline, Links}
use Rattle.play_completeness.specs.Turning.{RequestsKeepLinks}
use Rattle.play_completeness.proofs.Awaiting.{plain-keeps-nodes}
use Rattle.play_completeness.proofs.DownTurns.{after-links}
use Rattle.play_completeness.proofs.Hearing.{less}
use Rattle.play_completeness.proofs.OneStamp.{OfWriter, live-of, one-waits}
use Rattle.play_completeness.proofs.Peace.{all-peaceful}
use Rattle.play_completeness.proofs.Requests.{Reaches, port-low, port-node, next-links}
use Rattle.play_completeness.proofs.TookRequest.{WaitsAlone}
use Rattle.play_completeness.proofs.TurnWorld.{named}
use Rattle.play_model.specs.Dues.{is_open}

zero-suc : (i : ℕ) → 0 ≡ suc i → ⊥
zero-suc i e = omega (arith, e)

ref-reaches : (w : World) (t : NodeRef) (nodes : ℕ) → nodes ≤ MAX_NODES → ((n : ℕ) → n < nodes → w.running n ≡ true) → IsRef (IsNode nodes) t → Reaches w t
ref-reaches w t nodes few runs r = record {
  node = r.node.0;
  low = subst (λ (x : NodeRef). x.xfer ≤ MAX_PORT) (sym r.is) (port-low r.node nodes few r.of);
  on = ap (λ (x : NodeRef). node_on x.xfer) r.is ∙ port-node r.node nodes few r.of;
  runs = runs r.node.0 r.of;
}

module _ (nodes : ℕ) (events : List Event) (few : nodes ≤ MAX_NODES) (plain : ArePlain events) (names : AllName (IsNode nodes) events) (quiet : IsQuiet (run (start nodes) events)) (links : Links (run (start nodes) events)) where
  abbrev w : World
  w = run (start nodes) events

  -- The writer of a live connection's block is connected, and the connection is of its stamp.
  pub live-writer : (c : ℕ) (lc : InPipeline w c) → is_open (w.lowers c) ≡ true → OfWriter w (links c lc).fields (links c lc).rule
  live-writer c lc live = live-of w (all-ordered nodes events) (all-placed nodes events) (all-piped nodes events) (all-rest nodes events) (all-acked nodes events).1.uppers quiet links c lc live

  asks : (c : ℕ) (lc : InPipeline w c) → w.lowers c ≡ idle → (x : Event) → IfSome (down_as w c true false (next_down w c)) (λ v. Links (named x v))
  asks c lc is x = next-links w o placed (all-peaceful nodes events plain) links c lc is alone unmet reach x (next_down w c) refl
    where
      o : Ordered w
      o = all-ordered nodes events

      placed : Placed w
      placed = all-placed nodes events

      alone : WaitsAlone w links c (links c lc).fields
      alone = record { each = λ d ld id same. one-waits w o placed (all-piped nodes events) (all-rest nodes events) (all-acked nodes events).1.uppers quiet links (all-waiting nodes events) d c ld lc id is same }

      unmet : (i : ℕ) → slice_get (chain w.past c (links c lc).fields) (suc i) ≡ Some (Some (node_of w c)) → ⊥
      unmet i at =
          let u : IsUnmet w.past w.nodes c (links c lc).fields = (all-join nodes events few).unmet c (links c lc).fields (record { asked = (links c lc).asked; waits = is }) in
          zero-suc i (u.apart 0 (suc i) (node_of w c) (placed.dialled c lc.known).to refl at)

      reach : (t : NodeRef) (rest : List NodeRef) → (links c lc).fields.targets ≡ t ∷ rest → Reaches w t
      reach t rest targets =
          let runs : NodesRun nodes w = all-run nodes events (plain-keeps-nodes events plain) in
          ref-reaches w t nodes few runs.runs (targets-are nodes events c 0 (links c lc).fields names (links c lc).asked.first 0 t (ap (λ (ts : List NodeRef). slice_get ts 0) targets))

pub requests-keep : RequestsKeepLinks
unfolding happens outcome
requests-keep nodes events c few plain names quiet links piped is =
    let w : World = run (start nodes) events in
    after-links w (event.Down c true) (down_event w c.0 true false) links
    (when-each (λ (v : World). Links (named (event.Down c true) v)) (is_served w c.0) _ (λ k.
    asks nodes events few plain names quiet links c.0 (record { known = less c.0 w (and-left (nat_lt c.0 w.next_conn) _ k); of = piped }) is (event.Down c true)))
