-- The own steps that the clients tell are those of the model.
use Rattle.std.proofs.Common.{◌≡◌, ℕ, zero, suc, Bool, List, [], ◌∷◌, ◌++◌, slice_get, Some, is_some, refl, sym, ap, ◌∙◌}
use Rattle.std.specs.Prelude.{◌&&◌, ◌||◌, is_none}
use Rattle.hd_base.specs.declared.links.LinkIn as link_in
use Rattle.hd_base.specs.declared.links.LinkOut as link_out
use Rattle.road_traffic.specs.Showing.{Net}
use Rattle.world.specs.Worlds.{World}
use Rattle.world.specs.declared.events.TakenCommand.{TakenCommand}
use Rattle.writer_core.specs.declared.records.WriterRecord.{WriterRecord}
use Rattle.writer_core.specs.Transitions.{has_step}
use Rattle.play_model.specs.declared.dues.Due.{Due}
use Rattle.play_model.specs.declared.dues.Due.TheVariants as due
use Rattle.play_model.specs.Dues.{Queues, own_due, own_dues, when}
use Rattle.play_clients.specs.declared.clients.Client.{Client}
use Rattle.play_clients.specs.Clients.{client_has_step}
use Rattle.play_clients.specs.Blocks.{blocks_of}
use Rattle.play_dues.specs.Own.{own_listed}
use Rattle.play_dues.specs.Showing.{QueueShows}

module _ {I O : Type 0} (i : link_in.Ghosts I) (o : link_out.Ghosts O) where
  pub own_so : (w : World) (net : Net) (queues : Queues) (c : Client I O) → QueueShows i o w net queues c → client_has_step c ≡ own_due (w.writers c.block.0) (queues c.block.0)
  own_so w net queues c h =
      ap (λ (x : WriterRecord). has_step x || (is_none x.waiting && is_some (slice_get c.queue.items 0))) (sym h.client_is.writer)
      ∙ ap (λ (q : List TakenCommand). own_due (w.writers c.block.0) q) h.queue

  -- The list of own steps is the model's.
  pub own_listed_so : (w : World) (net : Net) (queues : Queues) (cs : List (Client I O)) → ((k : ℕ) (c : Client I O) → slice_get cs k ≡ Some c → QueueShows i o w net queues c) → own_listed cs ≡ own_dues w queues (blocks_of cs)
  own_listed_so w net queues [] each = refl
  own_listed_so w net queues (c ∷ cs) each =
      ap (λ (b : Bool). when b (due.Own c.block) ++ own_listed cs) (own_so w net queues c (each zero c refl))
      ∙ ap (λ (xs : List Due). when (own_due (w.writers c.block.0) (queues c.block.0)) (due.Own c.block) ++ xs) (own_listed_so w net queues cs (λ k x found. each (suc k) x found))
