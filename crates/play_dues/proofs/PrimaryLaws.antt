-- The own steps that the clients of primaries tell are those of the model.
use Rattle.std.proofs.Common.{◌≡◌, ℕ, zero, suc, Bool, List, [], ◌∷◌, ◌++◌, slice_get, Some, refl, ap, ◌∙◌}
use Rattle.hd_base.specs.declared.links.LinkIn as link_in
use Rattle.hd_base.specs.declared.links.LinkOut as link_out
use Rattle.road_traffic.specs.Showing.{Net}
use Rattle.world.specs.Worlds.{World}
use Rattle.play_model.specs.declared.dues.Due.{Due}
use Rattle.play_model.specs.declared.dues.Due.TheVariants as due
use Rattle.play_model.specs.Dues.{Queues, primary_dues, when}
use Rattle.play_model.specs.Recoveries.{recovery_due}
use Rattle.play_reads.specs.PlayPrimaries.PrimaryClient.{PrimaryClient}
use Rattle.play_reads.specs.PlayPrimaries.Clients.{PrimaryClientShows}
use Rattle.play_reads.proofs.PlayPrimaries.DueLaws.{state_due}
use Rattle.play_recoveries.specs.Places.{recoveries_of}
use Rattle.play_dues.specs.Primaries.{primaries_listed}

module _ {I O : Type 0} (i : link_in.Ghosts I) (o : link_out.Ghosts O) (w : World) (net : Net) where
  -- The list of own steps is the model's.
  pub primaries_listed_so : (queues : Queues) (cs : List (PrimaryClient I O)) → ((k : ℕ) (c : PrimaryClient I O) → slice_get cs k ≡ Some c → PrimaryClientShows i o w net c) → primaries_listed cs ≡ primary_dues w queues (recoveries_of cs)
  primaries_listed_so queues [] each = refl
  primaries_listed_so queues (c ∷ cs) each =
      ap (λ (b : Bool). when b (due.Primary c.recovery) ++ primaries_listed cs) (state_due i o c.state w net c.recovery (each zero c refl))
      ∙ ap (λ (xs : List Due). when (recovery_due w c.recovery) (due.Primary c.recovery) ++ xs) (primaries_listed_so queues cs (λ k x found. each (suc k) x found))
