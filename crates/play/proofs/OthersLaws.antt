-- What the events of others leave of the reads and the recoveries of a play.
use Rattle.std.proofs.Common.{◌≡◌, false, List, refl, sym, subst}
use Rattle.hd_base.specs.declared.links.LinkIn as link_in
use Rattle.hd_base.specs.declared.links.LinkOut as link_out
use Rattle.hd_base.specs.declared.numbers.BlockId.{BlockId}
use Rattle.road_traffic.specs.Showing.{Net}
use Rattle.world.specs.Parts.{Upper, by_writer, by_member, by_reader, by_primary}
use Rattle.world.specs.Worlds.{World}
use Rattle.play_laws.specs.WorldOrders.Orders.{purpose_of, recovering}
use Rattle.node_stops.specs.PlayNodes.Showing.{is_pipeline}
use Rattle.play_dues.specs.PlayReads.Reads.{Reads}
use Rattle.play_dues.specs.PlayReads.Keeping.{ReadsStay, KeepsReads}
use Rattle.play_dues.specs.PlayReads.Showing.{ReadsShow}
use Rattle.play_dues.specs.PlayRecoveries.Recoveries.{Recoveries}
use Rattle.play_dues.specs.PlayRecoveries.Keeping.{RecoveriesStay, KeepsRecoveries}
use Rattle.play_dues.specs.PlayRecoveries.Showing.{RecoveriesShow}

-- What reads and recoveries show is kept.
pub record KeepsShown {I O : Type 0} (i : link_in.Ghosts I) (o : link_out.Ghosts O) (w : World) (net : Net) (v : World) (made : Net) : Type 0 where
  pub reads : KeepsReads i o w net v made
  pub recoveries : KeepsRecoveries i o w net v made

pub reads_left : {I O : Type 0} (i : link_in.Ghosts I) (o : link_out.Ghosts O) (w v : World) (net made : Net) (blocks blocks' : List BlockId) (reads : Reads I O) → ReadsStay i o → blocks' ≡ blocks → ReadsShow i o w net blocks reads → KeepsReads i o w net v made → ReadsShow i o v made blocks' reads
reads_left i o w v net made blocks blocks' reads stay same shows keeps = subst (λ (bs : List BlockId). ReadsShow i o v made bs reads) (sym same) (stay w net v made blocks reads shows keeps)

pub recoveries_left : {I O : Type 0} (i : link_in.Ghosts I) (o : link_out.Ghosts O) (w v : World) (net made : Net) (blocks blocks' : List BlockId) (recoveries : Recoveries I O) → RecoveriesStay i o → blocks' ≡ blocks → RecoveriesShow i o w net blocks recoveries → KeepsRecoveries i o w net v made → RecoveriesShow i o v made blocks' recoveries
recoveries_left i o w v net made blocks blocks' recoveries stay same shows keeps = subst (λ (bs : List BlockId). RecoveriesShow i o v made bs recoveries) (sym same) (stay w net v made blocks recoveries shows keeps)

-- a connection that a primary dialled is none of a pipeline
pub recovering_elsewhere : (u : Upper) → purpose_of u ≡ recovering → is_pipeline u ≡ false
recovering_elsewhere (by_writer b) of = cc
recovering_elsewhere (by_member d) of = cc
recovering_elsewhere (by_reader n) of = cc
recovering_elsewhere (by_primary n place) of = refl
