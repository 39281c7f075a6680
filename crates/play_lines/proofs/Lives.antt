-- Each primary leads in a life of its node that has begun.
use Rattle.std.proofs.Common.{◌≡◌, ◌≤◌, ℕ, Bool, true, List, sym, ap, ◌∙◌, subst, arith, eqb-true}
use Rattle.std.specs.Prelude.{◌==◌, ◌&&◌}
use Rattle.std.proofs.lemmas.Bool.{and_parts}
use Rattle.hd_base.specs.declared.links.LinkIn as link_in
use Rattle.hd_base.specs.declared.links.LinkOut as link_out
use Rattle.hd_base.specs.declared.numbers.BlockId.{BlockId}
use Rattle.world.specs.RecoveryCore.Recovered.{Recovered}
use Rattle.road_traffic.specs.Showing.{Net}
use Rattle.world.specs.Parts.{Leading, no_primary, leads, has_led}
use Rattle.world.specs.Worlds.{World}
use Rattle.play_model.specs.declared.recoveries.Recovery.{Recovery}
use Rattle.play_opening.specs.PlayPrimaries.PrimaryState.{PrimaryState}
use Rattle.play_opening.specs.PlayPrimaries.PrimaryState.TheVariants as state
use Rattle.play_opening.specs.PlayPrimaries.Clients.{StateShows}
use Rattle.play_opening.specs.PlayRecoveries.Recoveries.{Recoveries}
use Rattle.play_opening.specs.PlayRecoveries.Showing.{RecoveriesShow}

abbrev pub PrimariesLived : World → Type 0
PrimariesLived w = (number : ℕ) (l : Leading) → w.primaries number ≡ leads l → l.at.life ≤ w.lives l.at.node

not_begun : (l : Leading) → no_primary ≡ leads l → ⊥
not_begun l e = cc

not_over : (led : Recovered) (l : Leading) → has_led led ≡ leads l → ⊥
not_over led l e = cc

same_leading : (k l : Leading) → leads k ≡ leads l → k ≡ l
same_leading k l e = cc

-- a node that runs in a life is in this one
alive_life : (r : Bool) (lives life : ℕ) → (r && lives == life) ≡ true → life ≤ lives
alive_life r lives life h =
    let same : lives ≡ life = eqb-true lives life (and_parts r (lives == life) h).1 in
    omega (arith, same)

module _ {I O : Type 0} (i : link_in.Ghosts I) (o : link_out.Ghosts O) (w : World) (net : Net) where
  -- as the client of a primary tells
  lived_so : (rec : Recovery) (st : PrimaryState I O) (l : Leading) → StateShows i o w net rec st → w.primaries rec.primary ≡ leads l → l.at.life ≤ w.lives l.at.node
  lived_so rec state.New l h is = absurd (not_begun l (sym h.is ∙ is))
  lived_so rec (state.Leads primary) l h is =
      let k : Leading = h.leading in
      subst (λ (x : Leading). x.at.life ≤ w.lives x.at.node) (same_leading k l (sym h.leads_so.shows.leads_so ∙ is)) (alive_life (w.running k.at.node) (w.lives k.at.node) k.at.life h.leads_so.alive)
  lived_so rec (state.HasLed led) l h is = absurd (not_over led l (sym h ∙ is))
  lived_so rec state.Stopped l h is = subst (λ (x : Leading). x.at.life ≤ w.lives x.at.node) (same_leading h.leading l (sym h.is ∙ is)) h.past

  pub primaries_lived : (blocks : List BlockId) (recoveries : Recoveries I O) → RecoveriesShow i o w net blocks recoveries → PrimariesLived w
  primaries_lived blocks recoveries h number l is =
      let k = h.clients.all number (λ none. not_begun l (sym none ∙ is)) in
      lived_so k.client.recovery k.client.state l (h.clients.each k.place k.client k.at) (ap (λ (n : ℕ). w.primaries n) k.of_primary ∙ is)
