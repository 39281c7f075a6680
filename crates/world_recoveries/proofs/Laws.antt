-- What follows of the lengths of recoveries.
use Rattle.std.proofs.Common.{◌≡◌, ℕ, ◌≤◌, List, Some, sym, ◌∙◌, ap, subst, arith}
use Rattle.std.proofs.lemmas.Option.{same_Some}
use Rattle.hd_base.specs.declared.states.ReplicaState.TheVariants as state
use Rattle.replica_core.specs.declared.info.ReplicaInfo.{ReplicaInfo}
use Rattle.world_laws.specs.World.Event.{Event}
use Rattle.world_laws.specs.World.Parts.{Place}
use Rattle.world_laws.specs.World.Worlds.{World, start}
use Rattle.world_laws.specs.World.Events.{run}
use Rattle.world_laws.specs.Stamping.{Givens, none_given, given_in}
use Rattle.world_recoveries.specs.Recovering.{StillTrue, UpdateFits, Recovering, OneLength, UpdatesKeepFinalized}
use Rattle.world_recoveries.proofs.AllRecovering.{all-recovering}

-- an UPDATE shortens no replica that was FINALIZED
pub keep-finalized : (g : Givens) (w : World) → Recovering g w → UpdatesKeepFinalized w
keep-finalized g w h c b id n i u life e = λ held.
    let f = h.updates c b id n u in
    let at : Place → Type 0 = λ p. p.life ≡ w.lives p.node in
    let then : StillTrue id f.told (w.replicas (w.dialled f.conn).to.node b).known.info = h.still f.conn b id f.told f.informs (subst (λ (p : Place). p.life ≡ w.lives p.node) (sym f.to) life) in
    let here : StillTrue id f.told (w.replicas (w.dialled c).to.node b).known.info = subst (λ (p : Place). StillTrue id f.told (w.replicas p.node b).known.info) f.to then in
    fits f here (same_Some here.info i (sym here.is ∙ e)) held
  where
    fits : (f : UpdateFits w.past c b id n) (s : StillTrue id f.told (w.replicas (w.dialled c).to.node b).known.info) → s.info ≡ i → i.recovery ≡ Some id → (n ≤ i.written) × (i.original ≡ state.Finalized → n ≡ i.written)
    fits f s same held =
        let x = s.same (ap (λ (y : ReplicaInfo). y.recovery) same ∙ held) in
        let written : i.written ≡ f.told.2 = sym (ap (λ (y : ReplicaInfo). y.written) same) ∙ x.2 in
        (omega (arith, f.least, written), λ o. f.final (sym x.0 ∙ ap (λ (y : ReplicaInfo). y.original) same ∙ o) ∙ sym written)

pub all-one-length : (nodes : ℕ) (events : List Event) → OneLength (run (start nodes) events)
all-one-length nodes events = (all-recovering nodes events).one_length

pub all-keep-finalized : (nodes : ℕ) (events : List Event) → UpdatesKeepFinalized (run (start nodes) events)
all-keep-finalized nodes events = keep-finalized (given_in none_given (start nodes) events) (run (start nodes) events) (all-recovering nodes events)
