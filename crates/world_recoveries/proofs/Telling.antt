-- Where recoveries that were told of a replica, or that updated it, stand in its life.
use Rattle.std.proofs.Common.{◌≡◌, ℕ, ◌≤◌, Some, sym, ◌∙◌, ap, subst, arith}
use Rattle.std.proofs.lemmas.Option.{same_Some}
use Rattle.hd_base.specs.declared.numbers.Stamp.{Stamp}
use Rattle.replica_core.specs.declared.info.ReplicaInfo.{ReplicaInfo}
use Rattle.world_laws.specs.World.Parts.{Place, Updated}
use Rattle.world_laws.specs.World.Worlds.{World}
use Rattle.world_laws.specs.World.Safe.{Has}
use Rattle.world_laws.specs.Stamping.{Givens}
use Rattle.world_recoveries.specs.Recovering.{ReplicaTold, top_of, StillTrue, Informs, Recovering}

-- The recovery that was told of a replica in this life isn't above the one that holds it, or its stamp.
pub told-below : (g : Givens) (w : World) (c b : ℕ) (id : Stamp) (i : ReplicaTold) (p : Place) (info : ReplicaInfo) → Recovering g w → Informs w.past c b id i → (w.dialled c).to ≡ p → p.life ≡ w.lives p.node
    → (w.replicas p.node b).known.info ≡ Some info → id.0 ≤ top_of info
told-below g w c b id i p info h x at life is =
    let s : StillTrue id i (w.replicas p.node b).known.info =
    subst (λ (q : Place). StillTrue id i (w.replicas q.node b).known.info) at (h.still c b id i x (subst (λ (q : Place). q.life ≡ w.lives q.node) (sym at) life)) in
    omega (arith, s.above, ap (λ (z : ReplicaInfo). top_of z) (same_Some s.info info (sym s.is ∙ is)))

-- So is one that updated it in this life.
pub updated-below : (g : Givens) (w : World) (u : Updated) (info : ReplicaInfo) → Recovering g w → Has w.updated u → u.life ≡ w.lives u.node → (w.replicas u.node u.block).known.info ≡ Some info → u.recovery ≤ top_of info
updated-below g w u info h has life is =
    let s = h.updated u has in
    let f = h.updates s.conn u.block (record { 0 = u.recovery }) u.length s.sent in
    told-below g w f.conn u.block (record { 0 = u.recovery }) f.told (record { node = u.node; life = u.life }) info h f.informs (f.to ∙ s.to) life is
