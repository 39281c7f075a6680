-- Why recoveries leave what was answered: by the order of their ids.
use Rattle.std.proofs.Common.{◌≡◌, ℕ, zero, suc, ◌<◌, ◌≤◌, ◌⊎◌, inl, inr, Bool, true, false, Some, refl, sym, ◌∙◌, ap, subst, arith, eqb-true}
use Rattle.std.specs.Prelude.{◌==◌}
use Rattle.std.proofs.lemmas.Bool.{eqb-false}
use Rattle.std.proofs.lemmas.Option.{same_Some}
use Rattle.hd_base.specs.declared.numbers.Stamp.{Stamp}
use Rattle.hd_base.specs.declared.states.ReplicaState.TheVariants as state
use Rattle.world.specs.Parts.{Place, Answered, Updated}
use Rattle.world.specs.Worlds.{World}
use Rattle.world.specs.Safe.{Has}
use Rattle.world_laws.specs.Stamping.{Givens}
use Rattle.world_laws.specs.Placing.{Placed}
use Rattle.world_acks.specs.WorldRecoveries.Recovering.{ReplicaTold, Informs, InfoFits, UpdateFits, WasSent, ToldOpen, Recovering}
use Rattle.world_acks.specs.WorldRecoveries.Naming.{NoneStale}
use Rattle.world_acks.specs.Acking.{EarlierLeave, TellsBytes}
use Rattle.world_writers.specs.Leaving.{JoinedSince, ToldSince, LaterSessionsKeep, UpdatesKeep}

-- what is known of the world
pub record Leaving (g : Givens) (w : World) (a : Answered) : Type 0 where
  pub recovering : Recovering g w
  pub stale : NoneStale w
  pub placed : Placed w
  pub told : ToldSince g w a
  pub later : LaterSessionsKeep g w a

place-is : (p : Place) (n l : ℕ) → p.node ≡ n → p.life ≡ l → record { node = n; life = l } ≡ p
place-is p n l e q = ap (λ (m : ℕ). record { node = m; life = l }) (sym e) ∙ ap (λ (m : ℕ). record { node = p.node; life = m }) (sym q)

-- an update of a place, with a recovery that has an id above the stamp and below the bound
abbrev IsUpdate : World → Answered → ℕ → Place → ℕ → Updated → Type 0
IsUpdate w a stamp at bound u = Has w.updated u × (u.node ≡ at.node) × (u.life ≡ at.life) × (u.block ≡ a.block) × (stamp < u.recovery) × (u.recovery < bound)

-- those with a lesser id leave the answered bytes
earlier-leave : (g : Givens) (w : World) (a : Answered) (bound id : ℕ) → ((stamp : ℕ) (at : Place) → at.node < w.nodes → JoinedSince g w a stamp at → (u : Updated) → IsUpdate w a stamp at bound u → a.length ≤ u.length) → id ≤ bound
    → (stamp : ℕ) (at : Place) → at.node < w.nodes → JoinedSince g w a stamp at → EarlierLeave w.past a.block stamp id at.node at.life a.length
earlier-leave g w a bound id h le stamp at lt j = record { each = λ u q n l b above below. h stamp at lt j u (q, n, l, b, above, omega (arith, below, le)) }

-- what an open replica told that the least length is of
opens-keep : (g : Givens) (w : World) (a : Answered) (k : Leaving g w a) (h : Has w.answered a) (stamp c n : ℕ) (id : Stamp) (i : ReplicaTold) (lt : (w.dialled c).to.node < w.nodes) (j : JoinedSince g w a stamp (w.dialled c).to) → Informs w.past c a.block id i → stamp < id.0
    → ((s : ℕ) (p : Place) → p.node < w.nodes → JoinedSince g w a s p → EarlierLeave w.past a.block s id.0 p.node p.life a.length) → ToldOpen w.past a.block id n → a.length ≤ n
opens-keep g w a k h stamp c n id i lt j x above earlier o = go (fits.session == j.session) refl
  where
    fits : InfoFits g w.past o.conn a.block o.informs.asked.block.stamp id o.told
    fits = k.recovering.told o.conn a.block id o.told o.informs

    at : Place
    at = (w.dialled o.conn).to

    since : a.stamp ≤ o.told.1.0
    since = k.stale o.conn a.block id o.told o.informs a h refl (omega (arith, j.since, above))

    same : fits.session ≡ j.session → a.length ≤ o.told.2
    same e =
        let y : JoinedSince g w a o.told.1.0 at = record { session = j.session; answer = j.answer; given = fits.given ∙ ap (λ (s : ℕ). Some s) e; since = since; joins = fits.joins o.is_open } in
        let there : at.node < w.nodes = (k.placed.dialled o.conn fits.known).to in
        ((k.told o.told.1.0 at there y).each o.conn id o.told o.informs refl fits.below a.length (omega arith) (earlier o.told.1.0 at there y)).enough

    other : (fits.session ≡ j.session → ⊥) → a.length ≤ o.told.2
    other e = k.later stamp c o.conn id o.told (record { told = i; informs = x; above = above; joins = j; earlier = earlier stamp (w.dialled c).to lt j }) o.informs o.is_open
        (record { session = fits.session; given = fits.given; apart = λ q. e (same_Some fits.session j.session (sym q ∙ j.answer)) })

    go : (t : Bool) → (fits.session == j.session) ≡ t → a.length ≤ n
    go true e = omega (arith, o.length, same (eqb-true fits.session j.session e))
    go false e = omega (arith, o.length, other (eqb-false fits.session j.session e))

-- what was told of a replica that was open or FINALIZED
sent-keeps : (g : Givens) (w : World) (a : Answered) (k : Leaving g w a) (h : Has w.answered a) (stamp d n : ℕ) (id : Stamp) (at : Place) (lt : at.node < w.nodes) (j : JoinedSince g w a stamp at) → (w.dialled d).to ≡ at → stamp < id.0
    → ((s : ℕ) (p : Place) → p.node < w.nodes → JoinedSince g w a s p → EarlierLeave w.past a.block s id.0 p.node p.life a.length) → UpdateFits w.past d a.block id n → a.length ≤ n
sent-keeps g w a k h stamp d n id at lt j to above earlier f = go t.is
  where
    here : (w.dialled f.conn).to ≡ at
    here = f.to ∙ to

    t : TellsBytes f.told a.length
    t = (k.told stamp at lt j).each f.conn id f.told f.informs here above a.length (omega arith) (earlier stamp at lt j)

    go : (f.told.0 ≡ state.Rbw) ⊎ (f.told.0 ≡ state.Finalized) → a.length ≤ n
    go (inl e) =
        opens-keep g w a k h stamp f.conn n id f.told (subst (λ (p : Place). p.node < w.nodes) (sym here) lt) (subst (λ (p : Place). JoinedSince g w a stamp p) (sym here) j) f.informs above earlier (f.opens e)
    go (inr e) = omega (arith, f.final e, t.enough)

leaves : (g : Givens) (w : World) (a : Answered) → Leaving g w a → Has w.answered a → (bound stamp : ℕ) (at : Place) → at.node < w.nodes → JoinedSince g w a stamp at → (u : Updated) → IsUpdate w a stamp at bound u → a.length ≤ u.length
leaves g w a k h zero stamp at lt j u (has, node, life, block, above, below) = absurd (omega (arith, below))
leaves g w a k h (suc m) stamp at lt j u (has, node, life, block, above, below) =
    let s : WasSent w.past u = k.recovering.updated u has in
    let f : UpdateFits w.past s.conn u.block (record { 0 = u.recovery }) u.length = k.recovering.updates s.conn u.block (record { 0 = u.recovery }) u.length s.sent in
    sent-keeps g w a k h stamp s.conn u.length (record { 0 = u.recovery }) at lt j (s.to ∙ place-is at u.node u.life (sym node) (sym life)) above
    (earlier-leave g w a m u.recovery (λ q p l y v z. leaves g w a k h m q p l y v z) (omega (arith, below)))
    (subst (λ (b : ℕ). UpdateFits w.past s.conn b (record { 0 = u.recovery }) u.length) block f)

pub updates-keep : (g : Givens) (w : World) (a : Answered) → Leaving g w a → Has w.answered a → UpdatesKeep g w a
updates-keep g w a k h stamp at lt j = record { each = λ u has node life block above. leaves g w a k h (suc u.recovery) stamp at lt j u (has, node, life, block, above, omega arith) }
