-- What a change leaves of what is known of recoveries, and what is needed of what is new in it.
use Rattle.std.proofs.Common.{◌≡◌, ◌++◌, ℕ, ◌<◌, ◌≤◌, ◌+◌, ◌-◌, ◌⊎◌, inl, inr, false, List, [], length, slice_get, Option, Some, None, IfSome, refl, sym, ◌∙◌, ap, subst, arith, eqb-true}
use Rattle.std.specs.Prelude.{◌==◌, option_map, unwrap_or}
use Rattle.std.proofs.lemmas.Bool.{eqb-false}
use Rattle.std.proofs.lemmas.Option.{none-some, same_Some}
use Rattle.hd_base.specs.declared.numbers.Stamp.{Stamp}
use Rattle.op_headers.specs.declared.answers.RecoveryAnswer.{RecoveryAnswer}
use Rattle.op_headers.specs.declared.ops.Op.TheVariants as op
use Rattle.op_headers.specs.declared.ops.RecoveryOp.{RecoveryOp}
use Rattle.op_headers.specs.declared.ops.RecoveryKind.TheVariants as kind
use Rattle.world_laws.specs.ReplicaModel.Rows.{FullReplica}
use Rattle.replica_core.specs.declared.info.ReplicaInfo.{ReplicaInfo}
use Rattle.world_laws.specs.World.Parts.{request, recovery_answer, by_primary, Place, Dialled, Primary, Updated}
use Rattle.world_laws.specs.World.Worlds.{Past, World, Dial, Change, put, put_at, dial_at, dialled_with, past_after, apply}
use Rattle.world_laws.proofs.FactTables.{if-each, put-each}
use Rattle.world_laws.specs.Stamping.{Givens}
use Rattle.world_laws.specs.Carrying.{InfoSays, Carried}
use Rattle.world_laws.proofs.ByteFrame.{past-grows, dial-place, dial-none}
use Rattle.world_laws.specs.Joining.{AtLeast}
use Rattle.world_laws.proofs.SetupNodes.{put-at-split}
use Rattle.world_laws.specs.World.Safe.{Has}
use Rattle.world_recoveries.specs.Recovering.{ReplicaTold, top_of, WasSent, Informs, Updates, Agrees, StillTrue, InfoFits, UpdateFits, NoUpdates, HasId, LeadFits, SendsFits, IsPlacedIn, Recovering}
use Rattle.world_recoveries.specs.Telling.{TellsNow, TellsFrom}
use Rattle.world_recoveries.proofs.Histories.{split-get, begins-get, first-once, agrees-later, info-later, update-later, was-sent-later, lead-later, sends-later, NewDown, was_sent, is_sent, is_dialled, new-down}
use Rattle.world_recoveries.proofs.Holding.{AtTop, Tops, Moves, still-moves}

-- WHAT IS NEW

-- what a member tells, of the replica that changes
pub record NewInfo (g : Givens) (w : World) (k : Change) (c : ℕ) (i : ReplicaTold) : Type 0 where
  pub known : c < w.next_conn
  pub node : (w.dialled c).to.node ≡ k.node
  pub asked : RecoveryOp
  pub first : slice_get ((past_after w k).downs c) 0 ≡ Some (request (op.Recovery asked))
  pub block : asked.block.block.0 ≡ k.block
  pub fits : InfoFits g (past_after w k) c k.block asked.block.stamp asked.recovery i
  pub still : StillTrue asked.recovery i k.replica.known.info
  pub now : TellsNow w.running w.lives w.replicas (w.dialled c).to k.block asked.recovery i
  pub none : k.updated ≡ []

-- a replica that is updated: that was sent, and its recovery held it
pub record IsUpdated (w : World) (k : Change) (h : Past) (u : Updated) : Type 0 where
  pub sent : WasSent h u
  pub node : u.node ≡ k.node
  pub block : u.block ≡ k.block
  pub life : u.life ≡ w.lives k.node
  pub was : ReplicaInfo
  pub is : (w.replicas k.node k.block).known.info ≡ Some was
  pub held : top_of was ≡ u.recovery
  pub now : AtLeast k.replica.known.info u.recovery

-- an UPDATE of this length that the primary sends, which has sent none before
pub record NewUpdate (w : World) (k : Change) (length c : ℕ) (q : RecoveryOp) : Type 0 where
  pub fits : UpdateFits (past_after w k) c q.block.block.0 q.recovery q.new_length
  pub is : q.new_length ≡ length
  pub holder : HasId (w.primaries k.primary_at) q.recovery
  pub none : NoUpdates w.past q.recovery

pub record NewAsk (w : World) (k : Change) (length c : ℕ) (q : RecoveryOp) : Type 0 where
  pub agrees : Agrees (past_after w k) c q
  pub update : q.kind ≡ kind.Update → NewUpdate w k length c q

pub record NewDial (w : World) (k : Change) (j : ℕ) (d : Dial) : Type 0 where
  pub life : d.dialled.to.life ≡ w.lives d.dialled.to.node
  pub agrees : (q : RecoveryOp) → d.request ≡ request (op.Recovery q) → Agrees (past_after w k) (w.next_conn + j) q
  pub no_update : (q : RecoveryOp) → d.request ≡ request (op.Recovery q) → q.kind ≡ kind.Update → ⊥
  pub placed : (i place : ℕ) → d.dialled.upper ≡ by_primary i place → IsPlacedIn (w.next_conn + j) place (put w.primaries k.primary_at k.primary i)

pub record News (g : Givens) (w : World) (k : Change) : Type 0 where
  pub moves : Moves (w.replicas k.node k.block).known.info k.replica.known.info
  pub infos : (c j : ℕ) (a : RecoveryAnswer) (i : ReplicaTold) → slice_get (k.ups c) j ≡ Some (recovery_answer a) → a.info ≡ Some i → NewInfo g w k c i
  pub length : ℕ
  pub asks : (c j : ℕ) (q : RecoveryOp) → slice_get (k.downs c) j ≡ Some (request (op.Recovery q)) → NewAsk w k length c q
  pub dials : (j : ℕ) (d : Dial) → slice_get k.dials j ≡ Some d → NewDial w k j d
  pub primary : LeadFits (past_after w k) k.primary
  pub sends : SendsFits (past_after w k) k.primary
  pub ids : (id : Stamp) → HasId k.primary id → HasId (w.primaries k.primary_at) id ⊎ ((j : ℕ) → HasId (w.primaries j) id → ⊥)
  pub placed : (c place : ℕ) → c < w.next_conn → (w.dialled c).upper ≡ by_primary k.primary_at place → IsPlacedIn c place k.primary
  pub updated : (u : Updated) → Has k.updated u → IsUpdated w k (past_after w k) u

-- CONNECTIONS

-- what an old or a new connection is
dialled-each : (P : ℕ → Dialled → Type 0) (w : World) (k : Change) → ((c : ℕ) → c < w.next_conn → P c (w.dialled c)) → ((j : ℕ) (d : Dial) → slice_get k.dials j ≡ Some d → P (w.next_conn + j) d.dialled)
    → (c : ℕ) → c < w.next_conn + length k.dials → P c (dialled_with w k c)
dialled-each P w k old new c lt = go (dial_at w.next_conn k.dials c) refl
  where
    go : (o : Option Dial) → dial_at w.next_conn k.dials c ≡ o → P c (unwrap_or (option_map (λ d. d.dialled) o) (w.dialled c))
    go None e = old c (dial-none w.next_conn k.dials c e lt)
    go (Some d) e = let at = dial-place w.next_conn k.dials c d e in subst (λ (n : ℕ). P n d.dialled) at.1 (new (c - w.next_conn) d at.0)

-- WHAT WAS TOLD

-- what was told before, or is told now
old-informs : (g : Givens) (w : World) (k : Change) (c b : ℕ) (id : Stamp) (i : ReplicaTold) (x : Informs (past_after w k) c b id i) (j : ℕ) → Carried g w → slice_get (w.ups c) j ≡ Some (recovery_answer x.answer) → Informs w.past c b id i
old-informs g w k c b id i x j h e =
    let says = subst (λ (o : Option ReplicaTold). IfSome o (λ y. InfoSays g w.past c y.2)) x.info (h.ups c j (recovery_answer x.answer) e) in
    let first = says.first in
    let d = past-grows w k in
    let same = first-once first.asked x.asked (slice_get ((past_after w k).downs c) 0) (begins-get (w.downs c) ((past_after w k).downs c) 0 (request (op.Recovery first.asked)) (d.downs c) first.first) x.first in
    record {
      asked = x.asked;
      first = subst (λ (q : RecoveryOp). slice_get (w.downs c) 0 ≡ Some (request (op.Recovery q))) same first.first;
      block = x.block;
      recovery = x.recovery;
      place = j;
      answer = x.answer;
      there = e;
      info = x.info;
    }

-- what is told now, of the recovery that the connection is of
pub record IsNews (g : Givens) (w : World) (k : Change) (c b : ℕ) (id : Stamp) (asked : RecoveryOp) (i : ReplicaTold) : Type 0 where
  pub known : c < w.next_conn
  pub node : (w.dialled c).to.node ≡ k.node
  pub block : b ≡ k.block
  pub fits : InfoFits g (past_after w k) c b asked.block.stamp id i
  pub still : StillTrue id i k.replica.known.info
  pub now : TellsNow w.running w.lives w.replicas (w.dialled c).to b id i
  pub none : k.updated ≡ []

new-informs : (g : Givens) (w : World) (k : Change) (c b : ℕ) (id : Stamp) (i : ReplicaTold) (x : Informs (past_after w k) c b id i) → NewInfo g w k c i → IsNews g w k c b id x.asked i
new-informs g w k c b id i x n =
    let same = first-once n.asked x.asked (slice_get ((past_after w k).downs c) 0) n.first x.first in
    let at : k.block ≡ b = sym n.block ∙ ap (λ (q : RecoveryOp). q.block.block.0) same ∙ x.block in
    let is : n.asked.recovery ≡ id = ap (λ (q : RecoveryOp). q.recovery) same ∙ x.recovery in
    let p = past_after w k in
    record {
      known = n.known;
      node = n.node;
      block = sym at;
      fits = subst (λ (y : ℕ). InfoFits g p c y x.asked.block.stamp id i) at
          (subst (λ (s : Stamp). InfoFits g p c k.block x.asked.block.stamp s i) is
          (subst (λ (s : Stamp). InfoFits g p c k.block s n.asked.recovery i) (ap (λ (q : RecoveryOp). q.block.stamp) same) n.fits));
      still = subst (λ (s : Stamp). StillTrue s i k.replica.known.info) is n.still;
      now = subst (λ (y : ℕ). TellsNow w.running w.lives w.replicas (w.dialled c).to y id i) at
          (subst (λ (s : Stamp). TellsNow w.running w.lives w.replicas (w.dialled c).to k.block s i) is n.now);
      none = n.none;
    }

pub informs-either : (g l : Givens) (w : World) (k : Change) (c b : ℕ) (id : Stamp) (i : ReplicaTold) → Carried g w → News l w k → (x : Informs (past_after w k) c b id i) → Informs w.past c b id i ⊎ IsNews l w k c b id x.asked i
informs-either g l w k c b id i h n x = go (split-get (w.ups c) (k.ups c) x.place (recovery_answer x.answer) x.there)
  where
    go : ((j : ℕ) × (slice_get (w.ups c) j ≡ Some (recovery_answer x.answer))) ⊎ ((j : ℕ) × (slice_get (k.ups c) j ≡ Some (recovery_answer x.answer))) → Informs w.past c b id i ⊎ IsNews l w k c b id x.asked i
    go (inl q) = inl (old-informs g w k c b id i x q.0 h q.1)
    go (inr q) = inr (new-informs l w k c b id i x (n.infos c q.0 x.answer i q.1 x.info))

-- the requests that were first stay first
same-asked : (w : World) (k : Change) (c b : ℕ) (id : Stamp) (i : ReplicaTold) (x : Informs (past_after w k) c b id i) (y : Informs w.past c b id i) → y.asked ≡ x.asked
same-asked w k c b id i x y =
    let d = past-grows w k in
    first-once y.asked x.asked (slice_get ((past_after w k).downs c) 0) (begins-get (w.downs c) ((past_after w k).downs c) 0 (request (op.Recovery y.asked)) (d.downs c) y.first) x.first

keeps-told : (g l : Givens) (w : World) (k : Change) → Carried g w → Recovering l w → News l w k → (c b : ℕ) (id : Stamp) (i : ReplicaTold) (x : Informs (past_after w k) c b id i) → InfoFits l (past_after w k) c b x.asked.block.stamp id i
keeps-told g l w k a h n c b id i x = go (informs-either g l w k c b id i a n x)
  where
    p : Past
    p = past_after w k

    go : Informs w.past c b id i ⊎ IsNews l w k c b id x.asked i → InfoFits l (past_after w k) c b x.asked.block.stamp id i
    go (inl y) =
        subst (λ (q : RecoveryOp). InfoFits l (past_after w k) c b q.block.stamp id i) (same-asked w k c b id i x y)
        (info-later l w.past (past_after w k) c b y.asked.block.stamp id i (past-grows w k) (h.told c b id i y))
    go (inr z) = z.fits

keeps-still : (g l : Givens) (w : World) (k : Change) → Carried g w → Recovering l w → News l w k → (c b : ℕ) (id : Stamp) (i : ReplicaTold) → Informs (past_after w k) c b id i
    → (dialled_with w k c).to.life ≡ w.lives (dialled_with w k c).to.node → StillTrue id i (put_at w.replicas k.node k.block k.replica (dialled_with w k c).to.node b).known.info
keeps-still g l w k a h n c b id i x = go (informs-either g l w k c b id i a n x)
  where
    Goal : Dialled → Type 0
    Goal d = d.to.life ≡ w.lives d.to.node → StillTrue id i (put_at w.replicas k.node k.block k.replica d.to.node b).known.info

    known : c < w.next_conn → dialled_with w k c ≡ w.dialled c
    known lt = (past-grows w k).dialled c lt

    old : Informs w.past c b id i → (w.dialled c).to.life ≡ w.lives (w.dialled c).to.node → StillTrue id i (put_at w.replicas k.node k.block k.replica (w.dialled c).to.node b).known.info
    old y life =
        let m = (w.dialled c).to.node in
        let s = h.still c b id i y life in
        put-at-split (λ (v e : ℕ) (r : FullReplica). v ≡ m → e ≡ b → StillTrue id i r.known.info) w.replicas k.node k.block k.replica
        (λ q r. still-moves id i (w.replicas k.node k.block).known.info k.replica.known.info
        (subst (λ (v : ℕ). StillTrue id i (w.replicas v k.block).known.info) (sym q) (subst (λ (e : ℕ). StillTrue id i (w.replicas m e).known.info) (sym r) s)) n.moves)
        (λ v e apart q r. subst (λ (u : ℕ). StillTrue id i (w.replicas u e).known.info) (sym q) (subst (λ (u : ℕ). StillTrue id i (w.replicas m u).known.info) (sym r) s))
        m b refl refl

    new : IsNews l w k c b id x.asked i → StillTrue id i (put_at w.replicas k.node k.block k.replica (w.dialled c).to.node b).known.info
    new z =
        let m = (w.dialled c).to.node in
        put-at-split (λ (v e : ℕ) (r : FullReplica). v ≡ m → e ≡ b → StillTrue id i r.known.info) w.replicas k.node k.block k.replica
        (λ q r. z.still) (λ v e apart q r. absurd (apart (q ∙ z.node) (r ∙ z.block))) m b refl refl

    go : Informs w.past c b id i ⊎ IsNews l w k c b id x.asked i → (dialled_with w k c).to.life ≡ w.lives (dialled_with w k c).to.node
        → StillTrue id i (put_at w.replicas k.node k.block k.replica (dialled_with w k c).to.node b).known.info
    go (inl y) = subst (λ (d : Dialled). d.to.life ≡ w.lives d.to.node → StillTrue id i (put_at w.replicas k.node k.block k.replica d.to.node b).known.info) (sym (known (h.told c b id i y).known)) (old y)
    go (inr z) = subst (λ (d : Dialled). d.to.life ≡ w.lives d.to.node → StillTrue id i (put_at w.replicas k.node k.block k.replica d.to.node b).known.info) (sym (known z.known)) (λ _. new z)

-- UPDATEs

-- an UPDATE that is sent now
record NewSent (w : World) (k : Change) (length c b : ℕ) (id : Stamp) (m : ℕ) : Type 0 where
  pub fits : UpdateFits (past_after w k) c b id m
  pub is : m ≡ length
  pub holder : HasId (w.primaries k.primary_at) id
  pub none : NoUpdates w.past id

updates-either : (g : Givens) (w : World) (k : Change) (c b : ℕ) (id : Stamp) (m : ℕ) → (n : News g w k) → Updates (past_after w k) c b id m → Updates w.past c b id m ⊎ NewSent w k n.length c b id m
updates-either g w k c b id m n x = go (new-down w k c x.place (request (op.Recovery x.asked)) x.there)
  where
    go : NewDown w k c (request (op.Recovery x.asked)) → Updates w.past c b id m ⊎ NewSent w k n.length c b id m
    go (was_sent j e) = inl (record { asked = x.asked; place = j; there = e; is_update = x.is_update; block = x.block; recovery = x.recovery; length = x.length })
    go (is_sent j e) =
        let u = (n.asks c j x.asked e).update x.is_update in
        inr (record {
          fits = subst (λ (y : ℕ). UpdateFits (past_after w k) c b id y) x.length
              (subst (λ (y : Stamp). UpdateFits (past_after w k) c b y x.asked.new_length) x.recovery
              (subst (λ (y : ℕ). UpdateFits (past_after w k) c y x.asked.recovery x.asked.new_length) x.block u.fits));
          is = sym x.length ∙ u.is;
          holder = subst (λ (y : Stamp). HasId (w.primaries k.primary_at) y) x.recovery u.holder;
          none = subst (λ (y : Stamp). NoUpdates w.past y) x.recovery u.none;
        })
    go (is_dialled j d e r s) = absurd ((n.dials j d e).no_update x.asked r x.is_update)

keeps-updates : (g : Givens) (w : World) (k : Change) → Recovering g w → News g w k → (c b : ℕ) (id : Stamp) (m : ℕ) → Updates (past_after w k) c b id m → UpdateFits (past_after w k) c b id m
keeps-updates g w k h n c b id m x = go (updates-either g w k c b id m n x)
  where
    go : Updates w.past c b id m ⊎ NewSent w k n.length c b id m → UpdateFits (past_after w k) c b id m
    go (inl u) = update-later w.past (past_after w k) c b id m (past-grows w k) (h.updates c b id m u)
    go (inr u) = u.fits

keeps-one-length : (g : Givens) (w : World) (k : Change) → Recovering g w → News g w k → (c d a b : ℕ) (id : Stamp) (m o : ℕ) → Updates (past_after w k) c a id m → Updates (past_after w k) d b id o → m ≡ o
keeps-one-length g w k h n c d a b id m o x y = go (updates-either g w k c a id m n x) (updates-either g w k d b id o n y)
  where
    go : Updates w.past c a id m ⊎ NewSent w k n.length c a id m → Updates w.past d b id o ⊎ NewSent w k n.length d b id o → m ≡ o
    go (inl u) (inl v) = h.one_length c d a b id m o u v
    go (inl u) (inr v) = absurd (v.none c a m u)
    go (inr u) (inl v) = absurd (u.none d b o v)
    go (inr u) (inr v) = u.is ∙ sym v.is

keeps-updated : (g : Givens) (w : World) (k : Change) → Recovering g w → News g w k → (u : Updated) → Has (w.updated ++ k.updated) u → WasSent (past_after w k) u
keeps-updated g w k h n u x = go (split-get w.updated k.updated x.place u x.there)
  where
    go : ((j : ℕ) × (slice_get w.updated j ≡ Some u)) ⊎ ((j : ℕ) × (slice_get k.updated j ≡ Some u)) → WasSent (past_after w k) u
    go (inl y) = was-sent-later w.past (past_after w k) u (past-grows w k) (h.updated u (record { place = y.0; there = y.1 }))
    go (inr y) = (n.updated u (record { place = y.0; there = y.1 })).sent

split-updated : (w : World) (k : Change) (u : Updated) → Has (w.updated ++ k.updated) u → Has w.updated u ⊎ Has k.updated u
split-updated w k u x = go (split-get w.updated k.updated x.place u x.there)
  where
    go : ((j : ℕ) × (slice_get w.updated j ≡ Some u)) ⊎ ((j : ℕ) × (slice_get k.updated j ≡ Some u)) → Has w.updated u ⊎ Has k.updated u
    go (inl y) = inl (record { place = y.0; there = y.1 })
    go (inr y) = inr (record { place = y.0; there = y.1 })

-- a recovery that updated a replica in this life isn't above its top
updated-top : (g : Givens) (w : World) (u : Updated) (i : ReplicaInfo) → Recovering g w → Has w.updated u → u.life ≡ w.lives u.node → (w.replicas u.node u.block).known.info ≡ Some i → u.recovery ≤ top_of i
updated-top g w u i h has life is =
    let s = h.updated u has in
    let f = h.updates s.conn u.block (record { 0 = u.recovery }) u.length s.sent in
    let to : (w.dialled f.conn).to ≡ record { node = u.node; life = u.life } = f.to ∙ s.to in
    let t : StillTrue (record { 0 = u.recovery }) f.told (w.replicas u.node u.block).known.info =
    subst (λ (p : Place). StillTrue (record { 0 = u.recovery }) f.told (w.replicas p.node u.block).known.info) to
    (h.still f.conn u.block (record { 0 = u.recovery }) f.told f.informs (subst (λ (p : Place). p.life ≡ w.lives p.node) (sym to) life)) in
    omega (arith, t.above, ap (λ (z : ReplicaInfo). top_of z) (same_Some t.info i (sym t.is ∙ is)))

-- a replica that changes is settled still
settled-moves : (o p : Option ReplicaInfo) (n : ℕ) → Moves o p → (x : AtLeast o n) → n ≤ top_of x.info → AtLeast p n
settled-moves o p n m x le = at x.is m.tops
  where
    at : o ≡ Some x.info → Tops o p → AtLeast p n
    at e h = there (subst (λ (q : Option ReplicaInfo). Tops q p) e h)
      where
        there : AtTop p (top_of x.info) → AtLeast p n
        there a = record { info = a.info; is = a.is; least = go (m.stamps x.info a.info x.is a.is) }
          where
            go : (x.info.stamp.0 ≤ a.info.stamp.0) ⊎ (top_of x.info ≤ a.info.stamp.0) → n ≤ a.info.stamp.0
            go (inl z) = omega (arith, z, x.least)
            go (inr z) = omega (arith, z, le)

keeps-settled : (g : Givens) (w : World) (k : Change) → Recovering g w → News g w k → (u : Updated) → Has (w.updated ++ k.updated) u → u.life ≡ w.lives u.node → AtLeast (put_at w.replicas k.node k.block k.replica u.node u.block).known.info u.recovery
keeps-settled g w k h n u x life = go (split-updated w k u x)
  where
    old : Has w.updated u → AtLeast (put_at w.replicas k.node k.block k.replica u.node u.block).known.info u.recovery
    old q =
        let s = h.settled u q life in
        put-at-split (λ (v e : ℕ) (r : FullReplica). v ≡ u.node → e ≡ u.block → AtLeast r.known.info u.recovery) w.replicas k.node k.block k.replica
        (λ a b.
        let there : (w.replicas k.node k.block).known.info ≡ Some s.info = ap (λ (v : ℕ). (w.replicas v k.block).known.info) a ∙ ap (λ (e : ℕ). (w.replicas u.node e).known.info) b ∙ s.is in
        settled-moves (w.replicas k.node k.block).known.info k.replica.known.info u.recovery n.moves (record { info = s.info; is = there; least = s.least }) (updated-top g w u s.info h q life s.is))
        (λ v e apart a b. subst (λ (y : ℕ). AtLeast (w.replicas y e).known.info u.recovery) (sym a) (subst (λ (y : ℕ). AtLeast (w.replicas u.node y).known.info u.recovery) (sym b) s))
        u.node u.block refl refl

    new : IsUpdated w k (past_after w k) u → AtLeast (put_at w.replicas k.node k.block k.replica u.node u.block).known.info u.recovery
    new z =
        put-at-split (λ (v e : ℕ) (r : FullReplica). v ≡ u.node → e ≡ u.block → AtLeast r.known.info u.recovery) w.replicas k.node k.block k.replica
        (λ a b. z.now) (λ v e apart a b. absurd (apart (a ∙ z.node) (b ∙ z.block))) u.node u.block refl refl

    go : Has w.updated u ⊎ Has k.updated u → AtLeast (put_at w.replicas k.node k.block k.replica u.node u.block).known.info u.recovery
    go (inl q) = old q
    go (inr q) = new (n.updated u q)

keeps-earlier : (g l : Givens) (w : World) (k : Change) → Carried g w → Recovering l w → News l w k → (c b : ℕ) (id : Stamp) (i : ReplicaTold) → Informs (past_after w k) c b id i → (u : Updated) → Has (w.updated ++ k.updated) u
    → (dialled_with w k c).to ≡ record { node = u.node; life = u.life } → u.block ≡ b → u.recovery < id.0 → u.recovery ≤ i.1.0
keeps-earlier g l w k a h n c b id i x u q to block below = go (informs-either g l w k c b id i a n x) (split-updated w k u q)
  where
    known : c < w.next_conn → (w.dialled c).to ≡ record { node = u.node; life = u.life }
    known lt = ap (λ (d : Dialled). d.to) (sym ((past-grows w k).dialled c lt)) ∙ to

    -- the recovery that updates the replica now isn't below one that was told of it
    new : (y : Informs w.past c b id i) → IsUpdated w k (past_after w k) u → u.recovery ≤ i.1.0
    new y z =
        let at = known (h.told c b id i y).known in
        let life : u.life ≡ w.lives u.node = z.life ∙ ap (λ (v : ℕ). w.lives v) (sym z.node) in
        let s : StillTrue id i (w.replicas u.node b).known.info =
        subst (λ (p : Place). StillTrue id i (w.replicas p.node b).known.info) at (h.still c b id i y (subst (λ (p : Place). p.life ≡ w.lives p.node) (sym at) life)) in
        let there : (w.replicas u.node b).known.info ≡ Some z.was = ap (λ (v : ℕ). (w.replicas v b).known.info) z.node ∙ ap (λ (e : ℕ). (w.replicas k.node e).known.info) (sym block ∙ z.block) ∙ z.is in
        absurd (omega (arith, below, s.above, z.held, ap (λ (v : ReplicaInfo). top_of v) (same_Some s.info z.was (sym s.is ∙ there))))

    told : IsNews l w k c b id x.asked i → Has w.updated u → u.recovery ≤ i.1.0
    told z y =
        let at = known z.known in
        let r = z.now.replica in
        let life : u.life ≡ w.lives u.node = subst (λ (p : Place). p.life ≡ w.lives p.node) at z.now.life in
        let s = h.settled u y life in
        let there : (w.replicas u.node u.block).known.info ≡ Some r.info = ap (λ (p : Place). (w.replicas p.node u.block).known.info) (sym at) ∙ ap (λ (e : ℕ). (w.replicas (w.dialled c).to.node e).known.info) block ∙ r.is in
        omega (arith, s.least, ap (λ (v : ReplicaInfo). v.stamp.0) (same_Some s.info r.info (sym s.is ∙ there)), ap (λ (v : ReplicaTold). v.1.0) r.told)

    go : Informs w.past c b id i ⊎ IsNews l w k c b id x.asked i → Has w.updated u ⊎ Has k.updated u → u.recovery ≤ i.1.0
    go (inl y) (inl z) = h.earlier c b id i y u z (known (h.told c b id i y).known) block below
    go (inl y) (inr z) = new y (n.updated u z)
    go (inr y) (inl z) = told y z
    go (inr y) (inr z) = absurd (none-some u (sym (ap (λ (us : List Updated). slice_get us z.place) y.none) ∙ z.there))

-- PRIMARIES

keeps-sends : (g : Givens) (w : World) (k : Change) → Recovering g w → News g w k → (i : ℕ) → SendsFits (past_after w k) (put w.primaries k.primary_at k.primary i)
keeps-sends g w k h n i =
    if-each (λ (x : Primary). SendsFits (past_after w k) x) (i == k.primary_at) k.primary (w.primaries i) (λ _. n.sends)
    (λ e. sends-later w.past (past_after w k) (w.primaries i) (λ id a. record { back = λ c b m u. back e id a c b m (updates-either g w k c b id m n u) }) (h.sends i))
  where
    back : (i == k.primary_at) ≡ false → (id : Stamp) → HasId (w.primaries i) id → (c b m : ℕ) → Updates w.past c b id m ⊎ NewSent w k n.length c b id m → Updates w.past c b id m
    back e id a c b m (inl u) = u
    back e id a c b m (inr u) = absurd (eqb-false i k.primary_at e (h.one_primary i k.primary_at id a u.holder))

-- who has an id had it, or it is new
record IsFresh (w : World) (k : Change) (i : ℕ) (id : Stamp) : Type 0 where
  pub at : i ≡ k.primary_at
  pub none : (j : ℕ) → HasId (w.primaries j) id → ⊥

had-id : (g : Givens) (w : World) (k : Change) → News g w k → (i : ℕ) (id : Stamp) → HasId (put w.primaries k.primary_at k.primary i) id → HasId (w.primaries i) id ⊎ IsFresh w k i id
had-id g w k n i id =
    if-each (λ (x : Primary). HasId x id → HasId (w.primaries i) id ⊎ IsFresh w k i id) (i == k.primary_at) k.primary (w.primaries i)
    (λ e a. go (eqb-true i k.primary_at e) (n.ids id a)) (λ _ a. inl a)
  where
    go : i ≡ k.primary_at → HasId (w.primaries k.primary_at) id ⊎ ((j : ℕ) → HasId (w.primaries j) id → ⊥) → HasId (w.primaries i) id ⊎ IsFresh w k i id
    go e (inl a) = inl (subst (λ (j : ℕ). HasId (w.primaries j) id) (sym e) a)
    go e (inr f) = inr (record { at = e; none = f })

keeps-one-primary : (g : Givens) (w : World) (k : Change) → Recovering g w → News g w k → (i j : ℕ) (id : Stamp) → HasId (put w.primaries k.primary_at k.primary i) id → HasId (put w.primaries k.primary_at k.primary j) id → i ≡ j
keeps-one-primary g w k h n i j id x y = go (had-id g w k n i id x) (had-id g w k n j id y)
  where
    go : HasId (w.primaries i) id ⊎ IsFresh w k i id → HasId (w.primaries j) id ⊎ IsFresh w k j id → i ≡ j
    go (inl a) (inl b) = h.one_primary i j id a b
    go (inl a) (inr f) = absurd (f.none i a)
    go (inr f) (inl b) = absurd (f.none j b)
    go (inr f) (inr e) = f.at ∙ sym e.at

keeps-placed : (g : Givens) (w : World) (k : Change) → Recovering g w → News g w k → (c i place : ℕ) → c < w.next_conn + length k.dials → (dialled_with w k c).upper ≡ by_primary i place → IsPlacedIn c place (put w.primaries k.primary_at k.primary i)
keeps-placed g w k h n c i place =
    dialled-each (λ (v : ℕ) (d : Dialled). d.upper ≡ by_primary i place → IsPlacedIn v place (put w.primaries k.primary_at k.primary i)) w k
    (λ v lt u. if-each (λ (x : Primary). IsPlacedIn v place x) (i == k.primary_at) k.primary (w.primaries i)
    (λ e. n.placed v place lt (subst (λ (j : ℕ). (w.dialled v).upper ≡ by_primary j place) (eqb-true i k.primary_at e) u)) (λ _. h.placed v i place lt u))
    (λ j d e u. (n.dials j d e).placed i place u) c

-- THE FRAME

keeps-asks : (g : Givens) (w : World) (k : Change) → Recovering g w → News g w k → (c i : ℕ) (q : RecoveryOp) → slice_get ((past_after w k).downs c) i ≡ Some (request (op.Recovery q)) → Agrees (past_after w k) c q
keeps-asks g w k h n c i q e = go (new-down w k c i (request (op.Recovery q)) e)
  where
    go : NewDown w k c (request (op.Recovery q)) → Agrees (past_after w k) c q
    go (was_sent j r) = agrees-later w.past (past_after w k) c q (past-grows w k) (h.asks c j q r)
    go (is_sent j r) = (n.asks c j q r).agrees
    go (is_dialled j d r s t) = subst (λ (v : ℕ). Agrees (past_after w k) v q) t ((n.dials j d r).agrees q s)

-- what is told anew is told of a replica as it was
pub keeps-tells : (g l : Givens) (w : World) (k : Change) → Carried g w → News l w k → TellsFrom w (apply w k)
unfolding apply
keeps-tells g l w k a n = record { each = λ c b id i x. go c b id i x (informs-either g l w k c b id i a n x) }
  where
    go : (c b : ℕ) (id : Stamp) (i : ReplicaTold) (x : Informs (past_after w k) c b id i) → Informs w.past c b id i ⊎ IsNews l w k c b id x.asked i → Informs w.past c b id i ⊎ TellsNow w.running w.lives w.replicas (dialled_with w k c).to b id i
    go c b id i x (inl y) = inl y
    go c b id i x (inr z) = inr (subst (λ (d : Dialled). TellsNow w.running w.lives w.replicas d.to b id i) (sym ((past-grows w k).dialled c z.known)) z.now)

pub keeps : (g l : Givens) (w : World) (k : Change) → Carried g w → Recovering l w → News l w k → Recovering l (apply w k)
unfolding apply
keeps g l w k a h n = record {
  lives = dialled-each (λ (c : ℕ) (d : Dialled). d.to.life ≤ w.lives d.to.node) w k h.lives (λ j d e. omega (arith, (n.dials j d e).life));
  asks = keeps-asks l w k h n;
  told = keeps-told g l w k a h n;
  still = keeps-still g l w k a h n;
  updates = keeps-updates l w k h n;
  updated = keeps-updated l w k h n;
  settled = keeps-settled l w k h n;
  earlier = keeps-earlier g l w k a h n;
  one_length = keeps-one-length l w k h n;
  primaries = put-each (λ (i : ℕ) (x : Primary). LeadFits (past_after w k) x) w.primaries k.primary_at k.primary n.primary (λ i. lead-later w.past (past_after w k) (w.primaries i) (past-grows w k) (h.primaries i));
  sends = keeps-sends l w k h n;
  one_primary = keeps-one-primary l w k h n;
  placed = keeps-placed l w k h n;
}
