-- What nodes that accepted a setup of an answer's session told of their replicas.
use Rattle.std.proofs.Common.{◌≡◌, ℕ, zero, suc, ◌<◌, ◌≤◌, ◌⊎◌, inl, inr, List, [], ◌∷◌, slice_get, Some, refl, sym, ◌∙◌, ap, subst, arith}
use Rattle.std.specs.Prelude.{map}
use Rattle.std.proofs.lemmas.Bool.{cases_lt}
use Rattle.std.proofs.lemmas.Option.{none-some, same_Some}
use Rattle.hd_base.specs.declared.numbers.Stamp.{Stamp}
use Rattle.op_headers.specs.declared.nodes.NodeRef.{NodeRef}
use Rattle.op_headers.specs.Values.{WriteFields}
use Rattle.hd_base.specs.declared.states.ReplicaState.TheVariants as state
use Rattle.world.specs.Parts.{Place, Answered, Updated}
use Rattle.world.specs.Worlds.{Past, World}
use Rattle.world.specs.Nodes.{node_of, node_on, block_of}
use Rattle.world.specs.Safe.{Has}
use Rattle.world_laws.specs.Stamping.{Givens, Recorded}
use Rattle.world_laws.specs.Carrying.{new_stamp}
use Rattle.world_laws.specs.Placing.{Placed}
use Rattle.world_acks.specs.WorldRecoveries.Recovering.{ReplicaTold, Informs, InfoFits, Recovering}
use Rattle.world_acks.specs.Acking.{EarlierLeave, ToldBytes, Seat, Seated, promised, JoinSeat, Ends, Acked, Asked}
use Rattle.world_writers.specs.Piping.{IsPipeline}
use Rattle.world_writers.specs.Settling.{AnswerSits}
use Rattle.world_writers.specs.Taking.{chain, Joins}
use Rattle.world_acks.specs.WorldRecoveries.Naming.{NoneStale}
use Rattle.world_writers.specs.Leaving.{JoinedSince, ToldSince, RequestsCover, LaterSessionsKeep}

told-less : (h : Past) (b stamp n life m k : ℕ) → m ≤ k → ToldBytes h b stamp n life k → ToldBytes h b stamp n life m
told-less h b stamp n life m k le x = record { each = λ c id i y at above j lt u. x.each c id i y at above j (omega (arith, lt, le)) u }

-- what stands at a place of a chain behind its first
map-target : (ts : List NodeRef) (i n : ℕ) → slice_get (map (λ (t : NodeRef). node_on t.xfer) ts) i ≡ Some (Some n) → (t : NodeRef) × (slice_get ts i ≡ Some t) × (node_on t.xfer ≡ Some n)
map-target [] i n e = absurd (none-some (Some n) e)
map-target (t ∷ ts) zero n e = (t, refl, same_Some (node_on t.xfer) (Some n) e)
map-target (t ∷ ts) (suc i) n e = map-target ts i n e

-- the seat of a node that a request reaches
chain-seat : (w : World) (c n session least : ℕ) (f : WriteFields) → Seated w f (node_of w c) session least → Has (chain w.past c f) (Some n) → Seat w (block_of f) (new_stamp f).0 session n least
chain-seat w c n session least f s h = go h.place h.there
  where
    go : (i : ℕ) → slice_get (Some (node_of w c) ∷ map (λ (t : NodeRef). node_on t.xfer) f.targets) i ≡ Some (Some n) → Seat w (block_of f) (new_stamp f).0 session n least
    go zero e = subst (λ (m : ℕ). Seat w (block_of f) (new_stamp f).0 session m least) (same_Some (node_of w c) n (same_Some (Some (node_of w c)) (Some n) e)) s.here
    go (suc i) e = let t = map-target f.targets i n e in s.below i n t.0 t.1 t.2

-- what is known of the world
pub record Seating (g : Givens) (w : World) : Type 0 where
  pub ends : Ends
  pub recorded : Recorded g w
  pub recovering : Recovering g w
  pub stale : NoneStale w
  pub placed : Placed w
  pub acked : Acked g ends w
  pub joins : Joins w
  pub sits : (a : Answered) → Has w.answered a → AnswerSits g w a
  pub covers : RequestsCover g w

-- of the life in which the node accepted the setup
seat-told : (w : World) (b stamp session n life least : ℕ) → Joins w → n < w.nodes → Has w.joined (record { stamp = stamp; node = n; life = life }) → Seat w b stamp session n least → ToldBytes w.past b stamp n life least
seat-told w b stamp session n life least j lt has s = subst (λ (l : ℕ). ToldBytes w.past b stamp n l least) (j.single stamp n s.life life lt s.joins has) s.told

-- an RBW replica that a recovery was told of has the bytes that the setup of its stamp asked for
pub record IsOpen (g : Givens) (w : World) (d b : ℕ) (k : ReplicaTold) : Type 0 where
  pub joins : JoinSeat g w k.1.0 (w.dialled d).to.node (w.dialled d).to.life
  pub block : block_of joins.fields ≡ b
  pub enough : promised joins.fields ≤ k.2

pub open-promised : (g : Givens) (w : World) (d b : ℕ) (id : Stamp) (k : ReplicaTold) → Seating g w → Informs w.past d b id k → k.0 ≡ state.Rbw → IsOpen g w d b k
open-promised g w d b id k s y e =
    let fits : InfoFits g w.past d b y.asked.block.stamp id k = s.recovering.told d b id k y in
    let at = (w.dialled d).to in
    let lt : at.node < w.nodes = (s.placed.dialled d fits.known).to in
    let j = fits.joins e in
    let x = s.acked.joins k.1.0 at.node at.life j in
    let given : g (block_of x.fields) k.1.0 ≡ Some x.session = subst (λ (t : ℕ). g (block_of x.fields) t ≡ Some x.session) x.is x.pipe.given in
    let block : block_of x.fields ≡ b = s.recorded.one (block_of x.fields) b k.1.0 x.session fits.session given fits.given in
    let told : ToldBytes w.past b k.1.0 at.node at.life (promised x.fields) =
    subst (λ (c : ℕ). ToldBytes w.past c k.1.0 at.node at.life (promised x.fields)) block (seat-told w (block_of x.fields) k.1.0 x.session at.node at.life (promised x.fields) s.joins lt j x.seat) in
    let none : EarlierLeave w.past b k.1.0 id.0 at.node at.life (promised x.fields) = record {
      each = λ u q n l c above below. absurd (omega (arith, above, s.recovering.earlier d b id k y u q (place-of at u n l) c below));
    } in
    record { joins = x; block = block; enough = (told.each d id k y refl fits.below (promised x.fields) (omega arith) none).enough }
  where
    place-of : (p : Place) (u : Updated) → u.node ≡ p.node → u.life ≡ p.life → p ≡ record { node = u.node; life = u.life }
    place-of p u n l = ap (λ (m : ℕ). record { node = m; life = p.life }) (sym n) ∙ ap (λ (m : ℕ). record { node = u.node; life = m }) (sym l)

-- a setup whose stamp isn't before that of an answer is of no earlier session
pub later-session : (g : Givens) (w : World) (a : Answered) (stamp d e c : ℕ) (f : WriteFields) → Seating g w → Has w.answered a → Asked w.past c f → block_of f ≡ a.block → (new_stamp f).0 ≡ stamp → g a.block a.stamp ≡ Some d → g a.block stamp ≡ Some e → a.stamp ≤ stamp → d ≤ e
later-session g w a stamp d e c f s h q block is x y since =
    let u = s.joins.answered a h in
    let v = s.joins.given c f q in
    let there : s.joins.setups a.block stamp ≡ Some v.0 = ap (λ (n : ℕ). s.joins.setups a.block n) (sym is) ∙ ap (λ (b : ℕ). s.joins.setups b (new_stamp f).0) (sym block) ∙ v.1 in
    let rises : u.0 ≤ v.0 = s.joins.order a.block a.stamp stamp u.0 v.0 u.1 there since in
    let one : d ≡ u.0 = sym (s.recorded.session a.block a.stamp d x) ∙ s.joins.sessions a.block a.stamp u.0 u.1 in
    let two : e ≡ v.0 = sym (s.recorded.session a.block stamp e y) ∙ s.joins.sessions a.block stamp v.0 there in
    omega (arith, rises, one, two)

-- where an answer is of the latest session of its block, no RBW replica of a later one is told of
pub latest-keeps : (g : Givens) (w : World) (a : Answered) → Seating g w → Has w.answered a → w.session_of a.stamp ≡ w.latest a.block → LaterSessionsKeep g w a
latest-keeps g w a s h latest stamp c d id k t y e o =
    let z = open-promised g w d a.block id k s y e in
    let q = z.joins in
    let since : a.stamp ≤ k.1.0 = s.stale d a.block id k y a h refl (omega (arith, t.above, t.joins.since)) in
    let rises : t.joins.session ≤ o.session = later-session g w a k.1.0 t.joins.session o.session q.conn q.fields s h q.pipe.asked z.block q.is t.joins.answer o.given since in
    let x = s.joins.given q.conn q.fields q.pipe.asked in
    let there : s.joins.setups a.block k.1.0 ≡ Some x.0 = ap (λ (n : ℕ). s.joins.setups a.block n) (sym q.is) ∙ ap (λ (b : ℕ). s.joins.setups b (new_stamp q.fields).0) (sym z.block) ∙ x.1 in
    let two : o.session ≡ x.0 = sym (s.recorded.session a.block k.1.0 o.session o.given) ∙ s.joins.sessions a.block k.1.0 x.0 there in
    let own : t.joins.session ≡ w.latest a.block = sym (s.recorded.session a.block a.stamp t.joins.session t.joins.answer) ∙ latest in
    let same : t.joins.session ≡ o.session = omega (arith, rises, two, own, s.joins.within a.block k.1.0 x.0 there) in
    absurd (o.apart (t.joins.answer ∙ ap (λ (i : ℕ). Some i) same))

-- under the stamp of the answer
told-at : (g : Givens) (w : World) (a : Answered) (stamp : ℕ) (at : Place) → Seating g w → Has w.answered a → at.node < w.nodes → JoinedSince g w a stamp at → (x : JoinSeat g w stamp at.node at.life) → a.stamp ≡ stamp
    → ToldBytes w.past a.block stamp at.node at.life a.length
told-at g w a stamp at k h lt j x e = seat-told w a.block stamp sits.session at.node at.life a.length k.joins lt j.joins seat
  where
    sits : AnswerSits g w a
    sits = k.sits a h

    p : IsPipeline w.past a.block (record { 0 = a.stamp }) a.members sits.sit.conn
    p = sits.sit.pipeline

    same : new_stamp p.fields ≡ new_stamp x.fields
    same = p.stamp_is ∙ ap (λ (s : ℕ). record { 0 = s }) (e ∙ sym x.is)

    here : Has (chain w.past x.conn x.fields) (Some at.node)
    here = record { place = zero; there = ap (λ (q : Place). Some (Some q.node)) x.to }

    reached : Has (chain w.past sits.sit.conn p.fields) (Some at.node)
    reached = k.joins.reach sits.sit.conn x.conn a.block p.fields x.fields (Some at.node) (record { first = p.asked }) x.pipe.asked same p.upper here

    seat : Seat w a.block stamp sits.session at.node a.length
    seat = subst (λ (b : ℕ). Seat w b stamp sits.session at.node a.length) p.block_is
        (subst (λ (s : ℕ). Seat w (block_of p.fields) s sits.session at.node a.length) (ap (λ (s : Stamp). s.0) p.stamp_is ∙ e)
        (chain-seat w sits.sit.conn at.node sits.session a.length p.fields (sits.sit.seated p.fields (record { first = p.asked })) reached))

-- under a later one
told-later : (g : Givens) (w : World) (a : Answered) (stamp : ℕ) (at : Place) → Seating g w → Has w.answered a → at.node < w.nodes → JoinedSince g w a stamp at → (x : JoinSeat g w stamp at.node at.life) → a.stamp < stamp
    → ToldBytes w.past a.block stamp at.node at.life a.length
told-later g w a stamp at k h lt j x e =
    let given : g (block_of x.fields) stamp ≡ Some x.session = subst (λ (s : ℕ). g (block_of x.fields) s ≡ Some x.session) x.is x.pipe.given in
    let block : block_of x.fields ≡ a.block = k.recorded.one (block_of x.fields) a.block stamp x.session j.session given j.given in
    let covers : a.length ≤ promised x.fields =
    k.covers a x.conn j.session x.fields h x.pipe.asked block j.answer (subst (λ (s : ℕ). g a.block s ≡ Some j.session) (sym x.is) j.given) (omega (arith, x.is, e)) in
    told-less w.past a.block stamp at.node at.life a.length (promised x.fields) covers
    (subst (λ (b : ℕ). ToldBytes w.past b stamp at.node at.life (promised x.fields)) block (seat-told w (block_of x.fields) stamp x.session at.node at.life (promised x.fields) k.joins lt j.joins x.seat))

pub told-since : (g : Givens) (w : World) (a : Answered) → Seating g w → Has w.answered a → ToldSince g w a
told-since g w a k h stamp at lt j = go (cases_lt a.stamp stamp)
  where
    x : JoinSeat g w stamp at.node at.life
    x = k.acked.joins stamp at.node at.life j.joins

    go : (a.stamp < stamp) ⊎ (stamp ≤ a.stamp) → ToldBytes w.past a.block stamp at.node at.life a.length
    go (inl e) = told-later g w a stamp at k h lt j x e
    go (inr e) = told-at g w a stamp at k h lt j x (omega (arith, e, j.since))
