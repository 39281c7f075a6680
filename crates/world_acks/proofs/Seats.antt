-- Seats stay, whatever a change makes of the world, and what is said by them.
use Rattle.std.proofs.Common.{◌≡◌, ℕ, ℤ, zero, suc, ◌<◌, ◌≤◌, ◌⊎◌, inl, inr, Bool, true, false, List, [], ◌∷◌, ◌++◌, take, slice_get, Option, Some, None, IfSome, refl, sym, ◌∙◌, ap, subst, arith, eqb-true, length}
use Rattle.std.specs.Prelude.{◌==◌, ◌&&◌, if◌then◌else◌}
use Rattle.std.proofs.lemmas.Bool.{false≢true}
use Rattle.std.proofs.lemmas.List.{take-take}
use Rattle.std.proofs.lemmas.Option.{none-some, same_Some}
use Rattle.hd_base.specs.declared.numbers.Stamp.{Stamp}
use Rattle.hd_base.specs.declared.states.ReplicaState.{ReplicaState}
use Rattle.hd_base.specs.declared.states.ReplicaState.TheVariants as state
use Rattle.op_headers.specs.declared.ops.Op.{Op}
use Rattle.op_headers.specs.declared.ops.Op.TheVariants as op
use Rattle.op_headers.specs.Values.{WriteFields}
use Rattle.packet_codec.specs.declared.packets.Packet.{Packet}
use Rattle.replica_core.specs.declared.info.ReplicaInfo.{ReplicaInfo}
use Rattle.replica_core.specs.Info.{visible_under}
use Rattle.replica_core.specs.Sound.{IsConsistent}
use Rattle.replica_core.specs.declared.records.ReplicaRecord.{ReplicaRecord}
use Rattle.replica_model.specs.declared.events.ReplicaEvent.{ReplicaEvent}
use Rattle.replica_model.specs.Rows.{FullReplica, IsFull, row, event_at}
use Rattle.replica_model.specs.Found.{IsFront}
use Rattle.member_core.specs.Requests.{request_from}
use Rattle.world_recoveries.specs.World.Parts.{Message, request, packet, ack, response, read_status, recovery_answer, Place, Dialled, Upper, by_writer, by_member, by_reader, by_primary, FullMember, Lower, idle, writes, serves, recovers, ended_below, Joined, Updated}
use Rattle.world_recoveries.specs.World.Worlds.{World, Change, past_after, apply}
use Rattle.world_recoveries.specs.World.Nodes.{node_of, block_of}
use Rattle.world_recoveries.specs.World.Safe.{Has}
use Rattle.world_recoveries.proofs.WorldLaws.FactTables.{and-left, and-right, some-weaker}
use Rattle.world_recoveries.proofs.WorldLaws.GrowthLaws.{apply-grows}
use Rattle.world_recoveries.specs.WorldLaws.Stamping.{Givens}
use Rattle.world_recoveries.specs.WorldLaws.Carrying.{new_stamp}
use Rattle.world_recoveries.proofs.WorldLaws.Fronts.{front-takes, front-length}
use Rattle.world_recoveries.specs.WorldLaws.Joining.{joined_as}
use Rattle.world_recoveries.proofs.WorldLaws.SetupRising.{Goes}
use Rattle.world_recoveries.specs.Recovering.{ReplicaTold, Informs, top_under, top_of, Recovering}
use Rattle.world_recoveries.specs.Telling.{IsOf, TellsNow, TellsFrom}
use Rattle.world_recoveries.proofs.Telling.{told-below, updated-below}
use Rattle.world_acks.specs.Closing.{StandsClosed, AllClosed}
use Rattle.world_acks.specs.Waiting.{IsQuiet}
use Rattle.world_acks.specs.Acking.{PacketEnd, pending_end, Shown, UpdatesLeave, EarlierLeave, TellsBytes, ToldBytes, Seat, Asked, AsksToRead, Seated, IsPipe, promised, JoinSeat, SetUpFrom, Ends, AckedFrom, UpTells, Numbered, PacketTells, DownTells, Mirrors, UpperTells, MemberTells, LowerTells, Pends}
use Rattle.world_acks.proofs.Passing.{StampSteps, stamps-same, passes-apply}
use Rattle.world_acks.proofs.Shows.{IsNoUpdate, row-shows}

-- LISTS

get-more : {A : Type 0} (xs ys : List A) (i : ℕ) (x : A) → slice_get xs i ≡ Some x → slice_get (xs ++ ys) i ≡ Some x
get-more [] ys i x e = absurd (none-some x e)
get-more (z ∷ xs) ys zero x e = e
get-more (z ∷ xs) ys (suc i) x e = get-more xs ys i x e

pub has-left : {A : Type 0} (xs ys : List A) (x : A) → Has xs x → Has (xs ++ ys) x
has-left xs ys x h = record { place = h.place; there = get-more xs ys h.place x h.there }

pub has-right : {A : Type 0} (xs ys : List A) (x : A) → Has ys x → Has (xs ++ ys) x
has-right [] ys x h = h
has-right (z ∷ xs) ys x h = let k = has-right xs ys x h in record { place = suc k.place; there = k.there }

pub has-one : {A : Type 0} (x : A) → Has (x ∷ []) x
has-one x = record { place = zero; there = refl }

-- A REPLICA THAT CHANGES

-- a recovery with an id above this stamp has updated the replica that changes, to fewer bytes than these
pub record IsCut (w : World) (k : Change) (stamp least : ℕ) : Type 0 where
  pub entry : Updated
  pub has : Has k.updated entry
  pub node : entry.node ≡ k.node
  pub life : entry.life ≡ w.lives k.node
  pub block : entry.block ≡ k.block
  pub above : stamp < entry.recovery
  pub fewer : entry.length < least

-- what the replica showed it shows still, unless a recovery has left it fewer bytes
pub record Steps (w : World) (k : Change) : Type 0 where
  pub broken : (w.replicas k.node k.block).known.is_broken ≡ true → k.replica.known.is_broken ≡ true
  pub stamps : StampSteps w k
  pub shown : IsFull (w.replicas k.node k.block) → IsFull k.replica → (s n : ℕ) (v : List ℕ) → Shown (w.replicas k.node k.block) s n v → Shown k.replica s n v ⊎ IsCut w k s n

pub steps-same : (w : World) (k : Change) → k.replica ≡ w.replicas k.node k.block → Steps w k
steps-same w k e = record {
  stamps = stamps-same w k e;
  broken = λ b. ap (λ (r : FullReplica). r.known.is_broken) e ∙ b;
  shown = λ _ _ s n v x. inl (subst (λ (r : FullReplica). Shown r s n v) (sym e) x);
}

pub steps-row : (w : World) (k : Change) (e : ReplicaEvent) → ((w.replicas k.node k.block).known.is_broken ≡ true → k.replica.known.is_broken ≡ true) → k.replica ≡ row (w.replicas k.node k.block) e
    → IsNoUpdate (event_at (w.replicas k.node k.block) e) → Goes (w.replicas k.node k.block).known.info (row (w.replicas k.node k.block) e).known.info → StampSteps w k → Steps w k
steps-row w k e b q u g st = record {
  stamps = st;
  broken = b;
  shown = λ f h s n v x. inl (subst (λ (r : FullReplica). Shown r s n v) (sym q)
      (row-shows (w.replicas k.node k.block) e f (subst (λ (r : FullReplica). IsFull r) q h) u g s n v x));
}

-- SEATS

-- of more bytes
shown-more : (r : FullReplica) (s n : ℕ) (v u : List ℕ) → IsFront v u → Shown r s n v → Shown r s n u
shown-more r s n v u f x = record {
  info = x.info;
  is = x.is;
  least = x.least;
  visible = x.visible;
  sees = x.sees;
  enough = x.enough;
  bytes = x.bytes ∙ front-takes n v u f x.within;
  within = omega (arith, x.within, front-length v u f);
}

-- of fewer bytes
pub shown-less : (r : FullReplica) (s m n : ℕ) (v : List ℕ) → m ≤ n → Shown r s n v → Shown r s m v
shown-less r s m n v le x = record {
  info = x.info;
  is = x.is;
  least = x.least;
  visible = x.visible;
  sees = x.sees;
  enough = omega (arith, le, x.enough);
  bytes = sym (take-take m n r.bytes le) ∙ ap (λ (xs : List ℕ). take m xs) x.bytes ∙ take-take m n v le;
  within = omega (arith, le, x.within);
}

-- what is unbroken after the change was so before
whole-before : (c d : Bool) → (c ≡ true → d ≡ true) → d ≡ false → c ≡ false
whole-before false d h e = refl
whole-before true d h e = absurd (false≢true (sym e ∙ h refl))

pub apply-written : (w : World) (k : Change) (e : ℕ) → IsFront (w.written e) ((past_after w k).written e)
unfolding apply
apply-written w k e = let b = (apply-grows w k).written e in (b.rest, b.joins)

-- what a replica in this state shows it tells
sees-told : (o : ReplicaState) (stamp : Stamp) (written acked m v : ℕ) → visible_under o written acked ≡ Some v → m ≤ v → acked ≤ written → TellsBytes (o, stamp, written) m
sees-told state.Finalized stamp written acked m v e le a = record { is = inr refl; enough = omega (arith, le, same_Some written v e) }
sees-told state.Rbw stamp written acked m v e le a = record { is = inl refl; enough = omega (arith, le, a, same_Some acked v e) }
sees-told state.Rwr stamp written acked m v e le a = absurd (none-some v e)
sees-told state.Rur stamp written acked m v e le a = absurd (none-some v e)
sees-told state.Temporary stamp written acked m v e le a = absurd (none-some v e)

shown-told : (r : FullReplica) (s m : ℕ) (v : List ℕ) (id : Stamp) (i : ReplicaTold) → IsFull r → IsOf r id i → Shown r s m v → TellsBytes i m
shown-told r s m v id i full z x =
    let good : IsConsistent x.info = subst (λ (o : Option ReplicaInfo). IfSome o IsConsistent) x.is full.sound.info in
    let t = sees-told x.info.original x.info.stamp x.info.written x.info.acked m x.visible x.sees x.enough (omega (arith, good.acked)) in
    subst (λ (y : ReplicaTold). TellsBytes y m) (sym z.told) (subst (λ (y : ReplicaInfo). TellsBytes (y.original, y.stamp, y.written) m) (same_Some x.info z.info (sym x.is ∙ z.is)) t)

-- what is told now is of the bytes that the replica shows
told-now : (g : Givens) (w : World) (b s n life m : ℕ) (v : List ℕ) (id : Stamp) (i : ReplicaTold) → Recovering g w → IsFull (w.replicas n b) → TellsNow w.running w.lives w.replicas (record { node = n; life = life }) b id i
    → (w.running n ≡ true → w.lives n ≡ life → (w.replicas n b).known.is_broken ≡ false → UpdatesLeave w b s n life m → Shown (w.replicas n b) s m v) → EarlierLeave w.past b s id.0 n life m → TellsBytes i m
told-now g w b s n life m v id i rec full z shows left =
    shown-told (w.replicas n b) s m v id i full z.replica
    (shows z.runs (sym z.life) z.replica.sound (record { each = λ u q a d f y. left.each u q a d f y (omega (arith, z.replica.below, below u q a d f)) }))
  where
    below : (u : Updated) → Has w.updated u → u.node ≡ n → u.life ≡ life → u.block ≡ b → u.recovery ≤ top_of z.replica.info
    below u q a d f =
        updated-below g w u z.replica.info rec q (d ∙ z.life ∙ ap (λ (x : ℕ). w.lives x) (sym a))
        (ap (λ (x : ℕ). (w.replicas x u.block).known.info) a ∙ ap (λ (y : ℕ). (w.replicas n y).known.info) f ∙ z.replica.is)

-- no recovery with a later id was told of a replica that none holds, under this stamp or an earlier one
pub told-none : (g : Givens) (v : World) (b stamp n life least : ℕ) (info : ReplicaInfo) → Recovering g v → (v.replicas n b).known.info ≡ Some info → info.recovery ≡ None → info.stamp.0 ≤ stamp → life ≡ v.lives n
    → ToldBytes v.past b stamp n life least
told-none g v b stamp n life least info h is free le alive = record {
  each = λ c id i x at above j lt left.
      absurd (omega (arith, told-below g v c b id i (record { node = n; life = life }) info h x at alive is, above, le, ap (λ (o : Option Stamp). top_under o info.stamp) free));
}

pub seat-apply : (g l : Givens) (w : World) (k : Change) (b s e n j : ℕ) → Steps w k → Recovering g w → TellsFrom w (apply w k) → Recovering l (apply w k) → ((m d : ℕ) → IsFull (w.replicas m d)) → IsFull k.replica → Seat w b s e n j → Seat (apply w k) b s e n j
unfolding apply
seat-apply g l w k b s e n j st rec tells next full new h = record {
  passes = passes-apply g l w k b s n h.life st.stamps rec tells next h.passes;
  life = h.life;
  joins = has-left w.joined k.joined (joined_as s n h.life) h.joins;
  born = h.born;
  shows = λ runs alive sound m le left. at runs alive m le left (n == k.node && b == k.block) refl sound;
  told = record { each = λ c id i x to above m le left. told c id i to above m le left (tells.each c b id i x) };
}
  where
    old : IsFull (w.replicas k.node k.block)
    old = full k.node k.block

    earlier : (id m : ℕ) → EarlierLeave (past_after w k) b s id n h.life m → EarlierLeave w.past b s id n h.life m
    earlier id m left = record { each = λ u q a d f y z. left.each u (has-left w.updated k.updated u q) a d f y z }

    told : (c : ℕ) (id : Stamp) (i : ReplicaTold) → ((past_after w k).dialled c).to ≡ record { node = n; life = h.life } → s < id.0 → (m : ℕ) → m ≤ j → EarlierLeave (past_after w k) b s id.0 n h.life m
        → Informs w.past c b id i ⊎ TellsNow w.running w.lives w.replicas ((past_after w k).dialled c).to b id i → TellsBytes i m
    told c id i to above m le left (inl x) =
        h.told.each c id i x (ap (λ (d : Dialled). d.to) (sym ((apply-grows w k).dialled c (rec.told c b id i x).known)) ∙ to) above m le (earlier id.0 m left)
    told c id i to above m le left (inr z) =
        told-now g w b s n h.life m (w.written e) id i rec (full n b) (subst (λ (p : Place). TellsNow w.running w.lives w.replicas p b id i) to z) (λ runs alive sound u. h.shows runs alive sound m le u) (earlier id.0 m left)

    left-before : (m : ℕ) → UpdatesLeave (apply w k) b s n h.life m → UpdatesLeave w b s n h.life m
    left-before m u = record { each = λ x q a c d i. u.each x (has-left w.updated k.updated x q) a c d i }

    cut : (m : ℕ) → n ≡ k.node → b ≡ k.block → w.lives n ≡ h.life → UpdatesLeave (apply w k) b s n h.life m → IsCut w k s m → ⊥
    cut m en eb alive u c =
        let left : m ≤ c.entry.length =
        u.each c.entry (has-right w.updated k.updated c.entry c.has) (c.node ∙ sym en) (c.life ∙ ap (λ (x : ℕ). w.lives x) (sym en) ∙ alive) (c.block ∙ sym eb) c.above in
        omega (arith, left, c.fewer)

    at : w.running n ≡ true → w.lives n ≡ h.life → (m : ℕ) → m ≤ j → UpdatesLeave (apply w k) b s n h.life m → (t : Bool) → (n == k.node && b == k.block) ≡ t
        → (if t then k.replica else w.replicas n b).known.is_broken ≡ false → Shown (if t then k.replica else w.replicas n b) s m ((past_after w k).written e)
    at runs alive m le left false q sound = shown-more (w.replicas n b) s m (w.written e) ((past_after w k).written e) (apply-written w k e) (h.shows runs alive sound m le (left-before m left))
    at runs alive m le left true q sound = go (st.shown old new s m (w.written e) (subst (λ (r : FullReplica). Shown r s m (w.written e)) is (h.shows runs alive before m le (left-before m left))))
      where
        en : n ≡ k.node
        en = eqb-true n k.node (and-left (n == k.node) (b == k.block) q)

        eb : b ≡ k.block
        eb = eqb-true b k.block (and-right (n == k.node) (b == k.block) q)

        is : w.replicas n b ≡ w.replicas k.node k.block
        is = ap (λ (x : ℕ). w.replicas x b) en ∙ ap (λ (y : ℕ). w.replicas k.node y) eb

        before : (w.replicas n b).known.is_broken ≡ false
        before = ap (λ (r : FullReplica). r.known.is_broken) is ∙ whole-before (w.replicas k.node k.block).known.is_broken k.replica.known.is_broken st.broken sound

        go : Shown k.replica s m (w.written e) ⊎ IsCut w k s m → Shown k.replica s m ((past_after w k).written e)
        go (inl x) = shown-more k.replica s m (w.written e) ((past_after w k).written e) (apply-written w k e) x
        go (inr c) = absurd (cut m en eb alive left c)

-- LATER WORLDS

-- Seats stay, stamps and ends that were known stay known, connections stay what they were, and setups that were accepted stay so.
pub record Onward (g k : Givens) (t u : Ends) (w v : World) : Type 0 where
  pub seats : (b s e n j : ℕ) → Seat w b s e n j → Seat v b s e n j
  pub given : (b s e : ℕ) → g b s ≡ Some e → k b s ≡ Some e
  pub named : (e : ℕ) (x : PacketEnd) (q : ℤ) → t e q ≡ Some x → u e q ≡ Some x
  pub first : (c : ℕ) (m : Message) → slice_get (w.downs c) 0 ≡ Some m → slice_get (v.downs c) 0 ≡ Some m
  pub conns : w.next_conn ≤ v.next_conn
  pub dialled : (c : ℕ) → c < w.next_conn → v.dialled c ≡ w.dialled c
  pub joined : (x : Joined) → Has w.joined x → Has v.joined x
  pub written : (e : ℕ) → length (w.written e) ≤ length (v.written e)

-- The same, and nodes that stand closed stand so; no request comes to wait under a stamp under which none waits.
pub record Lasting (g k : Givens) (t u : Ends) (w v : World) : Type 0 where
  pub on : Onward g k t u w v
  pub open on use *
  pub closed : (b s n : ℕ) → StandsClosed g w b s n → StandsClosed k v b s n
  pub quiet : (s : ℕ) → IsQuiet w s → IsQuiet v s

pub asked-on : (g k : Givens) (t u : Ends) (w v : World) (c : ℕ) (f : WriteFields) → Onward g k t u w v → Asked w.past c f → Asked v.past c f
asked-on g k t u w v c f o h = record { first = o.first c (request (op.Write f)) h.first }

pub reads-on : (g k : Givens) (t u : Ends) (w v : World) (c : ℕ) → Onward g k t u w v → AsksToRead w.past c → AsksToRead v.past c
reads-on g k t u w v c o h = record { asked = h.asked; first = o.first c (request (op.Read h.asked)) h.first }

pub seated-on : (g k : Givens) (t u : Ends) (w v : World) (f : WriteFields) (n e j : ℕ) → Onward g k t u w v → Seated w f n e j → Seated v f n e j
seated-on g k t u w v f n e j o h = record {
  here = o.seats (block_of f) (new_stamp f).0 e n j h.here;
  below = λ i m x a b. o.seats (block_of f) (new_stamp f).0 e m j (h.below i m x a b);
}

pub pipe-on : (g k : Givens) (t u : Ends) (w v : World) (c : ℕ) (f : WriteFields) (e : ℕ) → Onward g k t u w v → IsPipe g w c f e → IsPipe k v c f e
pipe-on g k t u w v c f e o h = record { known = omega (arith, h.known, o.conns); asked = asked-on g k t u w v c f o h.asked; given = o.given (block_of f) (new_stamp f).0 e h.given }

pub join-on : (g k : Givens) (t u : Ends) (w v : World) (s n l : ℕ) → Onward g k t u w v → JoinSeat g w s n l → JoinSeat k v s n l
join-on g k t u w v s n l o h = record {
  conn = h.conn;
  fields = h.fields;
  session = h.session;
  pipe = pipe-on g k t u w v h.conn h.fields h.session o h.pipe;
  is = h.is;
  to = ap (λ (d : Dialled). d.to) (o.dialled h.conn h.pipe.known) ∙ h.to;
  seat = o.seats (block_of h.fields) s h.session n (promised h.fields) h.seat;
}

pub node-on : (g k : Givens) (t u : Ends) (w v : World) (c : ℕ) → Onward g k t u w v → c < w.next_conn → node_of w c ≡ node_of v c
node-on g k t u w v c o lt = sym (ap (λ (d : Dialled). d.to.node) (o.dialled c lt))

pub all-closed-on : (g k : Givens) (t u : Ends) (w v : World) (f : WriteFields) (n : ℕ) → Lasting g k t u w v → AllClosed g w f n → AllClosed k v f n
all-closed-on g k t u w v f n o h = record {
  here = o.closed (block_of f) (new_stamp f).0 n h.here;
  below = λ i m x a b. o.closed (block_of f) (new_stamp f).0 m (h.below i m x a b);
}

pub set-on : (g k : Givens) (t u : Ends) (w v : World) (c : ℕ) → Lasting g k t u w v → SetUpFrom g w c → SetUpFrom k v c
set-on g k t u w v c o h = record {
  fields = h.fields;
  session = h.session;
  pipe = pipe-on g k t u w v c h.fields h.session o.on h.pipe;
  seated = subst (λ (n : ℕ). Seated v h.fields n h.session (promised h.fields)) (node-on g k t u w v c o.on h.pipe.known)
      (seated-on g k t u w v h.fields (node_of w c) h.session (promised h.fields) o.on h.seated);
  closed = λ s. subst (λ (n : ℕ). AllClosed k v h.fields n) (node-on g k t u w v c o.on h.pipe.known) (all-closed-on g k t u w v h.fields (node_of w c) o (h.closed s));
}

acked-on : (g k : Givens) (t u : Ends) (w v : World) (c : ℕ) (q : ℤ) → Lasting g k t u w v → AckedFrom g t w c q → AckedFrom k u v c q
acked-on g k t u w v c q o h = record {
  fields = h.fields;
  session = h.session;
  pipe = pipe-on g k t u w v c h.fields h.session o.on h.pipe;
  end = h.end;
  named = o.named h.session h.end q h.named;
  seated = subst (λ (n : ℕ). Seated v h.fields n h.session h.end.at) (node-on g k t u w v c o.on h.pipe.known) (seated-on g k t u w v h.fields (node_of w c) h.session h.end.at o.on h.seated);
  closed = λ l. subst (λ (n : ℕ). AllClosed k v h.fields n) (node-on g k t u w v c o.on h.pipe.known) (all-closed-on g k t u w v h.fields (node_of w c) o (h.closed l));
}

pub up-on : (g k : Givens) (t u : Ends) (w v : World) (c : ℕ) (m : Message) → Lasting g k t u w v → UpTells g t w c m → UpTells k u v c m
up-on g k t u w v c (response r) o h = λ e. either (h e)
  where
    either : SetUpFrom g w c ⊎ AsksToRead w.past c → SetUpFrom k v c ⊎ AsksToRead v.past c
    either (inl x) = inl (set-on g k t u w v c o x)
    either (inr x) = inr (reads-on g k t u w v c o.on x)
up-on g k t u w v c (ack a) o h = λ e. acked-on g k t u w v c a.seqno o (h e)
up-on g k t u w v c (request r) o h = tt
up-on g k t u w v c (packet p) o h = tt
up-on g k t u w v c (read_status s) o h = tt
up-on g k t u w v c (recovery_answer a) o h = tt

pub numbered-on : (g k : Givens) (t u : Ends) (w v : World) (e : ℕ) (p : Packet) → Onward g k t u w v → Numbered t e p → Numbered u e p
numbered-on g k t u w v e p o h = record { number = h.number; is = h.is; named = o.named e _ p.seqno h.named }

pub packet-on : (g k : Givens) (t u : Ends) (w v : World) (c : ℕ) (p : Packet) → Onward g k t u w v → PacketTells g t w c p → PacketTells k u v c p
packet-on g k t u w v c p o h = record { fields = h.fields; session = h.session; pipe = pipe-on g k t u w v c h.fields h.session o h.pipe; numbered = numbered-on g k t u w v h.session p o h.numbered }

request-on : (g k : Givens) (t u : Ends) (w v : World) (c : ℕ) (r : Op) → Onward g k t u w v → DownTells g t w c (request r) → DownTells k u v c (request r)
request-on g k t u w v c (op.Read r) o h = reads-on g k t u w v c o h
request-on g k t u w v c (op.Write f) o h = tt
request-on g k t u w v c (op.Recovery r) o h = tt
request-on g k t u w v c (op.Transfer r) o h = tt
request-on g k t u w v c (op.Checksum r) o h = tt

pub down-on : (g k : Givens) (t u : Ends) (w v : World) (c : ℕ) (m : Message) → Onward g k t u w v → DownTells g t w c m → DownTells k u v c m
down-on g k t u w v c (request r) o h = request-on g k t u w v c r o h
down-on g k t u w v c (packet p) o h = packet-on g k t u w v c p o h
down-on g k t u w v c (response r) o h = tt
down-on g k t u w v c (ack a) o h = tt
down-on g k t u w v c (read_status s) o h = tt
down-on g k t u w v c (recovery_answer a) o h = tt

mirrors-on : (g k : Givens) (t u : Ends) (w v : World) (d c : ℕ) → Onward g k t u w v → c < w.next_conn → Mirrors w.past d c → Mirrors v.past d c
mirrors-on g k t u w v d c o lt h = record {
  fields = h.fields;
  asked = asked-on g k t u w v d h.fields o h.asked;
  source = h.source;
  first = h.first;
  rest = h.rest;
  targets = h.targets;
  node = h.node ∙ ap (λ (n : ℕ). Some n) (node-on g k t u w v c o lt);
  mirror = asked-on g k t u w v c (request_from h.source h.fields h.rest) o h.mirror;
}

pub upper-on : (g k : Givens) (t u : Ends) (w v : World) (c : ℕ) (x : Upper) → Onward g k t u w v → c < w.next_conn → UpperTells w.past c x → UpperTells v.past c x
upper-on g k t u w v c (by_member d) o lt h = mirrors-on g k t u w v d c o lt h
upper-on g k t u w v c (by_writer b) o lt h = tt
upper-on g k t u w v c (by_reader i) o lt h = tt
upper-on g k t u w v c (by_primary i p) o lt h = tt

pub member-on : (g k : Givens) (t u : Ends) (w v : World) (c : ℕ) (m : FullMember) → Lasting g k t u w v → MemberTells g w c m → MemberTells k v c m
member-on g k t u w v c m o h = record {
  session = h.session;
  pipe = pipe-on g k t u w v c m.fields h.session o.on h.pipe;
  joins = subst (λ (d : Dialled). Has v.joined (joined_as (new_stamp m.fields).0 d.to.node d.to.life)) (sym (o.dialled c h.pipe.known)) (o.joined (joined_as (new_stamp m.fields).0 (node_of w c) (w.dialled c).to.life) h.joins);
  seat = subst (λ (n : ℕ). Seat v (block_of m.fields) (new_stamp m.fields).0 h.session n (promised m.fields)) (node-on g k t u w v c o.on h.pipe.known)
      (o.seats (block_of m.fields) (new_stamp m.fields).0 h.session (node_of w c) (promised m.fields) h.seat);
  alone = h.alone;
  quiet = λ e. o.quiet (new_stamp m.fields).0 (h.quiet e);
  closes = λ s. subst (λ (n : ℕ). StandsClosed k v (block_of m.fields) (new_stamp m.fields).0 n) (node-on g k t u w v c o.on h.pipe.known) (o.closed (block_of m.fields) (new_stamp m.fields).0 (node_of w c) (h.closes s));
}

pub lower-on : (g k : Givens) (t u : Ends) (w v : World) (c : ℕ) (x : Lower) → Lasting g k t u w v → LowerTells g w c x → LowerTells k v c x
lower-on g k t u w v c (writes m) o h = member-on g k t u w v c m o h
lower-on g k t u w v c idle o h = tt
lower-on g k t u w v c (serves b s) o h = tt
lower-on g k t u w v c recovers o h = tt
lower-on g k t u w v c ended_below o h = tt

pub pends-on : (g k : Givens) (t u : Ends) (w v : World) (b : ℕ) (r : ReplicaRecord) → Onward g k t u w v → IfSome r.info (Pends g t b r) → IfSome r.info (Pends k u b r)
pends-on g k t u w v b r o h = some-weaker (Pends g t b r) (Pends k u b r) r.info (λ i x. record {
  each = λ j e q. let y = x.each j e q in record { session = y.session; given = o.given b i.stamp.0 y.session y.given; named = o.named y.session (pending_end e) e.seqno y.named };
}) h
