-- What a change sends, asks and accepts, of packets with sync.
use Rattle.std.proofs.Common.{◌≡◌, ℕ, zero, suc, ◌<◌, ◌≤◌, ◌⊎◌, inl, inr, true, List, [], ◌∷◌, ◌++◌, append-nil, slice_get, Option, Some, None, IfSome, refl, sym, ap, subst, ◌∙◌, arith}
use Rattle.std.specs.Prelude.{option_map}
use Rattle.std.proofs.lemmas.Option.{none-some, same_Some}
use Rattle.hd_base.specs.declared.numbers.Stamp.{Stamp}
use Rattle.hd_base.specs.declared.states.ReplicaState.TheVariants as state
use Rattle.op_headers.specs.declared.ops.Op.TheVariants as op
use Rattle.op_headers.specs.Values.{WriteFields}
use Rattle.packet_codec.specs.declared.packets.Packet.{Packet}
use Rattle.replica_core.specs.declared.info.ReplicaInfo.{ReplicaInfo}
use Rattle.replica_model.specs.Rows.{FullReplica}
use Rattle.member_core.specs.declared.requests.SetupKind.{SetupKind}
use Rattle.member_core.specs.declared.requests.SetupKind.TheVariants as kind
use Rattle.member_core.specs.Requests.{setup_with}
use Rattle.world.specs.Parts.{Message, request, packet, Updated}
use Rattle.world.specs.Worlds.{Past, World, Dial, Change, listed, dial_at, past_after, apply}
use Rattle.world.specs.Nodes.{block_of}
use Rattle.world.specs.Safe.{Has}
use Rattle.world_laws.proofs.ByteFrame.{Each, dial-place}
use Rattle.world_laws.proofs.ByteRows.{sets-once}
use Rattle.world_laws.specs.Stamping.{Givens}
use Rattle.world_laws.specs.Carrying.{Sets, Holds, WriteSays, Passing}
use Rattle.world_laws.specs.Joining.{joined_as, AtLeast, SetUps}
use Rattle.world_recoveries.specs.Recovering.{top_under}
use Rattle.world_recoveries.proofs.Telling.{updated-below}
use Rattle.world_acks.specs.Acking.{Shown, Asked, Ends}
use Rattle.world_acks.proofs.Frame.{has-either}
use Rattle.world_acks.proofs.Turning.{Known}
use Rattle.world_writers.specs.Taking.{Joins}
use Rattle.world_syncs.specs.Histories.{Histories}
use Rattle.world_syncs.proofs.Seats.{SyncSeat}
use Rattle.world_syncs.proofs.Pending.{KeepsSent}
use Rattle.world_syncs.proofs.Turning.{Later}
use Rattle.world_syncs.proofs.Lowers.{Forwards, Copies, FindsOpen, JoinsBy}
use Rattle.world_syncs.proofs.Waiting.{SentOn, AskedOn, NewJoin}

-- MESSAGES

-- what goes down: a packet that goes on, or a new one under this stamp
abbrev pub NewDown : Past → (Packet → Stamp → Type 0) → ℕ → Message → Type 0
NewDown h P c (packet p) = Forwards h c p ⊎ ((s : Stamp) × Sets h c s × P p s)
NewDown h P c (request (op.Write f)) = ⊥
NewDown h P c _ = Unit {0}

-- what a new connection begins with
abbrev pub NewDial : Past → (WriteFields → Type 0) → Message → Type 0
NewDial h Q (packet p) = ⊥
NewDial h Q (request (op.Write f)) = Copies h f ⊎ Q f
NewDial h Q _ = Unit {0}

pub record NewSent (w : World) (k : Change) (P : Packet → Stamp → Type 0) (Q : WriteFields → Type 0) : Type 0 where
  pub downs : (c : ℕ) → Each (NewDown w.past P c) (k.downs c)
  pub dials : (i : ℕ) (d : Dial) → slice_get k.dials i ≡ Some d → NewDial w.past Q d.request

get-either : (xs ys : List Message) (i : ℕ) (m : Message) → slice_get (xs ++ ys) i ≡ Some m → (slice_get xs i ≡ Some m) ⊎ ((j : ℕ) × (slice_get ys j ≡ Some m))
get-either [] ys i m e = inr (i, e)
get-either (x ∷ xs) ys zero m e = inl e
get-either (x ∷ xs) ys (suc i) m e = get-either xs ys i m e

has-first : (xs : List Message) (i : ℕ) (m : Message) → slice_get xs i ≡ Some m → (f : Message) × (slice_get xs 0 ≡ Some f)
has-first [] i m e = absurd (none-some m e)
has-first (x ∷ xs) i m e = (x, refl)

-- what was sent on a connection that had begun began as it does
first-before : (h p : Past) (c i : ℕ) (m f : Message) → KeepsSent h p → slice_get (h.downs c) i ≡ Some m → slice_get (p.downs c) 0 ≡ Some f → slice_get (h.downs c) 0 ≡ Some f
first-before h p c i m f k e q = let x = has-first (h.downs c) i m e in x.1 ∙ sym (k.downs c 0 x.0 x.1) ∙ q

sets-before : (h p : Past) (c i : ℕ) (m : Message) (s : Stamp) → KeepsSent h p → slice_get (h.downs c) i ≡ Some m → Sets p c s → Sets h c s
sets-before h p c i m s k e x = record { fields = x.fields; first = first-before h p c i m (request (op.Write x.fields)) k e x.first; is = x.is }

sets-after : (h p : Past) (c : ℕ) (s : Stamp) → KeepsSent h p → Sets h c s → Sets p c s
sets-after h p c s k x = record { fields = x.fields; first = k.downs c 0 (request (op.Write x.fields)) x.first; is = x.is }

-- each message that was sent was before, goes down, or begins a new connection
data Came (w : World) (k : Change) (c i : ℕ) (m : Message) : Type 0 where
  before : slice_get (w.downs c) i ≡ Some m → Came w k c i m
  down : (j : ℕ) → slice_get (k.downs c) j ≡ Some m → Came w k c i m
  begins : (j : ℕ) (d : Dial) → slice_get k.dials j ≡ Some d → d.request ≡ m → Came w k c i m

came : (w : World) (k : Change) (c i : ℕ) (m : Message) → slice_get ((past_after w k).downs c) i ≡ Some m → Came w k c i m
came w k c i m e = outer (get-either (w.downs c ++ k.downs c) _ i m e)
  where
    dial : (o : Option Dial) → dial_at w.next_conn k.dials c ≡ o → (j : ℕ) → slice_get (listed (option_map (λ (d : Dial). d.request) o)) j ≡ Some m → Came w k c i m
    dial None q j z = absurd (none-some m z)
    dial (Some d) q zero z = begins _ d (dial-place w.next_conn k.dials c d q).0 (same_Some d.request m z)
    dial (Some d) q (suc j) z = absurd (none-some m z)

    inner : (slice_get (w.downs c) i ≡ Some m) ⊎ ((j : ℕ) × (slice_get (k.downs c) j ≡ Some m)) → Came w k c i m
    inner (inl z) = before z
    inner (inr z) = down z.0 z.1

    outer : (slice_get (w.downs c ++ k.downs c) i ≡ Some m) ⊎ ((j : ℕ) × (slice_get (listed (option_map (λ (d : Dial). d.request) (dial_at w.next_conn k.dials c))) j ≡ Some m)) → Came w k c i m
    outer (inl z) = inner (get-either (w.downs c) (k.downs c) i m z)
    outer (inr z) = dial (dial_at w.next_conn k.dials c) refl z.0 z.1

pub sent-on : (w : World) (k : Change) (P : Packet → Stamp → Type 0) (Q : WriteFields → Type 0) → KeepsSent w.past (past_after w k) → NewSent w k P Q → SentOn w (apply w k) P
unfolding apply
sent-on w k P Q keeps news c i p s there sets = go (came w k c i (packet p) there)
  where
    both : (u : Stamp) → Sets w.past c u → u ≡ s
    both u x = sets-once (past_after w k) c u s (sets-after w.past (past_after w k) c u keeps x) sets

    new : Forwards w.past c p ⊎ ((u : Stamp) × Sets w.past c u × P p u) → ((d : ℕ) × (j : ℕ) × (slice_get (w.downs d) j ≡ Some (packet p)) × Sets w.past d s) ⊎ P p s
    new (inl f) = inl (f.conn, f.place, f.there, subst (λ (u : Stamp). Sets w.past f.conn u) (both f.stamp f.here) f.from)
    new (inr f) = inr (subst (λ (u : Stamp). P p u) (both f.0 f.1) f.2)

    go : Came w k c i (packet p) → ((d : ℕ) × (j : ℕ) × (slice_get (w.downs d) j ≡ Some (packet p)) × Sets w.past d s) ⊎ P p s
    go (before z) = inl (c, i, z, sets-before w.past (past_after w k) c i (packet p) s keeps z sets)
    go (down j z) = new ((news.downs c).at j (packet p) z)
    go (begins j d z q) = absurd (subst (λ (m : Message). NewDial w.past Q m) q (news.dials j d z))

pub asked-on : (w : World) (k : Change) (P : Packet → Stamp → Type 0) (Q : WriteFields → Type 0) → NewSent w k P Q → AskedOn w (apply w k) Q
unfolding apply
asked-on w k P Q news c f x = go (came w k c 0 (request (op.Write f)) x.first)
  where
    go : Came w k c 0 (request (op.Write f)) → Asked w.past c f ⊎ (Copies w.past f ⊎ Q f)
    go (before z) = inl (record { first = z })
    go (down j z) = absurd ((news.downs c).at j (request (op.Write f)) z)
    go (begins j d z q) = inr (subst (λ (m : Message). NewDial w.past Q m) q (news.dials j d z))

-- SETUPS

-- what is known of both worlds
pub record Sides (g l : Givens) (t : Ends) (h k : Histories) (w v : World) : Type 0 where
  pub known : Known g t w
  pub joins : Joins w
  pub runs : (n : ℕ) → w.running n ≡ true → n < w.nodes
  pub sets : SetUps l v
  pub joins_after : Joins v
  pub given : (b s e : ℕ) → g b s ≡ Some e → l b s ≡ Some e
  pub later : Later h k w v
  pub nodes : v.nodes ≡ w.nodes
  pub lives : (n : ℕ) → v.lives n ≡ w.lives n

-- a replica under a later stamp
restamped : (r : FullReplica) (s t n : ℕ) (v : List ℕ) → AtLeast r.known.info t → Shown r s n v → Shown r t n v
restamped r s t n v a x = record {
  info = x.info;
  is = x.is;
  least = omega (arith, a.least, ap (λ (i : ReplicaInfo). i.stamp.0) (same_Some a.info x.info (sym a.is ∙ x.is)));
  visible = x.visible;
  sees = x.sees;
  enough = x.enough;
  bytes = x.bytes;
  within = x.within;
}

pub new-join : (g l : Givens) (t : Ends) (h j : Histories) (w v : World) (k : Change) (s n i : ℕ) → Sides g l t h j w v → v.updated ≡ w.updated ++ k.updated → Has v.joined (joined_as s n i) → JoinsBy w k s n i → NewJoin g h j w v s n
new-join g l t h j w v k s n i a ups has x = record { conn = x.conn; fields = f; asked = x.asked; is = x.is; passes = passes }
  where
    f : WriteFields
    f = x.fields

    b : ℕ
    b = block_of f

    r : FullReplica
    r = w.replicas n b

    here : w.replicas k.node k.block ≡ r
    here = sym (ap (λ (y : ℕ). w.replicas y b) x.node ∙ ap (λ (y : ℕ). w.replicas k.node y) x.block)

    low : n < w.nodes
    low = a.runs n x.runs

    passes : (e least : ℕ) → g b s ≡ Some e → setup_with f.stage ≡ Some kind.StreamRecovery → ((u q : ℕ) → f.block.stamp.0 ≤ u → g b u ≡ Some e → Has w.joined (joined_as u n q) → SyncSeat h w b u n least) → SyncSeat j v b s n least
    passes e least given stage ih = go (subst (λ (y : FullReplica). FindsOpen y f) here (x.opens stage))
      where
        go : FindsOpen r f → SyncSeat j v b s n least
        go o = record {
          life = w.lives n;
          joins = subst (λ (y : ℕ). Has v.joined (joined_as s n y)) x.life has;
          born = omega (arith, a.lives n);
          holds = λ runs alive sound m le left.
              let y = z.holds runs (alive ∙ sym life) sound m le (record { each = λ u q d c p above. absurd (none-later u (before u q) d (c ∙ life) p above) }) in
              record { bytes = y.bytes; shown = restamped (v.replicas n b) o.info.stamp.0 s m y.bytes reached y.shown; synced = y.synced };
        }
          where
            stamp : ℕ
            stamp = o.info.stamp.0

            joined : Has w.joined (joined_as stamp n (w.lives n))
            joined = subst (λ (q : Option ReplicaInfo). IfSome q (λ y. y.original ≡ state.Rbw → Has w.joined (joined_as y.stamp.0 n (w.lives n)))) o.is ((a.known.sets.writes n b).joins x.runs o.sound) o.rbw

            holds : Holds g w.past b r.bytes o.info
            holds = subst (λ (q : Option ReplicaInfo). IfSome q (Holds g w.past b r.bytes)) o.is (a.known.facts.carried.replicas n b).info

            says : WriteSays g w.past x.conn f
            says = a.known.facts.carried.downs x.conn 0 (request (op.Write f)) x.asked.first

            session : says.session ≡ e
            session = same_Some says.session e (sym says.given ∙ ap (λ (y : ℕ). g b y) x.is ∙ given)

            same : holds.under.session ≡ says.session
            same = subst (λ (q : Option SetupKind). Passing q w.past holds.under.session says.session f.min) stage (says.passes stamp holds.under.session holds.under.given o.low o.high)

            z : SyncSeat j v b stamp n least
            z = a.later.seats b stamp n least (ih stamp (w.lives n) o.low (holds.under.given ∙ ap (λ (y : ℕ). Some y) (same ∙ session)) joined)

            life : z.life ≡ w.lives n
            life = a.joins_after.single stamp n z.life (w.lives n) (omega (arith, low, a.nodes)) z.joins (a.later.joined (joined_as stamp n (w.lives n)) joined)

            before : (u : Updated) → Has v.updated u → Has w.updated u
            before u q = subst (λ xs. Has xs u) (ups ∙ ap (λ ys. w.updated ++ ys) x.updates ∙ append-nil w.updated) q

            -- no recovery with a later id has updated what this setup found
            none-later : (u : Updated) → Has w.updated u → u.node ≡ n → u.life ≡ w.lives n → u.block ≡ b → stamp < u.recovery → ⊥
            none-later u q d c p above =
                let top = updated-below g w u o.info a.known.recovering q (c ∙ ap (λ (y : ℕ). w.lives y) (sym d)) (ap (λ (y : ℕ). (w.replicas y u.block).known.info) d ∙ ap (λ (y : ℕ). (w.replicas n y).known.info) p ∙ o.is) in
                omega (arith, top, above, ap (λ (q : Option Stamp). top_under q o.info.stamp) o.free)

            reached : AtLeast (v.replicas n b).known.info s
            reached = (a.sets.reached n b).least s i e has (a.given b s e given)

pub joins-on : (g l : Givens) (t : Ends) (h j : Histories) (w : World) (k : Change) → Sides g l t h j w (apply w k) → ((s n i : ℕ) → Has k.joined (joined_as s n i) → JoinsBy w k s n i) → (s n i : ℕ) → Has (apply w k).joined (joined_as s n i) → Has w.joined (joined_as s n i) ⊎ NewJoin g h j w (apply w k) s n
unfolding apply
joins-on g l t h j w k a news s n i has = go (has-either w.joined k.joined (joined_as s n i) has)
  where
    go : Has w.joined (joined_as s n i) ⊎ Has k.joined (joined_as s n i) → Has w.joined (joined_as s n i) ⊎ NewJoin g h j w (apply w k) s n
    go (inl x) = inl x
    go (inr x) = inr (new-join g l t h j w (apply w k) k s n i a refl has (news s n i x))
