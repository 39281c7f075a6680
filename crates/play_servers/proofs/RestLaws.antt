-- What an event of a lower end leaves of the world as it is.
use Rattle.std.proofs.Common.{◌≡◌, ◌⊎◌, inl, inr, ℕ, ◌-◌, Bool, true, false, if◌then◌else◌, List, [], ◌++◌, append-nil, length, slice_get, option_map, Option, Some, None, Result, Ok, Err, refl, sym, ap, ◌∙◌, subst, arith}
use Rattle.std.specs.Prelude.{nat_le, unwrap_or}
use Rattle.op_headers.specs.declared.ops.RecoveryOp.{RecoveryOp}
use Rattle.packet_codec.specs.declared.packets.Packet.{Packet}
use Rattle.serving_events.specs.ReadCore.Servings.{ServingState, Piece}
use Rattle.recovery_events.specs.RecoveryCore.Members.{Served}
use Rattle.serving_events.specs.ReplicaModel.ReplicaEvent.{ReplicaEvent}
use Rattle.serving_events.specs.ReplicaModel.Rows.{FullReplica}
use Rattle.request_refusals.specs.declared.refusals.RequestRefusal.{RequestRefusal}
use Rattle.world_requests.specs.World.Event.{Event}
use Rattle.world_requests.specs.World.Parts.{Message, Dialled, Break}
use Rattle.world_requests.specs.World.Worlds.{World, Change, Dial, put_at, dial_at, listed, downs_with, apply}
use Rattle.world_requests.specs.World.Connections.{Next, down_taken}
use Rattle.world_requests.specs.World.Nodes.{node_of, closing, breaking, read_change, piece_as, piece_change, recovery_change}
use Rattle.world_requests.specs.World.Events.{outcome, happens}
use Rattle.world_requests.proofs.WorldLaws.StampGivens.{put-there}
use Rattle.recovery_events.proofs.MemberEvents.WorldLaws.{happened}
use Rattle.recovery_events.specs.Drawn.{asked_block}
use Rattle.play_servers.specs.Events.{RestStays}
use Rattle.play_servers.proofs.TableLaws.{put_at_same, put_at_there}

-- A change of a lower end that dials nothing, and gives a replica at its node another value, or none.
pub record IsLower (w : World) (c b : ℕ) (k : Change) : Type 0 where
  pub here : k.lower_at ≡ c
  pub none : k.dials ≡ []
  pub silent : (d : ℕ) → k.downs d ≡ []
  pub replica : (k.replica ≡ w.replicas k.node k.block) ⊎ ((k.node ≡ node_of w c) × (k.block ≡ b))

none_dialled : (q : Bool) (k : ℕ) (d : Dialled) → unwrap_or (option_map (λ (x : Dial). x.dialled) (if q then slice_get [] k else None)) d ≡ d
none_dialled true k d = refl
none_dialled false k d = refl

dialled_so : (w : World) (k : Change) (d : ℕ) → k.dials ≡ [] → unwrap_or (option_map (λ (x : Dial). x.dialled) (dial_at w.next_conn k.dials d)) (w.dialled d) ≡ w.dialled d
dialled_so w k d none =
    ap (λ (ds : List Dial). unwrap_or (option_map (λ (x : Dial). x.dialled) (dial_at w.next_conn ds d)) (w.dialled d)) none ∙
    none_dialled (nat_le w.next_conn d) (d - w.next_conn) (w.dialled d)

none_asked : (q : Bool) (k : ℕ) → listed (option_map (λ (x : Dial). x.request) (if q then slice_get [] k else None)) ≡ []
none_asked true k = refl
none_asked false k = refl

downs_so : (w : World) (k : Change) (d : ℕ) → k.dials ≡ [] → k.downs d ≡ [] → downs_with w k d ≡ w.downs d
downs_so w k d none silent =
    ap (λ (ds : List Dial). (w.downs d ++ k.downs d) ++ listed (option_map (λ (x : Dial). x.request) (dial_at w.next_conn ds d))) none ∙
    (ap (λ (ms : List Message). (w.downs d ++ k.downs d) ++ ms) (none_asked (nat_le w.next_conn d) (d - w.next_conn)) ∙
    (append-nil (w.downs d ++ k.downs d) ∙ (ap (λ (ms : List Message). w.downs d ++ ms) silent ∙ append-nil (w.downs d))))

replica_so : (w : World) (c b : ℕ) (k : Change) (n m : ℕ) → ((k.replica ≡ w.replicas k.node k.block) ⊎ ((k.node ≡ node_of w c) × (k.block ≡ b))) → (n ≡ node_of w c → m ≡ b → ⊥) → put_at w.replicas k.node k.block k.replica n m ≡ w.replicas n m
replica_so w c b k n m (inl same) apart = ap (λ (x : FullReplica). put_at w.replicas k.node k.block x n m) same ∙ put_at_same w.replicas k.node k.block n m
replica_so w c b k n m (inr at) apart = put_at_there w.replicas k.node k.block k.replica n m (λ x y. apart (x ∙ at.0) (y ∙ at.1))

changed : (w : World) (c b : ℕ) (k : Change) (e : Event) → IsLower w c b k → RestStays w (record (apply w k) { last = Some e }) c b
unfolding apply
changed w c b k e h = record {
  nodes = refl;
  conns = omega (arith, ap length h.none);
  dialled = λ d. dialled_so w k d h.none;
  downs = λ d. downs_so w k d h.none (h.silent d);
  running = λ n. refl;
  lives = λ n. refl;
  lowers = λ d apart. put-there w.lowers k.lower_at k.lower d (λ same. apart (same ∙ h.here));
  replicas = λ n m apart. replica_so w c b k n m h.replica apart;
}

pub rest_after : (w w1 : World) (c b : ℕ) (k : Change) (e : Event) → outcome w e ≡ Some (apply w1 k) → IsLower w1 c b k → RestStays w1 (happens w e) c b
rest_after w w1 c b k e out h = subst (λ (v : World). RestStays w1 v c b) (sym (happened w (apply w1 k) e out)) (changed w1 c b k e h)

-- The same where something was taken before.
pub rest_taken : (w : World) (c : ℕ) (x : Next) (v : World) (b : ℕ) → RestStays (down_taken w c x) v c b → RestStays w v c b
unfolding down_taken
rest_taken w c x v b h = record {
  nodes = h.nodes;
  conns = h.conns;
  dialled = h.dialled;
  downs = h.downs;
  running = h.running;
  lives = h.lives;
  lowers = h.lowers;
  replicas = h.replicas;
}

-- THE CHANGES

pub closing_lower : (w : World) (c b : ℕ) → IsLower w c b (closing w c)
closing_lower w c b = record { here = refl; none = refl; silent = λ d. refl; replica = inl refl }

pub read_lower : (w : World) (c b : ℕ) (x : Result ServingState RequestRefusal) → IsLower w c b (read_change w c b x)
read_lower w c b (Ok s) = record { here = refl; none = refl; silent = λ d. refl; replica = inl refl }
read_lower w c b (Err why) = record { here = refl; none = refl; silent = λ d. refl; replica = inl refl }

pub breaking_lower : (w : World) (c b : ℕ) (r : FullReplica) (e : ReplicaEvent) (ms : List Message) → IsLower w c b (breaking w c b r e ms)
breaking_lower w c b r e ms = record { here = refl; none = refl; silent = λ d. refl; replica = inr (refl, refl) }

piece_as_lower : (w : World) (c b : ℕ) (s : ServingState) (x : Option Packet) → IsLower w c b (piece_as w c b s x)
piece_as_lower w c b s None = record { here = refl; none = refl; silent = λ d. refl; replica = inl refl }
piece_as_lower w c b s (Some p) = record { here = refl; none = refl; silent = λ d. refl; replica = inl refl }

pub piece_lower : (w : World) (c b : ℕ) (p : Piece) → IsLower w c b (piece_change w c b p)
piece_lower w c b p = piece_as_lower w c b p.serving p.packet

pub recovery_lower : (w : World) (c : ℕ) (q : RecoveryOp) (s : Served) (broke : Option Break) → IsLower w c (asked_block q) (recovery_change w c q s broke)
recovery_lower w c q s broke = record { here = refl; none = refl; silent = λ d. refl; replica = inr (refl, refl) }

-- Nothing happens.
pub rest_same : (w v : World) (c b : ℕ) → v ≡ w → RestStays w v c b
rest_same w v c b same = subst (λ (u : World). RestStays w u c b) (sym same) (record {
  nodes = refl;
  conns = refl;
  dialled = λ d. refl;
  downs = λ d. refl;
  running = λ n. refl;
  lives = λ n. refl;
  lowers = λ d apart. refl;
  replicas = λ n m apart. refl;
})

-- THE REPLICA

-- Where the connection is shut all replicas stay.
closed_replica : (w : World) (c : ℕ) (e : Event) (n m : ℕ) → (record (apply w (closing w c)) { last = Some e }).replicas n m ≡ w.replicas n m
unfolding apply
closed_replica w c e n m = put_at_same w.replicas 0 0 n m

taken_replica : (w : World) (c : ℕ) (x : Next) (n m : ℕ) → (down_taken w c x).replicas n m ≡ w.replicas n m
unfolding down_taken
taken_replica w c x n m = refl

pub closed_replicas : (w : World) (c : ℕ) (x : Next) (e : Event) → outcome w e ≡ Some (apply (down_taken w c x) (closing (down_taken w c x) c)) → (n m : ℕ) → (happens w e).replicas n m ≡ w.replicas n m
closed_replicas w c x e out n m =
    ap (λ (v : World). v.replicas n m) (happened w (apply (down_taken w c x) (closing (down_taken w c x) c)) e out) ∙
    (closed_replica (down_taken w c x) c e n m ∙ taken_replica w c x n m)
