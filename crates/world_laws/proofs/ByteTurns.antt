-- The turns of members: what they book, and that only a packet from above is sent on.
use Rattle.std.proofs.Common.{◌≡◌, ℕ, ℤ, Bool, true, false, List, Option, Some, None, IfSome, refl}
use Rattle.std.specs.Prelude.{◌==◌}
use Rattle.std.proofs.lemmas.Bool.{false≢true}
use Rattle.hd_base.specs.declared.states.Status.{Status}
use Rattle.world.specs.AckCodec.Response.{Response}
use Rattle.replica_core.specs.declared.ack_queue.PendingPacket.{PendingPacket}
use Rattle.replica_core.specs.declared.refusals.Refusal.{Refusal}
use Rattle.replica_core.specs.declared.refusals.Refusal.TheVariants as refusal
use Rattle.world.specs.ReplicaModel.ReplicaEvent.{ReplicaEvent}
use Rattle.world.specs.ReplicaModel.ReplicaEvent.TheVariants as replica_event
use Rattle.world.specs.MemberCore.Shuts.{Shuts}
use Rattle.world.specs.MemberCore.Shuts.TheVariants as shuts
use Rattle.world.specs.MemberCore.FromAbove.TheVariants as above
use Rattle.world.specs.MemberCore.FromBelow.{FromBelow}
use Rattle.world.specs.MemberCore.FromBelow.TheVariants as below
use Rattle.world.specs.MemberCore.Mirror.{Mirror}
use Rattle.world.specs.MemberCore.Mirror.TheVariants as mirror
use Rattle.world.specs.MemberCore.Booked.{Booked}
use Rattle.world.specs.MemberCore.Booked.TheVariants as booked
use Rattle.world.specs.MemberCore.Side.{Side}
use Rattle.world.specs.MemberCore.Side.TheVariants as side
use Rattle.world.specs.MemberCore.Turn.{Turn}
use Rattle.world.specs.MemberCore.Acks.{is_success, failures, begins_with_bad_sum, is_read}
use Rattle.world.specs.MemberCore.Members.{MemberState, down_turn, up_turn, up_at, setup_turn, answered_turn, accept_turn, fail_turn, stream_turn, ack_turn, pass_turn, failed_turn, good_turn, partial_turn, spoiled_turn, give_up_turn, named_bad, ready_turn, ready_at, quiet_turn, idle_turn, patient_turn, closed, closed_by, bad_sum, settled}
use Rattle.world.specs.Worlds.{Past}
use Rattle.world_laws.proofs.FactTables.{if-each}
use Rattle.world_laws.specs.Stamping.{Givens}
use Rattle.world_laws.proofs.ByteRows.{Allows}

-- A turn that sends nothing on, and books an end or an ack.
pub record Idles (t : Turn) : Type 0 where
  pub quiet : t.effect.forwards ≡ false
  pub call : (g : Givens) (p : Past) (b : ℕ) → IfSome t.call (Allows g p b)

pub unreadable-idles : (m : MemberState) → Idles (down_turn m above.Unreadable)
unreadable-idles m = record { quiet = refl; call = λ g p b. tt }

pub end-idles : (m : MemberState) → Idles (down_turn m above.End)
end-idles m = record { quiet = refl; call = λ g p b. tt }

answered-idles : (m : MemberState) (r : Response) → Idles (answered_turn m r)
answered-idles m r = if-each Idles (is_success r.status) (accept_turn m) (fail_turn m (named_bad r.first_bad)) (λ _. record { quiet = refl; call = λ g p b. tt }) (λ _. record { quiet = refl; call = λ g p b. tt })

setup-idles : (m : MemberState) (x : FromBelow) → Idles (setup_turn m x)
setup-idles m (below.Response r) = answered-idles m r
setup-idles m (below.Ack a) = record { quiet = refl; call = λ g p b. tt }
setup-idles m below.Unreadable = record { quiet = refl; call = λ g p b. tt }
setup-idles m below.End = record { quiet = refl; call = λ g p b. tt }

failed-idles : (m : MemberState) (e : PendingPacket) (rs : List Status) → Idles (failed_turn m e rs)
failed-idles m e rs = if-each Idles (begins_with_bad_sum rs) (spoiled_turn m) (partial_turn m e _) (λ _. record { quiet = refl; call = λ g p b. tt }) (λ _. record { quiet = refl; call = λ g p b. tt })

pass-idles : (m : MemberState) (e : PendingPacket) (rs : List Status) → Idles (pass_turn m e rs)
pass-idles m e rs = if-each Idles (failures rs == 0) (good_turn m e _) (failed_turn m e rs) (λ _. record { quiet = refl; call = λ g p b. tt }) (λ _. failed-idles m e rs)

ack-idles : (m : MemberState) (e : PendingPacket) (x : FromBelow) → Idles (ack_turn m e x)
ack-idles m e (below.Ack a) = if-each Idles (is_read m.below e.seqno a) (pass_turn m e a.replies) (give_up_turn m e) (λ _. pass-idles m e a.replies) (λ _. record { quiet = refl; call = λ g p b. tt })
ack-idles m e (below.Response r) = record { quiet = refl; call = λ g p b. tt }
ack-idles m e below.Unreadable = record { quiet = refl; call = λ g p b. tt }
ack-idles m e below.End = record { quiet = refl; call = λ g p b. tt }

stream-idles : (m : MemberState) (o : Option PendingPacket) (x : FromBelow) → Idles (stream_turn m o x)
stream-idles m None x = record { quiet = refl; call = λ g p b. tt }
stream-idles m (Some e) x = ack-idles m e x

up-at-idles : (q : Mirror) (m : MemberState) (o : Option PendingPacket) (x : FromBelow) → Idles (up_at q m o x)
up-at-idles mirror.Asked m o x = setup-idles m x
up-at-idles mirror.Open m o x = stream-idles m o x
up-at-idles mirror.Nobody m o x = record { quiet = refl; call = λ g p b. tt }
up-at-idles mirror.Unreachable m o x = record { quiet = refl; call = λ g p b. tt }
up-at-idles mirror.Ended m o x = record { quiet = refl; call = λ g p b. tt }

pub up-idles : (m : MemberState) (o : Option PendingPacket) (x : FromBelow) → Idles (up_turn m o x)
up-idles m o x = up-at-idles m.mirror m o x

idle-idles : (m : MemberState) (writes : Bool) → IfSome (idle_turn m writes) Idles
idle-idles m true = tt
idle-idles m false = record { quiet = refl; call = λ g p b. tt }

quiet-idles : (m : MemberState) (bad : Option ℤ) (writes : Bool) → IfSome (quiet_turn m bad writes) Idles
quiet-idles m (Some seqno) writes = record { quiet = refl; call = λ g p b. tt }
quiet-idles m None writes = idle-idles m writes

patient-idles : (m : MemberState) (bad : Option ℤ) → IfSome (patient_turn m bad) Idles
patient-idles m (Some seqno) = record { quiet = refl; call = λ g p b. tt }
patient-idles m None = tt

ready-at-idles : (q : Mirror) (m : MemberState) (o : Option PendingPacket) (writes : Bool) → IfSome (ready_at q m o writes) Idles
ready-at-idles mirror.Asked m o writes = tt
ready-at-idles mirror.Unreachable m o writes = record { quiet = refl; call = λ g p b. tt }
ready-at-idles mirror.Nobody m (Some e) writes = record { quiet = refl; call = λ g p b. tt }
ready-at-idles mirror.Nobody m None writes = quiet-idles m m.bad writes
ready-at-idles mirror.Open m (Some e) writes = tt
ready-at-idles mirror.Open m None writes = patient-idles m m.bad
ready-at-idles mirror.Ended m (Some e) writes = record { quiet = refl; call = λ g p b. tt }
ready-at-idles mirror.Ended m None writes = quiet-idles m m.bad writes

pub ready-idles : (m : MemberState) (o : Option PendingPacket) (writes : Bool) → IfSome (ready_turn m o writes) Idles
ready-idles m o writes = if-each (λ (t : Option Turn). IfSome t Idles) m.responds (ready_at m.mirror m o writes) None (λ _. ready-at-idles m.mirror m o writes) (λ _. tt)

-- WHAT FOLLOWS

-- the member keeps its connection, and sends on only what the turn does
pub record Follows (m : MemberState) (t : Turn) (b : Booked) : Type 0 where
  pub conn : (settled m t b).0.conn ≡ m.conn
  pub forwards : (settled m t b).1.forwards ≡ true → t.effect.forwards ≡ true

closed-conn : (at : Side) (m : MemberState) → (closed at m).conn ≡ m.conn
closed-conn side.Receiver m = refl
closed-conn side.Responder m = refl

closed-by-conn : (s : Shuts) (at : Side) (m : MemberState) → (closed_by s at m).conn ≡ m.conn
closed-by-conn shuts.Nothing at m = refl
closed-by-conn shuts.Mirror at m = closed-conn at m
closed-by-conn shuts.Both at m = closed-conn at m

pub follows : (m : MemberState) (t : Turn) (b : Booked) → Follows m t b
follows m t booked.Taken = record { conn = closed-by-conn t.effect.shuts t.side (record m { mirror = t.mirror }); forwards = λ e. e }
follows m t (booked.Refused r) = refused r
  where
    summed : (o : Option ReplicaEvent) → ((bad_sum m o t).0.conn ≡ m.conn) × ((bad_sum m o t).1.forwards ≡ true → t.effect.forwards ≡ true)
    summed (Some (replica_event.Packet conn p)) = (refl, λ e. absurd (false≢true e))
    summed (Some (replica_event.Other e)) = (closed-conn t.side m, λ e. absurd (false≢true e))
    summed None = (closed-conn t.side m, λ e. absurd (false≢true e))

    refused : (r : Refusal) → Follows m t (booked.Refused r)
    refused (refusal.BadSum chunk) = let s = summed t.call in record { conn = s.0; forwards = s.1 }
    refused _ = record { conn = closed-conn t.side m; forwards = λ e. absurd (false≢true e) }
follows m t booked.Failed = record { conn = closed-conn t.side m; forwards = λ e. absurd (false≢true e) }
