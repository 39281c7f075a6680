-- What fits in a world, what a change brings, and that a change which brings what fits leaves all fitting.
use Rattle.std.proofs.Common.{◌≡◌, ℕ, ◌+◌, ◌-◌, ◌<◌, ◌≤◌, ◌^◌, ◌⊎◌, Bool, true, false, List, [], length, slice_get, Option, Some, None, IfSome, option_map, Ok, refl, arith}
use Rattle.std.specs.Prelude.{◌==◌, ◌&&◌, nat_le, if◌then◌else◌}
use Rattle.std.specs.Int.{w64}
use Rattle.std.proofs.lemmas.Option.{none-some}
use mir.Val.{SFits}
use Rattle.hd_base.specs.SumRules.{IsChunkSize}
use Rattle.name_core.specs.declared.calls.OfficeAnswer.TheVariants as office
use Rattle.world_laws.specs.MemberCore.Members.{MemberState}
use Rattle.world_laws.specs.PacketCodec.Packet.{Packet}
use Rattle.world_laws.specs.PacketStream.TheConstants.{BLOCK_LIMIT}
use Rattle.world_laws.specs.PacketStream.Streams.{packet_end}
use Rattle.replica_core.specs.declared.ack_queue.PendingPacket.{PendingPacket}
use Rattle.world_laws.specs.ReplicaModel.Rows.{FullReplica}
use Rattle.world_laws.specs.WriterCore.Phase.{Phase}
use Rattle.world_laws.specs.WriterCore.Phase.TheVariants as phase
use Rattle.world_laws.specs.WriterCore.WriterRecord.{WriterRecord}
use Rattle.world_laws.specs.World.Parts.{FullMember, Lower, writes, serves, Told, Writing, Primary, no_primary, was_told, leads, has_led}
use Rattle.world_laws.specs.World.Worlds.{World, Dial, Change, apply, put_at, listed, dial_at}
use Rattle.world_laws.specs.Stamping.{heard}
use Rattle.world_laws.proofs.ByteFrame.{Each, each-nil, each-one, each-append}
use Rattle.world_laws.proofs.FactTables.{if-each, put-each}
use Rattle.world_texts.proofs.Spelling.{PacketFits, WriteFits, MessageFits}

-- WHAT FITS

-- A member has few members below, and the number of a packet with a wrong sum fits.
pub record StateFits (m : MemberState) : Type 0 where
  pub below : m.below ≤ 15
  pub bad : IfSome m.bad (SFits w64)

-- a member and its request
pub record MemberFits (m : FullMember) : Type 0 where
  pub fields : WriteFits m.fields
  pub state : StateFits m.state

abbrev pub LowerFits : Lower → Type 0
LowerFits (writes m) = MemberFits m
LowerFits (serves b s) = IsChunkSize s.rule.chunk
LowerFits _ = Unit {0}

-- a packet that is pending has a number that fits
abbrev pub PendingFits : PendingPacket → Type 0
PendingFits e = SFits w64 e.seqno

pub record ReplicaFits (r : FullReplica) : Type 0 where
  pub pending : Each PendingFits r.known.pending

-- a packet that isn't acked: it ends within the limit of a block
pub record UnackedFits (p : Packet) : Type 0 where
  pub fits : PacketFits p
  pub end : packet_end p ≤ BLOCK_LIMIT

-- the stamp of a setup fits
abbrev pub SetupStampFits : Phase → Type 0
SetupStampFits (phase.Stamped s stamp) = stamp.0 < 2 ^ 64
SetupStampFits (phase.Requested s stamp) = stamp.0 < 2 ^ 64
SetupStampFits (phase.Accepted s stamp) = stamp.0 < 2 ^ 64
SetupStampFits _ = Unit {0}

-- A writer has few members, its packets fit, and so do its stamps and what is acked; it was given at least so many bytes.
pub record RecordFits (n : ℕ) (x : WriterRecord) : Type 0 where
  pub few : length x.members ≤ 16
  pub acked : x.stream.acked ≤ BLOCK_LIMIT
  pub packets : Each UnackedFits x.stream.unacked
  pub committed : x.committed.0 < 2 ^ 64
  pub setup : SetupStampFits x.phase
  pub intake : n ≤ x.intake.bytes

abbrev pub WriterFits : ℕ → Writing → Type 0
WriterFits n x = RecordFits n (heard x)

pub less-fits : (m n : ℕ) (x : WriterRecord) → m ≤ n → RecordFits n x → RecordFits m x
less-fits m n x le h = record { few = h.few; acked = h.acked; packets = h.packets; committed = h.committed; setup = h.setup; intake = omega (arith, le, h.intake) }

-- so many bytes were given to the writer of a block
abbrev pub given_to : World → ℕ → ℕ
given_to w b = (heard (w.writers b)).intake.bytes

abbrev pub ToldFits : Told → Type 0
ToldFits (Ok (office.Begun begun)) = begun.committed.0 < 2 ^ 64
ToldFits _ = Unit {0}

abbrev pub PrimaryFits : Primary → Type 0
PrimaryFits no_primary = Unit {0}
PrimaryFits (was_told b told) = ToldFits told
PrimaryFits (leads l) = (l.state.block.0 < 2 ^ 64) × (l.state.begun.committed.0 < 2 ^ 64)
PrimaryFits (has_led r) = Unit {0}

-- all of these, in a world
pub record Formed (w : World) : Type 0 where
  pub downs : (c : ℕ) → Each MessageFits (w.downs c)
  pub ups : (c : ℕ) → Each MessageFits (w.ups c)
  pub lowers : (c : ℕ) → LowerFits (w.lowers c)
  pub replicas : (n b : ℕ) → ReplicaFits (w.replicas n b)
  pub writers : (b : ℕ) → WriterFits 0 (w.writers b)
  pub primaries : (i : ℕ) → PrimaryFits (w.primaries i)

-- WHAT A CHANGE BRINGS

-- What a change brings fits; and bytes go only to the latest session of the writer's block, which was given them.
pub record Brings (w : World) (k : Change) : Type 0 where
  pub dials : Each (λ (d : Dial). MessageFits d.request) k.dials
  pub downs : (c : ℕ) → Each MessageFits (k.downs c)
  pub ups : (c : ℕ) → Each MessageFits (k.ups c)
  pub lower : LowerFits k.lower
  pub replica : ReplicaFits k.replica
  pub writer : WriterFits (given_to w k.writer_at + length k.bytes) k.writer
  pub spends : (k.bytes ≡ []) ⊎ (k.session ≡ w.latest k.writer_at)
  pub primary : PrimaryFits k.primary

-- THE WORLD AFTER A CHANGE

dialled-fits : (n c : ℕ) (ds : List Dial) → Each (λ (d : Dial). MessageFits d.request) ds → (o : Option Dial) → dial_at n ds c ≡ o → Each MessageFits (listed (option_map (λ (d : Dial). d.request) o))
dialled-fits n c ds h None e = each-nil MessageFits
dialled-fits n c ds h (Some d) e = each-one MessageFits d.request (found (nat_le n c) e)
  where
    found : (b : Bool) → (if b then slice_get ds (c - n) else None) ≡ Some d → MessageFits d.request
    found true f = h.at (c - n) d f
    found false f = absurd (none-some d f)

put-at-each : {A : Type 0} (P : A → Type 0) (f : ℕ → ℕ → A) (i k : ℕ) (x : A) → P x → ((j l : ℕ) → P (f j l)) → (j l : ℕ) → P (put_at f i k x j l)
put-at-each P f i k x h g j l = if-each P (j == i && l == k) x (f j l) (λ e. h) (λ e. g j l)

-- what a change brings, but for what its writer was given
pub record News (k : Change) : Type 0 where
  pub dials : Each (λ (d : Dial). MessageFits d.request) k.dials
  pub downs : (c : ℕ) → Each MessageFits (k.downs c)
  pub ups : (c : ℕ) → Each MessageFits (k.ups c)
  pub lower : LowerFits k.lower
  pub replica : ReplicaFits k.replica
  pub writer : WriterFits 0 k.writer
  pub primary : PrimaryFits k.primary

pub formed-after : (w : World) (k : Change) → Formed w → News k → Formed (apply w k)
unfolding apply
formed-after w k h n = record {
  downs = λ c. each-append MessageFits _ _ (each-append MessageFits (w.downs c) (k.downs c) (h.downs c) (n.downs c)) (dialled-fits w.next_conn c k.dials n.dials _ refl);
  ups = λ c. each-append MessageFits (w.ups c) (k.ups c) (h.ups c) (n.ups c);
  lowers = put-each (λ (c : ℕ) (x : Lower). LowerFits x) w.lowers k.lower_at k.lower n.lower h.lowers;
  replicas = put-at-each ReplicaFits w.replicas k.node k.block k.replica n.replica h.replicas;
  writers = put-each (λ (b : ℕ) (x : Writing). WriterFits 0 x) w.writers k.writer_at k.writer n.writer h.writers;
  primaries = put-each (λ (i : ℕ) (x : Primary). PrimaryFits x) w.primaries k.primary_at k.primary n.primary h.primaries;
}

pub news-of : (w : World) (k : Change) → Brings w k → News k
news-of w k n = record {
  dials = n.dials;
  downs = n.downs;
  ups = n.ups;
  lower = n.lower;
  replica = n.replica;
  writer = less-fits 0 _ (heard k.writer) (omega arith) n.writer;
  primary = n.primary;
}

-- a writer that stays as it is
pub as-given : (x : WriterRecord) → RecordFits 0 x → RecordFits (x.intake.bytes + 0) x
as-given x h = record { few = h.few; acked = h.acked; packets = h.packets; committed = h.committed; setup = h.setup; intake = omega arith }

pub kept-writer : (w : World) → Formed w → (b : ℕ) → WriterFits (given_to w b + 0) (w.writers b)
kept-writer w h b = as-given (heard (w.writers b)) (h.writers b)
