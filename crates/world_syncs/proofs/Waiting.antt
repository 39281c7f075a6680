-- Writers that wait for the packet of an hsync, whatever a change makes of the world.
use Rattle.std.proofs.Common.{◌≡◌, ℕ, ℤ, ◌<◌, ◌≤◌, ◌⊎◌, inl, inr, true, List, slice_get, Some, sym, ap, subst, ◌∙◌, arith}
use Rattle.std.specs.Prelude.{pos}
use Rattle.std.proofs.lemmas.Bool.{cases_lt}
use Rattle.hd_base.specs.declared.numbers.NodeId.{NodeId}
use Rattle.hd_base.specs.declared.numbers.Stamp.{Stamp}
use Rattle.op_headers.specs.declared.ops.Op.TheVariants as op
use Rattle.op_headers.specs.Values.{WriteFields}
use Rattle.packet_codec.specs.declared.packets.Packet.{Packet}
use Rattle.packet_stream.specs.Streams.{packet_end}
use Rattle.member_core.specs.declared.requests.SetupKind.TheVariants as kind
use Rattle.member_core.specs.Requests.{setup_with}
use Rattle.writer_core.specs.declared.records.WriterRecord.{WriterRecord}
use Rattle.world.specs.Parts.{request, packet, Answered, by_hsync}
use Rattle.world.specs.Worlds.{World}
use Rattle.world.specs.Nodes.{block_of}
use Rattle.world.specs.Safe.{Has}
use Rattle.world_laws.specs.Stamping.{Givens, Recorded, heard}
use Rattle.world_laws.specs.Carrying.{new_stamp, Sets, WriteSays}
use Rattle.world_laws.specs.Joining.{joined_as}
use Rattle.world_acks.specs.Acking.{Asked, Ends, JoinSeat, reach_of}
use Rattle.world_acks.proofs.Turning.{Known}
use Rattle.world_syncs.specs.Histories.{Histories}
use Rattle.world_syncs.proofs.Seats.{SyncSeat}
use Rattle.world_syncs.proofs.Turning.{Later, asked-on}
use Rattle.world_syncs.proofs.Lowers.{Copies}
use Rattle.world_syncs.proofs.Writers.{Formed, WaitsOn, asked_stamp}

-- WHAT IS KNOWN OF A WAIT

-- each packet of this number that was sent in a session of a block has sync, and ends with so many bytes
abbrev pub AllSynced : Givens → World → ℕ → ℕ → ℤ → ℕ → Type 0
AllSynced g w b e q n = (c i : ℕ) (p : Packet) (s : Stamp) → slice_get (w.downs c) i ≡ Some (packet p) → Sets w.past c s → g b s.0 ≡ Some e → p.seqno ≡ q → (p.sync ≡ true) × (n ≤ packet_end p)

-- The packet of an hsync was acked by these members under a stamp of the session. Each later setup of the session is the
-- recovery of a stream that names no earlier stamp, and the members that accepted one hold the bytes since a packet with
-- sync.
pub record SyncReached (g : Givens) (h : Histories) (w : World) (b e : ℕ) (committed : Stamp) (members : List NodeId) (n : ℕ) : Type 0 where
  pub from : ℕ
  pub conn : ℕ
  pub fields : WriteFields
  pub asked : Asked w.past conn fields
  pub block_is : block_of fields ≡ b
  pub stamp_is : (new_stamp fields).0 ≡ from
  pub given : g b from ≡ Some e
  pub least : from ≤ committed.0
  pub requests : (c : ℕ) (f : WriteFields) → Asked w.past c f → block_of f ≡ b → g b (new_stamp f).0 ≡ Some e → from < (new_stamp f).0 → (setup_with f.stage ≡ Some kind.StreamRecovery) × (from ≤ f.block.stamp.0)
  pub first : (m : NodeId) → Has members m → m.0 < w.nodes → SyncSeat h w b from m.0 n
  pub seats : (t l : ℕ) (m : NodeId) → Has members m → m.0 < w.nodes → from ≤ t → g b t ≡ Some e → Has w.joined (joined_as t m.0 l) → SyncSeat h w b t m.0 n

-- the packet is unacked still, or it was acked so
pub record FormedOk (g : Givens) (h : Histories) (w : World) (b e : ℕ) (x : WriterRecord) (n : ℕ) (q : ℤ) : Type 0 where
  pub number : ℕ
  pub is : q ≡ pos number
  pub below : number < x.stream.seqno
  pub downs : AllSynced g w b e q n
  pub unacked : (i : ℕ) (p : Packet) → slice_get x.stream.unacked i ≡ Some p → p.seqno ≡ q → (p.sync ≡ true) × (n ≤ packet_end p)
  pub stands : ((i : ℕ) × (p : Packet) × (slice_get x.stream.unacked i ≡ Some p) × (p.seqno ≡ q)) ⊎ SyncReached g h w b e x.committed x.members n

abbrev pub WriterWaits : Givens → Histories → World → ℕ → ℕ → WriterRecord → Type 0
WriterWaits g h w b e x = (n : ℕ) (q : ℤ) → x.waiting ≡ Formed n q → 2 ≤ reach_of x.phase → FormedOk g h w b e x n q

-- no packet was sent under the stamp of a setup in progress
abbrev pub NoneSent : World → WriterRecord → Type 0
NoneSent w x = (t : Stamp) → asked_stamp x.phase ≡ Some t → (c i : ℕ) (p : Packet) → slice_get (w.downs c) i ≡ Some (packet p) → Sets w.past c t → ⊥

abbrev pub AnswerSyncs : Histories → World → Answered → Type 0
AnswerSyncs h w a = (m : NodeId) → Has a.members m → m.0 < w.nodes → SyncSeat h w a.block a.stamp m.0 a.length

pub record Waits (g : Givens) (h : Histories) (w : World) : Type 0 where
  pub writers : (b : ℕ) → WriterWaits g h w b (w.latest b) (heard (w.writers b))
  pub unsent : (b : ℕ) → NoneSent w (heard (w.writers b))
  pub answers : (a : Answered) → Has w.answered a → a.command ≡ by_hsync → AnswerSyncs h w a

-- CHANGES

-- a packet that was sent before under the same stamp, or a new one
abbrev pub SentOn : World → World → (Packet → Stamp → Type 0) → Type 0
SentOn w v P = (c i : ℕ) (p : Packet) (s : Stamp) → slice_get (v.downs c) i ≡ Some (packet p) → Sets v.past c s → ((d : ℕ) × (j : ℕ) × (slice_get (w.downs d) j ≡ Some (packet p)) × Sets w.past d s) ⊎ P p s

-- a write request that was asked before, goes on to a mirror, or is new
abbrev pub AskedOn : World → World → (WriteFields → Type 0) → Type 0
AskedOn w v P = (c : ℕ) (f : WriteFields) → Asked v.past c f → Asked w.past c f ⊎ (Copies w.past f ⊎ P f)

-- a setup that is accepted: from the seats before it one follows
pub record NewJoin (g : Givens) (h k : Histories) (w v : World) (t n : ℕ) : Type 0 where
  pub conn : ℕ
  pub fields : WriteFields
  pub asked : Asked w.past conn fields
  pub is : (new_stamp fields).0 ≡ t
  pub passes : (e least : ℕ) → g (block_of fields) t ≡ Some e → setup_with fields.stage ≡ Some kind.StreamRecovery
      → ((u l : ℕ) → fields.block.stamp.0 ≤ u → g (block_of fields) u ≡ Some e → Has w.joined (joined_as u n l) → SyncSeat h w (block_of fields) u n least) → SyncSeat k v (block_of fields) t n least

pub record Frame (g l : Givens) (t : Ends) (h k : Histories) (w v : World) (P : Packet → Stamp → Type 0) (Q : WriteFields → Type 0) : Type 0 where
  pub later : Later h k w v
  pub known : Known g t w
  pub recorded : Recorded l v
  pub given : (b s e : ℕ) → g b s ≡ Some e → l b s ≡ Some e
  pub sent : SentOn w v P
  pub asked : AskedOn w v Q
  pub joins : (s n i : ℕ) → Has v.joined (joined_as s n i) → Has w.joined (joined_as s n i) ⊎ NewJoin g h k w v s n
  pub nodes : v.nodes ≡ w.nodes

-- what was given for a stamp that was asked was given before
asked-given : (g l : Givens) (t : Ends) (w v : World) (c b e : ℕ) (f : WriteFields) → Known g t w → Recorded l v → ((b s e : ℕ) → g b s ≡ Some e → l b s ≡ Some e) → Asked w.past c f → l b (new_stamp f).0 ≡ Some e → (block_of f ≡ b) × (g b (new_stamp f).0 ≡ Some e)
asked-given g l t w v c b e f k r given a q =
    let says : WriteSays g w.past c f = k.facts.carried.downs c 0 (request (op.Write f)) a.first in
    let more = given (block_of f) (new_stamp f).0 says.session says.given in
    let same : block_of f ≡ b = r.one (block_of f) b (new_stamp f).0 says.session e more q in
    let old : g b (new_stamp f).0 ≡ Some says.session = subst (λ (d : ℕ). g d (new_stamp f).0 ≡ Some says.session) same says.given in
    (same, old ∙ sym (given b (new_stamp f).0 says.session old) ∙ q)

sets-given : (g l : Givens) (t : Ends) (w v : World) (c b e : ℕ) (s : Stamp) → Known g t w → Recorded l v → ((b s e : ℕ) → g b s ≡ Some e → l b s ≡ Some e) → Sets w.past c s → l b s.0 ≡ Some e → g b s.0 ≡ Some e
sets-given g l t w v c b e s k r given a q =
    subst (λ (z : Stamp). g b z.0 ≡ Some e) a.is (asked-given g l t w v c b e a.fields k r given (record { first = a.first }) (subst (λ (z : Stamp). l b z.0 ≡ Some e) (sym a.is) q)).1

-- what is new of a session's requests
abbrev pub NewRequests : (WriteFields → Type 0) → ℕ → ℕ → Type 0
NewRequests Q b from = (f : WriteFields) → Q f → block_of f ≡ b → (setup_with f.stage ≡ Some kind.StreamRecovery) × (from ≤ f.block.stamp.0)

pub reached-on : (g l : Givens) (t : Ends) (h k : Histories) (w v : World) (P : Packet → Stamp → Type 0) (Q : WriteFields → Type 0) (b e n : ℕ) (c d : Stamp) (ms ks : List NodeId) → Frame g l t h k w v P Q → (x : SyncReached g h w b e c ms n) → ((m : NodeId) → Has ks m → Has ms m) → x.from ≤ d.0 → NewRequests Q b x.from
    → SyncReached l k v b e d ks n
reached-on g l t h k w v P Q b e n c d ms ks fr x sub least news = record {
  from = x.from;
  conn = x.conn;
  fields = x.fields;
  asked = asked-on h k w v x.conn x.fields fr.later x.asked;
  block_is = x.block_is;
  stamp_is = x.stamp_is;
  given = fr.given b x.from e x.given;
  least = least;
  requests = λ i f a block q lt. request-ok i f block q lt (fr.asked i f a);
  first = λ m a lt. fr.later.seats b x.from m.0 n (x.first m (sub m a) (omega (arith, lt, fr.nodes)));
  seats = λ s i m a lt le q j. seat s i m (sub m a) (omega (arith, lt, fr.nodes)) le q (fr.joins s m.0 i j);
}
  where
    Ok : WriteFields → Type 0
    Ok f = (setup_with f.stage ≡ Some kind.StreamRecovery) × (x.from ≤ f.block.stamp.0)

    old-ok : (i : ℕ) (f : WriteFields) → block_of f ≡ b → l b (new_stamp f).0 ≡ Some e → x.from < (new_stamp f).0 → Asked w.past i f → Ok f
    old-ok i f block q lt a = x.requests i f a block (asked-given g l t w v i b e f fr.known fr.recorded fr.given a q).1 lt

    request-ok : (i : ℕ) (f : WriteFields) → block_of f ≡ b → l b (new_stamp f).0 ≡ Some e → x.from < (new_stamp f).0 → Asked w.past i f ⊎ (Copies w.past f ⊎ Q f) → Ok f
    request-ok i f block q lt (inl a) = old-ok i f block q lt a
    request-ok i f block q lt (inr (inl y)) =
        subst (λ (z : WriteFields). Ok z) (sym y.is)
        (old-ok y.conn y.fields (ap block_of (sym y.is) ∙ block) (subst (λ (z : WriteFields). l b (new_stamp z).0 ≡ Some e) y.is q) (subst (λ (z : WriteFields). x.from < (new_stamp z).0) y.is lt) y.asked)
    request-ok i f block q lt (inr (inr y)) = news f y block

    seat : (s i : ℕ) (m : NodeId) → Has ms m → m.0 < w.nodes → x.from ≤ s → l b s ≡ Some e → Has w.joined (joined_as s m.0 i) ⊎ NewJoin g h k w v s m.0 → SyncSeat k v b s m.0 n
    seat s i m a lt le q (inl j) =
        let o : JoinSeat g w s m.0 i = fr.known.acked.joins s m.0 i j in
        let z = asked-given g l t w v o.conn b e o.fields fr.known fr.recorded fr.given o.pipe.asked (subst (λ (u : ℕ). l b u ≡ Some e) (sym o.is) q) in
        fr.later.seats b s m.0 n (x.seats s i m a lt le (subst (λ (u : ℕ). g b u ≡ Some e) o.is z.1) j)
    seat s i m a lt le q (inr j) = go (cases_lt x.from s)
      where
        z : (block_of j.fields ≡ b) × (g b (new_stamp j.fields).0 ≡ Some e)
        z = asked-given g l t w v j.conn b e j.fields fr.known fr.recorded fr.given j.asked (subst (λ (u : ℕ). l b u ≡ Some e) (sym j.is) q)

        go : (x.from < s) ⊎ (s ≤ x.from) → SyncSeat k v b s m.0 n
        go (inr le2) = subst (λ (u : ℕ). SyncSeat k v b u m.0 n) (same x.from s le le2) (fr.later.seats b x.from m.0 n (x.first m a lt))
          where
            same : (i j : ℕ) → i ≤ j → j ≤ i → i ≡ j
            same i j c d = omega arith
        go (inl less) =
            let ok = x.requests j.conn j.fields j.asked z.0 z.1 (omega (arith, less, j.is)) in
            subst (λ (u : ℕ). SyncSeat k v u s m.0 n) z.0
            (j.passes e n (subst (λ (u : ℕ). g u s ≡ Some e) (sym z.0) (subst (λ (u : ℕ). g b u ≡ Some e) j.is z.1)) ok.0
            (λ u i2 low r y. subst (λ (d : ℕ). SyncSeat h w d u m.0 n) (sym z.0) (x.seats u i2 m a lt (omega (arith, low, ok.1)) (subst (λ (d : ℕ). g d u ≡ Some e) z.0 r) y)))

-- what is sent again, or on, is what was
abbrev pub NewPackets : Givens → (Packet → Stamp → Type 0) → ℕ → ℕ → ℤ → ℕ → Type 0
NewPackets l P b e q n = (p : Packet) (s : Stamp) → P p s → l b s.0 ≡ Some e → p.seqno ≡ q → (p.sync ≡ true) × (n ≤ packet_end p)

pub synced-on : (g l : Givens) (t : Ends) (h k : Histories) (w v : World) (P : Packet → Stamp → Type 0) (Q : WriteFields → Type 0) (b e n : ℕ) (q : ℤ) → Frame g l t h k w v P Q → AllSynced g w b e q n → NewPackets l P b e q n → AllSynced l v b e q n
synced-on g l t h k w v P Q b e n q fr all news c i p s there sets given number = go (fr.sent c i p s there sets)
  where
    go : ((d : ℕ) × (j : ℕ) × (slice_get (w.downs d) j ≡ Some (packet p)) × Sets w.past d s) ⊎ P p s → (p.sync ≡ true) × (n ≤ packet_end p)
    go (inl x) = all x.0 x.1 p s x.2 x.3 (sets-given g l t w v x.0 b e s fr.known fr.recorded fr.given x.3 given) number
    go (inr x) = news p s x given number

-- a writer that goes on waiting
pub waits-on : (g l : Givens) (t : Ends) (h k : Histories) (w v : World) (P : Packet → Stamp → Type 0) (Q : WriteFields → Type 0) (b e : ℕ) (x y : WriterRecord) → Frame g l t h k w v P Q
    → ((n : ℕ) (q : ℤ) → y.waiting ≡ Formed n q → 2 ≤ reach_of y.phase → WaitsOn x y n q) → ((n : ℕ) (q : ℤ) → y.waiting ≡ Formed n q → 2 ≤ reach_of y.phase → FormedOk g h w b e x n q → NewPackets l P b e q n)
    → ((n : ℕ) (q : ℤ) → y.waiting ≡ Formed n q → 2 ≤ reach_of y.phase → (z : SyncReached g h w b e x.committed x.members n) → (z.from ≤ y.committed.0) × NewRequests Q b z.from) → WriterWaits g h w b e x → WriterWaits l k v b e y
waits-on g l t h k w v P Q b e x y fr on packets reached old n q waits reach =
    let o = on n q waits reach in
    let f = old n q o.waits o.reach in
    record {
      number = f.number;
      is = f.is;
      below = omega (arith, f.below, o.number);
      downs = synced-on g l t h k w v P Q b e n q fr f.downs (packets n q waits reach f);
      unacked = λ i p z. f.unacked i p (subst (λ (ps : List Packet). slice_get ps i ≡ Some p) o.unacked z);
      stands = go o f.stands;
    }
  where
    go : WaitsOn x y n q → ((i : ℕ) × (p : Packet) × (slice_get x.stream.unacked i ≡ Some p) × (p.seqno ≡ q)) ⊎ SyncReached g h w b e x.committed x.members n
        → ((i : ℕ) × (p : Packet) × (slice_get y.stream.unacked i ≡ Some p) × (p.seqno ≡ q)) ⊎ SyncReached l k v b e y.committed y.members n
    go o (inl z) = inl (z.0, z.1, subst (λ (ps : List Packet). slice_get ps z.0 ≡ Some z.1) (sym o.unacked) z.2, z.3)
    go o (inr z) = let r = reached n q waits reach z in inr (reached-on g l t h k w v P Q b e n x.committed y.committed x.members y.members fr z o.members r.0 r.1)

pub unsent-on : (g l : Givens) (t : Ends) (h k : Histories) (w v : World) (P : Packet → Stamp → Type 0) (Q : WriteFields → Type 0) (x y : WriterRecord) → Frame g l t h k w v P Q → ((u : Stamp) → asked_stamp y.phase ≡ Some u → asked_stamp x.phase ≡ Some u)
    → ((u : Stamp) (p : Packet) → asked_stamp y.phase ≡ Some u → P p u → ⊥) → NoneSent w x → NoneSent v y
unsent-on g l t h k w v P Q x y fr on news old u a c i p there sets = go (fr.sent c i p u there sets)
  where
    go : ((d : ℕ) × (j : ℕ) × (slice_get (w.downs d) j ≡ Some (packet p)) × Sets w.past d u) ⊎ P p u → ⊥
    go (inl z) = old u (on u a) z.0 z.1 p z.2 z.3
    go (inr z) = news u p a z

pub answer-on : (h k : Histories) (w v : World) (a : Answered) → Later h k w v → v.nodes ≡ w.nodes → AnswerSyncs h w a → AnswerSyncs k v a
answer-on h k w v a o e x m has lt = o.seats a.block a.stamp m.0 a.length (x m has (omega (arith, lt, e)))
