-- What writers and readers do and take, in the world.
use Rattle.std.proofs.Common.{◌≡◌, ℕ, ◌≤◌, ◌+◌, ◌⊎◌, inl, inr, Bool, true, false, List, [], ◌∷◌, ◌++◌, slice_get, Option, Some, None, IfSome, refl, sym, ◌∙◌, ap, subst, arith, eqb-true}
use Rattle.std.specs.Prelude.{◌==◌, if◌then◌else◌}
use Rattle.std.proofs.lemmas.Bool.{eqb-false}
use Rattle.std.proofs.lemmas.Option.{none-some}
use Rattle.hd_base.specs.declared.numbers.BlockId.{BlockId}
use Rattle.hd_base.specs.declared.numbers.NodeId.{NodeId}
use Rattle.hd_base.specs.declared.numbers.Stamp.{Stamp}
use Rattle.name_core.specs.declared.records.BlockRecord.{BlockRecord}
use Rattle.name_core.specs.Offices.{OfficeState, record_of}
use Rattle.world.specs.OpHeaders.Op.{Op}
use Rattle.world.specs.OpHeaders.Op.TheVariants as op
use Rattle.world.specs.OpHeaders.Values.{WriteFields}
use Rattle.world.specs.PacketCodec.Packet.{Packet}
use Rattle.world.specs.PacketStream.Carried.{IsPiece}
use Rattle.world.specs.PacketStream.Streams.{StreamState}
use Rattle.world.specs.ReplicaModel.Rows.{FullReplica}
use Rattle.world.specs.WriterCore.Action.{Action}
use Rattle.world.specs.WriterCore.Action.TheVariants as action
use Rattle.world.specs.WriterCore.Setup.{Setup}
use Rattle.world.specs.WriterCore.Setup.TheVariants as setup
use Rattle.world.specs.WriterCore.Waiting.{Waiting}
use Rattle.world.specs.WriterCore.WriterRecord.{WriterRecord}
use Rattle.world.specs.WriterCore.Requests.{request_for, min_length}
use Rattle.world.specs.WriterCore.Sound.{Sound}
use Rattle.world.specs.WriterCore.Transitions.{is_connected}
use Rattle.world.specs.MemberCore.SetupKind.{SetupKind}
use Rattle.world.specs.MemberCore.Requests.{setup_with}
use Rattle.world.specs.Parts.{Message, request, packet, by_primary, Lower, Writing, Primary, Break}
use Rattle.world.specs.Worlds.{Past, World, Dial, Stamped, Change, put, latest_with, past_after, apply}
use Rattle.world.specs.Connections.{sent_on}
use Rattle.world.specs.Clients.{writing_as, writer_change, reached_answer, did}
use Rattle.world_laws.proofs.FactTables.{if-each, some-weaker}
use Rattle.world_laws.specs.Stamping.{Givens, heard, HeldOf, Recorded}
use Rattle.world_laws.specs.Carrying.{new_stamp, Passing, WriteSays, DownSays, UpSays, ReplicaSays, BreakSays, LowerSays, ConnSays, kind_of, AsksFor, WriterSays, EntrySays, PrimarySays, LedBy, Carried}
use Rattle.world_laws.proofs.ByteLater.{Later, lower-later, primary-later, led-later}
use Rattle.world_laws.proofs.ByteFrame.{Each, each-nil, each-one, change-later, unwritten, conn-later, writer-later, entry-later, keeps}
use Rattle.world_laws.proofs.ByteLeaves.{Facts, same-extends, ready-at, break-at, sent-if}
use Rattle.world_laws.proofs.ByteAsking.{Keeps}
use Rattle.world_laws.proofs.ByteStreaming.{Good, Makes}

-- BYTES THAT A WRITER ADDS

-- From the first stamp of its latest session on, all stamps of a block are of that session, the committed one too.
pub record IsWhole (g : Givens) (w : World) (b : ℕ) : Type 0 where
  pub all : (u e : ℕ) → g b u ≡ Some e → w.latest b ≤ u → e ≡ w.latest b
  pub entry : IfSome (record_of w.office (record { 0 = b })) (λ r. (e : ℕ) → g b r.committed.0 ≡ Some e → e ≡ w.latest b)

-- no bytes are added, or such a session gets them
pub data Spends (g : Givens) (w : World) (k : Change) : Type 0 where
  nothing : k.bytes ≡ [] → Spends g w k
  to_latest : k.session ≡ w.latest k.writer_at → IsWhole g w k.writer_at → Spends g w k

-- a block with stamps has its latest session's first
latest-given : (f : ℕ → Option ℕ) (l : ℕ) (o : Option BlockRecord) (x : WriterRecord) → HeldOf f l o x → (t e : ℕ) → f t ≡ Some e → f l ≡ Some l
latest-given f l None x h t e q = absurd (none-some e (sym (h.1 t) ∙ q))
latest-given f l (Some r) x h t e q = h.office.begins

session-given : (f : ℕ → Option ℕ) (l : ℕ) (o : Option BlockRecord) (x : WriterRecord) → HeldOf f l o x → (t e : ℕ) → f t ≡ Some e → f e ≡ Some e
session-given f l None x h t e q = absurd (none-some e (sym (h.1 t) ∙ q))
session-given f l (Some r) x h t e q = h.office.session t e q

latest-or : (f : ℕ → Option ℕ) (l : ℕ) (o : Option BlockRecord) (x : WriterRecord) → HeldOf f l o x → (l ≡ 0) ⊎ (f l ≡ Some l)
latest-or f l None x h = inl h.0
latest-or f l (Some r) x h = inr h.office.begins

pub of-latest : (g : Givens) (w : World) → Recorded g w → (b t e : ℕ) → g b t ≡ Some e → g b (w.latest b) ≡ Some (w.latest b)
of-latest g w r b t e q = latest-given (g b) (w.latest b) (record_of w.office (record { 0 = b })) (heard (w.writers b)) (r.blocks b) t e q

-- the latest session of a block is of no other
pub only-own : (g : Givens) (w : World) → Recorded g w → (b d t : ℕ) → g d t ≡ Some (w.latest b) → d ≡ b
only-own g w r b d t q = go (latest-or (g b) (w.latest b) (record_of w.office (record { 0 = b })) (heard (w.writers b)) (r.blocks b))
  where
    own : g d (w.latest b) ≡ Some (w.latest b)
    own = session-given (g d) (w.latest d) (record_of w.office (record { 0 = d })) (heard (w.writers d)) (r.blocks d) t (w.latest b) q

    go : ((w.latest b ≡ 0) ⊎ (g b (w.latest b) ≡ Some (w.latest b))) → d ≡ b
    go (inl e) = absurd (omega (arith, e, r.above d (w.latest b) (w.latest b) own))
    go (inr e) = r.one d b (w.latest b) (w.latest b) (w.latest b) own e

spends-whole : (g : Givens) (w : World) (k : Change) → Recorded g w → Spends g w k → (b t s : ℕ) → g b t ≡ Some s
    → ((past_after w k).written s ≡ w.written s) ⊎ ((u e : ℕ) → g b u ≡ Some e → s ≤ u → e ≡ s)
spends-whole g w k r (nothing e) b t s q = inl (unwritten w k s (λ _. e))
spends-whole g w k r (to_latest e h) b t s q = go (s == k.session) refl
  where
    go : (c : Bool) → (s == k.session) ≡ c → ((past_after w k).written s ≡ w.written s) ⊎ ((u e : ℕ) → g b u ≡ Some e → s ≤ u → e ≡ s)
    go false n = inl (unwritten w k s (λ i. absurd (eqb-false s k.session n i)))
    go true y = inr (all (eqb-true s k.session y ∙ e))
      where
        all : s ≡ w.latest k.writer_at → (u d : ℕ) → g b u ≡ Some d → s ≤ u → d ≡ s
        all i u d p le =
            let mine : b ≡ k.writer_at = only-own g w r k.writer_at b t (q ∙ ap (λ (n : ℕ). Some n) i) in
            h.all u d (ap (λ (n : ℕ). g n u) (sym mine) ∙ p) (omega (arith, i, le)) ∙ sym i

-- what the latest session of another block has stays
spends-other : (g : Givens) (w : World) (k : Change) → Recorded g w → Spends g w k → (b : ℕ) → (b ≡ k.writer_at → ⊥) → g b (w.latest b) ≡ Some (w.latest b) → (past_after w k).written (w.latest b) ≡ w.written (w.latest b)
spends-other g w k r (nothing e) b apart q = unwritten w k (w.latest b) (λ _. e)
spends-other g w k r (to_latest e h) b apart q =
    unwritten w k (w.latest b) (λ i. absurd (apart (only-own g w r k.writer_at b (w.latest b) (q ∙ ap (λ (n : ℕ). Some n) (i ∙ e)))))

pub spends-later : (g : Givens) (w : World) (k : Change) → Recorded g w → Spends g w k → Later g g w.past (past_after w k)
spends-later g w k r s = change-later g g w k (same-extends g w r) (spends-whole g w k r s)

-- CHANGES OF WRITERS

-- the office, the nodes and the primaries stay
pub record ClientBeside (w : World) (k : Change) : Type 0 where
  pub office : k.office ≡ w.office
  pub stamped : k.stamped ≡ None
  pub primary : k.primary ≡ w.primaries k.primary_at
  pub replica : k.replica ≡ w.replicas k.node k.block
  pub broke : k.broke ≡ w.breaks k.node k.block
  pub lower : k.lower ≡ w.lowers k.lower_at
  pub ups : (c : ℕ) → k.ups c ≡ []

pub record WriterNews (g : Givens) (w : World) (k : Change) : Type 0 where
  pub downs : (c : ℕ) → Each (DownSays g (past_after w k) c) (k.downs c)
  pub dials : (i : ℕ) (d : Dial) → slice_get k.dials i ≡ Some d → DownSays g (past_after w k) (w.next_conn + i) d.request
  pub unled : (i : ℕ) (d : Dial) → slice_get k.dials i ≡ Some d → (j place : ℕ) → d.dialled.upper ≡ by_primary j place → ⊥
  pub writer : WriterSays g (past_after w k) k.writer_at (w.latest k.writer_at) k.writer

none-latest : (f : ℕ → ℕ) (o : Option Stamped) (b : ℕ) → o ≡ None → latest_with f o b ≡ f b
none-latest f o b e = subst (λ (x : Option Stamped). latest_with f x b ≡ f b) (sym e) refl

-- the entries of the office, where a writer adds bytes
spent-entries : (g : Givens) (w : World) (k : Change) → Facts g w → Spends g w k → Later g g w.past (past_after w k) → (b : ℕ)
    → (o : Option BlockRecord) → record_of w.office (record { 0 = b }) ≡ o → IfSome o (EntrySays (g b) w.past (w.latest b)) → IfSome o (EntrySays (g b) (past_after w k) (w.latest b))
spent-entries g w k h s y b None e x = tt
spent-entries g w k h s y b (Some r) e x =
    entry-later g g w.past (past_after w k) b (w.latest b) r y (λ _ z. z) (λ d q. go s d q (b == k.writer_at) refl) x
  where
    go : Spends g w k → (d : ℕ) → g b r.committed.0 ≡ Some d → (c : Bool) → (b == k.writer_at) ≡ c → (d ≡ w.latest b) ⊎ ((past_after w k).written (w.latest b) ≡ w.written (w.latest b))
    go s d q false n = inr (spends-other g w k h.recorded s b (eqb-false b k.writer_at n) (of-latest g w h.recorded b r.committed.0 d q))
    go (nothing z) d q true i = inr (unwritten w k (w.latest b) (λ _. z))
    go (to_latest z u) d q true i =
        let mine = eqb-true b k.writer_at i in
        let whole = subst (λ (n : ℕ). IfSome (record_of w.office (record { 0 = n })) (λ x. (e : ℕ) → g n x.committed.0 ≡ Some e → e ≡ w.latest n)) (sym mine) u.entry in
        inl (subst (λ (o : Option BlockRecord). IfSome o (λ x. (e : ℕ) → g b x.committed.0 ≡ Some e → e ≡ w.latest b)) e whole d q)

pub client-keeps : (g : Givens) (w : World) (k : Change) → Facts g w → ClientBeside w k → Spends g w k → (Later g g w.past (past_after w k) → WriterNews g w k) → Carried g (apply w k)
client-keeps g w k h a s news =
    let y = spends-later g w k h.recorded s in
    let n = news y in
    let p = past_after w k in
    keeps g g w k h.carried y (record {
      replica = subst (λ (x : FullReplica). ReplicaSays g p k.block x) (sym a.replica) (ready-at g w p k.node k.block h y).says;
      broke = subst (λ (o : Option Break). IfSome o (BreakSays g p k.block)) (sym a.broke) (break-at g w p k.node k.block h y);
      lower = subst (λ (x : Lower). LowerSays p k.lower_at x) (sym a.lower) (lower-later g g w.past p k.lower_at (w.lowers k.lower_at) y (h.carried.lowers k.lower_at));
      downs = n.downs;
      ups = λ c. subst (λ (ms : List Message). Each (UpSays g p c) ms) (sym (a.ups c)) (each-nil (UpSays g p c));
      dials = n.dials;
      led = λ i place j d e u. absurd (n.unled i d e j place u);
      primary = subst (λ (x : Primary). PrimarySays g p x) (sym a.primary) (primary-later g g w.past p (w.primaries k.primary_at) y (h.carried.primaries k.primary_at));
      leads = λ c place lt u. subst (λ (x : Primary). LedBy p c x) (sym a.primary) (led-later g g w.past p c (w.primaries k.primary_at) y (h.carried.led c k.primary_at place lt u));
      writers = λ b. subst (λ (l : ℕ). WriterSays g p b l (put w.writers k.writer_at k.writer b)) (sym (none-latest w.latest k.stamped b a.stamped))
          (if-each (λ (x : Writing). WriterSays g p b (w.latest b) x) (b == k.writer_at) k.writer (w.writers b)
          (λ e. subst (λ (d : ℕ). WriterSays g p d (w.latest d) k.writer) (sym (eqb-true b k.writer_at e)) n.writer)
          (λ e. writer-later g g w.past p b (w.latest b) (w.writers b) y (λ z. z) (spends-other g w k h.recorded s b (eqb-false b k.writer_at e)) (h.carried.writers b)));
      entries = λ b. subst (λ (l : ℕ). IfSome (record_of k.office (record { 0 = b })) (EntrySays (g b) p l)) (sym (none-latest w.latest k.stamped b a.stamped))
          (subst (λ (q : OfficeState). IfSome (record_of q (record { 0 = b })) (EntrySays (g b) p (w.latest b))) (sym a.office)
          (spent-entries g w k h s y b (record_of w.office (record { 0 = b })) refl (h.carried.entries b)));
    })

-- A WRITER AFTER A STEP

-- the bytes that a writer has taken as its own
abbrev pub own_of : (g : Givens) (w : World) → Facts g w → ℕ → List ℕ
own_of g w h b = (h.carried.writers b).own

-- a writer that goes on so, with these bytes as its own
pub record WriterAfter (g : Givens) (w : World) (b : ℕ) (v : List ℕ) (x : WriterRecord) : Type 0 where
  pub sound : Sound x
  pub queue : x.queue ≡ []
  pub good : (p : Past) → Later g g w.past p → Good (g b) p (w.latest b) v x

connected-some : (x : WriterRecord) (conn : Option ℕ) (c : ℕ) → (if is_connected x.phase then conn else None) ≡ Some c → is_connected x.phase ≡ true
connected-some x conn c e = go (is_connected x.phase) e
  where
    go : (t : Bool) → (if t then conn else None) ≡ Some c → t ≡ true
    go true q = refl
    go false q = absurd (none-some c q)

old-conn : (g : Givens) (w : World) (p : Past) (b : ℕ) → Facts g w → Later g g w.past p → IfSome (w.writers b).conn (ConnSays g p b (w.latest b))
old-conn g w p b h y = some-weaker (ConnSays g w.past b (w.latest b)) (ConnSays g p b (w.latest b)) (w.writers b).conn (λ c z. conn-later g g w.past p b (w.latest b) c y z) (h.carried.writers b).conn

after-says : (g : Givens) (w : World) (p : Past) (b : ℕ) (v : List ℕ) (x : WriterRecord) → Facts g w → Later g g w.past p → WriterAfter g w b v x → (g b (w.latest b) ≡ Some (w.latest b) → v ≡ p.written (w.latest b))
    → WriterSays g p b (w.latest b) (writing_as x (w.writers b).conn)
after-says g w p b v x h y a e =
    let z = a.good p y in
    record {
      conn = if-each (λ (o : Option ℕ). IfSome o (ConnSays g p b (w.latest b))) (is_connected x.phase) (w.writers b).conn None (λ _. old-conn g w p b h y) (λ _. tt);
      linked = λ c q. connected-some x (w.writers b).conn c q;
      sound = a.sound;
      queue = a.queue;
      own = v;
      are = e;
      streams = z.streams;
      asks = z.asks;
    }

-- its own bytes, where none are added
pub own-stays : (g : Givens) (w : World) (k : Change) (b : ℕ) (h : Facts g w) → k.bytes ≡ [] → g b (w.latest b) ≡ Some (w.latest b) → own_of g w h b ≡ (past_after w k).written (w.latest b)
own-stays g w k b h e q = (h.carried.writers b).are q ∙ sym (unwritten w k (w.latest b) (λ _. e))

-- its own bytes with those that are added
own-grows : (g : Givens) (w : World) (k : Change) (b : ℕ) (h : Facts g w) → k.session ≡ w.latest b → g b (w.latest b) ≡ Some (w.latest b) → own_of g w h b ++ k.bytes ≡ (past_after w k).written (w.latest b)
own-grows g w k b h e q =
    ap (λ (v : List ℕ). v ++ k.bytes) ((h.carried.writers b).are q)
    ∙ sym (if-each (λ (v : List ℕ). v ≡ w.written (w.latest b) ++ k.bytes) (w.latest b == k.session) (w.written (w.latest b) ++ k.bytes) (w.written (w.latest b)) (λ _. refl) (λ n. absurd (eqb-false (w.latest b) k.session n (sym e))))

pub writer-change-keeps : (g : Givens) (w : World) (b : ℕ) (x : WriterRecord) (h : Facts g w) → WriterAfter g w b (own_of g w h b) x → Keeps g w (writer_change w b x)
writer-change-keeps g w b x h a =
    let k = writer_change w b x in
    let p = past_after w k in
    client-keeps g w k h (record { office = refl; stamped = refl; primary = refl; replica = refl; broke = refl; lower = refl; ups = λ _. refl }) (nothing refl) (λ y. record {
      downs = λ d. each-nil (DownSays g p d);
      dials = λ i d e. absurd (none-some d e);
      unled = λ i d e. absurd (none-some d e);
      writer = after-says g w p b (own_of g w h b) x h y a (own-stays g w k b h refl);
    })

-- what a step makes, for what is added
pub record StepMakes (g : Givens) (w : World) (b : ℕ) (v bytes : List ℕ) (a : Action) (x : WriterRecord) : Type 0 where
  pub sound : Sound x
  pub queue : x.queue ≡ []
  pub makes : (p : Past) → Later g g w.past p → Makes (g b) p (w.latest b) v bytes a x
  pub spends : a ≡ action.Took → (bytes ≡ []) ⊎ IsWhole g w b

-- a packet on the writer's connection
packet-on : (g : Givens) (w : World) (p : Past) (b : ℕ) (q : Packet) (h : Facts g w) → Later g g w.past p → (g b (w.latest b) ≡ Some (w.latest b) → own_of g w h b ≡ p.written (w.latest b)) → IsPiece (own_of g w h b) q
    → (d : ℕ) → Each (DownSays g p d) (sent_on (w.writers b).conn (packet q ∷ []) d)
packet-on g w p b q h y e i =
    sent-if (DownSays g p) (w.writers b).conn (packet q ∷ []) (some-weaker (ConnSays g p b (w.latest b)) (λ c. Each (DownSays g p c) (packet q ∷ [])) (w.writers b).conn (λ c z. at c z) (old-conn g w p b h y))
  where
    at : (c : ℕ) → ConnSays g p b (w.latest b) c → Each (DownSays g p c) (packet q ∷ [])
    at c z = each-one (DownSays g p c) (packet q) (record {
      stamp = z.stamp;
      sets = z.sets;
      block = b;
      session = w.latest b;
      given = z.given;
      piece = subst (λ (v : List ℕ). IsPiece v q) (e (of-latest g w h.recorded b z.stamp.0 (w.latest b) z.given)) i;
    })

spends-of : (g : Givens) (w : World) (k : Change) → k.session ≡ w.latest k.writer_at → ((k.bytes ≡ []) ⊎ IsWhole g w k.writer_at) → Spends g w k
spends-of g w k e (inl n) = nothing n
spends-of g w k e (inr h) = to_latest e h

pub did-keeps : (g : Givens) (w : World) (b : ℕ) (waits : Option Waiting) (a : Action) (x : WriterRecord) (bytes : List ℕ) (h : Facts g w) → StepMakes g w b (own_of g w h b) bytes a x → IfSome (did w b waits a x bytes) (Keeps g w)
did-keeps g w b waits action.Wait x bytes h m = tt
did-keeps g w b waits action.Took x bytes h m =
    let k : Change = record (writer_change w b x) { session = w.latest b; bytes = bytes } in
    let p = past_after w k in
    let v = own_of g w h b ++ bytes in
    client-keeps g w k h (record { office = refl; stamped = refl; primary = refl; replica = refl; broke = refl; lower = refl; ups = λ _. refl }) (spends-of g w k refl (m.spends refl)) (λ y. record {
      downs = λ d. each-nil (DownSays g p d);
      dials = λ i d e. absurd (none-some d e);
      unled = λ i d e. absurd (none-some d e);
      writer = after-says g w p b v x h y (record { sound = m.sound; queue = m.queue; good = m.makes }) (own-grows g w k b h refl);
    })
did-keeps g w b waits (action.Ask c) x bytes h m = tt
did-keeps g w b waits (action.Dial to r) x bytes h m = tt
did-keeps g w b waits (action.Send q) x bytes h m =
    let k : Change = record (writer_change w b x) { downs = sent_on (w.writers b).conn (packet q ∷ []) } in
    let p = past_after w k in
    client-keeps g w k h (record { office = refl; stamped = refl; primary = refl; replica = refl; broke = refl; lower = refl; ups = λ _. refl }) (nothing refl) (λ y. record {
      downs = packet-on g w p b q h y (own-stays g w k b h refl) (m.makes p y).0;
      dials = λ i d e. absurd (none-some d e);
      unled = λ i d e. absurd (none-some d e);
      writer = after-says g w p b (own_of g w h b) x h y (record { sound = m.sound; queue = m.queue; good = λ q z. (m.makes q z).1 }) (own-stays g w k b h refl);
    })
did-keeps g w b waits (action.Answered n a) x bytes h m =
    let k = writer_change w b x in
    let j : Change = record k { said = record { ordinal = n; answer = a } ∷ []; answered = reached_answer b waits a } in
    let p = past_after w j in
    client-keeps g w j h (record { office = refl; stamped = refl; primary = refl; replica = refl; broke = refl; lower = refl; ups = λ _. refl }) (nothing refl) (λ y. record {
      downs = λ d. each-nil (DownSays g p d);
      dials = λ i d e. absurd (none-some d e);
      unled = λ i d e. absurd (none-some d e);
      writer = after-says g w p b (own_of g w h b) x h y (record { sound = m.sound; queue = m.queue; good = m.makes }) (own-stays g w j b h refl);
    })
did-keeps g w b waits action.Memory x bytes h m = tt

-- THE REQUEST

-- the request of a setup, as members read it
pub record Requested (b : BlockId) (committed : Stamp) (s : StreamState) (way : Setup) (stamp : Stamp) (o : Op) : Type 0 where
  pub fields : WriteFields
  pub is : o ≡ op.Write fields
  pub block : fields.block.block ≡ b
  pub named : fields.block.stamp ≡ committed
  pub kind_is : setup_with fields.stage ≡ Some (kind_of way)
  pub least : fields.min ≡ min_length way s
  pub new : (way ≡ setup.Create → committed ≡ stamp) → new_stamp fields ≡ stamp

pub requested : (b : BlockId) (committed : Stamp) (s : StreamState) (way : Setup) (stamp : Stamp) (n : ℕ) (ts : List NodeId) → Requested b committed s way stamp (request_for b committed s way stamp n ts)
unfolding request_for
requested b committed s setup.Create stamp n ts = record { fields = _; is = refl; block = refl; named = refl; kind_is = refl; least = refl; new = λ e. e refl }
requested b committed s setup.Append stamp n ts = record { fields = _; is = refl; block = refl; named = refl; kind_is = refl; least = refl; new = λ e. refl }
requested b committed s setup.AppendRecovery stamp n ts = record { fields = _; is = refl; block = refl; named = refl; kind_is = refl; least = refl; new = λ e. refl }
requested b committed s setup.StreamRecovery stamp n ts = record { fields = _; is = refl; block = refl; named = refl; kind_is = refl; least = refl; new = λ e. refl }
requested b committed s setup.CloseRecovery stamp n ts = record { fields = _; is = refl; block = refl; named = refl; kind_is = refl; least = refl; new = λ e. refl }

pub request-says : (g : Givens) (p : Past) (b l c : ℕ) (x : WriterRecord) (way : Setup) (stamp : Stamp) (f : WriteFields) (o : Op) → (r : Requested x.block x.committed x.stream way stamp o) → r.fields ≡ f → x.block ≡ record { 0 = b }
    → AsksFor (g b) p l x.committed x.stream way stamp → slice_get (p.downs c) 0 ≡ Some (request (op.Write f)) → WriteSays g p c f
request-says g p b l c x way stamp f o r e block a first =
    subst (λ (d : WriteFields). slice_get (p.downs c) 0 ≡ Some (request (op.Write d)) → WriteSays g p c d) e (λ q. record {
      first = q;
      session = l;
      given = subst (λ (n : ℕ). g n (new_stamp r.fields).0 ≡ Some l) (sym at) (subst (λ (t : Stamp). g b t.0 ≡ Some l) (sym (r.new a.created)) a.given);
      passes = λ t d k low high.
          subst (λ (m : Option SetupKind). Passing m p d l r.fields.min) (sym r.kind_is)
          (subst (λ (n : ℕ). Passing (Some (kind_of way)) p d l n) (sym r.least)
          (a.passes t d (subst (λ (n : ℕ). g n t ≡ Some d) at k) (subst (λ (s : Stamp). s.0 ≤ t) r.named low) (subst (λ (s : Stamp). t ≤ s.0) (r.new a.created) high)));
    }) first
  where
    at : r.fields.block.block.0 ≡ b
    at = ap (λ (q : BlockId). q.0) (r.block ∙ block)
