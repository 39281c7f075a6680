-- Changes of lower ends, which leave the office and the writers as they are.
use Rattle.std.proofs.Common.{◌≡◌, ℕ, ◌≤◌, ◌+◌, inl, inr, List, [], slice_get, Option, Some, None, IfSome, refl, sym, ◌∙◌, subst, eqb-true}
use Rattle.std.specs.Prelude.{◌==◌}
use Rattle.std.proofs.lemmas.Option.{none-some}
use Rattle.name_core.specs.declared.records.BlockRecord.{BlockRecord}
use Rattle.name_core.specs.Offices.{OfficeState, record_of}
use Rattle.world.specs.ReplicaModel.ReplicaEvent.{ReplicaEvent}
use Rattle.world.specs.ReplicaModel.Rows.{FullReplica, IsFull}
use Rattle.world.specs.Parts.{Message, by_primary, Writing, Primary, Break}
use Rattle.world.specs.Worlds.{Past, World, Dial, Stamped, Change, put, latest_with, past_after, apply}
use Rattle.world.specs.Connections.{sent_on}
use Rattle.world.specs.Nodes.{node_of, replica_at, first_break, broke_at}
use Rattle.world_laws.proofs.FactTables.{if-each, put-each, some-weaker}
use Rattle.world.specs.WriterCore.WriterRecord.{WriterRecord}
use Rattle.world_laws.specs.Stamping.{Givens, HeldOf, heard, Recorded}
use Rattle.world_laws.specs.Carrying.{DownSays, UpSays, ReplicaSays, BreakSays, LowerSays, WriterSays, EntrySays, PrimarySays, LedBy, Carried}
use Rattle.world_laws.proofs.Fronts.{front-refl}
use Rattle.world_laws.proofs.ByteLater.{Later, replica-later, break-later, primary-later, led-later}
use Rattle.world_laws.proofs.ByteRows.{Ready, Allows, break-says}
use Rattle.world_laws.proofs.ByteFrame.{Each, each-nil, Extends, change-later, unwritten, writer-later, entry-later, keeps}

-- WHAT IS KNOWN OF A WORLD

-- What is carried; nothing was sent on a connection that wasn't dialled; each replica has just the bytes that it has written; a session that hasn't
-- begun has none; and the stamps that were given are recorded.
pub record Facts (g : Givens) (w : World) : Type 0 where
  pub carried : Carried g w
  pub fresh : (c : ℕ) → w.next_conn ≤ c → w.downs c ≡ []
  pub full : (n b : ℕ) → IsFull (w.replicas n b)
  pub unused : (s : ℕ) → w.office.next.0 ≤ s → w.written s ≡ []
  pub recorded : Recorded g w

held-before : (f : ℕ → Option ℕ) (l : ℕ) (o : Option BlockRecord) (x : WriterRecord) → HeldOf f l o x → (t e : ℕ) → f t ≡ Some e → e ≤ t
held-before f l None x h t e q = absurd (none-some e (sym (h.1 t) ∙ q))
held-before f l (Some r) x h t e q = h.office.before t e q

pub before-of : (g : Givens) (w : World) → Recorded g w → (b t e : ℕ) → g b t ≡ Some e → e ≤ t
before-of g w r b t e q = held-before (g b) (w.latest b) (record_of w.office (record { 0 = b })) (heard (w.writers b)) (r.blocks b) t e q

pub same-extends : (g : Givens) (w : World) → Recorded g w → Extends g g
same-extends g w r = record { before = before-of g w r; given = λ b t e q. q; old = λ b c t u s e q _ _. q }

-- a past is a later one than itself
pub self-later : (g : Givens) (w : World) → Recorded g w → Later g g w.past w.past
self-later g w r = record {
  before = before-of g w r;
  given = λ b t e q. q;
  old = λ b c t u s e q _ _. q;
  first = λ c m e. e;
  written = λ e. front-refl (w.written e);
  whole = λ b t s q. inl refl;
}

-- one stamp is of one session
pub one-session : (g : Givens) (w : World) → Recorded g w → (b d t s e : ℕ) → g b t ≡ Some s → g d t ≡ Some e → s ≡ e
one-session g w r b d t s e p q = sym (r.session b t s p) ∙ r.session d t e q

-- NODES

-- what is new in a change of a node
pub record NodeNews (g : Givens) (w : World) (k : Change) : Type 0 where
  pub replica : ReplicaSays g (past_after w k) k.block k.replica
  pub broke : IfSome k.broke (BreakSays g (past_after w k) k.block)
  pub lower : LowerSays (past_after w k) k.lower_at k.lower
  pub downs : (c : ℕ) → Each (DownSays g (past_after w k) c) (k.downs c)
  pub ups : (c : ℕ) → Each (UpSays g (past_after w k) c) (k.ups c)
  pub dials : (i : ℕ) (d : Dial) → slice_get k.dials i ≡ Some d → DownSays g (past_after w k) (w.next_conn + i) d.request
  pub unled : (i : ℕ) (d : Dial) → slice_get k.dials i ≡ Some d → (j place : ℕ) → d.dialled.upper ≡ by_primary j place → ⊥

-- the office, the writers and the primaries stay, and no bytes are written
pub record Beside (w : World) (k : Change) : Type 0 where
  pub office : k.office ≡ w.office
  pub stamped : k.stamped ≡ None
  pub writer : k.writer ≡ w.writers k.writer_at
  pub bytes : k.bytes ≡ []
  pub primary : k.primary ≡ w.primaries k.primary_at

pub beside-later : (g : Givens) (w : World) (k : Change) → Recorded g w → k.bytes ≡ [] → Later g g w.past (past_after w k)
beside-later g w k r e = change-later g g w k (same-extends g w r) (λ b t s _. inl (unwritten w k s (λ _. e)))

none-latest : (f : ℕ → ℕ) (o : Option Stamped) (b : ℕ) → o ≡ None → latest_with f o b ≡ f b
none-latest f o b e = subst (λ (x : Option Stamped). latest_with f x b ≡ f b) (sym e) refl

-- the writers and entries of a change that leaves them
pub still-writers : (g : Givens) (w : World) (k : Change) → Facts g w → k.stamped ≡ None → k.writer ≡ w.writers k.writer_at → k.bytes ≡ [] → Later g g w.past (past_after w k)
    → (b : ℕ) → WriterSays g (past_after w k) b (latest_with w.latest k.stamped b) (put w.writers k.writer_at k.writer b)
still-writers g w k h s e q y b =
    subst (λ (l : ℕ). WriterSays g (past_after w k) b l (put w.writers k.writer_at k.writer b)) (sym (none-latest w.latest k.stamped b s))
    (put-each (λ (d : ℕ) (x : Writing). WriterSays g (past_after w k) d (w.latest d) x) w.writers k.writer_at k.writer
    (subst (λ (x : Writing). WriterSays g (past_after w k) k.writer_at (w.latest k.writer_at) x) (sym e) (old k.writer_at)) old b)
  where
    old : (d : ℕ) → WriterSays g (past_after w k) d (w.latest d) (w.writers d)
    old d = writer-later g g w.past (past_after w k) d (w.latest d) (w.writers d) y (λ z. z) (λ _. unwritten w k (w.latest d) (λ _. q)) (h.carried.writers d)

pub still-entries : (g : Givens) (w : World) (k : Change) → Facts g w → k.office ≡ w.office → k.stamped ≡ None → k.bytes ≡ [] → Later g g w.past (past_after w k)
    → (b : ℕ) → IfSome (record_of k.office (record { 0 = b })) (EntrySays (g b) (past_after w k) (latest_with w.latest k.stamped b))
still-entries g w k h o s q y b =
    subst (λ (l : ℕ). IfSome (record_of k.office (record { 0 = b })) (EntrySays (g b) (past_after w k) l)) (sym (none-latest w.latest k.stamped b s))
    (subst (λ (p : OfficeState). IfSome (record_of p (record { 0 = b })) (EntrySays (g b) (past_after w k) (w.latest b))) (sym o)
    (some-weaker (EntrySays (g b) w.past (w.latest b)) (EntrySays (g b) (past_after w k) (w.latest b)) (record_of w.office (record { 0 = b }))
    (λ r x. entry-later g g w.past (past_after w k) b (w.latest b) r y (λ e z. z) (λ e _. inr (unwritten w k (w.latest b) (λ _. q))) x) (h.carried.entries b)))

pub node-keeps : (g : Givens) (w : World) (k : Change) → Facts g w → Beside w k → (Later g g w.past (past_after w k) → NodeNews g w k) → Carried g (apply w k)
node-keeps g w k h a news =
    let y = beside-later g w k h.recorded a.bytes in
    let n = news y in
    let p = past_after w k in
    keeps g g w k h.carried y (record {
      replica = n.replica;
      broke = n.broke;
      lower = n.lower;
      downs = n.downs;
      ups = n.ups;
      dials = n.dials;
      led = λ i place j d e u. absurd (n.unled i d e j place u);
      primary = subst (λ (x : Primary). PrimarySays g p x) (sym a.primary) (primary-later g g w.past p (w.primaries k.primary_at) y (h.carried.primaries k.primary_at));
      leads = λ c place lt u. subst (λ (x : Primary). LedBy p c x) (sym a.primary) (led-later g g w.past p c (w.primaries k.primary_at) y (h.carried.led c k.primary_at place lt u));
      writers = still-writers g w k h a.stamped a.writer a.bytes y;
      entries = still-entries g w k h a.office a.stamped a.bytes y;
    })

-- WHAT IS SENT

pub sent-each : (P : ℕ → Message → Type 0) (c : ℕ) (ms : List Message) → Each (P c) ms → (d : ℕ) → Each (P d) (sent_on (Some c) ms d)
sent-each P c ms h d =
    if-each (λ (xs : List Message). Each (P d) xs) (d == c) ms [] (λ e. subst (λ (j : ℕ). Each (P j) ms) (sym (eqb-true d c e)) h) (λ _. each-nil (P d))

pub sent-if : (P : ℕ → Message → Type 0) (o : Option ℕ) (ms : List Message) → IfSome o (λ c. Each (P c) ms) → (d : ℕ) → Each (P d) (sent_on o ms d)
sent-if P None ms h d = each-nil (P d)
sent-if P (Some c) ms h d = sent-each P c ms h d

-- REPLICAS AT NODES

-- a replica in a later past
pub ready-at : (g : Givens) (w : World) (p : Past) (n b : ℕ) → Facts g w → Later g g w.past p → Ready g p b (w.replicas n b)
ready-at g w p n b h y = record { says = replica-later g g w.past p b (w.replicas n b) y (h.carried.replicas n b); full = h.full n b }

pub break-at : (g : Givens) (w : World) (p : Past) (n b : ℕ) → Facts g w → Later g g w.past p → IfSome (w.breaks n b) (BreakSays g p b)
break-at g w p n b h y = some-weaker (BreakSays g w.past b) (BreakSays g p b) (w.breaks n b) (λ x z. break-later g g w.past p b x y z) (h.carried.breaks n b)

first-says : (g : Givens) (p : Past) (b : ℕ) (o : Option Break) (r : FullReplica) (e : ReplicaEvent) → IfSome o (BreakSays g p b) → Ready g p b r → Allows g p b e → IfSome (first_break o r e) (BreakSays g p b)
first-says g p b None r e h x a = break-says g p b r e x a
first-says g p b (Some z) r e h x a = h

pub broke-says : (g : Givens) (w : World) (p : Past) (c b : ℕ) (e : ReplicaEvent) → Facts g w → Later g g w.past p → Allows g p b e → IfSome (broke_at w c b e) (BreakSays g p b)
broke-says g w p c b e h y a = first-says g p b (w.breaks (node_of w c) b) (replica_at w c b) e (break-at g w p (node_of w c) b h y) (ready-at g w p (node_of w c) b h y) a
