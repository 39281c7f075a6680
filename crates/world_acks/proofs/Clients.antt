-- What writers, readers, primaries and the office make of what answers and acks say.
use Rattle.std.proofs.Common.{◌≡◌, ℕ, ℤ, zero, suc, ◌<◌, ◌≤◌, ◌+◌, ◌⊎◌, inl, inr, Bool, true, false, List, [], ◌∷◌, ◌++◌, slice_get, Option, Some, IfSome, Result, Ok, Err, refl, sym, ◌∙◌, ap, subst, arith, eqb-true, length}
use Rattle.std.specs.Prelude.{◌==◌, ◌&&◌, pos, if◌then◌else◌}
use Rattle.std.specs.Ordering.{int_eq}
use Rattle.std.proofs.lemmas.Bool.{eqb-false}
use Rattle.std.proofs.lemmas.Bool.Decides.{nat_tests}
use Rattle.std.proofs.lemmas.Option.{none-some, same_Some}
use Rattle.hd_base.specs.declared.numbers.NodeId.{NodeId}
use Rattle.hd_base.specs.declared.numbers.Stamp.{Stamp}
use Rattle.op_headers.specs.declared.ops.Op.{Op}
use Rattle.op_headers.specs.declared.ops.Op.TheVariants as op
use Rattle.packet_codec.specs.declared.packets.Packet.{Packet}
use Rattle.world_recoveries.specs.PacketStream.Streams.{begun}
use Rattle.writer_core.specs.declared.actions.Action.{Action}
use Rattle.writer_core.specs.declared.actions.Action.TheVariants as action
use Rattle.writer_core.specs.declared.actions.ClientAnswer.{ClientAnswer}
use Rattle.writer_core.specs.declared.commands.Command.{Command}
use Rattle.writer_core.specs.declared.commands.CommandFault.{CommandFault}
use Rattle.writer_core.specs.declared.intake.Intake.{Intake}
use Rattle.writer_core.specs.declared.phases.Phase.{Phase}
use Rattle.writer_core.specs.declared.phases.Phase.TheVariants as phase
use Rattle.writer_core.specs.declared.phases.Waiting.{Waiting}
use Rattle.writer_core.specs.declared.records.WriterRecord.{WriterRecord}
use Rattle.writer_core.specs.Commands.{admitted}
use Rattle.writer_core.specs.Transitions.{given, given_as, own_step, open_step, completed_step, dialled, dialled_in, dial_step_as}
use Rattle.replica_model.specs.Rows.{FullReplica}
use Rattle.world_recoveries.specs.World.Parts.{Message, request, packet, Lower, Writing}
use Rattle.world_recoveries.specs.World.Worlds.{World, Dial, Change, put, latest_with, past_after, apply}
use Rattle.world_recoveries.specs.World.Connections.{sent_on}
use Rattle.world_recoveries.specs.World.Clients.{reached_answer, writer_change, did, dialled_change, dialling, rest_in}
use Rattle.world_recoveries.proofs.WorldLaws.FactTables.{if-each, and-left, and-right, some-weaker}
use Rattle.world_recoveries.specs.WorldLaws.Stamping.{Givens, heard}
use Rattle.world_recoveries.specs.WorldLaws.Carrying.{ConnSays, WriteSays, new_stamp, AsksFor, Asks}
use Rattle.world_recoveries.proofs.WorldLaws.ByteAsking.{first-dial, only-one}
use Rattle.world_recoveries.proofs.WorldLaws.ByteFrame.{Each, each-nil, each-one}
use Rattle.world_recoveries.proofs.WorldLaws.ByteLeaves.{Facts, one-session, sent-if}
use Rattle.world_recoveries.specs.Recovering.{Recovering}
use Rattle.world_acks.specs.Acking.{PacketEnd, end_of, Ends, Numbered, PacketTells, UpTells, DownTells, UpperTells, LowerTells, IsPipe, Pends, reach_of, Numbers, Acked}
use Rattle.world_acks.proofs.Seats.{Steps, steps-same, lower-on, pends-on, pipe-on, Lasting}
use Rattle.world_acks.proofs.Frame.{News}
use Rattle.world_acks.specs.Waiting.{Unasked}
use Rattle.world_acks.proofs.Requests.{of_writer, Requesting, follows-unasked, out-unasked, client-requests}
use Rattle.world_acks.proofs.Turning.{Known}
use Rattle.world_acks.proofs.Lowers.{Leaf, aside-begun, dialled-there}
use Rattle.world_acks.proofs.Moves.{IsUnstamped, out-unstamped, follows-numbers, follows-itself, reach-at, Resends, Forms, Goes, own-step-goes, open-goes, completed-goes, dialled-follows, follows-then, IsUnsent, out-numbers}
use Rattle.writer_core.specs.declared.phases.Setup.{Setup}
use Rattle.writer_core.specs.Requests.{request_for}
use Rattle.op_headers.specs.Values.{WriteFields}
use Rattle.world_recoveries.proofs.WorldLaws.ByteWriting.{Requested, requested}

-- CHANGES

-- what a change leads to, with the stamps and ends that are known then
pub record Leads (g k : Givens) (t : Ends) (w : World) (c : Change) : Type 0 where
  pub ends : Ends
  pub named : (e : ℕ) (x : PacketEnd) (q : ℤ) → t e q ≡ Some x → ends e q ≡ Some x
  pub steps : Steps w c
  pub requests : Requesting w c
  pub news : Lasting g k t ends w (apply w c) → Facts k (apply w c) → Recovering k (apply w c) → News k ends w c

pub leaf-leads : (g : Givens) (t : Ends) (w : World) (k : Change) → Leaf g t w k → Leads g g t w k
leaf-leads g t w k l = record { ends = t; named = λ e x q n. n; steps = l.steps; requests = l.requests; news = l.news }

-- a change that leaves nodes as they are
pub record IsClient (w : World) (c : Change) : Type 0 where
  pub replica : c.replica ≡ w.replicas c.node c.block
  pub lower : c.lower ≡ w.lowers c.lower_at
  pub joined : c.joined ≡ []
  pub ups : (d : ℕ) → c.ups d ≡ []

pub client-news : (g k : Givens) (t u : Ends) (w : World) (c : Change) → Known g t w → IsClient w c → Lasting g k t u w (apply w c) → ((b s e : ℕ) → g b s ≡ Some e → k b s ≡ Some e)
    → ((d : ℕ) → Each (DownTells k u (apply w c) d) (c.downs d)) → ((i : ℕ) (d : Dial) → slice_get c.dials i ≡ Some d → DownTells k u (apply w c) (w.next_conn + i) d.request × UpperTells (past_after w c) (w.next_conn + i) d.dialled.upper)
    → ((b : ℕ) → Numbers (k b) u (latest_with w.latest c.stamped b) (heard (put w.writers c.writer_at c.writer b))) → ((e : ℕ) (x : PacketEnd) (q : ℤ) → u e q ≡ Some x → e < c.office.next.0) → News k u w c
client-news g k t u w c h a on given downs dials writers begun = record {
  ups = λ d. subst (λ (ms : List Message). Each (UpTells k u (apply w c) d) ms) (sym (a.ups d)) (each-nil (UpTells k u (apply w c) d));
  downs = downs;
  dials = λ i d e. (dials i d e).0;
  uppers = λ i d e. (dials i d e).1;
  lower = subst (λ (x : Lower). LowerTells k (apply w c) c.lower_at x) (sym a.lower) (lower-on g k t u w (apply w c) c.lower_at (w.lowers c.lower_at) on (h.acked.lowers c.lower_at));
  replica = pends-on-known;
  joined = λ s n l j. absurd (none-some _ (sym (ap (λ xs. slice_get xs j.place) a.joined) ∙ j.there));
  writers = writers;
  begun = begun;
}
  where
    pends-on-known : IfSome c.replica.known.info (Pends k u c.block c.replica.known)
    pends-on-known = subst (λ (r : FullReplica). IfSome r.known.info (Pends k u c.block r.known)) (sym a.replica) (pends-on g k t u w (apply w c) c.block (w.replicas c.node c.block).known on.on (h.acked.replicas c.node c.block))

-- no dials
pub none-dials : (k : Givens) (u : Ends) (w : World) (c : Change) → c.dials ≡ [] → (i : ℕ) (d : Dial) → slice_get c.dials i ≡ Some d → DownTells k u (apply w c) (w.next_conn + i) d.request × UpperTells (past_after w c) (w.next_conn + i) d.dialled.upper
none-dials k u w c s i d e = absurd (none-some d (sym (ap (λ xs. slice_get xs i) s) ∙ e))

pub none-downs : (k : Givens) (u : Ends) (v : World) (c : Change) → ((d : ℕ) → c.downs d ≡ []) → (d : ℕ) → Each (DownTells k u v d) (c.downs d)
none-downs k u v c e d = subst (λ (ms : List Message). Each (DownTells k u v d) ms) (sym (e d)) (each-nil (DownTells k u v d))

-- a client's change with the ends that were known
pub client-leads : (g : Givens) (t : Ends) (w : World) (c : Change) → Known g t w → IsClient w c → Requesting w c → c.office ≡ w.office → (Lasting g g t t w (apply w c) → (d : ℕ) → Each (DownTells g t (apply w c) d) (c.downs d))
    → ((i : ℕ) (d : Dial) → slice_get c.dials i ≡ Some d → DownTells g t (apply w c) (w.next_conn + i) d.request × UpperTells (past_after w c) (w.next_conn + i) d.dialled.upper)
    → ((b : ℕ) → Numbers (g b) t (latest_with w.latest c.stamped b) (heard (put w.writers c.writer_at c.writer b))) → Leads g g t w c
client-leads g t w c h a r o downs dials writers = record {
  ends = t;
  named = λ e x q n. n;
  steps = steps-same w c a.replica;
  requests = r;
  news = λ on facts recovers. client-news g g t t w c h a on (λ b s e q. q) (downs on) dials writers (aside-begun g t w c h.acked o);
}

-- THE REQUEST OF A DIAL

pub asked-first : (g : Givens) (t : Ends) (w : World) (k : Change) (i : ℕ) (d : Dial) (r : Op) → Facts g w → ((c : ℕ) → k.downs c ≡ []) → slice_get k.dials i ≡ Some d → d.request ≡ request r → DownTells g t (apply w k) (w.next_conn + i) d.request
unfolding apply
asked-first g t w k i d r h none e q = subst (λ (m : Message). DownTells g t (apply w k) (w.next_conn + i) m) (sym q) (go r q)
  where
    go : (r : Op) → d.request ≡ request r → DownTells g t (apply w k) (w.next_conn + i) (request r)
    go (op.Read x) z = record { asked = x; first = first-dial g w k i d h none e ∙ ap (λ (m : Message). Some m) z }
    go (op.Write f) z = tt
    go (op.Recovery x) z = tt
    go (op.Transfer x) z = tt
    go (op.Checksum x) z = tt

-- WRITERS

writer-is : (w : World) (b : ℕ) (x : WriterRecord) → IsClient w (writer_change w b x)
writer-is w b x = record { replica = refl; lower = refl; joined = refl; ups = λ _. refl }

-- the writers after one of them has changed
pub own-numbers : (g : Givens) (t u : Ends) (w : World) (b : ℕ) (z : Writing) → Acked g t w → Numbers (g b) u (w.latest b) (heard z) → ((d : ℕ) → (d ≡ b → ⊥) → Numbers (g d) u (w.latest d) (heard (w.writers d)))
    → (d : ℕ) → Numbers (g d) u (w.latest d) (heard (put w.writers b z d))
own-numbers g t u w b z h n other d = if-each (λ (y : Writing). Numbers (g d) u (w.latest d) (heard y)) (d == b) z (w.writers d) (λ e. subst (λ (i : ℕ). Numbers (g i) u (w.latest i) (heard z)) (sym (eqb-true d b e)) n) (λ e. other d (eqb-false d b e))

-- a writer that goes on
pub stays-leads : (g : Givens) (t : Ends) (w : World) (b : ℕ) (x : WriterRecord) → Known g t w → Numbers (g b) t (w.latest b) x → Unasked w.past x.phase → Leads g g t w (writer_change w b x)
stays-leads g t w b x h n u =
    let k = writer_change w b x in
    client-leads g t w k h (writer-is w b x) (client-requests w k refl refl u) refl (λ on. none-downs g t (apply w k) k (λ _. refl)) (none-dials g t w k refl) (own-numbers g t t w b k.writer h.acked n (λ d e. h.acked.writers d))

-- a packet on the writer's connection
sent-tells : (g : Givens) (t u : Ends) (w v : World) (b c : ℕ) (p : Packet) → Known g t w → Lasting g g t u w v → ConnSays g w.past b (w.latest b) c → Numbered u (w.latest b) p → PacketTells g u v c p
sent-tells g t u w v b c p h on says n =
    let sets = says.sets in
    let write : WriteSays g w.past c sets.fields = h.facts.carried.downs c 0 (request (op.Write sets.fields)) sets.first in
    let same : write.session ≡ w.latest b =
    one-session g w h.facts.recorded sets.fields.block.block.0 b says.stamp.0 write.session (w.latest b) (ap (λ (y : Stamp). g sets.fields.block.block.0 y.0) (sym sets.is) ∙ write.given) says.given in
    let pipe : IsPipe g w c sets.fields (w.latest b) = record {
      known = dialled-there g w c (request (op.Write sets.fields)) h.facts sets.first;
      asked = record { first = sets.first };
      given = write.given ∙ ap (λ (i : ℕ). Some i) same;
    } in
    record { fields = sets.fields; session = w.latest b; pipe = pipe-on g g t u w v c sets.fields (w.latest b) on.on pipe; numbered = n }

abbrev Sends : World → ℕ → Packet → WriterRecord → Change
Sends w b p x = record (writer_change w b x) { downs = sent_on (w.writers b).conn (packet p ∷ []) }

sends-is : (w : World) (b : ℕ) (p : Packet) (x : WriterRecord) → IsClient w (Sends w b p x)
sends-is w b p x = record { replica = refl; lower = refl; joined = refl; ups = λ _. refl }

sends-down : (g : Givens) (t u : Ends) (w v : World) (b : ℕ) (p : Packet) → Known g t w → Lasting g g t u w v → Numbered u (w.latest b) p → (d : ℕ) → Each (DownTells g u v d) (sent_on (w.writers b).conn (packet p ∷ []) d)
sends-down g t u w v b p h on n =
    sent-if (DownTells g u v) (w.writers b).conn (packet p ∷ [])
    (some-weaker (ConnSays g w.past b (w.latest b)) (λ c. Each (DownTells g u v c) (packet p ∷ [])) (w.writers b).conn (λ c says. each-one (DownTells g u v c) (packet p) (sent-tells g t u w v b c p h on says n)) (h.facts.carried.writers b).conn)

-- the ends with one more
with_end : Ends → ℕ → ℤ → PacketEnd → Ends
with_end t e q x = λ d z. if d == e && int_eq z q then Some x else t d z

int-same : (a b : ℤ) → int_eq a b ≡ true → a ≡ b
int-same a b e = grind (arith, nat_tests, e)

int-self : (a : ℤ) → int_eq a a ≡ true
int-self a = grind (arith, nat_tests)

eq-self : (n : ℕ) → (n == n) ≡ true
eq-self n = grind (arith, nat_tests)

same-pos : (a b : ℕ) → pos a ≡ pos b → a ≡ b
same-pos a b e = cc

end-here : (t : Ends) (e : ℕ) (q : ℤ) (x : PacketEnd) → with_end t e q x e q ≡ Some x
unfolding with_end
end-here t e q x = ap (λ (b : Bool). if b && int_eq q q then Some x else t e q) (eq-self e) ∙ ap (λ (b : Bool). if b then Some x else t e q) (int-self q)

end-either : (t : Ends) (e : ℕ) (q : ℤ) (x : PacketEnd) (d : ℕ) (z : ℤ) (y : PacketEnd) → with_end t e q x d z ≡ Some y → ((d ≡ e) × (z ≡ q)) ⊎ (t d z ≡ Some y)
unfolding with_end
end-either t e q x d z y = go (d == e && int_eq z q) refl
  where
    go : (b : Bool) → (d == e && int_eq z q) ≡ b → (if b then Some x else t d z) ≡ Some y → ((d ≡ e) × (z ≡ q)) ⊎ (t d z ≡ Some y)
    go true s r = inl (eqb-true d e (and-left (d == e) (int_eq z q) s), int-same z q (and-right (d == e) (int_eq z q) s))
    go false s r = inr r

end-old : (t : Ends) (e : ℕ) (q : ℤ) (x : PacketEnd) (d : ℕ) (z : ℤ) (y : PacketEnd) → ((k : PacketEnd) → t e q ≡ Some k → ⊥) → t d z ≡ Some y → with_end t e q x d z ≡ Some y
unfolding with_end
end-old t e q x d z y none h = go (d == e && int_eq z q) refl
  where
    go : (b : Bool) → (d == e && int_eq z q) ≡ b → (if b then Some x else t d z) ≡ Some y
    go true s = absurd (none y (subst (λ (i : ℤ). t e i ≡ Some y) (int-same z q (and-right (d == e) (int_eq z q) s)) (subst (λ (i : ℕ). t i z ≡ Some y) (eqb-true d e (and-left (d == e) (int_eq z q) s)) h)))
    go false s = h

get-end : (P : Packet → Type 0) (xs : List Packet) (x : Packet) (i : ℕ) (p : Packet) → ((j : ℕ) (y : Packet) → slice_get xs j ≡ Some y → P y) → P x → slice_get (xs ++ x ∷ []) i ≡ Some p → P p
get-end P [] x zero p h k e = subst P (same_Some x p e) k
get-end P [] x (suc i) p h k e = absurd (none-some p e)
get-end P (z ∷ xs) x zero p h k e = h zero p e
get-end P (z ∷ xs) x (suc i) p h k e = get-end P xs x i p (λ j y r. h (suc j) y r) k e

-- the writer of a packet that it has formed
formed-leads : (g : Givens) (t : Ends) (w : World) (b : ℕ) (p : Packet) (x y : WriterRecord) → Known g t w → Numbers (g b) t (w.latest b) x → Forms x y p → Leads g g t w (Sends w b p y)
formed-leads g t w b p x y h n f =
    let e = w.latest b in
    let u = with_end t e p.seqno (end_of p) in
    let own : g b e ≡ Some e = n.known (omega (arith, f.reach)) in
    let free : (k : PacketEnd) → t e p.seqno ≡ Some k → ⊥ = λ k z. absurd (omega (arith, n.below (omega (arith, f.reach)) x.stream.seqno k (ap (λ (i : ℤ). t e i) (sym f.number) ∙ z))) in
    let named : (d : ℕ) (k : PacketEnd) (q : ℤ) → t d q ≡ Some k → u d q ≡ Some k = λ d k q z. end-old t e p.seqno (end_of p) d q k free z in
    let new : Numbered u e p = record { number = x.stream.seqno; is = f.number; named = end-here t e p.seqno (end_of p) } in
    record {
      ends = u;
      named = named;
      steps = steps-same w (Sends w b p y) refl;
      requests = client-requests w (Sends w b p y) refl refl (out-unasked w.past y.phase f.unstamped);
      news = λ on facts recovers. client-news g g t u w (Sends w b p y) h (sends-is w b p y) on (λ a s d q. q) (sends-down g t u w (apply w (Sends w b p y)) b p h on new) (none-dials g u w (Sends w b p y) refl)
          (own-numbers g t u w b (Sends w b p y).writer h.acked (mine u new named own) (λ d apart. other d apart own named))
          (λ d k q z. begun d k q own (end-either t e p.seqno (end_of p) d q k z));
    }
  where
    mine : (u : Ends) → Numbered (with_end t (w.latest b) p.seqno (end_of p)) (w.latest b) p → ((d : ℕ) (k : PacketEnd) (q : ℤ) → t d q ≡ Some k → with_end t (w.latest b) p.seqno (end_of p) d q ≡ Some k) → g b (w.latest b) ≡ Some (w.latest b)
        → Numbers (g b) (with_end t (w.latest b) p.seqno (end_of p)) (w.latest b) y
    mine u new named own = record {
      known = λ _. own;
      packets = λ r i q z. get-end (Numbered (with_end t (w.latest b) p.seqno (end_of p)) (w.latest b)) x.stream.unacked p i q
          (λ j d s. let o = n.packets (omega (arith, f.reach)) j d s in record { number = o.number; is = o.is; named = named (w.latest b) (end_of d) d.seqno o.named }) new
          (subst (λ (xs : List Packet). slice_get xs i ≡ Some q) f.packets z);
      below = λ r q k z. low q k (f.next r) (end-either t (w.latest b) p.seqno (end_of p) (w.latest b) (pos q) k z);
    }
      where
        low : (q : ℕ) (k : PacketEnd) → y.stream.seqno ≡ x.stream.seqno + 1 → ((w.latest b ≡ w.latest b) × (pos q ≡ p.seqno)) ⊎ (t (w.latest b) (pos q) ≡ Some k) → q < y.stream.seqno
        low q k s (inl z) = omega (arith, s, same-pos q x.stream.seqno (z.1 ∙ f.number))
        low q k s (inr z) = omega (arith, s, n.below (omega (arith, f.reach)) q k z)

    other : (d : ℕ) → (d ≡ b → ⊥) → g b (w.latest b) ≡ Some (w.latest b) → ((d : ℕ) (k : PacketEnd) (q : ℤ) → t d q ≡ Some k → with_end t (w.latest b) p.seqno (end_of p) d q ≡ Some k)
        → Numbers (g d) (with_end t (w.latest b) p.seqno (end_of p)) (w.latest d) (heard (w.writers d))
    other d apart own named =
        let z = h.acked.writers d in
        record {
          known = z.known;
          packets = λ r i q s. let o = z.packets r i q s in record { number = o.number; is = o.is; named = named (w.latest d) (end_of q) q.seqno o.named };
          below = λ r q k s. low r q k (end-either t (w.latest b) p.seqno (end_of p) (w.latest d) (pos q) k s);
        }
      where
        low : 2 ≤ reach_of (heard (w.writers d)).phase → (q : ℕ) (k : PacketEnd) → ((w.latest d ≡ w.latest b) × (pos q ≡ p.seqno)) ⊎ (t (w.latest d) (pos q) ≡ Some k) → q < (heard (w.writers d)).stream.seqno
        low r q k (inr s) = (h.acked.writers d).below r q k s
        low r q k (inl s) = absurd (apart (h.facts.recorded.one d b (w.latest b) (w.latest d) (w.latest b) (ap (λ (i : ℕ). g d i) (sym s.0) ∙ (h.acked.writers d).known (omega (arith, r))) own))

    begun : (d : ℕ) (k : PacketEnd) (q : ℤ) → g b (w.latest b) ≡ Some (w.latest b) → ((d ≡ w.latest b) × (q ≡ p.seqno)) ⊎ (t d q ≡ Some k) → d < w.office.next.0
    begun d k q own (inl z) = omega (arith, h.facts.recorded.below b (w.latest b) (w.latest b) own, z.0)
    begun d k q own (inr z) = h.acked.begun d k q z

resent-leads : (g : Givens) (t : Ends) (w : World) (b : ℕ) (p : Packet) (x y : WriterRecord) → Known g t w → Numbers (g b) t (w.latest b) x → Unasked w.past x.phase → Resends x y p → Leads g g t w (Sends w b p y)
resent-leads g t w b p x y h n u f =
    let k = Sends w b p y in
    client-leads g t w k h (sends-is w b p y) (client-requests w k refl refl (follows-unasked w.past x y f.follows u)) refl (λ on. sends-down g t t w (apply w k) b p h on (n.packets f.within f.old.place p f.old.there)) (none-dials g t w k refl)
    (own-numbers g t t w b k.writer h.acked (follows-numbers (g b) t (w.latest b) x y f.follows.continues n) (λ d e. h.acked.writers d))

pub did-leads : (g : Givens) (t : Ends) (w : World) (b : ℕ) (waits : Option Waiting) (x : WriterRecord) (a : Action) (y : WriterRecord) (bytes : List ℕ) → Known g t w → Numbers (g b) t (w.latest b) x → Unasked w.past x.phase → Goes x a y → IfSome (did w b waits a y bytes) (Leads g g t w)
did-leads g t w b waits x action.Wait y bytes h n u f = tt
did-leads g t w b waits x (action.Ask c) y bytes h n u f = tt
did-leads g t w b waits x (action.Dial to r) y bytes h n u f = tt
did-leads g t w b waits x action.Memory y bytes h n u f = tt
did-leads g t w b waits x (action.Send p) y bytes h n u (inl f) = resent-leads g t w b p x y h n u f
did-leads g t w b waits x (action.Send p) y bytes h n u (inr f) = formed-leads g t w b p x y h n f
did-leads g t w b waits x action.Took y bytes h n u f =
    let k : Change = record (writer_change w b y) { session = w.latest b; bytes = bytes } in
    client-leads g t w k h (record { replica = refl; lower = refl; joined = refl; ups = λ _. refl }) (client-requests w k refl refl (follows-unasked w.past x y f u)) refl (λ on. none-downs g t (apply w k) k (λ _. refl)) (none-dials g t w k refl)
    (own-numbers g t t w b k.writer h.acked (follows-numbers (g b) t (w.latest b) x y f.continues n) (λ d e. h.acked.writers d))
did-leads g t w b waits x (action.Answered i c) y bytes h n u f =
    let k = answers i c in
    client-leads g t w k h (record { replica = refl; lower = refl; joined = refl; ups = λ _. refl }) (client-requests w k refl refl (follows-unasked w.past x y f u)) refl (λ on. none-downs g t (apply w k) k (λ _. refl)) (none-dials g t w k refl)
    (own-numbers g t t w b k.writer h.acked (follows-numbers (g b) t (w.latest b) x y f.continues n) (λ d e. h.acked.writers d))
  where
    answers : ℕ → ClientAnswer → Change
    answers i c = record (writer_change w b y) { said = record { ordinal = i; answer = c } ∷ []; answered = reached_answer b waits c }

dialled-unstamped : (x : WriterRecord) (s : Setup) (stamp : Stamp) → x.phase ≡ phase.Stamped s stamp → IsUnstamped (dialled x true).phase
unfolding dialled
dialled-unstamped x s stamp e = subst (λ (p : Phase). IsUnstamped (dialled_in x p true).phase) (sym e) tt

-- the dial of a setup asks under its stamp
dialled-leads : (g : Givens) (t : Ends) (w : World) (b : ℕ) (x : WriterRecord) (s : Setup) (stamp : Stamp) (to : NodeId) (r : Op) (answered : Bool) → Known g t w → Numbers (g b) t (w.latest b) x → Unasked w.past x.phase
    → heard (w.writers b) ≡ x → x.phase ≡ phase.Stamped s stamp → ((f : WriteFields) → r ≡ op.Write f → new_stamp f ≡ stamp) → Leads g g t w (dialled_change w b x to r answered)
dialled-leads g t w b x s stamp to r false h n u q e asks =
    stays-leads g t w b (dialled x false) h (follows-numbers (g b) t (w.latest b) x (dialled x false) (dialled-follows x false).continues n) (follows-unasked w.past x (dialled x false) (dialled-follows x false) u)
dialled-leads g t w b x s stamp to r true h n u q e asks =
    let k = dialled_change w b x to r true in
    client-leads g t w k h (record { replica = refl; lower = refl; joined = refl; ups = λ _. refl })
    (record {
      lower = λ z. z;
      alone = λ i d z c. refl;
      each = λ i d f z y. (first-only i d z, of_writer s stamp (ap (λ (v : WriterRecord). v.phase) q ∙ e) (asks f (same-request r f (sym (only-one (λ j v. v.request ≡ request r) _ k.dials refl refl i d z) ∙ y))) (dialled-unstamped x s stamp e));
      own = follows-unasked w.past x (dialled x true) (dialled-follows x true) u;
    })
    refl (λ on. none-downs g t (apply w k) k (λ _. refl))
    (λ i d e. (asked-first g t w k i d r h.facts (λ _. refl) e (only-one (λ j z. z.request ≡ request r) _ k.dials refl refl i d e), only-one (λ j z. UpperTells (past_after w k) (w.next_conn + j) z.dialled.upper) _ k.dials refl tt i d e))
    (own-numbers g t t w b k.writer h.acked (follows-numbers (g b) t (w.latest b) x (dialled x true) (dialled-follows x true).continues n) (λ d e. h.acked.writers d))
  where
    same-request : (a : Op) (f : WriteFields) → request a ≡ request (op.Write f) → a ≡ op.Write f
    same-request a f z = cc

    first-only : (i : ℕ) (d : Dial) → slice_get (dialled_change w b x to r true).dials i ≡ Some d → i ≡ 0
    first-only zero d z = refl
    first-only (suc i) d z = absurd (none-some d z)

-- what a writer asks for under its setup's stamp
asks-under : (g : Givens) (w : World) (b : ℕ) (x : WriterRecord) (s : Setup) (stamp : Stamp) (ms : List NodeId) → Facts g w → heard (w.writers b) ≡ x → x.phase ≡ phase.Stamped s stamp
    → (f : WriteFields) → request_for x.block x.committed x.stream s stamp (length x.members) ms ≡ op.Write f → new_stamp f ≡ stamp
asks-under g w b x s stamp ms h q e f z =
    ap new_stamp (same-write f r.fields (sym z ∙ r.is)) ∙ r.new asked.created
  where
    r : Requested x.block x.committed x.stream s stamp (request_for x.block x.committed x.stream s stamp (length x.members) ms)
    r = requested x.block x.committed x.stream s stamp (length x.members) ms

    same-write : (a d : WriteFields) → op.Write a ≡ op.Write d → a ≡ d
    same-write a d e = cc

    asks : Asks (g b) w.past (w.latest b) x.committed x.stream x.phase
    asks = subst (λ (y : WriterRecord). Asks (g b) w.past (w.latest b) y.committed y.stream y.phase) q (h.carried.writers b).asks

    asked : AsksFor (g b) w.past (w.latest b) x.committed x.stream s stamp
    asked = subst (λ (p : Phase). Asks (g b) w.past (w.latest b) x.committed x.stream p) e asks

dialling-leads : (g : Givens) (t : Ends) (w : World) (b : ℕ) (x : WriterRecord) (s : Setup) (stamp : Stamp) (ms : List NodeId) (answered : Bool) → Known g t w → Numbers (g b) t (w.latest b) x → Unasked w.past x.phase
    → heard (w.writers b) ≡ x → x.phase ≡ phase.Stamped s stamp → Leads g g t w (dialling w b x (dial_step_as x s stamp ms).action answered)
dialling-leads g t w b x s stamp [] answered h n u q e = stays-leads g t w b x h n u
dialling-leads g t w b x s stamp (m ∷ ms) answered h n u q e =
    dialled-leads g t w b x s stamp m (request_for x.block x.committed x.stream s stamp (length x.members) ms) (answered && w.running m.0) h n u q e (asks-under g w b x s stamp ms h.facts q e)

pub rest-leads : (p : Phase) (g : Givens) (t : Ends) (w : World) (b : ℕ) (x : WriterRecord) (answered : Bool) → x.phase ≡ p → heard (w.writers b) ≡ x → Known g t w → Numbers (g b) t (w.latest b) x → IfSome (rest_in p w b x answered) (Leads g g t w)
rest-leads p g t w b x answered e q h n = go p e
  where
    u : Unasked w.past x.phase
    u = subst (λ (y : WriterRecord). Unasked w.past y.phase) q (h.requests.unasked b)

    go : (p : Phase) → x.phase ≡ p → IfSome (rest_in p w b x answered) (Leads g g t w)
    go phase.Closed e = stays-leads g t w b x h n u
    go (phase.Wanted s) e = stays-leads g t w b x h n u
    go (phase.Stamped s stamp) e = dialling-leads g t w b x s stamp x.members answered h n u q e
    go (phase.Requested s stamp) e = stays-leads g t w b x h n u
    go (phase.Accepted s stamp) e = stays-leads g t w b x h n u
    go phase.Opened e = did-leads g t w b x.waiting x (open_step x).action (open_step x).writer [] h n u (open-goes x (reach-at x phase.Opened e))
    go (phase.Streaming sent) e = stays-leads g t w b x h n u
    go phase.Closing e = stays-leads g t w b x h n u
    go phase.Finished e = stays-leads g t w b x h n u
    go phase.Completed e = did-leads g t w b x.waiting x (completed_step x).action (completed_step x).writer [] h n u (completed-goes x)
    go (phase.Failed f) e = stays-leads g t w b x h n u

-- the given command leaves the stream and the phase
given-stream : (x : WriterRecord) (c : Command) → ((given x c).stream ≡ x.stream) × ((given x c).phase ≡ x.phase)
given-stream x c = go (admitted x.intake c)
  where
    go : (r : Result Intake CommandFault) → ((given_as x c r).stream ≡ x.stream) × ((given_as x c r).phase ≡ x.phase)
    go (Ok i) = (refl, refl)
    go (Err e) = (refl, refl)

pub taken-leads : (g : Givens) (t : Ends) (w : World) (b : ℕ) (x : WriterRecord) (c : Command) (waits : Option Waiting) (bytes : List ℕ) → Known g t w → Numbers (g b) t (w.latest b) x → Unasked w.past x.phase
    → IfSome (did w b waits (own_step (given x c)).action (own_step (given x c)).writer bytes) (Leads g g t w)
taken-leads g t w b x c waits bytes h n u =
    let z = given x c in
    let s = given-stream x c in
    did-leads g t w b waits x (own_step z).action (own_step z).writer bytes h n u (follows-then x z (own_step z).action (own_step z).writer s.0 s.1 (own-step-goes z))

-- a writer that is outside of its session does nothing with it
pub out-leads : (g : Givens) (t : Ends) (w : World) (b : ℕ) (waits : Option Waiting) (a : Action) (y : WriterRecord) (bytes : List ℕ) → Known g t w → reach_of y.phase ≡ 0 → IsUnsent a → IfSome (did w b waits a y bytes) (Leads g g t w)
out-leads g t w b waits action.Wait y bytes h z u = tt
out-leads g t w b waits (action.Ask c) y bytes h z u = tt
out-leads g t w b waits (action.Dial to r) y bytes h z u = tt
out-leads g t w b waits action.Memory y bytes h z u = tt
out-leads g t w b waits (action.Send p) y bytes h z u = absurd u
out-leads g t w b waits action.Took y bytes h z u = did-leads g t w b waits y action.Took y bytes h (out-numbers (g b) t (w.latest b) y z) (out-unasked w.past y.phase (out-unstamped y.phase z)) (follows-itself y)
out-leads g t w b waits (action.Answered i c) y bytes h z u = did-leads g t w b waits y (action.Answered i c) y bytes h (out-numbers (g b) t (w.latest b) y z) (out-unasked w.past y.phase (out-unstamped y.phase z)) (follows-itself y)
