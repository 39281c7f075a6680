-- What writers make of answers and acks.
use Rattle.std.proofs.Common.{◌≡◌, ℕ, ℤ, ◌≤◌, ◌⊎◌, inl, inr, Bool, true, false, List, refl, length, slice_get, Option, Some, None, IfSome, sym, ◌∙◌, ap, subst, arith, eqb-true}
use Rattle.std.specs.Prelude.{max, ◌&&◌, is_none}
use Rattle.std.proofs.lemmas.Bool.{false≢true}
use Rattle.std.proofs.lemmas.Option.{same_Some}
use Rattle.hd_base.specs.declared.numbers.Stamp.{Stamp}
use Rattle.ack_codec.specs.declared.acks.Ack.{Ack}
use Rattle.ack_codec.specs.declared.responses.Response.{Response}
use Rattle.op_headers.specs.Values.{WriteFields}
use Rattle.packet_codec.specs.declared.packets.Packet.{Packet}
use Rattle.packet_stream.specs.Streams.{StreamState, packet_end, is_last, oldest_is_last}
use Rattle.writer_core.specs.declared.phases.Phase.{Phase}
use Rattle.writer_core.specs.declared.phases.Phase.TheVariants as phase
use Rattle.writer_core.specs.declared.phases.Setup.{Setup}
use Rattle.writer_core.specs.declared.phases.Setup.TheVariants as setup
use Rattle.writer_core.specs.declared.phases.Waiting.{Waiting}
use Rattle.writer_core.specs.declared.records.WriterRecord.{WriterRecord}
use Rattle.writer_core.specs.Phases.{is_success}
use Rattle.writer_core.specs.Transitions.{acked, ended, setup_answered, phase_acked, acked_oldest, is_connected}
use Rattle.world.specs.Connections.{Next, message, the_end, is_conn}
use Rattle.world.specs.Nodes.{node_of, block_of}
use Rattle.world.specs.Parts.{request, packet, ack, response, read_status, recovery_answer, Told}
use Rattle.world.specs.Worlds.{World}
use Rattle.world.specs.Clients.{named_member, writer_hears, writer_up}
use Rattle.world_laws.proofs.FactTables.{when-each, and-left, and-right}
use Rattle.world_laws.specs.Stamping.{Givens, NoLast, Setting, InPhase, Fits, known_heard, heard}
use Rattle.world_laws.proofs.StampWalking.{none-is}
use Rattle.world_laws.specs.Carrying.{new_stamp, ConnSays}
use Rattle.world_laws.proofs.ByteLeaves.{one-session}
use Rattle.world_acks.specs.Acking.{PacketEnd, end_of, AsksToRead, Seated, IsPipe, promised, SetUpFrom, Ends, AckedFrom, UpTells, reach_of, Numbers}
use Rattle.world_acks.proofs.Turning.{Known, HeardTells, same-asked, never-both}
use Rattle.world_writers.specs.Showing.{Asking, not_asked, was_asked, was_answered, asking_in}
use Rattle.world_writers.proofs.Standing.{never-asked, asked-only, HearingIn, steps-turns, ended-steps, Answered, beside, accepted, answered-is, AckTaken, unacked, good, ack-taken}
use Rattle.world_writers.specs.Piping as piping
use Rattle.world_writers.specs.Piping.{setup_stamp, IsPipeline, PipedOf}
use Rattle.world_writers.specs.Settling.{MembersSit}
use Rattle.world_writers.proofs.Keeping.{is_released, ended-keeps}
use Rattle.world_writers.proofs.Piped.{seated-less, sit-as, Piped, conn-sits, Writers, Stands, stands-turns, Standing, Stood}
use Rattle.world_writers.proofs.Stepping.{sets-reach, stream-of, in-session, stays-stood, stands-told}

-- CONNECTIONS

pub conn-is : (o : Option ℕ) (c : ℕ) → is_conn o c ≡ true → o ≡ Some c
conn-is None c e = absurd (false≢true e)
conn-is (Some d) c e = ap (λ (i : ℕ). Some i) (sym (eqb-true c d e))

-- what is known of the connection that a writer takes from
record Hears (g : Givens) (t : Ends) (w : World) (b c : ℕ) (x : WriterRecord) : Type 0 where
  pub known : Known g t w
  pub conn : (w.writers b).conn ≡ Some c
  pub says : ConnSays g w.past b (w.latest b) c
  pub stands : Stands w b (w.latest b) x (w.writers b).conn
  pub at : heard (w.writers b) ≡ x
  pub piped : PipedOf w b

-- its session is the latest one
pub latest-is : (g : Givens) (t : Ends) (w : World) (b c : ℕ) (f : WriteFields) (e : ℕ) → Known g t w → ConnSays g w.past b (w.latest b) c → IsPipe g w c f e → e ≡ w.latest b
latest-is g t w b c f e h s p =
    let sets = s.sets in
    let same : sets.fields ≡ f = same-asked w c sets.fields f (record { first = sets.first }) p.asked in
    let stamp : new_stamp f ≡ s.stamp = subst (λ (k : WriteFields). new_stamp k ≡ s.stamp) same sets.is in
    one-session g w h.facts.recorded (block_of f) b s.stamp.0 e (w.latest b) (ap (λ (z : Stamp). g (block_of f) z.0) (sym stamp) ∙ p.given) s.given

piped-here : (g : Givens) (t : Ends) (w : World) (b c : ℕ) (x : WriterRecord) → Hears g t w b c x → Piped w (w.latest b) (asking_in x.phase) x.stream.acked c
piped-here g t w b c x h = subst (λ (o : Option ℕ). IfSome o (Piped w (w.latest b) (asking_in x.phase) x.stream.acked)) h.conn h.stands.piped

-- the members of its connection, who show these bytes
sits-here : (g : Givens) (t : Ends) (w : World) (b c n : ℕ) (x : WriterRecord) → Hears g t w b c x → is_connected x.phase ≡ true → Piped w (w.latest b) was_answered n c → MembersSit w b (setup_stamp x.phase x.committed) x.members (w.latest b) n
sits-here g t w b c n x h k q =
    let p = (subst (λ (z : WriterRecord). is_connected z.phase ≡ true → piping.Piped w.past b z (w.writers b).conn) h.at h.piped) k in
    conn-sits w b x c (subst (λ (d : ℕ). IsPipeline w.past b (setup_stamp x.phase x.committed) x.members d) (same_Some p.at c (sym p.is ∙ h.conn)) p.pipeline) q

-- ANSWERS

-- all members show what an answer of SUCCESS promises
set-shown : (g : Givens) (t : Ends) (w : World) (b c n : ℕ) → Known g t w → ConnSays g w.past b (w.latest b) c → Piped w (w.latest b) was_asked n c → SetUpFrom g w c ⊎ AsksToRead w.past c → Piped w (w.latest b) was_answered n c
set-shown g t w b c n h s p (inr r) = absurd (never-both w c p.fields p.asked r)
set-shown g t w b c n h s p (inl x) =
    let same : p.fields ≡ x.fields = same-asked w c p.fields x.fields p.asked x.pipe.asked in
    let least : n ≤ promised x.fields = subst (λ (f : WriteFields). n ≤ promised f) same p.shows in
    record {
      fields = x.fields;
      known = p.known;
      asked = x.pipe.asked;
      shows = subst (λ (e : ℕ). Seated w x.fields (node_of w c) e n) (latest-is g t w b c x.fields x.session h s x.pipe) (seated-less w x.fields (node_of w c) x.session n (promised x.fields) least x.seated);
    }

answered-stands : (g : Givens) (t : Ends) (w : World) (b c : ℕ) (x y : WriterRecord) (r : Response) → Hears g t w b c x → UpTells g t w c (response r) → Answered x y (is_success r.status) → Stands w b (w.latest b) y (w.writers b).conn
answered-stands g t w b c x y r h u (beside s k) = stands-turns w b (w.latest b) x y (w.writers b).conn (steps-turns x y s) k h.stands
answered-stands g t w b c x y r h u (accepted s d at is ok from to starts same) =
    let n = x.stream.acked in
    let p = subst (λ (i : Asking). Piped w (w.latest b) i n c) from (piped-here g t w b c x h) in
    let q = set-shown g t w b c n h.known h.says p (u ok) in
    record {
      within = omega (arith, same, h.stands.within);
      starts = starts y.stream.acked;
      piped = subst (λ (o : Option ℕ). IfSome o (Piped w (w.latest b) (asking_in y.phase) y.stream.acked)) (sym h.conn)
          (subst (λ (i : Asking). Piped w (w.latest b) i y.stream.acked c) (sym to) (subst (λ (m : ℕ). Piped w (w.latest b) was_answered m c) (sym same) q));
      released = λ _.
          sit-as w b (setup_stamp x.phase x.committed) (setup_stamp y.phase y.committed) x.members y.members (w.latest b) y.stream.acked n
          (ap (λ (z : WriterRecord). setup_stamp z.phase z.committed) is ∙ sym (ap (λ (p : Phase). setup_stamp p x.committed) at)) (ap (λ (z : WriterRecord). z.members) is) (omega (arith, same))
          (sits-here g t w b c n x h (ap is_connected at) q);
    }

-- ACKS

answered-reach : (p : Phase) → asking_in p ≡ was_answered → 1 ≤ reach_of p
answered-reach phase.Closed e = absurd (never-asked e)
answered-reach (phase.Wanted s) e = absurd (never-asked e)
answered-reach (phase.Stamped s t) e = absurd (never-asked e)
answered-reach (phase.Requested s t) e = absurd (asked-only e)
answered-reach (phase.Accepted s t) e = sets-reach s
answered-reach phase.Opened e = omega arith
answered-reach (phase.Streaming sent) e = omega arith
answered-reach phase.Closing e = omega arith
answered-reach phase.Finished e = absurd (never-asked e)
answered-reach phase.Completed e = absurd (never-asked e)
answered-reach (phase.Failed f) e = absurd (never-asked e)

max-is : (a b : ℕ) → (max a b ≡ a) ⊎ (max a b ≡ b)
max-is a b = grind (arith, max a b)

max-within : (a b n : ℕ) → a ≤ n → b ≤ n → max a b ≤ n
max-within a b n p q = omega (arith, p, q)

-- all members show where the packet ends that was acked
end-shown : (g : Givens) (t : Ends) (w : World) (b c n : ℕ) (x : WriterRecord) (p : Packet) (a : Ack) → Hears g t w b c x → 1 ≤ reach_of x.phase → slice_get x.stream.unacked 0 ≡ Some p → p.seqno ≡ a.seqno → Piped w (w.latest b) was_answered n c
    → AckedFrom g t w c a.seqno → Piped w (w.latest b) was_answered (packet_end p) c
end-shown g t w b c n x p a h r old number before u =
    let e = latest-is g t w b c u.fields u.session h.known h.says u.pipe in
    let numbers = subst (λ (z : WriterRecord). Numbers (g b) t (w.latest b) z) h.at (h.known.acked.writers b) in
    let named : t (w.latest b) a.seqno ≡ Some (end_of p) = subst (λ (q : ℤ). t (w.latest b) q ≡ Some (end_of p)) number (numbers.packets r 0 p old).named in
    let end : u.end ≡ end_of p = same_Some u.end (end_of p) (sym u.named ∙ ap (λ (i : ℕ). t i a.seqno) e ∙ named) in
    record {
      fields = u.fields;
      known = before.known;
      asked = u.pipe.asked;
      shows = subst (λ (i : ℕ). Seated w u.fields (node_of w c) i (packet_end p)) e (subst (λ (m : PacketEnd). Seated w u.fields (node_of w c) u.session m.at) end u.seated);
    }

either-shown : (w : World) (e c m n k : ℕ) → (k ≡ m) ⊎ (k ≡ n) → Piped w e was_answered m c → Piped w e was_answered n c → Piped w e was_answered k c
either-shown w e c m n k (inl q) a b = subst (λ (i : ℕ). Piped w e was_answered i c) (sym q) a
either-shown w e c m n k (inr q) a b = subst (λ (i : ℕ). Piped w e was_answered i c) (sym q) b

-- whatever the phase is then
then-shown : (w : World) (e c n : ℕ) (i : Asking) → (i ≡ was_answered) ⊎ (i ≡ not_asked) → Piped w e was_answered n c → Piped w e i n c
then-shown w e c n i (inl q) p = subst (λ (j : Asking). Piped w e j n c) (sym q) p
then-shown w e c n i (inr q) p = subst (λ (j : Asking). Piped w e j n c) (sym q) (record { fields = p.fields; known = p.known; asked = p.asked; shows = tt })

-- nothing of the last packet is left to ack where a setup was only answered
never-last : (s : StreamState) → NoLast s.unacked → oldest_is_last s ≡ true → ⊥
never-last s h e = go (slice_get s.unacked 0) refl e
  where
    go : (o : Option Packet) → slice_get s.unacked 0 ≡ o → is_last o ≡ true → ⊥
    go None q k = false≢true k
    go (Some p) q k = false≢true (sym (h.none 0 p q) ∙ k)

accepted-last : (f : ℕ → Option ℕ) (l : ℕ) (c : Stamp) (waits : Option Waiting) (ps : List Packet) (d : Stamp) (s : Setup) → is_connected (phase.Accepted s d) ≡ true → Setting f l c waits ps d s → NoLast ps
accepted-last f l c waits ps d setup.Create k h = h.1
accepted-last f l c waits ps d setup.Append k h = h.1
accepted-last f l c waits ps d setup.AppendRecovery k h = h.1
accepted-last f l c waits ps d setup.StreamRecovery k h = h.1
accepted-last f l c waits ps d setup.CloseRecovery k h = absurd (false≢true k)

-- the last packet is acked under the stamp of the setup
phase-stamp : (p : Phase) (c : Stamp) (b : Bool) → HearingIn p → ((s : Setup) (d : Stamp) → p ≡ phase.Accepted s d → b ≡ true → ⊥) → is_released (phase_acked b p) ≡ true → setup_stamp (phase_acked b p) c ≡ setup_stamp p c
phase-stamp (phase.Accepted s d) c true h n r = absurd (n s d refl refl)
phase-stamp (phase.Accepted s d) c false h n r = refl
phase-stamp (phase.Streaming sent) c true h n r = refl
phase-stamp (phase.Streaming sent) c false h n r = refl
phase-stamp phase.Opened c true h n r = refl
phase-stamp phase.Opened c false h n r = refl
phase-stamp phase.Closing c true h n r = refl
phase-stamp phase.Closing c false h n r = refl
phase-stamp (phase.Requested s d) c b h n r = absurd (asked-only h.0)
phase-stamp phase.Closed c b h n r = absurd (false≢true h.1)
phase-stamp (phase.Wanted s) c b h n r = absurd (false≢true h.1)
phase-stamp (phase.Stamped s d) c b h n r = absurd (false≢true h.1)
phase-stamp phase.Finished c b h n r = absurd (false≢true h.1)
phase-stamp phase.Completed c b h n r = absurd (false≢true h.1)
phase-stamp (phase.Failed f) c b h n r = absurd (false≢true h.1)

acked-stamp : (g : Givens) (t : Ends) (w : World) (b : ℕ) {c : ℕ} (x : WriterRecord) → Hears g t w b c x → HearingIn x.phase → is_released (acked_oldest x).phase ≡ true → setup_stamp (acked_oldest x).phase x.committed ≡ setup_stamp x.phase x.committed
acked-stamp g t w b x h k r =
    phase-stamp x.phase x.committed (oldest_is_last x.stream) k (λ s d e. never-last x.stream (last s d e)) r
  where
    fits : (r : Option Stamp) × Fits (g b) (w.latest b) r x
    fits = in-session g t w b x h.known h.at (answered-reach x.phase k.0)

    last : (s : Setup) (d : Stamp) → x.phase ≡ phase.Accepted s d → NoLast x.stream.unacked
    last s d e =
        let i = subst (λ (p : Phase). InPhase (g b) (w.latest b) fits.0 x.committed x.waiting x.stream.unacked p) e fits.1 in
        accepted-last (g b) (w.latest b) x.committed x.waiting x.stream.unacked d s (subst (λ (p : Phase). is_connected p ≡ true) e k.1) i.1

ack-stands : (g : Givens) (t : Ends) (w : World) (b c : ℕ) (x y : WriterRecord) (a : Ack) → Hears g t w b c x → UpTells g t w c (ack a) → AckTaken x y a → Stands w b (w.latest b) y (w.writers b).conn
ack-stands g t w b c x y a h u (unacked s k) = stands-turns w b (w.latest b) x y (w.writers b).conn (steps-turns x y s) k h.stands
ack-stands g t w b c x y a h u (good p linked made old number clean from is to starts) =
    let r = answered-reach x.phase from in
    let n = x.stream.acked in
    let before = subst (λ (i : Asking). Piped w (w.latest b) i n c) from (piped-here g t w b c x h) in
    let ends = end-shown g t w b c n x p a h r old number before (u clean) in
    let shown = either-shown w (w.latest b) c n (packet_end p) (max n (packet_end p)) (max-is n (packet_end p)) before ends in
    let piece = (stream-of g t w b x h.known h.at r).pieces 0 p old in
    record {
      within = subst (λ (m : ℕ). m ≤ length (w.written (w.latest b))) (sym is) (max-within n (packet_end p) (length (w.written (w.latest b))) h.stands.within piece.within);
      starts = starts y.stream.acked;
      piped = subst (λ (o : Option ℕ). IfSome o (Piped w (w.latest b) (asking_in y.phase) y.stream.acked)) (sym h.conn)
          (then-shown w (w.latest b) c y.stream.acked (asking_in y.phase) to (subst (λ (m : ℕ). Piped w (w.latest b) was_answered m c) (sym is) shown));
      released = λ z.
          let same = acked-stamp g t w b x h (from, linked) (subst (λ (q : WriterRecord). is_released q.phase ≡ true) made z) in
          sit-as w b (setup_stamp x.phase x.committed) (setup_stamp y.phase y.committed) x.members y.members (w.latest b) y.stream.acked (max n (packet_end p))
          (ap (λ (q : WriterRecord). setup_stamp q.phase q.committed) made ∙ same) (ap (λ (q : WriterRecord). q.members) made) (omega (arith, is)) (sits-here g t w b c (max n (packet_end p)) x h linked shown);
    }

-- WHAT COMES

ended-stands : (g : Givens) (t : Ends) (w : World) (b c : ℕ) (x : WriterRecord) → Hears g t w b c x → Stands w b (w.latest b) (ended x) (w.writers b).conn
ended-stands g t w b c x h = stands-turns w b (w.latest b) x (ended x) (w.writers b).conn (steps-turns x (ended x) (ended-steps x)) (ended-keeps x) h.stands

hears-stands : (g : Givens) (t : Ends) (w : World) (b c : ℕ) (x : WriterRecord) (m : Next) → Hears g t w b c x → HeardTells g t w c m → Stands w b (w.latest b) (writer_hears x m) (w.writers b).conn
hears-stands g t w b c x (message (response r)) h u =
    let bad = named_member x.members r.first_bad in answered-stands g t w b c x (setup_answered x r bad) r h u (answered-is x r bad)
hears-stands g t w b c x (message (ack a)) h u = ack-stands g t w b c x (acked x a) a h u (ack-taken x a)
hears-stands g t w b c x (message (request r)) h u = ended-stands g t w b c x h
hears-stands g t w b c x (message (packet p)) h u = ended-stands g t w b c x h
hears-stands g t w b c x (message (read_status s)) h u = ended-stands g t w b c x h
hears-stands g t w b c x (message (recovery_answer a)) h u = ended-stands g t w b c x h
hears-stands g t w b c x the_end h u = ended-stands g t w b c x h

pub writer-up-stood : (g : Givens) (t : Ends) (w : World) (b c : ℕ) (m : Next) → Known g t w → Writers w → Standing g w → HeardTells g t w c m → IfSome (writer_up w b c m) (Stood g g t w)
writer-up-stood g t w b c m h v s u =
    let x = (w.writers b).known in
    when-each (Stood g g t w) (is_conn (w.writers b).conn c && is_none (w.writers b).told) _ (λ e.
    let conn = conn-is (w.writers b).conn c (and-left (is_conn (w.writers b).conn c) (is_none (w.writers b).told) e) in
    let none = none-is (w.writers b).told (and-right (is_conn (w.writers b).conn c) (is_none (w.writers b).told) e) in
    stays-stood g t w b (writer_hears x m) (hears-stands g t w b c x m (record {
      known = h;
      conn = conn;
      says = subst (λ (o : Option ℕ). IfSome o (ConnSays g w.past b (w.latest b))) conn (h.facts.carried.writers b).conn;
      stands = stands-told g w b None s none;
      at = at none;
      piped = v.pipes b;
    }) u))
  where
    at : (w.writers b).told ≡ None → heard (w.writers b) ≡ (w.writers b).known
    at e = ap (λ (o : Option Told). known_heard (w.writers b).known o) e
