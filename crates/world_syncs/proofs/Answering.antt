-- The answer to an hsync, setups that are dialled, and what the office answers.
use Rattle.std.proofs.Common.{◌≡◌, ℕ, ℤ, ◌≤◌, ◌⊎◌, inl, inr, true, List, [], slice_get, Option, Some, None, Ok, Err, refl, sym, ap, subst, ◌∙◌, arith, eqb-true}
use Rattle.std.specs.Prelude.{◌==◌}
use Rattle.std.proofs.lemmas.Bool.{false≢true, eqb-false}
use Rattle.std.proofs.lemmas.Option.{none-some}
use Rattle.hd_base.specs.declared.numbers.NodeId.{NodeId}
use Rattle.hd_base.specs.declared.numbers.Stamp.{Stamp}
use Rattle.op_headers.specs.declared.ops.Op.{Op}
use Rattle.op_headers.specs.declared.ops.Op.TheVariants as op
use Rattle.op_headers.specs.Values.{WriteFields}
use Rattle.packet_codec.specs.declared.packets.Packet.{Packet}
use Rattle.member_core.specs.declared.requests.SetupKind.{SetupKind}
use Rattle.member_core.specs.declared.requests.SetupKind.TheVariants as kind
use Rattle.member_core.specs.Requests.{setup_with}
use Rattle.name_core.specs.declared.calls.OfficeAnswer.TheVariants as office
use Rattle.name_core.specs.declared.calls.OfficeCall.{OfficeCall}
use Rattle.name_core.specs.declared.calls.OfficeCall.TheVariants as call
use Rattle.writer_core.specs.declared.actions.Action.TheVariants as action
use Rattle.writer_core.specs.declared.actions.ClientAnswer.TheVariants as answer
use Rattle.writer_core.specs.declared.phases.Phase.{Phase}
use Rattle.writer_core.specs.declared.phases.Phase.TheVariants as phase
use Rattle.writer_core.specs.declared.phases.Setup.{Setup}
use Rattle.writer_core.specs.declared.phases.Setup.TheVariants as setup
use Rattle.writer_core.specs.declared.phases.SyncPacket.{SyncPacket}
use Rattle.writer_core.specs.declared.phases.Waiting.TheVariants as waiting
use Rattle.writer_core.specs.declared.records.WriterRecord.{WriterRecord}
use Rattle.packet_stream.specs.Streams.{oldest_seqno}
use Rattle.writer_core.specs.Transitions.{is_acked, own_step, is_connected, dialled, granted}
use Rattle.world.specs.Parts.{Message, request, packet, Told, Writing, by_hsync}
use Rattle.world.specs.Worlds.{World, Stamped, Change, put, latest_with, apply}
use Rattle.world.specs.Nodes.{node_of, block_of}
use Rattle.world.specs.Clients.{dialled_change}
use Rattle.world.specs.Primaries.{stamped_by, asks_writer}
use Rattle.world.specs.Safe.{Has}
use Rattle.name_core.specs.Offices.{answer_to}
use Rattle.world_laws.proofs.FactTables.{if-each}
use Rattle.world_laws.proofs.ByteAsking.{only-one}
use Rattle.world_laws.proofs.ByteFrame.{Each, each-nil}
use Rattle.world_laws.proofs.OfficeSteps.{AsksAs}
use Rattle.world_laws.specs.Stamping.{Givens, Fits, InPhase, given_with, heard}
use Rattle.world_laws.specs.Carrying.{new_stamp, Sets, kind_of}
use Rattle.world_laws.specs.Joining.{joined_as}
use Rattle.world_finals.specs.Finishing.{WriterEnds, is_closing}
use Rattle.world_acks.specs.Acking.{Ends, Seat, Seated, reach_of}
use Rattle.world_acks.specs.Waiting.{Unasked}
use Rattle.world_acks.proofs.Granting.{put-own}
use Rattle.world_writers.specs.Piping.{Piped}
use Rattle.world_writers.specs.Showing.{ShowsAt, asking_in, Shows}
use Rattle.world_writers.proofs.Reaching.{answers_in, own-step-says}
use Rattle.world_syncs.specs.Histories.{Histories}
use Rattle.world_syncs.proofs.Seats.{SyncSeat}
use Rattle.world_syncs.proofs.Writers.{Formed, WaitsSame, WaitedOf, PhaseOpens, SetupOpens, SyncAnswers, WaitsSync, stream-sync-answers, unacked-first, asked_stamp, asked-wait, Commits, GrantsWait, granted-wait}
use Rattle.world_syncs.proofs.Waiting.{SyncReached, FormedOk, WriterWaits, NoneSent, AnswerSyncs, Waits, Frame, waits-on, unsent-on}
use Rattle.world_syncs.proofs.Changes.{NewDown, NewDial, NewSent}
use Rattle.world_syncs.proofs.Stepping.{Around, After, Leads, NoPacket, NoFields, own-leads, frame-of, none-joined, same-waits, answers-of}
use Rattle.world_syncs.proofs.Acking.{Committed, committed-of, of-member}

-- THE ANSWER

close-apart : (n : ℕ) (q : ℤ) → Some waiting.Close ≡ Formed n q → ⊥
close-apart n q e = cc

opening-apart : (n : ℕ) (q : ℤ) → Some waiting.Opening ≡ Formed n q → ⊥
opening-apart n q e = cc

flush-apart : (n : ℕ) (p : SyncPacket) → Some waiting.Close ≡ Some (waiting.Sync n p) → ⊥
flush-apart n p e = cc

-- a writer that answers an hsync streams
streams-of : (g : Givens) (t : Ends) (h : Histories) (w : World) (b i n : ℕ) (x : WriterRecord) (s : Stamp) (ms : List NodeId) → Around g t h w → heard (w.writers b) ≡ x → WaitsSync x → (own_step x).action ≡ action.Answered i (answer.Reached n s ms) → (sent : ℕ) × (x.phase ≡ phase.Streaming sent)
streams-of g t h w b i n x s ms a e sync said = go x.phase refl (own-step-says x i n s ms said).reaches
  where
    ends : WriterEnds x
    ends = subst WriterEnds e (a.ends b)

    go : (p : Phase) → x.phase ≡ p → answers_in p ≡ true → (sent : ℕ) × (x.phase ≡ phase.Streaming sent)
    go (phase.Streaming sent) q r = (sent, q)
    go phase.Completed q r = absurd (flush-apart sync.least sync.packet (sym (ends.closing (ap is_closing q)) ∙ sync.is))
    go phase.Closed q r = absurd (false≢true r)
    go (phase.Wanted z) q r = absurd (false≢true r)
    go (phase.Stamped z u) q r = absurd (false≢true r)
    go (phase.Requested z u) q r = absurd (false≢true r)
    go (phase.Accepted z u) q r = absurd (false≢true r)
    go phase.Opened q r = absurd (false≢true r)
    go phase.Closing q r = absurd (false≢true r)
    go phase.Finished q r = absurd (false≢true r)
    go (phase.Failed f) q r = absurd (false≢true r)

pub answer-syncs : (g : Givens) (t : Ends) (h : Histories) (w : World) (b i n : ℕ) (x : WriterRecord) (s : Stamp) (ms : List NodeId) → Around g t h w → heard (w.writers b) ≡ x → WaitsSync x → (own_step x).action ≡ action.Answered i (answer.Reached n s ms) → AnswerSyncs h w (record { block = b; command = by_hsync; length = n; stamp = s.0; members = ms })
answer-syncs g t h w b i n x s ms a e sync said m has lt =
    subst (λ (z : Stamp). SyncSeat h w b z.0 m.0 n) (sym y.stamp) (go f.stands)
  where
    sent : (k : ℕ) × (x.phase ≡ phase.Streaming k)
    sent = streams-of g t h w b i n x s ms a e sync said

    y : SyncAnswers x n s ms
    y = stream-sync-answers x sent.0 i n s ms sent.1 sync said

    f : FormedOk g h w b (w.latest b) x n y.number
    f = (subst (λ (z : WriterRecord). WriterWaits g h w b (w.latest b) z) e (a.waits.writers b)) n y.number y.waits (omega (arith, ap (λ (p : Phase). reach_of p) sent.1))

    piped : Piped w.past b x (w.writers b).conn
    piped = (subst (λ (z : WriterRecord). is_connected z.phase ≡ true → Piped w.past b z (w.writers b).conn) e (a.piped b)) (ap is_connected sent.1)

    k : Committed g w b piped.at x
    k = committed-of g t h w b piped.at x a (record { is = e; conn = piped.is; sent = sent.0; at = sent.1 })

    member : Has x.members m
    member = subst (λ (xs : List NodeId). Has xs m) y.members has

    seated : Seated w k.pipeline.fields (node_of w piped.at) (w.latest b) x.stream.acked
    seated =
        let z : Shows w (w.latest b) x (w.writers b).conn = subst (λ (z : WriterRecord). Shows w (w.latest b) z (w.writers b).conn) e (a.shows b) in
        subst (λ (p : Phase). ShowsAt (asking_in p) w piped.at k.pipeline.fields (w.latest b) x.stream.acked) sent.1 (z.shown piped.at piped.is k.pipeline.fields (record { first = k.pipeline.asked }))

    named : (c : ℕ) → Seat w (block_of k.pipeline.fields) (new_stamp k.pipeline.fields).0 (w.latest b) c x.stream.acked → (life : ℕ) × Has w.joined (joined_as x.committed.0 c life)
    named c z = (z.life, subst (λ (u : Stamp). Has w.joined (joined_as u.0 c z.life)) k.pipeline.stamp_is z.joins)

    joined : (life : ℕ) × Has w.joined (joined_as x.committed.0 m.0 life)
    joined = of-member w b piped.at w.nodes x.committed x.members m (λ (c : ℕ). (life : ℕ) × Has w.joined (joined_as x.committed.0 c life)) a.joins.few lt k.pipeline (named (node_of w piped.at) seated.here) (λ j c u p q. named c (seated.below j c u p q)) member

    go : ((j : ℕ) × (d : Packet) × (slice_get x.stream.unacked j ≡ Some d) × (d.seqno ≡ y.number)) ⊎ SyncReached g h w b (w.latest b) x.committed x.members n → SyncSeat h w b x.committed.0 m.0 n
    go (inl z) = absurd (unacked-first 0 x.stream.seqno x.stream.unacked z.0 z.1 (subst (λ (u : WriterRecord). WaitedOf u) e (a.waited b)).ordered z.2 (subst (λ (q : ℤ). is_acked q (oldest_seqno x.stream) ≡ true) (sym z.3) y.acked))
    go (inr z) = z.seats x.committed.0 joined.0 m member lt z.least k.given joined.1

-- DIALS

-- the request of a setup
abbrev pub Asks : ℕ → Stamp → Setup → WriteFields → Type 0
Asks b committed way f = (block_of f ≡ b) × (setup_with f.stage ≡ Some (kind_of way)) × (f.block.stamp ≡ committed)

-- a setup that is dialled while a packet of an hsync is awaited is the recovery of a stream
stream-only : (x : WriterRecord) (way : Setup) (u : Stamp) (n : ℕ) (q : ℤ) → x.phase ≡ phase.Stamped way u → x.waiting ≡ Formed n q → WaitedOf x → WriterEnds x → kind_of way ≡ kind.StreamRecovery
stream-only x way u n q e w h ends = go way e (subst (λ (p : Phase). PhaseOpens p x.waiting) e h.opens)
  where
    go : (z : Setup) → x.phase ≡ phase.Stamped z u → SetupOpens z x.waiting → kind_of z ≡ kind.StreamRecovery
    go setup.Create p o = absurd (opening-apart n q (sym o ∙ w))
    go setup.Append p o = absurd (opening-apart n q (sym o ∙ w))
    go setup.AppendRecovery p o = absurd (opening-apart n q (sym o ∙ w))
    go setup.StreamRecovery p o = refl
    go setup.CloseRecovery p o = absurd (close-apart n q (sym (ends.closing (ap is_closing p)) ∙ w))

pub dial-leads : (g : Givens) (t : Ends) (h : Histories) (w : World) (b : ℕ) (x : WriterRecord) (way : Setup) (u : Stamp) (to : NodeId) (r : Op) → Around g t h w → heard (w.writers b) ≡ x → x.phase ≡ phase.Stamped way u → ((f : WriteFields) → r ≡ op.Write f → Asks b x.committed way f) → ((f : Op) → r ≡ f → NewDial w.past (Asks b x.committed way) (request f))
    → Leads g g t h h w (dialled_change w b x to r true)
dial-leads g t h w b x way u to r a e p fields dial =
    let k = dialled_change w b x to r true in
    own-leads g t h h w b (dialled x true) k NoPacket (Asks b x.committed way) a (record {
      at = refl;
      heard_is = refl;
      stamped = refl;
      joined = refl;
      sent = record {
        downs = λ c. each-nil (NewDown w.past NoPacket c);
        dials = λ i d z. only-one (λ m y. NewDial w.past (Asks b x.committed way) y.request) _ k.dials refl (dial r refl) i d z;
      };
      packets = λ d s new. absurd new;
      fields = λ f new. new.0;
    })
    (λ fr. waits-on g g t h h w (apply w k) NoPacket (Asks b x.committed way) b (w.latest b) x (dialled x true) fr on.0.each (λ n q z y o d s new. absurd new)
    (λ n q z y o. (omega (arith, o.least, ap (λ (s : Stamp). s.0) on.0.committed), λ f new block. (new.1 ∙ ap (λ (m : SetupKind). Some m) (stream-only x way u n q p (on.0.each n q z y).waits waited ends), omega (arith, reached-least o, ap (λ (s : Stamp). s.0) new.2))))
    (subst (λ (z : WriterRecord). WriterWaits g h w b (w.latest b) z) e (a.waits.writers b)))
    (λ fr s q c i d there sets. none (on.1 s q) (fr.sent c i d s there sets))
    (λ later z said. absurd (none-some z said))
  where
    on : WaitsSame x (dialled x true) × ((s : Stamp) → asked_stamp (dialled x true).phase ≡ Some s → s ≡ u)
    on = asked-wait x way u p

    waited : WaitedOf x
    waited = subst (λ (z : WriterRecord). WaitedOf z) e (a.waited b)

    ends : WriterEnds x
    ends = subst WriterEnds e (a.ends b)

    reached-least : {n : ℕ} → (o : SyncReached g h w b (w.latest b) x.committed x.members n) → o.from ≤ x.committed.0
    reached-least o = o.least

    unasked : (c : ℕ) → Sets w.past c u → ⊥
    unasked = subst (λ (z : Phase). Unasked w.past z) p (subst (λ (z : WriterRecord). Unasked w.past z.phase) e (a.known.requests.unasked b))

    none : {d : Packet} {s : Stamp} → s ≡ u → ((i : ℕ) × (j : ℕ) × (slice_get (w.downs i) j ≡ Some (packet d)) × Sets w.past i s) ⊎ ⊥ → ⊥
    none q (inl z) = unasked z.0 (subst (λ (y : Stamp). Sets w.past z.0 y) q z.3)
    none q (inr z) = z

-- THE OFFICE

-- what is asked while a packet of an hsync is awaited begins no session
latest-same : (w : World) (x : WriterRecord) (c : OfficeCall) (told : Told) (d n : ℕ) (q : ℤ) → AsksAs x c → x.waiting ≡ Formed n q → WaitedOf x → latest_with w.latest (stamped_by w c told) d ≡ w.latest d
latest-same w x (call.Create b ms) told d n q a e h = absurd (opening-apart n q (sym (subst (λ (p : Phase). PhaseOpens p x.waiting) a.at h.opens) ∙ e))
latest-same w x (call.Append b) told d n q a e h = absurd (opening-apart n q (sym (subst (λ (p : Phase). PhaseOpens p x.waiting) a.at h.opens) ∙ e))
latest-same w x (call.NewStamp b) (Ok (office.Stamp s)) d n q a e h = put-own w.latest b.0 d
latest-same w x (call.NewStamp b) (Ok (office.Reopened r)) d n q a e h = refl
latest-same w x (call.NewStamp b) (Ok (office.Begun r)) d n q a e h = refl
latest-same w x (call.NewStamp b) (Ok office.Nothing) d n q a e h = refl
latest-same w x (call.NewStamp b) (Err f) d n q a e h = refl
latest-same w x (call.Commit b s ms) told d n q a e h = refl
latest-same w x (call.Complete b s m) told d n q a e h = refl
latest-same w x (call.BeginRecovery b) told d n q a e h = absurd a
latest-same w x (call.CommitSync b i m ms) told d n q a e h = absurd a

pub none-sent : (w : World) (k : Change) → ((c : ℕ) → k.downs c ≡ []) → k.dials ≡ [] → NewSent w k NoPacket NoFields
none-sent w k d e = record {
  downs = λ c. subst (λ (ms : List Message). Each (NewDown w.past NoPacket c) ms) (sym (d c)) (each-nil (NewDown w.past NoPacket c));
  dials = λ i x z. absurd (none-some x (sym (ap (λ xs. slice_get xs i) e) ∙ z));
}

pub asks-leads : (g : Givens) (t : Ends) (h : Histories) (w : World) (b : ℕ) (x : WriterRecord) (c : OfficeCall) → Around g t h w → heard (w.writers b) ≡ x → (w.writers b).known ≡ x → AsksAs x c → ((d : ℕ) → (d ≡ b → ⊥) → latest_with w.latest (stamped_by w c (answer_to w.office c)) d ≡ w.latest d)
    → Leads g (given_with g (stamped_by w c (answer_to w.office c))) t h h w (asks_writer w b c)
unfolding apply
asks-leads g t h w b x c a e known asks others = record { go = go }
  where
    told : Told
    told = answer_to w.office c

    s : Option Stamped
    s = stamped_by w c told

    l : Givens
    l = given_with g s

    k : Change
    k = asks_writer w b c

    v : World
    v = apply w k

    y : WriterRecord
    y = granted x told

    grants : GrantsWait x y
    grants = granted-wait x told (subst (λ (z : WriterRecord). WaitedOf z) e (a.waited b))

    go : After g l t h h w k → Waits l h v
    go z = record {
      writers = λ d. if-each (λ (r : Writing). WriterWaits l h v d (latest_with w.latest s d) (heard r)) (d == b) k.writer (w.writers d) (λ q. own d (eqb-true d b q))
          (λ q. subst (λ (i : ℕ). WriterWaits l h v d i (heard (w.writers d))) (sym (others d (eqb-false d b q))) (same-waits g l t h h w v NoPacket NoFields d (w.latest d) (heard (w.writers d)) fr (λ p u m n. m) (λ f m n. m) (a.waits.writers d)));
      unsent = λ d. if-each (λ (r : Writing). NoneSent v (heard r)) (d == b) k.writer (w.writers d)
          (λ q. subst (λ (r : WriterRecord). NoneSent v (granted r told)) (sym known) (unsent-on g l t h h w v NoPacket NoFields x y fr grants.asked (λ u p m n. n) (subst (λ (r : WriterRecord). NoneSent w r) e (a.waits.unsent b))))
          (λ q. unsent-on g l t h h w v NoPacket NoFields (heard (w.writers d)) (heard (w.writers d)) fr (λ u m. m) (λ u p m n. n) (a.waits.unsent d));
      answers = answers-of g l t h h w k a.waits z.sides.later (λ r m. absurd (none-some r m));
    }
      where
        fr : Frame g l t h h w v NoPacket NoFields
        fr = frame-of g l t h h w k NoPacket NoFields z (none-sent w k (λ _. refl) refl) (none-joined w k refl)

        -- the stamp that is committed is no earlier than what was asked under
        least : (n : ℕ) → (o : SyncReached g h w b (w.latest b) x.committed x.members n) → Commits x y → o.from ≤ y.committed.0
        least n o (inl q) = omega (arith, o.least, ap (λ (u : Stamp). u.0) q)
        least n o (inr q) =
            let i = a.joins.given o.conn o.fields o.asked in
            let fits : Fits (a.joins.setups b) (w.latest b) None x = subst (λ (r : WriterRecord). Fits (a.joins.setups b) (w.latest b) None r) e (a.joins.fits b) in
            let at = subst (λ (p : Phase). InPhase (a.joins.setups b) (w.latest b) None x.committed x.waiting x.stream.unacked p) q.2 fits in
            let low = at.0.newest.last refl (new_stamp o.fields).0 i.0 (subst (λ (m : ℕ). a.joins.setups m (new_stamp o.fields).0 ≡ Some i.0) o.block_is i.1) in
            omega (arith, low, o.stamp_is, ap (λ (u : Stamp). u.0) q.3)

        mine : WriterWaits l h v b (w.latest b) y
        mine = waits-on g l t h h w v NoPacket NoFields b (w.latest b) x y fr (λ n q u r. (grants.each n q u r).0) (λ n q u r f p m new. absurd new) (λ n q u r o. (least n o (grants.each n q u r).1, λ f new. absurd new)) (subst (λ (r : WriterRecord). WriterWaits g h w b (w.latest b) r) e (a.waits.writers b))

        own : (d : ℕ) → d ≡ b → WriterWaits l h v d (latest_with w.latest s d) (heard k.writer)
        own d q = subst (λ (i : ℕ). WriterWaits l h v i (latest_with w.latest s i) (heard k.writer)) (sym q) (subst (λ (r : WriterRecord). WriterWaits l h v b (latest_with w.latest s b) (granted r told)) (sym known)
            (λ n i u r. subst (λ (m : ℕ). FormedOk l h v b m y n i) (sym (latest-same w x c told b n i asks (grants.each n i u r).0.waits (subst (λ (z : WriterRecord). WaitedOf z) e (a.waited b)))) (mine n i u r)))

-- the office is asked by a primary
pub primary-leads : (g : Givens) (t : Ends) (h : Histories) (w : World) (k : Change) → Around g t h w → k.writer ≡ w.writers k.writer_at → k.answered ≡ None → NewSent w k NoPacket NoFields → k.joined ≡ [] → ((d : ℕ) → latest_with w.latest k.stamped d ≡ w.latest d) → Leads g (given_with g k.stamped) t h h w k
unfolding apply
primary-leads g t h w k a writer answered sent joined latest = record {
  go = λ z.
      let l = given_with g k.stamped in
      let fr = frame-of g l t h h w k NoPacket NoFields z sent (none-joined w k joined) in
      record {
        writers = λ d. subst (λ (i : ℕ). WriterWaits l h (apply w k) d i (heard (put w.writers k.writer_at k.writer d))) (sym (latest d))
            (same d (λ (r : Writing). WriterWaits l h (apply w k) d (w.latest d) (heard r)) (same-waits g l t h h w (apply w k) NoPacket NoFields d (w.latest d) (heard (w.writers d)) fr (λ p u m n. m) (λ f m n. m) (a.waits.writers d)));
        unsent = λ d. same d (λ (r : Writing). NoneSent (apply w k) (heard r)) (unsent-on g l t h h w (apply w k) NoPacket NoFields (heard (w.writers d)) (heard (w.writers d)) fr (λ u m. m) (λ u p m n. n) (a.waits.unsent d));
        answers = answers-of g l t h h w k a.waits z.sides.later (λ r m. absurd (none-some r (sym answered ∙ m)));
      };
}
  where
    same : (d : ℕ) (F : Writing → Type 0) → F (w.writers d) → F (put w.writers k.writer_at k.writer d)
    same d F x = if-each F (d == k.writer_at) k.writer (w.writers d) (λ e. subst F (ap w.writers (eqb-true d k.writer_at e) ∙ sym writer) x) (λ _. x)
