-- A member that acts takes what stands next from its mirror: the answer to its request, or an ack of its oldest packet.
use Rattle.std.proofs.Common.{◌≡◌, ℕ, suc, ◌<◌, ◌+◌, Bool, true, false, List, [], ◌∷◌, drop, length, slice_get, Option, Some, Ok, refl, sym, ◌∙◌, ap, subst, arith, eqb-true}
use Rattle.std.specs.Prelude.{◌==◌, not}
use Rattle.std.proofs.lemmas.Bool.{false≢true}
use Rattle.std.proofs.lemmas.Option.{none-some}
use Rattle.hd_base.specs.declared.states.Status.{Status}
use Rattle.ack_codec.specs.declared.acks.Ack.{Ack}
use Rattle.ack_codec.specs.declared.responses.Response.{Response}
use Rattle.replica_core.specs.declared.ack_queue.PendingPacket.{PendingPacket}
use Rattle.replica_core.specs.declared.events.Answer.TheVariants as answer
use Rattle.replica_core.specs.declared.events.Event.TheVariants as core
use Rattle.replica_core.specs.Transitions.{record_after, acknowledge, transition}
use Rattle.replica_core.specs.Views.{rule_in}
use Rattle.replica_model.specs.declared.events.ReplicaEvent.TheVariants as replica_event
use Rattle.replica_model.specs.Rows.{FullReplica, row}
use Rattle.member_core.specs.declared.inputs.FromBelow.TheVariants as below
use Rattle.member_core.specs.declared.effects.SetupAnswer.TheVariants as setup_answer
use Rattle.member_core.specs.declared.member.Mirror.TheVariants as mirror
use Rattle.member_core.specs.declared.turns.Side.TheVariants as side
use Rattle.member_core.specs.declared.effects.Shuts.{Shuts}
use Rattle.member_core.specs.declared.effects.Shuts.TheVariants as shuts
use Rattle.member_core.specs.Acks.{is_success, with_own, ack_of}
use Rattle.member_core.specs.Members.{MemberState, up_turn, closed_by, is_waiting}
use Rattle.member_core.specs.Requests.{response_of}
use Rattle.member_core.specs.Steps.{Step, step, oldest_at}
use Rattle.world.specs.declared.events.Event.{Event}
use Rattle.world.specs.Parts.{Message, ack, response, Upper, by_member, Marks, FullMember, Lower, writes, Break}
use Rattle.world.specs.Worlds.{World, put, apply}
use Rattle.world.specs.Connections.{message, marks_taken, is_conn}
use Rattle.world.specs.Nodes.{node_of, block_of, member_change}
use Rattle.world_laws.specs.Carrying.{LowerSays}
use Rattle.world_laws.specs.Filling.{Filled}
use Rattle.world_laws.specs.Placing.{Placed}
use Rattle.world_laws.proofs.FactTables.{and-right}
use Rattle.world_laws.proofs.StampGivens.{put-here}
use Rattle.play_scripts.specs.WorldAcks.Acking.{Mirrors}
use Rattle.world_orders.specs.Orders.{Ordered}
use Rattle.world_orders.specs.Takes.{TakesInOrder}
use Rattle.world_orders.proofs.Frame.{marked}
use Rattle.play_model.specs.Dues.{is_open}
use Rattle.play_completeness.specs.Plain.{Peaceful}
use Rattle.play_completeness.specs.Streams.{acks_in, Flows, reach_in}
use Rattle.play_completeness.specs.Links.{MemberAwaits, Awaits, pending_below, awaited, packets_left, acks_left, IsGoodAck, ActsWell, MemberWell, LowerWell, Carries, Link, InPipeline, Links}
use Rattle.play_completeness.proofs.Flowing.{Heard, flows-heard}
use Rattle.play_completeness.proofs.Rows.{IsWritten, ack-taken}
use Rattle.play_completeness.proofs.PacketTurn.{drop-found}
use Rattle.play_completeness.proofs.Turned.{Turned, other-kept}
use Rattle.play_completeness.proofs.TurnWorld.{named, Takes, turned-by, down-taken-at, up-taken-at}
use Rattle.play_completeness.proofs.AckTurn.{GoesOn, on-kept, over-kept, pending-now}
use Rattle.play_completeness.proofs.AcceptTurn.{accept-kept, pending-same-now}
use Rattle.play_completeness.proofs.HearTurn.{hear-kept, hear-over, acks-rest}
use Rattle.play_completeness.proofs.DownTurns.{same-marks, one-taken, is-written, mirror-other, off-own}
use Rattle.play_completeness.proofs.ReadyTurns.{shuts_at, acked_step, ack-step, goes-on, last-taken}
use Rattle.play_completeness.proofs.UpSteps.{chain-length, positive, ack-turn, read-so, accept-turn, accepted_step, accept-step}
use Rattle.play_completeness.proofs.Pipelines.{piped-before}

-- A MEMBER AND ITS MIRROR

module _ (w : World) (o : Ordered w) (takes : TakesInOrder w) (placed : Placed w) (h : Peaceful w) (says : (c : ℕ) → LowerSays w.past c (w.lowers c)) (filled : Filled w) (links : Links w)
    (d : ℕ) (m : FullMember) (lt : InPipeline w d) (is : w.lowers d ≡ writes m) (opened : is_open (writes m) ≡ true) (c : ℕ) (lc : InPipeline w c) (mirrored : m.mirror ≡ Some c) (upper : (w.dialled c).upper ≡ by_member d)
    (tells : Mirrors w.past d c) (x : Event) where
  abbrev pub R : FullReplica
  R = w.replicas (node_of w d) (block_of m.fields)

  abbrev pub b : Option Break
  b = w.breaks (node_of w d) (block_of m.fields)

  abbrev pub um : Message → ℕ → Marks
  um y = put w.up_marks c (marks_taken (w.up_marks c) (message y))

  well : MemberWell w d (links d lt).fields (links d lt).rule m
  well = subst (λ (y : Lower). LowerWell w d (links d lt).fields (links d lt).rule y) is (links d lt).lower

  pub responds : m.state.responds ≡ true
  responds = and-right m.state.receives m.state.responds opened

  pub acting : ActsWell w d (links d lt).fields (links d lt).rule m
  acting = well.acts responds

  written : IsWritten R.known m.state.conn
  written = is-written w o takes placed h says links d m lt is opened

  tu : (y : Message) → Takes w.up_marks (um y) (is_conn m.mirror)
  tu y = subst (λ (q : Option ℕ). Takes w.up_marks (um y) (is_conn q)) (sym mirrored) (one-taken w.up_marks c y)

  td : Takes w.down_marks w.down_marks (λ k. k == d)
  td = same-marks w.down_marks (λ k. k == d)

  off : is_conn m.mirror d ≡ false
  off = off-own w o takes placed h says links d m lt is opened

  other : (c == d) ≡ false
  other = mirror-other w o takes placed h says links d m lt is opened c mirrored

  -- the world after a step
  abbrev pub after : Message → Step → World
  after y s = named x (apply (marked w w.down_marks (um y)) (member_change (marked w w.down_marks (um y)) d m (message y) s b))

  more-heard : (y : Message) (s : Step) → ((after y s).up_marks c).taken ≡ suc (w.up_marks c).taken
  more-heard y s =
      let a : ((after y s).up_marks c).taken ≡ (um y c).taken = up-taken-at w d m (message y) s b x w.down_marks (um y) td (tu y) c in
      let z : (um y c).taken ≡ (w.up_marks c).taken + 1 = ap (λ (k : Marks). k.taken) (put-here w.up_marks c (marks_taken (w.up_marks c) (message y))) in
      omega (arith, a, z)

  unmoved : (y : Message) (s : Step) → ((after y s).down_marks d).taken ≡ (w.down_marks d).taken
  unmoved y s = down-taken-at w d m (message y) s b x w.down_marks (um y) td (tu y) d

  -- all connections, by the member's own and its mirror's
  all-of : (v : World) (new : MemberState) (r : FullReplica) (sent : List Message) (shut : Shuts) → Turned w v d m new r [] sent shut → Link v d → Link v c → Links v
  all-of v new r sent shut t own hears_of k lk = go (k == d) refl
    where
      before : k < w.next_conn
      before = subst (λ (n : ℕ). k < n) t.conns lk.known

      known : InPipeline w k
      known = piped-before w v k before (t.dialled k before) lk

      beside : (k == d) ≡ false → (q : Bool) → is_conn m.mirror k ≡ q → Link v k
      beside apart false away = other-kept w v o placed links d m lt is responds new r [] sent shut t k known apart away
      beside apart true on = subst (λ (n : ℕ). Link v n) (sym (eqb-true k c (sym (ap (λ (q : Option ℕ). is_conn q k) mirrored) ∙ on))) hears_of

      go : (q : Bool) → (k == d) ≡ q → Link v k
      go true e = subst (λ (n : ℕ). Link v n) (sym (eqb-true k d e)) own
      go false e = beside e (is_conn m.mirror k) refl

  awaits-mirror : MemberAwaits w d c
  awaits-mirror = record { member = m; is = is; mirror = mirrored; acts = ap is_open is ∙ opened }

  pub old : Carries w c (links c lc).fields (links c lc).rule (by_member d) (w.lowers c)
  old = subst (λ (q : Upper). Carries w c (links c lc).fields (links c lc).rule q (w.lowers c)) upper ((links c lc).carries (subst (λ (q : Upper). Awaits w c q) (sym upper) awaits-mirror))

  waits-is : awaited w (by_member d) ≡ R.known.pending
  waits-is = ap (pending_below w d) is ∙ rw responds refl

  -- AN ACK

  module _ (a : Ack) (found : slice_get (w.ups c) (w.up_marks c).taken ≡ Some (ack a)) (z : m.state.mirror ≡ mirror.Open) where
    good : IsGoodAck (links c lc).fields a
    good = (links c lc).ups (w.up_marks c).taken (ack a) found

    heard : Heard R.known.pending a (acks_in (drop (suc (w.up_marks c).taken) (w.ups c))) (pending_below w c (w.lowers c)) (packets_left w c) (not (is_open (w.lowers c)))
    heard =
        let left : acks_left w c ≡ a ∷ acks_in (drop (suc (w.up_marks c).taken) (w.ups c)) = ap acks_in (drop-found (w.ups c) (w.up_marks c).taken (ack a) found) in
        flows-heard R.known.pending a (acks_in (drop (suc (w.up_marks c).taken) (w.ups c))) (pending_below w c (w.lowers c)) (packets_left w c) (not (is_open (w.lowers c)))
        (subst (λ (bs : List Ack). Flows R.known.pending bs (pending_below w c (w.lowers c)) (packets_left w c) (not (is_open (w.lowers c)))) left
        (subst (λ (ps : List PendingPacket). Flows ps (acks_left w c) (pending_below w c (w.lowers c)) (packets_left w c) (not (is_open (w.lowers c)))) waits-is old.flows))

    abbrev e : PendingPacket
    e = heard.first

    abbrev replies : List Status
    replies = with_own a.replies

    chain : length (links d lt).fields.targets ≡ suc (length (links c lc).fields.targets)
    chain = chain-length w.past d c (links d lt).fields (links c lc).fields (links d lt).asked (links c lc).asked tells

    own-good : IsGoodAck (links d lt).fields (ack_of e.seqno replies)
    own-good = record { whole = ap suc (good.whole ∙ sym chain); good = good.good }

    taken : transition R.known (core.Ack m.state.conn e.seqno true) ≡ Ok (record { replica = acknowledge R.known written.info e true; answer = answer.Done })
    taken = ack-taken R.known m.state.conn written e heard.rest heard.are

    abbrev row_now : FullReplica
    row_now = row R (replica_event.Other (core.Ack m.state.conn e.seqno true))

    row-is : row_now.known ≡ acknowledge R.known written.info e true
    row-is = ap (record_after R.known) taken

    abbrev v : Bool → World
    v last = after (ack a) (acked_step m.state R e replies last)

    turned : (last : Bool) → Turned w (v last) d m (closed_by (shuts_at last) side.Responder m.state) row_now [] (ack (ack_of e.seqno replies) ∷ []) (shuts_at last)
    turned last = turned-by w d m (message (ack a)) (acked_step m.state R e replies last) b x w.down_marks (um (ack a)) td (tu (ack a))

    answered : is_waiting m.state.mirror ≡ false
    answered = ap is_waiting z

    goes : e.last ≡ false → GoesOn R.known row_now.known heard.rest
    goes q = goes-on R.known row_now.known written.info e heard.rest written.is heard.are q row-is

    own : (last : Bool) → e.last ≡ last → Link (v last) d
    own false q =
        on-kept w (v false) o placed links d m lt is responds m.state row_now (ack_of e.seqno replies) shuts.Nothing (turned false) off answered (unmoved (ack a) (acked_step m.state R e replies false)) e heard.rest heard.are refl own-good well.receives
        q refl refl (goes q)
    own true q =
        over-kept w (v true) o placed links d m lt is responds (record m.state { responds = false }) row_now (ack_of e.seqno replies) shuts.Both (turned true) off answered (unmoved (ack a) (acked_step m.state R e replies true)) e heard.rest heard.are refl own-good well.receives
        q refl refl (last-taken R.known written.stream e heard.rest written.written heard.are q (filled.replicas (node_of w d) (block_of m.fields)).full.sound.stream)

    hears-on : e.last ≡ false → Link (v false) c
    hears-on q =
        let g : GoesOn R.known row_now.known heard.rest = goes q in
        let t = turned false in
        let more = more-heard (ack a) (acked_step m.state R e replies false) in
        hear-kept w (v false) o placed links d m lt is responds m.state row_now (ack (ack_of e.seqno replies) ∷ []) shuts.Nothing t c mirrored lc other upper (ack a) found more
        opened refl (reach-on g) (rule-on g) heard.rest
        (pending-now w (v false) o placed links d m lt is responds m.state row_now (ack_of e.seqno replies) shuts.Nothing t off answered (unmoved (ack a) (acked_step m.state R e replies false)) e heard.rest heard.are refl own-good well.receives q refl refl g)
        (subst (λ (bs : List Ack). Flows heard.rest bs (pending_below w c (w.lowers c)) (packets_left w c) (not (is_open (w.lowers c))))
        (sym (acks-rest w (v false) o placed links d m lt is responds m.state row_now (ack (ack_of e.seqno replies) ∷ []) shuts.Nothing t c mirrored lc other upper (ack a) found more)) (heard.goes q))
      where
        reach-on : GoesOn R.known row_now.known heard.rest → reach_in row_now.known ≡ reach_in R.known
        reach-on g = rw (g.stream, g.now) (sym (rw g.is refl))

        rule-on : GoesOn R.known row_now.known heard.rest → rule_in row_now.known ≡ rule_in R.known
        rule-on g = rw g.now (sym (rw g.is refl))

    hears-last : e.last ≡ true → Link (v true) c
    hears-last q =
        hear-over w (v true) o placed links d m lt is responds (record m.state { responds = false }) row_now (ack (ack_of e.seqno replies) ∷ []) shuts.Both (turned true) c mirrored lc other upper (ack a) found (more-heard (ack a) (acked_step m.state R e replies true))
        (rw well.receives refl) (shut (is_open (w.lowers c)) (heard.ends q).0)
      where
        shut : (k : Bool) → not k ≡ true → k ≡ false
        shut false y = refl
        shut true y = absurd (false≢true y)

    all-last : (last : Bool) → e.last ≡ last → Links (v last)
    all-last false q = all-of (v false) m.state row_now (ack (ack_of e.seqno replies) ∷ []) shuts.Nothing (turned false) (own false q) (hears-on q)
    all-last true q = all-of (v true) (record m.state { responds = false }) row_now (ack (ack_of e.seqno replies) ∷ []) shuts.Both (turned true) (own true q) (hears-last q)

    step-is : step m.state R (up_turn m.state (oldest_at R) (below.Ack a)) ≡ acked_step m.state R e replies e.last
    step-is =
        let oldest : oldest_at R ≡ Some e = ap (λ (ps : List PendingPacket). slice_get ps 0) heard.are in
        let long : length a.replies ≡ m.state.below = good.whole ∙ (sym chain ∙ sym acting.below) in
        let some : 0 < m.state.below = positive m.state.below (length (links c lc).fields.targets) (acting.below ∙ chain) in
        ap (λ (q : Option PendingPacket). step m.state R (up_turn m.state q (below.Ack a))) oldest
        ∙ (ap (step m.state R) (ack-turn m.state e a z (read-so m.state.below e.seqno a (sym heard.number) long some) (ap (λ (n : ℕ). n == 0) good.good))
        ∙ ack-step m.state R e replies _ taken)

    pub acks : Links (after (ack a) (step m.state R (up_turn m.state (oldest_at R) (below.Ack a))))
    acks = subst (λ (s : Step). Links (after (ack a) s)) (sym step-is) (all-last e.last refl)

  -- THE ANSWER TO THE REQUEST

  module _ (a : Response) (found : slice_get (w.ups c) (w.up_marks c).taken ≡ Some (response a)) (z : m.state.mirror ≡ mirror.Asked) where
    abbrev new : MemberState
    new = record m.state { mirror = mirror.Open }

    abbrev said : Response
    said = response_of m.fields setup_answer.Success

    abbrev settled : World
    settled = after (response a) (accepted_step m.state R)

    accepted : Turned w settled d m new R [] (response said ∷ []) shuts.Nothing
    accepted = turned-by w d m (message (response a)) (accepted_step m.state R) b x w.down_marks (um (response a)) td (tu (response a))

    said-good : is_success said.status ≡ true
    unfolding response_of
    said-good = refl

    own-accepts : Link settled d
    own-accepts = accept-kept w settled o placed links d m lt is responds said accepted off (unmoved (response a) (accepted_step m.state R)) said-good (λ none. none-some c (sym none ∙ mirrored))

    hears-answer : Link settled c
    hears-answer =
        let more = more-heard (response a) (accepted_step m.state R) in
        let same : acks_left w c ≡ acks_left settled c =
        ap acks_in (drop-found (w.ups c) (w.up_marks c).taken (response a) found)
        ∙ sym (acks-rest w settled o placed links d m lt is responds new R (response said ∷ []) shuts.Nothing accepted c mirrored lc other upper (response a) found more) in
        hear-kept w settled o placed links d m lt is responds new R (response said ∷ []) shuts.Nothing accepted c mirrored lc other upper (response a) found more
        opened refl refl refl (pending_below w d (writes m))
        (pending-same-now w settled o placed links d m lt is responds said accepted off (unmoved (response a) (accepted_step m.state R)) said-good (λ none. none-some c (sym none ∙ mirrored)))
        (subst (λ (bs : List Ack). Flows (pending_below w d (writes m)) bs (pending_below w c (w.lowers c)) (packets_left w c) (not (is_open (w.lowers c)))) same
        (subst (λ (ps : List PendingPacket). Flows ps (acks_left w c) (pending_below w c (w.lowers c)) (packets_left w c) (not (is_open (w.lowers c)))) (ap (pending_below w d) is) old.flows))

    accept-is : step m.state R (up_turn m.state (oldest_at R) (below.Response a)) ≡ accepted_step m.state R
    accept-is = ap (step m.state R) (accept-turn m.state (oldest_at R) a z ((links c lc).ups (w.up_marks c).taken (response a) found)) ∙ accept-step m.state R acting.stays

    pub answers : Links (after (response a) (step m.state R (up_turn m.state (oldest_at R) (below.Response a))))
    answers = subst (λ (s : Step). Links (after (response a) s)) (sym accept-is) (all-of settled new R (response said ∷ []) shuts.Nothing accepted own-accepts hears-answer)
