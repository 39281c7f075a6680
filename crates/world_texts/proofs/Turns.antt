-- What members say in their turns fits, and so do members afterwards.
use Rattle.std.proofs.Common.{◌≡◌, ℕ, suc, ◌+◌, ◌<◌, ◌≤◌, ◌^◌, Bool, true, false, List, [], ◌∷◌, ◌++◌, length, Option, Some, None, IfSome, ℤ, arith, length-append}
use Rattle.std.specs.Prelude.{All, ◌==◌, decimal}
use Rattle.std.specs.Int.{w64}
use Rattle.std.specs.Ordering.{int_eq}
use Rattle.std.proofs.lemmas.Bool.{false≢true}
use Rattle.std.proofs.lemmas.Bool.Decides.{nat_tests}
use Rattle.std.proofs.lemmas.Fmt.{length-decimal-le}
use Rattle.std.proofs.lemmas.List.Elements.{All-cons, All-nil}
use mir.Val.{SFits}
use Rattle.hd_base.specs.declared.states.Status.{Status}
use Rattle.hd_base.specs.declared.states.Status.TheVariants as status
use Rattle.hd_base.specs.Wire.{IsStatus, status_number}
use Rattle.world_laws.specs.AckCodec.Ack.{Ack}
use Rattle.world_laws.specs.AckCodec.Response.{Response}
use Rattle.op_headers.specs.declared.nodes.NodeRef.{NodeRef}
use Rattle.op_headers.specs.Values.{WriteFields}
use Rattle.replica_core.specs.declared.ack_queue.PendingPacket.{PendingPacket}
use Rattle.replica_core.specs.declared.refusals.Refusal.{Refusal}
use Rattle.replica_core.specs.declared.refusals.Refusal.TheVariants as refusal
use Rattle.world_laws.specs.ReplicaModel.ReplicaEvent.{ReplicaEvent}
use Rattle.world_laws.specs.ReplicaModel.ReplicaEvent.TheVariants as replica_event
use Rattle.world_laws.specs.MemberCore.Effect.{Effect}
use Rattle.world_laws.specs.MemberCore.SetupAnswer.{SetupAnswer}
use Rattle.world_laws.specs.MemberCore.SetupAnswer.TheVariants as answer
use Rattle.world_laws.specs.MemberCore.Shuts.{Shuts}
use Rattle.world_laws.specs.MemberCore.Shuts.TheVariants as shuts
use Rattle.world_laws.specs.MemberCore.Upward.{Upward}
use Rattle.world_laws.specs.MemberCore.FromAbove.{FromAbove}
use Rattle.world_laws.specs.MemberCore.FromAbove.TheVariants as above
use Rattle.world_laws.specs.MemberCore.FromBelow.{FromBelow}
use Rattle.world_laws.specs.MemberCore.FromBelow.TheVariants as below
use Rattle.world_laws.specs.MemberCore.Mirror.{Mirror}
use Rattle.world_laws.specs.MemberCore.Mirror.TheVariants as mirror
use Rattle.world_laws.specs.MemberCore.Booked.{Booked}
use Rattle.world_laws.specs.MemberCore.Booked.TheVariants as booked
use Rattle.world_laws.specs.MemberCore.Side.{Side}
use Rattle.world_laws.specs.MemberCore.Side.TheVariants as side
use Rattle.world_laws.specs.MemberCore.Turn.{Turn}
use Rattle.world_laws.specs.MemberCore.Acks.{is_success, failures, begins_with_bad_sum, are_replies, is_read, with_own, ack_of}
use Rattle.world_laws.specs.MemberCore.Members.{MemberState, down_turn, up_turn, up_at, setup_turn, answered_turn, accept_turn, fail_turn, stream_turn, ack_turn, pass_turn, failed_turn, good_turn, partial_turn, spoiled_turn, give_up_turn, named_bad, bad_turn, ready_turn, ready_at, quiet_turn, idle_turn, patient_turn, closed, closed_by, kept_bad, bad_sum, refused_turn, settled}
use Rattle.world_laws.specs.MemberCore.Requests.{first_address, failing, response_of}
use Rattle.world_laws.specs.World.Nodes.{upward_message}
use Rattle.world_laws.proofs.FactTables.{if-each, and-right}
use Rattle.world_texts.proofs.Spelling.{AckFits, ResponseFits, PacketFits, NodesFit, WriteFits, MessageFits}
use Rattle.world_texts.proofs.Frame.{StateFits, PendingFits}
use Rattle.world_texts.proofs.Rows.{CallFits}
use Rattle.world_texts.proofs.Refusals.{RequestRefusalFits, refusal-few}

-- RESPONSES

pub plain-fits : (s : Status) (first_bad message : List ℕ) → IsStatus s → status_number s < 2 ^ 32 → length first_bad + length message ≤ 65000
    → ResponseFits (record { status = s; first_bad = first_bad; sums_from = None; message = message })
plain-fits s first_bad message listed low few = record { listed = listed; low = low; no_link = λ some. absurd (false≢true some); kind = tt; widths = tt; few = few }

pub failing-fits : (first_bad message : List ℕ) → length first_bad + length message ≤ 65000 → ResponseFits (failing first_bad message)
failing-fits first_bad message few = plain-fits status.Error first_bad message tt (omega arith) few

address-few : (ns : List NodeRef) → NodesFit ns → length (first_address ns) ≤ 200
address-few [] h = omega arith
address-few (n ∷ ns) h =
    omega (arith, length-append (n.ip ++ 58 ∷ []) (decimal n.xfer), length-append n.ip (58 ∷ []), h.0.texts, length-decimal-le 20 n.xfer (omega arith) (omega (arith, h.0.xfer)) (omega (arith, h.0.xfer)))

abbrev pub SetupAnswerFits : SetupAnswer → Type 0
SetupAnswerFits (answer.Below first_bad) = length first_bad ≤ 65000
SetupAnswerFits (answer.Refused r) = RequestRefusalFits r
SetupAnswerFits _ = Unit {0}

pub answer-fits : (f : WriteFields) (a : SetupAnswer) → WriteFits f → SetupAnswerFits a → ResponseFits (response_of f a)
unfolding response_of
answer-fits f answer.Success h g = plain-fits status.Success [] [] tt (omega arith) (omega arith)
answer-fits f answer.Unreached h g = failing-fits (first_address f.targets) [] (omega (arith, address-few f.targets h.targets))
answer-fits f (answer.Below first_bad) h g = failing-fits first_bad [] (omega (arith, g))
answer-fits f (answer.Refused r) h g = failing-fits [] _ (omega (arith, refusal-few r g))

-- ACKS

-- these replies may go up
pub record RepliesFit (most : ℕ) (rs : List Status) : Type 0 where
  pub few : length rs ≤ most
  pub listed : All IsStatus rs
  pub low : All (λ s. status_number s < 2 ^ 32) rs

no-replies : (most : ℕ) → RepliesFit most []
no-replies most = record { few = omega arith; listed = All-nil IsStatus; low = All-nil (λ s. status_number s < 2 ^ 32) }

more-replies : (most : ℕ) (s : Status) (rs : List Status) → IsStatus s → status_number s < 2 ^ 32 → RepliesFit most rs → RepliesFit (suc most) (s ∷ rs)
more-replies most s rs listed low h =
    record { few = omega (arith, h.few); listed = All-cons IsStatus s rs listed h.listed; low = All-cons (λ x. status_number x < 2 ^ 32) s rs low h.low }

ack-fits : (seqno : ℤ) (rs : List Status) → SFits w64 seqno → RepliesFit 16 rs → AckFits (ack_of seqno rs)
ack-fits seqno rs h r = record { seqno = h; few = r.few; listed = r.listed; low = r.low }

own-fits : (rs : List Status) → RepliesFit 15 rs → RepliesFit 16 (with_own rs)
own-fits rs h = more-replies 15 status.Success rs tt (omega arith) h

are-few : (most : ℕ) (rs : List Status) → are_replies most rs ≡ true → length rs ≤ most
are-few most rs e = grind (arith, nat_tests, e)

read-few : (most : ℕ) (seqno : ℤ) (a : Ack) → AckFits a → most ≤ 15 → is_read most seqno a ≡ true → RepliesFit 15 a.replies
read-few most seqno a h m e =
    record { few = omega (arith, m, are-few most a.replies (and-right (int_eq a.seqno seqno) (are_replies most a.replies) e)); listed = h.listed; low = h.low }

-- TURNS

-- what is sent up fits
abbrev pub UpFits : WriteFields → Option Upward → Type 0
UpFits f None = Unit {0}
UpFits f (Some u) = MessageFits (upward_message f u)

pub record TurnFits (f : WriteFields) (t : Turn) : Type 0 where
  pub call : IfSome t.call CallFits
  pub sends : UpFits f t.effect.sends

abbrev pub AboveFits : FromAbove → Type 0
AboveFits (above.Packet p) = PacketFits p
AboveFits _ = Unit {0}

abbrev pub BelowFits : FromBelow → Type 0
BelowFits (below.Response r) = ResponseFits r
BelowFits (below.Ack a) = AckFits a
BelowFits _ = Unit {0}

module _ (f : WriteFields) (w : WriteFits f) where
  pub down-turn-fits : (m : MemberState) (x : FromAbove) → AboveFits x → TurnFits f (down_turn m x)
  down-turn-fits m (above.Packet p) h = record { call = h.seqno; sends = tt }
  down-turn-fits m above.Unreadable h = record { call = tt; sends = tt }
  down-turn-fits m above.End h = record { call = tt; sends = tt }

  fail-fits : (m : MemberState) (a : SetupAnswer) → SetupAnswerFits a → TurnFits f (fail_turn m a)
  fail-fits m a h = record { call = tt; sends = answer-fits f a w h }

  named-fits : (first_bad : List ℕ) → length first_bad ≤ 65000 → SetupAnswerFits (named_bad first_bad)
  named-fits [] h = tt
  named-fits (c ∷ cs) h = h

  answered-fits : (m : MemberState) (r : Response) → ResponseFits r → TurnFits f (answered_turn m r)
  answered-fits m r h = if-each (TurnFits f) (is_success r.status) (accept_turn m) (fail_turn m (named_bad r.first_bad))
      (λ _. record { call = tt; sends = answer-fits f answer.Success w tt })
      (λ _. fail-fits m (named_bad r.first_bad) (named-fits r.first_bad (omega (arith, h.few))))

  setup-turn-fits : (m : MemberState) (x : FromBelow) → BelowFits x → TurnFits f (setup_turn m x)
  setup-turn-fits m (below.Response r) h = answered-fits m r h
  setup-turn-fits m (below.Ack a) h = fail-fits m answer.Unreached tt
  setup-turn-fits m below.Unreadable h = fail-fits m answer.Unreached tt
  setup-turn-fits m below.End h = fail-fits m answer.Unreached tt

  good-fits : (m : MemberState) (e : PendingPacket) (rs : List Status) → PendingFits e → RepliesFit 16 rs → TurnFits f (good_turn m e rs)
  good-fits m e rs h r = record { call = tt; sends = ack-fits e.seqno rs h r }

  partial-fits : (m : MemberState) (e : PendingPacket) (rs : List Status) → PendingFits e → RepliesFit 16 rs → TurnFits f (partial_turn m e rs)
  partial-fits m e rs h r = record { call = tt; sends = ack-fits e.seqno rs h r }

  give-up-fits : (m : MemberState) (e : PendingPacket) → PendingFits e → TurnFits f (give_up_turn m e)
  give-up-fits m e h = record {
    call = tt;
    sends = ack-fits e.seqno _ h (own-fits (status.Error ∷ []) (more-replies 14 status.Error [] tt (omega arith) (no-replies 14)));
  }

  failed-fits : (m : MemberState) (e : PendingPacket) (rs : List Status) → PendingFits e → RepliesFit 15 rs → TurnFits f (failed_turn m e rs)
  failed-fits m e rs h r = if-each (TurnFits f) (begins_with_bad_sum rs) (spoiled_turn m) (partial_turn m e (with_own rs)) (λ _. record { call = tt; sends = tt }) (λ _. partial-fits m e (with_own rs) h (own-fits rs r))

  pass-fits : (m : MemberState) (e : PendingPacket) (rs : List Status) → PendingFits e → RepliesFit 15 rs → TurnFits f (pass_turn m e rs)
  pass-fits m e rs h r = if-each (TurnFits f) (failures rs == 0) (good_turn m e (with_own rs)) (failed_turn m e rs) (λ _. good-fits m e (with_own rs) h (own-fits rs r)) (λ _. failed-fits m e rs h r)

  ack-turn-fits : (m : MemberState) (e : PendingPacket) (x : FromBelow) → StateFits m → PendingFits e → BelowFits x → TurnFits f (ack_turn m e x)
  ack-turn-fits m e (below.Ack a) s h b = if-each (TurnFits f) (is_read m.below e.seqno a) (pass_turn m e a.replies) (give_up_turn m e)
      (λ is. pass-fits m e a.replies h (read-few m.below e.seqno a b s.below is)) (λ _. give-up-fits m e h)
  ack-turn-fits m e (below.Response r) s h b = give-up-fits m e h
  ack-turn-fits m e below.Unreadable s h b = give-up-fits m e h
  ack-turn-fits m e below.End s h b = give-up-fits m e h

  stream-turn-fits : (m : MemberState) (o : Option PendingPacket) (x : FromBelow) → StateFits m → IfSome o PendingFits → BelowFits x → TurnFits f (stream_turn m o x)
  stream-turn-fits m None x s h b = record { call = tt; sends = tt }
  stream-turn-fits m (Some e) x s h b = ack-turn-fits m e x s h b

  up-at-fits : (q : Mirror) (m : MemberState) (o : Option PendingPacket) (x : FromBelow) → StateFits m → IfSome o PendingFits → BelowFits x → TurnFits f (up_at q m o x)
  up-at-fits mirror.Nobody m o x s h b = record { call = tt; sends = tt }
  up-at-fits mirror.Asked m o x s h b = setup-turn-fits m x b
  up-at-fits mirror.Unreachable m o x s h b = record { call = tt; sends = tt }
  up-at-fits mirror.Open m o x s h b = stream-turn-fits m o x s h b
  up-at-fits mirror.Ended m o x s h b = record { call = tt; sends = tt }

  pub up-turn-fits : (m : MemberState) (o : Option PendingPacket) (x : FromBelow) → StateFits m → IfSome o PendingFits → BelowFits x → TurnFits f (up_turn m o x)
  up-turn-fits m o x s h b = up-at-fits m.mirror m o x s h b

  bad-turn-fits : (m : MemberState) (seqno : ℤ) → SFits w64 seqno → TurnFits f (bad_turn m seqno)
  bad-turn-fits m seqno h = record { call = tt; sends = ack-fits seqno _ h (more-replies 15 status.ErrorChecksum [] tt (omega arith) (no-replies 15)) }

  idle-fits : (m : MemberState) (writing : Bool) → IfSome (idle_turn m writing) (TurnFits f)
  idle-fits m true = tt
  idle-fits m false = record { call = tt; sends = tt }

  quiet-fits : (m : MemberState) (bad : Option ℤ) (writing : Bool) → IfSome bad (SFits w64) → IfSome (quiet_turn m bad writing) (TurnFits f)
  quiet-fits m (Some seqno) writing h = bad-turn-fits m seqno h
  quiet-fits m None writing h = idle-fits m writing

  patient-fits : (m : MemberState) (bad : Option ℤ) → IfSome bad (SFits w64) → IfSome (patient_turn m bad) (TurnFits f)
  patient-fits m (Some seqno) h = bad-turn-fits m seqno h
  patient-fits m None h = tt

  ready-at-fits : (q : Mirror) (m : MemberState) (o : Option PendingPacket) (writing : Bool) → StateFits m → IfSome o PendingFits → IfSome (ready_at q m o writing) (TurnFits f)
  ready-at-fits mirror.Asked m o writing s h = tt
  ready-at-fits mirror.Unreachable m o writing s h = fail-fits m answer.Unreached tt
  ready-at-fits mirror.Nobody m (Some e) writing s h = good-fits m e (status.Success ∷ []) h (own-fits [] (no-replies 15))
  ready-at-fits mirror.Nobody m None writing s h = quiet-fits m m.bad writing s.bad
  ready-at-fits mirror.Open m (Some e) writing s h = tt
  ready-at-fits mirror.Open m None writing s h = patient-fits m m.bad s.bad
  ready-at-fits mirror.Ended m (Some e) writing s h = give-up-fits m e h
  ready-at-fits mirror.Ended m None writing s h = quiet-fits m m.bad writing s.bad

  pub ready-turn-fits : (m : MemberState) (o : Option PendingPacket) (writing : Bool) → StateFits m → IfSome o PendingFits → IfSome (ready_turn m o writing) (TurnFits f)
  ready-turn-fits m o writing s h = if-each (λ (t : Option Turn). IfSome t (TurnFits f)) m.responds (ready_at m.mirror m o writing) None (λ _. ready-at-fits m.mirror m o writing s h) (λ _. tt)

  -- WHAT FOLLOWS THE BOOK CALL

  pub record SettledFits (m : MemberState) (t : Turn) (b : Booked) : Type 0 where
    pub state : StateFits (settled m t b).0
    pub sends : UpFits f (settled m t b).1.sends

  closed-fits : (at : Side) (m : MemberState) → StateFits m → StateFits (closed at m)
  closed-fits side.Receiver m s = record { below = s.below; bad = s.bad }
  closed-fits side.Responder m s = record { below = s.below; bad = s.bad }

  closed-by-fits : (q : Shuts) (at : Side) (m : MemberState) → StateFits m → StateFits (closed_by q at m)
  closed-by-fits shuts.Nothing at m s = s
  closed-by-fits shuts.Mirror at m s = closed-fits at m s
  closed-by-fits shuts.Both at m s = closed-fits at m s

  kept-fits : (bad : Option ℤ) (seqno : ℤ) → IfSome bad (SFits w64) → SFits w64 seqno → IfSome (kept_bad bad seqno) (SFits w64)
  kept-fits None seqno h g = g
  kept-fits (Some first) seqno h g = h

  abbrev Fit : MemberState × Effect → Type 0
  Fit x = StateFits x.0 × UpFits f x.1.sends

  bad-sum-fits : (m : MemberState) (o : Option ReplicaEvent) (t : Turn) → StateFits m → IfSome o CallFits → Fit (bad_sum m o t)
  bad-sum-fits m None t s h = (closed-fits t.side m s, tt)
  bad-sum-fits m (Some (replica_event.Packet conn p)) t s h = (record { below = s.below; bad = kept-fits m.bad p.seqno s.bad h }, tt)
  bad-sum-fits m (Some (replica_event.Other e)) t s h = (closed-fits t.side m s, tt)

  refused-fits : (m : MemberState) (t : Turn) (r : Refusal) → StateFits m → TurnFits f t → Fit (refused_turn m t r)
  refused-fits m t (refusal.BadSum chunk) s h = bad-sum-fits m t.call t s h.call
  refused-fits m t refusal.NoReplica s h = (closed-fits t.side m s, tt)
  refused-fits m t refusal.Exists s h = (closed-fits t.side m s, tt)
  refused-fits m t (refusal.WrongState x) s h = (closed-fits t.side m s, tt)
  refused-fits m t (refusal.Stale a b c) s h = (closed-fits t.side m s, tt)
  refused-fits m t (refusal.LengthOut a b c d) s h = (closed-fits t.side m s, tt)
  refused-fits m t refusal.NotWriter s h = (closed-fits t.side m s, tt)
  refused-fits m t (refusal.Gap a b) s h = (closed-fits t.side m s, tt)
  refused-fits m t (refusal.Piece x) s h = (closed-fits t.side m s, tt)
  refused-fits m t refusal.Broken s h = (closed-fits t.side m s, tt)
  refused-fits m t (refusal.RecoveryHeld x) s h = (closed-fits t.side m s, tt)
  refused-fits m t (refusal.Seqno a b) s h = (closed-fits t.side m s, tt)
  refused-fits m t (refusal.OutOfRange x) s h = (closed-fits t.side m s, tt)

  pub settled-fits : (m : MemberState) (t : Turn) (b : Booked) → StateFits m → TurnFits f t → SettledFits m t b
  settled-fits m t booked.Taken s h =
      record { state = closed-by-fits t.effect.shuts t.side (record m { mirror = t.mirror }) (record { below = s.below; bad = s.bad }); sends = h.sends }
  settled-fits m t (booked.Refused r) s h = let x : Fit (refused_turn m t r) = refused-fits m t r s h in record { state = x.0; sends = x.1 }
  settled-fits m t booked.Failed s h = record { state = closed-fits t.side m s; sends = tt }
