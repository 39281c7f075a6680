-- What lower ends send and leave on the connections of readers.
use Rattle.std.proofs.Common.{◌≡◌, ℕ, zero, suc, ◌+◌, ◌^◌, ◌<◌, ◌≤◌, ◌⊎◌, inl, inr, Bool, true, false, List, [], ◌∷◌, ◌++◌, length, drop, slice_get, Option, Some, None, IfSome, Result, Ok, Err, refl, sym, ap, ◌∙◌, subst, arith, append-nil, eqb-true}
use Rattle.std.specs.Prelude.{◌==◌, if◌then◌else◌, option_map, IfOk}
use Rattle.std.proofs.lemmas.Bool.Decides.{nat_tests}
use Rattle.std.proofs.lemmas.List.{length-take-le, length-drop}
use Rattle.std.proofs.lemmas.Option.{none-some, same_Some}
use Rattle.hd_base.specs.declared.states.ReplicaState.{ReplicaState}
use Rattle.hd_base.specs.declared.states.ReplicaState.TheVariants as state
use Rattle.hd_base.specs.declared.numbers.Stamp.{Stamp}
use Rattle.hd_base.specs.SumRules.{Rule, IsChunkSize}
use Rattle.ack_codec.specs.declared.responses.Response.{Response}
use Rattle.packet_codec.specs.declared.packets.Packet.{Packet}
use Rattle.op_headers.specs.declared.ops.Op.TheVariants as op
use Rattle.op_headers.specs.declared.ops.ReadOp.{ReadOp}
use Rattle.op_headers.specs.declared.ops.RecoveryOp.{RecoveryOp}
use Rattle.op_headers.specs.Values.{WriteFields}
use Rattle.replica_core.specs.declared.events.Answer.{Answer}
use Rattle.replica_core.specs.declared.events.Answer.TheVariants as answer
use Rattle.replica_core.specs.declared.events.Event.{Event}
use Rattle.replica_core.specs.declared.events.Event.TheVariants as event
use Rattle.replica_core.specs.declared.info.ReplicaInfo.{ReplicaInfo}
use Rattle.replica_core.specs.declared.records.ReplicaRecord.{ReplicaRecord}
use Rattle.replica_core.specs.Info.{visible_under, visible_of, readable}
use Rattle.replica_core.specs.Transitions.{Outcome, Taken, present, reply, answer_of, transition}
use Rattle.replica_core.specs.Views.{rule_in, written_in, written_at}
use Rattle.replica_core.proofs.InfoLemmas.{present_is}
use Rattle.replica_core.proofs.SoundLemmas.{info_in}
use Rattle.replica_core.proofs.StepLemmas.{step_ok}
use Rattle.replica_model.specs.declared.events.ReplicaEvent.{ReplicaEvent}
use Rattle.replica_model.specs.declared.events.ReplicaEvent.TheVariants as replica_event
use Rattle.replica_model.specs.Rows.{FullReplica, IsFull, row_answer}
use Rattle.request_refusals.specs.declared.refusals.RequestRefusal.{RequestRefusal}
use Rattle.request_refusals.specs.declared.refusals.RequestRefusal.TheVariants as refusal
use Rattle.request_refusals.specs.Pools.{is_in_pool}
use Rattle.member_core.specs.declared.member.Mirror.{Mirror}
use Rattle.member_core.specs.declared.member.Mirror.TheVariants as mirror
use Rattle.member_core.specs.declared.turns.Turn.{Turn}
use Rattle.member_core.specs.Members.{MemberState, down_turn, up_turn, hears}
use Rattle.member_core.specs.Requests.{request_event, mirror_request}
use Rattle.member_core.specs.Steps.{Step, Setup, step, faulted_step, request_step, faulted_request, oldest_at, ready_turn_at}
use Rattle.read_core.specs.declared.serving.ServePhase.{ServePhase}
use Rattle.read_core.specs.declared.serving.ServePhase.TheVariants as phase
use Rattle.read_core.specs.Laws.{after}
use Rattle.read_core.specs.Servings.{ServingState, begun, read_event, begun_as, begun_at, read_at, faulted_read, accepting, refusing, piece_len, piece_event, call_at, packet_of, piece_of, sent, piece_as}
use Rattle.recovery_core.specs.declared.members.RecoveryReply.{RecoveryReply}
use Rattle.recovery_core.specs.Members.{Served, recovery_event, serve, serve_faulted}
use Rattle.world.specs.Parts.{Message, request, packet, ack, response, read_status, recovery_answer, by_member, by_reader, FullMember, Lower, idle, writes, serves, recovers, ended_below, Break}
use Rattle.world.specs.Worlds.{World, Dial, Change, put}
use Rattle.world.specs.Connections.{Next, message, the_end, is_alive, sent_on}
use Rattle.world.specs.Nodes.{node_of, replica_at, block_of, closing, unless_failing, above_of, below_of, member_change, failing_turn, turn_change, takes_next, pending_at, member_down, member_up, ready_change, member_ready, mirror_node, is_asked, mirror_dial, dials_of, member_dials, setup_change, failing_write, write_request, breaking, read_change, failing_read, read_request, piece_change, serve_change, recovery_change, failing_recovery, recovery_request, first_message, next_recovery, lower_down, lower_ready, mirror_up}
use Rattle.world.specs.Nodes as nodes
use Rattle.node_refs.specs.NodeRefs.{ref_of}
use Rattle.world_laws.proofs.FactTables.{if-each, when-each}
use Rattle.world_orders.proofs.Kept.{sent-elsewhere, sent-here, eqb-itself}
use Rattle.world_orders.proofs.Lists.{Behind, get-append}
use Rattle.world_readings.proofs.Serving.{IsServing, begun-serving}
use Rattle.world_readings.proofs.Giving.{after-serving, IsPiece, Gives, Says, refuses, Serves, Below, says-below}
use Rattle.world_readings.proofs.Limiting.{IsLimited, Limited}
use Rattle.world_readings.proofs.Keeping.{first-more, Fetched, Unread, unread-none, Moves, Owes}

-- WHAT A REPLICA ANSWERS

answered-so : (o : Outcome) (v : ℕ) → answer_of (reply o) ≡ answer.Visible v → (t : Taken) × (o ≡ Ok t) × (t.answer ≡ answer.Visible v)
answered-so (Ok t) v e = (t, refl, e)
answered-so (Err f) v e = cc

readable-is : (h : ReplicaInfo) (o : Option ℕ) (named : Stamp) (offset n u : ℕ) → readable h o named offset n ≡ Ok u → (o ≡ Some u) × (offset + n ≤ u)
unfolding readable
readable-is h None named offset n u e = cc
readable-is h (Some v) named offset n u e = grind (arith, nat_tests)

visible-few : (s : ReplicaState) (written acked u : ℕ) → acked ≤ written → visible_under s written acked ≡ Some u → u ≤ written
visible-few state.Finalized written acked u le e = omega (arith, same_Some written u e)
visible-few state.Rbw written acked u le e = omega (arith, same_Some acked u e, le)
visible-few state.Rwr written acked u le e = absurd (none-some u e)
visible-few state.Rur written acked u le e = absurd (none-some u e)
visible-few state.Temporary written acked u le e = absurd (none-some u e)

-- what is answered to a read
abbrev seen : ReplicaRecord → ℕ → Outcome
seen c u = Ok (record { replica = c; answer = answer.Visible u })

told-same : (c : ReplicaRecord) (u v : ℕ) (t : Taken) → seen c u ≡ Ok t → t.answer ≡ answer.Visible v → u ≡ v
told-same c u v t e q = cc

-- What is answered Visible has all that is asked for, and the replica has those bytes.
pub record IsVisible (r : FullReplica) (offset n v : ℕ) : Type 0 where
  pub within : offset + n ≤ v
  pub there : v ≤ length r.bytes

visible-read : (r : FullReplica) (named : Stamp) (offset n v : ℕ) → IsFull r → row_answer r (replica_event.Other (event.Read named offset n)) ≡ answer.Visible v → IsVisible r offset n v
unfolding transition
visible-read r named offset n v f e =
    let a = answered-so (transition r.known (event.Read named offset n)) v e in
    let b = step_ok (present r.known) _ a.0 a.1 in
    let c = step_ok (readable b.0 (visible_of b.0) named offset n) _ a.0 b.2 in
    let is = readable-is b.0 (visible_of b.0) named offset n c.0 c.1 in
    let same = told-same r.known c.0 v a.0 c.2 a.2 in
    let info : r.known.info ≡ Some b.0 = (present_is r.known b.0 b.1).1 in
    let written : written_in r.known ≡ b.0.written = ap written_at info in
    let few = visible-few b.0.original b.0.written b.0.acked c.0 (info_in r.known b.0 info f.sound).acked is.0 in
    record { within = omega (arith, is.1, same); there = omega (arith, few, same, f.all, written) }

-- A serving that has just begun.
pub record Starts (read : ReadOp) (s : ServingState) : Type 0 where
  pub serving : IsServing read s
  pub fresh : s.at ≡ s.from
  pub begins : s.phase ≡ phase.Sending

begun-starts : (read : ReadOp) (rule : Rule) (r : FullReplica) (v : ℕ) → IsChunkSize rule.chunk → IsLimited r → IsVisible r read.offset read.len v → Starts read (begun read rule v)
unfolding begun
begun-starts read rule r v c l h = record { serving = begun-serving read rule v c h.within (omega (arith, h.there, l.few)); fresh = refl; begins = refl }

as-starts : (read : ReadOp) (r : FullReplica) (o : Option Rule) (a : Answer) → IfSome o (λ (x : Rule). IsChunkSize x.chunk) → IsLimited r → ((v : ℕ) → a ≡ answer.Visible v → IsVisible r read.offset read.len v) → IfOk (begun_as read o a) (Starts read)
as-starts read r (Some rule) (answer.Visible v) c l h = begun-starts read rule r v c l (h v refl)
as-starts read r (Some rule) (answer.Refused f) c l h = tt
as-starts read r (Some rule) answer.Done c l h = tt
as-starts read r (Some rule) (answer.Info x s n) c l h = tt
as-starts read r None (answer.Visible v) c l h = tt
as-starts read r None (answer.Refused f) c l h = tt
as-starts read r None answer.Done c l h = tt
as-starts read r None (answer.Info x s n) c l h = tt

rule-fits : (r : FullReplica) → IsFull r → IfSome (rule_in r.known) (λ (x : Rule). IsChunkSize x.chunk)
rule-fits r f = go r.known.info f.rule
  where
    go : (o : Option ReplicaInfo) → IfSome o (λ (i : ReplicaInfo). IsChunkSize i.sums.chunk) → IfSome (option_map (λ (i : ReplicaInfo). i.sums) o) (λ (x : Rule). IsChunkSize x.chunk)
    go None h = tt
    go (Some i) h = h

-- a read that is served begins so
read-starts : (read : ReadOp) (r : FullReplica) → IsLimited r → IfOk (read_at read r) (Starts read)
unfolding read_event
read-starts read r l = go (is_in_pool read.block)
  where
    go : (b : Bool) → IfOk (begun_at read r (if b then Ok (event.Read read.block.stamp read.offset read.len) else Err refusal.Pool)) (Starts read)
    go true = as-starts read r (rule_in r.known) _ (rule-fits r l.full) l (λ v e. visible-read r read.block.stamp read.offset read.len v l.full e)
    go false = tt

-- CHANGES AT A LOWER END

-- the connection isn't one of a reader
abbrev NoRead : World → ℕ → Type 0
NoRead w c = (read : ReadOp) (start : ServingState) → slice_get (w.downs c) 0 ≡ Some (request (op.Read read)) → Below read start (w.ups c) (w.lowers c) → ⊥

-- what a member dials
dial-unread : (w : World) (c : ℕ) (o : Option WriteFields) (n : Option ℕ) → Unread (mirror_dial w c o n)
dial-unread w c None n = unread-none
dial-unread w c (Some f) None = unread-none
dial-unread w c (Some f) (Some n) = record { at = go }
  where
    go : (j : ℕ) (d : Dial) (i : ℕ) → slice_get (mirror_dial w c (Some f) (Some n)) j ≡ Some d → d.dialled.upper ≡ by_reader i → ⊥
    go zero d i is u = differ (ap (λ (x : Dial). x.dialled.upper) (same_Some _ d is) ∙ u)
      where
        differ : by_member c ≡ by_reader i → ⊥
        differ e = cc
    go (suc j) d i is u = none-some d is

mirror-unread : (q : Mirror) (w : World) (c : ℕ) (f : WriteFields) → Unread (dials_of q w c f)
mirror-unread mirror.Nobody w c f = unread-none
mirror-unread mirror.Asked w c f = dial-unread w c (mirror_request (ref_of (record { 0 = node_of w c })) f) (mirror_node f.targets)
mirror-unread mirror.Unreachable w c f = unread-none
mirror-unread mirror.Open w c f = unread-none
mirror-unread mirror.Ended w c f = unread-none

member-unread : (o : Option MemberState) (w : World) (c : ℕ) (f : WriteFields) → Unread (member_dials o w c f)
member-unread None w c f = unread-none
member-unread (Some m) w c f = mirror-unread m.mirror w c f

ended-not : {A : Type 0} (b : ℕ) (s : ServingState) → ended_below ≡ serves b s → A
ended-not b s e = absurd (differ e)
  where
    differ : ended_below ≡ serves b s → ⊥
    differ q = cc

-- an answer is no packet
answer-not : {A : Type 0} (r : Response) (j : ℕ) (p : Packet) → slice_get (response r ∷ []) j ≡ Some (packet p) → A
answer-not r zero p e = absurd (differ (same_Some (response r) (packet p) e))
  where
    differ : response r ≡ packet p → ⊥
    differ q = cc
answer-not r (suc j) p e = absurd (none-some (packet p) e)

module _ (w : World) (c : ℕ) (lt : c < w.next_conn) where
  -- nothing is sent on a connection that isn't there
  only-here : (ms : List Message) (d : ℕ) → w.next_conn ≤ d → sent_on (Some c) ms d ≡ []
  only-here ms d le = go (d == c) refl
    where
      go : (b : Bool) → (d == c) ≡ b → sent_on (Some c) ms d ≡ []
      go true e = absurd (omega (arith, eqb-true d c e, lt, le))
      go false e = sent-elsewhere c d ms e

  lower-stays : (l : Lower) (d : ℕ) → w.next_conn ≤ d → put w.lowers c l d ≡ w.lowers d
  lower-stays l d le = if-each (λ (z : Lower). z ≡ w.lowers d) (d == c) l (w.lowers d) (λ e. absurd (omega (arith, eqb-true d c e, lt, le))) (λ _. refl)

  member-owes : (m : FullMember) (x : Next) (s : Step) (b : Option Break) → NoRead w c → Owes w (member_change w c m x s b)
  member-owes m x s b apart = record {
    reader = refl;
    unread = unread-none;
    sends = record {
      fresh = λ d le. only-here _ d le;
      unborn = λ d le. lower-stays _ d le;
      quiet = λ d e. sent-elsewhere c d _ e;
      moves = λ i o read start asked below. absurd (apart read start asked below);
    };
  }

  setup-owes : (f : WriteFields) (s : Setup) (b : Option Break) → NoRead w c → Owes w (setup_change w c f s b)
  setup-owes f s b apart = record {
    reader = refl;
    unread = member-unread s.member w c f;
    sends = record {
      fresh = λ d le. only-here _ d le;
      unborn = λ d le. lower-stays _ d le;
      quiet = λ d e. sent-elsewhere c d _ e;
      moves = λ i o read start asked below. absurd (apart read start asked below);
    };
  }

  recovery-owes : (r : RecoveryOp) (s : Served) (b : Option Break) → NoRead w c → Owes w (recovery_change w c r s b)
  recovery-owes r s b apart = record {
    reader = refl;
    unread = unread-none;
    sends = record {
      fresh = λ d le. only-here _ d le;
      unborn = λ d le. lower-stays _ d le;
      quiet = λ d e. sent-elsewhere c d _ e;
      moves = λ i o read start asked below. absurd (apart read start asked below);
    };
  }

  closing-owes : Owes w (closing w c)
  closing-owes = record {
    reader = refl;
    unread = unread-none;
    sends = record {
      fresh = λ d le. refl;
      unborn = λ d le. lower-stays _ d le;
      quiet = λ d e. refl;
      moves = λ i o read start asked below. record {
        next = start;
        below = subst (λ (ms : List Message). Says read start ms) (sym (append-nil (w.ups c))) (says-below read start (w.ups c) (w.lowers c) below);
        same = inl refl;
        shut = λ _. inl (eqb-itself c);
        block = λ b s e. ended-not b s e;
        packets = λ j p e. absurd (none-some (packet p) e);
      };
    };
  }

  unless-owes : (fails : Bool) → IfSome (unless_failing fails (closing w c)) (Owes w)
  unless-owes true = tt
  unless-owes false = closing-owes

  -- MEMBERS

  member-apart : (m : FullMember) → w.lowers c ≡ writes m → NoRead w c
  member-apart m l read start asked below = subst (Below read start (w.ups c)) l below

  failing-turn-owes : (m : FullMember) (x : Next) (t : Turn) (o : Option ReplicaEvent) → NoRead w c → IfSome (failing_turn w c m x t o) (Owes w)
  failing-turn-owes m x t None apart = tt
  failing-turn-owes m x t (Some e) apart = member-owes m x (faulted_step m.state (replica_at w c (block_of m.fields)) t) _ apart

  turn-owes : (m : FullMember) (x : Next) (t : Turn) (fails : Bool) → NoRead w c → IfSome (turn_change w c m x t fails) (Owes w)
  turn-owes m x t true apart = failing-turn-owes m x t t.call apart
  turn-owes m x t false apart = member-owes m x (step m.state (replica_at w c (block_of m.fields)) t) _ apart

  ready-owes : (m : FullMember) (o : Option Turn) (fails : Bool) → NoRead w c → IfSome (ready_change w c m o fails) (Owes w)
  ready-owes m None fails apart = tt
  ready-owes m (Some t) fails apart = turn-owes m the_end t fails apart

  -- REQUESTS TO WRITE

  failing-write-owes : (f : WriteFields) (e : Result Event RequestRefusal) → NoRead w c → IfSome (failing_write w c f e) (Owes w)
  failing-write-owes f (Err x) apart = tt
  failing-write-owes f (Ok e) apart = setup-owes f (faulted_request (replica_at w c (block_of f))) _ apart

  write-owes : (f : WriteFields) (answered fails : Bool) → NoRead w c → IfSome (write_request w c f answered fails) (Owes w)
  write-owes f answered true apart = failing-write-owes f (request_event (record { 0 = c }) f (rule_in (replica_at w c (block_of f)).known)) apart
  write-owes f answered false apart = setup-owes f (request_step (record { 0 = c }) f (is_asked w c f answered) (replica_at w c (block_of f))) _ apart

  -- READS

  -- what the request asks
  same-read : (a b : ReadOp) → slice_get (w.downs c) 0 ≡ Some (request (op.Read a)) → slice_get (w.downs c) 0 ≡ Some (request (op.Read b)) → a ≡ b
  same-read a b p q = same (same_Some (request (op.Read a)) (request (op.Read b)) (sym p ∙ q))
    where
      same : request (op.Read a) ≡ request (op.Read b) → a ≡ b
      same e = cc

  -- what was sent on the connection, where this is the first message
  one-sent : (m : Message) → w.ups c ≡ [] → m ∷ [] ≡ w.ups c ++ sent_on (Some c) (m ∷ []) c
  one-sent m none = sym (ap (λ (ks : List Message). w.ups c ++ ks) (sent-here c (m ∷ [])) ∙ ap (λ (ms : List Message). ms ++ m ∷ []) none)

  refusing-moves : (k : Change) (f : RequestRefusal) (read : ReadOp) (start : ServingState) → k.lower_at ≡ c → k.lower ≡ ended_below → k.ups ≡ sent_on (Some c) (response (refusing f) ∷ []) → k.shuts c ≡ true → w.ups c ≡ [] → Moves w k read start
  refusing-moves k f read start at l u shut none = record {
    next = start;
    below = subst (λ (z : Lower). Below read start (w.ups k.lower_at ++ k.ups k.lower_at) z) (sym l) (refuses f (sym sent-is));
    same = inl refl;
    shut = λ _. inl (subst (λ (d : ℕ). k.shuts d ≡ true) (sym at) shut);
    block = λ b s e. ended-not b s (sym l ∙ e);
    packets = λ j p e. answer-not (refusing f) j p (subst (λ (ms : List Message). slice_get ms j ≡ Some (packet p)) up-is e);
  }
    where
      up-is : k.ups k.lower_at ≡ response (refusing f) ∷ []
      up-is = ap k.ups at ∙ ap (λ (g : ℕ → List Message). g c) u ∙ sent-here c (response (refusing f) ∷ [])

      sent-is : response (refusing f) ∷ [] ≡ w.ups k.lower_at ++ k.ups k.lower_at
      sent-is = one-sent (response (refusing f)) none ∙ ap (λ (g : ℕ → List Message). w.ups c ++ g c) (sym u) ∙ ap (λ (d : ℕ). w.ups d ++ k.ups d) (sym at)

  started : (read : ReadOp) (s : ServingState) → Starts read s → Serves read s (response (accepting s) ∷ []) s
  started read s h = record {
    given = record { serving = h.serving; fresh = h.fresh; begins = h.begins; first = refl; pieces = λ n m e. absurd (none-some m e) };
    count = 0;
    all = refl;
    is = refl;
  }

  read-change-owes : (b : ℕ) (r : ReadOp) (o : Result ServingState RequestRefusal) → w.lowers c ≡ idle → slice_get (w.downs c) 0 ≡ Some (request (op.Read r)) → b ≡ r.block.block.0 → IfOk o (Starts r) → Owes w (read_change w c b o)
  read-change-owes b r (Ok s) l first of h = record {
    reader = refl;
    unread = unread-none;
    sends = record {
      fresh = λ d le. only-here _ d le;
      unborn = λ d le. lower-stays _ d le;
      quiet = λ d e. sent-elsewhere c d _ e;
      moves = λ i o read start asked below.
          let none : w.ups c ≡ [] = subst (Below read start (w.ups c)) l below in
          record {
            next = s;
            below = subst (λ (ms : List Message). Serves read s ms s) (one-sent (response (accepting s)) none) (started read s (subst (λ (a : ReadOp). Starts a s) (same-read r read first asked) h));
            same = inr none;
            shut = λ e. absurd (differ b s e);
            block = λ d t e. inr (sym (blocks d t e) ∙ of ∙ ap (λ (a : ReadOp). a.block.block.0) (same-read r read first asked));
            packets = λ j p e. answer-not (accepting s) j p (subst (λ (ms : List Message). slice_get ms j ≡ Some (packet p)) (sent-here c (response (accepting s) ∷ [])) e);
          };
    };
  }
    where
      differ : (b : ℕ) (s : ServingState) → serves b s ≡ ended_below → ⊥
      differ b s e = cc

      blocks : (d : ℕ) (t : ServingState) → serves b s ≡ serves d t → b ≡ d
      blocks d t e = cc
  read-change-owes b r (Err f) l first of h = record {
    reader = refl;
    unread = unread-none;
    sends = record {
      fresh = λ d le. only-here _ d le;
      unborn = λ d le. lower-stays _ d le;
      quiet = λ d e. sent-elsewhere c d _ e;
      moves = λ i o read start asked below. refusing-moves (read_change w c b (Err f)) f read start refl refl refl (eqb-itself c) (subst (Below read start (w.ups c)) l below);
    };
  }

  failing-read-owes : (b : ℕ) (e : Result Event RequestRefusal) → w.lowers c ≡ idle → IfSome (failing_read w c b e) (Owes w)
  failing-read-owes b (Err x) l = tt
  failing-read-owes b (Ok e) l = record {
    reader = refl;
    unread = unread-none;
    sends = record {
      fresh = λ d le. only-here _ d le;
      unborn = λ d le. lower-stays _ d le;
      quiet = λ d q. sent-elsewhere c d _ q;
      moves = λ i o read start asked below. refusing-moves (breaking w c b (faulted_read (replica_at w c b)).0 (replica_event.Other e) (response (refusing refusal.File) ∷ [])) refusal.File read start refl refl refl (eqb-itself c) (subst (Below read start (w.ups c)) l below);
    };
  }

  read-request-owes : (r : ReadOp) (fails : Bool) → Limited w → w.lowers c ≡ idle → slice_get (w.downs c) 0 ≡ Some (request (op.Read r)) → IfSome (read_request w c r fails) (Owes w)
  read-request-owes r true h l first = failing-read-owes r.block.block.0 (read_event r) l
  read-request-owes r false h l first = read-change-owes r.block.block.0 r (read_at r (replica_at w c r.block.block.0)) l first refl (read-starts r (replica_at w c r.block.block.0) (h.replicas (node_of w c) r.block.block.0))

  -- PACKETS OF A READ

  more-gives : (read : ReadOp) (start s : ServingState) (x : Message) → (h : Serves read start (w.ups c) s) → IsPiece s x → Gives read start (w.ups c ++ x ∷ [])
  more-gives read start s x h p = record {
    serving = h.given.serving;
    fresh = h.given.fresh;
    begins = h.given.begins;
    first = first-more (w.ups c) (x ∷ []) _ h.given.first;
    pieces = λ k m e. go k m (get-append (w.ups c) (x ∷ []) (suc k) m e);
  }
    where
      here : (k place : ℕ) (m : Message) → suc k ≡ length (w.ups c) + place → slice_get (x ∷ []) place ≡ Some m → IsPiece (after start k) m
      here k zero m is e =
          let same : h.count ≡ k = omega (arith, is, h.all) in
          subst (λ (n : ℕ). IsPiece (after start n) m) same (subst (λ (u : ServingState). IsPiece u m) h.is (subst (λ (y : Message). IsPiece s y) (same_Some x m e) p))
      here k (suc place) m is e = absurd (none-some m e)

      go : (k : ℕ) (m : Message) → (slice_get (w.ups c) (suc k) ≡ Some m) ⊎ Behind (w.ups c) (x ∷ []) (suc k) m → IsPiece (after start k) m
      go k m (inl e) = h.given.pieces k m e
      go k m (inr b) = here k b.place m b.is b.found

  more-serves : (read : ReadOp) (start s : ServingState) (x : Message) → Serves read start (w.ups c) s → IsPiece s x → Serves read start (w.ups c ++ x ∷ []) (sent s)
  more-serves read start s x h p = record {
    given = more-gives read start s x h p;
    count = suc h.count;
    all = longer (w.ups c) x ∙ ap suc h.all;
    is = ap sent h.is;
  }
    where
      longer : (xs : List Message) (y : Message) → length (xs ++ y ∷ []) ≡ suc (length xs)
      longer [] y = refl
      longer (z ∷ xs) y = ap suc (longer xs y)

  serving-is : (b : ℕ) (s : ServingState) (read : ReadOp) (start : ServingState) → w.lowers c ≡ serves b s → Below read start (w.ups c) (w.lowers c) → Serves read start (w.ups c) s
  serving-is b s read start l below = subst (Below read start (w.ups c)) l below

  sent-owes : (b : ℕ) (s : ServingState) → w.lowers c ≡ serves b s → s.phase ≡ phase.Sending → length (piece_of (replica_at w c b) s) ≡ piece_len s → Owes w (nodes.piece_as w c b (sent s) (Some (packet_of s (piece_of (replica_at w c b) s))))
  sent-owes b s l sending whole = record {
    reader = refl;
    unread = unread-none;
    sends = record {
      fresh = λ d le. only-here _ d le;
      unborn = λ d le. lower-stays _ d le;
      quiet = λ d e. sent-elsewhere c d _ e;
      moves = λ i o read start asked below. record {
        next = start;
        below = subst (λ (ks : List Message). Serves read start (w.ups c ++ ks) (sent s)) (sym (sent-here c _)) (more-serves read start s _ (serving-is b s read start l below) (record { body = piece_of (replica_at w c b) s; is = refl; sending = sending; whole = whole }));
        same = inl refl;
        shut = λ e. absurd (differ b (sent s) e);
        block = λ d t e. inl (s, l ∙ ap (λ (n : ℕ). serves n s) (blocks d t e));
        packets = λ j p e. fetched j p (serving-is b s read start l below) (subst (λ (ms : List Message). slice_get ms j ≡ Some (packet p)) (sent-here c _) e);
      };
    };
  }
    where
      differ : (b : ℕ) (u : ServingState) → serves b u ≡ ended_below → ⊥
      differ b u e = cc

      blocks : (d : ℕ) (t : ServingState) → serves b (sent s) ≡ serves d t → b ≡ d
      blocks d t e = cc

      same : (p q : Packet) → packet p ≡ packet q → q ≡ p
      same p q e = cc

      little : {read : ReadOp} {start : ServingState} → Serves read start (w.ups c) s → s.at < 2 ^ 63
      little {read} {start} v =
          let h = subst (λ (t : ServingState). IsServing read t) (sym v.is) (after-serving read start v.count v.given.serving) in
          omega (arith, h.before, h.few)

      fetched : {read : ReadOp} {start : ServingState} (j : ℕ) (p : Packet) → Serves read start (w.ups c) s → slice_get (packet (packet_of s (piece_of (replica_at w c b) s)) ∷ []) j ≡ Some (packet p) → Fetched w c p
      fetched zero p v e = record { block = b; serving = s; served = l; is = same (packet_of s (piece_of (replica_at w c b) s)) p (same_Some _ (packet p) e); whole = whole; small = little v }
      fetched (suc j) p v e = absurd (none-some (packet p) e)

  piece-owes : (b : ℕ) (s : ServingState) (a : Answer) → w.lowers c ≡ serves b s → s.phase ≡ phase.Sending → ((v : ℕ) → a ≡ answer.Visible v → length (piece_of (replica_at w c b) s) ≡ piece_len s) → Owes w (piece_change w c b (piece_as s (replica_at w c b) a))
  piece-owes b s (answer.Visible v) l sending h = sent-owes b s l sending (h v refl)
  piece-owes b s (answer.Refused f) l sending h = closing-owes
  piece-owes b s answer.Done l sending h = closing-owes
  piece-owes b s (answer.Info x stamp n) l sending h = closing-owes

  -- a packet has all its bytes
  piece-whole : (s : ServingState) (r : FullReplica) → IsLimited r → (v : ℕ) → row_answer r (replica_event.Other (piece_event s)) ≡ answer.Visible v → length (piece_of r s) ≡ piece_len s
  piece-whole s r h v e =
      let x = visible-read r s.named s.at (piece_len s) v h.full e in
      length-take-le (piece_len s) (drop s.at r.bytes) (omega (arith, length-drop s.at r.bytes, x.within, x.there))

  breaking-owes : (b : ℕ) (r : FullReplica) (e : ReplicaEvent) → Owes w (breaking w c b r e [])
  breaking-owes b r e = record {
    reader = refl;
    unread = unread-none;
    sends = record {
      fresh = λ d le. only-here _ d le;
      unborn = λ d le. lower-stays _ d le;
      quiet = λ d q. sent-elsewhere c d [] q;
      moves = λ i o read start asked below. record {
        next = start;
        below = subst (λ (ks : List Message). Says read start (w.ups c ++ ks)) (sym (sent-here c [])) (subst (λ (ms : List Message). Says read start ms) (sym (append-nil (w.ups c))) (says-below read start (w.ups c) (w.lowers c) below));
        same = inl refl;
        shut = λ _. inl (eqb-itself c);
        block = λ d t q. ended-not d t q;
        packets = λ j p q. absurd (none-some (packet p) (subst (λ (ms : List Message). slice_get ms j ≡ Some (packet p)) (sent-here c []) q));
      };
    };
  }

  serve-owes : (b : ℕ) (s : ServingState) (p : ServePhase) (fails : Bool) → Limited w → w.lowers c ≡ serves b s → s.phase ≡ p → IfSome (serve_change w c b s (call_at p s) fails) (Owes w)
  serve-owes b s phase.Sending true h l q = breaking-owes b _ _
  serve-owes b s phase.Sending false h l q = piece-owes b s (row_answer (replica_at w c b) (replica_event.Other (piece_event s))) l q (piece-whole s (replica_at w c b) (h.replicas (node_of w c) b))
  serve-owes b s phase.Awaiting fails h l q = tt
  serve-owes b s phase.Over fails h l q = tt

  -- BLOCK RECOVERIES

  failing-recovery-owes : (r : RecoveryOp) (e : Result Event RecoveryReply) → NoRead w c → IfSome (failing_recovery w c r e) (Owes w)
  failing-recovery-owes r (Err x) apart = tt
  failing-recovery-owes r (Ok e) apart = recovery-owes r (serve_faulted (replica_at w c r.block.block.0)) _ apart

  recovery-request-owes : (r : RecoveryOp) (fails : Bool) → NoRead w c → IfSome (recovery_request w c r fails) (Owes w)
  recovery-request-owes r true apart = failing-recovery-owes r (recovery_event r) apart
  recovery-request-owes r false apart = recovery-owes r (serve (replica_at w c r.block.block.0) r) _ apart

  -- THE LOWER END

  -- a message that asks for apart read
  other-first : (m : Message) → slice_get (w.downs c) 0 ≡ Some m → ((read : ReadOp) → m ≡ request (op.Read read) → ⊥) → NoRead w c
  other-first m first apart read start asked below = apart read (same_Some m (request (op.Read read)) (sym first ∙ asked))

  first-owes : (m : Message) (answered fails : Bool) → Limited w → w.lowers c ≡ idle → slice_get (w.downs c) 0 ≡ Some m → IfSome (first_message w c m answered fails) (Owes w)
  first-owes (request (op.Write f)) answered fails h l e = write-owes f answered fails (other-first (request (op.Write f)) e (λ read q. cc))
  first-owes (request (op.Read r)) answered fails h l e = read-request-owes r fails h l e
  first-owes (request (op.Recovery r)) answered fails h l e = recovery-request-owes r fails (other-first (request (op.Recovery r)) e (λ read q. cc))
  first-owes (request (op.Transfer r)) answered fails h l e = unless-owes fails
  first-owes (request (op.Checksum r)) answered fails h l e = unless-owes fails
  first-owes (packet p) answered fails h l e = unless-owes fails
  first-owes (ack a) answered fails h l e = unless-owes fails
  first-owes (response r) answered fails h l e = unless-owes fails
  first-owes (read_status s) answered fails h l e = unless-owes fails
  first-owes (recovery_answer a) answered fails h l e = unless-owes fails

  next-owes : (x : Next) (fails : Bool) → NoRead w c → IfSome (next_recovery w c x fails) (Owes w)
  next-owes (message (request (op.Recovery r))) fails apart = recovery-request-owes r fails apart
  next-owes (message (request (op.Write f))) fails apart = unless-owes fails
  next-owes (message (request (op.Read r))) fails apart = unless-owes fails
  next-owes (message (request (op.Transfer r))) fails apart = unless-owes fails
  next-owes (message (request (op.Checksum r))) fails apart = unless-owes fails
  next-owes (message (packet p)) fails apart = unless-owes fails
  next-owes (message (ack a)) fails apart = unless-owes fails
  next-owes (message (response r)) fails apart = unless-owes fails
  next-owes (message (read_status s)) fails apart = unless-owes fails
  next-owes (message (recovery_answer a)) fails apart = unless-owes fails
  next-owes the_end fails apart = unless-owes fails

  pub lower-down-owes : (l : Lower) (x : Next) (answered fails : Bool) → Limited w → w.lowers c ≡ l → (l ≡ idle → (m : Message) → x ≡ message m → slice_get (w.downs c) 0 ≡ Some m) → IfSome (lower_down l w c x answered fails) (Owes w)
  lower-down-owes idle (message m) answered fails h l first = first-owes m answered fails h l (first refl m refl)
  lower-down-owes idle the_end answered fails h l first = unless-owes fails
  lower-down-owes (writes m) x answered fails h l first =
      when-each (Owes w) (takes_next m.state (pending_at w c m) x) _ (λ _. turn-owes m x (down_turn m.state (above_of x)) fails (member-apart m l))
  lower-down-owes (serves b s) x answered fails h l first = unless-owes fails
  lower-down-owes recovers x answered fails h l first = next-owes x fails (λ read start asked below. subst (Below read start (w.ups c)) l below)
  lower-down-owes ended_below x answered fails h l first = tt

  pub lower-ready-owes : (l : Lower) (fails : Bool) → Limited w → w.lowers c ≡ l → IfSome (lower_ready l w c fails) (Owes w)
  lower-ready-owes idle fails h l = tt
  lower-ready-owes (writes m) fails h l = ready-owes m (ready_turn_at m.state (replica_at w c (block_of m.fields))) fails (member-apart m l)
  lower-ready-owes (serves b s) fails h l = serve-owes b s s.phase fails h l refl
  lower-ready-owes recovers fails h l = tt
  lower-ready-owes ended_below fails h l = tt

  pub mirror-up-owes : (l : Lower) (x : Next) (fails : Bool) → w.lowers c ≡ l → IfSome (mirror_up l w c x fails) (Owes w)
  mirror-up-owes idle x fails l = tt
  mirror-up-owes (writes m) x fails l = when-each (Owes w) (is_alive w (w.dialled c).to) _
      (λ _. when-each (Owes w) (hears m.state) _ (λ _. turn-owes m x (up_turn m.state (oldest_at (replica_at w c (block_of m.fields))) (below_of x)) fails (member-apart m l)))
  mirror-up-owes (serves b s) x fails l = tt
  mirror-up-owes recovers x fails l = tt
  mirror-up-owes ended_below x fails l = tt
