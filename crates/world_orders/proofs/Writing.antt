-- Whether a writer awaits the answer to a request, from one call to the next.
use Rattle.std.proofs.Common.{◌≡◌, ℕ, ◌<◌, Bool, true, false, List, [], ◌∷◌, length, slice_get, Option, Some, None, Result, Ok, Err, refl, sym, ap, ◌∙◌}
use Rattle.std.specs.Prelude.{◌==◌, nat_le, is_some, if◌then◌else◌, position}
use Rattle.std.proofs.lemmas.Option.{none-some, slice_get-get_or}
use Rattle.std.proofs.lemmas.List.Quantifiers.{position-Some}
use Rattle.hd_base.specs.declared.numbers.NodeId.{NodeId}
use Rattle.hd_base.specs.declared.numbers.Stamp.{Stamp}
use Rattle.world_laws.specs.AckCodec.Ack.{Ack}
use Rattle.world_laws.specs.AckCodec.Response.{Response}
use Rattle.name_core.specs.declared.calls.OfficeAnswer.{OfficeAnswer}
use Rattle.name_core.specs.declared.calls.OfficeAnswer.TheVariants as office
use Rattle.name_core.specs.declared.calls.Reopened.{Reopened}
use Rattle.name_core.specs.declared.records.TheConstants.{MAX_APPEND_LENGTH}
use Rattle.name_core.specs.declared.faults.OfficeFault.{OfficeFault}
use Rattle.name_core.specs.declared.faults.OfficeFault.TheVariants as fault
use Rattle.world_laws.specs.PacketStream.Streams.{oldest_is_last, oldest_seqno}
use Rattle.world_laws.specs.PacketCodec.Packet.{Packet}
use Rattle.world_laws.specs.WriterCore.Command.{Command}
use Rattle.world_laws.specs.WriterCore.Command.TheVariants as command
use Rattle.world_laws.specs.WriterCore.Failure.{Failure}
use Rattle.world_laws.specs.WriterCore.Phase.{Phase}
use Rattle.world_laws.specs.WriterCore.Phase.TheVariants as phase
use Rattle.world_laws.specs.WriterCore.Remedy.{Remedy}
use Rattle.world_laws.specs.WriterCore.Remedy.TheVariants as remedy
use Rattle.world_laws.specs.WriterCore.Setup.{Setup}
use Rattle.world_laws.specs.WriterCore.Setup.TheVariants as setup
use Rattle.world_laws.specs.WriterCore.Verdict.{Verdict}
use Rattle.world_laws.specs.WriterCore.Verdict.TheVariants as verdict
use Rattle.world_laws.specs.WriterCore.Waiting.{Waiting}
use Rattle.world_laws.specs.WriterCore.WriterRecord.{WriterRecord}
use Rattle.world_laws.specs.WriterCore.Phases.{remedy_in, remedy_at_ack, remedy_after, place_of, bad_place, without, is_success, ack_verdict}
use Rattle.world_laws.specs.WriterCore.DuePacket.{DuePacket}
use Rattle.world_laws.specs.WriterCore.DuePacket.TheVariants as due
use Rattle.world_laws.specs.WriterCore.Transitions.{is_connected, begin_session, own_step, step_in, free_step_as, take_first, taken_as, failed_step_as, failed_first, failed_command, dial_step_as, accepted_step, open_step, completed_step, due_now, due_step, form_step, reach_step_as, reached_length, stream_step_as, granted, granted_in, stamp_given, stamped, reopened, commit_given, committed_as, complete_given, refused, asks, ended, ended_as, fail_named, dropped, acked, acked_in, acked_as, acked_oldest, phase_acked, setup_answered, setup_answered_in, dialled, dialled_in}
use Rattle.world_orders.specs.Orders.{has_members, HasTaken, is_requested}

-- WHAT A PHASE SAYS

pub says : (p : Phase) (members : List NodeId) (n : ℕ) → (is_requested p ≡ true → (n ≡ 0) × (has_members members ≡ true)) → (is_requested p ≡ false → 0 < n) → HasTaken p members n
says phase.Closed members n one other = other refl
says (phase.Wanted s) members n one other = other refl
says (phase.Stamped s stamp) members n one other = other refl
says (phase.Requested s stamp) members n one other = one refl
says (phase.Accepted s stamp) members n one other = other refl
says phase.Opened members n one other = other refl
says (phase.Streaming sent) members n one other = other refl
says phase.Closing members n one other = other refl
says phase.Finished members n one other = other refl
says phase.Completed members n one other = other refl
says (phase.Failed f) members n one other = other refl

pub asked-none : (p : Phase) (members : List NodeId) (n : ℕ) → HasTaken p members n → is_requested p ≡ true → (n ≡ 0) × (has_members members ≡ true)
asked-none phase.Closed members n h e = cc
asked-none (phase.Wanted s) members n h e = cc
asked-none (phase.Stamped s stamp) members n h e = cc
asked-none (phase.Requested s stamp) members n h e = h
asked-none (phase.Accepted s stamp) members n h e = cc
asked-none phase.Opened members n h e = cc
asked-none (phase.Streaming sent) members n h e = cc
asked-none phase.Closing members n h e = cc
asked-none phase.Finished members n h e = cc
asked-none phase.Completed members n h e = cc
asked-none (phase.Failed f) members n h e = cc

pub streams-some : (p : Phase) (members : List NodeId) (n : ℕ) → HasTaken p members n → is_requested p ≡ false → 0 < n
streams-some phase.Closed members n h e = h
streams-some (phase.Wanted s) members n h e = h
streams-some (phase.Stamped s stamp) members n h e = h
streams-some (phase.Requested s stamp) members n h e = cc
streams-some (phase.Accepted s stamp) members n h e = h
streams-some phase.Opened members n h e = h
streams-some (phase.Streaming sent) members n h e = h
streams-some phase.Closing members n h e = h
streams-some phase.Finished members n h e = h
streams-some phase.Completed members n h e = h
streams-some (phase.Failed f) members n h e = h

-- FROM ONE STATE TO THE NEXT

-- Who awaits an answer then did so before, at the same members; who did so before and is still connected does so; and who is connected then has
-- the same members as before.
pub record Follows (x y : WriterRecord) : Type 0 where
  pub late : is_requested y.phase ≡ true → (is_requested x.phase ≡ true) × (y.members ≡ x.members)
  pub early : is_requested x.phase ≡ true → is_connected y.phase ≡ true → is_requested y.phase ≡ true
  pub keeps : is_connected y.phase ≡ true → y.members ≡ x.members

pub same : (x : WriterRecord) → Follows x x
same x = record { late = λ e. (e, refl); early = λ e c. e; keeps = λ c. refl }

alike : (x y : WriterRecord) → y.phase ≡ x.phase → y.members ≡ x.members → Follows x y
alike x y p m = record {
  late = λ e. (ap is_requested (sym p) ∙ e, m);
  early = λ e c. ap is_requested p ∙ e;
  keeps = λ c. m;
}

-- no longer connected
gone : (x y : WriterRecord) → is_requested y.phase ≡ false → is_connected y.phase ≡ false → Follows x y
gone x y r c = record {
  late = λ e. absurd (clash (is_requested y.phase) r e);
  early = λ e d. absurd (clash (is_connected y.phase) c d);
  keeps = λ d. absurd (clash (is_connected y.phase) c d);
}
  where
    clash : (b : Bool) → b ≡ false → b ≡ true → ⊥
    clash true f t = cc
    clash false f t = cc

-- it awaited none
free : (x y : WriterRecord) → is_requested x.phase ≡ false → is_requested y.phase ≡ false → y.members ≡ x.members → Follows x y
free x y r s m = record {
  late = λ e. absurd (clash (is_requested y.phase) s e);
  early = λ e c. absurd (clash (is_requested x.phase) r e);
  keeps = λ c. m;
}
  where
    clash : (b : Bool) → b ≡ false → b ≡ true → ⊥
    clash true f t = cc
    clash false f t = cc

not-asked : (x : WriterRecord) (p : Phase) → x.phase ≡ p → is_requested p ≡ false → is_requested x.phase ≡ false
not-asked x p e f = ap is_requested e ∙ f

-- OWN STEPS

taken-follows : (x : WriterRecord) (c : Command) → Follows x (taken_as x c)
taken-follows x (command.Create members) = gone x _ refl refl
taken-follows x (command.Append members) = gone x _ refl refl
taken-follows x (command.Write bytes) = alike x _ refl refl
taken-follows x (command.Fill count) = alike x _ refl refl
taken-follows x command.Hflush = alike x _ refl refl
taken-follows x command.Hsync = alike x _ refl refl
taken-follows x command.Close = alike x _ refl refl

first-follows : (x : WriterRecord) (o : Option Command) → Follows x (take_first x o).writer
first-follows x None = same x
first-follows x (Some c) = taken-follows x c

free-follows : (x : WriterRecord) (o : Option Waiting) → Follows x (free_step_as x o).writer
free-follows x None = first-follows x (slice_get x.queue 0)
free-follows x (Some w) = same x

dial-follows : (x : WriterRecord) (s : Setup) (stamp : Stamp) (members : List NodeId) → Follows x (dial_step_as x s stamp members).writer
dial-follows x s stamp [] = same x
dial-follows x s stamp (n ∷ ns) = same x

accepted-follows : (x : WriterRecord) (s : Setup) (stamp : Stamp) → is_requested x.phase ≡ false → Follows x (accepted_step x s stamp).writer
accepted-follows x setup.Create stamp r = free x _ r refl refl
accepted-follows x setup.Append stamp r = same x
accepted-follows x setup.AppendRecovery stamp r = same x
accepted-follows x setup.StreamRecovery stamp r = same x
accepted-follows x setup.CloseRecovery stamp r = same x

form-follows : (x : WriterRecord) (d : DuePacket) → is_requested x.phase ≡ false → Follows x (form_step x d).writer
form-follows x (due.Data end is_sync) r = free x _ r refl refl
form-follows x due.Sync r = free x _ r refl refl
form-follows x due.Last r = free x _ r refl refl

reach-follows : (x : WriterRecord) (o : Option ℕ) → Follows x (reach_step_as x o).writer
reach-follows x (Some n) = alike x _ refl refl
reach-follows x None = free-follows x x.waiting

due-follows : (x : WriterRecord) (o : Option DuePacket) → is_requested x.phase ≡ false → Follows x (due_step x o).writer
due-follows x (Some d) r = form-follows x d r
due-follows x None r = reach-follows x (reached_length x.waiting x.stream)

stream-follows : (x : WriterRecord) (sent : ℕ) (o : Option Packet) → is_requested x.phase ≡ false → Follows x (stream_step_as x sent o).writer
stream-follows x sent (Some p) r = free x _ r refl refl
stream-follows x sent None r = due-follows x (due_now x) r

failed-follows : (x : WriterRecord) (f : Failure) (c : Command) → Follows x (failed_command x f c).writer
failed-follows x f (command.Create members) = alike x _ refl refl
failed-follows x f (command.Append members) = gone x _ refl refl
failed-follows x f (command.Write bytes) = alike x _ refl refl
failed-follows x f (command.Fill count) = alike x _ refl refl
failed-follows x f command.Hflush = alike x _ refl refl
failed-follows x f command.Hsync = alike x _ refl refl
failed-follows x f command.Close = alike x _ refl refl

failed-first-follows : (x : WriterRecord) (f : Failure) (o : Option Command) → Follows x (failed_first x f o).writer
failed-first-follows x f None = same x
failed-first-follows x f (Some c) = failed-follows x f c

failed-as-follows : (x : WriterRecord) (f : Failure) (o : Option Waiting) → Follows x (failed_step_as x f o).writer
failed-as-follows x f None = failed-first-follows x f (slice_get x.queue 0)
failed-as-follows x f (Some w) = alike x _ refl refl

step-follows : (x : WriterRecord) (p : Phase) → x.phase ≡ p → Follows x (step_in x p).writer
step-follows x phase.Closed e = free-follows x x.waiting
step-follows x (phase.Wanted s) e = same x
step-follows x (phase.Stamped s stamp) e = dial-follows x s stamp x.members
step-follows x (phase.Requested s stamp) e = free-follows x x.waiting
step-follows x (phase.Accepted s stamp) e = accepted-follows x s stamp (not-asked x _ e refl)
step-follows x phase.Opened e = free x _ (not-asked x _ e refl) refl refl
step-follows x (phase.Streaming sent) e = stream-follows x sent (slice_get x.stream.unacked sent) (not-asked x _ e refl)
step-follows x phase.Closing e = free-follows x x.waiting
step-follows x phase.Finished e = same x
step-follows x phase.Completed e = gone x _ refl refl
step-follows x (phase.Failed f) e = failed-as-follows x f x.waiting

pub own-follows : (x : WriterRecord) → Follows x (own_step x).writer
unfolding own_step
own-follows x = step-follows x x.phase refl

pub open-follows : (x : WriterRecord) → is_requested x.phase ≡ false → Follows x (open_step x).writer
open-follows x r = free x _ r refl refl

pub completed-follows : (x : WriterRecord) → Follows x (completed_step x).writer
completed-follows x = gone x _ refl refl

-- WHAT THE OFFICE ANSWERS

stamped-follows : (x : WriterRecord) (s : Setup) (stamp : Stamp) → Follows x (stamped x s stamp)
stamped-follows x setup.Create stamp = gone x _ refl refl
stamped-follows x setup.Append stamp = same x
stamped-follows x setup.AppendRecovery stamp = gone x _ refl refl
stamped-follows x setup.StreamRecovery stamp = gone x _ refl refl
stamped-follows x setup.CloseRecovery stamp = gone x _ refl refl

if-follows : (x y z : WriterRecord) (b : Bool) → Follows x y → Follows x z → Follows x (if b then y else z)
if-follows x y z true h k = h
if-follows x y z false h k = k

reopened-follows : (x : WriterRecord) (s : Setup) (r : Reopened) → Follows x (reopened x s r)
reopened-follows x setup.Append r =
    let y : WriterRecord = record (begin_session x r.committed r.length) { phase = phase.Stamped setup.Append r.new } in
    if-follows x y x (nat_le r.length MAX_APPEND_LENGTH) (gone x y refl refl) (same x)
reopened-follows x setup.Create r = same x
reopened-follows x setup.AppendRecovery r = same x
reopened-follows x setup.StreamRecovery r = same x
reopened-follows x setup.CloseRecovery r = same x

given-follows : (x : WriterRecord) (s : Setup) (a : OfficeAnswer) → Follows x (stamp_given x s a)
given-follows x s (office.Stamp stamp) = stamped-follows x s stamp
given-follows x s (office.Reopened r) = reopened-follows x s r
given-follows x s (office.Begun g) = same x
given-follows x s office.Nothing = same x

committed-follows : (x : WriterRecord) (s : Setup) (stamp : Stamp) → is_requested x.phase ≡ false → Follows x (committed_as x s stamp)
committed-follows x setup.Create stamp r = same x
committed-follows x setup.Append stamp r = free x _ r refl refl
committed-follows x setup.AppendRecovery stamp r = free x _ r refl refl
committed-follows x setup.StreamRecovery stamp r = free x _ r refl refl
committed-follows x setup.CloseRecovery stamp r = free x _ r refl refl

commit-follows : (x : WriterRecord) (s : Setup) (stamp : Stamp) (a : OfficeAnswer) → is_requested x.phase ≡ false → Follows x (commit_given x s stamp a)
commit-follows x s stamp (office.Stamp t) r = same x
commit-follows x s stamp (office.Reopened t) r = same x
commit-follows x s stamp (office.Begun g) r = same x
commit-follows x s stamp office.Nothing r = committed-follows x s stamp r

complete-follows : (x : WriterRecord) (a : OfficeAnswer) → Follows x (complete_given x a)
complete-follows x (office.Stamp t) = same x
complete-follows x (office.Reopened t) = same x
complete-follows x (office.Begun g) = same x
complete-follows x office.Nothing = gone x _ refl refl

in-follows : (x : WriterRecord) (p : Phase) (a : OfficeAnswer) → x.phase ≡ p → Follows x (granted_in x p a)
in-follows x phase.Closed a e = same x
in-follows x (phase.Wanted s) a e = given-follows x s a
in-follows x (phase.Stamped s stamp) a e = same x
in-follows x (phase.Requested s stamp) a e = same x
in-follows x (phase.Accepted s stamp) a e = commit-follows x s stamp a (not-asked x _ e refl)
in-follows x phase.Opened a e = same x
in-follows x (phase.Streaming sent) a e = same x
in-follows x phase.Closing a e = same x
in-follows x phase.Finished a e = complete-follows x a
in-follows x phase.Completed a e = same x
in-follows x (phase.Failed f) a e = same x

refused-follows : (x : WriterRecord) (e : OfficeFault) → Follows x (refused x e)
refused-follows x fault.Memory = same x
refused-follows x (fault.LeaseLost recovery) = gone x _ refl refl
refused-follows x fault.Known = gone x _ refl refl
refused-follows x fault.Unknown = gone x _ refl refl
refused-follows x fault.NotOpen = gone x _ refl refl
refused-follows x fault.NotClosed = gone x _ refl refl
refused-follows x (fault.OldStamp committed) = gone x _ refl refl
refused-follows x (fault.OldRecovery latest) = gone x _ refl refl
refused-follows x (fault.TooLong length) = gone x _ refl refl

pub granted-follows : (x : WriterRecord) (r : Result OfficeAnswer OfficeFault) → Follows x (granted x r)
unfolding granted
granted-follows x (Ok a) = in-follows x x.phase a refl
granted-follows x (Err e) = if-follows x (refused x e) x (asks x.phase) (refused-follows x e) (same x)

-- WHAT COMES ON THE CONNECTION

dropped-follows : (x : WriterRecord) (s : Setup) (bad : NodeId) (members : List NodeId) → Follows x (dropped x s bad members)
dropped-follows x s bad [] = gone x _ refl refl
dropped-follows x s bad (m ∷ ms) = gone x _ refl refl

fail-follows : (x : WriterRecord) (r : Remedy) (o : Option NodeId) → Follows x (fail_named x r o)
fail-follows x r None = same x
fail-follows x remedy.Abandon (Some bad) = gone x _ refl refl
fail-follows x (remedy.Recover s) (Some bad) = dropped-follows x s bad (without x.members bad)

ended-as-follows : (x : WriterRecord) (o : Option Remedy) → Follows x (ended_as x o)
ended-as-follows x None = same x
ended-as-follows x (Some r) = fail-follows x r (slice_get x.members 0)

pub ended-follows : (x : WriterRecord) → Follows x (ended x)
unfolding ended
ended-follows x = ended-as-follows x (remedy_in x.phase)

oldest-as : (x y : WriterRecord) (b : Bool) (p : Phase) → x.phase ≡ p → y.phase ≡ phase_acked b p → y.members ≡ x.members → Follows x y
oldest-as x y true p e f m = gone x y (ap is_requested f) (ap is_connected f)
oldest-as x y false phase.Closed e f m = alike x y (f ∙ sym e) m
oldest-as x y false (phase.Wanted s) e f m = alike x y (f ∙ sym e) m
oldest-as x y false (phase.Stamped s stamp) e f m = alike x y (f ∙ sym e) m
oldest-as x y false (phase.Requested s stamp) e f m = alike x y (f ∙ sym e) m
oldest-as x y false (phase.Accepted s stamp) e f m = alike x y (f ∙ sym e) m
oldest-as x y false phase.Opened e f m = alike x y (f ∙ sym e) m
oldest-as x y false (phase.Streaming sent) e f m = free x y (not-asked x _ e refl) (ap is_requested f) m
oldest-as x y false phase.Closing e f m = alike x y (f ∙ sym e) m
oldest-as x y false phase.Finished e f m = alike x y (f ∙ sym e) m
oldest-as x y false phase.Completed e f m = alike x y (f ∙ sym e) m
oldest-as x y false (phase.Failed g) e f m = alike x y (f ∙ sym e) m

acked-as-follows : (x : WriterRecord) (r : Remedy) (v : Verdict) → Follows x (acked_as x r v)
acked-as-follows x r verdict.Good = oldest-as x (acked_oldest x) (oldest_is_last x.stream) x.phase refl refl refl
acked-as-follows x r (verdict.Bad place) = fail-follows x r (slice_get x.members place)

acked-in-follows : (x : WriterRecord) (a : Ack) (o : Option Remedy) → Follows x (acked_in x a o)
acked-in-follows x a None = same x
acked-in-follows x a (Some r) = acked-as-follows x r (ack_verdict (oldest_seqno x.stream) (length x.members) a)

pub acked-follows : (x : WriterRecord) (a : Ack) → Follows x (acked x a)
unfolding acked
acked-follows x a = acked-in-follows x a (remedy_at_ack x.phase)

-- THE ANSWER TO A REQUEST

first-there : (members : List NodeId) → has_members members ≡ true → slice_get members 0 ≡ None → ⊥
first-there [] some none = cc
first-there (n ∷ ns) some none = none-some n (sym none)

-- there is somebody at the place that an answer names bad
bad-there : (members : List NodeId) (bad : Option NodeId) → has_members members ≡ true → slice_get members (bad_place members bad) ≡ None → ⊥
bad-there members None some none = first-there members some none
bad-there members (Some bad) some none = go (position (λ n. n.0 == bad.0) members) refl none
  where
    go : (o : Option ℕ) → position (λ n. n.0 == bad.0) members ≡ o → slice_get members (place_of o) ≡ None → ⊥
    go None is e = first-there members some e
    go (Some i) is e = none-some _ (sym e ∙ slice_get-get_or members i bad (position-Some (λ n. n.0 == bad.0) members i bad is).0)

fail-gone : (x : WriterRecord) (r : Remedy) (o : Option NodeId) → (o ≡ None → ⊥) → is_requested (fail_named x r o).phase ≡ false
fail-gone x r None never = absurd (never refl)
fail-gone x remedy.Abandon (Some bad) never = refl
fail-gone x (remedy.Recover s) (Some bad) never = go (without x.members bad)
  where
    go : (ms : List NodeId) → is_requested (dropped x s bad ms).phase ≡ false
    go [] = refl
    go (m ∷ ms) = refl

answered-as : (x : WriterRecord) (p : Phase) (good : Bool) (bad : Option NodeId) → x.phase ≡ p → (is_requested x.phase ≡ true → has_members x.members ≡ true)
    → is_requested (setup_answered_in x p good bad).phase ≡ false
answered-as x (phase.Requested s stamp) true bad e some = refl
answered-as x (phase.Requested s stamp) false bad e some =
    fail-gone x (remedy_after s) _ (bad-there x.members bad (some (ap is_requested e)))
answered-as x phase.Closed good bad e some = not-asked x _ e refl
answered-as x (phase.Wanted s) good bad e some = not-asked x _ e refl
answered-as x (phase.Stamped s stamp) good bad e some = not-asked x _ e refl
answered-as x (phase.Accepted s stamp) good bad e some = not-asked x _ e refl
answered-as x phase.Opened good bad e some = not-asked x _ e refl
answered-as x (phase.Streaming sent) good bad e some = not-asked x _ e refl
answered-as x phase.Closing good bad e some = not-asked x _ e refl
answered-as x phase.Finished good bad e some = not-asked x _ e refl
answered-as x phase.Completed good bad e some = not-asked x _ e refl
answered-as x (phase.Failed f) good bad e some = not-asked x _ e refl

-- Once an answer came, none is awaited.
pub answered-gone : (x : WriterRecord) (r : Response) (bad : Option NodeId) → (is_requested x.phase ≡ true → has_members x.members ≡ true)
    → is_requested (setup_answered x r bad).phase ≡ false
unfolding setup_answered
answered-gone x r bad some = answered-as x x.phase (is_success r.status) bad refl some

-- who is connected after an answer has the same members
answered-keeps-as : (x : WriterRecord) (p : Phase) (good : Bool) (bad : Option NodeId) → is_connected (setup_answered_in x p good bad).phase ≡ true
    → (setup_answered_in x p good bad).members ≡ x.members
answered-keeps-as x (phase.Requested s stamp) true bad c = refl
answered-keeps-as x (phase.Requested s stamp) false bad c = (fail-follows x (remedy_after s) (slice_get x.members (bad_place x.members bad))).keeps c
answered-keeps-as x phase.Closed good bad c = refl
answered-keeps-as x (phase.Wanted s) good bad c = refl
answered-keeps-as x (phase.Stamped s stamp) good bad c = refl
answered-keeps-as x (phase.Accepted s stamp) good bad c = refl
answered-keeps-as x phase.Opened good bad c = refl
answered-keeps-as x (phase.Streaming sent) good bad c = refl
answered-keeps-as x phase.Closing good bad c = refl
answered-keeps-as x phase.Finished good bad c = refl
answered-keeps-as x phase.Completed good bad c = refl
answered-keeps-as x (phase.Failed f) good bad c = refl

pub answered-keeps : (x : WriterRecord) (r : Response) (bad : Option NodeId) → is_connected (setup_answered x r bad).phase ≡ true → (setup_answered x r bad).members ≡ x.members
unfolding setup_answered
answered-keeps x r bad c = answered-keeps-as x x.phase (is_success r.status) bad c

-- A writer whose dial wasn't answered isn't connected.
fail-unconnected : (x : WriterRecord) (r : Remedy) (o : Option NodeId) → (o ≡ None → ⊥) → is_connected (fail_named x r o).phase ≡ false
fail-unconnected x r None never = absurd (never refl)
fail-unconnected x remedy.Abandon (Some bad) never = refl
fail-unconnected x (remedy.Recover s) (Some bad) never = go (without x.members bad)
  where
    go : (ms : List NodeId) → is_connected (dropped x s bad ms).phase ≡ false
    go [] = refl
    go (m ∷ ms) = refl

pub dialled-gone : (x : WriterRecord) (s : Setup) (stamp : Stamp) → x.phase ≡ phase.Stamped s stamp → has_members x.members ≡ true → is_connected (dialled x false).phase ≡ false
unfolding dialled
dialled-gone x s stamp e some = go x.phase e
  where
    go : (p : Phase) → p ≡ phase.Stamped s stamp → is_connected (dialled_in x p false).phase ≡ false
    go (phase.Stamped t n) f = fail-unconnected x (remedy_after t) (slice_get x.members 0) (first-there x.members some)
    go phase.Closed f = cc
    go (phase.Wanted t) f = cc
    go (phase.Requested t n) f = cc
    go (phase.Accepted t n) f = cc
    go phase.Opened f = cc
    go (phase.Streaming n) f = cc
    go phase.Closing f = cc
    go phase.Finished f = cc
    go phase.Completed f = cc
    go (phase.Failed g) f = cc

-- nor is one that had members, once its connection has ended
pub ended-gone : (x : WriterRecord) → is_connected x.phase ≡ true → has_members x.members ≡ true → is_connected (ended x).phase ≡ false
unfolding ended
ended-gone x c some = go (remedy_in x.phase) c
  where
    go : (o : Option Remedy) → is_some o ≡ true → is_connected (ended_as x o).phase ≡ false
    go None e = cc
    go (Some r) e = fail-unconnected x r (slice_get x.members 0) (first-there x.members some)

-- One whose dial was awaits the answer of the same members.
pub dialled-asks : (y : WriterRecord) (t : Setup) (n : Stamp) → y.phase ≡ phase.Stamped t n → (dialled y true).phase ≡ phase.Requested t n
unfolding dialled
dialled-asks y t n f = rw f refl

pub dialled-keeps : (y : WriterRecord) → (dialled y true).members ≡ y.members
unfolding dialled
dialled-keeps y = keeps y.phase
  where
    keeps : (q : Phase) → (dialled_in y q true).members ≡ y.members
    keeps phase.Closed = refl
    keeps (phase.Wanted t) = refl
    keeps (phase.Stamped t n) = refl
    keeps (phase.Requested t n) = refl
    keeps (phase.Accepted t n) = refl
    keeps phase.Opened = refl
    keeps (phase.Streaming n) = refl
    keeps phase.Closing = refl
    keeps phase.Finished = refl
    keeps phase.Completed = refl
    keeps (phase.Failed f) = refl
