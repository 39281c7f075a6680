-- What an answer of the office makes of the writer that asked, and of the committed stamp.
use Rattle.std.proofs.Common.{◌≡◌, ℕ, Bool, true, false, List, [], ◌∷◌, Option, Some, None, Result, Ok, Err, refl, sym, ◌∙◌, subst, ◌⊎◌, inl, inr}
use Rattle.std.specs.Prelude.{slice_get, if◌then◌else◌, nat_le}
use Rattle.std.proofs.lemmas.Option.{none-some, same_Some}
use Rattle.std.specs.BTreeMap.{is_at}
use Rattle.hd_base.specs.declared.numbers.BlockId.{BlockId}
use Rattle.hd_base.specs.declared.numbers.NodeId.{NodeId}
use Rattle.hd_base.specs.declared.numbers.Stamp.{Stamp}
use Rattle.world.specs.PacketCodec.Packet.{Packet}
use Rattle.name_core.specs.declared.calls.OfficeAnswer.{OfficeAnswer}
use Rattle.name_core.specs.declared.calls.OfficeAnswer.TheVariants as office
use Rattle.name_core.specs.declared.calls.OfficeCall.{OfficeCall}
use Rattle.name_core.specs.declared.calls.OfficeCall.TheVariants as call
use Rattle.name_core.specs.declared.calls.Reopened.{Reopened}
use Rattle.name_core.specs.declared.faults.OfficeFault.{OfficeFault}
use Rattle.name_core.specs.declared.faults.OfficeFault.TheVariants as fault
use Rattle.name_core.specs.declared.records.BlockRecord.{BlockRecord}
use Rattle.name_core.specs.declared.records.TheConstants.{MAX_APPEND_LENGTH}
use Rattle.name_core.specs.Steps.{Step, state_after, reply}
use Rattle.name_core.specs.Records.{is_stamp, opened}
use Rattle.name_core.specs.Offices.{OfficeState, block_order, record_of, stamp_given, with_record, with_new_record, office_case}
use Rattle.name_core.proofs.BlockLemmas.{same_or_other, record_of-with_record_same, record_of-with_record_other, record_of-with_new_record_same, record_of-with_new_record_other}
use Rattle.name_core.proofs.CaseLemmas.{each_case}
use Rattle.world.specs.WriterCore.Action.{Action}
use Rattle.world.specs.WriterCore.Action.TheVariants as action
use Rattle.world.specs.WriterCore.Command.{Command}
use Rattle.world.specs.WriterCore.Command.TheVariants as command
use Rattle.world.specs.WriterCore.DuePacket.{DuePacket}
use Rattle.world.specs.WriterCore.DuePacket.TheVariants as due
use Rattle.world.specs.WriterCore.Failure.{Failure}
use Rattle.world.specs.WriterCore.Phase.{Phase}
use Rattle.world.specs.WriterCore.Phase.TheVariants as phase
use Rattle.world.specs.WriterCore.Setup.{Setup}
use Rattle.world.specs.WriterCore.Setup.TheVariants as setup
use Rattle.world.specs.WriterCore.Waiting.{Waiting}
use Rattle.world.specs.WriterCore.WriterRecord.{WriterRecord}
use Rattle.world.specs.WriterCore.Transitions.{take_first, free_step_as, failed_first, failed_command, failed_step_as, stamp_call, dial_step_as, accepted_step, form_step, reach_step_as, reached_length, due_step, due_now, stream_step_as, step_in, own_step, stamped, reopened, begin_session, committed_as, commit_given, complete_given, granted, granted_in, granted_as, refused, asks}
use Rattle.world.specs.WriterCore.Transitions as writer
use Rattle.world_laws.specs.Sessions.{IsCommitted}
use Rattle.world_laws.proofs.WriterSteps.{Same, same}

-- WHAT A WRITER ASKS

-- a pipeline that is set up again
abbrev pub IsAgain : Setup → Type 0
IsAgain setup.Create = ⊥
IsAgain setup.Append = ⊥
IsAgain _ = Unit {0}

-- a setup whose stamp is committed by a call of its own
abbrev pub IsLater : Setup → Type 0
IsLater setup.Create = ⊥
IsLater _ = Unit {0}

pub record AsksAgain (x : WriterRecord) (b : BlockId) : Type 0 where
  pub way : Setup
  pub at : x.phase ≡ phase.Wanted way
  pub again : IsAgain way
  pub block : b ≡ x.block

pub record AsksCommit (x : WriterRecord) (b : BlockId) (stamp : Stamp) : Type 0 where
  pub way : Setup
  pub at : x.phase ≡ phase.Accepted way stamp
  pub later : IsLater way
  pub block : b ≡ x.block

pub record AsksIn (x : WriterRecord) (p : Phase) (b : BlockId) : Type 0 where
  pub at : x.phase ≡ p
  pub block : b ≡ x.block

-- in which phase a writer asks this, of its own block
abbrev pub AsksAs : WriterRecord → OfficeCall → Type 0
AsksAs x (call.Create b members) = AsksIn x (phase.Wanted setup.Create) b
AsksAs x (call.Append b) = AsksIn x (phase.Wanted setup.Append) b
AsksAs x (call.NewStamp b) = AsksAgain x b
AsksAs x (call.Commit b stamp members) = AsksCommit x b stamp
AsksAs x (call.Complete b stamp bytes) = AsksIn x phase.Finished b
AsksAs x (call.BeginRecovery b) = ⊥
AsksAs x (call.CommitSync b id bytes members) = ⊥

-- an action that is no question, or one that the writer asks so
abbrev pub Asking : WriterRecord → Action → Type 0
Asking x (action.Ask c) = AsksAs x c
Asking x _ = Unit {0}

first-asking : (x : WriterRecord) (o : Option Command) → Asking x (take_first x o).action
first-asking x None = tt
first-asking x (Some c) = tt

free-asking : (x : WriterRecord) (o : Option Waiting) → Asking x (free_step_as x o).action
free-asking x None = first-asking x (slice_get x.queue 0)
free-asking x (Some y) = tt

failed-command-asking : (x : WriterRecord) (f : Failure) (c : Command) → Asking x (failed_command x f c).action
failed-command-asking x f (command.Create members) = tt
failed-command-asking x f (command.Append members) = tt
failed-command-asking x f (command.Write bytes) = tt
failed-command-asking x f (command.Fill count) = tt
failed-command-asking x f command.Hflush = tt
failed-command-asking x f command.Hsync = tt
failed-command-asking x f command.Close = tt

failed-first-asking : (x : WriterRecord) (f : Failure) (o : Option Command) → Asking x (failed_first x f o).action
failed-first-asking x f None = tt
failed-first-asking x f (Some c) = failed-command-asking x f c

failed-asking : (x : WriterRecord) (f : Failure) (o : Option Waiting) → Asking x (failed_step_as x f o).action
failed-asking x f None = failed-first-asking x f (slice_get x.queue 0)
failed-asking x f (Some y) = tt

dial-asking : (x : WriterRecord) (s : Setup) (stamp : Stamp) (ms : List NodeId) → Asking x (dial_step_as x s stamp ms).action
dial-asking x s stamp [] = tt
dial-asking x s stamp (m ∷ ms) = tt

wanted-asking : (x : WriterRecord) (s : Setup) → x.phase ≡ phase.Wanted s → AsksAs x (stamp_call x s)
wanted-asking x setup.Create e = record { at = e; block = refl }
wanted-asking x setup.Append e = record { at = e; block = refl }
wanted-asking x setup.AppendRecovery e = record { way = setup.AppendRecovery; at = e; again = tt; block = refl }
wanted-asking x setup.StreamRecovery e = record { way = setup.StreamRecovery; at = e; again = tt; block = refl }
wanted-asking x setup.CloseRecovery e = record { way = setup.CloseRecovery; at = e; again = tt; block = refl }

accepted-asking : (x : WriterRecord) (s : Setup) (stamp : Stamp) → x.phase ≡ phase.Accepted s stamp → Asking x (accepted_step x s stamp).action
accepted-asking x setup.Create stamp e = tt
accepted-asking x setup.Append stamp e = record { way = setup.Append; at = e; later = tt; block = refl }
accepted-asking x setup.AppendRecovery stamp e = record { way = setup.AppendRecovery; at = e; later = tt; block = refl }
accepted-asking x setup.StreamRecovery stamp e = record { way = setup.StreamRecovery; at = e; later = tt; block = refl }
accepted-asking x setup.CloseRecovery stamp e = record { way = setup.CloseRecovery; at = e; later = tt; block = refl }

form-asking : (x : WriterRecord) (d : DuePacket) → Asking x (form_step x d).action
form-asking x (due.Data end s) = tt
form-asking x due.Sync = tt
form-asking x due.Last = tt

reach-asking : (x : WriterRecord) (o : Option ℕ) → Asking x (reach_step_as x o).action
reach-asking x None = free-asking x x.waiting
reach-asking x (Some n) = tt

due-asking : (x : WriterRecord) (o : Option DuePacket) → Asking x (due_step x o).action
due-asking x None = reach-asking x (reached_length x.waiting x.stream)
due-asking x (Some d) = form-asking x d

stream-asking : (x : WriterRecord) (sent : ℕ) (o : Option Packet) → Asking x (stream_step_as x sent o).action
stream-asking x sent None = due-asking x (due_now x)
stream-asking x sent (Some p) = tt

step-asking : (x : WriterRecord) (p : Phase) → x.phase ≡ p → Asking x (step_in x p).action
step-asking x phase.Closed e = free-asking x x.waiting
step-asking x (phase.Wanted s) e = wanted-asking x s e
step-asking x (phase.Stamped s stamp) e = dial-asking x s stamp x.members
step-asking x (phase.Requested s stamp) e = free-asking x x.waiting
step-asking x (phase.Accepted s stamp) e = accepted-asking x s stamp e
step-asking x phase.Opened e = tt
step-asking x (phase.Streaming sent) e = stream-asking x sent (slice_get x.stream.unacked sent)
step-asking x phase.Closing e = free-asking x x.waiting
step-asking x phase.Finished e = record { at = e; block = refl }
step-asking x phase.Completed e = tt
step-asking x (phase.Failed f) e = failed-asking x f x.waiting

pub own-step-asking : (x : WriterRecord) → Asking x (own_step x).action
unfolding own_step
own-step-asking x = step-asking x x.phase refl

-- WHAT IT MAKES OF THE ANSWER

refused-same : (x : WriterRecord) (e : OfficeFault) → Same x (refused x e)
refused-same x fault.Known = record { block = refl; committed = refl }
refused-same x fault.Unknown = record { block = refl; committed = refl }
refused-same x fault.NotOpen = record { block = refl; committed = refl }
refused-same x fault.NotClosed = record { block = refl; committed = refl }
refused-same x (fault.LeaseLost recovery) = record { block = refl; committed = refl }
refused-same x (fault.OldStamp committed) = record { block = refl; committed = refl }
refused-same x (fault.OldRecovery latest) = record { block = refl; committed = refl }
refused-same x (fault.TooLong bytes) = record { block = refl; committed = refl }
refused-same x fault.Memory = same x

refused-as-same : (x : WriterRecord) (e : OfficeFault) (b : Bool) → Same x (if b then refused x e else x)
refused-as-same x e true = refused-same x e
refused-as-same x e false = same x

refusal-committed : (x : WriterRecord) (e : OfficeFault) → (granted x (Err e)).committed ≡ x.committed
unfolding granted
refusal-committed x e = (refused-as-same x e (asks x.phase)).committed

created-committed : (x : WriterRecord) (p : Phase) (s : Stamp) → p ≡ phase.Wanted setup.Create → (granted_in x p (office.Stamp s)).committed ≡ s
created-committed x p s e = rw e refl

reopened-committed : (x : WriterRecord) (p : Phase) (r : Reopened) → p ≡ phase.Wanted setup.Append → nat_le r.length MAX_APPEND_LENGTH ≡ true
    → (granted_in x p (office.Reopened r)).committed ≡ r.committed
reopened-committed x p r e h = rw e (rw h refl)

again-committed : (x : WriterRecord) (p : Phase) (s : Stamp) (way : Setup) → p ≡ phase.Wanted way → IsAgain way
    → (granted_in x p (office.Stamp s)).committed ≡ x.committed
again-committed x p s setup.Create e a = absurd a
again-committed x p s setup.Append e a = absurd a
again-committed x p s setup.AppendRecovery e a = rw e refl
again-committed x p s setup.StreamRecovery e a = rw e refl
again-committed x p s setup.CloseRecovery e a = rw e refl

commit-committed : (x : WriterRecord) (p : Phase) (s : Stamp) (way : Setup) → p ≡ phase.Accepted way s → IsLater way
    → (granted_in x p office.Nothing).committed ≡ s
commit-committed x p s setup.Create e a = absurd a
commit-committed x p s setup.Append e a = rw e refl
commit-committed x p s setup.AppendRecovery e a = rw e refl
commit-committed x p s setup.StreamRecovery e a = rw e refl
commit-committed x p s setup.CloseRecovery e a = rw e refl

complete-committed : (x : WriterRecord) (p : Phase) → p ≡ phase.Finished → (granted_in x p office.Nothing).committed ≡ x.committed
complete-committed x p e = rw e refl

-- ITS BLOCK

stamped-block : (x : WriterRecord) (s : Setup) (stamp : Stamp) → (stamped x s stamp).block ≡ x.block
stamped-block x setup.Create stamp = refl
stamped-block x setup.Append stamp = refl
stamped-block x setup.AppendRecovery stamp = refl
stamped-block x setup.StreamRecovery stamp = refl
stamped-block x setup.CloseRecovery stamp = refl

back-block : (x : WriterRecord) (r : Reopened) (b : Bool)
    → (if b then record (begin_session x r.committed r.length) { phase = phase.Stamped setup.Append r.new } else x).block ≡ x.block
back-block x r true = refl
back-block x r false = refl

reopened-block : (x : WriterRecord) (s : Setup) (r : Reopened) → (reopened x s r).block ≡ x.block
reopened-block x setup.Create r = refl
reopened-block x setup.Append r = back-block x r (nat_le r.length MAX_APPEND_LENGTH)
reopened-block x setup.AppendRecovery r = refl
reopened-block x setup.StreamRecovery r = refl
reopened-block x setup.CloseRecovery r = refl

wanted-block : (x : WriterRecord) (s : Setup) (a : OfficeAnswer) → (writer.stamp_given x s a).block ≡ x.block
wanted-block x s (office.Stamp stamp) = stamped-block x s stamp
wanted-block x s (office.Reopened r) = reopened-block x s r
wanted-block x s (office.Begun b) = refl
wanted-block x s office.Nothing = refl

committed-block : (x : WriterRecord) (s : Setup) (stamp : Stamp) → (committed_as x s stamp).block ≡ x.block
committed-block x setup.Create stamp = refl
committed-block x setup.Append stamp = refl
committed-block x setup.AppendRecovery stamp = refl
committed-block x setup.StreamRecovery stamp = refl
committed-block x setup.CloseRecovery stamp = refl

commit-block : (x : WriterRecord) (s : Setup) (stamp : Stamp) (a : OfficeAnswer) → (commit_given x s stamp a).block ≡ x.block
commit-block x s stamp (office.Stamp t) = refl
commit-block x s stamp (office.Reopened r) = refl
commit-block x s stamp (office.Begun b) = refl
commit-block x s stamp office.Nothing = committed-block x s stamp

complete-block : (x : WriterRecord) (a : OfficeAnswer) → (complete_given x a).block ≡ x.block
complete-block x (office.Stamp t) = refl
complete-block x (office.Reopened r) = refl
complete-block x (office.Begun b) = refl
complete-block x office.Nothing = refl

granted-in-block : (x : WriterRecord) (p : Phase) (a : OfficeAnswer) → (granted_in x p a).block ≡ x.block
granted-in-block x (phase.Wanted s) a = wanted-block x s a
granted-in-block x (phase.Accepted s stamp) a = commit-block x s stamp a
granted-in-block x phase.Finished a = complete-block x a
granted-in-block x phase.Closed a = refl
granted-in-block x (phase.Stamped s stamp) a = refl
granted-in-block x (phase.Requested s stamp) a = refl
granted-in-block x phase.Opened a = refl
granted-in-block x (phase.Streaming sent) a = refl
granted-in-block x phase.Closing a = refl
granted-in-block x phase.Completed a = refl
granted-in-block x (phase.Failed f) a = refl

granted-as-block : (x : WriterRecord) (r : Result OfficeAnswer OfficeFault) → (granted_as x r).block ≡ x.block
granted-as-block x (Ok a) = granted-in-block x x.phase a
granted-as-block x (Err e) = (refused-as-same x e (asks x.phase)).block

pub granted-block : (x : WriterRecord) (r : Result OfficeAnswer OfficeFault) → (granted x r).block ≡ x.block
unfolding granted
granted-block x r = granted-as-block x r

-- THE COMMITTED STAMP

-- the record of a block is just this one
committed-by : (o : OfficeState) (b : BlockId) (r : BlockRecord) (s : Stamp) → record_of o b ≡ Some r → (r.recovery ≡ None → s ≡ r.committed) → IsCommitted o b s
committed-by o b r s is h = λ k e lease.
    let same_record : r ≡ k = same_Some r k (sym is ∙ e) in
    subst (λ (y : BlockRecord). y.recovery ≡ None → s ≡ y.committed) same_record h lease

-- what the office and the writer make of a call that the writer asks
abbrev pub Answering : OfficeState → OfficeCall → Step OfficeState OfficeAnswer → Type 0
Answering o c step = (x : WriterRecord) → AsksAs x c → IsCommitted o x.block x.committed
    → IsCommitted (state_after o step) x.block (granted x (reply step)).committed

-- the committed stamp of a block that has become known, or whose record has changed
new-committed : (from : OfficeState) (block q : BlockId) (k : BlockRecord) (s : Stamp) → block ≡ q → (k.recovery ≡ None → s ≡ k.committed)
    → IsCommitted (with_new_record from block k) q s
new-committed from block q k s e h =
    committed-by (with_new_record from block k) q k s
    (subst (λ (b : BlockId). record_of (with_new_record from block k) b ≡ Some k) e (record_of-with_new_record_same from block k)) h

known-committed : (from : OfficeState) (block q : BlockId) (r k : BlockRecord) (s : Stamp) → record_of from block ≡ Some r → block ≡ q
    → (k.recovery ≡ None → s ≡ k.committed) → IsCommitted (with_record from block k) q s
known-committed from block q r k s is e h =
    committed-by (with_record from block k) q k s
    (subst (λ (b : BlockId). record_of (with_record from block k) b ≡ Some k) e (record_of-with_record_same from block r k is)) h

-- what was committed before, for the block of a call
held-before : (o : OfficeState) (block q : BlockId) (r : BlockRecord) (s : Stamp) → IsCommitted o q s → record_of o block ≡ Some r → block ≡ q → r.recovery ≡ None → s ≡ r.committed
held-before o block q r s h is e lease = h r (subst (λ (b : BlockId). record_of o b ≡ Some r) e is) lease

pub answering : (o : OfficeState) (c : OfficeCall) → Answering o c (office_case o c)
unfolding granted
answering o c = each_case o (Answering o) (record {
  refused = λ d e. λ x a h. subst (λ (s : Stamp). IsCommitted o x.block s) (sym (refusal-committed x e)) h;
  created = λ block members none. λ x a h.
      new-committed (stamp_given o) block x.block (opened members o.next) (granted x (Ok (office.Stamp o.next))).committed a.block
      (λ _. created-committed x x.phase o.next a.at);
  appended = λ block r is shut short. λ x a h.
      let back : Reopened = record { committed = r.committed; length = r.length; new = o.next } in
      known-committed (stamp_given o) block x.block r (record r { is_open = true; recovery = None }) (granted x (Ok (office.Reopened back))).committed is a.block
      (λ _. reopened-committed x x.phase back a.at short);
  stamped = λ block r is writers. λ x a h.
      known-committed (stamp_given o) block x.block r r (granted x (Ok (office.Stamp o.next))).committed is a.block
      (λ lease. again-committed x x.phase o.next a.way a.at a.again ∙ held-before o block x.block r x.committed h is a.block lease);
  committed = λ block stamp members r is writers new. λ x a h.
      known-committed o block x.block r (record r { committed = stamp; members = members }) (granted x (Ok office.Nothing)).committed is a.block
      (λ _. commit-committed x x.phase stamp a.way a.at a.later);
  completed = λ block stamp bytes r is writers new. λ x a h.
      known-committed o block x.block r (record r { is_open = false; length = bytes }) (granted x (Ok office.Nothing)).committed is a.block
      (λ lease. complete-committed x x.phase a.at ∙ held-before o block x.block r x.committed h is a.block lease);
  begun = λ block r is is_open. λ x a h. absurd a;
  synced = λ block id bytes members r is is_open latest. λ x a h. absurd a;
}) c

-- OTHER BLOCKS

-- the block of a call
abbrev pub block_in : OfficeCall → BlockId
block_in (call.Create b members) = b
block_in (call.Append b) = b
block_in (call.NewStamp b) = b
block_in (call.Commit b stamp members) = b
block_in (call.Complete b stamp bytes) = b
block_in (call.BeginRecovery b) = b
block_in (call.CommitSync b id bytes members) = b

-- another block than that of the call
abbrev pub IsOther : OfficeCall → BlockId → Type 0
IsOther c q = is_at (block_order q) (block_in c) ≡ false

abbrev pub KeepsOther : OfficeState → OfficeCall → Step OfficeState OfficeAnswer → Type 0
KeepsOther o c step = (q : BlockId) → IsOther c q → record_of (state_after o step) q ≡ record_of o q

pub keeps-other : (o : OfficeState) (c : OfficeCall) → KeepsOther o c (office_case o c)
keeps-other o c = each_case o (KeepsOther o) (record {
  refused = λ d e. λ q other. refl;
  created = λ block members none. λ q other. record_of-with_new_record_other (stamp_given o) block q (opened members o.next) other;
  appended = λ block r is shut short. λ q other. record_of-with_record_other (stamp_given o) block q (record r { is_open = true; recovery = None }) other;
  stamped = λ block r is writers. λ q other. record_of-with_record_other (stamp_given o) block q r other;
  committed = λ block stamp members r is writers new. λ q other. record_of-with_record_other o block q (record r { committed = stamp; members = members }) other;
  completed = λ block stamp bytes r is writers new. λ q other. record_of-with_record_other o block q (record r { is_open = false; length = bytes }) other;
  begun = λ block r is is_open. λ q other. record_of-with_record_other (stamp_given o) block q (record r { recovery = Some o.next }) other;
  synced = λ block id bytes members r is is_open latest. λ q other.
      record_of-with_record_other o block q (record r { is_open = false; committed = id; members = members; length = bytes }) other;
}) c

pub asks-block : (x : WriterRecord) (c : OfficeCall) → AsksAs x c → block_in c ≡ x.block
asks-block x (call.Create b members) a = a.block
asks-block x (call.Append b) a = a.block
asks-block x (call.NewStamp b) a = a.block
asks-block x (call.Commit b stamp members) a = a.block
asks-block x (call.Complete b stamp bytes) a = a.block
asks-block x (call.BeginRecovery b) a = absurd a
asks-block x (call.CommitSync b id bytes members) a = absurd a

-- WHAT A PRIMARY ASKS

abbrev pub IsPrimarys : OfficeCall → Type 0
IsPrimarys (call.BeginRecovery b) = Unit {0}
IsPrimarys (call.CommitSync b id bytes members) = Unit {0}
IsPrimarys _ = ⊥

-- where the record of a block changes to one that is under a recovery, nothing more is said of it
under-recovery : (o from : OfficeState) (block q : BlockId) (r k : BlockRecord) (s : Stamp) → record_of from block ≡ Some r → (k.recovery ≡ None → ⊥)
    → ((p : BlockId) → record_of from p ≡ record_of o p) → IsCommitted o q s → IsCommitted (with_record from block k) q s
under-recovery o from block q r k s is under alike h = go (same_or_other block q)
  where
    go : ((block ≡ q) ⊎ (is_at (block_order q) block ≡ false)) → IsCommitted (with_record from block k) q s
    go (inl e) = committed-by (with_record from block k) q k s
        (subst (λ (b : BlockId). record_of (with_record from block k) b ≡ Some k) e (record_of-with_record_same from block r k is)) (λ lease. absurd (under lease))
    go (inr other) = λ y e lease. h y (sym (record_of-with_record_other from block q k other ∙ alike q) ∙ e) lease

held : (o : Option Stamp) (id : Stamp) → is_stamp o id ≡ true → o ≡ None → ⊥
held None id e f = cc
held (Some s) id e f = cc

abbrev pub Leaving : OfficeState → OfficeCall → Step OfficeState OfficeAnswer → Type 0
Leaving o c step = IsPrimarys c → (q : BlockId) (s : Stamp) → IsCommitted o q s → IsCommitted (state_after o step) q s

pub leaving : (o : OfficeState) (c : OfficeCall) → Leaving o c (office_case o c)
leaving o c = each_case o (Leaving o) (record {
  refused = λ d e. λ p q s h. h;
  created = λ block members none. λ p q s h. absurd p;
  appended = λ block r is shut short. λ p q s h. absurd p;
  stamped = λ block r is writers. λ p q s h. absurd p;
  committed = λ block stamp members r is writers new. λ p q s h. absurd p;
  completed = λ block stamp bytes r is writers new. λ p q s h. absurd p;
  begun = λ block r is is_open. λ p q s h. under-recovery o (stamp_given o) block q r (record r { recovery = Some o.next }) s is (λ e. none-some o.next (sym e)) (λ _. refl) h;
  synced = λ block id bytes members r is is_open latest. λ p q s h.
      under-recovery o o block q r (record r { is_open = false; committed = id; members = members; length = bytes }) s is (held r.recovery id latest) (λ _. refl) h;
}) c
