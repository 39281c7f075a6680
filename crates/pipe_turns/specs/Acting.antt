-- A turn of a member over its two connections.
use Rattle.std.specs.Prelude.{◌≡◌, ◌≤◌, ℕ, nat_le, if◌then◌else◌, Bool, true, false, List, length, Option, Some, None}
use Rattle.hd_base.specs.Wire.{IsStatus}
use Rattle.hd_base.specs.declared.ends.Conn.{Conn}
use Rattle.hd_base.specs.declared.files.Files as files
use Rattle.hd_base.specs.declared.links.LinkOut as link_out
use Rattle.hd_base.specs.Faults.{KeepsSchedule}
use Rattle.block_receiver.specs.ProtoFields.Frames.{limit}
use Rattle.block_receiver.specs.AckCodec.AckTexts.{ack_text}
use Rattle.block_receiver.specs.AckCodec.ResponseTexts.{response_message, response_text}
use Rattle.block_receiver.specs.AckCodec.Response.{Response}
use Rattle.block_receiver.specs.OpHeaders.Values.{WriteFields}
use Rattle.block_receiver.specs.ReplicaFiles.BookState.{BookState}
use Rattle.block_receiver.specs.MemberCore.SetupAnswer.{SetupAnswer}
use Rattle.block_receiver.specs.MemberCore.Shuts.{Shuts}
use Rattle.block_receiver.specs.MemberCore.Shuts.TheVariants as shuts
use Rattle.block_receiver.specs.MemberCore.Upward.{Upward}
use Rattle.block_receiver.specs.MemberCore.Upward.TheVariants as upward
use Rattle.block_receiver.specs.MemberCore.Booked.{Booked}
use Rattle.block_receiver.specs.MemberCore.Booked.TheVariants as booked
use Rattle.block_receiver.specs.MemberCore.Turn.{Turn}
use Rattle.block_receiver.specs.MemberCore.Members.{MemberState, settled}
use Rattle.block_receiver.specs.MemberCore.Requests.{response_of}
use Rattle.pipe_turns.specs.Turning.{Performs}
use Rattle.pipe_turns.specs.declared.turning.Done.{Done}
use Rattle.pipe_turns.specs.declared.turning.Done.TheVariants as done

-- a response that tells of no sums, with a status that has its own name
pub record IsPlain (r : Response) : Type 0 where
  pub listed : IsStatus r.status
  pub no_sums : r.sums_from ≡ None

-- a response as it is written, where its message is within the limit
abbrev pub sized_response : Response → Option (List ℕ)
sized_response r = if nat_le (length (response_message r)) limit then Some (response_text r) else None

abbrev pub answer_text : WriteFields → SetupAnswer → Option (List ℕ)
answer_text op answer = sized_response (response_of op answer)

-- What goes up, as it is written, if something does.
abbrev pub texts_of : WriteFields → Option Upward → Option (List ℕ)
texts_of op None = None
texts_of op (Some (upward.Ack a)) = Some (ack_text a)
texts_of op (Some (upward.Answer answer)) = answer_text op answer

-- how the member's rules are told that the call was taken; nothing where memory ran out
abbrev pub booked_of : Done → Option Booked
booked_of (done.Taken receipt) = Some booked.Taken
booked_of (done.MirrorFailed receipt) = Some booked.Taken
booked_of (done.LinkFailed receipt) = Some booked.Taken
booked_of (done.Refused refusal receipt) = Some (booked.Refused refusal)
booked_of (done.File receipt) = Some booked.Failed
booked_of done.Memory = None

abbrev pub shuts_up : Shuts → Bool
shuts_up shuts.Both = true
shuts_up other = false

abbrev pub shuts_below : Shuts → Bool
shuts_below shuts.Nothing = false
shuts_below other = true

-- An outward half is shut, and else as before.
pub record ShutsHalf {O : Type 0} (o : link_out.Ghosts O) (old new : O) : Type 0 where
  pub shut : o.shut new ≡ true
  pub sent : o.sent new ≡ o.sent old
  pub flushed : o.flushed new ≡ o.flushed old
  pub lost : o.lost new ≡ o.lost old
  pub never_falls : o.faults old ≤ o.faults new
  pub schedule : KeepsSchedule (o.schedule old) (o.schedule new) (o.faults old) (o.faults new)

-- An end is shut by its outward half.
pub record ShutsBy {I O : Type 0} (o : link_out.Ghosts O) (old new : Conn I O) : Type 0 where
  pub id : new.id ≡ old.id
  pub lower : new.lower ≡ old.lower
  pub inward : new.inward ≡ old.inward
  pub half : ShutsHalf o old.outward new.outward

-- An end is shut, or stays.
abbrev pub ShutsEnd : {I O : Type 0} → link_out.Ghosts O → Bool → Conn I O → Conn I O → Type 0
ShutsEnd o true old new = ShutsBy o old new
ShutsEnd o false old new = new ≡ old

-- The end to the mirror, if there is one, is shut or stays.
abbrev pub ShutsMirror : {I O : Type 0} → link_out.Ghosts O → Bool → Option (Conn I O) → Option (Conn I O) → Type 0
ShutsMirror o closes None None = Unit {0}
ShutsMirror o closes (Some old) (Some new) = ShutsEnd o closes old new
ShutsMirror o closes old new = ⊥

-- the end upstream, on whose outward half something was sent
abbrev pub with_half : {I O : Type 0} → Conn I O → O → Conn I O
with_half end half = record { id = end.id; lower = end.lower; inward = end.inward; outward = half }

-- What follows: the member settles the turn, and shuts what that says; where memory ran out nothing does.
abbrev pub FollowsAs : {I O : Type 0} → link_out.Ghosts O → Turn → MemberState → MemberState → Conn I O → Conn I O →
    Option (Conn I O) → Option (Conn I O) → Shuts → Option Booked → Type 0
FollowsAs o t m m' up up' below below' s None = (m' ≡ m) × (up' ≡ up) × (below' ≡ below) × (s ≡ shuts.Nothing)
FollowsAs o t m m' up up' below below' s (Some b) =
    (m' ≡ (settled m t b).0) × (s ≡ (settled m t b).1.shuts) × ShutsEnd o (shuts_up s) up up' ×
    ShutsMirror o (shuts_below s) below below'

-- What a turn does: its call on the book and what is sent then, and what follows.
pub record Acts {F I O : Type 0} (f : files.Ghosts F) (o : link_out.Ghosts O) (op : WriteFields) (t : Turn)
    (m m' : MemberState) (book book' : BookState F) (up up' : Conn I O) (below below' : Option (Conn I O))
    (result : Done × Shuts) : Type 0 where
  pub sent : O
  pub passed : Option (Conn I O)
  pub performed : Performs f o t.call (texts_of op t.effect.sends) book book' up.outward sent below passed result.0
  pub followed : FollowsAs o t m m' (with_half up sent) up' passed below' result.1 (booked_of result.0)
