-- A request that was served at a book is served as the recovery's rules say, and its answer can be sent.
use Rattle.std.proofs.Common.{◌≡◌, ◌≤◌, inl, inr, ℕ, true, false, List, ◌∷◌, [], ◌++◌, length, slice_get, Some, Result, Ok, Err, refl, ap, ◌∙◌}
use Rattle.hd_base.specs.Wire.{IsStatus}
use Rattle.hd_base.specs.declared.files.Files as files
use Rattle.hd_base.specs.declared.links.LinkOut as link_out
use Rattle.hd_base.specs.declared.numbers.Receipt.{Receipt}
use Rattle.link_pieces.specs.Pieces.{SendsPiece}
use Rattle.proto_fields.specs.Frames.{limit}
use Rattle.op_headers.specs.declared.answers.RecoveryAnswer.{RecoveryAnswer}
use Rattle.op_headers.specs.Answers.{answer_format, answer_text, IsEncodable}
use Rattle.block_recovery.specs.RecoveryCore.RecoveryReply.{RecoveryReply}
use Rattle.block_recovery.specs.RecoveryCore.RecoveryReply.TheVariants as reply
use Rattle.block_recovery.specs.RecoveryCore.Members.{Served, served_as, serve_faulted, answer_of}
use Rattle.replica_core.specs.declared.events.Event.{Event}
use Rattle.block_recovery.specs.ReplicaModel.ReplicaEvent.{ReplicaEvent}
use Rattle.block_recovery.specs.ReplicaModel.ReplicaEvent.TheVariants as replica_event
use Rattle.block_recovery.specs.ReplicaModel.Rows.{row}
use Rattle.block_recovery.specs.ReplicaFiles.BookState.{BookState}
use Rattle.block_recovery.specs.ReplicaFiles.Books.{replica_of}
use Rattle.block_recovery.proofs.ReplicaFiles.BookLemmas.{noted}
use Rattle.block_recovery.specs.declared.serving.RecoveryServed.TheVariants as served
use Rattle.block_recovery.specs.Serving.{IsBooked, ServesAs}
use Rattle.block_recovery.specs.Telling.{SendsAnswer}
use Rattle.world_orders.specs.World.Parts.{Message, recovery_answer}
use Rattle.world_orders.specs.World.Worlds.{World}
use Rattle.member_events.specs.WorldTexts.Texts.{SpellsText}
use Rattle.member_events.specs.Texts.{SpellUp}
use Rattle.member_events.proofs.StepLaws.{spelled_within, fits_within, last_of}

-- THE BOOK

-- The book's replica is that of the rules, and so is the answer.
pub record IsServed {F : Type 0} (book' : BookState F) (s : Served) (answer : RecoveryAnswer) : Type 0 where
  pub answer_is : answer ≡ answer_of s.reply
  pub replica : replica_of book' ≡ s.replica

-- The same where a call on the replica's files failed.
pub record IsFailed {F : Type 0} (q : Result Event RecoveryReply) (book book' : BookState F) (answer : RecoveryAnswer) : Type 0 where
  pub booked : Event
  pub is : q ≡ Ok booked
  pub served : IsServed book' (serve_faulted (replica_of book)) answer

module _ {F : Type 0} (f : files.Ghosts F) where
  booked_row : (e : ReplicaEvent) (book book' : BookState F) (receipt : Receipt) → IsBooked f book book' e receipt → replica_of book' ≡ row (replica_of book) e
  booked_row e book book' receipt (inl b) = noted book book' e false receipt b.noted
  booked_row e book book' receipt (inr (why, b)) = noted book book' e false receipt b.noted

  pub answered_so : (q : Result Event RecoveryReply) (book book' : BookState F) (answer : RecoveryAnswer) (receipt : Receipt) → ServesAs f q book book' (served.Answered answer receipt) → IsServed book' (served_as (replica_of book) q) answer
  answered_so (Ok e) book book' answer receipt h = record { answer_is = h.0; replica = booked_row (replica_event.Other e) book book' receipt h.1 }
  answered_so (Err said) book book' answer receipt h = absurd h.1

  pub unbooked_so : (q : Result Event RecoveryReply) (book book' : BookState F) (answer : RecoveryAnswer) → ServesAs f q book book' (served.Unbooked answer) → IsServed book' (served_as (replica_of book) q) answer
  unbooked_so (Ok e) book book' answer h = absurd h
  unbooked_so (Err said) book book' answer h = record { answer_is = h.1; replica = ap (λ (y : BookState F). replica_of y) h.0 }

  pub failed_so : (q : Result Event RecoveryReply) (book book' : BookState F) (answer : RecoveryAnswer) (receipt : Receipt) → ServesAs f q book book' (served.File answer receipt) → IsFailed q book book' answer
  failed_so (Ok e) book book' answer receipt h = record {
    booked = e;
    is = refl;
    served = record { answer_is = h.0; replica = noted book book' (replica_event.Other e) true receipt h.1.noted };
  }
  failed_so (Err said) book book' answer receipt h = absurd h.1

-- THE ANSWER

status_listed : (said : RecoveryReply) → IsStatus (answer_of said).status
unfolding answer_of
status_listed (reply.Informed state stamp bytes) = tt
status_listed reply.Updated = tt
status_listed reply.NoOffice = tt
status_listed (reply.Refused why) = tt

answer_within : (a : RecoveryAnswer) → SpellsText (recovery_answer a) → length (answer_format.text a) ≤ limit
answer_within a h =
    let says : List ℕ → Type 0 = λ bytes. answer_format.says bytes (Ok a) in
    spelled_within (answer_format.text a) says h (fits_within (answer_format.text a) says h)

-- An answer that is spelled as it is written may be written.
pub answer_encodable : (said : RecoveryReply) → SpellsText (recovery_answer (answer_of said)) → IsEncodable (answer_of said)
answer_encodable said h = record { listed = status_listed said; within_limit = answer_within (answer_of said) h }

-- the last message that was sent up
pub last_spelled : (v : World) (c : ℕ) (before : List Message) (m : Message) → SpellUp v c → v.ups c ≡ before ++ m ∷ [] → SpellsText m
last_spelled v c before m spelled is = spelled (length before) m (ap (λ (ms : List Message). slice_get ms (length before)) is ∙ last_of before m)

pub sent_whole : {O : Type 0} (o : link_out.Ghosts O) (a : RecoveryAnswer) (old new : O) → IsEncodable a → SendsAnswer o (Some a) old new → SendsPiece o (answer_text a) old new
sent_whole o a old new can (inl h) = h
sent_whole o a old new can (inr h) = absurd (h.0 can)
