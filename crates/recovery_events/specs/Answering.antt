-- How a request of a recovery is answered, and what follows what an end has taken.
use Rattle.std.specs.Prelude.{◌≡◌, false, Option, Some, None, Result, Ok, Err}
use Rattle.hd_base.specs.declared.ends.Conn.{Conn}
use Rattle.hd_base.specs.declared.files.Files as files
use Rattle.hd_base.specs.declared.links.LinkIn as link_in
use Rattle.hd_base.specs.declared.links.LinkOut as link_out
use Rattle.hd_base.specs.declared.roads.Roads as roads
use Rattle.link_pieces.specs.Roads.{ExchangesEnd, BringsEnd}
use Rattle.op_headers.specs.declared.ops.RecoveryOp.{RecoveryOp}
use Rattle.block_recovery.specs.ReplicaFiles.BookState.{BookState}
use Rattle.block_recovery.specs.declared.serving.RecoveryServed.{RecoveryServed}
use Rattle.block_recovery.specs.declared.taking.RecoveryCame.{RecoveryCame}
use Rattle.block_recovery.specs.declared.taking.RecoveryCame.TheVariants as came
use Rattle.block_recovery.specs.Serving.{Serves}
use Rattle.block_recovery.specs.Telling.{answer_in, SendsAnswer}
use Rattle.recovery_events.specs.declared.answering.Outcome.{Outcome}
use Rattle.recovery_events.specs.declared.answering.Outcome.TheVariants as ended
use Rattle.recovery_events.specs.declared.answering.Recovering.{Recovering}
use Rattle.recovery_events.specs.declared.faults.RecoveryFault.{RecoveryFault}
use Rattle.recovery_events.specs.declared.faults.RecoveryFault.TheVariants as fault
use Rattle.recovery_events.specs.Ends.{IsBroken}
use Rattle.recovery_events.specs.Faults.{IsRoadFault, IsCause}
use Rattle.recovery_events.specs.Outcomes.{outcome_of, going_on}

-- AN ANSWER

-- the end, on whose outward half something was sent
abbrev pub with_outward : {I O : Type 0} → Conn I O → O → Conn I O
with_outward end half = record { id = end.id; lower = end.lower; inward = end.inward; outward = half }

-- The end was exchanged, and is left by how the request was served.
pub record HandsBackBy {R I O : Type 0} (r : roads.Ghosts R I O) (i : link_in.Ghosts I) (o : link_out.Ghosts O)
    (s : RecoveryServed) (old : Recovering I O) (road road' : R) (made : Outcome (Recovering I O)) : Type 0 where
  pub new : Conn I O
  pub is : made ≡ outcome_of s (record { end = new; incoming = old.incoming })
  pub exchanges : ExchangesEnd r i o false old.end new road road' (Ok tt)

abbrev pub HandsBack : {R I O : Type 0} → roads.Ghosts R I O → link_in.Ghosts I → link_out.Ghosts O → RecoveryServed →
    Recovering I O → R → R → Result (Outcome (Recovering I O)) RecoveryFault → Type 0
HandsBack r i o s old road road' (Ok made) = HandsBackBy r i o s old road road' made
HandsBack r i o s old road road' (Err why) = IsRoadFault (r.faults road) (r.faults road') why

-- The request was served, its answer was sent, and the end was exchanged.
pub record AnswersBy {F R I O : Type 0} (f : files.Ghosts F) (r : roads.Ghosts R I O) (i : link_in.Ghosts I)
    (o : link_out.Ghosts O) (op : RecoveryOp) (old : Recovering I O) (book book' : BookState F) (road road' : R)
    (made : Outcome (Recovering I O)) : Type 0 where
  pub served : RecoveryServed
  pub serves : Serves f op book book' served
  pub half : O
  pub sends : SendsAnswer o (answer_in served) old.end.outward half
  pub hands_back : HandsBackBy r i o served (record { end = with_outward old.end half; incoming = old.incoming })
      road road' made

-- Or it has failed, and the fault has its cause.
abbrev pub Answers : {F R I O : Type 0} → files.Ghosts F → roads.Ghosts R I O → link_in.Ghosts I → link_out.Ghosts O →
    RecoveryOp → Recovering I O → BookState F → BookState F → R → R →
    Result (Outcome (Recovering I O)) RecoveryFault → Type 0
Answers f r i o op old book book' road road' (Ok made) = AnswersBy f r i o op old book book' road road' made
Answers f r i o op old book book' road road' (Err why) = IsCause r old.end.id.0 road road' why

-- WHAT FOLLOWS

-- An end that was shut is brought back, or memory ran out.
abbrev pub IsEnded : {R I O : Type 0} → roads.Ghosts R I O → link_in.Ghosts I → link_out.Ghosts O → Conn I O → R → R →
    Result (Outcome (Option (Recovering I O))) RecoveryFault → Type 0
IsEnded r i o at_end road road' (Ok (ended.Done None)) = BringsEnd r i o at_end road road' (Ok tt)
IsEnded r i o at_end road road' (Ok other) = ⊥
IsEnded r i o at_end road road' (Err why) = why ≡ fault.Memory

-- It has failed so.
abbrev pub FailsBy : {T : Type 0} → (RecoveryFault → Type 0) → Result T RecoveryFault → Type 0
FailsBy P (Ok made) = ⊥
FailsBy P (Err why) = P why

-- A request was answered, and the end goes on.
pub record GoesOn {F R I O : Type 0} (f : files.Ghosts F) (r : roads.Ghosts R I O) (i : link_in.Ghosts I)
    (o : link_out.Ghosts O) (op : RecoveryOp) (old : Recovering I O) (book book' : BookState F) (road road' : R)
    (made : Outcome (Option (Recovering I O))) : Type 0 where
  pub first : Outcome (Recovering I O)
  pub answers : AnswersBy f r i o op old book book' road road' first
  pub is : made ≡ going_on first

abbrev pub FollowsAsked : {F R I O : Type 0} → files.Ghosts F → roads.Ghosts R I O → link_in.Ghosts I →
    link_out.Ghosts O → RecoveryOp → Recovering I O → BookState F → BookState F → R → R →
    Result (Outcome (Option (Recovering I O))) RecoveryFault → Type 0
FollowsAsked f r i o op old book book' road road' (Ok made) = GoesOn f r i o op old book book' road road' made
FollowsAsked f r i o op old book book' road road' (Err why) = IsCause r old.end.id.0 road road' why

-- What follows where no request was taken.
abbrev pub FollowsOther : {R I O : Type 0} → roads.Ghosts R I O → link_in.Ghosts I → link_out.Ghosts O →
    RecoveryCame → Recovering I O → R → R → Result (Outcome (Option (Recovering I O))) RecoveryFault → Type 0
FollowsOther r i o (came.Asked op) old road road' result = ⊥
FollowsOther r i o came.Over old road road' result = IsEnded r i o old.end road road' result
FollowsOther r i o came.NotYet old road road' result = (road' ≡ road) × (result ≡ Ok (ended.Done (Some old)))
FollowsOther r i o came.LinkFailed old road road' result = FailsBy (IsBroken r i o old.end road road') result
FollowsOther r i o came.Memory old road road' result = result ≡ Err fault.Memory

-- What follows what an end has taken; where that is no request, the book stays.
abbrev pub FollowsCame : {F R I O : Type 0} → files.Ghosts F → roads.Ghosts R I O → link_in.Ghosts I →
    link_out.Ghosts O → RecoveryCame → Recovering I O → BookState F → BookState F → R → R →
    Result (Outcome (Option (Recovering I O))) RecoveryFault → Type 0
FollowsCame f r i o (came.Asked op) old book book' road road' result =
    FollowsAsked f r i o op old book book' road road' result
FollowsCame f r i o other old book book' road road' result =
    (book' ≡ book) × FollowsOther r i o other old road road' result
