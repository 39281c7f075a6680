-- A read that sends its request, and how its end is accepted below.
use Rattle.std.proofs.Common.{◌≡◌, ℕ, true, false, List, Option, Some, None, Result, Ok, Err, inl, inr, sym, ap, ◌∙◌, subst}
use Rattle.std.specs.Global.{Vec}
use Rattle.hd_base.specs.Ends.{has_failed}
use Rattle.hd_base.specs.declared.ends.Conn.{Conn}
use Rattle.hd_base.specs.declared.links.LinkIn as link_in
use Rattle.hd_base.specs.declared.links.LinkOut as link_out
use Rattle.hd_base.specs.declared.numbers.ConnId.{ConnId}
use Rattle.hd_base.specs.declared.roads.Roads as roads
use Rattle.visible_read.specs.LinkMessages.Incomings.{nothing_received}
use Rattle.link_pieces.specs.Pieces.{SendsPiece}
use Rattle.op_headers.specs.declared.ops.Op.TheVariants as op
use Rattle.op_headers.specs.declared.ops.ReadOp.{ReadOp}
use Rattle.op_headers.specs.Requests.{op_text}
use Rattle.visible_read.specs.PipeTurns.Acting.{with_half}
use Rattle.visible_read.specs.PipeTurns.Turning.{SendsAlone}
use Rattle.visible_read.specs.PipeTurns.Done.{Done}
use Rattle.visible_read.specs.PipeTurns.Done.TheVariants as done
use Rattle.read_core.specs.declared.reading.ReadFault.{ReadFault}
use Rattle.read_core.specs.Readings.{asked}
use Rattle.visible_read.specs.declared.reading.Reading.{Reading}
use Rattle.visible_read.specs.declared.talking.ReadFault as reading_fault
use Rattle.visible_read.specs.declared.talking.ReadFault.TheVariants as ended
use Rattle.visible_read.specs.declared.talking.ReadStep.{ReadStep}
use Rattle.visible_read.specs.declared.talking.ReadStep.TheVariants as step
use Rattle.visible_read.specs.declared.talking.Talk.{Talk}
use Rattle.visible_read.specs.Talking.{request_of, Begins, AsksAs, Asks, StepsAs, Steps, without_request}
use Rattle.client_events.proofs.MemberEvents.CauseLaws.{out_failed, one_risen, still_risen}
use Rattle.reader_events.specs.declared.faults.ReaderFault.{ReaderFault}
use Rattle.reader_events.specs.declared.faults.ReaderFault.TheVariants as fault
use Rattle.reader_events.specs.declared.asking.Asked.{Asked}
use Rattle.reader_events.specs.Asking.{goes_on, IsBegun, StepsOn, IsSent, IsFlushed, Accepts, unsent, IsAsked}
use Rattle.reader_events.specs.Faults.{IsCaused}
use Rattle.reader_events.specs.Hearing.{read_of, IsGivenBack}

-- the read hasn't ended
goes_not : (P : Type 0) (how : ReadStep) (x : Result (Vec ℕ) reading_fault.ReadFault) → goes_on how ≡ true → how ≡ step.Ended x → P
goes_not P how x on e = let f : false ≡ true = subst (λ (z : ReadStep). goes_on z ≡ true) e on in cc

-- it has
ends_not : (P : Type 0) (x : Result (Vec ℕ) reading_fault.ReadFault) → step.Ended x ≡ step.Moved → P
ends_not P x e = cc

same_end : (x y : Result (Vec ℕ) reading_fault.ReadFault) → step.Ended x ≡ step.Ended y → x ≡ y
same_end x y e = cc

same_why : (a b : ReaderFault) → ◌≡◌ {A = Result (Result (Vec ℕ) ReadFault) ReaderFault} (Err a) (Err b) → a ≡ b
same_why a b e = cc

-- A read whose request was sent on this end, as it is written.
pub record HasAsked {I O : Type 0} (o : link_out.Ghosts O) (read : ReadOp) (end : Conn I O) (sent : Reading I O) : Type 0 where
  pub half : O
  pub piece : SendsPiece o (op_text (op.Read read)) end.outward half
  pub end_is : sent.end ≡ with_half end half
  pub core : sent.talk.core ≡ Some (asked read)
  pub none : request_of sent.talk ≡ None
  pub unanswered : sent.talk.answered ≡ false
  pub nothing : sent.talk.incoming ≡ nothing_received

module _ {R I O : Type 0} (r : roads.Ghosts R I O) (i : link_in.Ghosts I) (o : link_out.Ghosts O) where
  asks_of : (read : ReadOp) (old new : Talk) (end end' : Conn I O) (how : ReadStep) → Begins read old → Steps i o old new end end' how → Asks o old new end end' how
  asks_of read old new end end' how b s = subst (λ (q : Option (List ℕ)). StepsAs i o q old new end end' how) b.request s

  -- THE REQUEST IS SENT

  sent_as : (read : ReadOp) (d : Done) (end : Conn I O) (half : O) (old : Talk) (new : Reading I O) (how : ReadStep) → Begins read old → goes_on how ≡ true → SendsAlone o (Some (op_text (op.Read read))) d end.outward half
      → AsksAs o d (without_request old) new.talk (with_half end half) new.end how → HasAsked o read end new
  sent_as read (done.Taken None) end half old new how b on sends k = record {
    half = half;
    piece = sends;
    end_is = k.1;
    core = ap (λ (y : Talk). y.core) k.0 ∙ b.core;
    none = ap request_of k.0;
    unanswered = ap (λ (y : Talk). y.answered) k.0 ∙ b.unanswered;
    nothing = ap (λ (y : Talk). y.incoming) k.0 ∙ b.nothing;
  }
  sent_as read (done.LinkFailed None) end half old new how b on sends k = goes_not (HasAsked o read end new) how _ on k.ends
  sent_as read done.Memory end half old new how b on sends k = goes_not (HasAsked o read end new) how _ on k.ends
  sent_as read (done.Taken (Some x)) end half old new how b on sends k = absurd sends
  sent_as read (done.LinkFailed (Some x)) end half old new how b on sends k = absurd sends
  sent_as read (done.Refused e x) end half old new how b on sends k = absurd sends
  sent_as read (done.File x) end half old new how b on sends k = absurd sends
  sent_as read (done.MirrorFailed x) end half old new how b on sends k = absurd sends

  -- The first step of a read that goes on sends its request.
  pub has_asked : (read : ReadOp) (end : Conn I O) (fresh sent : Reading I O) (road road' : R) → IsBegun read end (Ok fresh) → StepsOn i o fresh sent road road' → HasAsked o read end sent
  has_asked read end fresh sent road road' b s =
      let a = asks_of read fresh.talk sent.talk fresh.end sent.end s.result b.1 s.steps in
      subst (λ (e : Conn I O). HasAsked o read e sent) b.0
      (sent_as read a.done fresh.end a.sent fresh.talk sent s.result b.1 s.goes (subst (λ (q : Option (List ℕ)). SendsAlone o q a.done fresh.end.outward a.sent) b.1.request a.sends) a.follows)

  -- IT ISN'T

  unsent_as : (d : Done) (c : ℕ) (end end' : Conn I O) (half : O) (text : List ℕ) (old new : Talk) (read : Result (Vec ℕ) reading_fault.ReadFault) (road road' : R) (why : ReaderFault) → end.id.0 ≡ c → SendsAlone o (Some text) d end.outward half
      → AsksAs o d (without_request old) new (with_half end half) end' (step.Ended read) → IsGivenBack r i o end' read road road' (Err why) → IsCaused r c road road' why
  unsent_as done.Memory c end end' half text old new read road road' why at sends k g = subst (IsCaused r c road road') (sym (by_given g)) tt
    where
      by_given : IsGivenBack r i o end' read road road' (Err why) → why ≡ fault.Memory
      by_given (inl b) = same_why why fault.Memory (b.is ∙ ap read_of (same_end read (Err ended.Memory) k.ends))
      by_given (inr m) = same_why why fault.Memory m
  unsent_as (done.LinkFailed None) c end end' half text old new read road road' why at sends k g = by_given g
    where
      failed : has_failed i o end' ≡ true
      failed = out_failed i o (o.faults end.outward) end' (still_risen (o.faults end.outward) (o.faults half) (o.faults end'.outward) sends.rose k.shuts.half.never_falls)

      by_given : IsGivenBack r i o end' read road road' (Err why) → IsCaused r c road road' why
      by_given (inl b) =
          subst (IsCaused r c road road') (sym (same_why why fault.LinkFailed (b.is ∙ ap read_of (same_end read (Err ended.LinkFailed) k.ends))))
          (subst (λ (n : ℕ). r.risen road' n ≡ true) (ap (λ (n : ConnId). n.0) k.shuts.id ∙ at) (one_risen r i o end' road road' b.brings failed))
      by_given (inr m) = subst (IsCaused r c road road') (sym (same_why why fault.Memory m)) tt
  unsent_as (done.Taken None) c end end' half text old new read road road' why at sends k g = ends_not (IsCaused r c road road' why) read k.2
  unsent_as (done.Taken (Some x)) c end end' half text old new read road road' why at sends k g = absurd sends
  unsent_as (done.LinkFailed (Some x)) c end end' half text old new read road road' why at sends k g = absurd sends
  unsent_as (done.Refused e x) c end end' half text old new read road road' why at sends k g = absurd sends
  unsent_as (done.File x) c end end' half text old new read road road' why at sends k g = absurd sends
  unsent_as (done.MirrorFailed x) c end end' half text old new read road road' why at sends k g = absurd sends

  -- Where the request couldn't be sent there is a cause.
  pub unsent_caused : (read : ReadOp) (end : Conn I O) (fresh : Reading I O) (road road' : R) (why : ReaderFault) → IsBegun read end (Ok fresh) → IsSent r i o fresh road road' (Err why) → IsCaused r end.id.0 road road' why
  unsent_caused read end fresh road road' why b (inl m) = subst (IsCaused r end.id.0 road road') (sym m) tt
  unsent_caused read end fresh road road' why b (inr e) =
      let a = asks_of read fresh.talk e.talk fresh.end e.end (step.Ended e.read) b.1 e.steps in
      unsent_as a.done end.id.0 fresh.end e.end a.sent (op_text (op.Read read)) fresh.talk e.talk e.read road road' why (ap (λ (x : Conn I O). x.id.0) b.0)
      (subst (λ (q : Option (List ℕ)). SendsAlone o q a.done fresh.end.outward a.sent) b.1.request a.sends) a.follows e.gives

  -- HOW THE ASKING ENDS

  pub reached_failed : (port : ℕ) (read : ReadOp) (end : Conn I O) (fresh : Reading I O) (road road' : R) (why : ReaderFault) (result : Result (Asked I O) ReaderFault) → result ≡ Err why → IsBegun read end (Ok fresh) → IsSent r i o fresh road road' (Err why) → IsAsked r i o port read end road road' result
  reached_failed port read end fresh road road' why result is b s = subst (IsAsked r i o port read end road road') (sym is) (inl (unsent (record { fresh = fresh; begun = b; fails = s })))

  pub reached_asked : (port : ℕ) (read : ReadOp) (end : Conn I O) (fresh sent flushed : Reading I O) (road first second road' : R) (result : Result (Asked I O) ReaderFault) → IsBegun read end (Ok fresh) → IsSent r i o fresh road first (Ok sent) → IsFlushed r i o sent first second (Ok flushed)
      → Accepts r i o port flushed second road' result → IsAsked r i o port read end road road' result
  reached_asked port read end fresh sent flushed road first second road' (Ok left) b s f a = record { sent = sent; flushed = flushed; first = first; second = second; sends = record { fresh = fresh; begun = b; sends = s }; flushes = f; accepts = a }
  reached_asked port read end fresh sent flushed road first second road' (Err why) b s f a = inr (record { sent = sent; flushed = flushed; first = first; second = second; sends = record { fresh = fresh; begun = b; sends = s }; flushes = f; accepts = a })
