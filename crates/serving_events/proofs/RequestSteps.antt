-- What a step has done that answers a request to read.
use Rattle.std.proofs.Common.{◌≡◌, ◌⊎◌, inl, inr, ◌&&◌, ℕ, Bool, true, false, not, if◌then◌else◌, List, Option, Some, None, Result, Ok, Err, refl, ap, subst}
use Rattle.hd_base.specs.Faults.{FaultsIncreased}
use Rattle.hd_base.specs.declared.files.Files as files
use Rattle.hd_base.specs.declared.links.LinkOut as link_out
use Rattle.hd_base.specs.declared.numbers.Receipt.{Receipt}
use Rattle.op_headers.specs.declared.ops.ReadOp.{ReadOp}
use Rattle.replica_core.specs.declared.events.Event.{Event}
use Rattle.replica_core.specs.declared.events.Event.TheVariants as event
use Rattle.replica_model.specs.declared.events.ReplicaEvent.TheVariants as replica_event
use Rattle.replica_model.specs.Rows.{broken}
use Rattle.member_events.specs.ReplicaFiles.BookState.{BookState}
use Rattle.member_events.specs.ReplicaFiles.BookFault.{BookFault}
use Rattle.member_events.specs.ReplicaFiles.BookFault.TheVariants as fault
use Rattle.member_events.specs.ReplicaFiles.Books.{replica_of, IsBookOf}
use Rattle.member_events.specs.ReplicaFiles.Endings.{BookEnds}
use Rattle.request_refusals.specs.declared.refusals.RequestRefusal.{RequestRefusal}
use Rattle.request_refusals.specs.declared.refusals.RequestRefusal.TheVariants as refusal
use Rattle.request_refusals.specs.Pools.{is_in_pool}
use Rattle.visible_read.specs.ReadCore.Servings.{ServingState, read_at, read_event}
use Rattle.visible_read.specs.PipeTurns.Acting.{sized_response}
use Rattle.visible_read.specs.Sendings.{SendsText}
use Rattle.visible_read.specs.declared.sending.Sending.{Sending}
use Rattle.visible_read.specs.declared.sending.Sending.TheVariants as sending
use Rattle.visible_read.specs.FrameFeed.Message.TheVariants as reply
use Rattle.visible_read.specs.declared.answering.Served.TheVariants as served
use Rattle.visible_read.specs.declared.answering.Took.{Took}
use Rattle.visible_read.specs.Answers.{answering, answered, told, Asks, Answers, Tells, TellsIf, begun_by, receipt_in}
use Rattle.member_events.proofs.TurnEnds.{HasSaid}
use Rattle.serving_events.proofs.ReadRows.{IsAnswered, answered_same, failed_breaks, answered_whole, failed_broke}

-- WHAT THE BOOK DID

-- the replica broke between these
abbrev pub breaks_in : {F : Type 0} → BookState F → BookState F → Bool
breaks_in book book' = book'.replica.is_broken && not book.replica.is_broken

-- The replica stays, and the request is answered as it is there.
pub record IsQuiet {F : Type 0} (op : ReadOp) (book book' : BookState F) (x : Result ServingState RequestRefusal) : Type 0 where
  pub is : x ≡ read_at op (replica_of book)
  pub same : replica_of book' ≡ replica_of book
  pub whole : breaks_in book book' ≡ false

-- The call on its files failed, and this is told.
pub record HasBroken {F : Type 0} (f : files.Ghosts F) (op : ReadOp) (book book' : BookState F) (x : Result ServingState RequestRefusal) : Type 0 where
  pub event_is : Event
  pub booked : read_event op ≡ Ok event_is
  pub is : x ≡ Err refusal.File
  pub breaks : replica_of book' ≡ broken (replica_of book)
  pub broke : breaks_in book book' ≡ true
  pub rose : FaultsIncreased (f.faults book.drawer) (f.faults book'.drawer)

read_event_is : (op : ReadOp) (e : Event) → read_event op ≡ Ok e → e ≡ event.Read op.block.stamp op.offset op.len
unfolding read_event
read_event_is op e h = go (is_in_pool op.block) h
  where
    go : (b : Bool) → (if b then Ok (event.Read op.block.stamp op.offset op.len) else Err refusal.Pool) ≡ Ok e → e ≡ event.Read op.block.stamp op.offset op.len
    go true h = cc
    go false h = cc

module _ {F : Type 0} (f : files.Ghosts F) (op : ReadOp) (book book' : BookState F) (before : IsBookOf f book) (after : IsBookOf f book') where
  quiet_by : (e : Event) (booked : Result Receipt BookFault) → read_event op ≡ Ok e → BookEnds f book book' (replica_event.Other e) booked → IsAnswered booked → (x : Result ServingState RequestRefusal) → x ≡ read_at op (replica_of book) → IsQuiet op book book' x
  quiet_by e booked is ends ok x at =
      let asked : BookEnds f book book' (replica_event.Other (event.Read op.block.stamp op.offset op.len)) booked = subst (λ (z : Event). BookEnds f book book' (replica_event.Other z) booked) (read_event_is op e is) ends in
      let same = answered_same f book book' op.block.stamp op.offset op.len booked before.held.full asked ok in
      record { is = at; same = same; whole = answered_whole f book book' op.block.stamp op.offset op.len before.known after.known same }

  broken_by : (e : Event) (receipt : Receipt) → read_event op ≡ Ok e → BookEnds f book book' (replica_event.Other e) (Err (fault.File receipt)) → HasBroken f op book book' (Err refusal.File)
  broken_by e receipt is ends =
      let asked : BookEnds f book book' (replica_event.Other (event.Read op.block.stamp op.offset op.len)) (Err (fault.File receipt)) = subst (λ (z : Event). BookEnds f book book' (replica_event.Other z) (Err (fault.File receipt))) (read_event_is op e is) ends in
      record {
        event_is = e;
        booked = is;
        is = refl;
        breaks = failed_breaks f book book' op.block.stamp op.offset op.len receipt asked;
        broke = failed_broke f book book' op.block.stamp op.offset op.len before.known after.known receipt asked;
        rose = ends.rose;
      }

-- WHAT WAS ANSWERED

module _ {F O : Type 0} (f : files.Ghosts F) (o : link_out.Ghosts O) (op : ReadOp) (book book' : BookState F) (out out' : O) (took : Took) where
  -- A request is answered so.
  pub record IsAnswering : Type 0 where
    pub x : Result ServingState RequestRefusal
    pub receipt : Option Receipt
    pub how : IsQuiet op book book' x ⊎ HasBroken f op book book' x
    pub tells : Tells o x receipt out out' took

  answering_by : (before : IsBookOf f book) (after : IsBookOf f book') (asked : Result Event RequestRefusal) (booked : Option (Result Receipt BookFault)) → read_event op ≡ asked → Asks f asked book book' booked
      → TellsIf o (begun_by op (replica_of book) booked) (receipt_in booked) out out' took → (took.served ≡ Some served.Memory) ⊎ IsAnswering
  answering_by before after (Err why) None is asks tells =
      inr (record {
        x = read_at op (replica_of book);
        receipt = None;
        how = inl (record {
          is = refl;
          same = ap (λ (b : BookState F). replica_of b) asks;
          whole = answered_whole f book book' op.block.stamp op.offset op.len before.known after.known (ap (λ (b : BookState F). replica_of b) asks);
        });
        tells = tells;
      })
  answering_by before after (Err why) (Some (Ok receipt)) is asks tells = absurd asks
  answering_by before after (Err why) (Some (Err (fault.Refused e receipt))) is asks tells = absurd asks
  answering_by before after (Err why) (Some (Err (fault.File receipt))) is asks tells = absurd asks
  answering_by before after (Err why) (Some (Err fault.Memory)) is asks tells = inl (ap (λ (t : Took). t.served) tells.0)
  answering_by before after (Ok e) None is asks tells = absurd asks
  answering_by before after (Ok e) (Some (Ok receipt)) is asks tells =
      inr (record { x = read_at op (replica_of book); receipt = Some receipt; how = inl (quiet_by f op book book' before after e (Ok receipt) is asks tt (read_at op (replica_of book)) refl); tells = tells })
  answering_by before after (Ok e) (Some (Err (fault.Refused why receipt))) is asks tells =
      inr (record { x = read_at op (replica_of book); receipt = Some receipt; how = inl (quiet_by f op book book' before after e (Err (fault.Refused why receipt)) is asks tt (read_at op (replica_of book)) refl); tells = tells })
  answering_by before after (Ok e) (Some (Err (fault.File receipt))) is asks tells =
      inr (record { x = Err refusal.File; receipt = Some receipt; how = inr (broken_by f op book book' before after e receipt is asks); tells = tells })
  answering_by before after (Ok e) (Some (Err fault.Memory)) is asks tells = inl (ap (λ (t : Took). t.served) tells.0)

  pub answering_of : (before : IsBookOf f book) (after : IsBookOf f book') → Answers f o op book book' out out' took → (took.served ≡ Some served.Memory) ⊎ IsAnswering
  answering_of before after a = answering_by before after (read_event op) a.booked refl a.asks a.tells

-- HOW IT WAS SENT

-- The answer was sent, or the link failed, and its count rose.
pub data Telling {O : Type 0} (o : link_out.Ghosts O) (x : Result ServingState RequestRefusal) (receipt : Option Receipt) (out out' : O) (took : Took) : Type 0 where
  sent : HasSaid o (sized_response (answering x)) out out' → took ≡ answered x (reply.Response (answering x)) receipt → Telling o x receipt out out' took
  lost : took.served ≡ Some served.LinkFailed → FaultsIncreased (o.faults out) (o.faults out') → Telling o x receipt out out' took

-- what was sent, where there was room for it
pub said_by : {O : Type 0} (o : link_out.Ghosts O) (text : Option (List ℕ)) (out out' : O) → SendsText o text sending.Sent out out' → HasSaid o text out out'
said_by o None out out' h = inr h
said_by o (Some text) out out' h = h

pub lost_by : {O : Type 0} (o : link_out.Ghosts O) (text : Option (List ℕ)) (out out' : O) → SendsText o text sending.LinkFailed out out' → FaultsIncreased (o.faults out) (o.faults out')
lost_by o None out out' h = absurd h
lost_by o (Some text) out out' h = h.rose

module _ {O : Type 0} (o : link_out.Ghosts O) where
  telling_by : (x : Result ServingState RequestRefusal) (receipt : Option Receipt) (out out' : O) (took : Took) (d : Sending) → SendsText o (sized_response (answering x)) d out out' → took ≡ told x (answering x) receipt d → Telling o x receipt out out' took
  telling_by x receipt out out' took sending.Sent h is = sent (said_by o (sized_response (answering x)) out out' h) is
  telling_by x receipt out out' took sending.LinkFailed h is = lost (ap (λ (t : Took). t.served) is) (lost_by o (sized_response (answering x)) out out' h)

  pub telling_of : (x : Result ServingState RequestRefusal) (receipt : Option Receipt) (out out' : O) (took : Took) → Tells o x receipt out out' took → Telling o x receipt out out' took
  telling_of x receipt out out' took t = telling_by x receipt out out' took t.sending t.sent t.follows
