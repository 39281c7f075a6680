-- What a step has done that sends the next packet of a read.
use Rattle.std.proofs.Common.{◌≡◌, ◌==◌, ℕ, Bool, true, false, if◌then◌else◌, List, length, Option, Some, None, IfSome, Result, Ok, Err, refl, ap, ◌∙◌, arith}
use Rattle.std.proofs.lemmas.Bool.Decides.{nat_tests}
use Rattle.hd_base.specs.FileMaps.{FileMap}
use Rattle.hd_base.specs.Faults.{FaultsIncreased}
use Rattle.hd_base.specs.declared.files.Files as files
use Rattle.hd_base.specs.declared.links.LinkOut as link_out
use Rattle.hd_base.specs.declared.numbers.Receipt.{Receipt}
use Rattle.packet_codec.specs.Packets.{packet_text}
use Rattle.replica_core.specs.declared.events.Event.{Event}
use Rattle.replica_core.specs.declared.refusals.Refusal.{Refusal}
use Rattle.replica_core.specs.Transitions.{transition}
use Rattle.replica_model.specs.declared.events.ReplicaEvent.TheVariants as replica_event
use Rattle.replica_model.specs.Rows.{broken}
use Rattle.member_events.specs.ReplicaFiles.BookState.{BookState}
use Rattle.member_events.specs.ReplicaFiles.BookFault.{BookFault}
use Rattle.member_events.specs.ReplicaFiles.BookFault.TheVariants as fault
use Rattle.member_events.specs.ReplicaFiles.Books.{replica_of, IsBookOf, Takes}
use Rattle.member_events.specs.ReplicaFiles.Endings.{BookEnds}
use Rattle.visible_read.specs.ReadCore.ServePhase.{ServePhase}
use Rattle.visible_read.specs.ReadCore.ServePhase.TheVariants as phase
use Rattle.visible_read.specs.ReadCore.Servings.{ServingState, piece_len, piece_event, piece_of, packet_of, call_at, next_call, gone_on, sent_in, sent as sent_on}
use Rattle.visible_read.specs.Sendings.{SendsText}
use Rattle.visible_read.specs.declared.sending.Sending as read_sending
use Rattle.visible_read.specs.declared.sending.Sending.TheVariants as sent
use Rattle.visible_read.specs.declared.answering.Served.TheVariants as served
use Rattle.visible_read.specs.declared.answering.Took.{Took}
use Rattle.visible_read.specs.Packets.{passed, passed_on, PassesAll, SendsBooked, SendsNext}
use Rattle.link_pieces.specs.Pieces.{SendsNothing}
use Rattle.member_events.proofs.TurnEnds.{HasSaid}
use Rattle.serving_events.proofs.ReadRows.{IsAnswered, answered_same, failed_breaks, answered_whole, failed_broke, all_there}
use Rattle.serving_events.proofs.RequestSteps.{breaks_in, said_by, lost_by}

-- THE NEXT CALL

-- This is the call of the next packet, of a read that sends packets.
pub record IsCall (s : ServingState) (e : Event) : Type 0 where
  pub sending : s.phase ≡ phase.Sending
  pub is : e ≡ piece_event s

pub call_is : (s : ServingState) (e : Event) → next_call s ≡ Some e → IsCall s e
call_is s e h = go s.phase refl h
  where
    go : (p : ServePhase) → s.phase ≡ p → call_at p s ≡ Some e → IsCall s e
    go phase.Sending is k = record { sending = is; is = cc }
    go phase.Awaiting is k = cc
    go phase.Over is k = cc

-- behind the empty last packet there is no call
gone_none : (s : ServingState) → (piece_len s == 0) ≡ true → next_call (gone_on s) ≡ None
unfolding gone_on
gone_none s last = ap (λ (b : Bool). call_at (if b then phase.Awaiting else phase.Sending) (gone_on s)) last

pub last_none : (s : ServingState) → s.phase ≡ phase.Sending → (piece_len s == 0) ≡ true → next_call (sent_on s) ≡ None
last_none s sending last = ap (λ (p : ServePhase). next_call (sent_in p s)) sending ∙ gone_none s last

-- WHAT WAS DONE

-- The replica stays.
pub record StaysWhole {F : Type 0} (book book' : BookState F) : Type 0 where
  pub same : replica_of book' ≡ replica_of book
  pub whole : breaks_in book book' ≡ false

-- A packet with these bytes was sent, which are the replica's where its files are observable.
pub record SendsPacket {F O : Type 0} (f : files.Ghosts F) (o : link_out.Ghosts O) (s : ServingState) (book book' : BookState F) (out out' : O) (took : Took) : Type 0 where
  pub body : List ℕ
  pub receipt : Receipt
  pub bytes : IfSome (f.files book.drawer) (λ _. body ≡ piece_of (replica_of book) s)
  pub takes : Takes (replica_of book) (replica_event.Other (piece_event s))
  pub stays : StaysWhole book book'
  pub says : HasSaid o (Some (packet_text (packet_of s body))) out out'
  pub is : took ≡ passed_on s (packet_of s body) receipt

-- The replica has refused the packet.
pub record IsRefused {F O : Type 0} (o : link_out.Ghosts O) (s : ServingState) (book book' : BookState F) (out out' : O) (took : Took) : Type 0 where
  pub why : Refusal
  pub is : took.served ≡ Some (served.Refused why)
  pub refused : transition (replica_of book).known (piece_event s) ≡ Err why
  pub stays : StaysWhole book book'
  pub none : SendsNothing o out out'

-- The call on the replica's files failed.
pub record HasFailed {F O : Type 0} (f : files.Ghosts F) (o : link_out.Ghosts O) (book book' : BookState F) (out out' : O) (took : Took) : Type 0 where
  pub is : took.served ≡ Some served.File
  pub breaks : replica_of book' ≡ broken (replica_of book)
  pub broke : breaks_in book book' ≡ true
  pub rose : FaultsIncreased (f.faults book.drawer) (f.faults book'.drawer)
  pub none : SendsNothing o out out'

-- Files that aren't observable gave too few bytes.
pub record HasTooFew {F : Type 0} (f : files.Ghosts F) (book book' : BookState F) (took : Took) : Type 0 where
  pub is : took.served ≡ Some served.File
  pub whole : breaks_in book book' ≡ false
  pub hidden : f.files book.drawer ≡ None

pub data Sending {F O : Type 0} (f : files.Ghosts F) (o : link_out.Ghosts O) (s : ServingState) (book book' : BookState F) (out out' : O) (took : Took) : Type 0 where
  sends : SendsPacket f o s book book' out out' took → Sending f o s book book' out out' took
  refuses : IsRefused o s book book' out out' took → Sending f o s book book' out out' took
  fails : HasFailed f o book book' out out' took → Sending f o s book book' out out' took
  lacks : HasTooFew f book book' took → Sending f o s book book' out out' took
  unmade : took.served ≡ Some served.Memory → Sending f o s book book' out out' took
  lost : took.served ≡ Some served.LinkFailed → FaultsIncreased (o.faults out) (o.faults out') → Sending f o s book book' out out' took

not_whole : (n m : ℕ) → n ≡ m → (n == m) ≡ false → ⊥
not_whole n m h k = grind (arith, nat_tests)

module _ {F O : Type 0} (f : files.Ghosts F) (o : link_out.Ghosts O) (s : ServingState) (book book' : BookState F) (before : IsBookOf f book) (after : IsBookOf f book') (out out' : O) (took : Took) where
  stays_by : (booked : Result Receipt BookFault) → BookEnds f book book' (replica_event.Other (piece_event s)) booked → IsAnswered booked → StaysWhole book book'
  stays_by booked ends ok =
      let same = answered_same f book book' s.named s.at (piece_len s) booked before.held.full ends ok in
      record { same = same; whole = answered_whole f book book' s.named s.at (piece_len s) before.known after.known same }

  sending_by : (body : List ℕ) (receipt : Receipt) (d : read_sending.Sending) → IfSome (f.files book.drawer) (λ _. body ≡ piece_of (replica_of book) s) → Takes (replica_of book) (replica_event.Other (piece_event s)) → StaysWhole book book'
      → SendsText o (Some (packet_text (packet_of s body))) d out out' → took ≡ passed s (packet_of s body) receipt d → Sending f o s book book' out out' took
  sending_by body receipt sent.Sent bytes takes stays h is =
      sends (record { body = body; receipt = receipt; bytes = bytes; takes = takes; stays = stays; says = said_by o (Some (packet_text (packet_of s body))) out out' h; is = is })
  sending_by body receipt sent.LinkFailed bytes takes stays h is = lost (ap (λ (t : Took). t.served) is) (lost_by o (Some (packet_text (packet_of s body))) out out' h)

  hidden_by : (files : Option FileMap) (body : List ℕ) → Takes (replica_of book) (replica_event.Other (piece_event s)) → IfSome files (λ _. body ≡ piece_of (replica_of book) s) → (length body == piece_len s) ≡ false → files ≡ None
  hidden_by None body takes bytes few = refl
  hidden_by (Some m) body takes bytes few =
      absurd (not_whole (length body) (piece_len s) (ap (λ (b : List ℕ). length b) bytes ∙ all_there (replica_of book) s.named s.at (piece_len s) before.held.full takes) few)

  reading_by : (whole : Bool) (body : List ℕ) (receipt : Receipt) → (length body == piece_len s) ≡ whole → IfSome (f.files book.drawer) (λ _. body ≡ piece_of (replica_of book) s) → Takes (replica_of book) (replica_event.Other (piece_event s)) → StaysWhole book book'
      → PassesAll o whole s receipt body out out' took → Sending f o s book book' out out' took
  reading_by true body receipt e bytes takes stays p = sending_by body receipt p.sending bytes takes stays p.sent p.follows
  reading_by false body receipt e bytes takes stays p = lacks (record { is = ap (λ (t : Took). t.served) p.0; whole = stays.whole; hidden = hidden_by (f.files book.drawer) body takes bytes e })

  booked_by : (booked : Result Receipt BookFault) → BookEnds f book book' (replica_event.Other (piece_event s)) booked → SendsBooked o (f.files book.drawer) (replica_of book) s booked out out' took → Sending f o s book book' out out' took
  booked_by (Ok receipt) ends x = reading_by (length x.body == piece_len s) x.body receipt refl x.bytes ends.takes (stays_by (Ok receipt) ends tt) x.passes
  booked_by (Err (fault.Refused why receipt)) ends x =
      refuses (record { why = why; is = ap (λ (t : Took). t.served) x.0; refused = ends.refused; stays = stays_by (Err (fault.Refused why receipt)) ends tt; none = x.1 })
  booked_by (Err (fault.File receipt)) ends x =
      fails (record {
        is = ap (λ (t : Took). t.served) x.0;
        breaks = failed_breaks f book book' s.named s.at (piece_len s) receipt ends;
        broke = failed_broke f book book' s.named s.at (piece_len s) before.known after.known receipt ends;
        rose = ends.rose;
        none = x.1;
      })
  booked_by (Err fault.Memory) ends x = unmade (ap (λ (t : Took). t.served) x.0)

  pub sending_of : SendsNext f o s book book' out out' took → Sending f o s book book' out out' took
  sending_of x = booked_by x.booked x.ends x.sends
