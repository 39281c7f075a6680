-- Steps that follow one another, and what is left of a read after each.
use Rattle.std.proofs.Common.{◌≡◌, ◌==◌, ◌+◌, ◌-◌, ◌<◌, ℕ, Bool, true, false, min, List, [], ◌∷◌, ◌++◌, Option, Some, None, Result, Ok, Err, length, refl, sym, ap, subst, ◌∙◌, arith}
use Rattle.std.proofs.lemmas.Bool.Decides.{nat_tests}
use Rattle.hd_base.specs.declared.files.Files as files
use Rattle.hd_base.specs.declared.links.LinkOut as link_out
use Rattle.hd_base.specs.declared.numbers.Receipt.{Receipt}
use Rattle.ack_codec.specs.declared.responses.Response.{Response}
use Rattle.op_headers.specs.declared.ops.ReadOp.{ReadOp}
use Rattle.packet_codec.specs.declared.packets.Packet.{Packet}
use Rattle.pipe_turns.specs.ReplicaFiles.BookState.{BookState}
use Rattle.pipe_turns.specs.ReplicaFiles.BookFault.{BookFault}
use Rattle.pipe_turns.specs.ReplicaFiles.BookFault.TheVariants as fault
use Rattle.pipe_turns.specs.ReplicaFiles.Books.{replica_of}
use Rattle.request_refusals.specs.declared.refusals.RequestRefusal.{RequestRefusal}
use Rattle.read_core.specs.declared.serving.ServePhase.{ServePhase}
use Rattle.read_core.specs.Servings.{ServingState, piece_len, packet_of, gone_on, sent_in, sent, most_bytes}
use Rattle.visible_read.specs.declared.sending.Sending.{Sending}
use Rattle.visible_read.specs.declared.sending.Sending.TheVariants as sending
use Rattle.visible_read.specs.declared.answering.Course.{Course}
use Rattle.visible_read.specs.declared.answering.Course.TheVariants as course
use Rattle.frame_feed.specs.declared.notes.Message.{Message}
use Rattle.frame_feed.specs.declared.notes.Message.TheVariants as reply
use Rattle.visible_read.specs.declared.answering.Served.{Served}
use Rattle.visible_read.specs.declared.answering.Took.{Took}
use Rattle.visible_read.specs.Answers.{told, answered, TellsIf, Answers}
use Rattle.visible_read.specs.Packets.{passed, passed_by, faulted, PassesAll, SendsBooked, SendsNext}
use Rattle.visible_read.specs.Sound.{IsNext, IsSound}
use Rattle.visible_read.specs.Servings.{ServingRun, unanswered, is_over, Does, Steps}
use Rattle.visible_read.specs.Driving.{Place, GoesOn, Passes, Comes, ServesAll}
use Rattle.visible_read.proofs.PacketLemmas.{is-last}

-- a packet is next
abbrev pub IsSending : Course → Type 0
IsSending (course.Sending s) = Unit {0}
IsSending other = ⊥

-- how many bytes are still to be sent
abbrev pub weight : Course → ℕ
weight (course.Sending s) = s.end - s.at
weight other = 0

pub sending-open : (c : Course) → IsSending c → is_over c ≡ false
sending-open course.Asked h = absurd h
sending-open (course.Sending s) h = refl
sending-open course.Over h = absurd h

-- ---- the answer

none-some : {A : Type 0} (P : Type 0) (x : A) → Some x ≡ None → P
none-some P x h = cc

answered-on : (x : Result ServingState RequestRefusal) (r : Message) (receipt : Option Receipt) → (answered x r receipt).served ≡ None → IsSending (answered x r receipt).course
answered-on (Ok s) r receipt h = tt
answered-on (Err e) r receipt h = none-some _ _ h

told-on : (x : Result ServingState RequestRefusal) (r : Response) (receipt : Option Receipt) (d : Sending) → (told x r receipt d).served ≡ None → IsSending (told x r receipt d).course
told-on x r receipt sending.Sent h = answered-on x (reply.Response r) receipt h
told-on x r receipt sending.LinkFailed h = none-some _ _ h

-- ---- a packet

gone-less : (s : ServingState) → (piece_len s == 0) ≡ false → (gone_on s).end - (gone_on s).at < s.end - s.at
unfolding gone_on piece_len
gone-less s more = go (s.end - s.at) (most_bytes s.rule.chunk) refl more
  where
    go : (rest most : ℕ) → s.end - s.at ≡ rest → (min rest most == 0) ≡ false → s.end - (s.at + min rest most) < rest
    go rest most e more = grind (arith, nat_tests, e, more)

sent-less : (s : ServingState) → IsNext s → (piece_len s == 0) ≡ false → weight (course.Sending (sent s)) < weight (course.Sending s)
sent-less s h more = subst (λ (p : ServePhase). (sent_in p s).end - (sent_in p s).at < s.end - s.at) (sym h.sending) (gone-less s more)

-- Packets go on after what was done, and fewer bytes are left than before.
pub record Lessens (before : ℕ) (took : Took) : Type 0 where
  pub sending : IsSending took.course
  pub less : weight took.course < before

passed-by : (b : Bool) (s : ServingState) (p : Packet) (receipt : Receipt) → IsNext s → b ≡ (piece_len s == 0)
    → (passed_by b s p receipt).served ≡ None → Lessens (weight (course.Sending s)) (passed_by b s p receipt)
passed-by true s p receipt n last h = none-some _ _ h
passed-by false s p receipt n last h = record { sending = tt; less = sent-less s n (sym last) }

passed-on : (s : ServingState) (body : List ℕ) (receipt : Receipt) (d : Sending) → IsNext s
    → (passed s (packet_of s body) receipt d).served ≡ None → Lessens (weight (course.Sending s)) (passed s (packet_of s body) receipt d)
passed-on s body receipt sending.Sent n h = passed-by (packet_of s body).last s (packet_of s body) receipt n (is-last s body) h
passed-on s body receipt sending.LinkFailed n h = none-some _ _ h

faulted-ends : (s : ServingState) (e : BookFault) → (faulted s e).served ≡ None → (P : Type 0) → P
faulted-ends s (fault.Refused e receipt) h P = none-some P _ h
faulted-ends s (fault.File receipt) h P = none-some P _ h
faulted-ends s fault.Memory h P = none-some P _ h

-- ---- steps

module _ {F O : Type 0} (f : files.Ghosts F) (o : link_out.Ghosts O) where
  tells-on : (x : Option (Result ServingState RequestRefusal)) (receipt : Option Receipt) (out out' : O) (took : Took)
      → TellsIf o x receipt out out' took → took.served ≡ None → IsSending took.course
  tells-on None receipt out out' took t h = none-some _ _ (sym (ap (λ (t : Took). t.served) t.0) ∙ h)
  tells-on (Some x) receipt out out' took t h =
      subst (λ (t : Took). t.served ≡ None → IsSending t.course) (sym t.follows) (told-on x _ receipt t.sending) h

  answers-on : (op : ReadOp) (book book' : BookState F) (out out' : O) (took : Took)
      → Answers f o op book book' out out' took → took.served ≡ None → IsSending took.course
  answers-on op book book' out out' took a h = tells-on _ _ out out' took a.tells h

  all-on : (b : Bool) (s : ServingState) (receipt : Receipt) (body : List ℕ) (out out' : O) (took : Took) → IsNext s
      → PassesAll o b s receipt body out out' took → took.served ≡ None → Lessens (weight (course.Sending s)) took
  all-on true s receipt body out out' took n p h =
      subst (λ (t : Took). t.served ≡ None → Lessens (weight (course.Sending s)) t) (sym p.follows) (passed-on s body receipt p.sending n) h
  all-on false s receipt body out out' took n p h = none-some _ _ (sym (ap (λ (t : Took). t.served) p.0) ∙ h)

  sends-on : (s : ServingState) (book book' : BookState F) (out out' : O) (took : Took) → IsNext s
      → SendsNext f o s book book' out out' took → took.served ≡ None → Lessens (weight (course.Sending s)) took
  sends-on s book book' out out' took n x h = go x.booked x.sends
    where
      go : (booked : Result Receipt BookFault) → SendsBooked o (f.files book.drawer) (replica_of book) s booked out out' took → Lessens (weight (course.Sending s)) took
      go (Ok receipt) r = all-on (length r.body == piece_len s) s receipt r.body out out' took n r.passes h
      go (Err e) r = faulted-ends s e (sym (ap (λ (t : Took). t.served) r.0) ∙ h) (Lessens (weight (course.Sending s)) took)

  -- behind the answer packets follow, or the read has ended
  pub first-on : (s s' : ServingRun) (book book' : BookState F) (out out' : O) → Steps f o s s' book book' out out' None
      → s.course ≡ course.Asked → IsSending s'.course
  first-on s s' book book' out out' x asked =
      let does : Answers f o s.op book book' out out' x.took = subst (λ c. Does f o c s.op book book' out out' x.took) asked x.does in
      subst (λ (r : ServingRun). IsSending r.course) (sym x.leaves) (answers-on s.op book book' out out' x.took does (sym x.ends))

  -- Behind a packet fewer bytes are left.
  pub record Shortens (old new : Course) : Type 0 where
    pub sending : IsSending new
    pub less : weight new < weight old

  next-as : (c : Course) (op : ReadOp) (book book' : BookState F) (out out' : O) (took : Took)
      → Does f o c op book book' out out' took → IsSending c → IsSound c → took.served ≡ None → Lessens (weight c) took
  next-as course.Asked op book book' out out' took d is sound h = absurd is
  next-as (course.Sending s) op book book' out out' took d is sound h = sends-on s book book' out out' took sound d h
  next-as course.Over op book book' out out' took d is sound h = absurd is

  pub next-on : (s s' : ServingRun) (book book' : BookState F) (out out' : O) → Steps f o s s' book book' out out' None
      → IsSending s.course → IsSound s.course → Shortens s.course s'.course
  next-on s s' book book' out out' x is sound =
      let l : Lessens (weight s.course) x.took = next-as s.course s.op book book' out out' x.took x.does is sound (sym x.ends) in
      subst (λ (r : ServingRun). Shortens s.course r.course) (sym x.leaves) (record { sending = l.sending; less = l.less })

  passes-on : (a b c : Place F O) (places : List (Place F O)) → Passes f o a places b → GoesOn f o b c → Passes f o a (places ++ c ∷ []) c
  passes-on a b c [] p s = (subst (λ x. GoesOn f o x c) p s, refl)
  passes-on a b c (x ∷ places) p s = (p.0, passes-on x b c places p.1 s)

  -- nothing was done
  pub comes-nowhere : (a : Place F O) → Comes f o a a
  comes-nowhere a = record { places = []; passes = refl }

  -- one step more
  pub comes-on : (a b c : Place F O) → Comes f o a b → GoesOn f o b c → Comes f o a c
  comes-on a b c p s = record { places = p.places ++ c ∷ []; passes = passes-on a b c p.places p.passes s }

  -- The first step ended the read.
  pub serves-first : (op : ReadOp) (s s' : ServingRun) (book book' : BookState F) (out out' : O) (served : Served) → s ≡ unanswered op
      → Steps f o s s' book book' out out' (Some served) → ServesAll f o op book book' out out' served
  serves-first op s s' book book' out out' served is x = record {
    before = record { run = unanswered op; book = book; out = out };
    run = s';
    comes = comes-nowhere (record { run = unanswered op; book = book; out = out });
    ends = subst (λ r. Steps f o r s' book book' out out' (Some served)) is x;
  }

  -- It didn't.
  pub comes-first : (op : ReadOp) (s s' : ServingRun) (book book' : BookState F) (out out' : O) → s ≡ unanswered op
      → Steps f o s s' book book' out out' None
      → Comes f o (record { run = unanswered op; book = book; out = out }) (record { run = s'; book = book'; out = out' })
  comes-first op s s' book book' out out' is x =
      let a : Place F O = record { run = unanswered op; book = book; out = out } in
      comes-on a a (record { run = s'; book = book'; out = out' }) (comes-nowhere a)
      (subst (λ r. Steps f o r s' book book' out out' None) is x)

  pub sends-first : (op : ReadOp) (s s' : ServingRun) (book book' : BookState F) (out out' : O) → s ≡ unanswered op
      → Steps f o s s' book book' out out' None → IsSending s'.course
  sends-first op s s' book book' out out' is x = first-on s s' book book' out out' x (ap (λ (r : ServingRun). r.course) is)
