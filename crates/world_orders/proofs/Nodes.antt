-- What the lower ends of connections leave in order.
use Rattle.std.proofs.Common.{◌≡◌, ℕ, zero, suc, ◌<◌, ◌≤◌, ◌+◌, ◌-◌, unwrap_or, option_map, Bool, true, false, List, [], ◌∷◌, ◌++◌, length, slice_get, Option, Some, None, IfSome, Result, Ok, Err, refl, sym, ap, ◌∙◌, subst, arith}
use Rattle.std.specs.Prelude.{◌==◌, if◌then◌else◌}
use Rattle.std.proofs.lemmas.Option.{same_Some}
use Rattle.hd_base.specs.declared.numbers.ConnId.{ConnId}
use Rattle.op_headers.specs.declared.ops.Op.TheVariants as op
use Rattle.op_headers.specs.declared.ops.ReadOp.{ReadOp}
use Rattle.op_headers.specs.declared.ops.RecoveryOp.{RecoveryOp}
use Rattle.op_headers.specs.Values.{WriteFields}
use Rattle.world_laws.specs.PacketCodec.Packet.{Packet}
use Rattle.replica_core.specs.declared.events.Event.{Event}
use Rattle.replica_core.specs.Views.{rule_in}
use Rattle.world_laws.specs.ReplicaModel.ReplicaEvent.{ReplicaEvent}
use Rattle.world_laws.specs.ReplicaModel.ReplicaEvent.TheVariants as replica_event
use Rattle.world_laws.specs.ReplicaModel.Rows.{FullReplica, row, row_answer}
use Rattle.world_laws.specs.RequestRefusals.RequestRefusal.{RequestRefusal}
use Rattle.world_laws.specs.MemberCore.Upward.{Upward}
use Rattle.world_laws.specs.MemberCore.Upward.TheVariants as upward
use Rattle.world_laws.specs.MemberCore.Mirror.{Mirror}
use Rattle.world_laws.specs.MemberCore.Mirror.TheVariants as mirror
use Rattle.world_laws.specs.MemberCore.Booked.{Booked}
use Rattle.world_laws.specs.MemberCore.Booked.TheVariants as booked
use Rattle.world_laws.specs.MemberCore.Turn.{Turn}
use Rattle.world_laws.specs.MemberCore.Members.{MemberState, is_waiting, is_heard, hears, settled, set_up, set_up_at, down_turn, up_turn}
use Rattle.world_laws.specs.MemberCore.Requests.{request_event}
use Rattle.world_laws.specs.MemberCore.Steps.{Step, Setup, step, faulted_step, outcome_of, oldest_at, ready_turn_at, request_step, request_at, booked_request, refused_by, faulted_request}
use Rattle.world_laws.specs.ReadCore.Servings.{ServingState, faulted_read, faulted_piece, read_at, read_event, next_call, piece_at}
use Rattle.world_laws.specs.RecoveryCore.RecoveryReply.{RecoveryReply}
use Rattle.world_laws.specs.RecoveryCore.Members.{Served, answer_of, recovery_event, serve, serve_faulted}
use Rattle.world_laws.specs.World.Parts.{Message, request, packet, ack, response, read_status, recovery_answer, Upper, by_writer, by_member, by_reader, by_primary, Dialled, Marks, FullMember, Lower, idle, writes, serves, recovers, ended_below, Break}
use Rattle.world_laws.specs.World.Worlds.{World, Dial, Change, dial_at, dialled_with, still}
use Rattle.world_laws.specs.World.Connections.{Next, message, the_end, sent_on, is_alive}
use Rattle.world_laws.specs.World.Nodes.{replica_at, block_of, closing, unless_failing, above_of, below_of, upward_message, sent_up, passed, member_change, failing_turn, turn_change, takes_next, pending_at, member_up, ready_change, is_asked, mirror_dial, dials_of, member_dials, mirror_conn, lower_of, setup_change, failing_write, write_request, breaking, read_change, failing_read, read_request, piece_as, serve_change, recovery_change, failing_recovery, recovery_request, first_message, next_recovery, lower_down, lower_ready, mirror_up}
use Rattle.world_laws.specs.Placing.{IsConn, IsLower, Placed}
use Rattle.world_laws.proofs.FactTables.{when-each}
use Rattle.world_laws.proofs.PlaceFitting.{Fits, dial-is, dial-within}
use Rattle.world_laws.proofs.PlaceSetups.{write-fits}
use Rattle.world_orders.specs.Orders.{Purpose, pipeline, reading, recovering, comes_down, comes_up, purpose_of, is_first, is_empty, is_packet, IsBelow, IsMember, HasHeard, IsMirror, MirrorIs, HasDialled, WriterIs, Ordered}
use Rattle.world_orders.proofs.Lists.{no-element, not-first, first-of, dial-past, dialled-before, dialled-here}
use Rattle.world_orders.proofs.Frame.{marked, MarksStay, Owes}
use Rattle.world_orders.proofs.Kept.{OnlyOf, OnlyAt, apart, stays, SentAt, sent-at, sent-elsewhere, sent-here, kept-writer, kept-reader, kept-primary}
use Rattle.world_orders.proofs.Turns.{Speaks, settled-speaks, down-speaks, ready-speaks, up-speaks, settled-still, down-keeps, ready-keeps, UpTurn, HearsOn, settled-on, settled-forwards, up-up}

-- what is sent up on one connection
abbrev pub AnswersUp : World → ℕ → List Message → Type 0
AnswersUp w c ms = (i : ℕ) (m : Message) → slice_get ms i ≡ Some m → comes_up (purpose_of (w.dialled c).upper) (is_first (length (w.ups c) + i)) m ≡ true

up-sends : (w : World) (c : ℕ) (ms : List Message) → AnswersUp w c ms → (d i : ℕ) (m : Message) → slice_get (sent_on (Some c) ms d) i ≡ Some m
    → comes_up (purpose_of (w.dialled d).upper) (is_first (length (w.ups d) + i)) m ≡ true
up-sends w c ms a d i m e = go (sent-at (Some c) ms d i m e)
  where
    go : SentAt (Some c) ms d i m → comes_up (purpose_of (w.dialled d).upper) (is_first (length (w.ups d) + i)) m ≡ true
    go s = subst (λ (n : ℕ). comes_up (purpose_of (w.dialled n).upper) (is_first (length (w.ups n) + i)) m ≡ true) (same_Some c d s.is) (a i m s.found)

no-answers : (w : World) (c : ℕ) → AnswersUp w c []
no-answers w c = λ i m e. no-element _ i m e

-- no connection was dialled for the request of this one
abbrev pub NotDialled : World → ℕ → Type 0
NotDialled w c = (d : ℕ) → d < w.next_conn + 0 → (dialled_with w (still w) d).upper ≡ by_member c → ⊥

-- one message, which comes so
one-answer : (w : World) (c : ℕ) (x : Message) → comes_up (purpose_of (w.dialled c).upper) (is_first (length (w.ups c))) x ≡ true → AnswersUp w c (x ∷ [])
one-answer w c x h zero m e = subst (λ (y : Message). comes_up (purpose_of (w.dialled c).upper) (is_first (length (w.ups c) + 0)) y ≡ true) (same_Some x m e)
    (subst (λ (n : ℕ). comes_up (purpose_of (w.dialled c).upper) (is_first n) x ≡ true) (omega arith) h)
one-answer w c x h (suc i) m e = no-element _ i m e

-- REQUESTS

write-is : (q : Purpose) (f : WriteFields) → comes_down q true (request (op.Write f)) ≡ true → q ≡ pipeline
write-is pipeline f e = refl
write-is reading f e = cc
write-is recovering f e = cc

read-is : (q : Purpose) (r : ReadOp) → comes_down q true (request (op.Read r)) ≡ true → q ≡ reading
read-is pipeline r e = cc
read-is reading r e = refl
read-is recovering r e = cc

recovery-is : (q : Purpose) (r : RecoveryOp) → comes_down q true (request (op.Recovery r)) ≡ true → q ≡ recovering
recovery-is pipeline r e = cc
recovery-is reading r e = cc
recovery-is recovering r e = refl

pub member-same : (c d : ℕ) → by_member c ≡ by_member d → c ≡ d
member-same c d e = ap number e
  where
    number : Upper → ℕ
    number (by_member n) = n
    number (by_writer n) = 0
    number (by_reader n) = 0
    number (by_primary n place) = 0

-- what a setup says: its answer, or nothing where the mirror is awaited
abbrev pub SaysAs : Option MemberState → Option Upward → Type 0
SaysAs None said = Speaks true said false
SaysAs (Some m) said = Speaks true said (is_waiting m.mirror)

set-up-says : (conn : ConnId) (fields : WriteFields) (asked : Bool) → SaysAs (Some (set_up conn fields asked).0) (set_up conn fields asked).1.sends
unfolding set_up
set-up-says conn fields asked = go (length fields.targets == 0) asked
  where
    go : (x y : Bool) → SaysAs (Some (set_up_at (if x then mirror.Nobody else (if y then mirror.Asked else mirror.Unreachable)) fields conn).0)
        (set_up_at (if x then mirror.Nobody else (if y then mirror.Asked else mirror.Unreachable)) fields conn).1.sends
    go true y = tt
    go false true = tt
    go false false = tt

booked-says : (conn : ConnId) (fields : WriteFields) (asked : Bool) (r : FullReplica) (o : Option RequestRefusal) → SaysAs (booked_request conn fields asked r o).member (booked_request conn fields asked r o).effect.sends
booked-says conn fields asked r None = set-up-says conn fields asked
booked-says conn fields asked r (Some refused) = tt

request-says : (conn : ConnId) (fields : WriteFields) (asked : Bool) (r : FullReplica) (e : Result Event RequestRefusal) → SaysAs (request_at conn fields asked r e).member (request_at conn fields asked r e).effect.sends
request-says conn fields asked r (Err refused) = tt
request-says conn fields asked r (Ok e) = booked-says conn fields asked (row r (replica_event.Other e)) (refused_by (row_answer r (replica_event.Other e)))

-- the dials of a setup
pub record DialIs (c : ℕ) (d : Dial) : Type 0 where
  pub upper : d.dialled.upper ≡ by_member c
  pub writes : comes_down pipeline true d.request ≡ true

abbrev pub LowerAsked : Option MemberState → Type 0
LowerAsked None = ⊥
LowerAsked (Some m) = m.mirror ≡ mirror.Asked

pub record LoneDial (o : Option MemberState) (c i : ℕ) (d : Dial) : Type 0 where
  pub first : i ≡ 0
  pub asked : LowerAsked o
  pub is : DialIs c d

lone-dial : (w : World) (c : ℕ) (fields : WriteFields) (o : Option MemberState) (i : ℕ) (d : Dial) → slice_get (member_dials o w c fields) i ≡ Some d → LoneDial o c i d
lone-dial w c fields None i d e = no-element _ i d e
lone-dial w c fields (Some m) i d e = by-mirror m.mirror refl e
  where
    one : (f : WriteFields) (n : ℕ) (j : ℕ) → m.mirror ≡ mirror.Asked → slice_get (mirror_dial w c (Some f) (Some n)) j ≡ Some d → LoneDial (Some m) c j d
    one f n zero a x = record { first = refl; asked = a; is = subst (DialIs c) (same_Some _ d x) (record { upper = refl; writes = refl }) }
    one f n (suc j) a x = no-element _ j d x

    reached : (g : Option WriteFields) (n : Option ℕ) → m.mirror ≡ mirror.Asked → slice_get (mirror_dial w c g n) i ≡ Some d → LoneDial (Some m) c i d
    reached (Some f) (Some n) a x = one f n i a x
    reached (Some f) None a x = no-element _ i d x
    reached None n a x = no-element _ i d x

    by-mirror : (q : Mirror) → m.mirror ≡ q → slice_get (dials_of q w c fields) i ≡ Some d → LoneDial (Some m) c i d
    by-mirror mirror.Asked a x = reached _ _ a x
    by-mirror mirror.Nobody a x = no-element _ i d x
    by-mirror mirror.Unreachable a x = no-element _ i d x
    by-mirror mirror.Open a x = no-element _ i d x
    by-mirror mirror.Ended a x = no-element _ i d x

dials-are : (w : World) (c : ℕ) (fields : WriteFields) (o : Option MemberState) (i : ℕ) (d : Dial) → slice_get (member_dials o w c fields) i ≡ Some d → DialIs c d
dials-are w c fields o i d e = (lone-dial w c fields o i d e).is

record Head (ds : List Dial) : Type 0 where
  dial : Dial
  found : slice_get ds 0 ≡ Some dial

head-there : (ds : List Dial) → 0 < length ds → Head ds
head-there [] lt = absurd (omega (arith, lt))
head-there (d ∷ ds) lt = record { dial = d; found = refl }

module _ (w : World) (dm um : ℕ → Marks) (c : ℕ) (h : Ordered w) (p : Placed (marked w dm um)) (at : OnlyAt w dm c) (of : OnlyOf w um (by_member c)) where
  stay-here : MarksStay w dm um c 0
  stay-here = stays w dm um (by_member c) c 0 at of refl

  writer-here : (k : Change) → WriterIs (dialled_with w k) um 0 (w.writers 0)
  writer-here k = kept-writer w dm um h p k 0 (apart w um (by_member c) (by_writer 0) of (λ e. cc))

  -- THE END ENDS

  pub closing-owes : Owes w dm um (closing (marked w dm um) c)
  closing-owes = record {
    sends = record { dials = λ i d e. no-element _ i d e; uppers = λ i d e f g. no-element _ i d f; downs = λ d i m e. no-element _ i m e; ups = λ d i m e. no-element _ i m e; quiet = λ d e. refl };
    stay = stay-here;
    below = tt;
    mirror = tt;
    dialled = λ d lt e. tt;
    writer = writer-here (closing (marked w dm um) c);
    reader = kept-reader w dm um h p (closing (marked w dm um) c) 0;
    primary = kept-primary w dm um h p (closing (marked w dm um) c) 0;
  }

  pub unless-owes : (fails : Bool) → IfSome (unless_failing fails (closing (marked w dm um) c)) (Owes w dm um)
  unless-owes true = tt
  unless-owes false = closing-owes

  -- an answer before the connection is shut
  answering-owes : (answers : List Message) → AnswersUp w c answers → Owes w dm um (record (closing (marked w dm um) c) { ups = sent_on (Some c) answers })
  answering-owes answers a = record {
    sends = record { dials = λ i d f. no-element _ i d f; uppers = λ i d e f g. no-element _ i d f; downs = λ d i m f. no-element _ i m f; ups = up-sends w c answers a; quiet = λ d f. sent-elsewhere c d answers f };
    stay = stay-here;
    below = tt;
    mirror = tt;
    dialled = λ d lt e. tt;
    writer = writer-here (closing (marked w dm um) c);
    reader = kept-reader w dm um h p (closing (marked w dm um) c) 0;
    primary = kept-primary w dm um h p (closing (marked w dm um) c) 0;
  }

  breaking-owes : (b : ℕ) (r : FullReplica) (e : ReplicaEvent) (answers : List Message) → AnswersUp w c answers → Owes w dm um (breaking (marked w dm um) c b r e answers)
  breaking-owes b r e answers a =
      let o = answering-owes answers a in
      record { sends = record { dials = o.sends.dials; uppers = o.sends.uppers; downs = o.sends.downs; ups = o.sends.ups; quiet = o.sends.quiet }; stay = o.stay; below = o.below; mirror = o.mirror; dialled = o.dialled; writer = o.writer; reader = o.reader; primary = o.primary }

  -- READS

  one-up : (x : Message) → (purpose_of (w.dialled c).upper ≡ reading) → comes_up reading (is_first (length (w.ups c))) x ≡ true → AnswersUp w c (x ∷ [])
  one-up x is e = one-answer w c x (subst (λ (q : Purpose). comes_up q (is_first (length (w.ups c))) x ≡ true) (sym is) e)

  some-sent : (x : Message) → is_empty (w.ups c ++ sent_on (Some c) (x ∷ []) c) ≡ false
  some-sent x = subst (λ (ms : List Message). is_empty (w.ups c ++ ms) ≡ false) (sym (sent-here c (x ∷ []))) (go (w.ups c))
    where
      go : (ms : List Message) → is_empty (ms ++ x ∷ []) ≡ false
      go [] = refl
      go (m ∷ ms) = refl

  serving-owes : (b : ℕ) (s : ServingState) (x : Message) → (purpose_of (w.dialled c).upper ≡ reading) → NotDialled w c → AnswersUp w c (x ∷ [])
      → Owes w dm um (record (still (marked w dm um)) { lower_at = c; lower = serves b s; ups = sent_on (Some c) (x ∷ []) })
  serving-owes b s x is undialled a = record {
    sends = record { dials = λ i d f. no-element _ i d f; uppers = λ i d e f g. no-element _ i d f; downs = λ d i m f. no-element _ i m f; ups = up-sends w c (x ∷ []) a; quiet = λ d f. sent-elsewhere c d (x ∷ []) f };
    stay = stay-here;
    below = (is, some-sent x);
    mirror = tt;
    dialled = λ d lt e. absurd (undialled d lt e);
    writer = writer-here (still (marked w dm um));
    reader = kept-reader w dm um h p (still (marked w dm um)) 0;
    primary = kept-primary w dm um h p (still (marked w dm um)) 0;
  }

  first-up : w.ups c ≡ [] → is_first (length (w.ups c)) ≡ true
  first-up e = first-of (length (w.ups c)) (ap length e)

  first-empty : is_empty (w.ups c) ≡ true → is_first (length (w.ups c)) ≡ true
  first-empty e = go (w.ups c) e
    where
      go : (ms : List Message) → is_empty ms ≡ true → is_first (length ms) ≡ true
      go [] f = refl
      go (m ∷ ms) f = cc

  later-up : is_empty (w.ups c) ≡ false → is_first (length (w.ups c)) ≡ false
  later-up e = go (w.ups c) e
    where
      go : (ms : List Message) → is_empty ms ≡ false → is_first (length ms) ≡ false
      go [] f = cc
      go (m ∷ ms) f = refl

  read-owes : (b : ℕ) (s : Result ServingState RequestRefusal) → (purpose_of (w.dialled c).upper ≡ reading) → w.ups c ≡ [] → NotDialled w c → Owes w dm um (read_change (marked w dm um) c b s)
  read-owes b (Ok s) is none undialled = serving-owes b s _ is undialled (one-up _ is (rw (first-up none) refl))
  read-owes b (Err r) is none undialled = answering-owes _ (one-up _ is (rw (first-up none) refl))

  failing-read-owes : (b : ℕ) (e : Result Event RequestRefusal) → (purpose_of (w.dialled c).upper ≡ reading) → w.ups c ≡ [] → IfSome (failing_read (marked w dm um) c b e) (Owes w dm um)
  failing-read-owes b (Err r) is none = tt
  failing-read-owes b (Ok e) is none = breaking-owes b (faulted_read (replica_at (marked w dm um) c b)).0 (replica_event.Other e) _ (one-up _ is (rw (first-up none) refl))

  read-request-owes : (r : ReadOp) (fails : Bool) → (purpose_of (w.dialled c).upper ≡ reading) → w.ups c ≡ [] → NotDialled w c → IfSome (read_request (marked w dm um) c r fails) (Owes w dm um)
  read-request-owes r true is none undialled = failing-read-owes r.block.block.0 (read_event r) is none
  read-request-owes r false is none undialled = read-owes r.block.block.0 (read_at r (replica_at (marked w dm um) c r.block.block.0)) is none undialled

  piece-owes : (b : ℕ) (s : ServingState) (o : Option Packet) → (purpose_of (w.dialled c).upper ≡ reading) → is_empty (w.ups c) ≡ false → NotDialled w c → Owes w dm um (piece_as (marked w dm um) c b s o)
  piece-owes b s None is some undialled = closing-owes
  piece-owes b s (Some q) is some undialled = serving-owes b s (packet q) is undialled (one-up (packet q) is (rw (later-up some) refl))

  serve-owes : (b : ℕ) (s : ServingState) (o : Option Event) (fails : Bool) → (purpose_of (w.dialled c).upper ≡ reading) → is_empty (w.ups c) ≡ false → NotDialled w c → IfSome (serve_change (marked w dm um) c b s o fails) (Owes w dm um)
  serve-owes b s None fails is some undialled = tt
  serve-owes b s (Some e) true is some undialled = breaking-owes b (faulted_piece s (replica_at (marked w dm um) c b)).0 (replica_event.Other e) [] (no-answers w c)
  serve-owes b s (Some e) false is some undialled = piece-owes b (piece_at s (replica_at (marked w dm um) c b)).serving (piece_at s (replica_at (marked w dm um) c b)).packet is some undialled

  -- BLOCK RECOVERIES

  recovery-owes : (r : RecoveryOp) (s : Served) (b : Option Break) → (purpose_of (w.dialled c).upper ≡ recovering) → NotDialled w c → Owes w dm um (recovery_change (marked w dm um) c r s b)
  recovery-owes r s b is undialled =
      let x : Message = recovery_answer (answer_of s.reply) in
      record {
        sends = record {
          dials = λ i d f. no-element _ i d f;
          uppers = λ i d e f g. no-element _ i d f;
          downs = λ d i m f. no-element _ i m f;
          ups = up-sends w c (x ∷ []) (one-answer w c x (subst (λ (q : Purpose). comes_up q (is_first (length (w.ups c))) x ≡ true) (sym is) refl));
          quiet = λ d f. sent-elsewhere c d (x ∷ []) f;
        };
        stay = stay-here;
        below = is;
        mirror = tt;
        dialled = λ d lt e. absurd (undialled d lt e);
        writer = writer-here (still (marked w dm um));
        reader = kept-reader w dm um h p (still (marked w dm um)) 0;
        primary = kept-primary w dm um h p (still (marked w dm um)) 0;
      }

  failing-recovery-owes : (r : RecoveryOp) (e : Result Event RecoveryReply) → (purpose_of (w.dialled c).upper ≡ recovering) → NotDialled w c → IfSome (failing_recovery (marked w dm um) c r e) (Owes w dm um)
  failing-recovery-owes r (Err said) is undialled = tt
  failing-recovery-owes r (Ok e) is undialled = recovery-owes r (serve_faulted (replica_at (marked w dm um) c r.block.block.0)) _ is undialled

  recovery-request-owes : (r : RecoveryOp) (fails : Bool) → (purpose_of (w.dialled c).upper ≡ recovering) → NotDialled w c → IfSome (recovery_request (marked w dm um) c r fails) (Owes w dm um)
  recovery-request-owes r true is undialled = failing-recovery-owes r (recovery_event r) is undialled
  recovery-request-owes r false is undialled = recovery-owes r (serve (replica_at (marked w dm um) c r.block.block.0) r) _ is undialled

  next-owes : (x : Next) (fails : Bool) → (purpose_of (w.dialled c).upper ≡ recovering) → NotDialled w c → IfSome (next_recovery (marked w dm um) c x fails) (Owes w dm um)
  next-owes (message (request (op.Recovery r))) fails is undialled = recovery-request-owes r fails is undialled
  next-owes (message (request (op.Write r))) fails is undialled = unless-owes fails
  next-owes (message (request (op.Read r))) fails is undialled = unless-owes fails
  next-owes (message (request (op.Transfer r))) fails is undialled = unless-owes fails
  next-owes (message (request (op.Checksum r))) fails is undialled = unless-owes fails
  next-owes (message (packet q)) fails is undialled = unless-owes fails
  next-owes (message (ack a)) fails is undialled = unless-owes fails
  next-owes (message (response r)) fails is undialled = unless-owes fails
  next-owes (message (read_status s)) fails is undialled = unless-owes fails
  next-owes (message (recovery_answer a)) fails is undialled = unless-owes fails
  next-owes the_end fails is undialled = unless-owes fails

  -- MEMBERS

  speaks-empty : (fields : WriteFields) (ups : List Message) (b a : Bool) (said : Option Upward) → is_empty ups ≡ b → Speaks b said a → is_empty (ups ++ sent_up fields said) ≡ a
  speaks-empty fields [] true true None e s = refl
  speaks-empty fields [] true false (Some (upward.Answer x)) e s = refl
  speaks-empty fields (y ∷ ys) false false None e s = refl
  speaks-empty fields (y ∷ ys) false false (Some (upward.Ack x)) e s = refl
  speaks-empty fields ups true false None e s = absurd s
  speaks-empty fields ups true true (Some (upward.Answer x)) e s = absurd s
  speaks-empty fields ups true true (Some (upward.Ack x)) e s = absurd s
  speaks-empty fields ups true false (Some (upward.Ack x)) e s = absurd s
  speaks-empty fields ups false true None e s = absurd s
  speaks-empty fields ups false true (Some (upward.Ack x)) e s = absurd s
  speaks-empty fields ups false true (Some (upward.Answer x)) e s = absurd s
  speaks-empty fields ups false false (Some (upward.Answer x)) e s = absurd s
  speaks-empty fields [] false a said e s = cc
  speaks-empty fields (y ∷ ys) true a said e s = cc

  said-up : (fields : WriteFields) (b a : Bool) (said : Option Upward) → purpose_of (w.dialled c).upper ≡ pipeline → is_empty (w.ups c) ≡ b → Speaks b said a → AnswersUp w c (sent_up fields said)
  said-up fields true true None is e s = no-answers w c
  said-up fields false false None is e s = no-answers w c
  said-up fields true false (Some (upward.Answer x)) is e s = one-answer w c (upward_message fields (upward.Answer x)) (subst (λ (q : Purpose). comes_up q (is_first (length (w.ups c))) (upward_message fields (upward.Answer x)) ≡ true) (sym is) (rw (first-empty e) refl))
  said-up fields false false (Some (upward.Ack x)) is e s = one-answer w c (ack x) (subst (λ (q : Purpose). comes_up q (is_first (length (w.ups c))) (ack x) ≡ true) (sym is) (rw (later-up e) refl))
  said-up fields true false None is e s = absurd s
  said-up fields true true (Some (upward.Answer x)) is e s = absurd s
  said-up fields true true (Some (upward.Ack x)) is e s = absurd s
  said-up fields true false (Some (upward.Ack x)) is e s = absurd s
  said-up fields false true None is e s = absurd s
  said-up fields false true (Some (upward.Ack x)) is e s = absurd s
  said-up fields false true (Some (upward.Answer x)) is e s = absurd s
  said-up fields false false (Some (upward.Answer x)) is e s = absurd s

  passed-packet : (b : Bool) (x : Next) → (b ≡ true → (y : Message) → x ≡ message y → is_packet y ≡ true) → (i : ℕ) (m : Message) → slice_get (passed b x) i ≡ Some m → is_packet m ≡ true
  passed-packet true (message y) f zero m e = subst (λ (z : Message). is_packet z ≡ true) (same_Some y m e) (f refl y refl)
  passed-packet true (message y) f (suc i) m e = no-element _ i m e
  passed-packet true the_end f i m e = no-element _ i m e
  passed-packet false (message y) f i m e = no-element _ i m e
  passed-packet false the_end f i m e = no-element _ i m e

  -- what a member's step owes
  record StepOwes (m : FullMember) (x : Next) (s : Step) : Type 0 where
    asked : 0 < (dm c).taken
    forwards : s.effect.forwards ≡ true → (y : Message) → x ≡ message y → is_packet y ≡ true
    speaks : Speaks (is_waiting m.state.mirror) s.effect.sends (is_waiting s.member.mirror)
    heard : (d : ℕ) → m.mirror ≡ Some d → hears s.member ≡ true → HasHeard s.member.mirror (um d).taken

  member-owes : (m : FullMember) (x : Next) (s : Step) (b : Option Break) → w.lowers c ≡ writes m → StepOwes m x s → Owes w dm um (member_change (marked w dm um) c m x s b)
  member-owes m x s b l o = record {
    sends = record {
      dials = λ i d f. no-element _ i d f;
      uppers = λ i d e f g. no-element _ i d f;
      downs = λ d i y e. down d i y (sent-at m.mirror (passed s.effect.forwards x) d i y e);
      ups = up-sends w c _ (said-up m.fields (is_waiting m.state.mirror) (is_waiting s.member.mirror) s.effect.sends here.writes here.answered o.speaks);
      quiet = λ d f. sent-elsewhere c d _ f;
    };
    stay = stay-here;
    below = record {
      writes = here.writes;
      asked = o.asked;
      answered = ap (λ (ms : List Message). is_empty (w.ups c ++ ms)) (sent-here c (sent_up m.fields s.effect.sends)) ∙ speaks-empty m.fields (w.ups c) _ _ s.effect.sends here.answered o.speaks;
    };
    mirror = mirrored m.mirror refl (p-conn l) mirror-was;
    dialled = λ d lt e. subst (λ (k : Lower). HasDialled d k → m.mirror ≡ Some d) (sym l) (λ z. z) (h.dialled_by d c (known lt) (upper-was d lt e));
    writer = writer-here (still (marked w dm um));
    reader = kept-reader w dm um h p (still (marked w dm um)) 0;
    primary = kept-primary w dm um h p (still (marked w dm um)) 0;
  }
    where
      here : IsMember (w.dialled c).upper (w.down_marks c).taken (w.ups c) m.state.mirror
      here = subst (IsBelow (w.dialled c).upper (w.down_marks c).taken (w.ups c)) l (h.below c)

      mirror-was : MirrorIs w.dialled w.up_marks c (writes m)
      mirror-was = subst (MirrorIs w.dialled w.up_marks c) l (h.mirrors c)

      p-conn : w.lowers c ≡ writes m → IsConn w.next_conn m.mirror
      p-conn e = subst (IsLower w.next_conn) e (p.lowers c)

      known : {d : ℕ} → d < w.next_conn + 0 → d < w.next_conn
      known {d} lt = omega (arith, lt)

      upper-was : (d : ℕ) → d < w.next_conn + 0 → (dialled_with w (still (marked w dm um)) d).upper ≡ by_member c → (w.dialled d).upper ≡ by_member c
      upper-was d lt e = sym (ap (λ (y : Dialled). y.upper) (dialled-before w (still (marked w dm um)) d (known lt))) ∙ e

      down : (d i : ℕ) (y : Message) → SentAt m.mirror (passed s.effect.forwards x) d i y → comes_down (purpose_of (w.dialled d).upper) false y ≡ true
      down d i y a =
          let k : IsMirror (w.dialled d) (w.up_marks d).taken c d m.state = subst (λ (z : Option ℕ). IfSome z (λ n. IsMirror (w.dialled n) (w.up_marks n).taken c n m.state)) a.is mirror-was in
          subst (λ (u : Upper). comes_down (purpose_of u) false y ≡ true) (sym k.upper) (passed-packet s.effect.forwards x o.forwards i y a.found)

      mirrored : (z : Option ℕ) → m.mirror ≡ z → IsConn w.next_conn z → IfSome z (λ n. IsMirror (w.dialled n) (w.up_marks n).taken c n m.state)
          → IfSome z (λ n. IsMirror (dialled_with w (still (marked w dm um)) n) (um n).taken c n s.member)
      mirrored None e i y = tt
      mirrored (Some n) e i y = record { upper = ap (λ (q : Dialled). q.upper) (dialled-before w (still (marked w dm um)) n i.below) ∙ y.upper; later = y.later; heard = o.heard n e }

  turn-owes : (m : FullMember) (x : Next) (t : Turn) (fails : Bool) → w.lowers c ≡ writes m → ((b : Booked) (r : FullReplica) → StepOwes m x (record { member = (settled m.state t b).0; replica = r; effect = (settled m.state t b).1 }))
      → IfSome (turn_change (marked w dm um) c m x t fails) (Owes w dm um)
  turn-owes m x t true l o = failing t.call
    where
      failing : (e : Option ReplicaEvent) → IfSome (failing_turn (marked w dm um) c m x t e) (Owes w dm um)
      failing None = tt
      failing (Some e) = member-owes m x (faulted_step m.state (replica_at (marked w dm um) c (block_of m.fields)) t) _ l (o booked.Failed _)
  turn-owes m x t false l o = member-owes m x (step m.state (replica_at (marked w dm um) c (block_of m.fields)) t) _ l (o (outcome_of (replica_at (marked w dm um) c (block_of m.fields)) t.call) _)

  -- A NEW MEMBER

  setup-below : (fields : WriteFields) (o : Option MemberState) (said : Option Upward) → purpose_of (w.dialled c).upper ≡ pipeline → w.ups c ≡ [] → 0 < (dm c).taken → SaysAs o said
      → IsBelow (w.dialled c).upper (dm c).taken (w.ups c ++ sent_on (Some c) (sent_up fields said) c) (lower_of o fields w.next_conn)
  setup-below fields None said is none asked says = tt
  setup-below fields (Some m) said is none asked says = record {
    writes = is;
    asked = asked;
    answered = ap (λ (ms : List Message). is_empty (w.ups c ++ ms)) (sent-here c (sent_up fields said)) ∙ speaks-empty fields (w.ups c) true _ said (ap is_empty none) says;
  }

  setup-up-said : (fields : WriteFields) (o : Option MemberState) (said : Option Upward) → purpose_of (w.dialled c).upper ≡ pipeline → w.ups c ≡ [] → SaysAs o said → AnswersUp w c (sent_up fields said)
  setup-up-said fields None said is none says = said-up fields true false said is (ap is_empty none) says
  setup-up-said fields (Some m) said is none says = said-up fields true (is_waiting m.mirror) said is (ap is_empty none) says

  setup-mirror : (fields : WriteFields) (s : Setup) (b : Option Break) → c < w.next_conn → Fits (marked w dm um) (setup_change (marked w dm um) c fields s b) → (o : Option MemberState) → s.member ≡ o
      → MirrorIs (dialled_with w (setup_change (marked w dm um) c fields s b)) um c (lower_of o fields w.next_conn)
  setup-mirror fields s b lt f None e = tt
  setup-mirror fields s b lt f (Some m) e = go m.mirror refl
    where
      k : Change
      k = setup_change (marked w dm um) c fields s b

      below-is : m.mirror ≡ mirror.Asked → w.next_conn < w.next_conn + length k.dials
      below-is a = (subst (λ (z : Option ℕ). IsConn (w.next_conn + length k.dials) z) (ap (λ (q : Mirror). mirror_conn q w.next_conn) a) (subst (λ (z : Option MemberState). IsLower (w.next_conn + length k.dials) (lower_of z fields w.next_conn)) e f.lower)).below

      go : (q : Mirror) → m.mirror ≡ q → IfSome (mirror_conn q w.next_conn) (λ n. IsMirror (dialled_with w k n) (um n).taken c n m)
      go mirror.Nobody a = tt
      go mirror.Unreachable a = tt
      go mirror.Open a = tt
      go mirror.Ended a = tt
      go mirror.Asked a =
          let x = head-there k.dials (omega (arith, below-is a)) in
          record {
            upper = ap (λ (d : Dialled). d.upper) (dialled-here w k w.next_conn 0 x.dial (omega arith) x.found) ∙ (dials-are (marked w dm um) c fields s.member 0 x.dial x.found).upper;
            later = lt;
            heard = λ hears. subst (λ (z : Mirror). HasHeard z (um w.next_conn).taken) (sym a) (ap (λ (y : Marks). y.taken) ((p.undialled w.next_conn (omega arith)).up_marks));
          }

  setup-dialled : (fields : WriteFields) (s : Setup) (b : Option Break) → w.lowers c ≡ idle → (o : Option MemberState) → s.member ≡ o → (d : ℕ) → d < w.next_conn + length (setup_change (marked w dm um) c fields s b).dials
      → (dialled_with w (setup_change (marked w dm um) c fields s b) d).upper ≡ by_member c → HasDialled d (lower_of o fields w.next_conn)
  setup-dialled fields s b l None e d lt u = tt
  setup-dialled fields s b l (Some m) e d lt u = go (dial_at w.next_conn ds d) refl u
    where
      ds : List Dial
      ds = member_dials s.member (marked w dm um) c fields

      go : (x : Option Dial) → dial_at w.next_conn ds d ≡ x → (unwrap_or (option_map (λ y. y.dialled) x) (w.dialled d)).upper ≡ by_member c → mirror_conn m.mirror w.next_conn ≡ Some d
      go None is f = absurd (subst (HasDialled d) l (h.dialled_by d c (dial-within w.next_conn d ds is lt) f))
      go (Some y) is f =
          let x = lone-dial (marked w dm um) c fields s.member (d - w.next_conn) y (dial-is w.next_conn d ds y is) in
          let a : m.mirror ≡ mirror.Asked = subst LowerAsked e x.asked in
          ap (λ (q : Mirror). mirror_conn q w.next_conn) a ∙ ap Some (omega (arith, x.first, dial-past w.next_conn d ds y is))

  setup-owes : (fields : WriteFields) (s : Setup) (b : Option Break) → c < w.next_conn → w.lowers c ≡ idle → purpose_of (w.dialled c).upper ≡ pipeline → w.ups c ≡ [] → 0 < (dm c).taken
      → SaysAs s.member s.effect.sends → Fits (marked w dm um) (setup_change (marked w dm um) c fields s b) → Owes w dm um (setup_change (marked w dm um) c fields s b)
  setup-owes fields s b lt l is none asked says f =
      let k = setup_change (marked w dm um) c fields s b in
      record {
        sends = record {
          dials = λ i d e. let x = dials-are (marked w dm um) c fields s.member i d e in subst (λ (u : Upper). comes_down (purpose_of u) true d.request ≡ true) (sym x.upper) x.writes;
          uppers = λ i d n e g. let x = dials-are (marked w dm um) c fields s.member i d e in sym (member-same c n (sym x.upper ∙ g));
          downs = λ d i m e. no-element _ i m e;
          ups = up-sends w c _ (setup-up-said fields s.member s.effect.sends is none says);
          quiet = λ d e. sent-elsewhere c d _ e;
        };
        stay = stay-here;
        below = setup-below fields s.member s.effect.sends is none asked says;
        mirror = setup-mirror fields s b lt f s.member refl;
        dialled = setup-dialled fields s b l s.member refl;
        writer = writer-here k;
        reader = kept-reader w dm um h p k 0;
        primary = kept-primary w dm um h p k 0;
      }

  failing-write-owes : (fields : WriteFields) (e : Result Event RequestRefusal) → c < w.next_conn → w.lowers c ≡ idle → purpose_of (w.dialled c).upper ≡ pipeline → w.ups c ≡ [] → 0 < (dm c).taken
      → IfSome (failing_write (marked w dm um) c fields e) (Fits (marked w dm um)) → IfSome (failing_write (marked w dm um) c fields e) (Owes w dm um)
  failing-write-owes fields (Err refused) lt l is none asked f = tt
  failing-write-owes fields (Ok e) lt l is none asked f = setup-owes fields (faulted_request (replica_at (marked w dm um) c (block_of fields))) _ lt l is none asked tt f

  write-owes : (fields : WriteFields) (answered fails : Bool) → c < w.next_conn → w.lowers c ≡ idle → purpose_of (w.dialled c).upper ≡ pipeline → w.ups c ≡ [] → 0 < (dm c).taken
      → IfSome (write_request (marked w dm um) c fields answered fails) (Owes w dm um)
  write-owes fields answered true lt l is none asked =
      failing-write-owes fields (request_event (record { 0 = c }) fields (rule_in (replica_at (marked w dm um) c (block_of fields)).known)) lt l is none asked (write-fits (marked w dm um) c fields answered true p lt)
  write-owes fields answered false lt l is none asked =
      setup-owes fields (request_step (record { 0 = c }) fields (is_asked (marked w dm um) c fields answered) (replica_at (marked w dm um) c (block_of fields))) _ lt l is none asked
      (request-says (record { 0 = c }) fields (is_asked (marked w dm um) c fields answered) (replica_at (marked w dm um) c (block_of fields)) (request_event (record { 0 = c }) fields (rule_in (replica_at (marked w dm um) c (block_of fields)).known)))
      (write-fits (marked w dm um) c fields answered false p lt)

  -- THE LOWER END TAKES SOMETHING

  undialled-of : (l : Lower) → w.lowers c ≡ l → ((d : ℕ) → HasDialled d l → ⊥) → NotDialled w c
  undialled-of l e never d lt u = never d (subst (HasDialled d) e (h.dialled_by d c (omega (arith, lt)) (sym (ap (λ (y : Dialled). y.upper) (dialled-before w (still w) d (omega (arith, lt)))) ∙ u)))

  first-owes : (x : Message) (answered fails : Bool) → c < w.next_conn → w.lowers c ≡ idle → w.ups c ≡ [] → 0 < (dm c).taken → comes_down (purpose_of (w.dialled c).upper) true x ≡ true
      → IfSome (first_message (marked w dm um) c x answered fails) (Owes w dm um)
  first-owes (request (op.Write fields)) answered fails lt l none asked is = write-owes fields answered fails lt l (write-is _ fields is) none asked
  first-owes (request (op.Read r)) answered fails lt l none asked is = read-request-owes r fails (read-is _ r is) none (undialled-of idle l (λ d x. x))
  first-owes (request (op.Recovery r)) answered fails lt l none asked is = recovery-request-owes r fails (recovery-is _ r is) (undialled-of idle l (λ d x. x))
  first-owes (request (op.Transfer r)) answered fails lt l none asked is = unless-owes fails
  first-owes (request (op.Checksum r)) answered fails lt l none asked is = unless-owes fails
  first-owes (packet q) answered fails lt l none asked is = unless-owes fails
  first-owes (ack a) answered fails lt l none asked is = unless-owes fails
  first-owes (response r) answered fails lt l none asked is = unless-owes fails
  first-owes (read_status s) answered fails lt l none asked is = unless-owes fails
  first-owes (recovery_answer a) answered fails lt l none asked is = unless-owes fails

  -- a turn that isn't one of the mirror's
  still-owes : (m : FullMember) (x : Next) (t : Turn) → w.lowers c ≡ writes m → (w.down_marks c).taken ≤ (dm c).taken → ((d : ℕ) → (um d).taken ≡ (w.up_marks d).taken)
      → Speaks (is_waiting m.state.mirror) t.effect.sends (is_waiting t.mirror) → (is_heard t.mirror ≡ true → t.mirror ≡ m.state.mirror)
      → ((y : Message) → x ≡ message y → is_packet y ≡ true) → (b : Booked) (r : FullReplica) → StepOwes m x (record { member = (settled m.state t b).0; replica = r; effect = (settled m.state t b).1 })
  still-owes m x t l le same says keeps packets b r =
      let here : IsMember (w.dialled c).upper (w.down_marks c).taken (w.ups c) m.state.mirror = subst (IsBelow (w.dialled c).upper (w.down_marks c).taken (w.ups c)) l (h.below c) in
      let was : MirrorIs w.dialled w.up_marks c (writes m) = subst (MirrorIs w.dialled w.up_marks c) l (h.mirrors c) in
      let k = settled-still m.state t b keeps in
      record {
        asked = omega (arith, here.asked, le);
        forwards = λ f y e. packets y e;
        speaks = settled-speaks m.state t b says;
        heard = λ d e g.
            let i : IsMirror (w.dialled d) (w.up_marks d).taken c d m.state = subst (λ (z : Option ℕ). IfSome z (λ n. IsMirror (w.dialled n) (w.up_marks n).taken c n m.state)) e was in
            subst (λ (n : ℕ). HasHeard (settled m.state t b).0.mirror n) (sym (same d)) (subst (λ (q : Mirror). HasHeard q (w.up_marks d).taken) (sym (k.mirror_same g)) (i.heard (k.heard g)));
      }

  pub lower-down-owes : (l : Lower) (x : Next) (answered fails : Bool) → c < w.next_conn → w.lowers c ≡ l → (w.down_marks c).taken ≤ (dm c).taken → ((d : ℕ) → (um d).taken ≡ (w.up_marks d).taken)
      → ((y : Message) → x ≡ message y → 0 < (dm c).taken) → ((y : Message) → x ≡ message y → comes_down (purpose_of (w.dialled c).upper) (is_first (w.down_marks c).taken) y ≡ true)
      → IfSome (lower_down l (marked w dm um) c x answered fails) (Owes w dm um)
  lower-down-owes idle (message y) answered fails lt l le same grown order =
      let here : IsBelow (w.dialled c).upper (w.down_marks c).taken (w.ups c) idle = subst (IsBelow (w.dialled c).upper (w.down_marks c).taken (w.ups c)) l (h.below c) in
      first-owes y answered fails lt l here.1 (grown y refl) (subst (λ (b : Bool). comes_down (purpose_of (w.dialled c).upper) b y ≡ true) (first-of _ here.0) (order y refl))
  lower-down-owes idle the_end answered fails lt l le same grown order = unless-owes fails
  lower-down-owes (writes m) x answered fails lt l le same grown order =
      when-each (Owes w dm um) (takes_next m.state (pending_at (marked w dm um) c m) x) _
      (λ _. turn-owes m x (down_turn m.state (above_of x)) fails l (still-owes m x (down_turn m.state (above_of x)) l le same (down-speaks m.state (above_of x)) (down-keeps m.state (above_of x)) packets))
    where
      here : IsMember (w.dialled c).upper (w.down_marks c).taken (w.ups c) m.state.mirror
      here = subst (IsBelow (w.dialled c).upper (w.down_marks c).taken (w.ups c)) l (h.below c)

      packets : (y : Message) → x ≡ message y → is_packet y ≡ true
      packets y e = subst (λ (q : Purpose). comes_down q false y ≡ true) here.writes (subst (λ (b : Bool). comes_down (purpose_of (w.dialled c).upper) b y ≡ true) (not-first _ here.asked) (order y e))
  lower-down-owes (serves b s) x answered fails lt l le same grown order = unless-owes fails
  lower-down-owes recovers x answered fails lt l le same grown order =
      next-owes x fails (subst (IsBelow (w.dialled c).upper (w.down_marks c).taken (w.ups c)) l (h.below c)) (undialled-of recovers l (λ d z. z))
  lower-down-owes ended_below x answered fails lt l le same grown order = tt

  ready-owes : (m : FullMember) (o : Option Turn) (fails : Bool) → w.lowers c ≡ writes m → (w.down_marks c).taken ≤ (dm c).taken → ((d : ℕ) → (um d).taken ≡ (w.up_marks d).taken)
      → IfSome o (λ t. Speaks (is_waiting m.state.mirror) t.effect.sends (is_waiting t.mirror)) → IfSome o (λ t. is_heard t.mirror ≡ true → t.mirror ≡ m.state.mirror)
      → IfSome (ready_change (marked w dm um) c m o fails) (Owes w dm um)
  ready-owes m None fails l le same says keeps = tt
  ready-owes m (Some t) fails l le same says keeps = turn-owes m the_end t fails l (still-owes m the_end t l le same says keeps (λ y e. cc))

  pub lower-ready-owes : (l : Lower) (fails : Bool) → w.lowers c ≡ l → (w.down_marks c).taken ≤ (dm c).taken → ((d : ℕ) → (um d).taken ≡ (w.up_marks d).taken)
      → IfSome (lower_ready l (marked w dm um) c fails) (Owes w dm um)
  lower-ready-owes idle fails l le same = tt
  lower-ready-owes (writes m) fails l le same =
      let r : FullReplica = replica_at (marked w dm um) c (block_of m.fields) in
      ready-owes m (ready_turn_at m.state r) fails l le same (ready-speaks m.state _ _) (ready-keeps m.state _ _)
  lower-ready-owes (serves b s) fails l le same =
      let here : IsBelow (w.dialled c).upper (w.down_marks c).taken (w.ups c) (serves b s) = subst (IsBelow (w.dialled c).upper (w.down_marks c).taken (w.ups c)) l (h.below c) in
      serve-owes b s (next_call s) fails here.0 here.1 (undialled-of (serves b s) l (λ d z. z))
  lower-ready-owes recovers fails l le same = tt
  lower-ready-owes ended_below fails l le same = tt

  -- A MEMBER TAKES FROM ITS MIRROR

  taken-up : (x : Next) (n : MemberState) (taken : ℕ) → HearsOn (below_of x) n → ((y : Message) → x ≡ message y → 0 < taken) → hears n ≡ true → HasHeard n.mirror taken
  taken-up (message y) n taken o grown g = subst (λ (q : Mirror). HasHeard q taken) (sym (o.opened g)) (grown y refl)
  taken-up the_end n taken o grown g = absurd (o.not_end g refl)

  up-owes : (m : FullMember) (x : Next) (fails : Bool) → w.lowers c ≡ writes m → (w.down_marks c).taken ≤ (dm c).taken
      → ((d : ℕ) → m.mirror ≡ Some d → (y : Message) → x ≡ message y → 0 < (um d).taken) → IfSome (member_up (marked w dm um) c m x fails) (Owes w dm um)
  up-owes m x fails l le grown = when-each (Owes w dm um) (hears m.state) _ (λ g. turn-owes m x turn fails l (λ b r. record {
    asked = omega (arith, here.asked, le);
    forwards = λ f y e. absurd (clash _ (settled-forwards m.state turn b (one g).forwards_is) f);
    speaks = settled-speaks m.state turn b (up-speaks m.state _ (below_of x));
    heard = λ d e k. taken-up x (settled m.state turn b).0 (um d).taken (settled-on m.state turn b (below_of x) (one g)) (grown d e) k;
  }))
    where
      turn : Turn
      turn = up_turn m.state (oldest_at (replica_at (marked w dm um) c (block_of m.fields))) (below_of x)

      one : hears m.state ≡ true → UpTurn (below_of x) turn
      one g = up-up m.state _ (below_of x) g

      here : IsMember (w.dialled c).upper (w.down_marks c).taken (w.ups c) m.state.mirror
      here = subst (IsBelow (w.dialled c).upper (w.down_marks c).taken (w.ups c)) l (h.below c)

      clash : (b : Bool) → b ≡ false → b ≡ true → ⊥
      clash true f t = cc
      clash false f t = cc

  pub mirror-up-owes : (l : Lower) (x : Next) (fails : Bool) → w.lowers c ≡ l → (w.down_marks c).taken ≤ (dm c).taken
      → ((m : FullMember) → l ≡ writes m → (d : ℕ) → m.mirror ≡ Some d → (y : Message) → x ≡ message y → 0 < (um d).taken) → IfSome (mirror_up l (marked w dm um) c x fails) (Owes w dm um)
  mirror-up-owes idle x fails l le grown = tt
  mirror-up-owes (writes m) x fails l le grown = when-each (Owes w dm um) (is_alive (marked w dm um) (w.dialled c).to) _ (λ _. up-owes m x fails l le (grown m refl))
  mirror-up-owes (serves b s) x fails l le grown = tt
  mirror-up-owes recovers x fails l le grown = tt
  mirror-up-owes ended_below x fails l le grown = tt
