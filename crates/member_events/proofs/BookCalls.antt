-- What calls a turn made on the files of a replica, by how its call on the book ended.
use Rattle.block_files.specs.BlockCalls.{calls_of}
use Rattle.hd_base.specs.FileMaps.{FileMap}
use Rattle.hd_base.specs.Calls.{Call, Log, logged, stopped}
use Rattle.hd_base.specs.declared.ends.Conn.{Conn}
use Rattle.hd_base.specs.declared.files.Files as files
use Rattle.hd_base.specs.declared.links.LinkOut as link_out
use Rattle.hd_base.specs.declared.numbers.Receipt.{Receipt}
use Rattle.member_events.proofs.CauseLaws.{packet_file, sending_file}
use Rattle.member_events.proofs.Growth.{ToldOf, bytes_behind, stopped_less}
use Rattle.member_events.proofs.TurnEnds.{IsFine}
use Rattle.member_events.specs.Writes.{has_bytes}
use Rattle.pipe_member.specs.BlockReceiver.Packets as receiving
use Rattle.pipe_member.specs.BlockReceiver.Taken.TheVariants as taken
use Rattle.pipe_member.specs.BlockReceiver.Taken.{Taken}
use Rattle.pipe_member.specs.PacketResponder.Sending.TheVariants as sending
use Rattle.pipe_member.specs.PacketResponder.Sending.{Sending}
use Rattle.pipe_member.specs.PacketResponder.Sendings as responding
use Rattle.pipe_member.specs.PipeTurns.Done.TheVariants as done
use Rattle.pipe_member.specs.PipeTurns.Done.{Done}
use Rattle.pipe_member.specs.PipeTurns.Turning.{Performs, packet_done, sending_done}
use Rattle.pipe_member.specs.ReplicaFiles.BookFault.TheVariants as fault
use Rattle.pipe_member.specs.ReplicaFiles.BookFault.{BookFault}
use Rattle.pipe_member.specs.ReplicaFiles.BookState.{BookState}
use Rattle.pipe_member.specs.ReplicaFiles.Books.{replica_of, event_calls, StopsEvent, before_all, amid}
use Rattle.pipe_member.specs.ReplicaFiles.Endings.{BookEnds, EndsFailed}
use Rattle.refusing_files.specs.Refusals.{has_data_write}
use Rattle.replica_calls.specs.CallLists.{remove_list}
use Rattle.replica_model.specs.Plans.{plan, placement_of, outcome_calls}
use Rattle.replica_model.specs.Rows.{FullReplica, row}
use Rattle.replica_model.specs.declared.events.ReplicaEvent.TheVariants as replica_event
use Rattle.replica_model.specs.declared.events.ReplicaEvent.{ReplicaEvent}
use Rattle.std.proofs.Common.{◌≡◌, ◌++◌, ℕ, Bool, true, false, List, [], ◌∷◌, length, Option, Some, None, Result, Ok, Err, option_map, append-nil, refl, sym, ap, ◌∙◌, subst}
use Rattle.std.specs.Prelude.{nat_lt}

-- the replica grows in the event
abbrev pub grown_in : FullReplica → ReplicaEvent → Bool
grown_in r e = nat_lt (length r.bytes) (length (row r e).bytes)

-- What calls an event made that was taken or refused.
pub record CallsDone {F : Type 0} (f : files.Ghosts F) (e : ReplicaEvent) (book book' : BookState F) : Type 0 where
  pub calls : List Call
  pub log : f.log book'.drawer ≡ option_map (logged calls) (f.log book.drawer)
  pub writes : grown_in (replica_of book) e ≡ true → has_bytes calls ≡ true

-- What calls one made in which one of them failed.
pub record CallsBroken {F : Type 0} (f : files.Ghosts F) (e : ReplicaEvent) (book book' : BookState F) : Type 0 where
  pub calls : List Call
  pub log : f.log book'.drawer ≡ option_map (logged calls) (f.log book.drawer)
  pub grown : has_data_write calls ≡ true → grown_in (replica_of book) e ≡ true

false_true : false ≡ true → ⊥
false_true h = cc

abbrev log_of : FileMap → List Call → Option Log
log_of m calls = Some (record { start = m; calls = calls })

none_logged : (l : Option Log) → l ≡ option_map (logged []) l
none_logged None = refl
none_logged (Some l) = ap (log_of l.start) (sym (append-nil l.calls))

-- the event was taken or refused
abbrev IsAnswered : Result Receipt BookFault → Type 0
IsAnswered (Ok receipt) = Unit {0}
IsAnswered (Err (fault.Refused why receipt)) = Unit {0}
IsAnswered other = ⊥

removes_none : (names : List (List ℕ)) (calls : List Call) → has_data_write (remove_list names ++ calls) ≡ has_data_write calls
removes_none [] calls = refl
removes_none (name ∷ names) calls = removes_none names calls

module _ {F : Type 0} (f : files.Ghosts F) (e : ReplicaEvent) (book book' : BookState F) (told : ToldOf (replica_of book) e) where
  refused_done : (b : ℕ) → plan (replica_of book) e ≡ [] → grown_in (replica_of book) e ≡ true → ⊥
  refused_done b none h =
      false_true (ap (λ l. has_bytes (calls_of b l (placement_of (replica_of book)))) (sym none) ∙ told.writes h b)

  calls_done : (answered : Result Receipt BookFault) → BookEnds f book book' e answered → IsAnswered answered → CallsDone f e book book'
  calls_done (Ok receipt) b ok =
      let r : FullReplica = replica_of book in
      record {
        calls = event_calls r e b.made.strays;
        log = b.made.made.log;
        writes = λ h. bytes_behind (remove_list b.made.strays) (calls_of r.known.block.0 (plan r e) (placement_of r)) (told.writes h r.known.block.0);
      }
  calls_done (Err (fault.Refused why receipt)) b ok =
      let r : FullReplica = replica_of book in
      record {
        calls = [];
        log = b.same.log ∙ none_logged (f.log book.drawer);
        writes = λ h. absurd (refused_done r.known.block.0 (ap (outcome_calls e r.known.info r.bytes) b.refused) h);
      }
  calls_done (Err (fault.File receipt)) b ok = absurd ok
  calls_done (Err fault.Memory) b ok = absurd ok

  calls_stopped : StopsEvent f book.drawer book'.drawer (replica_of book) e → CallsBroken f e book book'
  calls_stopped (before_all same) = record {
    calls = [];
    log = same.log ∙ none_logged (f.log book.drawer);
    grown = λ h. absurd (false_true h);
  }
  calls_stopped (amid strays are stops) =
      let r : FullReplica = replica_of book in
      record {
        calls = stopped stops.0 stops.1 (event_calls r e strays);
        log = stops.2.log;
        grown = λ h. told.grows r.known.block.0
            (sym (removes_none strays (calls_of r.known.block.0 (plan r e) (placement_of r))) ∙ stopped_less stops.0 stops.1 (event_calls r e strays) h);
      }

  calls_broken : (receipt : Receipt) (answered : Result Receipt BookFault) → answered ≡ Err (fault.File receipt) → BookEnds f book book' e answered → CallsBroken f e book book'
  calls_broken receipt answered is b = calls_stopped (failed (subst (λ (x : Result Receipt BookFault). BookEnds f book book' e x) is b))
    where
      failed : EndsFailed f book book' e receipt → StopsEvent f book.drawer book'.drawer (replica_of book) e
      failed x = x.stopped

packet_answered : (x : Taken) → IsFine (packet_done x) → IsAnswered (receiving.booked_as x)
packet_answered (taken.Booked r) ok = tt
packet_answered (taken.MirrorFailed r) ok = tt
packet_answered (taken.Refused why r) ok = tt
packet_answered (taken.File r) ok = absurd ok
packet_answered taken.Memory ok = absurd ok

sending_answered : (s : Sending) → IsFine (sending_done s) → IsAnswered (responding.booked_in s)
sending_answered (sending.Done r) ok = tt
sending_answered (sending.LinkFailed r) ok = tt
sending_answered (sending.Refused why r) ok = tt
sending_answered (sending.File r) ok = absurd ok
sending_answered sending.Memory ok = absurd ok

module _ {F I O : Type 0} (f : files.Ghosts F) (o : link_out.Ghosts O) (text : Option (List ℕ)) (book book' : BookState F) (up sent : O) (below passed : Option (Conn I O)) (d : Done) where
  -- A turn that was done.
  pub performs_done : (e : ReplicaEvent) → Performs f o (Some e) text book book' up sent below passed d → IsFine d → ToldOf (replica_of book) e → CallsDone f e book book'
  performs_done (replica_event.Packet conn x) p ok told = calls_done f (replica_event.Packet conn x) book book' told _ p.booked (packet_answered p.taken (subst IsFine p.is ok))
  performs_done (replica_event.Other x) p ok told = calls_done f (replica_event.Other x) book book' told _ p.booked (sending_answered p.sending (subst IsFine p.is ok))

  -- One in which a call on files failed.
  pub performs_broken : (e : ReplicaEvent) (receipt : Receipt) → d ≡ done.File receipt → Performs f o (Some e) text book book' up sent below passed d → ToldOf (replica_of book) e → CallsBroken f e book book'
  performs_broken (replica_event.Packet conn x) receipt is p told = calls_broken f (replica_event.Packet conn x) book book' told receipt _ (packet_file p.taken receipt (sym p.is ∙ is)) p.booked
  performs_broken (replica_event.Other x) receipt is p told = calls_broken f (replica_event.Other x) book book' told receipt _ (sending_file p.sending receipt (sym p.is ∙ is)) p.booked
