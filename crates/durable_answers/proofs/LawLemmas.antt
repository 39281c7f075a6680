-- Bytes for which an hsync was answered survive a loss of power at the members.
use Rattle.std.proofs.Common.{◌≡◌, ℕ, zero, suc, ◌≤◌, true, false, Bool, List, [], ◌∷◌, ◌++◌, length, Option, Some, None, IfSome, Result, Ok, Err, refl, sym, ap, subst, ◌∙◌, arith}
use Rattle.std.specs.Prelude.{take, not}
use Rattle.hd_base.specs.FileMaps.{FileMap, part_of}
use Rattle.hd_base.specs.Calls.{LogMakesFiles}
use Rattle.hd_base.specs.declared.files.Files as files
use Rattle.hd_base.specs.declared.numbers.BlockId.{BlockId}
use Rattle.hd_base.specs.declared.numbers.ConnId.{ConnId}
use Rattle.hd_base.specs.declared.numbers.Receipt.{Receipt}
use Rattle.hd_base.specs.declared.states.ReplicaState.{ReplicaState}
use Rattle.hd_base.specs.declared.states.ReplicaState.TheVariants as state
use Rattle.hd_base.specs.declared.roads.TheConstants.{MAX_NODES}
use Rattle.packet_codec.specs.declared.packets.Packet.{Packet}
use Rattle.hd_base.specs.Results.{◌>>=◌}
use Rattle.replica_core.specs.Refusals.{check}
use Rattle.replica_core.specs.declared.events.Answer.TheVariants as answer
use Rattle.replica_core.specs.declared.info.ReplicaInfo.{ReplicaInfo}
use Rattle.replica_core.specs.declared.refusals.Refusal.{Refusal}
use Rattle.replica_core.specs.declared.refusals.Refusal.TheVariants as refusal
use Rattle.replica_core.specs.Info.{is_temporary}
use Rattle.replica_core.specs.Views.{written_in}
use Rattle.replica_core.specs.Transitions.{Outcome, answer_of, reply, there, transition}
use Rattle.replica_model.specs.declared.events.ReplicaEvent.{ReplicaEvent}
use Rattle.replica_model.specs.declared.events.ReplicaEvent.TheVariants as replica_event
use Rattle.replica_model.specs.Rows.{FullReplica, event_at, brought, row, row_answer}
use Rattle.replica_files.specs.declared.book_state.BookState.{BookState}
use Rattle.replica_files.specs.declared.book_state.Taken.{Taken}
use Rattle.replica_files.specs.declared.faults.BookFault.{BookFault}
use Rattle.replica_files.specs.declared.faults.BookFault.TheVariants as fault
use Rattle.replica_files.specs.Books.{IsBookOf, replica_of}
use Rattle.replica_files.specs.Endings.{BookEnds}
use Rattle.replica_files.proofs.BookLemmas.{noted}
use Rattle.restart_scan.specs.declared.found.Found.{Found}
use Rattle.restart_scan.specs.Laws.{HasNumbers}
use Rattle.restart_scan.proofs.EventLemmas.{turns, replayed_unrecovered}
use Rattle.durable_replicas.specs.Steady.{IsKept, IsSteady}
use Rattle.durable_replicas.specs.Scans.{ListsChunks}
use Rattle.durable_replicas.specs.Survival.{BookCall, PassesCall, PassesAll, book_after, events_noted, noted_with, LosesPower, LosesLater}
use Rattle.durable_replicas.proofs.BookLemmas.{IsHeldAfter, outcome_held}
use Rattle.durable_replicas.proofs.SurvivalLemmas.{hsyncs_survive}
use Rattle.world.specs.declared.events.Event.{Event}
use Rattle.world_laws.specs.Joining.{IsPlain}
use Rattle.world_writers.proofs.Kept.{kept}
use Rattle.world_syncs.specs.Histories.{History, replayed}
use Rattle.world_syncs.specs.Replaying.{StaysPlain}
use Rattle.world_syncs.specs.Syncing.{LeaveBytes, SyncedSince}
use Rattle.world_syncs.proofs.Synced.{replayed-append}
use Rattle.world_syncs.proofs.Plain.{all-plain}
use Rattle.world_syncs.proofs.Taken.{all-taken}
use Rattle.durable_answers.specs.Histories.{HaveNumbers, LosesHistory, ListsSynced, AnswersSurvive}
use Rattle.durable_answers.proofs.SurvivalLemmas.{SplitCalls, split-calls, steady-later}

-- BYTES

take-front : (n w : ℕ) (bs ys : List ℕ) → n ≤ length bs → n ≤ w → take n (take w (bs ++ ys)) ≡ take n bs
take-front zero w bs ys a b = refl
take-front (suc n) w [] ys a b = absurd (omega (arith, a))
take-front (suc n) zero (x ∷ bs) ys a b = absurd (omega (arith, b))
take-front (suc n) (suc w) (x ∷ bs) ys a b = ap (λ (zs : List ℕ). x ∷ zs) (take-front n w bs ys (omega (arith, a)) (omega (arith, b)))

long-front : (n w : ℕ) (bs ys : List ℕ) → n ≤ length bs → n ≤ w → n ≤ length (take w (bs ++ ys))
long-front zero w bs ys a b = omega arith
long-front (suc n) w [] ys a b = absurd (omega (arith, a))
long-front (suc n) zero (x ∷ bs) ys a b = absurd (omega (arith, b))
long-front (suc n) (suc w) (x ∷ bs) ys a b = let z = long-front n w bs ys (omega (arith, a)) (omega (arith, b)) in omega (arith, z)

-- the first bytes stay as long as each event leaves as many
bytes-stay : (n : ℕ) (r : FullReplica) (es : List ReplicaEvent) → n ≤ length r.bytes → LeaveBytes n r es → take n r.bytes ≡ take n (replayed r es).bytes
bytes-stay n r [] le l = refl
bytes-stay n r (e ∷ es) le l =
    let ys = brought (length r.bytes) e in
    let w = written_in (row r e).known in
    sym (take-front n w r.bytes ys le l.0) ∙ bytes-stay n (row r e) es (long-front n w r.bytes ys le l.0) l.1

-- PLACES IN A HISTORY

plain-at : (r : FullReplica) (es : List ReplicaEvent) → StaysPlain r es → IfSome r.known.info IsPlain
plain-at r [] p = p
plain-at r (e ∷ es) p = p.0

plain-after : (r : FullReplica) (before es : List ReplicaEvent) → StaysPlain r (before ++ es) → StaysPlain (replayed r before) es
plain-after r [] es p = p
plain-after r (b ∷ bs) es p = plain-after (row r b) bs es p.1

numbers-after : (r : FullReplica) (before es : List ReplicaEvent) → HaveNumbers r (before ++ es) → HaveNumbers (replayed r before) es
numbers-after r [] es p = p
numbers-after r (b ∷ bs) es p = numbers-after (row r b) bs es p.1

-- THE PACKET

-- who answers that it is done, is there
present-there : (k : ReplicaInfo → Outcome) (b : Bool) (o : Option ReplicaInfo) → answer_of (reply (check (not b) refusal.Broken (there o) >>= k)) ≡ answer.Done → (h : ReplicaInfo) × (o ≡ Some h)
present-there k true o e = absurd (apart e)
  where
    apart : answer.Refused refusal.Broken ≡ answer.Done → ⊥
    apart e = cc
present-there k false None e = absurd (apart e)
  where
    apart : answer.Refused refusal.NoReplica ≡ answer.Done → ⊥
    apart e = cc
present-there k false (Some h) e = (h, refl)

packet-there : (r : FullReplica) (conn : ConnId) (p : Packet) → row_answer r (replica_event.Packet conn p) ≡ answer.Done → (h : ReplicaInfo) × (r.known.info ≡ Some h)
unfolding transition
packet-there r conn p e = present-there _ r.known.is_broken r.known.info e

refused-apart : (d : Refusal) → answer.Refused d ≡ answer.Done → ⊥
refused-apart d e = cc

none-noted : (e : ReplicaEvent) → [] ≡ e ∷ [] → ⊥
none-noted e q = cc

-- a call that noted a packet which is answered so took it
takes-of : {F : Type 0} (f : files.Ghosts F) (old synced : BookState F) (e : ReplicaEvent) (ended : Result Taken BookFault) → noted_with ended e [] ≡ e ∷ [] → PassesCall f old synced e ended → row_answer (replica_of old) e ≡ answer.Done → (receipt : Receipt) × BookEnds f old synced e (Ok receipt)
takes-of f old synced e (Ok taken) n ends done = (taken.receipt, record { takes = ends.takes; answer = refl; noted = ends.noted; made = ends.made })
takes-of f old synced e (Err (fault.Refused d receipt)) n ends done = absurd (refused-apart d (sym (ap (λ (o : Outcome). answer_of (reply o)) ends.refused) ∙ done))
takes-of f old synced e (Err (fault.File receipt)) n ends done = absurd ends
takes-of f old synced e (Err fault.Memory) n ends done = absurd (none-noted e n)

book-of : {F : Type 0} (f : files.Ghosts F) (book : BookState F) (calls : List (BookCall F)) → PassesAll f book calls → IsBookOf f (book_after book calls) → IsBookOf f book
book-of f book [] p last = last
book-of f book (c ∷ calls) p last = p.0

lasting : (h : ReplicaInfo) → IsPlain h → is_temporary h.original ≡ false
lasting h p = go h.original p.lasting
  where
    go : (s : ReplicaState) → (s ≡ state.Temporary → ⊥) → is_temporary s ≡ false
    go state.Temporary f = absurd (f refl)
    go _ f = refl

-- THE LAW

survives : {F : Type 0} (f : files.Ghosts F) → ((drawer : F) → LogMakesFiles (f.log drawer) (f.files drawer)) → (x : History) (n : ℕ) (shelf new : FileMap) (found : Found) → SyncedSince x.first x.events n → StaysPlain x.first x.events → (lost : LosesHistory f x n shelf new found)
    → ListsSynced lost.first.block n (replayed x.first x.events).bytes new found
survives {F} f law x n shelf new found s plain lost = record { info = held.held; bytes = (replica_of c.synced).bytes; same = same; lists = lists }
  where
    e : ReplicaEvent
    e = replica_event.Packet s.conn s.packet

    c : SplitCalls f lost.first lost.calls s.before e s.after
    c = split-calls f lost.first lost.calls s.before e s.after lost.passes (lost.noted ∙ s.are)

    before : FullReplica
    before = replayed x.first s.before

    at : replica_of c.old ≡ before
    at = c.replica ∙ ap (λ (r : FullReplica). replayed r s.before) lost.starts

    done : row_answer (replica_of c.old) e ≡ answer.Done
    done = ap (λ (r : FullReplica). row_answer r e) at ∙ s.takes

    takes : (receipt : Receipt) × BookEnds f c.old c.synced e (Ok receipt)
    takes = takes-of f c.old c.synced e c.ended c.noted c.ends done

    is : replica_of c.synced ≡ row (replica_of c.old) e
    is = noted c.old c.synced e false takes.0 takes.1.noted

    now : replica_of c.synced ≡ row before e
    now = is ∙ ap (λ (r : FullReplica). row r e) at

    book : IsBookOf f c.synced
    book = book-of f c.synced c.later c.passes (subst (λ (b : BookState F). IsBookOf f b) (sym c.last) lost.left)

    block : (replica_of c.synced).known.block ≡ lost.first.block
    block = book.held.of_block ∙ c.block

    was : (h : ReplicaInfo) × ((replica_of c.old).known.info ≡ Some h)
    was = packet-there (replica_of c.old) s.conn s.packet done

    held : IsHeldAfter (row (replica_of c.old) e).known.info
    held = outcome_held (replica_of c.old).known (transition (replica_of c.old).known (event_at (replica_of c.old) e)) was.0 was.1 (turns (replica_of c.old).known (event_at (replica_of c.old) e) (replayed_unrecovered c.old.block c.old.history))

    info : (replica_of c.synced).known.info ≡ Some held.held
    info = ap (λ (r : FullReplica). r.known.info) is ∙ held.there

    plains : IfSome (row before e).known.info IsPlain
    plains = plain-at (row before e) s.after (plain-after x.first s.before (e ∷ s.after) (subst (λ (es : List ReplicaEvent). StaysPlain x.first es) s.are plain)).1

    numbers : HaveNumbers before (e ∷ s.after)
    numbers = numbers-after x.first s.before (e ∷ s.after) (subst (λ (es : List ReplicaEvent). HaveNumbers x.first es) s.are lost.numbers)

    kept : IsKept (replica_of c.synced) held.held
    kept = record {
      full = book.held.full;
      numbers = subst (λ (r : FullReplica). HasNumbers r) (sym now) numbers.0;
      there = info;
      apart = lasting held.held (subst (λ (o : Option ReplicaInfo). IfSome o IsPlain) (ap (λ (r : FullReplica). r.known.info) (sym now) ∙ info) plains);
    }

    within : n ≤ length (replica_of c.synced).bytes
    within = omega (arith, s.leave.0, ap (λ (r : FullReplica). written_in r.known) now, book.held.full.all)

    steady : IsSteady n (replica_of c.synced) (events_noted c.later ++ lost.more)
    steady = steady-later f n c.synced c.later lost.more c.passes
        (subst (λ (es : List ReplicaEvent). LeaveBytes n (replica_of c.synced) es) (sym c.rest) (subst (λ (r : FullReplica). LeaveBytes n r s.after) (sym now) s.leave.1))
        (subst (λ (es : List ReplicaEvent). HaveNumbers (replica_of c.synced) es) (sym c.rest) (subst (λ (r : FullReplica). HaveNumbers r s.after) (sym now) numbers.1))
        (subst (λ (b : BookState F). IsSteady n (replica_of b) lost.more) (sym c.last) lost.steady)

    later : LosesLater f c.old c.synced held.held n shelf new found
    later = record {
      takes = record { conn = s.conn; packet = s.packet; receipt = takes.0; is_book = c.is_book; asks = s.asks; takes = takes.1; kept = kept };
      calls = c.later;
      more = lost.more;
      passes = c.passes;
      within = within;
      steady = steady;
      loses = subst (λ (b : BlockId). LosesPower f (book_after c.synced c.later) lost.more (part_of b.0 shelf)) (sym block) (subst (λ (b : BookState F). LosesPower f b lost.more (part_of lost.first.block.0 shelf)) (sym c.last) lost.loses);
      scans = lost.scans;
    }

    lists : ListsChunks lost.first.block held.held.sums n (replica_of c.synced).bytes new found
    lists = subst (λ (b : BlockId). ListsChunks b held.held.sums n (replica_of c.synced).bytes new found) block (hsyncs_survive f law c.old c.synced held.held n shelf new found later)

    same : take n (replica_of c.synced).bytes ≡ take n (replayed x.first x.events).bytes
    same =
        bytes-stay n (replica_of c.synced) s.after within (subst (λ (r : FullReplica). LeaveBytes n r s.after) (sym now) s.leave.1)
        ∙ ap (λ (r : FullReplica). take n r.bytes) (ap (λ (r : FullReplica). replayed r s.after) now ∙ sym (ap (λ (es : List ReplicaEvent). replayed x.first es) s.are ∙ replayed-append x.first s.before (e ∷ s.after)))

pub answers-survive : {F : Type 0} (f : files.Ghosts F) → ((drawer : F) → LogMakesFiles (f.log drawer) (f.files drawer)) → (nodes : ℕ) (events : List Event) → nodes ≤ MAX_NODES → AnswersSurvive f nodes events
answers-survive f law nodes events low a m shelf new found has command member steady lost =
    let t = all-taken nodes events low a m has command member steady in
    let y = survives f law _ a.length shelf new found t.synced (all-plain nodes events m.0 a.block) lost in
    let k = kept nodes events low a m has member steady in
    record { info = y.info; bytes = y.bytes; same = y.same ∙ (ap (λ (r : FullReplica). take a.length r.bytes) t.replica ∙ k.bytes); lists = y.lists }
