-- The calls that make a new replica.
use Rattle.std.proofs.Common.{◌≡◌, ℕ, ◌<◌, ◌^◌, List, [], ◌∷◌, ◌++◌, length, take, Option, Some, None, IfSome, Result, Ok, Err, IsOk, refl, sym, ap, subst, ◌∙◌, arith}
use Rattle.std.specs.Result.{IfOk}
use Rattle.std.proofs.Math.Nat.{zero-mod}
use Rattle.replica_core.specs.Views.{written_at}
use Rattle.hd_base.specs.FileMaps.{FileMap, no_files, AreNamesOf}
use Rattle.hd_base.specs.Calls.{Call, run, effect_of, MakesCalls, StopsWithin}
use Rattle.hd_base.specs.declared.numbers.BlockId.{BlockId}
use Rattle.hd_base.specs.declared.states.ReplicaState.TheVariants as state
use Rattle.hd_base.specs.declared.files.Files as files
use Rattle.hd_base.specs.declared.files.FileError.{FileError}
use Rattle.hd_base.specs.SumRules.{Rule, IsChunkSize}
use Rattle.file_calls.specs.Plans.{FindFiles}
use Rattle.meta_file.specs.Headers.{header_of}
use Rattle.block_files.specs.Placements.{Nowhere}
use Rattle.block_files.specs.BlockCalls.{calls_of}
use Rattle.block_files.proofs.PlacementLaws.{calls_find_files}
use Rattle.replica_core.specs.declared.events.Event.{Event}
use Rattle.replica_core.specs.declared.events.Event.TheVariants as event
use Rattle.replica_core.specs.declared.info.ReplicaInfo.{ReplicaInfo}
use Rattle.replica_core.specs.Transitions.{Taken, Outcome, record_after, transition}
use Rattle.replica_model.specs.declared.events.ReplicaEvent.TheVariants as replica_event
use Rattle.replica_model.specs.Sums.{header_len}
use Rattle.replica_model.specs.Rows.{FullReplica, IsOther, IsWithBytes, brought, row}
use Rattle.replica_model.specs.Plans.{folder_of, placed_under, placement_of, create_calls, taken_calls, plan}
use Rattle.replica_model.proofs.PlacementLemmas.{leads_new}
use Rattle.replica_calls.specs.CallLists.{names_of, remove_list, new_list, create_list}
use Rattle.replica_calls.specs.LastSums.{IsLastSum}
use Rattle.replica_calls.specs.Performed.{IsReady, Performs}
use Rattle.replica_calls.proofs.ListLemmas.{creates_have_room}
use Rattle.replica_calls.proofs.RemovalLemmas.{strays_are_removed}
use Rattle.replica_calls.proofs.GrowthLemmas.{whole_sum}
use Rattle.hd_base.specs.Bytes.{IsBytes}
use Rattle.replica_core.specs.declared.events.Answer.{Answer}
use Rattle.replica_model.specs.declared.events.ReplicaEvent.{ReplicaEvent}
use Rattle.replica_files.specs.declared.book_state.BookState.{BookState}
use Rattle.replica_files.specs.declared.book_state.Prior.{Prior}
use Rattle.replica_files.specs.Steps.{IsAmidMaking}
use Rattle.replica_files.specs.Events.{IsMadeBy}
use Rattle.replica_files.specs.Books.{replica_of, HasLastSum, IsHeld, Takes, AreStrays, event_calls, amid}
use Rattle.replica_files.specs.Carried.{IsToMake, Makes, made_calls, CarriesOut}
use Rattle.replica_files.proofs.ShapeLemmas.{IsMade, made_from}
use Rattle.replica_files.proofs.OnlyLemmas.{only_made, only_stopped, names_are, create_stays}
use Rattle.replica_files.proofs.AmidLemmas.{plan_is}

find_append : (m : FileMap) (xs ys : List Call) → FindFiles m xs → FindFiles (run xs m) ys → FindFiles m (xs ++ ys)
find_append m [] ys a b = b
find_append m (x ∷ xs) ys a b = (a.0, find_append (effect_of x m) xs ys a.1 b)

creates_follow : (block : ℕ) (k : ReplicaInfo) → calls_of block (create_calls k) Nowhere ≡ new_list (names_of block k) (header_of k.sums)
creates_follow block k = refl

make_found : (files : Option FileMap) (block : ℕ) (k : ReplicaInfo) (strays : List (List ℕ)) → block < 2 ^ 64 → IsChunkSize k.sums.chunk → IfSome files (λ m. AreNamesOf m strays)
    → IfSome files (λ m. FindFiles m (create_list strays (names_of block k) (header_of k.sums)))
make_found None block k strays fits size are = tt
make_found (Some m) block k strays fits size are =
    let gone = strays_are_removed m strays are in
    find_append m (remove_list strays) (new_list (names_of block k) (header_of k.sums)) gone.0
    (subst (λ (x : FileMap). FindFiles x (new_list (names_of block k) (header_of k.sums))) (sym gone.1)
    (subst (FindFiles no_files) (creates_follow block k)
    (calls_find_files block (create_calls k) Nowhere fits (leads_new k.sums (folder_of k.original) k.stamp.0 (omega (arith, size.least))).able)))

header_is : (r : Rule) → length (header_of r) ≡ header_len
header_is r = refl

pub make_ready : {F : Type 0} (f : files.Ghosts F) (d : F) (block : BlockId) (k : ReplicaInfo) (strays : List (List ℕ)) → block.0 < 2 ^ 64 → IsToMake f d block k strays
    → IsReady f d (create_list strays (names_of block.0 k) (header_of k.sums))
make_ready f d block k strays fits s =
    record {
      found = make_found (f.files d) block.0 k strays fits s.size s.strays_are;
      enough = creates_have_room (f.room d) strays (names_of block.0 k) (header_of k.sums) s.room.bytes (omega (arith, s.room.sums, header_is k.sums));
    }

nothing_last : (r : Rule) → IsLastSum r 0 []
nothing_last r = λ has. whole_sum r [] (zero-mod r.chunk) has

pub makes_done : {F T : Type 0} (f : files.Ghosts F) (old new : F) (block : BlockId) (k : ReplicaInfo) (strays : List (List ℕ)) (u : T) → block.0 < 2 ^ 64 → k.stamp.0 < 2 ^ 64
    → Performs f old new (create_list strays (names_of block.0 k) (header_of k.sums)) (Ok u) → Makes f old new block k strays (Ok 0)
makes_done f old new block k strays u fits stamp made =
    record {
      made = subst (λ l. MakesCalls (f.files old) (f.files new) (f.log old) (f.log new) (remove_list strays ++ l)) (sym (creates_follow block.0 k)) made.done;
      stopped = tt;
      cause = record { never_falls = made.cause.never_falls; failed = tt };
      only = only_made block.0 (f.files old) (f.files new) (f.log old) (f.log new) _ (create_stays block.0 strays (names_of block.0 k) (header_of k.sums) (names_are block.0 k fits stamp)) made.done;
      last = nothing_last k.sums;
    }

pub makes_failed : {F T : Type 0} (f : files.Ghosts F) (old new : F) (block : BlockId) (k : ReplicaInfo) (strays : List (List ℕ)) (e : FileError) → block.0 < 2 ^ 64 → k.stamp.0 < 2 ^ 64
    → Performs {T = T} f old new (create_list strays (names_of block.0 k) (header_of k.sums)) (Err e) → Makes f old new block k strays (Err e)
makes_failed f old new block k strays e fits stamp made =
    record {
      made = tt;
      stopped = subst (λ l. StopsWithin (f.files old) (f.files new) (f.log old) (f.log new) (remove_list strays ++ l)) (sym (creates_follow block.0 k)) made.stopped;
      cause = record { never_falls = made.cause.never_falls; failed = made.cause.failed };
      only = only_stopped block.0 (f.files old) (f.files new) (f.log old) (f.log new) _ (create_stays block.0 strays (names_of block.0 k) (header_of k.sums) (names_are block.0 k fits stamp)) made.stopped;
      last = tt;
    }

-- ---- amid an event that makes a replica

if_taken : (P : Taken → Type 0) (out : Outcome) → IsOk out → IfOk out P → (t : Taken) × (out ≡ Ok t) × P t
if_taken P (Ok t) is p = (t, refl, p)
if_taken P (Err e) is p = absurd (cc)

-- It was absent, and holds this now.
pub record BecomesThere (r : FullReplica) (e : Event) (k : ReplicaInfo) : Type 0 where
  pub absent : r.known.info ≡ None
  pub there : (row r (replica_event.Other e)).known.info ≡ Some k
  pub none_yet : k.written ≡ 0

from_made : (r : FullReplica) (e : Event) (k : ReplicaInfo) → k.written ≡ 0 → Takes r (replica_event.Other e) → IfOk (transition r.known e) (IsMade r.known k) → BecomesThere r e k
from_made r e k none takes made =
    let t = if_taken (IsMade r.known k) (transition r.known e) takes made in
    record { absent = t.2.absent; there = ap (λ o. (record_after r.known o).info) t.1 ∙ t.2.held; none_yet = none }

pub becomes_there : (r : FullReplica) (e : Event) (k : ReplicaInfo) → IsMadeBy e k → Takes r (replica_event.Other e) → BecomesThere r e k
unfolding transition
becomes_there r (event.Create conn stamp sums) k is takes =
    from_made r (event.Create conn stamp sums) k (ap (λ h. h.written) is) takes (subst (λ h. IfOk (transition r.known (event.Create conn stamp sums)) (IsMade r.known h)) (sym is) (made_from r.known state.Rbw conn stamp sums))
becomes_there r (event.Temporary conn stamp sums) k is takes =
    from_made r (event.Temporary conn stamp sums) k (ap (λ h. h.written) is) takes (subst (λ h. IfOk (transition r.known (event.Temporary conn stamp sums)) (IsMade r.known h)) (sym is) (made_from r.known state.Temporary conn stamp sums))
becomes_there r (event.Append conn named new n) k is takes = absurd is
becomes_there r (event.AppendRecovery conn named new n) k is takes = absurd is
becomes_there r (event.StreamRecovery conn named new low high) k is takes = absurd is
becomes_there r (event.CloseRecovery named new n) k is takes = absurd is
becomes_there r (event.Packet conn seqno offset bytes sums last sync bad) k is takes = absurd is
becomes_there r (event.Ack conn seqno good) k is takes = absurd is
becomes_there r (event.Ended conn) k is takes = absurd is
becomes_there r (event.Init named recovery) k is takes = absurd is
becomes_there r (event.Update recovery n) k is takes = absurd is
becomes_there r (event.Read named offset n) k is takes = absurd is
becomes_there r (event.Give named offset n) k is takes = absurd is
becomes_there r event.FileFault k is takes = absurd is

making_calls : (r : FullReplica) (e : Event) (k : ReplicaInfo) (block : BlockId) (strays : List (List ℕ)) → r.known.block ≡ block → Takes r (replica_event.Other e) → BecomesThere r e k
    → event_calls r (replica_event.Other e) strays ≡ made_calls block k strays
making_calls r e k block strays of takes b =
    let x = replica_event.Other e in
    ap (λ l. remove_list strays ++ l)
    (ap (λ (o : BlockId). calls_of o.0 (plan r x) (placement_of r)) of
    ∙ (ap (λ p. calls_of block.0 p (placement_of r)) (plan_is r x takes ∙ (ap (λ o. taken_calls x o (row r x).known.info r.bytes) b.absent ∙ ap (λ o. taken_calls x None o r.bytes) b.there))
    ∙ ap (λ o. calls_of block.0 (create_calls k) (placed_under o r.bytes)) b.absent))

making_strays : (files : Option FileMap) (o q : Option ReplicaInfo) (k : ReplicaInfo) (strays : List (List ℕ)) → o ≡ None → q ≡ Some k → IfSome files (λ m. AreNamesOf m strays) → AreStrays files o q strays
making_strays files o q k strays absent there are = subst (λ x. AreStrays files x q strays) (sym absent) (subst (λ x. AreStrays files None x strays) (sym there) are)

none_taken : (n : ℕ) (bytes : List ℕ) → n ≡ 0 → take n bytes ≡ []
none_taken n bytes e = ap (λ i. take i bytes) e

last_made : (r : FullReplica) (e : Event) (k : ReplicaInfo) (sum : ℕ) → BecomesThere r e k → IsLastSum k.sums sum [] → HasLastSum sum (row r (replica_event.Other e))
last_made r e k sum b last = λ whole.
    let x = row r (replica_event.Other e) in
    let bytes : x.bytes ≡ [] = none_taken _ _ (ap written_at b.there ∙ b.none_yet) in
    subst (λ (o : Option ReplicaInfo). IfSome o (λ h. IsLastSum h.sums sum x.bytes)) (sym b.there) (subst (λ (l : List ℕ). IsLastSum k.sums sum l) (sym bytes) last)

if_some_each : {P : Type 0} (o : Option FileMap) → P → IfSome o (λ _. P)
if_some_each None p = tt
if_some_each (Some m) p = p

pub making_carries : {F : Type 0} (f : files.Ghosts F) (old new : F) (block : BlockId) (sum : ℕ) (r : FullReplica) (e : Event) (k : ReplicaInfo) (strays : List (List ℕ)) (result : Result ℕ FileError)
    → IsHeld f old block sum r → IsMadeBy e k → Takes r (replica_event.Other e) → IfSome (f.files old) (λ m. AreNamesOf m strays) → Makes f old new block k strays result → CarriesOut f old new block r (replica_event.Other e) result
making_carries f old new block sum r e k strays (Ok s) held by takes are makes =
    let b = becomes_there r e k by takes in
    record {
      made = record {
        strays = strays;
        are = making_strays (f.files old) r.known.info (row r (replica_event.Other e)).known.info k strays b.absent b.there are;
        made = subst (MakesCalls (f.files old) (f.files new) (f.log old) (f.log new)) (sym (making_calls r e k block strays held.of_block takes b)) makes.made;
      };
      stopped = tt;
      cause = makes.cause;
      only = makes.only held.only;
      last = if_some_each (f.files new) (last_made r e k s b makes.last);
    }
making_carries f old new block sum r e k strays (Err x) held by takes are makes =
    let b = becomes_there r e k by takes in
    record {
      made = tt;
      stopped = amid strays (making_strays (f.files old) r.known.info (row r (replica_event.Other e)).known.info k strays b.absent b.there are)
          (subst (StopsWithin (f.files old) (f.files new) (f.log old) (f.log new)) (sym (making_calls r e k block strays held.of_block takes b)) makes.stopped);
      cause = makes.cause;
      only = makes.only held.only;
      last = tt;
    }

-- ---- amid an event that makes a replica, in its book

made_other : (e : Event) (k : ReplicaInfo) → IsMadeBy e k → IsChunkSize k.sums.chunk → IsOther e
made_other (event.Create conn stamp sums) k is size = subst (λ (h : ReplicaInfo). IsChunkSize h.sums.chunk) is size
made_other (event.Temporary conn stamp sums) k is size = subst (λ (h : ReplicaInfo). IsChunkSize h.sums.chunk) is size
made_other (event.Append conn named new n) k is size = absurd is
made_other (event.AppendRecovery conn named new n) k is size = absurd is
made_other (event.StreamRecovery conn named new low high) k is size = absurd is
made_other (event.CloseRecovery named new n) k is size = absurd is
made_other (event.Packet conn seqno offset bytes sums last sync bad) k is size = absurd is
made_other (event.Ack conn seqno good) k is size = absurd is
made_other (event.Ended conn) k is size = absurd is
made_other (event.Init named recovery) k is size = absurd is
made_other (event.Update recovery n) k is size = absurd is
made_other (event.Read named offset n) k is size = absurd is
made_other (event.Give named offset n) k is size = absurd is
made_other event.FileFault k is size = absurd is

pub making_ready : {F : Type 0} (f : files.Ghosts F) (s : BookState F) (e : ReplicaEvent) (prior : Prior) (answer : Answer) (k : ReplicaInfo) (strays : List (List ℕ)) → IsAmidMaking f s e prior answer k strays → IsToMake f s.drawer s.block k strays
making_ready f s e prior answer k strays a = a.to_make (becomes_there (replica_of s) a.making k a.made_by (subst (Takes (replica_of s)) a.is a.takes)).absent

pub making_with_bytes : {F : Type 0} (f : files.Ghosts F) (s : BookState F) (e : ReplicaEvent) (prior : Prior) (answer : Answer) (k : ReplicaInfo) (strays : List (List ℕ)) → IsAmidMaking f s e prior answer k strays → IsWithBytes e
making_with_bytes f s e prior answer k strays a =
    subst IsWithBytes (sym a.is) (made_other a.making k a.made_by (making_ready f s e prior answer k strays a).size)

pub making_brings : {F : Type 0} (f : files.Ghosts F) (s : BookState F) (e : ReplicaEvent) (prior : Prior) (answer : Answer) (k : ReplicaInfo) (strays : List (List ℕ)) (n : ℕ) → IsAmidMaking f s e prior answer k strays → IsBytes (brought n e)
making_brings f s e prior answer k strays n a = subst (λ x. IsBytes (brought n x)) (sym a.is) (λ i. omega arith)

pub making_carried : {F : Type 0} (f : files.Ghosts F) (s : BookState F) (new : F) (e : ReplicaEvent) (prior : Prior) (answer : Answer) (k : ReplicaInfo) (strays : List (List ℕ)) (made : Result ℕ FileError) → IsAmidMaking f s e prior answer k strays
    → Makes f s.drawer new s.block k strays made → CarriesOut f s.drawer new s.block (replica_of s) e made
making_carried f s new e prior answer k strays made a makes =
    subst (λ x. CarriesOut f s.drawer new s.block (replica_of s) x made) (sym a.is)
    (making_carries f s.drawer new s.block s.last_sum (replica_of s) a.making k strays made a.held a.made_by (subst (Takes (replica_of s)) a.is a.takes) (making_ready f s e prior answer k strays a).strays_are makes)
