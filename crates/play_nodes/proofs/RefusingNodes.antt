-- A member that takes what stands next from above while the writes on its replica's data file are refused.
use Rattle.std.proofs.Common.{◌≡◌, ◌||◌, ℕ, Bool, true, false, List, [], ◌∷◌, length, Option, Some, None, IsSome, IfSome, Result, Ok, Err, option_map, refl, sym, ap, ◌∙◌, subst}
use Rattle.std.specs.Prelude.{nat_lt}
use Rattle.hd_base.specs.Calls.{Call, Make, Write, Cut, Sync, Rename, Remove, Log, logged}
use Rattle.hd_base.specs.Faults.{FaultsIncreased}
use Rattle.hd_base.specs.FileMaps.{FileMap}
use Rattle.hd_base.specs.declared.files.Files as files
use Rattle.hd_base.specs.declared.links.LinkIn as link_in
use Rattle.hd_base.specs.declared.links.LinkOut as link_out
use Rattle.hd_base.specs.declared.numbers.ConnId.{ConnId}
use Rattle.hd_base.specs.declared.roads.Roads as roads
use Rattle.refusing_files.specs.Refusals.{has_data_write, AreIdle, TellsRefusals}
use Rattle.road_traffic.specs.Showing.{Net}
use Rattle.play_model.specs.World.Delivery.TheVariants as delivery
use Rattle.play_model.specs.World.Event.TheVariants as event
use Rattle.play_model.specs.World.Parts.{FullMember}
use Rattle.play_model.specs.World.Worlds.{World}
use Rattle.play_model.specs.World.Connections.{Next}
use Rattle.play_model.specs.World.Events.{happens}
use Rattle.world_writes.specs.Writes.{grows}
use Rattle.member_events.specs.ReplicaFiles.BookState.{BookState}
use Rattle.member_events.specs.ReplicaFiles.Books.{replica_of}
use Rattle.member_events.specs.ReplicaModel.Histories.{replayed}
use Rattle.member_events.specs.PipeMember.Member.{Member}
use Rattle.member_events.specs.declared.faults.MemberFault.{MemberFault}
use Rattle.member_events.specs.declared.faults.MemberFault.TheVariants as member_fault
use Rattle.member_events.specs.declared.steps.Downed.{Downed}
use Rattle.member_events.specs.declared.steps.Downed.TheVariants as downed
use Rattle.member_events.specs.Events as member_events
use Rattle.member_events.specs.Events.{CanDown, DownDone, DownBroke}
use Rattle.member_events.specs.Showing.{MemberStands, MemberLeft}
use Rattle.member_events.specs.Writes.{writes_byte, has_bytes}
use Rattle.play_nodes.specs.declared.nodes.Refused.{Refused}
use Rattle.play_nodes.specs.declared.nodes.Refused.TheVariants as refused
use Rattle.play_nodes.specs.Refusing.{refused_in, MemberEnds, MemberRefuses}

-- CALLS THAT CHANGE NOTHING

false_true : false ≡ true → ⊥
false_true h = cc

or_neither : (a b : Bool) → (a ≡ true → ⊥) → (b ≡ true → ⊥) → (a || b) ≡ true → ⊥
or_neither true b h k is = h refl
or_neither false b h k is = k is

no_bytes : (bytes : List ℕ) → bytes ≡ [] → nat_lt 0 (length bytes) ≡ true → ⊥
no_bytes bytes none h = false_true (sym (ap (λ (b : List ℕ). nat_lt 0 (length b)) none) ∙ h)

idle_bytes : (calls : List Call) → AreIdle calls → has_bytes calls ≡ true → ⊥
idle_bytes [] idle h = false_true h
idle_bytes (Make name ∷ calls) idle h = absurd idle.0
idle_bytes (Write name place bytes ∷ calls) idle h = or_neither (nat_lt 0 (length bytes)) (has_bytes calls) (no_bytes bytes idle.0) (idle_bytes calls idle.1) h
idle_bytes (Cut name len ∷ calls) idle h = absurd idle.0
idle_bytes (Sync name ∷ calls) idle h = idle_bytes calls idle.1 h
idle_bytes (Rename from to ∷ calls) idle h = absurd idle.0
idle_bytes (Remove name ∷ calls) idle h = absurd idle.0

not_so : (b : Bool) → (b ≡ true → ⊥) → b ≡ false
not_so true h = absurd (h refl)
not_so false h = refl

-- THE BOOK

-- The book's replica is the same.
pub record SameReplica {F : Type 0} (old new : BookState F) : Type 0 where
  pub block : new.block ≡ old.block
  pub history : new.history ≡ old.history

same_replica : {F : Type 0} (old new : BookState F) → SameReplica old new → replica_of new ≡ replica_of old
same_replica old new s = ap (λ b. replayed b new.history) s.block ∙ ap (replayed old.block) s.history

-- the log of files that begin to refuse
abbrev pub begun_log : FileMap → Log
begun_log m = record { start = m; calls = [] }

-- The files of a book refuse writes, a member takes something, and they take writes again.
pub record Refuses {F : Type 0} (f : files.Ghosts F) (book first second last : BookState F) (is_refused : Bool) : Type 0 where
  pub begun : SameReplica book first
  pub log : f.log first.drawer ≡ option_map begun_log (f.files book.drawer)
  pub before : f.faults first.drawer ≡ f.faults book.drawer
  pub tells : IfSome (f.log second.drawer) (TellsRefusals is_refused (f.files second.drawer))
  pub ended : SameReplica second last
  pub after : is_refused ≡ false → f.faults last.drawer ≡ f.faults second.drawer

module _ {F : Type 0} (f : files.Ghosts F) (book first second last : BookState F) (is_refused : Bool) (k : Refuses f book first second last is_refused) where
  -- what the log tells of these calls
  told_calls : (calls : List Call) → f.log second.drawer ≡ option_map (logged calls) (f.log first.drawer) → (fs : Option FileMap) → f.files book.drawer ≡ fs → IsSome fs → AreIdle calls × (is_refused ≡ has_data_write calls)
  told_calls calls made None is some = cc
  told_calls calls made (Some m) is some =
      let log : f.log second.drawer ≡ Some (record { start = m; calls = calls }) =
      made ∙ (ap (option_map (logged calls)) k.log ∙ ap (λ (o : Option FileMap). option_map (logged calls) (option_map begun_log o)) is) in
      let t : TellsRefusals is_refused (f.files second.drawer) (record { start = m; calls = calls }) = subst (λ (o : Option Log). IfSome o (TellsRefusals is_refused (f.files second.drawer))) log k.tells in
      (t.idle, t.marked)

module _ {F R I O : Type 0} (f : files.Ghosts F) (r : roads.Ghosts R I O) (i : link_in.Ghosts I) (o : link_out.Ghosts O) where
  stands_first : (w : World) (net : Net) (c : ℕ) (full : FullMember) (book first : BookState F) (m : Member I O) (road : R) → SameReplica book first → MemberStands r i o w net c full book m road → MemberStands r i o w net c full first m road
  stands_first w net c full book first m road same h = record {
    roads_are = h.roads_are;
    lower = h.lower;
    shows = h.shows;
    replica = same_replica book first same ∙ h.replica;
    later = h.later;
  }

  left_last : (w : World) (net : Net) (v : World) (c : ℕ) (full : FullMember) (second last : BookState F) (road : R) (left : Option (Member I O)) → SameReplica second last → MemberLeft r i o w net v c full second road left → MemberLeft r i o w net v c full last road left
  left_last w net v c full second last road left same h = record {
    made = h.made;
    roads_are = h.roads_are;
    full = h.full;
    lower = h.lower;
    fields = h.fields;
    mirror = h.mirror;
    left_is = h.left_is;
    replica = same_replica second last same ∙ h.replica;
    others = h.others;
  }

  -- Memory ran out before.
  pub refuses_memory : (m : Member I O) (book last : BookState F) (road : R) → MemberRefuses f r i o m book last road road (Err member_fault.Memory)
  refuses_memory m book last road = λ w net conn answered full x stands can. tt

  broke_ends : (w : World) (net : Net) (conn : ConnId) (answered : Bool) (full : FullMember) (book first second last : BookState F) (road road' : R) (is_refused : Bool) → Refuses f book first second last is_refused → DownBroke f r i o w net (happens w (event.Fault (delivery.Down conn))) conn.0 full first second road'
      → MemberEnds f r i o w net conn answered full book last road road' (refused_in (Ok downed.Broke) is_refused)
  broke_ends w net conn answered full book first second last road road' true k h = record {
    is_left = left_last w net (happens w (event.Fault (delivery.Down conn))) conn.0 full second last road' None k.ended h.is_left;
    grown = λ some. h.told.grown (sym (told_calls f book first second last true k h.told.calls h.told.log (f.files book.drawer) refl some).1);
  }
  broke_ends w net conn answered full book first second last road road' false k h =
      subst (λ (n : ℕ). FaultsIncreased (f.faults book.drawer) n) (sym (k.after refl))
      (subst (λ (n : ℕ). FaultsIncreased n (f.faults second.drawer)) k.before h.rose)

  -- How such an event ends.
  pub refuses : (m : Member I O) (book first second last : BookState F) (road road' : R) (ended : Result (Downed I O) MemberFault) (is_refused : Bool) → Refuses f book first second last is_refused → member_events.DownShows f r i o m first second road road' ended
      → MemberRefuses f r i o m book last road road' (refused_in ended is_refused)
  refuses m book first second last road road' (Ok (downed.Done left)) is_refused k shows = λ w net conn answered full x stands can.
      let h : DownDone f r i o w net (happens w (event.Down conn answered)) conn.0 full first second road' left = shows w net conn answered full x (stands_first w net conn.0 full book first m road k.begun stands) can in
      record {
        is_left = left_last w net (happens w (event.Down conn answered)) conn.0 full second last road' left k.ended h.is_left;
        still = λ some. not_so (grows w conn.0) (λ g. idle_bytes h.told.calls (told_calls f book first second last is_refused k h.told.calls h.told.log (f.files book.drawer) refl some).0 (h.told.writes g));
      }
  refuses m book first second last road road' (Ok downed.Broke) is_refused k shows = λ w net conn answered full x stands can.
      broke_ends w net conn answered full book first second last road road' is_refused k (shows w net conn answered full x (stands_first w net conn.0 full book first m road k.begun stands) can)
  refuses m book first second last road road' (Err why) is_refused k shows = λ w net conn answered full x stands can.
      shows w net conn answered full x (stands_first w net conn.0 full book first m road k.begun stands) can
