-- The calls of a packet.
use Rattle.std.proofs.Common.{◌≡◌, ℕ, ◌+◌, ◌-◌, ◌<◌, ◌≤◌, ◌^◌, max, nat_abs, nat_lt, Bool, true, false, List, [], ◌∷◌, ◌++◌, length, take, drop, append-nil, Option, Some, None, option_map, IfSome, Result, Ok, Err, IsOk, refl, sym, ap, subst, ◌∙◌, arith}
use Rattle.std.specs.Result.{IfOk}
use Rattle.std.proofs.lemmas.List.{take_all, length-append, length-drop}
use Rattle.std.proofs.lemmas.Grind.{common_steps}
use Rattle.std.proofs.lemmas.Bool.Decides.{nat_tests}
use Rattle.hd_base.proofs.ByteLaws.{IsBytes-drop}
use Rattle.meta_file.specs.declared.names.Folder.{Folder}
use Rattle.replica_calls.specs.declared.names.FileNames.{FileNames}
use Rattle.hd_base.specs.Bytes.{IsBytes}
use Rattle.hd_base.specs.FileMaps.{FileMap}
use Rattle.hd_base.specs.Calls.{Write, run, LogMakesFiles, MakesCalls, StopsWithin}
use Rattle.hd_base.specs.declared.numbers.BlockId.{BlockId}
use Rattle.hd_base.specs.declared.numbers.ConnId.{ConnId}
use Rattle.hd_base.specs.declared.files.Files as files
use Rattle.hd_base.specs.declared.files.FileError.{FileError}
use Rattle.hd_base.specs.SumRules.{Rule, IsChunkSize}
use Rattle.file_calls.specs.Plans.{FindFiles, HasRoom}
use Rattle.chunk_sums.specs.Chunks.{sums}
use Rattle.packet_codec.specs.declared.packets.Packet.{Packet}
use Rattle.block_files.specs.Placements.{Both, files_of, data_name, meta_name}
use Rattle.block_files.specs.BlockCalls.{WriteData, WriteMeta, calls_of}
use Rattle.block_files.proofs.PlacementLaws.{calls_find_files}
use Rattle.replica_core.specs.declared.info.ReplicaInfo.{ReplicaInfo}
use Rattle.replica_core.specs.declared.events.Answer.{Answer}
use Rattle.replica_core.specs.Transitions.{Taken, Outcome, record_after, transition}
use Rattle.replica_core.specs.Views.{written_at}
use Rattle.replica_model.specs.declared.events.ReplicaEvent.{ReplicaEvent}
use Rattle.replica_model.specs.declared.events.ReplicaEvent.TheVariants as replica_event
use Rattle.replica_model.specs.Sums.{tail, sum_place, meta_of}
use Rattle.replica_model.specs.Rows.{FullReplica, IsWithBytes, event_at, brought, row}
use Rattle.replica_model.specs.Plans.{folder_of, has_sums, placed_info, placed_under, placement_of, HoldsInfo, when, sync_calls, packet_calls, taken_calls, plan}
use Rattle.replica_model.proofs.PlacementLemmas.{leads_packet}
use Rattle.replica_calls.specs.declared.growth.GrownSums.{GrownSums}
use Rattle.replica_calls.specs.CallLists.{only, all_if, sync_list, names_in, names_of, packet_list}
use Rattle.replica_calls.specs.LastSums.{IsLastSum, IsGrowing, AreGrownSums}
use Rattle.replica_calls.specs.Performed.{IsReady, Performs}
use Rattle.replica_files.specs.declared.book_state.BookState.{BookState}
use Rattle.replica_files.specs.declared.book_state.Prior.{Prior}
use Rattle.replica_files.specs.declared.growing.Growth.{Growth}
use Rattle.replica_files.specs.Books.{replica_of, HasLastSum, Takes, AreStrays, event_calls, amid}
use Rattle.replica_files.specs.Carried.{AreSumsOf, HoldsGrowing, IsToGrow, GrowsFiles, grown_calls, CarriesOut}
use Rattle.replica_files.specs.Packets.{brought_by, FitsGrowth, IsReadyWith, IsAmidGrowing, IsAmidPacket}
use Rattle.replica_files.proofs.ShapeLemmas.{most_bytes, Grows, grows}
use Rattle.replica_files.proofs.OnlyLemmas.{only_made, only_stopped, packet_stays}
use Rattle.replica_files.proofs.SettleLemmas.{carries_as}
use Rattle.replica_files.proofs.AmidLemmas.{plan_is}

-- ---- sums

no_more : (more : List ℕ) → length more ≡ 0 → more ≡ []
no_more [] e = refl
no_more (x ∷ xs) e = absurd (cc)

-- nothing comes behind them
pub sums_same : (r : Rule) (written sum : ℕ) (bytes more : List ℕ) (grown : GrownSums) → length more ≡ 0 → grown.last ≡ sum → IsGrowing r written sum bytes → AreSumsOf r bytes more grown
sums_same r written sum bytes more grown none is growing =
    record {
      from_last = λ some. absurd (let no : ⊥ = omega (arith, none, some) in no);
      last_now = subst (λ (x : List ℕ). IsLastSum r grown.last x) (sym (ap (λ l. bytes ++ l) (no_more more none) ∙ append-nil bytes)) (subst (λ n. IsLastSum r n bytes) (sym is) growing.last);
    }

pub sums_grown : (r : Rule) (bytes more : List ℕ) (grown : GrownSums) → AreGrownSums r bytes more grown → AreSumsOf r bytes more grown
sums_grown r bytes more grown are = record { from_last = λ _. are.from_last; last_now = are.last_now }

-- ---- the list

is_more : (n : ℕ) → nat_lt 0 n ≡ true → 0 < n
is_more n e = grind (arith, common_steps, nat_tests)

-- the calls by names
packet_named : (block : ℕ) (f : Folder) (g : ℕ) (d m : List ℕ) (t s y : Bool) (w p : ℕ) (more z : List ℕ)
    → calls_of block (when t (WriteData w more ∷ when s (WriteMeta p z ∷ [])) ++ when y sync_calls) (Both f d f g m)
    ≡ all_if t (Write (data_name f block) w more ∷ only s (Write (meta_name f g block) p z)) ++ all_if y (sync_list (names_in block f g))
packet_named block f g d m false s false w p more z = refl
packet_named block f g d m false s true w p more z = refl
packet_named block f g d m true false false w p more z = refl
packet_named block f g d m true false true w p more z = refl
packet_named block f g d m true true false w p more z = refl
packet_named block f g d m true true true w p more z = refl

-- the same sums, where there are bytes
sums_named : (t s : Bool) (dn mn : List ℕ) (w v p q : ℕ) (more z x : List ℕ) → w ≡ v → p ≡ q → (t ≡ true → z ≡ x) → all_if t (Write dn w more ∷ only s (Write mn p z)) ≡ all_if t (Write dn v more ∷ only s (Write mn q x))
sums_named false s dn mn w v p q more z x at place same = refl
sums_named true s dn mn w v p q more z x at place same =
    ap (λ n. Write dn n more ∷ only s (Write mn p z)) at ∙ (ap (λ n. Write dn v more ∷ only s (Write mn n z)) place ∙ ap (λ l. Write dn v more ∷ only s (Write mn q l)) (same refl))

grow_named : (block : ℕ) (h : ReplicaInfo) (bytes more z : List ℕ) (sync : Bool) → length bytes ≡ h.written → (0 < length more → z ≡ sums h.sums (tail h.sums bytes ++ more))
    → packet_list (names_of block h) h.sums h.written more z sync ≡ calls_of block (packet_calls h.sums bytes more sync) (placed_info h bytes)
grow_named block h bytes more z sync all same =
    let f = folder_of h.original in
    let g = h.stamp.0 in
    let r = h.sums in
    let x = sums r (tail r bytes ++ more) in
    let t = nat_lt 0 (length more) in
    ap (λ l. l ++ all_if sync (sync_list (names_of block h)))
    (sums_named t (has_sums r.kind) (data_name f block) (meta_name f g block) h.written (length bytes) (sum_place r h.written) (sum_place r (length bytes)) more z x (sym all) (ap (sum_place r) (sym all)) (λ e. same (is_more (length more) e)))
    ∙ sym (packet_named block f g bytes (meta_of r bytes) t (has_sums r.kind) sync (length bytes) (sum_place r (length bytes)) more x)

packet_room : (room : List ℕ → ℕ) (names : FileNames) (t s y : Bool) (w p : ℕ) (more z : List ℕ) → w + length more < room names.«data» → p + length z < room names.meta
    → HasRoom room (all_if t (Write names.«data» w more ∷ only s (Write names.meta p z)) ++ all_if y (sync_list names))
packet_room room names false s false w p more z bytes sums = tt
packet_room room names false s true w p more z bytes sums = tt
packet_room room names true false false w p more z bytes sums = (bytes, tt)
packet_room room names true false true w p more z bytes sums = (bytes, tt)
packet_room room names true true false w p more z bytes sums = (bytes, (sums, tt))
packet_room room names true true true w p more z bytes sums = (bytes, (sums, tt))

grow_found : (files : Option FileMap) (block : BlockId) (h : ReplicaInfo) (bytes more : List ℕ) (grown : GrownSums) (sync : Bool) → block.0 < 2 ^ 64 → IsChunkSize h.sums.chunk → HoldsGrowing files block h bytes more grown
    → IfSome files (λ m. FindFiles m (packet_list (names_of block.0 h) h.sums h.written more grown.sums.items sync))
grow_found None block h bytes more grown sync fits size holds = tt
grow_found (Some m) block h bytes more grown sync fits size holds =
    let f = folder_of h.original in
    subst (λ (x : FileMap). FindFiles x (packet_list (names_of block.0 h) h.sums h.written more grown.sums.items sync)) (sym holds.placed)
    (subst (FindFiles (files_of block.0 (placed_info h bytes))) (sym (grow_named block.0 h bytes more grown.sums.items sync holds.all holds.sums_are.from_last))
    (calls_find_files block.0 (packet_calls h.sums bytes more sync) (placed_info h bytes) fits (leads_packet h.sums bytes more sync f h.stamp.0 (omega (arith, size.least))).able))

pub grow_ready : {F : Type 0} (f : files.Ghosts F) (d : F) (block : BlockId) (h : ReplicaInfo) (more : List ℕ) (grown : GrownSums) (sync : Bool) → block.0 < 2 ^ 64 → h.written < 2 ^ 64 → IsToGrow f d block h more grown
    → IsReady f d (packet_list (names_of block.0 h) h.sums h.written more grown.sums.items sync)
grow_ready f d block h more grown sync fits written s =
    record {
      found = grow_found (f.files d) block h s.bytes more grown sync fits s.size s.holds;
      enough = packet_room (f.room d) (names_of block.0 h) (nat_lt 0 (length more)) (has_sums h.sums.kind) sync h.written (sum_place h.sums h.written) more grown.sums.items (s.room written).bytes (s.room written).sums;
    }

named_where : (files : Option FileMap) (block : BlockId) (h : ReplicaInfo) (bytes more : List ℕ) (grown : GrownSums) (sync : Bool) → HoldsGrowing files block h bytes more grown
    → IfSome files (λ _. packet_list (names_of block.0 h) h.sums h.written more grown.sums.items sync ≡ grown_calls block h bytes more sync)
named_where None block h bytes more grown sync holds = tt
named_where (Some m) block h bytes more grown sync holds = grow_named block.0 h bytes more grown.sums.items sync holds.all holds.sums_are.from_last

if_some : {P Q : Type 0} (o : Option FileMap) → (P → Q) → IfSome o (λ _. P) → IfSome o (λ _. Q)
if_some None onward p = tt
if_some (Some m) onward p = onward p

pub grows_done : {F T : Type 0} (f : files.Ghosts F) (old new : F) (block : BlockId) (h : ReplicaInfo) (bytes more : List ℕ) (grown : GrownSums) (sync : Bool) (u : T) → LogMakesFiles (f.log old) (f.files old) → HoldsGrowing (f.files old) block h bytes more grown
    → Performs f old new (packet_list (names_of block.0 h) h.sums h.written more grown.sums.items sync) (Ok u) → GrowsFiles f old new block h bytes more sync (Ok grown.last)
grows_done f old new block h bytes more grown sync u log holds made =
    let list = packet_list (names_of block.0 h) h.sums h.written more grown.sums.items sync in
    let by = carries_as f old new list (grown_calls block h bytes more sync) (Ok u) (named_where (f.files old) block h bytes more grown sync holds) log made in
    record {
      made = by.made;
      stopped = tt;
      cause = record { never_falls = by.cause.never_falls; failed = tt };
      only = only_made block.0 (f.files old) (f.files new) (f.log old) (f.log new) list (packet_stays block.0 (names_of block.0 h) h.written more grown.sums.items sync h.sums) made.done;
      last = if_some (f.files old) (λ are. are.last_now) holds.sums_are;
    }

pub grows_failed : {F T : Type 0} (f : files.Ghosts F) (old new : F) (block : BlockId) (h : ReplicaInfo) (bytes more : List ℕ) (grown : GrownSums) (sync : Bool) (e : FileError) → LogMakesFiles (f.log old) (f.files old) → HoldsGrowing (f.files old) block h bytes more grown
    → Performs {T = T} f old new (packet_list (names_of block.0 h) h.sums h.written more grown.sums.items sync) (Err e) → GrowsFiles f old new block h bytes more sync (Err e)
grows_failed f old new block h bytes more grown sync e log holds made =
    let list = packet_list (names_of block.0 h) h.sums h.written more grown.sums.items sync in
    let by = carries_as f old new list (grown_calls block h bytes more sync) (Err e) (named_where (f.files old) block h bytes more grown sync holds) log made in
    record {
      made = tt;
      stopped = by.stopped;
      cause = record { never_falls = by.cause.never_falls; failed = by.cause.failed };
      only = only_stopped block.0 (f.files old) (f.files new) (f.log old) (f.log new) list (packet_stays block.0 (names_of block.0 h) h.written more grown.sums.items sync h.sums) made.stopped;
      last = tt;
    }

-- ---- amid a packet

if_taken : (P : Taken → Type 0) (out : Outcome) → IsOk out → IfOk out P → (t : Taken) × (out ≡ Ok t) × P t
if_taken P (Ok t) is p = (t, refl, p)
if_taken P (Err e) is p = absurd (cc)

-- What it held, and holds.
pub record HasGrown (r : FullReplica) (conn : ConnId) (p : Packet) : Type 0 where
  pub h : ReplicaInfo
  pub k : ReplicaInfo
  pub unbroken : r.known.is_broken ≡ false
  pub before : r.known.info ≡ Some h
  pub after : (row r (replica_event.Packet conn p)).known.info ≡ Some k
  pub same_rule : k.sums ≡ h.sums
  pub written : k.written ≡ h.written + length (brought_by h.written p)
  pub within : k.written ≤ max h.written most_bytes

pub has_grown : (r : FullReplica) (conn : ConnId) (p : Packet) → Takes r (replica_event.Packet conn p) → HasGrown r conn p
unfolding transition
has_grown r conn p takes =
    let e = replica_event.Packet conn p in
    let t = if_taken (Grows r.known p.offset (length p.body)) (transition r.known (event_at r e)) takes (grows r.known conn _) in
    let g = t.2 in
    record {
      h = g.h;
      k = g.k;
      unbroken = g.unbroken;
      before = g.before;
      after = ap (λ o. (record_after r.known o).info) t.1 ∙ g.after;
      same_rule = g.same_rule;
      written = g.written ∙ ap (λ n. g.h.written + n) (sym (length-drop (g.h.written - nat_abs p.offset) p.body));
      within = g.within;
    }

same_some : {A : Type 0} {x y : A} → ◌≡◌ {A = Option A} (Some x) (Some y) → x ≡ y
same_some e = cc

none_some : {P A : Type 0} {x : A} (o : Option A) → o ≡ None → o ≡ Some x → P
none_some o none is = absurd (cc)

-- it was there
pub growing_there : {F : Type 0} (f : files.Ghosts F) (d : F) (block : BlockId) (prior : Prior) (p : Packet) (growth : Option Growth) (sum : ℕ) (P : Type 0) → IsAmidGrowing f d block prior p growth sum → prior.info ≡ None → P
growing_there f d block prior p growth sum P a none =
    let g = has_grown a.r a.conn p a.takes in
    none_some prior.info none (a.before_is ∙ g.before)

-- and the packet was prepared
pub growing_ready : {F : Type 0} (f : files.Ghosts F) (d : F) (block : BlockId) (prior : Prior) (p : Packet) (growth : Option Growth) (sum : ℕ) (h : ReplicaInfo) (P : Type 0) → IsAmidGrowing f d block prior p growth sum → prior.info ≡ Some h → growth ≡ None → P
growing_ready f d block prior p growth sum h P a is none = absurd (subst (IsReadyWith f d block sum h p) none (a.ready h is))

pub growing_fits : {F : Type 0} (f : files.Ghosts F) (d : F) (block : BlockId) (prior : Prior) (p : Packet) (growth : Option Growth) (sum : ℕ) (h : ReplicaInfo) (g : Growth) → IsAmidGrowing f d block prior p growth sum → prior.info ≡ Some h → growth ≡ Some g
    → FitsGrowth f d block sum h p g
growing_fits f d block prior p growth sum h g a is some = subst (IsReadyWith f d block sum h p) some (a.ready h is)

growing_sums : (files : Option FileMap) (r : FullReplica) (h : ReplicaInfo) (sum : ℕ) (more : List ℕ) (grown : GrownSums) → IsBytes r.bytes → length r.bytes ≡ h.written → r.known.info ≡ Some h → r.known.is_broken ≡ false → IfSome files (λ _. HasLastSum sum r)
    → ((bytes : List ℕ) → IsGrowing h.sums h.written sum bytes → AreSumsOf h.sums bytes more grown) → IfSome files (λ _. AreSumsOf h.sums r.bytes more grown)
growing_sums None r h sum more grown are all is whole last sums = tt
growing_sums (Some m) r h sum more grown are all is whole last sums =
    sums r.bytes (record { are_bytes = are; all = all; last = subst (λ (o : Option ReplicaInfo). IfSome o (λ x. IsLastSum x.sums sum r.bytes)) is (last whole) })

-- what it holds of the block
pub growing_holds : {F : Type 0} (f : files.Ghosts F) (d : F) (block : BlockId) (prior : Prior) (p : Packet) (growth : Option Growth) (sum : ℕ) (h : ReplicaInfo) (g : Growth) (a : IsAmidGrowing f d block prior p growth sum) → prior.info ≡ Some h → growth ≡ Some g
    → HoldsGrowing (f.files d) block h a.r.bytes (brought_by h.written p) g.sums
growing_holds f d block prior p growth sum h g a is some =
    let r = a.r in
    let fits = growing_fits f d block prior p growth sum h g a is some in
    let x = has_grown r a.conn p a.takes in
    let info : r.known.info ≡ Some h = sym a.before_is ∙ is in
    let all : length r.bytes ≡ h.written = a.held.full.all ∙ ap written_at info in
    record {
      all = all;
      placed = subst (λ (b : BlockId). IfSome (f.files d) (λ m. m ≡ files_of b.0 (placed_info h r.bytes))) a.held.of_block
          (subst (λ (t : Bool). HoldsInfo (f.files d) r.known.block.0 (Some h) t r.bytes) x.unbroken
          (subst (λ (o : Option ReplicaInfo). HoldsInfo (f.files d) r.known.block.0 o r.known.is_broken r.bytes) info a.held.holds));
      sums_are = growing_sums (f.files d) r h sum (brought_by h.written p) g.sums a.held.are_bytes all info x.unbroken a.held.last fits.sums_are;
    }

-- it can grow
pub growing_to_grow : {F : Type 0} (f : files.Ghosts F) (d : F) (block : BlockId) (prior : Prior) (p : Packet) (growth : Option Growth) (sum : ℕ) (h : ReplicaInfo) (g : Growth) (a : IsAmidGrowing f d block prior p growth sum) → prior.info ≡ Some h → growth ≡ Some g
    → IsToGrow f d block h (brought_by h.written p) g.sums
growing_to_grow f d block prior p growth sum h g a is some =
    let r = a.r in
    let fits = growing_fits f d block prior p growth sum h g a is some in
    let x = has_grown r a.conn p a.takes in
    let info : r.known.info ≡ Some h = sym a.before_is ∙ is in
    let same : x.h ≡ h = same_some (sym x.before ∙ info) in
    let written : x.k.written ≡ h.written + length (brought_by h.written p) = x.written ∙ ap (λ (y : ReplicaInfo). y.written + length (brought_by y.written p)) same in
    let most : x.k.written ≤ max h.written most_bytes = subst (λ (y : ReplicaInfo). x.k.written ≤ max y.written most_bytes) same x.within in
    record {
      bytes = r.bytes;
      holds = growing_holds f d block prior p growth sum h g a is some;
      size = subst (λ (o : Option ReplicaInfo). IfSome o (λ y. IsChunkSize y.sums.chunk)) info a.held.full.rule;
      room = λ fits_written. fits.room (omega (arith, written, most, fits_written));
    }

-- the calls of the packet
growing_calls : (r : FullReplica) (conn : ConnId) (p : Packet) (h : ReplicaInfo) (block : BlockId) → r.known.block ≡ block → r.known.info ≡ Some h → length r.bytes ≡ h.written → Takes r (replica_event.Packet conn p) → (x : HasGrown r conn p)
    → event_calls r (replica_event.Packet conn p) [] ≡ grown_calls block h r.bytes (brought_by h.written p) p.sync
growing_calls r conn p h block of info all takes x =
    let e = replica_event.Packet conn p in
    ap (λ (o : BlockId). calls_of o.0 (plan r e) (placement_of r)) of
    ∙ (ap (λ l. calls_of block.0 l (placement_of r)) (plan_is r e takes ∙ (ap (λ o. taken_calls e o (row r e).known.info r.bytes) info ∙ ap (λ o. taken_calls e (Some h) o r.bytes) x.after))
    ∙ (ap (λ o. calls_of block.0 (packet_calls h.sums r.bytes (brought (length r.bytes) e) p.sync) (placed_under o r.bytes)) info
    ∙ ap (λ n. calls_of block.0 (packet_calls h.sums r.bytes (brought n e) p.sync) (placed_info h r.bytes)) all))

no_strays : (files : Option FileMap) (o q : Option ReplicaInfo) (h : ReplicaInfo) → o ≡ Some h → AreStrays files o q []
no_strays files o q h is = subst (λ x. AreStrays files x q []) (sym is) refl

-- its bytes then
bytes_grown : (r : FullReplica) (conn : ConnId) (p : Packet) (h k : ReplicaInfo) → r.known.info ≡ Some h → length r.bytes ≡ h.written → (row r (replica_event.Packet conn p)).known.info ≡ Some k → k.written ≡ h.written + length (brought_by h.written p)
    → (row r (replica_event.Packet conn p)).bytes ≡ r.bytes ++ brought_by h.written p
bytes_grown r conn p h k info all after written =
    let e = replica_event.Packet conn p in
    let more = brought_by h.written p in
    ap (λ o. take (written_at o) (r.bytes ++ brought (length r.bytes) e)) after
    ∙ (ap (λ n. take k.written (r.bytes ++ brought n e)) all
    ∙ take_all k.written (r.bytes ++ more) (omega (arith, length-append r.bytes more, all, written)))

last_grown : (r : FullReplica) (conn : ConnId) (p : Packet) (h k : ReplicaInfo) (sum : ℕ) → (row r (replica_event.Packet conn p)).known.info ≡ Some k → k.sums ≡ h.sums → (row r (replica_event.Packet conn p)).bytes ≡ r.bytes ++ brought_by h.written p
    → IsLastSum h.sums sum (r.bytes ++ brought_by h.written p) → HasLastSum sum (row r (replica_event.Packet conn p))
last_grown r conn p h k sum after rule bytes last = λ whole.
    let s = row r (replica_event.Packet conn p) in
    subst (λ (o : Option ReplicaInfo). IfSome o (λ y. IsLastSum y.sums sum s.bytes)) (sym after)
    (subst (λ (l : List ℕ). IsLastSum k.sums sum l) (sym bytes) (subst (λ y. IsLastSum y sum (r.bytes ++ brought_by h.written p)) (sym rule) last))

if_mapped : (P : Type 0) (a b : Option FileMap) (g : FileMap → FileMap) → b ≡ option_map g a → IfSome a (λ _. P) → IfSome b (λ _. P)
if_mapped P None b g e p = subst (λ (o : Option FileMap). IfSome o (λ _. P)) (sym e) tt
if_mapped P (Some m) b g e p = subst (λ (o : Option FileMap). IfSome o (λ _. P)) (sym e) p

pub growing_carries : {F : Type 0} (f : files.Ghosts F) (d new : F) (block : BlockId) (prior : Prior) (p : Packet) (growth : Option Growth) (sum : ℕ) (h : ReplicaInfo) (result : Result ℕ FileError) (a : IsAmidGrowing f d block prior p growth sum) → prior.info ≡ Some h
    → GrowsFiles f d new block h a.r.bytes (brought_by h.written p) p.sync result → CarriesOut f d new block a.r (replica_event.Packet a.conn p) result
growing_carries f d new block prior p growth sum h (Ok s) a is made =
    let r = a.r in
    let e = replica_event.Packet a.conn p in
    let x = has_grown r a.conn p a.takes in
    let info : r.known.info ≡ Some h = sym a.before_is ∙ is in
    let all : length r.bytes ≡ h.written = a.held.full.all ∙ ap written_at info in
    let same : x.h ≡ h = same_some (sym x.before ∙ info) in
    let written : x.k.written ≡ h.written + length (brought_by h.written p) = x.written ∙ ap (λ (y : ReplicaInfo). y.written + length (brought_by y.written p)) same in
    record {
      made = record {
        strays = [];
        are = no_strays (f.files d) r.known.info (row r e).known.info h info;
        made = subst (MakesCalls (f.files d) (f.files new) (f.log d) (f.log new)) (sym (growing_calls r a.conn p h block a.held.of_block info all a.takes x)) made.made;
      };
      stopped = tt;
      cause = made.cause;
      only = made.only a.held.only;
      last = if_mapped (HasLastSum s (row r e)) (f.files d) (f.files new) (run (grown_calls block h r.bytes (brought_by h.written p) p.sync)) made.made.files
          (if_some (f.files d) (last_grown r a.conn p h x.k s x.after (x.same_rule ∙ ap (λ (y : ReplicaInfo). y.sums) same) (bytes_grown r a.conn p h x.k info all x.after written)) made.last);
    }
growing_carries f d new block prior p growth sum h (Err y) a is made =
    let r = a.r in
    let e = replica_event.Packet a.conn p in
    let x = has_grown r a.conn p a.takes in
    let info : r.known.info ≡ Some h = sym a.before_is ∙ is in
    let all : length r.bytes ≡ h.written = a.held.full.all ∙ ap written_at info in
    record {
      made = tt;
      stopped = amid [] (no_strays (f.files d) r.known.info (row r e).known.info h info)
          (subst (StopsWithin (f.files d) (f.files new) (f.log d) (f.log new)) (sym (growing_calls r a.conn p h block a.held.of_block info all a.takes x)) made.stopped);
      cause = made.cause;
      only = made.only a.held.only;
      last = tt;
    }

-- the rest of a body
pub rest_of : (got body : List ℕ) (from : ℕ) (more : List ℕ) → got ≡ body → drop from body ≡ more → take (length got - from) (drop from got) ≡ more
rest_of got body from more same is =
    take_all (length got - from) (drop from got) (omega (arith, length-drop from got)) ∙ (ap (drop from) same ∙ is)

-- ---- in its book

pub packet_growing : {F : Type 0} (f : files.Ghosts F) (s : BookState F) (e : ReplicaEvent) (prior : Prior) (answer : Answer) (p : Packet) (growth : Option Growth) → IsAmidPacket f s e prior answer p growth → IsAmidGrowing f s.drawer s.block prior p growth s.last_sum
packet_growing f s e prior answer p growth a =
    record { r = replica_of s; conn = a.conn; held = a.held; takes = subst (Takes (replica_of s)) a.is a.takes; before_is = a.before_is; ready = a.ready }

pub packet_carried : {F : Type 0} (f : files.Ghosts F) (s : BookState F) (new : F) (e : ReplicaEvent) (prior : Prior) (answer : Answer) (p : Packet) (growth : Option Growth) (made : Result ℕ FileError) → (a : IsAmidPacket f s e prior answer p growth)
    → ((x : IsAmidGrowing f s.drawer s.block prior p growth s.last_sum) → CarriesOut f s.drawer new s.block x.r (replica_event.Packet x.conn p) made) → CarriesOut f s.drawer new s.block (replica_of s) e made
unfolding packet_growing
packet_carried f s new e prior answer p growth made a carries =
    subst (λ x. CarriesOut f s.drawer new s.block (replica_of s) x made) (sym a.is) (carries (packet_growing f s e prior answer p growth a))

pub packet_with_bytes : {F : Type 0} (f : files.Ghosts F) (s : BookState F) (e : ReplicaEvent) (prior : Prior) (answer : Answer) (p : Packet) (growth : Option Growth) → IsAmidPacket f s e prior answer p growth → IsWithBytes e
packet_with_bytes f s e prior answer p growth a = subst IsWithBytes (sym a.is) tt

ready_bytes : {F : Type 0} (f : files.Ghosts F) (d : F) (block : BlockId) (sum : ℕ) (h : ReplicaInfo) (p : Packet) (growth : Option Growth) → IsReadyWith f d block sum h p growth → IsBytes p.body
ready_bytes f d block sum h p None ready = absurd ready
ready_bytes f d block sum h p (Some g) ready = ready.are_bytes

pub packet_brings : {F : Type 0} (f : files.Ghosts F) (s : BookState F) (e : ReplicaEvent) (prior : Prior) (answer : Answer) (p : Packet) (growth : Option Growth) (n : ℕ) → IsAmidPacket f s e prior answer p growth → IsBytes (brought n e)
packet_brings f s e prior answer p growth n a =
    let x = has_grown (replica_of s) a.conn p (subst (Takes (replica_of s)) a.is a.takes) in
    let body = ready_bytes f s.drawer s.block s.last_sum x.h p growth (a.ready x.h (a.before_is ∙ x.before)) in
    subst (λ y. IsBytes (brought n y)) (sym a.is) (IsBytes-drop (n - nat_abs p.offset) p.body body)
