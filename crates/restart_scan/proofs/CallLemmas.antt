-- Lists of calls.
use Rattle.std.proofs.Common.{◌≡◌, ℕ, zero, suc, ◌+◌, ◌<◌, ◌≤◌, not, nat_lt, Bool, true, false, List, [], ◌∷◌, ◌++◌, length, get_or, take, sym, ap, subst, ◌∙◌, arith, append_assoc, append-nil}
use Rattle.std.proofs.lemmas.List.{take_all, map-append}
use Rattle.hd_base.specs.Calls.{Call, Make, Write, Cut, Sync, Rename, Remove}
use Rattle.file_calls.specs.Plans.{HasRoom, NeedNoRoom}
use Rattle.file_calls.proofs.PlanLaws.{HasRoom-none}
use Rattle.replica_model.specs.Sums.{meta_len}
use Rattle.replica_model.specs.Plans.{same_folder}
use Rattle.replica_calls.specs.declared.names.FileNames.{FileNames}
use Rattle.file_calls.specs.declared.calls.FileCall.{FileCall}
use Rattle.file_calls.specs.FileCalls.{meant, plan}
use Rattle.replica_calls.specs.CallLists.{only, remove_list}
use Rattle.restart_scan.specs.declared.pairs.PairPlaces.{PairPlaces}
use Rattle.restart_scan.specs.declared.reading.ReadPair.{ReadPair}
use Rattle.restart_scan.specs.declared.settling.PairNames.{PairNames}
use Rattle.restart_scan.specs.Blocks.{layout_places, last_places, move_list, cut_list}
use Rattle.restart_scan.specs.Reading.{read_state, settle_list}

removes_more : (names : List (List ℕ)) (i : ℕ) (name : List ℕ) → i < length names → name ≡ get_or names i name → remove_list (take (i + 1) names) ≡ remove_list (take i names) ++ Remove name ∷ []
removes_more [] i name within is = absurd (omega arith)
removes_more (x ∷ names) zero name within is = ap (λ n. Remove n ∷ []) (sym is)
removes_more (x ∷ names) (suc i) name within is =
    let next : suc i + 1 ≡ suc (i + 1) = omega arith in
    ap (λ n. remove_list (take n (x ∷ names))) next ∙ ap (λ l. Remove x ∷ l) (removes_more names i name (omega (arith, within)) is)

pub removal_next : (old new first : List FileCall) (names : List (List ℕ)) (i : ℕ) (name : List ℕ) (call : FileCall) → plan old ≡ plan first ++ remove_list (take i names) → i < length names → name ≡ get_or names i name
    → new ≡ old ++ call ∷ [] → meant call ≡ Remove name → plan new ≡ plan first ++ remove_list (take (i + 1) names)
removal_next old new first names i name call so_far within is more means =
    ap plan more ∙ (map-append meant old (call ∷ [])
    ∙ (ap (λ l. l ++ meant call ∷ []) so_far ∙ (append_assoc (plan first) (remove_list (take i names)) (meant call ∷ [])
    ∙ ap (λ l. plan first ++ l) (ap (λ c. remove_list (take i names) ++ c ∷ []) means ∙ sym (removes_more names i name within is)))))

pub removal_starts : (first : List FileCall) (names : List (List ℕ)) → plan first ≡ plan first ++ remove_list (take 0 names)
removal_starts first names = sym (append-nil (plan first))

pub removal_ends : (old first : List FileCall) (names : List (List ℕ)) (i : ℕ) → plan old ≡ plan first ++ remove_list (take i names) → length names ≤ i → plan old ≡ plan first ++ remove_list names
removal_ends old first names i so_far all = so_far ∙ ap (λ l. plan first ++ remove_list l) (take_all i names all)

-- ---- no room is needed

no_room_append : (xs ys : List Call) → NeedNoRoom xs → NeedNoRoom ys → NeedNoRoom (xs ++ ys)
no_room_append [] ys a b = b
no_room_append (Make name ∷ xs) ys a b = absurd a
no_room_append (Write name place bytes ∷ xs) ys a b = absurd a
no_room_append (Cut name len ∷ xs) ys a b = no_room_append xs ys a b
no_room_append (Sync name ∷ xs) ys a b = no_room_append xs ys a b
no_room_append (Rename from to ∷ xs) ys a b = no_room_append xs ys a b
no_room_append (Remove name ∷ xs) ys a b = no_room_append xs ys a b

pub no_room_removals : (names : List (List ℕ)) → NeedNoRoom (remove_list names)
no_room_removals [] = tt
no_room_removals (name ∷ names) = no_room_removals names

no_room_rename : (t : Bool) (a b : List ℕ) → NeedNoRoom (only t (Rename a b))
no_room_rename true a b = tt
no_room_rename false a b = tt

no_room_cut : (t : Bool) (a : List ℕ) (n : ℕ) → NeedNoRoom (only t (Cut a n))
no_room_cut true a n = tt
no_room_cut false a n = tt

no_room_moves : (a b : FileNames) (x y : PairPlaces) → NeedNoRoom (move_list a b x y)
no_room_moves a b x y = no_room_append (only (not (same_folder x.meta_folder y.meta_folder)) (Rename a.meta b.meta)) (only (not (same_folder x.folder y.folder)) (Rename a.«data» b.«data»)) (no_room_rename (not (same_folder x.meta_folder y.meta_folder)) a.meta b.meta) (no_room_rename (not (same_folder x.folder y.folder)) a.«data» b.«data»)

no_room_settling : (names : PairNames) (x : ReadPair) → NeedNoRoom (settle_list names x)
no_room_settling names x =
    no_room_append (move_list names.first names.layout x.places (layout_places x.places)) (move_list names.layout names.last (layout_places x.places) (last_places (read_state x) x.places) ++ cut_list names.last x.rule x.data_len x.meta_len x.kept) (no_room_moves names.first names.layout x.places (layout_places x.places))
    (no_room_append (move_list names.layout names.last (layout_places x.places) (last_places (read_state x) x.places)) (cut_list names.last x.rule x.data_len x.meta_len x.kept) (no_room_moves names.layout names.last (layout_places x.places) (last_places (read_state x) x.places))
    (no_room_append (only (nat_lt x.kept x.data_len) (Cut names.last.«data» x.kept)) (only (nat_lt (meta_len x.rule x.kept) x.meta_len) (Cut names.last.meta (meta_len x.rule x.kept))) (no_room_cut (nat_lt x.kept x.data_len) names.last.«data» x.kept) (no_room_cut (nat_lt (meta_len x.rule x.kept) x.meta_len) names.last.meta (meta_len x.rule x.kept))))

pub room_removals : (room : List ℕ → ℕ) (calls : List Call) (temporary : List (List ℕ)) → calls ≡ remove_list temporary → HasRoom room calls
room_removals room calls temporary e = subst (HasRoom room) (sym e) (HasRoom-none room (remove_list temporary) (no_room_removals temporary))

pub room_settling : (room : List ℕ → ℕ) (calls : List Call) (temporary : List (List ℕ)) (names : PairNames) (x : ReadPair) → calls ≡ remove_list temporary ++ settle_list names x → HasRoom room calls
room_settling room calls temporary names x e =
    subst (HasRoom room) (sym e) (HasRoom-none room (remove_list temporary ++ settle_list names x) (no_room_append (remove_list temporary) (settle_list names x) (no_room_removals temporary) (no_room_settling names x)))

-- the calls of a new list
pub new_calls : (now end start : List FileCall) (calls : List Call) → now ≡ end → plan end ≡ plan start ++ calls → start ≡ [] → plan now ≡ calls
new_calls now end start calls same more none = ap plan same ∙ (more ∙ ap (λ l. plan l ++ calls) none)

pub more_calls : (now end middle start : List FileCall) (calls more : List Call) → now ≡ end → plan end ≡ plan middle ++ more → plan middle ≡ plan start ++ calls → start ≡ [] → plan now ≡ calls ++ more
more_calls now end middle start calls more same then first none = ap plan same ∙ (then ∙ ap (λ l. l ++ more) (first ∙ ap (λ l. plan l ++ calls) none))
