-- What is found after a stop at one of the calls that settle a replica.
use Rattle.std.proofs.Common.{◌≡◌, ◌⊎◌, inl, inr, ℕ, zero, suc, ◌+◌, ◌*◌, ◌/◌, ◌%◌, ◌^◌, ◌<◌, ◌≤◌, ◌==◌, ◌&&◌, not, nat_lt, Bool, true, false, List, [], ◌∷◌, ◌++◌, length, take, drop, Option, None, refl, sym, ap, subst, ◌∙◌, arith, append_assoc}
use Rattle.std.proofs.lemmas.List.{take_all, drop-drop, take-append-drop}
use Rattle.std.proofs.lemmas.Bool.Decides.{Decides-eqb}
use Rattle.std.proofs.Math.Seq.{take-append-add, drop-append_seam}
use Rattle.hd_base.specs.FileMaps.{overwritten}
use Rattle.hd_base.proofs.FileLaws.{overwritten-end}
use Rattle.hd_base.specs.SumRules.{Rule}
use Rattle.hd_base.specs.declared.numbers.BlockId.{BlockId}
use Rattle.hd_base.specs.declared.numbers.Stamp.{Stamp}
use Rattle.hd_base.specs.declared.states.ReplicaState.{ReplicaState}
use Rattle.hd_base.specs.declared.states.ReplicaState.TheVariants as state
use Rattle.chunk_sums.specs.Chunks.{sums, sum_count}
use Rattle.meta_file.specs.declared.names.Folder.{Folder}
use Rattle.meta_file.specs.declared.names.Folder.TheVariants.{Rbw, Finalized, Tmp}
use Rattle.meta_file.specs.Headers.{header_of}
use Rattle.block_files.specs.Placements.{Placement, Both, files_of}
use Rattle.block_files.specs.BlockCalls.{BlockCall, WriteData, CutData, WriteMeta, CutMeta, SyncData, SyncMeta, MoveData, MoveMeta, placed, all_placed, stopped}
use Rattle.replica_core.specs.declared.info.ReplicaInfo.{ReplicaInfo}
use Rattle.replica_core.specs.Info.{is_temporary, is_finalized}
use Rattle.replica_model.specs.Sums.{tail, header_len, sum_place, meta_len, meta_of}
use Rattle.replica_model.specs.Plans.{when, grow_calls, sync_calls, packet_calls, has_sums, folder_of, same_folder, cut_calls, move_calls, settle_calls, placed_info}
use Rattle.replica_model.specs.Found.{Found, found_as, IsWaiting, MayFindReceived, MayFindBetween, waits_old_before, waits_old_after, waits_new_after, stays_final, becomes_final, cut_final}
use Rattle.replica_model.proofs.PlacementLemmas.{leads_cut}
use Rattle.restart_scan.specs.Laws.{FindsBlock, finds, finds_none, IsPlain, IsFoundFinal, StoppedSettlingsAreFound, StoppedPacketsAreFound, StoppedTransfersAreFound}
use Rattle.restart_scan.proofs.SettleLemmas.{same_is, not_false, is_less, not_less}
use Rattle.restart_scan.proofs.WholeLemmas.{two_files_are_found, temporary_found, plain_found, plain_rbw, no_pair}

true_false : true ≡ false → ⊥
true_false e = cc

-- ---- stops

-- Wherever some calls are stopped, this holds of where the files lie.
abbrev pub Stops : (Placement → Type 0) → List BlockCall → Placement → Type 0
Stops S calls p = (i n : ℕ) → S (all_placed (stopped i n calls) p)

pub stops_append : (S : Placement → Type 0) (xs ys : List BlockCall) (p : Placement) → Stops S xs p → Stops S ys (all_placed xs p) → Stops S (xs ++ ys) p
stops_append S [] ys p a b i n = b i n
stops_append S (x ∷ xs) ys p a b zero n = a zero n
stops_append S (x ∷ xs) ys p a b (suc i) n = stops_append S xs ys (placed x p) (λ j m. a (suc j) m) b i n

pub stops_when : (S : Placement → Type 0) (t : Bool) (calls : List BlockCall) (p : Placement) → (t ≡ true → Stops S calls p) → S p → Stops S (when t calls) p
stops_when S true calls p a s i n = a refl i n
stops_when S false calls p a s i n = s

pub stops_cut_data : (S : Placement → Type 0) (len : ℕ) (p : Placement) → S p → S (placed (CutData len) p) → Stops S (CutData len ∷ []) p
stops_cut_data S len p a b zero zero = a
stops_cut_data S len p a b zero (suc n) = b
stops_cut_data S len p a b (suc i) n = b

pub stops_cut_meta : (S : Placement → Type 0) (len : ℕ) (p : Placement) → S p → S (placed (CutMeta len) p) → Stops S (CutMeta len ∷ []) p
stops_cut_meta S len p a b zero zero = a
stops_cut_meta S len p a b zero (suc n) = b
stops_cut_meta S len p a b (suc i) n = b

stops_write : (S : Placement → Type 0) (place : ℕ) (z : List ℕ) (p : Placement) → S p → ((piece : List ℕ) → S (placed (WriteMeta place piece) p)) → Stops S (WriteMeta place z ∷ []) p
stops_write S place z p a b zero zero = a
stops_write S place z p a b zero (suc n) = b (take n z)
stops_write S place z p a b (suc i) n = b z

pub stops_move_meta : (S : Placement → Type 0) (f : Folder) (g : ℕ) (p : Placement) → S p → S (placed (MoveMeta f g) p) → Stops S (MoveMeta f g ∷ []) p
stops_move_meta S f g p a b zero zero = a
stops_move_meta S f g p a b zero (suc n) = b
stops_move_meta S f g p a b (suc i) n = b

pub stops_move_data : (S : Placement → Type 0) (f : Folder) (p : Placement) → S p → S (placed (MoveData f) p) → Stops S (MoveData f ∷ []) p
stops_move_data S f p a b zero zero = a
stops_move_data S f p a b zero (suc n) = b
stops_move_data S f p a b (suc i) n = b

-- ---- the header stays

over_header : (r : Rule) (s z : List ℕ) (q : ℕ) → overwritten (header_of r ++ s) (header_len + q) z ≡ header_of r ++ overwritten s q z
over_header r s z q =
    let front : take (header_len + q) (header_of r ++ s) ≡ header_of r ++ take q s = take-append-add (header_of r) s q in
    let place : (q + length z) + header_len ≡ header_len + q + length z = omega arith in
    let order : header_len + (q + length z) ≡ header_len + q + length z = omega arith in
    let past : drop (header_len + q + length z) (header_of r ++ s) ≡ drop (q + length z) s =
    ap (λ n. drop n (header_of r ++ s)) (sym order) ∙ (sym (drop-drop (q + length z) header_len (header_of r ++ s)) ∙ ap (drop (q + length z)) (drop-append_seam (header_of r) s)) in
    ap (λ l. (l ++ z) ++ drop (header_len + q + length z) (header_of r ++ s)) front
    ∙ (ap (λ l. ((header_of r ++ take q s) ++ z) ++ l) past
    ∙ (ap (λ l. l ++ drop (q + length z) s) (append_assoc (header_of r) (take q s) z)
    ∙ append_assoc (header_of r) (take q s ++ z) (drop (q + length z) s)))

cut_header : (r : Rule) (s : List ℕ) (q : ℕ) → take (header_len + q) (header_of r ++ s) ≡ header_of r ++ take q s
cut_header r s q = take-append-add (header_of r) s q

-- ---- where the files lie between

-- what is written of the new replica
abbrev after_of : ReplicaInfo → List ℕ → List ℕ
after_of k bytes = take k.written bytes

-- Where the files of a replica may lie amid the calls that settle it, with a good header before whatever is stored.
data Amid (h k : ReplicaInfo) (bytes : List ℕ) (p : Placement) : Type 0 where
  whole : (s : List ℕ) → p ≡ Both (folder_of h.original) bytes (folder_of h.original) h.stamp.0 (header_of h.sums ++ s) → Amid h k bytes p
  cut : (s : List ℕ) → k.written < h.written → p ≡ Both (folder_of h.original) (after_of k bytes) (folder_of h.original) h.stamp.0 (header_of h.sums ++ s) → Amid h k bytes p
  moving : p ≡ Both (folder_of h.original) (after_of k bytes) (folder_of k.original) k.stamp.0 (meta_of h.sums (after_of k bytes)) → Amid h k bytes p
  moved : p ≡ Both (folder_of k.original) (after_of k bytes) (folder_of k.original) k.stamp.0 (meta_of h.sums (after_of k bytes)) → Amid h k bytes p

module _ (h k : ReplicaInfo) (bytes : List ℕ) (some : 1 ≤ h.sums.chunk) (all : length bytes ≡ h.written) (within : k.written ≤ h.written) where
  -- the files while bytes are cut off
  abbrev at_cut : List ℕ → Placement
  at_cut s = Both (folder_of h.original) (after_of k bytes) (folder_of h.original) h.stamp.0 (header_of h.sums ++ s)

  written_there : (less : k.written < h.written) (s piece : List ℕ) (q : ℕ) → Amid h k bytes (placed (WriteMeta (header_len + q) piece) (at_cut s))
  written_there less s piece q = cut (overwritten s q piece) less (ap (Both (folder_of h.original) (after_of k bytes) (folder_of h.original) h.stamp.0) (over_header h.sums s piece q))

  cut_there : (less : k.written < h.written) (s : List ℕ) (q : ℕ) → Amid h k bytes (placed (CutMeta (header_len + q)) (at_cut s))
  cut_there less s q = cut (take q s) less (ap (Both (folder_of h.original) (after_of k bytes) (folder_of h.original) h.stamp.0) (cut_header h.sums s q))

  -- the calls behind the cut of the data
  cut_rest : (less : k.written < h.written) (t u : Bool) (q m : ℕ) (z s : List ℕ) → Stops (Amid h k bytes) (when t (WriteMeta (header_len + q) z ∷ []) ++ when u (CutMeta (header_len + m) ∷ [])) (at_cut s)
  cut_rest less t u q m z s =
      stops_append (Amid h k bytes) (when t (WriteMeta (header_len + q) z ∷ [])) (when u (CutMeta (header_len + m) ∷ [])) (at_cut s)
      (stops_when (Amid h k bytes) t (WriteMeta (header_len + q) z ∷ []) (at_cut s) (λ _. stops_write (Amid h k bytes) (header_len + q) z (at_cut s) (cut s less refl) (λ piece. written_there less s piece q)) (cut s less refl))
      (by t) where
        end : (s : List ℕ) → Stops (Amid h k bytes) (when u (CutMeta (header_len + m) ∷ [])) (at_cut s)
        end s = stops_when (Amid h k bytes) u (CutMeta (header_len + m) ∷ []) (at_cut s) (λ _. stops_cut_meta (Amid h k bytes) (header_len + m) (at_cut s) (cut s less refl) (cut_there less s m)) (cut s less refl)

        by : (t : Bool) → Stops (Amid h k bytes) (when u (CutMeta (header_len + m) ∷ [])) (all_placed (when t (WriteMeta (header_len + q) z ∷ [])) (at_cut s))
        by true = subst (Stops (Amid h k bytes) (when u (CutMeta (header_len + m) ∷ []))) (sym (ap (Both (folder_of h.original) (after_of k bytes) (folder_of h.original) h.stamp.0) (over_header h.sums s z q))) (end (overwritten s q z))
        by false = end s

  start_is : Amid h k bytes (placed_info h bytes)
  start_is = whole (sums h.sums bytes) refl

  -- all calls that cut
  cut_stops : Stops (Amid h k bytes) (cut_calls h.sums bytes k.written) (placed_info h bytes)
  cut_stops = stops_when (Amid h k bytes) (nat_lt k.written (length bytes)) _ (placed_info h bytes) (λ e.
      let less : k.written < h.written = omega (arith, is_less k.written (length bytes) e, all) in
      let r = h.sums in
      let front = after_of k bytes in
      stops_append (Amid h k bytes) (CutData k.written ∷ []) _ (placed_info h bytes)
      (stops_cut_data (Amid h k bytes) k.written (placed_info h bytes) start_is (cut (sums r bytes) less refl))
      (cut_rest less (has_sums r.kind && not (length front % r.chunk == 0)) (nat_lt (meta_len r k.written) (meta_len r (length bytes)))
      (4 * (length front / r.chunk)) (4 * sum_count r.kind k.written r.chunk r.chunk) (sums r (tail r front)) (sums r bytes))) start_is

  -- the files once they are cut
  abbrev at_end : Placement
  at_end = Both (folder_of h.original) (after_of k bytes) (folder_of h.original) h.stamp.0 (meta_of h.sums (after_of k bytes))

  end_is : Amid h k bytes at_end
  end_is = by (nat_lt k.written (length bytes)) refl where
    by : (t : Bool) → nat_lt k.written (length bytes) ≡ t → Amid h k bytes at_end
    by true e = cut (sums h.sums (after_of k bytes)) (omega (arith, is_less k.written (length bytes) e, all)) refl
    by false e = whole (sums h.sums (after_of k bytes)) (ap (λ l. Both (folder_of h.original) l (folder_of h.original) h.stamp.0 (meta_of h.sums (after_of k bytes))) (take_all k.written bytes (not_less k.written (length bytes) e)))

  same_number : (m n : ℕ) → (m == n) ≡ true → m ≡ n
  same_number m n e = (Decides-eqb m n).0 e

  and_left : (p q : Bool) → (p && q) ≡ true → p ≡ true
  and_left true q e = refl
  and_left false q e = e

  and_right : (p q : Bool) → (p && q) ≡ true → q ≡ true
  and_right true q e = e
  and_right false q e = absurd (true_false (sym e))

  move_stops : Stops (Amid h k bytes) (move_calls (folder_of h.original) h.stamp.0 (folder_of k.original) k.stamp.0) at_end
  move_stops =
      let f = folder_of h.original in
      let g = folder_of k.original in
      let a = not (same_folder f g && h.stamp.0 == k.stamp.0) in
      let b = not (same_folder f g) in
      let m = meta_of h.sums (after_of k bytes) in
      stops_append (Amid h k bytes) (when a (MoveMeta g k.stamp.0 ∷ [])) (when b (MoveData g ∷ [])) at_end
      (stops_when (Amid h k bytes) a (MoveMeta g k.stamp.0 ∷ []) at_end (λ _. stops_move_meta (Amid h k bytes) g k.stamp.0 at_end end_is (moving refl)) end_is)
      (subst (Stops (Amid h k bytes) (when b (MoveData g ∷ []))) (sym (meta_there a refl))
      (stops_when (Amid h k bytes) b (MoveData g ∷ []) (Both f (after_of k bytes) g k.stamp.0 m)
      (λ _. stops_move_data (Amid h k bytes) g (Both f (after_of k bytes) g k.stamp.0 m) (moving refl) (moved refl))
      (moving refl))) where
        meta_there : (t : Bool) → not (same_folder (folder_of h.original) (folder_of k.original) && h.stamp.0 == k.stamp.0) ≡ t
            → all_placed (when t (MoveMeta (folder_of k.original) k.stamp.0 ∷ [])) at_end ≡ Both (folder_of h.original) (after_of k bytes) (folder_of k.original) k.stamp.0 (meta_of h.sums (after_of k bytes))
        meta_there true e = refl
        meta_there false e =
            let both = not_false (same_folder (folder_of h.original) (folder_of k.original) && h.stamp.0 == k.stamp.0) e in
            let folder : folder_of h.original ≡ folder_of k.original = same_is _ _ (and_left (same_folder (folder_of h.original) (folder_of k.original)) (h.stamp.0 == k.stamp.0) both) in
            let stamp : h.stamp.0 ≡ k.stamp.0 = same_number _ _ (and_right (same_folder (folder_of h.original) (folder_of k.original)) (h.stamp.0 == k.stamp.0) both) in
            ap (λ q. Both (folder_of h.original) (after_of k bytes) q h.stamp.0 (meta_of h.sums (after_of k bytes))) folder
            ∙ ap (λ n. Both (folder_of h.original) (after_of k bytes) (folder_of k.original) n (meta_of h.sums (after_of k bytes))) stamp

  settle_stops : Stops (Amid h k bytes) (settle_calls h k bytes) (placed_info h bytes)
  settle_stops =
      stops_append (Amid h k bytes) (cut_calls h.sums bytes k.written) (move_calls (folder_of h.original) h.stamp.0 (folder_of k.original) k.stamp.0) (placed_info h bytes) cut_stops
      (subst (Stops (Amid h k bytes) (move_calls (folder_of h.original) h.stamp.0 (folder_of k.original) k.stamp.0))
      (sym (leads_cut h.sums bytes k.written (folder_of h.original) (folder_of h.original) h.stamp.0 some (omega (arith, within, all))).there) move_stops)

-- ---- what is found

plain_folder : (s : ReplicaState) → is_temporary s ≡ false → IsPlain (folder_of s)
plain_folder state.Finalized e = inr refl
plain_folder state.Rbw e = inl refl
plain_folder state.Rwr e = inl refl
plain_folder state.Rur e = inl refl
plain_folder state.Temporary e = absurd (true_false e)

rbw_final : Rbw ≡ Finalized → ⊥
rbw_final e = cc

tmp_final : Tmp ≡ Finalized → ⊥
tmp_final e = cc

final_folder : (s : ReplicaState) → folder_of s ≡ Finalized → is_finalized s ≡ true
final_folder state.Finalized e = refl
final_folder state.Rbw e = absurd (rbw_final e)
final_folder state.Rwr e = absurd (rbw_final e)
final_folder state.Rur e = absurd (rbw_final e)
final_folder state.Temporary e = absurd (tmp_final e)

pub stopped_settlings_are_found : StoppedSettlingsAreFound
stopped_settlings_are_found block h k bytes i n found fits hs ks size all step f = by (settle_stops h k bytes (omega (arith, size.least)) all step.within i n) f where
  f0 : IsPlain (folder_of h.original)
  f0 = plain_folder h.original step.before

  f1 : IsPlain (folder_of k.original)
  f1 = plain_folder k.original step.after

  by : {p : Placement} → Amid h k bytes p → FindsBlock block (files_of block.0 p) found → MayFindBetween h bytes k (take k.written bytes) found
  by (whole s e) f = whole_case (two_files_are_found block (folder_of h.original) (folder_of h.original) h.stamp h.sums bytes s found fits hs size f0 f0 (subst (λ q. FindsBlock block (files_of block.0 q) found) e f)) where
    whole_case : IsWaiting found h.stamp h.sums bytes ⊎ IsFoundFinal (folder_of h.original) (folder_of h.original) h.stamp h.sums bytes s found → MayFindBetween h bytes k (take k.written bytes) found
    whole_case (inl w) = waits_old_before w
    whole_case (inr w) = stays_final (final_folder h.original w.body) w.all
  by (cut s less e) f = cut_case (two_files_are_found block (folder_of h.original) (folder_of h.original) h.stamp h.sums (take k.written bytes) s found fits hs size f0 f0 (subst (λ q. FindsBlock block (files_of block.0 q) found) e f)) where
    cut_case : IsWaiting found h.stamp h.sums (take k.written bytes) ⊎ IsFoundFinal (folder_of h.original) (folder_of h.original) h.stamp h.sums (take k.written bytes) s found → MayFindBetween h bytes k (take k.written bytes) found
    cut_case (inl w) = waits_old_after w
    cut_case (inr w) = let final = final_folder h.original w.body in cut_final final (step.final_cut less final) w.all
  by (moving e) f = new_case (two_files_are_found block (folder_of h.original) (folder_of k.original) k.stamp h.sums (take k.written bytes) (sums h.sums (take k.written bytes)) found fits ks size f0 f1 (subst (λ q. FindsBlock block (files_of block.0 q) found) e f)) where
    new_case : IsWaiting found k.stamp h.sums (take k.written bytes) ⊎ IsFoundFinal (folder_of h.original) (folder_of k.original) k.stamp h.sums (take k.written bytes) (sums h.sums (take k.written bytes)) found → MayFindBetween h bytes k (take k.written bytes) found
    new_case (inl w) = waits_new_after w
    new_case (inr w) = becomes_final (final_folder k.original w.meta) w.all
  by (moved e) f = new_case (two_files_are_found block (folder_of k.original) (folder_of k.original) k.stamp h.sums (take k.written bytes) (sums h.sums (take k.written bytes)) found fits ks size f1 f1 (subst (λ q. FindsBlock block (files_of block.0 q) found) e f)) where
    new_case : IsWaiting found k.stamp h.sums (take k.written bytes) ⊎ IsFoundFinal (folder_of k.original) (folder_of k.original) k.stamp h.sums (take k.written bytes) (sums h.sums (take k.written bytes)) found → MayFindBetween h bytes k (take k.written bytes) found
    new_case (inl w) = waits_new_after w
    new_case (inr w) = becomes_final (final_folder k.original w.meta) w.all

-- ---- a packet

-- Where the files may lie amid the calls of a packet: a part of its bytes is there, behind a good header whatever is stored.
record Growing (h : ReplicaInfo) (bytes more : List ℕ) (p : Placement) : Type 0 where
  front : ℕ
  stored : List ℕ
  is : p ≡ Both (folder_of h.original) (bytes ++ take front more) (folder_of h.original) h.stamp.0 (header_of h.sums ++ stored)

stops_write_data : (S : Placement → Type 0) (place : ℕ) (z : List ℕ) (p : Placement) → S p → ((n : ℕ) → S (placed (WriteData place (take n z)) p)) → S (placed (WriteData place z) p) → Stops S (WriteData place z ∷ []) p
stops_write_data S place z p a b c zero zero = a
stops_write_data S place z p a b c zero (suc n) = b n
stops_write_data S place z p a b c (suc i) n = c

stops_sync : (S : Placement → Type 0) (f mf : Folder) (g : ℕ) (d m : List ℕ) → S (Both f d mf g m) → Stops S (SyncData ∷ SyncMeta ∷ []) (Both f d mf g m)
stops_sync S f mf g d m s zero zero = s
stops_sync S f mf g d m s zero (suc n) = s
stops_sync S f mf g d m s (suc zero) zero = s
stops_sync S f mf g d m s (suc zero) (suc n) = s
stops_sync S f mf g d m s (suc (suc i)) n = s

append_none : (l : List ℕ) → l ++ [] ≡ l
append_none [] = refl
append_none (x ∷ l) = ap (λ q. x ∷ q) (append_none l)

module _ (h : ReplicaInfo) (bytes more : List ℕ) where
  abbrev at_front : ℕ → List ℕ → Placement
  at_front n s = Both (folder_of h.original) (bytes ++ take n more) (folder_of h.original) h.stamp.0 (header_of h.sums ++ s)

  grow_start : Growing h bytes more (placed_info h bytes)
  grow_start = record { front = 0; stored = sums h.sums bytes; is = ap (λ l. Both (folder_of h.original) l (folder_of h.original) h.stamp.0 (meta_of h.sums bytes)) (sym (append_none bytes)) }

  written_data : (z : List ℕ) (n : ℕ) → z ≡ take n more → Growing h bytes more (placed (WriteData (length bytes) z) (placed_info h bytes))
  written_data z n e = record {
    front = n;
    stored = sums h.sums bytes;
    is = ap (λ l. Both (folder_of h.original) l (folder_of h.original) h.stamp.0 (meta_of h.sums bytes)) (overwritten-end bytes z ∙ ap (λ l. bytes ++ l) e);
  }

  all_more : more ≡ take (length more) more
  all_more = sym (take_all (length more) more (omega arith))

  -- the files once the bytes are written
  abbrev with_more : List ℕ → Placement
  with_more s = Both (folder_of h.original) (bytes ++ more) (folder_of h.original) h.stamp.0 (header_of h.sums ++ s)

  more_there : (s : List ℕ) → Growing h bytes more (with_more s)
  more_there s = record { front = length more; stored = s; is = ap (λ l. Both (folder_of h.original) (bytes ++ l) (folder_of h.original) h.stamp.0 (header_of h.sums ++ s)) all_more }

  written_sums : (t : Bool) (q : ℕ) (z s : List ℕ) → Stops (Growing h bytes more) (when t (WriteMeta (header_len + q) z ∷ [])) (with_more s)
  written_sums t q z s = stops_when (Growing h bytes more) t (WriteMeta (header_len + q) z ∷ []) (with_more s)
      (λ _. stops_write (Growing h bytes more) (header_len + q) z (with_more s) (more_there s) (λ piece. subst (Growing h bytes more)
      (sym (ap (Both (folder_of h.original) (bytes ++ more) (folder_of h.original) h.stamp.0) (over_header h.sums s piece q))) (more_there (overwritten s q piece)))) (more_there s)

  data_written : placed (WriteData (length bytes) more) (placed_info h bytes) ≡ with_more (sums h.sums bytes)
  data_written = ap (λ l. Both (folder_of h.original) l (folder_of h.original) h.stamp.0 (meta_of h.sums bytes)) (overwritten-end bytes more)

  grow_stops : Stops (Growing h bytes more) (grow_calls h.sums bytes more) (placed_info h bytes)
  grow_stops =
      let r = h.sums in
      stops_append (Growing h bytes more) (WriteData (length bytes) more ∷ []) _ (placed_info h bytes)
      (stops_write_data (Growing h bytes more) (length bytes) more (placed_info h bytes) grow_start (λ n. written_data (take n more) n refl) (written_data more (length more) all_more))
      (subst (Stops (Growing h bytes more) (when (has_sums r.kind) (WriteMeta (sum_place r (length bytes)) (sums r (tail r bytes ++ more)) ∷ []))) (sym data_written)
      (written_sums (has_sums r.kind) (4 * (length bytes / r.chunk)) (sums r (tail r bytes ++ more)) (sums r bytes)))

  -- the files after all writes, of which the syncs change nothing
  sync_stops : (t : Bool) (p : Placement) → Growing h bytes more p → Stops (Growing h bytes more) (when t (SyncData ∷ SyncMeta ∷ [])) p
  sync_stops t p g = stops_when (Growing h bytes more) t (SyncData ∷ SyncMeta ∷ []) p
      (λ _. subst (Stops (Growing h bytes more) (SyncData ∷ SyncMeta ∷ [])) (sym g.is)
      (stops_sync (Growing h bytes more) (folder_of h.original) (folder_of h.original) h.stamp.0 (bytes ++ take g.front more) (header_of h.sums ++ g.stored) (record { front = g.front; stored = g.stored; is = refl }))) g

  packet_stops : (sync : Bool) → Stops (Growing h bytes more) (packet_calls h.sums bytes more sync) (placed_info h bytes)
  packet_stops sync =
      let writes = when (nat_lt 0 (length more)) (grow_calls h.sums bytes more) in
      let first = stops_when (Growing h bytes more) (nat_lt 0 (length more)) (grow_calls h.sums bytes more) (placed_info h bytes) (λ _. grow_stops) grow_start in
      stops_append (Growing h bytes more) writes (when sync sync_calls) (placed_info h bytes) first
      (sync_stops sync (all_placed writes (placed_info h bytes)) (subst (λ l. Growing h bytes more (all_placed l (placed_info h bytes))) (whole_list writes) (first (length writes) 0)))
    where
      whole_list : (calls : List BlockCall) → stopped (length calls) 0 calls ≡ calls
      whole_list [] = refl
      whole_list (call ∷ calls) = ap (λ l. call ∷ l) (whole_list calls)

-- a front of a front
longer_front : (bytes more : List ℕ) (n : ℕ) (found : Option Found) (stamp : Stamp) (r : Rule) → IsWaiting found stamp r (bytes ++ take n more) → IsWaiting found stamp r (bytes ++ more)
longer_front bytes more n found stamp r w = (
  w.0,
  w.1,
  (
    w.2.0 ++ drop n more,
    sym (append_assoc w.0 w.2.0 (drop n more)) ∙ (ap (λ l. l ++ drop n more) w.2.1 ∙ (append_assoc bytes (take n more) (drop n more) ∙ ap (λ l. bytes ++ l) (take-append-drop n more))),
  ),
)

pub stopped_packets_are_found : StoppedPacketsAreFound
stopped_packets_are_found block h bytes more sync i n found fits hs size rbw f =
    let g = packet_stops h bytes more sync i n in
    longer_front bytes more g.front found h.stamp h.sums
    (by g.front g.stored (two_files_are_found block (folder_of h.original) (folder_of h.original) h.stamp h.sums (bytes ++ take g.front more) g.stored found fits hs size (inl rbw) (inl rbw)
    (subst (λ q. FindsBlock block (files_of block.0 q) found) g.is f))) where
      by : (q : ℕ) (s : List ℕ) → IsWaiting found h.stamp h.sums (bytes ++ take q more) ⊎ IsFoundFinal (folder_of h.original) (folder_of h.original) h.stamp h.sums (bytes ++ take q more) s found
          → IsWaiting found h.stamp h.sums (bytes ++ take q more)
      by q s (inl w) = w
      by q s (inr w) = absurd (rbw_final (sym rbw ∙ w.body))

-- ---- a TEMPORARY replica becomes another

pub temporary_folder : (s : ReplicaState) → is_temporary s ≡ true → folder_of s ≡ Tmp
temporary_folder state.Finalized e = absurd (true_false (sym e))
temporary_folder state.Rbw e = absurd (true_false (sym e))
temporary_folder state.Rwr e = absurd (true_false (sym e))
temporary_folder state.Rur e = absurd (true_false (sym e))
temporary_folder state.Temporary e = refl

-- a data file in tmp and a metadata file elsewhere
mixed_found : (block : BlockId) (g : ℕ) (d m : List ℕ) (found : Option Found) → block.0 < 2 ^ 64 → FindsBlock block (files_of block.0 (Both Tmp d Rbw g m)) found → found ≡ None
mixed_found block g d m found fits (finds_none none) = refl
mixed_found block g d m found fits (finds p len is kept) = absurd (no_pair block g d m fits p is)

of_tmp : (h : ReplicaInfo) (block : BlockId) (f : Folder) (d m : List ℕ) (found : Option Found) → f ≡ Tmp → FindsBlock block (files_of block.0 (Both f d f h.stamp.0 m)) found → found ≡ None
of_tmp h block f d m found e x = temporary_found block h.stamp d m found (subst (λ q. FindsBlock block (files_of block.0 (Both q d q h.stamp.0 m)) found) e x)

pub stopped_transfers_are_found : StoppedTransfersAreFound
stopped_transfers_are_found block h k bytes i n found fits stamp size all step f =
    by (stops_append (Amid h k bytes) sync_calls (settle_calls h k bytes) (placed_info h bytes)
    (stops_sync (Amid h k bytes) (folder_of h.original) (folder_of h.original) h.stamp.0 bytes (meta_of h.sums bytes) (whole (sums h.sums bytes) refl))
    (settle_stops h k bytes (omega (arith, size.least)) all (omega (arith, step.written))) i n) f where
      tmp : folder_of h.original ≡ Tmp
      tmp = temporary_folder h.original step.before

      front : take k.written bytes ≡ bytes
      front = take_all k.written bytes (omega (arith, step.written, all))

      by : {p : Placement} → Amid h k bytes p → FindsBlock block (files_of block.0 p) found → MayFindReceived h bytes found
      by (whole s e) f = inl (of_tmp h block (folder_of h.original) bytes (header_of h.sums ++ s) found tmp (subst (λ q. FindsBlock block (files_of block.0 q) found) e f))
      by (cut s less e) f = absurd (omega (arith, less, step.written))
      by (moving e) f = inl (mixed_found block k.stamp.0 (take k.written bytes) (meta_of h.sums (take k.written bytes)) found fits
          (subst (λ q. FindsBlock block (files_of block.0 (Both q (take k.written bytes) Rbw k.stamp.0 (meta_of h.sums (take k.written bytes)))) found) tmp
          (subst (λ q. FindsBlock block (files_of block.0 (Both (folder_of h.original) (take k.written bytes) q k.stamp.0 (meta_of h.sums (take k.written bytes)))) found) step.after
          (subst (λ q. FindsBlock block (files_of block.0 q) found) e f))))
      by (moved e) f = inr (plain_found block Rbw k.stamp h.sums (take k.written bytes) found fits (subst (λ (g : Stamp). g.0 < 2 ^ 64) (sym step.stamp) stamp) size (plain_rbw block k.stamp)
          (subst (λ q. FindsBlock block (files_of block.0 (Both q (take k.written bytes) q k.stamp.0 (meta_of h.sums (take k.written bytes)))) found) step.after (subst (λ q. FindsBlock block (files_of block.0 q) found) e f))
          ∙ (ap (λ g. found_as state.Rwr g h.sums (take k.written bytes)) step.stamp ∙ ap (found_as state.Rwr h.stamp h.sums) front))

-- ---- a TEMPORARY replica stays so

pub temporary_settling_found : (block : BlockId) (h k : ReplicaInfo) (bytes : List ℕ) (i n : ℕ) (found : Option Found) → 1 ≤ h.sums.chunk → length bytes ≡ h.written → k.written ≤ h.written → is_temporary h.original ≡ true → is_temporary k.original ≡ true
    → FindsBlock block (files_of block.0 (all_placed (stopped i n (settle_calls h k bytes)) (placed_info h bytes))) found → found ≡ None
temporary_settling_found block h k bytes i n found some all within ht kt f = by (settle_stops h k bytes some all within i n) f where
  tmp : folder_of h.original ≡ Tmp
  tmp = temporary_folder h.original ht

  also : folder_of k.original ≡ Tmp
  also = temporary_folder k.original kt

  by : {p : Placement} → Amid h k bytes p → FindsBlock block (files_of block.0 p) found → found ≡ None
  by (whole s e) f = of_tmp h block (folder_of h.original) bytes (header_of h.sums ++ s) found tmp (subst (λ q. FindsBlock block (files_of block.0 q) found) e f)
  by (cut s less e) f = of_tmp h block (folder_of h.original) (take k.written bytes) (header_of h.sums ++ s) found tmp (subst (λ q. FindsBlock block (files_of block.0 q) found) e f)
  by (moving e) f = of_tmp k block (folder_of k.original) (take k.written bytes) (meta_of h.sums (take k.written bytes)) found also
      (subst (λ q. FindsBlock block (files_of block.0 (Both q (take k.written bytes) (folder_of k.original) k.stamp.0 (meta_of h.sums (take k.written bytes)))) found) (tmp ∙ sym also)
      (subst (λ q. FindsBlock block (files_of block.0 q) found) e f))
  by (moved e) f = of_tmp k block (folder_of k.original) (take k.written bytes) (meta_of h.sums (take k.written bytes)) found also (subst (λ q. FindsBlock block (files_of block.0 q) found) e f)

pub temporary_packet_found : (block : BlockId) (h : ReplicaInfo) (bytes more : List ℕ) (sync : Bool) (i n : ℕ) (found : Option Found) → is_temporary h.original ≡ true
    → FindsBlock block (files_of block.0 (all_placed (stopped i n (packet_calls h.sums bytes more sync)) (placed_info h bytes))) found → found ≡ None
temporary_packet_found block h bytes more sync i n found ht f =
    let g = packet_stops h bytes more sync i n in
    of_tmp h block (folder_of h.original) (bytes ++ take g.front more) (header_of h.sums ++ g.stored) found (temporary_folder h.original ht) (subst (λ q. FindsBlock block (files_of block.0 q) found) g.is f)
