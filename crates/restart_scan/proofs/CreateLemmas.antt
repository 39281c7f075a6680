-- What is found after a stop at one of the calls that make a new replica.
use Rattle.std.proofs.Common.{◌≡◌, ◌⊎◌, inl, inr, ℕ, zero, suc, ◌+◌, ◌^◌, ◌<◌, ◌≤◌, cond, Bool, true, false, List, [], ◌∷◌, ◌++◌, length, take, drop, Option, Some, None, refl, sym, ap, subst, ◌∙◌, arith}
use Rattle.std.proofs.lemmas.List.{take_all, length-take, length-append}
use Rattle.std.proofs.lemmas.Bool.{cases_lt}
use Rattle.std.specs.Str.{bytes_eq}
use Rattle.hd_base.specs.FileMaps.{FileMap, overwritten}
use Rattle.hd_base.specs.SumRules.{Rule, IsChunkSize}
use Rattle.hd_base.specs.declared.numbers.BlockId.{BlockId}
use Rattle.hd_base.specs.declared.numbers.Stamp.{Stamp}
use Rattle.hd_base.specs.declared.states.ReplicaState.{ReplicaState}
use Rattle.hd_base.specs.declared.states.ReplicaState.TheVariants as state
use Rattle.hd_base.proofs.FileLaws.{bytes_eq-same}
use Rattle.meta_file.specs.declared.names.Folder.{Folder}
use Rattle.meta_file.specs.declared.names.Folder.TheVariants.{Rbw, Finalized}
use Rattle.meta_file.specs.Headers.{header_of}
use Rattle.block_files.specs.Placements.{DataAlone, Both, files_of, data_name, meta_name}
use Rattle.block_files.proofs.NameLemmas.{data_meta}
use Rattle.replica_core.specs.Info.{is_temporary, is_finalized}
use Rattle.replica_model.specs.Plans.{folder_of}
use Rattle.replica_model.specs.Found.{Found, found_as, IsWaiting}
use Rattle.restart_scan.specs.Pairs.{is_temporary as lies_in_tmp, without_temporary}
use Rattle.restart_scan.specs.Laws.{FindsBlock, finds, finds_none, IsFoundFinal, StoppedCreatesAreFound}
use Rattle.restart_scan.proofs.WholeLemmas.{these, two_stay, temporary_found, nothing_found, data_in_rbw, meta_in_rbw, two_files_are_found}

none_some : (x : List ℕ) → ◌≡◌ {A = Option (List ℕ)} None (Some x) → ⊥
none_some x e = cc

rbw_final : Rbw ≡ Finalized → ⊥
rbw_final e = cc

-- a data file alone is no pair
alone_found : (block : BlockId) (f : Folder) (found : Option Found) → block.0 < 2 ^ 64 → FindsBlock block (files_of block.0 (DataAlone f [])) found → found ≡ None
alone_found block f found fits (finds_none none) = refl
alone_found block f found fits (finds p len is kept) = absurd (none_some (header_of p.rule ++ p.stored) (sym here ∙ there)) where
  name : List ℕ
  name = meta_name p.places.meta_folder p.places.stamp.0 block.0

  either : (t : Bool) → cond t None (let o : Option (List ℕ) = None in o) ≡ None
  either true = refl
  either false = refl

  here : without_temporary (files_of block.0 (DataAlone f [])) (meta_name p.places.meta_folder p.places.stamp.0 block.0) ≡ None
  here = ap (λ (t : Bool). cond (lies_in_tmp (meta_name p.places.meta_folder p.places.stamp.0 block.0)) None (cond t (Some []) None)) (data_meta f p.places.meta_folder p.places.stamp.0 block.0 fits)
      ∙ either (lies_in_tmp (meta_name p.places.meta_folder p.places.stamp.0 block.0))

  second : (a x c y : List ℕ) → bytes_eq a c ≡ false → cond (bytes_eq a c) (Some x) (cond (bytes_eq c c) (Some y) None) ≡ Some y
  second a x c y e = let g : bytes_eq c c ≡ true = bytes_eq-same c in rw (e, g) refl

  there : without_temporary (files_of block.0 (DataAlone f [])) (meta_name p.places.meta_folder p.places.stamp.0 block.0) ≡ Some (header_of p.rule ++ p.stored)
  there = ap (λ (m : FileMap). m (meta_name p.places.meta_folder p.places.stamp.0 block.0)) is.files_are
      ∙ second (data_name p.places.folder block.0) p.bytes (meta_name p.places.meta_folder p.places.stamp.0 block.0) (header_of p.rule ++ p.stored) (data_meta p.places.folder p.places.meta_folder p.places.stamp.0 block.0 fits)

append_none : (l : List ℕ) → l ++ [] ≡ l
append_none [] = refl
append_none (x ∷ l) = ap (λ q. x ∷ q) (append_none l)

drop_none : (n : ℕ) → drop n (let l : List ℕ = [] in l) ≡ []
drop_none zero = refl
drop_none (suc n) = refl

over_none : (z : List ℕ) → overwritten [] 0 z ≡ z
over_none z = ap (λ l. z ++ l) (drop_none (0 + length z)) ∙ append_none z

header_long : (r : Rule) → length (header_of r) ≡ 7
header_long r = refl

-- less than a header is none
none_short : (block : BlockId) (stamp : Stamp) (r : Rule) (n : ℕ) (found : Option Found) → block.0 < 2 ^ 64 → n < 7 → FindsBlock block (files_of block.0 (Both Rbw [] Rbw stamp.0 (take n (header_of r)))) found → found ≡ None
none_short block stamp r n found fits short (finds_none none) = refl
none_short block stamp r n found fits short (finds p len is kept) =
    let b = block.0 in
    let z = take n (header_of r) in
    let th = these block _ p Rbw Rbw stamp.0 [] z fits (two_stay (data_name Rbw b) [] (meta_name Rbw stamp.0 b) z (data_in_rbw b) (meta_in_rbw stamp.0 b)) is in
    let long : 7 + length p.stored ≡ length z = sym (length-append (header_of p.rule) p.stored) ∙ ap length th.meta_bytes in
    absurd (omega (arith, long, length-take n (header_of r), short))

-- a part of a header
part_found : (block : BlockId) (stamp : Stamp) (r : Rule) (n : ℕ) (found : Option Found) → block.0 < 2 ^ 64 → stamp.0 < 2 ^ 64 → IsChunkSize r.chunk
    → FindsBlock block (files_of block.0 (Both Rbw [] Rbw stamp.0 (take n (header_of r)))) found → (found ≡ None) ⊎ (found ≡ found_as state.Rwr stamp r [])
part_found block stamp r n found fits stamp_fits size f = elim (cases_lt n 7) [
  | inl short ↦ inl (none_short block stamp r n found fits short f)
  | inr long ↦ inr (whole long (two_files_are_found block Rbw Rbw stamp r [] [] found fits stamp_fits size (inl refl) (inl refl)
      (subst (λ l. FindsBlock block (files_of block.0 (Both Rbw [] Rbw stamp.0 l)) found) (take_all n (header_of r) (omega (arith, header_long r, long)) ∙ sym (append_none (header_of r))) f)))
] where
  no_front : (front rest : List ℕ) → front ++ rest ≡ [] → front ≡ []
  no_front [] rest e = refl
  no_front (x ∷ front) rest e = cc

  whole : 7 ≤ n → IsWaiting found stamp r [] ⊎ IsFoundFinal Rbw Rbw stamp r [] [] found → found ≡ found_as state.Rwr stamp r []
  whole long (inl w) = w.1 ∙ ap (found_as state.Rwr stamp r) (no_front w.0 w.2.0 w.2.1)
  whole long (inr w) = absurd (rbw_final w.body)

-- the same in either folder of a new replica
new_found : (s : ReplicaState) (block : BlockId) (stamp : Stamp) (r : Rule) (n : ℕ) (found : Option Found) → block.0 < 2 ^ 64 → stamp.0 < 2 ^ 64 → IsChunkSize r.chunk → is_finalized s ≡ false
    → FindsBlock block (files_of block.0 (Both (folder_of s) [] (folder_of s) stamp.0 (take n (header_of r)))) found → (found ≡ None) ⊎ ((is_temporary s ≡ false) × (found ≡ found_as state.Rwr stamp r []))
new_found state.Finalized block stamp r n found fits stamp_fits size e f = absurd (no e) where
  no : true ≡ false → ⊥
  no q = cc
new_found state.Rbw block stamp r n found fits stamp_fits size e f = elim (part_found block stamp r n found fits stamp_fits size f) [ inl none ↦ inl none | inr is ↦ inr (refl, is) ]
new_found state.Rwr block stamp r n found fits stamp_fits size e f = elim (part_found block stamp r n found fits stamp_fits size f) [ inl none ↦ inl none | inr is ↦ inr (refl, is) ]
new_found state.Rur block stamp r n found fits stamp_fits size e f = elim (part_found block stamp r n found fits stamp_fits size f) [ inl none ↦ inl none | inr is ↦ inr (refl, is) ]
new_found state.Temporary block stamp r n found fits stamp_fits size e f = inl (temporary_found block stamp [] (take n (header_of r)) found f)

pub stopped_creates_are_found : StoppedCreatesAreFound
stopped_creates_are_found block k zero zero found fits stamp size e f = inl (nothing_found block found f)
stopped_creates_are_found block k zero (suc n) found fits stamp size e f = inl (alone_found block (folder_of k.original) found fits f)
stopped_creates_are_found block k (suc zero) zero found fits stamp size e f = inl (alone_found block (folder_of k.original) found fits f)
stopped_creates_are_found block k (suc zero) (suc n) found fits stamp size e f = new_found k.original block k.stamp k.sums 0 found fits stamp size e f
stopped_creates_are_found block k (suc (suc zero)) zero found fits stamp size e f = new_found k.original block k.stamp k.sums 0 found fits stamp size e f
stopped_creates_are_found block k (suc (suc zero)) (suc n) found fits stamp size e f =
    new_found k.original block k.stamp k.sums n found fits stamp size e
    (subst (λ l. FindsBlock block (files_of block.0 (Both (folder_of k.original) [] (folder_of k.original) k.stamp.0 l)) found) (over_none (take n (header_of k.sums))) f)
stopped_creates_are_found block k (suc (suc (suc i))) n found fits stamp size e f =
    new_found k.original block k.stamp k.sums 7 found fits stamp size e
    (subst (λ l. FindsBlock block (files_of block.0 (Both (folder_of k.original) [] (folder_of k.original) k.stamp.0 l)) found) (over_none (header_of k.sums)) f)
