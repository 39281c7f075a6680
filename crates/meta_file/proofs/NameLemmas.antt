-- What a name is printed from is what it tells.
use Rattle.std.proofs.Common.{◌≡◌, ◌==◌, ℕ, ◌/◌, ◌%◌, ◌^◌, ◌<◌, ◌≤◌, true, List, [], ◌++◌, Some, nat_lt, get_or, codes, append_assoc, append-nil, arith, refl, sym, ◌∙◌, ap, ◌⊎◌, inl, inr, if◌then◌else◌}
use Rattle.std.specs.List.{list_all}
use Rattle.std.proofs.lemmas.List.Sums.{AllPass-from_list_all}
use Rattle.hd_base.specs.Lists.{IsAsciiText}
use Rattle.std.specs.Fmt.{decimal}
use Rattle.hd_base.specs.Blocks.{behind_slash, base_of, number_at, block_of, is_of_block, whole_number}
use Rattle.std.specs.Str.{bytes_eq}
use Rattle.std.proofs.Math.Nat.{mod-lt}
use Rattle.hd_base.proofs.FileLaws.{bytes_eq-same, bytes_eq-other}
use Rattle.hd_base.proofs.BlockLaws.{number_at-decimal, all_digits, all_digits-decimal, behind_slash-digits}
use Rattle.std.proofs.lemmas.Grind.{common_steps}
use Rattle.std.proofs.lemmas.Bool.Decides.{nat_tests}
use Rattle.meta_file.specs.declared.names.Folder.{Folder}
use Rattle.meta_file.specs.declared.names.Folder.TheVariants.{Rbw, Finalized, Finalized56, Tmp}
use Rattle.meta_file.specs.declared.names.Named.{Named}
use Rattle.meta_file.specs.declared.names.Named.TheVariants.{Body, Sums}
use Rattle.meta_file.specs.Names.{front_of, subfolders, subfolders, path_of, data_base, meta_base, printed, IsNamed, present_folder, older_folder, in_present_layout, as_read, in_older_layout, folder_of, named_in, candidate_of}

-- The folder's front tells the folder, whatever follows.
folder_of-front : (folder : Folder) (rest : List ℕ) → folder_of (front_of folder ++ rest) ≡ Some (present_folder folder)
unfolding folder_of
folder_of-front Rbw rest = refl
folder_of-front Finalized rest = refl
folder_of-front Finalized56 rest = refl
folder_of-front Tmp rest = refl

-- a path of a finalized replica, part by part
parts_of : (a b base : List ℕ) → (front_of Finalized ++ (a ++ (codes "/subdir" ++ (b ++ codes "/")))) ++ base ≡ front_of Finalized ++ (a ++ (codes "/subdir" ++ (b ++ (codes "/" ++ base))))
parts_of a b base =
    append_assoc (front_of Finalized) (a ++ (codes "/subdir" ++ (b ++ codes "/"))) base
    ∙ ap (λ l. front_of Finalized ++ l) (append_assoc a (codes "/subdir" ++ (b ++ codes "/")) base
    ∙ ap (λ l. a ++ l) (append_assoc (codes "/subdir") (b ++ codes "/") base
    ∙ ap (λ l. codes "/subdir" ++ l) (append_assoc b (codes "/") base)))

-- what stands behind the last slash of such a path
behind_subfolders : (a b base x : List ℕ) → all_digits a ≡ true → all_digits b ≡ true → behind_slash x (front_of Finalized ++ (a ++ (codes "/subdir" ++ (b ++ (codes "/" ++ base))))) ≡ behind_slash base base
behind_subfolders a b base x digits_a digits_b =
    behind_slash-digits (codes "subdir" ++ (a ++ (codes "/subdir" ++ (b ++ (codes "/" ++ base))))) a (codes "/subdir" ++ (b ++ (codes "/" ++ base))) digits_a
    ∙ behind_slash-digits (codes "subdir" ++ (b ++ (codes "/" ++ base))) b (codes "/" ++ base) digits_b

-- subfolders have small numbers
small_number : (n count : ℕ) → 1 ≤ count → count ≤ 256 → n % count < 2 ^ 64
small_number n count some few = let pos : 0 < count = omega arith in omega (arith, mod-lt n pos)

base_of-subfolders : (count block : ℕ) (base : List ℕ) → 1 ≤ count → count ≤ 256
    → base_of ((front_of Finalized ++ subfolders count block) ++ base) ≡ behind_slash base base
base_of-subfolders count block base some few =
    let a : List ℕ = decimal (block / 2 ^ 16 % count) in
    let b : List ℕ = decimal (block / 2 ^ 8 % count) in
    let path = front_of Finalized ++ subfolders count block in
    ap (λ l. behind_slash (path ++ base) l) (parts_of a b base)
    ∙ behind_subfolders a b base (path ++ base)
    (all_digits-decimal _ (small_number (block / 2 ^ 16) count some few))
    (all_digits-decimal _ (small_number (block / 2 ^ 8) count some few))

-- The last part of a path and a name in it is where the name's own last slash leads.
base_of-path : (folder : Folder) (block : ℕ) (base : List ℕ) → base_of (path_of folder block ++ base) ≡ behind_slash base base
base_of-path Rbw block base = refl
base_of-path Tmp block base = refl
base_of-path Finalized block base = base_of-subfolders 32 block base (omega arith) (omega arith)
base_of-path Finalized56 block base = base_of-subfolders 256 block base (omega arith) (omega arith)

-- digits to the end lead to no other part of a path
behind_digits : (x ds : List ℕ) → all_digits ds ≡ true → behind_slash x ds ≡ x
behind_digits x ds all = ap (λ l. behind_slash x l) (sym (append-nil ds)) ∙ behind_slash-digits x ds [] all

-- a data file's name has no slash
behind_data : (block : ℕ) (x : List ℕ) → block < 2 ^ 64 → behind_slash x (data_base block) ≡ x
behind_data block x fits = behind_digits x (decimal block) (all_digits-decimal block fits)

-- nor has a metadata file's
behind_meta : (block stamp : ℕ) (x : List ℕ) → block < 2 ^ 64 → stamp < 2 ^ 64 → behind_slash x (meta_base block stamp) ≡ x
behind_meta block stamp x fits stamp_fits =
    behind_slash-digits x (decimal block) (codes "_" ++ (decimal stamp ++ codes ".meta")) (all_digits-decimal block fits)
    ∙ behind_slash-digits x (decimal stamp) (codes ".meta") (all_digits-decimal stamp stamp_fits)

-- a number to the end is read
number_at-end : (n : ℕ) → n < 2 ^ 64 → number_at (decimal n) ≡ Some (n, [])
number_at-end n fits = ap number_at (sym (append-nil (decimal n))) ∙ number_at-decimal n [] fits tt

-- The last part of a data file's path.
base_of-data : (folder : Folder) (block : ℕ) → block < 2 ^ 64 → base_of (path_of folder block ++ data_base block) ≡ data_base block
base_of-data folder block fits = base_of-path folder block (data_base block) ∙ behind_data block (data_base block) fits

-- The last part of a metadata file's path.
base_of-meta : (folder : Folder) (block stamp : ℕ) → block < 2 ^ 64 → stamp < 2 ^ 64 → base_of (path_of folder block ++ meta_base block stamp) ≡ meta_base block stamp
base_of-meta folder block stamp fits stamp_fits = base_of-path folder block (meta_base block stamp) ∙ behind_meta block stamp (meta_base block stamp) fits stamp_fits

-- what a last part tells, by its number
block_in-base : (name base : List ℕ) (block : ℕ) (rest : List ℕ) → base_of name ≡ codes "blk_" ++ base → number_at base ≡ Some (block, rest) → block_of name ≡ whole_number (Some (block, rest))
unfolding block_of
block_in-base name base block rest e number = rw e (rw number refl)

-- a block's number is itself
same_block : (block : ℕ) → (block == block) ≡ true
same_block block = grind (arith, common_steps, nat_tests)

-- A data file's name is of its block.
pub is_of_block-data : (folder : Folder) (block : ℕ) → block < 2 ^ 64 → is_of_block block (path_of folder block ++ data_base block) ≡ true
is_of_block-data folder block fits =
    rw (block_in-base (path_of folder block ++ data_base block) (decimal block) block [] (base_of-data folder block fits) (number_at-end block fits)) (same_block block)

-- A metadata file's name is of its block.
pub is_of_block-meta : (folder : Folder) (block stamp : ℕ) → block < 2 ^ 64 → stamp < 2 ^ 64 → is_of_block block (path_of folder block ++ meta_base block stamp) ≡ true
is_of_block-meta folder block stamp fits stamp_fits =
    rw (block_in-base (path_of folder block ++ meta_base block stamp) (decimal block ++ (codes "_" ++ (decimal stamp ++ codes ".meta"))) block (codes "_" ++ (decimal stamp ++ codes ".meta")) (base_of-meta folder block stamp fits stamp_fits) (number_at-decimal block (codes "_" ++ (decimal stamp ++ codes ".meta")) fits refl)) (same_block block)

-- the folder of a path
folder_of-path : (folder : Folder) (block : ℕ) (base : List ℕ) → folder_of (path_of folder block ++ base) ≡ Some (present_folder folder)
folder_of-path Rbw block base = folder_of-front Rbw base
folder_of-path Tmp block base = folder_of-front Tmp base
folder_of-path Finalized block base =
    ap folder_of (append_assoc (front_of Finalized) (subfolders 32 block) base) ∙ folder_of-front Finalized (subfolders 32 block ++ base)
folder_of-path Finalized56 block base =
    ap folder_of (append_assoc (front_of Finalized56) (subfolders 256 block) base) ∙ folder_of-front Finalized56 (subfolders 256 block ++ base)

-- what a data file's name tells in its folder
named_in-data : (folder : Folder) (block : ℕ) → block < 2 ^ 64 → named_in folder (data_base block) ≡ Some (Body (record { 0 = block }) folder)
unfolding named_in
named_in-data folder block fits = rw (number_at-end block fits) refl

-- what a metadata file's name tells in its folder
named_in-meta : (folder : Folder) (block stamp : ℕ) → block < 2 ^ 64 → stamp < 2 ^ 64 → named_in folder (meta_base block stamp) ≡ Some (Sums (record { 0 = block }) (record { 0 = stamp }) folder)
unfolding named_in
named_in-meta folder block stamp fits stamp_fits =
    rw (number_at-decimal block (codes "_" ++ (decimal stamp ++ codes ".meta")) fits refl)
    (rw (number_at-decimal stamp (codes ".meta") stamp_fits refl) refl)

-- what a name tells, by its folder and its last part
candidate_of-parts : (name base : List ℕ) (folder : Folder) → folder_of name ≡ Some folder → base_of name ≡ base → candidate_of name ≡ named_in folder base
unfolding candidate_of
candidate_of-parts name base folder e f = rw e (rw f refl)

-- What a name is printed from is what it says, in the folders of layout -57.
pub candidate_of-printed : (named : Named) → IsNamed named → candidate_of (printed named) ≡ Some (in_present_layout named)
candidate_of-printed (Body block folder) fits =
    candidate_of-parts (path_of folder block.0 ++ data_base block.0) (data_base block.0) (present_folder folder)
    (folder_of-path folder block.0 (data_base block.0)) (base_of-data folder block.0 fits)
    ∙ named_in-data (present_folder folder) block.0 fits
candidate_of-printed (Sums block stamp folder) fits =
    candidate_of-parts (path_of folder block.0 ++ meta_base block.0 stamp.0) (meta_base block.0 stamp.0) (present_folder folder)
    (folder_of-path folder block.0 (meta_base block.0 stamp.0)) (base_of-meta folder block.0 stamp.0 fits.0 fits.1)
    ∙ named_in-meta (present_folder folder) block.0 stamp.0 fits.0 fits.1

-- the folders of both layouts are two views of one
one_of_layouts : (folder : Folder) → (present_folder folder ≡ folder) ⊎ (older_folder (present_folder folder) ≡ folder)
one_of_layouts Rbw = inl refl
one_of_layouts Finalized = inl refl
one_of_layouts Finalized56 = inr refl
one_of_layouts Tmp = inl refl

layout_of : (named : Named) → (in_present_layout named ≡ named) ⊎ (in_older_layout (in_present_layout named) ≡ named)
layout_of (Body block folder) = elim (one_of_layouts folder) [ inl e ↦ inl (ap (Body block) e) | inr e ↦ inr (ap (Body block) e) ]
layout_of (Sums block stamp folder) =
    elim (one_of_layouts folder) [ inl e ↦ inl (ap (Sums block stamp) e) | inr e ↦ inr (ap (Sums block stamp) e) ]

same_bytes : (a b : List ℕ) → a ≡ b → bytes_eq a b ≡ true
same_bytes a b e = ap (bytes_eq a) (sym e) ∙ bytes_eq-same a

-- where the folder of layout -57 prints to the name, that is how it is read
pub read_present : (named : Named) (name : List ℕ) → printed named ≡ name → printed (in_present_layout named) ≡ name
    → as_read named ≡ in_present_layout named
read_present named name is present =
    ap (λ t. if t then in_present_layout named else named) (same_bytes _ _ (present ∙ sym is))

-- where it doesn't, the name is one of layout -56
pub read_older : (named : Named) (name : List ℕ) → printed named ≡ name → (printed (in_present_layout named) ≡ name → ⊥)
    → (as_read named ≡ named) × (in_older_layout (in_present_layout named) ≡ named)
read_older named name is other = (
  ap (λ t. if t then in_present_layout named else named) (bytes_eq-other _ _ (λ e. other (e ∙ is))),
  elim (layout_of named) [ inl e ↦ absurd (other (ap printed e ∙ is)) | inr e ↦ e ],
)

-- A test of each byte shows that a text is ASCII.
pub plain_from_test : (bytes : List ℕ) → list_all (λ b. nat_lt b 128) bytes ≡ true → IsAsciiText bytes
plain_from_test bytes test k d within =
    let passes : nat_lt (get_or bytes k d) 128 ≡ true = AllPass-from_list_all (λ b. nat_lt b 128) bytes test k d within in
    grind (arith, common_steps, nat_tests)
