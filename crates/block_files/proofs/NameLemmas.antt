-- No data file has the name of a metadata file: the one ends in a digit.
use Rattle.std.proofs.Common.{◌≡◌, ◌≢◌, ℕ, ◌^◌, ◌<◌, Bool, true, false, List, [], ◌∷◌, ◌++◌, Some, None, codes, append-nil, arith, refl, sym, ap, ◌∙◌}
use Rattle.std.specs.Fmt.{decimal}
use Rattle.std.specs.Str.{bytes_eq}
use Rattle.std.proofs.lemmas.Grind.{common_steps}
use Rattle.hd_base.specs.Numerals.{is_digit}
use Rattle.hd_base.specs.Blocks.{number_at}
use Rattle.hd_base.proofs.BlockLaws.{number_at-decimal, all_digits, all_digits-decimal}
use Rattle.hd_base.proofs.FileLaws.{bytes_eq-other}
use Rattle.meta_file.specs.declared.names.Folder.{Folder}
use Rattle.meta_file.specs.Names.{path_of, data_base, meta_base}
use Rattle.block_files.specs.Placements.{data_name, meta_name}

-- whether the last byte is a digit; of no bytes, what is given
last_is_digit : Bool → List ℕ → Bool
last_is_digit b [] = b
last_is_digit b (c ∷ cs) = last_is_digit (is_digit c) cs

last_is_digit-append : (b : Bool) (xs ys : List ℕ) → last_is_digit b (xs ++ ys) ≡ last_is_digit (last_is_digit b xs) ys
unfolding last_is_digit
last_is_digit-append b [] ys = refl
last_is_digit-append b (x ∷ xs) ys = last_is_digit-append (is_digit x) xs ys

after_digits : (ds : List ℕ) → all_digits ds ≡ true → last_is_digit true ds ≡ true
unfolding last_is_digit
after_digits [] all = refl
after_digits (d ∷ ds) all =
    let digit : is_digit d ≡ true = grind (arith, common_steps) in
    let rest : all_digits ds ≡ true = grind (arith, common_steps) in
    rw digit (after_digits ds rest)

none_some : {A : Type 0} {x : A} → None ≡ Some x → ⊥
none_some e = cc

-- Digits, of which there are some, end in a digit, whatever stands before them.
last_of_digits : (b : Bool) (ds : List ℕ) (x : ℕ × List ℕ) → all_digits ds ≡ true → number_at ds ≡ Some x → last_is_digit b ds ≡ true
unfolding last_is_digit
last_of_digits b [] x all number = absurd (none_some number)
last_of_digits b (d ∷ ds) x all number =
    let digit : is_digit d ≡ true = grind (arith, common_steps) in
    let rest : all_digits ds ≡ true = grind (arith, common_steps) in
    rw digit (after_digits ds rest)

last_of_data : (folder : Folder) (block : ℕ) → block < 2 ^ 64 → last_is_digit false (data_name folder block) ≡ true
unfolding last_is_digit data_name
last_of_data folder block fits =
    let digits = decimal block in
    let number : number_at digits ≡ Some (block, []) = ap number_at (sym (append-nil digits)) ∙ number_at-decimal block [] fits tt in
    last_is_digit-append false (path_of folder block) (data_base block)
    ∙ (last_is_digit-append (last_is_digit false (path_of folder block)) (codes "blk_") digits
    ∙ last_of_digits _ digits (block, []) (all_digits-decimal block fits) number)

last_of_meta : (folder : Folder) (stamp block : ℕ) → last_is_digit false (meta_name folder stamp block) ≡ false
unfolding last_is_digit meta_name
last_of_meta folder stamp block =
    let end = codes "_" ++ (decimal stamp ++ codes ".meta") in
    let first : Bool = last_is_digit false (path_of folder block) in
    let second : Bool = last_is_digit first (codes "blk_") in
    let third : Bool = last_is_digit second (decimal block) in
    let fourth : Bool = last_is_digit third (codes "_") in
    last_is_digit-append false (path_of folder block) (meta_base block stamp)
    ∙ (last_is_digit-append first (codes "blk_") (decimal block ++ end)
    ∙ (last_is_digit-append second (decimal block) end
    ∙ (last_is_digit-append third (codes "_") (decimal stamp ++ codes ".meta")
    ∙ last_is_digit-append fourth (decimal stamp) (codes ".meta"))))

true_false : true ≡ false → ⊥
true_false e = cc

data_is_not_meta : (f mf : Folder) (stamp block : ℕ) → block < 2 ^ 64 → data_name f block ≢ meta_name mf stamp block
data_is_not_meta f mf stamp block fits same =
    true_false (sym (last_of_data f block fits) ∙ (ap (last_is_digit false) same ∙ last_of_meta mf stamp block))

pub data_meta : (f mf : Folder) (stamp block : ℕ) → block < 2 ^ 64 → bytes_eq (data_name f block) (meta_name mf stamp block) ≡ false
data_meta f mf stamp block fits = bytes_eq-other _ _ (data_is_not_meta f mf stamp block fits)

pub meta_data : (f mf : Folder) (stamp block : ℕ) → block < 2 ^ 64 → bytes_eq (meta_name mf stamp block) (data_name f block) ≡ false
meta_data f mf stamp block fits = bytes_eq-other _ _ (λ same. data_is_not_meta f mf stamp block fits (sym same))
