-- The files of one block, and those of books, beside others.
use Rattle.std.proofs.Common.{◌≡◌, ℕ, Bool, true, false, cond, List, [], ◌∷◌, ◌++◌, slice_get, zero, suc, Option, Some, None, option_map, refl, sym, ap, ◌∙◌}
use Rattle.std.specs.Option.{option_or}
use Rattle.hd_base.specs.Blocks.{is_of_block}
use Rattle.hd_base.specs.FileMaps.{FileMap, no_files, part_of, rest_of, beside, both_observable, OnlyOf}
use Rattle.hd_base.specs.declared.files.Files as files
use Rattle.play_nodes.specs.ReplicaFiles.BookState.{BookState}
use Rattle.node_opening.specs.Closing.{files_with}

-- PARTS

or_cond : (t : Bool) (x : Option (List ℕ)) → option_or (cond t x None) (cond t None x) ≡ x
or_cond true None = refl
or_cond true (Some v) = refl
or_cond false x = refl

cond_none : (t : Bool) (x : Option (List ℕ)) → t ≡ false → cond t x None ≡ None
cond_none true x h = cc
cond_none false x h = refl

cond_same : (t : Bool) (x : Option (List ℕ)) → cond t x x ≡ x
cond_same true x = refl
cond_same false x = refl

-- What was taken out and is put back beside the rest is what was there.
pub both_parts : (b : ℕ) (f : Option FileMap) → both_observable (option_map (rest_of b) f) (option_map (part_of b) f) ≡ f
both_parts b None = refl
both_parts b (Some m) = ap Some whole
  where
    whole : beside (rest_of b m) (part_of b m) ≡ m
    whole = λ i name. or_cond (is_of_block b name) (m name) i

pub part_only : (b : ℕ) (f : Option FileMap) → OnlyOf b (option_map (part_of b) f)
part_only b None = tt
part_only b (Some m) = λ name h. cond_none (is_of_block b name) (m name) h

-- WITHOUT FILES

-- None of no files is taken out, and none is left.
pub part_none : (b : ℕ) (f told : Option FileMap) → f ≡ option_map (λ _. no_files) told → option_map (part_of b) f ≡ option_map (λ _. no_files) told
part_none b f None e = ap (option_map (part_of b)) e
part_none b f (Some m) e = ap (option_map (part_of b)) e ∙ ap Some still
  where
    still : part_of b no_files ≡ no_files
    still = λ i name. cond_same (is_of_block b name) None i

pub rest_none : (b : ℕ) (f told : Option FileMap) → f ≡ option_map (λ _. no_files) told → option_map (rest_of b) f ≡ option_map (λ _. no_files) told
rest_none b f None e = ap (option_map (rest_of b)) e
rest_none b f (Some m) e = ap (option_map (rest_of b)) e ∙ ap Some still
  where
    still : rest_of b no_files ≡ no_files
    still = λ i name. cond_same (is_of_block b name) None i

both_none : (f g told : Option FileMap) → f ≡ option_map (λ _. no_files) told → g ≡ option_map (λ _. no_files) told → both_observable f g ≡ f
both_none f g None e e' = ap (λ (x : Option FileMap). both_observable x g) e ∙ sym e
both_none f g (Some m) e e' = ap (λ (x : Option FileMap). both_observable x g) e ∙ (ap (λ (y : Option FileMap). both_observable (Some no_files) y) e' ∙ sym e)

-- BOOKS

module _ {D : Type 0} (d : files.Ghosts D) where
  -- The last of the books first.
  pub with_end : (f : Option FileMap) (xs : List (BookState D)) (x : BookState D) → files_with d f (xs ++ x ∷ []) ≡ files_with d (both_observable f (d.files x.drawer)) xs
  with_end f [] x = refl
  with_end f (y ∷ xs) x = ap (λ (g : Option FileMap). both_observable g (d.files y.drawer)) (with_end f xs x)

  -- Books without files leave what was there without files.
  pub with_none : (f told : Option FileMap) (xs : List (BookState D)) → f ≡ option_map (λ _. no_files) told → ((k : ℕ) (x : BookState D) → slice_get xs k ≡ Some x → d.files x.drawer ≡ option_map (λ _. no_files) told) → files_with d f xs ≡ f
  with_none f told [] e h = refl
  with_none f told (x ∷ xs) e h =
      let rest : files_with d f xs ≡ f = with_none f told xs e (λ k y at. h (suc k) y at) in
      ap (λ (g : Option FileMap). both_observable g (d.files x.drawer)) rest ∙ both_none f (d.files x.drawer) told e (h zero x refl)
