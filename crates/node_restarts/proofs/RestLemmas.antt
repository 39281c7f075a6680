-- The files of one block, and what is left without those of several.
use Rattle.std.proofs.Common.{◌≡◌, ◌==◌, ℕ, zero, suc, Bool, true, false, cond, List, [], ◌∷◌, ◌++◌, slice_get, Option, Some, None, option_map, refl, sym, ap, subst, ◌∙◌, eqb-true}
use Rattle.std.specs.Prelude.{◌||◌}
use Rattle.hd_base.specs.Blocks as blocks
use Rattle.hd_base.specs.Blocks.{is_this, is_of_block}
use Rattle.hd_base.specs.FileMaps.{FileMap, no_files, part_of, rest_of}
use Rattle.hd_base.specs.declared.numbers.BlockId.{BlockId}
use Rattle.node_opening.proofs.PlayNodes.PlaceLaws.{same_some}
use Rattle.node_opening.specs.Shelves.{is_among}
use Rattle.node_opening.proofs.CloseLemmas.{same_eqb}
use Rattle.node_restarts.specs.Lending.{rest_after}

-- NAMES

-- A name belongs to one block.
pub one_block : (b c : ℕ) (name : List ℕ) → is_of_block b name ≡ true → is_of_block c name ≡ true → b ≡ c
one_block b c name h h' = by (blocks.block_of name) h h'
  where
    none_this : (n : ℕ) → is_this n None ≡ true → ⊥
    none_this n h = cc

    by : (x : Option ℕ) → is_this b x ≡ true → is_this c x ≡ true → b ≡ c
    by None h h' = absurd (none_this b h)
    by (Some n) h h' = sym (eqb-true n b h) ∙ eqb-true n c h'

true_false : true ≡ false → ⊥
true_false e = cc

not_both : (b c : ℕ) (name : List ℕ) → (b == c) ≡ false → is_of_block b name ≡ true → is_of_block c name ≡ true → ⊥
not_both b c name apart h h' = true_false (sym (same_eqb c) ∙ (ap (λ (n : ℕ). n == c) (sym (one_block b c name h h')) ∙ apart))

-- ONE BLOCK

-- A block's files are the same without those of another.
pub part_rest : (b c : ℕ) (m : FileMap) → (b == c) ≡ false → part_of b (rest_of c m) ≡ part_of b m
part_rest b c m apart = λ i name. by name (is_of_block b name) (is_of_block c name) refl refl i
  where
    by : (name : List ℕ) (t u : Bool) → is_of_block b name ≡ t → is_of_block c name ≡ u → cond t (cond u None (m name)) None ≡ cond t (m name) None
    by name true true e f = absurd (not_both b c name apart e f)
    by name true false e f = refl
    by name false u e f = refl

-- SEVERAL BLOCKS

or_left : (p q : Bool) → (p || q) ≡ false → p ≡ false
or_left true q h = cc
or_left false q h = refl

or_right : (p q : Bool) → (p || q) ≡ false → q ≡ false
or_right true q h = cc
or_right false q h = h

pub rest_more : (bs : List BlockId) (b : BlockId) (m : FileMap) → rest_after (bs ++ b ∷ []) m ≡ rest_of b.0 (rest_after bs m)
rest_more [] b m = refl
rest_more (c ∷ bs) b m = rest_more bs b (rest_of c.0 m)

pub part_after : (bs : List BlockId) (b : ℕ) (m : FileMap) → is_among bs b ≡ false → part_of b (rest_after bs m) ≡ part_of b m
part_after [] b m h = refl
part_after (c ∷ bs) b m h = part_after bs b (rest_of c.0 m) (or_right (b == c.0) (is_among bs b) h) ∙ part_rest b c.0 m (or_left (b == c.0) (is_among bs b) h)

pub part_told : (bs : List BlockId) (b : ℕ) (f : Option FileMap) → is_among bs b ≡ false → option_map (part_of b) (option_map (rest_after bs) f) ≡ option_map (part_of b) f
part_told bs b None h = refl
part_told bs b (Some m) h = ap Some (part_after bs b m h)

pub rest_told : (bs : List BlockId) (b : BlockId) (f : Option FileMap) → option_map (rest_of b.0) (option_map (rest_after bs) f) ≡ option_map (rest_after (bs ++ b ∷ [])) f
rest_told bs b None = refl
rest_told bs b (Some m) = ap Some (sym (rest_more bs b m))

pub rest_first : (f : Option FileMap) → f ≡ option_map (rest_after []) f
rest_first None = refl
rest_first (Some m) = refl

-- A file that is there only where it is of one of the blocks isn't left.
rest_at : (bs : List BlockId) (m : FileMap) (name : List ℕ) → (((k : ℕ) (b : BlockId) → slice_get bs k ≡ Some b → is_of_block b.0 name ≡ false) → m name ≡ None) → rest_after bs m name ≡ None
rest_at [] m name h = h (λ k b at. cc)
rest_at (c ∷ bs) m name h = rest_at bs (rest_of c.0 m) name (λ none. by none (is_of_block c.0 name) refl)
  where
    all : is_of_block c.0 name ≡ false → ((k : ℕ) (b : BlockId) → slice_get bs k ≡ Some b → is_of_block b.0 name ≡ false) → (k : ℕ) (b : BlockId) → slice_get (c ∷ bs) k ≡ Some b → is_of_block b.0 name ≡ false
    all e none zero b at = subst (λ (q : BlockId). is_of_block q.0 name ≡ false) (same_some c b at) e
    all e none (suc k) b at = none k b at

    by : ((k : ℕ) (b : BlockId) → slice_get bs k ≡ Some b → is_of_block b.0 name ≡ false) → (t : Bool) → is_of_block c.0 name ≡ t → cond t None (m name) ≡ None
    by none true e = refl
    by none false e = h (all e none)

-- Of files that are all of these blocks nothing is left.
pub nothing_left : (bs : List BlockId) (m : FileMap) → ((name : List ℕ) → ((k : ℕ) (b : BlockId) → slice_get bs k ≡ Some b → is_of_block b.0 name ≡ false) → m name ≡ None) → rest_after bs m ≡ no_files
nothing_left bs m h = λ i name. rest_at bs m name (h name) i
