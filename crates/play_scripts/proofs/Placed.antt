-- Blocks in ascending order, one after the other.
use Rattle.std.proofs.Common.{suc, ◌≡◌, ◌<◌, ◌≤◌, ℕ, ◌+◌, not, nat_lt, Bool, true, false, cond, List, [], ◌∷◌, ◌++◌, length, take, position, Option, Some, None, refl, sym, ◌∙◌, ap, subst, arith}
use Rattle.std.specs.List.{insert, position_or_len}
use Rattle.std.specs.Option.{unwrap_or}
use Rattle.std.specs.Prelude.{slice_index_or as get_or}
use Rattle.std.proofs.lemmas.List.{take_more}
use Rattle.std.proofs.lemmas.Bool.{ltb-true}
use Rattle.std.proofs.lemmas.Bool.Decides.{nat_tests}
use Rattle.hd_base.specs.declared.numbers.BlockId.{BlockId}
use Rattle.hd_base.specs.declared.numbers.NodeId.{NodeId}
use Rattle.script_lang.specs.declared.instructions.Instruction.{Instruction}
use Rattle.script_lang.specs.declared.instructions.Instruction.TheVariants as says
use Rattle.script_lang.specs.declared.instructions.ScriptLine.{ScriptLine}
use Rattle.play_laws.specs.PlayModel.Lines.{placed, with_block, blocks_of}
use Rattle.play_scripts.specs.Blocks.{numbers}

-- ONE BLOCK

one_more : (n : ℕ) → 1 + n ≡ suc n
one_more n = omega arith

put_so : (b : BlockId) (xs : List BlockId) → numbers (insert xs (position_or_len (λ (other : BlockId). nat_lt b.0 other.0) xs) b) ≡ placed b.0 (numbers xs)
put_so b [] = refl
put_so b (x ∷ xs) = at (nat_lt b.0 x.0) (put_so b xs) where
  at : (t : Bool) → numbers (insert xs (position_or_len (λ (other : BlockId). nat_lt b.0 other.0) xs) b) ≡ placed b.0 (numbers xs) →
      numbers (insert (x ∷ xs) (cond (not t) (1 + position_or_len (λ (other : BlockId). nat_lt b.0 other.0) xs) 0) b) ≡ cond t (b.0 ∷ (x.0 ∷ numbers xs)) (x.0 ∷ placed b.0 (numbers xs))
  at true more = refl
  at false more = ap (λ (n : ℕ). numbers (insert (x ∷ xs) n b)) (one_more (position_or_len (λ (other : BlockId). nat_lt b.0 other.0) xs)) ∙ ap (λ (ns : List ℕ). x.0 ∷ ns) more

place_within : (b : ℕ) (xs : List BlockId) → position_or_len (λ (other : BlockId). nat_lt b other.0) xs ≤ length xs
place_within b [] = omega arith
place_within b (x ∷ xs) = at (nat_lt b x.0) (place_within b xs) where
  at : (t : Bool) → position_or_len (λ (other : BlockId). nat_lt b other.0) xs ≤ length xs → cond (not t) (1 + position_or_len (λ (other : BlockId). nat_lt b other.0) xs) 0 ≤ length (x ∷ xs)
  at true more = omega arith
  at false more = omega (arith, more)

-- the place of the first greater one, or the end
place_is : (b : ℕ) (xs : List BlockId) → unwrap_or (position (λ (other : BlockId). nat_lt b other.0) xs) (length xs) ≡ position_or_len (λ (other : BlockId). nat_lt b other.0) xs
place_is b xs = at (nat_lt (position_or_len (λ (other : BlockId). nat_lt b other.0) xs) (length xs)) refl where
  at : (t : Bool) → nat_lt (position_or_len (λ (other : BlockId). nat_lt b other.0) xs) (length xs) ≡ t →
      unwrap_or (cond t (Some (position_or_len (λ (other : BlockId). nat_lt b other.0) xs)) None) (length xs) ≡ position_or_len (λ (other : BlockId). nat_lt b other.0) xs
  at true e = refl
  at false e = grind (arith, nat_tests, e, place_within b xs)

pub place_for : (b : ℕ) (xs ys : List BlockId) (o : Option ℕ) (n m v : ℕ) → n ≡ unwrap_or o m → o ≡ position (λ (other : BlockId). nat_lt b other.0) ys → ys ≡ xs → m ≡ v → length ys ≡ v → n ≡ unwrap_or (position (λ (other : BlockId). nat_lt b other.0) xs) (length xs)
place_for b xs ys o n m v e f same d l =
    e ∙ (ap (λ o. unwrap_or o m) f ∙ (ap (λ (k : ℕ). unwrap_or (position (λ (other : BlockId). nat_lt b other.0) ys) k) (d ∙ sym l) ∙ ap (λ (zs : List BlockId). unwrap_or (position (λ (other : BlockId). nat_lt b other.0) zs) (length zs)) same))

pub within : (b : ℕ) (xs : List BlockId) (n : ℕ) → n ≡ unwrap_or (position (λ (other : BlockId). nat_lt b other.0) xs) (length xs) → n ≤ length xs
within b xs n e = subst (λ (m : ℕ). m ≤ length xs) (sym (e ∙ place_is b xs)) (place_within b xs)

pub put_there : (b : BlockId) (xs ys : List BlockId) (n : ℕ) → n ≡ unwrap_or (position (λ (other : BlockId). nat_lt b.0 other.0) xs) (length xs) → ys ≡ insert xs n b → numbers ys ≡ placed b.0 (numbers xs)
put_there b xs ys n e f = ap numbers (f ∙ ap (λ (m : ℕ). insert xs m b) (e ∙ place_is b.0 xs)) ∙ put_so b xs

-- ORDER

-- what stands before a block that is no greater stays there
before_all : (a b : ℕ) (cs : List ℕ) → nat_lt a b ≡ true → placed a (b ∷ cs) ≡ a ∷ (b ∷ cs)
before_all a b cs less = rw less refl

behind_one : (a b : ℕ) (cs : List ℕ) → nat_lt a b ≡ false → placed a (b ∷ cs) ≡ b ∷ placed a cs
behind_one a b cs less = rw less refl

-- two blocks that come before all others
two_first : (a b : ℕ) (cs : List ℕ) → placed a cs ≡ a ∷ cs → placed b cs ≡ b ∷ cs → placed a (b ∷ cs) ≡ placed b (a ∷ cs)
two_first a b cs first second = at (nat_lt a b) (nat_lt b a) refl refl where
  at : (s t : Bool) → nat_lt a b ≡ s → nat_lt b a ≡ t → placed a (b ∷ cs) ≡ placed b (a ∷ cs)
  at true true e f = absurd (omega (arith, ltb-true a b e, ltb-true b a f))
  at true false e f = before_all a b cs e ∙ (sym (ap (λ (ns : List ℕ). a ∷ ns) second) ∙ sym (behind_one b a cs f))
  at false true e f = behind_one a b cs e ∙ (ap (λ (ns : List ℕ). b ∷ ns) first ∙ sym (before_all b a cs f))
  at false false e f =
      let same : a ≡ b = grind (arith, nat_tests, e, f) in
      subst (λ (n : ℕ). placed a (n ∷ cs) ≡ placed n (a ∷ cs)) same refl

-- one before all others, one behind the first
one_first : (a b c : ℕ) (cs : List ℕ) → nat_lt a c ≡ true → nat_lt b c ≡ false → placed a (c ∷ placed b cs) ≡ placed b (a ∷ (c ∷ cs))
one_first a b c cs e f =
    let apart : nat_lt b a ≡ false = grind (arith, nat_tests, e, f) in
    before_all a c (placed b cs) e ∙ sym (behind_one b a (c ∷ cs) apart ∙ ap (λ (ns : List ℕ). a ∷ ns) (behind_one b c cs f))

-- Which of two comes first makes no difference.
pub placed_swap : (a b : ℕ) (cs : List ℕ) → placed a (placed b cs) ≡ placed b (placed a cs)
placed_swap a b [] = two_first a b [] refl refl
placed_swap a b (c ∷ cs) = at (nat_lt a c) (nat_lt b c) refl refl (placed_swap a b cs) where
  at : (s t : Bool) → nat_lt a c ≡ s → nat_lt b c ≡ t → placed a (placed b cs) ≡ placed b (placed a cs) → placed a (placed b (c ∷ cs)) ≡ placed b (placed a (c ∷ cs))
  at true true e f more =
      ap (placed a) (before_all b c cs f) ∙ (two_first a b (c ∷ cs) (before_all a c cs e) (before_all b c cs f) ∙ sym (ap (placed b) (before_all a c cs e)))
  at true false e f more =
      ap (placed a) (behind_one b c cs f) ∙ (one_first a b c cs e f ∙ sym (ap (placed b) (before_all a c cs e)))
  at false true e f more =
      ap (placed a) (before_all b c cs f) ∙ (sym (one_first b a c cs f e) ∙ sym (ap (placed b) (behind_one a c cs e)))
  at false false e f more =
      ap (placed a) (behind_one b c cs f) ∙ (behind_one a c (placed b cs) e ∙ (ap (λ (ns : List ℕ). c ∷ ns) more ∙ (sym (behind_one b c (placed a cs) f) ∙ sym (ap (placed b) (behind_one a c cs e)))))

-- LINES

with_swap : (i : Instruction) (b : ℕ) (cs : List ℕ) → with_block i (placed b cs) ≡ placed b (with_block i cs)
with_swap (says.Create c members) b cs = placed_swap c.0 b cs
with_swap _ b cs = refl

two_lines : (i j : Instruction) (cs : List ℕ) → with_block i (with_block j cs) ≡ with_block j (with_block i cs)
two_lines i (says.Create c members) cs = with_swap i c.0 cs
two_lines i _ cs = refl

-- one line more
blocks_more : (lines : List ScriptLine) (l : ScriptLine) → blocks_of (lines ++ l ∷ []) ≡ with_block l.instruction (blocks_of lines)
blocks_more [] l = refl
blocks_more (k ∷ lines) l = ap (with_block k.instruction) (blocks_more lines l) ∙ two_lines k.instruction l.instruction (blocks_of lines)

more_blocks : (lines : List ScriptLine) (i : ℕ) (l : ScriptLine) (old : List ℕ) → i < length lines → l ≡ get_or lines i l → old ≡ blocks_of (take i lines) → with_block l.instruction old ≡ blocks_of (take (i + 1) lines)
more_blocks lines i l old within is so =
    ap (with_block l.instruction) so ∙ sym (ap blocks_of (take_more lines i l within ∙ ap (λ (k : ScriptLine). take i lines ++ k ∷ []) (sym is)) ∙ blocks_more (take i lines) l)

-- THE LOOP

pub one_created : (lines : List ScriptLine) (i : ℕ) (l : ScriptLine) (b : BlockId) (members : List NodeId) (old new : List ℕ) → i < length lines → l ≡ get_or lines i l → l.instruction ≡ says.Create b members → old ≡ blocks_of (take i lines) → new ≡ placed b.0 old → new ≡ blocks_of (take (i + 1) lines)
one_created lines i l b members old new within is says so put =
    put ∙ (ap (λ j. with_block j old) (sym says) ∙ more_blocks lines i l old within is so)

not_created : (i : Instruction) (cs : List ℕ) → ((b : BlockId) (members : List NodeId) → i ≡ says.Create b members → ⊥) → with_block i cs ≡ cs
not_created (says.Create b members) cs other = absurd (other b members refl)
not_created _ cs other = refl

pub none_created : (lines : List ScriptLine) (i : ℕ) (l : ScriptLine) (old new : List ℕ) → i < length lines → l ≡ get_or lines i l → ((b : BlockId) (members : List NodeId) → l.instruction ≡ says.Create b members → ⊥) → old ≡ blocks_of (take i lines) → new ≡ old → new ≡ blocks_of (take (i + 1) lines)
none_created lines i l old new within is other so same =
    same ∙ (sym (not_created l.instruction old other) ∙ more_blocks lines i l old within is so)
