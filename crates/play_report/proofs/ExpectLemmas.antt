-- The first line that differs, as the nodes tell, is that of the world.
use Rattle.std.proofs.Common.{◌≡◌, ◌<◌, ◌≤◌, ◌+◌, ◌==◌, ℕ, zero, suc, not, nat_lt, Bool, true, false, cond, List, [], ◌∷◌, length, position, get_or, slice_get, Option, Some, None, IsSome, refl, sym, ap, subst, ◌∙◌, arith, eqb-true}
use Rattle.std.specs.Prelude.{◌&&◌, is_some}
use Rattle.std.specs.List.{position_or_len}
use Rattle.std.specs.Option.{option_and_then}
use Rattle.std.proofs.lemmas.Bool.{ltb-true}
use Rattle.std.proofs.lemmas.Bool.Decides.{nat_tests}
use Rattle.std.proofs.lemmas.List.Quantifiers.{position-Some}
use Rattle.hd_base.specs.declared.links.LinkIn as link_in
use Rattle.hd_base.specs.declared.links.LinkOut as link_out
use Rattle.hd_base.specs.declared.numbers.BlockId.{BlockId}
use Rattle.play_scripts.specs.PlayNodes.Nodes.{Nodes}
use Rattle.play_scripts.specs.PlayNodes.Places.{book_at}
use Rattle.play_scripts.proofs.PlayNodes.PlaceLaws.{same_some}
use Rattle.play_scripts.proofs.NodeOpening.ListLemmas.{element_or}
use Rattle.play_scripts.specs.Blocks.{numbers}
use Rattle.replica_files.specs.Books.{replica_of}
use Rattle.replica_files.specs.declared.book_state.BookState.{BookState}
use Rattle.replica_model.specs.Rows.{FullReplica}
use Rattle.road_traffic.specs.Showing.{Net}
use Rattle.script_lang.specs.declared.instructions.Instruction.{Instruction}
use Rattle.script_lang.specs.declared.instructions.Instruction.TheVariants as says
use Rattle.script_lang.specs.declared.instructions.ScriptLine.{ScriptLine}
use Rattle.world.specs.Worlds.{World}
use Rattle.play_report.specs.declared.expecting.Difference.{Difference}
use Rattle.play_report.specs.declared.expecting.Expected.{Expected}
use Rattle.play_scripts.specs.PlayNodes.Showing.{runs_in}
use Rattle.play_report.specs.Reports.{NodesAre}
use Rattle.play_report.specs.Expecting.{expected_in, has_block, expected_at, compared, Found, difference_in, or_else, differing_in, told_at, found_in, Differs}

-- LINES

-- Where all lines before one agree, it is that one's difference, if it has one.
pub line_differs : (found : Found) (lines rest : List ScriptLine) (l : ScriptLine) (all o : Option Difference) → lines ≡ l ∷ rest → differing_in found lines ≡ all
    → o ≡ difference_in found l.number l.instruction → is_some o ≡ true → o ≡ all
line_differs found lines rest l all o is h e some =
    first o some ∙ (ap (λ (p : Option Difference). or_else p (differing_in found rest)) e ∙ (sym (ap (λ (ls : List ScriptLine). differing_in found ls) is) ∙ h))
  where
    first : (p : Option Difference) → is_some p ≡ true → p ≡ or_else p (differing_in found rest)
    first None q = cc
    first (Some d) q = refl

pub line_agrees : (found : Found) (lines rest : List ScriptLine) (l : ScriptLine) (all o : Option Difference) → lines ≡ l ∷ rest → differing_in found lines ≡ all
    → o ≡ difference_in found l.number l.instruction → is_some o ≡ false → differing_in found rest ≡ all
line_agrees found lines rest l all o is h e none =
    last o none ∙ (ap (λ (p : Option Difference). or_else p (differing_in found rest)) e ∙ (sym (ap (λ (ls : List ScriptLine). differing_in found ls) is) ∙ h))
  where
    last : (p : Option Difference) → is_some p ≡ false → differing_in found rest ≡ or_else p (differing_in found rest)
    last None q = refl
    last (Some d) q = cc

same_difference : (f g : Found) → ((node b : ℕ) → f node b ≡ g node b) → (number : ℕ) (i : Instruction) → difference_in f number i ≡ difference_in g number i
same_difference f g same number (says.Expect node block state stamp written) =
    ap (λ (o : Option Expected). compared number (record { state = state; stamp = stamp; length = written }) o) (same node.0 block.0)
same_difference f g same number other = refl

pub same_differing : (f g : Found) → ((node b : ℕ) → f node b ≡ g node b) → (lines : List ScriptLine) → differing_in f lines ≡ differing_in g lines
same_differing f g same [] = refl
same_differing f g same (l ∷ lines) =
    ap (λ (o : Option Difference). or_else o (differing_in f lines)) (same_difference f g same l.number l.instruction) ∙
    ap (λ (o : Option Difference). or_else (difference_in g l.number l.instruction) o) (same_differing f g same lines)

-- BLOCKS

-- a block at a place is among them
has_at : (b : ℕ) (blocks : List BlockId) (k : ℕ) (x : BlockId) → slice_get blocks k ≡ Some x → (x.0 == b) ≡ true → has_block (numbers blocks) b ≡ true
has_at b [] k x at is = cc
has_at b (y ∷ blocks) zero x at is = ap (λ (t : Bool). cond t true (has_block (numbers blocks) b)) (ap (λ (z : BlockId). z.0 == b) (same_some y x at) ∙ is)
has_at b (y ∷ blocks) (suc k) x at is = either (y.0 == b) (has_at b blocks k x at is)
  where
    either : (t : Bool) → has_block (numbers blocks) b ≡ true → cond t true (has_block (numbers blocks) b) ≡ true
    either true h = refl
    either false h = h

-- where none is found, none is among them
none_has : (b : ℕ) (blocks : List BlockId) → length blocks ≤ position_or_len (λ (x : BlockId). x.0 == b) blocks → has_block (numbers blocks) b ≡ false
none_has b [] past = refl
none_has b (x ∷ blocks) past = at (x.0 == b) past (none_has b blocks)
  where
    at : (t : Bool) → suc (length blocks) ≤ cond (not t) (1 + position_or_len (λ (x : BlockId). x.0 == b) blocks) 0
        → (length blocks ≤ position_or_len (λ (x : BlockId). x.0 == b) blocks → has_block (numbers blocks) b ≡ false) → cond t true (has_block (numbers blocks) b) ≡ false
    at true p h = absurd (none p)
      where
        none : suc (length blocks) ≤ 0 → ⊥
        none q = omega arith
    at false p h = h (omega (arith, p))

no_place : (b : ℕ) (blocks : List BlockId) → position (λ (x : BlockId). x.0 == b) blocks ≡ None → has_block (numbers blocks) b ≡ false
no_place b blocks e = at (nat_lt (position_or_len (λ (x : BlockId). x.0 == b) blocks) (length blocks)) refl e
  where
    at : (t : Bool) → nat_lt (position_or_len (λ (x : BlockId). x.0 == b) blocks) (length blocks) ≡ t
        → cond t (Some (position_or_len (λ (x : BlockId). x.0 == b) blocks)) None ≡ None → has_block (numbers blocks) b ≡ false
    at true d h = cc
    at false d h = none_has b blocks (grind (arith, nat_tests, d))

-- a place at which a block stands
pub record PlaceOf (b : ℕ) (blocks : List BlockId) (k : ℕ) : Type 0 where
  pub block : BlockId
  pub at : slice_get blocks k ≡ Some block
  pub is : (block.0 == b) ≡ true

place_so : (b : ℕ) (blocks : List BlockId) (k : ℕ) → position (λ (x : BlockId). x.0 == b) blocks ≡ Some k → PlaceOf b blocks k
place_so b blocks k e =
    let none : BlockId = record { 0 = 0 } in
    let so = position-Some (λ (x : BlockId). x.0 == b) blocks k none e in
    record { block = get_or blocks k none; at = element_or blocks k none so.0; is = so.1 }

-- NODES

module _ {F I O : Type 0} (i : link_in.Ghosts I) (o : link_out.Ghosts O) (count : ℕ) (running : List Bool) (w : World) (net : Net) (n : Nodes F I O) (are : NodesAre i o count running w net n) where
  told_so : (node k : ℕ) (x : BlockId) → node < w.nodes → slice_get n.blocks.items k ≡ Some x → told_at n node k ≡ expected_in (w.replicas node x.0).known.info
  told_so node k x below at = book (book_at n.nodes.items node k) refl
    where
      book : (q : Option (BookState F)) → book_at n.nodes.items node k ≡ q → told_at n node k ≡ expected_in (w.replicas node x.0).known.info
      book None e = absurd (none (subst (λ (q : Option (BookState F)). IsSome q) e (are.show.has_books node k x below at)))
        where
          none : IsSome {T = BookState F} None → ⊥
          none h = cc
      book (Some s) e =
          ap (λ (q : Option (BookState F)). option_and_then (λ y. expected_in (replica_of y).known.info) q) e ∙
          ap (λ (r : FullReplica). expected_in r.known.info) (are.show.books node k x s at e)

  at_node : (node b : ℕ) → node < w.nodes → (q : Option ℕ) → position (λ (x : BlockId). x.0 == b) n.blocks.items ≡ q
      → option_and_then (told_at n node) q ≡ cond (has_block (numbers n.blocks.items) b) (expected_in (w.replicas node b).known.info) None
  at_node node b below None e = sym (ap (λ (t : Bool). cond t (expected_in (w.replicas node b).known.info) None) (no_place b n.blocks.items e))
  at_node node b below (Some k) e =
      let p = place_so b n.blocks.items k e in
      told_so node k p.block below p.at ∙ (ap (λ (m : ℕ). expected_in (w.replicas node m).known.info) (eqb-true p.block.0 b p.is) ∙
      sym (ap (λ (t : Bool). cond t (expected_in (w.replicas node b).known.info) None) (has_at b n.blocks.items k p.block p.at p.is)))

  -- where its node is one of the first and runs
  abbrev Told : ℕ → ℕ → Option Expected
  Told node b = option_and_then (told_at n node) (position (λ (x : BlockId). x.0 == b) n.blocks.items)

  abbrev Held : ℕ → ℕ → Bool → Option Expected
  Held node b there = cond (there && has_block (numbers n.blocks.items) b) (expected_in (w.replicas node b).known.info) None

  found_so : (node b : ℕ) → found_in count running n node b ≡ expected_at w (numbers n.blocks.items) node b
  found_so node b = at (nat_lt node count) refl (nat_lt node w.nodes) (ap (λ (m : ℕ). nat_lt node m) are.count_is) (w.running node) (are.tells node)
    where
      at : (t : Bool) → nat_lt node count ≡ t → (u : Bool) → u ≡ nat_lt node count → (v : Bool) → runs_in running node ≡ v
          → cond (t && runs_in running node) (Told node b) None ≡ Held node b (u && v)
      at true d u e true runs =
          let below : node < w.nodes = subst (λ (m : ℕ). node < m) (sym are.count_is) (ltb-true node count d) in
          ap (λ (r : Bool). cond r (Told node b) None) runs ∙ (at_node node b below (position (λ (x : BlockId). x.0 == b) n.blocks.items) refl ∙
          sym (ap (λ (r : Bool). Held node b (r && true)) (e ∙ d)))
      at true d u e false runs = ap (λ (r : Bool). cond r (Told node b) None) runs ∙ sym (ap (λ (r : Bool). Held node b (r && false)) (e ∙ d))
      at false d u e v runs = sym (ap (λ (r : Bool). Held node b (r && v)) (e ∙ d))

pub differs_so : {F I O : Type 0} (i : link_in.Ghosts I) (o : link_out.Ghosts O) (count : ℕ) (running : List Bool) (n : Nodes F I O) (lines : List ScriptLine) (result : Option Difference)
    → result ≡ differing_in (found_in count running n) lines → Differs i o count running n lines result
differs_so i o count running n lines result is = λ w net are. is ∙ same_differing (found_in count running n) (expected_at w (numbers n.blocks.items)) (found_so i o count running w net n are) lines
