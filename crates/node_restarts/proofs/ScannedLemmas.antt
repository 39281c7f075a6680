-- What a scan of a shelf makes of one block.
use Rattle.std.proofs.Common.{◌≡◌, ◌⊎◌, inl, inr, ◌==◌, ℕ, zero, suc, ◌<◌, Bool, true, false, cond, List, [], ◌∷◌, ◌++◌, Option, Some, None, IsSome, Contains, refl, sym, ap, subst, ◌∙◌, arith, eqb-true}
use Rattle.std.specs.List.{AllZip}
use Rattle.std.proofs.lemmas.List.Kept.{AllPairs-from_increasing}
use Rattle.hd_base.specs.Blocks.{block_of, is_this, is_of_block}
use Rattle.hd_base.specs.FileMaps.{FileMap, no_files, part_of}
use Rattle.hd_base.specs.declared.numbers.BlockId.{BlockId}
use Rattle.restart_scan.specs.declared.found.Found.{Found}
use Rattle.restart_scan.specs.declared.found.Seen.{Seen}
use Rattle.restart_scan.specs.Blocks.{ScansBlock, scanned_none}
use Rattle.restart_scan.specs.Pairs.{without_temporary, is_temporary}
use Rattle.restart_scan.specs.Shelves.{block_numbered, seen_list, seen_all, IsScanned, ScansShelf}
use Rattle.restart_scan.proofs.ScanLemmas.{later, seen_block, Rises, rises_from, has_or_not, no_file}
use Rattle.restart_scan.proofs.WholeLemmas.{nothing_there}
use Rattle.node_restarts.specs.Making.{seen_in}
use Rattle.node_opening.proofs.CloseLemmas.{same_eqb}

true_false : true ≡ false → ⊥
true_false e = cc

abbrev pub type_of : {A : Type 0} → A → Type 0
type_of {A} a = A

-- the type of what is found among one block's files
abbrev pub Scan : Type 0
Scan = type_of scanned_none

-- A block's files were scanned, with what is listed of it.
pub record IsScannedAt (m n : FileMap) (replicas : List Seen) (b : BlockId) : Type 0 where
  pub x : Scan
  pub scans : ScansBlock b (part_of b.0 m) (part_of b.0 n) x
  pub seen : seen_in replicas b ≡ x.seen

-- NUMBERS

not_same : (a b : ℕ) → (a ≡ b → ⊥) → (a == b) ≡ false
not_same a b h = by (a == b) refl
  where
    by : (t : Bool) → (a == b) ≡ t → (a == b) ≡ false
    by true e = absurd (h (eqb-true a b e))
    by false e = e

below_apart : (a b : ℕ) → a < b → a ≡ b → ⊥
below_apart a b h e = omega (arith, h, e)

above_apart : (a b c : ℕ) → a < c → a ≡ b → c ≡ b → ⊥
above_apart a b c h e f = omega (arith, h, e, f)

-- LISTS

skip : (c : ℕ) (b : BlockId) (s : Seen) (rest : List Seen) → s.block ≡ block_numbered c → (c ≡ b.0 → ⊥) → seen_in (s ∷ rest) b ≡ seen_in rest b
skip c b s rest of apart = ap (λ (t : Bool). cond t (Some s) (seen_in rest b)) (ap (λ (q : BlockId). q.0 == b.0) of ∙ not_same c b.0 apart)

here : (c : ℕ) (b : BlockId) (s : Seen) (rest : List Seen) → s.block ≡ block_numbered c → c ≡ b.0 → seen_in (s ∷ rest) b ≡ Some s
here c b s rest of same = ap (λ (t : Bool). cond t (Some s) (seen_in rest b)) (ap (λ (q : BlockId). q.0 == b.0) of ∙ (ap (λ (n : ℕ). n == b.0) same ∙ same_eqb b.0))

seen_none : (m n : FileMap) (bs : List ℕ) (xs : List Scan) (b : BlockId) → AllZip (IsScanned m n) bs xs → ((c : ℕ) → Contains bs c → c ≡ b.0 → ⊥) → seen_in (seen_all xs) b ≡ None
seen_none m n [] [] b h none = refl
seen_none m n [] (x ∷ xs) b h none = absurd h
seen_none m n (c ∷ bs) [] b h none = absurd h
seen_none m n (c ∷ bs) (x ∷ xs) b h none = by (seen_none m n bs xs b h.1 (λ e at. none e (later c bs e at))) x.seen refl
  where
    by : seen_in (seen_all xs) b ≡ None → (o : Option Seen) → x.seen ≡ o → seen_in (seen_list o ++ seen_all xs) b ≡ None
    by rest None e = rest
    by rest (Some s) e = skip c b s (seen_all xs) (seen_block (block_numbered c) (part_of c m) (part_of c n) x s h.0 e) (none c (0, omega arith, refl)) ∙ rest

seen_there : (m n : FileMap) (bs : List ℕ) (xs : List Scan) (b : BlockId) → Rises bs → AllZip (IsScanned m n) bs xs → Contains bs b.0 → IsScannedAt m n (seen_all xs) b
seen_there m n [] xs b up h at = absurd (omega (arith, at.1))
seen_there m n (c ∷ bs) [] b up h at = absurd h
seen_there m n (c ∷ bs) (x ∷ xs) b up h (zero, within, is) = record {
  x = x;
  scans = subst (λ (k : ℕ). ScansBlock (block_numbered k) (part_of k m) (part_of k n) x) is h.0;
  seen = by x.seen refl;
}
  where
    by : (o : Option Seen) → x.seen ≡ o → seen_in (seen_list o ++ seen_all xs) b ≡ o
    by None e = seen_none m n bs xs b h.1 (λ k at. λ same. above_apart c b.0 k (up.0 k at) is same)
    by (Some s) e = here c b s (seen_all xs) (seen_block (block_numbered c) (part_of c m) (part_of c n) x s h.0 e) is
seen_there m n (c ∷ bs) (x ∷ xs) b up h (suc k, within, is) = behind (seen_there m n bs xs b up.1 h.1 at)
  where
    at : Contains bs b.0
    at = (k, omega (arith, within), is)

    by : seen_in (seen_all xs) b ≡ seen_in (seen_all xs) b → (o : Option Seen) → x.seen ≡ o → seen_in (seen_list o ++ seen_all xs) b ≡ seen_in (seen_all xs) b
    by rest None e = rest
    by rest (Some s) e = skip c b s (seen_all xs) (seen_block (block_numbered c) (part_of c m) (part_of c n) x s h.0 e) (below_apart c b.0 (up.0 b.0 at))

    behind : IsScannedAt m n (seen_all xs) b → IsScannedAt m n (seen_all (x ∷ xs)) b
    behind r = record { x = r.x; scans = r.scans; seen = by refl x.seen refl ∙ r.seen }

-- A BLOCK WITHOUT FILES

this_one : (b : ℕ) (o : Option ℕ) → is_this b o ≡ true → o ≡ Some b
this_one b None e = absurd (true_false (sym e))
this_one b (Some c) e = ap Some (eqb-true c b e)

not_of : (b c : ℕ) (name : List ℕ) → block_of name ≡ Some b → (c ≡ b → ⊥) → is_of_block c name ≡ false
not_of b c name e apart = ap (is_this c) e ∙ not_same b c (λ same. apart (sym same))

part_empty : (b : ℕ) (m : FileMap) → ((name : List ℕ) → is_of_block b name ≡ true → m name ≡ None) → part_of b m ≡ no_files
part_empty b m none = λ i name. by name (is_of_block b name) refl i
  where
    by : (name : List ℕ) (t : Bool) → is_of_block b name ≡ t → cond t (m name) None ≡ None
    by name true e = none name e
    by name false e = refl

pub without_none : without_temporary no_files ≡ no_files
without_none = λ i name. by (is_temporary name) i
  where
    none : Option (List ℕ)
    none = None

    by : (t : Bool) → cond t none none ≡ none
    by true = refl
    by false = refl

module _ (m n : FileMap) (found : Found) (s : ScansShelf m n found) where
  none_before : (b : ℕ) → ((c : ℕ) → Contains s.blocks c → c ≡ b → ⊥) → (name : List ℕ) → is_of_block b name ≡ true → m name ≡ None
  none_before b none name e = no_file (m name) (λ some. none b ((s.are b).1 (name, this_one b (block_of name) e, some)) refl)

  none_after : (b : ℕ) → ((c : ℕ) → Contains s.blocks c → c ≡ b → ⊥) → (name : List ℕ) → is_of_block b name ≡ true → n name ≡ None
  none_after b none name e = s.scans.others name (λ c at. not_of b c name (this_one b (block_of name) e) (none c at)) ∙ none_before b none name e

  unscanned : (b : BlockId) → ((c : ℕ) → Contains s.blocks c → c ≡ b.0 → ⊥) → IsScannedAt m n found.replicas.items b
  unscanned b none =
      let old : part_of b.0 m ≡ no_files = part_empty b.0 m (none_before b.0 none) in
      let new : part_of b.0 n ≡ no_files = part_empty b.0 n (none_after b.0 none) in
      let left : without_temporary (part_of b.0 m) ≡ no_files = ap without_temporary old ∙ without_none in
      record {
        x = scanned_none;
        scans = inr (record { none = nothing_there b (part_of b.0 m) left; found = refl; left = new ∙ sym left });
        seen = subst (λ (rs : List Seen). seen_in rs b ≡ None) (sym s.scans.replicas_are) (seen_none m n s.blocks s.scans.results b s.scans.each none);
      }

  pub scanned_at : (b : BlockId) → IsScannedAt m n found.replicas.items b
  scanned_at b = by (has_or_not s.blocks b.0)
    where
      by : Contains s.blocks b.0 ⊎ ((c : ℕ) → Contains s.blocks c → c ≡ b.0 → ⊥) → IsScannedAt m n found.replicas.items b
      by (inl at) = subst (λ (rs : List Seen). IsScannedAt m n rs b) (sym s.scans.replicas_are)
          (seen_there m n s.blocks s.scans.results b (rises_from s.blocks (AllPairs-from_increasing s.blocks s.ascending)) s.scans.each at)
      by (inr none) = unscanned b none

  -- Where all files are of some blocks before, they are so afterwards.
  pub only_after : (P : ℕ → Type 0) (name : List ℕ) → ((other : List ℕ) (c : ℕ) → block_of other ≡ Some c → (P c → ⊥) → m other ≡ None) → ((c : ℕ) → block_of name ≡ Some c → P c → ⊥) → m name ≡ None → n name ≡ None
  only_after P name none apart before = s.scans.others name (λ c at. by c at (is_of_block c name) refl) ∙ before
    where
      none_some : (o : Option (List ℕ)) → o ≡ None → IsSome o → ⊥
      none_some None e h = cc
      none_some (Some v) e h = cc

      by : (c : ℕ) → Contains s.blocks c → (t : Bool) → is_of_block c name ≡ t → is_of_block c name ≡ false
      by c at true e =
          let h = (s.are c).0 at in
          absurd (none_some (m h.0) (none h.0 c h.1 (apart c (this_one c (block_of name) e))) h.2)
      by c at false e = e
