-- What the names of a block's files say.
use Rattle.std.proofs.Common.{◌≡◌, ◌⊎◌, inl, inr, ℕ, ◌^◌, ◌<◌, ◌==◌, Bool, true, false, List, [], ◌∷◌, Some, None, IfSome, length, Result, Ok, Err, refl, sym, ap, subst, ◌∙◌, cond}
use Rattle.hd_base.specs.declared.numbers.BlockId.{BlockId}
use Rattle.hd_base.specs.declared.numbers.Stamp.{Stamp}
use Rattle.meta_file.specs.declared.names.Folder.{Folder}
use Rattle.meta_file.specs.declared.names.NameFault.{NameFault}
use Rattle.meta_file.specs.declared.names.Named.{Named}
use Rattle.meta_file.specs.declared.names.Named.TheVariants.{Body, Sums}
use Rattle.meta_file.specs.Names.{as_read, printed, IsNamed}
use Rattle.block_files.specs.Placements.{data_name, meta_name}
use Rattle.restart_scan.specs.Pairs.{body_in, sums_in, IsBodyAt, IsSumsAt, AreAt, ArePair, Finds}
use Rattle.restart_scan.specs.declared.pairs.PairPlaces.{PairPlaces}
use Rattle.std.proofs.lemmas.Bool.Decides.{Decides-eqb}

-- how a name was read
pub record IsRead (name : List ℕ) (r : Result Named NameFault) : Type 0 where
  pub only : (x : Named) → IsNamed x → printed x ≡ name → r ≡ Ok (as_read x)

same_number : (m n : ℕ) → (m == n) ≡ true → m ≡ n
same_number m n e = (Decides-eqb m n).0 e

is_same : (n : ℕ) → (n == n) ≡ true
is_same n = (Decides-eqb n n).1 refl

true_false : true ≡ false → ⊥
true_false e = cc

same_ok : (a b : Named) → ◌≡◌ {A = Result Named NameFault} (Ok a) (Ok b) → a ≡ b
same_ok a b e = cc

err_ok : (a : NameFault) (b : Named) → ◌≡◌ {A = Result Named NameFault} (Err a) (Ok b) → ⊥
err_ok a b e = cc

body_fields : (b c : BlockId) (f g : Folder) → Body b f ≡ Body c g → b ≡ c
body_fields b c f g e = cc

sums_fields : (b c : BlockId) (s t : Stamp) (f g : Folder) → Sums b s f ≡ Sums c t g → b ≡ c
sums_fields b c s t f g e = cc

body_sums : (b c : BlockId) (s : Stamp) (f g : Folder) → Body b f ≡ Sums c s g → ⊥
body_sums b c s f g e = cc

-- ---- a data file

body_name : (block : BlockId) (f : Folder) → printed (Body block f) ≡ data_name f block.0
unfolding data_name
body_name block f = refl

-- a name that is a data file's was read as that
read_body : (block : BlockId) (name : List ℕ) (r : Result Named NameFault) (f : Folder) → block.0 < 2 ^ 64 → IsRead name r → IsBodyAt block name f → r ≡ Ok (Body block f)
read_body block name r f fits read at = read.only (Body block f) fits (body_name block f ∙ sym at.named) ∙ ap Ok at.read

pub no_body : (block : BlockId) (name : List ℕ) (e : NameFault) → block.0 < 2 ^ 64 → IsRead name (Err e) → Finds (IsBodyAt block name) None
no_body block name e fits read f at = err_ok e (Body block f) (read_body block name (Err e) f fits read at)

pub body_read : (block : BlockId) (name : List ℕ) (named : Named) → block.0 < 2 ^ 64 → printed named ≡ name → IsRead name (Ok named) → Finds (IsBodyAt block name) (body_in block named)
body_read block name (Sums b s g) fits is read =
    λ f at. body_sums block b s f g (sym (same_ok (Sums b s g) (Body block f) (read_body block name (Ok (Sums b s g)) f fits read at)))
body_read block name (Body b g) fits is read = by (b.0 == block.0) refl where
  by : (t : Bool) → (b.0 == block.0) ≡ t → Finds (IsBodyAt block name) (cond t (Some g) None)
  by true e =
      let same : b ≡ block = ap (λ (n : ℕ). let x : BlockId = record { 0 = n } in x) (same_number b.0 block.0 e) in
      let is_this : printed (Body block g) ≡ name = ap (λ (x : BlockId). printed (Body x g)) (sym same) ∙ is in
      record {
        named = sym is_this ∙ body_name block g;
        read = sym (same_ok (Body b g) (as_read (Body block g)) (read.only (Body block g) fits is_this)) ∙ ap (λ (x : BlockId). Body x g) same;
      }
  by false e = λ f at.
      let same = body_fields b block g f (same_ok (Body b g) (Body block f) (read_body block name (Ok (Body b g)) f fits read at)) in
      true_false (sym (is_same block.0) ∙ (ap (λ (x : BlockId). x.0 == block.0) (sym same) ∙ e))

-- ---- a metadata file

sums_name : (block : BlockId) (s : Stamp) (f : Folder) → printed (Sums block s f) ≡ meta_name f s.0 block.0
unfolding meta_name
sums_name block s f = refl

read_sums : (block : BlockId) (name : List ℕ) (r : Result Named NameFault) (x : Folder × Stamp) → block.0 < 2 ^ 64 → IsRead name r → IsSumsAt block name x → r ≡ Ok (Sums block x.1 x.0)
read_sums block name r x fits read at = read.only (Sums block x.1 x.0) (fits, at.stamp_fits) (sums_name block x.1 x.0 ∙ sym at.named) ∙ ap Ok at.read

pub no_sums : (block : BlockId) (name : List ℕ) (e : NameFault) → block.0 < 2 ^ 64 → IsRead name (Err e) → Finds (IsSumsAt block name) None
no_sums block name e fits read x at = err_ok e (Sums block x.1 x.0) (read_sums block name (Err e) x fits read at)

pub sums_read : (block : BlockId) (name : List ℕ) (named : Named) → block.0 < 2 ^ 64 → IfSome (sums_in block named) (λ x. x.1.0 < 2 ^ 64) → printed named ≡ name → IsRead name (Ok named)
    → Finds (IsSumsAt block name) (sums_in block named)
sums_read block name (Body b g) fits stamp_fits is read =
    λ x at. body_sums b block x.1 g x.0 (same_ok (Body b g) (Sums block x.1 x.0) (read_sums block name (Ok (Body b g)) x fits read at))
sums_read block name (Sums b s g) fits stamp_fits is read = by (b.0 == block.0) refl stamp_fits where
  by : (t : Bool) → (b.0 == block.0) ≡ t → IfSome (cond t (Some (g, s)) None) (λ (x : Folder × Stamp). x.1.0 < 2 ^ 64) → Finds (IsSumsAt block name) (cond t (Some (g, s)) None)
  by true e stamp_fits =
      let same : b ≡ block = ap (λ (n : ℕ). let x : BlockId = record { 0 = n } in x) (same_number b.0 block.0 e) in
      let is_this : printed (Sums block s g) ≡ name = ap (λ (x : BlockId). printed (Sums x s g)) (sym same) ∙ is in
      record {
        stamp_fits = stamp_fits;
        named = sym is_this ∙ sums_name block s g;
        read = sym (same_ok (Sums b s g) (as_read (Sums block s g)) (read.only (Sums block s g) (fits, stamp_fits) is_this)) ∙ ap (λ (x : BlockId). Sums x s g) same;
      }
  by false e stamp_fits = λ x at.
      let same = sums_fields b block s x.1 g x.0 (same_ok (Sums b s g) (Sums block x.1 x.0) (read_sums block name (Ok (Sums b s g)) x fits read at)) in
      true_false (sym (is_same block.0) ∙ (ap (λ (y : BlockId). y.0 == block.0) (sym same) ∙ e))

-- ---- both

pub both_read : (block : BlockId) (a b : List ℕ) (f g : Folder) (s : Stamp) → Finds (IsBodyAt block a) (Some f) → Finds (IsSumsAt block b) (Some (g, s)) → AreAt block a b (record { folder = f; meta_folder = g; stamp = s })
both_read block a b f g s body sums = record { body_at = body; sums_at = sums }

pub no_first : (block : BlockId) (a b : List ℕ) → Finds (IsBodyAt block a) None → Finds (AreAt block a b) None
no_first block a b none x at = none x.folder at.body_at

pub no_second : (block : BlockId) (a b : List ℕ) → Finds (IsSumsAt block b) None → Finds (AreAt block a b) None
no_second block a b none x at = none (x.meta_folder, x.stamp) at.sums_at

-- ---- two names

two_names : {A : Type 0} (a b x y : A) → a ∷ b ∷ [] ≡ x ∷ y ∷ [] → (a ≡ x) × (b ≡ y)
two_names a b x y e = (cc, cc)

pub first_order : (block : BlockId) (a b : List ℕ) (x : PairPlaces) → AreAt block a b x → ArePair block (a ∷ b ∷ []) x
first_order block a b x at = (a, b, at, inl refl)

pub second_order : (block : BlockId) (a b : List ℕ) (x : PairPlaces) → AreAt block b a x → ArePair block (a ∷ b ∷ []) x
second_order block a b x at = (b, a, at, inr refl)

pub neither : (block : BlockId) (a b : List ℕ) → Finds (AreAt block a b) None → Finds (AreAt block b a) None → Finds (ArePair block (a ∷ b ∷ [])) None
neither block a b none other x pair = by pair.3 where
  by : ((a ∷ b ∷ [] ≡ pair.0 ∷ pair.1 ∷ []) ⊎ (a ∷ b ∷ [] ≡ pair.1 ∷ pair.0 ∷ [])) → ⊥
  by (inl e) = let s = two_names a b pair.0 pair.1 e in none x (subst (λ l. AreAt block l b x) (sym s.0) (subst (λ l. AreAt block pair.0 l x) (sym s.1) pair.2))
  by (inr e) = let s = two_names a b pair.1 pair.0 e in other x (subst (λ l. AreAt block b l x) (sym s.0) (subst (λ l. AreAt block l pair.1 x) (sym s.1) pair.2))

pub not_two : (block : BlockId) (names : List (List ℕ)) → (length names ≡ 2 → ⊥) → Finds (ArePair block names) None
not_two block names few x pair = by pair.3 where
  by : ((names ≡ pair.0 ∷ pair.1 ∷ []) ⊎ (names ≡ pair.1 ∷ pair.0 ∷ [])) → ⊥
  by (inl e) = few (ap length e)
  by (inr e) = few (ap length e)
