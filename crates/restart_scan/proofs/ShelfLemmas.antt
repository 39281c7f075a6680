-- A shelf is scanned block by block.
use Rattle.std.proofs.Common.{◌≡◌, ◌⊎◌, inl, inr, ℕ, ◌==◌, cond, Bool, true, false, List, [], ◌∷◌, length, Option, Some, None, option_map, IfSome, Result, Ok, Err, refl, sym, ap, subst, ◌∙◌, arith}
use Rattle.std.specs.Option.{option_or}
use Rattle.hd_base.specs.Faults.{FaultsIncreased, CarriesFaults}
use Rattle.hd_base.specs.Blocks.{is_of_block}
use Rattle.hd_base.specs.FileMaps.{FileMap, OnlyOf, part_of, rest_of, beside, both_observable, marked}
use Rattle.hd_base.specs.Calls.{Call, Log, run, stopped, IsUnchanged, StopsWithin}
use Rattle.hd_base.specs.declared.files.Files as files
use Rattle.hd_base.specs.declared.shelves.Shelf as shelves
use Rattle.hd_base.specs.declared.numbers.BlockId.{BlockId}
use Rattle.restart_scan.specs.declared.faults.ScanFault.{ScanFault}
use Rattle.restart_scan.specs.declared.faults.ScanFault.TheVariants as fault
use Rattle.restart_scan.specs.declared.found.Scanned.{Scanned}
use Rattle.restart_scan.specs.Blocks.{ScansBlock, ScanCalls}
use Rattle.restart_scan.specs.Settling.{IsDone, ScansDrawer}
use Rattle.restart_scan.specs.Shelves.{IsPartly, OthersStay, ScansIn, StopsIn, WhereTold, LendsNoMore, ScansFrom}

-- ---- the files of one block among all

part_back : (b : ℕ) (m q : FileMap) → ((name : List ℕ) → is_of_block b name ≡ false → q name ≡ None) → part_of b (beside (rest_of b m) q) ≡ q
part_back b m q only = λ i name. at name (is_of_block b name) refl i where
  none_left : (o : Option (List ℕ)) → option_or o None ≡ o
  none_left None = refl
  none_left (Some x) = refl

  at : (name : List ℕ) (t : Bool) → is_of_block b name ≡ t → part_of b (beside (rest_of b m) q) name ≡ q name
  at name true e = ap (λ (u : Bool). cond u (option_or (q name) (cond u None (m name))) None) e ∙ none_left (q name)
  at name false e = ap (λ (u : Bool). cond u (option_or (q name) (cond u None (m name))) None) e ∙ sym (only name e)

others_back : (b : ℕ) (m q : FileMap) → ((name : List ℕ) → is_of_block b name ≡ false → q name ≡ None) → OthersStay b m (beside (rest_of b m) q)
others_back b m q only name e = ap (λ (o : Option (List ℕ)). option_or o (cond (is_of_block b name) None (m name))) (only name e) ∙ ap (λ (u : Bool). cond u None (m name)) e

stopped_all : (calls : List Call) → stopped (length calls) 0 calls ≡ calls
stopped_all [] = refl
stopped_all (call ∷ calls) = ap (λ l. call ∷ l) (stopped_all calls)

both_are : (m q : FileMap) (a c n : Option FileMap) → a ≡ Some m → c ≡ Some q → n ≡ both_observable a c → n ≡ Some (beside m q)
both_are m q a c n e f is = is ∙ (ap (λ o. both_observable o c) e ∙ ap (λ o. both_observable (Some m) o) f)

told_done : (block : BlockId) (a middle first last n : Option FileMap) (x : Scanned) → first ≡ option_map (part_of block.0) a → middle ≡ option_map (rest_of block.0) a → OnlyOf block.0 last → n ≡ both_observable middle last
    → IfSome first (λ p. (q : FileMap) × (last ≡ Some q) × IsDone block p q x) → WhereTold a n (λ m k. ScansIn block m k x)
told_done block None middle first last n x f r only is h = tt
told_done block (Some m) middle first last n x f r only is h =
    let done = subst (λ o. IfSome o (λ p. (q : FileMap) × (last ≡ Some q) × IsDone block p q x)) f h in
    let q = done.0 in
    let alone : (name : List ℕ) → is_of_block block.0 name ≡ false → q name ≡ None = subst (OnlyOf block.0) done.1 only in
    let back = part_back block.0 m q alone in (
      beside (rest_of block.0 m) q,
      both_are (rest_of block.0 m) q middle last n r done.1 is,
      record {
        scanned = subst (λ z. ScansBlock block (part_of block.0 m) z x) (sym back) done.2.scanned;
        partly = inr (done.2.calls, length done.2.calls, 0, done.2.are, back ∙ (done.2.made ∙ ap (λ l. run l (part_of block.0 m)) (sym (stopped_all done.2.calls))));
        others = others_back block.0 m q alone;
      },
    )

-- a scan that failed, by the files before and after it
abbrev StopsBy : BlockId → Option FileMap → Option FileMap → Option Log → Option Log → Type 0
StopsBy block a c l k = IsUnchanged a c l k ⊎ IfSome a (λ m. (calls : List Call) × ScanCalls block m calls × StopsWithin a c l k calls)

-- what is left of a block's files
abbrev Leaves : BlockId → FileMap → Option FileMap → Type 0
Leaves block p last = (q : FileMap) × (last ≡ Some q) × IsPartly block p q

stop_leaves : (block : BlockId) (p : FileMap) (last : Option FileMap) (l k : Option Log) → StopsBy block (Some p) last l k → Leaves block p last
stop_leaves block p last l k (inl same) = (p, same.files, inl refl)
stop_leaves block p last l k (inr s) = (run (stopped s.2.0 s.2.1 s.0) p, s.2.2.files, inr (s.0, s.2.0, s.2.1, s.1, refl))

told_stopped : (block : BlockId) (a middle first last n : Option FileMap) (l k : Option Log) → first ≡ option_map (part_of block.0) a → middle ≡ option_map (rest_of block.0) a → OnlyOf block.0 last → n ≡ both_observable middle last
    → StopsBy block first last l k → WhereTold a n (StopsIn block)
told_stopped block None middle first last n l k f r only is h = tt
told_stopped block (Some m) middle first last n l k f r only is h =
    let left = stop_leaves block (part_of block.0 m) last l k (subst (λ o. StopsBy block o last l k) f h) in
    let q = left.0 in
    let alone : (name : List ℕ) → is_of_block block.0 name ≡ false → q name ≡ None = subst (OnlyOf block.0) left.1 only in (
      beside (rest_of block.0 m) q,
      both_are (rest_of block.0 m) q middle last n r left.1 is,
      record {
        partly = subst (IsPartly block (part_of block.0 m)) (sym (part_back block.0 m q alone)) left.2;
        others = others_back block.0 m q alone;
      },
    )

-- Where the shelf's files aren't observable, they aren't once the block is given back.
stays_untold : (b : ℕ) (a middle last n : Option FileMap) → middle ≡ option_map (rest_of b) a → n ≡ both_observable middle last → a ≡ None → n ≡ None
stays_untold b a middle last n r is none = is ∙ ap (λ (o : Option FileMap). both_observable o last) (r ∙ ap (option_map (rest_of b)) none)

lends_no_more : (old middle new : ℕ → Bool) (b : ℕ) → middle ≡ marked old b true → new ≡ marked middle b false → LendsNoMore old new
lends_no_more old middle new b f g c h = by (c == b) refl where
  here : new c ≡ cond (c == b) false (cond (c == b) true (old c))
  here = ap (λ (m : ℕ → Bool). m c) g ∙ ap (λ (m : ℕ → Bool). cond (c == b) false (m c)) f

  by : (t : Bool) → (c == b) ≡ t → old c ≡ true
  by true e = absurd (no (sym (here ∙ ap (λ (u : Bool). cond u false (cond u true (old c))) e) ∙ h)) where
    no : false ≡ true → ⊥
    no q = cc
  by false e = sym (here ∙ ap (λ (u : Bool). cond u false (cond u true (old c))) e) ∙ h

carried : (before zero_count more now : ℕ) → zero_count ≡ 0 → CarriesFaults before more now → FaultsIncreased zero_count more → FaultsIncreased before now
carried before z more now e c risen = omega (arith, e, c.counted, risen)

pub block_scanned : {S D : Type 0} (s : shelves.Ghosts S D) (d : files.Ghosts D) (block : BlockId) (old middle new : S) (first last : D) (r : Result Scanned ScanFault)
    → d.files first ≡ option_map (part_of block.0) (s.files old) → d.faults first ≡ 0 → s.files middle ≡ option_map (rest_of block.0) (s.files old) → s.lent middle ≡ marked (s.lent old) block.0 true
    → s.faults middle ≡ s.faults old → ScansDrawer d block first last r → (OnlyOf block.0 (d.files last) → s.files new ≡ both_observable (s.files middle) (d.files last))
    → s.lent new ≡ marked (s.lent middle) block.0 false → CarriesFaults (s.faults middle) (d.faults last) (s.faults new) → ScansFrom s block old new r
block_scanned s d block old middle new first last (Ok x) f fresh rest lent count scan back unlent carries = record {
  done = told_done block (s.files old) (s.files middle) (d.files first) (d.files last) (s.files new) x f rest scan.only (back scan.only) scan.done;
  stopped = tt;
  untold = stays_untold block.0 (s.files old) (s.files middle) (d.files last) (s.files new) rest (back scan.only);
  lent = lends_no_more (s.lent old) (s.lent middle) (s.lent new) block.0 lent unlent;
  cause = record { never_falls = omega (arith, count, carries.never_falls); file = λ e. absurd (no x e) };
} where
  no : (x : Scanned) → ◌≡◌ {A = Result Scanned ScanFault} (Ok x) (Err fault.File) → ⊥
  no x e = cc
block_scanned s d block old middle new first last (Err e) f fresh rest lent count scan back unlent carries = record {
  done = tt;
  stopped = told_stopped block (s.files old) (s.files middle) (d.files first) (d.files last) (s.files new) (d.log first) (d.log last) f rest scan.only (back scan.only) scan.stopped;
  untold = stays_untold block.0 (s.files old) (s.files middle) (d.files last) (s.files new) rest (back scan.only);
  lent = lends_no_more (s.lent old) (s.lent middle) (s.lent new) block.0 lent unlent;
  cause = record {
    never_falls = omega (arith, count, carries.never_falls);
    file = λ is. subst (λ n. FaultsIncreased n (s.faults new)) count (carried (s.faults middle) (d.faults first) (d.faults last) (s.faults new) fresh carries (scan.cause.file is));
  };
}
