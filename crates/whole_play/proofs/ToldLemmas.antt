-- What a report leaves of nodes: shelves that stood for them, and had lent all, do so still.
use Rattle.std.proofs.Common.{◌≡◌, ◌<◌, ℕ, zero, suc, Bool, List, [], ◌∷◌, drop, length, slice_get, Some, Result, Ok, Err, IfOk, IfErr, OnOk, sym, ap, subst, ◌∙◌}
use Rattle.hd_base.specs.declared.files.Files as files
use Rattle.hd_base.specs.declared.numbers.BlockId.{BlockId}
use Rattle.hd_base.specs.declared.shelves.Shelf as shelves
use Rattle.script_lang.specs.declared.instructions.ScriptLine.{ScriptLine}
use Rattle.play_report.specs.PlayNodes.NodeBooks.{NodeBooks}
use Rattle.play_report.specs.PlayNodes.Nodes.{Nodes}
use Rattle.play_report.proofs.PlayNodes.PlaceLaws.{element_within}
use Rattle.play_report.specs.PlayScripts.Unplayed.{LinesAreTold}
use Rattle.play_report.specs.NodeOpening.Shelves.{AreDistinct}
use Rattle.play_report.specs.NodeOpening.Standing.{ShelfStands, AllLentOut, ShelvesStay}
use Rattle.play_report.specs.Rows.{LeavesAll}
use Rattle.whole_play.proofs.ClosedLemmas.{Stands, stands}

-- RESULTS

pub ok_map : {T E : Type 0} (r : Result T E) (P Q : T → Type 0) → ((x : T) → P x → Q x) → IfOk r P → IfOk r Q
ok_map (Ok x) P Q f h = f x h
ok_map (Err e) P Q f h = tt

-- where also this is so
pub ok_with : {T E : Type 0} (r : Result T E) (P Q : T → Type 0) (X : Type 0) → (X → (x : T) → P x → Q x) → OnOk r X → IfOk r P → IfOk r Q
ok_with (Ok x) P Q X f a h = f a x h
ok_with (Err e) P Q X f a h = tt

pub on_ok : {T E : Type 0} (r : Result T E) (X : Type 0) → X → OnOk r X
on_ok (Ok x) X h = h
on_ok (Err e) X h = tt

pub err_map : {T E : Type 0} (r : Result T E) (P Q : E → Type 0) → ((e : E) → P e → Q e) → IfErr r P → IfErr r Q
err_map (Ok x) P Q f h = tt
err_map (Err e) P Q f h = f e h

-- LINES

-- Behind the first lines the starts are told too.
pub told_behind : (told : Bool) (n : ℕ) (lines : List ScriptLine) → LinesAreTold told lines → LinesAreTold told (drop n lines)
told_behind told zero lines h = h
told_behind told (suc n) [] h = tt
told_behind told (suc n) (l ∷ lines) h = told_behind told n lines h.1

-- REPORTS

module _ {S F I O : Type 0} (s : shelves.Ghosts S F) (f : files.Ghosts F) where
  same_count : (n m : Nodes F I O) (k : ℕ) (x y : NodeBooks F) → LeavesAll f n m → slice_get n.nodes.items k ≡ Some x → slice_get m.nodes.items k ≡ Some y → length y.books.items ≡ length x.books.items
  same_count n m k x y kept at at' = (kept.nodes.each k x y at at').count

  was_node : (n m : Nodes F I O) (k : ℕ) (y : NodeBooks F) → LeavesAll f n m → slice_get m.nodes.items k ≡ Some y → Stands n.nodes.items k
  was_node n m k y kept at = stands n.nodes.items k (subst (λ (q : ℕ). k < q) kept.nodes.count (element_within m.nodes.items k y at))

  pub report_stays : (now : List S) (n m : Nodes F I O) → LeavesAll f n m → ShelvesStay s now now n m
  report_stays now n m kept = λ before h. record {
    count = h.count;
    nodes = kept.nodes.count ∙ h.nodes;
    distinct = subst (λ (bs : List BlockId). AreDistinct bs) (sym kept.blocks) h.distinct;
    each = λ k a b y was is here.
        let x = was_node n m k y kept here in
        subst (λ (q : ℕ). ShelfStands s m.blocks.items q a b) (sym (same_count n m k x.x y kept x.at here))
        (subst (λ (bs : List BlockId). ShelfStands s bs (length x.x.books.items) a b) (sym kept.blocks) (h.each k a b x.x was is x.at));
  }

  pub report_lent : (now : List S) (n m : Nodes F I O) → LeavesAll f n m → AllLentOut s now n → AllLentOut s now m
  report_lent now n m kept h = record {
    books = λ k y here.
        let x = was_node n m k y kept here in
        same_count n m k x.x y kept x.at here ∙ (h.books k x.x x.at ∙ ap length (sym kept.blocks));
    empty = h.empty;
  }

  -- Shelves that stand for the nodes after the lines stand for them after the report.
  pub stay_after : (old now : List S) (n m q : Nodes F I O) → ShelvesStay s old now n m → LeavesAll f m q → ShelvesStay s old now n q
  stay_after old now n m q stay kept = λ before h. report_stays now m q kept before (stay before h)
