-- What is so of the first shelves, and of those beyond.
use Rattle.std.proofs.Common.{◌≡◌, ◌<◌, ◌≤◌, ℕ, zero, suc, List, [], ◌∷◌, ◌++◌, length, take, drop, slice_get, Some, None, refl, sym, ap, subst, ◌∙◌, arith, length-append}
use Rattle.std.proofs.Math.Seq.{take-append_seam}
use Rattle.std.proofs.lemmas.List.{length-take, length-drop}
use Rattle.std.proofs.lemmas.Option.{same_Some}
use Rattle.hd_base.specs.declared.files.Files as files
use Rattle.hd_base.specs.declared.roads.Roads as roads
use Rattle.hd_base.specs.declared.shelves.Shelf as shelves
use Rattle.script_lang.specs.declared.instructions.ScriptLine.{ScriptLine}
use Rattle.play_report.specs.NodeOpening.Shelves.{EachShelf, LendsNoMore}
use Rattle.play_report.proofs.NodeOpening.ListLemmas.{UpTo, get_within, up_to_all}
use Rattle.play_report.proofs.PlayNodes.PlaceLaws.{element_none}
use Rattle.play_report.specs.PlayScripts.Head.{Head}
use Rattle.play_report.specs.PlayScripts.Fitting.{ScriptFits}
use Rattle.play_report.specs.PlayScripts.Heads.{head_of}
use Rattle.whole_play.specs.declared.faults.RunFault.{RunFault}
use Rattle.whole_play.specs.declared.playing.Played.{Played}
use Rattle.whole_play.specs.Playing.{IsClosed, IsPlayed, LeavesShelves, HasCause, HasUsedCause}
use Rattle.whole_play.proofs.ClosedLemmas.{Stands, stands}

-- LISTS

take_front : {A : Type 0} (n : ℕ) (xs ys : List A) → length xs ≡ n → take n (xs ++ ys) ≡ xs
take_front n xs ys e = subst (λ (k : ℕ). take k (xs ++ ys) ≡ xs) e (take-append_seam xs ys)

none_behind : {A : Type 0} (xs : List A) (k : ℕ) → length xs ≤ k → slice_get (xs ++ []) k ≡ None
none_behind [] zero h = refl
none_behind [] (suc k) h = refl
none_behind (x ∷ xs) zero h = absurd (never (length xs) h)
  where
    never : (n : ℕ) → suc n ≤ 0 → ⊥
    never n h = omega (arith, h)
none_behind (x ∷ xs) (suc k) h = none_behind xs k (less (length xs) k h)
  where
    less : (n k : ℕ) → suc n ≤ suc k → n ≤ k
    less n k h = omega (arith, h)

zero_le : (k : ℕ) → 0 ≤ k
zero_le k = omega arith

get_behind : {A : Type 0} (xs ys : List A) (k : ℕ) → length xs ≤ k → slice_get (xs ++ drop (length xs) ys) k ≡ slice_get ys k
get_behind [] ys k h = refl
get_behind (x ∷ xs) [] k h = none_behind (x ∷ xs) k h ∙ sym (element_none [] k (zero_le k))
get_behind (x ∷ xs) (y ∷ ys) zero h = absurd (never (length xs) h)
  where
    never : (n : ℕ) → suc n ≤ 0 → ⊥
    never n h = omega (arith, h)
get_behind (x ∷ xs) (y ∷ ys) (suc k) h = get_behind xs ys k (less (length xs) k h)
  where
    less : (n k : ℕ) → suc n ≤ suc k → n ≤ k
    less n k h = omega (arith, h)

get_before : {A : Type 0} (xs ys : List A) (k : ℕ) (x : A) → slice_get xs k ≡ Some x → slice_get (xs ++ ys) k ≡ Some x
get_before [] ys k x h = cc
get_before (y ∷ xs) ys zero x h = h
get_before (y ∷ xs) ys (suc k) x h = get_before xs ys k x h

-- Where each of the first elements is so with what is now at its place: so it is of all, those beyond being as they were.
front_done : {S : Type 0} (P : S → S → Type 0) (n : ℕ) (old new : List S) → length new ≡ n → EachShelf P (take n old) new → (k : ℕ) (a b : S) → k < n → slice_get old k ≡ Some a → slice_get (new ++ drop n old) k ≡ Some b → P a b
front_done {S} P n old new count h k a b within at at' =
    let here : Stands new k = stands new k (subst (λ (m : ℕ). k < m) (sym count) within) in
    let is : here.x ≡ b = same_Some here.x b (sym (get_before new (drop n old) k here.x here.at) ∙ at') in
    h.each k a b (get_within old n k within ∙ at) (here.at ∙ ap (λ (x : S). Some x) is)

beyond : {S : Type 0} (n : ℕ) (old new : List S) → length new ≡ n → (k : ℕ) → n ≤ k → slice_get (new ++ drop n old) k ≡ slice_get old k
beyond n old new count k within =
    subst (λ (m : ℕ). slice_get (new ++ drop m old) k ≡ slice_get old k) count (get_behind new old k (subst (λ (m : ℕ). m ≤ k) (sym count) within))

-- HEADS

-- A script that fits gives no more nodes than there are shelves.
pub nodes_within : (count : ℕ) (script : List ScriptLine) (head : Head) → ScriptFits count script → Some head ≡ head_of script → head.nodes ≤ count
nodes_within count script head f e =
    subst (λ (h : Head). h.nodes ≤ count) (sym (same_Some head (record { nodes = f.nodes; seed = f.seed }) (e ∙ ap head_of f.parts))) f.shelved

all_count : {A : Type 0} (n : ℕ) (old new : List A) → length new ≡ n → n ≤ length old → length (new ++ drop n old) ≡ length old
all_count n old new e h = omega (arith, length-append new (drop n old), length-drop n old, e, h)

pub count_so : {A : Type 0} (n : ℕ) (old new : List A) → length new ≡ length (take n old) → n ≤ length old → length new ≡ n
count_so n old new e h = omega (arith, e, length-take n old, h)

-- PLAYS

module _ {S D R I O : Type 0} (s : shelves.Ghosts S D) (d : files.Ghosts D) (r : roads.Ghosts R I O) where
  pub played_front : (script : List ScriptLine) (head : Head) (old new : List S) (road : R) (p : Played) → head_of script ≡ Some head → length new ≡ head.nodes → IsClosed s d r script (take head.nodes old) new road p → IsPlayed s d r script old (new ++ drop head.nodes old) road p
  played_front script head old new road p is count closed = record {
    head = head;
    head_is = is;
    closed = subst (λ (xs : List S). IsClosed s d r script (take head.nodes old) xs road p) (sym (take_front head.nodes new (drop head.nodes old) count)) closed;
    others = beyond head.nodes old new count;
  }

  pub leaves_front : (head : Head) (old new : List S) → length new ≡ head.nodes → head.nodes ≤ length old → EachShelf (LendsNoMore s) (take head.nodes old) new → LeavesShelves s old (new ++ drop head.nodes old) head
  leaves_front head old new count few h = record {
    lent = up_to_all (LendsNoMore s) head.nodes old (new ++ drop head.nodes old) up (λ x n e. e);
    others = beyond head.nodes old new count;
  }
    where
      up : UpTo (λ _. LendsNoMore s) head.nodes old (new ++ drop head.nodes old)
      up = record { count = all_count head.nodes old new count few; done = front_done (LendsNoMore s) head.nodes old new count h; rest = beyond head.nodes old new count }

  -- a cause among the first shelves
  pub cause_front : (script : List ScriptLine) (head : Head) (old new : List S) (road road' : R) (why : RunFault) → head_of script ≡ Some head → length new ≡ head.nodes → HasCause s r (take head.nodes old) new road road' why → HasUsedCause s r script old (new ++ drop head.nodes old) road road' why
  cause_front script head old new road road' why is count cause = λ other so.
      subst (λ (h : Head). HasCause s r (take h.nodes old) (take h.nodes (new ++ drop head.nodes old)) road road' why) (same_Some head other (sym is ∙ so))
      (subst (λ (xs : List S). HasCause s r (take head.nodes old) xs road road' why) (sym (take_front head.nodes new (drop head.nodes old) count)) cause)
