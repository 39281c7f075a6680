-- Shelves stay where the nodes of a play keep their sizes, and the causes of faults.
use Rattle.std.proofs.Common.{◌≡◌, ◌≤◌, ◌<◌, inl, inr, ℕ, zero, suc, List, [], ◌∷◌, drop, length, slice_get, Some, Result, Ok, Err, refl, sym, ap, ◌∙◌, subst, arith}
use Rattle.std.proofs.lemmas.Option.{same_Some}
use Rattle.hd_base.specs.declared.files.Files as files
use Rattle.hd_base.specs.declared.links.LinkIn as link_in
use Rattle.hd_base.specs.declared.links.LinkOut as link_out
use Rattle.hd_base.specs.declared.numbers.BlockId.{BlockId}
use Rattle.hd_base.specs.declared.numbers.NodeId.{NodeId}
use Rattle.hd_base.specs.declared.roads.Roads as roads
use Rattle.hd_base.specs.declared.shelves.Shelf as shelves
use Rattle.play_scripts.specs.PlayNodes.NodeBooks.{NodeBooks}
use Rattle.play_scripts.specs.PlayNodes.Nodes.{Nodes}
use Rattle.play_scripts.specs.PlayNodes.Places.{book_counts, KeepsSizes}
use Rattle.play_scripts.specs.NodeOpening.Emptiness.{ShelfRose}
use Rattle.play_scripts.specs.NodeOpening.Laws.{NeverFell, StandingClose}
use Rattle.play_scripts.proofs.NodeOpening.ListenLemmas.{rose_after}
use Rattle.play_scripts.proofs.PlayNodes.PlaceLaws.{element_within}
use Rattle.play_scripts.specs.NodeOpening.Shelves.{AreDistinct}
use Rattle.play_scripts.specs.NodeOpening.Standing.{ShelfStands, ShelvesStand, AllLentOut, ShelvesStay}
use Rattle.play_opening.specs.Play.PlayFault.{PlayFault}
use Rattle.play_opening.specs.Play.PlayFault.TheVariants as fault
use Rattle.play_lines.specs.declared.playing.Playing.{Playing}
use Rattle.play_lines.specs.Drawing.{IsCaused}
use Rattle.play_lines.specs.Shelves.{ShelvesServe, ShelvesGoOn, IsLineFault}
use Rattle.play_lines.proofs.Runs.{caused_from}

-- SIZES

pub length_counts : {D : Type 0} (xs : List (NodeBooks D)) → length (book_counts xs) ≡ length xs
length_counts [] = refl
length_counts (x ∷ xs) = ap suc (length_counts xs)

-- A node stood at the place before, with as many books.
record Sized {D : Type 0} (xs : List (NodeBooks D)) (k : ℕ) (y : NodeBooks D) : Type 0 where
  x : NodeBooks D
  at : slice_get xs k ≡ Some x
  size : length y.books.items ≡ length x.books.items

size_at : {D : Type 0} (xs ys : List (NodeBooks D)) (k : ℕ) (y : NodeBooks D) → book_counts ys ≡ book_counts xs → slice_get ys k ≡ Some y → Sized xs k y
size_at xs [] k y e at = cc
size_at [] (z ∷ ys) k y e at = cc
size_at {D} (x ∷ xs) (z ∷ ys) zero y e at = record {
  x = x;
  at = refl;
  size = ap (λ (a : NodeBooks D). length a.books.items) (sym (same_Some z y at)) ∙ same_Some (length z.books.items) (length x.books.items) (ap (λ (ns : List ℕ). slice_get ns 0) e);
}
size_at (x ∷ xs) (z ∷ ys) (suc k) y e at =
    let t = size_at xs ys k y (ap (λ (ns : List ℕ). drop 1 ns) e) at in
    record { x = t.x; at = t.at; size = t.size }

not_less : (n : ℕ) → n ≤ n
not_less n = omega arith

-- the element at a place that is there
pub record There {A : Type 0} (xs : List A) (k : ℕ) : Type 0 where
  pub x : A
  pub at : slice_get xs k ≡ Some x

pub there : {A : Type 0} (xs : List A) (k : ℕ) → k < length xs → There xs k
there [] k h = absurd (none h)
  where
    none : k < 0 → ⊥
    none h = omega (arith, h)
there (x ∷ xs) zero h = record { x = x; at = refl }
there (x ∷ xs) (suc k) h =
    let t = there xs k (less h) in
    record { x = t.x; at = t.at }
  where
    less : suc k < suc (length xs) → k < length xs
    less h = omega (arith, h)

module _ {S D I O : Type 0} (s : shelves.Ghosts S D) (d : files.Ghosts D) where
  stand_sizes : (before now : List S) (n n' : Nodes D I O) → KeepsSizes n n' → ShelvesStand s before now n → ShelvesStand s before now n'
  stand_sizes before now n n' k h = record {
    count = h.count;
    nodes = sym (length_counts n'.nodes.items) ∙ (ap (λ (ns : List ℕ). length ns) k.books ∙ (length_counts n.nodes.items ∙ h.nodes));
    distinct = subst (λ (bs : List BlockId). AreDistinct bs) (sym k.blocks) h.distinct;
    each = λ j a b x at at' found.
        let z = size_at n.nodes.items n'.nodes.items j x k.books found in
        subst (λ (bs : List BlockId). ShelfStands s bs (length x.books.items) a b) (sym k.blocks) (subst (λ (m : ℕ). ShelfStands s n.blocks.items m a b) (sym z.size) (h.each j a b z.x at at' z.at));
  }

  lent_sizes : (now : List S) (n n' : Nodes D I O) → KeepsSizes n n' → AllLentOut s now n → AllLentOut s now n'
  lent_sizes now n n' k h = record {
    books = λ j x found.
        let z = size_at n.nodes.items n'.nodes.items j x k.books found in
        z.size ∙ (h.books j z.x z.at ∙ ap (λ (bs : List BlockId). length bs) (sym k.blocks));
    empty = h.empty;
  }

  serve_sizes : (now : List S) (x y : Playing D I O) → KeepsSizes x.player.nodes y.player.nodes → ShelvesServe s now x → ShelvesServe s now y
  serve_sizes now x y k h = record {
    before = h.before;
    stand = stand_sizes h.before now x.player.nodes y.player.nodes k h.stand;
    lent = lent_sizes now x.player.nodes y.player.nodes k h.lent;
    few = h.few;
  }

  -- Where the nodes keep their sizes, and the shelves are the same, all goes on.
  pub go_on : {E : Type 0} (now : List S) (x y : Playing D I O) (result : Result (Unit {0}) E) → KeepsSizes x.player.nodes y.player.nodes → ShelvesServe s now x → ShelvesGoOn s now now x y result
  go_on now x y (Ok u) k h = record { stay = λ before. stand_sizes before now x.player.nodes y.player.nodes k; blocks = k.blocks; serve = serve_sizes now x y k h }
  go_on now x y (Err why) k h = record { stay = λ before. stand_sizes before now x.player.nodes y.player.nodes k; blocks = k.blocks; serve = tt }

  -- Shelves stand for themselves.
  pub stand_self : (before now : List S) (n : Nodes D I O) → ShelvesStand s before now n → ShelvesStand s now now n
  stand_self before now n h = record {
    count = refl;
    nodes = h.nodes ∙ sym h.count;
    distinct = h.distinct;
    each = λ k a b x at at' found.
        let was = there before k (subst (λ (m : ℕ). k < m) h.count (element_within now k b at')) in
        let z = h.each k was.x b x was.at at' found in
        subst (λ (y : S). ShelfStands s n.blocks.items (length x.books.items) y b) (same_Some b a (sym at' ∙ at)) (record { within = z.within; lent = z.lent; no_more = λ q none among. none; never_falls = not_less (s.faults b) });
  }

  -- One after the other.
  pub go_after : {E : Type 0} (old mid new : List S) (x y z : Playing D I O) (result : Result (Unit {0}) E) → ShelvesStay s old mid x.player.nodes y.player.nodes → y.player.nodes.blocks.items ≡ x.player.nodes.blocks.items → ShelvesGoOn s mid new y z result → ShelvesGoOn s old new x z result
  go_after old mid new x y z result stay blocks g = record { stay = λ before h. g.stay before (stay before h); blocks = g.blocks ∙ blocks; serve = g.serve }

  pub go_failed : {E : Type 0} (old mid new : List S) (x y z : Playing D I O) (why : E) (result : Result (Unit {0}) E) → result ≡ Err why → ShelvesStay s old mid x.player.nodes y.player.nodes → y.player.nodes.blocks.items ≡ x.player.nodes.blocks.items → ShelvesGoOn {E = E} s mid new y z (Err why) → ShelvesGoOn s old new x z result
  go_failed {E} old mid new x y z why result is stay blocks g = subst (λ (q : Result (Unit {0}) E). ShelvesGoOn s old new x z q) (sym is) (go_after old mid new x y z (Err why) stay blocks g)

  -- There are as many as before.
  pub as_many : (old new : List S) (x y : Playing D I O) → ShelvesServe s old x → ShelvesStay s old new x.player.nodes y.player.nodes → length new ≡ length old
  as_many old new x y h stay = (stay h.before h.stand).count ∙ sym h.stand.count

  -- No count falls.
  pub fell_not : StandingClose S D I O s d → (old new : List S) (x y : Playing D I O) → ShelvesServe s old x → ShelvesStay s old new x.player.nodes y.player.nodes → NeverFell s old new
  fell_not close old new x y h stay = (close old new y.player.nodes (stay old (stand_self h.before old x.player.nodes h.stand))).never_fell

-- FAULTS

module _ {S F R I O : Type 0} (s : shelves.Ghosts S F) (f : files.Ghosts F) (r : roads.Ghosts R I O) (i : link_in.Ghosts I) (o : link_out.Ghosts O) where
  pub line_fault : (new : Playing F I O) (road road' : R) (shelves shelves' : List S) (why : PlayFault) → IsCaused f r new road road' why → IsLineFault s f r shelves shelves' new road road' why
  line_fault new road road' shelves shelves' fault.RoadFault c = c
  line_fault new road road' shelves shelves' (fault.ShelfFault node) c = inl c
  line_fault new road road' shelves shelves' fault.Memory c = tt

  -- a shelf whose count rose later has a count that rose
  rose_from : (shelves shelves' shelves'' : List S) (node : NodeId) → NeverFell s shelves shelves' → ShelfRose s shelves' shelves'' node → ShelfRose s shelves shelves'' node
  rose_from shelves shelves' shelves'' node fell rose =
      let a = there shelves node.0 (subst (λ (n : ℕ). node.0 < n) fell.count (element_within shelves' node.0 rose.before rose.was)) in
      record {
        before = a.x;
        after = rose.after;
        was = a.at;
        is = rose.is;
        so = rose_after (s.faults a.x) (s.faults rose.before) (s.faults rose.after) (fell.each node.0 a.x rose.before a.at rose.was) rose.so;
      }

  pub fault_from : (new : Playing F I O) (first road road' : R) (shelves shelves' shelves'' : List S) (why : PlayFault) → r.faults first ≤ r.faults road → NeverFell s shelves shelves' → IsLineFault s f r shelves' shelves'' new road road' why → IsLineFault s f r shelves shelves'' new first road' why
  fault_from new first road road' shelves shelves' shelves'' fault.RoadFault h fell c = caused_from f r i o new first road road' fault.RoadFault h c
  fault_from new first road road' shelves shelves' shelves'' (fault.ShelfFault node) h fell (inl c) = inl c
  fault_from new first road road' shelves shelves' shelves'' (fault.ShelfFault node) h fell (inr c) = inr (rose_from shelves shelves' shelves'' node fell c)
  fault_from new first road road' shelves shelves' shelves'' fault.Memory h fell c = tt
