-- A node's books are closed, its shelf is scanned, and the books of what was found are made.
use Rattle.std.proofs.Common.{◌≡◌, ◌<◌, ◌≤◌, ◌+◌, ◌-◌, ◌^◌, ℕ, Bool, true, false, List, length, take, slice_get, Option, Some, None, option_map, IfSome, IsSome, refl, sym, ap, subst, ◌∙◌, arith, eqb-true}
use Rattle.std.specs.Prelude.{◌||◌, ◌&&◌, not, min, Result, Ok, Err, IfOk, IfErr, OnErr}
use Rattle.std.proofs.lemmas.List.{take_all}
use Rattle.hd_base.specs.Blocks.{block_of as number_of, is_of_block, is_this}
use Rattle.hd_base.specs.Faults.{CarriesFaults}
use Rattle.hd_base.specs.FileMaps.{FileMap, no_files, part_of}
use Rattle.hd_base.specs.declared.files.Files as files
use Rattle.hd_base.specs.declared.numbers.BlockId.{BlockId}
use Rattle.hd_base.specs.declared.shelves.Shelf as shelves
use Rattle.node_opening.proofs.PlayNodes.PlaceLaws.{element_within}
use Rattle.node_opening.proofs.PlayNodes.Tables.{element}
use Rattle.replica_files.specs.declared.book_state.BookState.{BookState}
use Rattle.replica_files.specs.Books.{replica_of}
use Rattle.replica_model.specs.Found.{Found as ReplicaFound}
use Rattle.restart_scan.specs.declared.faults.ScanFault.{ScanFault}
use Rattle.restart_scan.specs.declared.faults.ScanFault.TheVariants as scan
use Rattle.restart_scan.specs.declared.found.Found.{Found}
use Rattle.restart_scan.specs.declared.found.Seen.{Seen}
use Rattle.restart_scan.specs.Faults.{ScansFor}
use Rattle.restart_scan.specs.Restarts.{Shows}
use Rattle.restart_scan.specs.Shelves.{WhereTold, StaysUntold, ScansShelf, LendsNoMore as KeepsLent}
use Rattle.node_opening.specs.World.Restarts.{replica_found}
use Rattle.node_opening.specs.Closing.{block_of, blocks_of, files_with, AreLentOut, AreOf, NodeCloses}
use Rattle.node_opening.specs.Shelves.{is_among, LendsNoMore}
use Rattle.node_opening.proofs.CloseLemmas.{block_at, same_eqb}
use Rattle.node_restarts.specs.declared.faults.RestartFault.{RestartFault}
use Rattle.node_restarts.specs.Closing.{HaveNumbers}
use Rattle.node_restarts.specs.Faults.{of_scan, HasRestartCause}
use Rattle.node_restarts.specs.Lending.{HasFound, IsUnmade, rest_after}
use Rattle.node_restarts.specs.Making.{AllHeld, IsBookFor, seen_in}
use Rattle.node_restarts.specs.Restarting.{TellAll, IsRestarted, StandsAgain, HasRestarted, AreGivenUp}
use Rattle.node_restarts.specs.Seeking.{is_sought, sought_of, found_of}
use Rattle.node_restarts.proofs.BesideLemmas.{AreOwn, books_own, all_told, part_held, only_theirs}
use Rattle.node_restarts.proofs.FoundLemmas.{one_restarted}
use Rattle.node_restarts.proofs.LendingLemmas.{later_cause}
use Rattle.node_restarts.proofs.RestLemmas.{nothing_left}
use Rattle.node_restarts.proofs.SeekingLemmas.{found_sought, found_unsought, found_held}
use Rattle.node_restarts.proofs.ScannedLemmas.{IsScannedAt, scanned_at, only_after}

true_false : true ≡ false → ⊥
true_false e = cc

-- FAULTS

up : (p q r : ℕ) → p ≤ q → q ≤ r → p ≤ r
up p q r h k = omega (arith, h, k)

pub carried_on : (a more b c : ℕ) → CarriesFaults a more b → b ≤ c → CarriesFaults a more c
carried_on a more b c k h = record { never_falls = up a b c k.never_falls h; counted = up (min (a + more) (2 ^ 64 - 1)) b c k.counted h }

scan_caused : {T : Type 0} (b c : ℕ) (why : ScanFault) → ScansFor {T = T} b c (Err why) → HasRestartCause b c (of_scan why)
scan_caused b c scan.File h = h.file refl
scan_caused b c scan.Memory h = tt

pub scan_cause : {T : Type 0} (a b c : ℕ) (why : ScanFault) (fault : RestartFault) → a ≤ b → ScansFor {T = T} b c (Err why) → fault ≡ of_scan why → HasRestartCause a c fault
scan_cause {T} a b c why fault below h e =
    subst (HasRestartCause a c) (sym e) (later_cause a b c c (of_scan why) below (same c) (scan_caused {T = T} b c why h))
  where
    same : (n : ℕ) → n ≤ n
    same n = omega arith

pub lend_cause : {S D : Type 0} (s : shelves.Ghosts S D) (a b c e : S) (why : RestartFault) → s.faults a ≤ s.faults b → s.faults b ≤ s.faults c → IsUnmade s c e why → HasRestartCause (s.faults a) (s.faults e) why
lend_cause s a b c e why h k u = later_cause (s.faults a) (s.faults c) (s.faults e) (s.faults e) why (up (s.faults a) (s.faults b) (s.faults c) h k) (same (s.faults e)) u.cause
  where
    same : (n : ℕ) → n ≤ n
    same n = omega arith

-- WHAT IS SHOWN

-- Where nothing was listed, nothing is shown.
shows_none : (m : FileMap) (o : Option ReplicaFound) → Shows m None o → o ≡ None
shows_none m None h = refl
shows_none m (Some f) h = absurd h

-- RESULTS

pub if_ok_map : {T E : Type 0} (r : Result T E) (P Q : T → Type 0) → ((x : T) → P x → Q x) → IfOk r P → IfOk r Q
if_ok_map (Ok x) P Q f p = f x p
if_ok_map (Err e) P Q f p = tt

pub on_err_map : {T E : Type 0} (r : Result T E) (P : E → Type 0) (X : Type 0) → ((e : E) → P e → X) → IfErr r P → OnErr r X
on_err_map (Ok x) P X f p = tt
on_err_map (Err e) P X f p = f e p

pub if_err_map : {T E : Type 0} (r : Result T E) (P Q : E → Type 0) → ((e : E) → P e → Q e) → IfErr r P → IfErr r Q
if_err_map (Ok x) P Q f p = tt
if_err_map (Err e) P Q f p = f e p

-- LENT BLOCKS

out_false : (p q : Bool) → q ≡ true → (p && not q) ≡ false
out_false true true h = refl
out_false false true h = refl
out_false p false h = cc

and_left : (p q : Bool) → p ≡ false → (p && not q) ≡ false
and_left true q h = cc
and_left false q h = refl

or_true : (p q r : Bool) → p ≡ (q || r) → q ≡ true → p ≡ true
or_true p true r e h = e
or_true p false r e h = cc

or_false : (p q r : Bool) → p ≡ (q || r) → q ≡ false → r ≡ false → p ≡ false
or_false p true r e h k = cc
or_false p false r e h k = e ∙ k

still_false : (p q : Bool) → (p ≡ true → q ≡ true) → q ≡ false → p ≡ false
still_false true q h e = absurd (true_false (sym (h refl) ∙ e))
still_false false q h e = refl

pub front_lent : {S D : Type 0} (s : shelves.Ghosts S D) (a : S) (blocks : List BlockId) (n : ℕ) → n ≡ length blocks → AreLentOut s a blocks → AreLentOut s a (take n blocks)
front_lent s a blocks n e l = subst (λ (bs : List BlockId). AreLentOut s a bs) (sym (take_all n blocks (least n (length blocks) e))) l
  where
    least : (p q : ℕ) → p ≡ q → q ≤ p
    least p q h = omega (arith, h)

module _ {S D : Type 0} (s : shelves.Ghosts S D) (d : files.Ghosts D) (blocks : List BlockId) (books : List (BookState D)) (a b : S) (count : length books ≡ length blocks) (out : AreLentOut s a blocks) (close : NodeCloses s d blocks books a b) where
  all_blocks : take (length books) blocks ≡ blocks
  all_blocks = take_all (length books) blocks (least (length books) (length blocks) count)
    where
      least : (p q : ℕ) → p ≡ q → q ≤ p
      least p q h = omega (arith, h)

  closed_lent : (y : ℕ) → s.lent b y ≡ s.lent a y && not (is_among blocks y)
  closed_lent y = close.lent y ∙ ap (λ (bs : List BlockId). s.lent a y && not (is_among bs y)) all_blocks

  -- None of the blocks is lent once the books are closed, nor after a scan.
  none_lent : (c : S) → KeepsLent (s.lent b) (s.lent c) → (y : ℕ) → is_among blocks y ≡ true → s.lent c y ≡ false
  none_lent c keeps y among = still_false (s.lent c y) (s.lent b y) (keeps y) (closed_lent y ∙ out_false (s.lent a y) (is_among blocks y) among)

  none_more : (c : S) → KeepsLent (s.lent b) (s.lent c) → LendsNoMore s a c
  none_more c keeps y none = still_false (s.lent c y) (s.lent b y) (keeps y) (closed_lent y ∙ and_left (s.lent a y) (is_among blocks y) none)

  pub scan_gives_up : (c : S) → KeepsLent (s.lent b) (s.lent c) → AreGivenUp s blocks a c
  scan_gives_up c keeps = record { none = none_lent c keeps; no_more = none_more c keeps }

  pub lending_gives_up : (c e : S) (why : RestartFault) → KeepsLent (s.lent b) (s.lent c) → IsUnmade s c e why → AreGivenUp s blocks a e
  lending_gives_up c e why keeps u = record {
    none = λ y among. u.no_more y (none_lent c keeps y among);
    no_more = λ y none. u.no_more y (none_more c keeps y none);
  }

  module _ (of : AreOf blocks books) (numbers : HaveNumbers books) (found : Found) where
    own : AreOwn d books
    own = books_own d blocks books out.distinct count of close.held

    -- What the shelf has between.
    record Between (c : S) : Type 0 where
      before : FileMap
      after : FileMap
      closed : files_with d (Some no_files) books ≡ Some before
      left : s.files c ≡ Some after
      scans : ScansShelf before after found

    told_by : (o : Option FileMap) → IsSome o → (m : FileMap) × (o ≡ Some m)
    told_by None h = cc
    told_by (Some m) h = (m, refl)

    between : (c : S) → WhereTold (s.files b) (s.files c) (λ m n. ScansShelf m n found) → TellAll s d a books → Between c
    between c scans t =
        let told = told_by (files_with d (Some no_files) books) (all_told d (Some no_files) books refl t.each) in
        let there : s.files b ≡ Some told.0 = close.files_are of ∙ (ap (λ (f : Option FileMap). files_with d f books) t.empty ∙ told.1) in
        let so = subst (λ (o : Option FileMap). WhereTold o (s.files c) (λ m n. ScansShelf m n found)) there scans in
        record { before = told.0; after = so.0; closed = told.1; left = so.1; scans = so.2 }

    same_blocks : (made : List (BookState D)) (place : ℕ) (x y : BookState D) → blocks_of made ≡ blocks → slice_get books place ≡ Some x → slice_get made place ≡ Some y → block_of y ≡ block_of x
    same_blocks made place x y are at at' =
        let here : slice_get blocks place ≡ Some (block_of y) = sym (ap (λ (bs : List BlockId). slice_get bs place) are) ∙ block_at made place y at' in
        sym (of place (block_of y) x here at)

    -- What was found of the blocks that the restart looks for.
    abbrev sought : List Seen
    sought = found_of (sought_of books) found.replicas.items

    -- The book that was made of what was sought of an old one's block.
    made_for : (c e : S) (made : List (BookState D)) → HasFound s d blocks sought c e made → (w : Between c) → (place : ℕ) (x y : BookState D) → slice_get books place ≡ Some x → slice_get made place ≡ Some y
        → IsBookFor d (block_of x) (seen_in sought (block_of x)) (Some (part_of (block_of x).0 w.after)) y
    made_for c e made h w place x y at at' =
        let q = block_of x in
        subst (λ (f : Option FileMap). IsBookFor d q (seen_in sought q) f y) (ap (option_map (part_of q.0)) w.left)
        (subst (λ (z : BlockId). IsBookFor d z (seen_in sought z) (option_map (part_of z.0) (s.files c)) y) (same_blocks made place x y h.blocks_are at at') (h.each place y at'))

    sought_restarted : (c : S) → (w : Between c) → (place : ℕ) (x y : BookState D) → slice_get books place ≡ Some x → is_sought x ≡ true → IsBookFor d (block_of x) (seen_in sought (block_of x)) (Some (part_of (block_of x).0 w.after)) y → IsRestarted d x y
    sought_restarted c w place x y at so i =
        let q = block_of x in
        let sc : IsScannedAt w.before w.after found.replicas.items q = scanned_at w.before w.after found w.scans q in
        one_restarted d x y (part_of q.0 w.before) (part_of q.0 w.after) sc.x (close.held place x at) (numbers place x at)
        (part_held d books w.before place x own w.closed at) sc.scans
        (subst (λ (o : Option Seen). IsBookFor d q o (Some (part_of q.0 w.after)) y) (found_sought books found.replicas.items place x at so ∙ sc.seen) i)

    unsought_absent : (c : S) → (w : Between c) → (place : ℕ) (x y : BookState D) → slice_get books place ≡ Some x → is_sought x ≡ false → IsBookFor d (block_of x) (seen_in sought (block_of x)) (Some (part_of (block_of x).0 w.after)) y
        → replica_of y ≡ replica_found (block_of x).0 None
    unsought_absent c w place x y at so i =
        let q = block_of x in
        let j = subst (λ (o : Option Seen). IsBookFor d q o (Some (part_of q.0 w.after)) y) (found_unsought books found.replicas.items place x at own.distinct so) i in
        j.is ∙ ap (replica_found q.0) (shows_none (part_of q.0 w.after) j.found j.shows)

    each_again : (c e : S) (made : List (BookState D)) → HasFound s d blocks sought c e made → Between c → (place : ℕ) (x y : BookState D) → slice_get books place ≡ Some x → slice_get made place ≡ Some y → StandsAgain d (is_sought x) x y
    each_again c e made h w place x y at at' = by (is_sought x) refl
      where
        by : (t : Bool) → is_sought x ≡ t → StandsAgain d t x y
        by true so = sought_restarted c w place x y at so (made_for c e made h w place x y at at')
        by false so = unsought_absent c w place x y at so (made_for c e made h w place x y at at')

    -- All files were of the blocks, and so they are after the scan.
    only_blocks : (c : S) (w : Between c) (name : List ℕ) → ((k : ℕ) (z : BlockId) → slice_get blocks k ≡ Some z → is_of_block z.0 name ≡ false) → w.after name ≡ None
    only_blocks c w name none =
        only_after w.before w.after found w.scans (λ n. (k : ℕ) × (z : BlockId) × (slice_get blocks k ≡ Some z) × (z.0 ≡ n)) name
        (λ other n e apart. only_theirs d books w.before other own w.closed (λ k x at. not_theirs other n e apart k x at))
        (λ n e h. ours n e h.0 h.1 h.2 h.3)
        (only_theirs d books w.before name own w.closed (λ k x at. let z = at_place k x at in subst (λ (q : BlockId). is_of_block q.0 name ≡ false) (sym (of k z.0 x z.1 at)) (none k z.0 z.1)))
      where
        at_place : (k : ℕ) (x : BookState D) → slice_get books k ≡ Some x → (z : BlockId) × (slice_get blocks k ≡ Some z)
        at_place k x at = element blocks k (subst (λ (n : ℕ). k < n) count (element_within books k x at))

        not_of : (p n : ℕ) (o : Option ℕ) → o ≡ Some n → (t : Bool) → is_this p o ≡ t → (p ≡ n → ⊥) → is_this p o ≡ false
        not_of p n o e true f apart = absurd (apart (sym (eqb-true n p (ap (is_this p) (sym e) ∙ f))))
        not_of p n o e false f apart = f

        not_theirs : (other : List ℕ) (n : ℕ) → number_of other ≡ Some n → (((k : ℕ) × (z : BlockId) × (slice_get blocks k ≡ Some z) × (z.0 ≡ n)) → ⊥) → (k : ℕ) (x : BookState D) → slice_get books k ≡ Some x → is_of_block (block_of x).0 other ≡ false
        not_theirs other n e apart k x at =
            let z = at_place k x at in
            not_of (block_of x).0 n (number_of other) e (is_of_block (block_of x).0 other) refl
            (λ same. apart (k, z.0, z.1, sym (ap (λ (q : BlockId). q.0) (of k z.0 x z.1 at)) ∙ same))

        ours : (n : ℕ) → number_of name ≡ Some n → (k : ℕ) (z : BlockId) → slice_get blocks k ≡ Some z → z.0 ≡ n → ⊥
        ours n e k z at same =
            true_false (sym (same_eqb n) ∙ (ap (is_this n) (sym e) ∙ (ap (λ (p : ℕ). is_of_block p name) (sym same) ∙ none k z at)))

    nothing_after : (c : S) (w : Between c) → rest_after blocks w.after ≡ no_files
    nothing_after c w = nothing_left blocks w.after (λ name none. only_blocks c w name none)

    is_some : (o : Option FileMap) (m : FileMap) → o ≡ Some m → IsSome o
    is_some o m e = subst (λ (q : Option FileMap). IsSome q) (sym e) refl

    told_again : (c e : S) (made : List (BookState D)) → HasFound s d blocks sought c e made → Between c → TellAll s d e made
    told_again c e made h w = record {
      empty = h.rest ∙ (ap (option_map (rest_after blocks)) w.left ∙ ap Some (nothing_after c w));
      each = λ k y at. is_some (d.files y.drawer) (part_of (block_of y).0 w.after) ((h.each k y at).files_are ∙ ap (option_map (part_of (block_of y).0)) w.left);
    }

    pub has_restarted : (c e : S) (made : List (BookState D)) → KeepsLent (s.lent b) (s.lent c) → WhereTold (s.files b) (s.files c) (λ m n. ScansShelf m n found) → HasFound s d blocks (found_of (sought_of books) found.replicas.items) c e made → HasRestarted s d blocks books a e made
    has_restarted c e made keeps scans h = record {
      blocks_are = h.blocks_are;
      lent = record { distinct = out.distinct; lent = λ y m. or_true (s.lent e y) (is_among blocks y) (s.lent c y) (h.lent y) m };
      no_more = λ y none. again y none (is_among blocks y) refl;
      each = λ t place x y at at'. each_again c e made h (between c scans t) place x y at at';
      told = λ t. told_again c e made h (between c scans t);
    }
      where
        again : (y : ℕ) → s.lent a y ≡ false → (t : Bool) → is_among blocks y ≡ t → s.lent e y ≡ false
        again y none true m = absurd (true_false (sym (out.lent y m) ∙ none))
        again y none false m = or_false (s.lent e y) (is_among blocks y) (s.lent c y) (h.lent y) m (none_more c keeps y none)

-- The files that a scan leaves hold all that it found of some blocks, where they are told.
held_all : (f g : Option FileMap) (found : Found) → WhereTold f g (λ m n. ScansShelf m n found) → StaysUntold f g → IfSome g (AllHeld found.replicas.items)
held_all None g found scans untold = subst (λ (o : Option FileMap). IfSome o (AllHeld found.replicas.items)) (sym (untold refl)) tt
held_all (Some m) g found scans untold = subst (λ (o : Option FileMap). IfSome o (AllHeld found.replicas.items)) (sym scans.1) (λ seen at. scans.2.held seen at)

pub held_after : (f g : Option FileMap) (found : Found) (blocks : List BlockId) → WhereTold f g (λ m n. ScansShelf m n found) → StaysUntold f g → IfSome g (AllHeld (found_of blocks found.replicas.items))
held_after f g found blocks scans untold = found_held blocks found.replicas.items g (held_all f g found scans untold)
