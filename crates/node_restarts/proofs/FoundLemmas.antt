-- What a restart finds of one book.
use Rattle.std.proofs.Common.{◌≡◌, inl, inr, ℕ, Bool, true, false, cond, List, take, Option, Some, None, IfSome, IsSome, refl, sym, ap, subst, ◌∙◌, arith}
use Rattle.std.specs.Prelude.{if◌then◌else◌}
use Rattle.std.proofs.lemmas.List.{length-take-le}
use Rattle.hd_base.specs.FileMaps.{FileMap}
use Rattle.hd_base.specs.SumRules.{Rule}
use Rattle.hd_base.specs.declared.files.Files as files
use Rattle.hd_base.specs.declared.numbers.BlockId.{BlockId}
use Rattle.hd_base.specs.declared.numbers.Stamp.{Stamp}
use Rattle.hd_base.specs.declared.states.ReplicaState.{ReplicaState}
use Rattle.block_files.specs.Placements.{files_of}
use Rattle.replica_core.specs.declared.info.ReplicaInfo.{ReplicaInfo}
use Rattle.replica_model.specs.Found.{Found, found_whole, MayFind}
use Rattle.replica_model.specs.Plans.{HoldsInfo, placed_under, placement_of}
use Rattle.replica_model.specs.Rows.{FullReplica}
use Rattle.replica_files.specs.declared.book_state.BookState.{BookState}
use Rattle.replica_files.specs.Books.{IsBookOf, replica_of}
use Rattle.replica_files.specs.Breaks.{HoldsWhole}
use Rattle.restart_scan.specs.declared.found.Seen.{Seen}
use Rattle.restart_scan.specs.Blocks.{ScansBlock, ScansPair, state_of}
use Rattle.restart_scan.specs.Laws.{FindsBlock, finds, finds_none, HasNumbers}
use Rattle.restart_scan.specs.Pairs.{Pair, IsPair, is_temporary, without_temporary}
use Rattle.restart_scan.specs.Restarts.{Shows, FindsAllowed}
use Rattle.restart_scan.proofs.FrontLemmas.{has_front}
use Rattle.restart_scan.proofs.WholeLemmas.{whole_replicas_are_found}
use Rattle.node_opening.specs.World.Parts.{Break}
use Rattle.node_opening.specs.World.Restarts.{may_find, replica_found, restarted, whole_found}
use Rattle.node_opening.proofs.WorldLaws.FoundLaws.{may-find-exact}
use Rattle.node_opening.specs.Closing.{block_of}
use Rattle.node_restarts.specs.Making.{IsBookFor}
use Rattle.node_restarts.specs.Restarting.{HasNoPair, IsUnbroken, BrokeIn, StandsAs, IsRestarted}
use Rattle.node_restarts.proofs.MakingLemmas.{same_bytes}
use Rattle.node_restarts.proofs.LendingLemmas.{own_block}
use Rattle.node_restarts.proofs.ScannedLemmas.{Scan}

true_false : true ≡ false → ⊥
true_false e = cc

-- WHAT IS SHOWN

abbrev found_as_is : ReplicaState → Stamp → Rule → List ℕ → Found
found_as_is at stamp sums bytes = record { state = at; stamp = stamp; sums = sums; bytes = bytes }

same_found : (f g : Found) → f.state ≡ g.state → f.stamp ≡ g.stamp → f.sums ≡ g.sums → f.bytes ≡ g.bytes → f ≡ g
same_found f g a s r v =
    ap (λ (q : ReplicaState). found_as_is q f.stamp f.sums f.bytes) a
    ∙ (ap (λ (q : Stamp). found_as_is g.state q f.sums f.bytes) s
    ∙ (ap (λ (q : Rule). found_as_is g.state g.stamp q f.bytes) r
    ∙ ap (λ (q : List ℕ). found_as_is g.state g.stamp g.sums q) v))

-- One thing alone is shown.
shows_same : (m : FileMap) (o : Option Seen) (f g : Option Found) → Shows m o f → Shows m o g → f ≡ g
shows_same m None None None h k = refl
shows_same m None None (Some g) h k = absurd k
shows_same m None (Some f) g h k = absurd h
shows_same m (Some s) None g h k = absurd h
shows_same m (Some s) (Some f) None h k = absurd k
shows_same m (Some s) (Some f) (Some g) h k =
    ap Some (same_found f g (sym h.state ∙ k.state) (sym h.stamp ∙ k.stamp) (sym h.sums ∙ k.sums)
    (same_bytes m s.block s.state s.stamp s.sums f.bytes g.bytes h.held k.held))

abbrev pair_found : Pair → ℕ → Found
pair_found p len = record { state = state_of p; stamp = p.places.stamp; sums = p.rule; bytes = take len p.bytes }

shows_pair : (block : BlockId) (m left : FileMap) (x : Scan) (s : ScansPair block m left x) → Shows left x.seen (Some (pair_found s.pair s.len))
shows_pair block m left x s =
    let p = s.pair in
    let within = (has_front p.rule p.bytes p.stored s.len (omega (arith, s.is_pair.chunk_fits.least)) s.kept).within in
    subst (λ (o : Option Seen). Shows left o (Some (pair_found p s.len))) (sym (ap (λ (y : Scan). y.seen) s.found))
    (record { state = refl; stamp = refl; sums = refl; all = sym (length-take-le s.len p.bytes within); held = s.held })

shows_others : (left : FileMap) (o : Option Seen) → o ≡ None → Shows left o None
shows_others left o e = subst (λ (q : Option Seen). Shows left q None) (sym e) tt

-- What a scan shows is what is found of the files.
finds_shown : (block : BlockId) (m left : FileMap) (x : Scan) (found : Option Found) → ScansBlock block m left x → Shows left x.seen found → FindsBlock block m found
finds_shown block m left x found (inl s) h =
    subst (FindsBlock block m) (shows_same left x.seen (Some (pair_found s.pair s.len)) found (shows_pair block m left x s) h) (finds s.pair s.len s.is_pair s.kept)
finds_shown block m left x found (inr s) h =
    subst (FindsBlock block m) (shows_same left x.seen None found (shows_others left x.seen (ap (λ (y : Scan). y.seen) s.found)) h) (finds_none s.none)

-- A BOOK THAT ISN'T BROKEN

nothing_found : (block : BlockId) (m : FileMap) (found : Option Found) → ((p : Pair) → IsPair block m p → ⊥) → FindsBlock block m found → found ≡ None
nothing_found block m found none (finds p len is kept) = absurd (none p is)
nothing_found block m found none (finds_none h) = refl

held_placed : (m : FileMap) (block : ℕ) (h : ReplicaInfo) (is_broken : Bool) (bytes : List ℕ) → is_broken ≡ false → HoldsInfo (Some m) block (Some h) is_broken bytes → m ≡ files_of block (placed_under (Some h) bytes)
held_placed m block h true bytes e holds = absurd (true_false e)
held_placed m block h false bytes e holds = holds

module _ {D : Type 0} (d : files.Ghosts D) where
  whole_found_so : (x : BookState D) (m : FileMap) (found : Option Found) → IsBookOf d x → HasNumbers (replica_of x) → IsUnbroken d x → d.files x.drawer ≡ Some m → FindsBlock (block_of x) m found
      → found ≡ found_whole (replica_of x).known.info (replica_of x).bytes
  whole_found_so x m found book numbers u told f =
      by (replica_of x).known.info refl u.no_pair
      (subst (λ (o : Option FileMap). HoldsInfo o (replica_of x).known.block.0 (replica_of x).known.info (replica_of x).known.is_broken (replica_of x).bytes) told book.held.holds)
    where
      by : (o : Option ReplicaInfo) → (replica_of x).known.info ≡ o → HasNoPair d x o → HoldsInfo (Some m) (replica_of x).known.block.0 o (replica_of x).known.is_broken (replica_of x).bytes → found ≡ found_whole (replica_of x).known.info (replica_of x).bytes
      by None e none holds =
          nothing_found (block_of x) m found (subst (λ (o : Option FileMap). IfSome o (λ n. (p : Pair) → IsPair (block_of x) n p → ⊥)) told none) f
          ∙ sym (ap (λ (o : Option ReplicaInfo). found_whole o (replica_of x).bytes) e)
      by (Some h) e none holds =
          let placed : m ≡ files_of (replica_of x).known.block.0 (placement_of (replica_of x)) =
          held_placed m (replica_of x).known.block.0 h (replica_of x).known.is_broken (replica_of x).bytes u.whole holds
          ∙ sym (ap (λ (o : Option ReplicaInfo). files_of (replica_of x).known.block.0 (placed_under o (replica_of x).bytes)) e) in
          whole_replicas_are_found (replica_of x) found book.held.full numbers (subst (λ (n : FileMap). FindsBlock (block_of x) n found) placed f)

  -- A BOOK WHOSE FILES HOLD IT

  spared_found : (x : BookState D) (m : FileMap) (found : Option Found) → IsBookOf d x → HasNumbers (replica_of x) → d.files x.drawer ≡ Some m → FindsBlock (block_of x) m found
      → IsSome (replica_of x).known.info → HoldsWhole (d.files x.drawer) (replica_of x) → found ≡ found_whole (replica_of x).known.info (replica_of x).bytes
  spared_found x m found book numbers told f some whole =
      by (replica_of x).known.info refl some
      (subst (λ (o : Option FileMap). HoldsInfo o (replica_of x).known.block.0 (replica_of x).known.info false (replica_of x).bytes) told whole)
    where
      by : (o : Option ReplicaInfo) → (replica_of x).known.info ≡ o → IsSome o → HoldsInfo (Some m) (replica_of x).known.block.0 o false (replica_of x).bytes → found ≡ found_whole (replica_of x).known.info (replica_of x).bytes
      by None e none holds = absurd (true_false (sym none))
      by (Some h) e there holds =
          let placed : m ≡ files_of (replica_of x).known.block.0 (placement_of (replica_of x)) =
          holds ∙ sym (ap (λ (o : Option ReplicaInfo). files_of (replica_of x).known.block.0 (placed_under o (replica_of x).bytes)) e) in
          whole_replicas_are_found (replica_of x) found book.held.full numbers (subst (λ (n : FileMap). FindsBlock (block_of x) n found) placed f)

  -- IN THE WORLD

  may_find_broken : (x : BookState D) (broke : Break) (m left : FileMap) (y : Scan) (found : Option Found) → d.files x.drawer ≡ Some m → ScansBlock (block_of x) m left y → Shows left y.seen found → BrokeIn d x broke
      → MayFind broke.before (Some broke.event) found
  may_find_broken x broke m left y found told scans shows b =
      let rule : FindsAllowed b.before broke.event m = subst (λ (o : Option FileMap). IfSome o (FindsAllowed b.before broke.event)) told b.leaves in
      let allowed = rule left y (subst (λ (q : BlockId). ScansBlock q m left y) (sym b.of_block) scans) in
      subst (λ (r : FullReplica). MayFind r (Some broke.event) found) b.was
      (subst (λ (o : Option Found). MayFind (replica_of b.before) (Some broke.event) o) (shows_same left y.seen allowed.0 found allowed.1 shows) allowed.2)

  may_find_so : (x : BookState D) (broke : Option Break) (m left : FileMap) (y : Scan) (found : Option Found) → IsBookOf d x → HasNumbers (replica_of x) → d.files x.drawer ≡ Some m → ScansBlock (block_of x) m left y → Shows left y.seen found
      → StandsAs d x broke → may_find (replica_of x) broke found ≡ true
  may_find_so x None m left y found book numbers told scans shows u =
      (may-find-exact (replica_of x) None found).1 (whole_found_so x m found book numbers u told (finds_shown (block_of x) m left y found scans shows))
  may_find_so x (Some broke) m left y found book numbers told scans shows b =
      (may-find-exact (replica_of x) (Some broke) found).1 (may_find_broken x broke m left y found told scans shows b)

  restarted_so : (b : ℕ) (r : FullReplica) (broke : Option Break) (found : Option Found) → may_find r broke found ≡ true → replica_found b found ≡ restarted b r broke found
  unfolding restarted
  restarted_so b r broke found e = sym (ap (λ (t : Bool). replica_found b (if t then found else whole_found r broke)) e)

  -- AFTERWARDS

  whole_after : (b : ℕ) (o : Option Found) → (replica_found b o).known.is_broken ≡ false
  whole_after b None = refl
  whole_after b (Some f) = refl

  twice : (m : FileMap) → without_temporary (without_temporary m) ≡ without_temporary m
  twice m = λ i name. by (is_temporary name) (m name) i
    where
      by : (t : Bool) (o : Option (List ℕ)) → cond t None (cond t None o) ≡ cond t None o
      by true o = refl
      by false o = refl

  -- Where nothing is shown, no pair is left.
  none_left : (block : BlockId) (m left : FileMap) (y : Scan) → ScansBlock block m left y → Shows left y.seen None → (p : Pair) → IsPair block left p → ⊥
  none_left block m left y (inl s) shows p is = some_none (shows_same left y.seen (Some (pair_found s.pair s.len)) None (shows_pair block m left y s) shows)
    where
      some_none : ◌≡◌ {A = Option Found} (Some (pair_found s.pair s.len)) None → ⊥
      some_none e = cc
  none_left block m left y (inr s) shows p is = s.none p (record {
    files_are = sym (ap without_temporary s.left ∙ twice m) ∙ is.files_are;
    chunk_fits = is.chunk_fits;
    places_are = is.places_are;
  })

  no_pair_after : (y : BookState D) (b : BlockId) (m left : FileMap) (x : Scan) (o : Option Found) → block_of y ≡ b → d.files y.drawer ≡ Some left → ScansBlock b m left x → Shows left x.seen o → HasNoPair d y (replica_found b.0 o).known.info
  no_pair_after y b m left x None of told scans shows =
      subst (λ (f : Option FileMap). IfSome f (λ n. (p : Pair) → IsPair (block_of y) n p → ⊥)) (sym told)
      (subst (λ (q : BlockId). (p : Pair) → IsPair q left p → ⊥) (sym of) (none_left b m left x scans shows))
  no_pair_after y b m left x (Some f) of told scans shows = tt

  finds_told : (x : BookState D) (m : FileMap) (found : Option Found) → d.files x.drawer ≡ Some m → FindsBlock (block_of x) m found → IfSome (d.files x.drawer) (λ n. FindsBlock (block_of x) n found)
  finds_told x m found told f = subst (λ (o : Option FileMap). IfSome o (λ n. FindsBlock (block_of x) n found)) (sym told) f

  -- One book has restarted.
  pub one_restarted : (x y : BookState D) (m left : FileMap) (sc : Scan) → IsBookOf d x → HasNumbers (replica_of x) → d.files x.drawer ≡ Some m → ScansBlock (block_of x) m left sc → IsBookFor d (block_of x) sc.seen (Some left) y → IsRestarted d x y
  one_restarted x y m left sc book numbers told scans i = record {
    found = i.found;
    finds = finds_told x m i.found told (finds_shown (block_of x) m left sc i.found scans i.shows);
    is = i.is;
    whole = λ u. whole_found_so x m i.found book numbers u told (finds_shown (block_of x) m left sc i.found scans i.shows);
    spared = λ there holds. spared_found x m i.found book numbers told (finds_shown (block_of x) m left sc i.found scans i.shows) there holds;
    allowed = λ broke stands. may_find_so x broke m left sc i.found book numbers told scans i.shows stands;
    in_world = λ broke stands. i.is ∙ restarted_so (block_of x).0 (replica_of x) broke i.found (may_find_so x broke m left sc i.found book numbers told scans i.shows stands);
    unbroken = record {
      whole = ap (λ (r : FullReplica). r.known.is_broken) i.is ∙ whole_after (block_of x).0 i.found;
      no_pair = subst (λ (r : FullReplica). HasNoPair d y r.known.info) (sym i.is)
          (no_pair_after y (block_of x) m left sc i.found (own_block d (block_of x) sc.seen (Some left) y i) i.files_are scans i.shows);
    };
  }
