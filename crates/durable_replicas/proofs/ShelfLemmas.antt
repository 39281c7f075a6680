-- What a scan of a shelf lists of a replica whose files were synced, after a loss of power.
use Rattle.std.proofs.Common.{◌≡◌, inl, inr, ◌≤◌, length, take, Option, Some, None, refl, sym, ap, subst, arith, List, ℕ}
use Rattle.std.proofs.lemmas.List.{length-take-le}
use Rattle.hd_base.specs.declared.states.ReplicaState.{ReplicaState}
use Rattle.hd_base.specs.declared.numbers.Stamp.{Stamp}
use Rattle.hd_base.specs.declared.numbers.BlockId.{BlockId}
use Rattle.hd_base.specs.SumRules.{Rule}
use Rattle.hd_base.specs.FileMaps.{FileMap, part_of}
use Rattle.replica_model.specs.Found as model
use Rattle.replica_files.specs.Finding.{HoldsBytes}
use Rattle.restart_scan.specs.declared.found.Found.{Found}
use Rattle.restart_scan.specs.Shelves.{ScansShelf}
use Rattle.restart_scan.specs.Blocks.{ScansBlock, state_of}
use Rattle.restart_scan.specs.Laws.{FindsBlock, finds, finds_none}
use Rattle.restart_scan.proofs.FrontLemmas.{has_front}
use Rattle.restart_scan.proofs.AllAgainLemmas.{FoundAt, found_at}
use Rattle.durable_replicas.specs.Fronts.{whole_len}
use Rattle.durable_replicas.specs.Scans.{ListsBytes, ScansKeepChunks, ScansKeepFronts}
use Rattle.durable_replicas.proofs.LawLemmas.{losses_keep_chunks, losses_keep_fronts}

nothing_is : (x : model.Found) → ◌≡◌ {A = Option model.Found} None (Some x) → ⊥
nothing_is x e = cc

some_same : (x y : model.Found) → ◌≡◌ {A = Option model.Found} (Some x) (Some y) → x ≡ y
some_same x y e = cc

-- A replica is found under this rule, with bytes that have this property.
record Finding (r : Rule) (P : List ℕ → Type 0) (found : Option model.Found) : Type 0 where
  state : ReplicaState
  stamp : Stamp
  kept : List ℕ
  is : found ≡ model.found_as state stamp r kept
  has : P kept

-- What is found of a block's files the scan of the shelf lists.
record Listing (block : BlockId) (r : Rule) (P : List ℕ → Type 0) (new : FileMap) (found : Found) : Type 0 where
  kept : List ℕ
  lists : ListsBytes block r new found kept
  has : P kept

listing : (block : BlockId) (r : Rule) (P : List ℕ → Type 0) (old new : FileMap) (found : Found) → ScansShelf old new found → ((x : Option model.Found) → FindsBlock block (part_of block.0 old) x → Finding r P x) → Listing block r P new found
listing block r P old new found scan finding = by at.is where
  at : FoundAt old new found.replicas.items found.moved.items block.0
  at = found_at old new found scan block.0

  by : ScansBlock block (part_of block.0 old) (part_of block.0 new) at.of → Listing block r P new found
  by (inr s) = absurd (nothing_is _ (finding None (finds_none s.none)).is)
  by (inl s) =
      let p = s.pair in
      let f = finding (Some (record { state = state_of p; stamp = p.places.stamp; sums = p.rule; bytes = take s.len p.bytes })) (finds p s.len s.is_pair s.kept) in
      let same = some_same _ _ f.is in
      let rule : p.rule ≡ r = ap (λ (x : model.Found). x.sums) same in
      let bytes : take s.len p.bytes ≡ f.kept = ap (λ (x : model.Found). x.bytes) same in
      let inside = (has_front p.rule p.bytes p.stored s.len (omega (arith, s.is_pair.chunk_fits.least)) s.kept).within in
      record {
        kept = take s.len p.bytes;
        lists = record {
          seen = _;
          listed = at.listed _ (ap (λ y. y.seen) s.found);
          of_block = refl;
          rule_is = rule;
          all = sym (length-take-le s.len p.bytes inside);
          held = subst (λ q. HoldsBytes (part_of block.0 new) block (state_of p) p.places.stamp q (take s.len p.bytes)) rule s.held;
        };
        has = subst P (sym bytes) f.has;
      }

pub scans_keep_chunks : ScansKeepChunks
scans_keep_chunks log r h es n old new found kept synced within steady loses scan =
    let P : List ℕ → Type 0 = λ l. (whole_len h.sums n ≤ length l) × (take (whole_len h.sums n) l ≡ take (whole_len h.sums n) r.bytes) in
    let l = listing r.known.block h.sums P old new found scan (λ x f.
    let k = losses_keep_chunks log r h es n (part_of r.known.block.0 old) x kept synced within steady loses f in
    record { state = k.state; stamp = k.stamp; kept = k.kept; is = k.is; has = (k.least, k.same) }) in
    record { kept = l.kept; lists = l.lists; least = l.has.0; same = l.has.1 }

pub scans_keep_fronts : ScansKeepFronts
scans_keep_fronts log r h es n old new found written kept synced within steady loses summed none scan =
    let l = listing r.known.block h.sums (λ l. model.IsFront l written) old new found scan (λ x f.
    let k = losses_keep_fronts log r h es n (part_of r.known.block.0 old) x written kept synced within steady loses summed none f in
    record { state = k.state; stamp = k.stamp; kept = k.kept; is = k.is; has = k.front }) in
    record { kept = l.kept; lists = l.lists; front = l.has }
