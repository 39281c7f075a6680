-- The sums of a report, where the files are observable.
use Rattle.std.proofs.Common.{◌≡◌, ◌<◌, ℕ, zero, suc, Bool, true, false, cond, List, [], ◌∷◌, ◌++◌, slice_get, Option, Some, None, IsSome, refl, sym, ap, subst, ◌∙◌}
use Rattle.std.specs.Prelude.{flat_map, IfSome}
use Rattle.chunk_sums.specs.Crc.{sum_of}
use Rattle.hd_base.specs.FileMaps.{FileMap}
use Rattle.hd_base.specs.declared.files.Files as files
use Rattle.hd_base.specs.declared.links.LinkIn as link_in
use Rattle.hd_base.specs.declared.links.LinkOut as link_out
use Rattle.hd_base.specs.declared.numbers.BlockId.{BlockId}
use Rattle.hd_base.specs.declared.sum_rule.SumKind.TheVariants as kind
use Rattle.play_scripts.specs.PlayNodes.Nodes.{Nodes}
use Rattle.play_scripts.specs.PlayNodes.Places.{book_at}
use Rattle.play_scripts.specs.Blocks.{numbers}
use Rattle.replica_core.specs.declared.info.ReplicaInfo.{ReplicaInfo}
use Rattle.replica_files.specs.Laws.{IsWhole}
use Rattle.replica_files.specs.declared.book_state.BookState.{BookState}
use Rattle.replica_model.specs.Rows.{FullReplica}
use Rattle.road_traffic.specs.Showing.{Net}
use Rattle.script_lang.specs.declared.instructions.ScriptLine.{ScriptLine}
use Rattle.script_lang.specs.declared.report.ReportLine.{ReportLine}
use Rattle.script_lang.specs.declared.report.ReportLine.TheVariants as line
use Rattle.world.specs.Worlds.{World}
use Rattle.play_report.specs.Laws.{AreObservable}
use Rattle.play_report.specs.Recoveries.{asked_lines}
use Rattle.play_report.specs.Replicas.{SumTable, sums_in, sum_told, info_lines, replica_lines, replicas_lines, node_lines, nodes_lines}
use Rattle.play_report.specs.Reports.{all_answers, report_lines, NodesAre, AreSums, IsReport}
use Rattle.play_report.proofs.AppendLemmas.{upto_same}

-- a sum is told only of a replica that is neither absent nor broken
told_same : (node b : ℕ) (r : FullReplica) (s t : ℕ) → (IsWhole r → s ≡ t) → replica_lines node b r s ≡ replica_lines node b r t
told_same node b r s t same = at r.known.info refl
  where
    at : (info : Option ReplicaInfo) → r.known.info ≡ info → info_lines node b (sum_told r.known.is_broken s) info ≡ info_lines node b (sum_told r.known.is_broken t) info
    at None e = refl
    at (Some h) e = broken r.known.is_broken refl
      where
        there : IsSome r.known.info
        there = subst (λ (o : Option ReplicaInfo). IsSome o) (sym e) refl

        broken : (q : Bool) → r.known.is_broken ≡ q → info_lines node b (sum_told r.known.is_broken s) (Some h) ≡ info_lines node b (sum_told r.known.is_broken t) (Some h)
        broken true is = ap (λ (q : Bool). info_lines node b (sum_told q s) (Some h)) is ∙ sym (ap (λ (q : Bool). info_lines node b (sum_told q t) (Some h)) is)
        broken false is = ap (λ (v : ℕ). info_lines node b (sum_told r.known.is_broken v) (Some h)) (same (record { there = there; whole = is }))

each_same : (f g : ℕ → List ReportLine) (blocks : List BlockId) → ((k : ℕ) (b : BlockId) → slice_get blocks k ≡ Some b → f b.0 ≡ g b.0) → flat_map f (numbers blocks) ≡ flat_map g (numbers blocks)
each_same f g [] same = refl
each_same f g (b ∷ blocks) same =
    ap (λ (xs : List ReportLine). xs ++ flat_map f (numbers blocks)) (same zero b refl) ∙ ap (λ (xs : List ReportLine). g b.0 ++ xs) (each_same f g blocks (λ k c at. same (suc k) c at))

-- what a node that runs has is told of it alone
node_same : (t : Bool) (node : ℕ) (xs ys : List ReportLine) → (t ≡ true → xs ≡ ys) → cond t xs (line.Down (record { 0 = node }) ∷ []) ≡ cond t ys (line.Down (record { 0 = node }) ∷ [])
node_same true node xs ys same = same refl
node_same false node xs ys same = refl

if_seen : (files : Option FileMap) (X : Type 0) → IsSome files → IfSome files (λ _. X) → X
if_seen None X h p = cc
if_seen (Some m) X h p = p

module _ {F I O : Type 0} (f : files.Ghosts F) (i : link_in.Ghosts I) (o : link_out.Ghosts O) (count : ℕ) (running : List Bool) (w : World) (net : Net) (n : Nodes F I O) where
  sum_true : NodesAre i o count running w net n → AreObservable f n → (sums : SumTable) → AreSums f w n sums → (node place : ℕ) (b : BlockId) → node < w.nodes → w.running node ≡ true → slice_get n.blocks.items place ≡ Some b → IsWhole (w.replicas node b.0)
      → sums node b.0 ≡ sums_in w node b.0
  sum_true are seen sums s node place b below runs at whole = book (book_at n.nodes.items node place) refl
    where
      none : IsSome {T = BookState F} None → ⊥
      none h = cc

      book : (q : Option (BookState F)) → book_at n.nodes.items node place ≡ q → sums node b.0 ≡ sums_in w node b.0
      book None e = absurd (none (subst (λ (q : Option (BookState F)). IsSome q) e (are.show.has_books node place b below at)))
      book (Some x) e = if_seen (f.files x.drawer) (sums node b.0 ≡ sum_of kind.Crc32c (w.replicas node b.0).bytes) (seen node place x e) (s node place b x at e below runs whole)

  pub reports_true : (lines : List ScriptLine) (report : List ReportLine) → NodesAre i o count running w net n → AreObservable f n → IsReport f w n lines report → report ≡ report_lines w (sums_in w) (numbers n.blocks.items) lines
  reports_true lines report are seen r =
      r.lines_are ∙ ap (λ (xs : List ReportLine). ((xs ++ all_answers w (numbers n.blocks.items) lines) ++ asked_lines w lines) ++ line.End ∷ []) nodes
    where
      replicas : (node : ℕ) → node < w.nodes → w.running node ≡ true → replicas_lines w r.sums (numbers n.blocks.items) node ≡ replicas_lines w (sums_in w) (numbers n.blocks.items) node
      replicas node below runs =
          each_same (λ b. replica_lines node b (w.replicas node b) (r.sums node b)) (λ b. replica_lines node b (w.replicas node b) (sums_in w node b)) n.blocks.items
          (λ k b at. told_same node b.0 (w.replicas node b.0) (r.sums node b.0) (sums_in w node b.0) (λ whole. sum_true are seen r.sums r.are node k b below runs at whole))

      nodes : nodes_lines w r.sums (numbers n.blocks.items) ≡ nodes_lines w (sums_in w) (numbers n.blocks.items)
      nodes = upto_same (node_lines w r.sums (numbers n.blocks.items)) (node_lines w (sums_in w) (numbers n.blocks.items)) w.nodes
          (λ node below. node_same (w.running node) node (replicas_lines w r.sums (numbers n.blocks.items) node) (replicas_lines w (sums_in w) (numbers n.blocks.items) node) (λ runs. replicas node below runs))
