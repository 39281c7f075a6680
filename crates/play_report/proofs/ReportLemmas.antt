-- What is written is the report of each world that nodes and clients show.
use Rattle.std.proofs.Common.{◌≡◌, ◌<◌, ◌≤◌, ℕ, zero, suc, Bool, true, false, cond, List, [], ◌∷◌, ◌++◌, length, slice_get, Option, Some, None, IsSome, ◌⊎◌, inl, inr, refl, sym, ap, subst, ◌∙◌, arith}
use Rattle.std.specs.Prelude.{map, flat_map, unwrap_or, IfSome, min}
use Rattle.std.specs.Global.{Vec}
use Rattle.std.proofs.lemmas.Bool.{cases_lt}
use Rattle.std.proofs.lemmas.List.{append-nil}
use Rattle.chunk_sums.specs.Crc.{sum_of}
use Rattle.hd_base.specs.FileMaps.{FileMap}
use Rattle.hd_base.specs.declared.files.Files as files
use Rattle.hd_base.specs.declared.links.LinkIn as link_in
use Rattle.hd_base.specs.declared.links.LinkOut as link_out
use Rattle.hd_base.specs.declared.numbers.BlockId.{BlockId}
use Rattle.hd_base.specs.declared.sum_rule.SumKind.TheVariants as kind
use Rattle.play_clients.specs.declared.clients.Client.{Client}
use Rattle.play_clients.specs.Blocks.{blocks_of}
use Rattle.play_scripts.specs.PlayNodes.NodeBooks.{NodeBooks}
use Rattle.play_scripts.specs.PlayNodes.Nodes.{Nodes}
use Rattle.play_scripts.specs.PlayNodes.Places.{book_at}
use Rattle.play_scripts.specs.PlayNodes.Showing.{NodesShow, runs_in, TellsRunning}
use Rattle.play_scripts.proofs.PlayNodes.PlaceLaws.{element_within, same_some, book_found, book_missing, book_within}
use Rattle.play_scripts.proofs.PlayNodes.Tables.{element}
use Rattle.play_primaries.specs.declared.clients.PrimaryClient.{PrimaryClient}
use Rattle.play_primaries.specs.PlayReaders.ReadClient.{ReadClient}
use Rattle.play_scripts.specs.Reads.{read_numbers}
use Rattle.play_scripts.specs.Blocks.{numbers}
use Rattle.replica_files.specs.Books.{replica_of}
use Rattle.replica_files.specs.Laws.{IsWhole}
use Rattle.replica_files.specs.Summing.{SumsWritten}
use Rattle.replica_files.specs.declared.book_state.BookState.{BookState}
use Rattle.replica_model.specs.Rows.{FullReplica}
use Rattle.road_traffic.specs.Showing.{Net}
use Rattle.script_lang.specs.Reports.{printed}
use Rattle.script_lang.specs.declared.instructions.ScriptLine.{ScriptLine}
use Rattle.script_lang.specs.declared.report.ReportLine.{ReportLine}
use Rattle.script_lang.specs.declared.report.ReportLine.TheVariants as line
use Rattle.world.specs.Parts as parts
use Rattle.world.specs.Worlds.{World}
use Rattle.play_report.specs.declared.rows.Row.{Row}
use Rattle.play_report.specs.Answers.{answer_lines, said_in, client_lines}
use Rattle.play_report.specs.Reads.{read_line, client_read}
use Rattle.play_report.specs.Recoveries.{asked_lines, recovery_line, client_recovery, merged}
use Rattle.play_report.specs.Replicas.{SumTable, info_lines, replica_lines, replicas_lines, node_lines, nodes_lines, rows_lines, all_lines}
use Rattle.play_report.specs.Reports.{all_answers, AreSums, Reports}
use Rattle.play_report.specs.Rows.{IsRow, AreRows, AreRowsIf, NodesHaveRows}
use Rattle.play_report.proofs.ReadLemmas.{reads_are}
use Rattle.play_report.proofs.RecoveryLemmas.{asked_are, recoveries_are}
use Rattle.play_report.proofs.ReplicaLemmas.{row_is, sum_found, found_at, rows_are}
use Rattle.play_report.proofs.AppendLemmas.{upto_same}
use Rattle.play_clients.specs.PlayModel.Dues.{upto}

-- ANSWERS

-- What the clients were answered is what the world tells of their blocks.
pub clients_are : {I O : Type 0} (w : World) (lines : List ScriptLine) (clients : List (Client I O)) → ((k : ℕ) (c : Client I O) → slice_get clients k ≡ Some c → said_in c.said.items ≡ w.said c.block.0)
    → flat_map (λ (c : Client I O). client_lines lines c) clients ≡ all_answers w (blocks_of clients) lines
clients_are w lines [] said = refl
clients_are {I} {O} w lines (c ∷ clients) said =
    ap (λ (s : List parts.Said). answer_lines c.block.0 s 0 lines ++ flat_map (λ (c : Client I O). client_lines lines c) clients) (said zero c refl) ∙
    ap (λ (xs : List ReportLine). answer_lines c.block.0 (w.said c.block.0) 0 lines ++ xs) (clients_are w lines clients (λ k d at. said (suc k) d at))

-- NODES

-- the rows of a node, none where nothing was read
abbrev pub rows_of : Option (Vec Row) → List Row
rows_of None = []
rows_of (Some v) = v.items

abbrev pub table : List BlockId → List (Vec Row) → SumTable
table blocks all node b = sum_found blocks (rows_of (slice_get all node)) b

module _ {F I O : Type 0} (f : files.Ghosts F) (i : link_in.Ghosts I) (o : link_out.Ghosts O) (w : World) (net : Net) (n : Nodes F I O) (show : NodesShow i o w net n) where
  -- a row of the book at a place shows the replica
  row_shows : (node place : ℕ) (b : BlockId) (book : BookState F) (row : Row) → slice_get n.blocks.items place ≡ Some b → book_at n.nodes.items node place ≡ Some book → IsRow f book row
      → info_lines node b.0 row.sum row.info ≡ replica_lines node b.0 (w.replicas node b.0) (unwrap_or row.sum 0)
  row_shows node place b book row at at_book is =
      let same = show.books node place b book at at_book in
      ap (λ h. info_lines node b.0 row.sum h) is.info ∙
      (row_is node b.0 (f.files book.drawer) (replica_of book) row.sum is.sum ∙ ap (λ (r : FullReplica). replica_lines node b.0 r (unwrap_or row.sum 0)) same)

  -- there is a node for each place
  places : (node : ℕ) (x : NodeBooks F) → node < w.nodes → slice_get n.nodes.items node ≡ Some x → length n.blocks.items ≤ length x.books.items
  places node x below at = least (length n.blocks.items) (λ k h. within k h)
    where
      within : (k : ℕ) → k < length n.blocks.items → k < length x.books.items
      within k h =
          let b = element n.blocks.items k h in
          let at_book = book_within n.nodes.items node k (show.has_books node k b.0 below b.1) in
          subst (λ (y : NodeBooks F). k < length y.books.items) (same_some at_book.at x (sym at_book.found ∙ at)) at_book.within

      least : (m : ℕ) → ((k : ℕ) → k < m → k < length x.books.items) → m ≤ length x.books.items
      least zero h = omega arith
      least (suc m) h = up (h m (omega arith))
        where
          up : m < length x.books.items → suc m ≤ length x.books.items
          up e = omega arith

  module _ (count : ℕ) (running : List Bool) (all : List (Vec Row)) (rows : NodesHaveRows f count running n.nodes.items all) (count_is : w.nodes ≡ count) where
    -- the rows of a node that runs
    read_at : (node : ℕ) (x : NodeBooks F) (v : Vec Row) → runs_in running node ≡ true → slice_get n.nodes.items node ≡ Some x → slice_get all node ≡ Some v → AreRows f x.books.items v.items
    read_at node x v runs at at' = subst (λ (t : Bool). AreRowsIf f t x.books.items v.items) runs (rows.each node x v at at')

    -- what was read at a node that has books
    pub node_so : (node : ℕ) (x : NodeBooks F) (v : Vec Row) → runs_in running node ≡ true → node < w.nodes → slice_get n.nodes.items node ≡ Some x → slice_get all node ≡ Some v
        → rows_lines node true n.blocks.items (slice_get all node) ≡ replicas_lines w (table n.blocks.items all) (numbers n.blocks.items) node
    node_so node x v runs below at at' =
        let are = read_at node x v runs at at' in
        ap (λ (q : Option (Vec Row)). rows_lines node true n.blocks.items q) at' ∙
        rows_are node (w.replicas node) (table n.blocks.items all node) n.blocks.items v.items (subst (λ (m : ℕ). length n.blocks.items ≤ m) (sym are.count) (places node x below at))
        (λ k b row p q. one are k b row p q)
      where
        one : AreRows f x.books.items v.items → (k : ℕ) (b : BlockId) (row : Row) → slice_get n.blocks.items k ≡ Some b → slice_get v.items k ≡ Some row
            → info_lines node b.0 row.sum row.info ≡ replica_lines node b.0 (w.replicas node b.0) (table n.blocks.items all node b.0)
        one are k b row p q =
            let book = element x.books.items k (subst (λ (m : ℕ). k < m) are.count (element_within v.items k row q)) in
            row_shows node k b book.0 row p (book_found n.nodes.items node k x at ∙ book.1) (are.each k book.0 row book.1 q) ∙
            ap (λ (s : ℕ). replica_lines node b.0 (w.replicas node b.0) s)
            (sym (ap (λ (r : Option (Vec Row)). sum_found n.blocks.items (rows_of r) b.0) at' ∙ found_at n.blocks.items v.items k b row show.distinct p q))

    -- where a node isn't there, there is no block
    no_node : (node : ℕ) → node < w.nodes → length n.nodes.items ≤ node → (blocks : List BlockId) → n.blocks.items ≡ blocks → blocks ≡ []
    no_node node below past [] e = refl
    no_node node below past (b ∷ blocks) e =
        let has = show.has_books node 0 b below (ap (λ (bs : List BlockId). slice_get bs 0) e) in
        absurd (none (subst (λ (q : Option (BookState F)). IsSome q) (book_missing n.nodes.items node 0 past) has))
      where
        none : IsSome {T = BookState F} None → ⊥
        none h = cc

    node_is : (node : ℕ) → runs_in running node ≡ true → node < count → ((node < length n.nodes.items) ⊎ (length n.nodes.items ≤ node))
        → rows_lines node true n.blocks.items (slice_get all node) ≡ replicas_lines w (table n.blocks.items all) (numbers n.blocks.items) node
    node_is node runs below (inl within) =
        let x = element n.nodes.items node within in
        let v = element all node (subst (λ (m : ℕ). node < m) (sym rows.count_is) (least below within)) in
        node_so node x.0 v.0 runs (subst (λ (m : ℕ). node < m) (sym count_is) below) x.1 v.1
      where
        least : node < count → node < length n.nodes.items → node < min count (length n.nodes.items)
        least p q = omega arith
    node_is node runs below (inr past) =
        let none = no_node node (subst (λ (m : ℕ). node < m) (sym count_is) below) past n.blocks.items refl in
        ap (λ (bs : List BlockId). rows_lines node true bs (slice_get all node)) none ∙ (nothing (slice_get all node) ∙
        ap (λ (bs : List BlockId). replicas_lines w (table n.blocks.items all) (numbers bs) node) (sym none))
      where
        nothing : (q : Option (Vec Row)) → rows_lines node true [] q ≡ []
        nothing None = refl
        nothing (Some v) = refl

    -- a node runs, or is down
    node_by : (node : ℕ) (t : Bool) → runs_in running node ≡ t → node < count
        → rows_lines node t n.blocks.items (slice_get all node) ≡ cond t (replicas_lines w (table n.blocks.items all) (numbers n.blocks.items) node) (line.Down (record { 0 = node }) ∷ [])
    node_by node true runs below = node_is node runs below (cases_lt node (length n.nodes.items))
    node_by node false runs below = refl

    pub nodes_are : TellsRunning w running → all_lines running n.blocks.items all count ≡ nodes_lines w (table n.blocks.items all) (numbers n.blocks.items)
    nodes_are tells =
        upto_same (λ node. rows_lines node (runs_in running node) n.blocks.items (slice_get all node)) (node_lines w (table n.blocks.items all) (numbers n.blocks.items)) count
        (λ node h. node_by node (runs_in running node) refl h ∙
        ap (λ (t : Bool). cond t (replicas_lines w (table n.blocks.items all) (numbers n.blocks.items) node) (line.Down (record { 0 = node }) ∷ [])) (tells node)) ∙
        ap (λ (m : ℕ). upto (node_lines w (table n.blocks.items all) (numbers n.blocks.items)) m) (sym count_is)

    -- the sums that were read are those of the bytes
    pub sums_are : TellsRunning w running → AreSums f w n (table n.blocks.items all)
    sums_are tells node place b book at at_book below runs whole =
        let found = book_within n.nodes.items node place (subst (λ (q : Option (BookState F)). IsSome q) (sym at_book) refl) in
        let v = element all node (subst (λ (m : ℕ). node < m) (sym rows.count_is) (least (subst (λ (m : ℕ). node < m) count_is below) (element_within n.nodes.items node found.at found.found))) in
        let are = read_at node found.at v.0 (tells node ∙ runs) found.found v.1 in
        let row = element v.0.items place (subst (λ (m : ℕ). place < m) (sym are.count) found.within) in
        let at_place : slice_get found.at.books.items place ≡ Some book = sym (book_found n.nodes.items node place found.at found.found) ∙ at_book in
        let is = are.each place book row.0 at_place row.1 in
        let same = show.books node place b book at at_book in
        let told : table n.blocks.items all node b.0 ≡ unwrap_or row.0.sum 0 =
        ap (λ (r : Option (Vec Row)). sum_found n.blocks.items (rows_of r) b.0) v.1 ∙ found_at n.blocks.items v.0.items place b row.0 show.distinct at row.1 in
        subst (λ (r : FullReplica). IfSome (f.files book.drawer) (λ _. table n.blocks.items all node b.0 ≡ sum_of kind.Crc32c r.bytes)) same
        (value (f.files book.drawer) (replica_of book) row.0.sum is.sum (subst (λ (r : FullReplica). IsWhole r) (sym same) whole) (table n.blocks.items all node b.0) told)
      where
        least : node < count → node < length n.nodes.items → node < min count (length n.nodes.items)
        least p q = omega arith

        value : (files : Option FileMap) (r : FullReplica) (sum : Option ℕ) → SumsWritten files r sum → IsWhole r → (s : ℕ) → s ≡ unwrap_or sum 0 → IfSome files (λ _. s ≡ sum_of kind.Crc32c r.bytes)
        value files r None h whole s e = absurd (none (h.some.1 whole))
          where
            none : IsSome {T = ℕ} None → ⊥
            none h = cc
        value files r (Some t) h whole s e = subst (λ (q : ℕ). IfSome files (λ _. q ≡ sum_of kind.Crc32c r.bytes)) (sym e) h.value

-- THE LINES

pub report_is : {F I O : Type 0} (f : files.Ghosts F) (i : link_in.Ghosts I) (o : link_out.Ghosts O) (count : ℕ) (running : List Bool) (n : Nodes F I O) (clients : List (Client I O)) (reads : List (ReadClient I O)) (recoveries : List (PrimaryClient I O)) (lines : List ScriptLine) (all : List (Vec Row)) (report : List ReportLine)
    → NodesHaveRows f count running n.nodes.items all
    → report ≡ ((all_lines running n.blocks.items all count ++ flat_map (λ (c : Client I O). client_lines lines c) clients) ++ merged (map client_read reads) (map client_recovery recoveries) lines) ++ line.End ∷ []
    → Reports f i o count running n clients reads recoveries lines report
report_is {F} {I} {O} f i o count running n clients reads recoveries lines all report rows is = λ w net na ca ra pa.
    let sums = table n.blocks.items all in
    let blocks = numbers n.blocks.items in
    record {
      sums = sums;
      are = sums_are f i o w net n na.show count running all rows na.count_is na.tells;
      lines_are = is ∙ parts _ (nodes_lines w sums blocks) _ (all_answers w blocks lines) _ (asked_lines w lines)
          (nodes_are f i o w net n na.show count running all rows na.count_is na.tells)
          (clients_are w lines clients ca.said ∙ ap (λ (bs : List ℕ). all_answers w bs lines) ca.blocks)
          (ap (λ (xs : List ReportLine). merged xs (map client_recovery recoveries) lines) (reads_are i o w net reads ra.each ∙ ap (map (read_line w)) ra.numbers) ∙
          (ap (λ (xs : List ReportLine). merged (map (read_line w) (read_numbers lines)) xs lines) (recoveries_are i o w net recoveries pa.each ∙ ap (map (recovery_line w)) pa.numbers) ∙ asked_are w lines));
    }
  where
    parts : (xs xs' ys ys' zs zs' : List ReportLine) → xs ≡ xs' → ys ≡ ys' → zs ≡ zs'
        → ((xs ++ ys) ++ zs) ++ line.End ∷ [] ≡ ((xs' ++ ys') ++ zs') ++ line.End ∷ []
    parts xs xs' ys ys' zs zs' e f g =
        ap (λ (ls : List ReportLine). ((ls ++ ys) ++ zs) ++ line.End ∷ []) e ∙
        (ap (λ (ls : List ReportLine). ((xs' ++ ls) ++ zs) ++ line.End ∷ []) f ∙
        ap (λ (ls : List ReportLine). ((xs' ++ ys') ++ ls) ++ line.End ∷ []) g)

-- Four parts are appended to nothing.
pub four_parts : (t0 t1 t2 t3 t4 xs ys zs ws end : List ReportLine) → t0 ≡ [] → t1 ≡ t0 ++ xs → xs ≡ ws → t2 ≡ t1 ++ ys → t3 ≡ t2 ++ zs → t4 ≡ t3 ++ end → t4 ≡ ((ws ++ ys) ++ zs) ++ end
four_parts t0 t1 t2 t3 t4 xs ys zs ws end none one same two three four =
    four ∙ ap (λ (t : List ReportLine). t ++ end) (three ∙ ap (λ (t : List ReportLine). t ++ zs) (two ∙ ap (λ (t : List ReportLine). t ++ ys) (one ∙ (ap (λ (t : List ReportLine). t ++ xs) none ∙ same))))

pub same_lines : (running : List Bool) (blocks bs : List BlockId) (all rs : List (Vec Row)) (count : ℕ) → bs ≡ blocks → rs ≡ all → all_lines running bs rs count ≡ all_lines running blocks all count
same_lines running blocks bs all rs count e f =
    ap (λ (b : List BlockId). all_lines running b rs count) e ∙ ap (λ (r : List (Vec Row)). all_lines running blocks r count) f
