-- Each node that a line names is one of the script's, and nothing past 16 nodes is said.
use Rattle.std.proofs.Common.{◌≡◌, ℕ, ◌<◌, ◌≤◌, ◌-◌, ◌^◌, ◌&&◌, nat_lt, nat_le, Bool, true, false, cond, List, [], ◌∷◌, map, length, Ok, Err, refl, subst, arith}
use Rattle.std.specs.List.{list_all, All, AllByRecursion}
use Rattle.std.proofs.lemmas.Bool.{and_parts, ltb-true, leb-true}
use Rattle.std.proofs.lemmas.List.Elements.{All-from_recursion}
use Rattle.hd_base.specs.Results.{◌>>=◌}
use Rattle.hd_base.proofs.ResultLaws.{bind_ok, ok_value, err_ok}
use Rattle.hd_base.specs.Wire.{state_name}
use Rattle.hd_base.specs.declared.numbers.NodeId.{NodeId}
use Rattle.hd_base.specs.declared.numbers.BlockId.{BlockId}
use Rattle.script_lang.specs.declared.faults.BadKind.{BadKind}
use Rattle.script_lang.specs.declared.faults.BadKind.TheVariants as kind
use Rattle.script_lang.specs.declared.instructions.Instruction.{Instruction}
use Rattle.script_lang.specs.declared.instructions.Instruction.TheVariants as says
use Rattle.script_lang.specs.declared.instructions.StepEvent.{StepEvent}
use Rattle.script_lang.specs.declared.instructions.StepEvent.TheVariants as step
use Rattle.script_lang.specs.declared.names.Keyword.{Keyword}
use Rattle.script_lang.specs.declared.names.Keyword.TheVariants as keyword
use Rattle.script_lang.specs.declared.names.EventName.{EventName}
use Rattle.script_lang.specs.declared.names.EventName.TheVariants as event
use Rattle.script_lang.specs.Words.{items_of}
use Rattle.script_lang.specs.Rules.{by_rules, AllKept}
use Rattle.script_lang.specs.Names.{named, keyword_name, keywords, sum_name, sum_kinds, states, event_name, events}
use Rattle.script_lang.specs.Numbers.{value_of, is_number, is_number_within, is_hex, bytes_of, are_items, is_member, are_members, are_distinct, numbers_of, members_of, node}
use Rattle.script_lang.specs.Said
use Rattle.script_lang.specs.Fits.{IsInRange}

-- rules that were kept, and the value behind them
pub kept : {A : Type 0} (rules : List (BadKind × Bool)) (v w : A) → by_rules rules v ≡ Ok w → AllKept rules × (v ≡ w)
kept [] v w e = (tt, ok_value v w e)
kept (rule ∷ rules) v w e = first rule.1 e (kept rules v w) where
  first : (b : Bool) → cond b (by_rules rules v) (Err rule.0) ≡ Ok w → (by_rules rules v ≡ Ok w → AllKept rules × (v ≡ w)) → ((b ≡ true) × AllKept rules) × (v ≡ w)
  first true e more = ((refl, (more e).0), (more e).1)
  first false e more = absurd (err_ok rule.0 w e)

-- items that are members name nodes below the number of nodes
items_below : (nodes : ℕ) (items : List (List ℕ)) → list_all (is_member nodes) items ≡ true → AllByRecursion (λ (m : NodeId). m.0 < nodes) (map node (map value_of items))
items_below nodes [] e = tt
items_below nodes (item ∷ items) e =
    let both = and_parts (is_member nodes item) (list_all (is_member nodes) items) e in
    (ltb-true (value_of item) nodes (and_parts _ (nat_lt (value_of item) nodes) both.0).1, items_below nodes items both.1)

members_below : (nodes : ℕ) (word : List ℕ) → are_members nodes word ≡ true → All (λ member. member.0 < nodes) (members_of word)
members_below nodes word e =
    let both = and_parts (list_all (is_member nodes) (items_of word) && nat_le (length (items_of word)) 16) (are_distinct (numbers_of word)) e in
    let all = and_parts (list_all (is_member nodes) (items_of word)) (nat_le (length (items_of word)) 16) both.0 in
    All-from_recursion (λ member. member.0 < nodes) (members_of word) (items_below nodes (items_of word) all.0)

-- a line that names no node
no_node : (nodes : ℕ) (rules : List (BadKind × Bool)) (line i : Instruction) → Said.NamesBelow nodes line → by_rules rules line ≡ Ok i → Said.NamesBelow nodes i
no_node nodes rules line i free e = subst (Said.NamesBelow nodes) (kept rules line i e).1 free

create_names : (nodes : ℕ) (words : List (List ℕ)) (i : Instruction) → Said.create_said nodes words ≡ Ok i → Said.NamesBelow nodes i
unfolding Said.create_said
create_names nodes words i e =
    let w = bind_ok (Said.two_of words) _ i e in
    let line : Instruction = says.Create (Said.block_of w.0.0) (members_of w.0.1) in
    let k = kept (Said.members_rules nodes w.0.0 w.0.1) line i w.1.1 in
    subst (Said.NamesBelow nodes) k.1 (members_below nodes w.0.1 k.0.1.0)

append_names : (nodes : ℕ) (words : List (List ℕ)) (i : Instruction) → Said.append_said nodes words ≡ Ok i → Said.NamesBelow nodes i
unfolding Said.append_said
append_names nodes words i e =
    let w = bind_ok (Said.two_of words) _ i e in
    let line : Instruction = says.Append (Said.block_of w.0.0) (members_of w.0.1) in
    let k = kept (Said.members_rules nodes w.0.0 w.0.1) line i w.1.1 in
    subst (Said.NamesBelow nodes) k.1 (members_below nodes w.0.1 k.0.1.0)

read_names : (nodes : ℕ) (words : List (List ℕ)) (i : Instruction) → Said.read_said nodes words ≡ Ok i → Said.NamesBelow nodes i
unfolding Said.read_said
read_names nodes words i e =
    let w = bind_ok (Said.four_of words) _ i e in
    let line : Instruction = says.Read (Said.block_of w.0.0) (Said.node_of w.0.1) (value_of w.0.2) (value_of w.0.3) in
    let k = kept (Said.numbers_rule (w.0.0 ∷ w.0.1 ∷ w.0.2 ∷ w.0.3 ∷ []) ∷ Said.node_rule nodes w.0.1 ∷ []) line i w.1.1 in
    subst (Said.NamesBelow nodes) k.1 (ltb-true (value_of w.0.1) nodes k.0.1.0)

recover_names : (nodes : ℕ) (words : List (List ℕ)) (i : Instruction) → Said.recover_said nodes words ≡ Ok i → Said.NamesBelow nodes i
unfolding Said.recover_said
recover_names nodes words i e =
    let w = bind_ok (Said.three_of words) _ i e in
    let line : Instruction = says.Recover (Said.block_of w.0.0) (Said.node_of w.0.1) (members_of w.0.2) in
    let numbers : BadKind × Bool = (kind.Number, is_number w.0.0 && is_number w.0.1 && are_items w.0.2) in
    let k = kept (numbers ∷ (kind.Member, are_members nodes w.0.2) ∷ Said.node_rule nodes w.0.1 ∷ []) line i w.1.1 in
    subst (Said.NamesBelow nodes) k.1 (ltb-true (value_of w.0.1) nodes k.0.1.1.0, members_below nodes w.0.2 k.0.1.0)

fault_names : (nodes : ℕ) (words : List (List ℕ)) (i : Instruction) → Said.fault_said nodes words ≡ Ok i → Said.NamesBelow nodes i
unfolding Said.fault_said
fault_names nodes words i e =
    let w = bind_ok (Said.two_of words) _ i e in
    let line : Instruction = says.Fault (Said.node_of w.0.0) (value_of w.0.1) in
    let numbers : BadKind × Bool = (kind.Number, is_number w.0.0 && is_number_within 1 (2 ^ 64 - 1) w.0.1) in
    let k = kept (numbers ∷ Said.node_rule nodes w.0.0 ∷ []) line i w.1.1 in
    subst (Said.NamesBelow nodes) k.1 (ltb-true (value_of w.0.0) nodes k.0.1.0)

node_below : (nodes : ℕ) (words : List (List ℕ)) (n : NodeId) → Said.node_said nodes words ≡ Ok n → n.0 < nodes
unfolding Said.node_said
node_below nodes words n e =
    let w = bind_ok (Said.one_of words) _ n e in
    let k = kept ((kind.Number, is_number w.0) ∷ Said.node_rule nodes w.0 ∷ []) (Said.node_of w.0) n w.1.1 in
    subst (λ (m : NodeId). m.0 < nodes) k.1 (ltb-true (value_of w.0) nodes k.0.1.0)

expect_names : (nodes : ℕ) (words : List (List ℕ)) (i : Instruction) → Said.expect_said nodes words ≡ Ok i → Said.NamesBelow nodes i
unfolding Said.expect_said
expect_names nodes words i e =
    let first = bind_ok (Said.next_of words) _ i e in
    let block = bind_ok (Said.next_of first.0.1) _ i first.1.1 in
    let name = bind_ok (Said.next_of block.0.1) _ i block.1.1 in
    let state = bind_ok (named state_name states name.0.0) _ i name.1.1 in
    let w = bind_ok (Said.two_of name.0.1) _ i state.1.1 in
    let line : Instruction = says.Expect (Said.node_of first.0.0) (Said.block_of block.0.0) state.0 (Said.stamp_of w.0.0) (value_of w.0.1) in
    let k = kept (Said.numbers_rule (first.0.0 ∷ block.0.0 ∷ w.0.0 ∷ w.0.1 ∷ []) ∷ Said.node_rule nodes first.0.0 ∷ []) line i w.1.1 in
    subst (Said.NamesBelow nodes) k.1 (ltb-true (value_of first.0.0) nodes k.0.1.0)

sums_names : (nodes : ℕ) (words : List (List ℕ)) (i : Instruction) → Said.sums_said words ≡ Ok i → Said.NamesBelow nodes i
unfolding Said.sums_said
sums_names nodes words i e =
    let block = bind_ok (Said.next_of words) _ i e in
    let sums = bind_ok (Said.next_of block.0.1) _ i block.1.1 in
    let sum_kind = bind_ok (named sum_name sum_kinds sums.0.0) _ i sums.1.1 in
    let chunk = bind_ok (Said.one_of sums.0.1) _ i sum_kind.1.1 in
    let numbers : BadKind × Bool = (kind.Number, is_number block.0.0 && is_number_within 16 65536 chunk.0) in
    no_node nodes (numbers ∷ []) (says.Sums (Said.block_of block.0.0) (record { kind = sum_kind.0; chunk = value_of chunk.0 })) i tt chunk.1.1

write_names : (nodes : ℕ) (words : List (List ℕ)) (i : Instruction) → Said.write_said words ≡ Ok i → Said.NamesBelow nodes i
unfolding Said.write_said
write_names nodes words i e =
    let w = bind_ok (Said.two_of words) _ i e in
    no_node nodes ((kind.Number, is_number w.0.0) ∷ (kind.Hex, is_hex w.0.1) ∷ []) (says.Write (Said.block_of w.0.0) (bytes_of w.0.1)) i tt w.1.1

fill_names : (nodes : ℕ) (words : List (List ℕ)) (i : Instruction) → Said.fill_said words ≡ Ok i → Said.NamesBelow nodes i
unfolding Said.fill_said
fill_names nodes words i e =
    let w = bind_ok (Said.two_of words) _ i e in
    no_node nodes ((kind.Number, is_number w.0.0 && is_number_within 1 (2 ^ 64 - 1) w.0.1) ∷ []) (says.Fill (Said.block_of w.0.0) (value_of w.0.1)) i tt w.1.1

cut_names : (nodes : ℕ) (words : List (List ℕ)) (i : Instruction) → Said.cut_said words ≡ Ok i → Said.NamesBelow nodes i
unfolding Said.cut_said
cut_names nodes words i e =
    let w = bind_ok (Said.four_of words) _ i e in
    no_node nodes (Said.numbers_rule (w.0.0 ∷ w.0.1 ∷ w.0.2 ∷ w.0.3 ∷ []) ∷ []) (says.Cut (Said.block_of w.0.0) (value_of w.0.1) (value_of w.0.2) (value_of w.0.3)) i tt w.1.1

run_names : (nodes : ℕ) (words : List (List ℕ)) (i : Instruction) → Said.run_said words ≡ Ok i → Said.NamesBelow nodes i
unfolding Said.run_said
run_names nodes words i e =
    let w = bind_ok (Said.one_of words) _ i e in
    no_node nodes ((kind.Number, is_number_within 0 1000000 w.0) ∷ []) (says.Run (value_of w.0)) i tt w.1.1

settle_names : (nodes : ℕ) (words : List (List ℕ)) (i : Instruction) → Said.settle_said words ≡ Ok i → Said.NamesBelow nodes i
unfolding Said.settle_said
settle_names nodes words i e = no_node nodes [] says.Settle i tt (bind_ok (Said.none_of words) _ i e).1.1

writer_names : (nodes : ℕ) (block : List ℕ) (words : List (List ℕ)) (i : Instruction) → Said.writer_said block words ≡ Ok i → Said.NamesBelow nodes i
unfolding Said.writer_said
writer_names nodes block words i e =
    let w = bind_ok (Said.none_of words) _ i e in
    no_node nodes ((kind.Number, is_number block) ∷ []) (says.Step (Said.block_of block) step.Writer) i tt w.1.1

connection_names : (nodes : ℕ) (made : ℕ → StepEvent) (block : List ℕ) (words : List (List ℕ)) (i : Instruction) → Said.connection_said made block words ≡ Ok i → Said.NamesBelow nodes i
unfolding Said.connection_said
connection_names nodes made block words i e =
    let w = bind_ok (Said.one_of words) _ i e in
    no_node nodes (Said.numbers_rule (block ∷ w.0 ∷ []) ∷ []) (says.Step (Said.block_of block) (made (value_of w.0))) i tt w.1.1

event_names : (nodes : ℕ) (name : EventName) (block : List ℕ) (words : List (List ℕ)) (i : Instruction) → Said.event_said name block words ≡ Ok i → Said.NamesBelow nodes i
event_names nodes event.Writer block words i e = writer_names nodes block words i e
event_names nodes event.Down block words i e = connection_names nodes step.Down block words i e
event_names nodes event.Ready block words i e = connection_names nodes step.Ready block words i e
event_names nodes event.Up block words i e = connection_names nodes step.Up block words i e

step_names : (nodes : ℕ) (words : List (List ℕ)) (i : Instruction) → Said.step_said words ≡ Ok i → Said.NamesBelow nodes i
unfolding Said.step_said
step_names nodes words i e =
    let block = bind_ok (Said.next_of words) _ i e in
    let name = bind_ok (Said.next_of block.0.1) _ i block.1.1 in
    let event = bind_ok (named event_name events name.0.0) _ i name.1.1 in
    event_names nodes event.0 block.0.0 name.0.1 i event.1.1

-- a line of a block alone, or of a node alone
of_block : (nodes : ℕ) (words : List (List ℕ)) (made : BlockId → Instruction) (i : Instruction) → ((b : BlockId) → Said.NamesBelow nodes (made b)) → (Said.block_said words >>= (λ block. Ok (made block))) ≡ Ok i → Said.NamesBelow nodes i
of_block nodes words made i free e =
    let b = bind_ok (Said.block_said words) (λ block. Ok (made block)) i e in
    subst (Said.NamesBelow nodes) (ok_value (made b.0) i b.1.1) (free b.0)

of_node : (nodes : ℕ) (words : List (List ℕ)) (made : NodeId → Instruction) (i : Instruction) → ((n : NodeId) → n.0 < nodes → Said.NamesBelow nodes (made n)) → (Said.node_said nodes words >>= (λ n. Ok (made n))) ≡ Ok i → Said.NamesBelow nodes i
of_node nodes words made i named e =
    let n = bind_ok (Said.node_said nodes words) (λ n. Ok (made n)) i e in
    subst (Said.NamesBelow nodes) (ok_value (made n.0) i n.1.1) (named n.0 (node_below nodes words n.0 n.1.0))

keyword_names : (k : Keyword) (nodes : ℕ) (words : List (List ℕ)) (i : Instruction) → Said.keyword_said k nodes words ≡ Ok i → Said.NamesBelow nodes i
keyword_names keyword.Sums nodes words i e = sums_names nodes words i e
keyword_names keyword.Create nodes words i e = create_names nodes words i e
keyword_names keyword.Append nodes words i e = append_names nodes words i e
keyword_names keyword.Write nodes words i e = write_names nodes words i e
keyword_names keyword.Fill nodes words i e = fill_names nodes words i e
keyword_names keyword.Hflush nodes words i e = of_block nodes words says.Hflush i (λ b. tt) e
keyword_names keyword.Hsync nodes words i e = of_block nodes words says.Hsync i (λ b. tt) e
keyword_names keyword.Close nodes words i e = of_block nodes words says.Close i (λ b. tt) e
keyword_names keyword.Read nodes words i e = read_names nodes words i e
keyword_names keyword.Recover nodes words i e = recover_names nodes words i e
keyword_names keyword.Cut nodes words i e = cut_names nodes words i e
keyword_names keyword.Fault nodes words i e = fault_names nodes words i e
keyword_names keyword.Stop nodes words i e = of_node nodes words says.Stop i (λ n h. h) e
keyword_names keyword.Start nodes words i e = of_node nodes words says.Start i (λ n h. h) e
keyword_names keyword.Run nodes words i e = run_names nodes words i e
keyword_names keyword.Settle nodes words i e = settle_names nodes words i e
keyword_names keyword.Step nodes words i e = step_names nodes words i e
keyword_names keyword.Expect nodes words i e = expect_names nodes words i e

-- Each node that a line behind the head names is below the number of nodes.
pub body_names : (nodes : ℕ) (word : List ℕ) (words : List (List ℕ)) (i : Instruction) → Said.body_said nodes word words ≡ Ok i → Said.NamesBelow nodes i
unfolding Said.body_said
body_names nodes word words i e =
    let k = bind_ok (named keyword_name keywords word) _ i e in
    keyword_names k.0 nodes words i k.1.1

-- the head names at most 16 nodes, and no node
pub nodes_few : (shelves : ℕ) (words : List (List ℕ)) (i : Instruction) → Said.nodes_said shelves words ≡ Ok i → IsInRange i
unfolding Said.nodes_said
nodes_few shelves words i e =
    let w = bind_ok (Said.one_of words) _ i e in
    let k = kept ((kind.Number, is_number_within 1 16 w.0) ∷ (kind.TooManyNodes, nat_le (value_of w.0) shelves) ∷ []) (says.Nodes (value_of w.0)) i w.1.1 in
    subst IsInRange k.1 (leb-true (value_of w.0) 16 (and_parts (is_number w.0 && nat_le 1 (value_of w.0)) (nat_le (value_of w.0) 16) k.0.0).1)

pub seed_free : (words : List (List ℕ)) (i : Instruction) → Said.seed_said words ≡ Ok i → IsInRange i
unfolding Said.seed_said
seed_free words i e =
    let w = bind_ok (Said.one_of words) _ i e in
    let k = kept ((kind.Number, is_number w.0) ∷ []) (says.Seed (value_of w.0)) i w.1.1 in
    subst IsInRange k.1 tt

-- a line whose nodes are below 16
pub in_range : (nodes : ℕ) (i : Instruction) → nodes ≤ 16 → Said.NamesBelow nodes i → IsInRange i
in_range nodes (says.Nodes count) few names = absurd names
in_range nodes (says.Stop n) few names = omega arith
in_range nodes (says.Start n) few names = omega arith
in_range nodes _ few names = tt
