-- What a line says, its members are some and distinct, and its chunks have a size.
use Rattle.std.proofs.Common.{◌≡◌, ◌==◌, ℕ, ◌-◌, ◌^◌, ◌&&◌, nat_le, Bool, true, false, cond, List, [], ◌∷◌, ◌⊎◌, length, codes, bytes_eq, find, Some, None, Result, Ok, Err, inl, inr, refl, sym, ◌∙◌, ap, subst}
use Rattle.std.specs.Option.{ok_or}
use Rattle.std.proofs.lemmas.Bool.{and_parts, leb-true}
use Rattle.std.specs.Prelude.{not}
use Rattle.std.specs.Result.{is_ok, result_unwrap_or}
use Rattle.hex.specs.Hex.{decode_of}
use Rattle.hex.specs.declared.error.FromHexError.{FromHexError}
use Rattle.hex.proofs.HexLemmas.{decode_of-ok}
use Rattle.hd_base.specs.Bytes.{IsBytes}
use Rattle.hd_base.specs.Results.{◌>>=◌}
use Rattle.hd_base.specs.SumRules.{Rule, IsChunkSize}
use Rattle.hd_base.specs.Wire.{state_name}
use Rattle.hd_base.proofs.ResultLaws.{bind_ok, ok_value, err_ok}
use Rattle.hd_base.specs.declared.numbers.NodeId.{NodeId}
use Rattle.script_lang.specs.declared.faults.BadKind.{BadKind}
use Rattle.script_lang.specs.declared.faults.BadKind.TheVariants as kind
use Rattle.script_lang.specs.declared.instructions.Instruction.{Instruction}
use Rattle.script_lang.specs.declared.instructions.Instruction.TheVariants as says
use Rattle.script_lang.specs.declared.instructions.StepEvent.{StepEvent}
use Rattle.script_lang.specs.declared.instructions.StepEvent.TheVariants as step
use Rattle.script_lang.specs.Rules.{by_rules, AllKept}
use Rattle.script_lang.specs.Words.{is_nothing, words_of}
use Rattle.script_lang.specs.Names.{named, keyword_name, keywords, sum_name, sum_kinds, states, event_name, events}
use Rattle.script_lang.specs.Numbers.{value_of, is_number, is_number_within, is_hex, bytes_of, are_items, are_members, members_of}
use Rattle.script_lang.specs.Said
use Rattle.script_lang.specs.Fits.{Before, start, after}
use Rattle.script_lang.specs.Scripts.{line_said, line_rules, words_said, some_said, is_comment, command_said, head_said}
use Rattle.script_lang.proofs.SaidLaws.{kept}
use Rattle.play_laws.specs.World.Clients as clients
use Rattle.play_scripts.proofs.MemberWords.{some_members, formed_members}

-- at least one member and at most 16, none of them twice
pub record AreFormed (members : List NodeId) : Type 0 where
  pub some : (length members == 0) ≡ false
  pub formed : clients.are_members members ≡ true

abbrev pub IsFormed : Instruction → Type 0
IsFormed (says.Sums block rule) = IsChunkSize rule.chunk
IsFormed (says.Create block members) = AreFormed members
IsFormed (says.Append block members) = AreFormed members
IsFormed (says.Write block bytes) = IsBytes bytes
IsFormed (says.Recover block at members) = AreFormed members
IsFormed other = Unit {0}

-- NAMES

-- this, where each of these is so
abbrev WhereEach : {A : Type 0} → (A → Type 0) → List A → Type 0 → Type 0
WhereEach P [] R = R
WhereEach P (x ∷ all) R = P x → WhereEach P all R

anyway : {A : Type 0} (P : A → Type 0) (all : List A) (R : Type 0) → R → WhereEach P all R
anyway P [] R r = r
anyway P (x ∷ all) R r = λ _. anyway P all R r

-- what is so of each of these is so of the one that a word names
one_named : {A : Type 0} (name : A → List ℕ) (P : A → Type 0) (all : List A) (word : List ℕ) (k : A) → named name all word ≡ Ok k → WhereEach P all (P k)
one_named name P [] word k e = absurd (err_ok kind.Word k e)
one_named name P (x ∷ all) word k e = λ first. at (bytes_eq (name x) word) first e (one_named name P all word k) where
  at : (b : Bool) → P x → ok_or (cond b (Some x) (find (λ x. bytes_eq (name x) word) all)) kind.Word ≡ Ok k → (named name all word ≡ Ok k → WhereEach P all (P k)) → WhereEach P all (P k)
  at true first e more = anyway P all (P k) (subst P (ok_value x k e) first)
  at false first e more = more e

-- RULES

-- what is said where rules are kept
said : (rules : List (BadKind × Bool)) (line i : Instruction) → (AllKept rules → IsFormed line) → by_rules rules line ≡ Ok i → IsFormed i
said rules line i formed e = let k = kept rules line i e in subst IsFormed k.1 (formed k.0)

members_formed : (nodes : ℕ) (block members : List ℕ) → AllKept (Said.members_rules nodes block members) → AreFormed (members_of members)
members_formed nodes block members k = record { some = some_members members; formed = formed_members nodes members k.1.0 }

chunk_formed : (chunk : List ℕ) → is_number_within 16 65536 chunk ≡ true → IsChunkSize (value_of chunk)
chunk_formed chunk e =
    let most = and_parts (is_number chunk && nat_le 16 (value_of chunk)) (nat_le (value_of chunk) 65536) e in
    let least = and_parts (is_number chunk) (nat_le 16 (value_of chunk)) most.0 in
    record { least = leb-true 16 (value_of chunk) least.1; greatest = leb-true (value_of chunk) 65536 most.1 }

-- what pairs of hexadecimal digits spell
spelled_bytes : (word : List ℕ) → is_hex word ≡ true → IsBytes (bytes_of word)
spelled_bytes word e = by (decode_of word) refl (and_parts (not (is_nothing word)) (is_ok (decode_of word)) e).1
  where
    by : (r : Result (List ℕ) FromHexError) → decode_of word ≡ r → is_ok r ≡ true → IsBytes (result_unwrap_or r [])
    by (Ok bytes) is ok = (decode_of-ok word bytes is).3
    by (Err why) is ok = absurd (never ok)
      where
        never : false ≡ true → ⊥
        never e = cc

-- WORDS

sums_formed : (words : List (List ℕ)) (i : Instruction) → Said.sums_said words ≡ Ok i → IsFormed i
unfolding Said.sums_said
sums_formed words i e =
    let block = bind_ok (Said.next_of words) _ i e in
    let sums = bind_ok (Said.next_of block.0.1) _ i block.1.1 in
    let sum_kind = bind_ok (named sum_name sum_kinds sums.0.0) _ i sums.1.1 in
    let chunk = bind_ok (Said.one_of sums.0.1) _ i sum_kind.1.1 in
    let rule : Rule = record { kind = sum_kind.0; chunk = value_of chunk.0 } in
    said ((kind.Number, is_number block.0.0 && is_number_within 16 65536 chunk.0) ∷ []) (says.Sums (Said.block_of block.0.0) rule) i
    (λ k. chunk_formed chunk.0 (and_parts (is_number block.0.0) (is_number_within 16 65536 chunk.0) k.0).1) chunk.1.1

create_formed : (nodes : ℕ) (words : List (List ℕ)) (i : Instruction) → Said.create_said nodes words ≡ Ok i → IsFormed i
unfolding Said.create_said
create_formed nodes words i e =
    let w = bind_ok (Said.two_of words) _ i e in
    said (Said.members_rules nodes w.0.0 w.0.1) (says.Create (Said.block_of w.0.0) (members_of w.0.1)) i (members_formed nodes w.0.0 w.0.1) w.1.1

append_formed : (nodes : ℕ) (words : List (List ℕ)) (i : Instruction) → Said.append_said nodes words ≡ Ok i → IsFormed i
unfolding Said.append_said
append_formed nodes words i e =
    let w = bind_ok (Said.two_of words) _ i e in
    said (Said.members_rules nodes w.0.0 w.0.1) (says.Append (Said.block_of w.0.0) (members_of w.0.1)) i (members_formed nodes w.0.0 w.0.1) w.1.1

write_formed : (words : List (List ℕ)) (i : Instruction) → Said.write_said words ≡ Ok i → IsFormed i
unfolding Said.write_said
write_formed words i e =
    let w = bind_ok (Said.two_of words) _ i e in
    said ((kind.Number, is_number w.0.0) ∷ (kind.Hex, is_hex w.0.1) ∷ []) (says.Write (Said.block_of w.0.0) (bytes_of w.0.1)) i (λ k. spelled_bytes w.0.1 k.1.0) w.1.1

fill_formed : (words : List (List ℕ)) (i : Instruction) → Said.fill_said words ≡ Ok i → IsFormed i
unfolding Said.fill_said
fill_formed words i e =
    let w = bind_ok (Said.two_of words) _ i e in
    said ((kind.Number, is_number w.0.0 && is_number_within 1 (2 ^ 64 - 1) w.0.1) ∷ []) (says.Fill (Said.block_of w.0.0) (value_of w.0.1)) i (λ _. tt) w.1.1

read_formed : (nodes : ℕ) (words : List (List ℕ)) (i : Instruction) → Said.read_said nodes words ≡ Ok i → IsFormed i
unfolding Said.read_said
read_formed nodes words i e =
    let w = bind_ok (Said.four_of words) _ i e in
    said (Said.numbers_rule (w.0.0 ∷ w.0.1 ∷ w.0.2 ∷ w.0.3 ∷ []) ∷ Said.node_rule nodes w.0.1 ∷ []) (says.Read (Said.block_of w.0.0) (Said.node_of w.0.1) (value_of w.0.2) (value_of w.0.3)) i (λ _. tt) w.1.1

recover_formed : (nodes : ℕ) (words : List (List ℕ)) (i : Instruction) → Said.recover_said nodes words ≡ Ok i → IsFormed i
unfolding Said.recover_said
recover_formed nodes words i e =
    let w = bind_ok (Said.three_of words) _ i e in
    said ((kind.Number, is_number w.0.0 && is_number w.0.1 && are_items w.0.2) ∷ (kind.Member, are_members nodes w.0.2) ∷ Said.node_rule nodes w.0.1 ∷ []) (says.Recover (Said.block_of w.0.0) (Said.node_of w.0.1) (members_of w.0.2)) i
    (λ k. record { some = some_members w.0.2; formed = formed_members nodes w.0.2 k.1.0 }) w.1.1

cut_formed : (words : List (List ℕ)) (i : Instruction) → Said.cut_said words ≡ Ok i → IsFormed i
unfolding Said.cut_said
cut_formed words i e =
    let w = bind_ok (Said.four_of words) _ i e in
    said (Said.numbers_rule (w.0.0 ∷ w.0.1 ∷ w.0.2 ∷ w.0.3 ∷ []) ∷ []) (says.Cut (Said.block_of w.0.0) (value_of w.0.1) (value_of w.0.2) (value_of w.0.3)) i (λ _. tt) w.1.1

fault_formed : (nodes : ℕ) (words : List (List ℕ)) (i : Instruction) → Said.fault_said nodes words ≡ Ok i → IsFormed i
unfolding Said.fault_said
fault_formed nodes words i e =
    let w = bind_ok (Said.two_of words) _ i e in
    said ((kind.Number, is_number w.0.0 && is_number_within 1 (2 ^ 64 - 1) w.0.1) ∷ Said.node_rule nodes w.0.0 ∷ []) (says.Fault (Said.node_of w.0.0) (value_of w.0.1)) i (λ _. tt) w.1.1

run_formed : (words : List (List ℕ)) (i : Instruction) → Said.run_said words ≡ Ok i → IsFormed i
unfolding Said.run_said
run_formed words i e =
    let w = bind_ok (Said.one_of words) _ i e in
    said ((kind.Number, is_number_within 0 1000000 w.0) ∷ []) (says.Run (value_of w.0)) i (λ _. tt) w.1.1

settle_formed : (words : List (List ℕ)) (i : Instruction) → Said.settle_said words ≡ Ok i → IsFormed i
unfolding Said.settle_said
settle_formed words i e = said [] says.Settle i (λ _. tt) (bind_ok (Said.none_of words) _ i e).1.1

writer_formed : (block : List ℕ) (words : List (List ℕ)) (i : Instruction) → Said.writer_said block words ≡ Ok i → IsFormed i
unfolding Said.writer_said
writer_formed block words i e = said ((kind.Number, is_number block) ∷ []) (says.Step (Said.block_of block) step.Writer) i (λ _. tt) (bind_ok (Said.none_of words) _ i e).1.1

connection_formed : (made : ℕ → StepEvent) (block : List ℕ) (words : List (List ℕ)) (i : Instruction) → Said.connection_said made block words ≡ Ok i → IsFormed i
unfolding Said.connection_said
connection_formed made block words i e =
    let w = bind_ok (Said.one_of words) _ i e in
    said (Said.numbers_rule (block ∷ w.0 ∷ []) ∷ []) (says.Step (Said.block_of block) (made (value_of w.0))) i (λ _. tt) w.1.1

step_formed : (words : List (List ℕ)) (i : Instruction) → Said.step_said words ≡ Ok i → IsFormed i
unfolding Said.step_said
step_formed words i e =
    let block = bind_ok (Said.next_of words) _ i e in
    let name = bind_ok (Said.next_of block.0.1) _ i block.1.1 in
    let event = bind_ok (named event_name events name.0.0) _ i name.1.1 in
    one_named event_name (λ k. (i : Instruction) → Said.event_said k block.0.0 name.0.1 ≡ Ok i → IsFormed i) events name.0.0 event.0 event.1.0
    (writer_formed block.0.0 name.0.1) (connection_formed step.Down block.0.0 name.0.1) (connection_formed step.Ready block.0.0 name.0.1) (connection_formed step.Up block.0.0 name.0.1)
    i event.1.1

expect_formed : (nodes : ℕ) (words : List (List ℕ)) (i : Instruction) → Said.expect_said nodes words ≡ Ok i → IsFormed i
unfolding Said.expect_said
expect_formed nodes words i e =
    let first = bind_ok (Said.next_of words) _ i e in
    let block = bind_ok (Said.next_of first.0.1) _ i first.1.1 in
    let name = bind_ok (Said.next_of block.0.1) _ i block.1.1 in
    let state = bind_ok (named state_name states name.0.0) _ i name.1.1 in
    let w = bind_ok (Said.two_of name.0.1) _ i state.1.1 in
    said (Said.numbers_rule (first.0.0 ∷ block.0.0 ∷ w.0.0 ∷ w.0.1 ∷ []) ∷ Said.node_rule nodes first.0.0 ∷ []) (says.Expect (Said.node_of first.0.0) (Said.block_of block.0.0) state.0 (Said.stamp_of w.0.0) (value_of w.0.1)) i (λ _. tt) w.1.1

-- a line of a block alone, or of a node alone
of_one : {A : Type 0} (one : Result A BadKind) (made : A → Instruction) → ((a : A) → IsFormed (made a)) → (i : Instruction) → (one >>= (λ a. Ok (made a))) ≡ Ok i → IsFormed i
of_one one made free i e =
    let a = bind_ok one (λ a. Ok (made a)) i e in
    subst IsFormed (ok_value (made a.0) i a.1.1) (free a.0)

body_formed : (nodes : ℕ) (word : List ℕ) (words : List (List ℕ)) (i : Instruction) → Said.body_said nodes word words ≡ Ok i → IsFormed i
unfolding Said.body_said
body_formed nodes word words i e =
    let k = bind_ok (named keyword_name keywords word) _ i e in
    one_named keyword_name (λ k. (i : Instruction) → Said.keyword_said k nodes words ≡ Ok i → IsFormed i) keywords word k.0 k.1.0
    (sums_formed words) (create_formed nodes words) (append_formed nodes words) (write_formed words) (fill_formed words)
    (of_one (Said.block_said words) says.Hflush (λ b. tt)) (of_one (Said.block_said words) says.Hsync (λ b. tt)) (of_one (Said.block_said words) says.Close (λ b. tt))
    (read_formed nodes words) (recover_formed nodes words) (cut_formed words) (fault_formed nodes words)
    (of_one (Said.node_said nodes words) says.Stop (λ n. tt)) (of_one (Said.node_said nodes words) says.Start (λ n. tt))
    (run_formed words) (settle_formed words) (step_formed words) (expect_formed nodes words)
    i k.1.1

nodes_formed : (shelves : ℕ) (words : List (List ℕ)) (i : Instruction) → Said.nodes_said shelves words ≡ Ok i → IsFormed i
unfolding Said.nodes_said
nodes_formed shelves words i e =
    let w = bind_ok (Said.one_of words) _ i e in
    said ((kind.Number, is_number_within 1 16 w.0) ∷ (kind.TooManyNodes, nat_le (value_of w.0) shelves) ∷ []) (says.Nodes (value_of w.0)) i (λ _. tt) w.1.1

seed_formed : (words : List (List ℕ)) (i : Instruction) → Said.seed_said words ≡ Ok i → IsFormed i
unfolding Said.seed_said
seed_formed words i e =
    let w = bind_ok (Said.one_of words) _ i e in
    said ((kind.Number, is_number w.0) ∷ []) (says.Seed (value_of w.0)) i (λ _. tt) w.1.1

-- LINES

headed : (name word : List ℕ) (words : Result Instruction BadKind) (i : Instruction) → head_said name word words ≡ Ok i → words ≡ Ok i
headed name word words i e = at (bytes_eq word name) e where
  at : (b : Bool) → cond b words (Err kind.Head) ≡ Ok i → words ≡ Ok i
  at true e = e
  at false e = absurd (err_ok kind.Head i e)

-- which line of the head is next
abbrev pub HeadIs : Before → Type 0
HeadIs before = (before.head ≡ start.head) ⊎ ((before.head ≡ (after start (says.Nodes 0)).head) ⊎ (before.head ≡ (after start (says.Seed 0)).head))

pub head_stays : (before : Before) (i : Instruction) → HeadIs before → HeadIs (after before i)
head_stays before (says.Nodes count) h = inr (inl refl)
head_stays before (says.Seed seed) h = inr (inr refl)
head_stays before _ h = h

command_formed : (shelves : ℕ) (before : Before) (word : List ℕ) (words : List (List ℕ)) (i : Instruction) → HeadIs before → command_said before.head shelves before.nodes word words ≡ Ok i → IsFormed i
unfolding command_said
command_formed shelves before word words i h e =
    elim h [
      | inl first ↦
          let f : command_said start.head shelves before.nodes word words ≡ Ok i = sym (ap (λ h. command_said h shelves before.nodes word words) first) ∙ e in
          nodes_formed shelves words i (headed (codes "nodes") word (Said.nodes_said shelves words) i f)
      | inr later ↦
          elim later [
            | inl second ↦
                let f : command_said (after start (says.Nodes 0)).head shelves before.nodes word words ≡ Ok i = sym (ap (λ h. command_said h shelves before.nodes word words) second) ∙ e in
                seed_formed words i (headed (codes "seed") word (Said.seed_said words) i f)
            | inr body ↦
                let f : command_said (after start (says.Seed 0)).head shelves before.nodes word words ≡ Ok i = sym (ap (λ h. command_said h shelves before.nodes word words) body) ∙ e in
                body_formed before.nodes word words i f
          ]
    ]

none_some : (i : Instruction) → None ≡ Some i → ⊥
none_some i e = cc

some_ok : (r : Result Instruction BadKind) (i : Instruction) → some_said r ≡ Ok (Some i) → r ≡ Ok i
some_ok (Ok j) i e = let f : Some j ≡ Some i = ok_value (Some j) (Some i) e in cc
some_ok (Err k) i e = absurd (err_ok k (Some i) e)

words_formed : (shelves : ℕ) (before : Before) (all : List (List ℕ)) (i : Instruction) → HeadIs before → words_said shelves before all ≡ Ok (Some i) → IsFormed i
unfolding words_said
words_formed shelves before [] i h e = absurd (none_some i (ok_value None (Some i) e))
words_formed shelves before (word ∷ words) i h e = at (is_comment word) e where
  at : (b : Bool) → cond b (Ok None) (some_said (command_said before.head shelves before.nodes word words)) ≡ Ok (Some i) → IsFormed i
  at true e = absurd (none_some i (ok_value None (Some i) e))
  at false e = command_formed shelves before word words i h (some_ok (command_said before.head shelves before.nodes word words) i e)

-- What a line says is formed.
pub line_formed : (shelves number : ℕ) (before : Before) (line : List ℕ) (i : Instruction) → HeadIs before → line_said shelves number before line ≡ Ok (Some i) → IsFormed i
line_formed shelves number before line i h e =
    words_formed shelves before (words_of line) i h (bind_ok (by_rules {A = Unit {0}} (line_rules number line) tt) (λ kept. words_said shelves before (words_of line)) (Some i) e).1.1
