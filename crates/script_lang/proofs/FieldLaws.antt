-- Words of report lines, one by one: what they print to is read again, and what is read is what they print to.
use Rattle.std.proofs.Common.{◌≡◌, ℕ, ◌/◌, ◌%◌, ◌^◌, ◌<◌, nat_lt, Bool, true, false, cond, List, [], ◌∷◌, length, map, bytes_eq, decimal, Option, Some, None, Result, Ok, Err, refl, sym, ◌∙◌, ap, subst, arith, append-nil}
use Rattle.std.specs.Int.{w32, to_be_bytes, from_be_bytes}
use Rattle.std.specs.List.{AllByRecursion}
use Rattle.std.proofs.lemmas.Bool.{ltb-true}
use Rattle.std.proofs.lemmas.Bool.Decides.{nat_tests}
use Rattle.std.proofs.lemmas.Slice.Eq.{bytes_eq-Decides}
use Rattle.std.proofs.lemmas.Nat.{be_bytes_4, from_be_bytes-to_be_bytes_4}
use Rattle.hex.specs.Hex.{encode_lower, decode_sized}
use Rattle.hex.specs.declared.error.FromHexError.{FromHexError}
use Rattle.hex.proofs.HexLemmas.{decode_sized-ok, decode_sized-twice, decode_of-ok, decode_sized-encode_lower}
use Rattle.hd_base.specs.Bytes.{IsBytes}
use Rattle.hd_base.proofs.ByteLaws.{IsBytes-cons}
use Rattle.hd_base.specs.Options.{◌>>=◌}
use Rattle.hd_base.proofs.OptionLaws.{bind_some, bind-Some, some_pair}
use Rattle.hd_base.specs.Blocks.{number_at}
use Rattle.hd_base.proofs.BlockLaws.{number_at-decimal, number_at-decimal_front, number_at-fits}
use Rattle.hd_base.specs.declared.numbers.NodeId.{NodeId}
use Rattle.script_lang.specs.Numbers.{node}
use Rattle.script_lang.specs.Reports.{sum_text, refusal_name}
use Rattle.hd_base.specs.Wire.{state_name}
use Rattle.hd_base.specs.declared.states.ReplicaState.{ReplicaState}
use Rattle.hd_base.specs.declared.states.ReplicaState.TheVariants as state
use Rattle.script_lang.specs.declared.report.OfficeRefusal.{OfficeRefusal}
use Rattle.script_lang.specs.declared.report.OfficeRefusal.TheVariants as refusal
use Rattle.script_lang.specs.declared.report_words.LineWord.{LineWord}
use Rattle.script_lang.specs.declared.report_words.LineWord.TheVariants as begins
use Rattle.script_lang.specs.declared.report_words.CommandWord.{CommandWord}
use Rattle.script_lang.specs.declared.report_words.CommandWord.TheVariants as command
use Rattle.script_lang.specs.declared.report_words.ResultWord.{ResultWord}
use Rattle.script_lang.specs.declared.report_words.ResultWord.TheVariants as word
use Rattle.script_lang.specs.Names.{states}
use Rattle.script_lang.specs.ReportReading.{found, whole, number_of, node_of, nodes_of, lower, sum_of, next, no_more, refusals, result_name, results, command_name, commands, line_name, line_names}

pub some_value : {A : Type 0} (x y : A) → Some x ≡ Some y → x ≡ y
some_value x y e = cc

nil_cons : {A : Type 0} (x : A) (xs : List A) → [] ≡ x ∷ xs → ⊥
nil_cons x xs e = cc

pub none_some : {A : Type 0} (x : A) → None ≡ Some x → ⊥
none_some x e = cc

-- a test that passed, or not
pub test_some : {A : Type 0} (b : Bool) (x y : A) → cond b (Some x) None ≡ Some y → (b ≡ true) × (x ≡ y)
test_some true x y e = (refl, cc)
test_some false x y e = cc

-- ---- numbers

pub number_again : (n : ℕ) → n < 2 ^ 64 → number_of (decimal n) ≡ Some n
unfolding number_of
number_again n fits = ap (λ t. whole (number_at t)) (sym (append-nil (decimal n))) ∙ ap whole (number_at-decimal n [] fits tt)

whole_some : (o : Option (ℕ × List ℕ)) (n : ℕ) → whole o ≡ Some n → o ≡ Some (n, [])
whole_some None n e = absurd (none_some n e)
whole_some (Some (m, [])) n e = ap (λ (k : ℕ). Some (k, [])) (some_value m n e)
whole_some (Some (m, c ∷ cs)) n e = absurd (none_some n e)

pub number_front : (text : List ℕ) (n : ℕ) → number_of text ≡ Some n → (text ≡ decimal n) × (n < 2 ^ 64)
unfolding number_of
number_front text n e =
    let at = whole_some (number_at text) n e in
    (number_at-decimal_front text n [] at ∙ append-nil (decimal n), number_at-fits text n [] at)

pub node_again : (n : NodeId) → n.0 < 2 ^ 32 → node_of (decimal n.0) ≡ Some n
unfolding node_of
node_again n fits =
    let small : nat_lt n.0 (2 ^ 32) ≡ true = grind (arith, nat_tests) in
    let wide : n.0 < 2 ^ 64 = omega arith in
    bind-Some (number_of (decimal n.0)) _ n.0 (number_again n.0 wide) ∙ rw small refl

pub node_front : (text : List ℕ) (n : NodeId) → node_of text ≡ Some n → (text ≡ decimal n.0) × (n.0 < 2 ^ 32)
unfolding node_of
node_front text n e =
    let number = bind_some (number_of text) _ n e in
    let test = test_some (nat_lt number.0 (2 ^ 32)) (node number.0) n number.1.1 in
    let same : number.0 ≡ n.0 = ap (λ (m : NodeId). m.0) test.1 in
    ((number_front text number.0 number.1.0).0 ∙ ap decimal same, subst (λ k. k < 2 ^ 32) same (ltb-true number.0 (2 ^ 32) test.0))

-- ---- sums

same_bytes : (xs : List ℕ) → bytes_eq xs xs ≡ true
same_bytes xs = (bytes_eq-Decides xs xs).1 refl

no_bytes : IsBytes []
no_bytes i = omega arith

four_bytes : (s : ℕ) → IsBytes (to_be_bytes w32 s)
four_bytes s =
    let b : List ℕ = s / 65536 % 256 ∷ s / 256 % 256 ∷ s % 256 ∷ [] in
    IsBytes-cons (s / 16777216 % 256) b (omega arith) (IsBytes-cons (s / 65536 % 256) (s / 256 % 256 ∷ s % 256 ∷ []) (omega arith) (IsBytes-cons (s / 256 % 256) (s % 256 ∷ []) (omega arith) (IsBytes-cons (s % 256) [] (omega arith) no_bytes)))

pub sum_again : (s : ℕ) → s < 2 ^ 32 → sum_of (sum_text s) ≡ Some s
unfolding sum_of sum_text
sum_again s fits =
    let bytes : List ℕ = to_be_bytes w32 s in
    let decoded = decode_sized-encode_lower bytes 4 refl (four_bytes s) in
    ap (lower (encode_lower bytes)) decoded ∙ rw (same_bytes (encode_lower bytes)) (ap Some (from_be_bytes-to_be_bytes_4 s fits))

lower_some : (text : List ℕ) (r : Result (List ℕ) FromHexError) (s : ℕ) → lower text r ≡ Some s → (bytes : List ℕ) × (r ≡ Ok bytes) × (encode_lower bytes ≡ text) × (from_be_bytes w32 bytes ≡ s)
lower_some text (Ok bytes) s e =
    let t = test_some (bytes_eq (encode_lower bytes) text) (from_be_bytes w32 bytes) s e in
    (bytes, refl, (bytes_eq-Decides (encode_lower bytes) text).0 t.0, t.1)
lower_some text (Err f) s e = absurd (none_some s e)

four_fit : (bytes : List ℕ) → length bytes ≡ 4 → IsBytes bytes → from_be_bytes w32 bytes < 2 ^ 32
four_fit (a ∷ b ∷ c ∷ d ∷ []) four fits = omega (arith, fits 0, fits 1, fits 2, fits 3)
four_fit [] four fits = absurd (omega arith)
four_fit (a ∷ []) four fits = absurd (omega arith)
four_fit (a ∷ b ∷ []) four fits = absurd (omega arith)
four_fit (a ∷ b ∷ c ∷ []) four fits = absurd (omega arith)
four_fit (a ∷ b ∷ c ∷ d ∷ e ∷ more) four fits = absurd (omega arith)

pub sum_front : (text : List ℕ) (s : ℕ) → sum_of text ≡ Some s → (text ≡ sum_text s) × (s < 2 ^ 32)
unfolding sum_of sum_text
sum_front text s e =
    let l = lower_some text (decode_sized text 4) s e in
    let long = decode_sized-ok text 4 l.0 l.1 in
    let ok = decode_of-ok text l.0 (sym (decode_sized-twice text 4 long) ∙ l.1) in
    let four : length l.0 ≡ 4 = omega (arith, ok.2, long) in
    (sym l.2 ∙ ap encode_lower (sym (be_bytes_4 l.0 s four ok.3 (sym l.3))), subst (λ k. k < 2 ^ 32) l.3 (four_fit l.0 four ok.3))

-- ---- words that stand for one thing each

pub found_front : {A : Type 0} (name : A → List ℕ) (all : List A) (text : List ℕ) (x : A) → found name all text ≡ Some x → text ≡ name x
found_front name [] text x e = absurd (none_some x e)
found_front name (y ∷ all) text x e = at (bytes_eq (name y) text) refl e (found_front name all text x) where
  at : (b : Bool) → bytes_eq (name y) text ≡ b → cond b (Some y) (found name all text) ≡ Some x → (found name all text ≡ Some x → text ≡ name x) → text ≡ name x
  at true t e more = sym ((bytes_eq-Decides (name y) text).0 t) ∙ ap name (some_value y x e)
  at false t e more = more e

-- ---- one word after the other

pub next_again : {A : Type 0} (says : List ℕ → Option A) (text : List ℕ) (texts : List (List ℕ)) (x : A) → says text ≡ Some x → next says (text ∷ texts) ≡ Some (x, texts)
unfolding next
next_again says text texts x e = bind-Some (says text) _ x e

-- the words were one that says this, and those behind it
pub record Takes {A : Type 0} (says : List ℕ → Option A) (words : List (List ℕ)) (x : A) (rest : List (List ℕ)) : Type 0 where
  pub text : List ℕ
  pub parts : words ≡ text ∷ rest
  pub is : says text ≡ Some x

pub next_front : {A : Type 0} (says : List ℕ → Option A) (words : List (List ℕ)) (x : A) (rest : List (List ℕ)) → next says words ≡ Some (x, rest) → Takes says words x rest
unfolding next
next_front says [] x rest e = absurd (none_some (x, rest) e)
next_front says (text ∷ texts) x rest e =
    let y = bind_some (says text) _ (x, rest) e in
    let p = some_pair y.0 x texts rest y.1.1 in
    record { text = text; parts = ap (λ l. text ∷ l) p.1; is = y.1.0 ∙ ap Some p.0 }

pub no_more_front : {A : Type 0} (x : A) (words : List (List ℕ)) (y : A) → no_more x words ≡ Some y → (words ≡ []) × (x ≡ y)
unfolding no_more
no_more_front x [] y e = (refl, some_value x y e)
no_more_front x (text ∷ texts) y e = absurd (none_some y e)

-- one word alone
pub one_again : {A B : Type 0} (says : List ℕ → Option A) (made : A → B) (text : List ℕ) (x : A) → says text ≡ Some x → (next says (text ∷ []) >>= (λ n. no_more (made n.0) n.1)) ≡ Some (made x)
unfolding no_more
one_again says made text x e = bind-Some (next says (text ∷ [])) (λ n. no_more (made n.0) n.1) (x, []) (next_again says text [] x e)

pub one_front : {A B : Type 0} (says : List ℕ → Option A) (made : A → B) (words : List (List ℕ)) (y : B) → (next says words >>= (λ n. no_more (made n.0) n.1)) ≡ Some y → (x : A) × Takes says words x [] × (made x ≡ y)
one_front says made words y e =
    let n = bind_some (next says words) (λ n. no_more (made n.0) n.1) y e in
    let m = no_more_front (made n.0.0) n.0.1 y n.1.1 in
    (n.0.0, next_front says words n.0.0 [] (n.1.0 ∙ ap (λ r. Some (n.0.0, r)) m.0), m.1)

-- the same of the first words of results, of commands, of refusals and states
pub refusal_again : (r : OfficeRefusal) → found refusal_name refusals (refusal_name r) ≡ Some r
unfolding refusal_name
refusal_again refusal.Known = refl
refusal_again refusal.Unknown = refl
refusal_again refusal.NotOpen = refl
refusal_again refusal.NotClosed = refl
refusal_again refusal.LeaseLost = refl
refusal_again refusal.OldStamp = refl
refusal_again refusal.OldRecovery = refl
refusal_again refusal.TooLong = refl
refusal_again refusal.Memory = refl

pub state_again : (s : ReplicaState) → found state_name states (state_name s) ≡ Some s
state_again state.Finalized = refl
state_again state.Rbw = refl
state_again state.Rwr = refl
state_again state.Rur = refl
state_again state.Temporary = refl

pub result_again : (w : ResultWord) → found result_name results (result_name w) ≡ Some w
unfolding result_name
result_again word.Ok = refl
result_again word.Abandoned = refl
result_again word.AllBad = refl
result_again word.Lost = refl
result_again word.Refused = refl
result_again word.Waiting = refl
result_again word.BadSum = refl
result_again word.Malformed = refl
result_again word.Ended = refl
result_again word.Nothing = refl
result_again word.Unequal = refl
result_again word.NoneUpdated = refl

pub command_again : (c : CommandWord) → found command_name commands (command_name c) ≡ Some c
unfolding command_name
command_again command.Create = refl
command_again command.Append = refl
command_again command.Hflush = refl
command_again command.Hsync = refl
command_again command.Close = refl

pub line_again : (w : LineWord) → found line_name line_names (line_name w) ≡ Some w
unfolding line_name
line_again begins.Replica = refl
line_again begins.Down = refl
line_again begins.Answer = refl
line_again begins.Read = refl
line_again begins.Recovery = refl
line_again begins.End = refl

-- ---- members

pub nodes_front : (texts : List (List ℕ)) (nodes : List NodeId) → nodes_of texts ≡ Some nodes → (texts ≡ map (λ n. decimal n.0) nodes) × AllByRecursion (λ n. n.0 < 2 ^ 32) nodes
nodes_front [] [] e = (refl, tt)
nodes_front [] (n ∷ nodes) e = absurd (let f = some_value [] (n ∷ nodes) e in nil_cons n nodes f)
nodes_front (text ∷ texts) nodes e =
    let first = bind_some (node_of text) _ nodes e in
    let others = bind_some (nodes_of texts) _ nodes first.1.1 in
    let f = node_front text first.0 first.1.0 in
    let o = nodes_front texts others.0 others.1.0 in
    let same : first.0 ∷ others.0 ≡ nodes = some_value (first.0 ∷ others.0) nodes others.1.1 in
    subst (λ ns. (text ∷ texts ≡ map (λ n. decimal n.0) ns) × AllByRecursion (λ n. n.0 < 2 ^ 32) ns) same (ap (λ l. l ∷ texts) f.0 ∙ ap (λ l. decimal first.0.0 ∷ l) o.0, (f.1, o.1))

pub nodes_again : (nodes : List NodeId) → AllByRecursion (λ n. n.0 < 2 ^ 32) nodes → nodes_of (map (λ n. decimal n.0) nodes) ≡ Some nodes
nodes_again [] all = refl
nodes_again (n ∷ nodes) all =
    bind-Some (node_of (decimal n.0)) _ n (node_again n all.0) ∙ bind-Some (nodes_of (map (λ n. decimal n.0) nodes)) _ nodes (nodes_again nodes all.1)
