-- What words say, from what is found in them.
use Rattle.std.proofs.Common.{◌≡◌, ◌≢◌, ◌∙◌, ◌<◌, ◌^◌, ℕ, Bool, true, cond, nat_lt, List, [], ◌∷◌, length, Option, Some, None, Result, Ok, Err, Bor, refl, sym, ap, subst, arith, rules, codes}
use Rattle.std.specs.List.{list_all, slice_get}
use Rattle.std.specs.Option.{option_copied}
use Rattle.std.specs.Result.{OkIff, result_ok}
use Rattle.std.specs.Str.Parse.{ParsesUnsigned}
use Rattle.std.proofs.lemmas.Bool.{and_from, and_parts, cond-true, cond-false, false_from_ne_true, lt-ltb, ltb-true}
use Rattle.std.proofs.lemmas.Str.Parse.{IsNumeralModel, numerals_by_fold, parse_plain}
use Rattle.clap.specs.Walk.{first_of, rows_of}
use Rattle.clap.specs.Matches.{first_value, found_of}
use Rattle.clap.specs.declared.parser.matches.ArgMatches.{ArgMatches}
use Rattle.clap.proofs.WalkLemmas.{first_value-rows}
use Rattle.hd_base.specs.Numerals.{is_digit, read_on}
use Rattle.script_lang.specs.Numbers.{is_number, value_of}
use Rattle.run_words.specs.declared.call.Mode.{Mode}
use Rattle.run_words.specs.declared.call.Words.{Words}
use Rattle.run_words.specs.declared.faults.UsageRule.{UsageRule}
use Rattle.run_words.specs.declared.faults.UsageRule.TheVariants as rule
use Rattle.run_words.specs.declared.faults.WordsFault.{WordsFault}
use Rattle.run_words.specs.Commands.{words_rows, are_taken, mode_word, number_word, folder_word, has_loopback, is_said, source_of}
use Rattle.run_words.specs.Calls.{Reads, arguments_say, mode_said, number_said, loopback_said, say_behind_mode, say_behind_number, say_behind_loopback, words_of}

-- ---- what is found

word_at : (m : ArgMatches) (words : List (List ℕ)) (id : List ℕ) (o : Option (Bor (List ℕ))) → rows_of (found_of m) ≡ words_rows words → option_copied o ≡ first_value (found_of m) id → option_copied o ≡ first_of id (words_rows words)
word_at m words id o rows e = e ∙ first_value-rows (found_of m) id ∙ ap (first_of id) rows

-- what is read of the arguments that are found is what the words say
pub words_read : (words : List (List ℕ)) (m : ArgMatches) (mode number folder : Option (Bor (List ℕ))) (flag : Bool) (r : Result Words WordsFault) → are_taken words ≡ true → rows_of (found_of m) ≡ words_rows words → option_copied mode ≡ first_value (found_of m) (codes "mode") → option_copied number ≡ first_value (found_of m) (codes "number") → option_copied folder ≡ first_value (found_of m) (codes "folder")
    → flag ≡ is_said (source_of (codes "loopback") (rows_of (found_of m))) → Reads r (arguments_say (option_copied mode) (option_copied number) (option_copied folder) flag) → Reads r (words_of words)
words_read words m mode number folder flag r taken rows mode_is number_is folder_is flag_is said =
    let m_is = word_at m words (codes "mode") mode rows mode_is in
    let n_is = word_at m words (codes "number") number rows number_is in
    let d_is = word_at m words (codes "folder") folder rows folder_is in
    let f_is : flag ≡ has_loopback words = flag_is ∙ ap (λ rs. is_said (source_of (codes "loopback") rs)) rows in
    let same : arguments_say (option_copied mode) (option_copied number) (option_copied folder) flag ≡ arguments_say (mode_word words) (number_word words) (folder_word words) (has_loopback words) =
    ap (λ o. arguments_say o (option_copied number) (option_copied folder) flag) m_is ∙ ap (λ o. arguments_say (mode_word words) o (option_copied folder) flag) n_is
    ∙ ap (λ o. arguments_say (mode_word words) (number_word words) o flag) d_is ∙ ap (arguments_say (mode_word words) (number_word words) (folder_word words)) f_is in
    let all : words_of words ≡ arguments_say (mode_word words) (number_word words) (folder_word words) (has_loopback words) =
    ap (λ (t : Bool). cond t (arguments_say (mode_word words) (number_word words) (folder_word words) (has_loopback words)) (Err rule.Words)) taken in
    subst (Reads r) (same ∙ sym all) said

-- ---- rules, one behind the other

pub mode_breaks : (word number folder : Option (List ℕ)) (flag : Bool) (r : UsageRule) → Err r ≡ mode_said word → arguments_say word number folder flag ≡ Err r
mode_breaks word number folder flag r e = sym (ap (say_behind_mode number folder flag) e)

pub number_breaks : (word number folder : Option (List ℕ)) (flag : Bool) (m : Mode) (r : UsageRule) → Ok m ≡ mode_said word → Err r ≡ number_said m number → arguments_say word number folder flag ≡ Err r
number_breaks word number folder flag m r e f = sym (ap (say_behind_number m folder flag) f ∙ ap (say_behind_mode number folder flag) e)

pub all_kept : (word number folder read : Option (List ℕ)) (flag : Bool) (m : Mode) (n : Option ℕ) → Ok m ≡ mode_said word → Ok n ≡ number_said m number → Ok tt ≡ loopback_said m flag → read ≡ folder → arguments_say word number folder flag ≡ Ok (record { mode = m; number = n; folder = read; loopback = flag })
all_kept word number folder read flag m n e f h is =
    sym (ap (say_behind_loopback m n folder flag) h ∙ ap (say_behind_number m folder flag) f ∙ ap (say_behind_mode number folder flag) e)
    ∙ ap (λ (d : Option (List ℕ)). Ok (record { mode = m; number = n; folder = d; loopback = flag })) (sym is)

-- ---- numbers

own : IsNumeralModel (λ ds. list_all is_digit ds ≡ true) (read_on 0)
own = numerals_by_fold _ (search rules) read_on (search rules)

number_of : {E : Type 0} (b : ℕ) (bs : List ℕ) (r : Result ℕ E) → OkIff r ((list_all is_digit (b ∷ bs) ≡ true) × (0 < length (b ∷ bs)) × (read_on 0 (b ∷ bs) < 2 ^ 64)) (read_on 0 (b ∷ bs)) → result_ok r ≡ cond (is_number (b ∷ bs)) (Some (value_of (b ∷ bs))) None
number_of b bs (Ok n) h =
    let test : is_number (b ∷ bs) ≡ true = and_from (list_all is_digit (b ∷ bs)) _ h.0.0 (lt-ltb _ _ h.0.2) in
    ap Some h.1 ∙ sym (cond-true (is_number (b ∷ bs)) _ _ test)
number_of b bs (Err e) h = sym (cond-false _ _ _ (false_from_ne_true (is_number (b ∷ bs)) (λ all.
    let parts = and_parts (list_all is_digit (b ∷ bs)) (nat_lt (value_of (b ∷ bs)) (2 ^ 64)) all in
    h (parts.0, omega arith, ltb-true _ _ parts.1))))

-- what is parsed of a word that doesn't begin with `+`
pub number_parsed : {E : Type 0} (word : List ℕ) (first : ℕ) (r : Result ℕ E) → slice_get word 0 ≡ Some first → first ≢ 43 → ParsesUnsigned 64 10 word r → result_ok r ≡ cond (is_number word) (Some (value_of word)) None
number_parsed [] first r e apart h = absurd (none e)
  where
    none : None ≡ Some first → ⊥
    none e = cc
number_parsed (b ∷ bs) first r e apart h = number_of b bs r (parse_plain own 64 (b ∷ bs) r h (λ plus. apart (same e ∙ plus)))
  where
    same : Some b ≡ Some first → first ≡ b
    same e = cc

-- one that does is no number, and neither is nothing
pub plus_spells_none : (word : List ℕ) (first : ℕ) → slice_get word 0 ≡ Some first → first ≡ 43 → None ≡ cond (is_number word) (Some (value_of word)) None
plus_spells_none [] first e plus = refl
plus_spells_none (b ∷ bs) first e plus = go (same e ∙ plus)
  where
    same : Some b ≡ Some first → b ≡ first
    same e = cc

    go : b ≡ 43 → None ≡ cond (is_number (b ∷ bs)) (Some (value_of (b ∷ bs))) None
    go is = subst (λ x. None ≡ cond (is_number (x ∷ bs)) (Some (value_of (x ∷ bs))) None) (sym is) refl

pub nothing_spells_none : (word : List ℕ) → slice_get word 0 ≡ None → None ≡ cond (is_number word) (Some (value_of word)) None
nothing_spells_none [] e = refl
nothing_spells_none (b ∷ bs) e = absurd (some e)
  where
    some : Some b ≡ None → ⊥
    some e = cc
