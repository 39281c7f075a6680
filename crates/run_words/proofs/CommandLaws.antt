-- What `clap` says of the command of a call, over its rows.
use Rattle.std.proofs.Common.{◌≡◌, ◌∙◌, ◌⊎◌, ℕ, true, cond, List, [], ◌∷◌, Option, Some, None, Result, Ok, Err, inl, inr, refl, sym, ap, subst}
use Rattle.std.specs.List.{find}
use Rattle.std.specs.Str.{bytes_eq}
use Rattle.std.specs.Option.{option_map}
use Rattle.std.specs.Prelude.{option_and_then}
use Rattle.clap.specs.Facts.{Entry}
use Rattle.clap.specs.Walk.{Row, row_of, rows_of}
use Rattle.clap.specs.Simple.{App, HasMatchesOf, is_simple, matches_of}
use Rattle.clap.specs.Kinds.{FailsBy, HasKind, IsAmong, Kinds}
use Rattle.clap.specs.Faults.{fault_of, is_simple_and_free}
use Rattle.clap.specs.Matches.{found_of, matched_of}
use Rattle.clap.specs.Values.{kind_of}
use Rattle.clap.specs.declared.error.Error.{Error}
use Rattle.clap.specs.declared.error.kind.ErrorKind.{ErrorKind}
use Rattle.clap.specs.declared.error.kind.ErrorKind.TheVariants.{OutOfMemory}
use Rattle.clap.specs.declared.parser.matches.ArgMatches.{ArgMatches}
use Rattle.clap.specs.declared.parser.matches.Found.{Found}
use Rattle.clap.specs.declared.parser.matches.MatchedArg.{MatchedArg}
use Rattle.clap.proofs.WalkLemmas.{find_row}
use Rattle.run_words.specs.declared.call.Words.{Words}
use Rattle.run_words.specs.declared.faults.UsageRule.{UsageRule}
use Rattle.run_words.specs.declared.faults.WordsFault.{WordsFault}
use Rattle.run_words.specs.declared.faults.UsageRule.TheVariants as rule
use Rattle.run_words.specs.Commands.{words_app, words_fault, words_rows, is_faultless, source_of, mode_word, number_word, folder_word, has_loopback}
use Rattle.run_words.specs.Calls.{Reads, refusal_of, arguments_say, words_of}

-- `clap` is exact about the command
app_is_free : is_simple_and_free words_app ≡ true
unfolding words_app
app_is_free = refl

app_is_simple : is_simple words_app ≡ true
unfolding words_app
app_is_simple = refl

-- a parse of the command fails by the words' faults
pub fails : {T : Type 0} (a : App) (words : List (List ℕ)) (r : Result T Error) → a ≡ words_app → (is_simple_and_free a ≡ true → FailsBy (fault_of a words) r) → FailsBy (words_fault words) r
unfolding words_fault
fails a words r e h = subst (λ (x : App). FailsBy (fault_of x words) r) e (h (ap is_simple_and_free e ∙ app_is_free))

-- and finds the words' rows
pub finds : (a : App) (words : List (List ℕ)) (m : ArgMatches) → a ≡ words_app → HasMatchesOf a words m → rows_of (found_of m) ≡ words_rows words
unfolding words_rows
finds a words m e h = (h (ap is_simple e ∙ app_is_simple)).0 ∙ ap (λ (x : App). matches_of x words) e

-- words that are parsed have no fault
pub parsed_taken : {T : Type 0} (kinds : Kinds) (r : Result T Error) (m : T) → r ≡ Ok m → FailsBy kinds r → is_faultless kinds ≡ true
parsed_taken kinds r m e h = ap is_faultless (subst (FailsBy kinds) e h)

any_refusal : (k : ErrorKind) → Reads (Err (refusal_of k)) (Err rule.Words)
any_refusal OutOfMemory = tt
any_refusal _ = refl

refused_read : (kinds : Kinds) (k : ErrorKind) (said : Result Words UsageRule) → (k ≡ OutOfMemory) ⊎ IsAmong k kinds → Reads (Err (refusal_of k)) (cond (is_faultless kinds) said (Err rule.Words))
refused_read [] k said (inl e) = subst (λ (x : ErrorKind). Reads (Err (refusal_of x)) said) (sym e) tt
refused_read [] k said (inr h) = absurd h
refused_read (x ∷ xs) k said h = any_refusal k

-- words that aren't have one, unless memory ran out
pub refused_by : {T : Type 0} (words : List (List ℕ)) (r : Result T Error) (e : Error) (k : ErrorKind) (f : WordsFault) → FailsBy (words_fault words) r → r ≡ Err e → k ≡ kind_of e → f ≡ refusal_of k → Reads (Err f) (words_of words)
refused_by words r e k f h is kind refusal =
    let has : HasKind (words_fault words) e = subst (FailsBy (words_fault words)) is h in
    subst (λ (x : WordsFault). Reads (Err x) (words_of words)) (sym (refusal ∙ ap refusal_of kind))
    (refused_read (words_fault words) (kind_of e) (arguments_say (mode_word words) (number_word words) (folder_word words) (has_loopback words)) has)

-- where a value comes from stands in its row
pub source_at : (f : Found) (id : List ℕ) → option_and_then (λ (a : MatchedArg). a.source) (matched_of f id) ≡ source_of id (rows_of f)
source_at f id = go (find (λ (e : Entry). bytes_eq e.0.now id) f.entries.items) ∙ ap (option_and_then (λ (r : Row). r.source)) (sym (find_row f.entries.items id))
  where
    go : (o : Option Entry) → option_and_then (λ (a : MatchedArg). a.source) (option_map (λ e. e.1) o) ≡ option_and_then (λ (r : Row). r.source) (option_map row_of o)
    go None = refl
    go (Some e) = refl
