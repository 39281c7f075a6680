-- What `clap` finds in the words of a call.
use Rattle.std.specs.Prelude.{ℕ, Bool, true, false, List, [], ◌∷◌, Option, Some, codes, find, option_and_then}
use Rattle.std.specs.Str.{bytes_eq}
use Rattle.clap.specs.Walk.{Row, Rule, first_of}
use Rattle.clap.specs.Simple.{App, matches_of, new_app, new_rule, on_top, with_rule}
use Rattle.clap.specs.Kinds.{Kinds}
use Rattle.clap.specs.Faults.{fault_of}
use Rattle.clap.specs.declared.builder.action.ArgAction.TheVariants.{SetTrue}
use Rattle.clap.specs.declared.parser.matches.ValueSource.{ValueSource}
use Rattle.clap.specs.declared.parser.matches.ValueSource.TheVariants.{CommandLine}

-- a mode must be there
abbrev pub mode_rule : Rule
mode_rule = record (new_rule (codes "mode")) { required = true }

-- a number may
abbrev pub number_rule : Rule
number_rule = new_rule (codes "number")

-- and the option --folder with a path
abbrev pub folder_rule : Rule
folder_rule = record (new_rule (codes "folder")) { long = Some (codes "folder") }

-- and the flag --loopback
abbrev pub loopback_rule : Rule
loopback_rule = record (new_rule (codes "loopback")) { long = Some (codes "loopback"); action = Some SetTrue }

-- a command whose words are those behind the program's name
abbrev pub without_name : App → App
without_name = on_top (λ s. record s { no_binary_name = true })

-- the command of a call
unfoldable pub words_app : App
words_app =
    with_rule (with_rule (with_rule (with_rule (without_name (new_app (codes "dn"))) mode_rule) number_rule) folder_rule)
    loopback_rule

-- no kind of fault
abbrev pub is_faultless : Kinds → Bool
is_faultless [] = true
is_faultless (kind ∷ kinds) = false

-- the kinds of fault that the words have for the command
unfoldable pub words_fault : List (List ℕ) → Kinds
words_fault words = fault_of words_app words

-- what the command finds in the words
unfoldable pub words_rows : List (List ℕ) → List Row
words_rows words = matches_of words_app words

-- whether the command takes the words
abbrev pub are_taken : List (List ℕ) → Bool
are_taken words = is_faultless (words_fault words)

-- the first word that isn't a flag, and the second
abbrev pub mode_word : List (List ℕ) → Option (List ℕ)
mode_word words = first_of (codes "mode") (words_rows words)

abbrev pub number_word : List (List ℕ) → Option (List ℕ)
number_word words = first_of (codes "number") (words_rows words)

-- the path behind --folder
abbrev pub folder_word : List (List ℕ) → Option (List ℕ)
folder_word words = first_of (codes "folder") (words_rows words)

-- whether a value stands in the words, and isn't a default
abbrev pub is_said : Option ValueSource → Bool
is_said (Some CommandLine) = true
is_said _ = false

-- where the value of an argument comes from
abbrev pub source_of : List ℕ → List Row → Option ValueSource
source_of id rows = option_and_then (λ r. r.source) (find (λ r. bytes_eq r.id id) rows)

-- whether the words have the flag
abbrev pub has_loopback : List (List ℕ) → Bool
has_loopback words = is_said (source_of (codes "loopback") (words_rows words))
