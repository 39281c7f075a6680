-- What the words of a call say, by the rules in their order.
use Rattle.std.specs.Prelude.{◌≡◌, ℕ, Bool, true, false, not, if◌then◌else◌, List, [], ◌∷◌, Option, Some, None, option_map, option_and_then, Result, Ok, Err, codes, find, bytes_eq}
use Rattle.std.specs.Option.{ok_or}
use Rattle.clap.specs.declared.error.kind.ErrorKind.{ErrorKind}
use Rattle.clap.specs.declared.error.kind.ErrorKind.TheVariants.{OutOfMemory}
use Rattle.script_lang.specs.Numbers.{is_number, value_of}
use Rattle.run_words.specs.declared.call.Mode.{Mode}
use Rattle.run_words.specs.declared.call.Mode.TheVariants as mode
use Rattle.run_words.specs.declared.call.Words.{Words}
use Rattle.run_words.specs.declared.faults.UsageRule.{UsageRule}
use Rattle.run_words.specs.declared.faults.UsageRule.TheVariants as rule
use Rattle.run_words.specs.declared.faults.WordsFault.{WordsFault}
use Rattle.run_words.specs.declared.faults.WordsFault.TheVariants as fault
use Rattle.run_words.specs.Commands.{are_taken, mode_word, number_word, folder_word, has_loopback}

-- the word of each mode
abbrev pub mode_name : Mode → List ℕ
mode_name mode.Play = codes "play"
mode_name mode.Live = codes "live"
mode_name mode.Storm = codes "storm"

abbrev pub modes : List Mode
modes = mode.Play ∷ mode.Live ∷ mode.Storm ∷ []

-- the mode that a word names
abbrev pub mode_named : List ℕ → Option Mode
mode_named word = find (λ m. bytes_eq (mode_name m) word) modes

-- a storm has a number, in decimal digits and of 64 bits, and no other mode has one
abbrev pub keeps_number : Mode → Option (List ℕ) → Bool
keeps_number mode.Storm (Some word) = is_number word
keeps_number mode.Storm None = false
keeps_number _ (Some word) = false
keeps_number _ None = true

-- the number that a word spells for a mode
abbrev pub number_said : Mode → Option (List ℕ) → Result (Option ℕ) UsageRule
number_said m word = if keeps_number m word then Ok (option_map value_of word) else Err rule.Number

-- the flag is for live runs alone
abbrev pub keeps_loopback : Mode → Bool → Bool
keeps_loopback mode.Live loopback = true
keeps_loopback _ loopback = not loopback

-- what the rule Loopback says
abbrev pub loopback_said : Mode → Bool → Result (Unit {0}) UsageRule
loopback_said m loopback = if keeps_loopback m loopback then Ok tt else Err rule.Loopback

-- the mode that a word names, if there is a word
abbrev pub mode_said : Option (List ℕ) → Result Mode UsageRule
mode_said word = ok_or (option_and_then mode_named word) rule.Mode

-- by the rules in their order: what is said behind the flag, behind a number, and behind a mode
abbrev pub say_behind_loopback : Mode → Option ℕ → Option (List ℕ) → Bool → Result (Unit {0}) UsageRule →
    Result Words UsageRule
say_behind_loopback m number folder loopback (Ok _) =
    Ok (record { mode = m; number = number; folder = folder; loopback = loopback })
say_behind_loopback m number folder loopback (Err r) = Err r

abbrev pub say_behind_number : Mode → Option (List ℕ) → Bool → Result (Option ℕ) UsageRule → Result Words UsageRule
say_behind_number m folder loopback (Ok number) =
    say_behind_loopback m number folder loopback (loopback_said m loopback)
say_behind_number m folder loopback (Err r) = Err r

abbrev pub say_behind_mode : Option (List ℕ) → Option (List ℕ) → Bool → Result Mode UsageRule → Result Words UsageRule
say_behind_mode number folder loopback (Ok m) = say_behind_number m folder loopback (number_said m number)
say_behind_mode number folder loopback (Err r) = Err r

-- What the words for the mode, the number and the folder and the flag say, or the first rule that they break.
abbrev pub arguments_say : Option (List ℕ) → Option (List ℕ) → Option (List ℕ) → Bool → Result Words UsageRule
arguments_say word number folder loopback = say_behind_mode number folder loopback (mode_said word)

-- What the words of a call say, or the first rule that they break.
abbrev pub words_of : List (List ℕ) → Result Words UsageRule
words_of words =
    if are_taken words then
    arguments_say (mode_word words) (number_word words) (folder_word words) (has_loopback words)
    else Err rule.Words

-- The result is what was said, or memory ran out.
abbrev pub Reads : Result Words WordsFault → Result Words UsageRule → Type 0
Reads (Ok words) said = said ≡ Ok words
Reads (Err (fault.Usage r)) said = said ≡ Err r
Reads (Err fault.Memory) said = Unit {0}

-- what a refusal of `clap` comes to, by its kind
abbrev pub refusal_of : ErrorKind → WordsFault
refusal_of OutOfMemory = fault.Memory
refusal_of _ = fault.Usage rule.Words
