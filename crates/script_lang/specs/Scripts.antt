-- Scripts, line by line.
use Rattle.std.specs.Prelude.{◌≡◌, ℕ, ◌+◌, ◌==◌, nat_le, Bool, true, false, if◌then◌else◌, List, [], ◌∷◌, ◌++◌, length, Option, Some, None, Result, Ok, Err, codes, bytes_eq}
use Rattle.std.specs.List.{list_all}
use Rattle.hd_base.specs.Results.{with_cause, ◌>>=◌}
use Rattle.script_lang.specs.declared.faults.BadKind.{BadKind}
use Rattle.script_lang.specs.declared.faults.BadKind.TheVariants as kind
use Rattle.script_lang.specs.declared.faults.ScriptError.{ScriptError}
use Rattle.script_lang.specs.declared.faults.ScriptError.TheVariants as error
use Rattle.script_lang.specs.declared.instructions.Instruction.{Instruction}
use Rattle.script_lang.specs.declared.instructions.ScriptLine.{ScriptLine}
use Rattle.script_lang.specs.declared.progress.Head.{Head}
use Rattle.script_lang.specs.declared.progress.Head.TheVariants as head
use Rattle.script_lang.specs.Rules.{by_rules}
use Rattle.script_lang.specs.Words.{is_plain, words_of, lines_of}
use Rattle.script_lang.specs.Said.{nodes_said, seed_said, body_said}
use Rattle.script_lang.specs.Fits.{Before, start, taken}

-- whether a line's first word makes it a comment
abbrev pub is_comment : List ℕ → Bool
is_comment [] = false
is_comment (c ∷ cs) = c == 35

-- a line of the head, whose first word must be this one
abbrev pub head_said : List ℕ → List ℕ → Result Instruction BadKind → Result Instruction BadKind
head_said name word said = if bytes_eq word name then said else Err kind.Head

-- What a command line's words say: the first two command lines are the head.
unfoldable pub command_said : Head → ℕ → ℕ → List ℕ → List (List ℕ) → Result Instruction BadKind
command_said head.Nodes shelves nodes word words = head_said (codes "nodes") word (nodes_said shelves words)
command_said head.Seed shelves nodes word words = head_said (codes "seed") word (seed_said words)
command_said head.Body shelves nodes word words = body_said nodes word words

-- what a line's words say: nothing where there is none, or the first begins a comment
abbrev pub some_said : Result Instruction BadKind → Result (Option Instruction) BadKind
some_said (Ok line) = Ok (Some line)
some_said (Err kind) = Err kind

unfoldable pub words_said : ℕ → Before → List (List ℕ) → Result (Option Instruction) BadKind
words_said shelves before [] = Ok None
words_said shelves before (word ∷ words) = if is_comment word then Ok None
    else some_said (command_said before.head shelves before.nodes word words)

-- the most lines of a script, and the most bytes
abbrev pub most_lines : ℕ
most_lines = 65536

abbrev pub most_size : ℕ
most_size = 16777216

-- the rules of a line with this number, before its words are looked at
abbrev pub line_rules : ℕ → List ℕ → List (BadKind × Bool)
line_rules number line = (kind.Byte, list_all is_plain line) ∷ (kind.Lines, nat_le number most_lines) ∷ []

-- What a line says, which has this number: its bytes first, then its number, then its words.
abbrev pub line_said : ℕ → ℕ → Before → List ℕ → Result (Option Instruction) BadKind
line_said shelves number before line =
    by_rules {A = Unit {0}} (line_rules number line) tt >>= (λ kept. words_said shelves before (words_of line))

-- what the lines up to this one tell, and the lines that said something
abbrev pub told : ℕ → Before → List ScriptLine → Option Instruction → Result (Before × List ScriptLine) BadKind
told number before said None = Ok (before, said)
told number before said (Some line) = taken before line >>=
    (λ next. Ok (next, said ++ record { number = number; instruction = line } ∷ []))

unfoldable pub line_told : ℕ → ℕ → Before → List ScriptLine → List ℕ → Result (Before × List ScriptLine) BadKind
line_told shelves number before said line = line_said shelves number before line >>= told number before said

-- what is left of a text's lines says more: the first line that breaks a rule stops it, with the first rule that it breaks; both lines of the head must be there
abbrev pub head_is_there : Head → Bool
head_is_there head.Body = true
head_is_there _ = false

unfoldable pub script_from : ℕ → ℕ → Before → List ScriptLine → List (List ℕ) → Result (List ScriptLine) (ℕ × BadKind)
script_from shelves number before said [] = if head_is_there before.head then Ok said else Err (number, kind.Head)
script_from shelves number before said (line ∷ lines) =
    with_cause (λ kind. (number, kind)) (line_told shelves number before said line) >>=
    (λ next. script_from shelves (number + 1) next.0 next.1 lines)

-- The script that a text is, or its first bad line and the first rule that this breaks.
unfoldable pub script_of : ℕ → List ℕ → Result (List ScriptLine) (ℕ × BadKind)
script_of shelves text = if nat_le (length text) most_size then script_from shelves 1 start [] (lines_of text)
    else Err (0, kind.TooLong)

-- The result is what was said, or memory ran out.
abbrev pub Reads : {A : Type 0} → Result A ScriptError → Result A (ℕ × BadKind) → Type 0
Reads (Ok script) said = said ≡ Ok script
Reads (Err (error.Bad line kind)) said = said ≡ Err (line, kind)
Reads (Err error.Memory) said = Unit {0}
