-- Lines, words and items of a text.
use Rattle.std.specs.Prelude.{◌≡◌, ℕ, ◌==◌, ◌&&◌, ◌||◌, not, nat_le, Bool, true, false, if◌then◌else◌, List, [], ◌∷◌, Option, Some, None}
use Rattle.std.specs.Borrow.{Bor}

-- parts of a text with one more byte in front of the first
abbrev pub into_first : ℕ → List (List ℕ) → List (List ℕ)
into_first c [] = (c ∷ []) ∷ []
into_first c (part ∷ parts) = (c ∷ part) ∷ parts

-- whether LF stands first
abbrev pub begins_with_newline : List ℕ → Bool
begins_with_newline [] = false
begins_with_newline (c ∷ cs) = c == 10

-- The lines of a text, without their ends. LF ends a line; a CR right before it is dropped. What stands behind the last LF is a line too,
-- unless it is nothing.
abbrev pub lines_of : List ℕ → List (List ℕ)
lines_of [] = []
lines_of (c ∷ cs) =
    if c == 10 then [] ∷ lines_of cs
    else if c == 13 && begins_with_newline cs then lines_of cs
    else into_first c (lines_of cs)

-- whether nothing is there
abbrev pub is_nothing : List ℕ → Bool
is_nothing [] = true
is_nothing (c ∷ cs) = false

-- a line without the CR at its end
abbrev pub without_return : List ℕ → List ℕ
without_return [] = []
without_return (c ∷ cs) = if c == 13 && is_nothing cs then [] else c ∷ without_return cs

-- whether a line may have this byte: printable ASCII or a tab
abbrev pub is_plain : ℕ → Bool
is_plain c = nat_le 32 c && nat_le c 126 || c == 9

-- a space or a tab
abbrev pub is_blank : ℕ → Bool
is_blank c = c == 32 || c == 9

-- whether a word stands first
abbrev pub begins_with_word : List ℕ → Bool
begins_with_word [] = false
begins_with_word (c ∷ cs) = not (is_blank c)

-- The words of a line: what stands between blanks.
abbrev pub words_of : List ℕ → List (List ℕ)
words_of [] = []
words_of (c ∷ cs) =
    if is_blank c then words_of cs
    else if begins_with_word cs then into_first c (words_of cs)
    else (c ∷ []) ∷ words_of cs

-- The parts of a text: what stands between these bytes, which may be nothing.
abbrev pub parts_of : ℕ → List ℕ → List (List ℕ)
parts_of separator [] = [] ∷ []
parts_of separator (c ∷ cs) = if c == separator then [] ∷ parts_of separator cs
    else into_first c (parts_of separator cs)

-- the first part of a text, and what stands behind its separator, or nothing where it is the last
abbrev pub IsFirstPart : ℕ → List ℕ → List ℕ → Option (Bor (List ℕ)) → Type 0
IsFirstPart separator text part None = parts_of separator text ≡ part ∷ []
IsFirstPart separator text part (Some rest) = parts_of separator text ≡ part ∷ parts_of separator rest.now

-- the items of a word: what stands between commas
abbrev pub items_of : List ℕ → List (List ℕ)
items_of word = parts_of 44 word
