-- Numbers, bytes and members that words spell.
use Rattle.std.specs.Prelude.{ℕ, ◌==◌, ◌+◌, ◌-◌, ◌*◌, ◌^◌, if◌then◌else◌, ◌&&◌, ◌||◌, not, nat_lt, nat_le, Bool, true, List, [], ◌∷◌, length, map, is_ok, Result, Ok, Err}
use Rattle.std.specs.List.{list_all, list_any}
use Rattle.std.specs.Result.{result_unwrap_or}
use Rattle.hex.specs.Hex.{decode_of}
use Rattle.hd_base.specs.Numerals.{is_digit, read_on}
use Rattle.hd_base.specs.declared.numbers.NodeId.{NodeId}
use Rattle.script_lang.specs.declared.faults.BadKind.{BadKind}
use Rattle.script_lang.specs.declared.faults.BadKind.TheVariants as kind
use Rattle.script_lang.specs.Words.{is_nothing, items_of}

-- the number that digits spell, whatever zeros lead
abbrev pub value_of : List ℕ → ℕ
value_of word = read_on 0 word

-- The number of further digits behind those of n, as far as each number on the way has 64 bits.
abbrev pub digits_on : ℕ → List ℕ → Result ℕ BadKind
digits_on n [] = Ok n
digits_on n (c ∷ cs) = if is_digit c && nat_lt (n * 10 + (c - 48)) (2 ^ 64) then digits_on (n * 10 + (c - 48)) cs
    else Err kind.Number

-- whether a word is a decimal number of 64 bits
abbrev pub is_number : List ℕ → Bool
is_number word = not (is_nothing word) && list_all is_digit word && nat_lt (value_of word) (2 ^ 64)

-- whether it is one of this range
abbrev pub is_number_within : ℕ → ℕ → List ℕ → Bool
is_number_within least most word = is_number word && nat_le least (value_of word) && nat_le (value_of word) most

-- whether a word is pairs of hexadecimal digits, at least one
abbrev pub is_hex : List ℕ → Bool
is_hex word = not (is_nothing word) && is_ok (decode_of word)

-- the bytes that the pairs spell
abbrev pub bytes_of : List ℕ → List ℕ
bytes_of word = result_unwrap_or (decode_of word) []

-- whether an item is a number, or nothing
abbrev pub is_item : List ℕ → Bool
is_item item = is_nothing item || is_number item

-- whether the items of a word are numbers, but for those that are nothing
abbrev pub are_items : List ℕ → Bool
are_items word = list_all is_item (items_of word)

-- whether no number stands twice
abbrev pub are_distinct : List ℕ → Bool
are_distinct [] = true
are_distinct (x ∷ xs) = not (list_any (λ y. y == x) xs) && are_distinct xs

-- whether an item is a node below this many
abbrev pub is_member : ℕ → List ℕ → Bool
is_member nodes item = not (is_nothing item) && nat_lt (value_of item) nodes

-- the numbers that the items spell
abbrev pub numbers_of : List ℕ → List ℕ
numbers_of word = map value_of (items_of word)

-- whether the items are members of a pipeline: at most 16 distinct nodes
abbrev pub are_members : ℕ → List ℕ → Bool
are_members nodes word = list_all (is_member nodes) (items_of word) && nat_le (length (items_of word)) 16 &&
    are_distinct (numbers_of word)

-- the node of a number
abbrev pub node : ℕ → NodeId
node n = record { 0 = n }

-- the members that the items name
abbrev pub members_of : List ℕ → List NodeId
members_of word = map node (numbers_of word)
