-- Which block a file's name belongs to, and numbers in least decimal.
use Rattle.std.specs.Prelude.{◌≡◌, ◌==◌, ℕ, ◌+◌, ◌-◌, ◌*◌, ◌^◌, ◌&&◌, Bool, true, false, nat_lt, if◌then◌else◌, List, [], ◌∷◌, drop, Option, Some, None, codes, nat_eq}
use Rattle.std.specs.List.{starts_with}
use Rattle.hd_base.specs.Numerals.{is_digit}

-- digits read on from a value, with what stands behind them; None past 64 bits
abbrev pub digits_at : ℕ → List ℕ → Option (ℕ × List ℕ)
digits_at n [] = Some (n, [])
digits_at n (c ∷ cs) =
    if is_digit c
    then (if nat_lt (n * 10 + (c - 48)) (2 ^ 64) then digits_at (n * 10 + (c - 48)) cs else None)
    else Some (n, c ∷ cs)

-- a number of 64 bits in least decimal at the front, with what stands behind it: a 0 is the whole number
abbrev pub number_at : List ℕ → Option (ℕ × List ℕ)
number_at [] = None
number_at (c ∷ cs) =
    if c == 48 then Some (0, cs) else (if is_digit c then digits_at (c - 48) cs else None)

-- what stands behind the last slash of a list, given what stands behind the last one before it
abbrev pub behind_slash : List ℕ → List ℕ → List ℕ
behind_slash base [] = base
behind_slash base (c ∷ cs) = if c == 47 then behind_slash cs cs else behind_slash base cs

-- the last part of a path
abbrev pub base_of : List ℕ → List ℕ
base_of name = behind_slash name name

-- the number, if it ends there or an underscore stands behind it
abbrev pub whole_number : Option (ℕ × List ℕ) → Option ℕ
whole_number None = None
whole_number (Some (n, [])) = Some n
whole_number (Some (n, c ∷ cs)) = if c == 95 then Some n else None

-- The block that a name belongs to: the last part of the path is `blk_` and the block's number in least decimal, and then nothing or an underscore and more.
unfoldable pub block_of : List ℕ → Option ℕ
block_of name =
    if starts_with nat_eq (base_of name) (codes "blk_") then whole_number (number_at (drop 4 (base_of name))) else None

-- it is there, and it is this block's number
abbrev pub is_this : ℕ → Option ℕ → Bool
is_this block None = false
is_this block (Some b) = b == block

-- the name belongs to this block
abbrev pub is_of_block : ℕ → List ℕ → Bool
is_of_block block name = is_this block (block_of name)

-- nothing stands behind the number
abbrev pub ends_there : Option (ℕ × List ℕ) → Bool
ends_there None = false
ends_there (Some (n, [])) = true
ends_there (Some (n, c ∷ cs)) = false

-- The name is of a block's data file: the last part of the path is `blk_` and the block's number in least decimal, and nothing more.
unfoldable pub is_data : List ℕ → Bool
is_data name = starts_with nat_eq (base_of name) (codes "blk_") && ends_there (number_at (drop 4 (base_of name)))

-- the name of the one block pool
abbrev pub block_pool : List ℕ
block_pool = codes "BP-1-127.0.0.1-1"

-- no digit stands first
abbrev pub IsBare : List ℕ → Type 0
IsBare [] = Unit {0}
IsBare (c ∷ cs) = is_digit c ≡ false
