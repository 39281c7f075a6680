-- What the halves of an end whose connection may be cut hold and have sent.
use Rattle.std.specs.Prelude.{◌≡◌, ℕ, ◌≤◌, ◌==◌, ◌&&◌, ◌||◌, Bool, false, List, ◌∷◌, length, Option, Some, None, option_map, option_and_then, unwrap_or, IfSome}
use Rattle.hd_base.specs.Links.{Inbox}
use Rattle.hd_base.specs.Channels.{unflushed}

-- bytes behind one that was received in advance
abbrev pub behind : Option ℕ → List ℕ → List ℕ
behind None bytes = bytes
behind (Some byte) bytes = byte ∷ bytes

-- what is held where a byte was received in advance, and the end stands behind nothing
abbrev pub inbox_behind : Option ℕ → Bool → Inbox → Inbox
inbox_behind first ended inbox =
    record {
      bytes = behind first inbox.bytes;
      ended = inbox.ended ||
          (ended && (length (behind first inbox.bytes) == 0));
    }

-- the same, where observable
abbrev pub held_behind : {I : Type 0} → (I → Option Inbox) → Option I → Option ℕ → Bool → Option Inbox
held_behind held half first ended = option_map (inbox_behind first ended) (option_and_then held half)

-- a number of a half that is there
abbrev pub number_of : {X : Type 0} → (X → ℕ) → Option X → ℕ
number_of f half = unwrap_or (option_map f half) 0

-- a test of a half that is there
abbrev pub test_of : {X : Type 0} → (X → Bool) → Option X → Bool
test_of f half = unwrap_or (option_map f half) false

-- The number of the pieces that an outward half has still to hand on, where its sends are observable.
abbrev pub PendingIs : ℕ → Option (List (List ℕ)) → ℕ → ℕ → Bool → Type 0
PendingIs pending sent flushed lost shut =
    IfSome sent (λ pieces. (pending ≡ length (unflushed pieces flushed lost)) × (flushed ≤ length pieces) ×
    (shut ≡ false → lost ≡ 0))
