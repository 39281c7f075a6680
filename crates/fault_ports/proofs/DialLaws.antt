-- Laws of a dial on roads whose connections can be cut.
use Rattle.std.proofs.Common.{◌≡◌, ℕ, ◌+◌, ◌<◌, ◌⊎◌, Bool, List, Option, Some, None, option_map, IfSome, refl, sym, ap, subst, ◌∙◌, arith, inl, inr}
use Rattle.hd_base.specs.Channels.{Plain, Channel, empty_channel, with_dial}
use Rattle.fault_ports.specs.declared.piece_counts.PieceCount.{PieceCount}
use Rattle.fault_ports.specs.declared.piece_counts.DuplexCount.{DuplexCount}
use Rattle.fault_ports.specs.PieceCounts.{none_counted, count_at, dialled_by}
use Rattle.fault_ports.specs.Cuts.{limited, seen_plain, CountsPieces, CountsAll}
use Rattle.fault_ports.proofs.CountLaws.{count-past}

newest : (old : Option Plain) (port conn : ℕ) → IfSome old (λ p. conn ≡ p.dialled) → IfSome (option_map (λ p. with_dial p port) old) (λ p. p.dialled ≡ dialled_by (Some conn))
newest None port conn number = number
newest (Some p) port conn number = ap (λ n. n + 1) (sym number)

-- The newest connection is the one that was dialled.
pub dialled-newest : (old new : Option Plain) (port conn : ℕ) → new ≡ option_map (λ p. with_dial p port) old → IfSome old (λ p. conn ≡ p.dialled) → IfSome new (λ p. p.dialled ≡ dialled_by (Some conn))
dialled-newest old new port conn is number =
    let P : Option Plain → Type 0 = λ q. IfSome q (λ p. p.dialled ≡ dialled_by (Some conn)) in subst P (sym is) (newest old port conn number)

nothing_stands : (count : PieceCount) (channel : Channel) → count ≡ none_counted → channel ≡ empty_channel → CountsPieces count channel
nothing_stands count channel none empty =
    let P : PieceCount → Type 0 = λ k. CountsPieces k channel in
    let Q : Channel → Type 0 = λ ch. CountsPieces none_counted ch in
    subst P (sym none) (subst Q (sym empty) (omega arith, (λ _. refl), tt))

counts_at : (counts : List DuplexCount) (p : Plain) (conn c : ℕ) (d : Bool) → conn ≡ p.dialled → ((d : Bool) → p.channels conn d ≡ empty_channel) → CountsAll counts p → (c < p.dialled) ⊎ (c ≡ p.dialled) → CountsPieces (count_at counts c d) (p.channels c d)
counts_at counts p conn c d number empty all (inl below) = all.1 c d below
counts_at counts p conn c d number empty all (inr same) =
    nothing_stands (count_at counts c d) (p.channels c d) (count-past counts c d (omega (arith, all.0, same))) (ap (λ (n : ℕ). p.channels n d) (same ∙ sym number) ∙ empty d)

below_or : (c n : ℕ) → c < n + 1 → (c < n) ⊎ (c ≡ n)
below_or c n below = grind arith

counted : (counts : List DuplexCount) (old : Option Plain) (port conn : ℕ) → IfSome old (λ p. conn ≡ p.dialled) → IfSome old (λ p. (d : Bool) → p.channels conn d ≡ empty_channel) → IfSome old (CountsAll counts) → IfSome (option_map (λ p. with_dial p port) old) (CountsAll counts)
counted counts None port conn number empty all = all
counted counts (Some p) port conn number empty all = (omega (arith, all.0), (λ c d below. counts_at counts p conn c d number empty all (below_or c p.dialled below)))

-- The new connection is counted: nothing stands on it.
pub counted-newest : (counts : List DuplexCount) (old new : Option Plain) (port conn : ℕ) → new ≡ option_map (λ p. with_dial p port) old → IfSome old (λ p. conn ≡ p.dialled) → IfSome old (λ p. (d : Bool) → p.channels conn d ≡ empty_channel) → IfSome old (CountsAll counts) → IfSome new (CountsAll counts)
counted-newest counts old new port conn is number empty all =
    let P : Option Plain → Type 0 = λ q. IfSome q (CountsAll counts) in subst P (sym is) (counted counts old port conn number empty all)

not_limited : (count : PieceCount) (channel : Channel) → count ≡ none_counted → channel ≡ empty_channel → limited count.left channel ≡ empty_channel
not_limited count channel none empty = ap (λ (k : PieceCount). limited k.left channel) none ∙ empty

-- Nothing is seen on the new connection.
pub empty-newest : (counts : List DuplexCount) (old : Option Plain) (conn : ℕ) → IfSome old (λ p. conn ≡ p.dialled) → IfSome old (λ p. (d : Bool) → p.channels conn d ≡ empty_channel) → IfSome old (CountsAll counts) → IfSome (option_map (seen_plain counts) old) (λ p. (d : Bool) → p.channels conn d ≡ empty_channel)
empty-newest counts None conn number empty all = number
empty-newest counts (Some p) conn number empty all = λ d. not_limited (count_at counts conn d) (p.channels conn d) (count-past counts conn d (omega (arith, all.0, number))) (empty d)
