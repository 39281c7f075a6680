-- Laws of what roads hold.
use Rattle.std.proofs.Common.{◌≡◌, ℕ, Bool, false, List, [], length, replicate, ap, ◌∙◌}
use Rattle.hd_base.specs.Channels.{Plain, Channels, empty_channel}
use Rattle.mem_ports.specs.declared.dials.Dial.{Dial}
use Rattle.mem_ports.specs.declared.duplexes.DuplexChannel.{DuplexChannel}
use Rattle.mem_ports.specs.Duplexes.{channels_of}
use Rattle.mem_ports.specs.Roads.{listening_of, waiting_at, plain_of, nothing_held}
use Rattle.mem_ports.proofs.DialLaws.{listening-none}

-- what roads hold, by its parts
abbrev pub plain_by : (ℕ → Bool) → (ℕ → List ℕ) → ℕ → Channels → Plain
plain_by listening waiting dialled channels = record { listening = listening; waiting = waiting; dialled = dialled; channels = channels }

-- Roads whose parts are these hold this.
pub plain-parts : (nodes : List Bool) (dials : List Dial) (duplexes : List DuplexChannel) (waiting : ℕ → List ℕ) (dialled : ℕ) (channels : Channels) → waiting_at dials ≡ waiting → length duplexes ≡ dialled → channels_of duplexes ≡ channels → plain_of nodes dials duplexes ≡ plain_by (listening_of nodes) waiting dialled channels
plain-parts nodes dials duplexes waiting dialled channels w n s = λ i. plain_by (listening_of nodes) (w i) (n i) (s i)

-- Nothing was dialled yet.
pub plain-nothing : (n : ℕ) (dials : List Dial) (duplexes : List DuplexChannel) → dials ≡ [] → duplexes ≡ [] → plain_of (replicate n false) dials duplexes ≡ nothing_held
plain-nothing n dials duplexes no_dials no_duplexes =
    ap (λ ds. plain_of (replicate n false) ds duplexes) no_dials ∙ ap (plain_of (replicate n false) []) no_duplexes ∙ (λ i. plain_by (λ p. listening-none n p i) (λ p. []) 0 (λ c d. empty_channel))
