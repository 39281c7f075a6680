-- What roads over plain memory hold.
use Rattle.std.specs.Prelude.{ℕ, ◌-◌, ◌==◌, Bool, false, cond, if◌then◌else◌, ◌++◌, nat_lt, nat_le, List, [], ◌∷◌, length, get_or}
use Rattle.std.specs.List.{list_any, list_all}
use Rattle.hd_base.specs.Channels.{Plain, empty_channel}
use Rattle.mem_ports.specs.Duplexes.{channels_of}
use Rattle.mem_ports.specs.declared.duplexes.DuplexChannel.{DuplexChannel}
use Rattle.mem_ports.specs.declared.dials.Dial.{Dial}

-- the ports that are listened on, from node 0's on
abbrev pub listening_of : List Bool → ℕ → Bool
listening_of nodes port = cond (nat_le 9866 port) (get_or nodes (port - 9866) false) false

-- the dials that wait at a port, the oldest first
abbrev pub waiting_at : List Dial → ℕ → List ℕ
waiting_at [] port = []
waiting_at (dial ∷ rest) port = cond (port == dial.port) (dial.conn.0 ∷ waiting_at rest port) (waiting_at rest port)

-- one more dial waits at a port, under this number
abbrev pub waiting_with : (ℕ → List ℕ) → ℕ → ℕ → ℕ → List ℕ
waiting_with waiting port conn = λ p. if p == port then waiting p ++ conn ∷ [] else waiting p

-- what the roads hold
abbrev pub plain_of : List Bool → List Dial → List DuplexChannel → Plain
plain_of nodes dials duplexes = record {
  listening = listening_of nodes;
  waiting = waiting_at dials;
  dialled = length duplexes;
  channels = channels_of duplexes;
}

-- nothing was dialled, and nobody listens
abbrev pub nothing_held : Plain
nothing_held = record { listening = λ _. false; waiting = λ _. []; dialled = 0; channels = λ _ _. empty_channel }

-- the connections an end of which had failed
abbrev pub risen_of : List ℕ → ℕ → Bool
risen_of conns conn = list_any (λ n. n == conn) conns

-- each dial has a number below this one
abbrev pub dials_below : ℕ → List Dial → Bool
dials_below count dials = list_all (λ dial. nat_lt dial.conn.0 count) dials
