-- Words that stand for one thing each.
use Rattle.std.specs.Prelude.{ℕ, List, [], ◌∷◌, Result, codes, find, bytes_eq}
use Rattle.std.specs.Option.{ok_or}
use Rattle.hd_base.specs.declared.states.ReplicaState.{ReplicaState}
use Rattle.hd_base.specs.declared.states.ReplicaState.TheVariants as state
use Rattle.hd_base.specs.declared.sum_rule.SumKind.{SumKind}
use Rattle.hd_base.specs.declared.sum_rule.SumKind.TheVariants as sums
use Rattle.script_lang.specs.declared.faults.BadKind.{BadKind}
use Rattle.script_lang.specs.declared.faults.BadKind.TheVariants as kind
use Rattle.script_lang.specs.declared.names.Keyword.{Keyword}
use Rattle.script_lang.specs.declared.names.Keyword.TheVariants as keyword
use Rattle.script_lang.specs.declared.names.EventName.{EventName}
use Rattle.script_lang.specs.declared.names.EventName.TheVariants as event

-- what a word names among these, by their names
abbrev pub named : {A : Type 0} → (A → List ℕ) → List A → List ℕ → Result A BadKind
named name all word = ok_or (find (λ x. bytes_eq (name x) word) all) kind.Word

-- the first word of each line behind the head
unfoldable pub keyword_name : Keyword → List ℕ
keyword_name keyword.Sums = codes "sums"
keyword_name keyword.Create = codes "create"
keyword_name keyword.Append = codes "append"
keyword_name keyword.Write = codes "write"
keyword_name keyword.Fill = codes "fill"
keyword_name keyword.Hflush = codes "hflush"
keyword_name keyword.Hsync = codes "hsync"
keyword_name keyword.Close = codes "close"
keyword_name keyword.Read = codes "read"
keyword_name keyword.Recover = codes "recover"
keyword_name keyword.Cut = codes "cut"
keyword_name keyword.Fault = codes "fault"
keyword_name keyword.Stop = codes "stop"
keyword_name keyword.Start = codes "start"
keyword_name keyword.Run = codes "run"
keyword_name keyword.Settle = codes "settle"
keyword_name keyword.Step = codes "step"
keyword_name keyword.Expect = codes "expect"

abbrev pub keywords : List Keyword
keywords =
    keyword.Sums ∷ keyword.Create ∷ keyword.Append ∷ keyword.Write ∷ keyword.Fill ∷ keyword.Hflush ∷ keyword.Hsync ∷
    keyword.Close ∷ keyword.Read ∷ keyword.Recover
    ∷ keyword.Cut ∷ keyword.Fault ∷ keyword.Stop ∷ keyword.Start ∷ keyword.Run ∷ keyword.Settle ∷ keyword.Step ∷
    keyword.Expect ∷ []

-- a kind of sums
unfoldable pub sum_name : SumKind → List ℕ
sum_name sums.Null = codes "null"
sum_name sums.Crc32 = codes "crc32"
sum_name sums.Crc32c = codes "crc32c"

abbrev pub sum_kinds : List SumKind
sum_kinds = sums.Null ∷ sums.Crc32 ∷ sums.Crc32c ∷ []

-- the states of replicas
abbrev pub states : List ReplicaState
states = state.Finalized ∷ state.Rbw ∷ state.Rwr ∷ state.Rur ∷ state.Temporary ∷ []

-- an event of a pipeline
unfoldable pub event_name : EventName → List ℕ
event_name event.Writer = codes "writer"
event_name event.Down = codes "down"
event_name event.Ready = codes "ready"
event_name event.Up = codes "up"

abbrev pub events : List EventName
events = event.Writer ∷ event.Down ∷ event.Ready ∷ event.Up ∷ []
