-- The history of a book, which gets one entry after the other.
use Rattle.std.specs.Prelude.{ℕ, ◌≡◌, ◌<◌, Bool, [], ◌∷◌, ◌++◌, length}
use Rattle.std.specs.Vec.{vec_len, vec_capacity}
use Rattle.replica_model.specs.declared.events.ReplicaEvent.{ReplicaEvent}
use Rattle.replica_model.specs.declared.histories.History.{History}

-- There is room for one more entry.
abbrev pub HasSpare : History → Type 0
HasSpare h = vec_len h.entries < vec_capacity h.entries

-- the same history
pub record IsSame (old new : History) : Type 0 where
  pub start : new.start ≡ old.start
  pub entries : new.entries.items ≡ old.entries.items

-- One entry more, whose place is its number.
pub record HasEntry (old new : History) (e : ReplicaEvent) (failed : Bool) (index : ℕ) : Type 0 where
  pub start : new.start ≡ old.start
  pub entries : new.entries.items ≡ old.entries.items ++ record { event = e; failed = failed } ∷ []
  pub place : index ≡ length old.entries.items
