-- The office with the history of its calls.
use Rattle.std.specs.Prelude.{◌≡◌, not, Bool, true, false, if◌then◌else◌, List, [], ◌∷◌, ◌++◌, Result, Ok, Err}
use Rattle.name_core.specs.declared.calls.OfficeCall.{OfficeCall}
use Rattle.name_core.specs.declared.faults.OfficeFault.{OfficeFault}
use Rattle.name_core.specs.declared.faults.OfficeFault.TheVariants as fault
use Rattle.name_core.specs.Offices.{OfficeState, new_office, office_after, run}

-- an office, and the calls that it took
pub record BookState : Type 0 where
  pub office : OfficeState
  pub history : List OfficeCall

abbrev pub new_book : BookState
new_book = record { office = new_office; history = [] }

-- The office is what the calls of the history, in order, make of one that knows no block.
abbrev pub IsReplay : BookState → Type 0
IsReplay b = b.office ≡ run new_office b.history

-- with one call more
abbrev pub with_entry : BookState → OfficeCall → BookState
with_entry b c = record { office = office_after b.office c; history = b.history ++ c ∷ [] }

abbrev pub is_memory : OfficeFault → Bool
is_memory fault.Memory = true
is_memory _ = false

-- a call that was answered so is an entry: any but one for want of memory
abbrev pub is_entry : {A : Type 0} → Result A OfficeFault → Bool
is_entry (Ok x) = true
is_entry (Err e) = not (is_memory e)

-- a book after a call that was answered so: with one call more, or as before for want of memory
abbrev pub book_after : {A : Type 0} → BookState → OfficeCall → Result A OfficeFault → BookState
book_after b c r = if is_entry r then with_entry b c else b
