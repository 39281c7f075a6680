-- Steps that may be refused: what they make of a state, and what they answer.
use Rattle.std.specs.Prelude.{Bool, if◌then◌else◌, Result, Ok, Err}
use Rattle.name_core.specs.declared.faults.OfficeFault.{OfficeFault}

-- a state after a step that was granted, and the answer
pub record Granted (S A : Type 0) : Type 0 where
  pub state : S
  pub answer : A

-- what a step makes of a state of one kind, and answers in another
abbrev pub Step : Type 0 → Type 0 → Type 0
Step S A = Result (Granted S A) OfficeFault

-- granted, with this state and this answer
abbrev pub grant : {S A : Type 0} → S → A → Step S A
grant state answer = Ok (record { state = state; answer = answer })

-- the state afterwards: as before, where the step was refused
abbrev pub state_after : {S A : Type 0} → S → Step S A → S
state_after s (Ok granted) = granted.state
state_after s (Err e) = s

-- the answer
abbrev pub reply : {S A : Type 0} → Step S A → Result A OfficeFault
reply (Ok granted) = Ok granted.answer
reply (Err e) = Err e

-- a test, its refusal where it fails, and what follows where it holds
abbrev pub check : {X : Type 0} → Bool → OfficeFault → Result X OfficeFault → Result X OfficeFault
check holds refused next = if holds then next else Err refused
