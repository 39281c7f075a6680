-- From the answer of a call as a value to that of the method.
use Rattle.std.proofs.Common.{◌≡◌, Result, Ok, Err, ◌⊎◌, inl, inr, refl}
use Rattle.hd_base.specs.declared.numbers.Stamp.{Stamp}
use Rattle.hd_base.specs.Results.{Gives}
use Rattle.name_core.specs.declared.calls.Begun.{Begun}
use Rattle.name_core.specs.declared.calls.Reopened.{Reopened}
use Rattle.name_core.specs.declared.calls.OfficeAnswer.{OfficeAnswer}
use Rattle.name_core.specs.declared.calls.OfficeAnswer.TheVariants as answer
use Rattle.name_core.specs.declared.faults.OfficeFault.{OfficeFault}
use Rattle.name_core.specs.declared.faults.OfficeFault.TheVariants as fault
use Rattle.name_core.specs.Steps.{Step, reply}
use Rattle.name_core.specs.Offices.{OfficeState, answering}

pub refusal : {A : Type 0} (f : A → OfficeAnswer) (step : Step OfficeState A) (r : Result A OfficeFault) (e : OfficeFault) → r ≡ Err e → (e ≡ fault.Memory) ⊎ (Err e ≡ reply (answering f step)) → Gives fault.Memory r (reply step)
refusal f step (Ok x) e is given = absurd (cc)
refusal f step (Err d) e is (inl memory) = inl (cc)
refusal f (Ok g) (Err d) e is (inr given) = absurd (cc)
refusal f (Err b) (Err d) e is (inr given) = inr (cc)

pub stamp : (step : Step OfficeState Stamp) (x : Stamp) → Ok (answer.Stamp x) ≡ reply (answering answer.Stamp step) → Ok x ≡ reply step
stamp (Ok g) x is = cc
stamp (Err e) x is = absurd (cc)

pub reopened : (step : Step OfficeState Reopened) (x : Reopened) → Ok (answer.Reopened x) ≡ reply (answering answer.Reopened step) → Ok x ≡ reply step
reopened (Ok g) x is = cc
reopened (Err e) x is = absurd (cc)

pub begun : (step : Step OfficeState Begun) (x : Begun) → Ok (answer.Begun x) ≡ reply (answering answer.Begun step) → Ok x ≡ reply step
begun (Ok g) x is = cc
begun (Err e) x is = absurd (cc)

pub nothing : (step : Step OfficeState (Unit {0})) (a : OfficeAnswer) → Ok a ≡ reply (answering (λ _. answer.Nothing) step) → Ok tt ≡ reply step
nothing (Ok g) a is = refl
nothing (Err e) a is = absurd (cc)
