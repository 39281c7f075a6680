-- What calls make of the office.
use Rattle.std.proofs.Common.{◌≡◌, ◌+◌, ◌≤◌, true, not, List, [], ◌∷◌, ◌++◌, length, Result, Ok, Err, inl, inr, refl, sym, ◌∙◌, subst, arith}
use Rattle.std.specs.Result.{OnOk, OnErr, IfOk}
use Rattle.std.proofs.lemmas.Bool.Decides.{nat_tests}
use Rattle.hd_base.specs.Results.{Gives}
use Rattle.name_core.specs.declared.calls.OfficeAnswer.{OfficeAnswer}
use Rattle.name_core.specs.declared.calls.OfficeCall.{OfficeCall}
use Rattle.name_core.specs.declared.faults.OfficeFault.{OfficeFault}
use Rattle.name_core.specs.declared.faults.OfficeFault.TheVariants as fault
use Rattle.name_core.specs.Steps.{Step, state_after, reply}
use Rattle.name_core.specs.Offices.{OfficeState, office_case, office_after, answer_to, run}
use Rattle.name_core.specs.Books.{is_memory, is_entry}
use Rattle.name_core.specs.Desks.{FitsCall}
use Rattle.name_core.proofs.CaseLemmas.{each_case}

-- calls, and then one more
pub run-append : (o : OfficeState) (calls : List OfficeCall) (c : OfficeCall) → run o (calls ++ c ∷ []) ≡ office_after (run o calls) c
run-append o [] c = refl
run-append o (d ∷ calls) c = run-append (office_after o d) calls c

-- the next stamp rises by one at most
pub record NextRises (before after : OfficeState) : Type 0 where
  pub low : before.next.0 ≤ after.next.0
  pub high : after.next.0 ≤ before.next.0 + 1

pub next_rises : (o : OfficeState) (c : OfficeCall) → NextRises o (office_after o c)
next_rises o c =
    let stays : NextRises o o = record { low = omega arith; high = omega arith } in
    each_case o (λ _ step. NextRises o (state_after o step)) (record {
      refused = λ c e. stays;
      created = λ block members is. record { low = omega arith; high = omega arith };
      appended = λ block r is shut short. record { low = omega arith; high = omega arith };
      stamped = λ block r is writers. record { low = omega arith; high = omega arith };
      committed = λ block stamp members r is writers new. record { low = omega arith; high = omega arith };
      completed = λ block stamp bytes r is writers new. record { low = omega arith; high = omega arith };
      begun = λ block r is is_open. record { low = omega arith; high = omega arith };
      synced = λ block id bytes members r is is_open latest. record { low = omega arith; high = omega arith };
    }) c

-- so it is at most the first one and the number of calls
pub next_within : (o : OfficeState) (calls : List OfficeCall) → (run o calls).next.0 ≤ o.next.0 + length calls
next_within o [] = omega arith
next_within o (c ∷ calls) = let n = next_within (office_after o c) calls in let r = (next_rises o c).high in omega arith

-- an answer has the form of its call
pub fits_call : (o : OfficeState) (c : OfficeCall) → IfOk (answer_to o c) (FitsCall c)
fits_call o c =
    each_case o (λ d step. IfOk (reply step) (FitsCall d)) (record {
      refused = λ c e. tt;
      created = λ block members is. tt;
      appended = λ block r is shut short. grind (arith, nat_tests);
      stamped = λ block r is writers. tt;
      committed = λ block stamp members r is writers new. tt;
      completed = λ block stamp bytes r is writers new. tt;
      begun = λ block r is is_open. tt;
      synced = λ block id bytes members r is is_open latest. tt;
    }) c

-- the same of what was answered, or want of memory
pub fits_answer : (o : OfficeState) (c : OfficeCall) (r : Result OfficeAnswer OfficeFault) → Gives fault.Memory r (answer_to o c) → IfOk r (FitsCall c)
fits_answer o c (Ok a) is = subst (λ r. IfOk r (FitsCall c)) (sym is) (fits_call o c)
fits_answer o c (Err e) is = tt

no_memory : (e : OfficeFault) → e ≡ fault.Memory → not (is_memory e) ≡ true → ⊥
no_memory fault.Memory is entry = cc
no_memory e is entry = cc

-- a refused step leaves the state
refused_after : (o : OfficeState) (step : Step OfficeState OfficeAnswer) (e : OfficeFault) → Err e ≡ reply step → state_after o step ≡ o
refused_after o (Ok g) e is = absurd (cc)
refused_after o (Err d) e is = refl

-- the office after an answer that isn't want of memory
pub after_answer : (o n : OfficeState) (c : OfficeCall) (r : Result OfficeAnswer OfficeFault) → Gives fault.Memory r (answer_to o c) → OnOk r (n ≡ office_after o c) → OnErr r (n ≡ o) → is_entry r ≡ true → n ≡ office_after o c
after_answer o n c (Ok a) is ok err entry = ok
after_answer o n c (Err e) (inl is) ok err entry = absurd (no_memory e is entry)
after_answer o n c (Err e) (inr is) ok err entry = err ∙ sym (refused_after o (office_case o c) e is)
