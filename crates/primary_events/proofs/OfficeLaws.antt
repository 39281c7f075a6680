-- What was said to a primary that asked the office.
use Rattle.std.proofs.Common.{◌≡◌, true, Ok, Err, ◌⊎◌, inl, inr, refl, ap}
use Rattle.std.specs.Prelude.{not}
use Rattle.hd_base.specs.Results.{Gives}
use Rattle.name_core.specs.declared.faults.OfficeFault.{OfficeFault}
use Rattle.name_core.specs.declared.faults.OfficeFault.TheVariants as office_fault
use Rattle.name_core.specs.Books.{is_entry, is_memory}
use Rattle.world.specs.Parts.{Told}

-- The office has answered so, and its book has the call.
pub record HasAnswered (said x : Told) : Type 0 where
  pub entry : is_entry said ≡ true
  pub is : said ≡ x

fault_or : (e : OfficeFault) → (e ≡ office_fault.Memory) ⊎ (not (is_memory e) ≡ true)
fault_or office_fault.Memory = inl refl
fault_or other = inr refl

refused_or : (e : OfficeFault) (x : Told) → ◌≡◌ {A = Told} (Err e) x → (e ≡ office_fault.Memory) ⊎ (not (is_memory e) ≡ true) → (◌≡◌ {A = Told} (Err e) (Err office_fault.Memory)) ⊎ HasAnswered (Err e) x
refused_or e x is (inl m) = inl (ap Err m)
refused_or e x is (inr entry) = inr (record { entry = entry; is = is })

-- Memory was wanting, or it has.
pub answered_or : (said x : Told) → Gives office_fault.Memory said x → (said ≡ Err office_fault.Memory) ⊎ HasAnswered said x
answered_or (Ok a) x g = inr (record { entry = refl; is = g })
answered_or (Err e) x (inl is) = inl (ap Err is)
answered_or (Err e) x (inr is) = refused_or e x is (fault_or e)
