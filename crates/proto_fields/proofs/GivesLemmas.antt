-- What a result that may want memory says of reading.
use Rattle.std.proofs.Common.{◌≡◌, ℕ, List, Result, Ok, Err, IfOk, IfErr, ◌⊎◌, inl, inr, sym, ap, ◌∙◌}
use Rattle.hd_base.specs.Results.{Gives, FailsFor, with_cause}
use Rattle.hd_base.proofs.ResultLaws.{with_cause_err}
use Rattle.proto_fields.specs.declared.reading.WireFault.{WireFault}
use Rattle.proto_fields.specs.declared.listing.FieldsFault.{FieldsFault}
use Rattle.proto_fields.specs.declared.listing.FieldsFault.TheVariants as fields
use Rattle.proto_fields.specs.Framed.{fields_cause}

pub Gives-same : {A E : Type 0} (memory : E) (r x y : Result A E) → x ≡ y → Gives memory r x → Gives memory r y
Gives-same memory r x y e g = rw e at g

-- A value is the one that reading gives.
pub Gives-value : {A E : Type 0} (memory : E) (r read : Result A E) (x : A) → r ≡ Ok x → Gives memory r read → read ≡ Ok x
Gives-value memory (Ok y) read x e g = cc (e, g)
Gives-value memory (Err f) read x e g = cc

-- A fault is want of memory, or the one that reading gives.
pub Gives-fault : {A E : Type 0} (memory : E) (r read : Result A E) (e : E) → r ≡ Err e → Gives memory r read → (e ≡ memory) ⊎ (read ≡ Err e)
Gives-fault memory (Ok y) read e h g = cc
Gives-fault memory (Err f) read e h (inl is) = inl (cc (h, is))
Gives-fault memory (Err f) read e h (inr is) = inr (cc (h, is))

-- What holds of each value that reading gives holds of the value.
pub gives_found : {A E : Type 0} (memory : E) (P : A → Type 0) (r read : Result A E) → ((x : A) → read ≡ Ok x → P x) → Gives memory r read → IfOk r P
gives_found memory P (Ok x) read says g = says x (sym g)
gives_found memory P (Err e) read says g = tt

-- A fault is want of memory, or it stands in the bytes as each fault does that reading gives.
pub gives_refused : {A E : Type 0} (memory : E) (IsRefused : E → List ℕ → Type 0) (bytes : List ℕ) (r read : Result A E) → ((e : E) → read ≡ Err e → IsRefused e bytes) → Gives memory r read → IfErr r (λ e. FailsFor memory IsRefused e bytes)
gives_refused memory IsRefused bytes (Ok x) read says g = tt
gives_refused memory IsRefused bytes (Err e) read says (inl is) = inl is
gives_refused memory IsRefused bytes (Err e) read says (inr is) = inr (says e (sym is))

-- ---- the faults of fields, as the faults of a codec

-- A fault of fields is one of the codec's, where reading fails as the fields do.
pub fields_fail : {A B E : Type 0} (memory : E) (wire : WireFault → E) (e : FieldsFault) (read : Result A WireFault) (whole : Result B WireFault) → ((d : WireFault) → read ≡ Err d → whole ≡ Err d) → Gives fields.Memory (Err e) (with_cause fields.Wire read) → Gives memory (Err (fields_cause memory wire e)) (with_cause wire whole)
fields_fail {A = A} {B = B} {E = E} memory wire e read whole fails (inl is) = inl (ap (fields_cause memory wire) is)
fields_fail {A = A} {B = B} {E = E} memory wire e read whole fails (inr is) =
    let d = with_cause_err fields.Wire read e (sym is) in
    inr (ap (λ f. Err (fields_cause memory wire f)) (sym d.1.1) ∙ sym (ap (with_cause wire) (fails d.0 d.1.0)))
