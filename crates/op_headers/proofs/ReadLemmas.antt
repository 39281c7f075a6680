-- What was read of fields that may want memory.
use Rattle.std.proofs.Common.{◌≡◌, Result, Ok, Err, inl, inr, sym, ap, ◌∙◌}
use Rattle.proto_fields.specs.declared.reading.WireFault.{WireFault}
use Rattle.proto_fields.specs.declared.listing.FieldsFault.{FieldsFault}
use Rattle.proto_fields.specs.declared.listing.FieldsFault.TheVariants as fields
use Rattle.hd_base.specs.Results.{with_cause, Gives}
use Rattle.hd_base.proofs.ResultLaws.{with_cause_ok, with_cause_err}

pub was_read : {A : Type 0} (read : Result A WireFault) (x : A) → Ok x ≡ with_cause fields.Wire read → read ≡ Ok x
was_read read x e = with_cause_ok fields.Wire read x (sym e)

-- A fault of a part is one of the whole, where the whole fails as the part does.
pub fails_whole : {A B : Type 0} (e : FieldsFault) (read : Result A WireFault) (whole : Result B WireFault) → ((d : WireFault) → read ≡ Err d → whole ≡ Err d) → Gives fields.Memory (Err e) (with_cause fields.Wire read) → Gives fields.Memory (Err e) (with_cause fields.Wire whole)
fails_whole e read whole fails (inl is) = inl is
fails_whole e read whole fails (inr is) =
    let d = with_cause_err fields.Wire read e (sym is) in
    inr (ap Err (sym d.1.1) ∙ sym (ap (with_cause fields.Wire) (fails d.0 d.1.0)))
