-- The field at a place of the bytes, and all fields from a place on.
use Rattle.std.proofs.Common.{◌≡◌, fold, ℕ, zero, suc, ◌+◌, ◌-◌, ◌<◌, ◌≤◌, List, [], ◌∷◌, ◌++◌, length, take, drop, ◌==◌, Option, Some, None, Result, Ok, Err, ◌⊎◌, inl, inr, refl, ap, sym, subst, ◌∙◌, append_assoc, append-nil, length-append, length-drop, arith, IfOk, IfErr, IfSome}
use Rattle.std.proofs.lemmas.Bool.{eqb-true, eqb-false, ne_eqb}
use Rattle.std.proofs.lemmas.List.{take_at, length-take, take-append-drop, drop-drop}
use Rattle.std.proofs.Math.Seq.{take-append-add, drop-length, drop-append_seam}
use Rattle.proto_fields.specs.declared.reading.Wire.{Wire}
use Rattle.proto_fields.specs.declared.reading.WireFault.{WireFault}
use Rattle.proto_fields.specs.declared.reading.WireFault.TheVariants as fault
use Rattle.proto_fields.specs.declared.reading.Cause.{Cause}
use Rattle.proto_fields.specs.declared.reading.Cause.TheVariants as cause
use Rattle.proto_fields.specs.declared.listing.FieldsFault.{FieldsFault}
use Rattle.proto_fields.specs.declared.listing.FieldsFault.TheVariants as fields
use Rattle.proto_fields.proofs.GivesLemmas.{Gives-fault}
use Rattle.hd_base.specs.Results.{◌>>=◌, with_cause, with_value, Gives}
use Rattle.hd_base.specs.Bytes.{IsBytes}
use Rattle.proto_fields.specs.Fields.{SpellsFrom, Spells, StandsAt, HasFault, cause_of, place_of, FaultAt, FirstFault, fault_at, field_at, next_at, then_fields, fields_within, fields_from, fields_at, walked}
use Rattle.hd_base.proofs.ResultLaws.{bind-Ok, bind-Err, with_cause_ok, with_cause_err, with_value_ok, with_value_err, ok_value, chosen}
use Rattle.hd_base.proofs.ByteLaws.{IsBytes-drop}
use Rattle.proto_fields.proofs.FieldLemmas.{TakesField, field_at-rest, field_takes, field_again, field_fails, fault_again, SpellsField-some}

-- ---- the field at a place

-- at the end stands no field
pub next_at-end : (bytes : List ℕ) → next_at bytes (length bytes) ≡ Ok None
unfolding next_at
next_at-end bytes = rw (drop-length bytes) refl

pub next_at-none : (bytes : List ℕ) (at : ℕ) → at ≤ length bytes → next_at bytes at ≡ Ok None → at ≡ length bytes
unfolding next_at
next_at-none bytes at within e =
    elim (chosen (length (drop at bytes) == 0) _ _ _ e) [
      | inl t ↦ omega (arith, eqb-true (length (drop at bytes)) 0 t.0, length-drop at bytes)
      | inr t ↦
          let f = with_value_ok _ (field_at (length bytes) (drop at bytes)) _ (with_cause_ok (fault_at at) _ _ t.1) in
          cc (f.1.1)
    ]

-- What stands at a place is read there, and nothing else.
pub next_at_stands : (bytes : List ℕ) (at : ℕ) (field : ℕ × Wire × ℕ) → IsBytes bytes → at ≤ length bytes → next_at bytes at ≡ Ok (Some field) → StandsAt bytes at field
unfolding next_at
next_at_stands bytes at field fits within e =
    elim (chosen (length (drop at bytes) == 0) _ _ _ e) [
      | inl t ↦ cc (t.1)
      | inr t ↦
          let f = with_value_ok _ (field_at (length bytes) (drop at bytes)) _ (with_cause_ok (fault_at at) _ _ t.1) in
          let whole : length bytes ≡ at + length (drop at bytes) = omega (arith, length-drop at bytes) in
          stands f.0.0 f.0.1 (some_is _ field f.1.1) (field_takes at (length bytes) (drop at bytes) f.0.0 f.0.1 (IsBytes-drop at bytes fits) whole f.1.0)
    ] where
      some_is : (x y : ℕ × Wire × ℕ) → Some x ≡ Some y → x ≡ y
      some_is x y e = cc

      stands : (f : ℕ × Wire) (rest : List ℕ) → (f.0, f.1, length bytes - length rest) ≡ field → TakesField at (drop at bytes) f rest → StandsAt bytes at field
      stands f rest e t =
          let sizes : length bytes - at ≡ length t.text + length rest = sym (length-drop at bytes) ∙ (ap length t.takes.parts ∙ length-append t.text rest) in
          rw (← e) (record { text = t.text; rest = rest; parts = t.takes.parts; spelled = t.spelled; next = omega arith })

read_next : (bytes : List ℕ) (at next : ℕ) (f : ℕ × Wire) (rest : List ℕ) → (length (drop at bytes) ≡ 0 → ⊥) → field_at (length bytes) (drop at bytes) ≡ Ok (f, rest) → length bytes - length rest ≡ next → next_at bytes at ≡ Ok (Some (f.0, f.1, next))
unfolding next_at
read_next bytes at next f rest left read place =
    rw (ne_eqb (length (drop at bytes)) 0 left, read, place) refl

pub stands_at_next : (bytes : List ℕ) (at : ℕ) (field : ℕ × Wire × ℕ) → at ≤ length bytes → StandsAt bytes at field → next_at bytes at ≡ Ok (Some field)
stands_at_next bytes at field within s =
    let whole : length (drop at bytes) ≡ length s.text + length s.rest = ap length s.parts ∙ length-append s.text s.rest in
    let joined : length (drop at bytes) ≡ length (s.text ++ s.rest) = ap length s.parts in
    let some : 0 < length s.text = SpellsField-some at (field.0, field.1) s.text s.spelled in
    let left : length (drop at bytes) ≡ 0 → ⊥ = omega arith in
    let end : length bytes ≡ at + length (s.text ++ s.rest) = omega (arith, length-drop at bytes) in
    let place : length bytes - length s.rest ≡ field.2 = omega (arith, length-drop at bytes, s.next) in
    read_next bytes at field.2 (field.0, field.1) s.rest left
    (ap (field_at (length bytes)) s.parts ∙ field_again at (length bytes) (field.0, field.1) s.text s.rest end s.spelled) place

-- where a field that stands there ends
pub StandsAt-room : (bytes : List ℕ) (at : ℕ) (field : ℕ × Wire × ℕ) → at ≤ length bytes → StandsAt bytes at field → (at < field.2) × (field.2 ≤ length bytes)
StandsAt-room bytes at field within s =
    let whole : length (drop at bytes) ≡ length s.text + length s.rest = ap length s.parts ∙ length-append s.text s.rest in
    let some : 0 < length s.text = SpellsField-some at (field.0, field.1) s.text s.spelled in
    (omega (arith, s.next), omega (arith, length-drop at bytes, s.next))

pub next_at-room : (bytes : List ℕ) (at : ℕ) (field : ℕ × Wire × ℕ) → at ≤ length bytes → next_at bytes at ≡ Ok (Some field) → (at < field.2) × (field.2 ≤ length bytes)
unfolding next_at
next_at-room bytes at field within e =
    elim (chosen (length (drop at bytes) == 0) _ _ _ e) [
      | inl t ↦ cc (t.1)
      | inr t ↦
          let f = with_value_ok _ (field_at (length bytes) (drop at bytes)) _ (with_cause_ok (fault_at at) _ _ t.1) in
          room f.0.0 f.0.1 (some_is _ field f.1.1) (field_at-rest (length bytes) (drop at bytes) f.0.0 f.0.1 f.1.0)
    ] where
      some_is : (x y : ℕ × Wire × ℕ) → Some x ≡ Some y → x ≡ y
      some_is x y e = cc

      room : (f : ℕ × Wire) (rest : List ℕ) → (f.0, f.1, length bytes - length rest) ≡ field → length rest < length (drop at bytes) → (at < field.2) × (field.2 ≤ length bytes)
      room f rest e fewer =
          let place : length bytes - length rest ≡ field.2 = ap (λ x. x.2) e in
          (omega (arith, length-drop at bytes), omega arith)

cause_of-fault_at : (at : ℕ) (c : Cause) → cause_of (fault_at at c) ≡ c
cause_of-fault_at at cause.Short = refl
cause_of-fault_at at cause.LongVarint = refl
cause_of-fault_at at cause.Kind = refl
cause_of-fault_at at cause.FieldZero = refl

place_of-fault_at : (at : ℕ) (c : Cause) → place_of (fault_at at c) ≡ at
place_of-fault_at at cause.Short = refl
place_of-fault_at at cause.LongVarint = refl
place_of-fault_at at cause.Kind = refl
place_of-fault_at at cause.FieldZero = refl

fault_at-cause_of : (e : WireFault) → fault_at (place_of e) (cause_of e) ≡ e
fault_at-cause_of (fault.Short at) = refl
fault_at-cause_of (fault.LongVarint at) = refl
fault_at-cause_of (fault.Kind at) = refl
fault_at-cause_of (fault.FieldZero at) = refl

-- A fault is the one that stands at the place, and the one that stands there comes.
pub next_at_fails : (bytes : List ℕ) (at : ℕ) (e : WireFault) → IsBytes bytes → at ≤ length bytes → next_at bytes at ≡ Err e → FaultAt bytes at e
unfolding next_at
next_at_fails bytes at e fits within h =
    elim (chosen (length (drop at bytes) == 0) _ _ _ h) [
      | inl t ↦ cc (t.1)
      | inr t ↦
          let c = with_cause_err (fault_at at) _ e t.1 in
          let fails = field_fails (length bytes) (drop at bytes) c.0 (IsBytes-drop at bytes fits) (with_value_err _ _ c.0 c.1.0) in
          stands c.0 c.1.1 (eqb-false (length (drop at bytes)) 0 t.0) fails.fault
    ] where
      stands : (c : Cause) → fault_at at c ≡ e → (length (drop at bytes) ≡ 0 → ⊥) → HasFault c (drop at bytes) → FaultAt bytes at e
      stands c same some f =
          rw (← same) (record {
            before_end = omega (arith, length-drop at bytes);
            place = place_of-fault_at at c;
            found = rw (cause_of-fault_at at c) f;
          })

pub fault_at_next : (bytes : List ℕ) (at : ℕ) (e : WireFault) → FaultAt bytes at e → next_at bytes at ≡ Err e
unfolding next_at
fault_at_next bytes at e s =
    let left : length (drop at bytes) ≡ 0 → ⊥ = omega (arith, length-drop at bytes, s.before_end) in
    rw (ne_eqb (length (drop at bytes)) 0 left)
    (ap (λ r. with_cause (fault_at at) (with_value (λ f. Some (f.0.0, f.0.1, length bytes - length f.1)) r)) (fault_again (length bytes) (drop at bytes) (cause_of e) s.found)
    ∙ (ap (λ p. Err (fault_at p (cause_of e))) (sym s.place) ∙ ap Err (fault_at-cause_of e)))

-- ---- all fields from a place on

-- what a step over a place may have given
next_cases : {A E : Type 0} (r : Result (Option A) E) → (r ≡ Ok None) ⊎ (((x : A) × (r ≡ Ok (Some x))) ⊎ ((e : E) × (r ≡ Err e)))
next_cases (Ok None) = inl refl
next_cases (Ok (Some x)) = inr (inl (x, refl))
next_cases (Err e) = inr (inr (e, refl))

-- More steps than bytes that are left change nothing.
enough : (bytes : List ℕ) (k m at : ℕ) → at ≤ length bytes → length bytes - at ≤ k → length bytes - at ≤ m → fields_within k bytes at ≡ fields_within m bytes at
unfolding fields_within
enough bytes zero zero at within few many = refl
enough bytes zero (suc m) at within few many =
    let e : at ≡ length bytes = omega arith in rw e (sym (bind-Ok _ _ None (next_at-end bytes)))
enough bytes (suc k) zero at within few many =
    let e : at ≡ length bytes = omega arith in rw e (bind-Ok _ _ None (next_at-end bytes))
enough bytes (suc k) (suc m) at within few many =
    elim (next_cases (next_at bytes at)) [
      | inl h ↦ bind-Ok _ _ None h ∙ sym (bind-Ok _ _ None h)
      | inr h ↦ elim h [
        | inl f ↦
            let room = next_at-room bytes at f.0 within f.1 in
            bind-Ok _ _ (Some f.0) f.1
            ∙ (ap (with_value (λ fs. (f.0.0, f.0.1) ∷ fs)) (enough bytes k m f.0.2 room.1 (omega (arith, room.0)) (omega (arith, room.0)))
            ∙ sym (bind-Ok _ _ (Some f.0) f.1))
        | inr e ↦ bind-Err _ _ e.0 e.1 ∙ sym (bind-Err _ _ e.0 e.1)
      ]
    ]

-- One step of the list of fields: the field at the place, and the fields from the next place on.
pub fields_from-next : (bytes : List ℕ) (at : ℕ) → at ≤ length bytes → fields_from bytes at ≡ next_at bytes at >>= then_fields (fields_from bytes)
unfolding fields_from fields_within
fields_from-next bytes at within =
    let more = enough bytes (length bytes - at) (suc (length bytes - at)) at within (omega arith) (omega arith) in
    elim (next_cases (next_at bytes at)) [
      | inl h ↦ more ∙ (bind-Ok _ _ None h ∙ sym (bind-Ok _ _ None h))
      | inr h ↦ elim h [
        | inl f ↦
            let room = next_at-room bytes at f.0 within f.1 in
            more ∙ (bind-Ok _ _ (Some f.0) f.1
            ∙ (ap (with_value (λ fs. (f.0.0, f.0.1) ∷ fs)) (enough bytes (length bytes - at) (length bytes - f.0.2) f.0.2 room.1 (omega (arith, room.0)) (omega arith))
            ∙ sym (bind-Ok _ _ (Some f.0) f.1)))
        | inr e ↦ more ∙ (bind-Err _ _ e.0 e.1 ∙ sym (bind-Err _ _ e.0 e.1))
      ]
    ]

-- The same by what stands at the place.
pub fields_from-end : (bytes : List ℕ) → fields_from bytes (length bytes) ≡ Ok []
fields_from-end bytes = fields_from-next bytes (length bytes) (omega arith) ∙ bind-Ok _ _ None (next_at-end bytes)

pub fields_from-field : (bytes : List ℕ) (at : ℕ) (f : ℕ × Wire × ℕ) → at ≤ length bytes → next_at bytes at ≡ Ok (Some f) → fields_from bytes at ≡ with_value (λ fs. (f.0, f.1) ∷ fs) (fields_from bytes f.2)
fields_from-field bytes at f within h = fields_from-next bytes at within ∙ bind-Ok _ _ (Some f) h

pub fields_from-fault : (bytes : List ℕ) (at : ℕ) (e : WireFault) → at ≤ length bytes → next_at bytes at ≡ Err e → fields_from bytes at ≡ Err e
fields_from-fault bytes at e within h = fields_from-next bytes at within ∙ bind-Err _ _ e h

-- One step of a walk over the fields.
pub walked-end : {S : Type 0} (step : S → ℕ × Wire → S) (state : S) (bytes : List ℕ) (at : ℕ) → at ≤ length bytes → next_at bytes at ≡ Ok None → walked step state bytes at ≡ Ok state
walked-end step state bytes at within h = ap (with_value (fold step state)) (fields_from-next bytes at within ∙ bind-Ok _ _ None h)

pub walked-field : {S : Type 0} (step : S → ℕ × Wire → S) (state : S) (bytes : List ℕ) (at : ℕ) (f : ℕ × Wire × ℕ) → at ≤ length bytes → next_at bytes at ≡ Ok (Some f) → walked step state bytes at ≡ walked step (step state (f.0, f.1)) bytes f.2
walked-field step state bytes at f within h =
    ap (with_value (fold step state)) (fields_from-field bytes at f within h) ∙ joined (fields_from bytes f.2) where
      joined : (r : Result (List (ℕ × Wire)) WireFault) → with_value (fold step state) (with_value (λ fs. (f.0, f.1) ∷ fs) r) ≡ with_value (fold step (step state (f.0, f.1))) r
      joined (Ok fs) = refl
      joined (Err e) = refl

pub walked-fault : {S : Type 0} (step : S → ℕ × Wire → S) (state : S) (bytes : List ℕ) (at : ℕ) (e : WireFault) → at ≤ length bytes → next_at bytes at ≡ Err e → walked step state bytes at ≡ Err e
walked-fault step state bytes at e within h = ap (with_value (fold step state)) (fields_from-fault bytes at e within h)

-- ---- the fields of bytes against the grammar

-- the rest behind a field that stands at a place
StandsAt-rest : (bytes : List ℕ) (at : ℕ) (field : ℕ × Wire × ℕ) → (s : StandsAt bytes at field) → drop field.2 bytes ≡ s.rest
StandsAt-rest bytes at field s =
    ap (λ n. drop n bytes) s.next ∙ (sym (drop-drop (length s.text) at bytes) ∙ (ap (drop (length s.text)) s.parts ∙ drop-append_seam s.text s.rest))

-- what is read is spelled
SpellsFrom-field : (bytes : List ℕ) (at : ℕ) (field : ℕ × Wire × ℕ) (fs : List (ℕ × Wire)) → StandsAt bytes at field → SpellsFrom field.2 fs (drop field.2 bytes) → SpellsFrom at ((field.0, field.1) ∷ fs) (drop at bytes)
SpellsFrom-field bytes at field fs s later =
    (s.text, s.rest, s.parts, s.spelled, rw (StandsAt-rest bytes at field s, s.next) at later)

SpellsFrom-end : (bytes : List ℕ) (at : ℕ) (fs : List (ℕ × Wire)) → at ≡ length bytes → [] ≡ fs → SpellsFrom at fs (drop at bytes)
SpellsFrom-end bytes at fs e f = rw (← f) (ap (λ n. drop n bytes) e ∙ drop-length bytes)

SpellsFrom-same : (at : ℕ) (fs gs : List (ℕ × Wire)) (bytes : List ℕ) → fs ≡ gs → SpellsFrom at fs bytes → SpellsFrom at gs bytes
SpellsFrom-same at fs gs bytes e s = rw e at s

fields_within_spell : (k : ℕ) (bytes : List ℕ) (at : ℕ) (fs : List (ℕ × Wire)) → IsBytes bytes → at ≤ length bytes → length bytes - at ≤ k → fields_within k bytes at ≡ Ok fs → SpellsFrom at fs (drop at bytes)
unfolding fields_within
fields_within_spell zero bytes at fs fits within few h = SpellsFrom-end bytes at fs (omega arith) (ok_value [] fs h)
fields_within_spell (suc k) bytes at fs fits within few h =
    elim (next_cases (next_at bytes at)) [
      | inl n ↦ SpellsFrom-end bytes at fs (next_at-none bytes at within n) (ok_value [] fs (sym (bind-Ok _ _ None n) ∙ h))
      | inr n ↦ elim n [
        | inl f ↦
            let s = next_at_stands bytes at f.0 fits within f.1 in
            let room = StandsAt-room bytes at f.0 within s in
            let later = with_value_ok _ (fields_within k bytes f.0.2) fs (sym (bind-Ok _ _ (Some f.0) f.1) ∙ h) in
            SpellsFrom-same at _ fs (drop at bytes) later.1.1
            (SpellsFrom-field bytes at f.0 later.0 s (fields_within_spell k bytes f.0.2 later.0 fits room.1 (omega (arith, room.0)) later.1.0))
        | inr e ↦ let no = sym (bind-Err _ _ e.0 e.1) ∙ h in cc
      ]
    ]

pub fields_from_spell : (bytes : List ℕ) (at : ℕ) (fs : List (ℕ × Wire)) → IsBytes bytes → at ≤ length bytes → fields_from bytes at ≡ Ok fs → SpellsFrom at fs (drop at bytes)
unfolding fields_from
fields_from_spell bytes at fs fits within h = fields_within_spell (length bytes - at) bytes at fs fits within (omega arith) h

-- what is spelled is read
pub spelled_fields_from : (bytes : List ℕ) (at : ℕ) (fs : List (ℕ × Wire)) → at ≤ length bytes → SpellsFrom at fs (drop at bytes) → fields_from bytes at ≡ Ok fs
spelled_fields_from bytes at [] within s =
    let e : at ≡ length bytes = omega (arith, ap length s, length-drop at bytes) in
    ap (fields_from bytes) e ∙ fields_from-end bytes
spelled_fields_from bytes at (f ∷ fs) within s =
    let here : StandsAt bytes at (f.0, f.1, at + length s.0) = record { text = s.0; rest = s.1; parts = s.2; spelled = s.3; next = refl } in
    let room = StandsAt-room bytes at (f.0, f.1, at + length s.0) within here in
    let later : SpellsFrom (at + length s.0) fs (drop (at + length s.0) bytes) = rw (StandsAt-rest bytes at (f.0, f.1, at + length s.0) here) s.4 in
    fields_from-field bytes at (f.0, f.1, at + length s.0) within (stands_at_next bytes at (f.0, f.1, at + length s.0) within here)
    ∙ ap (with_value (λ fs. (f.0, f.1) ∷ fs)) (spelled_fields_from bytes (at + length s.0) fs room.1 later)

-- The fields before the first that is not whole and lawful, and its fault.
pub record FailsFrom (bytes : List ℕ) (at : ℕ) (e : WireFault) : Type 0 where
  pub before : List (ℕ × Wire)
  pub later : at ≤ place_of e
  pub spelled : SpellsFrom at before (take (place_of e - at) (drop at bytes))
  pub stands : FaultAt bytes (place_of e) e

-- one more field before a fault
FailsFrom-field : (bytes : List ℕ) (at : ℕ) (field : ℕ × Wire × ℕ) (e : WireFault) → at ≤ length bytes → StandsAt bytes at field → FailsFrom bytes field.2 e → FailsFrom bytes at e
FailsFrom-field bytes at field e within s t =
    let some : 0 < length s.text = SpellsField-some at (field.0, field.1) s.text s.spelled in
    let n : place_of e - at ≡ length s.text + (place_of e - field.2) = omega (arith, s.next, t.later) in
    let front : take (place_of e - at) (drop at bytes) ≡ s.text ++ take (place_of e - field.2) (drop field.2 bytes) =
    rw (n, s.parts, StandsAt-rest bytes at field s) (take-append-add s.text s.rest (place_of e - field.2)) in
    record {
      before = (field.0, field.1) ∷ t.before;
      later = omega (arith, s.next, t.later);
      spelled = (
        s.text,
        take (place_of e - field.2) (drop field.2 bytes),
        front,
        s.spelled,
        subst (λ (p : ℕ). SpellsFrom p t.before (take (place_of e - field.2) (drop field.2 bytes))) s.next t.spelled,
      );
      stands = t.stands;
    }

fields_within_fails : (k : ℕ) (bytes : List ℕ) (at : ℕ) (e : WireFault) → IsBytes bytes → at ≤ length bytes → fields_within k bytes at ≡ Err e → FailsFrom bytes at e
unfolding fields_within
fields_within_fails zero bytes at e fits within h = cc
fields_within_fails (suc k) bytes at e fits within h =
    elim (next_cases (next_at bytes at)) [
      | inl n ↦ let no = sym (bind-Ok _ _ None n) ∙ h in cc
      | inr n ↦ elim n [
        | inl f ↦
            let s = next_at_stands bytes at f.0 fits within f.1 in
            let room = StandsAt-room bytes at f.0 within s in
            let later = with_value_err _ (fields_within k bytes f.0.2) e (sym (bind-Ok _ _ (Some f.0) f.1) ∙ h) in
            FailsFrom-field bytes at f.0 e within s (fields_within_fails k bytes f.0.2 e fits room.1 later)
        | inr d ↦ FailsFrom-here bytes at d.0 e (next_at_fails bytes at d.0 fits within d.1) (err_is d.0 e (sym (bind-Err _ _ d.0 d.1) ∙ h))
      ]
    ] where
      err_is : (d e : WireFault) → ◌≡◌ {A = Result (List (ℕ × Wire)) WireFault} (Err d) (Err e) → d ≡ e
      err_is d e h = cc

      FailsFrom-here : (bytes : List ℕ) (at : ℕ) (d e : WireFault) → FaultAt bytes at d → d ≡ e → FailsFrom bytes at e
      FailsFrom-here bytes at d e f same =
          let nothing : place_of d - at ≡ 0 = omega (arith, f.place) in
          let t : FailsFrom bytes at d = record {
            before = [];
            later = omega (arith, f.place);
            spelled = ap (λ n. take n (drop at bytes)) nothing;
            stands = rw (sym f.place) at f;
          } in
          rw same at t

pub fields_from_fail : (bytes : List ℕ) (at : ℕ) (e : WireFault) → IsBytes bytes → at ≤ length bytes → fields_from bytes at ≡ Err e → FailsFrom bytes at e
unfolding fields_from
fields_from_fail bytes at e fits within h = fields_within_fails (length bytes - at) bytes at e fits within h

-- Where fields and then a fault stand, the fault comes.
faulty_fields_from : (bytes : List ℕ) (at : ℕ) (before : List (ℕ × Wire)) (e : WireFault) → at ≤ place_of e → SpellsFrom at before (take (place_of e - at) (drop at bytes)) → FaultAt bytes (place_of e) e → fields_from bytes at ≡ Err e
faulty_fields_from bytes at [] e later s f =
    let none : length (take (place_of e - at) (drop at bytes)) ≡ 0 = ap length s in
    let here : at ≡ place_of e = omega (arith, length-take (place_of e - at) (drop at bytes), length-drop at bytes, f.before_end) in
    fields_from-fault bytes at e (omega (arith, f.before_end)) (fault_at_next bytes at e (rw (← here) at f))
faulty_fields_from bytes at (g ∷ fs) e later s f =
    let p = place_of e - at in
    let split : drop at bytes ≡ s.0 ++ (s.1 ++ drop p (drop at bytes)) =
    sym (take-append-drop p (drop at bytes)) ∙ (ap (λ l. l ++ drop p (drop at bytes)) s.2 ∙ append_assoc s.0 s.1 (drop p (drop at bytes))) in
    let here : StandsAt bytes at (g.0, g.1, at + length s.0) = record { text = s.0; rest = s.1 ++ drop p (drop at bytes); parts = split; spelled = s.3; next = refl } in
    let within : at ≤ length bytes = omega (arith, f.before_end) in
    let room = StandsAt-room bytes at (g.0, g.1, at + length s.0) within here in
    let sizes : length (take p (drop at bytes)) ≡ length s.0 + length s.1 = ap length s.2 ∙ length-append s.0 s.1 in
    let front : place_of e - (at + length s.0) ≡ length s.1 = omega (arith, length-take p (drop at bytes), length-drop at bytes, f.before_end) in
    let left : take (place_of e - (at + length s.0)) (drop (at + length s.0) bytes) ≡ s.1 =
    rw (StandsAt-rest bytes at (g.0, g.1, at + length s.0) here) (take_at s.1 (drop p (drop at bytes)) _ (sym front)) in
    fields_from-field bytes at (g.0, g.1, at + length s.0) within (stands_at_next bytes at (g.0, g.1, at + length s.0) within here)
    ∙ ap (with_value (λ fs. (g.0, g.1) ∷ fs)) (faulty_fields_from bytes (at + length s.0) fs e (omega (arith, length-take p (drop at bytes), length-drop at bytes)) (rw left s.4) f)

-- ---- the fields of a message

pub fields_at_spell : (bytes : List ℕ) (fs : List (ℕ × Wire)) → IsBytes bytes → fields_at bytes ≡ Ok fs → Spells fs bytes
fields_at_spell bytes fs fits h = fields_from_spell bytes 0 fs fits (omega arith) h

pub spelled_fields_at : (bytes : List ℕ) (fs : List (ℕ × Wire)) → Spells fs bytes → fields_at bytes ≡ Ok fs
spelled_fields_at bytes fs s = spelled_fields_from bytes 0 fs (omega arith) s

pub fields_at_fail : (bytes : List ℕ) (e : WireFault) → IsBytes bytes → fields_at bytes ≡ Err e → FirstFault bytes e
fields_at_fail bytes e fits h =
    let f = fields_from_fail bytes 0 e fits (omega arith) h in
    let n : place_of e - 0 ≡ place_of e = omega arith in
    record { before = f.before; spelled = rw n at f.spelled; stands = f.stands }

pub faulty_fields_at : (bytes : List ℕ) (e : WireFault) → FirstFault bytes e → fields_at bytes ≡ Err e
faulty_fields_at bytes e f =
    let n : place_of e - 0 ≡ place_of e = omega arith in
    faulty_fields_from bytes 0 f.before e (omega arith) (rw n f.spelled) f.stands

-- ---- what a reader that gives `next_at` promises

pub next_found : (bytes : List ℕ) (at : ℕ) (r : Result (Option (ℕ × Wire × ℕ)) WireFault) → IsBytes bytes → at ≤ length bytes → r ≡ next_at bytes at → IfOk r (λ o. IfSome o (λ f. StandsAt bytes at f))
next_found bytes at (Ok None) fits within e = tt
next_found bytes at (Ok (Some f)) fits within e = next_at_stands bytes at f fits within (sym e)
next_found bytes at (Err d) fits within e = tt

pub next_fault : (bytes : List ℕ) (at : ℕ) (r : Result (Option (ℕ × Wire × ℕ)) WireFault) → IsBytes bytes → at ≤ length bytes → r ≡ next_at bytes at → IfErr r (λ e. FaultAt bytes at e)
next_fault bytes at (Ok o) fits within e = tt
next_fault bytes at (Err d) fits within e = next_at_fails bytes at d fits within (sym e)

-- ---- listing all fields

-- One more field is behind.
pub listed_field : (bytes : List ℕ) (at : ℕ) (front : List (ℕ × Wire)) (f : ℕ × Wire × ℕ) → at ≤ length bytes → next_at bytes at ≡ Ok (Some f) → with_value (λ fs. (front ++ (f.0, f.1) ∷ []) ++ fs) (fields_from bytes f.2) ≡ with_value (λ fs. front ++ fs) (fields_from bytes at)
listed_field bytes at front f within h =
    joined (fields_from bytes f.2) ∙ sym (ap (with_value (λ fs. front ++ fs)) (fields_from-field bytes at f within h)) where
      joined : (r : Result (List (ℕ × Wire)) WireFault) → with_value (λ fs. (front ++ (f.0, f.1) ∷ []) ++ fs) r ≡ with_value (λ fs. front ++ fs) (with_value (λ fs. (f.0, f.1) ∷ fs) r)
      joined (Ok fs) = ap Ok (append_assoc front ((f.0, f.1) ∷ []) fs)
      joined (Err e) = refl

-- All fields are behind.
pub listed_end : (bytes : List ℕ) (at : ℕ) (front : List (ℕ × Wire)) → at ≤ length bytes → next_at bytes at ≡ Ok None → with_value (λ fs. front ++ fs) (fields_from bytes at) ≡ Ok front
listed_end bytes at front within h = ap (with_value (λ fs. front ++ fs)) (fields_from-next bytes at within ∙ bind-Ok _ _ None h) ∙ ap Ok (append-nil front)

pub listed_fault : (bytes : List ℕ) (at : ℕ) (front : List (ℕ × Wire)) (e : WireFault) → at ≤ length bytes → next_at bytes at ≡ Err e → with_value (λ fs. front ++ fs) (fields_from bytes at) ≡ Err e
listed_fault bytes at front e within h = ap (with_value (λ fs. front ++ fs)) (fields_from-fault bytes at e within h)

-- ---- what a list of all fields that may want memory promises

pub listed_found : (bytes : List ℕ) (r : Result (List (ℕ × Wire)) FieldsFault) → IsBytes bytes → Gives fields.Memory r (with_cause fields.Wire (fields_at bytes)) → IfOk r (λ fs. Spells fs bytes)
listed_found bytes (Ok fs) fits g = fields_at_spell bytes fs fits (with_cause_ok fields.Wire (fields_at bytes) fs (sym g))
listed_found bytes (Err e) fits g = tt

wire_value : (d e : WireFault) → fields.Wire d ≡ fields.Wire e → d ≡ e
wire_value d e is = cc

no_wire : (e : WireFault) → fields.Wire e ≡ fields.Memory → ⊥
no_wire e is = cc

pub listed_first : (bytes : List ℕ) (r : Result (List (ℕ × Wire)) FieldsFault) (e : WireFault) → IsBytes bytes → Gives fields.Memory r (with_cause fields.Wire (fields_at bytes)) → r ≡ Err (fields.Wire e) → FirstFault bytes e
listed_first bytes r e fits g h =
    elim (Gives-fault fields.Memory r (with_cause fields.Wire (fields_at bytes)) (fields.Wire e) h g) [
      | inl is ↦ absurd (no_wire e is)
      | inr is ↦
          let d = with_cause_err fields.Wire (fields_at bytes) (fields.Wire e) is in
          fields_at_fail bytes e fits (d.1.0 ∙ ap Err (wire_value d.0 e d.1.1))
    ]
