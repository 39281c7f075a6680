-- What is written is spelled so, and is read again, whatever follows.
use Rattle.std.proofs.Common.{◌≡◌, ℕ, zero, suc, ◌+◌, ◌-◌, ◌*◌, ◌/◌, ◌%◌, ◌^◌, ◌<◌, ◌≤◌, Bool, true, false, cond, nat_lt, List, [], ◌∷◌, ◌++◌, length, drop, Some, Result, Ok, Err, refl, ap, sym, subst, ◌∙◌, append_assoc, length-append, arith, OnOk}
use Rattle.std.specs.Int.{w32, w64, to_le_bytes}
use Rattle.std.proofs.lemmas.List.{drop_at}
use Rattle.std.proofs.lemmas.Result.{on_ok_weaker}
use Rattle.proto_fields.specs.declared.reading.Wire.{Wire}
use Rattle.proto_fields.specs.declared.reading.Wire.TheVariants as wire
use Rattle.proto_fields.specs.declared.reading.WireType.{WireType}
use Rattle.proto_fields.specs.declared.reading.WireType.TheVariants as wire_type
use Rattle.proto_fields.specs.Varint.{varint_at, least_varint, least_within}
use Rattle.proto_fields.specs.Fields.{code_of, type_of, SpellsTag, SpellsValue, SpellsField, SpellsFrom, next_at}
use Rattle.proto_fields.specs.Writing.{tag_text, varint_field, fixed64_field, bytes_field, fixed32_field, ReadsVarint, ReadsField}
use Rattle.proto_fields.proofs.VarintLemmas.{least_varint_spells, read_varint_again}
use Rattle.proto_fields.proofs.PlaceLemmas.{stands_at_next}

code_below : (type : WireType) → code_of type < 8
code_below wire_type.Varint = omega arith
code_below wire_type.Fixed64 = omega arith
code_below wire_type.LengthDelimited = omega arith
code_below wire_type.Fixed32 = omega arith

pub tag_text_spells : (number : ℕ) (type : WireType) → number < 2 ^ 29 → SpellsTag number (code_of type) (tag_text number type)
unfolding tag_text
tag_text_spells number type most =
    let small = code_below type in
    record {
      key = number * 8 + code_of type;
      spelled = least_varint_spells (number * 8 + code_of type) (omega arith);
      number_is = omega arith;
      code_is = omega arith;
    }

-- a written tag and a value make a field
tagged : (at number : ℕ) (value : Wire) (text : List ℕ) → 1 ≤ number → number < 2 ^ 29 → SpellsValue (at + length (tag_text number (type_of value))) value text → SpellsField at (number, value) (tag_text number (type_of value) ++ text)
tagged at number value text least most s = record {
  tag = tag_text number (type_of value);
  value = text;
  parts = refl;
  numbered = omega arith;
  tag_spelled = tag_text_spells number (type_of value) most;
  value_spelled = s;
}

pub varint_field_spells : (at number n : ℕ) → 1 ≤ number → number < 2 ^ 29 → n < 2 ^ 64 → SpellsField at (number, wire.Varint n) (varint_field number n)
unfolding varint_field
varint_field_spells at number n least most fits = tagged at number (wire.Varint n) (least_varint n) least most (least_varint_spells n fits)

pub fixed64_field_spells : (at number n : ℕ) → 1 ≤ number → number < 2 ^ 29 → n < 2 ^ 64 → SpellsField at (number, wire.Eight n) (fixed64_field number n)
unfolding fixed64_field
fixed64_field_spells at number n least most fits = tagged at number (wire.Eight n) (to_le_bytes w64 n) least most (fits, refl)

pub fixed32_field_spells : (at number n : ℕ) → 1 ≤ number → number < 2 ^ 29 → n < 2 ^ 32 → SpellsField at (number, wire.Four n) (fixed32_field number n)
unfolding fixed32_field
fixed32_field_spells at number n least most fits = tagged at number (wire.Four n) (to_le_bytes w32 n) least most (fits, refl)

-- The places of a written part: it ends where its field ends.
pub bytes_field_spells : (at number : ℕ) (bytes : List ℕ) → 1 ≤ number → number < 2 ^ 29 → length bytes < 2 ^ 64 → SpellsField at (number, wire.Part (at + length (bytes_field number bytes) - length bytes) (at + length (bytes_field number bytes))) (bytes_field number bytes)
unfolding bytes_field
bytes_field_spells at number bytes least most fits =
    let tag = tag_text number wire_type.LengthDelimited in
    let len = least_varint (length bytes) in
    let whole : length (tag ++ (len ++ bytes)) ≡ length tag + (length len + length bytes) = length-append tag (len ++ bytes) ∙ ap (λ n. length tag + n) (length-append len bytes) in
    tagged at number (wire.Part (at + length (tag ++ (len ++ bytes)) - length bytes) (at + length (tag ++ (len ++ bytes)))) (len ++ bytes) least most (record {
      len = len;
      bytes = bytes;
      parts = refl;
      spelled = least_varint_spells (length bytes) fits;
      begins = omega arith;
      ends = omega (arith, length-append len bytes);
    })

-- A field that was written behind other bytes is read there, whatever follows.
written_next : (old new text rest : List ℕ) (field : ℕ × Wire) → new ≡ old ++ text → SpellsField (length old) field text → next_at (new ++ rest) (length old) ≡ Ok (Some (field.0, field.1, length new))
written_next old new text rest field e s =
    let joined : new ++ rest ≡ old ++ (text ++ rest) = ap (λ l. l ++ rest) e ∙ append_assoc old text rest in
    let sizes : length new ≡ length old + length text = ap length e ∙ length-append old text in
    stands_at_next (new ++ rest) (length old) (field.0, field.1, length new) (omega (arith, length-append new rest)) (record {
      text = text;
      rest = rest;
      parts = ap (drop (length old)) joined ∙ drop_at old (text ++ rest) (length old) refl;
      spelled = s;
      next = sizes;
    })

-- What was written of a field is read again, once the list is cut back where writing failed.
pub written_again : {A E : Type 0} (r : Result A E) (old new text : List ℕ) (field : ℕ × Wire) → OnOk r (new ≡ old ++ text) → SpellsField (length old) field text → OnOk r (ReadsField old new field.0 field.1)
written_again r old new text field ok s = on_ok_weaker r (λ e rest. written_next old new text rest field e s) ok

-- The same of a part, whose places go by the bytes that were written.
pub part_again : {A E : Type 0} (r : Result A E) (old new : List ℕ) (number : ℕ) (bytes : List ℕ) → 1 ≤ number → number < 2 ^ 29 → length bytes < 2 ^ 64 → OnOk r (new ≡ old ++ bytes_field number bytes) → OnOk r (ReadsField old new number (wire.Part (length new - length bytes) (length new)))
part_again r old new number bytes least most fits ok = on_ok_weaker r again ok where
  again : new ≡ old ++ bytes_field number bytes → ReadsField old new number (wire.Part (length new - length bytes) (length new))
  again e rest =
      let sizes : length old + length (bytes_field number bytes) ≡ length new = sym (ap length e ∙ length-append old (bytes_field number bytes)) in
      rw sizes at (written_next old new (bytes_field number bytes) rest _ e (bytes_field_spells (length old) number bytes least most fits))

pub number_again : {A E : Type 0} (r : Result A E) (old new : List ℕ) (n : ℕ) → n < 2 ^ 64 → OnOk r (new ≡ old ++ least_varint n) → OnOk r (ReadsVarint old new n)
number_again r old new n fits ok = on_ok_weaker r again ok where
  again : new ≡ old ++ least_varint n → ReadsVarint old new n
  again e rest =
      ap (λ l. varint_at (drop (length old) l)) (ap (λ l. l ++ rest) e ∙ append_assoc old (least_varint n) rest)
      ∙ (ap varint_at (drop_at old (least_varint n ++ rest) (length old) refl) ∙ read_varint_again (least_varint n) n rest (least_varint_spells n fits))

-- ---- a list that is cut back where writing failed

-- What was written stays where it succeeded.
pub kept_ok : {A E : Type 0} (result done : Result A E) (old pushed new text : List ℕ) → result ≡ done → OnOk done (pushed ≡ old ++ text) → OnOk result (new ≡ pushed) → OnOk result (new ≡ old ++ text)
kept_ok (Ok x) (Ok y) old pushed new text same ok stays = stays ∙ ok
kept_ok (Ok x) (Err e) old pushed new text same ok stays = cc
kept_ok (Err e) done old pushed new text same ok stays = tt

-- What success showed stays shown.
pub kept_fact : {A E : Type 0} (result done : Result A E) (P : Type 0) → result ≡ done → OnOk done P → OnOk result P
kept_fact {A = A} {E = E} result done P same ok = let Q : Result A E → Type 0 = λ r. OnOk r P in subst Q (sym same) ok

-- Fields that are written one after the other.
pub SpellsFrom-cons : (at : ℕ) (f : ℕ × Wire) (fs : List (ℕ × Wire)) (text rest : List ℕ) → SpellsField at f text → SpellsFrom (at + length text) fs rest → SpellsFrom at (f ∷ fs) (text ++ rest)
SpellsFrom-cons at f fs text rest s t = (text, rest, refl, s, t)

pub SpellsFrom-append : (at : ℕ) (fs gs : List (ℕ × Wire)) (a b : List ℕ) → SpellsFrom at fs a → SpellsFrom (at + length a) gs b → SpellsFrom at (fs ++ gs) (a ++ b)
SpellsFrom-append at [] gs a b s t =
    let none : at + length a ≡ at = omega (arith, ap length s) in
    rw s (subst (λ (p : ℕ). SpellsFrom p gs b) none t)
SpellsFrom-append at (f ∷ fs) gs a b s t =
    let place : at + length a ≡ at + length s.0 + length s.1 = omega (arith, ap length s.2 ∙ length-append s.0 s.1) in (
      s.0,
      s.1 ++ b,
      ap (λ l. l ++ b) s.2 ∙ append_assoc s.0 s.1 b,
      s.3,
      SpellsFrom-append (at + length s.0) fs gs s.1 b s.4 (subst (λ (p : ℕ). SpellsFrom p gs b) place t),
    )

-- ---- how many bytes a written field has at most

least_within_few : (left n : ℕ) → length (least_within left n) ≤ left
unfolding least_within
least_within_few zero n = omega arith
least_within_few (suc left) n = by_test (nat_lt n 128) (least_within_few left (n / 128)) where
  by_test : (b : Bool) → length (least_within left (n / 128)) ≤ left → length (cond b (n ∷ []) ((n % 128 + 128) ∷ least_within left (n / 128))) ≤ suc left
  by_test true few = omega arith
  by_test false few = omega arith

pub varint_field_within : (number n : ℕ) → length (varint_field number n) ≤ 20
unfolding varint_field tag_text
varint_field_within number n = omega (arith, length-append (least_varint (number * 8 + 0)) (least_varint n), least_within_few 10 (number * 8 + 0), least_within_few 10 n)

pub bytes_field_within : (number : ℕ) (bytes : List ℕ) → length (bytes_field number bytes) ≤ 20 + length bytes
unfolding bytes_field tag_text
bytes_field_within number bytes =
    omega (arith, length-append (least_varint (number * 8 + 2)) (least_varint (length bytes) ++ bytes), length-append (least_varint (length bytes)) bytes, least_within_few 10 (number * 8 + 2), least_within_few 10 (length bytes))
