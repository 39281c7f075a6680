-- Messages and texts within a message: where they lie, that what is found of them is read, and where a written text lies.
use Rattle.std.proofs.Common.{◌≡◌, ◌==◌, ℕ, ◌+◌, ◌-◌, ◌≤◌, true, false, Bool, cond, List, [], ◌∷◌, ◌++◌, length, take, drop, Option, Some, None, Result, Ok, Err, subst, refl, sym, ap, ◌∙◌, arith, append_assoc, length-append}
use Rattle.std.specs.Option.{option_or}
use Rattle.std.specs.List.{flat_map}
use Rattle.std.proofs.lemmas.List.{take_at, drop_at}
use Rattle.proto_fields.specs.declared.reading.Wire.{Wire}
use Rattle.proto_fields.specs.declared.reading.Wire.TheVariants as wire
use Rattle.proto_fields.specs.declared.reading.WireType.TheVariants as wire_type
use Rattle.proto_fields.specs.declared.reading.WireFault.{WireFault}
use Rattle.hd_base.specs.Results.{with_value}
use Rattle.hd_base.specs.Bytes.{IsBytes}
use Rattle.proto_fields.specs.Varint.{least_varint}
use Rattle.proto_fields.specs.Fields.{SpellsValue, SpellsFrom, fields_at}
use Rattle.proto_fields.specs.Values.{part_of, picked, last_part, parts, part_bytes, joined_parts}
use Rattle.proto_fields.specs.Writing.{tag_text, bytes_field}
use Rattle.proto_fields.specs.declared.messages.Places.TheVariants as places
use Rattle.proto_fields.specs.Inner.{places_of, joined_of, joined, FindsInner, IsFaultyInner, inner, PlacedWithin}
use Rattle.hd_base.proofs.ByteLaws.{IsBytes-behind, IsBytes-cons, IsBytes-take, IsBytes-drop}
use Rattle.hd_base.proofs.ResultLaws.{with_value_ok, with_value_err, ok_value}
use Rattle.proto_fields.proofs.PlaceLemmas.{fields_at_spell}
use Rattle.proto_fields.proofs.ValueLemmas.{single_last}

-- ---- where a text lies

value_placed : (size at : ℕ) (value : Wire) (text : List ℕ) (p : ℕ × ℕ) → SpellsValue at value text → at + length text ≤ size → part_of value ≡ Some p → PlacedWithin size (Some p)
value_placed size at (wire.Varint n) text p s within e = cc
value_placed size at (wire.Eight n) text p s within e = cc
value_placed size at (wire.Four n) text p s within e = cc
value_placed size at (wire.Part from to) text p s within e =
    let same : (from, to) ≡ p = some_is (from, to) p e in
    subst (λ (q : ℕ × ℕ). PlacedWithin size (Some q)) same (omega (arith, s.begins, s.ends, ap length s.parts ∙ length-append s.len s.bytes), omega (arith, s.ends))
  where
    some_is : (x y : ℕ × ℕ) → Some x ≡ Some y → x ≡ y
    some_is x y e = cc

last_part_placed_from : (size at number : ℕ) (fs : List (ℕ × Wire)) (text : List ℕ) → SpellsFrom at fs text → at + length text ≤ size → PlacedWithin size (last_part number fs)
last_part_placed_from size at number [] text s within = tt
last_part_placed_from size at number (f ∷ fs) text s within =
    let sizes : length text ≡ length s.0 + length s.1 = ap length s.2 ∙ length-append s.0 s.1 in
    by_later (last_part number fs) (picked part_of number f) (last_part_placed_from size (at + length s.0) number fs s.1 s.4 (omega arith)) (here (f.0 == number))
  where
    by_later : (later now : Option (ℕ × ℕ)) → PlacedWithin size later → PlacedWithin size now → PlacedWithin size (option_or later now)
    by_later (Some p) now placed here = placed
    by_later None now placed here = here

    here : (b : Bool) → PlacedWithin size (cond b (part_of f.1) None)
    here false = tt
    here true = by_part (part_of f.1) refl where
      by_part : (o : Option (ℕ × ℕ)) → part_of f.1 ≡ o → PlacedWithin size o
      by_part None e = tt
      by_part (Some p) e =
          let sizes : length text ≡ length s.0 + length s.1 = ap length s.2 ∙ length-append s.0 s.1 in
          let inside : length s.0 ≡ length s.3.tag + length s.3.value = ap length s.3.parts ∙ length-append s.3.tag s.3.value in
          value_placed size (at + length s.3.tag) f.1 s.3.value p s.3.value_spelled (omega arith) e

pub last_part_placed : (bytes : List ℕ) (fs : List (ℕ × Wire)) (number : ℕ) → IsBytes bytes → fields_at bytes ≡ Ok fs → PlacedWithin (length bytes) (last_part number fs)
last_part_placed bytes fs number fits e = last_part_placed_from (length bytes) 0 number fs bytes (fields_at_spell bytes fs fits e) (omega arith)

-- A part that is alone is the last one, and lies within the bytes.
once_is : (ps : List (ℕ × ℕ)) (from to : ℕ) → places_of ps ≡ places.Once from to → ps ≡ (from, to) ∷ []
once_is [] from to e = cc
once_is (p ∷ q ∷ ps) from to e = cc
once_is (p ∷ []) from to e =
    let first : p.0 ≡ from = cc in
    let second : p.1 ≡ to = cc in
    ap (λ (x : ℕ × ℕ). x ∷ []) (pair p.0 p.1 from to first second) where
      pair : (a b c d : ℕ) → a ≡ c → b ≡ d → ◌≡◌ {A = ℕ × ℕ} (a, b) (c, d)
      pair a b c d one two = rw (one, two) refl

pub once_within : (bytes : List ℕ) (fs : List (ℕ × Wire)) (number from to : ℕ) → IsBytes bytes → fields_at bytes ≡ Ok fs → places_of (parts number fs) ≡ places.Once from to → (from ≤ to) × (to ≤ length bytes)
once_within bytes fs number from to fits e once =
    let last = single_last number fs (from, to) (once_is (parts number fs) from to once) in
    subst (PlacedWithin (length bytes)) last (last_part_placed bytes fs number fits e)

-- ---- the bytes of joined parts

pub IsBytes-append : (xs ys : List ℕ) → IsBytes xs → IsBytes ys → IsBytes (xs ++ ys)
IsBytes-append [] ys one two = two
IsBytes-append (x ∷ xs) ys one two = IsBytes-cons x (xs ++ ys) (one 0) (IsBytes-append xs ys (IsBytes-behind x xs one) two)

pub IsBytes-joined : (bytes : List ℕ) (ps : List (ℕ × ℕ)) → IsBytes bytes → IsBytes (flat_map (part_bytes bytes) ps)
IsBytes-joined bytes [] fits = λ i. omega arith
IsBytes-joined bytes (p ∷ ps) fits = IsBytes-append (part_bytes bytes p) (flat_map (part_bytes bytes) ps) (IsBytes-take (p.1 - p.0) (drop p.0 bytes) (IsBytes-drop p.0 bytes fits)) (IsBytes-joined bytes ps fits)

-- what is joined is bytes
pub AreBytes : Option (List ℕ) → Type 0
AreBytes o = (bytes : List ℕ) → o ≡ Some bytes → IsBytes bytes

pub joined_bytes : (number : ℕ) (bytes : List ℕ) (fs : List (ℕ × Wire)) → IsBytes bytes → AreBytes (joined number bytes fs)
unfolding AreBytes
joined_bytes number bytes fs fits inside e = by_parts (parts number fs) (joined_parts bytes number fs) (IsBytes-joined bytes (parts number fs) fits) e where
  some_is : (x y : List ℕ) → Some x ≡ Some y → x ≡ y
  some_is x y e = cc

  by_parts : (ps : List (ℕ × ℕ)) (all : List ℕ) → IsBytes all → joined_of ps all ≡ Some inside → IsBytes inside
  by_parts [] all fits e = cc
  by_parts (p ∷ ps) all fits e = subst IsBytes (some_is all inside e) fits

-- ---- a message within

pub inner_finds : {X : Type 0} (read : List ℕ → Result X WireFault) (P : List ℕ → X → Type 0) → ((bytes : List ℕ) (x : X) → IsBytes bytes → read bytes ≡ Ok x → P bytes x) → (o : Option (List ℕ)) (found : Option X) → AreBytes o → inner read o ≡ Ok found → FindsInner P o found
unfolding AreBytes
inner_finds read P says None found fits e = sym (ok_value None found e)
inner_finds read P says (Some bytes) found fits e =
    let one = with_value_ok Some (read bytes) found e in
    (one.0, sym one.1.1, says bytes one.0 (fits bytes refl) one.1.0)

pub finds_inner : {X : Type 0} (read : List ℕ → Result X WireFault) (P : List ℕ → X → Type 0) → ((bytes : List ℕ) (x : X) → P bytes x → read bytes ≡ Ok x) → (o : Option (List ℕ)) (found : Option X) → FindsInner P o found → inner read o ≡ Ok found
finds_inner read P reads None found s = ap Ok (sym s)
finds_inner read P reads (Some bytes) found s = ap (with_value Some) (reads bytes s.0 s.2) ∙ ap Ok (sym s.1)

pub inner_fails : {X : Type 0} (read : List ℕ → Result X WireFault) (Q : List ℕ → WireFault → Type 0) (e : WireFault) → ((bytes : List ℕ) → IsBytes bytes → read bytes ≡ Err e → Q bytes e) → (o : Option (List ℕ)) → AreBytes o → inner read o ≡ Err e → IsFaultyInner Q o e
unfolding AreBytes
inner_fails read Q e fails None fits h = cc
inner_fails read Q e fails (Some bytes) fits h = fails bytes (fits bytes refl) (with_value_err Some (read bytes) e h)

pub fails_inner : {X : Type 0} (read : List ℕ → Result X WireFault) (Q : List ℕ → WireFault → Type 0) (e : WireFault) → ((bytes : List ℕ) → Q bytes e → read bytes ≡ Err e) → (o : Option (List ℕ)) → IsFaultyInner Q o e → inner read o ≡ Err e
fails_inner read Q e refuses None f = absurd f
fails_inner read Q e refuses (Some bytes) f = ap (with_value Some) (refuses bytes f)

-- ---- where a written text lies

unfoldable pub part_at : ℕ → ℕ → List ℕ → ℕ × ℕ
part_at at number bytes = (at + length (bytes_field number bytes) - length bytes, at + length (bytes_field number bytes))

pub bytes_field_more : (number : ℕ) (bytes : List ℕ) → length bytes ≤ length (bytes_field number bytes)
unfolding bytes_field
bytes_field_more number bytes = omega (arith, length-append (tag_text number wire_type.LengthDelimited) (least_varint (length bytes) ++ bytes), length-append (least_varint (length bytes)) bytes)

pub placed_part : (at number : ℕ) (whole front bytes back : List ℕ) → at ≡ length front → whole ≡ front ++ (bytes_field number bytes ++ back) → part_bytes whole (part_at at number bytes) ≡ bytes
unfolding part_at bytes_field
placed_part at number whole front bytes back place parts =
    let tag : List ℕ = tag_text number wire_type.LengthDelimited in
    let len : List ℕ = least_varint (length bytes) in
    let pre : List ℕ = front ++ (tag ++ len) in
    let size : length (tag ++ (len ++ bytes)) ≡ length tag + (length len + length bytes) = length-append tag (len ++ bytes) ∙ ap (λ n. length tag + n) (length-append len bytes) in
    let pre_size : length pre ≡ length front + (length tag + length len) = length-append front (tag ++ len) ∙ ap (λ n. length front + n) (length-append tag len) in
    let from : length pre ≡ at + length (tag ++ (len ++ bytes)) - length bytes = omega arith in
    let many : at + length (tag ++ (len ++ bytes)) - (at + length (tag ++ (len ++ bytes)) - length bytes) ≡ length bytes = omega arith in
    let regrouped : whole ≡ pre ++ (bytes ++ back) =
    parts ∙ (ap (λ l. front ++ l) (append_assoc tag (len ++ bytes) back ∙ (ap (λ l. tag ++ l) (append_assoc len bytes back) ∙ sym (append_assoc tag len (bytes ++ back))))
    ∙ sym (append_assoc front (tag ++ len) (bytes ++ back))) in
    let behind : drop (at + length (tag ++ (len ++ bytes)) - length bytes) whole ≡ bytes ++ back = ap (drop (at + length (tag ++ (len ++ bytes)) - length bytes)) regrouped ∙ drop_at pre (bytes ++ back) _ from in
    ap (take _) behind ∙ take_at bytes back _ (sym many)

unfoldable pub part_field : ℕ → ℕ → List ℕ → ℕ × Wire
part_field at number bytes = (number, wire.Part (at + length (bytes_field number bytes) - length bytes) (at + length (bytes_field number bytes)))
