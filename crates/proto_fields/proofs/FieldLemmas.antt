-- One field: what is read is spelled, what is spelled is read, and each fault comes exactly where it stands.
use Rattle.std.proofs.Common.{◌≡◌, ℕ, ◌+◌, ◌-◌, ◌/◌, ◌%◌, ◌^◌, ◌<◌, ◌≤◌, cond, List, [], ◌∷◌, ◌++◌, length, take, drop, nat_lt, ◌==◌, Result, Ok, Err, ◌⊎◌, inl, inr, refl, ap, sym, ◌∙◌, append_assoc, length-append, arith}
use Rattle.std.proofs.lemmas.Bool.{ltb-true, ltb-false, lt-ltb, le-ltb, eqb-true, eqb-false, ne_eqb, eq-eqb, cases_eq}
use Rattle.std.proofs.lemmas.List.{drop_at, length-take, length-drop, take-append-drop}
use Rattle.std.specs.Int.{Width, w32, w64, byte_len, to_le_bytes, from_le_bytes}
use mir.Val.{bits}
use Rattle.proto_fields.specs.declared.varints.VarintFault.{VarintFault}
use Rattle.proto_fields.specs.declared.varints.VarintFault.TheVariants as varint
use Rattle.proto_fields.specs.declared.reading.Wire.{Wire}
use Rattle.proto_fields.specs.declared.reading.Wire.TheVariants as wire
use Rattle.proto_fields.specs.declared.reading.WireType.{WireType}
use Rattle.proto_fields.specs.declared.reading.WireType.TheVariants as wire_type
use Rattle.proto_fields.specs.declared.reading.Cause.{Cause}
use Rattle.proto_fields.specs.declared.reading.Cause.TheVariants as cause
use Rattle.hd_base.specs.Results.{with_cause}
use Rattle.hd_base.specs.Bytes.{IsBytes, Takes}
use Rattle.proto_fields.specs.Varint.{IsVarint, BeginsWithVarint, IsCutVarint, IsLongVarint, varint_at}
use Rattle.proto_fields.specs.Fields.{code_of, type_of, SpellsTag, SpellsPart, SpellsValue, SpellsField, BeginsWithTag, BeginsWithLawfulTag, IsCutPart, IsCutValue, IsLongValue, IsRefusedCode, HasFault, varint_cause, type_at, tag_at, part_at, value_at, field_at}
use Rattle.hd_base.proofs.ResultLaws.{bind_ok, bind_err, bind-Ok, bind-Err, with_cause_ok, with_cause_err, ok_value, ok_pair, chosen, guard_ok, guard_err}
use Rattle.hd_base.proofs.ByteLaws.{Takes-then, IsBytes-drop}
use Rattle.proto_fields.proofs.NumberLemmas.{IsWide, wide_32, wide_64, le_front, le_written, le_behind}
use Rattle.proto_fields.proofs.VarintLemmas.{varint_at-rest, read_varint_takes, read_varint_again, read_varint_cut, read_varint_cut_is, read_varint_long, read_varint_long_is}

-- ---- wire types

pub type_at-code_of : (type : WireType) → type_at (code_of type) ≡ Ok type
type_at-code_of wire_type.Varint = refl
type_at-code_of wire_type.Fixed64 = refl
type_at-code_of wire_type.LengthDelimited = refl
type_at-code_of wire_type.Fixed32 = refl

type_at_ok : (code : ℕ) (type : WireType) → type_at code ≡ Ok type → code ≡ code_of type
type_at_ok code type e =
    elim (chosen (code == 0) _ _ _ e) [
      | inl t ↦ rw (sym (ok_value _ _ t.1)) (eqb-true code 0 t.0)
      | inr t ↦ elim (chosen (code == 1) _ _ _ t.1) [
        | inl t ↦ rw (sym (ok_value _ _ t.1)) (eqb-true code 1 t.0)
        | inr t ↦ elim (chosen (code == 2) _ _ _ t.1) [
          | inl t ↦ rw (sym (ok_value _ _ t.1)) (eqb-true code 2 t.0)
          | inr t ↦ elim (chosen (code == 5) _ _ _ t.1) [
            | inl t ↦ rw (sym (ok_value _ _ t.1)) (eqb-true code 5 t.0)
            | inr t ↦ cc (t.1)
          ]
        ]
      ]
    ]

-- of the codes below 8 four are refused
refused_code : (code : ℕ) → code < 8 → (code ≡ 0 → ⊥) → (code ≡ 1 → ⊥) → (code ≡ 2 → ⊥) → (code ≡ 5 → ⊥) → IsRefusedCode code
refused_code code small n0 n1 n2 n5 = record {
  one_of =
      elim (cases_eq code 3) [
        | inl e ↦ inl e
        | inr n3 ↦ elim (cases_eq code 4) [
          | inl e ↦ inr (inl e)
          | inr n4 ↦ elim (cases_eq code 6) [
            | inl e ↦ inr (inr (inl e))
            | inr n6 ↦ inr (inr (inr (omega arith)))
          ]
        ]
      ];
}

type_at_err : (code : ℕ) (c : Cause) → code < 8 → type_at code ≡ Err c → (c ≡ cause.Kind) × IsRefusedCode code
type_at_err code c small e =
    elim (chosen (code == 0) _ _ _ e) [
      | inl t ↦ cc (t.1)
      | inr t0 ↦ elim (chosen (code == 1) _ _ _ t0.1) [
        | inl t ↦ cc (t.1)
        | inr t1 ↦ elim (chosen (code == 2) _ _ _ t1.1) [
          | inl t ↦ cc (t.1)
          | inr t2 ↦ elim (chosen (code == 5) _ _ _ t2.1) [
            | inl t ↦ cc (t.1)
            | inr t5 ↦ (cc (t5.1), refused_code code small (eqb-false code 0 t0.0) (eqb-false code 1 t1.0) (eqb-false code 2 t2.0) (eqb-false code 5 t5.0))
          ]
        ]
      ]
    ]

type_at_refused : (code : ℕ) → IsRefusedCode code → type_at code ≡ Err cause.Kind
type_at_refused code r =
    elim r.one_of [
      | inl e ↦ ap type_at e
      | inr r ↦ elim r [
        | inl e ↦ ap type_at e
        | inr r ↦ elim r [ inl e ↦ ap type_at e | inr e ↦ ap type_at e ]
      ]
    ]

-- ---- a varint as a step

-- a varint that was read as a step
varint_step_ok : (bytes : List ℕ) (x : ℕ × List ℕ) → with_cause varint_cause (varint_at bytes) ≡ Ok x → varint_at bytes ≡ Ok (x.0, x.1)
varint_step_ok bytes x e = with_cause_ok varint_cause (varint_at bytes) x e

-- what bytes that begin with no varint say of the fault
record VarintFails (bytes : List ℕ) (c : Cause) : Type 0 where
  cases : ((c ≡ cause.Short) × IsCutVarint bytes) ⊎ ((c ≡ cause.LongVarint) × IsLongVarint bytes)

varint_step_err : (bytes : List ℕ) (c : Cause) → with_cause varint_cause (varint_at bytes) ≡ Err c → VarintFails bytes c
varint_step_err bytes c e =
    let d = with_cause_err varint_cause (varint_at bytes) c e in
    by_fault d.0 d.1.0 d.1.1 where
      by_fault : (d : VarintFault) → varint_at bytes ≡ Err d → varint_cause d ≡ c → VarintFails bytes c
      by_fault varint.Short h e = record { cases = inl (sym e, read_varint_cut_is bytes h) }
      by_fault varint.Long h e = record { cases = inr (sym e, read_varint_long_is bytes h) }

-- ---- tags

-- what reading a tag took
pub record TakesTag (number : ℕ) (type : WireType) (bytes rest : List ℕ) : Type 0 where
  pub begins : BeginsWithTag number (code_of type) bytes rest
  pub left : IsBytes rest
  pub numbered : 0 < number

-- the varint of a tag, which may be refused
varint_tag : (number code key : ℕ) (bytes rest : List ℕ) → (b : BeginsWithVarint bytes key rest) → number ≡ key % 2 ^ 32 / 8 → code ≡ key % 2 ^ 32 % 8 → BeginsWithTag number code bytes rest
varint_tag number code key bytes rest b n c = record { text = b.text; parts = b.parts; spelled = record { key = key; spelled = b.spelled; number_is = n; code_is = c } }

tag_takes : (bytes : List ℕ) (number : ℕ) (type : WireType) (rest : List ℕ) → IsBytes bytes → tag_at bytes ≡ Ok ((number, type), rest) → TakesTag number type bytes rest
unfolding tag_at
tag_takes bytes number type rest fits e =
    let key = bind_ok (with_cause varint_cause (varint_at bytes)) _ _ e in
    let code = bind_ok (type_at (key.0.0 % 2 ^ 32 % 8)) _ _ key.1.1 in
    let test = guard_ok (key.0.0 % 2 ^ 32 / 8 == 0) _ _ _ code.1.1 in
    let parts = test.1 in
    let n : key.0.0 % 2 ^ 32 / 8 ≡ number = ap (λ x. x.0.0) parts in
    let t : code.0 ≡ type = ap (λ x. x.0.1) parts in
    let r : key.0.1 ≡ rest = ap (λ x. x.1) parts in
    let taken = read_varint_takes bytes key.0.0 key.0.1 fits (varint_step_ok bytes key.0 key.1.0) in
    let some : key.0.0 % 2 ^ 32 / 8 ≡ 0 → ⊥ = eqb-false _ 0 test.0 in
    let c : code_of type ≡ key.0.0 % 2 ^ 32 % 8 = ap code_of (sym t) ∙ sym (type_at_ok _ _ code.1.0) in
    rw (← r) (record {
      begins = varint_tag number (code_of type) key.0.0 bytes key.0.1 taken.0 (sym n) c;
      left = taken.1;
      numbered = omega arith;
    })

-- what is spelled is read, whatever follows
tag_again : (number : ℕ) (type : WireType) (text rest : List ℕ) → 0 < number → SpellsTag number (code_of type) text → tag_at (text ++ rest) ≡ Ok ((number, type), rest)
unfolding tag_at
tag_again number type text rest some s =
    let ne : s.key % 2 ^ 32 / 8 ≡ 0 → ⊥ = omega (arith, s.number_is) in
    bind-Ok _ _ (s.key, rest) (ap (with_cause varint_cause) (read_varint_again text s.key rest s.spelled))
    ∙ (bind-Ok _ _ type (ap type_at (sym s.code_is) ∙ type_at-code_of type)
    ∙ (rw (ne_eqb (s.key % 2 ^ 32 / 8) 0 ne) (ap (λ n. Ok ((n, type), rest)) (sym s.number_is))))

-- a tag that is refused for its varint, its wire type or its number
record TagFails (bytes : List ℕ) (c : Cause) : Type 0 where
  fault : HasFault c bytes

tag_fails : (bytes : List ℕ) (c : Cause) → IsBytes bytes → tag_at bytes ≡ Err c → TagFails bytes c
unfolding tag_at
tag_fails bytes c fits e =
    elim (bind_err (with_cause varint_cause (varint_at bytes)) _ _ e) [
      | inl h ↦ elim (varint_step_err bytes c h).cases [
        | inl s ↦ rw s.0 (record { fault = inl s.1 })
        | inr s ↦ rw s.0 (record { fault = inl s.1 })
      ]
      | inr key ↦
          let begins = (read_varint_takes bytes key.0.0 key.0.1 fits (varint_step_ok bytes key.0 key.1.0)).0 in
          elim (bind_err (type_at (key.0.0 % 2 ^ 32 % 8)) _ _ key.1.1) [
            | inl h ↦
                let refused = type_at_err (key.0.0 % 2 ^ 32 % 8) c (omega arith) h in
                rw refused.0 (record { fault = (_, _, key.0.1, varint_tag _ _ key.0.0 bytes key.0.1 begins refl refl, refused.1) })
            | inr code ↦
                let test = guard_err (key.0.0 % 2 ^ 32 / 8 == 0) _ c _ code.1.1 in
                let zero_number : 0 ≡ key.0.0 % 2 ^ 32 / 8 = sym (eqb-true _ 0 test.0) in
                rw (← test.1) (record { fault = (code.0, key.0.1, varint_tag 0 _ key.0.0 bytes key.0.1 begins zero_number (sym (type_at_ok _ _ code.1.0))) })
          ]
    ]

-- ---- values

-- what reading a value took
pub record TakesValue (at : ℕ) (type : WireType) (bytes : List ℕ) (value : Wire) (rest : List ℕ) : Type 0 where
  pub text : List ℕ
  pub takes : Takes bytes text rest
  pub type_is : type ≡ type_of value
  pub spelled : SpellsValue at value text

TakesValue-same : (at : ℕ) (type : WireType) (bytes : List ℕ) (v value : Wire) (r rest : List ℕ) → v ≡ value → r ≡ rest → TakesValue at type bytes v r → TakesValue at type bytes value rest
TakesValue-same at type bytes v value r rest e f t = rw (← e, ← f) t

part_takes : (end : ℕ) (bytes : List ℕ) (value : Wire) (rest : List ℕ) → IsBytes bytes → length bytes ≤ end → part_at end bytes ≡ Ok (value, rest) → TakesValue (end - length bytes) wire_type.LengthDelimited bytes value rest
unfolding part_at
part_takes end bytes value rest fits within e =
    let len = bind_ok (with_cause varint_cause (varint_at bytes)) _ _ e in
    let test = guard_ok (nat_lt (length len.0.1) len.0.0) _ _ _ len.1.1 in
    let v : wire.Part (end - length len.0.1) (end - length len.0.1 + len.0.0) ≡ value = ap (λ x. x.0) test.1 in
    let r : drop len.0.0 len.0.1 ≡ rest = ap (λ x. x.1) test.1 in
    let taken = read_varint_takes bytes len.0.0 len.0.1 fits (varint_step_ok bytes len.0 len.1.0) in
    TakesValue-same _ wire_type.LengthDelimited bytes _ value _ rest v r (part_taken end bytes len.0.0 len.0.1 within (ltb-false _ _ test.0) taken.0 taken.1) where
      part_taken : (end : ℕ) (bytes : List ℕ) (n : ℕ) (behind : List ℕ) → length bytes ≤ end → n ≤ length behind → BeginsWithVarint bytes n behind → IsBytes behind → TakesValue (end - length bytes) wire_type.LengthDelimited bytes (wire.Part (end - length behind) (end - length behind + n)) (drop n behind)
      part_taken end bytes n behind within many b left =
          let size : length (take n behind) ≡ n = omega (arith, length-take n behind) in
          let whole : length bytes ≡ length b.text + length behind = ap length b.parts ∙ length-append b.text behind in
          let rejoined : behind ≡ take n behind ++ drop n behind = sym (take-append-drop n behind) in
          record {
            text = b.text ++ take n behind;
            takes = record {
              parts = b.parts ∙ (ap (λ l. b.text ++ l) rejoined ∙ sym (append_assoc b.text (take n behind) (drop n behind)));
              left = IsBytes-drop n behind left;
            };
            type_is = refl;
            spelled = record {
              len = b.text;
              bytes = take n behind;
              parts = refl;
              spelled = rw size b.spelled;
              begins = omega arith;
              ends = omega (arith, length-append b.text (take n behind));
            };
          }

value_takes : (end : ℕ) (type : WireType) (bytes : List ℕ) (value : Wire) (rest : List ℕ) → IsBytes bytes → length bytes ≤ end → value_at end type bytes ≡ Ok (value, rest) → TakesValue (end - length bytes) type bytes value rest
unfolding value_at
value_takes end wire_type.Varint bytes value rest fits within e =
    let n = bind_ok (with_cause varint_cause (varint_at bytes)) _ _ e in
    let p = ok_pair (wire.Varint n.0.0) value n.0.1 rest n.1.1 in
    let taken = read_varint_takes bytes n.0.0 n.0.1 fits (varint_step_ok bytes n.0 n.1.0) in
    TakesValue-same _ wire_type.Varint bytes _ value _ rest p.0 p.1 (record { text = taken.0.text; takes = record { parts = taken.0.parts; left = taken.1 }; type_is = refl; spelled = taken.0.spelled })
value_takes end wire_type.Fixed64 bytes value rest fits within e =
    let test = guard_ok (nat_lt (length bytes) 8) _ _ _ e in
    let v : wire.Eight (from_le_bytes w64 (take 8 bytes)) ≡ value = ap (λ x. x.0) test.1 in
    let r : drop 8 bytes ≡ rest = ap (λ x. x.1) test.1 in
    let front = le_front w64 wide_64 bytes fits (ltb-false _ _ test.0) in
    TakesValue-same _ wire_type.Fixed64 bytes _ value _ rest v r (record { text = to_le_bytes w64 (from_le_bytes w64 (take 8 bytes)); takes = front.takes; type_is = refl; spelled = (front.below, refl) })
value_takes end wire_type.LengthDelimited bytes value rest fits within e = part_takes end bytes value rest fits within e
value_takes end wire_type.Fixed32 bytes value rest fits within e =
    let test = guard_ok (nat_lt (length bytes) 4) _ _ _ e in
    let v : wire.Four (from_le_bytes w32 (take 4 bytes)) ≡ value = ap (λ x. x.0) test.1 in
    let r : drop 4 bytes ≡ rest = ap (λ x. x.1) test.1 in
    let front = le_front w32 wide_32 bytes fits (ltb-false _ _ test.0) in
    TakesValue-same _ wire_type.Fixed32 bytes _ value _ rest v r (record { text = to_le_bytes w32 (from_le_bytes w32 (take 4 bytes)); takes = front.takes; type_is = refl; spelled = (front.below, refl) })

-- what is spelled is read, whatever follows
part_again : (end at from to : ℕ) (text rest : List ℕ) → end ≡ at + length (text ++ rest) → SpellsPart at from to text → part_at end (text ++ rest) ≡ Ok (wire.Part from to, rest)
unfolding part_at
part_again end at from to text rest e s =
    let regrouped : text ++ rest ≡ s.len ++ (s.bytes ++ rest) = ap (λ l. l ++ rest) s.parts ∙ append_assoc s.len s.bytes rest in
    let read = ap varint_at regrouped ∙ read_varint_again s.len (length s.bytes) (s.bytes ++ rest) s.spelled in
    let behind : length (s.bytes ++ rest) ≡ length s.bytes + length rest = length-append s.bytes rest in
    let whole : length (text ++ rest) ≡ length text + length rest = length-append text rest in
    let parts : length text ≡ length s.len + length s.bytes = ap length s.parts ∙ length-append s.len s.bytes in
    let b : end - length (s.bytes ++ rest) ≡ from = omega (arith, s.begins) in
    let t : end - length (s.bytes ++ rest) + length s.bytes ≡ to = omega (arith, s.ends, s.begins) in
    bind-Ok _ _ (length s.bytes, s.bytes ++ rest) (ap (with_cause varint_cause) read)
    ∙ rw (le-ltb (length (s.bytes ++ rest)) (length s.bytes) (omega arith), drop_at s.bytes rest (length s.bytes) refl, t, b) refl

fixed_again : (w : Width) → IsWide w → (make : ℕ → Wire) (n : ℕ) (rest : List ℕ) → n < 2 ^ bits w → cond {A = Result (Wire × List ℕ) Cause} (nat_lt (length (to_le_bytes w n ++ rest)) (byte_len w)) (Err cause.Short) (Ok (make (from_le_bytes w (take (byte_len w) (to_le_bytes w n ++ rest))), drop (byte_len w) (to_le_bytes w n ++ rest))) ≡ Ok (make n, rest)
fixed_again w wide make n rest below =
    let many : byte_len w ≤ length (to_le_bytes w n ++ rest) = omega (arith, length-append (to_le_bytes w n) rest, wide.le_length n) in
    rw (le-ltb _ (byte_len w) many, le_written w wide n rest below, le_behind w wide n rest) refl

value_again : (end at : ℕ) (value : Wire) (text rest : List ℕ) → end ≡ at + length (text ++ rest) → SpellsValue at value text → value_at end (type_of value) (text ++ rest) ≡ Ok (value, rest)
unfolding value_at
value_again end at (wire.Varint n) text rest e s =
    bind-Ok _ _ (n, rest) (ap (with_cause varint_cause) (read_varint_again text n rest s))
value_again end at (wire.Eight n) text rest e s = ap (λ l. value_at end wire_type.Fixed64 (l ++ rest)) s.1 ∙ fixed_again w64 wide_64 wire.Eight n rest s.0
value_again end at (wire.Part from to) text rest e s = part_again end at from to text rest e s
value_again end at (wire.Four n) text rest e s = ap (λ l. value_at end wire_type.Fixed32 (l ++ rest)) s.1 ∙ fixed_again w32 wide_32 wire.Four n rest s.0

-- a value that is cut off, or whose varint is too long
record ValueFails (type : WireType) (bytes : List ℕ) (c : Cause) : Type 0 where
  cases : ((c ≡ cause.Short) × IsCutValue type bytes) ⊎ ((c ≡ cause.LongVarint) × IsLongValue type bytes)

part_fails : (end : ℕ) (bytes : List ℕ) (c : Cause) → IsBytes bytes → part_at end bytes ≡ Err c → ValueFails wire_type.LengthDelimited bytes c
unfolding part_at
part_fails end bytes c fits e =
    elim (bind_err (with_cause varint_cause (varint_at bytes)) _ _ e) [
      | inl h ↦ elim (varint_step_err bytes c h).cases [
        | inl s ↦ record { cases = inl (s.0, inl s.1) }
        | inr s ↦ record { cases = inr s }
      ]
      | inr len ↦
          let begins = (read_varint_takes bytes len.0.0 len.0.1 fits (varint_step_ok bytes len.0 len.1.0)).0 in
          let test = guard_err (nat_lt (length len.0.1) len.0.0) _ c _ len.1.1 in
          record {
            cases = inl (
              sym test.1,
              inr (record {
                len = begins.text;
                there = len.0.1;
                size = len.0.0;
                parts = begins.parts;
                spelled = begins.spelled;
                fewer = ltb-true _ _ test.0;
              }),
            );
          }
    ]

value_fails : (end : ℕ) (type : WireType) (bytes : List ℕ) (c : Cause) → IsBytes bytes → value_at end type bytes ≡ Err c → ValueFails type bytes c
unfolding value_at
value_fails end wire_type.Varint bytes c fits e =
    elim (bind_err (with_cause varint_cause (varint_at bytes)) _ _ e) [
      | inl h ↦ elim (varint_step_err bytes c h).cases [
        | inl s ↦ record { cases = inl s }
        | inr s ↦ record { cases = inr s }
      ]
      | inr n ↦ cc (n.1.1)
    ]
value_fails end wire_type.Fixed64 bytes c fits e =
    let test = guard_err (nat_lt (length bytes) 8) _ c _ e in record { cases = inl (sym test.1, ltb-true _ _ test.0) }
value_fails end wire_type.LengthDelimited bytes c fits e = part_fails end bytes c fits e
value_fails end wire_type.Fixed32 bytes c fits e =
    let test = guard_err (nat_lt (length bytes) 4) _ c _ e in record { cases = inl (sym test.1, ltb-true _ _ test.0) }

varint_step_short : (bytes : List ℕ) → IsCutVarint bytes → with_cause varint_cause (varint_at bytes) ≡ Err cause.Short
varint_step_short bytes s = ap (with_cause varint_cause) (read_varint_cut bytes s)

varint_step_long : (bytes : List ℕ) → IsLongVarint bytes → with_cause varint_cause (varint_at bytes) ≡ Err cause.LongVarint
varint_step_long bytes s = ap (with_cause varint_cause) (read_varint_long bytes s)

part_cut : (end : ℕ) (bytes : List ℕ) → IsCutPart bytes → part_at end bytes ≡ Err cause.Short
unfolding part_at
part_cut end bytes s =
    let read = ap varint_at s.parts ∙ read_varint_again s.len s.size s.there s.spelled in
    bind-Ok _ _ (s.size, s.there) (ap (with_cause varint_cause) read) ∙ rw (lt-ltb (length s.there) s.size s.fewer) refl

value_cut : (end : ℕ) (type : WireType) (bytes : List ℕ) → IsCutValue type bytes → value_at end type bytes ≡ Err cause.Short
unfolding value_at part_at
value_cut end wire_type.Varint bytes s = bind-Err _ _ _ (varint_step_short bytes s)
value_cut end wire_type.Fixed64 bytes s = rw (lt-ltb (length bytes) 8 s) refl
value_cut end wire_type.LengthDelimited bytes (inl s) = bind-Err _ _ _ (varint_step_short bytes s)
value_cut end wire_type.LengthDelimited bytes (inr s) = part_cut end bytes s
value_cut end wire_type.Fixed32 bytes s = rw (lt-ltb (length bytes) 4 s) refl

value_long : (end : ℕ) (type : WireType) (bytes : List ℕ) → IsLongValue type bytes → value_at end type bytes ≡ Err cause.LongVarint
unfolding value_at part_at
value_long end wire_type.Varint bytes s = bind-Err _ _ _ (varint_step_long bytes s)
value_long end wire_type.Fixed64 bytes s = absurd s
value_long end wire_type.LengthDelimited bytes s = bind-Err _ _ _ (varint_step_long bytes s)
value_long end wire_type.Fixed32 bytes s = absurd s

-- ---- fields

-- what reading a field took
pub record TakesField (at : ℕ) (bytes : List ℕ) (field : ℕ × Wire) (rest : List ℕ) : Type 0 where
  pub text : List ℕ
  pub takes : Takes bytes text rest
  pub spelled : SpellsField at field text
  pub some : 0 < length text

IsVarint-some : (text : List ℕ) → IsVarint text → 0 < length text
IsVarint-some [] v = absurd v
IsVarint-some (b ∷ bs) v = omega arith

-- a field has a byte at least
pub SpellsField-some : (at : ℕ) (field : ℕ × Wire) (text : List ℕ) → SpellsField at field text → 0 < length text
SpellsField-some at field text s =
    let first : 0 < length s.tag = IsVarint-some s.tag s.tag_spelled.spelled.shape in
    omega (arith, ap length s.parts ∙ length-append s.tag s.value)

field_taken : (at end number : ℕ) (type : WireType) (bytes behind rest : List ℕ) (value : Wire) → end ≡ at + length bytes → TakesTag number type bytes behind → TakesValue (end - length behind) type behind value rest → TakesField at bytes (number, value) rest
field_taken at end number type bytes behind rest value e tag v =
    let b = tag.begins in
    let whole : length bytes ≡ length b.text + length behind = ap length b.parts ∙ length-append b.text behind in
    let place : end - length behind ≡ at + length b.text = omega arith in
    let first : 0 < length b.text = IsVarint-some b.text b.spelled.spelled.shape in
    record {
      text = b.text ++ v.text;
      takes = Takes-then bytes b.text v.text behind rest (record { parts = b.parts; left = tag.left }) v.takes;
      spelled = record {
        tag = b.text;
        value = v.text;
        parts = refl;
        numbered = tag.numbered;
        tag_spelled = rw (ap code_of v.type_is) at b.spelled;
        value_spelled = rw place at v.spelled;
      };
      some = omega (arith, length-append b.text v.text);
    }

-- what is read is spelled
pub field_takes : (at end : ℕ) (bytes : List ℕ) (field : ℕ × Wire) (rest : List ℕ) → IsBytes bytes → end ≡ at + length bytes → field_at end bytes ≡ Ok (field, rest) → TakesField at bytes field rest
unfolding field_at
field_takes at end bytes field rest fits e h =
    let tag = bind_ok (tag_at bytes) _ _ h in
    let value = bind_ok (value_at end tag.0.0.1 tag.0.1) _ _ tag.1.1 in
    let p = ok_pair (tag.0.0.0, value.0.0) field value.0.1 rest value.1.1 in
    let taken = tag_takes bytes tag.0.0.0 tag.0.0.1 tag.0.1 fits tag.1.0 in
    let within : length tag.0.1 ≤ end = omega (arith, ap length taken.begins.parts ∙ length-append taken.begins.text tag.0.1) in
    let v = value_takes end tag.0.0.1 tag.0.1 value.0.0 value.0.1 taken.left within value.1.0 in
    TakesField-same at bytes _ field _ rest p.0 p.1 (field_taken at end tag.0.0.0 tag.0.0.1 bytes tag.0.1 value.0.1 value.0.0 e taken v) where
      TakesField-same : (at : ℕ) (bytes : List ℕ) (f field : ℕ × Wire) (r rest : List ℕ) → f ≡ field → r ≡ rest → TakesField at bytes f r → TakesField at bytes field rest
      TakesField-same at bytes f field r rest e g t = rw (← e, ← g) t

-- what is spelled is read, whatever follows
pub field_again : (at end : ℕ) (field : ℕ × Wire) (text rest : List ℕ) → end ≡ at + length (text ++ rest) → SpellsField at field text → field_at end (text ++ rest) ≡ Ok (field, rest)
unfolding field_at
field_again at end field text rest e s =
    let regrouped : text ++ rest ≡ s.tag ++ (s.value ++ rest) = ap (λ l. l ++ rest) s.parts ∙ append_assoc s.tag s.value rest in
    let sizes : length (text ++ rest) ≡ length s.tag + length (s.value ++ rest) = ap length regrouped ∙ length-append s.tag (s.value ++ rest) in
    let place : end ≡ at + length s.tag + length (s.value ++ rest) = omega arith in
    bind-Ok _ _ ((field.0, type_of field.1), s.value ++ rest) (ap tag_at regrouped ∙ tag_again field.0 (type_of field.1) s.tag (s.value ++ rest) s.numbered s.tag_spelled)
    ∙ bind-Ok _ _ (field.1, rest) (value_again end (at + length s.tag) field.1 s.value rest place s.value_spelled)

lawful : (number : ℕ) (type : WireType) (bytes rest : List ℕ) → TakesTag number type bytes rest → BeginsWithLawfulTag type bytes rest
lawful number type bytes rest t = record { number = number; numbered = t.numbered; tag = t.begins }

-- a field that is refused has the fault that stands there
pub record FieldFails (bytes : List ℕ) (c : Cause) : Type 0 where
  pub fault : HasFault c bytes

pub field_fails : (end : ℕ) (bytes : List ℕ) (c : Cause) → IsBytes bytes → field_at end bytes ≡ Err c → FieldFails bytes c
unfolding field_at
field_fails end bytes c fits h =
    elim (bind_err (tag_at bytes) _ _ h) [
      | inl t ↦ record { fault = (tag_fails bytes c fits t).fault }
      | inr tag ↦
          let taken = tag_takes bytes tag.0.0.0 tag.0.0.1 tag.0.1 fits tag.1.0 in
          let begins = lawful tag.0.0.0 tag.0.0.1 bytes tag.0.1 taken in
          elim (bind_err (value_at end tag.0.0.1 tag.0.1) _ _ tag.1.1) [
            | inl v ↦ elim (value_fails end tag.0.0.1 tag.0.1 c taken.left v).cases [
              | inl s ↦ rw s.0 (record { fault = inr (tag.0.0.1, tag.0.1, begins, s.1) })
              | inr s ↦ rw s.0 (record { fault = inr (tag.0.0.1, tag.0.1, begins, s.1) })
            ]
            | inr v ↦ cc (v.1.1)
          ]
    ]

-- where a fault stands the field is refused for it
field_begun : (end : ℕ) (type : WireType) (bytes rest : List ℕ) (c : Cause) → BeginsWithLawfulTag type bytes rest → value_at end type rest ≡ Err c → field_at end bytes ≡ Err c
unfolding field_at
field_begun end type bytes rest c b e =
    bind-Ok _ _ ((b.number, type), rest) (ap tag_at b.tag.parts ∙ tag_again b.number type b.tag.text rest b.numbered b.tag.spelled)
    ∙ bind-Err _ _ _ e

tag_varint_fails : (end : ℕ) (bytes : List ℕ) (c : Cause) → with_cause varint_cause (varint_at bytes) ≡ Err c → field_at end bytes ≡ Err c
unfolding field_at tag_at
tag_varint_fails end bytes c e = bind-Err _ _ _ (bind-Err _ _ _ e)

tag_key : (number code : ℕ) (bytes rest : List ℕ) → (b : BeginsWithTag number code bytes rest) → with_cause varint_cause (varint_at bytes) ≡ Ok (b.spelled.key, rest)
tag_key number code bytes rest b = ap (with_cause varint_cause) (ap varint_at b.parts ∙ read_varint_again b.text b.spelled.key rest b.spelled.spelled)

tag_refused : (end number code : ℕ) (bytes rest : List ℕ) → BeginsWithTag number code bytes rest → IsRefusedCode code → field_at end bytes ≡ Err cause.Kind
unfolding field_at tag_at
tag_refused end number code bytes rest b r =
    bind-Err _ _ _ (bind-Ok _ _ (b.spelled.key, rest) (tag_key number code bytes rest b) ∙ bind-Err _ _ _ (ap type_at (sym b.spelled.code_is) ∙ type_at_refused code r))

tag_zero : (end : ℕ) (type : WireType) (bytes rest : List ℕ) → BeginsWithTag 0 (code_of type) bytes rest → field_at end bytes ≡ Err cause.FieldZero
unfolding field_at tag_at
tag_zero end type bytes rest b =
    bind-Err _ _ _ (bind-Ok _ _ (b.spelled.key, rest) (tag_key 0 (code_of type) bytes rest b)
    ∙ (bind-Ok _ _ type (ap type_at (sym b.spelled.code_is) ∙ type_at-code_of type)
    ∙ rw (eq-eqb (b.spelled.key % 2 ^ 32 / 8) 0 (sym b.spelled.number_is)) refl))

pub fault_again : (end : ℕ) (bytes : List ℕ) (c : Cause) → HasFault c bytes → field_at end bytes ≡ Err c
fault_again end bytes cause.Short (inl s) = tag_varint_fails end bytes _ (varint_step_short bytes s)
fault_again end bytes cause.Short (inr s) = field_begun end s.0 bytes s.1 _ s.2 (value_cut end s.0 s.1 s.3)
fault_again end bytes cause.LongVarint (inl s) = tag_varint_fails end bytes _ (varint_step_long bytes s)
fault_again end bytes cause.LongVarint (inr s) = field_begun end s.0 bytes s.1 _ s.2 (value_long end s.0 s.1 s.3)
fault_again end bytes cause.Kind s = tag_refused end s.0 s.1 bytes s.2 s.3 s.4
fault_again end bytes cause.FieldZero s = tag_zero end s.0 bytes s.1 s.2

-- ---- what is left behind a field is shorter

tag_at-rest : (bytes : List ℕ) (tag : ℕ × WireType) (rest : List ℕ) → tag_at bytes ≡ Ok (tag, rest) → length rest < length bytes
unfolding tag_at
tag_at-rest bytes tag rest e =
    let key = bind_ok (with_cause varint_cause (varint_at bytes)) _ _ e in
    let code = bind_ok (type_at (key.0.0 % 2 ^ 32 % 8)) _ _ key.1.1 in
    let test = guard_ok (key.0.0 % 2 ^ 32 / 8 == 0) _ _ _ code.1.1 in
    let r : key.0.1 ≡ rest = ap (λ x. x.1) test.1 in
    omega (arith, varint_at-rest bytes key.0.0 key.0.1 (varint_step_ok bytes key.0 key.1.0), ap length r)

part_at-rest : (end : ℕ) (bytes : List ℕ) (value : Wire) (rest : List ℕ) → part_at end bytes ≡ Ok (value, rest) → length rest ≤ length bytes
unfolding part_at
part_at-rest end bytes value rest e =
    let len = bind_ok (with_cause varint_cause (varint_at bytes)) _ _ e in
    let test = guard_ok (nat_lt (length len.0.1) len.0.0) _ _ _ len.1.1 in
    let r : drop len.0.0 len.0.1 ≡ rest = ap (λ x. x.1) test.1 in
    omega (arith, varint_at-rest bytes len.0.0 len.0.1 (varint_step_ok bytes len.0 len.1.0), ap length r, length-drop len.0.0 len.0.1)

value_at-rest : (end : ℕ) (type : WireType) (bytes : List ℕ) (value : Wire) (rest : List ℕ) → value_at end type bytes ≡ Ok (value, rest) → length rest ≤ length bytes
unfolding value_at
value_at-rest end wire_type.Varint bytes value rest e =
    let n = bind_ok (with_cause varint_cause (varint_at bytes)) _ _ e in
    let p = ok_pair (wire.Varint n.0.0) value n.0.1 rest n.1.1 in
    omega (arith, varint_at-rest bytes n.0.0 n.0.1 (varint_step_ok bytes n.0 n.1.0), ap length p.1)
value_at-rest end wire_type.Fixed64 bytes value rest e =
    let test = guard_ok (nat_lt (length bytes) 8) _ _ _ e in
    let r : drop 8 bytes ≡ rest = ap (λ x. x.1) test.1 in
    omega (arith, ap length r, length-drop 8 bytes)
value_at-rest end wire_type.LengthDelimited bytes value rest e = part_at-rest end bytes value rest e
value_at-rest end wire_type.Fixed32 bytes value rest e =
    let test = guard_ok (nat_lt (length bytes) 4) _ _ _ e in
    let r : drop 4 bytes ≡ rest = ap (λ x. x.1) test.1 in
    omega (arith, ap length r, length-drop 4 bytes)

pub field_at-rest : (end : ℕ) (bytes : List ℕ) (field : ℕ × Wire) (rest : List ℕ) → field_at end bytes ≡ Ok (field, rest) → length rest < length bytes
unfolding field_at
field_at-rest end bytes field rest e =
    let tag = bind_ok (tag_at bytes) _ _ e in
    let value = bind_ok (value_at end tag.0.0.1 tag.0.1) _ _ tag.1.1 in
    let p = ok_pair (tag.0.0.0, value.0.0) field value.0.1 rest value.1.1 in
    omega (arith, tag_at-rest bytes tag.0.0 tag.0.1 tag.1.0, value_at-rest end tag.0.0.1 tag.0.1 value.0.0 value.0.1 value.1.0, ap length p.1)
