-- Packed lists: what is read is spelled, what is spelled is read, and each fault is the one that stands there.
use Rattle.std.proofs.Common.{◌≡◌, ◌==◌, ℕ, zero, suc, ◌+◌, ◌-◌, ◌<◌, ◌≤◌, List, [], ◌∷◌, ◌++◌, length, Bool, true, false, cond, Result, Ok, Err, MatchBool, inl, inr, subst, refl, sym, ap, ◌∙◌, append_assoc, length-append, arith, drop}
use Rattle.std.proofs.lemmas.Bool.{eq-eqb}
use Rattle.std.proofs.lemmas.Bool.Decides.{nat_tests}
use Rattle.proto_fields.specs.declared.varints.VarintFault.{VarintFault}
use Rattle.proto_fields.specs.declared.varints.VarintFault.TheVariants as varint
use Rattle.proto_fields.specs.declared.reading.Wire.{Wire}
use Rattle.proto_fields.specs.declared.reading.Wire.TheVariants as wire
use Rattle.proto_fields.specs.declared.reading.WireFault.{WireFault}
use Rattle.proto_fields.specs.declared.reading.WireFault.TheVariants as fault
use Rattle.hd_base.specs.Results.{◌>>=◌, with_cause, with_value}
use Rattle.hd_base.specs.Bytes.{IsBytes}
use Rattle.proto_fields.specs.Varint.{BeginsWithVarint, varint_at}
use Rattle.proto_fields.specs.Fields.{place_of}
use Rattle.proto_fields.specs.Values.{part_bytes}
use Rattle.hd_base.proofs.ByteLaws.{IsBytes-take, IsBytes-drop}
use Rattle.hd_base.proofs.ResultLaws.{bind_ok, bind_err, bind-Ok, bind-Err, with_cause_ok, with_cause_err, with_value_ok, with_value_err, ok_value}
use Rattle.proto_fields.proofs.VarintLemmas.{varint_at-rest, read_varint_takes, read_varint_again, read_varint_cut, read_varint_cut_is, read_varint_long, read_varint_long_is}
use Rattle.ack_codec.specs.Packed.{SpellsNumbers, HasVarintFault, FirstNumberFault, GivesNumbers, RepeatsAt, Repeats, FirstPackedFault, varint_fault, numbers_within, numbers_from, numbers_at, given, given_under, repeated}

not_err : {A E : Type 0} (x : A) (e : E) → ◌≡◌ {A = Result A E} (Ok x) (Err e) → ⊥
not_err x e h = cc

-- ---- one number after the other

-- steps that agree on what was read
bind_same : {A B E : Type 0} (r : Result A E) (f g : A → Result B E) → ((x : A) → r ≡ Ok x → f x ≡ g x) → (r >>= f) ≡ (r >>= g)
bind_same (Ok x) f g same = same x refl
bind_same (Err e) f g same = refl

-- More than enough numbers are as good as enough.
enough : (left more end : ℕ) (bytes : List ℕ) → length bytes ≤ left → length bytes ≤ more → numbers_within left end bytes ≡ numbers_within more end bytes
unfolding numbers_within
enough zero zero end bytes few many = refl
enough zero (suc more) end [] few many = refl
enough zero (suc more) end (b ∷ bs) few many = absurd (omega arith)
enough (suc left) zero end [] few many = refl
enough (suc left) zero end (b ∷ bs) few many = absurd (omega arith)
enough (suc left) (suc more) end [] few many = refl
enough (suc left) (suc more) end (b ∷ bs) few many =
    bind_same (with_cause (varint_fault (end - length (b ∷ bs))) (varint_at (b ∷ bs))) _ _ (λ x e.
    let shorter : length x.1 < length (b ∷ bs) = varint_at-rest (b ∷ bs) x.0 x.1 (with_cause_ok _ _ x e) in
    ap (with_value (λ ns. x.0 ∷ ns)) (enough left more end x.1 (omega arith) (omega arith)))

-- One step of the numbers of a packed list.
pub numbers_from-number : (end : ℕ) (bytes : List ℕ) (n : ℕ) (rest : List ℕ) → varint_at bytes ≡ Ok (n, rest) → 0 < length bytes → numbers_from end bytes ≡ with_value (λ ns. n ∷ ns) (numbers_from end rest)
unfolding numbers_within
numbers_from-number end [] n rest e some = absurd (omega arith)
numbers_from-number end (b ∷ bs) n rest e some =
    let shorter : length rest < length (b ∷ bs) = varint_at-rest (b ∷ bs) n rest e in
    bind-Ok _ _ (n, rest) (ap (with_cause (varint_fault (end - length (b ∷ bs)))) e)
    ∙ ap (with_value (λ ns. n ∷ ns)) (enough (length bs) (length rest) end rest (omega arith) (omega arith))

pub numbers_from-fault : (end : ℕ) (bytes : List ℕ) (f : VarintFault) → varint_at bytes ≡ Err f → 0 < length bytes → numbers_from end bytes ≡ Err (varint_fault (end - length bytes) f)
unfolding numbers_within
numbers_from-fault end [] f e some = absurd (omega arith)
numbers_from-fault end (b ∷ bs) f e some = bind-Err _ _ (varint_fault (end - length (b ∷ bs)) f) (ap (with_cause (varint_fault (end - length (b ∷ bs)))) e)

numbers_from-end : (end : ℕ) → numbers_from end [] ≡ Ok []
unfolding numbers_within
numbers_from-end end = refl

pub numbers_from-none : (end : ℕ) (bytes : List ℕ) → length bytes ≡ 0 → numbers_from end bytes ≡ Ok []
numbers_from-none end [] none = numbers_from-end end
numbers_from-none end (b ∷ bs) none = absurd (omega arith)

-- ---- packed lists

-- the number that bytes begin with takes a byte at least
begins_some : (bytes : List ℕ) (n : ℕ) (rest : List ℕ) → varint_at bytes ≡ Ok (n, rest) → 0 < length bytes
begins_some bytes n rest e = let shorter = varint_at-rest bytes n rest e in omega arith

pub spelled_numbers : (end : ℕ) (ns bytes : List ℕ) → SpellsNumbers ns bytes → numbers_from end bytes ≡ Ok ns
spelled_numbers end [] bytes s = ap (λ l. numbers_from end l) s ∙ numbers_from-end end
spelled_numbers end (n ∷ ns) bytes s =
    let here : varint_at bytes ≡ Ok (n, s.1) = ap varint_at s.2 ∙ read_varint_again s.0 n s.1 s.3 in
    numbers_from-number end bytes n s.1 here (begins_some bytes n s.1 here) ∙ ap (with_value (λ ms. n ∷ ms)) (spelled_numbers end ns s.1 s.4)

numbers_within_spell : (left end : ℕ) (bytes ns : List ℕ) → IsBytes bytes → length bytes ≤ left → numbers_within left end bytes ≡ Ok ns → SpellsNumbers ns bytes
unfolding numbers_within
numbers_within_spell zero end [] ns fits few e = subst (λ (l : List ℕ). SpellsNumbers l []) (ok_value [] ns e) refl
numbers_within_spell zero end (b ∷ bs) ns fits few e = absurd (omega arith)
numbers_within_spell (suc left) end [] ns fits few e = subst (λ (l : List ℕ). SpellsNumbers l []) (ok_value [] ns e) refl
numbers_within_spell (suc left) end (b ∷ bs) ns fits few e =
    let one = bind_ok (with_cause (varint_fault (end - length (b ∷ bs))) (varint_at (b ∷ bs))) _ ns e in
    let two = with_value_ok _ (numbers_within left end one.0.1) ns one.1.1 in
    let here : varint_at (b ∷ bs) ≡ Ok (one.0.0, one.0.1) = with_cause_ok _ _ one.0 one.1.0 in
    let taken = read_varint_takes (b ∷ bs) one.0.0 one.0.1 fits here in
    let shorter : length one.0.1 < length (b ∷ bs) = varint_at-rest (b ∷ bs) one.0.0 one.0.1 here in
    subst (λ (l : List ℕ). SpellsNumbers l (b ∷ bs)) two.1.1
    (taken.0.text, one.0.1, taken.0.parts, taken.0.spelled, numbers_within_spell left end one.0.1 two.0 taken.1 (omega arith) two.1.0)

pub numbers_from_spell : (end : ℕ) (bytes ns : List ℕ) → IsBytes bytes → numbers_from end bytes ≡ Ok ns → SpellsNumbers ns bytes
numbers_from_spell end bytes ns fits e = numbers_within_spell (length bytes) end bytes ns fits (omega arith) e

place_of-varint_fault : (at : ℕ) (f : VarintFault) → place_of (varint_fault at f) ≡ at
place_of-varint_fault at varint.Short = refl
place_of-varint_fault at varint.Long = refl

varint_fault_found : (at : ℕ) (bytes : List ℕ) (f : VarintFault) → varint_at bytes ≡ Err f → HasVarintFault (varint_fault at f) bytes
varint_fault_found at bytes varint.Short e = read_varint_cut_is bytes e
varint_fault_found at bytes varint.Long e = read_varint_long_is bytes e

-- what a fault behind a number says of the whole
behind_number : (at : ℕ) (bytes : List ℕ) (n : ℕ) (rest : List ℕ) (e : WireFault) (b : BeginsWithVarint bytes n rest) → FirstNumberFault (at + length b.text) rest e → FirstNumberFault at bytes e
behind_number at bytes n rest e b f = record {
  front = b.text ++ f.front;
  rest = f.rest;
  parts = b.parts ∙ (ap (λ l. b.text ++ l) f.parts ∙ sym (append_assoc b.text f.front f.rest));
  numbers = n ∷ f.numbers;
  spelled = (b.text, f.front, refl, b.spelled, f.spelled);
  place = omega (arith, f.place, length-append b.text f.front);
  some = f.some;
  found = f.found;
}

numbers_within_fail : (left at end : ℕ) (bytes : List ℕ) (e : WireFault) → IsBytes bytes → length bytes ≤ left → end ≡ at + length bytes → numbers_within left end bytes ≡ Err e → FirstNumberFault at bytes e
unfolding numbers_within
numbers_within_fail zero at end bytes e fits few ends h = absurd (not_err [] e h)
numbers_within_fail (suc left) at end [] e fits few ends h = absurd (not_err [] e h)
numbers_within_fail (suc left) at end (b ∷ bs) e fits few ends h =
    elim (bind_err (with_cause (varint_fault (end - length (b ∷ bs))) (varint_at (b ∷ bs))) _ e h) [
      | inl one ↦
          let f = with_cause_err (varint_fault (end - length (b ∷ bs))) (varint_at (b ∷ bs)) e one in
          let here : end - length (b ∷ bs) ≡ at = omega arith in
          let same : varint_fault at f.0 ≡ e = ap (λ k. varint_fault k f.0) (sym here) ∙ f.1.1 in
          subst (λ (d : WireFault). FirstNumberFault at (b ∷ bs) d) same (at_front at (b ∷ bs) f.0 (omega arith) f.1.0)
      | inr later ↦
          let here : varint_at (b ∷ bs) ≡ Ok (later.0.0, later.0.1) = with_cause_ok _ _ later.0 later.1.0 in
          let taken = read_varint_takes (b ∷ bs) later.0.0 later.0.1 fits here in
          let shorter : length later.0.1 < length (b ∷ bs) = varint_at-rest (b ∷ bs) later.0.0 later.0.1 here in
          let sizes : length (b ∷ bs) ≡ length taken.0.text + length later.0.1 = ap length taken.0.parts ∙ length-append taken.0.text later.0.1 in
          behind_number at (b ∷ bs) later.0.0 later.0.1 e taken.0
          (numbers_within_fail left (at + length taken.0.text) end later.0.1 e taken.1 (omega arith) (omega arith) (with_value_err _ _ e later.1.1))
    ]
  where
    at_front : (at : ℕ) (bytes : List ℕ) (f : VarintFault) → 0 < length bytes → varint_at bytes ≡ Err f → FirstNumberFault at bytes (varint_fault at f)
    at_front at bytes f some e = record {
      front = [];
      rest = bytes;
      parts = refl;
      numbers = [];
      spelled = refl;
      place = place_of-varint_fault at f ∙ omega arith;
      some = some;
      found = varint_fault_found at bytes f e;
    }

pub numbers_at_fail : (bytes : List ℕ) (e : WireFault) → IsBytes bytes → numbers_at bytes ≡ Err e → FirstNumberFault 0 bytes e
numbers_at_fail bytes e fits h = numbers_within_fail (length bytes) 0 (length bytes) bytes e fits (omega arith) (omega arith) h

-- the fault that stands at the front comes
front_fault : (at end : ℕ) (bytes : List ℕ) (e : WireFault) → end ≡ at + length bytes → place_of e ≡ at → 0 < length bytes → HasVarintFault e bytes → numbers_from end bytes ≡ Err e
front_fault at end bytes (fault.Short k) ends place some found =
    let here : end - length bytes ≡ k = omega arith in
    numbers_from-fault end bytes varint.Short (read_varint_cut bytes found) some ∙ ap (λ p. Err (fault.Short p)) here
front_fault at end bytes (fault.LongVarint k) ends place some found =
    let here : end - length bytes ≡ k = omega arith in
    numbers_from-fault end bytes varint.Long (read_varint_long bytes found) some ∙ ap (λ p. Err (fault.LongVarint p)) here
front_fault at end bytes (fault.Kind k) ends place some found = absurd found
front_fault at end bytes (fault.FieldZero k) ends place some found = absurd found

faulty_numbers_from : (at end : ℕ) (ns front rest bytes : List ℕ) (e : WireFault) → bytes ≡ front ++ rest → SpellsNumbers ns front → end ≡ at + length bytes → place_of e ≡ at + length front → 0 < length rest → HasVarintFault e rest → numbers_from end bytes ≡ Err e
faulty_numbers_from at end [] front rest bytes e parts s ends place some found =
    let same : bytes ≡ rest = parts ∙ ap (λ l. l ++ rest) s in
    let none : length front ≡ 0 = ap length s in
    ap (numbers_from end) same ∙ front_fault at end rest e (omega (arith, ap length same)) (omega arith) some found
faulty_numbers_from at end (n ∷ ns) front rest bytes e parts s ends place some found =
    let behind : List ℕ = s.1 ++ rest in
    let regrouped : bytes ≡ s.0 ++ behind = parts ∙ (ap (λ l. l ++ rest) s.2 ∙ append_assoc s.0 s.1 rest) in
    let here : varint_at bytes ≡ Ok (n, behind) = ap varint_at regrouped ∙ read_varint_again s.0 n behind s.3 in
    let sizes : length bytes ≡ length s.0 + length behind = ap length regrouped ∙ length-append s.0 behind in
    let front_size : length front ≡ length s.0 + length s.1 = ap length s.2 ∙ length-append s.0 s.1 in
    numbers_from-number end bytes n behind here (begins_some bytes n behind here)
    ∙ ap (with_value (λ ms. n ∷ ms)) (faulty_numbers_from (at + length s.0) end ns s.1 rest behind e refl s.4 (omega arith) (omega arith) some found)

pub faulty_numbers_at : (bytes : List ℕ) (e : WireFault) → FirstNumberFault 0 bytes e → numbers_at bytes ≡ Err e
faulty_numbers_at bytes e f = faulty_numbers_from 0 (length bytes) f.numbers f.front f.rest bytes e f.parts f.spelled (omega arith) f.place f.some f.found

-- A list of numbers has a byte for each at least.
pub SpellsNumbers-length : (ns bytes : List ℕ) → SpellsNumbers ns bytes → length ns ≤ length bytes
SpellsNumbers-length [] bytes s = omega arith
SpellsNumbers-length (n ∷ ns) bytes s =
    let here : varint_at bytes ≡ Ok (n, s.1) = ap varint_at s.2 ∙ read_varint_again s.0 n s.1 s.3 in
    omega (arith, varint_at-rest bytes n s.1 here, SpellsNumbers-length ns s.1 s.4)

-- ---- the numbers of one value

IsBytes-part : (bytes : List ℕ) (p : ℕ × ℕ) → IsBytes bytes → IsBytes (part_bytes bytes p)
IsBytes-part bytes p fits = IsBytes-take (p.1 - p.0) (drop p.0 bytes) (IsBytes-drop p.0 bytes fits)

given_gives : (bytes : List ℕ) (value : Wire) (ns : List ℕ) → IsBytes bytes → given bytes value ≡ Ok ns → GivesNumbers bytes value ns
given_gives bytes (wire.Varint n) ns fits e = sym (ok_value (n ∷ []) ns e)
given_gives bytes (wire.Part from to) ns fits e = numbers_from_spell _ (part_bytes bytes (from, to)) ns (IsBytes-part bytes (from, to) fits) e
given_gives bytes (wire.Eight n) ns fits e = sym (ok_value [] ns e)
given_gives bytes (wire.Four n) ns fits e = sym (ok_value [] ns e)

gives_given : (bytes : List ℕ) (value : Wire) (ns : List ℕ) → GivesNumbers bytes value ns → given bytes value ≡ Ok ns
gives_given bytes (wire.Varint n) ns s = ap Ok (sym s)
gives_given bytes (wire.Part from to) ns s = spelled_numbers _ ns (part_bytes bytes (from, to)) s
gives_given bytes (wire.Eight n) ns s = ap Ok (sym s)
gives_given bytes (wire.Four n) ns s = ap Ok (sym s)

-- the part that a fault stands in
record IsFaultyPart (bytes : List ℕ) (value : Wire) (e : WireFault) : Type 0 where
  from : ℕ
  to : ℕ
  value_is : value ≡ wire.Part from to
  faulty : FirstNumberFault 0 (part_bytes bytes (from, to)) e

given_fails : (bytes : List ℕ) (value : Wire) (e : WireFault) → IsBytes bytes → given bytes value ≡ Err e → IsFaultyPart bytes value e
given_fails bytes (wire.Varint n) e fits h = absurd (not_err (n ∷ []) e h)
given_fails bytes (wire.Part from to) e fits h = record { from = from; to = to; value_is = refl; faulty = numbers_at_fail (part_bytes bytes (from, to)) e (IsBytes-part bytes (from, to) fits) h }
given_fails bytes (wire.Eight n) e fits h = absurd (not_err [] e h)
given_fails bytes (wire.Four n) e fits h = absurd (not_err [] e h)

-- ---- the numbers of one field

given_under_repeats : (number : ℕ) (bytes : List ℕ) (f : ℕ × Wire) (ns : List ℕ) → IsBytes bytes → given_under number bytes f ≡ Ok ns → RepeatsAt number bytes f ns
given_under_repeats number bytes f ns fits e = by_test (f.0 == number) e where
  by_test : (b : Bool) → cond b (given bytes f.1) (Ok []) ≡ Ok ns → MatchBool b (GivesNumbers bytes f.1 ns) (ns ≡ [])
  by_test true e = given_gives bytes f.1 ns fits e
  by_test false e = sym (ok_value [] ns e)

repeats_given_under : (number : ℕ) (bytes : List ℕ) (f : ℕ × Wire) (ns : List ℕ) → RepeatsAt number bytes f ns → given_under number bytes f ≡ Ok ns
repeats_given_under number bytes f ns s = by_test (f.0 == number) s where
  by_test : (b : Bool) → MatchBool b (GivesNumbers bytes f.1 ns) (ns ≡ []) → cond b (given bytes f.1) (Ok []) ≡ Ok ns
  by_test true s = gives_given bytes f.1 ns s
  by_test false s = ap Ok (sym s)

-- the field that a fault stands in
record IsFaultyField (number : ℕ) (bytes : List ℕ) (f : ℕ × Wire) (e : WireFault) : Type 0 where
  number_is : (f.0 == number) ≡ true
  part : IsFaultyPart bytes f.1 e

given_under_fails : (number : ℕ) (bytes : List ℕ) (f : ℕ × Wire) (e : WireFault) → IsBytes bytes → given_under number bytes f ≡ Err e → IsFaultyField number bytes f e
given_under_fails number bytes f e fits h = by_test (f.0 == number) refl h where
  by_test : (b : Bool) → (f.0 == number) ≡ b → cond b (given bytes f.1) (Ok []) ≡ Err e → IsFaultyField number bytes f e
  by_test true t h = record { number_is = t; part = given_fails bytes f.1 e fits h }
  by_test false t h = absurd (not_err [] e h)

-- ---- the numbers of all fields

pub repeated_repeats : (number : ℕ) (bytes : List ℕ) (fs : List (ℕ × Wire)) (ns : List ℕ) → IsBytes bytes → repeated number bytes fs ≡ Ok ns → Repeats number bytes fs ns
repeated_repeats number bytes [] ns fits e = sym (ok_value [] ns e)
repeated_repeats number bytes (f ∷ fs) ns fits e =
    let one = bind_ok (given_under number bytes f) _ ns e in
    let two = with_value_ok _ (repeated number bytes fs) ns one.1.1 in
    (one.0, two.0, sym two.1.1, given_under_repeats number bytes f one.0 fits one.1.0, repeated_repeats number bytes fs two.0 fits two.1.0)

pub repeats_repeated : (number : ℕ) (bytes : List ℕ) (fs : List (ℕ × Wire)) (ns : List ℕ) → Repeats number bytes fs ns → repeated number bytes fs ≡ Ok ns
repeats_repeated number bytes [] ns s = ap Ok (sym s)
repeats_repeated number bytes (f ∷ fs) ns s =
    bind-Ok _ _ s.0 (repeats_given_under number bytes f s.0 s.3)
    ∙ (ap (with_value (λ later. s.0 ++ later)) (repeats_repeated number bytes fs s.1 s.4)
    ∙ ap Ok (sym s.2))

pub repeated_fails : (number : ℕ) (bytes : List ℕ) (fs : List (ℕ × Wire)) (e : WireFault) → IsBytes bytes → repeated number bytes fs ≡ Err e → FirstPackedFault number bytes fs e
repeated_fails number bytes [] e fits h = absurd (not_err [] e h)
repeated_fails number bytes (f ∷ fs) e fits h =
    elim (bind_err (given_under number bytes f) _ e h) [
      | inl one ↦
          let g = given_under_fails number bytes f e fits one in
          let n : f.0 ≡ number = same_number f.0 number g.number_is in
          record {
            before = [];
            from = g.part.from;
            to = g.part.to;
            behind = fs;
            parts = ap (λ (x : ℕ × Wire). x ∷ fs) (same_pair f.0 number f.1 (wire.Part g.part.from g.part.to) n g.part.value_is);
            numbers = [];
            whole = refl;
            faulty = g.part.faulty;
          }
      | inr later ↦
          let g = repeated_fails number bytes fs e fits (with_value_err _ _ e later.1.1) in
          record {
            before = f ∷ g.before;
            from = g.from;
            to = g.to;
            behind = g.behind;
            parts = ap (λ (l : List (ℕ × Wire)). f ∷ l) g.parts;
            numbers = later.0 ++ g.numbers;
            whole = (later.0, g.numbers, refl, given_under_repeats number bytes f later.0 fits later.1.0, g.whole);
            faulty = g.faulty;
          }
    ]
  where
    same_number : (a b : ℕ) → (a == b) ≡ true → a ≡ b
    same_number a b t = grind (arith, nat_tests)

    same_pair : {A B : Type 0} (a c : A) (b d : B) → a ≡ c → b ≡ d → ◌≡◌ {A = A × B} (a, b) (c, d)
    same_pair a c b d e h = cc

faulty_repeated_from : (number : ℕ) (bytes : List ℕ) (before behind fs : List (ℕ × Wire)) (from to : ℕ) (ns : List ℕ) (e : WireFault) → fs ≡ before ++ (number, wire.Part from to) ∷ behind → Repeats number bytes before ns → FirstNumberFault 0 (part_bytes bytes (from, to)) e → repeated number bytes fs ≡ Err e
faulty_repeated_from number bytes [] behind fs from to ns e parts s f =
    let same : (number == number) ≡ true = eq-eqb number number refl in
    ap (repeated number bytes) parts
    ∙ bind-Err _ _ e (ap (λ b. cond b (given bytes (wire.Part from to)) (Ok [])) same ∙ faulty_numbers_at (part_bytes bytes (from, to)) e f)
faulty_repeated_from number bytes (g ∷ gs) behind fs from to ns e parts s f =
    ap (repeated number bytes) parts
    ∙ (bind-Ok _ _ s.0 (repeats_given_under number bytes g s.0 s.3)
    ∙ ap (with_value (λ later. s.0 ++ later)) (faulty_repeated_from number bytes gs behind (gs ++ (number, wire.Part from to) ∷ behind) from to s.1 e refl s.4 f))

pub faulty_repeated : (number : ℕ) (bytes : List ℕ) (fs : List (ℕ × Wire)) (e : WireFault) → FirstPackedFault number bytes fs e → repeated number bytes fs ≡ Err e
faulty_repeated number bytes fs e f = faulty_repeated_from number bytes f.before f.behind fs f.from f.to f.numbers e f.parts f.whole f.faulty
