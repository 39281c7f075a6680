-- Numbers of a fixed width, both ways, in either order of bytes; once for all widths.
use Rattle.std.proofs.Common.{◌≡◌, ℕ, ◌^◌, ◌<◌, ◌≤◌, List, ◌++◌, length, take, drop, nat_lt, Some, None, refl, ap, sym, ◌∙◌, length-append, take-append-drop, arith, ℤ}
use Rattle.std.specs.Int.{Width, w16, w32, w64, byte_len, to_le_bytes, from_le_bytes, to_be_bytes, from_be_bytes, cast_signed, cast_unsigned}
use mir.Val.{bits, Fits, SFits}
use Rattle.std.proofs.Math.Facts.{sfits_to_z, Fits-of_z}
use Rattle.std.proofs.lemmas.Int.{of_z-to_z, to_z-of_z}
use Rattle.std.proofs.lemmas.Nat.{le_bytes_2, le_bytes_4, le_bytes_8, be_bytes_2, be_bytes_4, be_bytes_8, from_le_bytes-to_le_bytes_2, from_le_bytes-to_le_bytes_4, from_le_bytes-to_le_bytes_8, from_be_bytes-to_be_bytes_2, from_be_bytes-to_be_bytes_4, from_be_bytes-to_be_bytes_8}
use Rattle.std.proofs.lemmas.Bool.{ltb-true, ltb-false, lt-ltb, le-ltb}
use Rattle.std.proofs.lemmas.List.{take_at, drop_at, length-take}
use Rattle.hd_base.specs.Bytes.{IsBytes, Takes}
use Rattle.proto_fields.specs.Numbers.{le_number_at, be_number_at, le_signed_at, be_signed_at, le_signed_text, be_signed_text}
use Rattle.hd_base.proofs.OptionLaws.{bind_some, bind-Some, some_pair, guard_some, guard_none}
use Rattle.hd_base.proofs.ByteLaws.{IsBytes-take, IsBytes-drop}

-- a width whose numbers and bytes give each other back
pub record IsWide (w : Width) : Type 0 where
  pub le_length : (n : ℕ) → length (to_le_bytes w n) ≡ byte_len w
  pub be_length : (n : ℕ) → length (to_be_bytes w n) ≡ byte_len w
  pub le_there : (n : ℕ) → n < 2 ^ bits w → from_le_bytes w (to_le_bytes w n) ≡ n
  pub be_there : (n : ℕ) → n < 2 ^ bits w → from_be_bytes w (to_be_bytes w n) ≡ n
  pub le_back : (bytes : List ℕ) → length bytes ≡ byte_len w → IsBytes bytes → to_le_bytes w (from_le_bytes w bytes) ≡ bytes
  pub be_back : (bytes : List ℕ) → length bytes ≡ byte_len w → IsBytes bytes → to_be_bytes w (from_be_bytes w bytes) ≡ bytes
  pub le_below : (bytes : List ℕ) → IsBytes bytes → from_le_bytes w bytes < 2 ^ bits w
  pub be_below : (bytes : List ℕ) → IsBytes bytes → from_be_bytes w bytes < 2 ^ bits w

pub wide_16 : IsWide w16
wide_16 = record {
  le_length = λ n. refl;
  be_length = λ n. refl;
  le_there = from_le_bytes-to_le_bytes_2;
  be_there = from_be_bytes-to_be_bytes_2;
  le_back = λ bytes many fits. le_bytes_2 bytes _ many fits refl;
  be_back = λ bytes many fits. be_bytes_2 bytes _ many fits refl;
  le_below = λ bytes fits. omega (arith, fits 0, fits 1);
  be_below = λ bytes fits. omega (arith, fits 0, fits 1);
}

pub wide_32 : IsWide w32
wide_32 = record {
  le_length = λ n. refl;
  be_length = λ n. refl;
  le_there = from_le_bytes-to_le_bytes_4;
  be_there = from_be_bytes-to_be_bytes_4;
  le_back = λ bytes many fits. le_bytes_4 bytes _ many fits refl;
  be_back = λ bytes many fits. be_bytes_4 bytes _ many fits refl;
  le_below = λ bytes fits. omega (arith, fits 0, fits 1, fits 2, fits 3);
  be_below = λ bytes fits. omega (arith, fits 0, fits 1, fits 2, fits 3);
}

pub wide_64 : IsWide w64
wide_64 = record {
  le_length = λ n. refl;
  be_length = λ n. refl;
  le_there = from_le_bytes-to_le_bytes_8;
  be_there = from_be_bytes-to_be_bytes_8;
  le_back = λ bytes many fits. le_bytes_8 bytes _ many fits refl;
  be_back = λ bytes many fits. be_bytes_8 bytes _ many fits refl;
  le_below = λ bytes fits. omega (arith, fits 0, fits 1, fits 2, fits 3, fits 4, fits 5, fits 6, fits 7);
  be_below = λ bytes fits. omega (arith, fits 0, fits 1, fits 2, fits 3, fits 4, fits 5, fits 6, fits 7);
}

-- the front of bytes that has the width's length
front_length : (w : Width) (bytes : List ℕ) → byte_len w ≤ length bytes → length (take (byte_len w) bytes) ≡ byte_len w
front_length w bytes many = omega (arith, length-take (byte_len w) bytes)

-- a number taken from the front, its lowest byte first
pub record TakesLe (w : Width) (bytes : List ℕ) (n : ℕ) (rest : List ℕ) : Type 0 where
  pub takes : Takes bytes (to_le_bytes w n) rest
  pub below : n < 2 ^ bits w

pub record TakesBe (w : Width) (bytes : List ℕ) (n : ℕ) (rest : List ℕ) : Type 0 where
  pub takes : Takes bytes (to_be_bytes w n) rest
  pub below : n < 2 ^ bits w

-- the number that the front of bytes spells, and the bytes behind it
pub le_front : (w : Width) → IsWide w → (bytes : List ℕ) → IsBytes bytes → byte_len w ≤ length bytes → TakesLe w bytes (from_le_bytes w (take (byte_len w) bytes)) (drop (byte_len w) bytes)
le_front w wide bytes fits many =
    let front = IsBytes-take (byte_len w) bytes fits in
    record {
      takes = record {
        parts = sym (ap (λ l. l ++ drop (byte_len w) bytes) (wide.le_back _ (front_length w bytes many) front) ∙ take-append-drop (byte_len w) bytes);
        left = IsBytes-drop (byte_len w) bytes fits;
      };
      below = wide.le_below _ front;
    }

pub be_front : (w : Width) → IsWide w → (bytes : List ℕ) → IsBytes bytes → byte_len w ≤ length bytes → TakesBe w bytes (from_be_bytes w (take (byte_len w) bytes)) (drop (byte_len w) bytes)
be_front w wide bytes fits many =
    let front = IsBytes-take (byte_len w) bytes fits in
    record {
      takes = record {
        parts = sym (ap (λ l. l ++ drop (byte_len w) bytes) (wide.be_back _ (front_length w bytes many) front) ∙ take-append-drop (byte_len w) bytes);
        left = IsBytes-drop (byte_len w) bytes fits;
      };
      below = wide.be_below _ front;
    }

-- what the front of a written number and a rest is
pub le_written : (w : Width) → IsWide w → (n : ℕ) (rest : List ℕ) → n < 2 ^ bits w → from_le_bytes w (take (byte_len w) (to_le_bytes w n ++ rest)) ≡ n
le_written w wide n rest below = ap (from_le_bytes w) (take_at _ rest (byte_len w) (wide.le_length n)) ∙ wide.le_there n below

pub be_written : (w : Width) → IsWide w → (n : ℕ) (rest : List ℕ) → n < 2 ^ bits w → from_be_bytes w (take (byte_len w) (to_be_bytes w n ++ rest)) ≡ n
be_written w wide n rest below = ap (from_be_bytes w) (take_at _ rest (byte_len w) (wide.be_length n)) ∙ wide.be_there n below

pub le_behind : (w : Width) → IsWide w → (n : ℕ) (rest : List ℕ) → drop (byte_len w) (to_le_bytes w n ++ rest) ≡ rest
le_behind w wide n rest = drop_at _ rest (byte_len w) (wide.le_length n)

pub be_behind : (w : Width) → IsWide w → (n : ℕ) (rest : List ℕ) → drop (byte_len w) (to_be_bytes w n ++ rest) ≡ rest
be_behind w wide n rest = drop_at _ rest (byte_len w) (wide.be_length n)

-- ---- a number at the front of bytes, as a step that may fail

pub le_number_takes : (w : Width) → IsWide w → (bytes : List ℕ) (n : ℕ) (rest : List ℕ) → IsBytes bytes → le_number_at w bytes ≡ Some (n, rest) → TakesLe w bytes n rest
unfolding le_number_at
le_number_takes w wide bytes n rest fits e =
    let test = guard_some (nat_lt (length bytes) (byte_len w)) _ _ e in
    let v : from_le_bytes w (take (byte_len w) bytes) ≡ n = ap (λ x. x.0) test.1 in
    let r : drop (byte_len w) bytes ≡ rest = ap (λ x. x.1) test.1 in
    same _ n _ rest v r (le_front w wide bytes fits (ltb-false _ _ test.0)) where
      same : (m n : ℕ) (behind rest : List ℕ) → m ≡ n → behind ≡ rest → TakesLe w bytes m behind → TakesLe w bytes n rest
      same m n behind rest e f t = rw (← e, ← f) t

pub be_number_takes : (w : Width) → IsWide w → (bytes : List ℕ) (n : ℕ) (rest : List ℕ) → IsBytes bytes → be_number_at w bytes ≡ Some (n, rest) → TakesBe w bytes n rest
unfolding be_number_at
be_number_takes w wide bytes n rest fits e =
    let test = guard_some (nat_lt (length bytes) (byte_len w)) _ _ e in
    let v : from_be_bytes w (take (byte_len w) bytes) ≡ n = ap (λ x. x.0) test.1 in
    let r : drop (byte_len w) bytes ≡ rest = ap (λ x. x.1) test.1 in
    same _ n _ rest v r (be_front w wide bytes fits (ltb-false _ _ test.0)) where
      same : (m n : ℕ) (behind rest : List ℕ) → m ≡ n → behind ≡ rest → TakesBe w bytes m behind → TakesBe w bytes n rest
      same m n behind rest e f t = rw (← e, ← f) t

-- what was written is read again, whatever follows
pub le_number_again : (w : Width) → IsWide w → (n : ℕ) (rest : List ℕ) → n < 2 ^ bits w → le_number_at w (to_le_bytes w n ++ rest) ≡ Some (n, rest)
unfolding le_number_at
le_number_again w wide n rest below =
    let many : byte_len w ≤ length (to_le_bytes w n ++ rest) = omega (arith, length-append (to_le_bytes w n) rest, wide.le_length n) in
    rw (le-ltb _ (byte_len w) many, le_written w wide n rest below, le_behind w wide n rest) refl

pub be_number_again : (w : Width) → IsWide w → (n : ℕ) (rest : List ℕ) → n < 2 ^ bits w → be_number_at w (to_be_bytes w n ++ rest) ≡ Some (n, rest)
unfolding be_number_at
be_number_again w wide n rest below =
    let many : byte_len w ≤ length (to_be_bytes w n ++ rest) = omega (arith, length-append (to_be_bytes w n) rest, wide.be_length n) in
    rw (le-ltb _ (byte_len w) many, be_written w wide n rest below, be_behind w wide n rest) refl

-- Nothing is read exactly where the bytes end before the number does.
pub le_number-none : (w : Width) (bytes : List ℕ) → length bytes < byte_len w → le_number_at w bytes ≡ None
unfolding le_number_at
le_number-none w bytes few = rw (lt-ltb (length bytes) (byte_len w) few) refl

pub be_number-none : (w : Width) (bytes : List ℕ) → length bytes < byte_len w → be_number_at w bytes ≡ None
unfolding be_number_at
be_number-none w bytes few = rw (lt-ltb (length bytes) (byte_len w) few) refl

pub le_number_none_is : (w : Width) (bytes : List ℕ) → le_number_at w bytes ≡ None → length bytes < byte_len w
unfolding le_number_at
le_number_none_is w bytes e = ltb-true _ _ (guard_none (nat_lt (length bytes) (byte_len w)) _ e)

pub be_number_none_is : (w : Width) (bytes : List ℕ) → be_number_at w bytes ≡ None → length bytes < byte_len w
unfolding be_number_at
be_number_none_is w bytes e = ltb-true _ _ (guard_none (nat_lt (length bytes) (byte_len w)) _ e)

-- ---- signed numbers

-- a signed number taken from the front
pub record TakesSigned (w : Width) (bytes text : List ℕ) (z : ℤ) (rest : List ℕ) : Type 0 where
  pub takes : Takes bytes text rest
  pub fits : SFits w z

signed_of : (w : Width) (bytes text : List ℕ) (n : ℕ) (z : ℤ) (rest : List ℕ) → n < 2 ^ bits w → cast_signed w n ≡ z → Takes bytes text rest → TakesSigned w bytes text z rest
signed_of w bytes text n z rest below e t =
    let fits : SFits w (cast_signed w n) = sfits_to_z (record { fits = below }) in
    record { takes = t; fits = rw e at fits }

pub le_signed_takes : (w : Width) → IsWide w → (bytes : List ℕ) (z : ℤ) (rest : List ℕ) → IsBytes bytes → le_signed_at w bytes ≡ Some (z, rest) → TakesSigned w bytes (le_signed_text w z) z rest
unfolding le_signed_at
le_signed_takes w wide bytes z rest fits e =
    let n = bind_some (le_number_at w bytes) _ _ e in
    let p = some_pair (cast_signed w n.0.0) z n.0.1 rest n.1.1 in
    let t = le_number_takes w wide bytes n.0.0 n.0.1 fits n.1.0 in
    let back : cast_unsigned w z ≡ n.0.0 = ap (cast_unsigned w) (sym p.0) ∙ of_z-to_z w n.0.0 t.below in
    taken n.0.0 n.0.1 t p.0 p.1 back where
      taken : (n : ℕ) (behind : List ℕ) → TakesLe w bytes n behind → cast_signed w n ≡ z → behind ≡ rest → cast_unsigned w z ≡ n → TakesSigned w bytes (le_signed_text w z) z rest
      taken n behind t e f back =
          let moved : Takes bytes (to_le_bytes w (cast_unsigned w z)) rest = rw (back, ← f) t.takes in
          signed_of w bytes (le_signed_text w z) n z rest t.below e moved

pub be_signed_takes : (w : Width) → IsWide w → (bytes : List ℕ) (z : ℤ) (rest : List ℕ) → IsBytes bytes → be_signed_at w bytes ≡ Some (z, rest) → TakesSigned w bytes (be_signed_text w z) z rest
unfolding be_signed_at
be_signed_takes w wide bytes z rest fits e =
    let n = bind_some (be_number_at w bytes) _ _ e in
    let p = some_pair (cast_signed w n.0.0) z n.0.1 rest n.1.1 in
    let t = be_number_takes w wide bytes n.0.0 n.0.1 fits n.1.0 in
    let back : cast_unsigned w z ≡ n.0.0 = ap (cast_unsigned w) (sym p.0) ∙ of_z-to_z w n.0.0 t.below in
    taken n.0.0 n.0.1 t p.0 p.1 back where
      taken : (n : ℕ) (behind : List ℕ) → TakesBe w bytes n behind → cast_signed w n ≡ z → behind ≡ rest → cast_unsigned w z ≡ n → TakesSigned w bytes (be_signed_text w z) z rest
      taken n behind t e f back =
          let moved : Takes bytes (to_be_bytes w (cast_unsigned w z)) rest = rw (back, ← f) t.takes in
          signed_of w bytes (be_signed_text w z) n z rest t.below e moved

pub le_signed_again : (w : Width) → IsWide w → (z : ℤ) (rest : List ℕ) → SFits w z → le_signed_at w (le_signed_text w z ++ rest) ≡ Some (z, rest)
unfolding le_signed_at
le_signed_again w wide z rest fits =
    let below : Fits w (cast_unsigned w z) = Fits-of_z fits in
    bind-Some _ _ (cast_unsigned w z, rest) (le_number_again w wide (cast_unsigned w z) rest below.fits)
    ∙ ap (λ n. Some (n, rest)) (to_z-of_z w z fits)

pub be_signed_again : (w : Width) → IsWide w → (z : ℤ) (rest : List ℕ) → SFits w z → be_signed_at w (be_signed_text w z ++ rest) ≡ Some (z, rest)
unfolding be_signed_at
be_signed_again w wide z rest fits =
    let below : Fits w (cast_unsigned w z) = Fits-of_z fits in
    bind-Some _ _ (cast_unsigned w z, rest) (be_number_again w wide (cast_unsigned w z) rest below.fits)
    ∙ ap (λ n. Some (n, rest)) (to_z-of_z w z fits)
