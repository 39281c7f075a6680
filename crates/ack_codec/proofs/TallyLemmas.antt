-- Tallies: counting numbers one after the other gives as many as there are, and keeps the first 16.
use Rattle.std.proofs.Common.{◌≡◌, ◌==◌, ℕ, ◌+◌, ◌-◌, ◌^◌, ◌<◌, ◌≤◌, nat_lt, true, false, Bool, List, [], ◌∷◌, ◌++◌, length, map, drop, Result, Ok, Err, MatchBool, refl, sym, ap, ◌∙◌, append_assoc, append-nil, length-append, length-take, arith}
use Rattle.std.specs.Prelude.{fold, min}
use Rattle.std.proofs.lemmas.Bool.Decides.{nat_tests}
use Rattle.proto_fields.specs.declared.reading.Wire.{Wire}
use Rattle.proto_fields.specs.declared.reading.Wire.TheVariants as wire
use Rattle.proto_fields.specs.declared.reading.WireFault.{WireFault}
use Rattle.hd_base.specs.Results.{◌>>=◌, with_value}
use Rattle.proto_fields.specs.Fields.{SpellsField, SpellsValue, SpellsFrom, Spells, StandsAt}
use Rattle.proto_fields.specs.Values.{part_bytes}
use Rattle.proto_fields.specs.Varint.{IsVarint}
use Rattle.proto_fields.proofs.NumberLemmas.{wide_32, wide_64}
use Rattle.proto_fields.proofs.PlaceLemmas.{StandsAt-room}
use Rattle.ack_codec.specs.declared.tallies.Tally.{Tally}
use Rattle.hd_base.specs.Wire.{decoded_status}
use Rattle.ack_codec.specs.Packed.{GivesNumbers, RepeatsAt, Repeats, given_under, repeated}
use Rattle.ack_codec.specs.Tallies.{empty_tally, counted, newer_tally, LiesWithin}
use Rattle.proto_fields.specs.Values.{newer, varint_of, last_varint}
use Rattle.proto_fields.proofs.ValueLemmas.{fold_newer_last}
use Rattle.ack_codec.specs.declared.reading.FoundAck.{FoundAck}
use Rattle.ack_codec.specs.Acks.{none_found, newer_found, found_in}
use Rattle.ack_codec.proofs.PackedLemmas.{SpellsNumbers-length}

fold-append : {S X : Type 0} (step : S → X → S) (s : S) (xs ys : List X) → fold step s (xs ++ ys) ≡ fold step (fold step s xs) ys
fold-append step s [] ys = refl
fold-append step s (x ∷ xs) ys = fold-append step (step s x) xs ys

-- a fault that was found stays
fold-newer_tally_err : (number : ℕ) (bytes : List ℕ) (e : WireFault) (fs : List (ℕ × Wire)) → fold (newer_tally number bytes) (Err e) fs ≡ Err e
fold-newer_tally_err number bytes e [] = refl
fold-newer_tally_err number bytes e (f ∷ fs) = fold-newer_tally_err number bytes e fs

-- Counting field by field counts the numbers of all fields.
pub fold-newer_tally : (number : ℕ) (bytes : List ℕ) (t : Tally) (fs : List (ℕ × Wire)) → fold (newer_tally number bytes) (Ok t) fs ≡ with_value (fold counted t) (repeated number bytes fs)
fold-newer_tally number bytes t [] = refl
fold-newer_tally number bytes t (f ∷ fs) = by_field (given_under number bytes f) (λ u. fold-newer_tally number bytes u fs) where
  joined : (here : List ℕ) (r : Result (List ℕ) WireFault) → with_value (fold counted (fold counted t here)) r ≡ with_value (fold counted t) (with_value (λ later. here ++ later) r)
  joined here (Ok later) = ap Ok (sym (fold-append counted t here later))
  joined here (Err e) = refl

  by_field : (r : Result (List ℕ) WireFault) → ((u : Tally) → fold (newer_tally number bytes) (Ok u) fs ≡ with_value (fold counted u) (repeated number bytes fs)) → fold (newer_tally number bytes) (with_value (fold counted t) r) fs ≡ with_value (fold counted t) (r >>= λ here. with_value (λ later. here ++ later) (repeated number bytes fs))
  by_field (Ok here) later = later (fold counted t here) ∙ joined here (repeated number bytes fs)
  by_field (Err e) later = fold-newer_tally_err number bytes e fs

-- a number, and those behind it
pub counted-cons : (t : Tally) (n : ℕ) (r : Result (List ℕ) WireFault) → with_value (fold counted (counted t n)) r ≡ with_value (fold counted t) (with_value (λ ns. n ∷ ns) r)
counted-cons t n (Ok ns) = refl
counted-cons t n (Err e) = refl

-- how many numbers a tally has counted
pub fold_counted-count : (t : Tally) (ns : List ℕ) → t.count < 2 ^ 64 → (fold counted t ns).count ≡ min (t.count + length ns) (2 ^ 64 - 1)
unfolding counted
fold_counted-count t [] fits = omega arith
fold_counted-count t (n ∷ ns) fits = fold_counted-count (counted t n) ns (omega arith) ∙ omega arith

-- which statuses it has kept, where there are at most 16
pub fold_counted-kept : (t : Tally) (ns : List ℕ) → length t.kept + length ns ≤ 16 → (fold counted t ns).kept ≡ t.kept ++ map decoded_status ns
unfolding counted
fold_counted-kept t [] few = sym (append-nil t.kept)
fold_counted-kept t (n ∷ ns) few =
    let room : nat_lt (length t.kept) 16 ≡ true = grind (arith, nat_tests) in
    let kept : (counted t n).kept ≡ t.kept ++ decoded_status n ∷ [] = rw room refl in
    fold_counted-kept (counted t n) ns (omega (arith, ap length kept, length-append t.kept (decoded_status n ∷ [])))
    ∙ (ap (λ l. l ++ map decoded_status ns) kept ∙ append_assoc t.kept (decoded_status n ∷ []) (map decoded_status ns))

-- ---- a field gives no more numbers than it has bytes

given_few : (at : ℕ) (bytes : List ℕ) (value : Wire) (text ns : List ℕ) → 0 < length text → SpellsValue at value text → GivesNumbers bytes value ns → length ns ≤ length text
given_few at bytes (wire.Varint n) text ns some s g = omega (arith, ap length g)
given_few at bytes (wire.Part from to) text ns some s g =
    let list : length (part_bytes bytes (from, to)) ≡ min (to - from) (length (drop from bytes)) = length-take (to - from) (drop from bytes) in
    omega (arith, list, SpellsNumbers-length ns (part_bytes bytes (from, to)) g, s.begins, s.ends)
given_few at bytes (wire.Eight n) text ns some s g = omega (arith, ap length g)
given_few at bytes (wire.Four n) text ns some s g = omega (arith, ap length g)

varint_some : (text : List ℕ) → IsVarint text → 0 < length text
varint_some [] v = absurd v
varint_some (b ∷ bs) v = omega arith

value_some : (at : ℕ) (value : Wire) (text : List ℕ) → SpellsValue at value text → 0 < length text
value_some at (wire.Varint n) text s = varint_some text s.shape
value_some at (wire.Part from to) text s = omega (arith, ap length s.parts ∙ length-append s.len s.bytes, varint_some s.len s.spelled.shape)
value_some at (wire.Eight n) text s = omega (arith, ap length s.1, wide_64.le_length n)
value_some at (wire.Four n) text s = omega (arith, ap length s.1, wide_32.le_length n)

repeats_few : (number at : ℕ) (bytes : List ℕ) (f : ℕ × Wire) (text ns : List ℕ) → SpellsField at f text → RepeatsAt number bytes f ns → length ns ≤ length text
repeats_few number at bytes f text ns s r = by_test (f.0 == number) r where
  sizes : length text ≡ length s.tag + length s.value
  sizes = ap length s.parts ∙ length-append s.tag s.value

  by_test : (b : Bool) → MatchBool b (GivesNumbers bytes f.1 ns) (ns ≡ []) → length ns ≤ length text
  by_test true g = omega (arith, sizes, given_few (at + length s.tag) bytes f.1 s.value ns (value_some (at + length s.tag) f.1 s.value s.value_spelled) s.value_spelled g)
  by_test false e = omega (arith, ap length e)

Repeats-length_from : (number at : ℕ) (bytes : List ℕ) (fs : List (ℕ × Wire)) (text ns : List ℕ) → SpellsFrom at fs text → Repeats number bytes fs ns → length ns ≤ length text
Repeats-length_from number at bytes [] text ns s r = omega (arith, ap length r)
Repeats-length_from number at bytes (f ∷ fs) text ns s r =
    omega (arith, ap length s.2 ∙ length-append s.0 s.1, ap length r.2 ∙ length-append r.0 r.1, repeats_few number at bytes f s.0 r.0 s.3 r.3, Repeats-length_from number (at + length s.0) bytes fs s.1 r.1 s.4 r.4)

pub Repeats-length : (number : ℕ) (bytes : List ℕ) (fs : List (ℕ × Wire)) (ns : List ℕ) → Spells fs bytes → Repeats number bytes fs ns → length ns ≤ length bytes
Repeats-length number bytes fs ns s r = Repeats-length_from number 0 bytes fs bytes ns s r

-- ---- where a part lies

pub lies_within : (bytes : List ℕ) (at number : ℕ) (value : Wire) (next : ℕ) → at ≤ length bytes → StandsAt bytes at (number, value, next) → LiesWithin (length bytes) value
lies_within bytes at number (wire.Varint n) next within s = tt
lies_within bytes at number (wire.Eight n) next within s = tt
lies_within bytes at number (wire.Four n) next within s = tt
lies_within bytes at number (wire.Part from to) next within s =
    let part = s.spelled.value_spelled in
    let room = StandsAt-room bytes at (number, wire.Part from to, next) within s in
    let sizes : length s.text ≡ length s.spelled.tag + length s.spelled.value = ap length s.spelled.parts ∙ length-append s.spelled.tag s.spelled.value in
    (omega (arith, part.begins, part.ends, ap length part.parts ∙ length-append part.len part.bytes), omega (arith, part.ends, s.next, sizes, room.1))

-- ---- what the fields of an ack tell

fold-newer_found : (bytes : List ℕ) (found : FoundAck) (fs : List (ℕ × Wire)) → fold (newer_found bytes) found fs ≡ record {
  seqno = fold (newer varint_of 1) found.seqno fs;
  replies = fold (newer_tally 2 bytes) found.replies fs;
  flags = fold (newer_tally 4 bytes) found.flags fs;
}
fold-newer_found bytes found [] = refl
fold-newer_found bytes found (f ∷ fs) = fold-newer_found bytes (newer_found bytes found f) fs

-- the last seqno, and the numbers of both repeated fields
pub found_in-fields : (bytes : List ℕ) (fs : List (ℕ × Wire)) → found_in bytes fs ≡ record {
  seqno = last_varint 1 fs;
  replies = with_value (fold counted empty_tally) (repeated 2 bytes fs);
  flags = with_value (fold counted empty_tally) (repeated 4 bytes fs);
}
found_in-fields bytes fs =
    fold-newer_found bytes none_found fs
    ∙ rw (fold_newer_last varint_of 1 fs, fold-newer_tally 2 bytes empty_tally fs, fold-newer_tally 4 bytes empty_tally fs) refl
