-- Several messages, read one after the other.
use Rattle.std.proofs.Common.{◌≡◌, ℕ, ◌+◌, ◌<◌, List, [], ◌∷◌, ◌++◌, length, drop, get_or, Some, None, Result, Ok, Err, refl, sym, ap, ◌∙◌, append_assoc, append-nil, add-one}
use Rattle.std.proofs.Math.Seq.{drop-cons}
use Rattle.proto_fields.specs.declared.reading.Wire.{Wire}
use Rattle.proto_fields.specs.declared.reading.WireFault.{WireFault}
use Rattle.hd_base.specs.Results.{with_value}
use Rattle.proto_fields.specs.Values.{picked, part_of, parts}
use Rattle.hd_base.proofs.ResultLaws.{bind-Ok, bind-Err}
use Rattle.op_headers.specs.Paths.{Path, both}
use Rattle.op_headers.specs.Tables.{more, then_one, each_at}

-- what is decoded so far, and later
abbrev pub decoded_joined : {X : Type 0} → Result (List X) Path → Result (List X) Path → Result (List X) Path
decoded_joined decoded later = with_value (λ p. p.0 ++ p.1) (both decoded later)

-- the fields from a place on: the first has a part of the number, or has none
pub parts-skip : (number i : ℕ) (fs : List (ℕ × Wire)) (d : ℕ × Wire) → i < length fs → picked part_of number (get_or fs i d) ≡ None → parts number (drop i fs) ≡ parts number (drop (i + 1) fs)
parts-skip number i fs d within e = rw (add-one, drop-cons fs i d) (rw e refl)

pub parts-take : (number i : ℕ) (fs : List (ℕ × Wire)) (d : ℕ × Wire) (p : ℕ × ℕ) → i < length fs → picked part_of number (get_or fs i d) ≡ Some p → parts number (drop i fs) ≡ p ∷ parts number (drop (i + 1) fs)
parts-take number i fs d p within e = rw (add-one, drop-cons fs i d) (rw e refl)

module _ {X : Type 0} (read : List ℕ → Result (Result X Path) WireFault) where
  pub each-start : (bs : List (List ℕ)) → with_value (decoded_joined (Ok [])) (each_at read bs) ≡ each_at read bs
  each-start bs = none (each_at read bs) where
    none : (r : Result (Result (List X) Path) WireFault) → with_value (decoded_joined (Ok [])) r ≡ r
    none (Ok (Ok xs)) = refl
    none (Ok (Err p)) = refl
    none (Err e) = refl

  pub each-end : (decoded : Result (List X) Path) → with_value (decoded_joined decoded) (each_at read []) ≡ Ok decoded
  each-end (Ok xs) = ap (λ l. Ok (Ok l)) (append-nil xs)
  each-end (Err p) = refl

  pub each-step : (decoded : Result (List X) Path) (b : List ℕ) (bs : List (List ℕ)) (x : Result X Path) → read b ≡ Ok x → with_value (decoded_joined decoded) (each_at read (b ∷ bs)) ≡ with_value (decoded_joined (then_one decoded x)) (each_at read bs)
  each-step decoded b bs x e = ap (with_value (decoded_joined decoded)) (bind-Ok (read b) _ x e) ∙ regroup decoded x (each_at read bs) where
    regroup : (decoded : Result (List X) Path) (x : Result X Path) (r : Result (Result (List X) Path) WireFault) → with_value (decoded_joined decoded) (with_value (more x) r) ≡ with_value (decoded_joined (then_one decoded x)) r
    regroup decoded x (Err e) = refl
    regroup (Err p) x (Ok later) = refl
    regroup (Ok xs) (Err p) (Ok later) = refl
    regroup (Ok xs) (Ok x) (Ok (Err p)) = refl
    regroup (Ok xs) (Ok x) (Ok (Ok ys)) = ap (λ l. Ok (Ok l)) (sym (append_assoc xs (x ∷ []) ys))
