-- Varints: what is read is spelled, what is spelled is read, and each fault comes exactly where it stands.
use Rattle.std.proofs.Common.{◌≡◌, ℕ, zero, suc, ◌+◌, ◌-◌, ◌*◌, ◌/◌, ◌%◌, ◌^◌, ◌<◌, ◌≤◌, List, [], ◌∷◌, ◌++◌, length, take, nat_lt, Result, Ok, Err, inl, inr, refl, ap, sym, ◌∙◌, arith, IfOk}
use Rattle.std.specs.Borrow.{Bor}
use native.Mathlib.Nat.{pow-suc}
use Rattle.proto_fields.specs.declared.varints.VarintFault.{VarintFault}
use Rattle.proto_fields.specs.declared.varints.VarintFault.TheVariants.{Short, Long}
use Rattle.std.proofs.lemmas.Bool.{ltb-true, ltb-false, lt-ltb, le-ltb, cases_lt}
use Rattle.hd_base.specs.Results.{read_of}
use Rattle.hd_base.specs.Bytes.{IsBytes, Takes}
use Rattle.proto_fields.specs.Varint.{sevens, IsVarint, SpellsVarint, BeginsWithVarint, IsUnended, IsCutVarint, IsLongVarint, varint_within, varint_at, least_within, least_varint}
use Rattle.hd_base.proofs.ResultLaws.{bind_ok, bind_err, bind-Ok, bind-Err, ok_pair, chosen}
use Rattle.hd_base.proofs.ByteLaws.{IsBytes-behind}

-- one more byte before a varint
IsVarint-more : (b : ℕ) (text : List ℕ) → 128 ≤ b → b < 256 → IsVarint text → IsVarint (b ∷ text)
IsVarint-more b [] high fits v = absurd v
IsVarint-more b (c ∷ cs) high fits v = (high, fits, v)

-- the varint of at most so many bytes that bytes begin with
pub record TakesVarint (left : ℕ) (bytes : List ℕ) (n : ℕ) (rest : List ℕ) : Type 0 where
  pub text : List ℕ
  pub takes : Takes bytes text rest
  pub shape : IsVarint text
  pub short : length text ≤ left
  pub value : n ≡ sevens text % 2 ^ 64

TakesVarint-last : (left b n : ℕ) (bs rest : List ℕ) → IsBytes (b ∷ bs) → b < 128 → b ≡ n → bs ≡ rest → TakesVarint (suc left) (b ∷ bs) n rest
TakesVarint-last left b n bs rest fits low e f =
    record {
      text = b ∷ [];
      takes = record { parts = ap (λ l. b ∷ l) f; left = rw (sym f) (IsBytes-behind b bs fits) };
      shape = low;
      short = omega arith;
      value = omega arith;
    }

TakesVarint-more : (left b n high : ℕ) (bs rest : List ℕ) → IsBytes (b ∷ bs) → 128 ≤ b → (high * 128 + (b - 128)) % 2 ^ 64 ≡ n → TakesVarint left bs high rest → TakesVarint (suc left) (b ∷ bs) n rest
TakesVarint-more left b n high bs rest fits big e t =
    let v = t.value in
    let one : b < 256 = fits 0 in
    record {
      text = b ∷ t.text;
      takes = record { parts = ap (λ l. b ∷ l) t.takes.parts; left = t.takes.left };
      shape = IsVarint-more b t.text big one t.shape;
      short = omega (arith, t.short);
      value = omega arith;
    }

pub varint_takes : (left : ℕ) (bytes : List ℕ) (n : ℕ) (rest : List ℕ) → IsBytes bytes → varint_within left bytes ≡ Ok (n, rest) → TakesVarint left bytes n rest
unfolding varint_within
varint_takes zero bytes n rest fits e = cc
varint_takes (suc left) [] n rest fits e = cc
varint_takes (suc left) (b ∷ bs) n rest fits e =
    elim (chosen (nat_lt b 128) _ _ _ e) [
      | inl t ↦ let p = ok_pair b n bs rest t.1 in TakesVarint-last left b n bs rest fits (ltb-true b 128 t.0) p.0 p.1
      | inr t ↦
          let high = bind_ok (varint_within left bs) _ _ t.1 in
          let p = ok_pair _ n high.0.1 rest high.1.1 in
          rw (← p.1) (TakesVarint-more left b n high.0.0 bs high.0.1 fits (ltb-false b 128 t.0) p.0 (varint_takes left bs high.0.0 high.0.1 (IsBytes-behind b bs fits) high.1.0))
    ]

-- a varint has a byte at least
varint_within-rest : (left : ℕ) (bytes : List ℕ) (n : ℕ) (rest : List ℕ) → varint_within left bytes ≡ Ok (n, rest) → length rest < length bytes
unfolding varint_within
varint_within-rest zero bytes n rest e = cc
varint_within-rest (suc left) [] n rest e = cc
varint_within-rest (suc left) (b ∷ bs) n rest e =
    elim (chosen (nat_lt b 128) _ _ _ e) [
      | inl t ↦ let p = ok_pair b n bs rest t.1 in omega (arith, ap length p.1)
      | inr t ↦
          let high = bind_ok (varint_within left bs) _ _ t.1 in
          let p = ok_pair _ n high.0.1 rest high.1.1 in
          omega (arith, varint_within-rest left bs high.0.0 high.0.1 high.1.0, ap length p.1)
    ]

pub varint_at-rest : (bytes : List ℕ) (n : ℕ) (rest : List ℕ) → varint_at bytes ≡ Ok (n, rest) → length rest < length bytes
varint_at-rest bytes n rest e = varint_within-rest 10 bytes n rest e

-- what is spelled is read, whatever follows
pub varint_again : (left : ℕ) (text rest : List ℕ) → IsVarint text → length text ≤ left → varint_within left (text ++ rest) ≡ Ok (sevens text % 2 ^ 64, rest)
unfolding varint_within
varint_again zero [] rest v few = absurd v
varint_again zero (b ∷ bs) rest v few = absurd (omega arith)
varint_again (suc left) [] rest v few = absurd v
varint_again (suc left) (b ∷ []) rest v few =
    let e : b ≡ sevens (b ∷ []) % 2 ^ 64 = omega arith in
    rw (lt-ltb b 128 v) (ap (λ n. Ok (n, rest)) e)
varint_again (suc left) (b ∷ c ∷ bs) rest v few =
    let later = varint_again left (c ∷ bs) rest v.2 (omega arith) in
    let e : (sevens (c ∷ bs) % 2 ^ 64 * 128 + (b - 128)) % 2 ^ 64 ≡ sevens (b ∷ c ∷ bs) % 2 ^ 64 = omega (arith, v.0, v.1) in
    rw (le-ltb b 128 v.0) (bind-Ok _ _ _ later ∙ ap (λ n. Ok (n, rest)) e)

-- where the bytes end before the varint does
pub varint_cut : (left : ℕ) (bytes : List ℕ) → IsUnended bytes → length bytes < left → varint_within left bytes ≡ Err Short
unfolding varint_within
varint_cut zero bytes u few = absurd (omega arith)
varint_cut (suc left) [] u few = refl
varint_cut (suc left) (b ∷ bs) u few = rw (le-ltb b 128 u.0) (bind-Err _ _ _ (varint_cut left bs u.1 (omega arith)))

pub varint_cut_is : (left : ℕ) (bytes : List ℕ) → varint_within left bytes ≡ Err Short → IsUnended bytes × (length bytes < left)
unfolding varint_within
varint_cut_is zero bytes e = cc
varint_cut_is (suc left) [] e = (tt, omega arith)
varint_cut_is (suc left) (b ∷ bs) e =
    elim (chosen (nat_lt b 128) _ _ _ e) [
      | inl t ↦ cc (t.1)
      | inr t ↦ elim (bind_err (varint_within left bs) _ _ t.1) [
        | inl h ↦ let later = varint_cut_is left bs h in ((ltb-false b 128 t.0, later.0), omega (arith, later.1))
        | inr h ↦ let no = h.1.1 in cc
      ]
    ]

-- where as many bytes as a varint may have don't end it
pub varint_long : (left : ℕ) (bytes : List ℕ) → IsUnended (take left bytes) → left ≤ length bytes → varint_within left bytes ≡ Err Long
unfolding varint_within
varint_long zero bytes u many = refl
varint_long (suc left) [] u many = absurd (omega arith)
varint_long (suc left) (b ∷ bs) u many = rw (le-ltb b 128 u.0) (bind-Err _ _ _ (varint_long left bs u.1 (omega arith)))

pub varint_long_is : (left : ℕ) (bytes : List ℕ) → varint_within left bytes ≡ Err Long → IsUnended (take left bytes) × (left ≤ length bytes)
unfolding varint_within
varint_long_is zero bytes e = (tt, omega arith)
varint_long_is (suc left) [] e = cc
varint_long_is (suc left) (b ∷ bs) e =
    elim (chosen (nat_lt b 128) _ _ _ e) [
      | inl t ↦ cc (t.1)
      | inr t ↦ elim (bind_err (varint_within left bs) _ _ t.1) [
        | inl h ↦ let later = varint_long_is left bs h in ((ltb-false b 128 t.0, later.0), omega (arith, later.1))
        | inr h ↦ let no = h.1.1 in cc
      ]
    ]

-- ---- varints of at most ten bytes

-- what is read is spelled, and bytes follow it
pub read_varint_takes : (bytes : List ℕ) (n : ℕ) (rest : List ℕ) → IsBytes bytes → varint_at bytes ≡ Ok (n, rest) → BeginsWithVarint bytes n rest × IsBytes rest
read_varint_takes bytes n rest fits e =
    let t = varint_takes 10 bytes n rest fits e in
    (record { text = t.text; parts = t.takes.parts; spelled = record { shape = t.shape; short = t.short; value = t.value } }, t.takes.left)

-- what is spelled is read, whatever follows
pub read_varint_again : (text : List ℕ) (n : ℕ) (rest : List ℕ) → SpellsVarint text n → varint_at (text ++ rest) ≡ Ok (n, rest)
read_varint_again text n rest s = rw (sym s.value) at (varint_again 10 text rest s.shape s.short)

pub read_varint_begins : (bytes : List ℕ) (n : ℕ) (rest : List ℕ) → BeginsWithVarint bytes n rest → varint_at bytes ≡ Ok (n, rest)
read_varint_begins bytes n rest b = ap varint_at b.parts ∙ read_varint_again b.text n rest b.spelled

pub read_varint_cut : (bytes : List ℕ) → IsCutVarint bytes → varint_at bytes ≡ Err Short
read_varint_cut bytes s = varint_cut 10 bytes s.open_end s.few

pub read_varint_cut_is : (bytes : List ℕ) → varint_at bytes ≡ Err Short → IsCutVarint bytes
read_varint_cut_is bytes e = let t = varint_cut_is 10 bytes e in record { open_end = t.0; few = t.1 }

pub read_varint_long : (bytes : List ℕ) → IsLongVarint bytes → varint_at bytes ≡ Err Long
read_varint_long bytes s = varint_long 10 bytes s.open_end s.many

pub read_varint_long_is : (bytes : List ℕ) → varint_at bytes ≡ Err Long → IsLongVarint bytes
read_varint_long_is bytes e = let t = varint_long_is 10 bytes e in record { open_end = t.0; many = t.1 }

-- ---- the least spelling

-- A number of fewer bits has the same least spelling under a larger bound.
pub least_within-more : (left n : ℕ) → n < 128 ^ left → 0 < left → least_within (suc left) n ≡ least_within left n
unfolding least_within
least_within-more zero n fits some = absurd (omega arith)
least_within-more (suc zero) n fits some = let low : n < 128 = omega arith in rw (lt-ltb n 128 low) refl
least_within-more (suc (suc left)) n fits some =
    elim (cases_lt n 128) [
      | inl low ↦ rw (lt-ltb n 128 low) refl
      | inr high ↦ rw (le-ltb n 128 high) (ap (λ l. (n % 128 + 128) ∷ l) (least_within-more (suc left) (n / 128) (omega (arith, pow-suc 128 (suc left))) (omega arith)))
    ]

-- What the least spelling is: a varint of at most so many bytes that spells the number.
pub record SpellsLeast (left n : ℕ) (text : List ℕ) : Type 0 where
  pub shape : IsVarint text
  pub few : length text ≤ left
  pub value : sevens text ≡ n

pub least_within_spells : (left n : ℕ) → n < 128 ^ left → 0 < left → SpellsLeast left n (least_within left n)
unfolding least_within
least_within_spells zero n fits some = absurd (omega arith)
least_within_spells (suc zero) n fits some =
    let low : n < 128 = omega arith in
    rw (lt-ltb n 128 low) (record { shape = low; few = omega arith; value = omega arith })
least_within_spells (suc (suc left)) n fits some =
    elim (cases_lt n 128) [
      | inl low ↦ rw (lt-ltb n 128 low) (record { shape = low; few = omega arith; value = omega arith })
      | inr high ↦
          let later = least_within_spells (suc left) (n / 128) (omega (arith, pow-suc 128 (suc left))) (omega arith) in
          rw (le-ltb n 128 high) (record {
            shape = IsVarint-more _ _ (omega arith) (omega arith) later.shape;
            few = omega (arith, later.few);
            value = omega (arith, later.value);
          })
    ]

pub least_varint_spells : (n : ℕ) → n < 2 ^ 64 → SpellsVarint (least_varint n) n
least_varint_spells n fits =
    let s = least_within_spells 10 n (omega arith) (omega arith) in
    let v = s.value in
    record { shape = s.shape; short = s.few; value = omega arith }

-- The least spelling byte by byte.
pub least_varint-last : (n : ℕ) → n < 128 → least_varint n ≡ n ∷ []
unfolding least_within
least_varint-last n low = rw (lt-ltb n 128 low) refl

least_within-high : (left n : ℕ) → 128 ≤ n → least_within (suc left) n ≡ (n % 128 + 128) ∷ least_within left (n / 128)
unfolding least_within
least_within-high left n high = rw (le-ltb n 128 high) refl

pub least_varint-more : (n : ℕ) → n < 2 ^ 64 → 128 ≤ n → least_varint n ≡ (n % 128 + 128) ∷ least_varint (n / 128)
least_varint-more n fits high = least_within-high 9 n high ∙ ap (λ l. (n % 128 + 128) ∷ l) (sym (least_within-more 9 (n / 128) (omega arith) (omega arith)))

-- No other spelling is shorter.
below_power : (text : List ℕ) → sevens text < 128 ^ length text
below_power [] = omega arith
below_power (b ∷ bs) = omega (arith, below_power bs, pow-suc 128 (length bs))

least_within-short : (left k n : ℕ) → n < 128 ^ k → 0 < k → length (least_within left n) ≤ k
unfolding least_within
least_within-short zero k n fits some = omega arith
least_within-short (suc left) zero n fits some = absurd (omega arith)
least_within-short (suc left) (suc zero) n fits some = let low : n < 128 = omega arith in rw (lt-ltb n 128 low) (omega arith)
least_within-short (suc left) (suc (suc k)) n fits some =
    elim (cases_lt n 128) [
      | inl low ↦ rw (lt-ltb n 128 low) (omega arith)
      | inr high ↦
          let later = least_within-short left (suc k) (n / 128) (omega (arith, pow-suc 128 (suc k))) (omega arith) in
          rw (le-ltb n 128 high) (omega (arith, later))
    ]

IsVarint-length : (text : List ℕ) → IsVarint text → 0 < length text
IsVarint-length [] v = absurd v
IsVarint-length (b ∷ bs) v = omega arith

pub least_varint_least : (text : List ℕ) (n : ℕ) → SpellsVarint text n → length (least_varint n) ≤ length text
least_varint_least text n s =
    let below : n < 128 ^ length text = omega (arith, below_power text, s.value) in
    least_within-short 10 (length text) n below (IsVarint-length text s.shape)

-- ---- what a reader that gives `varint_at` promises

module _ (bytes : List ℕ) (r : Result (ℕ × Bor (List ℕ)) VarintFault) (exact : read_of r ≡ varint_at bytes) where
  pub read_found : IsBytes bytes → IfOk r (λ x. BeginsWithVarint bytes x.0 x.1.now)
  read_found fits = by_result r exact where
    by_result : (r : Result (ℕ × Bor (List ℕ)) VarintFault) → read_of r ≡ varint_at bytes → IfOk r (λ x. BeginsWithVarint bytes x.0 x.1.now)
    by_result (Ok x) e = (read_varint_takes bytes x.0 x.1.now fits (sym e)).0
    by_result (Err e) h = tt

  pub read_only : (n : ℕ) (rest : List ℕ) → BeginsWithVarint bytes n rest → read_of r ≡ Ok (n, rest)
  read_only n rest b = exact ∙ read_varint_begins bytes n rest b

  pub read_fault : (e : VarintFault) → varint_at bytes ≡ Err e → r ≡ Err e
  read_fault e h = by_result r (exact ∙ h) where
    by_result : (r : Result (ℕ × Bor (List ℕ)) VarintFault) → read_of r ≡ Err e → r ≡ Err e
    by_result (Ok x) h = cc
    by_result (Err d) h = cc

  pub read_fault_is : (e : VarintFault) → r ≡ Err e → varint_at bytes ≡ Err e
  read_fault_is e h = sym exact ∙ ap read_of h
