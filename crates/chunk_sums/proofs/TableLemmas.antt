-- Each entry of the table is what its byte comes to, by computing it.
use Rattle.std.proofs.Common.{◌≡◌, ℕ, zero, suc, ◌+◌, ◌*◌, ◌<◌, Bool, true, false, ◌&&◌, eqb, T, List, [], ◌∷◌, length, get_or, take, drop, refl, sym, ap, ◌∙◌, arith}
use Rattle.std.proofs.lemmas.List.{length-take, length-drop, get_or-take, get_or-drop}
use lib.Dec.{eqb→eq}
use lib.Ieee.Fits.{and_l, and_r}
use Rattle.chunk_sums.specs.Crc.{byte_step, bit_step, advance, crc32_polynomial, crc32c_polynomial}
use Rattle.chunk_sums.specs.declared.ieee.TheConstants.{TABLE as ieee_table}
use Rattle.chunk_sums.specs.declared.castagnoli.TheConstants.{TABLE as castagnoli_table}
use Rattle.chunk_sums.proofs.LinearLemmas.{advance-last}

-- the entries are those of the bytes from `byte` on
unfoldable pub is_table : ℕ → ℕ → List ℕ → Bool
is_table poly byte [] = true
is_table poly byte (t ∷ ts) = eqb t (byte_step poly byte) && is_table poly (suc byte) ts

-- each further entry is a byte step of the one in the same place of the first list
unfoldable pub is_stepped : ℕ → List ℕ → List ℕ → Bool
is_stepped poly ts [] = true
is_stepped poly [] (u ∷ us) = false
is_stepped poly (t ∷ ts) (u ∷ us) = eqb u (byte_step poly t) && is_stepped poly ts us

from_table : (poly : ℕ) (ts : List ℕ) (byte i : ℕ) → T (is_table poly byte ts) → i < length ts → get_or ts i 0 ≡ byte_step poly (byte + i)
unfolding is_table
from_table poly [] byte i h l = absurd (omega arith)
from_table poly (t ∷ ts) byte zero h l =
    let e : byte ≡ byte + 0 = omega arith in
    eqb→eq _ _ (and_l (eqb t (byte_step poly byte)) _ h) ∙ ap (byte_step poly) e
from_table poly (t ∷ ts) byte (suc i) h l =
    let e : suc byte + i ≡ byte + suc i = omega arith in
    from_table poly ts (suc byte) i (and_r (eqb t (byte_step poly byte)) _ h) (omega arith) ∙ ap (byte_step poly) e

from_stepped : (poly : ℕ) (ts us : List ℕ) (i : ℕ) → T (is_stepped poly ts us) → i < length us → get_or us i 0 ≡ byte_step poly (get_or ts i 0)
unfolding is_stepped
from_stepped poly ts [] i h l = absurd (omega arith)
from_stepped poly [] (u ∷ us) i h l = absurd h
from_stepped poly (t ∷ ts) (u ∷ us) zero h l = eqb→eq _ _ (and_l (eqb u (byte_step poly t)) _ h)
from_stepped poly (t ∷ ts) (u ∷ us) (suc i) h l = from_stepped poly ts us i (and_r (eqb u (byte_step poly t)) _ h) (omega arith)

pub rows : (poly : ℕ) (ts : List ℕ) → T (is_table poly 0 (take 256 ts)) → T (is_stepped poly ts (drop 256 ts)) → length ts ≡ 4096
    → (row byte : ℕ) → row < 16 → byte < 256 → get_or ts (row * 256 + byte) 0 ≡ advance poly (suc row) byte
unfolding advance
rows poly ts first further len zero byte r b =
    let here : byte < length (take 256 ts) = omega (arith, length-take 256 ts) in
    let place : 0 * 256 + byte ≡ byte = omega arith in
    let base : 0 + byte ≡ byte = omega arith in
    ap (λ (i : ℕ). get_or ts i 0) place ∙ sym (get_or-take 256 ts byte 0 b)
    ∙ from_table poly (take 256 ts) 0 byte first here ∙ ap (byte_step poly) base
rows poly ts first further len (suc row) byte r b =
    let within : row * 256 + byte < length (drop 256 ts) = omega (arith, length-drop 256 ts) in
    let e : suc row * 256 + byte ≡ 256 + (row * 256 + byte) = omega arith in
    ap (λ (i : ℕ). get_or ts i 0) e ∙ sym (get_or-drop 256 ts (row * 256 + byte) 0)
    ∙ from_stepped poly ts (drop 256 ts) (row * 256 + byte) further within
    ∙ ap (byte_step poly) (rows poly ts first further len row byte (omega arith) b)
    ∙ sym (advance-last poly (suc row) byte)

pub get_or-ieee : (row byte : ℕ) → row < 16 → byte < 256 → get_or ieee_table (row * 256 + byte) 0 ≡ advance crc32_polynomial (row + 1) byte
unfolding is_table is_stepped byte_step bit_step
get_or-ieee row byte r b =
    let e : suc row ≡ row + 1 = omega arith in
    rows crc32_polynomial ieee_table tt tt refl row byte r b ∙ ap (λ (n : ℕ). advance crc32_polynomial n byte) e

pub get_or-castagnoli : (row byte : ℕ) → row < 16 → byte < 256
    → get_or castagnoli_table (row * 256 + byte) 0 ≡ advance crc32c_polynomial (row + 1) byte
unfolding is_table is_stepped byte_step bit_step
get_or-castagnoli row byte r b =
    let e : suc row ≡ row + 1 = omega arith in
    rows crc32c_polynomial castagnoli_table tt tt refl row byte r b ∙ ap (λ (n : ℕ). advance crc32c_polynomial n byte) e
