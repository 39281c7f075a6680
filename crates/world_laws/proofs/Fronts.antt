-- Fronts of bytes, and pieces of them.
use Rattle.std.proofs.Common.{◌≡◌, ℕ, ◌<◌, ◌≤◌, ◌+◌, ◌-◌, List, [], ◌++◌, length, take, drop, nat_abs, refl, sym, ◌∙◌, ap, subst, arith, append_assoc, append-nil, length-append, length-drop}
use Rattle.std.proofs.Math.Seq.{take-append_seam, take-add}
use Rattle.std.proofs.lemmas.List.{take-append-drop, take-append-le, drop-append-le, drop-take, drop-drop, drop_all, length-take}
use Rattle.world.specs.PacketCodec.Packet.{Packet}
use Rattle.world.specs.PacketStream.Carried.{IsPiece}
use Rattle.world.specs.ReplicaModel.Found.{IsFront}
use Rattle.world_laws.proofs.StampGivens.{low-high}

pub front-refl : (xs : List ℕ) → IsFront xs xs
front-refl xs = ([], append-nil xs)

pub front-nil : (xs : List ℕ) → IsFront [] xs
front-nil xs = (xs, refl)

pub front-take : (n : ℕ) (xs : List ℕ) → IsFront (take n xs) xs
front-take n xs = (drop n xs, take-append-drop n xs)

pub front-more : (xs ys : List ℕ) → IsFront xs (xs ++ ys)
front-more xs ys = (ys, refl)

pub front-trans : (a b c : List ℕ) → IsFront a b → IsFront b c → IsFront a c
front-trans a b c p q = (p.0 ++ q.0, sym (append_assoc a p.0 q.0) ∙ ap (λ (xs : List ℕ). xs ++ q.0) p.1 ∙ q.1)

pub front-length : (a b : List ℕ) → IsFront a b → length a ≤ length b
front-length a b p = omega (arith, length-append a p.0, ap (λ (xs : List ℕ). length xs) p.1)

pub front-takes : (n : ℕ) (a b : List ℕ) → IsFront a b → n ≤ length a → take n a ≡ take n b
front-takes n a b p le = sym (take-append-le n a p.0 le) ∙ ap (λ (xs : List ℕ). take n xs) p.1

-- a front is what is taken of the whole, as long as it is
pub front-is : (a b : List ℕ) → IsFront a b → a ≡ take (length a) b
front-is a b p = sym (take-append_seam a p.0) ∙ ap (λ (xs : List ℕ). take (length a) xs) p.1

piece-more : (v rest : List ℕ) (p : Packet) → IsPiece v p → IsPiece (v ++ rest) p
piece-more v rest p h =
    let off = nat_abs p.offset in
    let n = length p.body in
    let fits : off + n ≤ length v = h.within in
    let dropped : drop off (v ++ rest) ≡ drop off v ++ rest = drop-append-le off v rest (omega (arith, fits)) in
    let short : n ≤ length (drop off v) = omega (arith, fits, length-drop off v) in
    record {
      bytes = h.bytes ∙ sym (take-append-le n (drop off v) rest short) ∙ ap (λ (xs : List ℕ). take n xs) (sym dropped);
      within = omega (arith, fits, length-append v rest);
    }

pub piece-front : (v w : List ℕ) (p : Packet) → IsFront v w → IsPiece v p → IsPiece w p
piece-front v w p f h = subst (λ (xs : List ℕ). IsPiece xs p) f.1 (piece-more v f.0 p h)

-- what a piece brings behind a front
brings : (w ys : List ℕ) (n off m : ℕ) → off ≤ n → drop (n - off) (take m (drop off w)) ≡ take (m - (n - off)) (drop n w)
brings w ys n off m le = low-high _ m (n - off) few many
  where
    place : off + (n - off) ≡ n
    place = omega (arith, le)

    few : m ≤ n - off → drop (n - off) (take m (drop off w)) ≡ take (m - (n - off)) (drop n w)
    few less =
        let none : m - (n - off) ≡ 0 = omega (arith, less) in
        drop_all (n - off) (take m (drop off w)) (omega (arith, less, short)) ∙ ap (λ (k : ℕ). take k (drop n w)) (sym none)
      where
        short : length (take m (drop off w)) ≤ m
        short = omega (arith, length-take m (drop off w))

    many : n - off < m → drop (n - off) (take m (drop off w)) ≡ take (m - (n - off)) (drop n w)
    many more =
        let sum : n - off + (m - (n - off)) ≡ m = omega (arith, more) in
        ap (λ (k : ℕ). drop (n - off) (take k (drop off w))) (sym sum) ∙ drop-take (n - off) (m - (n - off)) (drop off w) ∙ ap (λ (xs : List ℕ). take (m - (n - off)) xs) (drop-drop (n - off) off w)
        ∙ ap (λ (k : ℕ). take (m - (n - off)) (drop k w)) place

-- A piece that begins within a front brings bytes behind it, with which it is a front again.
pub front-joins : (v w body : List ℕ) (off : ℕ) → IsFront v w → body ≡ take (length body) (drop off w) → off ≤ length v → IsFront (v ++ drop (length v - off) body) w
front-joins v w body off f piece le =
    let n = length v in
    let m = length body in
    let j = m - (n - off) in
    let whole : v ++ drop (n - off) body ≡ take (n + j) w =
    ap (λ (xs : List ℕ). v ++ drop (n - off) xs) piece ∙ ap (λ (xs : List ℕ). v ++ xs) (brings w [] n off m le) ∙ ap (λ (xs : List ℕ). xs ++ take j (drop n w)) (front-is v w f) ∙ sym (take-add n j w) in
    subst (λ (xs : List ℕ). IsFront xs w) (sym whole) (front-take (n + j) w)
