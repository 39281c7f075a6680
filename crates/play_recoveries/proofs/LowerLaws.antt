-- The lower ends of the connections that a primary dialled, in their order.
use Rattle.std.proofs.Common.{◌≡◌, ◌≤◌, ◌+◌, ◌++◌, ℕ, zero, suc, Bool, true, false, List, [], ◌∷◌, length, map, slice_get, is_some, Option, Some, None, ◌⊎◌, inl, inr, refl, sym, ap, ◌∙◌, arith}
use Rattle.hd_base.specs.declared.ends.Conn.{Conn}
use Rattle.hd_base.specs.declared.numbers.NodeId.{NodeId}
use Rattle.world.specs.Primaries.{numbered}
use Rattle.play_nodes.specs.Elsewhere.{answered_of}
use Rattle.play_primaries.specs.Owning.{dials_in}
use Rattle.play_servers.specs.declared.recoveries.RecoveryServer.{RecoveryServer}
use Rattle.play_recoveries.specs.Owning.{made_server, made_servers}

-- LISTS

-- what stands in a list that grew stands in front, or behind
pub record IsBehind {A : Type 0} (xs ys : List A) (k : ℕ) (x : A) : Type 0 where
  pub place : ℕ
  pub at : slice_get ys place ≡ Some x
  pub place_is : k ≡ length xs + place

none_more : (n : ℕ) → n ≡ 0 + n
none_more n = omega arith

one_more : (k n p : ℕ) → k ≡ n + p → suc k ≡ suc n + p
one_more k n p h = omega (arith, h)

one_on : (n j : ℕ) → suc n + j ≡ suc (n + j)
one_on n j = omega arith

pub parts : {A : Type 0} (xs ys : List A) (k : ℕ) (x : A) → slice_get (xs ++ ys) k ≡ Some x → (slice_get xs k ≡ Some x) ⊎ IsBehind xs ys k x
parts [] ys k x at = inr (record { place = k; at = at; place_is = none_more k })
parts (a ∷ xs) ys zero x at = inl at
parts {A} (a ∷ xs) ys (suc k) x at = by (parts xs ys k x at)
  where
    by : (slice_get xs k ≡ Some x) ⊎ IsBehind xs ys k x → (slice_get (a ∷ xs) (suc k) ≡ Some x) ⊎ IsBehind (a ∷ xs) ys (suc k) x
    by (inl h) = inl h
    by (inr h) = inr (record { place = h.place; at = h.at; place_is = one_more k (length xs) h.place h.place_is })

pub behind : {A : Type 0} (xs ys : List A) (j : ℕ) → slice_get (xs ++ ys) (length xs + j) ≡ slice_get ys j
behind [] ys j = ap (λ (n : ℕ). slice_get ys n) (sym (none_more j))
behind (x ∷ xs) ys j = ap (λ (n : ℕ). slice_get (x ∷ (xs ++ ys)) n) (one_on (length xs) j) ∙ behind xs ys j

-- NUMBERS

pub answered_same : (members : List NodeId) (answers : List Bool) → length answers ≤ length members → answered_of members answers ≡ dials_in answers
answered_same [] [] h = refl
answered_same [] (a ∷ answers) h = absurd (none (length answers) h)
  where
    none : (n : ℕ) → suc n ≤ 0 → ⊥
    none n h = omega (arith, h)
answered_same (n ∷ ns) [] h = refl
answered_same (n ∷ ns) (true ∷ answers) h = ap suc (answered_same ns answers (less (length answers) (length ns) h))
  where
    less : (a b : ℕ) → suc a ≤ suc b → a ≤ b
    less a b h = omega (arith, h)
answered_same (n ∷ ns) (false ∷ answers) h = answered_same ns answers (less (length answers) (length ns) h)
  where
    less : (a b : ℕ) → suc a ≤ suc b → a ≤ b
    less a b h = omega (arith, h)

-- new numbers are none of those before
pub numbered_past : (next : ℕ) (answers : List Bool) (place e : ℕ) → slice_get (numbered next answers) place ≡ Some (Some e) → next ≤ e
numbered_past next [] place e h = cc
numbered_past next (true ∷ answers) zero e h = same (some_same next e h)
  where
    some_same : (a b : ℕ) → ◌≡◌ {A = Option (Option ℕ)} (Some (Some a)) (Some (Some b)) → a ≡ b
    some_same a b e = cc

    same : {a b : ℕ} → a ≡ b → a ≤ b
    same {a} {b} e = omega (arith, e)
numbered_past next (true ∷ answers) (suc place) e h = less next e (numbered_past (next + 1) answers place e h)
  where
    less : (a b : ℕ) → a + 1 ≤ b → a ≤ b
    less a b h = omega (arith, h)
numbered_past next (false ∷ answers) zero e h = cc
numbered_past next (false ∷ answers) (suc place) e h = numbered_past next answers place e h

-- LOWER ENDS

plus_none : (n : ℕ) → n ≡ n + 0
plus_none n = omega arith

plus_one : (n k : ℕ) → n + 1 + k ≡ n + suc k
plus_one n k = omega arith

module _ {I O : Type 0} where
  pub made_count : (lowers : List (Option (Conn I O))) → length (made_servers lowers) ≡ dials_in (map is_some lowers)
  made_count [] = refl
  made_count (Some e ∷ lowers) = ap suc (made_count lowers)
  made_count (None ∷ lowers) = made_count lowers

  -- A server is that of the lower end at some place, whose connection has the next number but so many.
  pub record IsMade (lowers : List (Option (Conn I O))) (next k : ℕ) (s : RecoveryServer I O) : Type 0 where
    pub place : ℕ
    pub end : Conn I O
    pub at : slice_get lowers place ≡ Some (Some end)
    pub is : s ≡ made_server end
    pub number : slice_get (numbered next (map is_some lowers)) place ≡ Some (Some (next + k))

  none_there : (k : ℕ) (s : RecoveryServer I O) → slice_get [] k ≡ Some s → ⊥
  none_there k s e = cc

  same_server : (a b : RecoveryServer I O) → ◌≡◌ {A = Option (RecoveryServer I O)} (Some a) (Some b) → a ≡ b
  same_server a b e = cc

  pub is_made : (lowers : List (Option (Conn I O))) (next k : ℕ) (s : RecoveryServer I O) → slice_get (made_servers lowers) k ≡ Some s → IsMade lowers next k s
  is_made [] next k s at = absurd (none_there k s at)
  is_made (Some e ∷ lowers) next zero s at = record {
    place = 0;
    end = e;
    at = refl;
    is = same_server s (made_server e) (sym at);
    number = ap (λ (n : ℕ). Some (Some n)) (plus_none next);
  }
  is_made (Some e ∷ lowers) next (suc k) s at =
      let h : IsMade lowers (next + 1) k s = is_made lowers (next + 1) k s at in
      record { place = suc h.place; end = h.end; at = h.at; is = h.is; number = h.number ∙ ap (λ (n : ℕ). Some (Some n)) (plus_one next k) }
  is_made (None ∷ lowers) next k s at =
      let h : IsMade lowers next k s = is_made lowers next k s at in
      record { place = suc h.place; end = h.end; at = h.at; is = h.is; number = h.number }
