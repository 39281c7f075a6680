-- A piece more of a file, behind the chunks that match.
use Rattle.std.proofs.Common.{◌≡◌, ◌⊎◌, inl, inr, ℕ, zero, suc, ◌+◌, ◌-◌, ◌*◌, ◌/◌, ◌<◌, ◌≤◌, ◌==◌, min, Bool, true, false, List, ◌++◌, length, take, drop, Option, Some, None, IfSome, refl, sym, ap, subst, ◌∙◌, arith}
use Rattle.std.proofs.lemmas.List.{length-take, length-take-le, length-drop, drop-drop}
use Rattle.std.proofs.lemmas.Bool.{cases_lt}
use Rattle.std.proofs.lemmas.Bool.Decides.{Decides-eqb}
use Rattle.std.proofs.Math.Seq.{drop-append_seam}
use Rattle.std.proofs.Math.Nat.{mul-div_cancel}
use Rattle.std.specs.Int.{w32, to_be_bytes}
use Rattle.hd_base.specs.SumRules.{Rule}
use Rattle.hd_base.specs.FileMaps.{FileMap, HasBytesAt}
use Rattle.chunk_sums.specs.Crc.{sum_of}
use Rattle.meta_file.specs.Headers.{header_of}
use Rattle.replica_model.specs.Sums.{sum_place}
use Rattle.replica_model.specs.Plans.{has_sums}
use Rattle.replica_calls.specs.declared.names.FileNames.{FileNames}
use Rattle.replica_calls.proofs.GrowthLemmas.{read_is}
use Rattle.restart_scan.specs.Kept.{chunk_of, stored_sum, IsConsidered, Matches, AreMatching, AreKept, IsMatchingTo, IsKeptTo, AreStored, IsReached, IsKeptBy, IsKept, ReachesOn, KeepsLen, HaveRoom}
use Rattle.restart_scan.specs.declared.pieces.Reached.{Reached}
use Rattle.restart_scan.proofs.KeptLemmas.{take_inside}

-- What was read behind j chunks that match, of which K at most.
pub record IsBehind (r : Rule) (bytes stored : List ℕ) (j K kept room : ℕ) (body sums : List ℕ) : Type 0 where
  pub some : 1 ≤ r.chunk
  pub at : kept ≡ r.chunk * j
  pub left : kept < length bytes
  pub room_is : room ≡ min (length bytes - kept) (r.chunk * K)
  pub body_is : body ≡ take room (drop kept bytes)
  pub sums_is : sums ≡ take (4 * K) (drop (4 * j) stored)
  pub so_far : AreMatching r bytes stored j

mul_le : (a b c : ℕ) → a ≤ b → c * a ≤ c * b
mul_le zero b c h = let none : c * 0 ≡ 0 = omega arith in omega (arith, none)
mul_le (suc a) zero c h = absurd (omega arith)
mul_le (suc a) (suc b) c h =
    let x : c * suc a ≡ c * a + c = omega arith in
    let y : c * suc b ≡ c * b + c = omega arith in
    omega (arith, x, y, mul_le a b c (omega arith))

below : (a b c : ℕ) → c * a < c * b → a < b
below a b c h = elim (cases_lt a b) [ inl less ↦ less | inr more ↦ absurd (omega (arith, h, mul_le b a c more)) ]

times_sum : (c j i : ℕ) → c * (j + i) ≡ c * j + c * i
times_sum c j i = omega arith

module _ (r : Rule) (bytes stored : List ℕ) (j K kept room : ℕ) (body sums : List ℕ) (b : IsBehind r bytes stored j K kept room body sums) where
  len_body : length body ≡ room
  len_body = ap length b.body_is ∙ length-take-le room (drop kept bytes) (omega (arith, length-drop kept bytes, b.room_is))

  len_sums : length sums ≡ min (4 * K) (length stored - 4 * j)
  len_sums = ap length b.sums_is ∙ (length-take (4 * K) (drop (4 * j) stored) ∙ ap (λ n. min (4 * K) n) (length-drop (4 * j) stored))

  in_piece : (i : ℕ) → r.chunk * i < length body → i < K
  in_piece i h = below i K r.chunk (omega (arith, h, len_body, b.room_is))

  whole_chunk : (i : ℕ) → r.chunk * i < length body → (r.chunk * i + r.chunk ≤ room) ⊎ (length (drop kept bytes) ≤ room)
  whole_chunk i h = elim (cases_lt (r.chunk * K) (length bytes - kept)) [
    | inl less ↦
        let next = mul_le (i + 1) K r.chunk (omega (arith, in_piece i h)) in
        let more : r.chunk * (i + 1) ≡ r.chunk * i + r.chunk = omega arith in
        inl (omega (arith, next, more, b.room_is, less))
    | inr all ↦ inr (omega (arith, length-drop kept bytes, b.room_is, all))
  ]

  place : (i : ℕ) → kept + r.chunk * i ≡ r.chunk * (j + i)
  place i = omega (arith, b.at, times_sum r.chunk j i)

  chunk_there : (i : ℕ) → r.chunk * i < length body → chunk_of r body i ≡ chunk_of r bytes (j + i)
  chunk_there i h =
      ap (λ l. chunk_of r l i) b.body_is
      ∙ (take_inside (r.chunk * i) r.chunk room (drop kept bytes) (whole_chunk i h)
      ∙ (ap (take r.chunk) (drop-drop (r.chunk * i) kept bytes)
      ∙ ap (λ n. take r.chunk (drop n bytes)) (place i)))

  stored_there : (i : ℕ) → 4 * i + 4 ≤ length sums → stored_sum sums i ≡ stored_sum stored (j + i)
  stored_there i h =
      ap (λ l. stored_sum l i) b.sums_is
      ∙ (take_inside (4 * i) 4 (4 * K) (drop (4 * j) stored) (inl (omega (arith, h, len_sums)))
      ∙ (ap (take 4) (drop-drop (4 * i) (4 * j) stored) ∙ ap (λ n. take 4 (drop n stored)) (sum_place_is i))) where
        sum_place_is : (i : ℕ) → 4 * j + 4 * i ≡ 4 * (j + i)
        sum_place_is i = omega arith

  considered_there : (i : ℕ) → IsConsidered r body sums i → IsConsidered r bytes stored (j + i)
  considered_there i here = record {
    has_byte = omega (arith, here.has_byte, len_body, b.room_is, b.left, place i);
    has_sum = omega (arith, here.has_sum, len_sums);
  }

  matches_there : (i : ℕ) → IsConsidered r body sums i → Matches r body sums i → Matches r bytes stored (j + i)
  matches_there i here same = sym (stored_there i here.has_sum) ∙ (same ∙ ap (λ l. to_be_bytes w32 (sum_of r.kind l)) (chunk_there i here.has_byte))

  matches_here : (i : ℕ) → IsConsidered r body sums i → Matches r bytes stored (j + i) → Matches r body sums i
  matches_here i here same = stored_there i here.has_sum ∙ (same ∙ sym (ap (λ l. to_be_bytes w32 (sum_of r.kind l)) (chunk_there i here.has_byte)))

  both_matching : (n : ℕ) → AreMatching r body sums n → AreMatching r bytes stored (j + n)
  both_matching n more = record {
    considered = λ i within. elim (cases_lt i j) [
      | inl old ↦ b.so_far.considered i old
      | inr new ↦ subst (IsConsidered r bytes stored) (again i new) (considered_there (i - j) (more.considered (i - j) (omega (arith, within, new))))
    ];
    match_all = λ i within. elim (cases_lt i j) [
      | inl old ↦ b.so_far.match_all i old
      | inr new ↦ subst (Matches r bytes stored) (again i new)
          (matches_there (i - j) (more.considered (i - j) (omega (arith, within, new))) (more.match_all (i - j) (omega (arith, within, new))))
    ];
  } where
    again : (i : ℕ) → j ≤ i → j + (i - j) ≡ i
    again i h = omega arith

  few : (n : ℕ) → AreMatching r body sums n → r.chunk * n ≤ r.chunk * K
  few zero more = let none : r.chunk * 0 ≡ 0 = omega arith in omega (arith, none)
  few (suc n) more = mul_le (suc n) K r.chunk (omega (arith, in_piece n (more.considered n (omega arith)).has_byte))

  -- all of it matches
  pub all_match : (n more : ℕ) → AreKept r body sums n → more ≡ min (r.chunk * n) (length body) → more ≡ room → IsMatchingTo r bytes stored (kept + more)
  all_match n more are is all = (j + n, both_matching n are.matching, omega (arith, is, all, len_body, b.room_is, b.left, place n, few n are.matching))

  -- it ends in the piece
  pub ends_there : (n more : ℕ) → AreKept r body sums n → more ≡ min (r.chunk * n) (length body) → (more ≡ room → ⊥) → IsKeptTo r bytes stored (kept + more)
  ends_there n more are is less = (
    j + n,
    record {
      matching = both_matching n are.matching;
      ends = λ there same. let here = considered_here there in are.ends here (matches_here n here same);
    },
    omega (arith, is, shorter, len_body, b.room_is, b.left, place n),
  ) where
    shorter : more < room
    shorter = strictly more room (omega (arith, is, len_body)) less where
      strictly : (x y : ℕ) → x ≤ y → (x ≡ y → ⊥) → x < y
      strictly x y h d = elim (cases_lt x y) [ inl less ↦ less | inr over ↦ absurd (d (omega arith)) ]

    within : r.chunk * n < length body
    within = omega (arith, is, shorter, len_body)

    considered_here : IsConsidered r bytes stored (j + n) → IsConsidered r body sums n
    considered_here there = record {
      has_byte = within;
      has_sum = omega (arith, there.has_sum, len_sums, in_piece n within);
    }

-- ---- what was read of both files

-- the sums of the chunks behind j stand so far behind the header
sums_behind : (r : Rule) (stored : List ℕ) (j kept : ℕ) → 1 ≤ r.chunk → kept ≡ r.chunk * j → drop (sum_place r kept) (header_of r ++ stored) ≡ drop (4 * j) stored
sums_behind r stored j kept some at =
    let number : kept / r.chunk ≡ j = ap (λ n. n / r.chunk) (at ∙ omega arith) ∙ mul-div_cancel j some in
    ap (λ n. drop (7 + 4 * n) (header_of r ++ stored)) number
    ∙ (sym (drop-drop (4 * j) 7 (header_of r ++ stored)) ∙ ap (drop (4 * j)) (drop-append_seam (header_of r) stored))

less_of : (r : Rule) (body sums : List ℕ) (more : ℕ) → IsKeptTo r body sums more → more ≤ length body
less_of r body sums more k = omega (arith, k.2)

-- What was read into buffers behind the bytes that match.
pub record IsRead (files : Option FileMap) (names : FileNames) (r : Rule) (len kept room : ℕ) (data_buffer sum_buffer body sums : List ℕ) : Type 0 where
  pub some : 1 ≤ r.chunk
  pub within : kept < len
  pub have : HaveRoom r data_buffer sum_buffer
  pub room_is : room ≡ min (len - kept) (length data_buffer)
  pub few : length body ≤ room
  pub got_body : HasBytesAt files names.«data» kept room body
  pub got_sums : HasBytesAt files names.meta (sum_place r kept) (length sum_buffer) sums

behind_of : (m : FileMap) (names : FileNames) (r : Rule) (len kept room : ℕ) (data_buffer sum_buffer body sums bytes stored : List ℕ) → IsRead (Some m) names r len kept room data_buffer sum_buffer body sums
    → AreStored (Some m) names r len bytes stored → (x : IsMatchingTo r bytes stored kept) → (h : HaveRoom r data_buffer sum_buffer) → IsBehind r bytes stored x.0 h.chunks kept room body sums
behind_of m names r len kept room data_buffer sum_buffer body sums bytes stored read st x h =
    let left : kept < length bytes = omega (arith, read.within, st.all) in
    let at : kept ≡ r.chunk * x.0 = omega (arith, x.2, left) in
    record {
      some = read.some;
      at = at;
      left = left;
      room_is = omega (arith, read.room_is, st.all, h.of_data);
      body_is = read_is (Some m) m names.«data» bytes body kept room refl st.is_data read.got_body;
      sums_is = read_is (Some m) m names.meta (header_of r ++ stored) sums (sum_place r kept) (length sum_buffer) refl st.is_meta read.got_sums
          ∙ (ap (take (length sum_buffer)) (sums_behind r stored x.0 kept read.some at) ∙ ap (λ n. take n (drop (4 * x.0) stored)) h.of_sums);
      so_far = x.1;
    }

pub reached : (files : Option FileMap) (names : FileNames) (r : Rule) (len kept room more : ℕ) (data_buffer sum_buffer body sums : List ℕ) → IsRead files names r len kept room data_buffer sum_buffer body sums
    → IsKeptTo r body sums more → ReachesOn files names r len kept (record { len = kept + more; goes_on = more == room })
reached files names r len kept room more data_buffer sum_buffer body sums read is = record {
  within = omega (arith, less_of r body sums more is, read.few, read.room_is);
  goes_on = λ e. let same = (Decides-eqb more room).0 e in
      let some : 1 ≤ r.chunk * read.have.chunks = at_least r.chunk read.have.chunks read.some read.have.some in
      omega (arith, same, read.within, read.room_is, read.have.of_data, some);
  value = λ bytes stored st. told files read bytes stored st;
} where
  at_least : (a b : ℕ) → 1 ≤ a → 1 ≤ b → 1 ≤ a * b
  at_least a zero x y = absurd (omega arith)
  at_least a (suc b) x y = let e : a * suc b ≡ a * b + a = omega arith in omega (arith, e)

  told : (files : Option FileMap) → IsRead files names r len kept room data_buffer sum_buffer body sums → (bytes stored : List ℕ) → AreStored files names r len bytes stored
      → IfSome files (λ _. IsMatchingTo r bytes stored kept → IsReached (more == room) r bytes stored (kept + more))
  told None read bytes stored st = tt
  told (Some m) read bytes stored st = λ x. by (more == room) refl x where
    by : (t : Bool) → (more == room) ≡ t → IsMatchingTo r bytes stored kept → IsReached t r bytes stored (kept + more)
    by true e x = all_match r bytes stored x.0 read.have.chunks kept room body sums (behind_of m names r len kept room data_buffer sum_buffer body sums bytes stored read st x read.have) is.0 more is.1 is.2 ((Decides-eqb more room).0 e)
    by false e x = ends_there r bytes stored x.0 read.have.chunks kept room body sums (behind_of m names r len kept room data_buffer sum_buffer body sums bytes stored read st x read.have) is.0 more is.1 is.2
        (λ same. no (sym ((Decides-eqb more room).1 same) ∙ e)) where
          no : true ≡ false → ⊥
          no q = cc

-- ---- one piece after another

-- the bytes that match so far, where files are observable
abbrev pub MatchesTo : Option FileMap → FileNames → Rule → ℕ → ℕ → Type 0
MatchesTo files names r len kept = (bytes stored : List ℕ) → AreStored files names r len bytes stored → IfSome files (λ _. IsMatchingTo r bytes stored kept)

pub room_stays : (r : Rule) (a b x y : List ℕ) → HaveRoom r a b → length x ≡ length a → length y ≡ length b → HaveRoom r x y
room_stays r a b x y h e f = record { chunks = h.chunks; some = h.some; chunk_some = h.chunk_some; of_data = e ∙ h.of_data; of_sums = f ∙ h.of_sums }

onward : (t u : Bool) (files : Option FileMap) (r : Rule) (bytes stored : List ℕ) (old new : ℕ) → t ≡ u → IfSome files (λ _. IsMatchingTo r bytes stored old)
    → IfSome files (λ _. IsMatchingTo r bytes stored old → IsReached t r bytes stored new) → IfSome files (λ _. IsReached u r bytes stored new)
onward t u None r bytes stored old new e a b = tt
onward t u (Some m) r bytes stored old new e a b = subst (λ q. IsReached q r bytes stored new) e (b a)

pub matches_next : (files : Option FileMap) (names : FileNames) (r : Rule) (len old : ℕ) (new : Reached) → MatchesTo files names r len old → ReachesOn files names r len old new → new.goes_on ≡ true → MatchesTo files names r len new.len
matches_next files names r len old new so_far on goes bytes stored st = onward new.goes_on true files r bytes stored old new.len goes (so_far bytes stored st) (on.value bytes stored st)

as_kept : (files : Option FileMap) (r : Rule) (bytes stored : List ℕ) (kept : ℕ) → has_sums r.kind ≡ true → IfSome files (λ _. IsKeptTo r bytes stored kept) → IfSome files (λ _. IsKept r bytes stored kept)
as_kept None r bytes stored kept h k = tt
as_kept (Some m) r bytes stored kept h k = subst (λ q. IsKeptBy q r bytes stored kept) (sym h) k

pub ends_kept : (files : Option FileMap) (names : FileNames) (r : Rule) (len old : ℕ) (new : Reached) → has_sums r.kind ≡ true → MatchesTo files names r len old → ReachesOn files names r len old new → new.goes_on ≡ false
    → KeepsLen files names r len new.len
ends_kept files names r len old new h so_far on ends = record {
  within = on.within;
  value = λ bytes stored st. as_kept files r bytes stored new.len h (onward new.goes_on false files r bytes stored old new.len ends (so_far bytes stored st) (on.value bytes stored st));
}

all_kept : (r : Rule) (bytes stored : List ℕ) (len : ℕ) → length bytes ≡ len → IsMatchingTo r bytes stored len → IsKeptTo r bytes stored len
all_kept r bytes stored len all x = (x.0, record { matching = x.1; ends = λ here same. omega (arith, here.has_byte, x.2, all) }, x.2)

to_kept : (files : Option FileMap) (r : Rule) (bytes stored : List ℕ) (len : ℕ) → length bytes ≡ len → IfSome files (λ _. IsMatchingTo r bytes stored len) → IfSome files (λ _. IsKeptTo r bytes stored len)
to_kept None r bytes stored len all x = tt
to_kept (Some m) r bytes stored len all x = all_kept r bytes stored len all x

pub whole_kept : (files : Option FileMap) (names : FileNames) (r : Rule) (len kept : ℕ) → has_sums r.kind ≡ true → MatchesTo files names r len kept → kept ≤ len → len ≤ kept → KeepsLen files names r len kept
whole_kept files names r len kept h so_far within all = record {
  within = within;
  value = λ bytes stored st. as_kept files r bytes stored kept h (to_kept files r bytes stored kept (omega (arith, st.all, within, all)) (so_far bytes stored st));
}
