-- Laws of what is seen to stand next, and of a cut.
use Rattle.std.proofs.Common.{◌≡◌, ◌==◌, ℕ, zero, suc, ◌<◌, ◌≤◌, min, Bool, true, false, cond, List, [], ◌∷◌, length, take, Option, Some, None, option_map, unwrap_or, IfSome, MatchOption, is_some, refl, sym, ap, subst, ◌∙◌, arith, eqb-true}
use Rattle.std.proofs.lemmas.Grind.{common_steps}
use Rattle.std.proofs.lemmas.Bool.Decides.{nat_tests}
use Rattle.hd_base.specs.Channels.{Channel, Plain, standing_of, next_standing}
use Rattle.hd_base.specs.Ends.{KeepsConnections}
use Rattle.hd_base.specs.declared.ends.Standing.{Standing}
use Rattle.hd_base.specs.declared.ends.Standing.TheVariants as standing
use Rattle.fault_ports.specs.declared.piece_counts.PieceCount.{PieceCount}
use Rattle.fault_ports.specs.declared.piece_counts.DuplexCount.{DuplexCount}
use Rattle.fault_ports.specs.PieceCounts.{count_at, cut_count}
use Rattle.fault_ports.specs.Offers.{seen_next, piece_or_end}
use Rattle.fault_ports.specs.Cuts.{cut_channel, cut_channels, with_cut, limited, seen_channels, seen_plain, CountsPieces, CountsAll}
use Rattle.fault_ports.proofs.CutLaws.{channel_with}

cut_next : (k : ℕ) (pieces : List (List ℕ)) (ended : Bool) → cond (k == 0) standing.End (piece_or_end (next_standing pieces ended)) ≡ next_standing (take k pieces) true
cut_next zero pieces ended = refl
cut_next (suc k) [] true = let e : (suc k == 0) ≡ false = grind (arith, nat_tests) in rw e refl
cut_next (suc k) [] false = let e : (suc k == 0) ≡ false = grind (arith, nat_tests) in rw e refl
cut_next (suc k) (x ∷ xs) ended = let e : (suc k == 0) ≡ false = grind (arith, nat_tests) in rw e refl

next_limited : (left : Option ℕ) (ch : Channel) → seen_next (standing_of ch) left ≡ standing_of (limited left ch)
next_limited None ch = refl
next_limited (Some k) ch = cut_next k ch.pieces ch.ended

-- What stands next is what is seen.
pub next_seen : (P : Option Plain) (plain : Bool) (next result : Standing) (left : Option ℕ) (counts : List DuplexCount) (conn : ℕ) (down : Bool) → plain ≡ true → plain ≡ is_some P → left ≡ (count_at counts conn down).left → result ≡ seen_next next left
    → MatchOption P (next ≡ standing.Nothing) (λ p. next ≡ standing_of (p.channels conn down)) → MatchOption (option_map (seen_plain counts) P) (result ≡ standing.Nothing) (λ p. result ≡ standing_of (p.channels conn down))
next_seen None plain next result left counts conn down known told same is stands = absurd (cc)
next_seen (Some p) plain next result left counts conn down known told same is stands =
    is ∙ ap (λ (s : Standing). seen_next s left) stands ∙ ap (seen_next (standing_of (p.channels conn down))) same ∙ next_limited (count_at counts conn down).left (p.channels conn down)

taken_twice : (n left : ℕ) (pieces : List (List ℕ)) → take (min n left) pieces ≡ take n (take left pieces)
taken_twice zero left [] = grind (arith, common_steps)
taken_twice (suc n) zero [] = grind (arith, common_steps)
taken_twice (suc n) (suc left) [] = grind (arith, common_steps)
taken_twice zero left (x ∷ xs) = grind (arith, common_steps)
taken_twice (suc n) zero (x ∷ xs) = grind (arith, common_steps)
taken_twice (suc n) (suc left) (x ∷ xs) = let e : min (suc n) (suc left) ≡ suc (min n left) = omega arith in rw e (ap (λ (ps : List (List ℕ)). x ∷ ps) (taken_twice n left xs))

taken_within : (n standing : ℕ) (pieces : List (List ℕ)) → length pieces ≤ standing → take (min n standing) pieces ≡ take n pieces
taken_within zero standing pieces within = grind (arith, common_steps)
taken_within (suc n) zero [] within = grind (arith, common_steps)
taken_within (suc n) (suc standing) [] within = grind (arith, common_steps)
taken_within (suc n) zero (x ∷ xs) within = absurd (omega (arith, within))
taken_within (suc n) (suc standing) (x ∷ xs) within = let e : min (suc n) (suc standing) ≡ suc (min n standing) = omega arith in rw e (ap (λ (ps : List (List ℕ)). x ∷ ps) (taken_within n standing xs (omega (arith, within))))

limited_cut_by : (n standing : ℕ) (left : Option ℕ) (ch : Channel) → length ch.pieces ≤ standing → limited (Some (min n (unwrap_or left standing))) ch ≡ cut_channel n (limited left ch)
limited_cut_by n standing None ch within = ap (λ (ps : List (List ℕ)). channel_with ps true) (taken_within n standing ch.pieces within)
limited_cut_by n standing (Some left) ch within = ap (λ (ps : List (List ℕ)). channel_with ps true) (taken_twice n left ch.pieces)

counted_cut : (n standing : ℕ) (left : Option ℕ) (ch : Channel) → CountsPieces (record { standing = standing; left = left }) ch → CountsPieces (record { standing = standing; left = Some (min n (unwrap_or left standing)) }) ch
counted_cut n standing None ch h = (h.0, h.1, (λ e. let s : standing ≡ length ch.pieces = h.1 e in omega arith))
counted_cut n standing (Some left) ch h = (h.0, h.1, (λ e. let s : left ≤ length ch.pieces = h.2 e in omega arith))

cut_at : (here : Bool) (n : ℕ) (k : PieceCount) (ch : Channel) → (here ≡ true → CountsPieces k ch) → limited (cond here (cut_count n k) k).left ch ≡ cond here (cut_channel n (limited k.left ch)) (limited k.left ch)
cut_at true n k ch h = limited_cut_by n k.standing k.left ch (h refl).0
cut_at false n k ch h = refl

counted_cut_at : (here : Bool) (n : ℕ) (k : PieceCount) (ch : Channel) → CountsPieces k ch → CountsPieces (cond here (cut_count n k) k) ch
counted_cut_at true n k ch h = counted_cut n k.standing k.left ch h
counted_cut_at false n k ch h = h

-- What is known of a cut.
pub record Cuts (old new : List DuplexCount) (p : Plain) (conn down up : ℕ) : Type 0 where
  pub known : conn < p.dialled
  pub all : CountsAll old p
  pub bounded : length new ≤ p.dialled
  pub counts : (c : ℕ) (d : Bool) → count_at new c d ≡ cond (conn == c) (cut_count (cond d down up) (count_at old c d)) (count_at old c d)

there : (old new : List DuplexCount) (p : Plain) (conn down up : ℕ) → Cuts old new p conn down up → (c : ℕ) (d : Bool) → (conn == c) ≡ true → CountsPieces (count_at old c d) (p.channels c d)
there old new p conn down up h c d here = h.all.1 c d (let same : conn ≡ c = eqb-true conn c here in omega (arith, h.known, same))

-- What is seen after a cut.
pub seen-cut : (old new : List DuplexCount) (p : Plain) (conn down up : ℕ) → Cuts old new p conn down up → seen_plain new p ≡ with_cut (seen_plain old p) conn down up
seen-cut old new p conn down up h =
    let at : (c : ℕ) (d : Bool) → limited (count_at new c d).left (p.channels c d) ≡ cut_channels (seen_channels old p.channels) conn down up c d =
    λ c d. ap (λ (k : PieceCount). limited k.left (p.channels c d)) (h.counts c d) ∙ cut_at (conn == c) (cond d down up) (count_at old c d) (p.channels c d) (there old new p conn down up h c d) in
    λ i. record p { channels = λ c d. at c d i }

-- Each connection is counted after a cut.
pub counts-cut : (old new : List DuplexCount) (p : Plain) (conn down up : ℕ) → Cuts old new p conn down up → CountsAll new p
counts-cut old new p conn down up h =
    (h.bounded, (λ c d below. let P : PieceCount → Type 0 = λ k. CountsPieces k (p.channels c d) in subst P (sym (h.counts c d)) (counted_cut_at (conn == c) (cond d down up) (count_at old c d) (p.channels c d) (h.all.1 c d below))))

-- Where the roads are over plain memory, what is known of a cut.
pub cuts_of : (P : Option Plain) (old mid new : List DuplexCount) (conn dialled down up : ℕ) → IfSome P (λ p. conn < p.dialled) → IfSome P (λ p. p.dialled ≡ dialled) → IfSome P (CountsAll old)
    → (conn < dialled → conn < length mid) → ((c : ℕ) (d : Bool) → count_at mid c d ≡ count_at old c d) → (length old ≤ dialled → length mid ≤ dialled) → length new ≡ length mid
    → (conn < length mid → (c : ℕ) (d : Bool) → count_at new c d ≡ cond (conn == c) (cut_count (cond d down up) (count_at mid c d)) (count_at mid c d))
    → IfSome P (λ p. Cuts old new p conn down up)
cuts_of None old mid new conn dialled down up known is all listed same bounded len cut = known
cuts_of (Some p) old mid new conn dialled down up known is all listed same bounded len cut = record {
  known = known;
  all = all;
  bounded = let b : length mid ≤ dialled = bounded (omega (arith, is, all.0)) in omega (arith, b, is, len);
  counts = λ c d. cut (listed (omega (arith, known, is))) c d ∙ ap (λ (k : PieceCount). cond (conn == c) (cut_count (cond d down up) k) k) (same c d);
}

-- The same, of what is seen and counted.
pub seen_cut-of : (P : Option Plain) (old new : List DuplexCount) (conn down up : ℕ) → IfSome P (λ p. Cuts old new p conn down up) → option_map (seen_plain new) P ≡ option_map (λ p. with_cut p conn down up) (option_map (seen_plain old) P)
seen_cut-of None old new conn down up h = refl
seen_cut-of (Some p) old new conn down up h = ap Some (seen-cut old new p conn down up h)

pub counts_cut-of : (P : Option Plain) (old new : List DuplexCount) (conn down up : ℕ) → IfSome P (λ p. Cuts old new p conn down up) → IfSome P (CountsAll new)
counts_cut-of None old new conn down up h = h
counts_cut-of (Some p) old new conn down up h = counts-cut old new p conn down up h

-- A cut leaves the number of connections.
pub keeps_cut : (P : Option Plain) (old new : List DuplexCount) → KeepsConnections (option_map (seen_plain old) P) (option_map (seen_plain new) P)
keeps_cut None old new = record { stays_hidden = λ e. e; dialled = _ }
keeps_cut (Some p) old new = record { stays_hidden = λ e. absurd (cc); dialled = refl }

-- A connection that was known stays so where the number of connections does.
pub known_after : (P Q : Option Plain) (n : ℕ) → KeepsConnections P Q → IfSome P (λ p. n < p.dialled) → IfSome Q (λ q. n < q.dialled)
known_after None Q n keeps known = let R : Option Plain → Type 0 = λ o. IfSome o (λ q. n < q.dialled) in subst R (sym (keeps.stays_hidden refl)) known
known_after (Some p) None n keeps known = _
known_after (Some p) (Some q) n keeps known = let e : q.dialled ≡ p.dialled = keeps.dialled in omega (arith, known, e)
