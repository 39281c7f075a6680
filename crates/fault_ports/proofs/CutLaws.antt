-- Laws of roads whose connections were cut: what is seen of what the roads themselves hold after a flush and an offer.
use Rattle.std.proofs.Common.{◌≡◌, ◌≢◌, ◌&&◌, ◌||◌, ◌⊎◌, ℕ, zero, suc, ◌+◌, ◌-◌, ◌≤◌, Bool, true, false, cond, List, [], ◌∷◌, length, take, drop, Option, Some, None, option_map, IfSome, IsSome, refl, sym, ap, subst, ◌∙◌, arith, inl, inr}
use Rattle.std.proofs.lemmas.List.{take-append-le}
use Rattle.std.proofs.lemmas.Grind.{common_steps}
use Rattle.hd_base.specs.Channels.{Channel, extended_channel, closed_channel, standing_of}
use Rattle.hd_base.specs.declared.ends.Standing.TheVariants as standing
use Rattle.fault_ports.specs.declared.piece_counts.PieceCount.{PieceCount}
use Rattle.fault_ports.specs.PieceCounts.{taken_count, grown_count}
use Rattle.fault_ports.specs.declared.offers.Offer.{Offer}
use Rattle.fault_ports.specs.declared.offers.Offer.TheVariants as offer
use Rattle.fault_ports.specs.Offers.{passes, OffersNext, count_given}
use Rattle.fault_ports.specs.Cuts.{cut_channel, limited, CountsPieces}

-- a channel with these parts
abbrev pub channel_with : List (List ℕ) → Bool → Channel
channel_with pieces ended = record { pieces = pieces; ended = ended }

-- a channel without its first piece
abbrev pub first_gone : Channel → Channel
first_gone channel = channel_with (drop 1 channel.pieces) channel.ended

-- a channel after a half that is hungry, or not, was offered the next piece
abbrev pub offered : Bool → Channel → Channel
offered hungry channel = cond hungry (first_gone channel) channel

extended_cut : (left : ℕ) (pieces : List (List ℕ)) (ended : Bool) (m : List (List ℕ)) (shut : Bool) → (ended ≡ false → left ≤ length pieces)
    → cut_channel left (extended_channel (channel_with pieces ended) m shut) ≡ cut_channel left (channel_with pieces ended)
extended_cut left pieces true m shut within = refl
extended_cut left pieces false m shut within = ap (λ (ps : List (List ℕ)). channel_with ps true) (take-append-le left pieces m (within refl))

pub limited_extended : (left : Option ℕ) (ch : Channel) (m : List (List ℕ)) (shut : Bool) → IfSome left (λ k. ch.ended ≡ false → k ≤ length ch.pieces) → limited left (extended_channel ch m shut) ≡ extended_channel (limited left ch) m shut
limited_extended None ch m shut within = refl
limited_extended (Some k) ch m shut within = extended_cut k ch.pieces ch.ended m shut within

limited_closed : (left : Option ℕ) (ch : Channel) (shut : Bool) → limited left (closed_channel ch shut) ≡ closed_channel (limited left ch) shut
limited_closed None ch shut = refl
limited_closed (Some k) ch shut = refl

cut_first : (k : ℕ) (pieces : List (List ℕ)) → k ≢ 0 → take (k - 1) (drop 1 pieces) ≡ drop 1 (take k pieces)
cut_first zero pieces more = absurd (more refl)
cut_first (suc k) [] more = grind (arith, common_steps)
cut_first (suc k) (x ∷ xs) more = grind (arith, common_steps)

limited_taken : (left : Option ℕ) (ch : Channel) → left ≢ Some 0 → limited (option_map (λ n. n - 1) left) (first_gone ch) ≡ first_gone (limited left ch)
limited_taken None ch more = refl
limited_taken (Some k) ch more = ap (λ (ps : List (List ℕ)). channel_with ps true) (cut_first k ch.pieces (λ z. more (ap Some z)))

pub none_stands : (pieces : List (List ℕ)) (ended : Bool) → standing_of (channel_with pieces ended) ≢ standing.Piece → pieces ≡ []
none_stands [] ended other = refl
none_stands (x ∷ xs) ended other = absurd (other refl)

first_of_none : (h : Bool) (pieces : List (List ℕ)) (ended : Bool) → pieces ≡ [] → offered h (channel_with pieces ended) ≡ channel_with pieces ended
first_of_none true pieces ended none = ap (λ (ps : List (List ℕ)). channel_with ps ended) (ap (λ (ps : List (List ℕ)). drop 1 ps) none ∙ sym none)
first_of_none false pieces ended none = refl

pub cut_to_none : (left : Option ℕ) (pieces : List (List ℕ)) (ended : Bool) → IsSome left → (left ≡ Some 0) ⊎ (pieces ≡ []) → (limited left (channel_with pieces ended)).pieces ≡ []
cut_to_none None pieces ended some none = absurd (cc)
cut_to_none (Some k) pieces ended some (inl z) = let e : k ≡ 0 = grind arith in rw e refl
cut_to_none (Some k) pieces ended some (inr n) = rw n (grind (arith, common_steps))

-- What is seen on the direction that an end takes from, after an offer.
pub taken_seen : (off : Offer) (takes hungry : Bool) (k : PieceCount) (ch : Channel) (shut : Bool) → OffersNext off takes hungry (standing_of ch) k.left
    → limited (count_given off k).left (offered (passes off && hungry) (closed_channel ch shut)) ≡ offered (takes && hungry) (closed_channel (limited k.left ch) shut)
taken_seen offer.Nothing takes hungry k ch shut is = rw is (limited_closed k.left ch shut)
taken_seen offer.Rest takes hungry k ch shut is =
    let none : ch.pieces ≡ [] = none_stands ch.pieces ch.ended is.2 in
    rw (is.0, is.1) refl
taken_seen offer.Piece takes hungry k ch shut is = rw (is.0, is.1) (limited_taken k.left (closed_channel ch shut) is.2 ∙ ap first_gone (limited_closed k.left ch shut))
taken_seen offer.End takes hungry k ch shut is =
    let e : ((k.left ≡ Some 0) ⊎ (standing_of ch ≢ standing.Piece)) → ((k.left ≡ Some 0) ⊎ (ch.pieces ≡ [])) = elim [ inl z ↦ inl z | inr s ↦ inr (none_stands ch.pieces ch.ended s) ] in
    limited_closed k.left ch shut ∙ sym (first_of_none (takes && hungry) (closed_channel (limited k.left ch) shut).pieces (closed_channel (limited k.left ch) shut).ended (cut_to_none k.left ch.pieces ch.ended is.1 (e is.2)))

counted_extended : (standing n : ℕ) (left : Option ℕ) (pieces m : List (List ℕ)) (ended shut : Bool) → n ≡ length m → CountsPieces (record { standing = standing; left = left }) (channel_with pieces ended)
    → CountsPieces (record { standing = standing + n; left = left }) (extended_channel (channel_with pieces ended) m shut)
counted_extended standing n None pieces m true shut is h = (omega (arith, h.0), (λ e. absurd (cc)), h.2)
counted_extended standing n (Some k) pieces m true shut is h = (omega (arith, h.0), (λ e. absurd (cc)), h.2)
counted_extended standing n None pieces m false shut is h = let e : standing ≡ length pieces = h.1 refl in (grind (arith, common_steps), (λ _. grind (arith, common_steps)), h.2)
counted_extended standing n (Some k) pieces m false shut is h =
    let e : standing ≡ length pieces = h.1 refl in let w : k ≤ length pieces = h.2 refl in
    (grind (arith, common_steps), (λ _. grind (arith, common_steps)), (λ _. grind (arith, common_steps)))

-- The direction that an end sends on is counted after a flush.
pub sent_counted : (k : PieceCount) (ch : Channel) (n : ℕ) (m : List (List ℕ)) (shut : Bool) → n ≡ length m → CountsPieces k ch → CountsPieces (grown_count k n) (extended_channel ch m shut)
sent_counted k ch n m shut is h = counted_extended k.standing n k.left ch.pieces m ch.ended shut is h

ended_within : (left : Option ℕ) (pieces : List (List ℕ)) → IfSome left (λ k. false ≡ false → k ≤ length pieces) → IfSome left (λ k. true ≡ false → k ≤ length pieces)
ended_within None pieces h = h
ended_within (Some k) pieces h = λ e. absurd (cc)

counted_closed : (k : PieceCount) (pieces : List (List ℕ)) (ended shut : Bool) → CountsPieces k (channel_with pieces ended) → CountsPieces k (closed_channel (channel_with pieces ended) shut)
counted_closed k pieces true shut h = h
counted_closed k pieces false false h = h
counted_closed k pieces false true h = (h.0, (λ e. absurd (cc)), ended_within k.left pieces h.2)

counted_taken : (standing : ℕ) (left : Option ℕ) (pieces : List (List ℕ)) (ended : Bool) → CountsPieces (record { standing = standing; left = left }) (channel_with pieces ended)
    → CountsPieces (taken_count (record { standing = standing; left = left })) (first_gone (channel_with pieces ended))
counted_taken standing None pieces ended h = (grind (arith, common_steps, h.0), (λ e. let s : standing ≡ length pieces = h.1 e in grind (arith, common_steps)), h.2)
counted_taken standing (Some k) pieces ended h =
    (grind (arith, common_steps, h.0), (λ e. let s : standing ≡ length pieces = h.1 e in grind (arith, common_steps)), (λ e. let w : k ≤ length pieces = h.2 e in grind (arith, common_steps)))

same_channel : (k : PieceCount) (a b : Channel) → a ≡ b → CountsPieces k b → CountsPieces k a
same_channel k a b same h = let P : Channel → Type 0 = λ ch. CountsPieces k ch in subst P (sym same) h

-- The direction that an end takes from is counted after an offer.
pub taken_counted : (off : Offer) (takes hungry : Bool) (k : PieceCount) (ch : Channel) (shut : Bool) → OffersNext off takes hungry (standing_of ch) k.left → CountsPieces k ch
    → CountsPieces (count_given off k) (offered (passes off && hungry) (closed_channel ch shut))
taken_counted offer.Nothing takes hungry k ch shut is h = counted_closed k ch.pieces ch.ended shut h
taken_counted offer.Rest takes hungry k ch shut is h =
    same_channel k (offered hungry (closed_channel ch shut)) (closed_channel ch shut) (first_of_none hungry ch.pieces (ch.ended || shut) (none_stands ch.pieces ch.ended is.2)) (counted_closed k ch.pieces ch.ended shut h)
taken_counted offer.Piece takes hungry k ch shut is h =
    same_channel (taken_count k) (offered hungry (closed_channel ch shut)) (first_gone (closed_channel ch shut)) (ap (λ (b : Bool). offered b (closed_channel ch shut)) is.1)
    (counted_taken k.standing k.left ch.pieces (ch.ended || shut) (counted_closed k ch.pieces ch.ended shut h))
taken_counted offer.End takes hungry k ch shut is h = counted_closed k ch.pieces ch.ended shut h
