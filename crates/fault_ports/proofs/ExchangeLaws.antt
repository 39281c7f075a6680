-- Laws of an exchange on roads whose connections were cut.
use Rattle.std.proofs.Common.{◌≡◌, ◌==◌, ◌&&◌, ℕ, ◌<◌, ◌≤◌, not, Bool, true, false, cond, if◌then◌else◌, List, length, refl, sym, ap, subst, ◌∙◌, arith, eqb-true}
use Rattle.hd_base.specs.Channels.{Channel, Channels, Plain, same_direction, extended_channel, closed_channel, with_given, with_taken, with_flushed, with_offer, standing_of}
use Rattle.fault_ports.specs.declared.piece_counts.PieceCount.{PieceCount}
use Rattle.fault_ports.specs.declared.piece_counts.DuplexCount.{DuplexCount}
use Rattle.fault_ports.specs.PieceCounts.{count_at, grown_count}
use Rattle.fault_ports.specs.declared.offers.Offer.{Offer}
use Rattle.fault_ports.specs.Offers.{passes, OffersNext, count_given}
use Rattle.fault_ports.specs.Cuts.{limited, seen_channels, seen_plain, CountsPieces, CountsAll}
use Rattle.fault_ports.proofs.CutLaws.{offered, limited_extended, taken_seen, sent_counted, taken_counted}

both_true : (a b : Bool) → (a && b) ≡ true → (a ≡ true) × (b ≡ true)
both_true true true is = (refl, refl)
both_true true false is = absurd (cc)
both_true false b is = absurd (cc)

one_direction : (down d : Bool) → same_direction down d ≡ true → down ≡ d
one_direction true true is = refl
one_direction true false is = absurd (cc)
one_direction false true is = absurd (cc)
one_direction false false is = refl

-- What a place has, the same place has.
pub same_place : {X : Type 0} (f : ℕ → Bool → X) (conn c : ℕ) (down d : Bool) → ((conn == c) && same_direction down d) ≡ true → f conn down ≡ f c d
same_place f conn c down d is =
    let h = both_true (conn == c) (same_direction down d) is in
    ap (λ (n : ℕ). f n down) (eqb-true conn c h.0) ∙ ap (f c) (one_direction down d h.1)

-- the count of a direction after a flush and an offer, where the test says that it is the one
abbrev pub count_after : Bool → Bool → PieceCount → Offer → PieceCount → PieceCount
count_after sent taken grown off count = cond taken (count_given off (cond sent grown count)) (cond sent grown count)

-- a channel after a flush and an offer
abbrev pub channel_after : Bool → Bool → Bool → Bool → Bool → List (List ℕ) → Bool → Channel → Channel
channel_after here sent taken hungry lower m shut ch =
    cond taken (offered hungry (cond here (cond sent (extended_channel ch m shut) (closed_channel ch shut)) ch)) (cond here (cond sent (extended_channel ch m shut) (closed_channel ch shut)) ch)

-- what is known of one direction before an exchange
pub record Before (here lower d takes hungry : Bool) (off : Offer) (grown : PieceCount) (n : ℕ) (k : PieceCount) (ch : Channel) : Type 0 where
  pub counted : here ≡ true → CountsPieces k ch
  pub grows : (here && same_direction (not lower) d) ≡ true → grown ≡ grown_count k n
  pub offers : (here && same_direction lower d) ≡ true → OffersNext off takes hungry (standing_of ch) k.left

sent_seen : (grown k : PieceCount) (n : ℕ) (ch : Channel) (m : List (List ℕ)) (shut : Bool) → grown ≡ grown_count k n → CountsPieces k ch → limited grown.left (extended_channel ch m shut) ≡ extended_channel (limited k.left ch) m shut
sent_seen grown k n ch m shut is h = ap (λ (g : PieceCount). limited g.left (extended_channel ch m shut)) is ∙ limited_extended k.left ch m shut h.2

seen_at : (here lower d takes hungry : Bool) (off : Offer) (grown : PieceCount) (n : ℕ) (k : PieceCount) (ch : Channel) (m : List (List ℕ)) (shut : Bool) → Before here lower d takes hungry off grown n k ch
    → limited (count_after (here && same_direction (not lower) d) (here && same_direction lower d) grown off k).left (channel_after here (same_direction (not lower) d) (here && same_direction lower d) (passes off && hungry) lower m shut ch)
    ≡ channel_after here (same_direction (not lower) d) (here && same_direction lower d) (takes && hungry) lower m shut (limited k.left ch)
seen_at false lower d takes hungry off grown n k ch m shut b = refl
seen_at true true true takes hungry off grown n k ch m shut b = taken_seen off takes hungry k ch shut (b.offers refl)
seen_at true true false takes hungry off grown n k ch m shut b = sent_seen grown k n ch m shut (b.grows refl) (b.counted refl)
seen_at true false true takes hungry off grown n k ch m shut b = sent_seen grown k n ch m shut (b.grows refl) (b.counted refl)
seen_at true false false takes hungry off grown n k ch m shut b = taken_seen off takes hungry k ch shut (b.offers refl)

grown_counted : (grown k : PieceCount) (n : ℕ) (ch : Channel) (m : List (List ℕ)) (shut : Bool) → n ≡ length m → grown ≡ grown_count k n → CountsPieces k ch → CountsPieces grown (extended_channel ch m shut)
grown_counted grown k n ch m shut is same h = let P : PieceCount → Type 0 = λ g. CountsPieces g (extended_channel ch m shut) in subst P (sym same) (sent_counted k ch n m shut is h)

counted_at : (here lower d takes hungry : Bool) (off : Offer) (grown : PieceCount) (n : ℕ) (k : PieceCount) (ch : Channel) (m : List (List ℕ)) (shut : Bool) → n ≡ length m → Before here lower d takes hungry off grown n k ch → CountsPieces k ch
    → CountsPieces (count_after (here && same_direction (not lower) d) (here && same_direction lower d) grown off k) (channel_after here (same_direction (not lower) d) (here && same_direction lower d) (passes off && hungry) lower m shut ch)
counted_at false lower d takes hungry off grown n k ch m shut is b h = h
counted_at true true true takes hungry off grown n k ch m shut is b h = taken_counted off takes hungry k ch shut (b.offers refl) h
counted_at true true false takes hungry off grown n k ch m shut is b h = grown_counted grown k n ch m shut is (b.grows refl) h
counted_at true false true takes hungry off grown n k ch m shut is b h = grown_counted grown k n ch m shut is (b.grows refl) h
counted_at true false false takes hungry off grown n k ch m shut is b h = taken_counted off takes hungry k ch shut (b.offers refl) h

pub same_both : {X : Type 0} (b : Bool) (x : X) → cond b x x ≡ x
same_both true x = refl
same_both false x = refl

-- the channels after a flush and an offer, one by one
given_at : (channels : Channels) (conn : ℕ) (lower hungry : Bool) (m : List (List ℕ)) (shut : Bool) (c : ℕ) (d : Bool)
    → (if hungry then with_taken (with_given channels conn (not lower) m shut) conn lower else with_given channels conn (not lower) m shut) c d
    ≡ channel_after (conn == c) (same_direction (not lower) d) ((conn == c) && same_direction lower d) hungry lower m shut (channels c d)
given_at channels conn lower true m shut c d = refl
given_at channels conn lower false m shut c d = sym (same_both ((conn == c) && same_direction lower d) (with_given channels conn (not lower) m shut c d))

-- what is known before an exchange, and what its counts are after it
pub record Exchanged (old new : List DuplexCount) (p : Plain) (conn n : ℕ) (lower takes hungry : Bool) (off : Offer) (grown : PieceCount) (m : List (List ℕ)) : Type 0 where
  pub known : conn < p.dialled
  pub all : CountsAll old p
  pub bounded : length new ≤ p.dialled
  pub sends : n ≡ length m
  pub grows : grown ≡ grown_count (count_at old conn (not lower)) n
  pub offers : OffersNext off takes hungry (standing_of (p.channels conn lower)) (count_at old conn lower).left
  pub counts : (c : ℕ) (d : Bool) → count_at new c d ≡ count_after ((conn == c) && same_direction (not lower) d) ((conn == c) && same_direction lower d) grown off (count_at old c d)

before : (old new : List DuplexCount) (p : Plain) (conn n : ℕ) (lower takes hungry : Bool) (off : Offer) (grown : PieceCount) (m : List (List ℕ)) → Exchanged old new p conn n lower takes hungry off grown m → (c : ℕ) (d : Bool)
    → Before (conn == c) lower d takes hungry off grown n (count_at old c d) (p.channels c d)
before old new p conn n lower takes hungry off grown m x c d = record {
  counted = λ here. x.all.1 c d (let same : conn ≡ c = eqb-true conn c here in omega (arith, x.known, same));
  grows = λ here. x.grows ∙ ap (λ (k : PieceCount). grown_count k n) (same_place (count_at old) conn c (not lower) d here);
  offers = λ here.
      let P : Channel → Type 0 = λ ch. OffersNext off takes hungry (standing_of ch) (count_at old c d).left in
      let Q : PieceCount → Type 0 = λ k. OffersNext off takes hungry (standing_of (p.channels conn lower)) k.left in
      subst P (same_place p.channels conn c lower d here) (subst Q (same_place (count_at old) conn c lower d here) x.offers);
}

-- What is seen after an exchange.
pub seen-exchanged : (old new : List DuplexCount) (p : Plain) (conn n : ℕ) (lower takes hungry : Bool) (off : Offer) (grown : PieceCount) (m : List (List ℕ)) (shut : Bool) → Exchanged old new p conn n lower takes hungry off grown m
    → seen_plain new (with_offer (with_flushed p conn lower m shut) conn lower (passes off && hungry)) ≡ with_offer (with_flushed (seen_plain old p) conn lower m shut) conn lower (takes && hungry)
seen-exchanged old new p conn n lower takes hungry off grown m shut x =
    let at : (c : ℕ) (d : Bool) → limited (count_at new c d).left ((with_offer (with_flushed p conn lower m shut) conn lower (passes off && hungry)).channels c d) ≡ (with_offer (with_flushed (seen_plain old p) conn lower m shut) conn lower (takes && hungry)).channels c d =
    λ c d. ap (λ (ch : Channel). limited (count_at new c d).left ch) (given_at p.channels conn lower (passes off && hungry) m shut c d)
    ∙ ap (λ (k : PieceCount). limited k.left (channel_after (conn == c) (same_direction (not lower) d) ((conn == c) && same_direction lower d) (passes off && hungry) lower m shut (p.channels c d))) (x.counts c d)
    ∙ seen_at (conn == c) lower d takes hungry off grown n (count_at old c d) (p.channels c d) m shut (before old new p conn n lower takes hungry off grown m x c d)
    ∙ sym (given_at (seen_channels old p.channels) conn lower (takes && hungry) m shut c d) in
    λ i. record p { channels = λ c d. at c d i }

-- Each connection is counted after an exchange.
pub counts-exchanged : (old new : List DuplexCount) (p : Plain) (conn n : ℕ) (lower takes hungry : Bool) (off : Offer) (grown : PieceCount) (m : List (List ℕ)) (shut : Bool) → Exchanged old new p conn n lower takes hungry off grown m
    → CountsAll new (with_offer (with_flushed p conn lower m shut) conn lower (passes off && hungry))
counts-exchanged old new p conn n lower takes hungry off grown m shut x = (
  x.bounded,
  (λ c d below.
      let P : Channel → Type 0 = λ ch. CountsPieces (count_at new c d) ch in
      let Q : PieceCount → Type 0 = λ k. CountsPieces k (channel_after (conn == c) (same_direction (not lower) d) ((conn == c) && same_direction lower d) (passes off && hungry) lower m shut (p.channels c d)) in
      subst P (sym (given_at p.channels conn lower (passes off && hungry) m shut c d)) (subst Q (sym (x.counts c d))
      (counted_at (conn == c) lower d takes hungry off grown n (count_at old c d) (p.channels c d) m shut x.sends (before old new p conn n lower takes hungry off grown m x c d) (x.all.1 c d below)))),
)
