-- Laws of an end in an exchange on roads whose connections were cut.
use Rattle.std.proofs.Common.{◌≡◌, ◌==◌, ◌&&◌, ◌||◌, ℕ, ◌<◌, ◌≤◌, not, Bool, true, false, cond, List, length, Option, Some, None, option_map, IfSome, IsSome, MatchOption, is_some, refl, sym, ap, subst, ◌∙◌, arith}
use Rattle.hd_base.specs.Links.{Inbox}
use Rattle.hd_base.specs.Channels.{Plain, same_direction, with_flushed, with_offer, standing_of, is_hungry, unflushed}
use Rattle.hd_base.specs.declared.ends.Standing.{Standing}
use Rattle.hd_base.specs.declared.ends.Standing.TheVariants as standing
use Rattle.fault_ports.specs.declared.piece_counts.PieceCount.{PieceCount}
use Rattle.fault_ports.specs.declared.piece_counts.DuplexCount.{DuplexCount}
use Rattle.fault_ports.specs.PieceCounts.{count_at, grown_count}
use Rattle.fault_ports.specs.Halves.{inbox_behind}
use Rattle.fault_ports.specs.declared.offers.Offer.{Offer}
use Rattle.fault_ports.specs.declared.offers.Offer.TheVariants as offer
use Rattle.fault_ports.specs.Offers.{passes, OffersNext, count_given}
use Rattle.fault_ports.specs.Cuts.{seen_plain, CountsAll}
use Rattle.fault_ports.proofs.ExchangeLaws.{Exchanged, count_after, seen-exchanged, counts-exchanged}

pub or_false : (b : Bool) → (b || false) ≡ b
or_false true = refl
or_false false = refl

pub plain_inbox : (inbox : Inbox) → inbox_behind None false inbox ≡ inbox
plain_inbox inbox = λ i. record { bytes = inbox.bytes; ended = or_false inbox.ended i }

-- What is known of an exchange of an end on the roads themselves.
pub record Happens (P P' : Option Plain) (old new : List DuplexCount) (S : Option (List (List ℕ))) (H : Option Inbox) (first : Option ℕ) (ended : Bool) (fl lo n conn : ℕ) (shut lower takes : Bool) (off : Offer) (grown : PieceCount) : Type 0 where
  pub went : IfSome P (λ p. IfSome S (λ sent. IfSome H (λ inbox. P' ≡ Some (with_offer (with_flushed p conn lower (unflushed sent fl lo) shut) conn lower (passes off && is_hungry inbox)))))
  pub hidden : P ≡ None → P' ≡ None
  pub known : IfSome P (λ p. conn < p.dialled)
  pub all : IfSome P (CountsAll old)
  pub bounded : IfSome P (λ p. length new ≤ p.dialled)
  pub sends : IfSome S (λ sent. n ≡ length (unflushed sent fl lo))
  pub grows : grown ≡ grown_count (count_at old conn (not lower)) n
  pub offers : IfSome P (λ p. IfSome (option_map (inbox_behind first ended) H) (λ inbox. OffersNext off takes (is_hungry inbox) (standing_of (p.channels conn lower)) (count_at old conn lower).left))
  pub bare : passes off ≡ true → (first ≡ None) × (ended ≡ false)
  pub counts : IfSome P (λ p. (c : ℕ) (d : Bool) → count_at new c d ≡ count_after ((conn == c) && same_direction (not lower) d) ((conn == c) && same_direction lower d) grown off (count_at old c d))
  pub observable : IfSome P (λ p. IsSome S × IsSome H)

same_hungry : (off : Offer) (first : Option ℕ) (ended : Bool) (inbox : Inbox) → (passes off ≡ true → (first ≡ None) × (ended ≡ false)) → (passes off && is_hungry inbox) ≡ (passes off && is_hungry (inbox_behind first ended inbox))
same_hungry offer.Nothing first ended inbox bare = refl
same_hungry offer.End first ended inbox bare = refl
same_hungry offer.Rest first ended inbox bare = let b = bare refl in rw (b.0, b.1) (ap is_hungry (sym (plain_inbox inbox)))
same_hungry offer.Piece first ended inbox bare = let b = bare refl in rw (b.0, b.1) (ap is_hungry (sym (plain_inbox inbox)))

module _ (P' : Option Plain) (old new : List DuplexCount) (first : Option ℕ) (ended : Bool) (fl lo n conn : ℕ) (shut lower takes : Bool) (off : Offer) (grown : PieceCount) where
  exchanged : (p : Plain) (sent : List (List ℕ)) (inbox : Inbox) → Happens (Some p) P' old new (Some sent) (Some inbox) first ended fl lo n conn shut lower takes off grown
      → Exchanged old new p conn n lower takes (is_hungry (inbox_behind first ended inbox)) off grown (unflushed sent fl lo)
  exchanged p sent inbox h = record { known = h.known; all = h.all; bounded = h.bounded; sends = h.sends; grows = h.grows; offers = h.offers; counts = h.counts }

  became : (p : Plain) (sent : List (List ℕ)) (inbox : Inbox) → Happens (Some p) P' old new (Some sent) (Some inbox) first ended fl lo n conn shut lower takes off grown
      → P' ≡ Some (with_offer (with_flushed p conn lower (unflushed sent fl lo) shut) conn lower (passes off && is_hungry (inbox_behind first ended inbox)))
  became p sent inbox h = h.went ∙ ap (λ (b : Bool). Some (with_offer (with_flushed p conn lower (unflushed sent fl lo) shut) conn lower b)) (same_hungry off first ended inbox h.bare)

  -- What is seen after an exchange.
  pub seen-after : (P : Option Plain) (S : Option (List (List ℕ))) (H : Option Inbox) → Happens P P' old new S H first ended fl lo n conn shut lower takes off grown
      → IfSome (option_map (seen_plain old) P) (λ p. IfSome S (λ sent. IfSome (option_map (inbox_behind first ended) H) (λ inbox. option_map (seen_plain new) P' ≡ Some (with_offer (with_flushed p conn lower (unflushed sent fl lo) shut) conn lower (takes && is_hungry inbox)))))
  seen-after None S H h = h.known
  seen-after (Some p) None H h = h.sends
  seen-after (Some p) (Some sent) None h = h.offers
  seen-after (Some p) (Some sent) (Some inbox) h =
      ap (option_map (seen_plain new)) (became p sent inbox h) ∙ ap Some (seen-exchanged old new p conn n lower takes (is_hungry (inbox_behind first ended inbox)) off grown (unflushed sent fl lo) shut (exchanged p sent inbox h))

  none_after : (P : Option Plain) → P ≡ None → (Q : Plain → Type 0) → IfSome P Q
  none_after P none Q = let R : Option Plain → Type 0 = λ o. IfSome o Q in subst R (sym none) (let t : IfSome None Q = _ in t)

  -- Each connection is counted after an exchange.
  pub counted-after : (P : Option Plain) (S : Option (List (List ℕ))) (H : Option Inbox) → Happens P P' old new S H first ended fl lo n conn shut lower takes off grown → IfSome P' (CountsAll new)
  counted-after None S H h = none_after P' (h.hidden refl) (CountsAll new)
  counted-after (Some p) None H h = absurd (let o : IsSome {T = List (List ℕ)} None = h.observable.0 in cc)
  counted-after (Some p) (Some sent) None h = absurd (let o : IsSome {T = Inbox} None = h.observable.1 in cc)
  counted-after (Some p) (Some sent) (Some inbox) h =
      let Q : Option Plain → Type 0 = λ o. IfSome o (CountsAll new) in
      subst Q (sym (became p sent inbox h)) (counts-exchanged old new p conn n lower takes (is_hungry (inbox_behind first ended inbox)) off grown (unflushed sent fl lo) shut (exchanged p sent inbox h))

  -- The roads are over plain memory as before.
  pub plain-after : (P : Option Plain) (S : Option (List (List ℕ))) (H : Option Inbox) → Happens P P' old new S H first ended fl lo n conn shut lower takes off grown → is_some P ≡ is_some P'
  plain-after None S H h = ap (λ (o : Option Plain). is_some o) (sym (h.hidden refl))
  plain-after (Some p) None H h = absurd (let o : IsSome {T = List (List ℕ)} None = h.observable.0 in cc)
  plain-after (Some p) (Some sent) None h = absurd (let o : IsSome {T = Inbox} None = h.observable.1 in cc)
  plain-after (Some p) (Some sent) (Some inbox) h = ap (λ (o : Option Plain). is_some o) (sym (became p sent inbox h))

  -- As many connections were dialled as before.
  pub dialled-after : (P : Option Plain) (S : Option (List (List ℕ))) (H : Option Inbox) (k : ℕ) → Happens P P' old new S H first ended fl lo n conn shut lower takes off grown → IfSome P (λ p. p.dialled ≡ k) → IfSome P' (λ p. p.dialled ≡ k)
  dialled-after None S H k h is = none_after P' (h.hidden refl) (λ p. p.dialled ≡ k)
  dialled-after (Some p) None H k h is = absurd (let o : IsSome {T = List (List ℕ)} None = h.observable.0 in cc)
  dialled-after (Some p) (Some sent) None k h is = absurd (let o : IsSome {T = Inbox} None = h.observable.1 in cc)
  dialled-after (Some p) (Some sent) (Some inbox) k h is = let Q : Option Plain → Type 0 = λ o. IfSome o (λ p. p.dialled ≡ k) in subst Q (sym (became p sent inbox h)) is

-- What follows of each value follows of an optional one.
pub if_some : {X : Type 0} (o : Option X) (Q R : X → Type 0) → ((x : X) → Q x → R x) → IfSome o Q → IfSome o R
if_some None Q R f h = h
if_some (Some x) Q R f h = f x h

-- What two facts say of each value.
pub if_some-both : {X : Type 0} (o : Option X) (Q R T : X → Type 0) → ((x : X) → Q x → R x → T x) → IfSome o Q → IfSome o R → IfSome o T
if_some-both None Q R T f h k = h
if_some-both (Some x) Q R T f h k = f x h k

-- What is known of what is seen is known of the roads themselves.
pub known_seen : (counts : List DuplexCount) (P : Option Plain) (conn : ℕ) → IfSome (option_map (seen_plain counts) P) (λ p. conn < p.dialled) → IfSome P (λ p. conn < p.dialled)
known_seen counts None conn h = h
known_seen counts (Some p) conn h = h

-- The offer is that of what stands next.
pub offers_of : (P : Option Plain) (H : Option Inbox) (plain : Bool) (off : Offer) (takes lower : Bool) (next : Standing) (left left' : Option ℕ) (conn : ℕ) → plain ≡ is_some P → left ≡ left' → MatchOption P (next ≡ standing.Nothing) (λ p. next ≡ standing_of (p.channels conn lower))
    → (plain ≡ true → IfSome H (λ inbox. OffersNext off takes (is_hungry inbox) next left)) → IfSome P (λ p. IfSome H (λ inbox. OffersNext off takes (is_hungry inbox) (standing_of (p.channels conn lower)) left'))
offers_of None H plain off takes lower next left left' conn is same stands h = _
offers_of (Some p) H plain off takes lower next left left' conn is same stands h =
    if_some H (λ inbox. OffersNext off takes (is_hungry inbox) next left) (λ inbox. OffersNext off takes (is_hungry inbox) (standing_of (p.channels conn lower)) left')
    (λ inbox x. let Q : Option ℕ → Type 0 = λ l. OffersNext off takes (is_hungry inbox) next l in let R : Standing → Type 0 = λ s. OffersNext off takes (is_hungry inbox) s left' in subst R stands (subst Q same x)) (h is)

-- The counts after a flush and an offer were put down.
pub counts_of : (P : Option Plain) (old mid set new : List DuplexCount) (conn dialled : ℕ) (lower : Bool) (grown : PieceCount) (off : Offer) → IfSome P (λ p. conn < p.dialled) → IfSome P (λ p. p.dialled ≡ dialled)
    → (conn < dialled → conn < length mid) → ((c : ℕ) (d : Bool) → count_at mid c d ≡ count_at old c d) → length set ≡ length mid
    → (conn < length mid → (c : ℕ) (d : Bool) → count_at set c d ≡ cond ((conn == c) && same_direction (not lower) d) grown (count_at mid c d))
    → (conn < length set → (c : ℕ) (d : Bool) → count_at new c d ≡ cond ((conn == c) && same_direction lower d) (count_given off (count_at set c d)) (count_at set c d))
    → IfSome P (λ p. (c : ℕ) (d : Bool) → count_at new c d ≡ count_after ((conn == c) && same_direction (not lower) d) ((conn == c) && same_direction lower d) grown off (count_at old c d))
counts_of P old mid set new conn dialled lower grown off known is listed same len one two =
    if_some-both P (λ p. conn < p.dialled) (λ p. p.dialled ≡ dialled) (λ p. (c : ℕ) (d : Bool) → count_at new c d ≡ count_after ((conn == c) && same_direction (not lower) d) ((conn == c) && same_direction lower d) grown off (count_at old c d))
    (λ p k e c d.
    let within : conn < length mid = listed (omega (arith, k, e)) in
    two (omega (arith, within, len)) c d
    ∙ ap (λ (x : PieceCount). cond ((conn == c) && same_direction lower d) (count_given off x) x) (one within c d ∙ ap (λ (x : PieceCount). cond ((conn == c) && same_direction (not lower) d) grown x) (same c d))) known is

-- No more connections are listed than were dialled.
pub bounded_of : (P : Option Plain) (old mid new : List DuplexCount) (dialled : ℕ) → IfSome P (λ p. p.dialled ≡ dialled) → IfSome P (CountsAll old) → (length old ≤ dialled → length mid ≤ dialled) → length new ≡ length mid → IfSome P (λ p. length new ≤ p.dialled)
bounded_of P old mid new dialled is all bounded len =
    if_some-both P (λ p. p.dialled ≡ dialled) (CountsAll old) (λ p. length new ≤ p.dialled) (λ p e a. let b : length mid ≤ dialled = bounded (omega (arith, e, a.0)) in omega (arith, b, e, len)) is all
