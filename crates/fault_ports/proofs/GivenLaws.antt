-- Laws of what an inward half holds after an exchange on roads whose connections were cut.
use Rattle.std.proofs.Common.{◌≡◌, ◌≢◌, ◌==◌, ◌&&◌, ◌||◌, ◌⊎◌, ℕ, zero, suc, not, Bool, true, false, List, [], ◌∷◌, length, take, Option, Some, None, option_map, IfSome, IsSome, refl, sym, ap, subst, ◌∙◌, arith, inl, inr, eq-eqb}
use Rattle.std.proofs.lemmas.Bool.Decides.{nat_tests}
use Rattle.hd_base.specs.Links.{Inbox}
use Rattle.hd_base.specs.Channels.{Channel, Channels, Plain, closed_channel, with_given, with_flushed, standing_of, next_standing, next_inbox, is_hungry, unflushed, filled}
use Rattle.hd_base.specs.declared.ends.Standing.TheVariants as standing
use Rattle.fault_ports.specs.declared.piece_counts.PieceCount.{PieceCount}
use Rattle.fault_ports.specs.declared.piece_counts.DuplexCount.{DuplexCount}
use Rattle.fault_ports.specs.PieceCounts.{count_at}
use Rattle.fault_ports.specs.Halves.{behind, inbox_behind}
use Rattle.fault_ports.specs.declared.offers.Offer.{Offer}
use Rattle.fault_ports.specs.declared.offers.Offer.TheVariants as offer
use Rattle.fault_ports.specs.Offers.{passes, is_end, OffersNext}
use Rattle.fault_ports.specs.Cuts.{limited, seen_channels, seen_plain}
use Rattle.fault_ports.proofs.CutLaws.{channel_with, none_stands, cut_to_none}
use Rattle.fault_ports.proofs.EndLaws.{Happens, or_false, plain_inbox}

next_cut : (k : ℕ) (pieces : List (List ℕ)) (ended shut : Bool) → next_standing pieces ended ≡ standing.Piece → k ≢ 0 → next_inbox pieces (ended || shut) ≡ next_inbox (take k pieces) true
next_cut zero pieces ended shut is more = absurd (more refl)
next_cut (suc k) [] true shut is more = absurd (cc)
next_cut (suc k) [] false shut is more = absurd (cc)
next_cut (suc k) (x ∷ xs) ended shut is more = refl

next_limited : (left : Option ℕ) (ch : Channel) (shut : Bool) → standing_of ch ≡ standing.Piece → left ≢ Some 0 → next_inbox ch.pieces (ch.ended || shut) ≡ next_inbox (limited left ch).pieces ((limited left ch).ended || shut)
next_limited None ch shut is more = refl
next_limited (Some k) ch shut is more = next_cut k ch.pieces ch.ended shut is (λ z. more (ap Some z))

filled_hungry : (inbox : Inbox) (ch : Channel) → is_hungry inbox ≡ true → filled inbox ch ≡ next_inbox ch.pieces ch.ended
filled_hungry inbox ch hungry = rw hungry refl

-- an inbox with these parts
abbrev inbox_with : List ℕ → Bool → Inbox
inbox_with bytes ended = record { bytes = bytes; ended = ended }

end_at : (bytes : List ℕ) (empty ended held : Bool) → (length bytes == 0) ≡ empty → (empty ≡ true → bytes ≡ []) → inbox_with bytes (held || ((ended || true) && empty)) ≡ filled (inbox_with bytes (held || (ended && empty))) (channel_with [] true)
end_at bytes true true true is none = rw is refl
end_at bytes true true false is none = rw is refl
end_at bytes true false true is none = rw is refl
end_at bytes true false false is none = rw (is, none refl) refl
end_at bytes false true held is none = rw is refl
end_at bytes false false held is none = rw is refl

no_bytes : (bytes : List ℕ) → (length bytes == 0) ≡ true → bytes ≡ []
no_bytes [] is = refl
no_bytes (x ∷ xs) is = absurd (let e : (length (x ∷ xs) == 0) ≡ false = grind (arith, nat_tests) in cc)

end_given : (first : Option ℕ) (ended : Bool) (inbox : Inbox) → inbox_behind first (ended || true) inbox ≡ filled (inbox_behind first ended inbox) (channel_with [] true)
end_given first ended inbox = end_at (behind first inbox.bytes) (length (behind first inbox.bytes) == 0) ended inbox.ended refl (no_bytes (behind first inbox.bytes))

cut_closed : (left : Option ℕ) (ch : Channel) (shut : Bool) → IsSome left → (left ≡ Some 0) ⊎ (standing_of ch ≢ standing.Piece) → closed_channel (limited left ch) shut ≡ channel_with [] true
cut_closed None ch shut some none = absurd (cc)
cut_closed (Some k) ch shut some none =
    let e : ((Some k ≡ Some 0) ⊎ (standing_of ch ≢ standing.Piece)) → ((Some k ≡ Some 0) ⊎ (ch.pieces ≡ [])) = elim [ inl z ↦ inl z | inr s ↦ inr (none_stands ch.pieces ch.ended s) ] in
    ap (λ (ps : List (List ℕ)). channel_with ps true) (cut_to_none (Some k) ch.pieces ch.ended some (e none))

-- What a half holds that was given what was offered.
held_given : (off : Offer) (inbox : Inbox) (now : Option Inbox) (first : Option ℕ) (ended : Bool) (left : Option ℕ) (ch : Channel) (shut : Bool) → OffersNext off true (is_hungry (inbox_behind first ended inbox)) (standing_of ch) left
    → (passes off ≡ true → (first ≡ None) × (ended ≡ false)) → (passes off ≡ true → now ≡ Some (filled inbox (closed_channel ch shut))) → (passes off ≡ false → now ≡ Some inbox)
    → option_map (inbox_behind first (ended || is_end off)) now ≡ Some (filled (inbox_behind first ended inbox) (closed_channel (limited left ch) shut))
held_given offer.Nothing inbox now first ended left ch shut is bare taken kept = rw (kept refl, or_false ended, is) refl
held_given offer.Rest inbox now first ended left ch shut is bare taken kept =
    let b = bare refl in rw (taken refl, b.0, b.1, is.1) (ap Some (plain_inbox (filled inbox (closed_channel ch shut)) ∙ ap (λ (x : Inbox). filled x (closed_channel ch shut)) (sym (plain_inbox inbox))))
held_given offer.Piece inbox now first ended left ch shut is bare taken kept =
    let b = bare refl in
    let hungry : is_hungry (inbox_behind None false inbox) ≡ true = sym (ap is_hungry (ap (λ (f : Option ℕ). inbox_behind f ended inbox) b.0 ∙ ap (λ (e : Bool). inbox_behind None e inbox) b.1)) ∙ is.1 in
    let plainly : is_hungry inbox ≡ true = sym (ap is_hungry (plain_inbox inbox)) ∙ hungry in
    rw (taken refl, b.0, b.1) (ap Some (
    plain_inbox (filled inbox (closed_channel ch shut)) ∙ filled_hungry inbox (closed_channel ch shut) plainly ∙ next_limited left ch shut is.3 is.2
    ∙ sym (filled_hungry (inbox_behind None false inbox) (closed_channel (limited left ch) shut) hungry)))
held_given offer.End inbox now first ended left ch shut is bare taken kept =
    rw (kept refl) (ap Some (end_given first ended inbox ∙ ap (filled (inbox_behind first ended inbox)) (sym (cut_closed left ch shut is.1 is.2))))

flushed_there : (channels : Channels) (conn : ℕ) (lower : Bool) (m : List (List ℕ)) (shut : Bool) → with_given channels conn (not lower) m shut conn lower ≡ closed_channel (channels conn lower) shut
flushed_there channels conn true m shut = let e : (conn == conn) ≡ true = eq-eqb conn conn refl in rw e refl
flushed_there channels conn false m shut = let e : (conn == conn) ≡ true = eq-eqb conn conn refl in rw e refl

module _ (P' : Option Plain) (old new : List DuplexCount) (first : Option ℕ) (ended : Bool) (fl lo n conn : ℕ) (shut lower takes : Bool) (off : Offer) (grown : PieceCount) where
  -- What an end's inward half holds after an exchange that takes.
  pub taken-after : (P : Option Plain) (S : Option (List (List ℕ))) (H now : Option Inbox) → Happens P P' old new S H first ended fl lo n conn shut lower takes off grown
      → IfSome P (λ p. IfSome S (λ sent. IfSome H (λ inbox. passes off ≡ true → now ≡ Some (filled inbox ((with_flushed p conn lower (unflushed sent fl lo) shut).channels conn lower)))))
      → (passes off ≡ false → now ≡ H)
      → IfSome (option_map (seen_plain old) P) (λ p. IfSome S (λ sent. IfSome (option_map (inbox_behind first ended) H) (λ inbox. takes ≡ true → option_map (inbox_behind first (ended || is_end off)) now ≡ Some (filled inbox ((with_flushed p conn lower (unflushed sent fl lo) shut).channels conn lower)))))
  taken-after None S H now h taken kept = h.known
  taken-after (Some p) None H now h taken kept = h.sends
  taken-after (Some p) (Some sent) None now h taken kept = h.offers
  taken-after (Some p) (Some sent) (Some inbox) now h taken kept = λ yes.
      let O : Bool → Type 0 = λ b. OffersNext off b (is_hungry (inbox_behind first ended inbox)) (standing_of (p.channels conn lower)) (count_at old conn lower).left in
      held_given off inbox now first ended (count_at old conn lower).left (p.channels conn lower) shut (subst O yes h.offers) h.bare
      (λ t. taken t ∙ ap (λ (ch : Channel). Some (filled inbox ch)) (flushed_there p.channels conn lower (unflushed sent fl lo) shut)) kept
      ∙ ap (λ (ch : Channel). Some (filled (inbox_behind first ended inbox) ch)) (sym (flushed_there (seen_channels old p.channels) conn lower (unflushed sent fl lo) shut))
