-- Laws of connections: what a write to one changes of the channels.
use Rattle.std.proofs.Common.{◌≡◌, ◌==◌, ◌&&◌, ℕ, ◌<◌, ◌≤◌, Bool, true, false, cond, List, [], ◌∷◌, ◌++◌, length, get_or, set, zero, suc, arith, refl, sym, ap, ◌∙◌}
use Rattle.std.proofs.lemmas.Bool.Decides.{nat_tests}
use Rattle.hd_base.specs.Channels.{Channel, empty_channel, extended_channel, closed_channel, same_direction, with_given, with_taken}
use Rattle.mem_ports.specs.declared.duplexes.DuplexChannel.{DuplexChannel}
use Rattle.mem_ports.specs.Duplexes.{channel_at, channels_of, first_taken}

-- What stands on a connection.
pub channels-at : (ws : List DuplexChannel) (i : ℕ) (x : DuplexChannel) (d : Bool) → i < length ws → x ≡ get_or ws i x → channels_of ws i d ≡ channel_at x d
channels-at [] i x d within is = absurd (omega (arith, within))
channels-at (w ∷ ws) zero x d within is = ap (λ l. channel_at l d) (sym is)
channels-at (w ∷ ws) (suc i) x d within is = channels-at ws i x d (omega (arith, within)) is

-- Nothing stands past the last connection.
pub channels-past : (ws : List DuplexChannel) (i : ℕ) (d : Bool) → length ws ≤ i → channels_of ws i d ≡ empty_channel
channels-past [] i d past = refl
channels-past (w ∷ ws) zero d past = absurd (omega (arith, past))
channels-past (w ∷ ws) (suc i) d past = channels-past ws i d (omega (arith, past))

channels_push : (ws : List DuplexChannel) (new : DuplexChannel) (c : ℕ) (d : Bool) → ((e : Bool) → channel_at new e ≡ empty_channel) → channels_of (ws ++ new ∷ []) c d ≡ channels_of ws c d
channels_push [] new zero d empty = empty d
channels_push [] new (suc c) d empty = refl
channels_push (w ∷ ws) new zero d empty = refl
channels_push (w ∷ ws) new (suc c) d empty = channels_push ws new c d empty

-- An empty connection behind all others changes nothing.
pub channels-push : (ws : List DuplexChannel) (new : DuplexChannel) → ((e : Bool) → channel_at new e ≡ empty_channel) → channels_of (ws ++ new ∷ []) ≡ channels_of ws
channels-push ws new empty = λ j c d. channels_push ws new c d empty j

channels_set : (ws : List DuplexChannel) (i : ℕ) (new : DuplexChannel) (f : Bool → Channel → Channel) (c : ℕ) (d : Bool) → i < length ws → ((e : Bool) → channel_at new e ≡ f e (channels_of ws i e)) → channels_of (set ws i new) c d ≡ cond (i == c) (f d (channels_of ws c d)) (channels_of ws c d)
channels_set [] i new f c d within is = absurd (omega (arith, within))
channels_set (w ∷ ws) zero new f zero d within is = is d
channels_set (w ∷ ws) zero new f (suc c) d within is = let apart : (0 == suc c) ≡ false = grind (arith, nat_tests) in rw apart refl
channels_set (w ∷ ws) (suc i) new f zero d within is = let apart : (suc i == 0) ≡ false = grind (arith, nat_tests) in rw apart refl
channels_set (w ∷ ws) (suc i) new f (suc c) d within is =
    let same : (suc i == suc c) ≡ (i == c) = grind (arith, nat_tests) in
    rw same (channels_set ws i new f c d (omega (arith, within)) is)

-- A write to one connection.
pub channels-set : (ws : List DuplexChannel) (i : ℕ) (old new : DuplexChannel) (f : Bool → Channel → Channel) → i < length ws → old ≡ get_or ws i old → ((e : Bool) → channel_at new e ≡ f e (channel_at old e)) → channels_of (set ws i new) ≡ (λ c d. cond (i == c) (f d (channels_of ws c d)) (channels_of ws c d))
channels-set ws i old new f within is is_shown = λ j c d. channels_set ws i new f c d within (λ e. is_shown e ∙ ap (f e) (sym (channels-at ws i old e within is))) j

cond_same : {V : Type 0} (b : Bool) (v : V) → cond b v v ≡ v
cond_same true v = refl
cond_same false v = refl

-- A write that leaves what stands on it.
pub channels-kept : (ws : List DuplexChannel) (i : ℕ) (old new : DuplexChannel) → i < length ws → old ≡ get_or ws i old → ((e : Bool) → channel_at new e ≡ channel_at old e) → channels_of (set ws i new) ≡ channels_of ws
channels-kept ws i old new within is same = channels-set ws i old new (λ d channel. channel) within is same ∙ (λ j c d. cond_same (i == c) (channels_of ws c d) j)

-- An end gave its pieces, and perhaps its shut.
pub channels-given : (ws : List DuplexChannel) (i : ℕ) (old new : DuplexChannel) (down : Bool) (pieces : List (List ℕ)) (shut : Bool) → i < length ws → old ≡ get_or ws i old → ((e : Bool) → channel_at new e ≡ cond (same_direction down e) (extended_channel (channel_at old e) pieces shut) (closed_channel (channel_at old e) shut)) → channels_of (set ws i new) ≡ with_given (channels_of ws) i down pieces shut
channels-given ws i old new down pieces shut within is is_shown = channels-set ws i old new (λ d channel. cond (same_direction down d) (extended_channel channel pieces shut) (closed_channel channel shut)) within is is_shown

both_tests : {V : Type 0} (a b : Bool) (v w : V) → cond a (cond b v w) w ≡ cond (a && b) v w
both_tests true b v w = refl
both_tests false b v w = refl

-- An end took the next piece, or not.
pub channels-fed : (ws : List DuplexChannel) (i : ℕ) (old new : DuplexChannel) (lower hungry : Bool) → i < length ws → old ≡ get_or ws i old → ((e : Bool) → channel_at new e ≡ cond hungry (cond (same_direction lower e) (first_taken (channel_at old e)) (channel_at old e)) (channel_at old e)) → channels_of (set ws i new) ≡ cond hungry (with_taken (channels_of ws) i lower) (channels_of ws)
channels-fed ws i old new lower true within is is_shown =
    channels-set ws i old new (λ d channel. cond (same_direction lower d) (first_taken channel) channel) within is is_shown ∙ (λ j c d. both_tests (i == c) (same_direction lower d) (first_taken (channels_of ws c d)) (channels_of ws c d) j)
channels-fed ws i old new lower false within is is_shown = channels-kept ws i old new within is is_shown
