-- What a step makes of the traffic of its connection, and of all others.
use Rattle.std.proofs.Common.{◌≡◌, ℕ, ◌+◌, ◌≤◌, Bool, true, false, List, [], ◌∷◌, ◌++◌, length, take, drop, Option, Some, None, IfSome, refl, sym, ap, ◌∙◌, subst, arith, zero, suc, suc-add}
use Rattle.std.specs.Prelude.{◌==◌, not, cond, is_some, unwrap_or}
use Rattle.hd_base.proofs.ChannelLaws.{joined-append}
use Rattle.hd_base.specs.Lists.{joined}
use Rattle.hd_base.specs.Channels.{Channels, carry, same_direction, extended_channel, closed_channel, with_given, with_taken}
use Rattle.road_traffic.specs.Traffic.{Traffic, Traffics, before_end, on_way, channel_of, Fits, changed, one_way, more, closes_if, draws, flushes, given_up, carried_of, after_flush, after_draw}
use Rattle.std.proofs.Math.Seq.{take-length, drop-nil}
use Rattle.std.proofs.lemmas.List.{take-append-le, drop-append-le, length-append, length-take, length-take-le, length-drop}
use Rattle.std.proofs.lemmas.Bool.Decides.{nat_tests}

-- the same number
same-number : (a b : ℕ) → (a == b) ≡ true → a ≡ b
same-number a b h = grind (arith, nat_tests)

pub same-itself : (a : ℕ) → (a == a) ≡ true
same-itself a = grind (arith, nat_tests)

-- The connection that changed.
pub changed-at : (traffic : Traffics) (conn : ℕ) (f : Bool → Traffic → Traffic) (d : Bool) → changed traffic conn f conn d ≡ f d (traffic conn d)
unfolding changed
changed-at traffic conn f d = rw (same-itself conn)

-- Another one.
pub changed-other : (traffic : Traffics) (conn c : ℕ) (f : Bool → Traffic → Traffic) (d : Bool) → (conn == c) ≡ false → changed traffic conn f c d ≡ traffic c d
unfolding changed
changed-other traffic conn c f d h = rw h

-- What holds of the connection that changed, and of each other one, holds of all.
pub each-traffic : (traffic : Traffics) (conn : ℕ) (f : Bool → Traffic → Traffic) (Q : ℕ → Bool → Traffic → Type 0) → ((d : Bool) → Q conn d (f d (traffic conn d))) → ((c : ℕ) (d : Bool) → (conn == c) ≡ false → Q c d (traffic c d)) → (c : ℕ) (d : Bool) → Q c d (changed traffic conn f c d)
unfolding changed
each-traffic traffic conn f Q here there c d =
    elim (conn == c) as (λ b. (conn == c) ≡ b → Q c d (cond b (f d (traffic c d)) (traffic c d))) [
      | true ↦ λ e. subst (λ n. Q n d (f d (traffic n d))) (same-number conn c e) (here d)
      | false ↦ λ e. there c d e
    ] refl

-- ONE DIRECTION

direction-out : (sent : List (List ℕ)) (taken : ℕ) (end : Option ℕ) (over shut s : Bool) (ms pieces : List (List ℕ)) → taken ≤ length sent → IfSome end (λ n. (taken ≤ n) × (n ≤ length sent)) → (end ≡ None → (pieces ≡ ms) × (s ≡ shut)) → extended_channel (channel_of (record { sent = sent; taken = taken; end = end; over = over })) pieces s ≡ channel_of (closes_if shut (more ms (record { sent = sent; taken = taken; end = end; over = over })))
direction-out sent taken None over true s ms pieces f _ h =
    rw ((h refl).0, (h refl).1, take-length (sent ++ ms), drop-append-le taken sent ms f)
direction-out sent taken None over false s ms pieces f _ h =
    rw ((h refl).0, (h refl).1, drop-append-le taken sent ms f)
direction-out sent taken (Some n) over true s ms pieces f e h = rw (take-append-le n sent ms e.1)
direction-out sent taken (Some n) over false s ms pieces f e h = rw (take-append-le n sent ms e.1)

-- What an end flushes stands behind what stands on its outward direction, and then the end, where it was shut; behind the end nothing does.
pub channel-out : (t : Traffic) (shut s : Bool) (ms pieces : List (List ℕ)) → Fits t → (t.end ≡ None → (pieces ≡ ms) × (s ≡ shut)) → extended_channel (channel_of t) pieces s ≡ channel_of (closes_if shut (more ms t))
channel-out t shut s ms pieces f h = direction-out t.sent t.taken t.end t.over shut s ms pieces f.taken f.end h

direction-in : (sent : List (List ℕ)) (taken : ℕ) (end : Option ℕ) (over shut s : Bool) → (end ≡ None → s ≡ shut) → closed_channel (channel_of (record { sent = sent; taken = taken; end = end; over = over })) s ≡ channel_of (closes_if shut (record { sent = sent; taken = taken; end = end; over = over }))
direction-in sent taken None over true s h = rw (h refl, take-length sent)
direction-in sent taken None over false s h = rw (h refl)
direction-in sent taken (Some n) over true s h = refl
direction-in sent taken (Some n) over false s h = refl

-- Its other direction ends behind what stands there, where it was shut.
pub channel-in : (t : Traffic) (shut s : Bool) → (t.end ≡ None → s ≡ shut) → closed_channel (channel_of t) s ≡ channel_of (closes_if shut t)
channel-in t shut s h = direction-in t.sent t.taken t.end t.over shut s h

first-taken : (n : ℕ) (l : List (List ℕ)) → drop 1 (drop n l) ≡ drop (n + length (take 1 (drop n l))) l
first-taken zero [] = refl
first-taken zero (x ∷ l) = refl
first-taken (suc n) [] = sym (drop-nil {A = List ℕ} (suc n + 0))
first-taken (suc n) (x ∷ l) = first-taken n l ∙ ap (λ k. drop k (x ∷ l)) (sym (suc-add n (length (take 1 (drop n l)))))

-- A message was taken, if one stands next.
pub channel-drawn : (t : Traffic) → record { pieces = drop 1 (on_way t); ended = is_some t.end } ≡ channel_of (draws t)
channel-drawn t = ap (λ (l : List (List ℕ)). record { pieces = l; ended = is_some t.end }) (first-taken t.taken (before_end t.end t.sent))

-- FITS

ends-more : (end : Option ℕ) (taken : ℕ) (sent ms : List (List ℕ)) → IfSome end (λ n. (taken ≤ n) × (n ≤ length sent)) → IfSome end (λ n. (taken ≤ n) × (n ≤ length (sent ++ ms)))
ends-more None taken sent ms h = tt
ends-more (Some n) taken sent ms h = (h.0, omega (arith, length-append sent ms, h.1))

fits-more : (t : Traffic) (ms : List (List ℕ)) → Fits t → Fits (more ms t)
fits-more t ms f = record {
  taken = omega (arith, length-append t.sent ms, f.taken);
  end = ends-more t.end t.taken t.sent ms f.end;
}

ends-closed : (end : Option ℕ) (taken : ℕ) (sent : List (List ℕ)) → taken ≤ length sent → IfSome end (λ n. (taken ≤ n) × (n ≤ length sent)) → (taken ≤ unwrap_or end (length sent)) × (unwrap_or end (length sent) ≤ length sent)
ends-closed None taken sent f h = (f, omega arith)
ends-closed (Some n) taken sent f h = h

fits-closes : (shut : Bool) (t : Traffic) → Fits t → Fits (closes_if shut t)
fits-closes true t f = record { taken = f.taken; end = ends-closed t.end t.taken t.sent f.taken f.end }
fits-closes false t f = f

fits-one_way : (down d : Bool) (f : Traffic → Traffic) (t : Traffic) → Fits t → Fits (f t) → Fits (one_way down f d t)
fits-one_way true true f t h k = k
fits-one_way true false f t h k = h
fits-one_way false true f t h k = h
fits-one_way false false f t h k = k

-- What an end flushes.
pub fits-flushes : (lower shut d : Bool) (ms : List (List ℕ)) (t : Traffic) → Fits t → Fits (flushes lower shut ms d t)
fits-flushes lower shut d ms t f = fits-closes shut _ (fits-one_way (not lower) d (more ms) t f (fits-more t ms f))

one-more : (taken : ℕ) (l : List (List ℕ)) → taken ≤ length l → taken + length (take 1 (drop taken l)) ≤ length l
one-more taken l f = rw (length-take 1 (drop taken l), length-drop taken l) (omega arith)

drawn-fits : (taken : ℕ) (end : Option ℕ) (sent : List (List ℕ)) → taken ≤ length sent → IfSome end (λ n. (taken ≤ n) × (n ≤ length sent)) → (taken + length (take 1 (drop taken (before_end end sent))) ≤ length sent) × IfSome end (λ n. (taken + length (take 1 (drop taken (before_end end sent))) ≤ n) × (n ≤ length sent))
drawn-fits taken None sent f h = (one-more taken sent f, tt)
drawn-fits taken (Some n) sent f h =
    let size : length (take n sent) ≡ n = length-take-le n sent h.1 in
    let k : taken + length (take 1 (drop taken (take n sent))) ≤ length (take n sent) = one-more taken (take n sent) (omega arith) in
    (omega arith, (omega arith, h.1))

fits-draws : (t : Traffic) → Fits t → Fits (draws t)
fits-draws t f =
    let k : _ = drawn-fits t.taken t.end t.sent f.taken f.end in
    record { taken = k.0; end = k.1 }

-- What an end takes.
pub fits-drawn : (lower d : Bool) (t : Traffic) → Fits t → Fits (one_way lower draws d t)
fits-drawn lower d t f = fits-one_way lower d draws t f (fits-draws t f)

-- An end that is given up.
pub fits-given_up : (lower d : Bool) (ms : List (List ℕ)) (t : Traffic) → Fits t → Fits (given_up lower ms d t)
fits-given_up true true ms t f = record { taken = f.taken; end = (omega arith, f.taken) }
fits-given_up true false ms t f = fits-closes true (more ms t) (fits-more t ms f)
fits-given_up false true ms t f = fits-closes true (more ms t) (fits-more t ms f)
fits-given_up false false ms t f = record { taken = f.taken; end = (omega arith, f.taken) }

-- ALL CHANNELS

over-closes : (shut : Bool) (t : Traffic) → (closes_if shut t).over ≡ t.over
over-closes true t = refl
over-closes false t = refl

pub over-flushes : (lower shut d : Bool) (ms : List (List ℕ)) (t : Traffic) → (flushes lower shut ms d t).over ≡ t.over
over-flushes true shut true ms t = over-closes shut t
over-flushes true shut false ms t = over-closes shut (more ms t)
over-flushes false shut true ms t = over-closes shut (more ms t)
over-flushes false shut false ms t = over-closes shut t

-- the channels of the connection of an end that flushed
given-here : (channels : Channels) (traffic : Traffics) (conn : ℕ) (lower shut s d : Bool) (ms pieces : List (List ℕ)) → Fits (traffic conn d) → ((traffic conn (not lower)).end ≡ None → (pieces ≡ ms) × (s ≡ shut)) → ((traffic conn lower).end ≡ None → s ≡ shut) → channels conn d ≡ channel_of (traffic conn d) → cond (same_direction (not lower) d) (extended_channel (channels conn d) pieces s) (closed_channel (channels conn d) s) ≡ channel_of (flushes lower shut ms d (traffic conn d))
given-here channels traffic conn true shut s true ms pieces f out inw e = rw e (channel-in (traffic conn true) shut s inw)
given-here channels traffic conn true shut s false ms pieces f out inw e = rw e (channel-out (traffic conn false) shut s ms pieces f out)
given-here channels traffic conn false shut s true ms pieces f out inw e = rw e (channel-out (traffic conn true) shut s ms pieces f out)
given-here channels traffic conn false shut s false ms pieces f out inw e = rw e (channel-in (traffic conn false) shut s inw)

-- The channels after an end flushed its pieces, and perhaps its shut, show the traffic after that.
pub given-shows : (channels : Channels) (traffic : Traffics) (conn : ℕ) (lower shut s : Bool) (ms pieces : List (List ℕ)) → ((d : Bool) → Fits (traffic conn d)) → ((traffic conn (not lower)).end ≡ None → (pieces ≡ ms) × (s ≡ shut)) → ((traffic conn lower).end ≡ None → s ≡ shut) → ((c : ℕ) (d : Bool) → (traffic c d).over ≡ false → channels c d ≡ channel_of (traffic c d)) → (c : ℕ) (d : Bool) → (after_flush traffic conn lower shut ms c d).over ≡ false → with_given channels conn (not lower) pieces s c d ≡ channel_of (after_flush traffic conn lower shut ms c d)
given-shows channels traffic conn lower shut s ms pieces f out inw shows =
    each-traffic traffic conn (flushes lower shut ms) (λ c d t. t.over ≡ false → with_given channels conn (not lower) pieces s c d ≡ channel_of t)
    (λ d o. rw (same-itself conn) (given-here channels traffic conn lower shut s d ms pieces (f d) out inw (shows conn d (sym (over-flushes lower shut d ms (traffic conn d)) ∙ o))))
    (λ c d other o. rw other (shows c d o))

taken-here : (channels : Channels) (traffic : Traffics) (conn : ℕ) (lower d : Bool) → channels conn d ≡ channel_of (traffic conn d) → cond (same_direction lower d) (record { pieces = drop 1 (channels conn d).pieces; ended = (channels conn d).ended }) (channels conn d) ≡ channel_of (one_way lower draws d (traffic conn d))
taken-here channels traffic conn true true e = rw e (channel-drawn (traffic conn true))
taken-here channels traffic conn true false e = e
taken-here channels traffic conn false true e = e
taken-here channels traffic conn false false e = rw e (channel-drawn (traffic conn false))

over-draws : (lower d : Bool) (t : Traffic) → (one_way lower draws d t).over ≡ t.over
over-draws true true t = refl
over-draws true false t = refl
over-draws false true t = refl
over-draws false false t = refl

-- The channels after an end took the next piece show the traffic after that.
pub taken-shows : (channels : Channels) (traffic : Traffics) (conn : ℕ) (lower : Bool) → ((c : ℕ) (d : Bool) → (traffic c d).over ≡ false → channels c d ≡ channel_of (traffic c d)) → (c : ℕ) (d : Bool) → (after_draw traffic conn lower c d).over ≡ false → with_taken channels conn lower c d ≡ channel_of (after_draw traffic conn lower c d)
taken-shows channels traffic conn lower shows =
    each-traffic traffic conn (one_way lower draws) (λ c d t. t.over ≡ false → with_taken channels conn lower c d ≡ channel_of t)
    (λ d o. rw (same-itself conn) (taken-here channels traffic conn lower d (shows conn d (sym (over-draws lower d (traffic conn d)) ∙ o))))
    (λ c d other o. rw other (shows c d o))

-- WHAT WAS CARRIED

sent-closes : (shut : Bool) (t : Traffic) → (closes_if shut t).sent ≡ t.sent
sent-closes true t = refl
sent-closes false t = refl

carried-here : (traffic : Traffics) (conn : ℕ) (lower shut d : Bool) (ms : List (List ℕ)) → cond (same_direction (not lower) d) (joined (traffic conn d).sent ++ joined ms) (joined (traffic conn d).sent) ≡ joined (flushes lower shut ms d (traffic conn d)).sent
carried-here traffic conn true shut true ms = ap joined (sym (sent-closes shut (traffic conn true)))
carried-here traffic conn true shut false ms = sym (joined-append (traffic conn false).sent ms) ∙ ap joined (sym (sent-closes shut (more ms (traffic conn false))))
carried-here traffic conn false shut true ms = sym (joined-append (traffic conn true).sent ms) ∙ ap joined (sym (sent-closes shut (more ms (traffic conn true))))
carried-here traffic conn false shut false ms = ap joined (sym (sent-closes shut (traffic conn false)))

-- What an end flushes is carried behind what was carried, on its outward direction.
pub flushed-carried : (traffic : Traffics) (conn : ℕ) (lower shut : Bool) (ms : List (List ℕ)) (c : ℕ) (d : Bool) → carry (carried_of traffic) conn (not lower) (joined ms) c d ≡ carried_of (after_flush traffic conn lower shut ms) c d
flushed-carried traffic conn lower shut ms =
    each-traffic traffic conn (flushes lower shut ms) (λ c d t. carry (carried_of traffic) conn (not lower) (joined ms) c d ≡ joined t.sent)
    (λ d. rw (same-itself conn) (carried-here traffic conn lower shut d ms))
    (λ c d other. rw other refl)
