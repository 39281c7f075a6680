-- What stands next on a connection, and lists of what is due.
use Rattle.std.proofs.Common.{◌≡◌, ℕ, zero, suc, ◌<◌, Bool, true, false, List, [], ◌∷◌, ◌++◌, length, drop, slice_get, Option, Some, None, refl, sym, ◌∙◌, ap, arith}
use Rattle.std.specs.Prelude.{◌&&◌, nat_lt, nat_le, is_some, if◌then◌else◌, option_map}
use Rattle.std.proofs.lemmas.Bool.{false≢true}
use Rattle.std.proofs.lemmas.Bool.Decides.{nat_tests}
use Rattle.ack_codec.specs.declared.acks.Ack.{Ack}
use Rattle.packet_codec.specs.declared.packets.Packet.{Packet}
use Rattle.world.specs.Parts.{Message, Marks}
use Rattle.world.specs.Connections.{message, the_end, next_on}
use Rattle.world_orders.specs.Orders.{is_empty}
use Rattle.play_model.specs.declared.dues.Due.{Due}
use Rattle.play_model.specs.Dues.{when}
use Rattle.play_completeness.specs.Streams.{packets_in, acks_in}

-- MESSAGES

pub next-message : (sent : List Message) (k : Marks) (m : Message) → k.over ≡ false → k.end ≡ None → slice_get sent k.taken ≡ Some m → next_on sent k ≡ Some (message m)
next-message sent k m over end found = rw (over, end, found) refl

pub found-at : (sent : List Message) (n : ℕ) → n < length sent → (m : Message) × (slice_get sent n ≡ Some m)
found-at [] n lt = absurd (omega (arith, lt))
found-at (m ∷ sent) zero lt = (m, refl)
found-at (m ∷ sent) (suc n) lt = found-at sent n (omega (arith, lt))

-- the end stands behind all that was sent, so something stands next
pub next-ended : (sent : List Message) (k : Marks) → k.over ≡ false → k.end ≡ Some (length sent) → is_some (next_on sent k) ≡ true
next-ended sent k over end = rw (over, end) (go (nat_le (length sent) k.taken) refl)
  where
    go : (b : Bool) → nat_le (length sent) k.taken ≡ b → is_some (if b then Some the_end else option_map message (slice_get sent k.taken)) ≡ true
    go true e = refl
    go false e =
        let f = found-at sent k.taken (grind (arith, nat_tests, e)) in
        ap (λ (o : Option Message). is_some (option_map message o)) f.1

pub left-found : (ms : List Message) (n : ℕ) → (drop n ms ≡ [] → ⊥) → (m : Message) × (slice_get ms n ≡ Some m)
left-found [] zero some = absurd (some refl)
left-found [] (suc n) some = absurd (some refl)
left-found (m ∷ ms) zero some = (m, refl)
left-found (m ∷ ms) (suc n) some = left-found ms n some

pub acks-found : (ms : List Message) (n : ℕ) (a : Ack) (rest : List Ack) → acks_in (drop n ms) ≡ a ∷ rest → (m : Message) × (slice_get ms n ≡ Some m)
acks-found ms n a rest e = left-found ms n (λ none. no-cons (sym (ap acks_in none) ∙ e))
  where
    no-cons : [] ≡ a ∷ rest → ⊥
    no-cons q = cc

pub packets-found : (ms : List Message) (n : ℕ) (p : Packet) (rest : List Packet) → packets_in (drop n ms) ≡ p ∷ rest → (m : Message) × (slice_get ms n ≡ Some m)
packets-found ms n p rest e = left-found ms n (λ none. no-cons (sym (ap packets_in none) ∙ e))
  where
    no-cons : [] ≡ p ∷ rest → ⊥
    no-cons q = cc

pub some-first : (ms : List Message) → is_empty ms ≡ false → (m : Message) × (slice_get ms 0 ≡ Some m)
some-first [] e = absurd (false≢true (sym e))
some-first (m ∷ ms) e = (m, refl)

-- LISTS OF WHAT IS DUE

pub when-some : (b : Bool) (d : Due) (ds : List Due) → b ≡ true → when b d ++ ds ≡ [] → ⊥
when-some true d ds e none = cc
when-some false d ds e none = absurd (false≢true e)

pub right-none : (ds es : List Due) → ds ++ es ≡ [] → es ≡ []
right-none [] es e = e
right-none (d ∷ ds) es e = absurd (cc)

pub both : (a b : Bool) → a ≡ true → b ≡ true → (a && b) ≡ true
both true b e f = f
both false b e f = e

pub lt-so : (a b : ℕ) → a < b → nat_lt a b ≡ true
lt-so a b lt = grind (arith, nat_tests, lt)
