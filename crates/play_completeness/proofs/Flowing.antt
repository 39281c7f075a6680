-- What is awaited on a connection, as packets are sent and taken below, and acks are sent and taken above.
use Rattle.std.proofs.Common.{◌≡◌, ℕ, ℤ, zero, suc, ◌<◌, ◌+◌, Bool, true, false, List, [], ◌∷◌, ◌++◌, length, map, slice_get, Some, refl, sym, ◌∙◌, ap, subst, arith, length-append, ◌⊎◌, inl, inr}
use Rattle.std.proofs.lemmas.Bool.{false≢true}
use Rattle.std.proofs.lemmas.Option.{none-some, same_Some}
use Rattle.std.proofs.lemmas.List.{append_assoc, map-append}
use Rattle.ack_codec.specs.declared.acks.Ack.{Ack}
use Rattle.packet_codec.specs.declared.packets.Packet.{Packet}
use Rattle.replica_core.specs.declared.ack_queue.PendingPacket.{PendingPacket}
use Rattle.hd_base.specs.SumRules.{Rule}
use Rattle.world_orders.proofs.Lists.{Behind, get-append}
use Rattle.play_completeness.specs.Streams.{as_pending, LastBehind, HasLast, Flows, Reach, reach_after, IsNext, Leads}

abbrev seqno_of : PendingPacket → ℤ
seqno_of e = e.seqno

abbrev ack_seqno : Ack → ℤ
ack_seqno a = a.seqno

-- LISTS

pub one-place : {A : Type 0} (x y : A) (i : ℕ) → slice_get (x ∷ []) i ≡ Some y → (i ≡ 0) × (x ≡ y)
one-place x y zero e = (refl, same_Some x y e)
one-place x y (suc i) e = absurd (none-some y e)

pub end-found : {A : Type 0} (xs : List A) (x : A) → slice_get (xs ++ x ∷ []) (length xs) ≡ Some x
end-found [] x = refl
end-found (y ∷ xs) x = end-found xs x

pub get-within : {A : Type 0} (xs : List A) (i : ℕ) (x : A) → slice_get xs i ≡ Some x → i < length xs
get-within [] i x e = absurd (none-some x e)
get-within (y ∷ xs) zero x e = omega arith
get-within (y ∷ xs) (suc i) x e = omega (arith, get-within xs i x e)

pub get-front : {A : Type 0} (xs ys : List A) (i : ℕ) (x : A) → slice_get xs i ≡ Some x → slice_get (xs ++ ys) i ≡ Some x
get-front [] ys i x e = absurd (none-some x e)
get-front (y ∷ xs) ys zero x e = e
get-front (y ∷ xs) ys (suc i) x e = get-front xs ys i x e

pub get-behind : {A : Type 0} (xs ys : List A) (i : ℕ) (x : A) → slice_get ys i ≡ Some x → slice_get (xs ++ ys) (length xs + i) ≡ Some x
get-behind [] ys i x e = let n : 0 + i ≡ i = omega arith in subst (λ (k : ℕ). slice_get ys k ≡ Some x) (sym n) e
get-behind (y ∷ xs) ys i x e = let n : length (y ∷ xs) + i ≡ suc (length xs + i) = omega arith in subst (λ (k : ℕ). slice_get (y ∷ (xs ++ ys)) k ≡ Some x) (sym n) (get-behind xs ys i x e)

pub none-left : {A : Type 0} (xs : List A) → length xs ≡ 0 → xs ≡ []
none-left [] e = refl
none-left (x ∷ xs) e = absurd (omega (arith, e))

no-left : {A : Type 0} (xs ys : List A) → length (xs ++ ys) ≡ 0 → (xs ≡ []) × (ys ≡ [])
no-left [] ys e = (refl, none-left ys e)
no-left (x ∷ xs) ys e = absurd (omega (arith, e))

pub no-map : {A B : Type 0} (f : A → B) (xs : List A) → map f xs ≡ [] → xs ≡ []
no-map f [] e = refl
no-map f (x ∷ xs) e = absurd (cc)

-- SENDING

-- none of these is the last packet
abbrev pub NoneLast : List PendingPacket → Type 0
NoneLast xs = (i : ℕ) (e : PendingPacket) → slice_get xs i ≡ Some e → e.last ≡ false

-- one more is behind all others
behind-more : (awaited : List PendingPacket) (q : PendingPacket) → NoneLast awaited → LastBehind (awaited ++ q ∷ [])
behind-more awaited q none = record { ends = λ i e found last. go i e last (get-append awaited (q ∷ []) i e found) }
  where
    go : (i : ℕ) (e : PendingPacket) → e.last ≡ true → (slice_get awaited i ≡ Some e) ⊎ Behind awaited (q ∷ []) i e → suc i ≡ length (awaited ++ q ∷ [])
    go i e last (inl found) = absurd (false≢true (sym (none i e found) ∙ last))
    go i e last (inr b) =
        let z : b.place ≡ 0 = (one-place q e b.place b.found).0 in
        let s : i ≡ length awaited + b.place = b.is in
        let l : length (awaited ++ q ∷ []) ≡ length awaited + 1 = length-append awaited (q ∷ []) in
        omega (arith, z, s, l)

-- A packet is sent.
pub flows-send : (awaited : List PendingPacket) (acks : List Ack) (pending : List PendingPacket) (packets : List Packet) (p : Packet) → NoneLast awaited → Flows awaited acks pending packets false
    → Flows (awaited ++ as_pending p ∷ []) acks pending (packets ++ p ∷ []) false
flows-send awaited acks pending packets p none f =
    let q : PendingPacket = as_pending p in
    record {
      acked = f.acked;
      are = ap (λ (xs : List PendingPacket). xs ++ q ∷ []) f.are ∙ (append_assoc f.acked (pending ++ map as_pending packets) (q ∷ [])
          ∙ ap (λ (xs : List PendingPacket). f.acked ++ xs) (append_assoc pending (map as_pending packets) (q ∷ [])
          ∙ ap (λ (xs : List PendingPacket). pending ++ xs) (sym (map-append as_pending packets (p ∷ [])))));
      numbers = f.numbers;
      behind = behind-more awaited q none;
      over_then = f.over_then;
      over_so = f.over_so;
    }

-- The lower end takes a packet.
pub flows-take : (awaited : List PendingPacket) (acks : List Ack) (pending : List PendingPacket) (packets : List Packet) (p : Packet) (over : Bool) → Flows awaited acks pending (p ∷ packets) over
    → Flows awaited acks (pending ++ as_pending p ∷ []) packets over
flows-take awaited acks pending packets p over f = record {
  acked = f.acked;
  are = f.are ∙ ap (λ (xs : List PendingPacket). f.acked ++ xs) (sym (append_assoc pending (as_pending p ∷ []) (map as_pending packets)));
  numbers = f.numbers;
  behind = f.behind;
  over_then = f.over_then;
  over_so = f.over_so;
}

-- ACKS

last-split : (acked : List PendingPacket) (e : PendingPacket) (h : HasLast (acked ++ e ∷ [])) → HasLast acked ⊎ (e.last ≡ true)
last-split acked e h = go (get-append acked (e ∷ []) h.there.place h.packet h.there.there)
  where
    go : (slice_get acked h.there.place ≡ Some h.packet) ⊎ Behind acked (e ∷ []) h.there.place h.packet → HasLast acked ⊎ (e.last ≡ true)
    go (inl found) = inl (record { packet = h.packet; there = record { place = h.there.place; there = found }; last = h.last })
    go (inr b) = inr (ap (λ (x : PendingPacket). x.last) (one-place e h.packet b.place b.found).1 ∙ h.last)

-- The lower end acks its oldest packet; with that of the last one it is over.
pub flows-ack : (awaited : List PendingPacket) (acks : List Ack) (pending : List PendingPacket) (packets : List Packet) (e : PendingPacket) (a : Ack) → a.seqno ≡ e.seqno → Flows awaited acks (e ∷ pending) packets false
    → Flows awaited (acks ++ a ∷ []) pending packets e.last
flows-ack awaited acks pending packets e a same f = record {
  acked = f.acked ++ e ∷ [];
  are = f.are ∙ sym (append_assoc f.acked (e ∷ []) (pending ++ map as_pending packets));
  numbers = map-append seqno_of f.acked (e ∷ []) ∙ (ap (λ (xs : List ℤ). xs ++ e.seqno ∷ []) f.numbers
      ∙ (ap (λ (n : ℤ). map ack_seqno acks ++ n ∷ []) (sym same) ∙ sym (map-append ack_seqno acks (a ∷ []))));
  behind = f.behind;
  over_then = λ h. go (last-split f.acked e h);
  over_so = λ last. record { packet = e; there = record { place = length f.acked; there = end-found f.acked e }; last = last };
}
  where
    go : HasLast f.acked ⊎ (e.last ≡ true) → e.last ≡ true
    go (inl h) = absurd (false≢true (f.over_then h))
    go (inr last) = last

-- Where a lower end is over, nothing is pending or on its way down.
pub flows-over : (awaited : List PendingPacket) (acks : List Ack) (pending : List PendingPacket) (packets : List Packet) → Flows awaited acks pending packets true → (pending ≡ []) × (packets ≡ [])
flows-over awaited acks pending packets f =
    let h : HasLast f.acked = f.over_so refl in
    let i : ℕ = h.there.place in
    let low : i < length f.acked = get-within f.acked i h.packet h.there.there in
    let found : slice_get awaited i ≡ Some h.packet =
    subst (λ (xs : List PendingPacket). slice_get xs i ≡ Some h.packet) (sym f.are) (get-front f.acked (pending ++ map as_pending packets) i h.packet h.there.there) in
    let end : suc i ≡ length awaited = f.behind.ends i h.packet found h.last in
    let all : length awaited ≡ length f.acked + length (pending ++ map as_pending packets) = ap length f.are ∙ length-append f.acked (pending ++ map as_pending packets) in
    let none : length (pending ++ map as_pending packets) ≡ 0 = omega (arith, low, end, all) in
    let both = no-left pending (map as_pending packets) none in
    (both.0, no-map as_pending packets both.1)

-- The upper end takes an ack: of the oldest packet that it awaits. Once it is that of the last one, nothing more is
-- awaited.
pub record Heard (awaited : List PendingPacket) (a : Ack) (acks : List Ack) (pending : List PendingPacket) (packets : List Packet) (over : Bool) : Type 0 where
  pub first : PendingPacket
  pub rest : List PendingPacket
  pub are : awaited ≡ first ∷ rest
  pub number : first.seqno ≡ a.seqno
  pub goes : first.last ≡ false → Flows rest acks pending packets over
  pub ends : first.last ≡ true → (over ≡ true) × (rest ≡ [])

cons-heads : (x y : ℤ) (xs ys : List ℤ) → x ∷ xs ≡ y ∷ ys → (x ≡ y) × (xs ≡ ys)
cons-heads x y xs ys e = (cc, cc)

heard-as : (acked awaited : List PendingPacket) (a : Ack) (acks : List Ack) (pending : List PendingPacket) (packets : List Packet) (over : Bool) → awaited ≡ acked ++ (pending ++ map as_pending packets) → map seqno_of acked ≡ a.seqno ∷ map ack_seqno acks
    → LastBehind awaited → (HasLast acked → over ≡ true) → (over ≡ true → HasLast acked) → Heard awaited a acks pending packets over
heard-as [] awaited a acks pending packets over are numbers behind over_then over_so = absurd (cc)
heard-as (e ∷ acked) awaited a acks pending packets over are numbers behind over_then over_so =
    let left : List PendingPacket = acked ++ (pending ++ map as_pending packets) in
    let heads = cons-heads e.seqno a.seqno (map seqno_of acked) (map ack_seqno acks) numbers in
    record {
      first = e;
      rest = left;
      are = are;
      number = heads.0;
      goes = λ last. record {
        acked = acked;
        are = refl;
        numbers = heads.1;
        behind = record {
          ends = λ i x found is.
              let at : slice_get awaited (suc i) ≡ Some x = subst (λ (xs : List PendingPacket). slice_get xs (suc i) ≡ Some x) (sym are) found in
              let end : suc (suc i) ≡ length awaited = behind.ends (suc i) x at is in
              let all : length awaited ≡ suc (length left) = ap length are in
              omega (arith, end, all);
        };
        over_then = λ h. over_then (record { packet = h.packet; there = record { place = suc h.there.place; there = h.there.there }; last = h.last });
        over_so = λ o. later last (over_so o);
      };
      ends = λ last.
          let first_at : slice_get awaited 0 ≡ Some e = subst (λ (xs : List PendingPacket). slice_get xs 0 ≡ Some e) (sym are) refl in
          let end : suc 0 ≡ length awaited = behind.ends 0 e first_at last in
          let all : length awaited ≡ suc (length left) = ap length are in
          (over_then (record { packet = e; there = record { place = 0; there = refl }; last = last }), none-left left (omega (arith, end, all)));
    }
  where
    later : e.last ≡ false → HasLast (e ∷ acked) → HasLast acked
    later not h = go h.there.place h.there.there
      where
        go : (i : ℕ) → slice_get (e ∷ acked) i ≡ Some h.packet → HasLast acked
        go zero found = absurd (false≢true (sym not ∙ (ap (λ (x : PendingPacket). x.last) (same_Some e h.packet found) ∙ h.last)))
        go (suc i) found = record { packet = h.packet; there = record { place = i; there = found }; last = h.last }

pub flows-heard : (awaited : List PendingPacket) (a : Ack) (acks : List Ack) (pending : List PendingPacket) (packets : List Packet) (over : Bool) → Flows awaited (a ∷ acks) pending packets over → Heard awaited a acks pending packets over
flows-heard awaited a acks pending packets over f = heard-as f.acked awaited a acks pending packets over f.are f.numbers f.behind f.over_then f.over_so

-- PACKETS ON THEIR WAY

-- One more that is the next one where they lead.
pub leads-more : (rule : Rule) (r s : Reach) (packets : List Packet) (p : Packet) → Leads rule r packets s → IsNext rule s p → Leads rule r (packets ++ p ∷ []) (reach_after s p)
leads-more rule r s [] p e n = (subst (λ (x : Reach). IsNext rule x p) (sym e) n, ap (λ (x : Reach). reach_after x p) e)
leads-more rule r s (q ∷ packets) p l n = (l.0, leads-more rule (reach_after r q) s packets p l.1 n)

-- nothing follows the last packet
pub leads-over : (rule : Rule) (r s : Reach) (packets : List Packet) → r.over ≡ true → Leads rule r packets s → packets ≡ []
leads-over rule r s [] over l = refl
leads-over rule r s (p ∷ packets) over l = absurd (false≢true (sym l.0.before_last ∙ over))

-- nothing is awaited or on its way before anything was sent
pub flows-none : Flows [] [] [] [] false
flows-none = record {
  acked = [];
  are = refl;
  numbers = refl;
  behind = record { ends = λ i e found. absurd (none-some e found) };
  over_then = λ h. absurd (none-some h.packet h.there.there);
  over_so = λ e. absurd (false≢true e);
}

-- Where something is awaited, an ack is on its way up, or something is pending below, or on its way down.
pub data Somewhere (acks : List Ack) (pending : List PendingPacket) (packets : List Packet) : Type 0 where
  acked : (a : Ack) (rest : List Ack) → acks ≡ a ∷ rest → Somewhere acks pending packets
  pends : (e : PendingPacket) (rest : List PendingPacket) → pending ≡ e ∷ rest → Somewhere acks pending packets
  goes_down : (p : Packet) (rest : List Packet) → pending ≡ [] → packets ≡ p ∷ rest → Somewhere acks pending packets

somewhere-as : (acked : List PendingPacket) (acks : List Ack) (pending : List PendingPacket) (packets : List Packet) → map seqno_of acked ≡ map ack_seqno acks → (acked ++ (pending ++ map as_pending packets) ≡ [] → ⊥) → Somewhere acks pending packets
somewhere-as (e ∷ xs) [] pending packets n some = absurd (cc)
somewhere-as (e ∷ xs) (a ∷ acks) pending packets n some = acked a acks refl
somewhere-as [] acks (e ∷ pending) packets n some = pends e pending refl
somewhere-as [] acks [] (p ∷ packets) n some = goes_down p packets refl refl
somewhere-as [] acks [] [] n some = absurd (some refl)

pub somewhere : (awaited : List PendingPacket) (acks : List Ack) (pending : List PendingPacket) (packets : List Packet) (over : Bool) → Flows awaited acks pending packets over → (awaited ≡ [] → ⊥) → Somewhere acks pending packets
somewhere awaited acks pending packets over f some = somewhere-as f.acked acks pending packets f.numbers (λ e. some (f.are ∙ e))

-- What is pending isn't the last packet where more is on its way.
pub flows-none-last : (awaited : List PendingPacket) (acks : List Ack) (pending : List PendingPacket) (p : Packet) (packets : List Packet) (over : Bool) → Flows awaited acks pending (p ∷ packets) over → NoneLast pending
flows-none-last awaited acks pending p packets over f i e found = go e.last refl
  where
    go : (b : Bool) → e.last ≡ b → e.last ≡ false
    go false is = is
    go true is =
        let more : List PendingPacket = map as_pending (p ∷ packets) in
        let low : i < length pending = get-within pending i e found in
        let here : slice_get (pending ++ more) i ≡ Some e = get-front pending more i e found in
        let at : slice_get awaited (length f.acked + i) ≡ Some e = subst (λ (xs : List PendingPacket). slice_get xs (length f.acked + i) ≡ Some e) (sym f.are) (get-behind f.acked (pending ++ more) i e here) in
        let end : suc (length f.acked + i) ≡ length awaited = f.behind.ends (length f.acked + i) e at is in
        let all : length awaited ≡ length f.acked + length (pending ++ more) = ap length f.are ∙ length-append f.acked (pending ++ more) in
        let part : length (pending ++ more) ≡ length pending + length more = length-append pending more in
        let some : length more ≡ suc (length (map as_pending packets)) = refl in
        absurd (omega (arith, low, end, all, part, some))
