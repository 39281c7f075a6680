-- An end that holds one message, or the end, gives just that.
use Rattle.std.proofs.Common.{◌≡◌, ◌+◌, ℕ, Bool, true, false, List, [], ◌∷◌, ◌++◌, length, Option, Some, None, Result, Ok, refl, sym, ap, ◌∙◌, subst, arith}
use Rattle.std.proofs.lemmas.List.{append-nil, length-append}
use Rattle.hd_base.specs.Links.{Inbox, in_front}
use Rattle.hd_base.specs.declared.links.LinkIn as link_in
use Rattle.pipe_member.specs.FrameFeed.Kinds.{Kind, IsSound}
use Rattle.pipe_member.specs.LinkMessages.Next.{Next}
use Rattle.pipe_member.specs.LinkMessages.Next.TheVariants as came
use Rattle.pipe_member.specs.LinkMessages.Incomings.{IncomingState, nothing_received, coming, GivesOne, Comes, Finds, FindsNone, NextEnds}
use Rattle.pipe_member.specs.declared.stages.Looked.TheVariants as looked
use Rattle.pipe_member.specs.Looks.{looked_of}

-- these bytes are held, and no end
abbrev pub text_inbox : List ℕ → Inbox
text_inbox text = record { bytes = text; ended = false }

some_none : (a : Inbox) → Some a ≡ None → ⊥
some_none a h = cc

none_some : (a : Inbox) → None ≡ Some a → ⊥
none_some a h = cc

nil_of : {A : Type 0} (xs : List A) → length xs ≡ 0 → xs ≡ []
nil_of [] h = refl
nil_of (x ∷ xs) h = absurd (omega arith)

both_nil : {A : Type 0} (xs ys : List A) → xs ++ ys ≡ [] → (xs ≡ []) × (ys ≡ [])
both_nil [] ys h = (refl, h)
both_nil (x ∷ xs) ys h = cc

sizes : {M E : Type 0} (r : Result (M × ℕ) E) (m : M) (a b : ℕ) → r ≡ Ok (m, a) → r ≡ Ok (m, b) → a ≡ b
sizes {M} {E} r m a b p q = let pair : (m, a) ≡ (m, b) = cc in ap (λ (x : M × ℕ). x.1) pair

-- one message alone stands in the bytes that spell it
spelled_once : {M : Type 0} (kind : Kind M) → IsSound kind → (m : M) (text front rest : List ℕ) → kind.spells m text → kind.spells m front → text ≡ front ++ rest → rest ≡ []
spelled_once kind sound m text front rest s t e =
    let one : kind.reads text ≡ Ok (m, length text) = ap kind.reads (sym (append-nil text)) ∙ sound.only m text [] s in
    let two : kind.reads text ≡ Ok (m, length front) = ap kind.reads e ∙ sound.only m front rest t in
    let size : length text ≡ length front = sizes (kind.reads text) m (length text) (length front) one two in
    let parts : length text ≡ length front + length rest = ap length e ∙ length-append front rest in
    nil_of rest (omega arith)

-- What an end has given that held one message: nothing is left.
pub record MessageCame {M I : Type 0} (i : link_in.Ghosts I) (m : M) (new : IncomingState) (half' : I) (r : Next M) : Type 0 where
  pub is : r ≡ came.Message m
  pub received : new ≡ nothing_received
  pub holds : i.held half' ≡ Some (record { bytes = []; ended = false })

-- What an end has given that held the end.
pub record EndCame {M I : Type 0} (i : link_in.Ghosts I) (half' : I) (r : Next M) : Type 0 where
  pub is : r ≡ came.End
  pub holds : i.held half' ≡ Some (record { bytes = []; ended = true })

-- nothing is left in front of what is held
record NoneLeft (new : IncomingState) (ended : Bool) (held : Option Inbox) : Type 0 where
  rest : new.rest ≡ []
  unpushed : new.unpushed ≡ []
  holds : held ≡ Some (record { bytes = []; ended = ended })

inside : (a b : Inbox) → Some a ≡ Some b → a ≡ b
inside a b h = cc

left_none : (new : IncomingState) (ended : Bool) (h : Inbox) → (new.rest ++ new.unpushed) ++ h.bytes ≡ [] → h.ended ≡ ended → NoneLeft new ended (Some h)
left_none new ended h none over =
    let a = both_nil (new.rest ++ new.unpushed) h.bytes none in
    let b = both_nil new.rest new.unpushed a.0 in
    record { rest = b.0; unpushed = b.1; holds = λ j. Some (record { bytes = a.1 j; ended = over j }) }

given_none : {M : Type 0} (kind : Kind M) → IsSound kind → (m : M) (text : List ℕ) (new : IncomingState) (held : Option Inbox) → kind.spells m text
    → GivesOne kind m nothing_received new (Some (record { bytes = text; ended = false })) held → NoneLeft new false held
given_none kind sound m text new None s g = absurd (some_none (text_inbox text) g.front)
given_none kind sound m text new (Some h) s g =
    let e : text_inbox text ≡ in_front g.text (in_front (new.rest ++ new.unpushed) h) = inside (text_inbox text) (in_front g.text (in_front (new.rest ++ new.unpushed) h)) g.front in
    left_none new false h (spelled_once kind sound m text g.text ((new.rest ++ new.unpushed) ++ h.bytes) s g.spelled (ap (λ (x : Inbox). x.bytes) e)) (sym (ap (λ (x : Inbox). x.ended) e))

over_none : (new : IncomingState) (held : Option Inbox) → coming new held ≡ coming nothing_received (Some (record { bytes = []; ended = true })) → NoneLeft new true held
over_none new None e = absurd (none_some (record { bytes = []; ended = true }) e)
over_none new (Some h) e =
    let k = inside (in_front (new.rest ++ new.unpushed) h) (record { bytes = []; ended = true }) e in
    left_none new true h (ap (λ (x : Inbox). x.bytes) k) (ap (λ (x : Inbox). x.ended) k)

module _ {M I : Type 0} (kind : Kind M) (i : link_in.Ghosts I) where
  came_as : (m : M) (r : Next M) → Finds m r → looked_of r ≡ looked.Known → r ≡ came.Message m
  came_as m (came.Message n) h k = ap came.Message h
  came_as m came.Unreadable h k = absurd h
  came_as m came.End h k = absurd h
  came_as m came.NotYet h k = absurd h
  came_as m came.Failed h k = cc
  came_as m came.Memory h k = cc

  end_as : (r : Next M) → FindsNone true r → looked_of r ≡ looked.Known → r ≡ came.End
  end_as (came.Message n) h k = absurd h
  end_as came.Unreadable h k = absurd h
  end_as came.End h k = refl
  end_as came.NotYet h k = absurd h
  end_as came.Failed h k = cc
  end_as came.Memory h k = cc

  -- a state that has received nothing, with what is told of it
  from_nothing : (new : IncomingState) → new.rest ≡ [] → new.unpushed ≡ [] → new.refused ≡ None → new ≡ nothing_received
  from_nothing new a b c = λ j. record { rest = a j; unpushed = b j; refused = c j }

  pub message_came : IsSound kind → (m : M) (text : List ℕ) (new : IncomingState) (half half' : I) (r : Next M) → kind.spells m text → i.held half ≡ Some (record { bytes = text; ended = false })
      → NextEnds kind i nothing_received new half half' r → looked_of r ≡ looked.Known → MessageCame i m new half' r
  message_came sound m text new half half' r s held ends known =
      let there : coming nothing_received (i.held half) ≡ Some (record { bytes = text ++ []; ended = false }) = ap (coming nothing_received) held ∙ ap (λ (b : List ℕ). Some (text_inbox b)) (sym (append-nil text)) in
      let is = came_as m r (ends.finds refl m text [] false s there) known in
      let g : GivesOne kind m nothing_received new (i.held half) (i.held half') = subst (λ (x : Next M). Comes kind i nothing_received new half half' x) is ends.comes in
      let n = given_none kind sound m text new (i.held half') s (subst (λ (x : Option Inbox). GivesOne kind m nothing_received new x (i.held half')) held g) in
      record { is = is; received = from_nothing new n.rest n.unpushed g.reads_on; holds = n.holds }

  pub end_came : (new : IncomingState) (half half' : I) (r : Next M) → i.held half ≡ Some (record { bytes = []; ended = true })
      → NextEnds kind i nothing_received new half half' r → looked_of r ≡ looked.Known → EndCame i half' r
  end_came new half half' r held ends known =
      let is = end_as r (ends.none refl true (ap (coming nothing_received) held)) known in
      let c = subst (λ (x : Next M). Comes kind i nothing_received new half half' x) is ends.comes in
      record { is = is; holds = (over_none new (i.held half') (c.1 ∙ ap (coming nothing_received) held)).holds }
