-- What comes next, by what the feed gives and what the link gives.
use Rattle.std.proofs.Common.{◌≡◌, ℕ, ◌≤◌, Bool, true, false, List, [], ◌∷◌, ◌++◌, Option, Some, None, option_map, inl, inr, refl, sym, ap, ◌∙◌, subst, append_assoc, append-nil, arith}
use Rattle.hd_base.specs.Links.{Inbox, in_front, IsEmptyInbox}
use Rattle.hd_base.specs.declared.links.LinkIn as link_in
use Rattle.frame_feed.specs.Framings.{IsCut}
use Rattle.frame_feed.specs.Kinds.{Kind, IsSound}
use Rattle.link_messages.specs.declared.incoming.Next.{Next}
use Rattle.link_messages.specs.declared.incoming.Next.TheVariants as next
use Rattle.link_messages.specs.declared.incoming.Received.TheVariants as received
use Rattle.link_messages.specs.Incomings.{IncomingState, pushed, coming, Comes, Finds, FindsNone, NextEnds, AsksFor, AsksMore, AsksEnds, ReceiveEnds}
use Rattle.link_messages.proofs.StreamLemmas.{in_front_twice, fronts, inside, beyond}

-- ---- what is to be taken

pub coming_pushed : (s : IncomingState) (held : Option Inbox) → coming (pushed s) held ≡ coming s held
coming_pushed s held = ap (λ (l : List ℕ). option_map (in_front l) held) (append-nil (s.rest ++ s.unpushed))

-- what the link holds where this much is to be taken
record Holds (a b : List ℕ) (ended : Bool) (held : Option Inbox) : Type 0 where
  inbox : Inbox
  is : held ≡ Some inbox
  parts : a ++ inbox.bytes ≡ b
  end : inbox.ended ≡ ended

some_inbox : (x y : Inbox) → Some x ≡ Some y → x ≡ y
some_inbox x y is = cc

holds : (a b : List ℕ) (ended : Bool) (held : Option Inbox) → option_map (in_front a) held ≡ Some (record { bytes = b; ended = ended }) → Holds a b ended held
holds a b ended None is = cc
holds a b ended (Some x) is =
    let same = some_inbox (in_front a x) (record { bytes = b; ended = ended }) is in
    record { inbox = x; is = refl; parts = ap Inbox.bytes same; end = ap Inbox.ended same }

-- all that was received has reached the feed
fed_rest : (s : IncomingState) → s.unpushed ≡ [] → s.rest ++ s.unpushed ≡ s.rest
fed_rest s is = ap (λ (l : List ℕ). s.rest ++ l) is ∙ append-nil s.rest

coming_fed : (s : IncomingState) (held : Option Inbox) → s.unpushed ≡ [] → coming s held ≡ option_map (in_front s.rest) held
coming_fed s held is = ap (λ (l : List ℕ). option_map (in_front l) held) (fed_rest s is)

no_front : (a b : List ℕ) → a ++ b ≡ [] → a ≡ []
no_front [] b is = refl
no_front (x ∷ a) b is = cc

empty_bytes : (ended : Bool) (x : Inbox) → IsEmptyInbox ended (Some x) → x.bytes ≡ []
empty_bytes ended x is = cc

empty_end : (ended : Bool) (x : Inbox) → IsEmptyInbox ended (Some x) → x.ended ≡ ended
empty_end ended x is = cc

-- ---- what the feed gives is what comes next

finds_asked : {M : Type 0} (m : M) (n : Next M) → AsksFor m (Some n) → Finds m n
finds_asked m (next.Message k) a = a
finds_asked m next.Memory a = a
finds_asked m next.Unreadable a = absurd a
finds_asked m next.End a = absurd a
finds_asked m next.NotYet a = absurd a
finds_asked m next.Failed a = absurd a

finds_more : {M : Type 0} (m : M) (n : Next M) → AsksMore (Some n) → Finds m n
finds_more m next.Memory a = a
finds_more m (next.Message k) a = absurd a
finds_more m next.Unreadable a = absurd a
finds_more m next.End a = absurd a
finds_more m next.NotYet a = absurd a
finds_more m next.Failed a = absurd a

none_memory : (M : Type 0) (ended : Bool) → FindsNone {M = M} ended next.Memory
none_memory M true = tt
none_memory M false = tt

none_failed : (M : Type 0) (ended : Bool) → FindsNone {M = M} ended next.Failed
none_failed M true = tt
none_failed M false = tt

none_more : {M : Type 0} (ended : Bool) (n : Next M) → AsksMore (Some n) → FindsNone ended n
none_more {M = M} ended next.Memory a = none_memory M ended
none_more ended (next.Message k) a = absurd a
none_more ended next.Unreadable a = absurd a
none_more ended next.End a = absurd a
none_more ended next.NotYet a = absurd a
none_more ended next.Failed a = absurd a

module _ {M I : Type 0} (kind : Kind M) (i : link_in.Ghosts I) (first old : IncomingState) (half now : I) where
  -- What was to be taken at first is to be taken still, of which all that was received has reached the feed.
  pub record Goes : Type 0 where
    pub fed : old.unpushed ≡ []
    pub stays : coming old (i.held now) ≡ coming first (i.held half)
    pub refused : old.refused ≡ first.refused
    pub shut : i.shut now ≡ i.shut half
    pub never_falls : i.faults half ≤ i.faults now

  comes_asked : (g : Goes) (new : IncomingState) (n : Next M) → AsksEnds kind old new (Some n) → Comes kind i first new half now n
  comes_asked g new (next.Message m) a =
      let front : old.rest ++ old.unpushed ≡ a.asks.text ++ (new.rest ++ new.unpushed) =
      ap (λ (l : List ℕ). l ++ old.unpushed) a.asks.front
      ∙ (append_assoc a.asks.text new.rest old.unpushed ∙ ap (λ (l : List ℕ). a.asks.text ++ (new.rest ++ l)) (sym a.asks.unpushed)) in
      record {
        text = a.asks.text;
        spelled = a.asks.spelled;
        listed = a.asks.listed;
        front = sym g.stays ∙ (ap (λ (l : List ℕ). option_map (in_front l) (i.held now)) front ∙ in_front_twice a.asks.text (new.rest ++ new.unpushed) (i.held now));
        reads_on = a.asks.reads_on;
      }
  comes_asked g new next.Unreadable a =
      let u = a.asks.unreadable in
      let same : new.rest ++ new.unpushed ≡ old.rest ++ old.unpushed = ap (λ (l : List ℕ). l ++ new.unpushed) a.asks.rest ∙ ap (λ (l : List ℕ). old.rest ++ l) a.asks.unpushed in (
        record { fault = u.fault; kept = u.kept; cause = elim u.cause [ inl was ↦ inl (sym g.refused ∙ was) | inr none ↦ inr none ] },
        ap (λ (l : List ℕ). option_map (in_front l) (i.held now)) same ∙ g.stays,
      )
  comes_asked g new next.Memory a = ap (λ (s : IncomingState). coming s (i.held now)) a.asks ∙ g.stays
  comes_asked g new next.End a = absurd a.asks
  comes_asked g new next.NotYet a = absurd a.asks
  comes_asked g new next.Failed a = absurd a.asks

  at_front : (g : Goes) (bytes : List ℕ) (ended : Bool) → coming first (i.held half) ≡ Some (record { bytes = bytes; ended = ended }) → Holds old.rest bytes ended (i.held now)
  at_front g bytes ended is = holds old.rest bytes ended (i.held now) (sym (coming_fed old (i.held now) g.fed) ∙ (g.stays ∙ is))

  -- The feed has given what comes next.
  pub asked : IsSound kind → IsCut kind.framing [] → (g : Goes) (new : IncomingState) (n : Next M) → AsksEnds kind old new (Some n) → NextEnds kind i first new half now n
  asked sound empty g new n a = record {
    comes = comes_asked g new n a;
    finds = λ on m text behind ended s is.
        let h = at_front g (text ++ behind) ended is in
        elim (fronts old.rest text h.inbox.bytes behind h.parts) [
          | inside more parts ↦ finds_asked m n (a.whole (g.refused ∙ on) m text more s parts)
          | beyond z more parts ↦ finds_more m n (a.part (g.refused ∙ on) (sound.front m text old.rest (z ∷ more) s (sym parts) (omega arith)))
        ];
    none = λ on ended is.
        let h = at_front g [] ended is in
        none_more ended n (a.part (g.refused ∙ on) (subst (λ (l : List ℕ). IsCut kind.framing l) (sym (no_front old.rest h.inbox.bytes h.parts)) empty));
    shut = g.shut;
    never_falls = g.never_falls;
  }

  -- The message at the front isn't whole, and the link has ended.
  pub ended : (g : Goes) (new last : IncomingState) (later : I) → AsksEnds kind old new None → ReceiveEnds i new last now later received.End → NextEnds kind i first last half later next.End
  ended g new last later a r =
      let same : last ≡ old = r.receives.0 ∙ a.asks.same in
      let stays = r.stays ∙ (ap (λ (s : IncomingState). coming s (i.held now)) a.asks.same ∙ g.stays) in
      let at : (bytes : List ℕ) (end : Bool) → coming first (i.held half) ≡ Some (record { bytes = bytes; ended = end }) → Holds old.rest bytes end (i.held later) =
      λ bytes end is. holds old.rest bytes end (i.held later) (sym (coming_fed old (i.held later) g.fed) ∙ (ap (λ (s : IncomingState). coming s (i.held later)) (sym same) ∙ (stays ∙ is))) in
      record {
        comes = (record { empty = r.receives.1; all = ap IncomingState.unpushed same ∙ g.fed; cut = subst (λ (s : IncomingState). IsCut kind.framing s.rest) (sym same) a.asks.cut; reads_on = ap IncomingState.refused same ∙ a.asks.reads_on }, stays);
        finds = λ on m text behind end s is.
            let h = at (text ++ behind) end is in
            let none = empty_bytes true h.inbox (subst (IsEmptyInbox true) h.is r.receives.1) in
            a.whole (g.refused ∙ on) m text behind s (sym (append-nil old.rest) ∙ (ap (λ (l : List ℕ). old.rest ++ l) (sym none) ∙ h.parts));
        none = λ on end is.
            let h = at [] end is in
            subst (λ (b : Bool). FindsNone {M = M} b next.End) (sym (empty_end true h.inbox (subst (IsEmptyInbox true) h.is r.receives.1)) ∙ h.end) tt;
        shut = r.shut ∙ g.shut;
        never_falls = omega (arith, g.never_falls, r.never_falls);
      }

  -- The message at the front isn't whole, and the link has nothing yet.
  pub not_yet : (g : Goes) (new last : IncomingState) (later : I) → AsksEnds kind old new None → ReceiveEnds i new last now later received.NotYet → NextEnds kind i first last half later next.NotYet
  not_yet g new last later a r =
      let same : last ≡ old = r.receives.0 ∙ a.asks.same in
      let stays = r.stays ∙ (ap (λ (s : IncomingState). coming s (i.held now)) a.asks.same ∙ g.stays) in
      let at : (bytes : List ℕ) (end : Bool) → coming first (i.held half) ≡ Some (record { bytes = bytes; ended = end }) → Holds old.rest bytes end (i.held later) =
      λ bytes end is. holds old.rest bytes end (i.held later) (sym (coming_fed old (i.held later) g.fed) ∙ (ap (λ (s : IncomingState). coming s (i.held later)) (sym same) ∙ (stays ∙ is))) in
      record {
        comes = (record { empty = r.receives.1; all = ap IncomingState.unpushed same ∙ g.fed; cut = subst (λ (s : IncomingState). IsCut kind.framing s.rest) (sym same) a.asks.cut; reads_on = ap IncomingState.refused same ∙ a.asks.reads_on }, stays);
        finds = λ on m text behind end s is.
            let h = at (text ++ behind) end is in
            let none = empty_bytes false h.inbox (subst (IsEmptyInbox false) h.is r.receives.1) in
            a.whole (g.refused ∙ on) m text behind s (sym (append-nil old.rest) ∙ (ap (λ (l : List ℕ). old.rest ++ l) (sym none) ∙ h.parts));
        none = λ on end is.
            let h = at [] end is in
            subst (λ (b : Bool). FindsNone {M = M} b next.NotYet) (sym (empty_end false h.inbox (subst (IsEmptyInbox false) h.is r.receives.1)) ∙ h.end) tt;
        shut = r.shut ∙ g.shut;
        never_falls = omega (arith, g.never_falls, r.never_falls);
      }

  -- The link failed.
  pub failed : (g : Goes) (new last : IncomingState) (later : I) → AsksEnds kind old new None → ReceiveEnds i new last now later received.Failed → NextEnds kind i first last half later next.Failed
  failed g new last later a r = record {
    comes = (omega (arith, g.never_falls, r.receives), r.stays ∙ (ap (λ (s : IncomingState). coming s (i.held now)) a.asks.same ∙ g.stays));
    finds = λ on m text behind end s is. tt;
    none = λ on end is. none_failed M end;
    shut = r.shut ∙ g.shut;
    never_falls = omega (arith, g.never_falls, r.never_falls);
  }

  -- Memory ran out.
  pub wanting : (g : Goes) (new last : IncomingState) (later : I) → AsksEnds kind old new None → ReceiveEnds i new last now later received.Memory → NextEnds kind i first last half later next.Memory
  wanting g new last later a r = record {
    comes = r.stays ∙ (ap (λ (s : IncomingState). coming s (i.held now)) a.asks.same ∙ g.stays);
    finds = λ on m text behind end s is. tt;
    none = λ on end is. none_memory M end;
    shut = r.shut ∙ g.shut;
    never_falls = omega (arith, g.never_falls, r.never_falls);
  }
