-- What the feed gives is the message at the front, or none.
use Rattle.std.proofs.Common.{◌≡◌, ◌≢◌, ℕ, ◌<◌, List, ◌∷◌, length, Option, Some, None, Result, Ok, Err, inl, inr, refl, sym, ap, ◌∙◌, subst, arith}
use Rattle.hd_base.proofs.ResultLaws.{err_value}
use Rattle.frame_feed.specs.declared.faults.FeedFault.{FeedFault}
use Rattle.frame_feed.specs.declared.faults.FeedFault.TheVariants as feed
use Rattle.frame_feed.specs.Kinds.{Kind, IsSound}
use Rattle.frame_feed.specs.Feeds.{FeedState, TakesNext}
use Rattle.link_messages.proofs.StreamLemmas.{fronts, inside, beyond}
use Rattle.link_messages.specs.declared.incoming.Next.TheVariants as next
use Rattle.link_messages.specs.Incomings.{IncomingState, IsNone, IsUnreadable, AsksEnds, next_of}

-- what was received, of which this has reached the feed
abbrev pub with_feed : FeedState → List ℕ → IncomingState
with_feed f unpushed = record { rest = f.rest; unpushed = unpushed; refused = f.refused }

some_none : {M : Type 0} (m : M) → ◌≡◌ {A = Result (Option M) FeedFault} (Ok (Some m)) (Ok None) → ⊥
some_none m e = cc

ok_err : {M : Type 0} (o : Option M) (f : FeedFault) → ◌≡◌ {A = Result (Option M) FeedFault} (Ok o) (Err f) → ⊥
ok_err o f e = cc

some_some : {M : Type 0} (m n : M) → ◌≡◌ {A = Result (Option M) FeedFault} (Ok (Some m)) (Ok (Some n)) → m ≡ n
some_some m n e = cc

module _ {M : Type 0} (kind : Kind M) (sound : IsSound kind) (old new : FeedState) (unpushed : List ℕ) where
  -- a message
  pub asks_message : (m : M) → TakesNext kind old (Ok (Some m)) new → AsksEnds kind (with_feed old unpushed) (with_feed new unpushed) (Some (next.Message m))
  asks_message m t =
      let one = t.found m refl in
      record {
        asks = record { text = one.text; spelled = one.spelled; listed = one.listed; front = one.front; unpushed = refl; reads_on = ap FeedState.refused one.left };
        whole = λ on n text behind s parts. elim (t.only on n text behind s parts) [ inl x ↦ absurd (ok_err (Some m) feed.Memory x.0) | inr x ↦ some_some m n x.0 ];
        part = λ on cut. elim (t.short on cut) [ inl x ↦ absurd (ok_err (Some m) feed.Memory x.0) | inr x ↦ some_none m x.0 ];
      }

  -- a fault that is kept is answered
  kept_fault : {r : Result (Option M) FeedFault} (o : Option FeedFault) → old.refused ≡ o → TakesNext kind old r new → (n : Option M) → r ≡ Ok n → old.refused ≡ None
  kept_fault None is t n e = is
  kept_fault (Some f) is t n e = absurd (ok_err n f (sym e ∙ (t.again f is).0))

  -- none
  pub asks_none : TakesNext kind old (Ok None) new → AsksEnds kind (with_feed old unpushed) (with_feed new unpushed) None
  asks_none t =
      let on = kept_fault old.refused refl t None refl in
      let cut = t.none refl in
      let wants = t.wants refl in
      let stays = t.stays (λ m e. some_none m (sym e)) in
      let after : new.refused ≡ None = elim (t.short on cut) [ inl x ↦ absurd (ok_err None feed.Memory x.0) | inr x ↦ ap FeedState.refused x.1 ] in
      let few : length new.rest < 16777218 = omega (arith, wants.some, wants.bounded) in
      record {
        asks = record { same = cc; reads_on = on; cut = cut; short = subst (λ (l : List ℕ). length l < 16777218) stays few };
        whole = λ _ m text behind s parts. elim (t.only on m text behind s parts) [ inl x ↦ absurd (ok_err None feed.Memory x.0) | inr x ↦ absurd (some_none m (sym x.0)) ];
        part = λ _ _. tt;
      }

  -- want of memory
  pub asks_memory : TakesNext kind old (Err feed.Memory) new → AsksEnds kind (with_feed old unpushed) (with_feed new unpushed) (Some next.Memory)
  asks_memory t = record {
    asks = ap (λ f. with_feed f unpushed) (t.memory refl);
    whole = λ _ _ _ _ _ _. tt;
    part = λ _ _. tt;
  }

  -- no message stands at the front, or could
  begins_none : (e : FeedFault) → e ≢ feed.Memory → TakesNext kind old (Err e) new → old.refused ≡ None → IsNone kind old.rest
  begins_none e other t on m text more behind s parts =
      elim (fronts old.rest text more behind parts) [
        | inside rest is ↦ elim (t.only on m text rest s is) [ inl x ↦ other (err_value e feed.Memory x.0) | inr x ↦ ok_err (Some m) e (sym x.0) ]
        | beyond z rest is ↦ elim (t.short on (sound.front m text old.rest (z ∷ rest) s (sym is) (omega arith))) [
          | inl x ↦ other (err_value e feed.Memory x.0)
          | inr x ↦ ok_err None e (sym x.0)
        ]
      ]

  kept_for_good : (e : FeedFault) → e ≢ feed.Memory → TakesNext kind old (Err e) new → (o : Option FeedFault) → old.refused ≡ o → IsUnreadable kind (with_feed old unpushed) (with_feed new unpushed)
  kept_for_good e other t (Some f) is =
      let same : f ≡ e = err_value f e (sym (t.again f is).0) in
      record {
        fault = e;
        kept = ap FeedState.refused (t.again f is).1 ∙ (is ∙ ap Some same);
        cause = inl (is ∙ ap Some same);
      }
  kept_for_good e other t None is =
      let none : IsNone kind new.rest = subst (IsNone kind) (sym (t.stays (λ m f. ok_err (Some m) e (sym f)))) (begins_none e other t is) in
      elim (t.fails e refl) [
        | inl memory ↦ absurd (other memory)
        | inr (inl was) ↦ record { fault = e; kept = ap FeedState.refused (t.again e was).1 ∙ was; cause = inl was }
        | inr (inr stops) ↦ elim (t.refuses e is stops) [
          | inl x ↦ absurd (other (err_value e feed.Memory x.0))
          | inr x ↦ record { fault = e; kept = ap FeedState.refused x.1; cause = inr none }
        ]
      ]

  -- a fault
  pub asks_fault : (e : FeedFault) → e ≢ feed.Memory → TakesNext kind old (Err e) new → AsksEnds kind (with_feed old unpushed) (with_feed new unpushed) (Some next.Unreadable)
  asks_fault e other t = record {
    asks = record { rest = t.stays (λ m f. ok_err (Some m) e (sym f)); unpushed = refl; unreadable = kept_for_good e other t old.refused refl };
    whole = λ on m text behind s parts. elim (t.only on m text behind s parts) [ inl x ↦ other (err_value e feed.Memory x.0) | inr x ↦ ok_err (Some m) e (sym x.0) ];
    part = λ on cut. elim (t.short on cut) [ inl x ↦ other (err_value e feed.Memory x.0) | inr x ↦ ok_err None e (sym x.0) ];
  }

  -- what the feed gives, whatever it is
  pub asks : (r : Result (Option M) FeedFault) → TakesNext kind old r new → AsksEnds kind (with_feed old unpushed) (with_feed new unpushed) (next_of r)
  asks (Ok (Some m)) t = asks_message m t
  asks (Ok None) t = asks_none t
  asks (Err feed.Memory) t = asks_memory t
  asks (Err (feed.Op f)) t = asks_fault (feed.Op f) (λ h. cc) t
  asks (Err (feed.Packet f)) t = asks_fault (feed.Packet f) (λ h. cc) t
  asks (Err (feed.Ack f)) t = asks_fault (feed.Ack f) (λ h. cc) t
  asks (Err (feed.Response f)) t = asks_fault (feed.Response f) (λ h. cc) t
  asks (Err (feed.Recovery f)) t = asks_fault (feed.Recovery f) (λ h. cc) t
