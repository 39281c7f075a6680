-- A primary that sends the UPDATE to the chosen members, one after the other.
use Rattle.std.proofs.Common.{◌≡◌, ℕ, zero, suc, ◌<◌, ◌≤◌, Bool, true, false, List, [], ◌∷◌, length, slice_get, slice_set, Option, Some, None, Result, Ok, Err, ◌⊎◌, inl, inr, refl, sym, ap, ◌∙◌, subst, arith}
use Rattle.std.specs.Prelude.{◌||◌, ◌-◌, is_err}
use Rattle.hd_base.specs.Faults.{FaultsIncreased}
use Rattle.hd_base.specs.Links.{Inbox}
use Rattle.hd_base.specs.declared.ends.Conn.{Conn}
use Rattle.hd_base.specs.declared.links.LinkError.{LinkError}
use Rattle.hd_base.specs.declared.links.LinkError.TheVariants as link_error
use Rattle.hd_base.specs.declared.links.LinkIn as link_in
use Rattle.hd_base.specs.declared.links.LinkOut as link_out
use Rattle.hd_base.specs.declared.numbers.ConnId.{ConnId}
use Rattle.hd_base.specs.declared.numbers.NodeId.{NodeId}
use Rattle.block_recovery.specs.declared.links.Link.{Link}
use Rattle.block_recovery.specs.declared.links.Seat.{Seat}
use Rattle.block_recovery.specs.Actions.{IsAt, Passes, SendsIf, SendsAt, SendsAll, is_due}
use Rattle.block_recovery.specs.Links.{IsSent}
use Rattle.link_pieces.specs.Pieces.{IsSending}
use Rattle.link_pieces.specs.Roads.{KeepsInward}
use Rattle.road_traffic.specs.Showing.{Net, EndIs}
use Rattle.road_traffic.proofs.CallLemmas.{sent-shows, quiet-shows}
use Rattle.world.specs.Worlds.{World}
use Rattle.world_primaries.specs.WorldNets.Nets.{held_by, is_over}
use Rattle.client_events.proofs.MemberEvents.EndLaws.{HeldAt, end_held}
use Rattle.primary_events.specs.Showing.{LinkShows}
use Rattle.primary_events.proofs.PlaceLemmas.{set_here, set_there, within, same_or, some_same}

-- ONE PLACE

pub none_some : {A : Type 0} (y : Option A) (z : A) → y ≡ None → y ≡ Some z → ⊥
none_some y z e h = cc

less_apart : (j k : ℕ) → (j ≡ k → ⊥) → j < suc k → j < k
less_apart zero zero a h = absurd (a refl)
less_apart zero (suc k) a h = omega arith
less_apart (suc j) zero a h = absurd (omega (arith, h))
less_apart (suc j) (suc k) a h = let m = less_apart j k (λ e. a (ap suc e)) (omega (arith, h)) in omega (arith, m)

no_less : (n k : ℕ) → n - k ≡ 0 → (j : ℕ) → j < n → j < k
no_less n k h j lt = omega (arith, h, lt)

module _ {I O : Type 0} (o : link_out.Ghosts O) (text : List ℕ) (members chosen : List NodeId) where
  -- What stood at a place was sent the text, once the places so far were.
  record SentSo (k j : ℕ) (x : Seat I O) (z : Option (Seat I O)) : Type 0 where
    after : Seat I O
    is : z ≡ Some after
    sends : j < k → SendsIf o text (is_due chosen (slice_get members j)) x after (Ok tt)
    still : k ≤ j → after ≡ x

  place_sent : (k : ℕ) (a b : List (Seat I O)) → Passes (SendsAt o text members chosen (Ok tt)) k a b → (j : ℕ) (x : Seat I O) → slice_get a j ≡ Some x → SentSo k j x (slice_get b j)
  place_sent zero a b e j x at = record {
    after = x;
    is = ap (λ (xs : List (Seat I O)). slice_get xs j) e ∙ at;
    sends = λ h. absurd (omega (arith, h));
    still = λ h. refl;
  }
  place_sent (suc k) a b q j x at = by q.0 q.1.1 (place_sent k a q.0 q.1.0 j x at) (same_or j k) where
    by : (m : List (Seat I O)) → (step : IsAt (λ before after. SendsIf o text (is_due chosen (slice_get members k)) before after (Ok tt)) k m b) → (s : SentSo k j x (slice_get m j)) → (j ≡ k) ⊎ (j ≡ k → ⊥) → SentSo (suc k) j x (slice_get b j)
    by m step s (inl e) =
        let there : slice_get m j ≡ Some step.before = ap (slice_get m) e ∙ step.stood in
        let was : step.before ≡ x = some_same step.before x (sym there ∙ (s.is ∙ ap Some (s.still (omega (arith, e))))) in
        record {
          after = step.after;
          is = ap (λ (xs : List (Seat I O)). slice_get xs j) step.stands ∙ (ap (slice_get (slice_set m k step.after)) e ∙ set_here m k step.before step.after step.stood);
          sends = λ h. subst (λ (n : ℕ). SendsIf o text (is_due chosen (slice_get members n)) x step.after (Ok tt)) (sym e) (subst (λ (y : Seat I O). SendsIf o text (is_due chosen (slice_get members k)) y step.after (Ok tt)) was step.is);
          still = λ h. absurd (omega (arith, h, e));
        }
    by m step s (inr apart) = record {
      after = s.after;
      is = ap (λ (xs : List (Seat I O)). slice_get xs j) step.stands ∙ (set_there m k step.after j apart ∙ s.is);
      sends = λ h. s.sends (less_apart j k apart h);
      still = λ h. s.still (omega (arith, h));
    }

  none_sent : (k : ℕ) (a b : List (Seat I O)) → Passes (SendsAt o text members chosen (Ok tt)) k a b → (j : ℕ) → slice_get a j ≡ None → slice_get b j ≡ None
  none_sent zero a b e j at = ap (λ (xs : List (Seat I O)). slice_get xs j) e ∙ at
  none_sent (suc k) a b q j at = by (none_sent k a q.0 q.1.0 j at) (same_or j k) where
    by : slice_get q.0 j ≡ None → (j ≡ k) ⊎ (j ≡ k → ⊥) → slice_get b j ≡ None
    by before (inl e) = absurd (none_some (slice_get q.0 j) q.1.1.before before (ap (slice_get q.0) e ∙ q.1.1.stood))
    by before (inr apart) = ap (λ (xs : List (Seat I O)). slice_get xs j) q.1.1.stands ∙ (set_there q.0 k q.1.1.after j apart ∙ before)

  -- Each place was sent the text, if it is due there and there is a connection; and where there is no place there is none behind it.
  pub record AllSent (links held : List (Seat I O)) : Type 0 where
    pub each : (j : ℕ) (x : Seat I O) → slice_get links j ≡ Some x → (y : Seat I O) × ((slice_get held j ≡ Some y) × SendsIf o text (is_due chosen (slice_get members j)) x y (Ok tt))
    pub none : (j : ℕ) → slice_get links j ≡ None → slice_get held j ≡ None

-- ONE LINK

ok_of : (q : Result ℕ LinkError) (failed : Bool) → (is_err q || failed) ≡ false → (n : ℕ) × (q ≡ Ok n)
ok_of (Ok n) failed h = (n, refl)
ok_of (Err e) failed h = cc

-- The link with the upper end of a connection, once it was sent these texts, or the link failed.
pub record SentAt {I O : Type 0} (i : link_in.Ghosts I) (o : link_out.Ghosts O) (w : World) (net : Net) (texts : List (List ℕ)) (c : ℕ) (x y : Link I O) : Type 0 where
  pub id : y.end.id.0 ≡ c
  pub incoming : y.incoming ≡ x.incoming
  pub over : y.over ≡ x.over
  pub held : y.failed ≡ false → HeldAt i o net false texts (held_by (is_over w c false)) c false y.end
  pub rose : y.failed ≡ true → (before : ℕ) × FaultsIncreased before (o.faults y.end.outward)

true_false : true ≡ false → ⊥
true_false h = cc

module _ {I O : Type 0} (i : link_in.Ghosts I) (o : link_out.Ghosts O) (w : World) (net : Net) (c : ℕ) (x : Link I O) (shows : LinkShows i o w net c x) where
  abbrev holds : Inbox
  holds = held_by (is_over w c false)

  -- nothing was sent
  pub unsent_at : SentAt i o w net [] c x x
  unsent_at = record {
    id = shows.end_is.id;
    incoming = refl;
    over = refl;
    held = λ z. end_held i o w net c false x.end shows.end_is;
    rose = λ z. absurd (true_false (sym z ∙ shows.works));
  }

  -- the text was sent, or the link failed
  pub sent_at : (text : List ℕ) (y : Link I O) → IsSent o text x y → SentAt i o w net (text ∷ []) c x y
  sent_at text y s = record {
    id = ap (λ (n : ConnId). n.0) s.kept.inward.id ∙ shows.end_is.id;
    incoming = s.kept.incoming;
    over = s.kept.over;
    held = λ works. by_sending (ok_of s.sending x.failed (sym s.failed ∙ works));
    rose = λ fails. by_failing s.sending refl (sym s.failed ∙ fails);
  }
    where
      mid : Conn I O
      mid = record x.end { outward = s.half }

      quiet : EndIs i o net.traffic false [] holds (record x.end { outward = s.half })
      quiet = quiet-shows i o net.traffic false [] holds x.end (record x.end { outward = s.half }) (record { id = refl; lower = refl; inward = refl }) s.room shows.end_is.is

      kept : KeepsInward (record x.end { outward = s.half }) y.end
      kept = record { id = s.kept.inward.id; lower = s.kept.inward.lower; inward = s.kept.inward.inward }

      by_sending : (n : ℕ) × (s.sending ≡ Ok n) → HeldAt i o net false (text ∷ []) holds c false y.end
      by_sending q = record {
        id = ap (λ (n : ConnId). n.0) s.kept.inward.id ∙ shows.end_is.id;
        side = s.kept.inward.lower ∙ shows.end_is.side;
        within = shows.end_is.within;
        is = sent-shows i o net.traffic [] holds text (record x.end { outward = s.half }) y.end kept (subst (λ (z : Result ℕ LinkError). IsSending o text s.half y.end.outward z) q.1 s.sent) quiet;
        taking = shows.end_is.taking;
      }

      by_failing : (q : Result ℕ LinkError) → s.sending ≡ q → (is_err s.sending || x.failed) ≡ true → (before : ℕ) × FaultsIncreased before (o.faults y.end.outward)
      by_failing (Ok n) e h = absurd (true_false (sym h ∙ (ap (λ (z : Result ℕ LinkError). is_err z || x.failed) e ∙ shows.works)))
      by_failing (Err link_error.Failed) e h = (o.faults s.half, (subst (λ (z : Result ℕ LinkError). IsSending o text s.half y.end.outward z) e s.sent).rose)
      by_failing (Err link_error.Memory) e h = absurd (subst (λ (z : Result ℕ LinkError). IsSending o text s.half y.end.outward z) e s.sent)

-- ALL PLACES

module _ {I O : Type 0} (o : link_out.Ghosts O) (text : List ℕ) (members chosen : List NodeId) where
  -- The chosen members were sent the text.
  pub all_sent : (links held : List (Seat I O)) → SendsAll o text members chosen links held (Ok tt) → AllSent o text members chosen links held
  all_sent links held s = record {
    each = λ j x at.
        let p = place_sent o text members chosen s.count links s.middle s.passes j x at in
        (p.after, (ap (λ (xs : List (Seat I O)). slice_get xs j) s.ends.0 ∙ p.is, p.sends (no_less (length links) s.count s.ends.1 j (within links j x at))));
    none = λ j at. ap (λ (xs : List (Seat I O)). slice_get xs j) s.ends.0 ∙ none_sent o text members chosen s.count links s.middle s.passes j at;
  }
