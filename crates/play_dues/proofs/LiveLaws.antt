-- The list of the connections of which something may still be due.
use Rattle.std.proofs.Common.{◌≡◌, ◌<◌, ◌≤◌, ◌+◌, ℕ, zero, suc, Bool, true, false, List, [], ◌∷◌, ◌++◌, length, refl, sym, ap, ◌∙◌, subst, lt-ltb, arith, add-one, append-nil}
use Rattle.std.specs.Prelude.{◌&&◌, ◌||◌, not, nat_lt, nat_le, filter}
use Rattle.std.specs.List.{flat_map}
use Rattle.std.proofs.lemmas.Bool.Decides.{nat_tests}
use Rattle.std.proofs.lemmas.Grind.{flat_map-append}
use Rattle.std.proofs.lemmas.List.Elements.{filter-append}
use Rattle.hd_base.specs.declared.links.LinkIn as link_in
use Rattle.hd_base.specs.declared.links.LinkOut as link_out
use Rattle.hd_base.specs.declared.numbers.ConnId.{ConnId}
use Rattle.world.specs.Worlds.{World}
use Rattle.world.specs.Events.{run}
use Rattle.play_model.specs.WorldLaws.Placing.{Placed}
use Rattle.play_model.specs.declared.asks.ReadAsk.{ReadAsk}
use Rattle.play_model.specs.declared.recoveries.Recovery.{Recovery}
use Rattle.play_model.specs.declared.dues.Due.{Due}
use Rattle.play_model.specs.Dues.{Queues, when, upto, is_due, conn_dues, own_dues, reader_dues, primary_dues, due_events}
use Rattle.play_clients.specs.declared.clients.Client.{Client}
use Rattle.play_reads.specs.PlayNodes.Nodes.{Nodes}
use Rattle.play_reads.specs.PlayNodes.Dues.{IsOrderly}
use Rattle.play_reads.specs.PlayPrimaries.Dues.{ArePlaced}
use Rattle.play_reads.specs.declared.reads.Reads.{Reads}
use Rattle.play_recoveries.specs.declared.recoveries.Recoveries.{Recoveries}
use Rattle.play_dues.specs.declared.live.LiveConns.{LiveConns}
use Rattle.play_dues.specs.Listing.{dues_among, all_dues}
use Rattle.play_dues.specs.Live.{if_passing, passing, or_from, HasMore, DropsSpent, Covers, CoversNone, IsCurrent, IsRefreshed}
use Rattle.play_dues.specs.Spent.{is_spent}
use Rattle.play_dues.proofs.SpentLaws.{nothing_due}
use Rattle.play_dues.proofs.SpentStays.{Keeps, due_keeps, spent_on}

-- LISTS BY NUMBERS

upto_same : {A : Type 0} (f g : ℕ → List A) (n : ℕ) → ((c : ℕ) → c < n → f c ≡ g c) → upto f n ≡ upto g n
upto_same f g zero h = refl
upto_same f g (suc n) h = λ j. upto_same f g n (λ c lt. h c (omega (arith, lt))) j ++ h n (omega arith) j

-- What those give that pass a test is what all give, where the others give nothing.
passing_gives : (f : ℕ → List Due) (test : ℕ → Bool) (n : ℕ) → ((c : ℕ) → c < n → test c ≡ false → f c ≡ []) → flat_map (λ c. f c.0) (passing test n) ≡ upto f n
passing_gives f test zero h = refl
passing_gives f test (suc n) h =
    flat_map-append (λ (c : ConnId). f c.0) (passing test n) (if_passing test n)
    ∙ (λ j. passing_gives f test n (λ c lt. h c (omega (arith, lt))) j ++ by (test n) refl j)
  where
    by : (b : Bool) → test n ≡ b → flat_map (λ (c : ConnId). f c.0) (when b (record { 0 = n })) ≡ f n
    by true e = append-nil (f n)
    by false e = sym (h n (omega arith) e)

filter_one : (p : ConnId → Bool) (x : ConnId) (b : Bool) → p x ≡ b → filter p (x ∷ []) ≡ when b x
filter_one p x true e = rw (e) refl
filter_one p x false e = rw (e) refl

-- of those that pass one test, those that pass another
filter_passing : (p : ConnId → Bool) (test : ℕ → Bool) (n : ℕ) → filter p (passing test n) ≡ passing (λ c. test c && p (record { 0 = c })) n
filter_passing p test zero = refl
filter_passing p test (suc n) = filter-append p (passing test n) (if_passing test n) ∙ (λ j. filter_passing p test n j ++ by (test n) j)
  where
    by : (b : Bool) → filter p (when b (record { 0 = n })) ≡ when (b && p (record { 0 = n })) (record { 0 = n })
    by true = filter_one p (record { 0 = n }) (p (record { 0 = n })) refl
    by false = refl

-- MORE NUMBERS

not_from : (known c : ℕ) → c < known → nat_le known c ≡ false
not_from known c lt = grind (arith, nat_tests, lt)

is_from : (known c : ℕ) → known ≤ c → nat_le known c ≡ true
is_from known c le = grind (arith, nat_tests, le)

is_before : (known c : ℕ) → nat_le known c ≡ false → c < known
is_before known c e = grind (arith, nat_tests, e)

pub more_first : (old : List ConnId) (has : ℕ → Bool) (from : ℕ) → old ≡ passing has from → old ≡ passing (or_from from has) from
more_first old has from is = is ∙ upto_same (if_passing has) (if_passing (or_from from has)) from (λ c lt. ap (λ (b : Bool). when (b || has c) (record { 0 = c })) (sym (not_from from c lt)))

pub more_next : (so_far after : List ConnId) (has : ℕ → Bool) (from index : ℕ) (conn : ConnId) → from ≤ index → conn ≡ record { 0 = index } → after ≡ so_far ++ conn ∷ [] → so_far ≡ passing (or_from from has) index → after ≡ passing (or_from from has) (index + 1)
more_next so_far after has from index conn le same pushed is =
    pushed ∙ (λ j. is j ++ same j ∷ []) ∙ (ap (λ (b : Bool). passing (or_from from has) index ++ when (b || has index) (record { 0 = index })) (sym (is_from from index le))
    ∙ ap (λ (k : ℕ). passing (or_from from has) k) (sym (add-one index)))

pub more_last : (conns : List ConnId) (has : ℕ → Bool) (from index count : ℕ) → index ≤ count → count ≤ index → conns ≡ passing (or_from from has) index → conns ≡ passing (or_from from has) count
more_last conns has from index count below above is = is ∙ ap (λ (k : ℕ). passing (or_from from has) k) (same index count below above)
  where
    same : (a b : ℕ) → a ≤ b → b ≤ a → a ≡ b
    same a b p q = omega arith

-- LISTS THAT COVER A WORLD

pub covers_none : (live : LiveConns) → live.known ≡ 0 → live.conns.items ≡ [] → CoversNone live
covers_none live known none w = record {
  within = omega (arith, known);
  has = λ c. true;
  listed = none ∙ ap (λ (k : ℕ). passing (λ c. true) k) (sym known);
  rest = λ c lt e. absurd (omega (arith, lt, known));
}

false_not : (b : Bool) → not b ≡ false → b ≡ true
false_not true e = refl
false_not false e = cc

pub current_covers : (w : World) (live : LiveConns) → IsCurrent w live → Covers w live
current_covers w live h = record {
  within = omega (arith, h.known);
  has = λ c. not (is_spent w c);
  listed = h.listed ∙ ap (λ (k : ℕ). passing (λ c. not (is_spent w c)) k) (sym h.known);
  rest = λ c lt e. false_not (is_spent w c) e;
}

pub covers_on : (w : World) (queues : Queues) (d : Due) (live : LiveConns) → IsOrderly w → ArePlaced w → is_due w queues d ≡ true → Covers w live → Covers (run w (due_events w queues d)) live
covers_on w queues d live h placed is c =
    let k : Keeps w (run w (due_events w queues d)) = due_keeps w queues d h is in
    record {
      within = omega (arith, c.within, k.grows);
      has = c.has;
      listed = c.listed;
      rest = λ conn lt e. spent_on w (run w (due_events w queues d)) h.placed placed k conn (omega (arith, lt, c.within)) (c.rest conn lt e);
    }

-- of a number that is listed or new just that is kept which isn't spent
kept_so : (from has spent : Bool) → (from ≡ false → has ≡ false → spent ≡ true) → ((from || has) && not spent) ≡ not spent
kept_so true has spent h = refl
kept_so false true spent h = refl
kept_so false false spent h = sym (ap not (h refl refl))

module _ {F I O : Type 0} (i : link_in.Ghosts I) (o : link_out.Ghosts O) (n : Nodes F I O) (clients : List (Client I O)) (reads : Reads I O) (recoveries : Recoveries I O) where
  pub refreshed : (old new : LiveConns) (mid : List ConnId) (count : ℕ) → count ≡ length n.connections.items → new.known ≡ count → HasMore old.conns.items mid old.known count → DropsSpent i o mid new.conns.items n clients reads recoveries → IsRefreshed i o old new n clients reads recoveries
  refreshed old new mid count counted known more kept = λ w net h covers.
      let all : count ≡ w.next_conn = counted ∙ h.nodes_are.count in
      let spent : ConnId → Bool = λ c. nat_lt c.0 w.next_conn && is_spent w c.0 in
      let added : mid ≡ passing (or_from old.known covers.has) count = more covers.has (omega (arith, covers.within, all)) covers.listed in
      let each : (c : ℕ) → c < count → (or_from old.known covers.has c && not (nat_lt c w.next_conn && is_spent w c)) ≡ not (is_spent w c) = λ c lt.
      ap (λ (b : Bool). or_from old.known covers.has c && not (b && is_spent w c)) (lt-ltb c w.next_conn (subst (λ (k : ℕ). c < k) all lt))
      ∙ kept_so (nat_le old.known c) (covers.has c) (is_spent w c) (λ before not_listed. covers.rest c (is_before old.known c before) not_listed) in
      record {
        known = known ∙ all;
        listed = kept w net h ∙ (ap (λ (xs : List ConnId). filter (λ c. not (spent c)) xs) added
            ∙ (filter_passing (λ c. not (spent c)) (or_from old.known covers.has) count
            ∙ (upto_same (if_passing (λ c. or_from old.known covers.has c && not (nat_lt c w.next_conn && is_spent w c))) (if_passing (λ c. not (is_spent w c))) count (λ c lt. ap (λ (b : Bool). when b (record { 0 = c })) (each c lt))
            ∙ ap (λ (k : ℕ). passing (λ c. not (is_spent w c)) k) all)));
      }

-- What is due of those that are listed is all that is due of connections.
pub live_dues : (w : World) (queues : Queues) (blocks : List ℕ) (asks : List ReadAsk) (rs : List Recovery) (conns : List ConnId) (live : LiveConns) → Placed w → conns ≡ live.conns.items → IsCurrent w live → dues_among w queues blocks asks rs conns ≡ all_dues w queues blocks asks rs
live_dues w queues blocks asks rs conns live placed same h =
    ap (λ (xs : List Due). own_dues w queues blocks ++ (reader_dues w queues asks ++ (primary_dues w queues rs ++ xs)))
    (ap (λ (xs : List ConnId). flat_map (λ c. conn_dues w queues c.0) xs) (same ∙ h.listed)
    ∙ passing_gives (conn_dues w queues) (λ c. not (is_spent w c)) w.next_conn (λ c lt e. nothing_due w queues c placed lt (false_not (is_spent w c) e)))
