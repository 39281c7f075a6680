-- The least chunk whose sum differs.
use Rattle.std.proofs.Common.{◌≡◌, ◌==◌, ℕ, zero, suc, ◌+◌, ◌*◌, ◌/◌, ◌<◌, true, false, if◌then◌else◌, List, [], ◌∷◌, length, get_or, take, drop, Option, Some, None, option_map, IfSome, IfNone, nat_abs, refl, sym, ap, subst, ◌∙◌, arith}
use Rattle.std.specs.Int.{w32, from_be_bytes}
use Rattle.std.proofs.lemmas.List.{drop-drop}
use Rattle.std.proofs.lemmas.Grind.{common_steps}
use Rattle.std.proofs.lemmas.Bool.Decides.{nat_tests}
use Rattle.hd_base.specs.declared.sum_rule.SumKind.{SumKind}
use Rattle.hd_base.specs.SumRules.{Rule}
use Rattle.chunk_sums.specs.Crc.{sum_of}
use Rattle.chunk_sums.specs.Chunks.{IsRight, summed_chunks}
use Rattle.packet_codec.specs.declared.packets.Packet.{Packet}
use Rattle.replica_model.specs.Sums.{first_len, first_wrong, bad_from}
use Rattle.replica_model.specs.Rows.{bad_under}

same_number : (a b : ℕ) → a ≡ b → (a == b) ≡ true
same_number a b e = grind (arith, common_steps, nat_tests)

other_number : (a b : ℕ) → ¬ (a ≡ b) → (a == b) ≡ false
other_number a b e = grind (arith, common_steps, nat_tests)

-- the sums of later chunks
later_right : (kind : SumKind) (c : List ℕ) (cs : List (List ℕ)) (stored : List ℕ) (j : ℕ) → IsRight kind (c ∷ cs) stored (suc j) ≡ IsRight kind cs (drop 4 stored) j
unfolding IsRight
later_right kind c cs stored j =
    let further : 4 + 4 * j ≡ 4 * suc j = omega arith in
    let place : drop (4 * suc j) stored ≡ drop (4 * j) (drop 4 stored) = ap (λ n. drop n stored) (sym further) ∙ sym (drop-drop (4 * j) 4 stored) in
    ap (λ l. sum_of kind (get_or cs j []) ≡ from_be_bytes w32 (take 4 l)) place

first_right : (kind : SumKind) (c : List ℕ) (cs : List (List ℕ)) (stored : List ℕ) → IsRight kind (c ∷ cs) stored 0 → (sum_of kind c == from_be_bytes w32 (take 4 stored)) ≡ true
unfolding IsRight
first_right kind c cs stored right = same_number _ _ right

first_not : (kind : SumKind) (c : List ℕ) (cs : List (List ℕ)) (stored : List ℕ) → ¬ IsRight kind (c ∷ cs) stored 0 → (sum_of kind c == from_be_bytes w32 (take 4 stored)) ≡ false
unfolding IsRight
first_not kind c cs stored wrong = other_number _ _ wrong

cast : {A B : Type 0} → A ≡ B → A → B
cast e x = subst (λ T. T) e x

pub all_right : (kind : SumKind) (cs : List (List ℕ)) (stored : List ℕ) → ((j : ℕ) → j < length cs → IsRight kind cs stored j) → first_wrong kind cs stored ≡ None
unfolding first_wrong
all_right kind [] stored right = refl
all_right kind (c ∷ cs) stored right =
    rw (first_right kind c cs stored (right 0 (omega arith)))
    (ap (option_map suc) (all_right kind cs (drop 4 stored) (λ j within. cast (later_right kind c cs stored j) (right (suc j) (omega arith)))))

pub least_wrong : (kind : SumKind) (cs : List (List ℕ)) (stored : List ℕ) (i : ℕ) → i < length cs → ¬ IsRight kind cs stored i → ((j : ℕ) → j < i → IsRight kind cs stored j) → first_wrong kind cs stored ≡ Some i
unfolding first_wrong
least_wrong kind [] stored i within wrong right = absurd (omega arith)
least_wrong kind (c ∷ cs) stored zero within wrong right = rw (first_not kind c cs stored wrong) refl
least_wrong kind (c ∷ cs) stored (suc i) within wrong right =
    rw (first_right kind c cs stored (right 0 (omega arith)))
    (ap (option_map suc) (least_wrong kind cs (drop 4 stored) i (omega arith) (λ r. wrong (cast (sym (later_right kind c cs stored i)) r)) (λ j less. cast (later_right kind c cs stored j) (right (suc j) (omega arith)))))

-- It is one of the chunks.
wrong_within : (kind : SumKind) (cs : List (List ℕ)) (stored : List ℕ) → IfSome (first_wrong kind cs stored) (λ i. i < length cs)
unfolding first_wrong
wrong_within kind [] stored = tt
wrong_within kind (c ∷ cs) stored =
    elim (sum_of kind c == from_be_bytes w32 (take 4 stored)) as (λ b. IfSome (if b then option_map suc (first_wrong kind cs (drop 4 stored)) else Some 0) (λ i. i < suc (length cs))) [
      | true ↦ one_more (first_wrong kind cs (drop 4 stored)) (length cs) (wrong_within kind cs (drop 4 stored))
      | false ↦ omega arith
    ] where
      one_more : (o : Option ℕ) (n : ℕ) → IfSome o (λ i. i < n) → IfSome (option_map suc o) (λ i. i < suc n)
      one_more None n h = tt
      one_more (Some i) n h = omega arith

is_number : (a b : ℕ) → (a == b) ≡ true → a ≡ b
is_number a b e = grind (arith, common_steps, nat_tests)

fits_sums : (o : Option ℕ) (n m : ℕ) → m ≡ 4 * n → IfSome o (λ i. i < n) → IfSome o (λ i. i < m / 4)
fits_sums None n m e h = tt
fits_sums (Some i) n m e h = omega (arith, e, h)

-- It has one of the sums.
bad_within : (r : Rule) (first : ℕ) (body stored : List ℕ) → IfSome (bad_from r first body stored) (λ i. i < length stored / 4)
unfolding bad_from
bad_within r first body stored =
    let cs = summed_chunks r.kind first r.chunk body in
    elim (length stored == 4 * length cs) as (λ b. (length stored == 4 * length cs) ≡ b → IfSome (if b then first_wrong r.kind cs stored else None) (λ i. i < length stored / 4)) [
      | true ↦ λ e. fits_sums (first_wrong r.kind cs stored) (length cs) (length stored) (is_number (length stored) (4 * length cs) e) (wrong_within r.kind cs stored)
      | false ↦ λ e. tt
    ] refl

-- Where there aren't as many sums as chunks, none is bad.
pub bad_uncounted : (r : Rule) (first : ℕ) (body stored : List ℕ) → ¬ (length stored ≡ 4 * length (summed_chunks r.kind first r.chunk body)) → None ≡ bad_from r first body stored
unfolding bad_from
bad_uncounted r first body stored other = rw (other_number _ _ other) refl

wrong_is : (kind : SumKind) (cs : List (List ℕ)) (stored : List ℕ) (found : Option ℕ) → IfSome found (λ i. i < length cs) → IfSome found (λ i. ¬ IsRight kind cs stored i)
    → IfSome found (λ i. (j : ℕ) → j < i → IsRight kind cs stored j) → IfNone found ((j : ℕ) → j < length cs → IsRight kind cs stored j) → found ≡ first_wrong kind cs stored
wrong_is kind cs stored None within wrong least none = sym (all_right kind cs stored none)
wrong_is kind cs stored (Some i) within wrong least none = sym (least_wrong kind cs stored i within wrong least)

-- What a search for the least bad chunk finds.
pub bad_is : (r : Rule) (first : ℕ) (body stored : List ℕ) (found : Option ℕ) → length stored ≡ 4 * length (summed_chunks r.kind first r.chunk body)
    → IfSome found (λ i. i < length (summed_chunks r.kind first r.chunk body))
    → IfSome found (λ i. ¬ IsRight r.kind (summed_chunks r.kind first r.chunk body) stored i)
    → IfSome found (λ i. (j : ℕ) → j < i → IsRight r.kind (summed_chunks r.kind first r.chunk body) stored j)
    → IfNone found ((j : ℕ) → j < length (summed_chunks r.kind first r.chunk body) → IsRight r.kind (summed_chunks r.kind first r.chunk body) stored j)
    → found ≡ bad_from r first body stored
unfolding bad_from
bad_is r first body stored found counted within wrong least none =
    rw (same_number _ _ counted) (wrong_is r.kind (summed_chunks r.kind first r.chunk body) stored found within wrong least none)

bad_of_within : (rule : Option Rule) (p : Packet) → IfSome (bad_under rule p) (λ i. i < length p.sums / 4)
bad_of_within None p = tt
bad_of_within (Some r) p = bad_within r (first_len r (nat_abs p.offset)) p.body p.sums

-- A packet's event is lawful.
pub packet_lawful : (rule : Option Rule) (p : Packet) (bad : Option ℕ) → bad ≡ bad_under rule p → IfSome bad (λ i. i < length p.sums / 4)
packet_lawful rule p bad is = subst (λ o. IfSome o (λ i. i < length p.sums / 4)) (sym is) (bad_of_within rule p)
