-- Laws of slots: what a block's slot shows, and what a write to it changes.
use Rattle.std.proofs.Common.{◌≡◌, ◌==◌, ◌||◌, ℕ, Bool, true, false, cond, List, [], ◌∷◌, ◌++◌, map, get_or, set, Option, Some, None, is_some, zero, suc, arith, refl, sym, ap, ◌∙◌}
use Rattle.std.specs.List.{position_from}
use Rattle.std.specs.Option.{option_or}
use Rattle.std.specs.Str.{bytes_eq}
use Rattle.std.proofs.lemmas.Grind.{common_steps}
use Rattle.std.proofs.lemmas.Bool.Decides.{nat_tests}
use Rattle.std.proofs.lemmas.List.{map-append}
use Rattle.hd_base.specs.Blocks.{is_this, is_of_block, block_of}
use Rattle.hd_base.specs.FileMaps.{FileMap, part_of, rest_of, beside, marked, OnlyOf}
use Rattle.mem_ports.specs.Apart.{is_among, all_apart}
use Rattle.mem_ports.specs.Entries.{look, present, all_of_block}
use Rattle.mem_ports.specs.Slots.{files_of, lent_of, blocks_apart, present_in}
use Rattle.mem_ports.specs.declared.slots.Slot.{Slot}
use Rattle.mem_ports.proofs.Places.{IsPlace, IsNowhere, place_found, nowhere_found, place-passes}
use Rattle.mem_ports.proofs.ApartLaws.{all_apart-push}
use Rattle.mem_ports.proofs.NameLaws.{is_among-append}
use Rattle.mem_ports.proofs.EntryLaws.{look-other_block, present-look}

-- the slot is this block's
abbrev pub is_slot : ℕ → Slot → Bool
is_slot block s = s.block.0 == block

-- the place of a block's slot
abbrev pub slot_place : List Slot → ℕ → Option ℕ
slot_place slots block = position_from (λ s. s.block.0 == block) 0 slots

same_number : (a b : ℕ) → (a == b) ≡ true → a ≡ b
same_number a b e = grind (arith, nat_tests)

one_block_of : (a b : ℕ) (o : Option ℕ) → is_this a o ≡ true → is_this b o ≡ true → a ≡ b
one_block_of a b None p q = absurd (cc p)
one_block_of a b (Some n) p q = grind (arith, nat_tests)

-- a name of one block is of no other
other_block : (a b : ℕ) (name : List ℕ) → (a == b) ≡ false → is_of_block b name ≡ true → is_of_block a name ≡ false
other_block a b name apart own =
    elim (is_of_block a name) as (λ v. is_of_block a name ≡ v → v ≡ false) [
      | true ↦ λ here. let one = one_block_of a b (block_of name) here own in absurd (grind (arith, nat_tests))
      | false ↦ λ here. refl
    ] refl

later_cond : {V : Type 0} (a b : Bool) (v w rest : V) → (b ≡ true → a ≡ false) → cond a v (cond b w rest) ≡ cond b w (cond a v rest)
later_cond true true v w rest apart = absurd (cc (apart refl))
later_cond true false v w rest apart = refl
later_cond false true v w rest apart = refl
later_cond false false v w rest apart = refl

first_cond : {V : Type 0} (a : Bool) (v w rest : V) → cond a v rest ≡ cond a v (cond a w rest)
first_cond true v w rest = refl
first_cond false v w rest = refl

files_set : (ss : List Slot) (block i : ℕ) (new : Slot) (name : List ℕ) → IsPlace (is_slot block) ss i → new.block.0 ≡ block → files_of (set ss i new) name ≡ cond (is_of_block block name) (look new.table.entries.items name) (files_of ss name)
files_set [] block i new name at same = absurd at
files_set (s ∷ ss) block zero new name at same =
    let old : s.block.0 ≡ block = same_number s.block.0 block at in
    rw (old, same) (first_cond (is_of_block block name) (look new.table.entries.items name) (look s.table.entries.items name) (files_of ss name))
files_set (s ∷ ss) block (suc i) new name at same =
    ap (λ v. cond (is_of_block s.block.0 name) (look s.table.entries.items name) v) (files_set ss block i new name at.1 same) ∙ later_cond (is_of_block s.block.0 name) (is_of_block block name) (look s.table.entries.items name) (look new.table.entries.items name) (files_of ss name) (other_block s.block.0 block name at.0)

files_at : (ss : List Slot) (block i : ℕ) (d : Slot) (name : List ℕ) → IsPlace (is_slot block) ss i → is_of_block block name ≡ true → files_of ss name ≡ look (get_or ss i d).table.entries.items name
files_at [] block i d name at own = absurd at
files_at (s ∷ ss) block zero d name at own =
    let here : is_of_block s.block.0 name ≡ true = rw (same_number s.block.0 block at) own in rw here refl
files_at (s ∷ ss) block (suc i) d name at own =
    let here : is_of_block s.block.0 name ≡ false = other_block s.block.0 block name at.0 own in rw here (files_at ss block i d name at.1 own)

lent_first : (b n block : ℕ) (v w rest : Bool) → n ≡ block → cond (b == block) v rest ≡ cond (b == block) v (cond (b == n) w rest)
lent_first b n block v w rest same = rw same (first_cond (b == block) v w rest)

lent_later : (b n block : ℕ) (v w rest : Bool) → (n == block) ≡ false → cond (b == n) v (cond (b == block) w rest) ≡ cond (b == block) w (cond (b == n) v rest)
lent_later b n block v w rest apart = later_cond (b == n) (b == block) v w rest (λ here. grind (arith, nat_tests))

lent_set : (ss : List Slot) (block i : ℕ) (new : Slot) (b : ℕ) → IsPlace (is_slot block) ss i → new.block.0 ≡ block → lent_of (set ss i new) b ≡ marked (lent_of ss) block new.lent b
lent_set [] block i new b at same = absurd at
lent_set (s ∷ ss) block zero new b at same = rw same (lent_first b s.block.0 block new.lent s.lent (lent_of ss b) (same_number s.block.0 block at))
lent_set (s ∷ ss) block (suc i) new b at same =
    ap (λ v. cond (b == s.block.0) s.lent v) (lent_set ss block i new b at.1 same) ∙ lent_later b s.block.0 block s.lent new.lent (lent_of ss b) at.0

lent_at : (ss : List Slot) (block i : ℕ) (d : Slot) → IsPlace (is_slot block) ss i → lent_of ss block ≡ (get_or ss i d).lent
lent_at [] block i d at = absurd at
lent_at (s ∷ ss) block zero d at = let here : (block == s.block.0) ≡ true = grind (arith, nat_tests) in rw here refl
lent_at (s ∷ ss) block (suc i) d at =
    let apart : (s.block.0 == block) ≡ false = at.0 in
    let here : (block == s.block.0) ≡ false = grind (arith, nat_tests) in rw here (lent_at ss block i d at.1)

blocks_set : (ss : List Slot) (block i : ℕ) (new : Slot) → IsPlace (is_slot block) ss i → new.block.0 ≡ block → map (λ s. s.block.0) (set ss i new) ≡ map (λ s. s.block.0) ss
blocks_set [] block i new at same = absurd at
blocks_set (s ∷ ss) block zero new at same = ap (λ n. n ∷ map (λ s. s.block.0) ss) (same ∙ sym (same_number s.block.0 block at))
blocks_set (s ∷ ss) block (suc i) new at same = ap (λ ns. s.block.0 ∷ ns) (blocks_set ss block i new at.1 same)

-- What the slot at a block's place is, and what a write to it changes.
pub block-at : (ss : List Slot) (block i : ℕ) (old : Slot) → Some i ≡ slot_place ss block → old ≡ get_or ss i old → old.block.0 ≡ block
block-at ss block i old found is = same_number old.block.0 block (rw (← is) at (place-passes (is_slot block) ss i old (place_found (is_slot block) ss i found)))

pub lent-at : (ss : List Slot) (block i : ℕ) (old : Slot) → Some i ≡ slot_place ss block → old ≡ get_or ss i old → lent_of ss block ≡ old.lent
lent-at ss block i old found is = lent_at ss block i old (place_found (is_slot block) ss i found) ∙ sym (ap (λ s. s.lent) is)

pub lent-written : (ss : List Slot) (block i : ℕ) (old new : Slot) → Some i ≡ slot_place ss block → old ≡ get_or ss i old → new.block.0 ≡ old.block.0 → lent_of (set ss i new) ≡ marked (lent_of ss) block new.lent
lent-written ss block i old new found is same = λ j b. lent_set ss block i new b (place_found (is_slot block) ss i found) (same ∙ block-at ss block i old found is) j

pub apart-written : (ss : List Slot) (block i : ℕ) (old new : Slot) → Some i ≡ slot_place ss block → old ≡ get_or ss i old → new.block.0 ≡ old.block.0 → blocks_apart ss ≡ true → blocks_apart (set ss i new) ≡ true
apart-written ss block i old new found is same apart =
    ap (all_apart ◌==◌) (blocks_set ss block i new (place_found (is_slot block) ss i found) (same ∙ block-at ss block i old found is)) ∙ apart

part_at : (ss : List Slot) (block i : ℕ) (old : Slot) (name : List ℕ) → Some i ≡ slot_place ss block → old ≡ get_or ss i old → look old.table.entries.items name ≡ part_of block (files_of ss) name
part_at ss block i old name found is =
    elim (is_of_block block name) as (λ b. is_of_block block name ≡ b → look old.table.entries.items name ≡ cond b (files_of ss name) None) [
      | true ↦ λ own. ap (λ s. look s.table.entries.items name) is ∙ sym (files_at ss block i old name (place_found (is_slot block) ss i found) own)
      | false ↦ λ other. look-other_block block old.table.entries.items name (ap (λ b. all_of_block b old.table.entries.items) (sym (block-at ss block i old found is)) ∙ old.own) other
    ] refl

-- The slot's files are the block's.
pub files-lent : (ss : List Slot) (block i : ℕ) (old : Slot) → Some i ≡ slot_place ss block → old ≡ get_or ss i old → look old.table.entries.items ≡ part_of block (files_of ss)
files-lent ss block i old found is = λ j name. part_at ss block i old name found is j

-- A write to the block's slot leaves the files of other blocks.
pub others-kept : (ss : List Slot) (block i : ℕ) (old new : Slot) → Some i ≡ slot_place ss block → old ≡ get_or ss i old → new.block.0 ≡ old.block.0 → (name : List ℕ) → is_of_block block name ≡ false → files_of (set ss i new) name ≡ files_of ss name
others-kept ss block i old new found is same name other =
    files_set ss block i new name (place_found (is_slot block) ss i found) (same ∙ block-at ss block i old found is)
    ∙ ap (λ b. cond b (look new.table.entries.items name) (files_of ss name)) other

-- Without them the others are left.
pub files-left : (ss : List Slot) (block i : ℕ) (old new : Slot) → Some i ≡ slot_place ss block → old ≡ get_or ss i old → new.block.0 ≡ old.block.0 → new.table.entries.items ≡ [] → files_of (set ss i new) ≡ rest_of block (files_of ss)
files-left ss block i old new found is same empty = λ j name. (files_set ss block i new name (place_found (is_slot block) ss i found) (same ∙ block-at ss block i old found is) ∙ ap (λ es. cond (is_of_block block name) (look es name) (files_of ss name)) empty) j

or_none : (o : Option (List ℕ)) → o ≡ option_or o None
or_none None = refl
or_none (Some v) = refl

back_at : (block : ℕ) (entries : FileMap) (all : List ℕ → Option (List ℕ)) (name : List ℕ) (mine : Option (List ℕ)) → (is_of_block block name ≡ true → (mine ≡ entries name) × (all name ≡ None)) → (is_of_block block name ≡ false → entries name ≡ None) → cond (is_of_block block name) mine (all name) ≡ option_or (entries name) (all name)
back_at block entries all name mine own other =
    elim (is_of_block block name) as (λ b. is_of_block block name ≡ b → cond b mine (all name) ≡ option_or (entries name) (all name)) [
      | true ↦ λ here. (own here).0 ∙ or_none (entries name) ∙ ap (option_or (entries name)) (sym (own here).1)
      | false ↦ λ here. ap (λ o. option_or o (all name)) (sym (other here))
    ] refl

-- What comes back stands beside the others.
pub files-back : (ss : List Slot) (block i : ℕ) (old new : Slot) (m : FileMap) → Some i ≡ slot_place ss block → old ≡ get_or ss i old → new.block.0 ≡ old.block.0 → old.table.entries.items ≡ [] → ((name : List ℕ) → is_of_block block name ≡ true → look new.table.entries.items name ≡ m name) → OnlyOf block (Some m) → files_of (set ss i new) ≡ beside (files_of ss) m
files-back ss block i old new m found is same empty mine only =
    let place = place_found (is_slot block) ss i found in
    λ j name. (files_set ss block i new name place (same ∙ block-at ss block i old found is) ∙ back_at block m (files_of ss) name (look new.table.entries.items name)
    (λ own. (mine name own, files_at ss block i old name place own ∙ ap (λ s. look s.table.entries.items name) (sym is) ∙ ap (λ es. look es name) empty))
    (λ other. only name other)) j

-- A block without a slot.
lent_nowhere : (ss : List Slot) (block : ℕ) → IsNowhere (is_slot block) ss → lent_of ss block ≡ false
lent_nowhere [] block none = refl
lent_nowhere (s ∷ ss) block none =
    let apart : (s.block.0 == block) ≡ false = none.0 in
    let here : (block == s.block.0) ≡ false = grind (arith, nat_tests) in rw here (lent_nowhere ss block none.1)

among_nowhere : (ss : List Slot) (block : ℕ) → IsNowhere (is_slot block) ss → is_among ◌==◌ (map (λ s. s.block.0) ss) block ≡ false
among_nowhere [] block none = refl
among_nowhere (s ∷ ss) block none = let here : (s.block.0 == block) ≡ false = none.0 in rw here (among_nowhere ss block none.1)

pub lent-nowhere : (ss : List Slot) (block : ℕ) → None ≡ slot_place ss block → lent_of ss block ≡ false
lent-nowhere ss block none = lent_nowhere ss block (nowhere_found (is_slot block) ss none)

-- A new slot behind all others, which is empty and isn't lent, changes nothing.
files_push : (ss : List Slot) (new : Slot) (name : List ℕ) → new.table.entries.items ≡ [] → files_of (ss ++ new ∷ []) name ≡ files_of ss name
files_push [] new name empty = rw empty (elim (is_of_block new.block.0 name) as (λ b. cond {A = Option (List ℕ)} b None None ≡ None) [ true ↦ refl | false ↦ refl ])
files_push (s ∷ ss) new name empty = ap (λ v. cond (is_of_block s.block.0 name) (look s.table.entries.items name) v) (files_push ss new name empty)

lent_push : (ss : List Slot) (new : Slot) (b : ℕ) → new.lent ≡ false → lent_of (ss ++ new ∷ []) b ≡ lent_of ss b
lent_push [] new b still = rw still (elim (b == new.block.0) as (λ v. cond v false false ≡ false) [ true ↦ refl | false ↦ refl ])
lent_push (s ∷ ss) new b still = ap (λ v. cond (b == s.block.0) s.lent v) (lent_push ss new b still)

pub files-push : (ss : List Slot) (new : Slot) → new.table.entries.items ≡ [] → files_of (ss ++ new ∷ []) ≡ files_of ss
files-push ss new empty = λ j name. files_push ss new name empty j

pub lent-push : (ss : List Slot) (new : Slot) → new.lent ≡ false → lent_of (ss ++ new ∷ []) ≡ lent_of ss
lent-push ss new still = λ j b. lent_push ss new b still j

number_comm : (a b : ℕ) → (a == b) ≡ (b == a)
number_comm a b = grind (arith, nat_tests)

pub apart-push : (ss : List Slot) (new : Slot) (block : ℕ) → None ≡ slot_place ss block → new.block.0 ≡ block → blocks_apart ss ≡ true → blocks_apart (ss ++ new ∷ []) ≡ true
apart-push ss new block none same apart =
    ap (all_apart ◌==◌) (map-append (λ s. s.block.0) ss (new ∷ [])) ∙ all_apart-push ◌==◌ number_comm (map (λ s. s.block.0) ss) new.block.0 apart (ap (is_among ◌==◌ (map (λ s. s.block.0) ss)) same ∙ among_nowhere ss block (nowhere_found (is_slot block) ss none))

-- no other slot has a name of this block
among_other : (ss : List Slot) (block : ℕ) (name : List ℕ) → is_among ◌==◌ (map (λ s. s.block.0) ss) block ≡ false → is_of_block block name ≡ true → is_among bytes_eq (present_in ss) name ≡ false
among_other [] block name none own = refl
among_other (s ∷ ss) block name none own =
    let rest = among_other ss block name (grind (arith, common_steps)) own in
    let apart : (s.block.0 == block) ≡ false = grind (arith, common_steps) in
    let here = present-look s.table.entries.items name s.table.apart in
    let gone = look-other_block s.block.0 s.table.entries.items name s.own (other_block s.block.0 block name apart own) in
    is_among-append bytes_eq (present s.table.entries.items) (present_in ss) name ∙ ap (λ b. b || is_among bytes_eq (present_in ss) name) (here ∙ ap is_some gone) ∙ rest

or_false : (b : Bool) → (b || false) ≡ b
or_false true = refl
or_false false = refl

-- The names of the files are those at which something is found.
pub present_in-files_of : (ss : List Slot) (name : List ℕ) → blocks_apart ss ≡ true → is_among bytes_eq (present_in ss) name ≡ is_some (files_of ss name)
present_in-files_of [] name apart = refl
present_in-files_of (s ∷ ss) name apart =
    let rest = present_in-files_of ss name (grind (arith, common_steps)) in
    let alone : is_among ◌==◌ (map (λ s. s.block.0) ss) s.block.0 ≡ false = grind (arith, common_steps) in
    let here = present-look s.table.entries.items name s.table.apart in
    is_among-append bytes_eq (present s.table.entries.items) (present_in ss) name ∙ (
    elim (is_of_block s.block.0 name) as (λ b. is_of_block s.block.0 name ≡ b → (is_among bytes_eq (present s.table.entries.items) name || is_among bytes_eq (present_in ss) name) ≡ is_some (cond b (look s.table.entries.items name) (files_of ss name))) [
      | true ↦ λ own. let none = among_other ss s.block.0 name alone own in rw none (or_false (is_among bytes_eq (present s.table.entries.items) name) ∙ here)
      | false ↦ λ other. ap (λ b. b || is_among bytes_eq (present_in ss) name) (here ∙ ap is_some (look-other_block s.block.0 s.table.entries.items name s.own other)) ∙ rest
    ] refl
    )
