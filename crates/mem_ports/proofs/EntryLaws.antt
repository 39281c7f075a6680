-- Laws of entries: what the entry at a name's place shows, and what a write to it changes.
use Rattle.std.proofs.Common.{◌≡◌, ℕ, ◌+◌, ◌≤◌, Bool, true, false, cond, List, [], ◌∷◌, ◌++◌, length, get_or, set, Option, Some, None, option_map, get_or-set_same, zero, suc, arith, refl, sym, ap, ◌∙◌, vec_capacity, IsSome, IfSome, is_some}
use Rattle.std.specs.List.{position_from}
use Rattle.std.proofs.lemmas.List.{map-append}
use Rattle.std.specs.Str.{bytes_eq}
use Rattle.std.specs.Map.{update}
use Rattle.std.proofs.lemmas.Grind.{common_steps}
use Rattle.std.proofs.lemmas.Slice.Eq.{bytes_eq-Decides}
use Rattle.hd_base.specs.Blocks.{is_of_block}
use Rattle.hd_base.specs.FileMaps.{FileMap, KeepsRoom, changed}
use Rattle.hd_base.proofs.FileLaws.{bytes_eq-same, bytes_eq-other}
use Rattle.mem_ports.specs.declared.entries.Entry.{Entry}
use Rattle.mem_ports.specs.Apart.{is_among, all_apart}
use Rattle.mem_ports.specs.Entries.{shown, look, space, names_of, names_apart, present, of_block, all_of_block}
use Rattle.mem_ports.proofs.Places.{IsPlace, IsNowhere, place_found, nowhere_found, place-within, place-passes, place-set}
use Rattle.mem_ports.proofs.ApartLaws.{all_apart-push}

-- the place of a name's entry
abbrev pub place_of : List Entry → List ℕ → Option ℕ
place_of entries name = position_from (λ e. bytes_eq e.name name) 0 entries

-- Two names that are found equal are one.
pub same_name : (a b : List ℕ) → bytes_eq a b ≡ true → a ≡ b
same_name a b same = grind (arith, common_steps, bytes_eq-Decides a b)

-- the entry is of this name
abbrev is_named : List ℕ → Entry → Bool
is_named name e = bytes_eq e.name name

named : (e : Entry) (name : List ℕ) → e.name ≡ name → is_named name e ≡ true
named e name same = rw same (bytes_eq-same name)

look_by : (es : List Entry) (name : List ℕ) (i : ℕ) (d : Entry) → IsPlace (is_named name) es i → look es name ≡ shown (get_or es i d)
look_by [] name i d at = absurd at
look_by (e ∷ es) name zero d at = let here : bytes_eq e.name name ≡ true = at in rw here refl
look_by (e ∷ es) name (suc i) d at = let here : bytes_eq e.name name ≡ false = at.0 in rw here (look_by es name i d at.1)

space_by : (es : List Entry) (name : List ℕ) (i : ℕ) (d : Entry) → IsPlace (is_named name) es i → space es name ≡ vec_capacity (get_or es i d).bytes + 1
space_by [] name i d at = absurd at
space_by (e ∷ es) name zero d at = let here : bytes_eq e.name name ≡ true = at in rw here refl
space_by (e ∷ es) name (suc i) d at = let here : bytes_eq e.name name ≡ false = at.0 in rw here (space_by es name i d at.1)

-- What stands at a name's place.
pub name-at : (es : List Entry) (name : List ℕ) (i : ℕ) (e : Entry) → Some i ≡ place_of es name → e ≡ get_or es i e → e.name ≡ name
name-at es name i e found is = same_name e.name name (rw (← is) at (place-passes (is_named name) es i e (place_found (is_named name) es i found)))

pub look-at : (es : List Entry) (name : List ℕ) (i : ℕ) (e : Entry) → Some i ≡ place_of es name → e ≡ get_or es i e → look es name ≡ shown e
look-at es name i e found is = look_by es name i e (place_found (is_named name) es i found) ∙ sym (ap shown is)

pub space-at : (es : List Entry) (name : List ℕ) (i : ℕ) (e : Entry) → Some i ≡ place_of es name → e ≡ get_or es i e → space es name ≡ vec_capacity e.bytes + 1
space-at es name i e found is = space_by es name i e (place_found (is_named name) es i found) ∙ sym (ap (λ x. vec_capacity x.bytes + 1) is)

first_set : (x e : Entry) (m : FileMap) (name q : List ℕ) → x.name ≡ name → e.name ≡ name → cond (bytes_eq e.name q) (shown e) (m q) ≡ cond (bytes_eq name q) (shown e) (cond (bytes_eq x.name q) (shown x) (m q))
first_set x e m name q old new = rw (old, new) (elim (bytes_eq name q) as (λ b. cond b (shown e) (m q) ≡ cond b (shown e) (cond b (shown x) (m q))) [ true ↦ refl | false ↦ refl ])

later_set : {V : Type 0} (n name q : List ℕ) (v w rest : V) → bytes_eq n name ≡ false → cond (bytes_eq n q) v (cond (bytes_eq name q) w rest) ≡ cond (bytes_eq name q) w (cond (bytes_eq n q) v rest)
later_set n name q v w rest apart = grind (arith, common_steps, bytes_eq-Decides n q, bytes_eq-Decides name q, bytes_eq-Decides n name)

look_set : (es : List Entry) (name : List ℕ) (i : ℕ) (e : Entry) (q : List ℕ) → IsPlace (is_named name) es i → e.name ≡ name → look (set es i e) q ≡ update bytes_eq (look es) name (shown e) q
look_set [] name i e q at same = absurd at
look_set (x ∷ es) name zero e q at same = first_set x e (look es) name q (same_name x.name name at) same
look_set (x ∷ es) name (suc i) e q at same =
    ap (λ v. cond (bytes_eq x.name q) (shown x) v) (look_set es name i e q at.1 same) ∙ later_set x.name name q (shown x) (shown e) (look es q) at.0

space_set : (es : List Entry) (name : List ℕ) (i : ℕ) (e d : Entry) (q : List ℕ) → IsPlace (is_named name) es i → e.name ≡ name → vec_capacity (get_or es i d).bytes ≤ vec_capacity e.bytes → space es q ≤ space (set es i e) q
space_set [] name i e d q at same more = absurd at
space_set (x ∷ es) name zero e d q at same more =
    let old : x.name ≡ name = same_name x.name name at in
    rw (old, same) (elim (bytes_eq name q) as (λ b. cond b (vec_capacity x.bytes + 1) (space es q) ≤ cond b (vec_capacity e.bytes + 1) (space es q)) [ true ↦ omega arith | false ↦ omega arith ])
space_set (x ∷ es) name (suc i) e d q at same more =
    let rest = space_set es name i e d q at.1 same more in
    elim (bytes_eq x.name q) as (λ b. cond b (vec_capacity x.bytes + 1) (space es q) ≤ cond b (vec_capacity x.bytes + 1) (space (set es i e) q)) [ true ↦ omega arith | false ↦ rest ]

names_set : (es : List Entry) (name : List ℕ) (i : ℕ) (e : Entry) → IsPlace (is_named name) es i → e.name ≡ name → names_of (set es i e) ≡ names_of es
names_set [] name i e at same = absurd at
names_set (x ∷ es) name zero e at same = ap (λ n. n ∷ names_of es) (same ∙ sym (same_name x.name name at))
names_set (x ∷ es) name (suc i) e at same = ap (λ ns. x.name ∷ ns) (names_set es name i e at.1 same)

-- A write to the entry of a name.
pub look-written : (es : List Entry) (name : List ℕ) (i : ℕ) (old new : Entry) (v : Option (List ℕ)) → Some i ≡ place_of es name → old ≡ get_or es i old → new.name ≡ old.name → shown new ≡ v → look (set es i new) ≡ update bytes_eq (look es) name v
look-written es name i old new v found is same is_shown =
    let named : new.name ≡ name = same ∙ name-at es name i old found is in
    let all : look (set es i new) ≡ update bytes_eq (look es) name (shown new) = λ j q. look_set es name i new q (place_found (is_named name) es i found) named j in
    all ∙ ap (update bytes_eq (look es) name) is_shown

shown_changed : (there : Bool) (old new : List ℕ) (f : List ℕ → List ℕ) → new ≡ f old → cond there (Some new) None ≡ option_map f (cond there (Some old) None)
shown_changed true old new f is = ap Some is
shown_changed false old new f is = refl

pub look-changed : (es : List Entry) (name : List ℕ) (i : ℕ) (old new : Entry) (f : List ℕ → List ℕ) → Some i ≡ place_of es name → old ≡ get_or es i old → new.name ≡ old.name → new.there ≡ old.there → new.bytes.items ≡ f old.bytes.items → look (set es i new) ≡ changed (look es) name f
look-changed es name i old new f found is same there bytes =
    look-written es name i old new (option_map f (look es name)) found is same
    (ap (λ t. cond t (Some new.bytes.items) None) there ∙ shown_changed old.there old.bytes.items new.bytes.items f bytes ∙ ap (option_map f) (sym (look-at es name i old found is)))

pub room-written : (es : List Entry) (name : List ℕ) (i : ℕ) (old new : Entry) → Some i ≡ place_of es name → old ≡ get_or es i old → new.name ≡ old.name → vec_capacity old.bytes ≤ vec_capacity new.bytes → KeepsRoom (space es) (space (set es i new))
room-written es name i old new found is same more q =
    space_set es name i new old q (place_found (is_named name) es i found) (same ∙ name-at es name i old found is) (let room = ap (λ x. vec_capacity x.bytes) is in omega (arith, room))

pub apart-written : (es : List Entry) (name : List ℕ) (i : ℕ) (old new : Entry) → Some i ≡ place_of es name → old ≡ get_or es i old → new.name ≡ old.name → names_apart es ≡ true → names_apart (set es i new) ≡ true
apart-written es name i old new found is same apart = ap (all_apart bytes_eq) (names_set es name i new (place_found (is_named name) es i found) (same ∙ name-at es name i old found is)) ∙ apart

-- the room of the name after the write
pub room-at : (es : List Entry) (name : List ℕ) (i : ℕ) (old new : Entry) → Some i ≡ place_of es name → old ≡ get_or es i old → new.name ≡ old.name → space (set es i new) name ≡ vec_capacity new.bytes + 1
room-at es name i old new found is same =
    let place = place_found (is_named name) es i found in
    space_by (set es i new) name i new (place-set (is_named name) es i new place (named new name (same ∙ name-at es name i old found is))) ∙ ap (λ x. vec_capacity x.bytes + 1) (get_or-set_same es i new new (place-within (is_named name) es i place))

place_fits : (there : Bool) (bytes : List ℕ) (place : ℕ) → IfSome (cond there (Some bytes) None) (λ b. place ≤ length b) → IsSome (cond there (Some bytes) None) → place ≤ length bytes
place_fits true bytes place within some = within
place_fits false bytes place within some = absurd (cc some)

-- a place within a file that is there
pub place-fits : (es : List Entry) (name : List ℕ) (i : ℕ) (old : Entry) (place : ℕ) → Some i ≡ place_of es name → old ≡ get_or es i old → IfSome (look es name) (λ b. place ≤ length b) → IsSome (look es name) → place ≤ length old.bytes.items
place-fits es name i old place found is within some =
    let is_shown : look es name ≡ shown old = look-at es name i old found is in
    place_fits old.there old.bytes.items place (rw is_shown at within) (rw is_shown at some)

-- A name without an entry.
look_nowhere : (es : List Entry) (name : List ℕ) → IsNowhere (is_named name) es → look es name ≡ None
look_nowhere [] name none = refl
look_nowhere (e ∷ es) name none = let here : bytes_eq e.name name ≡ false = none.0 in rw here (look_nowhere es name none.1)

space_nowhere : (es : List Entry) (name : List ℕ) → IsNowhere (is_named name) es → space es name ≡ 0
space_nowhere [] name none = refl
space_nowhere (e ∷ es) name none = let here : bytes_eq e.name name ≡ false = none.0 in rw here (space_nowhere es name none.1)

among_nowhere : (es : List Entry) (name : List ℕ) → IsNowhere (is_named name) es → is_among bytes_eq (names_of es) name ≡ false
among_nowhere [] name none = refl
among_nowhere (e ∷ es) name none = let here : bytes_eq e.name name ≡ false = none.0 in rw here (among_nowhere es name none.1)

pub look-nowhere : (es : List Entry) (name : List ℕ) → None ≡ place_of es name → look es name ≡ None
look-nowhere es name none = look_nowhere es name (nowhere_found (is_named name) es none)

pub space-nowhere : (es : List Entry) (name : List ℕ) → None ≡ place_of es name → space es name ≡ 0
space-nowhere es name none = space_nowhere es name (nowhere_found (is_named name) es none)

same_at : (m : FileMap) (name : List ℕ) (v : Option (List ℕ)) (q : List ℕ) → m name ≡ v → update bytes_eq m name v q ≡ m q
same_at m name v q same = grind (arith, common_steps, bytes_eq-Decides name q)

-- A map that is given what it has is the same.
pub update-same : (m : FileMap) (name : List ℕ) (v : Option (List ℕ)) → m name ≡ v → update bytes_eq m name v ≡ m
update-same m name v same = λ i q. same_at m name v q same i

look_push : (es : List Entry) (e : Entry) (q : List ℕ) → e.there ≡ false → look (es ++ e ∷ []) q ≡ look es q
look_push [] e q gone = grind (arith, common_steps)
look_push (x ∷ es) e q gone = ap (λ v. cond (bytes_eq x.name q) (shown x) v) (look_push es e q gone)

-- An entry behind all others, for a name that has none yet and has no file.
pub look-push : (es : List Entry) (e : Entry) → e.there ≡ false → look (es ++ e ∷ []) ≡ look es
look-push es e gone = λ i q. look_push es e q gone i

pub space-push : (es : List Entry) (e : Entry) → KeepsRoom (space es) (space (es ++ e ∷ []))
space-push [] e q = omega arith
space-push (x ∷ es) e q =
    let rest = space-push es e q in
    elim (bytes_eq x.name q) as (λ b. cond b (vec_capacity x.bytes + 1) (space es q) ≤ cond b (vec_capacity x.bytes + 1) (space (es ++ e ∷ []) q)) [ true ↦ omega arith | false ↦ rest ]

space_push_at : (es : List Entry) (e : Entry) (name : List ℕ) → IsNowhere (is_named name) es → e.name ≡ name → space (es ++ e ∷ []) name ≡ vec_capacity e.bytes + 1
space_push_at [] e name none same = let here : bytes_eq e.name name ≡ true = named e name same in rw here refl
space_push_at (x ∷ es) e name none same = let here : bytes_eq x.name name ≡ false = none.0 in rw here (space_push_at es e name none.1 same)

pub space-push_at : (es : List Entry) (e : Entry) (name : List ℕ) → None ≡ place_of es name → e.name ≡ name → space (es ++ e ∷ []) name ≡ vec_capacity e.bytes + 1
space-push_at es e name none same = space_push_at es e name (nowhere_found (is_named name) es none) same

bytes_eq_comm : (a b : List ℕ) → bytes_eq a b ≡ bytes_eq b a
bytes_eq_comm a b = grind (arith, common_steps, bytes_eq-Decides a b, bytes_eq-Decides b a)

pub apart-push : (es : List Entry) (e : Entry) (name : List ℕ) → None ≡ place_of es name → e.name ≡ name → names_apart es ≡ true → names_apart (es ++ e ∷ []) ≡ true
apart-push es e name none same apart =
    ap (all_apart bytes_eq) (map-append (λ x. x.name) es (e ∷ [])) ∙ all_apart-push bytes_eq bytes_eq_comm (names_of es) e.name apart (ap (is_among bytes_eq (names_of es)) same ∙ among_nowhere es name (nowhere_found (is_named name) es none))

among-of_block : (block : ℕ) (es : List Entry) (name : List ℕ) → is_among bytes_eq (names_of es) name ≡ false → is_among bytes_eq (names_of (of_block block es)) name ≡ false
among-of_block block [] name none = refl
among-of_block block (e ∷ es) name none =
    let rest = among-of_block block es name (grind (arith, common_steps)) in
    let here : bytes_eq e.name name ≡ false = grind (arith, common_steps) in
    elim (is_of_block block e.name) as (λ b. is_among bytes_eq (names_of (cond b (e ∷ of_block block es) (of_block block es))) name ≡ false) [ true ↦ rw here rest | false ↦ rest ]

-- The entries of one block stay apart.
pub apart-of_block : (block : ℕ) (es : List Entry) → names_apart es ≡ true → names_apart (of_block block es) ≡ true
apart-of_block block [] apart = refl
apart-of_block block (e ∷ es) apart =
    let rest = apart-of_block block es (grind (arith, common_steps)) in
    let here = among-of_block block es e.name (grind (arith, common_steps)) in
    elim (is_of_block block e.name) as (λ b. names_apart (cond b (e ∷ of_block block es) (of_block block es)) ≡ true) [ true ↦ rw here rest | false ↦ rest ]

-- They look the same at a name of that block.
pub look-of_block : (block : ℕ) (es : List Entry) (name : List ℕ) → is_of_block block name ≡ true → look (of_block block es) name ≡ look es name
look-of_block block [] name own = refl
look-of_block block (e ∷ es) name own =
    let rest = look-of_block block es name own in
    elim (is_of_block block e.name) as (λ b. is_of_block block e.name ≡ b → look (cond b (e ∷ of_block block es) (of_block block es)) name ≡ look (e ∷ es) name) [
      | true ↦ λ here. rw rest refl
      | false ↦ λ here.
          let other : bytes_eq e.name name ≡ false = bytes_eq-other e.name name (λ same. absurd (cc (ap (is_of_block block) same, here, own))) in
          rw other rest
    ] refl

-- They are all of that block.
pub all-of_block : (block : ℕ) (es : List Entry) → all_of_block block (of_block block es) ≡ true
all-of_block block [] = refl
all-of_block block (e ∷ es) =
    elim (is_of_block block e.name) as (λ b. is_of_block block e.name ≡ b → all_of_block block (cond b (e ∷ of_block block es) (of_block block es)) ≡ true) [
      | true ↦ λ here. rw here (all-of_block block es)
      | false ↦ λ here. all-of_block block es
    ] refl

-- Entries of one block have no file of another.
pub look-other_block : (block : ℕ) (es : List Entry) (name : List ℕ) → all_of_block block es ≡ true → is_of_block block name ≡ false → look es name ≡ None
look-other_block block [] name own other = refl
look-other_block block (e ∷ es) name own other =
    let here : is_of_block block e.name ≡ true = grind (arith, common_steps) in
    let apart : bytes_eq e.name name ≡ false = bytes_eq-other e.name name (λ same. absurd (cc (ap (is_of_block block) same, here, other))) in
    rw apart (look-other_block block es name (grind (arith, common_steps)) other)

-- The names of the files are those at which something is found.
among-present : (es : List Entry) (name : List ℕ) → is_among bytes_eq (names_of es) name ≡ false → is_among bytes_eq (present es) name ≡ false
among-present [] name none = refl
among-present (e ∷ es) name none =
    let rest = among-present es name (grind (arith, common_steps)) in
    let here : bytes_eq e.name name ≡ false = grind (arith, common_steps) in
    elim e.there as (λ b. is_among bytes_eq (cond b (e.name ∷ present es) (present es)) name ≡ false) [ true ↦ rw here rest | false ↦ rest ]

pub present-look : (es : List Entry) (name : List ℕ) → names_apart es ≡ true → is_among bytes_eq (present es) name ≡ is_some (look es name)
present-look [] name apart = refl
present-look (e ∷ es) name apart =
    let rest = present-look es name (grind (arith, common_steps)) in
    let alone : is_among bytes_eq (names_of es) e.name ≡ false = grind (arith, common_steps) in
    elim (bytes_eq e.name name) as (λ b. bytes_eq e.name name ≡ b → is_among bytes_eq (present (e ∷ es)) name ≡ is_some (cond b (shown e) (look es name))) [
      | true ↦ λ here.
          let none : is_among bytes_eq (present es) name ≡ false = among-present es name (ap (is_among bytes_eq (names_of es)) (sym (same_name e.name name here)) ∙ alone) in
          elim e.there as (λ t. is_among bytes_eq (cond t (e.name ∷ present es) (present es)) name ≡ is_some (cond t (Some e.bytes.items) None)) [ true ↦ rw here refl | false ↦ none ]
      | false ↦ λ here.
          elim e.there as (λ t. is_among bytes_eq (cond t (e.name ∷ present es) (present es)) name ≡ is_some (look es name)) [ true ↦ rw here rest | false ↦ rest ]
    ] refl
