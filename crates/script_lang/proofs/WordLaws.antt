-- Lines, words and items from the front of a text.
use Rattle.std.proofs.Common.{◌≡◌, ◌≢◌, ◌==◌, ℕ, ◌+◌, ◌<◌, ◌&&◌, not, Bool, true, false, cond, List, [], ◌∷◌, ◌++◌, length, take, drop, refl, sym, ◌∙◌, ap, arith, one-add, append-nil, subst, inl, inr}
use Rattle.std.specs.List.{prefix_len, list_all}
use Rattle.std.proofs.lemmas.Bool.{and_parts, eqb-true}
use Rattle.std.proofs.lemmas.Bool.Decides.{eqb_tells}
use Rattle.script_lang.specs.Words.{into_first, begins_with_newline, lines_of, is_nothing, without_return, is_blank, begins_with_word, words_of, parts_of}

pub not_true : (b : Bool) → not b ≡ true → b ≡ false
not_true true e = cc
not_true false e = refl

pub not_false : (b : Bool) → not b ≡ false → b ≡ true
not_false true e = refl
not_false false e = cc

-- a test that can't pass
pub and_false : {A : Type 0} (b : Bool) (x y : A) → cond (b && false) x y ≡ y
and_false true x y = refl
and_false false x y = refl

-- the one byte of a line
one_byte : (b : Bool) (d : ℕ) (rest : List (List ℕ)) → cond (b && true) ([] ∷ rest) ((d ∷ []) ∷ rest) ≡ cond (b && true) [] (d ∷ []) ∷ rest
one_byte true d rest = refl
one_byte false d rest = refl

-- a test fails at the first element
abbrev pub Stops : (ℕ → Bool) → List ℕ → Type 0
Stops p [] = Unit {0}
Stops p (x ∷ xs) = p x ≡ false

-- the longest front that passes, and what stands behind it
pub record Splits (p : ℕ → Bool) (xs front behind : List ℕ) : Type 0 where
  pub parts : xs ≡ front ++ behind
  pub passes : list_all p front ≡ true
  pub stops : Stops p behind

longer : (p : ℕ → Bool) (x : ℕ) (xs front behind : List ℕ) → p x ≡ true → Splits p xs front behind → Splits p (x ∷ xs) (x ∷ front) behind
longer p x xs front behind pass s = record { parts = ap (λ l. x ∷ l) s.parts; passes = rw pass s.passes; stops = s.stops }

split_step : (p : ℕ → Bool) (x : ℕ) (xs : List ℕ) (n : ℕ) (b : Bool) → p x ≡ b → Splits p xs (take n xs) (drop n xs) → Splits p (x ∷ xs) (take (cond b (1 + n) 0) (x ∷ xs)) (drop (cond b (1 + n) 0) (x ∷ xs))
split_step p x xs n true e s = rw one-add (longer p x xs _ _ e s)
split_step p x xs n false e s = record { parts = refl; passes = refl; stops = e }

pub split_front : (p : ℕ → Bool) (xs : List ℕ) → Splits p xs (take (prefix_len p xs) xs) (drop (prefix_len p xs) xs)
split_front p [] = record { parts = refl; passes = refl; stops = tt }
split_front p (x ∷ xs) = split_step p x xs (prefix_len p xs) (p x) refl (split_front p xs)

-- what a slice was split into
pub split_is : (p : ℕ → Bool) (xs front behind : List ℕ) (n : ℕ) → n ≡ prefix_len p xs → front ≡ take n xs → behind ≡ drop n xs → Splits p xs front behind
split_is p xs front behind n e f g =
    let F : List ℕ → Type 0 = λ l. Splits p xs l behind in
    let B : List ℕ → Type 0 = λ l. Splits p xs (take (prefix_len p xs) xs) l in
    subst F (sym (f ∙ ap (λ k. take k xs) e)) (subst B (sym (g ∙ ap (λ k. drop k xs) e)) (split_front p xs))

pub nothing : (l : List ℕ) → length l ≡ 0 → l ≡ []
nothing [] e = refl
nothing (x ∷ xs) e = absurd (omega arith)

-- a test that found nothing, or something
pub none_there : (l : List ℕ) (b : Bool) → b ≡ (length l == 0) → b ≡ true → l ≡ []
none_there l b e t = nothing l (eqb-true (length l) 0 (sym e ∙ t))

pub some_there : (l : List ℕ) (b : Bool) → b ≡ (length l == 0) → b ≡ false → 0 < length l
some_there [] b e f = absurd (let h : true ≡ false = sym e ∙ f in cc)
some_there (x ∷ xs) b e f = omega arith

-- ---- lines

abbrev newline_free : List ℕ → Bool
newline_free cs = list_all (λ c. not (c == 10)) cs

-- a byte that doesn't end its line
lines_of-step : (c : ℕ) (cs : List ℕ) → (c == 10) ≡ false → begins_with_newline cs ≡ false → lines_of (c ∷ cs) ≡ into_first c (lines_of cs)
lines_of-step c cs first second = rw first (rw second (and_false (c == 13) _ _))

without_return-step : (d : ℕ) (cs : List ℕ) → is_nothing cs ≡ false → without_return (d ∷ cs) ≡ d ∷ without_return cs
without_return-step d cs more = rw more (and_false (d == 13) _ _)

-- a text with no LF is one line
pub lines_of-plain : (c : ℕ) (cs : List ℕ) → newline_free (c ∷ cs) ≡ true → lines_of (c ∷ cs) ≡ (c ∷ cs) ∷ []
lines_of-plain c [] all =
    let first : (c == 10) ≡ false = not_true (c == 10) (and_parts (not (c == 10)) true all).0 in
    lines_of-step c [] first refl
lines_of-plain c (d ∷ ds) all =
    let both = and_parts (not (c == 10)) (newline_free (d ∷ ds)) all in
    let first : (c == 10) ≡ false = not_true (c == 10) both.0 in
    let second : (d == 10) ≡ false = not_true (d == 10) (and_parts (not (d == 10)) (newline_free ds) both.1).0 in
    lines_of-step c (d ∷ ds) first second ∙ ap (into_first c) (lines_of-plain d ds both.1)

-- the last byte of a line, and its LF
last_byte : (d c : ℕ) (rest : List ℕ) → (d == 10) ≡ false → (c == 10) ≡ true → lines_of (d ∷ c ∷ rest) ≡ without_return (d ∷ []) ∷ lines_of rest
last_byte d c rest first last = rw first (rw last (one_byte (d == 13) d (lines_of rest)))

-- the first line of a text, up to the LF
pub lines_of-next : (front rest : List ℕ) (c : ℕ) → newline_free front ≡ true → not (c == 10) ≡ false → lines_of (front ++ c ∷ rest) ≡ without_return front ∷ lines_of rest
lines_of-next [] rest c all stop = rw (not_false (c == 10) stop) refl
lines_of-next (d ∷ []) rest c all stop = last_byte d c rest (not_true (d == 10) (and_parts (not (d == 10)) true all).0) (not_false (c == 10) stop)
lines_of-next (d ∷ e ∷ front) rest c all stop =
    let both = and_parts (not (d == 10)) (newline_free (e ∷ front)) all in
    let first : (d == 10) ≡ false = not_true (d == 10) both.0 in
    let second : (e == 10) ≡ false = not_true (e == 10) (and_parts (not (e == 10)) (newline_free front) both.1).0 in
    lines_of-step d (e ∷ front ++ c ∷ rest) first second ∙ (ap (into_first d) (lines_of-next (e ∷ front) rest c both.1 stop) ∙ ap (λ l. l ∷ lines_of rest) (sym (without_return-step d (e ∷ front) refl)))

-- a text that is one line
pub only_line : (text front behind : List ℕ) → 0 < length text → Splits (λ c. not (c == 10)) text front behind → behind ≡ [] → lines_of text ≡ front ∷ lines_of behind
only_line text [] behind some s none = absurd (let e : text ≡ [] = s.parts ∙ none in omega (arith, ap length e))
only_line text (c ∷ cs) behind some s none =
    let whole : text ≡ c ∷ cs = s.parts ∙ (ap (λ l. (c ∷ cs) ++ l) none ∙ append-nil (c ∷ cs)) in
    ap lines_of whole ∙ (lines_of-plain c cs s.passes ∙ ap (λ l. (c ∷ cs) ∷ lines_of l) (sym none))

-- a text whose first line has an LF
pub first_line : (text front behind rest : List ℕ) (c : ℕ) → Splits (λ c. not (c == 10)) text front behind → behind ≡ c ∷ rest → lines_of text ≡ without_return front ∷ lines_of rest
first_line text front behind rest c s e =
    let stop : not (c == 10) ≡ false = subst (Stops (λ c. not (c == 10))) e s.stops in
    ap lines_of (s.parts ∙ ap (λ l. front ++ l) e) ∙ lines_of-next front rest c s.passes stop

-- a CR at the end is dropped
pub without_return-last : (front : List ℕ) → without_return (front ++ 13 ∷ []) ≡ front
without_return-last [] = refl
without_return-last (c ∷ []) = without_return-step c (13 ∷ []) refl
without_return-last (c ∷ d ∷ front) = without_return-step c (d ∷ front ++ 13 ∷ []) refl ∙ ap (λ l. c ∷ l) (without_return-last (d ∷ front))

-- a line without a CR at its end stays
pub without_return-same : (line : List ℕ) → ((front : List ℕ) → line ≢ front ++ 13 ∷ []) → without_return line ≡ line
without_return-same [] other = refl
without_return-same (c ∷ []) other =
    elim (eqb_tells c 13) [
      | inl same ↦ absurd (other [] (ap (λ k. k ∷ []) same.1))
      | inr apart ↦ rw apart.0 refl
    ]
without_return-same (c ∷ d ∷ line) other = without_return-step c (d ∷ line) refl ∙ ap (λ l. c ∷ l) (without_return-same (d ∷ line) (λ front e. other (c ∷ front) (ap (λ l. c ∷ l) e)))

-- ---- words

words_of-blank : (c : ℕ) (cs : List ℕ) → is_blank c ≡ true → words_of (c ∷ cs) ≡ words_of cs
words_of-blank c cs blank = rw blank refl

-- blanks in front are passed over
pub words_of-blanks : (blanks rest : List ℕ) → list_all is_blank blanks ≡ true → words_of (blanks ++ rest) ≡ words_of rest
words_of-blanks [] rest all = refl
words_of-blanks (c ∷ cs) rest all =
    let both = and_parts (is_blank c) (list_all is_blank cs) all in
    words_of-blank c (cs ++ rest) both.0 ∙ words_of-blanks cs rest both.1

abbrev blank_free : List ℕ → Bool
blank_free cs = list_all (λ c. not (is_blank c)) cs

words_of-more : (c : ℕ) (cs : List ℕ) → is_blank c ≡ false → begins_with_word cs ≡ true → words_of (c ∷ cs) ≡ into_first c (words_of cs)
words_of-more c cs first second = rw first (rw second refl)

words_of-end : (c : ℕ) (cs : List ℕ) → is_blank c ≡ false → begins_with_word cs ≡ false → words_of (c ∷ cs) ≡ (c ∷ []) ∷ words_of cs
words_of-end c cs first second = rw first (rw second refl)

-- a blank or nothing ends a word
pub words_of-word : (c : ℕ) (word rest : List ℕ) → blank_free (c ∷ word) ≡ true → Stops (λ c. not (is_blank c)) rest → words_of ((c ∷ word) ++ rest) ≡ (c ∷ word) ∷ words_of rest
words_of-word c [] [] all stop = words_of-end c [] (not_true (is_blank c) (and_parts (not (is_blank c)) true all).0) refl
words_of-word c [] (d ∷ rest) all stop = words_of-end c (d ∷ rest) (not_true (is_blank c) (and_parts (not (is_blank c)) true all).0) stop
words_of-word c (d ∷ word) rest all stop =
    let both = and_parts (not (is_blank c)) (blank_free (d ∷ word)) all in
    let first : is_blank c ≡ false = not_true (is_blank c) both.0 in
    let second : not (is_blank d) ≡ true = (and_parts (not (is_blank d)) (blank_free word) both.1).0 in
    words_of-more c (d ∷ word ++ rest) first second ∙ ap (into_first c) (words_of-word d word rest both.1 stop)

-- blanks alone
pub no_word : (line front behind : List ℕ) → Splits is_blank line front behind → behind ≡ [] → words_of line ≡ []
no_word line front behind s none = ap words_of s.parts ∙ (words_of-blanks front behind s.passes ∙ ap words_of none)

-- a word behind blanks
pub first_word : (line front behind word rest : List ℕ) → 0 < length behind → Splits is_blank line front behind → Splits (λ c. not (is_blank c)) behind word rest → words_of line ≡ word ∷ words_of rest
first_word line front behind [] [] some s t = absurd (omega (arith, ap length t.parts))
first_word line front behind [] (c ∷ rest) some s t =
    let blank : is_blank c ≡ true = not_false (is_blank c) t.stops in
    let bare : is_blank c ≡ false = subst (Stops is_blank) t.parts s.stops in
    absurd (let e : true ≡ false = sym blank ∙ bare in cc)
first_word line front behind (c ∷ word) rest some s t =
    ap words_of s.parts ∙ (words_of-blanks front behind s.passes ∙ (ap words_of t.parts ∙ words_of-word c word rest t.passes t.stops))

-- ---- parts

-- the separator doesn't stand in it
abbrev pub is_free_of : ℕ → List ℕ → Bool
is_free_of separator cs = list_all (λ c. not (c == separator)) cs

parts_of-more : (s c : ℕ) (cs : List ℕ) → (c == s) ≡ false → parts_of s (c ∷ cs) ≡ into_first c (parts_of s cs)
parts_of-more s c cs first = rw first refl

parts_of-separator : (s c : ℕ) (cs : List ℕ) → (c == s) ≡ true → parts_of s (c ∷ cs) ≡ [] ∷ parts_of s cs
parts_of-separator s c cs first = rw first refl

-- the last part of a text
pub parts_of-last : (s : ℕ) (part : List ℕ) → is_free_of s part ≡ true → parts_of s part ≡ part ∷ []
parts_of-last s [] all = refl
parts_of-last s (c ∷ cs) all =
    let both = and_parts (not (c == s)) (is_free_of s cs) all in
    parts_of-more s c cs (not_true (c == s) both.0) ∙ ap (into_first c) (parts_of-last s cs both.1)

-- a part up to its separator
pub parts_of-next : (s : ℕ) (part rest : List ℕ) (c : ℕ) → is_free_of s part ≡ true → not (c == s) ≡ false → parts_of s (part ++ c ∷ rest) ≡ part ∷ parts_of s rest
parts_of-next s [] rest c all stop = parts_of-separator s c rest (not_false (c == s) stop)
parts_of-next s (d ∷ part) rest c all stop =
    let both = and_parts (not (d == s)) (is_free_of s part) all in
    parts_of-more s d (part ++ c ∷ rest) (not_true (d == s) both.0) ∙ ap (into_first d) (parts_of-next s part rest c both.1 stop)

-- a text with no separator
pub only_part : (s : ℕ) (text front behind : List ℕ) → Splits (λ c. not (c == s)) text front behind → behind ≡ [] → parts_of s text ≡ front ∷ []
only_part s text front behind p none = ap (parts_of s) (p.parts ∙ (ap (λ l. front ++ l) none ∙ append-nil front)) ∙ parts_of-last s front p.passes

-- a text whose first part has a separator behind it
pub first_part : (s : ℕ) (text front behind rest : List ℕ) (c : ℕ) → Splits (λ c. not (c == s)) text front behind → behind ≡ c ∷ rest → parts_of s text ≡ front ∷ parts_of s rest
first_part s text front behind rest c p e =
    let stop : not (c == s) ≡ false = subst (Stops (λ c. not (c == s))) e p.stops in
    ap (parts_of s) (p.parts ∙ ap (λ l. front ++ l) e) ∙ parts_of-next s front rest c p.passes stop

-- a text has a part, though it may be nothing
pub parts_of-some : (s : ℕ) (text : List ℕ) → (part : List ℕ) × ((parts : List (List ℕ)) × (parts_of s text ≡ part ∷ parts))
parts_of-some s [] = ([], ([], refl))
parts_of-some s (c ∷ cs) =
    let behind = parts_of-some s cs in
    elim (eqb_tells c s) [
      | inl same ↦ ([], (parts_of s cs, parts_of-separator s c cs same.0))
      | inr other ↦ (c ∷ behind.0, (behind.1.0, parts_of-more s c cs other.0 ∙ ap (into_first c) behind.1.1))
    ]
