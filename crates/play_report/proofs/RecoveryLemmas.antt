-- What was read and recovered, line by line.
use Rattle.std.proofs.Common.{zero, suc, ◌≡◌, ℕ, Bool, true, false, List, [], ◌∷◌, ◌++◌, slice_get, Some, refl, sym, ap, ◌∙◌}
use Rattle.std.proofs.lemmas.List.{append-nil}
use Rattle.std.specs.Prelude.{map, if◌then◌else◌}
use Rattle.hd_base.specs.declared.links.LinkIn as link_in
use Rattle.hd_base.specs.declared.links.LinkOut as link_out
use Rattle.play_clients.specs.PlayModel.Recovery.{Recovery}
use Rattle.play_primaries.specs.Clients.{PrimaryClientShows, StateShows}
use Rattle.play_primaries.specs.declared.clients.PrimaryClient.{PrimaryClient}
use Rattle.play_primaries.specs.declared.clients.PrimaryState.{PrimaryState}
use Rattle.play_primaries.specs.declared.clients.PrimaryState.TheVariants as state
use Rattle.play_scripts.specs.Reads.{is_read, read_numbers}
use Rattle.play_scripts.specs.Recoveries.{is_recovery, recovery_numbers, primaries_of}
use Rattle.road_traffic.specs.Showing.{Net}
use Rattle.script_lang.specs.declared.instructions.Instruction.{Instruction}
use Rattle.script_lang.specs.declared.instructions.Instruction.TheVariants as says
use Rattle.script_lang.specs.declared.instructions.ScriptLine.{ScriptLine}
use Rattle.script_lang.specs.declared.report.RecoveryResult.{RecoveryResult}
use Rattle.script_lang.specs.declared.report.ReportLine.{ReportLine}
use Rattle.script_lang.specs.declared.report.ReportLine.TheVariants as line
use Rattle.world.specs.Worlds.{World}
use Rattle.play_report.specs.Reads.{read_line}
use Rattle.play_report.specs.Recoveries.{primary_told, recovery_line, asked_lines, led_told, client_recovery, first_if, rest_if, recovers, next_lines, merged}
use Rattle.play_report.proofs.AppendLemmas.{next_appended}

-- THE ORDER OF THE LINES

-- no line does both
exclusive : (x : Instruction) → is_read x ≡ true → is_recovery x ≡ false
exclusive (says.Read block node offset count) e = refl
exclusive (says.Recover block node members) e = cc
exclusive x e = cc

one_more : (a b : Bool) (n : ℕ) (f g : ℕ → ReportLine) (rs ps : List ℕ) (lines : List ScriptLine) (told : List ReportLine) → (a ≡ true → b ≡ false) → merged (map f rs) (map g ps) lines ≡ told
    → (first_if a (map f (if a then n ∷ rs else rs)) ++ first_if (if a then false else b) (map g (if b then n ∷ ps else ps))) ++ merged (rest_if a (map f (if a then n ∷ rs else rs))) (rest_if (if a then false else b) (map g (if b then n ∷ ps else ps))) lines
    ≡ (if a then f n ∷ [] else (if b then g n ∷ [] else [])) ++ told
one_more true true n f g rs ps lines told apart h = never (apart refl)
  where
    never : {A : Type 0} → true ≡ false → A
    never e = cc
one_more true false n f g rs ps lines told apart h = ap (λ (xs : List ReportLine). f n ∷ xs) h
one_more false true n f g rs ps lines told apart h = ap (λ (xs : List ReportLine). g n ∷ xs) h
one_more false false n f g rs ps lines told apart h = h

-- The lines of all readers and primaries, in the order of the lines that ask, are those that the world tells.
pub asked_are : (w : World) (lines : List ScriptLine) → merged (map (read_line w) (read_numbers lines)) (map (recovery_line w) (recovery_numbers lines)) lines ≡ asked_lines w lines
asked_are w [] = refl
asked_are w (l ∷ lines) = one_more (is_read l.instruction) (is_recovery l.instruction) l.number (read_line w) (recovery_line w) (read_numbers lines) (recovery_numbers lines) lines (asked_lines w lines) (exclusive l.instruction) (asked_are w lines)

-- WHAT CLIENTS CAME TO

module _ {I O : Type 0} (i : link_in.Ghosts I) (o : link_out.Ghosts O) (w : World) (net : Net) where
  -- one that hasn't begun, leads, or has led in a life that is over has no result
  state_so : (r : Recovery) (s : PrimaryState I O) → StateShows i o w net r s → led_told s ≡ primary_told (w.primaries r.primary)
  state_so r state.New h = ap primary_told (sym h.is)
  state_so r (state.Leads primary) h = ap primary_told (sym h.leads_so.shows.leads_so)
  state_so r (state.HasLed led) h = ap primary_told (sym h)
  state_so r state.Stopped h = ap primary_told (sym h.is)

  -- What clients came to is what the world tells of their primaries.
  pub recoveries_are : (recoveries : List (PrimaryClient I O)) → ((k : ℕ) (c : PrimaryClient I O) → slice_get recoveries k ≡ Some c → PrimaryClientShows i o w net c)
      → map client_recovery recoveries ≡ map (recovery_line w) (primaries_of (map (λ (c : PrimaryClient I O). c.recovery) recoveries))
  recoveries_are [] shows = refl
  recoveries_are (c ∷ recoveries) shows =
      ap (λ (t : RecoveryResult). line.Recovery c.recovery.primary t ∷ map client_recovery recoveries) (state_so c.recovery c.state (shows zero c refl)) ∙
      ap (λ (xs : List ReportLine). recovery_line w c.recovery.primary ∷ xs) (recoveries_are recoveries (λ k d at. shows (suc k) d at))

-- APPENDING

rest_mapped : {A : Type 0} (f : A → ReportLine) (b : Bool) (xs : List A) → map f (rest_if b xs) ≡ rest_if b (map f xs)
rest_mapped f true [] = refl
rest_mapped f true (x ∷ xs) = refl
rest_mapped f false xs = refl

-- What stands behind a line of the script was appended; what is left is that of the lines behind it.
pub next_asked : {A B : Type 0} (f : A → ReportLine) (g : B → ReportLine) (all mid new : List ReportLine) (reads reads' : List A) (led led' : List B) (l : ScriptLine) (lines rest : List ScriptLine)
    → lines ≡ l ∷ rest → mid ++ merged (map f reads) (map g led) lines ≡ all → new ≡ mid ++ next_lines (map f reads) (map g led) l
    → reads' ≡ rest_if (is_read l.instruction) reads → led' ≡ rest_if (recovers l) led → new ++ merged (map f reads') (map g led') rest ≡ all
next_asked f g all mid new reads reads' led led' l lines rest at h e r p =
    next_appended all mid new (next_lines (map f reads) (map g led) l) (merged (map f reads') (map g led') rest)
    (ap (λ (xs : List ReportLine). mid ++ (next_lines (map f reads) (map g led) l ++ xs)) left ∙ (ap (λ (xs : List ScriptLine). mid ++ merged (map f reads) (map g led) xs) (sym at) ∙ h)) e
  where
    left : merged (map f reads') (map g led') rest ≡ merged (rest_if (is_read l.instruction) (map f reads)) (rest_if (recovers l) (map g led)) rest
    left =
        ap (λ (xs : List ReportLine). merged xs (map g led') rest) (ap (map f) r ∙ rest_mapped f (is_read l.instruction) reads) ∙
        ap (λ (xs : List ReportLine). merged (rest_if (is_read l.instruction) (map f reads)) xs rest) (ap (map g) p ∙ rest_mapped g (recovers l) led)

-- Where the lines are over nothing is left.
pub all_asked : {A B : Type 0} (f : A → ReportLine) (g : B → ReportLine) (all out : List ReportLine) (reads : List A) (led : List B) (lines : List ScriptLine) → lines ≡ [] → out ++ merged (map f reads) (map g led) lines ≡ all → out ≡ all
all_asked f g all out reads led lines over h = sym (append-nil out) ∙ (ap (λ (xs : List ScriptLine). out ++ merged (map f reads) (map g led) xs) (sym over) ∙ h)

-- A line that reads has told what the first reader came to.
pub read_next : (x : Instruction) (old new : List ReportLine) (reads led : List ReportLine) → is_read x ≡ true → new ≡ old ++ first_if true reads
    → new ≡ old ++ (first_if (is_read x) reads ++ first_if (if is_read x then false else is_recovery x) led)
read_next x old new reads led is e = by (is_read x) is
  where
    by : (b : Bool) → b ≡ true → new ≡ old ++ (first_if b reads ++ first_if (if b then false else is_recovery x) led)
    by true h = e ∙ ap (λ (xs : List ReportLine). old ++ xs) (sym (append-nil (first_if true reads)))
    by false h = cc
