-- What block recoveries came to, in a report, and the order of what lines ask.
use Rattle.std.specs.Prelude.{ℕ, Bool, true, false, if◌then◌else◌, List, [], ◌∷◌, ◌++◌, flat_map}
use Rattle.recovery_core.specs.declared.primary.Recovered.{Recovered}
use Rattle.recovery_core.specs.declared.primary.Recovered.TheVariants as recovered
use Rattle.play_primaries.specs.declared.clients.PrimaryClient.{PrimaryClient}
use Rattle.play_primaries.specs.declared.clients.PrimaryState.{PrimaryState}
use Rattle.play_primaries.specs.declared.clients.PrimaryState.TheVariants as state
use Rattle.play_scripts.specs.Reads.{is_read}
use Rattle.play_scripts.specs.Recoveries.{is_recovery}
use Rattle.script_lang.specs.declared.instructions.ScriptLine.{ScriptLine}
use Rattle.script_lang.specs.declared.report.OfficeRefusal.TheVariants as refusal
use Rattle.script_lang.specs.declared.report.RecoveryResult.{RecoveryResult}
use Rattle.script_lang.specs.declared.report.RecoveryResult.TheVariants as result
use Rattle.script_lang.specs.declared.report.ReportLine.{ReportLine}
use Rattle.script_lang.specs.declared.report.ReportLine.TheVariants as line
use Rattle.world.specs.Parts.{Primary, has_led}
use Rattle.world.specs.Worlds.{World}
use Rattle.play_report.specs.Reads.{read_line}
use Rattle.play_report.specs.Results.{office_refusal}

-- RESULTS

-- what a recovery came to
abbrev pub recovery_told : Recovered → RecoveryResult
recovery_told (recovered.Done id bytes members) = result.Ok id bytes members
recovery_told recovered.Nothing = result.Nothing
recovery_told (recovered.Unequal a b) = result.Unequal a b
recovery_told recovered.NoneUpdated = result.NoneUpdated
recovery_told (recovered.OfficeRefused why) = result.Refused (office_refusal why)
recovery_told recovered.Memory = result.Refused refusal.Memory

-- What a primary came to. One that has no result counts as ended: its node didn't run, or has stopped.
abbrev pub primary_told : Primary → RecoveryResult
primary_told (has_led led) = recovery_told led
primary_told other = result.Ended

-- LINES

-- the line of the primary of this number
abbrev pub recovery_line : World → ℕ → ReportLine
recovery_line w n = line.Recovery n (primary_told (w.primaries n))

-- that of a line that reads or recovers
abbrev pub asked_line : World → ScriptLine → List ReportLine
asked_line w l =
    if is_read l.instruction then read_line w l.number ∷ []
    else (if is_recovery l.instruction then recovery_line w l.number ∷ [] else [])

-- those of all lines that do, in their order
abbrev pub asked_lines : World → List ScriptLine → List ReportLine
asked_lines w lines = flat_map (asked_line w) lines

-- WHAT CLIENTS KEEP

-- what a client came to
abbrev pub led_told : {I O : Type 0} → PrimaryState I O → RecoveryResult
led_told (state.HasLed led) = recovery_told led
led_told other = result.Ended

-- its line
abbrev pub client_recovery : {I O : Type 0} → PrimaryClient I O → ReportLine
client_recovery c = line.Recovery c.recovery.primary (led_told c.state)

-- the first, if this is so
abbrev pub first_if : {A : Type 0} → Bool → List A → List A
first_if true (x ∷ xs) = x ∷ []
first_if b xs = []

-- what is left of them then
abbrev pub rest_if : {A : Type 0} → Bool → List A → List A
rest_if true (x ∷ xs) = xs
rest_if b xs = xs

-- a line recovers, and doesn't read
abbrev pub recovers : ScriptLine → Bool
recovers l = if is_read l.instruction then false else is_recovery l.instruction

-- the line of the first reader or primary, if this line of the script reads or recovers
abbrev pub next_lines : List ReportLine → List ReportLine → ScriptLine → List ReportLine
next_lines reads led l = first_if (is_read l.instruction) reads ++ first_if (recovers l) led

-- The lines of readers and of primaries, each in their order, in the order of the lines that ask.
abbrev pub merged : List ReportLine → List ReportLine → List ScriptLine → List ReportLine
merged reads led [] = []
merged reads led (l ∷ lines) =
    next_lines reads led l ++ merged (rest_if (is_read l.instruction) reads) (rest_if (recovers l) led) lines
