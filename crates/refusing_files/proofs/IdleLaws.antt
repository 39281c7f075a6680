-- Calls that leave all files as they are.
use Rattle.std.proofs.Common.{◌≡◌, ℕ, true, false, cond, List, [], ◌∷◌, Option, Some, None, option_map, arith, ap, refl, ◌∙◌}
use Rattle.std.specs.Str.{bytes_eq}
use Rattle.std.proofs.lemmas.Grind.{common_steps}
use Rattle.std.proofs.lemmas.Slice.Eq.{bytes_eq-Decides}
use Rattle.hd_base.specs.FileMaps.{FileMap, changed, overwritten}
use Rattle.hd_base.specs.Calls.{Call, Make, Write, Cut, Sync, Rename, Remove, effect_of, run}
use Rattle.hd_base.proofs.FileLaws.{overwritten-nothing}
use Rattle.refusing_files.specs.Refusals.{IsIdle, AreIdle}

same_name : (a b : List ℕ) → bytes_eq a b ≡ true → a ≡ b
same_name a b same = grind (arith, common_steps, bytes_eq-Decides a b)

still : (place : ℕ) (o : Option (List ℕ)) → option_map (λ b. overwritten b place []) o ≡ o
still place None = refl
still place (Some b) = ap Some (overwritten-nothing b place)

-- A write of nothing leaves each file as it is.
wrote_nothing : (m : FileMap) (name : List ℕ) (place : ℕ) (q : List ℕ) → changed m name (λ b. overwritten b place []) q ≡ m q
wrote_nothing m name place q =
    elim (bytes_eq name q) as (λ b. bytes_eq name q ≡ b → cond b (option_map (λ b. overwritten b place []) (m name)) (m q) ≡ m q) [
      | true ↦ λ here. still place (m name) ∙ ap m (same_name name q here)
      | false ↦ λ here. refl
    ] refl

effect_of-idle : (call : Call) (m : FileMap) → IsIdle call → effect_of call m ≡ m
effect_of-idle (Make name) m idle = absurd idle
effect_of-idle (Write name place bytes) m idle = rw idle (λ i q. wrote_nothing m name place q i)
effect_of-idle (Cut name len) m idle = absurd idle
effect_of-idle (Sync name) m idle = refl
effect_of-idle (Rename from to) m idle = absurd idle
effect_of-idle (Remove name) m idle = absurd idle

-- Idle calls leave all files as they are.
pub run-idle : (calls : List Call) (m : FileMap) → AreIdle calls → run calls m ≡ m
run-idle [] m idle = refl
run-idle (call ∷ calls) m idle = ap (run calls) (effect_of-idle call m idle.0) ∙ run-idle calls m idle.1

-- The same, where the files are observable.
pub runs-idle : (calls : List Call) (files : Option FileMap) → AreIdle calls → option_map (run calls) files ≡ files
runs-idle calls None idle = refl
runs-idle calls (Some m) idle = ap Some (run-idle calls m idle)
