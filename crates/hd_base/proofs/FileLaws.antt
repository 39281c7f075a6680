-- Laws of the words on files: how steps join, and what a step leaves of a file.
use Rattle.std.proofs.Common.{◌≡◌, ◌≢◌, ℕ, ◌≤◌, true, false, List, [], ◌++◌, length, Option, Some, None, option_map, ◌∙◌, ap, refl, arith}
use Rattle.std.specs.Str.{bytes_eq}
use Rattle.std.proofs.lemmas.Slice.Eq.{bytes_eq-Decides}
use Rattle.std.proofs.lemmas.Grind.{common_steps}
use Rattle.std.proofs.lemmas.List.{take_all, drop_all}
use Rattle.hd_base.specs.FileMaps.{FileMap, put, changed, overwritten, Becomes, HasFile, IsPlaceIn}

-- A name is itself.
pub bytes_eq-same : (name : List ℕ) → bytes_eq name name ≡ true
bytes_eq-same name = grind (arith, common_steps, bytes_eq-Decides name name)

-- Two names that differ differ as bytes.
pub bytes_eq-other : (name other : List ℕ) → name ≢ other → bytes_eq name other ≡ false
bytes_eq-other name other apart = grind (arith, common_steps, bytes_eq-Decides name other)

-- Two steps make one.
pub Becomes-join : (a b c : Option FileMap) (f g : FileMap → FileMap) → Becomes a b f → Becomes b c g → Becomes a c (λ m. g (f m))
Becomes-join None b c f g p q = q ∙ ap (option_map g) p
Becomes-join (Some m) b c f g p q = q ∙ ap (option_map g) p

-- A call that changed nothing, and then a step.
pub Becomes-after : (a b c : Option FileMap) (f : FileMap → FileMap) → b ≡ a → Becomes b c f → Becomes a c f
Becomes-after a b c f p q = q ∙ ap (option_map f) p

-- A step, and then a call that changed nothing.
pub Becomes-before : (a b c : Option FileMap) (f : FileMap → FileMap) → Becomes a b f → c ≡ b → Becomes a c f
Becomes-before a b c f p q = q ∙ p

-- Two steps that make the same of every map are one.
pub Becomes-same : (a b : Option FileMap) (f g : FileMap → FileMap) → ((m : FileMap) (name : List ℕ) → f m name ≡ g m name) → Becomes a b f → Becomes a b g
Becomes-same None b f g same p = p
Becomes-same (Some m) b f g same p =
    let here : f m ≡ g m = λ i name. same m name i in
    p ∙ ap Some here

-- What a step makes of a file is what the file has after it, where observable.
pub Becomes-has : (a b : Option FileMap) (f : FileMap → FileMap) (name bytes : List ℕ) → Becomes a b f → ((m : FileMap) → f m name ≡ Some bytes) → HasFile b name bytes
Becomes-has None b f name bytes p has = let e : b ≡ None = p in rw e tt
Becomes-has (Some m) b f name bytes p has = let e : b ≡ Some (f m) = p in rw e (has m)

-- A file that a step makes longer than a place has that place, where observable.
pub Becomes-place : (a b : Option FileMap) (f : FileMap → FileMap) (name bytes : List ℕ) (place : ℕ) → Becomes a b f → ((m : FileMap) → f m name ≡ Some bytes) → place ≤ length bytes → IsPlaceIn b name place
Becomes-place None b f name bytes place p has fits = let e : b ≡ None = p in rw e tt
Becomes-place (Some m) b f name bytes place p has fits =
    let e : b ≡ Some (f m) = p in rw e (let h : f m name ≡ Some bytes = has m in rw h fits)

-- A write that took nothing changed nothing.
pub overwritten-nothing : (bytes : List ℕ) (place : ℕ) → overwritten bytes place [] ≡ bytes
overwritten-nothing bytes place = grind (arith, common_steps)

-- A write at the end of a file puts the piece behind its bytes.
pub overwritten-end : (bytes piece : List ℕ) → overwritten bytes (length bytes) piece ≡ bytes ++ piece
overwritten-end bytes piece = grind (arith, common_steps, take_all, drop_all)

-- What a map holds under a name that a step of one file left alone.
pub changed-other : (m : FileMap) (name other : List ℕ) (f : List ℕ → List ℕ) → bytes_eq name other ≡ false → changed m name f other ≡ m other
changed-other m name other f apart = rw apart refl

-- A file that was made and written from its beginning holds just what was written.
pub written_new : (m : FileMap) (name bytes : List ℕ) → changed (put m name []) name (λ b. overwritten b 0 bytes) name ≡ Some bytes
written_new m name bytes = rw (bytes_eq-same name) (grind (arith, common_steps))
