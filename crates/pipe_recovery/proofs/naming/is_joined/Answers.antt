-- What stands behind the front is compared with the back.
use Rattle.std.proofs.Common.{◌≡◌, ◌≢◌, ◌++◌, ℕ, Bool, false, List, sym, ap, ◌∙◌}
use Rattle.std.specs.Bool.{Decides}
use Rattle.std.proofs.lemmas.Bool.Decides.{Decides-eqb}
use Rattle.std.proofs.lemmas.List.{append_cancel_left}
use Rattle.std.proofs.lemmas.Slice.Eq.{slice_eq-Decides, strip_prefix_is}
use Rattle.pipe_recovery.proofs.naming.is_joined.Goals as goal

joined_with : (front back rest text : List ℕ) (r : Bool) → text ≡ front ++ rest → Decides r (rest ≡ back) → Decides r (front ++ back ≡ text)
joined_with front back rest text r is d =
    (λ e. ap (λ x. front ++ x) (sym (d.0 e)) ∙ sym is, λ e. d.1 (append_cancel_left front rest back (sym is ∙ sym e)))

not_joined : (front back text : List ℕ) → ((rest : List ℕ) → text ≢ front ++ rest) → Decides false (front ++ back ≡ text)
not_joined front back text none = (λ e. cc, λ e. absurd (none back (sym e)))

pub returns-in-Some : goal.returns-in-Some
returns-in-Some c =
    let is = strip_prefix_is Decides-eqb c.args.text.now c.args.front.now c.strip_prefix.result c.strip_prefix.ensures.cases in
    joined_with c.args.front.now c.args.back.now c.in-Some.rest.now c.args.text.now c.eq.result (rw c.in-Some.is at is)
    (slice_eq-Decides Decides-eqb c.in-Some.rest.now c.args.back.now c.eq.result c.eq.ensures)

pub returns-in-None : goal.returns-in-None
returns-in-None c =
    let is = strip_prefix_is Decides-eqb c.args.text.now c.args.front.now c.strip_prefix.result c.strip_prefix.ensures.cases in
    not_joined c.args.front.now c.args.back.now c.args.text.now (rw c.in-None.is at is)
