-- What a refusal leaves: a fact of a replica that each step keeps holds after the whole transition.
use Rattle.std.proofs.Common.{◌≡◌, Bool, true, false, Result, Ok, Err, refl, ap, if◌then◌else◌}
use Rattle.std.specs.Result.{IfOk, IsErr}
use Rattle.replica_core.specs.declared.records.ReplicaRecord.{ReplicaRecord}
use Rattle.replica_core.specs.declared.events.Answer.TheVariants as answer
use Rattle.replica_core.specs.declared.refusals.Refusal.{Refusal}
use Rattle.hd_base.specs.Results.{◌>>=◌}
use Rattle.replica_core.specs.Refusals.{check}
use Rattle.replica_core.specs.Transitions.{Outcome, record_after, reply, answer_of, done}

-- a test: where it fails, the replica is as before
pub after_check : (P : ReplicaRecord → Type 0) (c : ReplicaRecord) (holds : Bool) (e : Refusal) (next : Outcome) → P c → (holds ≡ true → P (record_after c next)) → P (record_after c (check holds e next))
after_check P c true e next before onward = onward refl
after_check P c false e next before onward = before

-- a step that may be refused
pub after_step : {A : Type 0} (P : ReplicaRecord → Type 0) (c : ReplicaRecord) (first : Result A Refusal) (next : A → Outcome) → P c → ((x : A) → first ≡ Ok x → P (record_after c (next x))) → P (record_after c (first >>= next))
after_step P c (Ok x) next before onward = onward x refl
after_step P c (Err e) next before onward = before

-- one thing or another
pub choice : {A : Type 0} (P : A → Type 0) (b : Bool) (x y : A) → (b ≡ true → P x) → (b ≡ false → P y) → P (if b then x else y)
choice P true x y given otherwise = given refl
choice P false x y given otherwise = otherwise refl

-- ---- what holds of every event that is taken

pub if_check : {A : Type 0} (P : A → Type 0) (holds : Bool) (e : Refusal) (next : Result A Refusal) → (holds ≡ true → IfOk next P) → IfOk (check holds e next) P
if_check P true e next onward = onward refl
if_check P false e next onward = tt

pub if_step : {A B : Type 0} (P : B → Type 0) (first : Result A Refusal) (next : A → Result B Refusal) → ((x : A) → first ≡ Ok x → IfOk (next x) P) → IfOk (first >>= next) P
if_step P (Ok x) next onward = onward x refl
if_step P (Err e) next onward = tt

-- both steps of a transition that was taken
pub step_ok : {A B : Type 0} (first : Result A Refusal) (next : A → Result B Refusal) (y : B) → (first >>= next) ≡ Ok y → (x : A) × (first ≡ Ok x) × (next x ≡ Ok y)
step_ok (Ok x) next y e = (x, refl, e)
step_ok (Err r) next y e = absurd (cc)

-- ---- what is refused, and what isn't

pub refused_step : {A B : Type 0} (first : Result A Refusal) (next : A → Result B Refusal) → ((x : A) → first ≡ Ok x → IsErr (next x)) → IsErr (first >>= next)
refused_step (Ok x) next onward = onward x refl
refused_step (Err e) next onward = refl

pub refused_first : {A B : Type 0} (first : Result A Refusal) (next : A → Result B Refusal) → IsErr first → IsErr (first >>= next)
refused_first (Ok x) next refused = absurd (cc)
refused_first (Err e) next refused = refl

pub taken_step : {A B : Type 0} (first : Result A Refusal) (next : A → Result B Refusal) (x : A) → first ≡ Ok x → (first >>= next) ≡ next x
taken_step first next x e = ap (λ r. r >>= next) e

-- An answer that is a refusal comes with a replica as before.
abbrev pub Stays : ReplicaRecord → Outcome → Type 0
Stays c o = (e : Refusal) → answer_of (reply o) ≡ answer.Refused e → record_after c o ≡ c

pub stays_check : (c : ReplicaRecord) (holds : Bool) (e : Refusal) (next : Outcome) → Stays c next → Stays c (check holds e next)
stays_check c true e next onward = onward
stays_check c false e next onward = λ x _. refl

pub stays_step : {A : Type 0} (c : ReplicaRecord) (first : Result A Refusal) (next : A → Outcome) → ((x : A) → Stays c (next x)) → Stays c (first >>= next)
stays_step c (Ok x) next onward = onward x
stays_step c (Err e) next onward = λ x _. refl

pub stays_done : (c k : ReplicaRecord) → Stays c (done k)
stays_done c k = λ x e. absurd (cc)
