-- What stays durable of files whose log is observable: the laws that callers of `perform` cite.
use Rattle.std.proofs.Common.{◌≡◌, ℕ, zero, suc, List, [], ◌∷◌, ◌++◌, length, Option, Some, None, option_map, Result, Ok, Err, OnOk, OnErr, ◌⊎◌, inl, inr, arith, refl, sym, subst, ap, ◌∙◌}
use Rattle.hd_base.specs.FileMaps.{FileMap}
use Rattle.hd_base.specs.Calls.{Call, Make, Write, Cut, Sync, Rename, Remove, Log, logged, run, cut_short, stopped, MakesCalls, StopsWithin, LogMakesFiles}
use Rattle.file_calls.specs.Disks.{Disk, disk_after, disk_after_call, disk_of, synced_disk}
use Rattle.file_calls.specs.Durable.{AllSpare, name_after_call, name_after, KeepName, KeepNameOr, HasDurable, IsDurableIn, IsWhollyDurable}
use Rattle.file_calls.proofs.DiskLaws.{seen_of, shows_disk_of, shows_calls, durable_calls, durable-after_sync, disk_after-append, spares-stopped}

-- Calls that spare the first bytes of a durable file leave them durable.
pub IsDurableIn-logged : (before now : Option Log) (calls : List Call) (name : List ℕ) (k : ℕ) (bytes : List ℕ) → now ≡ option_map (logged calls) before → AllSpare k name calls → IsDurableIn before name k bytes → IsDurableIn now (name_after calls name) k bytes
IsDurableIn-logged None now calls name k bytes log spares durable = rw log tt
IsDurableIn-logged (Some l) now calls name k bytes log spares durable =
    rw log
    (subst (λ (d : Disk). HasDurable k bytes (d (name_after calls name))) (sym (disk_after-append l.calls calls (synced_disk l.start)))
    (durable_calls calls (disk_of l.start l.calls) name k bytes spares durable))

name_after-kept : (name : List ℕ) (calls : List Call) → KeepName name calls → name_after calls name ≡ name
name_after-kept name [] keep = refl
name_after-kept name (call ∷ calls) keep = rw keep.0 (name_after-kept name calls keep.1)

kept_short : (n : ℕ) (name : List ℕ) (call : Call) → name_after_call call name ≡ name → KeepName name (cut_short n call)
kept_short zero name call keep = tt
kept_short (suc n) name (Make q) keep = (refl, tt)
kept_short (suc n) name (Write q place bytes) keep = (refl, tt)
kept_short (suc n) name (Cut q len) keep = (refl, tt)
kept_short (suc n) name (Sync q) keep = (refl, tt)
kept_short (suc n) name (Rename from to) keep = (keep, tt)
kept_short (suc n) name (Remove q) keep = (refl, tt)

-- Calls that keep a file's name do so wherever they are stopped.
pub KeepName-stopped : (j n : ℕ) (name : List ℕ) (calls : List Call) → KeepName name calls → KeepName name (stopped j n calls)
KeepName-stopped j n name [] keep = tt
KeepName-stopped zero n name (call ∷ calls) keep = kept_short n name call keep.0
KeepName-stopped (suc j) n name (call ∷ calls) keep = (keep.0, KeepName-stopped j n name calls keep.1)

-- Calls that spare a durable file and keep its name leave it durable, whether they ended or one failed.
pub IsDurableIn-kept : {T E : Type 0} (result : Result T E) (old new : Option FileMap) (before now : Option Log) (calls : List Call) (name : List ℕ) (k : ℕ) (bytes : List ℕ) → OnOk result (MakesCalls old new before now calls) → OnErr result (StopsWithin old new before now calls) → AllSpare k name calls → KeepName name calls → IsDurableIn before name k bytes → IsDurableIn now name k bytes
IsDurableIn-kept (Ok x) old new before now calls name k bytes made stopped_at spares keep durable =
    subst (λ (q : List ℕ). IsDurableIn now q k bytes) (name_after-kept name calls keep) (IsDurableIn-logged before now calls name k bytes made.log spares durable)
IsDurableIn-kept (Err e) old new before now calls name k bytes made stopped_at spares keep durable =
    let done : List Call = stopped stopped_at.0 stopped_at.1 calls in
    subst (λ (q : List ℕ). IsDurableIn now q k bytes)
    (name_after-kept name done (KeepName-stopped stopped_at.0 stopped_at.1 name calls keep))
    (IsDurableIn-logged before now done name k bytes stopped_at.2.log (spares-stopped stopped_at.0 stopped_at.1 k name calls spares) durable)

short-or : (n : ℕ) (name other : List ℕ) (call : Call) → name_after_call call name ≡ other → (name_after (cut_short n call) name ≡ name) ⊎ (name_after (cut_short n call) name ≡ other)
short-or zero name other call e = inl refl
short-or (suc n) name other (Make q) e = inl refl
short-or (suc n) name other (Write q place bytes) e = inl refl
short-or (suc n) name other (Cut q len) e = inl refl
short-or (suc n) name other (Sync q) e = inl refl
short-or (suc n) name other (Rename from to) e = inr e
short-or (suc n) name other (Remove q) e = inl refl

-- Wherever such calls are stopped, the file has one of the two names.
pub KeepNameOr-stopped : (j n : ℕ) (name other : List ℕ) (calls : List Call) → KeepNameOr name other calls → (name_after (stopped j n calls) name ≡ name) ⊎ (name_after (stopped j n calls) name ≡ other)
KeepNameOr-stopped j n name other [] keep = inl refl
KeepNameOr-stopped zero n name other (call ∷ calls) (inl keep) = inl (name_after-kept name (cut_short n call) (kept_short n name call keep.0))
KeepNameOr-stopped zero n name other (call ∷ calls) (inr moved) = short-or n name other call moved.0
KeepNameOr-stopped (suc j) n name other (call ∷ calls) (inl keep) =
    subst (λ (q : List ℕ). (name_after (stopped j n calls) q ≡ name) ⊎ (name_after (stopped j n calls) q ≡ other)) (sym keep.0) (KeepNameOr-stopped j n name other calls keep.1)
KeepNameOr-stopped (suc j) n name other (call ∷ calls) (inr moved) =
    subst (λ (q : List ℕ). (name_after (stopped j n calls) q ≡ name) ⊎ (name_after (stopped j n calls) q ≡ other)) (sym moved.0) (inr (name_after-kept other (stopped j n calls) (KeepName-stopped j n other calls moved.1)))

-- Calls that spare a durable file and may give it another name leave it durable under one of the two, where one failed.
pub IsDurableIn-either : (old new : Option FileMap) (before now : Option Log) (calls : List Call) (name other : List ℕ) (k : ℕ) (bytes : List ℕ) → StopsWithin old new before now calls → AllSpare k name calls → KeepNameOr name other calls → IsDurableIn before name k bytes → IsDurableIn now name k bytes ⊎ IsDurableIn now other k bytes
IsDurableIn-either old new before now calls name other k bytes stop spares keep durable =
    let done : List Call = stopped stop.0 stop.1 calls in
    let there : IsDurableIn now (name_after done name) k bytes =
    IsDurableIn-logged before now done name k bytes stop.2.log (spares-stopped stop.0 stop.1 k name calls spares) durable in
    elim (KeepNameOr-stopped stop.0 stop.1 name other calls keep) [
      | inl e ↦ inl (subst (λ (q : List ℕ). IsDurableIn now q k bytes) e there)
      | inr e ↦ inr (subst (λ (q : List ℕ). IsDurableIn now q k bytes) e there)
    ]

some_files : (a b : FileMap) → Some a ≡ Some b → a ≡ b
some_files a b e = cc

-- A sync makes all bytes of a file durable, beside calls that leave them.
pub IsWhollyDurable-synced : (old new : Option FileMap) (before now : Option Log) (first rest : List Call) (name : List ℕ) → LogMakesFiles before old → ((m : FileMap) → run first m name ≡ m name) → ((k : ℕ) → AllSpare k name rest) → KeepName name rest → MakesCalls old new before now (first ++ Sync name ∷ rest) → IsWhollyDurable old now name
IsWhollyDurable-synced None new before now first rest name makes leaves spares keep made = tt
IsWhollyDurable-synced (Some m) new None now first rest name makes leaves spares keep made = λ bytes has. rw made.log tt
IsWhollyDurable-synced (Some m) new (Some l) now first rest name makes leaves spares keep made = λ bytes has.
    let disk : Disk = disk_of l.start l.calls in
    let seen : seen_of (disk_after first disk name) ≡ Some bytes =
    shows_calls first disk m (λ q. shows_disk_of l.start l.calls q ∙ ap (λ (f : FileMap). f q) (sym (some_files m (run l.calls l.start) makes))) name ∙ (leaves m ∙ has) in
    let synced : HasDurable (length bytes) bytes (disk_after_call (Sync name) (disk_after first disk) name) =
    durable-after_sync (disk_after first disk) name (length bytes) bytes seen (omega arith) in
    let kept : HasDurable (length bytes) bytes (disk_after rest (disk_after_call (Sync name) (disk_after first disk)) name) =
    subst (λ (q : List ℕ). HasDurable (length bytes) bytes (disk_after rest (disk_after_call (Sync name) (disk_after first disk)) q)) (name_after-kept name rest keep)
    (durable_calls rest (disk_after_call (Sync name) (disk_after first disk)) name (length bytes) bytes (spares (length bytes)) synced) in
    rw made.log
    (subst (λ (d : Disk). HasDurable (length bytes) bytes (d name))
    (sym (disk_after-append l.calls (first ++ Sync name ∷ rest) (synced_disk l.start) ∙ disk_after-append first (Sync name ∷ rest) disk)) kept)
