-- What is answered by what reading gives is the next message, or none, or the fault at the front.
use Rattle.std.proofs.Common.{◌≡◌, ◌⊎◌, ℕ, List, ◌++◌, length, take, drop, Option, Some, None, Result, Ok, Err, inl, inr, refl, sym, ap, ◌∙◌, subst, take-append-drop}
use Rattle.std.proofs.Math.Seq.{drop-append_seam}
use Rattle.hd_base.specs.Bytes.{IsBytes}
use Rattle.hd_base.proofs.ResultLaws.{ok_pair, err_value}
use Rattle.frame_feed.specs.declared.faults.FeedFault.{FeedFault}
use Rattle.frame_feed.specs.declared.faults.FeedFault.TheVariants as feed
use Rattle.frame_feed.specs.declared.faults.NoMessage.{NoMessage}
use Rattle.frame_feed.specs.declared.faults.NoMessage.TheVariants.{Short, Memory, Refused}
use Rattle.std.specs.Prelude.{IfErr}
use Rattle.frame_feed.specs.declared.framing.Framing.{Framing}
use Rattle.frame_feed.specs.Framings.{IsCut, missing}
use Rattle.frame_feed.specs.Faults.{IsOfStream, IsAnswer}
use Rattle.frame_feed.specs.Kinds.{Kind, IsSound}
use Rattle.frame_feed.proofs.FramingLemmas.{cut_bounded, cut_wants, missing_within, size_told}
use Rattle.frame_feed.specs.Feeds.{FeedState, holding, waiting, refusing, Answers, TakesOne, TakesNext, Wants, AnswersAsRead, answer_of, state_after}

-- ---- answers that differ

none_some : {M : Type 0} (r : Result (Option M) FeedFault) (m : M) → r ≡ Ok None → r ≡ Ok (Some m) → ⊥
none_some {M = M} r m a b = let e : ◌≡◌ {A = Result (Option M) FeedFault} (Ok None) (Ok (Some m)) = sym a ∙ b in cc

ok_fault : {M : Type 0} (r : Result (Option M) FeedFault) (o : Option M) (e : FeedFault) → r ≡ Ok o → r ≡ Err e → ⊥
ok_fault {M = M} r o f a b = let e : ◌≡◌ {A = Result (Option M) FeedFault} (Ok o) (Err f) = sym a ∙ b in cc

value_why : {A : Type 0} (r : Result A NoMessage) (x : A) (why : NoMessage) → r ≡ Ok x → r ≡ Err why → ⊥
value_why {A = A} r x why a b = let e : ◌≡◌ {A = Result A NoMessage} (Ok x) (Err why) = sym a ∙ b in cc

short_refused : {A : Type 0} (r : Result A NoMessage) (e : FeedFault) → r ≡ Err Short → r ≡ Err (Refused e) → ⊥
short_refused {A = A} r e a b = let h : ◌≡◌ {A = Result A NoMessage} (Err Short) (Err (Refused e)) = sym a ∙ b in cc

same_fault : {A : Type 0} (r : Result A NoMessage) (e f : FeedFault) → r ≡ Err (Refused e) → r ≡ Err (Refused f) → e ≡ f
same_fault {A = A} r e f a b = let h : ◌≡◌ {A = Result A NoMessage} (Err (Refused e)) (Err (Refused f)) = sym a ∙ b in cc

same_message : {M : Type 0} (r : Result (Option M) FeedFault) (m n : M) → r ≡ Ok (Some m) → r ≡ Ok (Some n) → m ≡ n
same_message {M = M} r m n a b = let h : ◌≡◌ {A = Result (Option M) FeedFault} (Ok (Some m)) (Ok (Some n)) = sym a ∙ b in cc

fault_of : {M : Type 0} (r : Result (Option M) FeedFault) (e f : FeedFault) → r ≡ Err e → r ≡ Err f → e ≡ f
fault_of {M = M} r e f a b = err_value e f (sym a ∙ b)

going : (old : FeedState) (e : FeedFault) → old.refused ≡ None → old.refused ≡ Some e → ⊥
going old e a b = let h : ◌≡◌ {A = Option FeedFault} None (Some e) = sym a ∙ b in cc

-- ---- what is wanted

-- While the message at the front is cut off, more is wanted, and no more than it has.
waits_for : {M : Type 0} (kind : Kind M) (rest : List ℕ) → IsSound kind → IsCut kind.framing rest → Wants kind (waiting kind.framing rest)
waits_for kind rest sound cut = record {
  some = cut_wants kind.framing rest cut;
  within = λ m text more s parts. missing_within kind.framing rest text more (sound.sized m text s) parts cut;
  whole = λ size m text more shows s parts. size_told kind.framing rest text more size (sound.sized m text s) parts shows;
  bounded = cut_bounded kind.framing rest cut;
}

-- ---- memory ran out

takes_memory : {M : Type 0} (kind : Kind M) (old : FeedState) (r : Result (Option M) FeedFault) (new : FeedState) → old.refused ≡ None → r ≡ Err feed.Memory → new ≡ old → TakesNext kind old r new
takes_memory kind old r new on is same = record {
  found = λ m e. absurd (ok_fault r (Some m) feed.Memory e is);
  only = λ _ m text rest s parts. inl (is, same);
  none = λ e. absurd (ok_fault r None feed.Memory e is);
  wants = λ e. absurd (ok_fault r None feed.Memory e is);
  short = λ _ s. inl (is, same);
  fails = λ e h. inl (fault_of r e feed.Memory h is);
  refuses = λ e _ s. inl (is, same);
  again = λ e h. absurd (going old e on h);
  stays = λ _. ap FeedState.rest same;
  memory = λ _. same;
}

-- ---- a message was taken

takes_message : {M : Type 0} (kind : Kind M) (old : FeedState) (r : Result (Option M) FeedFault) (new : FeedState) (m : M) (k : ℕ) → IsSound kind → IsBytes old.rest → old.refused ≡ None → kind.reads old.rest ≡ Ok (m, k) → r ≡ Ok (Some m) → new ≡ holding (drop k old.rest) → TakesNext kind old r new
takes_message {M = M} kind old r new m k sound fits on read is left = record {
  found = λ n e. taken n (same_message r m n is e);
  only = λ _ n text rest s parts. whole n text rest s parts;
  none = λ e. absurd (none_some r m e is);
  wants = λ e. absurd (none_some r m e is);
  short = λ _ s. absurd (value_why (kind.reads old.rest) (m, k) Short read (sound.stopped Short old.rest fits (sound.cut old.rest s)));
  fails = λ e h. absurd (ok_fault r (Some m) e is h);
  refuses = λ e _ s. absurd (value_why (kind.reads old.rest) (m, k) (Refused e) read (sound.stopped (Refused e) old.rest fits s));
  again = λ e h. absurd (going old e on h);
  stays = λ never. absurd (never m is);
  memory = λ e. absurd (ok_fault r (Some m) feed.Memory is e);
}
  where
    behind : new.rest ≡ drop k old.rest
    behind = ap FeedState.rest left

    taken : (n : M) → m ≡ n → TakesOne kind n old new
    taken n same = record {
      text = take k old.rest;
      spelled = subst (λ (x : M). kind.spells x (take k old.rest)) same (sound.found m k old.rest fits read);
      listed = subst kind.listed same (sound.listed m k old.rest fits read);
      front = sym (take-append-drop k old.rest) ∙ ap (λ l. take k old.rest ++ l) (sym behind);
      left = left ∙ ap holding (sym behind);
    }

    whole : (n : M) (text rest : List ℕ) → kind.spells n text → old.rest ≡ text ++ rest → Answers old r new (Ok (Some n)) (holding rest)
    whole n text rest s parts =
        let same = ok_pair m n k (length text) (sym read ∙ (ap kind.reads parts ∙ sound.only n text rest s)) in
        inr (
          is ∙ ap (λ x. Ok (Some x)) same.0,
          left ∙ ap holding (ap (λ l. drop k l) parts ∙ (ap (λ i. drop i (text ++ rest)) same.1 ∙ drop-append_seam text rest)),
        )

-- ---- the message at the front is cut off

pub takes_none : {M : Type 0} (kind : Kind M) (old : FeedState) (r : Result (Option M) FeedFault) (new : FeedState) → IsSound kind → IsBytes old.rest → old.refused ≡ None → kind.stops Short old.rest → r ≡ Ok None → new ≡ waiting kind.framing old.rest → TakesNext kind old r new
takes_none kind old r new sound fits on short is left =
    let read = sound.stopped Short old.rest fits short in
    record {
      found = λ m e. absurd (none_some r m is e);
      only = λ _ m text rest s parts. absurd (value_why (kind.reads old.rest) (m, length text) Short (ap kind.reads parts ∙ sound.only m text rest s) read);
      none = λ _. sound.is_cut old.rest short;
      wants = λ _. subst (Wants kind) (sym left) (waits_for kind old.rest sound (sound.is_cut old.rest short));
      short = λ _ _. inr (is, left);
      fails = λ e h. absurd (ok_fault r None e is h);
      refuses = λ e _ s. absurd (short_refused (kind.reads old.rest) e read (sound.stopped (Refused e) old.rest fits s));
      again = λ e h. absurd (going old e on h);
      stays = λ _. ap FeedState.rest left;
      memory = λ e. absurd (ok_fault r None feed.Memory is e);
    }

-- ---- a fault stands at the front

takes_fault : {M : Type 0} (kind : Kind M) (old : FeedState) (r : Result (Option M) FeedFault) (new : FeedState) (f : FeedFault) → IsSound kind → IsBytes old.rest → old.refused ≡ None → kind.reads old.rest ≡ Err (Refused f) → r ≡ Err f → new ≡ refusing f old.rest → TakesNext kind old r new
takes_fault kind old r new f sound fits on read is left =
    let stands = sound.fails (Refused f) old.rest fits read in
    record {
      found = λ m e. absurd (ok_fault r (Some m) f e is);
      only = λ _ m text rest s parts. absurd (value_why (kind.reads old.rest) (m, length text) (Refused f) (ap kind.reads parts ∙ sound.only m text rest s) read);
      none = λ e. absurd (ok_fault r None f e is);
      wants = λ e. absurd (ok_fault r None f e is);
      short = λ _ s. absurd (short_refused (kind.reads old.rest) f (sound.stopped Short old.rest fits (sound.cut old.rest s)) read);
      fails = λ e h. inr (inr (subst (λ (x : FeedFault). kind.stops (Refused x) old.rest) (fault_of r f e is h) stands));
      refuses = λ e _ s.
          let same = same_fault (kind.reads old.rest) f e read (sound.stopped (Refused e) old.rest fits s) in
          inr (is ∙ ap Err same, left ∙ ap (λ x. refusing x old.rest) same);
      again = λ e h. absurd (going old e on h);
      stays = λ _. ap FeedState.rest left;
      memory = λ e. absurd (subst IsOfStream (fault_of r f feed.Memory is e) (sound.of_stream f old.rest stands));
    }

-- ---- what reading gives is answered

pub takes_next : {M : Type 0} (kind : Kind M) (old : FeedState) (r : Result (Option M) FeedFault) (new : FeedState) → IsSound kind → IsBytes old.rest → old.refused ≡ None → AnswersAsRead kind old r new → TakesNext kind old r new
takes_next {M = M} kind old r new sound fits on (inl a) = takes_memory kind old r new on a.0 a.1
takes_next {M = M} kind old r new sound fits on (inr a) = by_read (kind.reads old.rest) refl a.0 a.1 where
  by_read : (q : Result (M × ℕ) NoMessage) → kind.reads old.rest ≡ q → r ≡ answer_of (kind.reads old.rest) → new ≡ state_after kind.framing old (kind.reads old.rest) → TakesNext kind old r new
  by_read (Ok x) e is left = takes_message kind old r new x.0 x.1 sound fits on e (is ∙ ap answer_of e) (left ∙ ap (state_after kind.framing old) e)
  by_read (Err Short) e is left = takes_none kind old r new sound fits on (sound.fails Short old.rest fits e) (is ∙ ap answer_of e) (left ∙ ap (state_after kind.framing old) e)
  by_read (Err Memory) e is left = takes_memory kind old r new on (is ∙ ap answer_of e) (left ∙ ap (state_after kind.framing old) e)
  by_read (Err (Refused f)) e is left = takes_fault kind old r new f sound fits on e (is ∙ ap answer_of e) (left ∙ ap (state_after kind.framing old) e)

-- ---- a fault that was answered before

pub takes_again : {M : Type 0} (kind : Kind M) (old : FeedState) (r : Result (Option M) FeedFault) (new : FeedState) (f : FeedFault) → old.refused ≡ Some f → r ≡ Err f → new ≡ old → TakesNext kind old r new
takes_again kind old r new f stays is same = record {
  found = λ m e. absurd (ok_fault r (Some m) f e is);
  only = λ on m text rest s parts. absurd (going old f on stays);
  none = λ e. absurd (ok_fault r None f e is);
  wants = λ e. absurd (ok_fault r None f e is);
  short = λ on s. absurd (going old f on stays);
  fails = λ e h. inr (inl (stays ∙ ap Some (fault_of r f e is h)));
  refuses = λ e on s. absurd (going old f on stays);
  again = λ e h. (is ∙ ap Err (some_value f e (sym stays ∙ h)), same);
  stays = λ _. ap FeedState.rest same;
  memory = λ _. same;
}
  where
    some_value : (a b : FeedFault) → ◌≡◌ {A = Option FeedFault} (Some a) (Some b) → a ≡ b
    some_value a b e = cc

-- ---- why nothing was taken

-- Where reading says Short, the bytes are cut off.
pub short_cut : {M : Type 0} (kind : Kind M) (bytes : List ℕ) (why : NoMessage) → IsSound kind → IsBytes bytes → why ≡ Short → (why ≡ Memory) ⊎ (kind.reads bytes ≡ Err why) → IsCut kind.framing bytes
short_cut kind bytes why sound fits short (inl memory) = let no : Short ≡ Memory = sym short ∙ memory in cc
short_cut kind bytes why sound fits short (inr read) = sound.is_cut bytes (sound.fails Short bytes fits (read ∙ ap Err short))

-- Where reading gives a fault, it has no Memory and no Short within.
pub refused_of_stream : {M : Type 0} (kind : Kind M) (bytes : List ℕ) (why : NoMessage) (fault : FeedFault) → IsSound kind → IsBytes bytes → why ≡ Refused fault → (why ≡ Memory) ⊎ (kind.reads bytes ≡ Err why) → IsOfStream fault
refused_of_stream kind bytes why fault sound fits refused (inl memory) = let no : Refused fault ≡ Memory = sym refused ∙ memory in cc
refused_of_stream kind bytes why fault sound fits refused (inr read) = sound.of_stream fault bytes (sound.fails (Refused fault) bytes fits (read ∙ ap Err refused))

-- a fault of the stream is one that is answered
pub is_answer : (fault : FeedFault) → IsOfStream fault → IsAnswer fault
is_answer (feed.Op f) s = s
is_answer (feed.Packet f) s = s
is_answer (feed.Ack f) s = s
is_answer (feed.Response f) s = s
is_answer (feed.Recovery f) s = s
is_answer feed.Memory s = tt

pub answers_of_stream : {M : Type 0} (kind : Kind M) (old : FeedState) (r : Result (Option M) FeedFault) (new : FeedState) → IsSound kind → IsBytes old.rest → AnswersAsRead kind old r new → IfErr r IsAnswer
answers_of_stream kind old (Ok o) new sound fits a = tt
answers_of_stream {M = M} kind old (Err e) new sound fits (inl a) = subst IsAnswer (sym (err_value e feed.Memory a.0)) tt
answers_of_stream {M = M} kind old (Err e) new sound fits (inr a) = by_read (kind.reads old.rest) refl a.0 where
  by_read : (q : Result (M × ℕ) NoMessage) → kind.reads old.rest ≡ q → ◌≡◌ {A = Result (Option M) FeedFault} (Err e) (answer_of (kind.reads old.rest)) → IsAnswer e
  by_read (Ok x) h is = let no : ◌≡◌ {A = Result (Option M) FeedFault} (Err e) (Ok (Some x.0)) = is ∙ ap answer_of h in cc
  by_read (Err Short) h is = let no : ◌≡◌ {A = Result (Option M) FeedFault} (Err e) (Ok None) = is ∙ ap answer_of h in cc
  by_read (Err Memory) h is = subst IsAnswer (sym (err_value e feed.Memory (is ∙ ap answer_of h))) tt
  by_read (Err (Refused f)) h is = subst IsAnswer (sym (err_value e f (is ∙ ap answer_of h))) (is_answer f (sound.of_stream f old.rest (sound.fails (Refused f) old.rest fits h)))

-- waiting for so many bytes
pub waits : (old : FeedState) (f : Framing) (n : ℕ) → old.refused ≡ None → n ≡ missing f old.rest → record old { wanted = n } ≡ waiting f old.rest
waits old f n on is = ap (λ (x : Option FeedFault). record { rest = old.rest; refused = x; wanted = n }) on ∙ ap (λ (k : ℕ). record { rest = old.rest; refused = None; wanted = k }) is
