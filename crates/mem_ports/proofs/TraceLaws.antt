-- Laws of what trace entries carried.
use Rattle.std.proofs.Common.{◌≡◌, ◌==◌, ◌&&◌, ℕ, ◌≤◌, Bool, true, false, cond, nat_lt, List, [], ◌∷◌, ◌++◌, append-nil, append_assoc, arith, refl, sym, ap, ◌∙◌}
use Rattle.std.proofs.lemmas.List.Folds.{list_all-append}
use Rattle.std.proofs.lemmas.Grind.{common_steps}
use Rattle.std.proofs.lemmas.Bool.Decides.{nat_tests}
use Rattle.hd_base.specs.Lists.{joined}
use Rattle.hd_base.specs.Channels.{carry, gathered, same_direction}
use Rattle.mem_ports.specs.declared.trace.TraceEntry.{TraceEntry}
use Rattle.mem_ports.specs.Pieces.{pieces_of}
use Rattle.mem_ports.specs.Traces.{entry_bytes, carried_of, trace_below}

carried_append : (xs ys : List TraceEntry) (c : ℕ) (d : Bool) → carried_of (xs ++ ys) c d ≡ carried_of xs c d ++ carried_of ys c d
carried_append [] ys c d = refl
carried_append (x ∷ xs) ys c d = ap (λ l. entry_bytes x c d ++ l) (carried_append xs ys c d) ∙ sym (append_assoc (entry_bytes x c d) (carried_of xs c d) (carried_of ys c d))

-- Traces behind others carried on.
pub carried-gathered : (xs ys : List TraceEntry) → carried_of (xs ++ ys) ≡ gathered (carried_of xs) (carried_of ys)
carried-gathered xs ys = λ i c d. carried_append xs ys c d i

one_more : (b : Bool) (bytes more : List ℕ) → bytes ++ (cond b more [] ++ []) ≡ cond b (bytes ++ more) bytes
one_more true bytes more = ap (λ l. bytes ++ l) (append-nil more)
one_more false bytes more = append-nil bytes

pub carried-push : (xs : List TraceEntry) (x : TraceEntry) → carried_of (xs ++ x ∷ []) ≡ carry (carried_of xs) x.conn.0 x.down (joined (pieces_of x.pieces.items))
carried-push xs x = λ i c d. (carried_append xs (x ∷ []) c d ∙ one_more ((x.conn.0 == c) && same_direction x.down d) (carried_of xs c d) (joined (pieces_of x.pieces.items))) i

apart_below : (a n : ℕ) → nat_lt a n ≡ true → (a == n) ≡ false
apart_below a n less = grind (arith, nat_tests)

-- On a number that no trace entry has, nothing was carried.
pub carried-unused : (xs : List TraceEntry) (n : ℕ) (d : Bool) → trace_below n xs ≡ true → carried_of xs n d ≡ []
carried-unused [] n d below = refl
carried-unused (x ∷ xs) n d below =
    let here : (x.conn.0 == n) ≡ false = apart_below x.conn.0 n (grind (arith, common_steps)) in
    rw here (carried-unused xs n d (grind (arith, common_steps)))

-- More trace entries with numbers below this one.
pub trace_below-append : (n : ℕ) (xs ys : List TraceEntry) → trace_below n xs ≡ true → trace_below n ys ≡ true → trace_below n (xs ++ ys) ≡ true
trace_below-append n xs ys one other = list_all-append (λ entry. nat_lt entry.conn.0 n) xs ys ∙ rw one other

-- Numbers below one are below a higher one.
pub trace_below-more : (n m : ℕ) (xs : List TraceEntry) → n ≤ m → trace_below n xs ≡ true → trace_below m xs ≡ true
trace_below-more n m [] less below = refl
trace_below-more n m (x ∷ xs) less below =
    let rest = trace_below-more n m xs less (grind (arith, common_steps)) in
    let old : nat_lt x.conn.0 n ≡ true = grind (arith, common_steps) in
    let here : nat_lt x.conn.0 m ≡ true = grind (arith, nat_tests) in rw here rest
