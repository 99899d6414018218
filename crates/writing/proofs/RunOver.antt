-- A run over records that were written, one for each number that passes a test, by rising number: where each is read and taken, and what holds of the
-- state goes on from number to number, the run comes to the end of them, and takes one record for each; and so it does where an input is of two kinds
-- of them, one after the other.
-- Assumes nothing.
use Rattle.std.specs.Prelude.{Result, Ok, ⊤}
use mathlib.Core.Bool.{Bool, cond, false, true}
use mathlib.Core.List.{List, [], ◌∷◌, ◌++◌, append_assoc, append-nil}
use mathlib.Core.Path.{◌≡◌, ap, refl, subst, sym, ◌∙◌}
use Prim.Native.Nat.{ℕ, zero, suc, ◌+◌, ◌-◌, ◌<◌, ◌≤◌}
use native.Mathlib.Omega.{arith}
use lib.ListN.{length, length-append}
use Rattle.records.specs.Format.{read_at, size_at}
use Rattle.records.specs.Run.{Ran, judged, run_from}
use Rattle.records.specs.declared.Call.{Call}
use Rattle.records.specs.declared.Record.{Record}
use Rattle.records.specs.declared.Refusal.{Refusal}
use Rattle.records.proofs.Runs.{run_end, run_taken}
use Rattle.writing.specs.Writing.{records_from}

-- the k numbers from b on that pass
abbrev pub passing : ℕ → ℕ → (ℕ → Bool) → List ℕ
passing k b test = records_from k b test (λ i. i ∷ [])

-- a number that does not pass takes the state on as it is
abbrev pub Skips : {S : Type 0} → (ℕ → S → Type 0) → (ℕ → Bool) → Type 0
Skips {S = S} Inv test = (b : ℕ) (z : S) → test b ≡ false → Inv b z → Inv (suc b) z

-- ONE KIND OF RECORDS -------------------------------------------------------------------------------------------------

module _ {S : Type 0} (c : Call) (judge : S → Record → Result ⊤ Refusal) (act : S → Record → S) (s : List ℕ) (Inv : ℕ → S → Type 0) where
  -- the record of number b, of so many bytes, is taken at a place, and takes the state on
  pub record Taken (b : ℕ) (z : S) (at size : ℕ) : Type 0 where
    pub what : Record
    pub taken : judged (read_at c s at) (judge z) ≡ Ok what
    pub long : size_at s at ≡ size
    pub some : 0 < size
    pub fits : at + size ≤ length s
    pub next : Inv (suc b) (act z what)

  -- from a state z, n records and a place the run comes to another with so many records more, where the numbers below b are done
  pub record Comes (z : S) (n at b at' more : ℕ) : Type 0 where
    pub state : S
    pub count : ℕ
    pub counts : count ≡ n + more
    pub low : count ≤ at'
    pub is : run_from c judge act s (length s - n) z n at ≡ run_from c judge act s (length s - count) state count at'
    pub inv : Inv b state

  -- the record of each number below the limit that passes is taken where it stands
  abbrev pub Turns : ℕ → (ℕ → Bool) → (ℕ → List ℕ) → Type 0
  Turns limit test record_of =
      (b : ℕ) (z : S) (before behind : List ℕ) → b < limit → test b ≡ true → Inv b z → s ≡ before ++ (record_of b ++ behind)
      → Taken b z (length before) (length (record_of b))

  module _ (limit : ℕ) (test : ℕ → Bool) (record_of : ℕ → List ℕ) (turn : Turns limit test record_of) (skip : Skips Inv test) where
    one : (b : ℕ) (z : S) (n : ℕ) (before behind : List ℕ) → b < limit → test b ≡ true → n ≤ length before → Inv b z
        → s ≡ before ++ (record_of b ++ behind) → Comes z n (length before) (suc b) (length (before ++ record_of b)) 1
    one b z n before behind h t low i e =
        let k = turn b z before behind h t i e in
        let far : length before + size_at s (length before) ≡ length (before ++ record_of b) =
        ap (λ (v : ℕ). length before + v) k.long ∙ sym (length-append before (record_of b)) in
        record {
          state = act z k.what;
          count = n + 1;
          counts = refl;
          low = omega (arith, k.some, length-append before (record_of b));
          is = run_taken c judge act s z n (length before) k.what low (omega (arith, k.some, k.fits)) k.taken
              ∙ ap (λ (v : ℕ). run_from c judge act s (length s - (n + 1)) (act z k.what) (n + 1) v) far;
          inv = k.next;
        }

    -- the same, said of an equal number, place and count
    moved : (z : S) (n at b at' d at'' more yet : ℕ) → b ≡ d → at' ≡ at'' → more ≡ yet → Comes z n at b at' more → Comes z n at d at'' yet
    moved z n at b at' d at'' more yet p q m r =
        subst (λ (v : ℕ). Comes z n at v at'' yet) p (subst (λ (v : ℕ). Comes z n at b v yet) q (subst (Comes z n at b at') m r))

    then : (z : S) (n at b at' d at'' more yet : ℕ) (first : Comes z n at b at' more) → Comes first.state first.count at' d at'' yet
        → Comes z n at d at'' (more + yet)
    then z n at b at' d at'' more yet first next =
        record {
          state = next.state;
          count = next.count;
          counts = omega (arith, first.counts, next.counts);
          low = next.low;
          is = first.is ∙ next.is;
          inv = next.inv;
        }

    -- all of them
    pub run_over : (k b : ℕ) (z : S) (n : ℕ) (before behind : List ℕ) → b + k ≤ limit → n ≤ length before → Inv b z
        → s ≡ before ++ (records_from k b test record_of ++ behind)
        → Comes z n (length before) (b + k) (length (before ++ records_from k b test record_of)) (length (passing k b test))
    unfolding records_from
    run_over zero b z n before behind h low i e =
        moved z n (length before) b (length before) (b + 0) (length (before ++ [])) 0 0 (omega arith) (omega (arith, length-append before [])) refl
        (record { state = z; count = n; counts = omega arith; low = low; is = refl; inv = i })
    run_over (suc k) b z n before behind h low i e =
        go (test b) refl e (λ y m l p j q. run_over k (suc b) y m l behind (omega arith) p j q)
      where
        rest : List ℕ
        rest = records_from k (suc b) test record_of

        many : List ℕ
        many = passing k (suc b) test

        go : (t : Bool) → test b ≡ t → s ≡ before ++ ((cond t (record_of b) [] ++ rest) ++ behind)
            → ((y : S) (m : ℕ) (l : List ℕ) → m ≤ length l → Inv (suc b) y → s ≡ l ++ (rest ++ behind)
            → Comes y m (length l) (suc b + k) (length (l ++ rest)) (length many))
            → Comes z n (length before) (b + suc k) (length (before ++ (cond t (record_of b) [] ++ rest))) (length (cond t (b ∷ []) [] ++ many))
        go false q f more =
            moved z n (length before) (suc b + k) (length (before ++ rest)) (b + suc k) (length (before ++ rest)) (length many) (length many)
            (omega arith) refl refl
            (more z n before low (skip b z q i) f)
        go true q f more =
            let f1 : s ≡ before ++ (record_of b ++ (rest ++ behind)) = f ∙ ap (λ (l : List ℕ). before ++ l) (append_assoc (record_of b) rest behind) in
            let first = one b z n before (rest ++ behind) (omega arith) q low i f1 in
            let f2 : s ≡ (before ++ record_of b) ++ (rest ++ behind) = f1 ∙ sym (append_assoc before (record_of b) (rest ++ behind)) in
            moved z n (length before) (suc b + k) (length ((before ++ record_of b) ++ rest)) (b + suc k) (length (before ++ (record_of b ++ rest)))
            (1 + length many) (suc (length many)) (omega arith) (ap length (append_assoc before (record_of b) rest)) (omega arith)
            (then z n (length before) (suc b) (length (before ++ record_of b)) (suc b + k) (length ((before ++ record_of b) ++ rest)) 1 (length many) first
            (more first.state first.count (before ++ record_of b) first.low first.inv f2))

-- TWO KINDS OF RECORDS ------------------------------------------------------------------------------------------------

-- a run that finished, with so many records taken, in a state of which Inv holds
pub record Finishes {S : Type 0} (Inv : S → Type 0) (count : ℕ) (r : Ran S) : Type 0 where
  pub end : r.end ≡ Ok tt
  pub taken : r.taken ≡ count
  pub inv : Inv r.state

module _ {S : Type 0} (c : Call) (judge : S → Record → Result ⊤ Refusal) (act : S → Record → S) (First Second : ℕ → S → Type 0)
    (m n : ℕ) (first-test second-test : ℕ → Bool) (first_of second-of : ℕ → List ℕ) where
  abbrev front : List ℕ
  front = records_from m 0 first-test first_of

  abbrev behind : List ℕ
  behind = records_from n 0 second-test second-of

  abbrev s : List ℕ
  s = front ++ behind

  -- all of the first and then all of the second are taken, where what holds after the first is what the second starts from
  pub run_both : Turns c judge act s First m first-test first_of → Skips First first-test
      → Turns c judge act s Second n second-test second-of → Skips Second second-test
      → ((z : S) → First m z → Second 0 z) → (z : S) → First 0 z
      → Finishes (Second n) (length (passing m 0 first-test) + length (passing n 0 second-test)) (run_from c judge act s (length s) z 0 0)
  run_both first-turn first-skip second-turn second-skip done z i =
      let first = run_over c judge act s First m first-test first_of first-turn first-skip m 0 z 0 [] behind (omega arith) (omega arith) i refl in
      let half = done first.state (subst (λ (k : ℕ). First k first.state) {x = 0 + m} {y = m} (omega arith) first.inv) in
      let second =
      run_over c judge act s Second n second-test second-of second-turn second-skip n 0 first.state first.count front [] (omega arith) first.low half
      (ap (λ (l : List ℕ). front ++ l) (sym (append-nil behind))) in
      let whole =
      ap (λ (k : ℕ). run_from c judge act s k z 0 0) {x = length s} {y = length s - 0} (omega arith)
      ∙ first.is
      ∙ second.is
      ∙ run_end c judge act s _ second.state second.count (length s) (omega arith) in
      subst (Finishes (Second n) (length (passing m 0 first-test) + length (passing n 0 second-test))) (sym whole)
      (record {
        end = refl;
        taken = omega (arith, first.counts, second.counts);
        inv = subst (λ (k : ℕ). Second k second.state) {x = 0 + n} {y = n} (omega arith) second.inv;
      })
