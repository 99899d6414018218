-- What `calculate` answers, and what stands in the three lent slices after it, for every input and every slices (01, "The direct calculation",
-- "What is turned away"); and what was ordered: rates in lowest terms that are max-min fair (00, demand 2), and the places that bind (02, §2).
-- Assumes nothing: definitions.
use Rattle.std.specs.Prelude.{◌||◌, cond, List, ℕ, ◌≤◌, ltb, get_or, length, set, Result, Ok, Err, ⊤}
use Rattle.fractions.specs.Fraction.{frac, lowest_of}
use Rattle.fractions.specs.declared.Rate.{Rate}
use Rattle.sessions.specs.Set.{members, walk}
use Rattle.fairness.specs.Answer.{Answer}
use Rattle.fairness.specs.Figure1.{figure1, rate, values}
use Rattle.fairness.specs.MaxMin.{Active}
use Rattle.records.specs.Limits.{input_limit}
use Rattle.records.specs.Refusals.{number_of, refused_at}
use Rattle.records.specs.declared.Refusal.TheVariants as refusal
use Rattle.records.specs.declared.Refused.{Refused}
use Rattle.declarations.specs.Declaring.{declarations_of}
use Rattle.declarations.specs.declared.Declared.{Declared}
use Rattle.filling.specs.Lines.{problem_of}
use Rattle.calculation.specs.Binding.{Binds, binding_of}
use Rattle.calculation.specs.declared.Calculated.{Calculated}
use Rattle.calculation.specs.declared.Results.{Results}

-- the rates of Figure 1 in lowest terms, and the binding places, of all 32 numbers
unfoldable pub results_of : Declared → Results
results_of d =
    let z = figure1 (problem_of d) in
    record {
      nums = values 0 32 (λ t. (lowest_of (rate z t) z.den).num);
      dens = values 0 32 (λ t. (lowest_of (rate z t) z.den).den);
      places = values 0 32 (binding_of d z.den (rate z));
    }

-- a slice in which the places of the sessions of w, and no others, are written
unfoldable pub written : ℕ → List ℕ → List ℕ → List ℕ
written w v slice = walk (λ l t. set l t (get_or v t 0)) slice (members w)

-- the answer, and the three slices after the call
pub record Outcome : Type 0 where
  pub answer : Result Calculated Refused
  pub nums : List ℕ
  pub dens : List ℕ
  pub places : List ℕ

-- a refusal writes nothing
abbrev pub refusing : Result Calculated Refused → List ℕ → List ℕ → List ℕ → Outcome
refusing a nums dens places = record { answer = a; nums = nums; dens = dens; places = places }

-- the sessions that were declared get their places
unfoldable pub done_of : Declared → List ℕ → List ℕ → List ℕ → Outcome
done_of d nums dens places =
    let v = results_of d in
    record {
      answer = Ok (record { links = d.links; sessions = d.sessions });
      nums = written d.sessions v.nums nums;
      dens = written d.sessions v.dens dens;
      places = written d.sessions v.places places;
    }

abbrev pub after_records : Result ⊤ Refused → Declared → List ℕ → List ℕ → List ℕ → Outcome
after_records (Err r) d nums dens places = refusing (Err r) nums dens places
after_records (Ok finished) d nums dens places = done_of d nums dens places

-- checked in this order: 15, 1, then the records
unfoldable pub calculate_of : List ℕ → List ℕ → List ℕ → List ℕ → Outcome
calculate_of s nums dens places =
    cond (ltb (length nums) 32 || (ltb (length dens) 32 || ltb (length places) 32))
    (refusing (Err (refused_at refusal.ShortSlice 0)) nums dens places)
    (cond (ltb input_limit (length s)) (refusing (Err (refused_at refusal.TooLong 0)) nums dens places)
    (after_records (declarations_of s).end (declarations_of s).declared nums dens places))

-- the documents' number and values of an answer: 0 with the declared links and sessions, or the number of the refusal with its place
pub record Said : Type 0 where
  pub number : ℕ
  pub place : ℕ
  pub links : ℕ
  pub sessions : ℕ

abbrev pub said_of : Result Calculated Refused → Said
said_of (Ok a) = record { number = 0; place = 0; links = a.links; sessions = a.sessions }
said_of (Err r) = record { number = number_of r.refusal; place = r.place; links = 0; sessions = 0 }

-- what was ordered of an accepted input: in the slices stand, for the declared sessions, the rates in lowest terms that are max-min fair
abbrev pub Ordered : List ℕ → Result Calculated Refused → List ℕ → List ℕ → Type 0
Ordered s (Ok a) nums dens = Answer (problem_of (declarations_of s).declared) (λ t. frac (get_or nums t 0) (get_or dens t 0))
Ordered s (Err r) nums dens = 0 ≤ 0  -- of a refusal the definition of the outcome says all

-- 02, §2: rates r that were ordered, and places that say what binds each active session at these rates
pub record Placed (d : Declared) (r : ℕ → Rate) (place : ℕ → ℕ) : Type 0 where
  pub answer : Answer (problem_of d) r
  pub binds : (t : ℕ) → Active (problem_of d) t → Binds d answer.over answer.rates t (place t)

-- and of an accepted input: in the third slice stands, for each declared session, what binds it at the rates in the first two
abbrev pub PlacesBind : List ℕ → Result Calculated Refused → List ℕ → List ℕ → List ℕ → Type 0
PlacesBind s (Ok a) nums dens places =
    Placed (declarations_of s).declared (λ t. frac (get_or nums t 0) (get_or dens t 0)) (λ t. get_or places t 0)
PlacesBind s (Err r) nums dens places = 0 ≤ 0
