-- The P examples of 01, and that of 02, §2, as rows of one table, under one claim, by computing the definitions.
-- Assumes nothing.
use mathlib.Core.List.{List, [], ◌∷◌, ◌++◌}
use mathlib.Core.Path.{◌≡◌, refl}
use Prim.Native.Nat.{ℕ, zero, suc}
use lib.ListN.{replicate}
use Rattle.fractions.specs.Divisor.{gcd_in, gcd_of}
use Rattle.fractions.specs.Fraction.{lowest_of}
use Rattle.sessions.specs.Set.{cut, has, members_from, put, walk}
use Rattle.fairness.specs.Figure1.{any, begin, chosen, counts, figure1, fix_at, left_at, lefts, load_at, net, one_round, open_all, open_at, round_on, rounds, smaller, smallest, values}
use Rattle.fairness.specs.MaxMin.{used}
use Rattle.fairness.specs.Sum.{sum}
use Rattle.fairness.proofs.Bottlenecks.{all_below, bottleneck_or_not, by_test, none_has_more, where_passes}
use Rattle.records.specs.Format.{all, be2, be4, body_at, body_of, change_at, deliver_at, differ, is_new, leave_at, link_at, links_ok, path_ok, read_at, rest_ok, session_at, size_at}
use Rattle.records.specs.Run.{run_from}
use Rattle.declarations.specs.Declaring.{copied, declarations_of, declare_of, judge_of, none_declared, own_limit_of, path_declared}
use Rattle.filling.specs.Lines.{problem_of}
use Rattle.calculation.specs.Binding.{binding_of, first_of, own, says}
use Rattle.calculation.specs.Calculating.{Outcome, Said, said_of, calculate_of, done_of, results_of, written}

-- a link record
abbrev link : ℕ → ℕ → List ℕ
link e capacity = 1 ∷ e ∷ 0 ∷ 0 ∷ 0 ∷ capacity ∷ []

-- a session record: access rate, maximum, and the path with its length first
abbrev session : ℕ → ℕ → ℕ → List ℕ → List ℕ
session t access maximum path = 2 ∷ t ∷ 0 ∷ 0 ∷ 0 ∷ access ∷ 0 ∷ 0 ∷ 0 ∷ maximum ∷ path

-- a path of one link, link 0
abbrev over0 : List ℕ
over0 = 1 ∷ 0 ∷ replicate 7 255

-- n sessions over link 0, numbered from t on
abbrev sessions : ℕ → ℕ → List ℕ
sessions zero t = []
sessions (suc n) t = session t 100 0 over0 ++ sessions n (suc t)

-- the slices before the call hold 9 at each of 32 places
abbrev nines : List ℕ
nines = replicate 32 9

-- the first places written, the others as they were
abbrev shown : List ℕ → ℕ → List ℕ
shown l n = l ++ replicate n 9

-- what an outcome says, in the documents' numbers, and the three slices
record Shown : Type 0 where
  said : Said
  nums : List ℕ
  dens : List ℕ
  places : List ℕ

abbrev showing : Outcome → Shown
showing o = record { said = said_of o.answer; nums = o.nums; dens = o.dens; places = o.places }

record Example : Type 0 where
  input : List ℕ
  outcome : Shown

-- refused with this number at this place: nothing is written
abbrev refused : List ℕ → ℕ → ℕ → Example
refused s number place =
    record {
      input = s;
      outcome = record { said = record { number = number; place = place; links = 0; sessions = 0 }; nums = nines; dens = nines; places = nines };
    }

abbrev accepted : List ℕ → ℕ → ℕ → List ℕ → List ℕ → List ℕ → ℕ → Example
accepted s links declared nums dens places others =
    record {
      input = s;
      outcome =
          record {
            said = record { number = 0; place = 0; links = links; sessions = declared };
            nums = shown nums others;
            dens = shown dens others;
            places = shown places others;
          };
    }

examples : List Example
examples =
    -- P1: empty input: accepted, no rates
    accepted [] 0 0 [] [] [] 32
    -- P2: one link of 10, one session: 10/1, link 0
    ∷ accepted (link 0 10 ++ session 0 100 0 over0) 1 1 (10 ∷ []) (1 ∷ []) (0 ∷ []) 31
    -- P3: access 7: 7/1, own
    ∷ accepted (link 0 10 ++ session 0 7 0 over0) 1 1 (7 ∷ []) (1 ∷ []) (own ∷ []) 31
    -- P4: access 7, maximum 4: 4/1, own
    ∷ accepted (link 0 10 ++ session 0 7 4 over0) 1 1 (4 ∷ []) (1 ∷ []) (own ∷ []) 31
    -- P5: link of 10, three sessions: 10/3 each
    ∷ accepted (link 0 10 ++ sessions 3 0) 1 7 (10 ∷ 10 ∷ 10 ∷ []) (3 ∷ 3 ∷ 3 ∷ []) (0 ∷ 0 ∷ 0 ∷ []) 29
    -- P6: links 0 of 10 and 1 of 20; sessions 0 and 1 over 0, session 2 over 0 then 1, session 3 over 1
    ∷ accepted
    (link 0 10 ++ link 1 20 ++ session 0 100 0 over0 ++ session 1 100 0 over0 ++ session 2 100 0 (2 ∷ 0 ∷ 1 ∷ replicate 6 255) ++ session 3 100 0 (1 ∷ 1 ∷ replicate 7 255))
    3
    15
    (10 ∷ 10 ∷ 10 ∷ 50 ∷ [])
    (3 ∷ 3 ∷ 3 ∷ 3 ∷ [])
    (0 ∷ 0 ∷ 0 ∷ 1 ∷ [])
    28
    -- P7: link of 10, two sessions, session 0 with maximum 2: 2 and 8
    ∷ accepted (link 0 10 ++ session 0 100 2 over0 ++ session 1 100 0 over0) 1 3 (2 ∷ 8 ∷ []) (1 ∷ 1 ∷ []) (own ∷ 0 ∷ []) 30
    -- P8: the same with maximum 5: 5 (own) and 5 (link 0)
    ∷ accepted (link 0 10 ++ session 0 100 5 over0 ++ session 1 100 0 over0) 1 3 (5 ∷ 5 ∷ []) (1 ∷ 1 ∷ []) (own ∷ 0 ∷ []) 30
    -- P9: link of 1, 32 sessions: 1/32 each
    ∷ accepted (link 0 1 ++ sessions 32 0) 1 4294967295 (replicate 32 1) (replicate 32 32) (replicate 32 0) 0
    -- P10: path length 0: 6
    ∷ refused (link 0 10 ++ session 0 100 0 (0 ∷ replicate 8 255)) 6 6
    -- P11: 9: 6
    ∷ refused (link 0 10 ++ session 0 100 0 (9 ∷ 0 ∷ replicate 7 255)) 6 6
    -- P12: capacity 1,000,000 accepted, 1,000,001: 5
    ∷ accepted (1 ∷ 0 ∷ 0 ∷ 15 ∷ 66 ∷ 64 ∷ []) 1 0 [] [] [] 32
    ∷ refused (1 ∷ 0 ∷ 0 ∷ 15 ∷ 66 ∷ 65 ∷ []) 5 0
    -- P13: link 0 declared twice: 7
    ∷ refused (link 0 10 ++ link 0 10) 7 6
    -- 02, §2: links 0 of 10 and 1 of 4; session 0 over 0 then 1, session 1 over 0: 4 (link 1) and 6 (link 0)
    ∷ accepted (link 0 10 ++ link 1 4 ++ session 0 100 0 (2 ∷ 0 ∷ 1 ∷ replicate 6 255) ++ session 1 100 0 over0) 3 3 (4 ∷ 6 ∷ []) (1 ∷ 1 ∷ []) (1 ∷ 0 ∷ []) 30
    ∷ []

each : (Example → Shown) → List Example → List Shown
each f [] = []
each f (x ∷ xs) = f x ∷ each f xs

-- every example has the outcome that its document gives
examples_right : each (λ x. showing (calculate_of x.input nines nines nines)) examples ≡ each (λ x. x.outcome) examples
unfolding examples each calculate_of done_of results_of written declarations_of declare_of judge_of none_declared path_declared copied own_limit_of all be2 be4 body_at body_of change_at deliver_at differ is_new leave_at link_at links_ok path_ok read_at rest_ok session_at size_at run_from problem_of binding_of bottleneck_or_not none_has_more all_below where_passes by_test says first_of used sum figure1 begin net rounds one_round round_on fix_at lefts counts smallest smaller chosen any values open_all open_at left_at load_at lowest_of gcd_of gcd_in members_from walk has put cut
examples_right = refl
