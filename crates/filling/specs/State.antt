-- How far the rounds are, as the code keeps it in arrays (01, "The direct calculation").
-- Assumes nothing: definitions.
use Rattle.std.specs.Prelude.{List, ℕ}
use Rattle.filling.specs.declared.Links.{Links}

-- the denominator, the sessions not yet fixed, the links, and the rates
pub record Fill : Type 0 where
  pub den : ℕ
  pub opens : ℕ
  pub links : Links
  pub rate : List ℕ

abbrev pub fill_of : ℕ → ℕ → Links → List ℕ → Fill
fill_of den opens links rate = record { den = den; opens = opens; links = links; rate = rate }
