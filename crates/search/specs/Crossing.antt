-- The sessions of a set that cross a link of a set: the first of them, and all (01, "The direct calculation").
-- Assumes nothing: definitions.
use Rattle.std.specs.Prelude.{List, Option, None, Some, ◌≡◌, ℕ, ◌*◌, ◌+◌, ◌-◌, ◌<◌, ◌^◌, get_or}
use Rattle.std.specs.Int.Bits.{bit_and}
use Rattle.sessions.specs.Set.{cut, has}

-- the byte at hop h of the path of session s: eight for each session
abbrev pub byte_at : List ℕ → ℕ → ℕ → ℕ
byte_at path s h = get_or path (s * 8 + h) 0

-- one of the eight bytes of the path of s is a link of the set
abbrev pub Meets : List ℕ → ℕ → ℕ → Type 0
Meets path links s = (h : ℕ) × (h < 8) × (has (byte_at path s h) links ≡ 1)

-- r is the first session of left that crosses one of the links
pub record IsFirst (path : List ℕ) (left links r : ℕ) : Type 0 where
  pub below : r < 32
  pub member : has r left ≡ 1
  pub hit : Meets path links r
  pub none_before : (s : ℕ) → s < r → has s left ≡ 1 → Meets path links s → ⊥

-- the first session of left that crosses one of the links, or none where none does
abbrev pub FirstAt : List ℕ → ℕ → ℕ → Option ℕ → Type 0
FirstAt path left links None = (s : ℕ) → s < 32 → has s left ≡ 1 → Meets path links s → ⊥
FirstAt path left links (Some r) = IsFirst path left links r

-- r has exactly the sessions of opens that cross one of the links
pub record AllAt (path : List ℕ) (opens links r : ℕ) : Type 0 where
  pub small : r < 4294967296
  pub only : (s : ℕ) → s < 32 → has s r ≡ 1 → (has s opens ≡ 1) × Meets path links s
  pub every : (s : ℕ) → s < 32 → has s opens ≡ 1 → Meets path links s → has s r ≡ 1

-- the sessions of left that come after s: without the s lowest digits, and without s
abbrev pub after_of : ℕ → ℕ → ℕ
after_of left s = cut s (bit_and left ((2 ^ 32 - 1) - (2 ^ s - 1)))
