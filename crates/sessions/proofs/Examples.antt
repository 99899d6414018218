-- The definitions compute, also on the word of all 32 sessions (01, P9).
-- Assumes nothing.
use mathlib.Core.List.{[], ◌∷◌}
use mathlib.Core.Path.{◌≡◌, refl}
use lib.Count.{ones_in, count_trailing_zeros}
use lib.ListN.{length}
use Rattle.sessions.specs.Set.{put, cut, members_from, members, next_of, size_of}

all_size : size_of 4294967295 ≡ 32
unfolding ones_in
all_size = refl

all_members : length (members 4294967295) ≡ 32
unfolding members_from
all_members = refl

first_and_last : members 2147483649 ≡ 0 ∷ 31 ∷ []
unfolding members_from
first_and_last = refl

last_put : put 31 (put 3 0) ≡ 2147483656
unfolding put
last_put = refl

last_next : next_of (cut 3 2147483656) ≡ 31
unfolding cut count_trailing_zeros
last_next = refl
