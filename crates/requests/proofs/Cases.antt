-- Known requests, computed from the definitions. Assumes nothing.
use mathlib.Core.Path.{◌≡◌, refl}
use mathlib.Core.List.{[], ◌∷◌, map}
use Rattle.semigroups.specs.Lists.{none, every, last_or}
use Rattle.answers.specs.Answers.{refused, given}
use Rattle.requests.specs.Digits.{is_digit, value_after}
use Rattle.requests.specs.declared.Request.TheVariants.{Headers, Listing}
use Rattle.requests.specs.Request.{well_formed, request_of}

-- the requests "0", "3", "03" and "32" with a line feed, then "33", "99"; an empty input, which is the only one that asks for header lines;
-- a line feed, two, "4" without a line feed, "4" with two, "a", "012"
pub known_requests : map request_of
    ((48 ∷ 10 ∷ []) ∷ (51 ∷ 10 ∷ []) ∷ (48 ∷ 51 ∷ 10 ∷ []) ∷ (51 ∷ 50 ∷ 10 ∷ []) ∷ (51 ∷ 51 ∷ 10 ∷ []) ∷ (57 ∷ 57 ∷ 10 ∷ [])
    ∷ [] ∷ (10 ∷ []) ∷ (10 ∷ 10 ∷ []) ∷ (52 ∷ []) ∷ (52 ∷ 10 ∷ 10 ∷ []) ∷ (97 ∷ 10 ∷ []) ∷ (48 ∷ 49 ∷ 50 ∷ 10 ∷ []) ∷ [])
    ≡ given (Listing 0) ∷ given (Listing 3) ∷ given (Listing 3) ∷ given (Listing 32) ∷ refused 3 ∷ refused 3
    ∷ given Headers ∷ refused 10 ∷ refused 10 ∷ refused 10 ∷ refused 10 ∷ refused 10 ∷ refused 10 ∷ []
unfolding none every last_or is_digit value_after well_formed request_of
known_requests = refl
