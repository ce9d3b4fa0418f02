-- Examples of decoding, all computed together: those of the protocol, its trap, the worst cases, and some that it does not have.
use mathlib.Core.Path.{◌≡◌, refl}
use mathlib.Core.Bool.{true, false}
use Rattle.std.specs.Prelude.{Err}
use mathlib.Core.Option.{none, some}
use mathlib.Core.List.{List, [], ◌∷◌, zip_with}
use Prim.Native.Nat.{ℕ, ◌+◌, ◌-◌}
use lib.ListN.{take}
use Rattle.field.specs.Arithmetic.{add, sub, mul, inv, inv_within}
use Rattle.field.specs.Modulus.{modulus, wide_modulus}
use Rattle.interpolation.specs.Interpolation.{interpolate}
use Rattle.lists.specs.Choices.{hide}
use Rattle.trial.specs.Trial.{hits, points_sent, through}
use Rattle.answers.specs.declared.Refusal.TheVariants.{WrongSize, WrongLength}
use Rattle.answers.specs.Fits.{Fitted, decoded}
use Rattle.fit.specs.Fit.{sent, fit}
use Rattle.fit.specs.Opening.{opening_of}
use Rattle.fit.specs.Admitted.{fit_in}

-- The points 1 to n.
abbrev up_to : ℕ → List ℕ
up_to n = take n (1 ∷ 2 ∷ 3 ∷ 4 ∷ 5 ∷ 6 ∷ 7 ∷ 8 ∷ 9 ∷ 10 ∷ 11 ∷ 12 ∷ 13 ∷ 14 ∷ 15 ∷ 16 ∷ [])

-- What a sender writes for a number that is not sent.
abbrev unsent : ℕ
unsent = 65535

-- The last eight of sixteen values of a cubic, all right.
abbrev right : List ℕ
right = 10436 ∷ 14175 ∷ 18716 ∷ 24137 ∷ 30516 ∷ 37931 ∷ 46460 ∷ 56181 ∷ []

pub examples :
    -- M3: 10, 13, 999, 19, 22 opens 7.
    (opening_of modulus 1 (up_to 5) (10 ∷ 13 ∷ 999 ∷ 19 ∷ 22 ∷ []) ≡ some (7 ∷ 3 ∷ []))
    -- M4: 10, 13, 999, 998, 22 does not open.
    × (opening_of modulus 1 (up_to 5) (10 ∷ 13 ∷ 999 ∷ 998 ∷ 22 ∷ []) ≡ none)
    -- M5: all not sent.
    × (opening_of modulus 1 (up_to 5) (unsent ∷ unsent ∷ unsent ∷ unsent ∷ unsent ∷ []) ≡ none)
    -- M6: all zero opens 0.
    × (opening_of modulus 1 (up_to 5) (0 ∷ 0 ∷ 0 ∷ 0 ∷ 0 ∷ []) ≡ some (0 ∷ 0 ∷ []))
    -- Two missing; one, and a lie; three.
    × (opening_of modulus 1 (up_to 5) (10 ∷ 13 ∷ unsent ∷ unsent ∷ 22 ∷ []) ≡ some (7 ∷ 3 ∷ []))
    × (opening_of modulus 1 (up_to 5) (10 ∷ 13 ∷ unsent ∷ 999 ∷ 22 ∷ []) ≡ some (7 ∷ 3 ∷ []))
    × (opening_of modulus 1 (up_to 5) (10 ∷ 13 ∷ unsent ∷ unsent ∷ unsent ∷ []) ≡ none)
    -- M7: 44, 66, 88, 110 repair to 22; M8: the same with 0 for 88.
    × (fit modulus 1 3 (up_to 4) (44 ∷ 66 ∷ 88 ∷ 110 ∷ []) ≡ some (22 ∷ 22 ∷ []))
    × (fit modulus 1 3 (up_to 4) (44 ∷ 66 ∷ 0 ∷ 110 ∷ []) ≡ some (22 ∷ 22 ∷ []))
    -- M8 as a choice of four of five points.
    × (fit modulus 1 3 (up_to 5) (hide unsent (true ∷ true ∷ true ∷ true ∷ false ∷ []) (44 ∷ 66 ∷ 0 ∷ 110 ∷ 17 ∷ [])) ≡ some (22 ∷ 22 ∷ []))
    -- The trap: n = 9, t = 1, two wrong; n would allow it.
    × (opening_of modulus 1 (up_to 9) (10 ∷ 13 ∷ 999 ∷ 998 ∷ 22 ∷ 25 ∷ 28 ∷ 31 ∷ 34 ∷ []) ≡ none)
    -- A number plus the prime is not sent: with it two of five differ, without the other wrong one only it.
    × (fit modulus 1 4 (up_to 5) ((10 + modulus) ∷ 13 ∷ 999 ∷ 19 ∷ 22 ∷ []) ≡ none)
    × (fit modulus 1 4 (up_to 5) ((10 + modulus) ∷ 13 ∷ 16 ∷ 19 ∷ 22 ∷ []) ≡ some (7 ∷ 3 ∷ []))
    -- One not sent and one wrong, with a need of 3.
    × (fit modulus 1 3 (up_to 5) (10 ∷ 13 ∷ unsent ∷ 999 ∷ 22 ∷ []) ≡ some (7 ∷ 3 ∷ []))
    -- Other points, −1 and 0 among them.
    × (fit modulus 1 3 ((modulus - 1) ∷ 100 ∷ 0 ∷ 5 ∷ []) (4 ∷ 307 ∷ 8 ∷ 22 ∷ []) ≡ some (7 ∷ 3 ∷ []))
    -- n = 16, t = 3: four wrong among the first seven, so that all 35 choices fail; and three, so that only the last of them is right.
    × (fit modulus 3 13 (up_to 16) (37 ∷ 167 ∷ 479 ∷ 1041 ∷ 1945 ∷ 3251 ∷ 5059 ∷ 7421 ∷ right) ≡ none)
    × (fit modulus 3 13 (up_to 16) (37 ∷ 169 ∷ 477 ∷ 1041 ∷ 1940 ∷ 3251 ∷ 5052 ∷ 7421 ∷ right) ≡ some (5 ∷ 7 ∷ 11 ∷ 13 ∷ []))
    -- Modulo the wide prime: the same line, −1 among the points; and 65,535 is a number like others.
    × (fit wide_modulus 1 3 ((wide_modulus - 1) ∷ 100 ∷ 0 ∷ 5 ∷ []) (4 ∷ 307 ∷ 8 ∷ 22 ∷ []) ≡ some (7 ∷ 3 ∷ []))
    × (fit wide_modulus 1 4 (up_to 5) (65535 ∷ 65538 ∷ 999 ∷ 65544 ∷ 65547 ∷ []) ≡ some (65532 ∷ 3 ∷ []))
unfolding zip_with fit hits sent points_sent through interpolate add sub mul inv inv_within
examples = (refl, refl, refl, refl, refl, refl, refl, refl, refl, refl, refl, refl, refl, refl, refl, refl, refl, refl, refl)

-- What the code answers: four coefficients, also where values are missing; a refusal for a degree above 3, for lists of two lengths, for
-- 17 points and where fewer than 2t + 1 must agree.
pub answers :
    (fit_in modulus 1 4 (up_to 5) (10 ∷ 13 ∷ 999 ∷ 19 ∷ 22 ∷ []) ≡ decoded (some (7 ∷ 3 ∷ 0 ∷ 0 ∷ [])))
    × (fit_in modulus 1 4 (up_to 5) (10 ∷ 13 ∷ 999 ∷ 998 ∷ 22 ∷ []) ≡ decoded none)
    × (fit_in modulus 1 3 (up_to 5) (10 ∷ 13 ∷ unsent ∷ unsent ∷ 22 ∷ []) ≡ decoded (some (7 ∷ 3 ∷ 0 ∷ 0 ∷ [])))
    × (fit_in modulus 1 4 (up_to 5) (10 ∷ 13 ∷ unsent ∷ unsent ∷ 22 ∷ []) ≡ decoded none)
    × (◌≡◌ {A = Fitted} (fit_in modulus 4 4 (up_to 4) (0 ∷ 0 ∷ 0 ∷ 0 ∷ 0 ∷ [])) (Err WrongSize))
    × (◌≡◌ {A = Fitted} (fit_in modulus 1 4 (up_to 4) (0 ∷ 0 ∷ 0 ∷ 0 ∷ 0 ∷ [])) (Err WrongLength))
    × (◌≡◌ {A = Fitted} (fit_in modulus 1 4 (0 ∷ up_to 16) (0 ∷ up_to 16)) (Err WrongLength))
    × (◌≡◌ {A = Fitted} (fit_in modulus 1 2 (up_to 5) (0 ∷ 0 ∷ 0 ∷ 0 ∷ 0 ∷ [])) (Err WrongLength))
unfolding zip_with fit_in fit hits sent points_sent through interpolate add sub mul inv inv_within
answers = (refl, refl, refl, refl, refl, refl, refl, refl)
