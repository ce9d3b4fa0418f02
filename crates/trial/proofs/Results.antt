-- Something is found where an answer says so, and only there.
use mathlib.Core.Path.{◌≡◌, refl, sym, ap, ◌∙◌}
use mathlib.Core.Bool.{true, false}
use mathlib.Core.Option.{Option, none, some}
use mathlib.Core.List.{List}
use Prim.Native.Nat.{ℕ}
use Rattle.std.specs.Prelude.{Option as Answer, is_some}
use Rattle.trial.specs.Results.{result_of}

pub result-found : (o : Option (List ℕ)) (r : Answer (List ℕ)) → r ≡ result_of o → is_some r ≡ true → (f : List ℕ) × (o ≡ some f)
result-found none r e h = let told : is_some (result_of none) ≡ true = ap (λ a. is_some a) (sym e) ∙ h in absurd (cc)
result-found (some f) r e h = (f, refl)

pub result-none : (o : Option (List ℕ)) (r : Answer (List ℕ)) → r ≡ result_of o → is_some r ≡ false → o ≡ none
result-none none r e h = refl
result-none (some f) r e h = let told : is_some (result_of (some f)) ≡ false = ap (λ a. is_some a) (sym e) ∙ h in absurd (cc)
