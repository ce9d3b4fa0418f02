-- What is taken from the buffer after a rendering is the text, and it is written where that is.
use Rattle.std.proofs.Common.{◌≡◌, ℕ, ◌≤◌, List, length, take, drop, ap, ◌∙◌, subst, Option, Result, OnOk}
use Rattle.std.specs.Io.KnownBytes.{Appends, Consumes}
use Rattle.std.proofs.lemmas.Bool.{le-leb}
use Rattle.std.proofs.lemmas.Result.{on_ok_weaker}
use Rattle.std.proofs.Math.Seq.{take-append_seam}
use Rattle.transcript.specs.Transcript.{text, rendering, bytes_written}
use Rattle.answers.specs.Answers.{Writing}

front : (bytes out : List ℕ) → 512 ≤ length out → take (bytes_written (rendering bytes out).1) (rendering bytes out).0 ≡ text bytes
unfolding rendering
front bytes out room = rw (le-leb 512 (length out) room) (take-append_seam (text bytes) (drop (length (text bytes)) out))

pub rendered : (bytes out after shown : List ℕ) (answer : Writing) → 512 ≤ length out → (after, answer) ≡ rendering bytes out
    → shown ≡ take (bytes_written answer) after → shown ≡ text bytes
rendered bytes out after shown answer room e taken =
    taken ∙ ap (λ (p : List ℕ × Writing). take (bytes_written p.1) p.0) e ∙ front bytes out room

pub written : {T E : Type 0} (r : Result T E) (given left held holds : Option (List ℕ)) (bytes shown : List ℕ) → length bytes ≤ 4096
    → Consumes given left bytes → shown ≡ text bytes → OnOk r (Appends held holds shown)
    → OnOk r ((bytes : List ℕ) × (length bytes ≤ 4096) × Consumes given left bytes × Appends held holds (text bytes))
written r given left held holds bytes shown short taken e h =
    on_ok_weaker {Q = (bytes : List ℕ) × (length bytes ≤ 4096) × Consumes given left bytes × Appends held holds (text bytes)}
    r (λ appended. (bytes, short, taken, subst (Appends held holds) e appended)) h
