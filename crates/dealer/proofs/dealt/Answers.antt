use Rattle.std.proofs.Common.{◌≡◌, sym, ap, ap₂, ◌∙◌, ℕ, ◌+◌, length, List}
use Rattle.std.proofs.lemmas.Result.{err_from_is_err_and}
use Rattle.field.specs.Modulus.{prime_of}
use Rattle.answers.specs.Refusals.{Admission, lowest}
use Rattle.dealer.specs.Desk.{deals, content_tests}
use Rattle.dealer.proofs.Desk.{lengths-fit, lengths-room, to_write, desk-by-content, desk-by-bad-content}
use Rattle.dealer.proofs.Writing.{lengths}
use Rattle.dealer.proofs.dealt.Goals as goal

pub lent-coefficients-requires : goal.lent-coefficients-requires
lent-coefficients-requires g c = let fit = lengths-fit _ _ _ _ _ c.requires in fit.2

-- What the tests of the contents find, of the numbers that the lists hold.
contents : (p : ℕ) {q : ℕ} (n : ℕ) (T : List ℕ) {F : List ℕ} (given : List ℕ) {r a : Admission} → p ≡ q → given ≡ F
    → r ≡ lowest (content_tests p n T given) → r ≡ a → lowest (content_tests q n T F) ≡ a
contents p n T given e f h k = ap₂ (λ q F. lowest (content_tests q n T F)) (sym e) (sym f) ∙ sym h ∙ k

pub returns-in_err-content_admission : goal.returns-in_err-content_admission
returns-in_err-content_admission g c =
    let a = c.args in
    let value = g.N.Number.value in
    let exit = err_from_is_err_and c.from_residual.result c.from_residual.ensures.1 in
    rw (exit.1, exit.2)
    (desk-by-bad-content _ a.n a.t a.table.now _ _ (lengths value a.n a.t a.list.now a.out.now (length a.table.now) c.requires) _
    (contents _ a.n a.table.now _ (ap prime_of c.WIDTH.ensures) c.lent-coefficients.ensures c.content_admission.ensures
    c.in_err-content_admission.was))

pub invariant_of-dealing : goal.invariant_of-dealing
invariant_of-dealing g c =
    let a = c.args in
    let value = g.N.Number.value in
    let same = c.lent-coefficients.ensures in
    let fine = to_write _ a.n a.t a.table.now _ _ (lengths value a.n a.t a.list.now a.out.now (length a.table.now) c.requires)
    (contents _ a.n a.table.now _ (ap prime_of (c.WIDTH.ensures ∙ sym c.WIDTH-2.ensures)) same c.content_admission.ensures
    c.in_ok-content_admission.was) in
    record { few = fine.0.1; square = ap length same ∙ fine.0.2; points = fine.1.0; coefficients = rw same fine.1.1 }

pub write_deals-requires : goal.write_deals-requires
write_deals-requires g c =
    let a = c.args in
    let room = lengths-room a.n a.t _ _ _ c.requires in
    (c.WIDTH-2.ensures, (lengths-fit _ _ _ _ _ c.requires).0, room)

pub returns : goal.returns
returns g c =
    let a = c.args in
    let value = g.N.Number.value in
    let same = c.lent-coefficients.ensures in
    desk-by-content _ a.n a.t a.table.now _ _ (lengths value a.n a.t a.list.now a.out.now (length a.table.now) c.requires) _
    (contents _ a.n a.table.now _ (ap prime_of c.WIDTH.ensures) same c.content_admission.ensures c.in_ok-content_admission.was)
    (c.write_deals.ensures ∙ ap₂ (λ w F. deals (prime_of w) (a.t + 1) a.table.now F a.n) c.WIDTH-2.ensures same)
