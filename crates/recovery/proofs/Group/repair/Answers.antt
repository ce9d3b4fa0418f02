-- `recovery::Group::repair` meets its contract: what parties outside the set said is hidden, and the rest is lent to the fit.
use Rattle.std.proofs.Common.{◌-◌, refl, take, sym, ap, ap₂, ◌∙◌, arith}
use Rattle.std.proofs.Math.Seq.{length-take-le}
use borrow.Author.Tests.{leb-true, ltb-true}
use Rattle.field.specs.Modulus.{prime_of}
use Rattle.field.proofs.Primes.{positive}
use Rattle.answers.specs.Fits.{decoded}
use Rattle.fit.specs.Fit.{sent, fit}
use Rattle.fit.specs.Opening.{needed}
use Rattle.parties.proofs.Parties.{sizes-facts}
use Rattle.recovery.proofs.Fitting.{passed, repair-admitted}
use Rattle.recovery.proofs.Deciding.{repair-needed}
use Rattle.recovery.proofs.Group.repair.Goals as goal

pub fit-requires : goal.fit-requires
fit-requires c =
    let f = sizes-facts _ _ (passed _ c.sizes.ensures c.refuse_unless.ensures c.in_ok-refuse_unless.was) in
    let many = leb-true _ c.count-count.result (passed _ refl c.refuse_unless-3.ensures c.in_ok-refuse_unless-3.was) in
    (f.3, f.1, omega (arith, many), length-take-le _ c.heard_from-values.result (omega (arith, f.3)))

pub returns : goal.returns
returns c =
    let g = c.args.self.now in
    let p = prime_of g.width in
    let T = take g.n g.table in
    let sized = passed _ c.sizes.ensures c.refuse_unless.ensures c.in_ok-refuse_unless.was in
    let within = ltb-true _ _ (passed _ c.within.ensures c.refuse_unless-2.ensures c.in_ok-refuse_unless-2.was) in
    let many = leb-true _ c.count-count.result (passed _ refl c.refuse_unless-3.ensures c.in_ok-refuse_unless-3.was) in
    c.fit.ensures
    ∙ ap₂ (λ m ys. decoded (fit p g.t (needed g.t m (sent p ys)) T ys))
    (ap (λ k. k - g.t) c.count-count.ensures) c.heard_from-values.ensures
    ∙ ap decoded (repair-needed p g.n g.t T c.args.set c.args.heard (positive g.width) within)
    ∙ sym (repair-admitted p g.n g.t T c.args.set c.args.heard sized within (omega (arith, c.count-count.ensures, many)))
