use Rattle.field.proofs.Primes.{prime-of}
use Rattle.key_equation.proofs.Starting.{solved-at-once}
use Rattle.key_equation.proofs.KeyEquation.solve.Goals as goal

pub returns-then-k-self : goal.returns-then-k-self
returns-then-k-self c =
    let s = c.args.self.now in
    let e = c.agreeing-k.ensures in
    solved-at-once _ (prime-of s.w) _ s.degree _ _ s.points s.values s.lengths s.enough s.f s.through _ e.0 e.1 e.2 c.if-k-self.true
