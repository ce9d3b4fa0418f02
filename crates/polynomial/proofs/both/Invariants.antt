-- At place i each sum and each quotient is that of the coefficients from there on.
use Rattle.polynomial.proofs.Together.{Summed}
use Rattle.polynomial.proofs.both.Given as goal

abbrev pub invariant-loop-i : goal.invariant-loop-i
invariant-loop-i l = Summed l.w l.x l.last l.f l.f_quotient l.i l.u × Summed l.w l.x l.last l.g l.g_quotient l.i l.v
